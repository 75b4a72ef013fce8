-- What is kept of the rows from one on: what that row gives, and what is kept of the rows after it.
use Rattle.std.proofs.Common.{◌≡◌, ℕ, ◌+◌, ◌<◌, ◌≤◌, refl, []}
use Rattle.std.specs.Prelude.{Option}
use Rattle.std.specs.List.{cons_option}
use Rattle.rows.proofs.StoreLaws.{rows_next, rows_end}
use Rattle.set_faults.specs.Words.{kept_from}

module _ {R : Type 0} (f : R → Option ℕ) (row : ℕ → R) (n i : ℕ) where
  pub kept_next : i < n → kept_from f row n i ≡ cons_option (f (row i)) (kept_from f row n (i + 1))
  unfolding kept_from
  kept_next l = rw (rows_next row i n l) refl

  pub kept_end : n ≤ i → kept_from f row n i ≡ []
  unfolding kept_from
  kept_end l = rw (rows_end row i n l) refl

pub ruleset kept_rows = (kept_next, kept_end)
