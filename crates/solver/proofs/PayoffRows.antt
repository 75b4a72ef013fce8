-- The payoffs of a terminal, one row at a time.
use Rattle.std.proofs.Common.{◌≡◌, ℕ, ◌+◌, ◌<◌, List, [], ◌∷◌, ◌++◌, length, map, take, slice_set, Float, refl, ap, add-one}
use lib.Seq.{take-suc-set}
use Rattle.number.specs.Number.{Number}
use Rattle.number.specs.Meaning.{meaning}
use Rattle.rows.specs.Store.{rows_from}
use Rattle.rows.proofs.StoreLaws.{rows_append}

pub map_append : {A B : Type 0} (f : A → B) (xs ys : List A) → map f (xs ++ ys) ≡ map f xs ++ map f ys
map_append f [] ys = refl
map_append f (x ∷ xs) ys = ap (λ r. f x ∷ r) (map_append f xs ys)

pub payoff_next : (row : ℕ → Number) (first j : ℕ) (values : List Float) (v : Float) → j < length values → map meaning (take j values) ≡ rows_from row first j → meaning v ≡ row (first + j)
    → map meaning (take (j + 1) (slice_set values j v)) ≡ rows_from row first (j + 1)
unfolding rows_from
payoff_next row first j values v h read next =
    rw (rows_append row first j 1, add-one, take-suc-set values j v h, map_append, read, next) refl
