-- The words of a path: its payoffs one after the other, and its record from its parts.
use Rattle.std.proofs.Common.{◌≡◌, ℕ, ◌+◌, ◌<◌, ◌≤◌, List, [], ◌∷◌, ◌++◌, map, length, get_or, drop, drop_of_length-le, refl}
use Rattle.std.proofs.lemmas.List.{drop_more}
use Rattle.number.specs.Number.{to_bits}
use Rattle.rows.proofs.StoreLaws.{rows_next, rows_end, length_rows}
use Rattle.layout.specs.Layout.{row_count}
use Rattle.layout.proofs.LayoutLaws.{rows_most}
use Rattle.layout.specs.declared.section.Section.TheVariants.{Payoffs}
use Rattle.sheet.specs.declared.Terminal.{Terminal}
use Rattle.sheet.specs.Meaning.{payoff_row, Opens}
use Rattle.sheet.specs.Found.{terminal_in}
use Rattle.sheet.proofs.OpeningLaws.{opens_layout}
use Rattle.path_counts.specs.Paths.{record_of}
use Rattle.paths.specs.Writing.{path_to}

pub few_payoffs : (s : List ℕ) → Opens s → row_count s Payoffs ≤ 4096
few_payoffs s ok = rows_most s (opens_layout s ok) Payoffs

-- the labels that are left, one step on
pub next_label : (xs : List ℕ) (j : ℕ) → j < length xs → drop j xs ≡ get_or xs j 0 ∷ drop (j + 1) xs
next_label xs j l = drop_more xs j 0 l

pub ruleset label_steps = (next_label, drop_of_length-le)

-- a record is three words, the labels and the bits
pub record_parts : (s : List ℕ) (t : Terminal) (labels : List ℕ)
    → record_of (path_to s t labels) ≡ (t.entity ∷ t.count ∷ length labels ∷ []) ++ (labels ++ map to_bits (terminal_in s t).payoffs)
unfolding record_of
record_parts s t labels = rw (length_rows (payoff_row s) t.first t.count) refl

pub ruleset payoff_steps = (rows_next, rows_end, few_payoffs)
