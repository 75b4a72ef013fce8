-- The first refusal of a sheet, from `SheetLength` to `NonFiniteUtility`, in the order in which they are told. Definitions only.
use Rattle.std.specs.Prelude.{ℕ, zero, suc, ◌+◌, ◌≤◌, ◌<◌, ◌≡◌, List, [], ◌∷◌, Bool, true, false, not, ◌&&◌, ltb, eqb, ◌==◌, Result, Ok}
use Rattle.answer.specs.declared.Refusal.{Refusal}
use Rattle.answer.specs.declared.Refusal.TheVariants.{Row}
use Rattle.answer.specs.Checks.{◌>>◌, ensure, each, each_in}
use Rattle.layout.specs.declared.section.Section.{Section}
use Rattle.layout.specs.declared.section.Section.TheVariants.{Nodes, Children, Actions, Chances, Transitions, Terminals, Payoffs, Sets, Labels, Text}
use Rattle.layout.specs.Section.{number, has_entity}
use Rattle.layout.specs.Layout.{width, layout_check, section_of, row_count, field}
use Rattle.rows.specs.Rows.{repeated}
use Rattle.opening.specs.RowChecks.{fields_check}

-- a row: the repeated entity, then its other fields
unfoldable pub row_check : List ℕ → Section → ℕ → Result Unit Refusal
row_check s k i = ensure (not (has_entity k && repeated (width s k) (section_of s k) i)) (Row (number k) i) >> fields_check s k i

-- how many payoff rows the terminals above row i have, which is where those of row i start
unfoldable pub payoff_start : List ℕ → ℕ → ℕ
payoff_start s zero = 0
payoff_start s (suc i) = payoff_start s i + field s Terminals i 4

-- the terminals' payoff counts add to the payoff rows
unfoldable pub total_check : List ℕ → Result Unit Refusal
total_check s = ensure (payoff_start s (row_count s Terminals) == row_count s Payoffs) (Row (number Terminals) (row_count s Terminals))

-- what is checked of a section as a whole: after the last terminal the total
abbrev pub whole_check : List ℕ → Section → Result Unit Refusal
whole_check s Terminals = total_check s
whole_check s _ = Ok tt

-- the rows of a section upward, and then the whole
unfoldable pub rows_check : List ℕ → Section → Result Unit Refusal
rows_check s k = each (row_count s k) (row_check s k) >> whole_check s k

-- labels and text come before the sections that use them
abbrev pub check_order : List Section
check_order = Labels ∷ Text ∷ Nodes ∷ Children ∷ Actions ∷ Chances ∷ Transitions ∷ Terminals ∷ Payoffs ∷ Sets ∷ []

-- the layout, then the rows
unfoldable pub sheet_check : List ℕ → Result Unit Refusal
sheet_check s = layout_check s >> each_in (rows_check s) check_order

-- ---- words of the contracts

-- whether the rows of the section of that number name an entity each; a number that no section has gives false
unfoldable pub numbered_has_entity : ℕ → Bool
numbered_has_entity k = ltb k 8 && not (eqb k 6)

-- r is the first row of a section that is refused for its entity, or the number of rows where none is
pub record Unrepeated (s : List ℕ) (k : Section) (r : ℕ) : Type 0 where
  pub within : r ≤ row_count s k
  pub new : (i : ℕ) → i < r → has_entity k && repeated (width s k) (section_of s k) i ≡ false
  pub repeats : r < row_count s k → has_entity k && repeated (width s k) (section_of s k) r ≡ true
