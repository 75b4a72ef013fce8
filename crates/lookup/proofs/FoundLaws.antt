-- The lookup of an entity in the rows of any section: what a `find_row` found is what the store's `get` gives.
use Prim.Native.Nat.{ℕ, ◌<◌}
use mathlib.Core.Path.{◌≡◌, refl, sym, ap, ◌∙◌}
use mathlib.Core.List.{List}
use Rattle.std.specs.Prelude.{Option, None, Some, option_map, IfSome}
use Rattle.rows.specs.Rows.{entity_at, find_row}
use Rattle.rows.specs.Store.{all_rows, get}
use Rattle.rows.proofs.RowLaws.{found_in}
use Rattle.rows.proofs.StoreLaws.{get_found, get_missing}
use Rattle.layout.specs.declared.section.Section.{Section}
use Rattle.layout.specs.Layout.{width, section_of, row_count, field}

module _ (s : List ℕ) (k : Section) (e : ℕ) (f : Option ℕ) (found : f ≡ find_row (width s k) (section_of s k) (row_count s k) e) where
  -- a row that was found is one of the section's
  pub row_found : (i : ℕ) → f ≡ Some i → i < row_count s k
  row_found i p = (found_in (width s k) (section_of s k) (row_count s k) e i (sym found ∙ p)).0

  module _ {R : Type 0} (row : ℕ → R) (entity : R → ℕ) (named : (i : ℕ) → entity (row i) ≡ field s k i 0) where
    named_at : (i : ℕ) → entity (row i) ≡ entity_at (width s k) (section_of s k) i
    unfolding field
    named_at i = named i

    pub lookup_found : (i : ℕ) → f ≡ Some i → get entity e (all_rows row (row_count s k)) ≡ Some (row i)
    lookup_found i p = get_found (width s k) (section_of s k) row entity named_at (row_count s k) e i (sym (p) ∙ found)

    pub lookup_missing : f ≡ None → get entity e (all_rows row (row_count s k)) ≡ None
    lookup_missing p = get_missing (width s k) (section_of s k) row entity named_at (row_count s k) e (sym (p) ∙ found)

-- the lookup of an entity is the row that the search found
pub lookup_row : {R : Type 0} (s : List ℕ) (k : Section) (e : ℕ) (row : ℕ → R) (entity : R → ℕ) → ((i : ℕ) → entity (row i) ≡ field s k i 0)
    → get entity e (all_rows row (row_count s k)) ≡ option_map row (find_row (width s k) (section_of s k) (row_count s k) e)
lookup_row s k e row entity named = go (find_row (width s k) (section_of s k) (row_count s k) e) refl
  where
    go : (f : Option ℕ) → f ≡ find_row (width s k) (section_of s k) (row_count s k) e → get entity e (all_rows row (row_count s k)) ≡ option_map row (find_row (width s k) (section_of s k) (row_count s k) e)
    go None found = lookup_missing s k e None found row entity named refl ∙ ap (option_map row) found
    go (Some i) found = lookup_found s k e (Some i) found row entity named i refl ∙ ap (option_map row) found

-- what the search found is a row
pub row_within : (s : List ℕ) (k : Section) (e : ℕ) (f : Option ℕ) → f ≡ find_row (width s k) (section_of s k) (row_count s k) e → IfSome f (λ i. i < row_count s k)
row_within s k e None found = tt
row_within s k e (Some i) found = row_found s k e (Some i) found i refl
