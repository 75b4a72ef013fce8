-- What is kept stays right with one right answer more, and an answer's height is one more than those of the answers that it uses.
use Rattle.std.proofs.Common.{◌≡◌, ℕ, ◌+◌, ◌-◌, ◌≤◌, List, Option, Some, Result, Ok, slice_get, slice_set, arith, inl, inr}
use Rattle.std.proofs.lemmas.Bool.{cases_eq}
use Rattle.std.proofs.lemmas.Grind.{common_steps}
use Rattle.std.proofs.lemmas.Option.{slice_get_cases}
use Rattle.memo.specs.declared.Kept.{Kept}
use Rattle.memo.specs.Kept.{IsKept, IsRight, Answers, IsMemo, Stays}

module _ {S A E : Type 0} (answer : ℕ → ℕ → Result S E) (told : A → S) where
  -- what holds with each depth from `deepest` on for the nodes that are used holds with one more for the node
  pub answers : (e deepest left : ℕ) (a : A) → deepest ≤ left → ((d : ℕ) → deepest ≤ d → answer (d + 1) e ≡ Ok (told a))
      → Answers answer told (left + 1) e (record { height = deepest + 1; answer = a })
  answers e deepest left a low right = record { low = omega arith; is_right = record { right = λ depth h. grind (arith, right (depth - 1)) } }

  pub memo_with : (node : ℕ → ℕ) (rows : List (Option (Kept A))) (row : ℕ) (kept : Kept A) → IsMemo answer told node rows → IsRight answer told (node row) kept
      → IsMemo answer told node (slice_set rows row (Some kept))
  memo_with node rows row kept memo right = grind (arith, common_steps, cases_eq, slice_get_cases)

-- what a row keeps has the property
pub kept_is : {A : Type 0} {rows : List (Option (Kept A))} {holds : Kept A → Type 0} {row : ℕ} {k : Kept A} → IsKept rows holds row → slice_get rows row ≡ Some (Some k) → holds k
kept_is {A} {rows} {holds} {row} {k} h there = let here = h.here in let same : h.kept ≡ k = cc in rw (← same) h.is

-- ---- what is kept stays
module _ {A : Type 0} where
  pub stays_same : (rows : List (Option (Kept A))) → Stays rows rows
  stays_same rows = record { stays = λ i k h. (k, h) }

  pub stays_then : (a b c : List (Option (Kept A))) → Stays a b → Stays b c → Stays a c
  stays_then a b c x y = record { stays = λ i k h. let z = x.stays i k h in y.stays i z.0 z.1 }

  pub stays_with : (rows : List (Option (Kept A))) (row : ℕ) (kept : Kept A) → Stays rows (slice_set rows row (Some kept))
  stays_with rows row kept = record {
    stays = λ i k h. elim (cases_eq i row) [
      | inl e ↦ (kept, grind (arith, common_steps, slice_get_cases))
      | inr e ↦ (k, grind (arith, common_steps, slice_get_cases))
    ];
  }

pub ruleset staying = (stays_same, stays_then, stays_with)
