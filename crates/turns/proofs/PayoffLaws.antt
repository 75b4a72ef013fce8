-- Laws of payoffs: one of them, products, sums, and whether all are in range.
use Rattle.std.proofs.Common.{◌≡◌, ℕ, zero, suc, ◌+◌, ◌<◌, ◌≤◌, Bool, true, false, ◌&&◌, List, [], ◌∷◌, ◌++◌, length, map, take, drop, get_or, Some, Ok, Err, is_some, slice_set, refl, sym, ap, ◌∙◌, arith, add-one, append-nil, Float}
use mathlib.Core.List.{zip_with}
use lib.ListN.{length-map, drop_of_length-le}
use lib.Seq.{take_all, drop-cons, length-take-le}
use borrow.Author.Tests.{eq-eqb, ne_eqb}
use Rattle.answer.specs.Checks.{after}
use Rattle.answer.specs.declared.Refusal.TheVariants.{InconsistentChancePayoffCount}
use Rattle.number.specs.Number.{Number, plus, times, is_finite}
use Rattle.number.specs.Meaning.{meaning}
use Rattle.number.specs.Answers.{finite_only, weighted}
use Rattle.number.specs.declared.Weighted.{Weighted}
use Rattle.number.specs.declared.Weighted.TheVariants.{Finite, OutOfRange}
use Rattle.backward_induction.specs.Solve as Solve
use Rattle.backward_induction.specs.Solve.{products, all_finite, added}
use Rattle.backward_induction.specs.Turns.{added_to}
use Rattle.turns.specs.declared.payoffs.Payoffs.{Payoffs}
use Rattle.turns.specs.Payoffs.{payoffs_of}

pub map_take : {A B : Type 0} (f : A → B) (n : ℕ) (l : List A) → map f (take n l) ≡ take n (map f l)
map_take f zero l = refl
map_take f (suc n) [] = refl
map_take f (suc n) (x ∷ l) = ap (λ r. f x ∷ r) (map_take f n l)

pub take_zip_with : {A B C : Type 0} (f : A → B → C) (k : ℕ) (xs : List A) (ys : List B) → take k (zip_with f xs ys) ≡ zip_with f (take k xs) (take k ys)
unfolding zip_with
take_zip_with f zero xs ys = refl
take_zip_with f (suc k) [] ys = refl
take_zip_with f (suc k) (x ∷ xs) [] = refl
take_zip_with f (suc k) (x ∷ xs) (y ∷ ys) = ap (λ r. f x y ∷ r) (take_zip_with f k xs ys)

-- ---- the values that a loop made of all
module _ (p : Number) where
  abbrev weigh : Float → Number
  weigh v = times p (meaning v)

  front : (old new : List Float) (n : ℕ) → map weigh old ≡ map meaning new → map meaning (take n new) ≡ products p (map meaning (take n old))
  unfolding products
  front old new zero h = refl
  front [] [] (suc n) h = refl
  front [] (y ∷ new) (suc n) h = absurd cc
  front (x ∷ old) [] (suc n) h = absurd cc
  front (x ∷ old) (y ∷ new) (suc n) h =
      let here : times p (meaning x) ≡ meaning y = cc in
      let there : map weigh old ≡ map meaning new = cc in
      let rest = front old new n there in
      cc

  -- of the products the first n
  pub products_made : (old new : List Float) (n i : ℕ) → length new ≤ i → map weigh old ≡ map meaning (take i new) ++ map weigh (drop i new)
      → map meaning (take n new) ≡ products p (map meaning (take n old))
  products_made old new n i all made = front old new n (made ∙ rw (take_all i new all, drop_of_length-le new all, append-nil) refl)

-- of the sums the first n
pub sums_made : (old more new : List Float) (n i : ℕ) → length new ≤ i
    → zip_with plus (map meaning old) (map meaning more) ≡ map meaning (take i new) ++ zip_with plus (map meaning (drop i new)) (map meaning (drop i more))
    → map meaning (take n new) ≡ zip_with plus (map meaning (take n old)) (map meaning (take n more))
unfolding zip_with
sums_made old more new n i all made =
    let whole : zip_with plus (map meaning old) (map meaning more) ≡ map meaning new = made ∙ rw (take_all i new all, drop_of_length-le new all, append-nil) refl in
    map_take meaning n new ∙ ap (take n) (sym whole) ∙ take_zip_with plus n (map meaning old) (map meaning more) ∙ rw (map_take meaning n old, map_take meaning n more) refl

-- one sum more
sums_suc : (xs more : List Float) (i : ℕ) (v x y : Float) → i < length xs → i < length more → meaning v ≡ plus (meaning (get_or xs i x)) (meaning (get_or more i y))
    → map meaning (take i xs) ++ zip_with plus (map meaning (drop i xs)) (map meaning (drop i more))
    ≡ map meaning (take (suc i) (slice_set xs i v)) ++ zip_with plus (map meaning (drop (suc i) (slice_set xs i v))) (map meaning (drop (suc i) more))
unfolding zip_with
sums_suc [] more i v x y h k e = absurd (omega arith)
sums_suc (a ∷ xs) [] i v x y h k e = absurd (omega arith)
sums_suc (a ∷ xs) (b ∷ more) zero v x y h k e = rw e refl
sums_suc (a ∷ xs) (b ∷ more) (suc i) v x y h k e = ap (λ r. meaning a ∷ r) (sums_suc xs more i v x y (omega arith) (omega arith) e)

pub sums_next : (xs more : List Float) (i : ℕ) (v x y : Float) → i < length xs → i < length more → meaning v ≡ plus (meaning (get_or xs i x)) (meaning (get_or more i y))
    → map meaning (take i xs) ++ zip_with plus (map meaning (drop i xs)) (map meaning (drop i more))
    ≡ map meaning (take (i + 1) (slice_set xs i v)) ++ zip_with plus (map meaning (drop (i + 1) (slice_set xs i v))) (map meaning (drop (i + 1) more))
sums_next xs more i v x y h k e = rw add-one (sums_suc xs more i v x y h k e)

-- ---- whether all are in range
finite_is : (n : Number) (r : Weighted) → weighted r ≡ finite_only n → is_finite n ≡ is_some (weighted r)
unfolding finite_only
finite_is (Number.finite s a) r e = rw e refl
finite_is (Number.infinite s) r e = rw e refl
finite_is Number.nan r e = rw e refl

module _ (all : Bool) (xs : List Float) (i : ℕ) (d : Float) (left : all ≡ all_finite (map meaning (drop i xs))) where
  pub range_end : length xs ≤ i → true ≡ all
  unfolding all_finite
  range_end h = sym (left ∙ rw (drop_of_length-le xs h) refl)

  module _ (here : i < length xs) (r : Weighted) (told : weighted r ≡ finite_only (meaning (get_or xs i d))) where
    next : all ≡ (is_some (weighted r) && all_finite (map meaning (drop (suc i) xs)))
    unfolding all_finite
    next = left ∙ rw (drop-cons xs i d here) (ap (λ b. b && all_finite (map meaning (drop (suc i) xs))) (finite_is (meaning (get_or xs i d)) r told))

    pub range_stops : r ≡ OutOfRange → false ≡ all
    range_stops e = sym (next ∙ rw e refl)

    pub range_goes : (x : Float) → r ≡ Finite x → all ≡ all_finite (map meaning (drop (i + 1) xs))
    range_goes x e = rw add-one (next ∙ rw e refl)

-- ---- one outcome more
module _ (e : ℕ) (sums payoffs : Payoffs) (p : Number) (long : length sums.values ≡ 8) (long' : length payoffs.values ≡ 8) where
  count : (q : Payoffs) → length q.values ≡ 8 → length (payoffs_of q) ≡ q.count
  count q h = let few = q.few in length-map (take q.count q.values) meaning ∙ length-take-le q.count q.values (omega arith)

  pub added_refused : (payoffs.count ≡ sums.count → ⊥) → Err (InconsistentChancePayoffCount e sums.count payoffs.count) ≡ added_to e (Some (payoffs_of sums)) p (payoffs_of payoffs)
  unfolding added after
  added_refused h = rw (count sums long, count payoffs long', ne_eqb payoffs.count sums.count h) refl

  pub added_done : payoffs.count ≡ sums.count → (products more : Payoffs) → payoffs_of products ≡ Solve.products p (payoffs_of payoffs)
      → payoffs_of more ≡ zip_with plus (payoffs_of sums) (payoffs_of products) → Ok (payoffs_of more) ≡ added_to e (Some (payoffs_of sums)) p (payoffs_of payoffs)
  unfolding added after
  added_done h products more made all = rw (count sums long, count payoffs long', eq-eqb payoffs.count sums.count h, all, made) refl
