-- Laws of chains of checks: what each shows where all pass, and what a `for` with `?` over checks asks for.
use Rattle.std.proofs.Common.{◌≡◌, ℕ, zero, suc, ◌+◌, ◌<◌, ◌≤◌, ◌∙◌, refl, sym, ap, arith, add-one, inl, inr, Bool, true, false, List, [], ◌∷◌, ◌++◌, drop, length, get_or}
use mathlib.Core.List.Memᴰ
use mathlib.Core.List.{Memᴰ}
use mathlib.Core.Logic.{⊎_elim}
use Rattle.std.specs.Prelude.{Result, Ok, Err}
use Rattle.std.proofs.lemmas.Bool.{cases_lt}
use Rattle.answer.specs.Checks.{after, ◌>>◌, ensure, each, each_in}

-- ---- one after the other
module _ {E : Type 0} where
  pub passed_left : (r s : Result Unit E) → (r >> s) ≡ Ok tt → r ≡ Ok tt
  unfolding after
  passed_left (Ok x) s p = refl
  passed_left (Err e) s p = absurd cc

  pub passed_right : (r s : Result Unit E) → (r >> s) ≡ Ok tt → s ≡ Ok tt
  unfolding after
  passed_right (Ok x) s p = p
  passed_right (Err e) s p = absurd cc

  pub then_pass : (r : Result Unit E) → (r >> Ok tt) ≡ r
  unfolding after
  then_pass (Ok x) = refl
  then_pass (Err e) = refl

  pub then_assoc : (r s t : Result Unit E) → ((r >> s) >> t) ≡ (r >> (s >> t))
  unfolding after
  then_assoc (Ok x) s t = refl
  then_assoc (Err e) s t = refl

  -- a test that passed held
  pub ensured : (t : Bool) (e : E) → ensure t e ≡ Ok tt → t ≡ true
  ensured true e p = refl
  ensured false e p = absurd cc

-- ---- by number
module _ {E : Type 0} (check : ℕ → Result Unit E) where
  pub each-none : each 0 check ≡ Ok tt
  unfolding each
  each-none = refl

  pub each-more : (i : ℕ) → each i check ≡ Ok tt → check i ≡ Ok tt → each (i + 1) check ≡ Ok tt
  unfolding each after
  each-more i before here = rw (add-one, before) here

  -- the first refusal is that of the whole
  pub each-stops : (n i : ℕ) (e : E) → i < n → each i check ≡ Ok tt → check i ≡ Err e → each n check ≡ Err e
  unfolding each after
  each-stops zero i e below before here = absurd (omega arith)
  each-stops (suc n) i e below before here =
      elim (cases_lt i n) [
        | inl earlier ↦ rw (each-stops n i e earlier before here) refl
        | inr last ↦ let same : n ≡ i = omega arith in rw (same, before) here
      ]

  -- where all pass, each does
  pub each_at : (n i : ℕ) → each n check ≡ Ok tt → i < n → check i ≡ Ok tt
  unfolding each
  each_at zero i p l = absurd (omega arith)
  each_at (suc n) i p l =
      elim (cases_lt i n) [
        | inl earlier ↦ each_at n i (passed_left (each n check) (check n) p) earlier
        | inr last ↦ let same : i ≡ n = omega arith in rw same (passed_right (each n check) (check n) p)
      ]

-- What a `for` with `?` over checks asks for.
pub ruleset every_check = (each-none, each-more, each-stops)

pub each_passes : {E : Type 0} (f : ℕ → Result Unit E) (n : ℕ) → ((i : ℕ) → i < n → f i ≡ Ok tt) → each n f ≡ Ok tt
unfolding each after
each_passes f zero h = refl
each_passes f (suc n) h = rw (each_passes f n (λ i l. h i (omega arith))) (h n (omega arith))

pub each_agrees : {E : Type 0} (f g : ℕ → Result Unit E) (n : ℕ) → ((i : ℕ) → i < n → f i ≡ g i) → each n f ≡ each n g
unfolding each
each_agrees f g zero h = refl
each_agrees f g (suc n) h = rw (each_agrees f g n (λ i l. h i (omega arith)), h n (omega arith))

-- a refusal of the first m is one of more
pub each_stays : {E : Type 0} (f : ℕ → Result Unit E) (m n : ℕ) (e : E) → m ≤ n → each m f ≡ Err e → each n f ≡ Err e
unfolding each after
each_stays f m zero e l p = let same : m ≡ 0 = omega arith in rw same at p
each_stays f m (suc n) e l p =
    elim (cases_lt m (suc n)) [
      | inl earlier ↦ rw (each_stays f m n e (omega arith) p) refl
      | inr last ↦ let same : m ≡ suc n = omega arith in rw same at p
    ]

-- ---- by element
module _ {A E : Type 0} (check : A → Result Unit E) where
  -- the elements from place i on, as a loop has them left
  pub each_in-end : (xs : List A) (i : ℕ) → length xs ≤ i → each_in check (drop i xs) ≡ Ok tt
  unfolding each_in
  each_in-end [] zero h = refl
  each_in-end [] (suc i) h = refl
  each_in-end (x ∷ xs) zero h = absurd (omega arith)
  each_in-end (x ∷ xs) (suc i) h = each_in-end xs i (omega arith)

  pub each_in-step : (xs : List A) (i : ℕ) (d : A) → i < length xs → check (get_or xs i d) ≡ Ok tt → each_in check (drop i xs) ≡ each_in check (drop (i + 1) xs)
  unfolding each_in after
  each_in-step [] i d h e = absurd (omega arith)
  each_in-step (x ∷ xs) zero d h e = rw e refl
  each_in-step (x ∷ xs) (suc i) d h e = rw add-one (each_in-step xs i d (omega arith) e ∙ rw add-one refl)

  pub each_in-stops : (xs : List A) (i : ℕ) (d : A) (error : E) → i < length xs → check (get_or xs i d) ≡ Err error → each_in check (drop i xs) ≡ Err error
  unfolding each_in after
  each_in-stops [] i d error h e = absurd (omega arith)
  each_in-stops (x ∷ xs) zero d error h e = rw e refl
  each_in-stops (x ∷ xs) (suc i) d error h e = each_in-stops xs i d error (omega arith) e

  pub each_in-append : (xs ys : List A) → each_in check (xs ++ ys) ≡ (each_in check xs >> each_in check ys)
  unfolding each_in after
  each_in-append [] ys = refl
  each_in-append (x ∷ xs) ys = ap (λ r. check x >> r) (each_in-append xs ys) ∙ sym (then_assoc (check x) _ _)

  pub each_in_at : (xs : List A) → each_in check xs ≡ Ok tt → (x : A) → Memᴰ x xs → check x ≡ Ok tt
  unfolding each_in
  each_in_at [] p x m = absurd (Memᴰ.not-nil m)
  each_in_at (y ∷ ys) p x m =
      ⊎_elim
      (λ (e : x ≡ y). ap check e ∙ passed_left (check y) _ p)
      (λ (k : Memᴰ x ys). each_in_at ys (passed_right (check y) _ p) x k)
      (Memᴰ.cases_cons m)

-- What a `for` with `?` over the elements of a list asks for.
pub ruleset every_element = (each_in-end, each_in-step, each_in-stops)
