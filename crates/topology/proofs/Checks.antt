-- Chains of checks: when two are the same, and when each of a list passes.
use Rattle.std.proofs.Common.{◌≡◌, List, [], ◌∷◌, refl}
use Rattle.std.specs.Prelude.{Result, Ok, Err}
use mathlib.Core.List.{Memᴰ}
use Rattle.answer.specs.Checks.{after, ◌>>◌, each_in}

module _ {E : Type 0} where
  -- what follows counts only where the first passes
  pub after_same : (r s t : Result Unit E) → (r ≡ Ok tt → s ≡ t) → (r >> s) ≡ (r >> t)
  unfolding after
  after_same (Ok x) s t h = h refl
  after_same (Err e) s t h = refl

  module _ {A : Type 0} (f : A → Result Unit E) where
    pub each_in_agrees : (g : A → Result Unit E) (xs : List A) → ((x : A) → f x ≡ g x) → each_in f xs ≡ each_in g xs
    unfolding each_in
    each_in_agrees g [] h = refl
    each_in_agrees g (x ∷ xs) h = rw (h x, each_in_agrees g xs h)

    pub each_in_passes : (xs : List A) → ((x : A) → Memᴰ x xs → f x ≡ Ok tt) → each_in f xs ≡ Ok tt
    unfolding each_in after
    each_in_passes [] h = refl
    each_in_passes (x ∷ xs) h = rw (h x (Memᴰ.head refl)) (each_in_passes xs (λ y m. h y (Memᴰ.tail m)))
