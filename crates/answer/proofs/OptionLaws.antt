-- Laws of Rust's `Option`.
use Rattle.std.proofs.Common.{◌≡◌}
use Rattle.std.specs.Prelude.{None, Some}

module _ {A : Type 0} where
  pub some-injective : (a b : A) → Some a ≡ Some b → a ≡ b
  some-injective a b e = cc

  pub none-ne-some : (a : A) → None ≡ Some a → ⊥
  none-ne-some a e = cc

  pub some-ne-none : (a : A) → Some a ≡ None → ⊥
  some-ne-none a e = cc
