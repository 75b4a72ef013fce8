-- Chains of checks, and what each operation answers: the first refusal, or what was asked for. Definitions only.
use Rattle.std.specs.Prelude.{ℕ, zero, suc, Bool, true, false, Result, Ok, Err, Option, List, [], ◌∷◌}
use Rattle.std.specs.List.{cons_option}

infixl 10 ◌>>=◌
-- the first refusal is the answer, as `?` has it
abbrev pub ◌>>=◌ : {A B E : Type 0} → Result A E → (A → Result B E) → Result B E
Ok x >>= k = k x
Err e >>= k = Err e

-- the first refusal, and where there is none what follows: `r >> s`
unfoldable pub after : {A B E : Type 0} → Result A E → Result B E → Result B E
after (Ok x) s = s
after (Err e) s = Err e

infixl 10 ◌>>◌
abbrev pub ◌>>◌ : {A B E : Type 0} → Result A E → Result B E → Result B E
r >> s = after r s

-- whether something was answered
abbrev pub checked : {A E : Type 0} → Result A E → Result Unit E
checked (Ok x) = Ok tt
checked (Err e) = Err e

-- what is made of an answer
abbrev pub map_ok : {A B E : Type 0} → (A → B) → Result A E → Result B E
map_ok f (Ok x) = Ok (f x)
map_ok f (Err e) = Err e

-- the refusal where the test does not hold
abbrev pub ensure : {E : Type 0} → Bool → E → Result Unit E
ensure true e = Ok tt
ensure false e = Err e

-- the first refusal among those of 0 to n - 1
unfoldable pub each : {E : Type 0} → ℕ → (ℕ → Result Unit E) → Result Unit E
each zero check = Ok tt
each (suc n) check = each n check >> check n

-- the first refusal among those of a list's elements
unfoldable pub each_in : {A E : Type 0} → (A → Result Unit E) → List A → Result Unit E
each_in check [] = Ok tt
each_in check (x ∷ xs) = check x >> each_in check xs

-- what f answers for each element in turn, where it answers something
unfoldable pub collect : {A B E : Type 0} → (A → Result (Option B) E) → List A → Result (List B) E
collect f [] = Ok []
collect f (x ∷ xs) = f x >>= λ y. collect f xs >>= λ ys. Ok (cons_option y ys)
