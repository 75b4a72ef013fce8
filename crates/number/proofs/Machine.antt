-- The machine's f64 is what specs/Number.antt says: its numbers, bit patterns, +, *, < and <= in the kit's model of IEEE 754, for every value, infinities and NaN too.
use mathlib.Core.Path.{◌≡◌, refl, sym, ap, ap₂, ◌∙◌, subst}
use mathlib.Core.Bool.{Bool, not, ◌&&◌, ◌||◌}
use Prim.Native.Nat.{ℕ, zero, suc, ◌+◌, ◌-◌, ◌*◌, ◌/◌, ◌%◌, ◌^◌, ◌≤◌, ◌<◌}
use native.Mathlib.Nat.{zero-lt-suc, zero-mul, mul-one, mul_assoc, mul_comm, mul_right_comm, mul-sub, mul-mul-mul_comm, mul-pos, mul-div_cancel, mul-le-mul_right, mul-lt-mul_of_pos_right, le_of_mul-le-mul_right, lt_of_mul-lt-mul_right}
use native.Mathlib.Omega.{arith}
use Rattle.std.specs.Float.{float_is_finite}
use lib.Dec.{T, leb, ltb, eqb}
use lib.IntN.{ℤ}
use lib.Pow.{pow_pos}
use lib.Ieee as K
use lib.Ieee.{Float, inf, fin, binary64, up, down, odd, units, round, fits, sum, add, mul, below, level, lt, le, is_nan, nan_bits, of_fields, of_bits}
use lib.Ieee.Fits.{up_pos, down_pos, round_is}
use lib.Ieee.Exact.{HasValue, odd_sign}
use lib.Ieee.Bits.{nan_bits_is, of_bits-to_bits, to_bits-of_bits}
use lib.Ieee.Order.{drop, kept}
use Rattle.number.specs.Number.{finite, round_to_nearest_even, overflow, signed_sum, plus, times, product_sign, positive_part, negative_part, less, at_most, is_finite, from_fields, from_bits, to_bits}
use Rattle.number.specs.Meaning.{meaning}
use Rattle.number.proofs.Categories.{is_number}
use Rattle.number.proofs.Ulp.{ulp_is}
use Rattle.number.proofs.Rounding.{nearest_integer_is, round_same}
use Rattle.number.proofs.Order.{finite_number}

-- ---- numbers: each finite f64 is a whole number of parts of 2 ^ -1074, so the division in `meaning` leaves nothing
-- an f64 whose size is a parts means a parts
meaning_of_value : (x : Float) (s : Bool) (a : ℕ) → HasValue x s a (2 ^ 1074) → meaning x ≡ finite s a
meaning_of_value (fin t m e) s a h = ap₂ finite h.0 (rw h.1 (mul-div_cancel a (down_pos e)))
meaning_of_value x s a h = absurd h

odd_is : (d : ℕ) (s : Bool) (q k : ℕ) → meaning (odd d s q k 1074) ≡ finite s (q * 2 ^ k)
odd_is d s q k = meaning_of_value (odd d s q k 1074) s (q * 2 ^ k) (odd_sign d s q k 1074)

-- the parts of m * 2 ^ e, as `meaning` counts them
abbrev pub parts : ℕ → ℤ → ℕ
parts m e = m * up e * 2 ^ 1074 / down e

-- x is so many parts as its meaning says, and no fraction of a part more
abbrev Whole : Float → Type 0
Whole (fin s m e) = parts m e * down e ≡ m * up e * 2 ^ 1074
Whole x = Unit

whole_of_value : (x : Float) (s : Bool) (a : ℕ) → HasValue x s a (2 ^ 1074) → Whole x
whole_of_value (fin t m e) s a h = rw (h.1, mul-div_cancel a (down_pos e))
whole_of_value x s a h = absurd h

whole_fields : (s : Bool) (e t : ℕ) → Whole (of_fields binary64 s e t)
unfolding of_fields
whole_fields s zero t = whole_of_value _ s _ (odd_sign 53 s t 0 1074)
whole_fields s (suc e) t = let h = whole_of_value _ s _ (odd_sign 53 s (2 ^ 52 + t) e 1074) in grind (arith, h)

whole_bits : (n : ℕ) → Whole (of_bits binary64 n)
unfolding of_bits
whole_bits n = whole_fields (leb (2 ^ 63) n) (n % 2 ^ 63 / 2 ^ 52) (n % 2 ^ 52)

-- an f64 is what its bits say
pub whole_parts : (s : Bool) (m : ℕ) (e : ℤ) → T (fits binary64 (fin s m e)) → parts m e * down e ≡ m * up e * 2 ^ 1074
whole_parts s m e h = subst Whole (of_bits-to_bits binary64 (fin s m e) h) (whole_bits (K.to_bits binary64 (fin s m e)))

-- the sizes of two f64 over one denominator
module _ (s : Bool) (m : ℕ) (e : ℤ) (h : T (fits binary64 (fin s m e))) (t : Bool) (n : ℕ) (d : ℤ) (k : T (fits binary64 (fin t n d))) where
  common_left : m * up e * down d * 2 ^ 1074 ≡ parts m e * (down e * down d)
  common_left = grind (arith, whole_parts s m e h, mul_right_comm (m * up e) (down d) (2 ^ 1074), mul_assoc (parts m e) (down e) (down d))

  common_right : n * up d * down e * 2 ^ 1074 ≡ parts n d * (down e * down d)
  common_right = grind (arith, whole_parts t n d k, mul_right_comm (n * up d) (down e) (2 ^ 1074), mul_assoc (parts n d) (down d) (down e), mul_comm (down d) (down e))

-- ---- bits
meaning_fields : (s : Bool) (e t : ℕ) → meaning (of_fields binary64 s e t) ≡ from_fields s e t
unfolding of_fields from_fields
meaning_fields s zero t = odd_is 53 s t 0 ∙ ap (finite s) (mul-one t)
meaning_fields s (suc e) t = grind (arith, odd_is 53 s (2 ^ 52 + t) e)

-- the machine's from_bits is `from_bits`, for every pattern, those of infinities and NaN too
pub meaning_of_bits : (n : ℕ) → meaning (of_bits binary64 n) ≡ from_bits n
unfolding of_bits from_bits
meaning_of_bits n = meaning_fields (leb (2 ^ 63) n) (n % 2 ^ 63 / 2 ^ 52) (n % 2 ^ 52)

-- the machine's to_bits is `to_bits`, for every value; at NaN, where a machine may write any NaN's pattern, it is the one that the logic writes
pub meaning_to_bits : (x : Float) → K.to_bits binary64 x ≡ to_bits (meaning x)
unfolding K.to_bits to_bits
meaning_to_bits Float.nan = refl
meaning_to_bits (inf s) = refl
meaning_to_bits (fin s m e) = rw (ulp_is (parts m e))

-- a value is that of its number's bit pattern
pub of_meaning : (x : Float) → T (fits binary64 x) → of_bits binary64 (to_bits (meaning x)) ≡ x
of_meaning x h = rw (← meaning_to_bits x) (of_bits-to_bits binary64 x h)

-- what is written is read back
pub from_bits_to_bits : (x : Float) → T (fits binary64 x) → from_bits (to_bits (meaning x)) ≡ meaning x
from_bits_to_bits x h = sym (meaning_of_bits (to_bits (meaning x))) ∙ ap meaning (of_meaning x h)

-- two values of f64 that are one number are one value
pub meaning_injective : (x y : Float) → T (fits binary64 x) → T (fits binary64 y) → meaning x ≡ meaning y → x ≡ y
meaning_injective x y h k e =
    sym (of_bits-to_bits binary64 x h)
    ∙ ap (of_bits binary64) (meaning_to_bits x ∙ ap to_bits e ∙ sym (meaning_to_bits y))
    ∙ of_bits-to_bits binary64 y k

-- a number is an f64 that is no NaN
pub meaning_nan : (x : Float) → not (is_nan x) ≡ is_number (meaning x)
unfolding is_nan
meaning_nan x = grind arith

-- what is read is written back, but for a NaN
pub to_bits_from_bits : (n : ℕ) → n < 2 ^ 64 → T (is_number (from_bits n)) → to_bits (from_bits n) ≡ n
to_bits_from_bits n h k =
    rw (← meaning_of_bits n, ← meaning_to_bits (of_bits binary64 n))
    (to_bits-of_bits binary64 n h (rw (meaning_nan (of_bits binary64 n), meaning_of_bits n) k))

-- ---- finite numbers: what `f64::is_finite` tells, and what `f64::to_bits` and `f64::from_bits` ask, no NaN
pub finite_float : (x : Float) → is_finite (meaning x) ≡ float_is_finite x
unfolding float_is_finite
finite_float x = grind arith

pub no_nan : (x : Float) → T (is_finite (meaning x)) → T (not (is_nan x))
no_nan x h = subst T (sym (meaning_nan x)) (finite_number (meaning x) h)

pub no_nan_bits : (n : ℕ) → T (is_finite (from_bits n)) → T (not (nan_bits binary64 n))
no_nan_bits n h = rw (nan_bits_is binary64 n) (no_nan (of_bits binary64 n) (rw (meaning_of_bits n) h))

-- ---- rounding: the machine rounds num / den, which is num * 2 ^ 1074 / den parts, as `round_to_nearest_even` does
meaning_units : (s : Bool) (q k : ℕ) → meaning (units binary64 s q k) ≡ overflow s (q * 2 ^ k)
unfolding units overflow
meaning_units s q k = grind (arith, odd_is 54 s q k)

meaning_round : (s : Bool) (num den : ℕ) → meaning (round binary64 s num den) ≡ overflow s (round_to_nearest_even (num * 2 ^ 1074) den)
unfolding round_to_nearest_even
meaning_round s num den =
    let n = num * 2 ^ 1074 in
    let k = drop 53 n den in
    ap meaning (round_is binary64 s num den) ∙ meaning_units s (kept 53 n den) k ∙ rw (ulp_is (n / den), nearest_integer_is n (den * 2 ^ k))

-- and so any fraction n / d of parts that num / den equals
round_at : (s : Bool) (num den n d : ℕ) → 0 < den → 0 < d → num * 2 ^ 1074 * d ≡ n * den → meaning (round binary64 s num den) ≡ overflow s (round_to_nearest_even n d)
round_at s num den n d E D e = meaning_round s num den ∙ ap (overflow s) (round_same (num * 2 ^ 1074) den n d E D e)

-- ---- fractions a / c and b / c that are p and q parts, a part being 1 / l
module _ (a b p q l c : ℕ) (L : 0 < l) (C : 0 < c) (e : a * l ≡ p * c) (f : b * l ≡ q * c) where
  lt_parts : a < b → p < q
  lt_parts h = lt_of_mul-lt-mul_right c (rw (← e, ← f) (mul-lt-mul_of_pos_right h L))

  le_parts : b ≤ a → q ≤ p
  le_parts h = le_of_mul-le-mul_right (rw (← e, ← f) (mul-le-mul_right l h)) C

  ltb_parts : ltb a b ≡ ltb p q
  ltb_parts = grind (arith, lt_parts, le_parts)

-- where there is no NaN, <= is not >
signed_le : (s : Bool) (a : ℕ) (t : Bool) (b : ℕ) → (below s a t b || level s a t b) ≡ not (below t b s a)
signed_le s a t b = grind arith

-- the order of ±a / c and ±b / c is that of ±p and ±q
module _ (a b p q l c : ℕ) (L : 0 < l) (C : 0 < c) (e : a * l ≡ p * c) (f : b * l ≡ q * c) where
  below_is : (s t : Bool) → below s a t b ≡ ltb (positive_part s p + negative_part t q) (positive_part t q + negative_part s p)
  below_is s t =
      grind
      (arith, ltb_parts a b p q l c L C e f, ltb_parts b a q p l c L C f e, ltb_parts 0 (a + b) 0 (p + q) l c L C (zero-mul l ∙ sym (zero-mul c)) (omega arith))

module _ (a b p q l c : ℕ) (L : 0 < l) (C : 0 < c) (e : a * l ≡ p * c) (f : b * l ≡ q * c) where
  at_most_is : (s t : Bool) → (below s a t b || level s a t b) ≡ leb (positive_part s p + negative_part t q) (positive_part t q + negative_part s p)
  at_most_is s t = rw (signed_le s a t b, below_is b a q p l c L C f e t s) (grind arith)

-- ---- the sum
module _ (a b p q l c : ℕ) (e : a * l ≡ p * c) (f : b * l ≡ q * c) where
  sum_parts : (a + b) * l * 1 ≡ (p + q) * c
  sum_parts = omega arith

  sub_parts : (a - b) * l * 1 ≡ (p - q) * c
  sub_parts = grind (arith, mul-sub l a b, mul-sub c p q, mul_comm)

sum_is : (s : Bool) (a : ℕ) (t : Bool) (b c p q : ℕ) → 0 < c → a * 2 ^ 1074 ≡ p * c → b * 2 ^ 1074 ≡ q * c → meaning (sum binary64 s a t b c) ≡ signed_sum s p t q
unfolding sum
sum_is s a t b c p q C e f =
    let L = pow_pos 1074 in
    let one = zero-lt-suc 0 in
    let both = round_at s (a + b) c (p + q) 1 C one (sum_parts a b p q (2 ^ 1074) c e f) in
    let more = round_at t (b - a) c (q - p) 1 C one (sub_parts b a q p (2 ^ 1074) c f e) in
    let rest = round_at (s && ltb b a) (a - b) c (p - q) 1 C one (sub_parts a b p q (2 ^ 1074) c e f) in
    rw (← ltb_parts a b p q (2 ^ 1074) c L C e f, ← ltb_parts b a q p (2 ^ 1074) c L C f e) (grind (arith, both, more, rest))

-- the machine's + is `plus`
pub meaning_add : (x y : Float) → T (fits binary64 x) → T (fits binary64 y) → meaning (add binary64 x y) ≡ plus (meaning x) (meaning y)
unfolding add plus
meaning_add (fin s m e) (fin t n d) h k =
    sum_is s (m * up e * down d) t (n * up d * down e) (down e * down d) (parts m e) (parts n d) (mul-pos (down_pos e) (down_pos d))
    (common_left s m e h t n d k)
    (common_right s m e h t n d k)
meaning_add x y h k = grind arith

-- ---- the product of x / d and y / c, which are p and q parts: p * q parts of 1 / l ^ 2
product_parts : (x y l d c p q : ℕ) → p * d ≡ x * l → q * c ≡ y * l → x * y * l * l ≡ p * q * (d * c)
product_parts x y l d c p q e f = mul_assoc (x * y) l l ∙ mul-mul-mul_comm x y l l ∙ ap₂ ◌*◌ (sym e) (sym f) ∙ mul-mul-mul_comm p d q c

-- only zero is no parts
zero_parts : (s : Bool) (m : ℕ) (e : ℤ) → T (fits binary64 (fin s m e)) → eqb m 0 ≡ eqb (parts m e) 0
zero_parts s m e h =
    let some =
    ltb_parts 0 m 0 (parts m e) (up e * 2 ^ 1074) (down e) (mul-pos (up_pos e) (pow_pos 1074)) (down_pos e)
    (zero-mul (up e * 2 ^ 1074) ∙ sym (zero-mul (down e)))
    (sym (mul_assoc m (up e) (2 ^ 1074)) ∙ sym (whole_parts s m e h))
    in
    grind (arith, some)

-- the machine's * is `times`
pub meaning_mul : (x y : Float) → T (fits binary64 x) → T (fits binary64 y) → meaning (mul binary64 x y) ≡ times (meaning x) (meaning y)
unfolding mul times
meaning_mul (fin s m e) (fin t n d) h k =
    round_at (product_sign s t) (m * up e * (n * up d)) (down e * down d) (parts m e * parts n d) (2 ^ 1074) (mul-pos (down_pos e) (down_pos d)) (pow_pos 1074)
    (product_parts (m * up e) (n * up d) (2 ^ 1074) (down e) (down d) (parts m e) (parts n d) (whole_parts s m e h) (whole_parts t n d k))
meaning_mul (fin s m e) (inf t) h k = let z = zero_parts s m e h in grind arith
meaning_mul (inf s) (fin t n d) h k = let z = zero_parts t n d k in grind arith
meaning_mul x y h k = grind arith

-- ---- the machine's < is `less`, and its <= is `at_most`
pub meaning_lt : (x y : Float) → T (fits binary64 x) → T (fits binary64 y) → lt x y ≡ less (meaning x) (meaning y)
unfolding lt less
meaning_lt (fin s m e) (fin t n d) h k =
    below_is (m * up e * down d) (n * up d * down e) (parts m e) (parts n d) (2 ^ 1074) (down e * down d) (pow_pos 1074) (mul-pos (down_pos e) (down_pos d))
    (common_left s m e h t n d k)
    (common_right s m e h t n d k)
    s t
meaning_lt x y h k = grind arith

pub meaning_le : (x y : Float) → T (fits binary64 x) → T (fits binary64 y) → le x y ≡ at_most (meaning x) (meaning y)
unfolding le at_most
meaning_le (fin s m e) (fin t n d) h k =
    at_most_is (m * up e * down d) (n * up d * down e) (parts m e) (parts n d) (2 ^ 1074) (down e * down d) (pow_pos 1074) (mul-pos (down_pos e) (down_pos d))
    (common_left s m e h t n d k)
    (common_right s m e h t n d k)
    s t
meaning_le x y h k = grind arith
