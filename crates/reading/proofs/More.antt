-- What one more read leaves at the front of a buffer: what was there, and then what it gave.
use Rattle.std.proofs.Common.{◌≡◌, ℕ, ◌+◌, ◌-◌, ◌≤◌, List, ◌++◌, length, take, sym, ap, ◌∙◌, subst, arith}
use Rattle.std.proofs.lemmas.List.{take-append-le}
use Rattle.std.proofs.Math.Seq.{take-append-add, length-take-le}
use Rattle.std.proofs.KnownBytes.{Consumes-trans}
use Rattle.std.specs.Io.KnownBytes.{Consumes}
use Rattle.std.specs.Prelude.{Option}
use borrow.Rule.Slice.PartMut.{put_mid, post_of}

front : (at n : ℕ) (xs ys : List ℕ) → at + length ys ≡ length xs → n ≤ length ys
    → take (at + n) (put_mid at (length xs - at) xs ys) ≡ take at xs ++ take n ys
front at n xs ys whole some =
    let k = length xs - at in
    let long : length (take at xs) ≡ at = length-take-le at xs (omega arith) in
    ap (λ (j : ℕ). take (j + n) (take at xs ++ (ys ++ post_of at k xs))) (sym long)
    ∙ take-append-add (take at xs) (ys ++ post_of at k xs) n
    ∙ ap (λ (zs : List ℕ). take at xs ++ zs) (take-append-le n ys (post_of at k xs) some)

pub consumes_more : (a b c : Option (List ℕ)) (at n : ℕ) (xs ys : List ℕ) → at + length ys ≡ length xs → n ≤ length ys
    → Consumes a b (take at xs) → Consumes b c (take n ys) → Consumes a c (take (at + n) (put_mid at (length xs - at) xs ys))
consumes_more a b c at n xs ys whole some first second =
    subst (Consumes a c) (sym (front at n xs ys whole some)) (Consumes-trans a b c _ _ first second)
