-- The call: what is listed where the walk that counts found a fault, where the buffer is too short, and where the paths fit.
use Rattle.std.proofs.Common.{◌≡◌, ℕ, ◌≤◌, ◌<◌, min, List, [], length, Result, Ok, Err, refl, sym, ap, ◌∙◌, arith, zero-add, le-leb}
use borrow.Author.Tests.{lt-leb}
use Rattle.answer.specs.Checks.{◌>>=◌, after, checked}
use Rattle.answer.specs.declared.Refusal.{Refusal}
use Rattle.answer.specs.declared.Refusal.TheVariants.{BufferTooShort}
use Rattle.answer.specs.Listing.{fitting, effect}
use Rattle.game.specs.Game.{Game}
use Rattle.text.specs.Written.{written, Writes}
use Rattle.path_counts.specs.Paths.{Path, paths, records}
use Rattle.path_counts.specs.Counts.{cap, counts_of, counts_at, size_from}
use Rattle.paths.specs.Listing.{listing_from}
use Rattle.paths.specs.Writing.{words_from}
use Rattle.paths.proofs.Steps.{prefixed_none, words_are}

module _ (g : Game) (depth e room : ℕ) where
  pub fault_first : (r : Refusal) → size_from g depth e ≡ Err r → listing_from g depth e room ≡ Err r
  unfolding size_from counts_at listing_from
  fault_first r h = go (paths g depth e) h
    where
      go : (a : Result (List Path) Refusal) → ((a >>= λ ps. Ok (counts_of ps)) >>= λ c. Ok c.words) ≡ Err r → (a >>= λ ps. fitting room (records ps)) ≡ Err r
      go (Err x) q = cc
      go (Ok ps) q = absurd cc

  -- how many words there are
  counted : {P : Type 0} (n : ℕ) → size_from g depth e ≡ Ok n → ((ps : List Path) → paths g depth e ≡ Ok ps → n ≡ min cap (length (records ps)) → P) → P
  unfolding size_from counts_at
  counted {P} n h next = go (paths g depth e) refl h
    where
      go : (a : Result (List Path) Refusal) → paths g depth e ≡ a → ((a >>= λ ps. Ok (counts_of ps)) >>= λ c. Ok c.words) ≡ Ok n → P
      go (Err x) p q = absurd cc
      go (Ok ps) p q = next ps p (let same : min cap (length (records ps)) ≡ n = cc in sym same)

  too_short : (n : ℕ) → size_from g depth e ≡ Ok n → room < n → listing_from g depth e room ≡ Err (BufferTooShort room)
  unfolding listing_from fitting after
  too_short n h short = counted n h (λ ps p q. let long : room < length (records ps) = omega arith in rw (p, lt-leb (length (records ps)) room long))

  all_fit : (n : ℕ) → size_from g depth e ≡ Ok n → n ≤ room → room < cap
      → (listing_from g depth e room ≡ Ok (words_from g depth e [])) × (checked (paths g depth e) ≡ Ok tt) × (length (words_from g depth e []) ≤ room)
  unfolding listing_from fitting after
  all_fit n h fits small =
      counted n h
      (λ ps p q.
      let short : length (records ps) ≤ room = omega arith in
      let words : words_from g depth e [] ≡ records ps = words_are g depth e [] ps p ∙ ap records (prefixed_none ps) in
      (rw (p, le-leb (length (records ps)) room short, words), ap checked p, rw words short))

-- ---- the effect on a buffer
module _ (g : Game) (depth e : ℕ) (out : List ℕ) (n : ℕ) (counts : size_from g depth e ≡ Ok n) where
  pub refused_short : length out < n → (Err (BufferTooShort (length out)), out) ≡ effect out (listing_from g depth e (length out))
  unfolding effect
  refused_short short = rw (too_short g depth e (length out) n counts short)

  module _ (fits : n ≤ length out) (small : length out < cap) where
    pub sound_first : checked (paths g depth e) ≡ Ok tt
    sound_first = (all_fit g depth e (length out) n counts fits small).1

    pub room_first : length (words_from g depth e []) ≤ length out
    room_first = (all_fit g depth e (length out) n counts fits small).2

    pub all_listed : (end : ℕ) (out' : List ℕ) → Writes out 0 (words_from g depth e []) out' end → (Ok end, out') ≡ effect out (listing_from g depth e (length out))
    unfolding effect written
    all_listed end out' (q, o) = rw (q, o, (all_fit g depth e (length out) n counts fits small).0, zero-add)

pub ruleset list_steps = (fault_first, sound_first, room_first)
