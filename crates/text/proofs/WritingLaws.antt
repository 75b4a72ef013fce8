-- A list in parts: a writer writes one after the other, and has written the whole.
use Rattle.std.proofs.Common.{◌≡◌, ℕ, ◌+◌, ◌≤◌, List, [], ◌∷◌, ◌++◌, length, set, refl, arith, length-append}
use native.Mathlib.Nat.{add-zero, add_assoc}
use Rattle.text.specs.Writing.{Fits, appended}
use Rattle.text.specs.declared.Writer.{Writer}
use Rattle.text.proofs.WrittenLaws.{written_empty, written_one, written_append, length_written}

module _ {A : Type 0} (w : Writer A) where
  pub appended_none : appended w [] ≡ w
  unfolding appended
  appended_none = rw (written_empty, add-zero) refl

  -- one item is a store
  pub appended_one : (x : A) → Fits w (x ∷ []) → appended w (x ∷ []) ≡ record w { out = record w.out { now = set w.out.now w.len x }; len = w.len + 1 }
  unfolding appended
  appended_one x h = rw (written_one w.out.now w.len x (omega arith)) refl

  module _ (x : List A) where
    pub len_appended : (appended w x).len ≡ w.len + length x
    unfolding appended
    len_appended = refl

    pub room_appended : Fits w x → length (appended w x).out.now ≡ length w.out.now
    unfolding appended
    room_appended h = length_written w.out.now w.len x h

    pub appended_next : (y : List A) → w.len ≤ length w.out.now → appended (appended w x) y ≡ appended w (x ++ y)
    unfolding appended
    appended_next y h = rw (length-append, written_append w.out.now w.len x y h, add_assoc) refl

pub ruleset writing = (length-append, len_appended, room_appended, appended_next, appended_none)
