-- A list that is written into a lent buffer, as `Writer` has it. Definitions only.
use Rattle.std.specs.Prelude.{◌+◌, ◌≤◌, List, length}
use Rattle.text.specs.Written.{written}
use Rattle.text.specs.declared.Writer.{Writer}

module _ {A : Type 0} where
  -- the items have room behind what is written
  abbrev pub Fits : Writer A → List A → Type 0
  Fits w items = w.len + length items ≤ length w.out.now

  -- the writer once the items stand behind what it wrote, in the same buffer
  unfoldable pub appended : Writer A → List A → Writer A
  appended w items = record w { out = record w.out { now = written w.out.now w.len items }; len = w.len + length items }
