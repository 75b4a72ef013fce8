-- What is written, with the payoffs that are left behind it, is the whole.
use Rattle.std.proofs.Common.{◌≡◌, ◌+◌, ◌-◌, map}
use Rattle.number.specs.Number.{to_bits}
use Rattle.rows.specs.Store.{rows_from}
use Rattle.sheet.specs.Meaning.{payoff_row}
use Rattle.text.specs.Writing.{appended, Fits}
use Rattle.paths.proofs.writing.write_payoffs.Given as goal

abbrev pub invariant-loop-j : goal.invariant-loop-j
invariant-loop-j l =
    let row = payoff_row l.sheet.bytes.now in
    let left = map to_bits (rows_from row l.j (l.first + l.count - l.j)) in
    record {
      room : Fits l.words left;
      left : appended l.words left ≡ appended l.initial.words (map to_bits (rows_from row l.first l.count));
    }
