-- What is written, with the numbers that are left behind it, is the whole.
use mathlib.Core.Path.{◌≡◌}
use Rattle.std.specs.Prelude.{flat_map}
use lib.ListN.{drop}
use Rattle.text.specs.Writing.{appended, Fits}
use Rattle.report.specs.Report.{spaced}
use Rattle.report.proofs.write_numbers.Given as goal

abbrev pub invariant-loop-number : goal.invariant-loop-number
invariant-loop-number l =
    record {
      room : Fits l.text (flat_map spaced (drop l.number-index l.fn.numbers));
      left : appended l.text (flat_map spaced (drop l.number-index l.fn.numbers)) ≡ appended l.initial.text (flat_map spaced l.fn.numbers);
    }
