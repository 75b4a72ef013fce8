-- What is written, with the lines that are left behind it, is the whole.
use mathlib.Core.Path.{◌≡◌}
use Rattle.std.specs.Prelude.{flat_map, map}
use lib.ListN.{drop}
use Rattle.number.specs.Meaning.{meaning}
use Rattle.text.specs.Writing.{appended, Fits}
use Rattle.report.specs.Report.{payoff_line}
use Rattle.report.proofs.write_payoffs.Given as goal

abbrev pub invariant-loop-payoff : goal.invariant-loop-payoff
invariant-loop-payoff l =
    record {
      room : Fits l.text (flat_map payoff_line (map meaning (drop l.payoff-index l.payoff-items)));
      left : appended l.text (flat_map payoff_line (map meaning (drop l.payoff-index l.payoff-items))) ≡ appended l.initial.text (flat_map payoff_line (map meaning l.payoff-items));
    }
