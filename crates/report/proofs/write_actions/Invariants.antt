-- What is written, with the lines that are left behind it, is the whole.
use mathlib.Core.Path.{◌≡◌}
use Rattle.std.specs.Prelude.{flat_map}
use lib.ListN.{drop}
use Rattle.sheet.specs.Meaning.{game_of}
use Rattle.text.specs.Writing.{appended, Fits}
use Rattle.report.specs.Report.{action_line}
use Rattle.report.proofs.write_actions.Given as goal

abbrev pub invariant-loop-label : goal.invariant-loop-label
invariant-loop-label l =
    let line = action_line (game_of l.sheet.bytes.now) in
    record {
      room : Fits l.text (flat_map line (drop l.label-index l.label-items));
      left : appended l.text (flat_map line (drop l.label-index l.label-items)) ≡ appended l.initial.text (flat_map line l.label-items);
    }
