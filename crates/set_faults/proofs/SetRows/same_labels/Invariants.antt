-- The labels that are left agree where all do.
use Rattle.std.proofs.Common.{◌≡◌}
use Rattle.sheet.specs.Meaning.{game_of}
use Rattle.set_faults.specs.Faults.{labels_of, same_labels}
use Rattle.set_faults.specs.Words.{AreLabels}
use Rattle.set_faults.proofs.SetRows.same_labels.Given as goal

abbrev pub invariant-loop-label : goal.invariant-loop-label
invariant-loop-label l =
    let s = l.self.lookup.sheet.now in
    let g = game_of s in
    record {
      left : same_labels g (labels_of g l.a) (labels_of g l.b) ≡ same_labels g l.label-iterator l.others;
      known : AreLabels s l.label-iterator;
      others_known : AreLabels s l.others;
    }
