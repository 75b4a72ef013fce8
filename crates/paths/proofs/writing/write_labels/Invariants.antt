-- What is written, with the labels that are left behind it, is the whole.
use Rattle.std.proofs.Common.{◌≡◌, drop}
use Rattle.text.specs.Writing.{appended, Fits}
use Rattle.paths.proofs.writing.write_labels.Given as goal

abbrev pub invariant-loop-label : goal.invariant-loop-label
invariant-loop-label l =
    record {
      room : Fits l.words (drop l.label-index l.fn.labels);
      left : appended l.words (drop l.label-index l.fn.labels) ≡ appended l.initial.words l.fn.labels;
    }
