-- `is_same_label` answers whether two label numbers hold the same text.
use Rattle.std.proofs.Common.{sym, ap, ◌∙◌}
use Rattle.layout.proofs.SameBytes.{same_pointwise, equal→same}
use Rattle.game.specs.Game.{label_text, same_label}
use Rattle.sheet.proofs.Sheet.is_same_label.Goals as goal

pub returns-then-a-b : goal.returns-then-a-b
unfolding same_label
returns-then-a-b c = sym (equal→same _ _ (ap (label_text _) c.if-a-b.true))

pub returns : goal.returns
unfolding same_label
returns c =
    rw (← c.label.ensures, ← c.label-2.ensures)
    (sym (same_pointwise _ _ ∙ sym c.eq.ensures))
