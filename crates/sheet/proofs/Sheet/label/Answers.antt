-- `label` answers the text of label n, a part of the sheet's text.
use Rattle.std.proofs.Common.{sym}
use native.Mathlib.Nat.{add-sub_cancel_left}
use Rattle.opening.proofs.AcceptedFields.{label_in_text}
use Rattle.sheet.specs.Meaning.{label_row}
use Rattle.sheet.proofs.LabelLaws.{label_is}
use Rattle.sheet.proofs.Sheet.label.Goals as goal

pub slice_bounds-result-end : goal.slice_bounds-result-end
slice_bounds-result-end c =
    rw (c.bytes_of-text.ensures, c.u32_field-from.ensures, c.u32_field-len.ensures, c.sections-sections.ensures)
    (label_in_text _ c.args.self.opens _ c.requires)

pub returns : goal.returns
unfolding label_row
returns c =
    simp (add-sub_cancel_left, c.bytes_of-text.ensures, c.u32_field-len.ensures, c.u32_field-from.ensures, c.sections-sections.ensures)
    (sym (label_is _ _ c.requires))
