-- `terminal` answers terminal row i, whose payoffs are payoff rows.
use Rattle.std.proofs.Common.{refl}
use Rattle.opening.proofs.AcceptedFields.{count_least, count_most}
use Rattle.opening.proofs.PayoffStarts.{payoffs_within}
use Rattle.sheet.specs.Meaning.{terminal_row}
use Rattle.sheet.proofs.Sheet.terminal.Goals as goal

pub returns : goal.returns
unfolding terminal_row
returns c =
    let s = c.args.self in
    rw (c.u32_field.ensures, c.payoff_start.ensures, c.u32_field-2.ensures, c.sections-sections.ensures)
    (refl, (payoffs_within _ s.opens _ c.requires, count_least _ s.opens _ c.requires, count_most _ s.opens _ c.requires))
