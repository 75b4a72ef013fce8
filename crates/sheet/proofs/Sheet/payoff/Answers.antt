-- `payoff` answers payoff row j, which is finite.
use Rattle.opening.proofs.AcceptedFields.{payoff_finite}
use Rattle.sheet.specs.Meaning.{payoff_row}
use Rattle.sheet.proofs.Sheet.payoff.Goals as goal

pub from_bits-requires : goal.from_bits-requires
from_bits-requires c = rw (c.u64_field.ensures, c.sections.ensures) (payoff_finite _ c.args.self.opens _ c.requires)

pub of_finite-requires : goal.of_finite-requires
of_finite-requires c = rw (c.from_bits.ensures, c.u64_field.ensures, c.sections.ensures) (payoff_finite _ c.args.self.opens _ c.requires)

pub returns : goal.returns
unfolding payoff_row
returns c = rw (c.of_finite.ensures, c.from_bits.ensures, c.u64_field.ensures, c.sections.ensures)
