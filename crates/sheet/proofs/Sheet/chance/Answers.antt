-- `chance` answers chance row i; its probability is finite.
use Rattle.opening.proofs.AcceptedFields.{chance_finite}
use Rattle.sheet.proofs.Sheet.chance.Goals as goal

pub from_bits-requires : goal.from_bits-requires
from_bits-requires c = rw (c.u64_field.ensures, c.sections-sections.ensures) (chance_finite _ c.args.self.opens _ c.requires)
