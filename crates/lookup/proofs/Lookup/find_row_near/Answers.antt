-- `find_row_near` answers one of the section's rows.
use Rattle.layout.specs.Layout.{row_count}
use Rattle.lookup.proofs.FoundLaws.{row_within}
use Rattle.lookup.proofs.Lookup.find_row_near.Goals as goal

pub returns-clause-row : goal.returns-clause-row
unfolding row_count
returns-clause-row c = row_within _ _ _ _ (rw (c.index-index.ensures.bytes, c.index-index.ensures.width) at c.find.ensures)
