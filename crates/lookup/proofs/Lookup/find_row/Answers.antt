-- `find_row` answers the row of the section that names the entity: without a hint at its first place there is none.
use Rattle.std.proofs.Common.{sym}
use Rattle.layout.specs.Layout.{row_count}
use Rattle.lookup.proofs.FoundLaws.{row_within}
use Rattle.lookup.proofs.HintLaws.{no_hint}
use Rattle.lookup.proofs.Lookup.find_row.Goals as goal

pub returns-then-hint-eq0-clause-found : goal.returns-then-hint-eq0-clause-found
returns-then-hint-eq0-clause-found c = sym (no_hint _ _ _ _ c.args.self.noted c.requires (rw (c.first_place-first.ensures, c.lane_of.ensures.lanes, c.lane_of.ensures.lane) at c.if-hint-eq0.true))

pub returns-clause-row : goal.returns-clause-row
unfolding row_count
returns-clause-row c = row_within _ _ _ _ (rw (c.index-index.ensures.bytes, c.index-index.ensures.width) at c.find.ensures)
