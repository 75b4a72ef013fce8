use Rattle.std.proofs.Common.{sym, ◌∙◌}
use Rattle.edges.proofs.AmongLaws.{sound_own}
use Rattle.edges.proofs.sound_edge_in.Goals as goal

pub returns-in-Some : goal.returns-in-Some
returns-in-Some g c =
    let gives = rw c.sections.ensures at c.children_of.ensures in
    sound_own g.E.Edge.found g.E.Edge.target_of c.args.lookup.sheet.now c.args.source c.args.i _ c.find.result (sym c.in-Some.is ∙ gives) c.requires.sound c.find.ensures
