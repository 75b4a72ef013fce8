-- What the memo knows is kept.
use Rattle.std.proofs.Common.{sym, ◌∙◌}
use Rattle.layout.specs.Layout.{field}
use Rattle.layout.specs.declared.section.Section.TheVariants.{Nodes}
use Rattle.solver.specs.Tasks.{bytes_of}
use Rattle.solver.proofs.KindLaws.{known_keeps}
use Rattle.solver.proofs.solver.Solver.is_known.Goals as goal

pub returns-clause-known : goal.returns-clause-known
returns-clause-known c = λ some.
    known_keeps _ _ _ _ _ (λ i. field (bytes_of c.args.self.now.task.now) Nodes i 0) _ c.args.self.now.right c.known.ensures.here c.known.ensures.low (sym c.is_some.ensures ∙ some)
