-- `check_topology` answers what the walk with marks does, where no target is missing.
use Rattle.std.proofs.Common.{sym, ◌∙◌}
use Rattle.topology.proofs.Call.{topology_walked}
use Rattle.topology.proofs.check_topology.Goals as goal

pub returns : goal.returns
returns c =
    let whole = c.sections-sections.ensures in
    topology_walked _ c.args.lookup.noted.opens (sym c.check_targets.ensures ∙ c.in_ok-check_targets.was) _ _ _ _
    (rw whole at c.row_count-nodes.ensures) (rw whole at c.root.ensures) c.validate_reachable_node.ensures
