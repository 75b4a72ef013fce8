-- A row that gives a child, one that gives none, and the end of the rows.
use Rattle.std.proofs.Common.{◌≤◌, sym, ◌∙◌, arith}
use Rattle.child_rows.proofs.ChildrenLaws.{on_end, on_goes, on_child, on_other}
use Rattle.child_rows.proofs.children.child_along.Goals as goal

pub returns-in-Some-clause-child : goal.returns-in-Some-clause-child
returns-in-Some-clause-child c =
    c.loop-row.invariant.same
    ∙ rw c.next_child-next.ensures (on_child _ _ _ _ _ c.loop-row.invariant.on c.loop-row-test.true _ (sym c.children_of.ensures ∙ c.in-Some.is))

pub loop-row-preserved : goal.loop-row-preserved
loop-row-preserved c =
    record {
      same = c.loop-row.invariant.same
          ∙ rw c.next_child-next.ensures (on_other _ _ _ _ _ c.loop-row.invariant.on c.loop-row-test.true (sym c.children_of.ensures ∙ c.in_default.is));
      on = rw c.next_child-next.ensures (on_goes _ _ _ _ _ c.loop-row.invariant.on c.loop-row-test.true);
    }

pub returns-clause-none : goal.returns-clause-none
returns-clause-none c =
    let over : c.args.count ≤ c.loop-row.row = omega (arith, c.loop-row-test.false) in
    c.loop-row.invariant.same ∙ on_end _ _ _ _ _ c.loop-row.invariant.on over
