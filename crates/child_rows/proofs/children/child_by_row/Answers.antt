-- A row that gives a child, one that gives none, and the end of the rows.
use Rattle.std.proofs.Common.{◌≤◌, None, sym, ◌∙◌, arith}
use Rattle.child_rows.proofs.ChildrenLaws.{on_end, on_goes, on_child, on_other}
use Rattle.child_rows.proofs.children.child_by_row.Goals as goal

pub returns-in-Some-clause-child : goal.returns-in-Some-clause-child
returns-in-Some-clause-child c =
    c.loop-i.invariant.same ∙ on_child _ _ _ _ None c.loop-i.invariant.on c.loop-i-test.true _ (sym c.children_of.ensures ∙ c.in-Some.is)

pub loop-i-preserved : goal.loop-i-preserved
loop-i-preserved c =
    record {
      same = c.loop-i.invariant.same ∙ on_other _ _ _ _ None c.loop-i.invariant.on c.loop-i-test.true (sym c.children_of.ensures ∙ c.in_default.is);
      on = on_goes _ _ _ _ None c.loop-i.invariant.on c.loop-i-test.true;
    }

pub returns-clause-none : goal.returns-clause-none
returns-clause-none c =
    let over : c.args.count ≤ c.loop-i.i = omega (arith, c.loop-i-test.false) in
    c.loop-i.invariant.same ∙ on_end _ _ _ _ None c.loop-i.invariant.on over
