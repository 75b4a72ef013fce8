-- Each exit and each turn of the two loops, by the laws of proofs/LoopLaws.antt.
use Rattle.std.proofs.Common.{◌≡◌, ◌+◌, ◌-◌, refl, sym, ◌∙◌, ap, arith, Ok, None}
use Rattle.std.proofs.lemmas.Result.{err_from_is_err_and}
use Rattle.std.specs.Result.{result_ok}
use Rattle.memo.proofs.KeptLaws.{answers, kept_is, stays_same, stays_then}
use Rattle.solver.specs.Tasks.{actions_at}
use Rattle.solver.proofs.KindLaws.{decision_refused, decision_starts, chance_plain, chance_refused, chance_starts, out_of_range, all_in_range}
use Rattle.solver.proofs.LoopLaws.{deeper, same_refusal, no_reply, best_reply, target_refused, reply_refused, reply_goes, play_taken, no_outcome, all_outcomes, outcome_refused, counts_differ, outcome_goes}
use Rattle.solver.proofs.solver.Solver.+solve.Goals as goal

-- ---- any node
pub solve_node-returns-then-is_known-clause-kept : goal.solve_node-returns-then-is_known-clause-kept
solve_node-returns-then-is_known-clause-kept t c =
    let here = rw (c.ok_or.ensures.ok_part ∙ ap result_ok c.in_ok-row.was) at c.row_of.ensures.here in
    rw here.entity at (c.is_known.ensures.known c.if-is_known.true)

pub solve_node-returns-clause-kept : goal.solve_node-returns-clause-kept
solve_node-returns-clause-kept t c =
    let some = c.if-left-eq0.false in
    let same : c.args.left - 1 + 1 ≡ c.args.left = omega arith in
    record { kept = _; here = c.in_ok-solve_kind.ensures.there; is = rw same at c.in_ok-solve_kind.ensures.kept }

-- ---- a decision

pub solve_decision-returns-in_err-edge-items-clause-answer : goal.solve_decision-returns-in_err-edge-items-clause-answer
solve_decision-returns-in_err-edge-items-clause-answer t c =
    let p = err_from_is_err_and c.from_residual.result c.from_residual.ensures.1 in
    rw (p.1, p.2) (sym (decision_refused _ _ _ c.requires.kind _ c.in_err-edge-items.ensures _))

pub solve_decision-loop-edge-init : goal.solve_decision-loop-edge-init
solve_decision-loop-edge-init t c =
    record {
      same_task = refl;
      stays = stays_same _;
      low = omega arith;
      deciding = rw c.into_iter-edge-iterator.ensures.into_iter_gives (decision_starts _ _ _ c.requires.kind _ c.in_ok-edge-items.ensures);
    }

pub solve_decision-returns-in_err-at-clause-answer : goal.solve_decision-returns-in_err-at-clause-answer
solve_decision-returns-in_err-at-clause-answer t c =
    let p = err_from_is_err_and c.from_residual-in_err-at.result c.from_residual-in_err-at.ensures.1 in
    let on = rw c.in-Some.ensures.steps at c.loop-edge.invariant.deciding in
    let stops = rw c.loop-edge.invariant.same_task at c.in_err-at.ensures.refused in
    rw (p.1, p.2) (sym (target_refused _ _ _ _ _ _ _ on _ _ c.loop-edge.invariant.low stops))

pub solve_decision-returns-in_err-reply-clause-answer : goal.solve_decision-returns-in_err-reply-clause-answer
solve_decision-returns-in_err-reply-clause-answer t c =
    let p = err_from_is_err_and c.from_residual-in_err-reply.result c.from_residual-in_err-reply.ensures.1 in
    let on = rw c.in-Some.ensures.steps at c.loop-edge.invariant.deciding in
    let answered = rw c.loop-edge.invariant.same_task at (kept_is c.in_ok-at.ensures.kept c.kept-kept.ensures) in
    let low = c.requires.low in
    rw (p.1, p.2) (sym (reply_refused _ _ _ _ _ _ _ on _ _ answered (omega arith) _ (c.in_err-reply.ensures.answer (actions_at c.args.self.now.task.now)) c.loop-edge.invariant.low))

pub solve_decision-loop-edge-preserved : goal.solve_decision-loop-edge-preserved
solve_decision-loop-edge-preserved t c =
    let on = rw c.in-Some.ensures.steps at c.loop-edge.invariant.deciding in
    let answered = rw c.loop-edge.invariant.same_task at (kept_is c.in_ok-at.ensures.kept c.kept-kept.ensures) in
    let low = c.requires.low in
    let near = c.loop-edge.invariant.low in
    let less = answered.low in
    let deep = deeper c.loop-edge.deepest c.kept-kept.result.now.height c.max-deepest.result c.max-deepest.ensures in
    record {
      same_task = c.solve_node.ensures.same_task ∙ c.loop-edge.invariant.same_task;
      stays = stays_then _ _ _ c.loop-edge.invariant.stays c.solve_node.ensures.stays;
      low = omega arith;
      deciding = rw (deep, c.better.ensures) (reply_goes _ _ _ _ _ _ _ on _ _ answered (omega arith) _
          (c.in_ok-reply.ensures.answer (actions_at c.args.self.now.task.now)) c.in_ok-reply.ensures.edge c.in_ok-reply.ensures.play);
    }

pub solve_decision-returns-in_err-best-clause-answer : goal.solve_decision-returns-in_err-best-clause-answer
solve_decision-returns-in_err-best-clause-answer t c =
    let p = err_from_is_err_and c.from_residual-in_err-best.result c.from_residual-in_err-best.ensures.1 in
    let none = c.ok_or.ensures.ok_part ∙ ap result_ok c.in_err-best.was in
    let on = rw (c.in-None.ensures.steps.0, none) at c.loop-edge.invariant.deciding in
    let missing = rw none at (sym c.ok_or.ensures.value ∙ c.in_err-best.was) in
    rw (p.1, p.2) (sym (no_reply _ _ _ _ None on _ c.loop-edge.invariant.low ∙ same_refusal _ _ missing))

pub solve_decision-keep_over-requires-clause-right : goal.solve_decision-keep_over-requires-clause-right
solve_decision-keep_over-requires-clause-right t c =
    let on = rw (c.in-None.ensures.steps.0, c.ok_or.ensures.ok_part ∙ ap result_ok c.in_ok-best.was) at c.loop-edge.invariant.deciding in
    let told = play_taken _ _ c.taken.result on.lead_is c.taken.ensures.terminal c.taken.ensures.first c.taken.ensures.payoffs in
    rw (c.loop-edge.invariant.same_task, c.requires.node.entity)
    (answers _ _ _ _ _ c.taken.result c.loop-edge.invariant.low (λ d h. best_reply _ _ _ _ None _ on d h ∙ ap Ok (sym told))).is_right

pub solve_decision-returns-clause-kept : goal.solve_decision-returns-clause-kept
solve_decision-returns-clause-kept t c =
    let on = rw (c.in-None.ensures.steps.0, c.ok_or.ensures.ok_part ∙ ap result_ok c.in_ok-best.was) at c.loop-edge.invariant.deciding in
    let told = play_taken _ _ c.taken.result on.lead_is c.taken.ensures.terminal c.taken.ensures.first c.taken.ensures.payoffs in
    rw c.keep_over.ensures.kept (answers _ _ _ _ _ c.taken.result c.loop-edge.invariant.low (λ d h. best_reply _ _ _ _ None _ on d h ∙ ap Ok (sym told)))

pub solve_decision-returns-clause-answer : goal.solve_decision-returns-clause-answer
solve_decision-returns-clause-answer t c =
    let on = rw (c.in-None.ensures.steps.0, c.ok_or.ensures.ok_part ∙ ap result_ok c.in_ok-best.was) at c.loop-edge.invariant.deciding in
    let told = play_taken _ _ c.taken.result on.lead_is c.taken.ensures.terminal c.taken.ensures.first c.taken.ensures.payoffs in
    rw c.keep_over.ensures.kept (sym (best_reply _ _ _ _ None _ on _ c.loop-edge.invariant.low ∙ ap Ok (sym told)))

-- ---- a chance node
pub solve_chance-returns-in-Plain-clause-answer : goal.solve_chance-returns-in-Plain-clause-answer
solve_chance-returns-in-Plain-clause-answer t c = sym (chance_plain _ _ c.requires.kind c.in-Plain.is _)

pub solve_chance-returns-in_err-outcome-items-clause-answer : goal.solve_chance-returns-in_err-outcome-items-clause-answer
solve_chance-returns-in_err-outcome-items-clause-answer t c =
    let p = err_from_is_err_and c.from_residual.result c.from_residual.ensures.1 in
    rw (p.1, p.2) (sym (chance_refused _ _ c.requires.kind c.in_default.is _ c.in_err-outcome-items.ensures _))

pub solve_chance-loop-outcome-init : goal.solve_chance-loop-outcome-init
solve_chance-loop-outcome-init t c =
    record {
      same_task = refl;
      stays = stays_same _;
      low = omega arith;
      weighing = rw c.into_iter-outcome-iterator.ensures.into_iter_gives (chance_starts _ _ c.requires.kind c.in_default.is _ c.in_ok-outcome-items.ensures);
    }

pub solve_chance-returns-in_err-at-clause-answer : goal.solve_chance-returns-in_err-at-clause-answer
solve_chance-returns-in_err-at-clause-answer t c =
    let p = err_from_is_err_and c.from_residual-in_err-at.result c.from_residual-in_err-at.ensures.1 in
    let on = rw (c.in-Some.ensures.steps, ← c.outcome.view_is) at c.loop-outcome.invariant.weighing in
    let stops = rw c.loop-outcome.invariant.same_task at c.in_err-at.ensures.refused in
    rw (p.1, p.2) (sym (outcome_refused _ _ _ _ _ _ on _ _ c.loop-outcome.invariant.low stops))

pub solve_chance-returns-in_err-added-clause-answer : goal.solve_chance-returns-in_err-added-clause-answer
solve_chance-returns-in_err-added-clause-answer t c =
    let p = err_from_is_err_and c.from_residual-in_err-added.result c.from_residual-in_err-added.ensures.1 in
    let on = rw (c.in-Some.ensures.steps, ← c.outcome.view_is) at c.loop-outcome.invariant.weighing in
    let answered = rw c.loop-outcome.invariant.same_task at (kept_is c.in_ok-at.ensures.kept c.kept-kept.ensures) in
    rw (p.1, p.2) (sym (counts_differ _ _ _ _ _ _ on _ _ answered _ c.in_err-added.ensures c.loop-outcome.invariant.low))

pub solve_chance-loop-outcome-preserved : goal.solve_chance-loop-outcome-preserved
solve_chance-loop-outcome-preserved t c =
    let on = rw (c.in-Some.ensures.steps, ← c.outcome.view_is) at c.loop-outcome.invariant.weighing in
    let answered = rw c.loop-outcome.invariant.same_task at (kept_is c.in_ok-at.ensures.kept c.kept-kept.ensures) in
    let near = c.loop-outcome.invariant.low in
    let less = answered.low in
    let deep = deeper c.loop-outcome.deepest c.kept-kept.result.now.height c.max-deepest.result c.max-deepest.ensures in
    record {
      same_task = c.solve_node.ensures.same_task ∙ c.loop-outcome.invariant.same_task;
      stays = stays_then _ _ _ c.loop-outcome.invariant.stays c.solve_node.ensures.stays;
      low = omega arith;
      weighing = rw deep (outcome_goes _ _ _ _ _ _ on _ _ answered _ c.in_ok-added.ensures);
    }

pub solve_chance-returns-in_err-payoffs-clause-answer : goal.solve_chance-returns-in_err-payoffs-clause-answer
solve_chance-returns-in_err-payoffs-clause-answer t c =
    let p = err_from_is_err_and c.from_residual-in_err-payoffs.result c.from_residual-in_err-payoffs.ensures.1 in
    let none = c.ok_or.ensures.ok_part ∙ ap result_ok c.in_err-payoffs.was in
    let on = rw (c.in-None.ensures.steps.0, none) at c.loop-outcome.invariant.weighing in
    let missing = rw none at (sym c.ok_or.ensures.value ∙ c.in_err-payoffs.was) in
    rw (p.1, p.2) (sym (no_outcome _ _ _ None on _ c.loop-outcome.invariant.low ∙ same_refusal _ _ missing))

pub solve_chance-returns-then-not-is_in_range-clause-answer : goal.solve_chance-returns-then-not-is_in_range-clause-answer
solve_chance-returns-then-not-is_in_range-clause-answer t c =
    let on = rw (c.in-None.ensures.steps.0, c.ok_or.ensures.ok_part ∙ ap result_ok c.in_ok-payoffs.was) at c.loop-outcome.invariant.weighing in
    sym (all_outcomes _ _ _ None _ on _ c.loop-outcome.invariant.low ∙ out_of_range c.args.self.now.task.now _ _ (sym c.if-not-is_in_range.true ∙ c.is_in_range.ensures))

pub solve_chance-keep_over-requires-clause-right : goal.solve_chance-keep_over-requires-clause-right
solve_chance-keep_over-requires-clause-right t c =
    let on = rw (c.in-None.ensures.steps.0, c.ok_or.ensures.ok_part ∙ ap result_ok c.in_ok-payoffs.was) at c.loop-outcome.invariant.weighing in
    rw (c.loop-outcome.invariant.same_task, c.requires.node.entity)
    (answers _ _ _ _ _ _ c.loop-outcome.invariant.low (λ d h. all_outcomes _ _ _ None _ on d h ∙ all_in_range c.args.self.now.task.now _ _ (sym c.if-not-is_in_range.false ∙ c.is_in_range.ensures))).is_right

pub solve_chance-returns-clause-kept : goal.solve_chance-returns-clause-kept
solve_chance-returns-clause-kept t c =
    let on = rw (c.in-None.ensures.steps.0, c.ok_or.ensures.ok_part ∙ ap result_ok c.in_ok-payoffs.was) at c.loop-outcome.invariant.weighing in
    rw c.keep_over.ensures.kept (answers _ _ _ _ _ _ c.loop-outcome.invariant.low (λ d h. all_outcomes _ _ _ None _ on d h ∙ all_in_range c.args.self.now.task.now _ _ (sym c.if-not-is_in_range.false ∙ c.is_in_range.ensures)))

pub solve_chance-returns-clause-answer : goal.solve_chance-returns-clause-answer
solve_chance-returns-clause-answer t c =
    let on = rw (c.in-None.ensures.steps.0, c.ok_or.ensures.ok_part ∙ ap result_ok c.in_ok-payoffs.was) at c.loop-outcome.invariant.weighing in
    rw c.keep_over.ensures.kept (sym (all_outcomes _ _ _ None _ on _ c.loop-outcome.invariant.low ∙ all_in_range c.args.self.now.task.now _ _ (sym c.if-not-is_in_range.false ∙ c.is_in_range.ensures)))
