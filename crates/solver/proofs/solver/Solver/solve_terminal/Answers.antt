-- A terminal's answer is the same with any depth.
use Rattle.std.proofs.Common.{◌≡◌, ◌+◌, ℕ, sym, ◌∙◌, ap, arith, Ok, None, Some, option_map}
use Rattle.std.proofs.lemmas.Result.{err_from_is_err_and}
use Rattle.std.specs.Result.{result_ok}
use Rattle.game.specs.declared.Kind.TheVariants as Kinds
use Rattle.game.specs.Game.{TerminalUtility, terminal_of}
use Rattle.sheet.specs.Meaning.{game_of}
use Rattle.sheet.specs.Found.{terminal_in}
use Rattle.turns.specs.declared.Play.{Play}
use Rattle.turns.specs.declared.payoffs.Payoffs.{Payoffs}
use Rattle.turns.specs.Payoffs.{payoffs_of}
use Rattle.solver.specs.declared.task.Task.{Task}
use Rattle.solver.specs.Kinds.{GoesBy}
use Rattle.memo.specs.Kept.{IsRight}
use Rattle.solver.specs.Tasks.{bytes_of, solved, told_of}
use Rattle.memo.proofs.KeptLaws.{answers}
use Rattle.solver.proofs.LoopLaws.{same_refusal}
use Rattle.solver.proofs.KindLaws.{terminal_missing, terminal_found}
use Rattle.solver.proofs.solver.Solver.solve_terminal.Goals as goal

pub returns-in_err-terminal-clause-answer : goal.returns-in_err-terminal-clause-answer
returns-in_err-terminal-clause-answer c =
    let p = err_from_is_err_and c.from_residual.result c.from_residual.ensures.1 in
    let none = c.ok_or.ensures.ok_part ∙ ap result_ok c.in_err-terminal.was in
    let missing = rw none at (sym c.ok_or.ensures.value ∙ c.in_err-terminal.was) in
    λ left. rw (p.1, p.2) (sym (terminal_missing _ _ c.requires.kind (rw none at (sym c.terminal_of.ensures.terminal)) left ∙ same_refusal _ _ missing))

module _ (t : Task) (e : ℕ) (payoffs : Payoffs) (u : TerminalUtility) (goes : GoesBy t e Kinds.Terminal) (found : terminal_of (game_of (bytes_of t)) e ≡ Some u) (worth : payoffs_of payoffs ≡ u.payoffs) where
  abbrev play : Play
  play = record { terminal = Some e; first = None; payoffs = payoffs }

  solved_so : (left : ℕ) → solved t (left + 1) e ≡ Ok (told_of t play)
  solved_so left = rw (worth, play) (terminal_found t e goes u found left)

  right : IsRight (solved t) (told_of t) e (record { height = 1; answer = play })
  right = (answers _ _ e 0 0 play (omega arith) (λ d h. solved_so d)).is_right

pub keep_over-requires-clause-right : goal.keep_over-requires-clause-right
keep_over-requires-clause-right c =
    let some = c.ok_or.ensures.ok_part ∙ ap result_ok c.in_ok-terminal.was in
    rw c.requires.node.entity (right _ _ _ _ c.requires.kind (sym c.terminal_of.ensures.terminal ∙ ap (option_map (terminal_in (bytes_of c.args.self.now.task.now))) some) c.payoffs-payoffs.ensures)

pub returns-clause-kept : goal.returns-clause-kept
returns-clause-kept c =
    let some = c.ok_or.ensures.ok_part ∙ ap result_ok c.in_ok-terminal.was in
    rw c.keep_over.ensures.kept (right _ _ _ _ c.requires.kind (sym c.terminal_of.ensures.terminal ∙ ap (option_map (terminal_in (bytes_of c.args.self.now.task.now))) some) c.payoffs-payoffs.ensures)

pub returns-clause-answer : goal.returns-clause-answer
returns-clause-answer c = λ left.
    let some = c.ok_or.ensures.ok_part ∙ ap result_ok c.in_ok-terminal.was in
    rw c.keep_over.ensures.kept (sym (solved_so _ _ c.payoffs-payoffs.result _ c.requires.kind (sym c.terminal_of.ensures.terminal ∙ ap (option_map (terminal_in (bytes_of c.args.self.now.task.now))) some) c.payoffs-payoffs.ensures left))
