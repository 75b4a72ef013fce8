-- Of a sheet that opens the payoffs of a solution are finite, so that they can be printed; and what the program prints.
use Rattle.std.proofs.Common.{◌≡◌, ℕ, ◌≤◌, ◌<◌, T, List, length, get_or, sym, ap, ◌∙◌, arith}
use Rattle.std.specs.Prelude.{Err, Ok}
use Rattle.std.specs.List.{All}
use Rattle.std.proofs.lemmas.Option.{slice_get-get_or}
use mathlib.Core.List.{map}
use lib.Ieee.{Float, nan}
use lib.ListN.{length-map, get_or-map}
use Rattle.number.specs.Number.{is_finite}
use Rattle.number.specs.Meaning.{meaning}
use Rattle.answer.specs.declared.Refusal.{Refusal}
use Rattle.layout.specs.Layout.{root_of}
use Rattle.sheet.specs.Meaning.{game_of, opening, Opens}
use Rattle.sheet.specs.Limit.{depth_of}
use Rattle.sheet.proofs.AcceptedGame.{accepted}
use Rattle.backward_induction.specs.declared.Method.{Method}
use Rattle.backward_induction.specs.declared.Method.TheVariants.{ChanceWeighted}
use Rattle.backward_induction.specs.Call.{solution}
use Rattle.backward_induction.proofs.NoBetter.{solve_finite}
use Rattle.backward_induction.proofs.CallLaws.{call_unopened, call_solves}
use Rattle.turns.specs.Payoffs.{payoffs_of}
use Rattle.solver.specs.declared.solution.Solution.{Solution as Answer}
use Rattle.solver.specs.Solutions.{solution_of}
use Rattle.report.specs.Report.{refused_line, report, printed}

pub payoff_finite : (xs : List Float) (j : ℕ) → j < length xs → All (λ p. T (is_finite p)) (map meaning xs) → T (is_finite (meaning (get_or xs j nan)))
payoff_finite xs j l h = rw (get_or-map meaning xs j nan) at (h j (meaning nan) (rw length-map l))

-- a solution of a sheet that opens
pub solution_finite : (method : Method) (s : List ℕ) (start limit : ℕ) (x : Answer) → Opens s → limit ≤ 64 → Ok (solution_of x) ≡ solution method s start limit → All (λ p. T (is_finite p)) (payoffs_of x.payoffs)
solution_finite method s start limit x ok most e i d l =
    solve_finite method (game_of s) (accepted s ok) (depth_of limit) start (solution_of x) (sym (e ∙ call_solves method s start limit most ok)) i _ (slice_get-get_or _ i d l)

-- what the program prints
pub printed_refused : (s : List ℕ) (r : Refusal) → opening s ≡ Err r → printed s ≡ refused_line r
unfolding printed report
printed_refused s r e = ap (report (game_of s)) (call_unopened ChanceWeighted s (root_of s) 0 (omega arith) r e)
