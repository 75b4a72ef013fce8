-- How long the texts are: all of them have room in the buffer.
use Rattle.std.proofs.Common.{◌≡◌, ℕ, ◌*◌, ◌≤◌, List, [], ◌∷◌, length, length-append, refl, arith, sym, ◌∙◌}
use Rattle.std.specs.Prelude.{flat_map, Option, None, Some, Result, Ok, Err}
use lib.ListN.{get_or-eq_default}
use Rattle.number.specs.Number.{Number, to_bits}
use Rattle.answer.specs.declared.Refusal.{Refusal}
use Rattle.answer.specs.Refusals.{numbered}
use Rattle.layout.specs.Layout.{row_count, root_of}
use Rattle.layout.proofs.LayoutLaws.{rows_bound, text_rows}
use Rattle.layout.specs.declared.section.Section.TheVariants.{Labels, Text}
use Rattle.opening.proofs.AcceptedFields.{label_in_text}
use Rattle.game.specs.Game.{Game, label_text}
use Rattle.sheet.specs.Meaning.{game_of, opening, Opens}
use Rattle.sheet.specs.Limit.{depth_of}
use Rattle.sheet.proofs.OpeningLaws.{opens_layout, done_opens}
use Rattle.sheet.proofs.LabelLaws.{label_count, label_is, label_length}
use Rattle.sheet.proofs.AcceptedGame.{accepted}
use Rattle.backward_induction.specs.declared.Method.TheVariants.{ChanceWeighted}
use Rattle.backward_induction.specs.Solve.{Solution}
use Rattle.backward_induction.specs.Call.{solution}
use Rattle.backward_induction.proofs.Bounds.{solve_sized}
use Rattle.backward_induction.proofs.CallLaws.{call_solves}
use Rattle.text.proofs.DigitLaws.{length_hexadecimal, decimal_most}
use Rattle.report.proofs.SolutionLaws.{printed_refused}
use Rattle.report.specs.Report.{terminal_line, action_line, payoff_line, spaced, refused_line, report, printed}

-- lines of at most k bytes
lines_most : {A : Type 0} (f : A → List ℕ) (k : ℕ) → ((x : A) → length (f x) ≤ k) → (xs : List A) → length (flat_map f xs) ≤ k * length xs
lines_most f k each [] = omega arith
lines_most f k each (x ∷ xs) = rw length-append (omega (arith, each x, lines_most f k each xs))

-- ---- a refusal
length_numbered : (r : Refusal) → length (numbered r) ≡ 5
length_numbered r = grind arith

refused_most : (r : Refusal) → length (refused_line r) ≤ 120
unfolding refused_line
refused_most r = simp length-append (omega (arith, lines_most spaced 21 (λ n. omega (arith, decimal_most n)) (numbered r), length_numbered r))

-- ---- a solution
terminal_most : (t : Option ℕ) → length (terminal_line t) ≤ 30
unfolding terminal_line
terminal_most None = omega arith
terminal_most (Some e) = simp length-append (omega (arith, decimal_most e))

pub payoff_length : (v : Number) → length (payoff_line v) ≡ 24
unfolding payoff_line
payoff_length v = simp length-append (omega (arith, length_hexadecimal (to_bits v)))

payoff_most : (v : Number) → length (payoff_line v) ≤ 24
payoff_most v = omega (arith, payoff_length v)

-- a number that no label has
pub no_label : (s : List ℕ) (n : ℕ) → row_count s Labels ≤ n → label_text (game_of s) n ≡ []
unfolding label_text
no_label s n l = get_or-eq_default (game_of s).labels [] {n = n} (rw (label_count s) l)

module _ (s : List ℕ) (ok : Opens s) where
  label_most : (n : ℕ) → length (label_text (game_of s) n) ≤ 4096
  label_most n = grind (arith, no_label s n, label_is s n, label_length s ok n, label_in_text s ok n, text_rows s, rows_bound s (opens_layout s ok) Text)

  action_most : (l : ℕ) → length (action_line (game_of s) l) ≤ 4104
  unfolding action_line
  action_most l = simp length-append (omega (arith, label_most l))

  solution_most : (x : Solution) → solution ChanceWeighted s (root_of s) 0 ≡ Ok x → length (report (game_of s) (Ok x)) ≤ 280000
  unfolding report depth_of
  solution_most x e =
      let h = solve_sized ChanceWeighted (game_of s) (accepted s ok) 32 (root_of s) x (sym (call_solves ChanceWeighted s (root_of s) 0 (omega arith) ok) ∙ e) in
      simp length-append (omega (arith, h.actions, h.few_payoffs, terminal_most x.terminal, lines_most (action_line (game_of s)) 4104 action_most x.actions, lines_most payoff_line 24 payoff_most x.payoffs))

  answer_most : (a : Result Solution Refusal) → solution ChanceWeighted s (root_of s) 0 ≡ a → length (printed s) ≤ 280000
  unfolding printed report
  answer_most (Ok x) e = rw e (solution_most x e)
  answer_most (Err r) e = rw e (omega (arith, refused_most r))

-- ---- what is printed for any bytes
pub printed_most : (s : List ℕ) → length (printed s) ≤ 280000
printed_most s = go (opening s) refl
  where
    go : (o : Result Game Refusal) → opening s ≡ o → length (printed s) ≤ 280000
    go (Ok g) e = done_opens s g e λ ok same. answer_most s ok (solution ChanceWeighted s (root_of s) 0) refl
    go (Err r) e = rw (printed_refused s r e) (omega (arith, refused_most r))
