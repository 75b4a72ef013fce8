-- One edge's turn at a decision and at a chance node, and the end of the edges.
use Rattle.std.proofs.Common.{◌≡◌, ℕ, ◌+◌, ◌≤◌, max, Bool, true, false, List, [], ◌∷◌, Option, None, Some, Result, Ok, Err, option_map, refl, sym, ap, ◌∙◌, arith}
use mathlib.Core.Bool.{cond}
use Rattle.std.specs.Ordering.{ord_max, nat_cmp}
use Rattle.std.proofs.lemmas.Grind.{common_steps}
use Rattle.answer.specs.Checks.{◌>>=◌}
use Rattle.answer.specs.declared.Refusal.{Refusal}
use Rattle.answer.specs.declared.Refusal.TheVariants.{NoOutgoingActions, NoOutgoingChanceOutcomes}
use Rattle.number.specs.Number.{Number, less}
use Rattle.number.specs.Meaning.{meaning}
use Rattle.game.specs.declared.ActionEdge.{ActionEdge}
use Rattle.game.specs.Chance.{Chance}
use Rattle.backward_induction.specs.Solve.{Solution, Solver, Reply, reply, better, taken, weighed}
use Rattle.backward_induction.specs.Turns.{leading, best_from, added_to, sums_from}
use Rattle.memo.specs.declared.Kept.{Kept}
use Rattle.turns.specs.declared.Play.{Play}
use Rattle.turns.specs.declared.Reply.{Reply as Candidate}
use Rattle.turns.specs.declared.payoffs.Payoffs.{Payoffs}
use Rattle.turns.specs.Payoffs.{payoffs_of}
use Rattle.turns.specs.Plays.{actions_from, replied, reply_of, better_of}
use Rattle.solver.specs.declared.task.Task.{Task}
use Rattle.solver.specs.Tasks.{solved, actions_in, actions_at, told_of, Answered}
use Rattle.solver.specs.Loops.{IsLead, Deciding, Weighing}

-- the greater of two heights
pub deeper : (a b m : ℕ) → m ≡ ord_max nat_cmp a b → m ≡ max a b
deeper a b m h = grind (arith, common_steps)

-- a refusal whatever was asked for
pub same_refusal : {A B : Type 0} (a b : Refusal) → ◌≡◌ {A = Result A Refusal} (Err a) (Err b) → ◌≡◌ {A = Result B Refusal} (Err a) (Err b)
same_refusal a b h = let e : a ≡ b = cc in ap Err e

-- ---- replies
reply_by : (f : Solver) (p : ℕ) (x : ActionEdge) (s : Solution) → f x.target ≡ Ok s → reply f p x ≡ replied x s p
unfolding reply
reply_by f p x s h = rw h refl

reply_stops : (f : Solver) (p : ℕ) (x : ActionEdge) (r : Refusal) → f x.target ≡ Err r → reply f p x ≡ Err r
unfolding reply
reply_stops f p x r h = rw h refl

best_stops : (f : Solver) (e p : ℕ) (lead : Option Reply) (x : ActionEdge) (xs : List ActionEdge) (r : Refusal) → reply f p x ≡ Err r → best_from f e p lead (x ∷ xs) ≡ Err r
unfolding best_from
best_stops f e p lead x xs r h = rw h refl

best_goes : (f : Solver) (e p : ℕ) (lead : Option Reply) (x : ActionEdge) (xs : List ActionEdge) (y : Reply) → reply f p x ≡ Ok y
    → best_from f e p lead (x ∷ xs) ≡ best_from f e p (Some (leading lead y)) xs
unfolding best_from
best_goes f e p lead x xs y h = rw h refl

module _ (rest : ℕ → List ℕ) where
  lead_better : (lead : Option Candidate) (r : Candidate) → leading (option_map (reply_of rest) lead) (reply_of rest r) ≡ reply_of rest (better_of lead r)
  unfolding better
  lead_better None r = refl
  lead_better (Some k) r = go (less (meaning k.payoff) (meaning r.payoff))
    where
      go : (b : Bool) → cond b (reply_of rest r) (reply_of rest k) ≡ reply_of rest (cond b r k)
      go true = refl
      go false = refl

-- the answer of a node, at the depth that a solve has at most
answered_actions : (t : Task) (left e : ℕ) (kept : Kept Play) → Answered t left e kept → left ≤ 64 → actions_at t e ≡ actions_from (actions_at t) kept.answer.first
unfolding actions_at
answered_actions t left e kept a low =
    let near = a.low in
    ap actions_in (a.is_right.right 64 (omega arith))

better_follows : (t : Task) (lead : Option Candidate) (r : Candidate) → IsLead t lead → actions_at t r.edge.target ≡ actions_from (actions_at t) r.play.first → IsLead t (Some (better_of lead r))
better_follows t None r is h = record { follows = λ q e. let same : r ≡ q = cc in rw (← same) h }
better_follows t (Some k) r is h = record { follows = λ q e. go (less (meaning k.payoff) (meaning r.payoff)) q (cc) }
  where
    go : (b : Bool) (q : Candidate) → cond b r k ≡ q → actions_at t q.edge.target ≡ actions_from (actions_at t) q.play.first
    go true q e = rw (← e) h
    go false q e = rw (← e) (is.follows k refl)

module _ (t : Task) (e p deepest : ℕ) (lead : Option Candidate) where
  -- ---- the end
  pub no_reply : Deciding t e p deepest None [] → (d : ℕ) → deepest ≤ d → solved t (d + 1) e ≡ Err (NoOutgoingActions e)
  unfolding best_from
  no_reply on d h = on.left d h

  pub best_reply : (r : Candidate) → Deciding t e p deepest (Some r) [] → (d : ℕ) → deepest ≤ d → solved t (d + 1) e ≡ Ok (taken (reply_of (actions_at t) r))
  unfolding best_from
  best_reply r on d h = on.left d h

  module _ (x : ActionEdge) (xs : List ActionEdge) (on : Deciding t e p deepest lead (x ∷ xs)) where
    pub target_refused : (d : ℕ) (r : Refusal) → deepest ≤ d → solved t d x.target ≡ Err r → solved t (d + 1) e ≡ Err r
    target_refused d r l h = on.left d l ∙ ap (λ a. a >>= λ r. Ok (taken r)) (best_stops _ e p _ x _ r (reply_stops _ p x r h))

    module _ (left : ℕ) (kept : Kept Play) (answered : Answered t left x.target kept) (low : left ≤ 64) where
      pub reply_refused : (r : Refusal) → Err r ≡ replied x (told_of t kept.answer) p → deepest ≤ left → solved t (left + 1) e ≡ Err r
      reply_refused r q l =
          let near = answered.low in
          on.left left l ∙ ap (λ a. a >>= λ r. Ok (taken r)) (best_stops _ e p _ x _ r (reply_by _ p x _ (answered.is_right.right left near) ∙ sym q))

      pub reply_goes : (r : Candidate) → Ok (reply_of (actions_at t) r) ≡ replied x (told_of t kept.answer) p → r.edge ≡ x → r.play ≡ kept.answer
          → Deciding t e p (max deepest kept.height) (Some (better_of lead r)) xs
      reply_goes r q same_edge same_play =
          record {
            lead_is = better_follows t lead r on.lead_is (rw (same_edge, same_play) (answered_actions t left x.target kept answered low));
            left = λ d h.
                on.left d (omega arith)
                ∙ ap (λ a. a >>= λ r. Ok (taken r))
                (best_goes _ e p _ x _ _ (reply_by _ p x _ (answered.is_right.right d (omega arith)) ∙ sym q)
                ∙ ap (λ y. best_from (solved t d) e p (Some y) xs) (lead_better (actions_at t) lead r));
          }

-- the play of the best reply
pub play_taken : (t : Task) (r : Candidate) (play : Play) → IsLead t (Some r) → play.terminal ≡ r.play.terminal → play.first ≡ Some r.edge → play.payoffs ≡ r.play.payoffs
    → told_of t play ≡ taken (reply_of (actions_at t) r)
unfolding taken
play_taken t r play is terminal first payoffs = rw (terminal, first, payoffs, is.follows r refl) refl

-- ---- a chance node
sums_stop : (f : Solver) (e : ℕ) (sums : Option (List Number)) (o : Chance) (os : List Chance) (r : Refusal) → f o.target ≡ Err r → sums_from f e sums (o ∷ os) ≡ Err r
unfolding sums_from
sums_stop f e sums o os r h = rw h refl

sums_turn : (f : Solver) (e : ℕ) (sums : Option (List Number)) (o : Chance) (os : List Chance) (s : Solution) → f o.target ≡ Ok s
    → sums_from f e sums (o ∷ os) ≡ (added_to e sums o.probability s.payoffs >>= λ more. sums_from f e (Some more) os)
unfolding sums_from
sums_turn f e sums o os s h = rw h refl

sums_refused : (f : Solver) (e : ℕ) (sums : Option (List Number)) (o : Chance) (os : List Chance) (s : Solution) (r : Refusal) → f o.target ≡ Ok s → Err r ≡ added_to e sums o.probability s.payoffs
    → sums_from f e sums (o ∷ os) ≡ Err r
sums_refused f e sums o os s r h q = sums_turn f e sums o os s h ∙ rw (← q) refl

sums_go : (f : Solver) (e : ℕ) (sums : Option (List Number)) (o : Chance) (os : List Chance) (s : Solution) (more : List Number) → f o.target ≡ Ok s → Ok more ≡ added_to e sums o.probability s.payoffs
    → sums_from f e sums (o ∷ os) ≡ sums_from f e (Some more) os
sums_go f e sums o os s more h q = sums_turn f e sums o os s h ∙ rw (← q) refl

module _ (t : Task) (e deepest : ℕ) (sums : Option Payoffs) where
  pub no_outcome : Weighing t e deepest None [] → (d : ℕ) → deepest ≤ d → solved t (d + 1) e ≡ Err (NoOutgoingChanceOutcomes e)
  unfolding sums_from
  no_outcome on d h = on.left d h

  pub all_outcomes : (q : Payoffs) → Weighing t e deepest (Some q) [] → (d : ℕ) → deepest ≤ d → solved t (d + 1) e ≡ weighed e (payoffs_of q)
  unfolding sums_from
  all_outcomes q on d h = on.left d h

  module _ (o : Chance) (os : List Chance) (on : Weighing t e deepest sums (o ∷ os)) where
    pub outcome_refused : (d : ℕ) (r : Refusal) → deepest ≤ d → solved t d o.target ≡ Err r → solved t (d + 1) e ≡ Err r
    outcome_refused d r l h = on.left d l ∙ ap (λ a. a >>= weighed e) (sums_stop _ e _ o _ r h)

    module _ (left : ℕ) (kept : Kept Play) (answered : Answered t left o.target kept) where
      pub counts_differ : (r : Refusal) → Err r ≡ added_to e (option_map payoffs_of sums) o.probability (payoffs_of kept.answer.payoffs) → deepest ≤ left → solved t (left + 1) e ≡ Err r
      counts_differ r q l =
          let near = answered.low in
          on.left left l ∙ ap (λ a. a >>= weighed e) (sums_refused _ e _ o _ _ r (answered.is_right.right left near) q)

      pub outcome_goes : (more : Payoffs) → Ok (payoffs_of more) ≡ added_to e (option_map payoffs_of sums) o.probability (payoffs_of kept.answer.payoffs)
          → Weighing t e (max deepest kept.height) (Some more) os
      outcome_goes more q =
          record {
            left = λ d h.
                on.left d (omega arith)
                ∙ ap (λ a. a >>= weighed e) (sums_go _ e _ o _ _ (payoffs_of more) (answered.is_right.right d (omega arith)) q);
          }
