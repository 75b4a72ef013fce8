-- The actions along a play, one node at a time.
use Rattle.std.proofs.Common.{◌≡◌, ℕ, zero, suc, ◌+◌, ◌-◌, ◌<◌, ◌≤◌, List, [], ◌∷◌, ◌++◌, Err, length, take, drop, replicate, slice_set, refl, ap, arith, add-one, length-append}
use lib.ListN.{length-take}
use Rattle.answer.specs.declared.Refusal.{Refusal}
use Rattle.sheet.proofs.AcceptedGame.{accepted}
use Rattle.backward_induction.proofs.Bounds.{solve_sized}
use Rattle.memo.specs.declared.Kept.{Kept}
use Rattle.turns.specs.declared.Play.{Play}
use Rattle.turns.specs.Plays.{actions_from}
use Rattle.solver.specs.declared.task.Task.{Task}
use Rattle.solver.specs.Tasks.{solved, actions_in, actions_at, Answered}

-- what a node's answer at the greatest depth says of its actions
pub actions_solved : (t : Task) (e : ℕ) (kept : Kept Play) → Answered t 64 e kept → actions_at t e ≡ actions_from (actions_at t) kept.answer.first
unfolding actions_at
actions_solved t e kept a = ap actions_in (a.is_right.right 64 a.low)

pub actions_refused : (t : Task) (e : ℕ) (r : Refusal) → solved t 64 e ≡ Err r → actions_at t e ≡ []
unfolding actions_at
actions_refused t e r h = ap actions_in h

-- with a depth of at most 64 an answer has at most 64 actions
pub few_actions : (t : Task) (depth e : ℕ) (kept : Kept Play) → depth ≤ 64 → Answered t depth e kept → length (actions_from (actions_at t) kept.answer.first) ≤ 64
few_actions t depth e kept low a = let few = (solve_sized t.method _ (accepted _ t.links.lookup.noted.opens) depth e _ (a.is_right.right depth a.low)).actions in omega arith

pub ruleset plays = (actions_solved, actions_refused)

-- one more label written behind those before
label_suc : (out rest : List ℕ) (n v : ℕ) → n < length out → take n out ++ v ∷ rest ≡ take (suc n) (slice_set out n v) ++ rest
label_suc [] rest n v h = absurd (omega (arith, h))
label_suc (x ∷ out) rest zero v h = refl
label_suc (x ∷ out) rest (suc n) v h = ap (λ (ys : List ℕ). x ∷ ys) (label_suc out rest n v (omega (arith, h)))

pub label_next : (out rest : List ℕ) (n v : ℕ) → n < length out → take n out ++ v ∷ rest ≡ take (n + 1) (slice_set out n v) ++ rest
label_next out rest n v h = rw add-one (label_suc out rest n v h)

rest_suc : (out : List ℕ) (n v k : ℕ) → n < length out → drop n out ≡ replicate (suc k) 0 → drop (suc n) (slice_set out n v) ≡ replicate k 0
rest_suc [] n v k h e = absurd (omega (arith, h))
rest_suc (x ∷ out) zero v k h e = cc
rest_suc (x ∷ out) (suc n) v k h e = rest_suc out n v k (omega (arith, h)) e

pub rest_next : (out : List ℕ) (n v : ℕ) → n < length out → n < 64 → drop n out ≡ replicate (64 - n) 0 → drop (n + 1) (slice_set out n v) ≡ replicate (64 - (n + 1)) 0
rest_next out n v h l e = let more : 64 - n ≡ suc (64 - (n + 1)) = omega arith in rw add-one (rest_suc out n v _ h (rw (more, add-one) at e))

-- a play of at most 64 actions has room for one more label
pub label_room : (all out rest : List ℕ) (n v : ℕ) → all ≡ take n out ++ v ∷ rest → length all ≤ 64 → length out ≡ 64 → n < 64
label_room all out rest n v e h long = omega (arith, ap length e, length-append (take n out) (v ∷ rest), length-take n out)
