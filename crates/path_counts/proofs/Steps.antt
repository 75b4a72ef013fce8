-- The counts of a node by its kind, and by its edges: what the walk that counts goes by.
use Rattle.std.proofs.Common.{◌≡◌, ℕ, zero, suc, ◌+◌, ◌≤◌, min, List, [], ◌∷◌, ◌++◌, length, None, Some, Result, Ok, Err, ok_or, refl, sym, ap, ◌∙◌, arith, add-one, append-nil, append_assoc, length-append}
use lib.ListN.{length-map}
use Rattle.std.proofs.lemmas.Grind.{flat_map-append}
use Rattle.answer.specs.Checks.{◌>>=◌}
use Rattle.answer.specs.declared.Refusal.{Refusal}
use Rattle.answer.specs.declared.Refusal.TheVariants.{DepthSpent, MissingNode, MissingTerminalUtility}
use Rattle.sheet.specs.Meaning.{payoff_row, game_of}
use Rattle.sheet.specs.Found.{terminal_in}
use Rattle.sheet.specs.declared.Terminal.{Terminal}
use Rattle.rows.proofs.StoreLaws.{length_rows}
use Rattle.game.specs.declared.ActionEdge.{ActionEdge}
use Rattle.game.specs.declared.Kind.{Kind}
use Rattle.game.specs.declared.Kind.TheVariants as Kinds
use Rattle.game.specs.Game.{Game, kind_of, terminal_of}
use Rattle.game.specs.Edges.{outgoing_action_edges}
use Rattle.path_counts.specs.declared.Counts.{Counts}
use Rattle.path_counts.specs.Paths.{Path, prefixed, along, by_edges, paths_at, paths, record_of, records}
use Rattle.path_counts.specs.Counts.{cap, counts_of, counts_at, path_to, added, counts_from, counts_by_edges, IsTerminal, GoesByEdges}
use Rattle.memo.specs.Kept.{IsRight}
use Rattle.memo.proofs.KeptLaws.{answers}

-- steps one after the other, either two first
bind_assoc : {A B C : Type 0} (a : Result A Refusal) (f : A → Result B Refusal) (k : B → Result C Refusal) → ((a >>= f) >>= k) ≡ (a >>= λ x. f x >>= k)
bind_assoc (Ok x) f k = refl
bind_assoc (Err r) f k = refl

-- ---- a node by its kind
module _ (g : Game) (e : ℕ) where
  pub counts_zero : (left : ℕ) → left ≡ 0 → counts_at g left e ≡ Err (DepthSpent e)
  unfolding counts_at paths
  counts_zero left h = rw h

  pub counts_missing : (left : ℕ) → (left ≡ 0 → ⊥) → kind_of g e ≡ None → counts_at g left e ≡ Err (MissingNode e)
  unfolding counts_at paths
  counts_missing zero some h = absurd (some refl)
  counts_missing (suc d) some h = rw h

  pub terminal_counts : kind_of g e ≡ Some Kinds.Terminal → IsTerminal g e
  unfolding counts_at paths paths_at
  terminal_counts h = record { step = λ d. rw (add-one, h) (bind_assoc (ok_or (terminal_of g e) (MissingTerminalUtility e)) (λ t. Ok (path_to e t ∷ [])) _) }

-- ---- the counts by edges are those of the paths along them
-- a label more for each path
length_records_prefixed : (label : ℕ) (ps : List Path) → length (records (prefixed (label ∷ []) ps)) ≡ length (records ps) + length ps
unfolding prefixed record_of
length_records_prefixed label [] = omega arith
length_records_prefixed label (p ∷ ps) = simp length-append (omega (arith, length_records_prefixed label ps))

-- the counts of the paths so far and of one edge more
counts_added : (ps : List Path) (label : ℕ) (qs : List Path) → added (Some (counts_of ps)) (counts_of qs) ≡ counts_of (ps ++ prefixed (label ∷ []) qs)
unfolding added prefixed
counts_added ps label qs =
    let words : length (records (ps ++ prefixed (label ∷ []) qs)) ≡ length (records ps) + (length (records qs) + length qs) = rw (flat_map-append, length-append, length_records_prefixed) in
    rw (length-append, length-map, words) (grind arith)

module _ (f : ℕ → Result (List Path) Refusal) (e : ℕ) where
  abbrev counted : ℕ → Result Counts Refusal
  counted t = f t >>= λ ps. Ok (counts_of ps)

  counts_along : (xs : List ActionEdge) (ps : List Path) → counts_from counted e (Some (counts_of ps)) xs ≡ (along f xs >>= λ qs. Ok (counts_of (ps ++ qs)))
  unfolding along
  counts_along [] ps = rw append-nil
  counts_along (x ∷ xs) ps = next (f x.target) (along f xs) (counts_along xs)
    where
      next : (a b : Result (List Path) Refusal) → ((ps : List Path) → counts_from counted e (Some (counts_of ps)) xs ≡ (b >>= λ qs. Ok (counts_of (ps ++ qs))))
          → ((a >>= λ qs. Ok (counts_of qs)) >>= λ c. counts_from counted e (Some (added (Some (counts_of ps)) c)) xs) ≡ ((a >>= λ qs. b >>= λ rs. Ok (prefixed (x.label ∷ []) qs ++ rs)) >>= λ qs. Ok (counts_of (ps ++ qs)))
      next (Err r) b rest = refl
      next (Ok qs) (Err r) rest = rw (counts_added ps x.label qs) (rest _)
      next (Ok qs) (Ok rs) rest = rw (counts_added ps x.label qs, ← append_assoc) (rest _)

  counts_all : (edges : Result (List ActionEdge) Refusal) → ((edges >>= by_edges f e) >>= λ ps. Ok (counts_of ps)) ≡ (edges >>= counts_from counted e None)
  unfolding by_edges added
  counts_all (Err r) = refl
  counts_all (Ok []) = refl
  counts_all (Ok (x ∷ xs)) = sym (counts_along (x ∷ xs) [])

module _ (g : Game) (e : ℕ) where
  -- decisions and chance nodes alike
  pub edge_counts : (k : Kind) → kind_of g e ≡ Some k → (k ≡ Kinds.Terminal → ⊥) → GoesByEdges g e
  unfolding counts_at paths paths_at counts_by_edges
  edge_counts (Kinds.Decision p) h other = record { step = λ d. rw (add-one, h) (counts_all (paths g d) e (outgoing_action_edges g e)) }
  edge_counts Kinds.Chance h other = record { step = λ d. rw (add-one, h) (counts_all (paths g d) e (outgoing_action_edges g e)) }
  edge_counts Kinds.Terminal h other = absurd (other refl)

  pub edges_counted : (f : ℕ → Result Counts Refusal) (edges : Result (List ActionEdge) Refusal) → edges ≡ outgoing_action_edges g e → counts_by_edges g f e ≡ (edges >>= counts_from f e None)
  unfolding counts_by_edges
  edges_counted f edges h = rw h

-- a terminal that a lookup found
module _ (s : List ℕ) (e : ℕ) (ends : IsTerminal (game_of s) e) (t : Terminal) (found : terminal_of (game_of s) e ≡ Some (terminal_in s t)) (few : t.count ≤ 8) where
  one_counted : counts_of (path_to e (terminal_in s t) ∷ []) ≡ record { paths = 1; words = 3 + t.count }
  unfolding record_of
  one_counted =
      let payoffs : length (terminal_in s t).payoffs ≡ t.count = length_rows (payoff_row s) t.first t.count in
      let words : min cap (length (records (path_to e (terminal_in s t) ∷ []))) ≡ 3 + t.count = simp (length-append, length-map) (omega arith) in
      cc

  pub one_path : (d : ℕ) → counts_at (game_of s) (d + 1) e ≡ Ok (record { paths = 1; words = 3 + t.count })
  one_path d = ends.step d ∙ rw found (ap Ok one_counted)

  pub right_path : IsRight (counts_at (game_of s)) (λ c. c) e (record { height = 1; answer = record { paths = 1; words = 3 + t.count } })
  right_path = (answers _ _ e 0 0 _ (omega arith) (λ d _. one_path d)).is_right

pub ruleset terminal_steps = (one_path, right_path)

pub ruleset steps = (counts_zero, counts_missing, terminal_counts, edge_counts, edges_counted)
