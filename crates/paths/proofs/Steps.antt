-- The words of a node's paths: those of a terminal, and those along the edges of a node that goes by them.
use Rattle.std.proofs.Common.{◌≡◌, ℕ, zero, suc, ◌-◌, ◌<◌, List, [], ◌∷◌, ◌++◌, length, take, take_at, length-append, Result, Ok, Err, refl, sym, ap, ◌∙◌, arith, append-nil, append_assoc}
use mathlib.Core.List.{flat_map}
use Rattle.answer.specs.Checks.{◌>>=◌, checked}
use Rattle.answer.specs.declared.Refusal.{Refusal}
use Rattle.game.specs.declared.ActionEdge.{ActionEdge}
use Rattle.game.specs.Game.{Game}
use Rattle.game.specs.Edges.{outgoing_action_edges}
use Rattle.sheet.specs.declared.Terminal.{Terminal}
use Rattle.sheet.specs.Meaning.{game_of}
use Rattle.path_counts.specs.Paths.{Path, prefixed, along, by_edges, paths, record_of, records}
use Rattle.std.proofs.lemmas.Grind.{flat_map-append}
use Rattle.paths.specs.Writing.{words_from, words_along, path_to, EndsAt, GoesOn}

-- what is not refused is Ok
found : {A P : Type 0} (a : Result A Refusal) → checked a ≡ Ok tt → ((x : A) → a ≡ Ok x → P) → P
found (Ok x) h next = next x refl
found (Err r) h next = absurd cc

-- no depth, no paths
pub some_depth : (g : Game) (e left : ℕ) → checked (paths g left e) ≡ Ok tt → 0 < left
unfolding paths
some_depth g e zero h = absurd cc
some_depth g e (suc d) h = omega arith

-- ---- labels in front of paths
module _ (ls : List ℕ) where
  -- one label more
  prefixed_snoc : (l : ℕ) (ps : List Path) → prefixed (ls ++ (l ∷ [])) ps ≡ prefixed ls (prefixed (l ∷ []) ps)
  unfolding prefixed
  prefixed_snoc l [] = refl
  prefixed_snoc l (p ∷ ps) = rw (append_assoc, prefixed_snoc l ps)

  prefixed_append : (ps qs : List Path) → prefixed ls (ps ++ qs) ≡ prefixed ls ps ++ prefixed ls qs
  unfolding prefixed
  prefixed_append [] qs = refl
  prefixed_append (p ∷ ps) qs = rw (prefixed_append ps qs)

pub prefixed_none : (ps : List Path) → prefixed [] ps ≡ ps
unfolding prefixed
prefixed_none [] = refl
prefixed_none (p ∷ ps) = rw (prefixed_none ps)

pub words_are : (g : Game) (left e : ℕ) (labels : List ℕ) (ps : List Path) → paths g left e ≡ Ok ps → words_from g left e labels ≡ records (prefixed labels ps)
unfolding words_from
words_are g left e labels ps h = rw h

-- a terminal's words are the record of the path to it
pub terminal_words : (s : List ℕ) (e left : ℕ) (t : Terminal) (labels : List ℕ) → EndsAt s e t → checked (paths (game_of s) left e) ≡ Ok tt
    → words_from (game_of s) left e labels ≡ record_of (path_to s t labels)
unfolding flat_map prefixed paths
terminal_words s e zero t labels ends h = absurd cc
terminal_words s e (suc d) t labels ends h = words_are (game_of s) (suc d) e labels _ (ends.one_path d) ∙ rw (append-nil, append-nil)

-- ---- along edges
-- where the edges have no fault
pub record IsSound (g : Game) (left : ℕ) (xs : List ActionEdge) : Type 0 where
  pub sound : checked (along (paths g left) xs) ≡ Ok tt

module _ (g : Game) (left : ℕ) where
  words_edges : (labels : List ℕ) (xs : List ActionEdge) (ps : List Path) → along (paths g left) xs ≡ Ok ps → words_along g left labels xs ≡ records (prefixed labels ps)
  unfolding along words_along prefixed flat_map
  words_edges labels [] ps h = let none : ps ≡ [] = cc in rw none
  words_edges labels (x ∷ xs) ps h = next (paths g left x.target) (along (paths g left) xs) refl refl h (words_edges labels xs)
    where
      next : (a b : Result (List Path) Refusal) → paths g left x.target ≡ a → along (paths g left) xs ≡ b
          → (a >>= λ qs. b >>= λ rs. Ok (prefixed (x.label ∷ []) qs ++ rs)) ≡ Ok ps
          → ((rs : List Path) → along (paths g left) xs ≡ Ok rs → words_along g left labels xs ≡ records (prefixed labels rs))
          → words_from g left x.target (labels ++ x.label ∷ []) ++ words_along g left labels xs ≡ records (prefixed labels ps)
      next (Err r) b p q e rest = absurd cc
      next (Ok qs) (Err r) p q e rest = absurd cc
      next (Ok qs) (Ok rs) p q e rest =
          let all : prefixed (x.label ∷ []) qs ++ rs ≡ ps = cc in
          rw (← all, prefixed_append labels, flat_map-append, ← prefixed_snoc labels, words_are g left x.target (labels ++ x.label ∷ []) qs p, rest rs q)

  pub edge_sound : (x : ActionEdge) (xs : List ActionEdge) → IsSound g left (x ∷ xs) → (checked (paths g left x.target) ≡ Ok tt) × IsSound g left xs
  unfolding along
  edge_sound x xs h = go (paths g left x.target) (along (paths g left) xs) refl refl h.sound
    where
      go : (a b : Result (List Path) Refusal) → paths g left x.target ≡ a → along (paths g left) xs ≡ b → checked (a >>= λ qs. b >>= λ rs. Ok (prefixed (x.label ∷ []) qs ++ rs)) ≡ Ok tt
          → (checked (paths g left x.target) ≡ Ok tt) × IsSound g left xs
      go (Err r) b p q e = absurd cc
      go (Ok qs) (Err r) p q e = absurd cc
      go (Ok qs) (Ok rs) p q e = (ap checked p, record { sound = ap checked q })

-- a node that goes by its edges
module _ (g : Game) (e : ℕ) (goes : GoesOn g e) where
  by_edges_are : (f : ℕ → Result (List Path) Refusal) (xs : List ActionEdge) (ps : List Path) → by_edges f e xs ≡ Ok ps → along f xs ≡ Ok ps
  unfolding by_edges
  by_edges_are f [] ps h = absurd cc
  by_edges_are f (x ∷ xs) ps h = h

  pub record Edges (left : ℕ) : Type 0 where
    pub edges : List ActionEdge
    pub outgoing : outgoing_action_edges g e ≡ Ok edges
    pub all : List Path
    pub here : paths g left e ≡ Ok all
    pub there : along (paths g (left - 1)) edges ≡ Ok all

  pub edges_of : (left : ℕ) → checked (paths g left e) ≡ Ok tt → Edges left
  edges_of left h = go left h (some_depth g e left h)
    where
      go : (k : ℕ) → checked (paths g k e) ≡ Ok tt → 0 < k → Edges k
      go zero h l = absurd (omega arith)
      go (suc d) h l =
          found (paths g (suc d) e) h
          (λ ps p. next d ps p (outgoing_action_edges g e) refl (sym (goes.step d h) ∙ p))
        where
          next : (d : ℕ) (ps : List Path) → paths g (suc d) e ≡ Ok ps → (a : Result (List ActionEdge) Refusal) → outgoing_action_edges g e ≡ a → (a >>= by_edges (paths g d) e) ≡ Ok ps → Edges (suc d)
          next d ps p (Err r) q w = absurd cc
          next d ps p (Ok xs) q w =
              let before : suc d - 1 ≡ d = omega arith in
              record { edges = xs; outgoing = q; all = ps; here = p; there = rw before (by_edges_are (paths g d) xs ps w) }

  -- the edges have no fault, and their words are those of the node
  pub edges_sound : (left : ℕ) → checked (paths g left e) ≡ Ok tt → checked (outgoing_action_edges g e) ≡ Ok tt
  edges_sound left h = ap checked (edges_of left h).outgoing

  module _ (left : ℕ) (xs : List ActionEdge) (h : checked (paths g left e) ≡ Ok tt) (outgoing : outgoing_action_edges g e ≡ Ok xs) where
    edges_there : along (paths g (left - 1)) xs ≡ Ok (edges_of left h).all
    edges_there =
        let w = edges_of left h in
        let same : w.edges ≡ xs = cc (w.outgoing, outgoing) in
        rw (← same) w.there

    pub edges_words : (labels : List ℕ) → words_from g left e labels ≡ words_along g (left - 1) labels xs
    edges_words labels = words_are g left e labels _ (edges_of left h).here ∙ sym (words_edges g (left - 1) labels xs _ edges_there)

    pub edges_rest : IsSound g (left - 1) xs
    edges_rest = record { sound = ap checked edges_there }

-- ---- words along edges, one after the other
module _ (g : Game) (left : ℕ) (labels : List ℕ) where
  pub along_none : words_along g left labels [] ≡ []
  unfolding words_along
  along_none = refl

  module _ (x : ActionEdge) (xs : List ActionEdge) where
    pub along_next : words_along g left labels (x ∷ xs) ≡ words_from g left x.target (labels ++ x.label ∷ []) ++ words_along g left labels xs
    unfolding words_along
    along_next = refl

-- a label that is pushed and popped
pub popped : (xs : List ℕ) (x : ℕ) → take (length (xs ++ x ∷ []) - 1) (xs ++ x ∷ []) ≡ xs
popped xs x = let one_less : length (xs ++ x ∷ []) - 1 ≡ length xs = rw length-append (omega arith) in rw one_less (take_at xs (x ∷ []) (length xs) refl)

pub ruleset walk_steps = (terminal_words, some_depth, edges_sound, edges_words, edges_rest, edge_sound, along_none, along_next, popped)
