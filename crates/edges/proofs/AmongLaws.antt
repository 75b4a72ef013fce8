-- The edges among some children: what the first child adds, the first fault, and that those of all children of a node are the edges out of it.
use Rattle.std.proofs.Common.{◌≡◌, ℕ, List, [], ◌∷◌, Option, None, Some, Result, Ok, Err, refl, sym, ap, ◌∙◌}
use Rattle.answer.specs.Checks.{◌>>=◌, after, checked, collect}
use Rattle.answer.specs.declared.Refusal.{Refusal}
use Rattle.answer.proofs.AnswerLaws.{collect_nil, collect_skip, collect_next, collect_stop, fault_on}
use Rattle.graph_relations.specs.Relations.{child_in, children_of, transition_target}
use Rattle.layout.specs.declared.section.Section.TheVariants.{Children}
use Rattle.layout.specs.Layout.{row_count}
use Rattle.graph_relations.specs.RelationRows.{child_row, child_rows}
use Rattle.child_rows.specs.Children.{children_left}
use Rattle.game.specs.Game.{Game}
use Rattle.game.specs.Edges.{transition_check, outgoing, edge_in, collect_from}
use Rattle.game.proofs.EdgeLaws.{edge_none, edge_row, row_other, row_own, by_rows}
use Rattle.sheet.specs.Meaning.{game_of}
use Rattle.edges.specs.Kinds.{found_in, entity_edge, row_edge, edges_among, edges_out}

module _ {R : Type 0} (found : Game → ℕ → Option R) (target : R → ℕ) (s : List ℕ) where
  pub among_none : edges_among found target s [] ≡ Ok []
  unfolding edges_among
  among_none = collect_nil (entity_edge found target s)

  -- ---- the first fault
  module _ (e : ℕ) (es : List ℕ) where
    pub among_on : (o : Option R) → Ok o ≡ entity_edge found target s e → checked (edges_among found target s (e ∷ es)) ≡ checked (edges_among found target s es)
    unfolding edges_among
    among_on o h = fault_on (entity_edge found target s) e es o (sym h)

    pub among_stop : (r : Refusal) → Err r ≡ entity_edge found target s e → checked (edges_among found target s (e ∷ es)) ≡ Err r
    unfolding edges_among
    among_stop r h = ap checked (collect_stop (entity_edge found target s) e es r (sym h))

  -- ---- edges without a fault
  module _ (e : ℕ) (es : List ℕ) (sound : checked (edges_among found target s (e ∷ es)) ≡ Ok tt) where
    -- a child whose transition was not looked at is what its row says
    first_edge : (o : Option R) → o ≡ found (game_of s) e → entity_edge found target s e ≡ Ok o
    unfolding after edges_among
    first_edge None p = edge_none (game_of s) (found (game_of s)) target e (sym p)
    first_edge (Some r) p = go (transition_check e (target r) (transition_target e (game_of s).transitions)) (edge_row (game_of s) (found (game_of s)) target e r (sym p))
      where
        go : (f : Result Unit Refusal) → entity_edge found target s e ≡ after f (Ok (Some r)) → entity_edge found target s e ≡ Ok (Some r)
        go (Ok x) q = q
        go (Err x) q = absurd (let stops = ap checked (collect_stop (entity_edge found target s) e es x q) in cc)

    pub rest_sound : (o : Option R) → o ≡ found (game_of s) e → checked (edges_among found target s es) ≡ Ok tt
    rest_sound o p = sym (among_on e es o (sym (first_edge o p))) ∙ sound

    pub found_none : None ≡ found (game_of s) e → found_in (edges_among found target s (e ∷ es)) ≡ found_in (edges_among found target s es)
    unfolding edges_among
    found_none p = ap found_in (collect_skip (entity_edge found target s) e es (first_edge None p))

    pub found_some : (x : R) → Some x ≡ found (game_of s) e → found_in (edges_among found target s (e ∷ es)) ≡ x ∷ found_in (edges_among found target s es)
    unfolding edges_among
    found_some x p =
        ap found_in (collect_next (entity_edge found target s) e es (Some x) (first_edge (Some x) p))
        ∙ go (collect (entity_edge found target s) es) (rest_sound (Some x) p)
      where
        go : (a : Result (List R) Refusal) → checked a ≡ Ok tt → found_in (a >>= λ ys. Ok (x ∷ ys)) ≡ x ∷ found_in a
        go (Ok ys) h = refl
        go (Err r) h = absurd cc

  -- ---- one entity, and one child row, without a fault
  sound_entity : (e : ℕ) (o : Option R) → checked (entity_edge found target s e) ≡ Ok tt → o ≡ found (game_of s) e → Ok o ≡ entity_edge found target s e
  unfolding after
  sound_entity e None h p = sym (edge_none (game_of s) (found (game_of s)) target e (sym p))
  sound_entity e (Some r) h p = go (transition_check e (target r) (transition_target e (game_of s).transitions)) (edge_row (game_of s) (found (game_of s)) target e r (sym p))
    where
      go : (f : Result Unit Refusal) → entity_edge found target s e ≡ after f (Ok (Some r)) → Ok (Some r) ≡ entity_edge found target s e
      go (Ok x) q = sym q
      go (Err x) q = absurd (let stops : checked (entity_edge found target s e) ≡ Err x = ap checked q in cc)

  module _ (source i : ℕ) where
    pub sound_other : None ≡ child_in source (child_row s i) → Ok None ≡ row_edge found target s source i
    sound_other p = sym (row_other (game_of s) (found (game_of s)) target source (child_row s i) (sym p))

    pub sound_own : (e : ℕ) (o : Option R) → Some e ≡ child_in source (child_row s i) → checked (row_edge found target s source i) ≡ Ok tt → o ≡ found (game_of s) e
        → Ok o ≡ row_edge found target s source i
    sound_own e o p h q =
        let own = row_own (game_of s) (found (game_of s)) target source (child_row s i) e (sym p) in
        sound_entity e o (rw own at h) q ∙ sym own

  -- ---- what is left of a node's edges is what the child rows from row i on give in turn
  pub left_by_rows : (source i : ℕ)
      → edges_among found target s (children_left s source i) ≡ collect_from (edge_in (game_of s) (found (game_of s)) target source) (child_row s) (row_count s Children) i
  unfolding edges_among children_left
  left_by_rows source i = by_rows (game_of s) (found (game_of s)) target source _

  -- ---- all edges out of a node
  pub among_all : (source : ℕ) → edges_among found target s (children_of source (child_rows s)) ≡ edges_out found target s source
  unfolding edges_among outgoing game_of
  among_all source = refl

-- an answer without a fault is what was found
pub found_all : {A : Type 0} (a : Result (List A) Refusal) → checked a ≡ Ok tt → a ≡ Ok (found_in a)
found_all (Ok xs) h = refl
found_all (Err r) h = absurd cc

-- What a child row gives where it has no fault.
pub ruleset sound_rows = (sound_other, sound_own)

-- What the loop for the first fault asks for, the edges one by one, and those out of a node.
pub ruleset among = (among_none, among_on, among_stop)

pub ruleset steps = (among_none, rest_sound, found_none, found_some)

pub ruleset out = (among_all, found_all)
