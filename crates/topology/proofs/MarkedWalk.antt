-- The walk with marks answers what the walk on a path does, on each path that the marks stand for.
use Rattle.std.proofs.Common.{◌≡◌, ℕ, zero, suc, ◌+◌, ◌∙◌, false, List, [], ◌∷◌, length, get_or, refl, sym, arith, add-one}
use Rattle.std.specs.Prelude.{set, replicate, Option, None, Some, Result, Ok, Err}
use Rattle.std.proofs.lemmas.Bool.{false_from_ne_true}
use mathlib.Core.List.{Memᴰ}
use Rattle.answer.specs.declared.Refusal.{Refusal}
use Rattle.answer.specs.declared.Refusal.TheVariants.{MissingNode}
use Rattle.answer.specs.Checks.{after, checked, ◌>>◌, ◌>>=◌, each_in}
use Rattle.answer.proofs.CheckLaws.{each_in_at}
use Rattle.rows.proofs.StoreLaws.{length_rows}
use Rattle.layout.specs.Layout.{row_count, root_of}
use Rattle.layout.specs.declared.section.Section.TheVariants.{Nodes}
use Rattle.graph_relations.specs.Relations.{children_of}
use Rattle.sheet.specs.Meaning.{node_row, game_of, Opens}
use Rattle.sheet.specs.Found.{NodeAt}
use Rattle.sheet.proofs.NodeRows.{node_at, node_missing}
use Rattle.topology.specs.declared.Mark.{Mark}
use Rattle.topology.specs.declared.Mark.TheVariants.{New, OnTheWay, Done}
use Rattle.topology.specs.Topology.{kind_check, entity_check, walk_check}
use Rattle.topology.specs.Marks.{visit_each, visit_row, visit_found, row_of, marked_walk}
use Rattle.topology.proofs.Depth.{is_on, fresh_most}
use Rattle.topology.proofs.Sound.{sound, Way, way_on, walk_sound, sound_walk}
use Rattle.topology.proofs.MarkLaws.{Says, Marks, marks_new, mark_on_the_way, mark_done}

-- a refusal is the walk's; where marks are left, the walk has no fault, and they stand for the path
abbrev Agrees : (s path : List ℕ) → Result (List Mark) Refusal → Result Unit Refusal → Type 0
Agrees s path (Ok left) walk = (walk ≡ Ok tt) × Marks s path left
Agrees s path (Err r) walk = walk ≡ Err r

module _ (s path : List ℕ) where
  then_agrees : (v : Result (List Mark) Refusal) (walk : Result Unit Refusal) → Agrees s path v walk
      → (visit : List Mark → Result (List Mark) Refusal) (rest : Result Unit Refusal) → ((left : List Mark) → Marks s path left → Agrees s path (visit left) rest)
      → Agrees s path (v >>= visit) (walk >> rest)
  unfolding after
  then_agrees (Ok left) walk h visit rest next = rw h.0 (next left h.1)
  then_agrees (Err r) walk h visit rest next = rw h refl

  check_agrees : (check : Result Unit Refusal) (v : Result (List Mark) Refusal) (walk : Result Unit Refusal) → (check ≡ Ok tt → Agrees s path v walk)
      → Agrees s path (check >> v) (check >> walk)
  unfolding after
  check_agrees (Ok x) v walk h = h refl
  check_agrees (Err r) v walk h = refl

  -- one after the other
  each_agrees : (visit : ℕ → List Mark → Result (List Mark) Refusal) (walk : ℕ → Result Unit Refusal) (es : List ℕ)
      → ((e : ℕ) → Memᴰ e es → (marks : List Mark) → Marks s path marks → Agrees s path (visit e marks) (walk e))
      → (marks : List Mark) → Marks s path marks → Agrees s path (visit_each visit es marks) (each_in walk es)
  unfolding visit_each each_in
  each_agrees visit walk [] agrees marks m = (refl, m)
  each_agrees visit walk (e ∷ es) agrees marks m =
      then_agrees (visit e marks) (walk e) (agrees e (Memᴰ.head refl) marks m) (visit_each visit es) (each_in walk es)
      (each_agrees visit walk es (λ x i. agrees x (Memᴰ.tail i)))

-- what the walk asks of an entity itself, by the row that was found
module _ (s : List ℕ) (e : ℕ) where
  own_is : (row : ℕ) → NodeAt s row e → entity_check (game_of s) e ≡ kind_check (game_of s) e (node_row s row).kind
  unfolding entity_check
  own_is row node = rw node.kind

  own_missing : row_of s e ≡ None → entity_check (game_of s) e ≡ Err (MissingNode e)
  unfolding entity_check
  own_missing p = rw (node_missing s e _ refl p)

module _ (s : List ℕ) (ok : Opens s) where
  -- each visit with so much depth agrees
  abbrev Visits : ℕ → Type 0
  Visits depth =
      (path : List ℕ) (e : ℕ) (marks : List Mark) → Way (game_of s) depth path e → Marks s path marks
      → Agrees s path (marked_walk s depth e marks) (walk_check (game_of s) depth path e)

  module _ (depth : ℕ) (below : Visits depth) (path : List ℕ) (e : ℕ) (marks : List Mark) (way : Way (game_of s) (suc depth) path e) (m : Marks s path marks) where
    at_missing : row_of s e ≡ None → walk_check (game_of s) (suc depth) path e ≡ Err (MissingNode e)
    unfolding walk_check after
    at_missing p =
        let fault = own_missing s e p in
        let new : is_on path e ≡ false = false_from_ne_true _ (λ on. let own = way.own e on in cc) in
        rw (new, fault) refl

    module _ (row : ℕ) (node : NodeAt s row e) where
      -- a new node is done where its children have no fault
      at_done : is_on path e ≡ false → entity_check (game_of s) e ≡ Ok tt → (v : Result (List Mark) Refusal)
          → Agrees s (e ∷ path) v (each_in (walk_check (game_of s) depth (e ∷ path)) (children_of e (game_of s).children))
          → Agrees s path (v >>= λ left. Ok (set left row Done)) (each_in (walk_check (game_of s) depth (e ∷ path)) (children_of e (game_of s).children))
      at_done new own (Ok left) h =
          let good = sound own (λ c i. walk_sound (game_of s) depth (e ∷ path) c (each_in_at (walk_check (game_of s) depth (e ∷ path)) _ h.0 c i)) in
          (h.0, mark_done s ok e row node path left new good h.1)
      at_done new own (Err r) h = h

      at_row : (mark : Mark) → Says (game_of s) path e mark → Agrees s path (visit_row s (marked_walk s depth) e marks row mark) (walk_check (game_of s) (suc depth) path e)
      unfolding walk_check after
      at_row New h =
          rw (h.way, own_is s e row node)
          (check_agrees s path (kind_check (game_of s) e (node_row s row).kind) _ _
          (λ p.
          let own = own_is s e row node ∙ p in
          at_done h.way own _
          (each_agrees s (e ∷ path) (marked_walk s depth) (walk_check (game_of s) depth (e ∷ path)) (children_of e (game_of s).children)
          (λ c i ms. below (e ∷ path) c ms (way_on (game_of s) depth path e way h.way own c i))
          (set marks row OnTheWay) (mark_on_the_way s ok e row node path marks m))))
      at_row OnTheWay h = rw h.way refl
      at_row Done h = (sound_walk (game_of s) (h.done refl) (suc depth) path way, m)

    at_found : (o : Option ℕ) → row_of s e ≡ o → Agrees s path (visit_found s (marked_walk s depth) e marks o) (walk_check (game_of s) (suc depth) path e)
    at_found None p = at_missing p
    at_found (Some row) p =
        let node : NodeAt s row e = node_at s e _ refl row p in
        at_row row node (get_or marks row New) (rw node.entity at (m.says row node.here))

  visits : (depth : ℕ) → Visits depth
  unfolding marked_walk
  visits zero path e marks way m = absurd (omega (arith, way.deep))
  visits (suc depth) path e marks way m = at_found depth (visits depth) path e marks way m (row_of s e) refl

  -- ---- from the root
  node_count : length (game_of s).nodes ≡ row_count s Nodes
  unfolding game_of
  node_count = length_rows (node_row s) 0 (row_count s Nodes)

  root_is : (game_of s).root ≡ root_of s
  unfolding game_of
  root_is = refl

  start_way : Way (game_of s) (suc (length (game_of s).nodes)) [] (game_of s).root
  start_way = record { own = λ x h. absurd cc; leads = λ x h. absurd cc; deep = omega (arith, fresh_most [] (game_of s).nodes) }

  -- the walk that the code begins, with every node new, answers what the definition's does
  pub marked_root : checked (marked_walk s (row_count s Nodes + 1) (root_of s) (replicate 1024 New)) ≡ walk_check (game_of s) (suc (length (game_of s).nodes)) [] (game_of s).root
  marked_root = rw (add-one (row_count s Nodes), ← node_count, ← root_is) (go _ _ (visits _ [] _ _ start_way (marks_new s ok)))
    where
      go : (v : Result (List Mark) Refusal) (walk : Result Unit Refusal) → Agrees s [] v walk → checked v ≡ walk
      go (Ok left) walk h = sym h.0
      go (Err r) walk h = sym h
