-- Entities below which the walk finds no fault: they need no second walk, since no way leads from one of them back to it.
use Rattle.std.proofs.Common.{◌≡◌, ℕ, zero, suc, ◌<◌, true, false, List, ◌∷◌, arith, inl, inr}
use Rattle.std.proofs.lemmas.Bool.{false_from_ne_true, or_cases, eqb-true}
use Rattle.std.specs.Prelude.{Ok}
use mathlib.Core.List.{Memᴰ}
use Rattle.answer.specs.Checks.{after}
use Rattle.answer.proofs.CheckLaws.{passed_left, passed_right, each_in_at}
use Rattle.graph_relations.specs.Relations.{children_of}
use Rattle.game.specs.Game.{Game}
use Rattle.topology.specs.Topology.{entity_check, walk_check}
use Rattle.topology.proofs.Checks.{each_in_passes}
use Rattle.topology.proofs.Depth.{is_on, fresh, fewer}

-- neither the entity nor what is below it has a fault of its own, and no way comes back
pub data Sound (g : Game) : ℕ → Type 0 where
  sound : {e : ℕ} → entity_check g e ≡ Ok tt → ((c : ℕ) → Memᴰ c (children_of e g.children) → Sound g c) → Sound g e

-- one or more child rows lead down to c from the entity
pub data Leads (g : Game) (c : ℕ) : ℕ → Type 0 where
  child : {e : ℕ} → Memᴰ c (children_of e g.children) → Leads g c e
  through : {e x : ℕ} → Memᴰ x (children_of e g.children) → Leads g c x → Leads g c e

-- a path to e: entities without fault of their own that lead to it, and a depth that no way from here can spend
pub record Way (g : Game) (depth : ℕ) (path : List ℕ) (e : ℕ) : Type 0 where
  pub own : (x : ℕ) → is_on path x ≡ true → entity_check g x ≡ Ok tt
  pub leads : (x : ℕ) → is_on path x ≡ true → Leads g e x
  pub deep : fresh path g.nodes < depth

module _ (g : Game) where
  leads_on : {e x : ℕ} (c : ℕ) → Leads g e x → Memᴰ c (children_of e g.children) → Leads g c x
  leads_on c (child m) k = through m (child k)
  leads_on c (through m l) k = through m (leads_on c l k)

  sound_ends : {e : ℕ} → Sound g e → Leads g e e → ⊥
  sound_ends (sound own below) (child i) = sound_ends (below _ i) (child i)
  sound_ends (sound own below) (through {x = x} i l) = sound_ends (below x i) (leads_on x l i)

  -- a path to an entity that is not on it goes on to each child
  pub way_on : (depth : ℕ) (path : List ℕ) (e : ℕ) → Way g (suc depth) path e → is_on path e ≡ false → entity_check g e ≡ Ok tt
      → (c : ℕ) → Memᴰ c (children_of e g.children) → Way g depth (e ∷ path) c
  way_on depth path e way new own c m =
      record {
        own = λ x h. elim (or_cases _ _ h) [ inl here ↦ rw (eqb-true x e here) own | inr there ↦ way.own x there ];
        leads = λ x h. elim (or_cases _ _ h) [ inl here ↦ rw (eqb-true x e here) (child m) | inr there ↦ leads_on c (way.leads x there) m ];
        deep = omega (arith, way.deep, fewer g path e new own);
      }

  -- what is walked without fault is sound
  pub walk_sound : (depth : ℕ) (path : List ℕ) (e : ℕ) → walk_check g depth path e ≡ Ok tt → Sound g e
  unfolding walk_check
  walk_sound zero path e p = absurd cc
  walk_sound (suc depth) path e p =
      let own = passed_right _ _ p in
      sound (passed_left _ _ own) (λ c m. walk_sound depth (e ∷ path) c (each_in_at (walk_check g depth (e ∷ path)) _ (passed_right _ _ own) c m))

  -- a sound entity has no fault on any path that leads to it
  pub sound_walk : {e : ℕ} → Sound g e → (depth : ℕ) (path : List ℕ) → Way g depth path e → walk_check g depth path e ≡ Ok tt
  unfolding walk_check after
  sound_walk {e} (sound own below) zero path way = absurd (omega (arith, way.deep))
  sound_walk {e} (sound own below) (suc depth) path way =
      let new : is_on path e ≡ false = false_from_ne_true _ (λ on. sound_ends (sound own below) (way.leads e on)) in
      rw (new, own)
      (each_in_passes (walk_check g depth (e ∷ path)) (children_of e g.children)
      (λ c m. sound_walk (below c m) depth (e ∷ path) (way_on depth path e way new own c m)))
