-- The topology of a sheet that opened: the refusals of the targets, then those of the walk with marks.
use Rattle.std.proofs.Common.{◌≡◌, ℕ, ◌+◌, List, refl, sym}
use Rattle.std.specs.Prelude.{replicate, Result, Ok, Err}
use Rattle.answer.specs.Checks.{after, checked}
use Rattle.answer.specs.declared.Refusal.{Refusal}
use Rattle.layout.specs.Layout.{root_of, row_count}
use Rattle.layout.specs.declared.section.Section.TheVariants.{Nodes}
use Rattle.sheet.specs.Meaning.{game_of, Opens}
use Rattle.sheet.proofs.OpeningLaws.{few_nodes}
use Rattle.topology.specs.declared.Mark.{Mark}
use Rattle.topology.specs.declared.Mark.TheVariants.{New}
use Rattle.topology.specs.Topology.{targets_check, topology_check}
use Rattle.topology.specs.Marks.{marked_walk}
use Rattle.topology.proofs.MarkedWalk.{marked_root}

module _ (s : List ℕ) (ok : Opens s) where
  -- where no target is missing, what the walk answers is the whole answer
  pub topology_walked : targets_check (game_of s) ≡ Ok tt → (v : Result Unit Refusal) (left : List Mark) (n root : ℕ) → n ≡ row_count s Nodes → root ≡ root_of s
      → after v (Ok left) ≡ marked_walk s (n + 1) root (replicate 1024 New) → v ≡ topology_check (game_of s)
  unfolding topology_check after
  topology_walked targets v left n root en er p = sym (rw (targets, ← marked_root s ok, ← en, ← er, ← p) (go v))
    where
      go : (v : Result Unit Refusal) → checked (after v (Ok left)) ≡ v
      go (Ok x) = refl
      go (Err r) = refl

-- a refusal of the targets is the whole answer
pub topology_refused : (s : List ℕ) (r : Refusal) → targets_check (game_of s) ≡ Err r → topology_check (game_of s) ≡ Err r
unfolding topology_check after
topology_refused s r p = rw p

pub ruleset call = (topology_refused, few_nodes)
