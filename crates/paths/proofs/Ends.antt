-- A node that is looked up before its paths are written: it is a terminal, or it goes by its edges where it has paths.
use Rattle.std.proofs.Common.{◌≡◌, ℕ, suc, List, Option, None, Some, Err, IfSome, IfNone, option_map, refl, sym}
use Rattle.answer.specs.Checks.{checked}
use Rattle.answer.specs.declared.Refusal.TheVariants.{MissingNode, MissingTerminalUtility}
use Rattle.rows.proofs.StoreLaws.{get_in}
use Rattle.game.specs.declared.Kind.{Kind}
use Rattle.game.specs.declared.Kind.TheVariants as Kinds
use Rattle.game.specs.declared.Node.{Node}
use Rattle.game.specs.Game.{Game, TerminalUtility, node_of, kind_of, terminal_of}
use Rattle.sheet.specs.declared.Terminal.{Terminal}
use Rattle.sheet.specs.Meaning.{game_of}
use Rattle.sheet.specs.Found.{terminal_in}
use Rattle.path_counts.specs.Paths.{paths_at, paths}
use Rattle.paths.specs.Writing.{EndsAt, GoesOn}

-- a node that is not there, and one that is no terminal
module _ (g : Game) (e : ℕ) where
  pub no_node : node_of g e ≡ None → GoesOn g e
  unfolding paths kind_of
  no_node h = record { step = λ d ok. absurd (let none : checked (paths g (suc d) e) ≡ Err (MissingNode e) = rw h in cc) }

  pub no_terminal : (n : Node) → node_of g e ≡ Some n → (n.kind ≡ Kinds.Terminal → ⊥) → GoesOn g e
  unfolding paths paths_at kind_of
  no_terminal n h other = go n.kind refl
    where
      go : (k : Kind) → n.kind ≡ k → GoesOn g e
      go (Kinds.Decision p) q = record { step = λ d ok. rw (h, q) }
      go Kinds.Chance q = record { step = λ d ok. rw (h, q) }
      go Kinds.Terminal q = absurd (other q)

-- a terminal, with its payoffs or without
module _ (s : List ℕ) (e : ℕ) (n : Node) (node : node_of (game_of s) e ≡ Some n) (kind : n.kind ≡ Kinds.Terminal) where
  ends : (t : Terminal) → Some (terminal_in s t) ≡ terminal_of (game_of s) e → EndsAt s e t
  unfolding paths paths_at kind_of terminal_of
  ends t h =
      let named : t.entity ≡ e = (get_in (λ (x : TerminalUtility). x.entity) e (game_of s).terminals (terminal_in s t) (sym h)).1 in
      record { one_path = λ d. rw (node, kind, ← h, named) }

  pub terminal_ends : (f : Option Terminal) → option_map (terminal_in s) f ≡ terminal_of (game_of s) e → IfSome f (EndsAt s e)
  terminal_ends None h = tt
  terminal_ends (Some t) h = ends t h

  pub terminal_missing : (f : Option Terminal) → option_map (terminal_in s) f ≡ terminal_of (game_of s) e → IfNone f (GoesOn (game_of s) e)
  unfolding paths paths_at kind_of
  terminal_missing None h =
      record { step = λ d ok. absurd (let none : checked (paths (game_of s) (suc d) e) ≡ Err (MissingTerminalUtility e) = rw (node, kind, ← h) in cc) }
  terminal_missing (Some t) h = tt

pub ruleset end_steps = (no_node, no_terminal, terminal_ends, terminal_missing)
