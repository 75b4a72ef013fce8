-- The children that are left after a child row, where each row is looked at and where the links lead from one of the parent to the next.
use Rattle.std.proofs.Common.{◌≡◌, ℕ, zero, suc, ◌+◌, ◌*◌, ◌-◌, ◌<◌, ◌≤◌, List, [], ◌∷◌, Option, None, Some, IfSome, length, refl, sym, ap, ◌∙◌, arith}
use Rattle.std.specs.List.{cons_option}
use native.Mathlib.Nat.{sub-zero}
use Rattle.layout.specs.declared.section.Section.TheVariants.{Nodes, Children}
use Rattle.layout.specs.Layout.{row_count, field}
use Rattle.graph_relations.specs.Relations.{child_in, children_of}
use Rattle.graph_relations.specs.RelationRows.{child_row, child_rows}
use Rattle.graph_relations.proofs.RelationLaws.{child_other, children_next, children_end}
use Rattle.child_rows.specs.Links.{NextOf, first_child, next_child, Linked}
use Rattle.child_rows.specs.Children.{children_left, row_after, IsOn}
use Rattle.child_rows.proofs.LinkLaws.{chain_starts, chain_next, chain_goes, chain_room}

module _ (s : List ℕ) (parent : ℕ) where
  pub left_all : children_left s parent 0 ≡ children_of parent (child_rows s)
  unfolding children_left child_rows
  left_all = rw sub-zero

  left_end : (i : ℕ) → row_count s Children ≤ i → children_left s parent i ≡ []
  unfolding children_left
  left_end i l = children_end parent (child_row s) i (row_count s Children) l

  left_next : (i : ℕ) → i < row_count s Children → children_left s parent i ≡ cons_option (child_in parent (child_row s i)) (children_left s parent (i + 1))
  unfolding children_left
  left_next i l = children_next parent (child_row s) i (row_count s Children) l

  -- rows of other parents give no child
  over : (d i j : ℕ) → i + d ≡ j → NextOf s parent i j → children_left s parent i ≡ children_left s parent j
  over zero i j e n = let z : i ≡ j = omega arith in rw z refl
  over (suc d) i j e n =
      let w = n.within in
      left_next i (omega arith)
      ∙ ap (λ o. cons_option o (children_left s parent (i + 1))) (child_other parent (child_row s i) (n.others i (omega arith) (omega arith)))
      ∙ over d (i + 1) j (omega arith) (record { after = omega arith; within = n.within; others = λ k l u. n.others k (omega arith) u; own = n.own })

  pub skip_to : (i j : ℕ) → NextOf s parent i j → children_left s parent i ≡ children_left s parent j
  skip_to i j n = let h = n.after in over (j - i) i j (omega arith) n

-- what is left after row i
module _ (s : List ℕ) (parent n i : ℕ) where
  module _ (links : Option (List ℕ)) (on : IsOn s links parent n i) where
    pub on_within : i < n → i < row_count s Children
    on_within l = rw (← on.counted) l

    pub on_end : n ≤ i → children_left s parent i ≡ []
    on_end l = left_end s parent i (rw (← on.counted) l)

  same_after : (links : Option (List ℕ)) → IsOn s links parent n i → i < n → children_left s parent (i + 1) ≡ children_left s parent (row_after links i)
  same_after None on l = refl
  same_after (Some k) on l = skip_to s parent (i + 1) (next_child k i) (chain_next on.chain (rw (← on.counted) l))

  pub on_later : (links : Option (List ℕ)) → IsOn s links parent n i → i < n → i < row_after links i
  on_later None on l = omega arith
  on_later (Some k) on l = let later = (chain_next on.chain (rw (← on.counted) l)).after in omega arith

  pub on_goes : (links : Option (List ℕ)) → IsOn s links parent n i → i < n → IsOn s links parent n (row_after links i)
  on_goes None on l = record { counted = on.counted; within = omega arith; chain = tt }
  on_goes (Some k) on l =
      let here : i < row_count s Children = rw (← on.counted) l in
      let within = (chain_next on.chain here).within in
      record { counted = on.counted; within = rw on.counted within; chain = chain_goes on.chain here }

  module _ (links : Option (List ℕ)) (on : IsOn s links parent n i) (l : i < n) where
    pub on_child : (e : ℕ) → child_in parent (child_row s i) ≡ Some e → children_left s parent i ≡ e ∷ children_left s parent (row_after links i)
    on_child e h =
        left_next s parent i (on_within links on l) ∙ ap (λ o. cons_option o (children_left s parent (i + 1))) h
        ∙ ap (λ es. e ∷ es) (same_after links on l)

    pub on_other : child_in parent (child_row s i) ≡ None → children_left s parent i ≡ children_left s parent (row_after links i)
    on_other h = left_next s parent i (on_within links on l) ∙ ap (λ o. cons_option o (children_left s parent (i + 1))) h ∙ same_after links on l

-- the links have room for each child row
pub on_room : (s : List ℕ) (parent n i : ℕ) (links : Option (List ℕ)) → IsOn s links parent n i → i < n → IfSome links (λ k. 2 * i + 1 < length k)
on_room s parent n i None on l = tt
on_room s parent n i (Some k) on l = chain_room on.chain (rw (← on.counted) l)

pub ruleset child_steps = (on_within, on_end, on_later, on_goes, on_child, on_other, on_room)

-- ---- all children
module _ (s : List ℕ) (parent n : ℕ) (counted : n ≡ row_count s Children) where
  pub on_first : IsOn s None parent n 0
  on_first = record { counted = counted; within = omega arith; chain = tt }

pub ruleset all_children = (left_all, on_first)

module _ (s links : List ℕ) (linked : Linked s links) (row : ℕ) (here : row < row_count s Nodes) where
  pub starts_on : IsOn s (Some links) (field s Nodes row 0) (row_count s Children) (first_child links row)
  starts_on = record { counted = refl; within = (linked.firsts row here).within; chain = chain_starts linked row here }

  pub along_all : children_left s (field s Nodes row 0) (first_child links row) ≡ children_of (field s Nodes row 0) (child_rows s)
  along_all = sym (skip_to s (field s Nodes row 0) 0 (first_child links row) (linked.firsts row here)) ∙ left_all s (field s Nodes row 0)

pub ruleset all_along = (starts_on, along_all)
