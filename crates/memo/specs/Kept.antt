-- What is kept of nodes: each answer with its height, the depth from which on it holds. Definitions only.
use Rattle.std.specs.Prelude.{ℕ, ◌≤◌, ◌<◌, ◌≡◌, List, Option, Some, Result, Ok, slice_get}
use Rattle.memo.specs.declared.Kept.{Kept}

-- no answer that holds with so much depth left is kept in that row
pub record IsUnknown {A : Type 0} (rows : List (Option (Kept A))) (row left : ℕ) : Type 0 where
  pub unknown : (kept : Kept A) → slice_get rows row ≡ Some (Some kept) → left < kept.height

-- each row that keeps an answer still keeps one
pub record Stays {A : Type 0} (rows rows' : List (Option (Kept A))) : Type 0 where
  pub stays : (i : ℕ) (kept : Kept A) → slice_get rows i ≡ Some (Some kept) → (kept' : Kept A) × (slice_get rows' i ≡ Some (Some kept'))

-- a row keeps an answer of which this holds
pub record IsKept {A : Type 0} (rows : List (Option (Kept A))) (holds : Kept A → Type 0) (row : ℕ) : Type 0 where
  pub kept : Kept A
  pub here : slice_get rows row ≡ Some (Some kept)
  pub is : holds kept

-- an answer by depth and node, and what the code's answers stand for
module _ {S A E : Type 0} (answer : ℕ → ℕ → Result S E) (told : A → S) where
  -- the node e has this answer with each depth from its height on
  pub record IsRight (e : ℕ) (kept : Kept A) : Type 0 where
    pub right : (depth : ℕ) → kept.height ≤ depth → answer depth e ≡ Ok (told kept.answer)

  -- an answer of the node e that holds with so much depth left
  pub record Answers (left e : ℕ) (kept : Kept A) : Type 0 where
    pub low : kept.height ≤ left
    pub is_right : IsRight e kept

  -- each kept answer is that of its row's node
  pub record IsMemo (node : ℕ → ℕ) (rows : List (Option (Kept A))) : Type 0 where
    pub kept_right : (i : ℕ) (kept : Kept A) → slice_get rows i ≡ Some (Some kept) → IsRight (node i) kept
