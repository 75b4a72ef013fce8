-- The sections of a sheet in their order: their numbers, how many rows each has at most, and which name entities. Definitions only.
use Rattle.std.specs.Prelude.{ℕ, Bool, true, false, List, [], ◌∷◌}
use Rattle.layout.specs.declared.section.Section.{Section}
use Rattle.layout.specs.declared.section.Section.TheVariants.{Nodes, Children, Actions, Chances, Transitions, Terminals, Payoffs, Sets, Labels, Text}

abbrev pub number : Section → ℕ
number Nodes = 0
number Children = 1
number Actions = 2
number Chances = 3
number Transitions = 4
number Terminals = 5
number Payoffs = 6
number Sets = 7
number Labels = 8
number Text = 9

-- rows that a section has at most
abbrev pub row_limit : Section → ℕ
row_limit Nodes = 1024
row_limit Children = 1024
row_limit Actions = 1024
row_limit Chances = 1024
row_limit Transitions = 1024
row_limit Terminals = 1024
row_limit Payoffs = 4096
row_limit Sets = 1024
row_limit Labels = 256
row_limit Text = 4096

-- whether each row names an entity
abbrev pub has_entity : Section → Bool
has_entity Nodes = true
has_entity Children = true
has_entity Actions = true
has_entity Chances = true
has_entity Transitions = true
has_entity Terminals = true
has_entity Payoffs = false
has_entity Sets = true
has_entity Labels = false
has_entity Text = false

abbrev pub all_sections : List Section
all_sections = Nodes ∷ Children ∷ Actions ∷ Chances ∷ Transitions ∷ Terminals ∷ Payoffs ∷ Sets ∷ Labels ∷ Text ∷ []
