-- The checks of one row of each section, but for a repeated entity: in each the order of the tests is that of docs/REFUSALS.md. Definitions only.
use Rattle.std.specs.Prelude.{ℕ, ◌+◌, ◌-◌, List, not, cond, ◌&&◌, ◌||◌, get_or, eqb, ◌==◌, nat_le, nat_lt, Result, Ok}
use Rattle.number.specs.Number.{is_finite, is_probability, from_bits}
use Rattle.answer.specs.declared.Refusal.{Refusal}
use Rattle.answer.specs.declared.Refusal.TheVariants.{Row, InvalidPlayer, EmptyActionLabel, InvalidChanceProbability, NoTerminalPayoffs, NonFiniteUtility}
use Rattle.answer.specs.Checks.{◌>>◌, ensure}
use Rattle.layout.specs.declared.section.Section.{Section}
use Rattle.layout.specs.declared.section.Section.TheVariants.{Nodes, Children, Actions, Chances, Transitions, Terminals, Payoffs, Sets, Labels, Text}
use Rattle.layout.specs.Section.{number}
use Rattle.layout.specs.Layout.{section_of, row_count, field, field64}

-- `usize::MAX` of the Rust stands in a sheet as the greatest u32
abbrev pub no_player : ℕ
no_player = 4294967295

-- nodes: entity, kind (0 decision, 1 chance, 2 terminal), player
unfoldable pub node_check : List ℕ → ℕ → Result Unit Refusal
node_check s i = do
  ensure (nat_le (field s Nodes i 4) 2) (Row (number Nodes) i)
  ensure (field s Nodes i 4 == 0 || field s Nodes i 8 == 0) (Row (number Nodes) i)
  ensure (not (field s Nodes i 8 == no_player)) (InvalidPlayer (field s Nodes i 8))

-- actions and chances begin with entity and label number: `Row` where there is no such label, `EmptyActionLabel` where it has length 0
unfoldable pub label_check : List ℕ → Section → ℕ → Result Unit Refusal
label_check s k i = do
  ensure (nat_lt (field s k i 4) (row_count s Labels)) (Row (number k) i)
  ensure (not (field s Labels (field s k i 4) 4 == 0)) EmptyActionLabel

-- chances: entity, label number, target, f64 probability
unfoldable pub chance_check : List ℕ → ℕ → Result Unit Refusal
chance_check s i = do
  label_check s Chances i
  ensure (is_probability (from_bits (field64 s Chances i 12))) (InvalidChanceProbability (field64 s Chances i 12))

-- terminals: entity, payoff count
unfoldable pub terminal_check : List ℕ → ℕ → Result Unit Refusal
terminal_check s i = do
  ensure (nat_le (field s Terminals i 4) 8) (Row (number Terminals) i)
  ensure (not (field s Terminals i 4 == 0)) NoTerminalPayoffs

-- payoffs: f64
unfoldable pub payoff_check : List ℕ → ℕ → Result Unit Refusal
payoff_check s i = ensure (is_finite (from_bits (field64 s Payoffs i 0))) NonFiniteUtility

-- sets: entity, player, u64 set id
unfoldable pub set_check : List ℕ → ℕ → Result Unit Refusal
set_check s i = ensure (not (field s Sets i 4 == no_player)) (InvalidPlayer (field s Sets i 4))

-- labels: offset in the text, length
unfoldable pub label_end : List ℕ → ℕ → ℕ
label_end s i = field s Labels i 0 + field s Labels i 4

unfoldable pub previous_end : List ℕ → ℕ → ℕ
previous_end s i = cond (eqb i 0) 0 (label_end s (i - 1))

unfoldable pub label_row_check : List ℕ → ℕ → Result Unit Refusal
label_row_check s i = do
  ensure (nat_le (previous_end s i) (field s Labels i 0)) (Row (number Labels) i)
  ensure (nat_le (label_end s i) (row_count s Text)) (Row (number Labels) i)

-- text: a printable byte
unfoldable pub text_check : List ℕ → ℕ → Result Unit Refusal
text_check s i = ensure (nat_le 0x20 (get_or (section_of s Text) i 0) && nat_le (get_or (section_of s Text) i 0) 0x7E) (Row (number Text) i)

-- by section; a child row and a transition row are what they say
abbrev pub fields_check : List ℕ → Section → ℕ → Result Unit Refusal
fields_check s Nodes i = node_check s i
fields_check s Children i = Ok tt
fields_check s Actions i = label_check s Actions i
fields_check s Chances i = chance_check s i
fields_check s Transitions i = Ok tt
fields_check s Terminals i = terminal_check s i
fields_check s Payoffs i = payoff_check s i
fields_check s Sets i = set_check s i
fields_check s Labels i = label_row_check s i
fields_check s Text i = text_check s i
