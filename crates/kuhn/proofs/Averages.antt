-- The answer's two numbers are the same for a profile and for its table.
use Rattle.std.proofs.Common.{◌≡◌, refl, ap, ◌∙◌, ℕ, zero, suc, List, map}
use Rattle.kuhn_poker.specs.declared.PerAction.{PerAction}
use Rattle.kuhn_poker.specs.Actions.{normalized}
use Rattle.kuhn_poker.specs.Strategy.{StrategyProfile, expected_value_in}
use Rattle.kuhn_poker.specs.Table.{table, entry}
use Rattle.kuhn.specs.declared.CfrVariant.{CfrVariant}
use Rattle.kuhn.specs.declared.KuhnValue.{KuhnValue}
use Rattle.kuhn.specs.Solve.{iterate, iterated, average_strategy, average_value, bet_share, solved}

averaged : (v : CfrVariant) (n : ℕ) → map normalized (iterated v n).sums ≡ table (average_strategy v n)
unfolding iterated iterate average_strategy
averaged v zero = refl
averaged v (suc n) = refl

abbrev pub values : StrategyProfile → KuhnValue
values σ = record { value = average_value σ; bet_share = bet_share σ }

by_table : (σ : StrategyProfile) → values (entry (table σ)) ≡ values σ
unfolding average_value bet_share expected_value_in
by_table σ = refl

pub solved_by_average : (v : CfrVariant) (n : ℕ) (p : List PerAction) → p ≡ map normalized (iterated v n).sums → (n ≡ 0 → ⊥) → values (entry p) ≡ solved v n
unfolding solved
solved_by_average v zero p e f = absurd (f refl)
solved_by_average v (suc n) p e f =
    ap (λ (q : List PerAction). values (entry q)) (e ∙ averaged v (suc n)) ∙ by_table (average_strategy v (suc n))
