-- The arcs of a plain program's label are those of its deed.
use Rattle.std.proofs.Common.{◌≡◌, ℕ, true, false, [], ◌∷◌, refl, ap}
use Rattle.step_meaning.specs.AffineExpressions.{ExpressionFits, IsAffine}
use Rattle.step_meaning.specs.Countdown.{form_of}
use Rattle.step_meaning.specs.Syntax.{Expression, Statements, free, range, number, variable, truth, negative, negation, pair, divided}
use Rattle.linear_cons.specs.declared.bounds.Bounds.{Bounds}
use Rattle.linear_cons.specs.declared.bounds.Linear.{Linear}
use Rattle.linear_forms.specs.Duality.{AreDual}
use Rattle.linear_forms.specs.Linearising.{linear_of}
use Rattle.linear_forms.specs.Spreading.{spread_of}
use Rattle.linear_forms.proofs.Dual.{spread_dual}
use Rattle.linear_forms.proofs.Exactness.{linear_exact}
use Rattle.control_flow.specs.declared.edge.Choice.TheVariants.{Branch}
use Rattle.control_flow.specs.Labels.{Action, ends, assigns, passes, tests, action_at}
use Rattle.quotient_cases.specs.Cases.{value_rows}
use Rattle.tree_support.specs.Arcs.{putting, assigning, flow_of}
use Rattle.exact_families.proofs.Deeds.{FlowsAs}
use Rattle.unroll.proofs.SpreadRows.{spread_long}
use Rattle.control_flow.specs.Edges.{choice_of_value}
use Rattle.exact_families.proofs.Acting.{IsFair, IsFittingAction, deed_of}

value_keeps : (e : Expression) → IsAffine e → choice_of_value e ≡ Branch → ⊥
value_keeps (number z) affine is = absurd (cc)
value_keeps (variable x) affine is = absurd (cc)
value_keeps free affine is = absurd (cc)
value_keeps (range lo hi) affine is = absurd (cc)
value_keeps (divided division e b) affine is = absurd (cc)
value_keeps (truth b) affine is = absurd (cc)
value_keeps (negative e) affine is = absurd (cc)
value_keeps (negation e) affine is = absurd (cc)
value_keeps (pair op l r) affine is = absurd (cc)

sets_as : (bounds : Bounds) (x next : ℕ) (e : Expression) → IsAffine e → ExpressionFits e → assigning x next (linear_of bounds e) (value_rows bounds 15 e) ≡ putting x next (form_of e) ∷ []
sets_as bounds x next e affine fit = ap (λ (v : Linear). assigning x next v (value_rows bounds 15 e)) (linear_exact bounds e affine fit)

-- what an affine test without `?` tells of its two outcomes
pub asks_as : (bounds : Bounds) (c : Expression) → IsFair c → AreDual (spread_of bounds c true) (spread_of bounds c false)
asks_as bounds c fair = spread_dual fair.0 bounds c fair.1 fair.2 fair.3 true

pub flows_as : (body : Statements) (bounds : ℕ → Bounds) (label : ℕ) (action : Action) → action_at body label ≡ action → IsFittingAction action
    → FlowsAs (flow_of body bounds) label (deed_of (bounds label) action)
flows_as body bounds label ends is fitting = rw is (refl, λ none. absurd (cc))
flows_as body bounds label (assigns x e next) is fitting =
    rw is (sets_as (bounds label) x next e fitting.1 fitting.2, value_keeps e fitting.1, fitting.0)
flows_as body bounds label (passes next) is fitting = rw is (refl, λ none. absurd (cc))
flows_as body bounds label (tests head free p q) is fitting = rw is (refl, refl, refl, refl)
flows_as body bounds label (tests head (truth b) p q) is fitting = rw is (refl, (λ none. absurd (cc)), asks_as (bounds label) (truth b) fitting, spread_long (bounds label) (truth b) true)
flows_as body bounds label (tests head (negation c) p q) is fitting = rw is (refl, (λ none. absurd (cc)), asks_as (bounds label) (negation c) fitting, spread_long (bounds label) (negation c) true)
flows_as body bounds label (tests head (pair op l r) p q) is fitting = rw is (refl, (λ none. absurd (cc)), asks_as (bounds label) (pair op l r) fitting, spread_long (bounds label) (pair op l r) true)
flows_as body bounds label (tests head (divided division e b) p q) is fitting = absurd (fitting.2)
flows_as body bounds label (tests head (number z) p q) is fitting = absurd (fitting.2)
flows_as body bounds label (tests head (variable x) p q) is fitting = absurd (fitting.2)
flows_as body bounds label (tests head (range lo hi) p q) is fitting = absurd (fitting.2)
flows_as body bounds label (tests head (negative e) p q) is fitting = absurd (fitting.2)
