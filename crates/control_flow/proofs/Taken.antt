-- What follows for the analysis: each successor is reached over an edge, and each choice may be taken.
use Rattle.std.proofs.Common.{◌≡◌, ℕ, ℤ, ◌<◌, ◌⊎◌, inl, inr, Bool, length, set, refl, subst}
use Rattle.step_meaning.specs.Outcome.{Store, May}
use Rattle.step_meaning.specs.Step.{Configuration, Next}
use Rattle.step_meaning.specs.Syntax.{Expression, Statements, free}
use Rattle.control_flow.specs.Edges.{BothTaken, EachEdge, LandsAt, Leads, Reached, SomeEdge, configuration, edges_from}
use Rattle.control_flow.specs.Labels.{Action, action_at, all_labels, assigns, tests}
use Rattle.control_flow.proofs.LabelLaws.{only_end_is_final}
use Rattle.control_flow.proofs.Steps.{edges_are_steps}

pub each_successor : (body : Statements) (l : ℕ) → l < length (all_labels body) → (s : Store) (d : Configuration) → Next (configuration body l s) d
    → SomeEdge (Reached body l s d) (edges_from l (action_at body l)) ⊎ ((l ≡ 0) × (d ≡ configuration body l s))
each_successor body l low s d (inl step) = inl ((edges_are_steps body l low).each_step s d step)
each_successor body l low s d (inr stays) = inr (only_end_is_final body l low stays.0, stays.1)

each_edge_at : (body : Statements) (l : ℕ) → l < length (all_labels body) → (action : Action) → action_at body l ≡ action
    → EachEdge (λ edge. (s t : Store) → Leads action edge.kind s t → LandsAt body l s t edge.to) (edges_from l action)
each_edge_at body l low action is =
    subst (λ a. EachEdge (λ edge. (s t : Store) → Leads a edge.kind s t → LandsAt body l s t edge.to) (edges_from l a)) is (edges_are_steps body l low).each_edge

pub both_taken : (body : Statements) (l : ℕ) → l < length (all_labels body) → (head : Bool) (p q : ℕ) → action_at body l ≡ tests head free p q → (s : Store) → BothTaken body l p q s
both_taken body l low head p q is s =
    let edges = each_edge_at body l low (tests head free p q) is in
    (edges.0 s s (tt, refl), edges.1.0 s s (tt, refl))

pub value_taken : (body : Statements) (l : ℕ) → l < length (all_labels body) → (x : ℕ) (e : Expression) (next : ℕ) → action_at body l ≡ assigns x e next → (s : Store) (v : ℤ) → May e s v → LandsAt body l s (set s x v) next
value_taken body l low x e next is s v may =
    let edges = each_edge_at body l low (assigns x e next) is in
    edges.0 s (set s x v) (v, may, refl)
