-- Which formulas of CTL hold where runs of a transition system begin: CTL of Clarke and Emerson, with until and weak until by a number of steps.
use Rattle.std.specs.Prelude.{◌⊎◌, ℕ, zero, suc, pos, ◌≤ℤ◌, Bool, true, false, ⊤}
use Rattle.linear_cons.specs.Functions.{value_at}
use Rattle.step_meaning.specs.Systems.{System, Next}
use Rattle.ctl_formula.specs.Formulas.{Ctl, truth, falsity, exit, not_exit, always, never, least, negation, both, either, next, until, weak}

-- The prover's logic is constructive. That something is true in classical logic is that it isn't impossible; so 'or' and 'some' are said
-- here, and nothing else of these definitions depends on it.
abbrev pub Classically : Type 0 → Type 0
Classically A = ¬ ¬ A

-- all, or some, successors have the property
abbrev pub Ahead : (S : System) → Bool → (S.State → Type 0) → S.State → Type 0
Ahead S true P c = (d : S.State) → Next S c d → P d
Ahead S false P c = Classically ((d : S.State) × Next S c d × P d)

-- on all, or some, runs the goal is reached within n steps, and `keep` holds before
abbrev pub UntilIn : (S : System) → ℕ → Bool → (S.State → Type 0) → (S.State → Type 0) → S.State → Type 0
UntilIn S zero all keep goal c = goal c
UntilIn S (suc n) all keep goal c = Classically (goal c ⊎ (keep c × Ahead S all (λ d. UntilIn S n all keep goal d) c))

-- on all, or some, runs `keep` holds for n steps, or the goal is reached first and `keep` holds before
abbrev pub WeakIn : (S : System) → ℕ → Bool → (S.State → Type 0) → (S.State → Type 0) → S.State → Type 0
WeakIn S zero all keep goal c = ⊤
WeakIn S (suc n) all keep goal c = Classically (goal c ⊎ (keep c × Ahead S all (λ d. WeakIn S n all keep goal d) c))

-- The state satisfies the formula. An until holds where some number of steps will do, a weak until where every number will.
abbrev pub Sat : (S : System) → Ctl → S.State → Type 0
Sat S truth c = ⊤
Sat S falsity c = ⊥
Sat S exit c = S.IsFinal c
Sat S not_exit c = ¬ S.IsFinal c
Sat S always c = ⊤
Sat S never c = ⊥
Sat S (least a) c = pos 0 ≤ℤ value_at a (S.store c)
Sat S (negation f) c = ¬ Sat S f c
Sat S (both f g) c = Sat S f c × Sat S g c
Sat S (either f g) c = Classically (Sat S f c ⊎ Sat S g c)
Sat S (next all f) c = Ahead S all (Sat S f) c
Sat S (until all f g) c = Classically ((n : ℕ) × UntilIn S n all (Sat S f) (Sat S g) c)
Sat S (weak all f g) c = (n : ℕ) → WeakIn S n all (Sat S f) (Sat S g) c

-- an until within n steps; of nothing else is a bound said
abbrev pub Within : (S : System) → ℕ → Ctl → S.State → Type 0
Within S n (until all f g) c = UntilIn S n all (Sat S f) (Sat S g) c
Within S n truth c = ⊥
Within S n falsity c = ⊥
Within S n exit c = ⊥
Within S n not_exit c = ⊥
Within S n always c = ⊥
Within S n never c = ⊥
Within S n (least a) c = ⊥
Within S n (negation f) c = ⊥
Within S n (both f g) c = ⊥
Within S n (either f g) c = ⊥
Within S n (next all f) c = ⊥
Within S n (weak all f g) c = ⊥
