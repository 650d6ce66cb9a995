use Rattle.std.proofs.Common.{◌≡◌, ℕ, ⊎_elim, true, false, ◌+◌, ◌*◌, ◌<◌, ◌≤◌, List, length, slice_set, sym, ap, subst, ◌∙◌, arith, Err}
use Rattle.step_meaning.specs.Countdown.{form_of}
use Rattle.decision_tree.specs.Evaluation.{eval}
use Rattle.step_meaning.specs.Syntax.{statements}
use Rattle.unroll.specs.Building.{IsBefore, IsBeforeBoth}
use Rattle.backward_transfer.specs.AffineShapes.{tree_at, plans}
use Rattle.unroll.specs.Levels.{RanksCount}
use Rattle.control_flow.specs.Measures.{size_of_test}
use Rattle.unroll.proofs.Refusing.{same_error}
use Rattle.backward_transfer.proofs.Putting.{plan_at}
use Rattle.decision_tree.specs.Extent.{IsTreeOver}
use Rattle.unroll.proofs.Treeing.{assigned_full, assigned_ranks_behind, assigned_tells, assigned_variables, never_ends, passed_full, passed_ranks_behind, passed_tells, passed_variables, numbers_behind, tested_fits, tested_full, tested_ranks_behind, tested_tells, tested_variables}
use Rattle.control_flow.proofs.PlainActions.{is_assigned, is_passed, is_tested}
use Rattle.linear_cons.specs.Sizes.{total_size}
use Rattle.unroll.specs.Within.{AreWithin}
use Rattle.unroll.proofs.GrownLabels.{assigned_numbers, assigned_wide, passed_numbers, passed_wide, tested_numbers, tested_wide}
use Rattle.linear_cons.specs.declared.affine.Affine.{Affine}
use Rattle.linear_cons.specs.Functions.{IsOver, value_at}
use Rattle.linear_cons.specs.declared.row.Row.{Row}
use Rattle.decision_tree.specs.Plans.{Plan, plan_of, size_of}
use Rattle.decision_tree.specs.declared.affine_rank.AffineRank.{AffineRank}
use Rattle.step_meaning.proofs.OverVariables.{over_form}
use Rattle.control_flow.specs.Growth.{greatest_of_conjunctions}
use Rattle.control_flow.specs.Labels.{action_at, passes}
use Rattle.control_flow.specs.Measures.{anywhere}
use Rattle.step_meaning.specs.Outcome.{Store}
use Rattle.linear_forms.specs.Meeting.{MeetsOne}
use Rattle.linear_forms.specs.Spreading.{spread_of}
use Rattle.unroll.specs.Doing.{AreOf}
use Rattle.control_flow.specs.declared.transition.Transition.TheVariants.{Dead, End}
use Rattle.unroll.proofs.Doing.{DoneBy, IsAssignment, IsTesting, done_at}
use Rattle.unroll.proofs.trees.tree.Goals as goal

-- the tree behind is within, by the function that the value is
within_by : (by form : Affine) → by ≡ form → (k most steps : ℕ) (plan : Plan AffineRank) → AreWithin ((1 + total_size form) * k) most steps plan
    → AreWithin ((1 + total_size by) * k) most steps plan
within_by by form is k most steps plan within = subst (λ (a : Affine). AreWithin ((1 + total_size a) * k) most steps plan) (sym is) within

pub bounds-behind-to : goal.bounds-behind-to
bounds-behind-to c =
    let done : IsAssignment (action_at (statements c.args.graph.now.body) c.args.label) c.in-Assign.place.number c.in-Assign.value c.in-Assign.to =
    done_at (statements c.args.graph.now.body) c.args.steps.now c.requires.done c.args.label c.requires.within c.index-steps-label.result _ c.index-steps-label.is c.in-Assign.is in
    let valid = c.args.graph.now.valid in
    let known = is_assigned (statements c.args.graph.now.body) (length c.args.graph.now.names) valid.few valid.well_sorted c.requires.fitting.plain c.args.label c.requires.within _ _ _ done.is in
    let inside = known.inside in
    let count = c.requires.count in
    omega (arith, inside, count)

pub bounds-behind-to-in-Pass : goal.bounds-behind-to-in-Pass
bounds-behind-to-in-Pass c =
    let done : passes c.in-Pass.to ≡ action_at (statements c.args.graph.now.body) c.args.label =
    done_at (statements c.args.graph.now.body) c.args.steps.now c.requires.done c.args.label c.requires.within c.index-steps-label.result _ c.index-steps-label.is c.in-Pass.is in
    let valid = c.args.graph.now.valid in
    let inside = is_passed (statements c.args.graph.now.body) (length c.args.graph.now.names) valid.few valid.well_sorted c.requires.fitting.plain c.args.label c.requires.within _ done in
    let count = c.requires.count in
    omega (arith, inside, count)

pub bounds-behind-yes : goal.bounds-behind-yes
bounds-behind-yes c =
    let done : IsTesting (action_at (statements c.args.graph.now.body) c.args.label) c.in-Test.holds.items c.in-Test.fails.items c.in-Test.yes c.in-Test.no =
    done_at (statements c.args.graph.now.body) c.args.steps.now c.requires.done c.args.label c.requires.within c.index-steps-label.result _ c.index-steps-label.is c.in-Test.is in
    let valid = c.args.graph.now.valid in
    let known = is_tested (statements c.args.graph.now.body) (length c.args.graph.now.names) valid.few valid.well_sorted c.requires.fitting.plain c.args.label c.requires.within _ _ _ _ done.is in
    let inside = known.inside in
    let count = c.requires.count in
    omega (arith, inside, count)

pub bounds-behind-no : goal.bounds-behind-no
bounds-behind-no c =
    let done : IsTesting (action_at (statements c.args.graph.now.body) c.args.label) c.in-Test.holds.items c.in-Test.fails.items c.in-Test.yes c.in-Test.no =
    done_at (statements c.args.graph.now.body) c.args.steps.now c.requires.done c.args.label c.requires.within c.index-steps-label.result _ c.index-steps-label.is c.in-Test.is in
    let valid = c.args.graph.now.valid in
    let known = is_tested (statements c.args.graph.now.body) (length c.args.graph.now.names) valid.few valid.well_sorted c.requires.fitting.plain c.args.label c.requires.within _ _ _ _ done.is in
    let inside = known.also in
    let count = c.requires.count in
    omega (arith, inside, count)

pub returns-in_ok-tree-in-Assign-clause-tells : goal.returns-in_ok-tree-in-Assign-clause-tells
returns-in_ok-tree-in-Assign-clause-tells c limit left allows behind =
    let done : IsAssignment (action_at (statements c.args.graph.now.body) c.args.label) c.in-Assign.place.number c.in-Assign.value c.in-Assign.to =
    done_at (statements c.args.graph.now.body) c.args.steps.now c.requires.done c.args.label c.requires.within c.index-steps-label.result _ c.index-steps-label.is c.in-Assign.is in
    let valid = c.args.graph.now.valid in
    let body = statements c.args.graph.now.body in
    let vars = length c.args.graph.now.names in
    let known = is_assigned body vars valid.few valid.well_sorted c.requires.fitting.plain c.args.label c.requires.within _ _ _ done.is in
    let inside = known.inside in
    let count = c.requires.count in
    let at : plan_of c.index-behind-to.result ≡ tree_at (plans c.args.behind.now) c.in-Assign.to =
    ap plan_of c.index-behind-to.is ∙ plan_at c.args.behind.now c.in-Assign.to c.index-behind-to.result (omega (arith, inside, count)) in
    let ranks = subst RanksCount (sym at)
    (assigned_ranks_behind body vars valid.few valid.well_sorted c.requires.fitting.plain c.args.label c.requires.within c.requires.some (c.requires.fitting.fit c.args.label c.requires.within) (plans c.args.behind.now) limit left allows behind _ _ _ done.is) in
    assigned_tells body vars valid.few valid.well_sorted c.requires.fitting.plain c.args.label c.requires.within c.requires.some (c.requires.fitting.fit c.args.label c.requires.within) (plans c.args.behind.now) limit left allows behind
    (plan_of c.in_ok-tree-in-Assign.tree) (c.in_ok-tree-in-Assign.ensures.ranks ranks)
    c.in_ok-tree-in-Assign.ensures.complements
    (assigned_variables body vars valid.few valid.well_sorted c.requires.fitting.plain c.args.label c.requires.within c.requires.some (c.requires.fitting.fit c.args.label c.requires.within) (plans c.args.behind.now) limit left allows behind
    (plan_of c.in_ok-tree-in-Assign.tree) _ _ _ done.is
    (λ other sorted over. c.in_ok-tree-in-Assign.ensures.variables other (subst (IsOver other) (sym done.form) (over_form other done.from sorted)) ranks (subst (IsTreeOver other) (sym at) over)))
    (assigned_numbers body c.args.label c.requires.some c.requires.within limit left allows (plans c.args.behind.now)
    (numbers_behind body vars valid.few valid.well_sorted c.requires.fitting.plain c.args.label c.requires.within c.requires.some (c.requires.fitting.fit c.args.label c.requires.within) (plans c.args.behind.now) limit left allows behind)
    (plan_of c.in_ok-tree-in-Assign.tree) _ _ _ done.is
    (λ k most steps within. c.in_ok-tree-in-Assign.ensures.within k most steps
    (within_by _ _ done.form k most steps _ (subst (AreWithin ((1 + total_size (form_of done.from)) * k) most steps) (sym at) within))))
    _ _ _ done.is
    (subst (λ p. size_of (plan_of c.in_ok-tree-in-Assign.tree) ≤ size_of p) at c.in_ok-tree-in-Assign.ensures.small)
    (λ s long. subst (λ (by : Affine). IsBefore (eval (tree_at (plans c.args.behind.now) c.in-Assign.to) (slice_set s c.in-Assign.place.number (value_at by s))) (eval (plan_of c.in_ok-tree-in-Assign.tree) s)) done.form
    (subst (λ p. IsBefore (eval p (slice_set s c.in-Assign.place.number (value_at c.in-Assign.value s))) (eval (plan_of c.in_ok-tree-in-Assign.tree) s)) at (c.in_ok-tree-in-Assign.ensures.before s long)))

pub returns-in_ok-tree-in-Pass-clause-tells : goal.returns-in_ok-tree-in-Pass-clause-tells
returns-in_ok-tree-in-Pass-clause-tells c limit left allows behind =
    let done : passes c.in-Pass.to ≡ action_at (statements c.args.graph.now.body) c.args.label =
    done_at (statements c.args.graph.now.body) c.args.steps.now c.requires.done c.args.label c.requires.within c.index-steps-label.result _ c.index-steps-label.is c.in-Pass.is in
    let valid = c.args.graph.now.valid in
    let body = statements c.args.graph.now.body in
    let vars = length c.args.graph.now.names in
    let inside = is_passed body vars valid.few valid.well_sorted c.requires.fitting.plain c.args.label c.requires.within _ done in
    let count = c.requires.count in
    let at : plan_of c.index-behind-to-in-Pass.result ≡ tree_at (plans c.args.behind.now) c.in-Pass.to =
    ap plan_of c.index-behind-to-in-Pass.is ∙ plan_at c.args.behind.now c.in-Pass.to c.index-behind-to-in-Pass.result (omega (arith, inside, count)) in
    let ranks = subst RanksCount (sym at)
    (passed_ranks_behind body vars valid.few valid.well_sorted c.requires.fitting.plain c.args.label c.requires.within c.requires.some (c.requires.fitting.fit c.args.label c.requires.within) (plans c.args.behind.now) limit left allows behind _ done) in
    passed_tells body vars valid.few valid.well_sorted c.requires.fitting.plain c.args.label c.requires.within c.requires.some (c.requires.fitting.fit c.args.label c.requires.within) (plans c.args.behind.now) limit left allows behind
    (plan_of c.in_ok-tree-in-Pass.tree) (c.in_ok-tree-in-Pass.ensures.ranks ranks)
    c.in_ok-tree-in-Pass.ensures.complements
    (passed_variables body vars valid.few valid.well_sorted c.requires.fitting.plain c.args.label c.requires.within c.requires.some (c.requires.fitting.fit c.args.label c.requires.within) (plans c.args.behind.now) limit left allows behind
    (plan_of c.in_ok-tree-in-Pass.tree) _ done
    (λ other over. c.in_ok-tree-in-Pass.ensures.variables other ranks (subst (IsTreeOver other) (sym at) over)))
    (passed_numbers body c.args.label c.requires.some c.requires.within limit left allows (plans c.args.behind.now)
    (numbers_behind body vars valid.few valid.well_sorted c.requires.fitting.plain c.args.label c.requires.within c.requires.some (c.requires.fitting.fit c.args.label c.requires.within) (plans c.args.behind.now) limit left allows behind)
    (plan_of c.in_ok-tree-in-Pass.tree) _ done
    (λ k most steps within. c.in_ok-tree-in-Pass.ensures.within k most steps (subst (AreWithin k most steps) (sym at) within)))
    _ done
    (subst (λ p. size_of (plan_of c.in_ok-tree-in-Pass.tree) ≤ size_of p) at c.in_ok-tree-in-Pass.ensures.small)
    (λ s. subst (λ p. IsBefore (eval p s) (eval (plan_of c.in_ok-tree-in-Pass.tree) s)) at (c.in_ok-tree-in-Pass.ensures.before s))

pub returns-in_ok-tree-in-Test-clause-tells : goal.returns-in_ok-tree-in-Test-clause-tells
returns-in_ok-tree-in-Test-clause-tells c limit left allows behind =
    let done : IsTesting (action_at (statements c.args.graph.now.body) c.args.label) c.in-Test.holds.items c.in-Test.fails.items c.in-Test.yes c.in-Test.no =
    done_at (statements c.args.graph.now.body) c.args.steps.now c.requires.done c.args.label c.requires.within c.index-steps-label.result _ c.index-steps-label.is c.in-Test.is in
    let of : AreOf done.test c.deref.result.now c.deref-in-Test.result.now = (c.deref.ensures.value ∙ done.are.0, c.deref-in-Test.ensures.value ∙ done.are.1) in
    let asked_of : (k most : ℕ) → greatest_of_conjunctions (spread_of anywhere done.test true) * k ≤ most → greatest_of_conjunctions c.deref.result.now * k ≤ most =
    λ k most. subst (λ (list : List (List Row)). greatest_of_conjunctions list * k ≤ most) (sym of.0) in
    let met_first : (s : Store) → MeetsOne s (spread_of anywhere done.test true) → MeetsOne s c.deref.result.now = λ s. subst (MeetsOne s) (sym of.0) in
    let met_second : (s : Store) → MeetsOne s (spread_of anywhere done.test false) → MeetsOne s c.deref-in-Test.result.now = λ s. subst (MeetsOne s) (sym of.1) in
    let valid = c.args.graph.now.valid in
    let body = statements c.args.graph.now.body in
    let vars = length c.args.graph.now.names in
    let known = is_tested body vars valid.few valid.well_sorted c.requires.fitting.plain c.args.label c.requires.within _ _ _ _ done.is in
    let inside = known.inside in
    let also = known.also in
    let count = c.requires.count in
    let then_at : plan_of c.index-behind-yes.result ≡ tree_at (plans c.args.behind.now) c.in-Test.yes =
    ap plan_of c.index-behind-yes.is ∙ plan_at c.args.behind.now c.in-Test.yes c.index-behind-yes.result (omega (arith, inside, count)) in
    let else_at : plan_of c.index-behind-no.result ≡ tree_at (plans c.args.behind.now) c.in-Test.no =
    ap plan_of c.index-behind-no.is ∙ plan_at c.args.behind.now c.in-Test.no c.index-behind-no.result (omega (arith, also, count)) in
    let fits = tested_fits body vars valid.few valid.well_sorted c.requires.fitting.plain c.args.label c.requires.within c.requires.some (c.requires.fitting.fit c.args.label c.requires.within) (plans c.args.behind.now) limit left allows behind _ _ _ _ done.is in
    let two = tested_ranks_behind body vars valid.few valid.well_sorted c.requires.fitting.plain c.args.label c.requires.within c.requires.some (c.requires.fitting.fit c.args.label c.requires.within) (plans c.args.behind.now) limit left allows behind _ _ _ _ done.is in
    let first_ranks = subst RanksCount (sym then_at) two.0 in
    let second_ranks = subst RanksCount (sym else_at) two.1 in
    tested_tells body vars valid.few valid.well_sorted c.requires.fitting.plain c.args.label c.requires.within c.requires.some (c.requires.fitting.fit c.args.label c.requires.within) (plans c.args.behind.now) limit left allows behind
    (plan_of c.in_ok-tree-in-Test.tree) (c.in_ok-tree-in-Test.ensures.ranks first_ranks second_ranks)
    c.in_ok-tree-in-Test.ensures.complements
    (tested_variables body vars valid.few valid.well_sorted c.requires.fitting.plain c.args.label c.requires.within c.requires.some (c.requires.fitting.fit c.args.label c.requires.within) (plans c.args.behind.now) limit left allows behind
    (plan_of c.in_ok-tree-in-Test.tree) _ _ _ _ done.is
    (λ other sorted first second. c.in_ok-tree-in-Test.ensures.variables done.test other of sorted first_ranks second_ranks (subst (IsTreeOver other) (sym then_at) first)
    (subst (IsTreeOver other) (sym else_at) second)))
    (tested_numbers body c.args.label c.requires.some c.requires.within limit left allows (plans c.args.behind.now)
    (numbers_behind body vars valid.few valid.well_sorted c.requires.fitting.plain c.args.label c.requires.within c.requires.some (c.requires.fitting.fit c.args.label c.requires.within) (plans c.args.behind.now) limit left allows behind)
    (plan_of c.in_ok-tree-in-Test.tree) _ _ _ _ done.is
    (λ k most steps small first second. c.in_ok-tree-in-Test.ensures.within done.test k most steps of fits (asked_of k most small) (subst (AreWithin k most steps) (sym then_at) first)
    (subst (AreWithin k most steps) (sym else_at) second)))
    _ _ _ _ done.is
    (subst (λ p. size_of (plan_of c.in_ok-tree-in-Test.tree) ≤ size_of_test done.test (size_of p) (size_of (tree_at (plans c.args.behind.now) c.in-Test.no))) then_at
    (subst (λ p. size_of (plan_of c.in_ok-tree-in-Test.tree) ≤ size_of_test done.test (size_of (plan_of c.index-behind-yes.result)) (size_of p)) else_at
    (c.in_ok-tree-in-Test.ensures.small done.test of fits first_ranks second_ranks)))
    (λ s met also. subst (λ p. IsBeforeBoth (eval p s) (eval (tree_at (plans c.args.behind.now) c.in-Test.no) s) (eval (plan_of c.in_ok-tree-in-Test.tree) s)) then_at
    (subst (λ p. IsBeforeBoth (eval (plan_of c.index-behind-yes.result) s) (eval p s) (eval (plan_of c.in_ok-tree-in-Test.tree) s)) else_at (c.in_ok-tree-in-Test.ensures.both s (met_first s met) (met_second s also))))
    (λ s met missed. subst (λ p. IsBefore (eval p s) (eval (plan_of c.in_ok-tree-in-Test.tree) s)) then_at (c.in_ok-tree-in-Test.ensures.holds s (met_first s met) (λ other. missed (subst (MeetsOne s) of.1 other))))
    (λ s missed met. subst (λ p. IsBefore (eval p s) (eval (plan_of c.in_ok-tree-in-Test.tree) s)) else_at (c.in_ok-tree-in-Test.ensures.fails s (λ other. missed (subst (MeetsOne s) of.0 other)) (met_second s met)))

pub returns-in_err-tree-in-Assign-clause-full : goal.returns-in_err-tree-in-Assign-clause-full
returns-in_err-tree-in-Assign-clause-full c limit left number allows behind is sizes are =
    let done : IsAssignment (action_at (statements c.args.graph.now.body) c.args.label) c.in-Assign.place.number c.in-Assign.value c.in-Assign.to =
    done_at (statements c.args.graph.now.body) c.args.steps.now c.requires.done c.args.label c.requires.within c.index-steps-label.result _ c.index-steps-label.is c.in-Assign.is in
    let valid = c.args.graph.now.valid in
    let body = statements c.args.graph.now.body in
    let vars = length c.args.graph.now.names in
    let known = is_assigned body vars valid.few valid.well_sorted c.requires.fitting.plain c.args.label c.requires.within _ _ _ done.is in
    let inside = known.inside in
    let count = c.requires.count in
    let at : plan_of c.index-behind-to.result ≡ tree_at (plans c.args.behind.now) c.in-Assign.to =
    ap plan_of c.index-behind-to.is ∙ plan_at c.args.behind.now c.in-Assign.to c.index-behind-to.result (omega (arith, inside, count)) in
    assigned_full body vars valid.few valid.well_sorted c.requires.fitting.plain c.args.label c.requires.within c.requires.some (c.requires.fitting.fit c.args.label c.requires.within) (plans c.args.behind.now) limit left allows behind
    _ _ _ done.is
    (subst (λ p. 65536 < size_of p) at (c.in_err-tree-in-Assign.ensures.full number (ap Err (same_error _ _ _ c.from_residual.ensures.1 is)))) sizes are

pub returns-in_err-tree-in-Assign-clause-wide : goal.returns-in_err-tree-in-Assign-clause-wide
returns-in_err-tree-in-Assign-clause-wide c limit left operands short allows behind is =
    let done : IsAssignment (action_at (statements c.args.graph.now.body) c.args.label) c.in-Assign.place.number c.in-Assign.value c.in-Assign.to =
    done_at (statements c.args.graph.now.body) c.args.steps.now c.requires.done c.args.label c.requires.within c.index-steps-label.result _ c.index-steps-label.is c.in-Assign.is in
    let valid = c.args.graph.now.valid in
    let body = statements c.args.graph.now.body in
    let vars = length c.args.graph.now.names in
    let known = is_assigned body vars valid.few valid.well_sorted c.requires.fitting.plain c.args.label c.requires.within _ _ _ done.is in
    let inside = known.inside in
    let count = c.requires.count in
    let few = c.requires.few in
    let at : plan_of c.index-behind-to.result ≡ tree_at (plans c.args.behind.now) c.in-Assign.to =
    ap plan_of c.index-behind-to.is ∙ plan_at c.args.behind.now c.in-Assign.to c.index-behind-to.result (omega (arith, inside, count)) in
    assigned_wide body c.args.label c.requires.some c.requires.within limit left allows (plans c.args.behind.now)
    (numbers_behind body vars valid.few valid.well_sorted c.requires.fitting.plain c.args.label c.requires.within c.requires.some (c.requires.fitting.fit c.args.label c.requires.within) (plans c.args.behind.now) limit left allows behind)
    short (omega (arith, few)) _ _ _ done.is
    (λ k most steps narrow within. c.in_err-tree-in-Assign.ensures.wide operands k most steps narrow
    (within_by _ _ done.form k most steps _ (subst (AreWithin ((1 + total_size (form_of done.from)) * k) most steps) (sym at) within))
    (ap Err (same_error _ _ _ c.from_residual.ensures.1 is)))

pub returns-in_err-tree-in-Pass-clause-wide : goal.returns-in_err-tree-in-Pass-clause-wide
returns-in_err-tree-in-Pass-clause-wide c limit left operands short allows behind is =
    let done : passes c.in-Pass.to ≡ action_at (statements c.args.graph.now.body) c.args.label =
    done_at (statements c.args.graph.now.body) c.args.steps.now c.requires.done c.args.label c.requires.within c.index-steps-label.result _ c.index-steps-label.is c.in-Pass.is in
    let valid = c.args.graph.now.valid in
    let body = statements c.args.graph.now.body in
    let vars = length c.args.graph.now.names in
    let inside = is_passed body vars valid.few valid.well_sorted c.requires.fitting.plain c.args.label c.requires.within _ done in
    let count = c.requires.count in
    let few = c.requires.few in
    let at : plan_of c.index-behind-to-in-Pass.result ≡ tree_at (plans c.args.behind.now) c.in-Pass.to =
    ap plan_of c.index-behind-to-in-Pass.is ∙ plan_at c.args.behind.now c.in-Pass.to c.index-behind-to-in-Pass.result (omega (arith, inside, count)) in
    passed_wide body c.args.label c.requires.some c.requires.within limit left allows (plans c.args.behind.now)
    (numbers_behind body vars valid.few valid.well_sorted c.requires.fitting.plain c.args.label c.requires.within c.requires.some (c.requires.fitting.fit c.args.label c.requires.within) (plans c.args.behind.now) limit left allows behind)
    short (omega (arith, few)) _ done
    (λ k most steps narrow within. c.in_err-tree-in-Pass.ensures.wide operands k most steps narrow (subst (AreWithin k most steps) (sym at) within)
    (ap Err (same_error _ _ _ c.from_residual-in_err-tree-in-Pass.ensures.1 is)))

pub returns-in_err-tree-in-Test-clause-wide : goal.returns-in_err-tree-in-Test-clause-wide
returns-in_err-tree-in-Test-clause-wide c limit left operands short allows behind is =
    let done : IsTesting (action_at (statements c.args.graph.now.body) c.args.label) c.in-Test.holds.items c.in-Test.fails.items c.in-Test.yes c.in-Test.no =
    done_at (statements c.args.graph.now.body) c.args.steps.now c.requires.done c.args.label c.requires.within c.index-steps-label.result _ c.index-steps-label.is c.in-Test.is in
    let of : AreOf done.test c.deref.result.now c.deref-in-Test.result.now = (c.deref.ensures.value ∙ done.are.0, c.deref-in-Test.ensures.value ∙ done.are.1) in
    let asked_of : (k most : ℕ) → greatest_of_conjunctions (spread_of anywhere done.test true) * k ≤ most → greatest_of_conjunctions c.deref.result.now * k ≤ most =
    λ k most. subst (λ (list : List (List Row)). greatest_of_conjunctions list * k ≤ most) (sym of.0) in
    let valid = c.args.graph.now.valid in
    let body = statements c.args.graph.now.body in
    let vars = length c.args.graph.now.names in
    let known = is_tested body vars valid.few valid.well_sorted c.requires.fitting.plain c.args.label c.requires.within _ _ _ _ done.is in
    let inside = known.inside in
    let also = known.also in
    let count = c.requires.count in
    let few = c.requires.few in
    let then_at : plan_of c.index-behind-yes.result ≡ tree_at (plans c.args.behind.now) c.in-Test.yes =
    ap plan_of c.index-behind-yes.is ∙ plan_at c.args.behind.now c.in-Test.yes c.index-behind-yes.result (omega (arith, inside, count)) in
    let else_at : plan_of c.index-behind-no.result ≡ tree_at (plans c.args.behind.now) c.in-Test.no =
    ap plan_of c.index-behind-no.is ∙ plan_at c.args.behind.now c.in-Test.no c.index-behind-no.result (omega (arith, also, count)) in
    let fits = tested_fits body vars valid.few valid.well_sorted c.requires.fitting.plain c.args.label c.requires.within c.requires.some (c.requires.fitting.fit c.args.label c.requires.within) (plans c.args.behind.now) limit left allows behind _ _ _ _ done.is in
    tested_wide body c.args.label c.requires.some c.requires.within limit left allows (plans c.args.behind.now)
    (numbers_behind body vars valid.few valid.well_sorted c.requires.fitting.plain c.args.label c.requires.within c.requires.some (c.requires.fitting.fit c.args.label c.requires.within) (plans c.args.behind.now) limit left allows behind)
    short (omega (arith, few)) _ _ _ _ done.is
    (λ k most steps narrow small first second. c.in_err-tree-in-Test.ensures.wide done.test operands k most steps of fits narrow (asked_of k most small) (subst (AreWithin k most steps) (sym then_at) first)
    (subst (AreWithin k most steps) (sym else_at) second) (ap Err (same_error _ _ _ c.from_residual-in_err-tree-in-Test.ensures.1 is)))

pub returns-in_err-tree-in-Pass-clause-full : goal.returns-in_err-tree-in-Pass-clause-full
returns-in_err-tree-in-Pass-clause-full c limit left number allows behind is sizes are =
    let done : passes c.in-Pass.to ≡ action_at (statements c.args.graph.now.body) c.args.label =
    done_at (statements c.args.graph.now.body) c.args.steps.now c.requires.done c.args.label c.requires.within c.index-steps-label.result _ c.index-steps-label.is c.in-Pass.is in
    let valid = c.args.graph.now.valid in
    let body = statements c.args.graph.now.body in
    let vars = length c.args.graph.now.names in
    let inside = is_passed body vars valid.few valid.well_sorted c.requires.fitting.plain c.args.label c.requires.within _ done in
    let count = c.requires.count in
    let at : plan_of c.index-behind-to-in-Pass.result ≡ tree_at (plans c.args.behind.now) c.in-Pass.to =
    ap plan_of c.index-behind-to-in-Pass.is ∙ plan_at c.args.behind.now c.in-Pass.to c.index-behind-to-in-Pass.result (omega (arith, inside, count)) in
    passed_full body vars valid.few valid.well_sorted c.requires.fitting.plain c.args.label c.requires.within c.requires.some (c.requires.fitting.fit c.args.label c.requires.within) (plans c.args.behind.now) limit left allows behind
    _ done
    (subst (λ p. 65536 < size_of p) at (c.in_err-tree-in-Pass.ensures.full number (ap Err (same_error _ _ _ c.from_residual-in_err-tree-in-Pass.ensures.1 is)))) sizes are

pub returns-in_err-tree-in-Test-clause-full : goal.returns-in_err-tree-in-Test-clause-full
returns-in_err-tree-in-Test-clause-full c limit left number allows behind is sizes are =
    let done : IsTesting (action_at (statements c.args.graph.now.body) c.args.label) c.in-Test.holds.items c.in-Test.fails.items c.in-Test.yes c.in-Test.no =
    done_at (statements c.args.graph.now.body) c.args.steps.now c.requires.done c.args.label c.requires.within c.index-steps-label.result _ c.index-steps-label.is c.in-Test.is in
    let of : AreOf done.test c.deref.result.now c.deref-in-Test.result.now = (c.deref.ensures.value ∙ done.are.0, c.deref-in-Test.ensures.value ∙ done.are.1) in
    let valid = c.args.graph.now.valid in
    let body = statements c.args.graph.now.body in
    let vars = length c.args.graph.now.names in
    let known = is_tested body vars valid.few valid.well_sorted c.requires.fitting.plain c.args.label c.requires.within _ _ _ _ done.is in
    let inside = known.inside in
    let also = known.also in
    let count = c.requires.count in
    let then_at : plan_of c.index-behind-yes.result ≡ tree_at (plans c.args.behind.now) c.in-Test.yes =
    ap plan_of c.index-behind-yes.is ∙ plan_at c.args.behind.now c.in-Test.yes c.index-behind-yes.result (omega (arith, inside, count)) in
    let else_at : plan_of c.index-behind-no.result ≡ tree_at (plans c.args.behind.now) c.in-Test.no =
    ap plan_of c.index-behind-no.is ∙ plan_at c.args.behind.now c.in-Test.no c.index-behind-no.result (omega (arith, also, count)) in
    let fits = tested_fits body vars valid.few valid.well_sorted c.requires.fitting.plain c.args.label c.requires.within c.requires.some (c.requires.fitting.fit c.args.label c.requires.within) (plans c.args.behind.now) limit left allows behind _ _ _ _ done.is in
    let two = tested_ranks_behind body vars valid.few valid.well_sorted c.requires.fitting.plain c.args.label c.requires.within c.requires.some (c.requires.fitting.fit c.args.label c.requires.within) (plans c.args.behind.now) limit left allows behind _ _ _ _ done.is in
    tested_full body vars valid.few valid.well_sorted c.requires.fitting.plain c.args.label c.requires.within c.requires.some (c.requires.fitting.fit c.args.label c.requires.within) (plans c.args.behind.now) limit left allows behind
    _ _ _ _ done.is
    (subst (λ p. 65536 < size_of_test done.test (size_of p) (size_of (tree_at (plans c.args.behind.now) c.in-Test.no))) then_at
    (subst (λ p. 65536 < size_of_test done.test (size_of (plan_of c.index-behind-yes.result)) (size_of p)) else_at
    (c.in_err-tree-in-Test.ensures.full done.test number of fits (subst RanksCount (sym then_at) two.0) (subst RanksCount (sym else_at) two.1)
    (ap Err (same_error _ _ _ c.from_residual-in_err-tree-in-Test.ensures.1 is))))) sizes are

pub returns-in_ok-tree-in-End-clause-tells : goal.returns-in_ok-tree-in-End-clause-tells
returns-in_ok-tree-in-End-clause-tells c limit left allows behind =
    let valid = c.args.graph.now.valid in
    let body = statements c.args.graph.now.body in
    let vars = length c.args.graph.now.names in
    let none : DoneBy (action_at body c.args.label) End → ⊥ = never_ends body vars valid.few valid.well_sorted c.requires.fitting.plain c.args.label c.requires.within c.requires.some in
    absurd
    (⊎_elim (λ is. none (done_at body c.args.steps.now c.requires.done c.args.label c.requires.within c.index-steps-label.result End c.index-steps-label.is is))
    (λ other. ⊎_elim (λ is. done_at body c.args.steps.now c.requires.done c.args.label c.requires.within c.index-steps-label.result Dead c.index-steps-label.is is)
    (λ some. done_at body c.args.steps.now c.requires.done c.args.label c.requires.within c.index-steps-label.result _ c.index-steps-label.is some.5) other) c.in-End.is)
