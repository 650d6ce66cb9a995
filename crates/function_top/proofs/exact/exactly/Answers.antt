use Rattle.std.proofs.Common.{◌≡◌, ℕ, suc, ◌<◌, ◌≤◌, inl, inr, if◌then◌else◌, Some, None, IsTrue, refl, sym, ap, length, ◌∙◌, subst}
use Rattle.std.specs.Option.{is_some, unwrap_or}
use Rattle.std.specs.Prelude.{IfSome, IsSome}
use Rattle.step_meaning.specs.Plain.{IsPlain}
use Rattle.step_meaning.specs.Syntax.{statements}
use Rattle.step_meaning.specs.declared.program.Program.{Program}
use Rattle.control_flow.specs.Labels.{all_labels, entry_of}
use Rattle.control_flow.proofs.LabelLaws.{entry_is_a_label}
use Rattle.decision_tree.specs.Plans.{plan_of}
use Rattle.decision_tree.specs.declared.affine_rank.AffineRank.{AffineRank}
use Rattle.decision_tree.specs.declared.family.Family.{Family}
use Rattle.backward_transfer.specs.AffineShapes.{tree_at}
use Rattle.unroll.specs.Levels.{IsLevel}
use Rattle.control_flow.specs.Measures.{IsLight}
use Rattle.unroll.specs.Stopping.{IsCause, IsMade}
use Rattle.report_text.specs.declared.report.Stop.TheVariants.{WideNumbers}
use Rattle.function_top.specs.Exact.{IsExact, IsUnmade}
use Rattle.function_top.specs.declared.found.Exact.TheVariants.{Made}
use Rattle.function_top.proofs.ExactLines.{exact_by, exact_tree, printable_tree, some_at, some_stop, unmade_by}
use Rattle.function_top.proofs.exact.exactly.Goals as goal

pub tree_at-requires : goal.tree_at-requires
tree_at-requires c =
    let graph = statements c.args.graph.now.body in
    let level : IsLevel c.in_ok-family.field-0.tests graph c.in-Some.family.trees =
    some_at (λ (family : Family AffineRank). IsLevel c.in_ok-family.field-0.tests graph family.trees) c.in_ok-family.field-0.family c.in-Some.family
    c.in_ok-family.ensures.level c.in-Some.is in
    subst (λ n. c.entry.result < n) (sym level.labels) (subst (λ l. l < length (all_labels graph)) (sym c.entry.ensures) (entry_is_a_label graph))

-- the level that was made
level : (c : goal.After-tree_at) → IsLevel c.in_ok-family.field-0.tests (statements c.args.graph.now.body) c.in-Some.family.trees
level c =
    some_at (λ (family : Family AffineRank). IsLevel c.in_ok-family.field-0.tests (statements c.args.graph.now.body) family.trees)
    c.in_ok-family.field-0.family c.in-Some.family c.in_ok-family.ensures.level c.in-Some.is

-- its tree at the entry
at_entry : (c : goal.After-tree_at) → plan_of c.tree_at.result ≡ tree_at c.in-Some.family.trees (entry_of (statements c.args.graph.now.body))
at_entry c = c.tree_at.ensures ∙ ap (tree_at c.in-Some.family.trees) c.entry.ensures

pub returns-in-Some-clause-exact : goal.returns-in-Some-clause-exact
returns-in-Some-clause-exact c =
    let body = statements c.args.graph.now.body in
    let vars = length c.args.graph.now.names in
    let delay = c.args.delay in
    let unrolled = c.in_ok-family.field-0 in
    let tests = unrolled.tests in
    let made : IsMade delay unrolled = c.in_ok-family.ensures.made in
    let plain : IsPlain body = subst (λ (program : Program). IsPlain (statements program.body)) c.program.ensures (c.is_plain.ensures.0 (subst IsTrue (sym c.if-not-is_plain.false) refl)) in
    let some : IsSome unrolled.family = subst IsSome (sym c.in-Some.is) refl in
    let light : (l : ℕ) → l ≤ tests → IsLight body l =
    c.in_ok-family.ensures.light some in
    let known = exact_tree body tests c.in-Some.family.trees (level c) vars light (plan_of c.tree_at.result) (at_entry c) in
    let why : IfSome unrolled.stopped (IsCause body (suc tests)) =
    subst (λ f. IfSome unrolled.stopped (IsCause body (if is_some f then suc tests else 0))) c.in-Some.is c.in_ok-family.ensures.cause in
    let short : IsSome unrolled.stopped → tests < delay = λ some. elim (made.short some) [
      | inl none ↦ absurd (let clash : None ≡ Some c.in-Some.family = sym none.0 ∙ c.in-Some.is in cc)
      | inr less ↦ less.1
    ] in
    subst (λ stop. IsExact vars body delay (Made tests stop c.tree_at.result)) (sym c.stop_of-stop.ensures)
    (exact_by vars body delay tests c.tree_at.result plain known unrolled.stopped (λ whole. (made.whole whole).1) short why)

pub returns-in-Some-clause-printable : goal.returns-in-Some-clause-printable
returns-in-Some-clause-printable c =
    printable_tree (statements c.args.graph.now.body) c.in_ok-family.field-0.tests c.in-Some.family.trees (level c)
    (length c.args.graph.now.names) c.args.graph.now.valid.well_sorted (plan_of c.tree_at.result) (at_entry c)

pub returns-in-None-clause-exact : goal.returns-in-None-clause-exact
returns-in-None-clause-exact c =
    let body = statements c.args.graph.now.body in
    let unrolled = c.in_ok-family.field-0 in
    let made : IsMade c.args.delay unrolled = c.in_ok-family.ensures.made in
    let plain : IsPlain body = subst (λ (program : Program). IsPlain (statements program.body)) c.program.ensures (c.is_plain.ensures.0 (subst IsTrue (sym c.if-not-is_plain.false) refl)) in
    let some : IsSome unrolled.stopped = some_stop unrolled.stopped unrolled.family (λ whole. (made.whole whole).0) c.in-None.is in
    let why : IfSome unrolled.stopped (IsCause body 0) =
    subst (λ f. IfSome unrolled.stopped (IsCause body (if is_some f then suc unrolled.tests else 0))) c.in-None.is c.in_ok-family.ensures.cause in
    subst (IsUnmade body) (sym (c.unwrap_or.ensures ∙ ap (λ stop. unwrap_or stop WideNumbers) c.stop_of-stop.ensures))
    (unmade_by body plain unrolled.stopped some why)
