use Rattle.std.proofs.Common.{◌≡◌, inl, inr, ℕ, ◌*◌, ◌-◌, ◌^◌, max, length, refl, sym, ap, subst, ◌∙◌, arith}
use Rattle.step_meaning.specs.Counts.{HasNoLoop}
use Rattle.step_meaning.specs.Syntax.{statements}
use Rattle.control_flow.specs.Actions.{AtAll}
use Rattle.control_flow.specs.Labels.{all_labels}
use Rattle.control_flow.specs.Sizing.{HoldsAt, held}
use Rattle.control_flow.proofs.Held.{greater_kept}
use Rattle.ctl_formula.specs.Formulas.{Ctl, both, either, exit, falsity, negation, next, not_exit, truth, until, weak}
use Rattle.ctl_formula.specs.Mirror.{ctl, ctl_of_kind}
use Rattle.formula_measures.specs.Measures.{greatest_own, greatest_part, next_size, part_size, until_size}
use Rattle.formula_measures.specs.Sizing.{AreSizesOf}
use Rattle.formula_measures.proofs.Sized.{atom_greatest, atom_sizes, sizes_above, sizes_alike}
use Rattle.formula_measures.proofs.sizes.+sizes_of.Goals as goal

pub returns-in_ok-at-in-True : goal.returns-in_ok-at-in-True
returns-in_ok-at-in-True t c =
    let body = statements c.args.graph.now.body in
    let sizes = c.with_greatest-in-True.result in
    let at = c.in_ok-at-in-True in
    let whole : (f : Ctl) → ctl c.args.formula.now ≡ f → ((label : ℕ) → part_size body f label ≡ 1) → greatest_part body f ≡ greatest_own body f
    → AreSizesOf body (ctl c.args.formula.now) sizes = λ f is one alone.
    subst (λ k. AreSizesOf body k sizes) (sym is)
    (sizes_alike body f sizes at.at.items 1 (ap (λ v. v.items) c.with_greatest-in-True.ensures.at) at.ensures.count at.ensures.each c.with_greatest-in-True.ensures.greatest
    (omega arith) one alone) in
    elim c.in-True.is [
      | inl is ↦ whole truth (ap ctl is) (λ label. refl) refl
      | inr (inl is) ↦ whole falsity (ap ctl is) (λ label. refl) refl
      | inr (inr (inl is)) ↦ whole exit (ap ctl is) (λ label. refl) refl
      | inr (inr (inr is)) ↦ whole not_exit (ap ctl is) (λ label. refl) refl
    ]

pub returns-in_ok-at-in-Holds : goal.returns-in_ok-at-in-Holds
returns-in_ok-at-in-Holds t c =
    let body = statements c.args.graph.now.body in
    let sizes = c.with_greatest.result in
    let at = c.in_ok-at-in-Holds in
    let kind = c.in-Holds.field-0 in
    subst (λ k. AreSizesOf body k sizes) (sym (ap ctl c.in-Holds.is))
    (sizes_alike body (ctl_of_kind kind) sizes at.at.items 5 (ap (λ v. v.items) c.with_greatest.ensures.at) at.ensures.count at.ensures.each c.with_greatest.ensures.greatest
    (omega arith) (atom_sizes body kind) (atom_greatest body kind))

pub returns-in_ok-at-in-Not : goal.returns-in_ok-at-in-Not
returns-in_ok-at-in-Not t c =
    let body = statements c.args.graph.now.body in
    let f = ctl c.in-Not.part.value in
    let sizes = c.with_greatest-in-Not.result in
    let at = c.in_ok-at-in-Not in
    let part : AreSizesOf body f c.in_ok-part-in-Not.part = rw c.deref.ensures at c.in_ok-part-in-Not.ensures in
    subst (λ k. AreSizesOf body k sizes) (sym (ap ctl c.in-Not.is))
    (sizes_above body (negation f) sizes at.at.items c.in_ok-part-in-Not.part.greatest (greatest_part body f) (ap (λ v. v.items) c.with_greatest-in-Not.ensures.at) at.ensures.count
    (λ loopless. at.ensures.each) c.with_greatest-in-Not.ensures.greatest part.greatest refl)

pub returns-in_ok-at-in-Next : goal.returns-in_ok-at-in-Next
returns-in_ok-at-in-Next t c =
    let body = statements c.args.graph.now.body in
    let f = ctl c.in-Next.part.value in
    let all = c.in-Next.all in
    let sizes = c.with_greatest-in-Next.result in
    let at = c.in_ok-at-in-Next in
    let part : AreSizesOf body f c.in_ok-part-in-Next.part = rw c.deref-in-Next.ensures at c.in_ok-part-in-Next.ensures in
    let each : (k : ℕ → ℕ) → AtAll body (HoldsAt k c.in_ok-part-in-Next.part.at.items) → AtAll body (HoldsAt (next_size body k) at.at.items) =
    rw c.deref-in-Next-2.ensures.value at c.in_ok-at-in-Next.ensures.each in
    subst (λ k. AreSizesOf body k sizes) (sym (ap ctl c.in-Next.is))
    (sizes_above body (next all f) sizes at.at.items c.in_ok-part-in-Next.part.greatest (greatest_part body f) (ap (λ v. v.items) c.with_greatest-in-Next.ensures.at) at.ensures.count
    (λ loopless. each (part_size body f) (part.each loopless)) c.with_greatest-in-Next.ensures.greatest part.greatest refl)

pub returns-in_ok-at-in-And : goal.returns-in_ok-at-in-And
returns-in_ok-at-in-And t c =
    let body = statements c.args.graph.now.body in
    let f = ctl c.in-And.left.value in
    let g = ctl c.in-And.right.value in
    let sizes = c.with_greatest-in-And.result in
    let list = c.in_ok-at-in-And.at.items in
    let left : AreSizesOf body f c.in_ok-left-in-And.left = rw c.deref-in-And.ensures at c.in_ok-left-in-And.ensures in
    let right : AreSizesOf body g c.in_ok-right-in-And.right = rw c.deref-in-And-2.ensures at c.in_ok-right-in-And.ensures in
    let each : (k h : ℕ → ℕ) → AtAll body (HoldsAt k c.in_ok-left-in-And.left.at.items) → AtAll body (HoldsAt h c.in_ok-right-in-And.right.at.items)
    → AtAll body (HoldsAt (λ label. 4 * (k label * h label)) c.in_ok-at-in-And.at.items) =
    rw (c.deref-in-And-3.ensures.value, c.deref-in-And-4.ensures.value) at c.in_ok-at-in-And.ensures.each in
    let below : HasNoLoop body → c.max-in-And.result ≡ held (max (greatest_part body f) (greatest_part body g)) = λ loopless.
    c.max-in-And.ensures ∙ greater_kept (2 ^ 128 - 1) (omega arith) c.in_ok-left-in-And.left.greatest c.in_ok-right-in-And.right.greatest
    (greatest_part body f) (greatest_part body g) (left.greatest loopless) (right.greatest loopless) in
    let whole : (h : Ctl) → ctl c.args.formula.now ≡ h → (HasNoLoop body → AtAll body (HoldsAt (part_size body h) list))
    → greatest_part body h ≡ max (greatest_own body h) (max (greatest_part body f) (greatest_part body g)) → AreSizesOf body (ctl c.args.formula.now) sizes = λ h is own greatest.
    subst (λ k. AreSizesOf body k sizes) (sym is)
    (sizes_above body h sizes list c.max-in-And.result (max (greatest_part body f) (greatest_part body g)) (ap (λ v. v.items) c.with_greatest-in-And.ensures.at)
    c.in_ok-at-in-And.ensures.count own c.with_greatest-in-And.ensures.greatest below greatest) in
    elim c.in-And.is [
      | inl is ↦ whole (both f g) (ap ctl is) (λ loopless. each (part_size body f) (part_size body g) (left.each loopless) (right.each loopless)) refl
      | inr is ↦ whole (either f g) (ap ctl is) (λ loopless. each (part_size body f) (part_size body g) (left.each loopless) (right.each loopless)) refl
    ]

pub returns-in_ok-at-in-Until : goal.returns-in_ok-at-in-Until
returns-in_ok-at-in-Until t c =
    let body = statements c.args.graph.now.body in
    let f = ctl c.in-Until.keep.value in
    let g = ctl c.in-Until.goal.value in
    let sizes = c.with_greatest-in-Until.result in
    let list = c.in_ok-at-in-Until.at.items in
    let left : AreSizesOf body f c.in_ok-keep-in-Until.keep = rw c.deref-in-Until.ensures at c.in_ok-keep-in-Until.ensures in
    let right : AreSizesOf body g c.in_ok-goal-in-Until.goal = rw c.deref-in-Until-2.ensures at c.in_ok-goal-in-Until.ensures in
    let each : HasNoLoop body → (k h : ℕ → ℕ) → AtAll body (HoldsAt k c.in_ok-keep-in-Until.keep.at.items) → AtAll body (HoldsAt h c.in_ok-goal-in-Until.goal.at.items)
    → AtAll body (HoldsAt (until_size body k h (length (all_labels body))) c.in_ok-at-in-Until.at.items) =
    rw (c.deref-in-Until-3.ensures.value, c.deref-in-Until-4.ensures.value) at c.in_ok-at-in-Until.ensures.each in
    let below : HasNoLoop body → c.max.result ≡ held (max (greatest_part body f) (greatest_part body g)) = λ loopless.
    c.max.ensures ∙ greater_kept (2 ^ 128 - 1) (omega arith) c.in_ok-keep-in-Until.keep.greatest c.in_ok-goal-in-Until.goal.greatest
    (greatest_part body f) (greatest_part body g) (left.greatest loopless) (right.greatest loopless) in
    let whole : (h : Ctl) → ctl c.args.formula.now ≡ h → (HasNoLoop body → AtAll body (HoldsAt (part_size body h) list))
    → greatest_part body h ≡ max (greatest_own body h) (max (greatest_part body f) (greatest_part body g)) → AreSizesOf body (ctl c.args.formula.now) sizes = λ h is own greatest.
    subst (λ k. AreSizesOf body k sizes) (sym is)
    (sizes_above body h sizes list c.max.result (max (greatest_part body f) (greatest_part body g)) (ap (λ v. v.items) c.with_greatest-in-Until.ensures.at)
    c.in_ok-at-in-Until.ensures.count own c.with_greatest-in-Until.ensures.greatest below greatest) in
    elim c.in-Until.is [
      | inl (all, is) ↦ whole (until all f g) (ap ctl is) (λ loopless. each loopless (part_size body f) (part_size body g) (left.each loopless) (right.each loopless)) refl
      | inr (all, is) ↦ whole (weak all f g) (ap ctl is) (λ loopless. each loopless (part_size body f) (part_size body g) (left.each loopless) (right.each loopless)) refl
    ]
