use Rattle.std.proofs.Common.{rules, ◌≡◌, [], ◌∷◌, ◌++◌, refl, arith}
use Rattle.std.proofs.lemmas.Grind.{common_steps}
use Rattle.linear_cons.specs.Functions.{NumbersFit, complement_of}
use Rattle.decision_tree.specs.Plans.{plan_of}
use Rattle.decision_tree.specs.declared.path.Side.TheVariants.{Yes, No}
use Rattle.decision_tree.proofs.Paths.{going_ends, going_no, going_wide, going_yes}
use Rattle.decision_tree.proofs.tree.Tree.rows_along.Goals as goal

pub loop-side-preserved-in-Yes : goal.loop-side-preserved-in-Yes
loop-side-preserved-in-Yes g c =
    let going = rw c.in-Node.is at c.loop-side.invariant in
    let popped : c.loop-side.sides.items ≡ c.pop.new.self.items ++ Yes ∷ [] = rw (← c.in-Yes.is) (search rules) in
    rw (c.deref-at.ensures, c.in_ok-append-in-Yes.ensures, c.deref.ensures) (going_yes c.loop-side.rows.items c.in-Node.row (plan_of c.in-Node.yes.value) (plan_of c.in-Node.no.value) c.loop-side.sides.items c.pop.new.self.items _ _ popped going)

pub returns-in_err-complement-in-No-clause-wide : goal.returns-in_err-complement-in-No-clause-wide
returns-in_err-complement-in-No-clause-wide g c w is all =
    let going = rw c.in-Node.is at c.loop-side.invariant in
    let popped : c.loop-side.sides.items ≡ c.pop.new.self.items ++ No ∷ [] = rw (← c.in-No.is) (search rules) in
    let wide : NumbersFit (complement_of c.in-Node.row.affine) → ⊥ = λ fits. let impossible = c.in_err-complement-in-No.ensures.fits.1 (rw c.deref-in-No.ensures fits) in absurd (cc) in
    going_wide c.loop-side.rows.items c.in-Node.row (plan_of c.in-Node.yes.value) (plan_of c.in-Node.no.value) c.loop-side.sides.items c.pop.new.self.items _ _ popped wide going all

pub loop-side-preserved-in-No : goal.loop-side-preserved-in-No
loop-side-preserved-in-No g c =
    let going = rw c.in-Node.is at c.loop-side.invariant in
    let popped : c.loop-side.sides.items ≡ c.pop.new.self.items ++ No ∷ [] = rw (← c.in-No.is) (search rules) in
    let fits : NumbersFit (complement_of c.in-Node.row.affine) = rw (← c.deref-in-No.ensures) (c.in_ok-complement-in-No.ensures.fits.0 refl) in
    let complement = rw c.deref-in-No.ensures at c.in_ok-complement-in-No.ensures.complement in
    rw (c.deref-at-in-No.ensures, c.in_ok-append-in-No.ensures) (going_no c.loop-side.rows.items c.in-Node.row c.in_ok-complement-in-No.complement (plan_of c.in-Node.yes.value) (plan_of c.in-Node.no.value) c.loop-side.sides.items c.pop.new.self.items _ _ popped complement fits going)

pub returns-clause-rows : goal.returns-clause-rows
returns-clause-rows g c =
    let none : c.loop-side.sides.items ≡ [] = search rules in
    rw c.of.ensures (going_ends c.loop-side.rows.items _ c.loop-side.sides.items _ _ none c.loop-side.invariant).0

pub returns-clause-fits : goal.returns-clause-fits
returns-clause-fits g c =
    let none : c.loop-side.sides.items ≡ [] = search rules in
    (going_ends c.loop-side.rows.items _ c.loop-side.sides.items _ _ none c.loop-side.invariant).1

pub loop-side-smaller-in-Yes : goal.loop-side-smaller-in-Yes
loop-side-smaller-in-Yes g c = grind (arith, common_steps)

pub loop-side-smaller-in-No : goal.loop-side-smaller-in-No
loop-side-smaller-in-No g c = grind (arith, common_steps)

pub loop-side-smaller : goal.loop-side-smaller
loop-side-smaller g c = grind (arith, common_steps)
