use Rattle.std.proofs.Common.{◌≡◌, ap, length, pos, rules, to_z}
use Rattle.std.specs.Int.{w128}
use Rattle.std.proofs.lemmas.Int.{to_z-of_z}
use Rattle.linear_cons.specs.Functions.{coefficient, without}
use Rattle.linear_cons.specs.Numbers.{Fits128}
use Rattle.linear_cons.proofs.Outcomes.{ok_iff_same}
use Rattle.linear_cons.proofs.Mixed.{fits_put_in, put_in, put_in_fits}
use Rattle.linear_cons.proofs.Parts.{kept_fits, kept_is}
use Rattle.linear_cons.proofs.affine.Affine.subst.Goals as goal

pub returns-then-self-place-eq0-clause-exact : goal.returns-then-self-place-eq0-clause-exact
returns-then-self-place-eq0-clause-exact c =
    let factor : Fits128 (coefficient c.args.self.now c.args.place) = search rules in
    let zero = ap (λ t. to_z w128 t) c.if-self-place-eq0.true in
    let none : coefficient c.args.self.now c.args.place ≡ pos 0 = simp to_z-of_z at zero in
    let long : length c.args.self.now.coef ≡ 16 = search rules in
    (kept_fits c.args.self.now c.args.place c.args.by.now none c.numbers_fit.ensures, kept_is c.args.self.now c.args.place c.args.by.now none long)

pub returns-clause-exact : goal.returns-clause-exact
returns-clause-exact c =
    let factor : Fits128 (coefficient c.args.self.now c.args.place) = search rules in
    let long : length (without c.args.self.now c.args.place).coef ≡ 16 = search rules in
    let whole = simp to_z-of_z at c.mixed.ensures.exact in
    ok_iff_same _ _ _ _ _
    (fits_put_in c.args.self.now c.args.by.now c.args.place long)
    (put_in_fits c.args.self.now c.args.by.now c.args.place long c.numbers_fit-2.ensures)
    (put_in c.args.self.now c.args.by.now c.args.place long)
    whole
