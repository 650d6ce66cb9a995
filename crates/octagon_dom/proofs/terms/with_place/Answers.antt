use Rattle.std.proofs.Common.{◌≡◌, ◌≢◌, pos, arith, rules, subst}
use Rattle.std.proofs.lemmas.Int.{ints, to_z-of_z}
use Rattle.linear_cons.specs.Functions.{coefficient}
use Rattle.linear_cons.specs.Numbers.{Fits128}
use Rattle.octagon_dom.specs.Terms.{AreTermsBelow, IsUnitTerm}
use Rattle.octagon_dom.proofs.TermLaws.{terms_one, terms_two, terms_zero}
use Rattle.octagon_dom.proofs.terms.with_place.Goals as goal

pub returns-then-factor-eq0 : goal.returns-then-factor-eq0
returns-then-factor-eq0 c =
    let fits : Fits128 (coefficient c.args.a.now c.args.place) = search rules in
    let none : coefficient c.args.a.now c.args.place ≡ pos 0 = omega (arith, ints, c.if-factor-eq0.true) in
    terms_zero c.args.place c.args.a.now c.args.terms none c.requires.before

pub returns-in-Nothing : goal.returns-in-Nothing
returns-in-Nothing c =
    let fits : Fits128 (coefficient c.args.a.now c.args.place) = search rules in
    let some : coefficient c.args.a.now c.args.place ≢ pos 0 = λ none. omega (arith, ints, c.if-factor-eq0.false) in
    let unit : IsUnitTerm (coefficient c.args.a.now c.args.place) c.args.place c.in-Some.term = simp to_z-of_z at c.in-Some.ensures in
    terms_one c.args.place c.args.a.now c.in-Some.term (subst
    (AreTermsBelow c.args.place c.args.a.now) c.in-Nothing.is c.requires.before) some unit

pub returns-in-One : goal.returns-in-One
returns-in-One c =
    let fits : Fits128 (coefficient c.args.a.now c.args.place) = search rules in
    let some : coefficient c.args.a.now c.args.place ≢ pos 0 = λ none. omega (arith, ints, c.if-factor-eq0.false) in
    let unit : IsUnitTerm (coefficient c.args.a.now c.args.place) c.args.place c.in-Some.term = simp to_z-of_z at c.in-Some.ensures in
    terms_two c.args.place c.args.a.now c.in-One.first c.in-Some.term
    (subst (AreTermsBelow c.args.place c.args.a.now) c.in-One.is c.requires.before) some unit
