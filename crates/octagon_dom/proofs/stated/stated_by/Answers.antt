use Rattle.std.proofs.Common.{◌≡◌, rules, subst, ⊎_elim}
use Rattle.std.proofs.lemmas.Int.{to_z-of_z}
use Rattle.linear_cons.specs.Numbers.{Fits128}
use Rattle.linear_cons.proofs.RowLaws.{row_not_constant}
use Rattle.octagon_dom.specs.Terms.{AreTermsBelow, IsOctagonal}
use Rattle.octagon_dom.specs.declared.terms.Terms.TheVariants.{Nothing, Other}
use Rattle.octagon_dom.proofs.StatedLaws.{one_stated, two_stated}
use Rattle.octagon_dom.proofs.stated.stated_by.Goals as goal

pub returns-in-One : goal.returns-in-One
returns-in-One c =
    let fit : Fits128 c.args.row.now.affine.constant = search rules in
    let sum = simp to_z-of_z at c.sum.ensures in
    one_stated c.args.row.now c.in-One.term c.turned.result c.sum.result c.turned.ensures sum c.in-One.ensures

pub returns-in-Two : goal.returns-in-Two
returns-in-Two c =
    let fit : Fits128 c.args.row.now.affine.constant = search rules in
    simp to_z-of_z (two_stated c.args.row.now c.in-Two.first c.in-Two.second c.turned-in-Two.result c.turned-in-Two.ensures
    c.in-Two.ensures)

pub returns-in-Nothing : goal.returns-in-Nothing
returns-in-Nothing c =
    ⊎_elim
    (λ (nothing : c.terms_of.result ≡ Nothing) (shape : IsOctagonal c.args.row.now.affine).
    row_not_constant c.args.row.now (subst (AreTermsBelow 16 c.args.row.now.affine) nothing c.terms_of.ensures))
    (λ (other : c.terms_of.result ≡ Other). subst (AreTermsBelow 16 c.args.row.now.affine) other c.terms_of.ensures)
    c.in-Nothing.is
