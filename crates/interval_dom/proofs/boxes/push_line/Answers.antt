use Rattle.std.proofs.Common.{◌≡◌, ◌∙◌, ◌++◌, ◌∷◌, [], ap, refl, subst, sym}
use Rattle.std.proofs.lemmas.Int.{to_z-of_z}
use Rattle.std.proofs.lemmas.List.{append-nil}
use Rattle.linear_cons.specs.Functions.{constant_of}
use Rattle.linear_cons.specs.Rows.{IsRowOf}
use Rattle.linear_cons.proofs.Forms.{affine_of_parts}
use Rattle.num_domain.specs.Lines.{row_list, rows_of_lines}
use Rattle.num_domain.proofs.LineLaws.{no_row, one_line}
use Rattle.interval_dom.specs.Boxes.{line}
use Rattle.interval_dom.proofs.LineRows.{line_is}
use Rattle.interval_dom.proofs.boxes.push_line.Goals as goal
use Rattle.interval_dom.proofs.boxes.push_line.Goals.{After-of}

-- the rows of the line are the list of the kind that is answered
added : (c : After-of) → row_list c.of.result ≡ rows_of_lines (line c.args.place c.args.factor c.args.constant ∷ [])
added c =
    let fits = c.ranges.factor in
    let also = c.ranges.constant in
    let constant : c.constant-affine.result ≡ constant_of c.args.constant = simp to_z-of_z at c.constant-affine.ensures in
    let normal = simp (to_z-of_z, constant) at c.of.ensures.normal in
    let is = affine_of_parts _ (line c.args.place c.args.factor c.args.constant)
    (line_is c.args.place c.args.factor c.args.constant c.requires) refl in
    one_line (line c.args.place c.args.factor c.args.constant) c.of.result (subst (λ a. IsRowOf a c.of.result) is normal)

pub returns-in_ok-push : goal.returns-in_ok-push
returns-in_ok-push c =
    let rows = added (goal.at.returns-in_ok-push c).After-of in
    let one = ap row_list (sym c.in-Row.is) ∙ rows in
    c.in_ok-push.ensures.items ∙ ap (λ t. c.args.rows.now.items ++ t) one

pub returns-in_default : goal.returns-in_default
returns-in_default c =
    let rows = added (goal.at.returns-in_default c).After-of in
    let none = sym (no_row c.of.result c.in_default.not-Row) ∙ rows in
    sym (append-nil c.args.rows.now.items) ∙ ap (λ t. c.args.rows.now.items ++ t) none
