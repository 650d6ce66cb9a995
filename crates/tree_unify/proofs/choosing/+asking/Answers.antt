use Rattle.std.proofs.Common.{◌<◌, length, refl, sym, ◌∙◌, arith}
use Rattle.std.proofs.lemmas.Result.{IfOk-weaker}
use Rattle.linear_cons.specs.declared.row.RowKind.TheVariants.{Always, Never, Row as Kept}
use Rattle.decision_tree.specs.Plans.{plan_of}
use Rattle.tree_unify.proofs.Parting.{from_part}
use Rattle.tree_unify.proofs.choosing.+asking.Goals as goal

pub ask_from-returns-in-Always : goal.ask_from-returns-in-Always
ask_from-returns-in-Always g t c =
    let all = g.R.Rank.where_greater c.args.next.now c.args.rank.now in
    let few = c.requires.number in
    let long = g.met.R.Rank.greater_length_law c.args.next.now c.args.rank.now in
    let low : c.args.number < length all = omega (arith, few, long) in
    let asked = from_part g.R.PartialEq.eq all c.args.number c.args.part.now Always (plan_of c.args.met.now) (plan_of c.args.other.now) low c.requires.part c.in-Always.is in
    IfOk-weaker c.boxed.result _ _ (λ tree is. is ∙ sym asked) c.boxed.ensures

pub ask_from-returns-in-Never : goal.ask_from-returns-in-Never
ask_from-returns-in-Never g t c =
    let all = g.R.Rank.where_greater c.args.next.now c.args.rank.now in
    let few = c.requires.number in
    let long = g.met.R.Rank.greater_length_law c.args.next.now c.args.rank.now in
    let low : c.args.number < length all = omega (arith, few, long) in
    let asked = from_part g.R.PartialEq.eq all c.args.number c.args.part.now Never (plan_of c.args.met.now) (plan_of c.args.other.now) low c.requires.part c.in-Never.is in
    IfOk-weaker c.ask_behind.result _ _ (λ tree is. is ∙ sym asked) c.ask_behind.ensures

pub ask_from-returns-in_ok-no-in-Row : goal.ask_from-returns-in_ok-no-in-Row
ask_from-returns-in_ok-no-in-Row g t c =
    let all = g.R.Rank.where_greater c.args.next.now c.args.rank.now in
    let few = c.requires.number in
    let long = g.met.R.Rank.greater_length_law c.args.next.now c.args.rank.now in
    let low : c.args.number < length all = omega (arith, few, long) in
    let asked = from_part g.R.PartialEq.eq all c.args.number c.args.part.now (Kept c.in-Row.row) (plan_of c.args.met.now) (plan_of c.args.other.now) low c.requires.part c.in-Row.is in
    IfOk-weaker c.boxed_node.result _ _
    (λ tree is. is ∙ rw (c.in_ok-yes-in-Row.ensures, c.in_ok-no-in-Row.ensures) refl ∙ sym asked) c.boxed_node.ensures
