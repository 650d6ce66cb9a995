use Rattle.std.proofs.Common.{◌≡◌, pos, arith, rules, tests, SFits}
use Rattle.std.specs.Int.{w128}
use Rattle.std.specs.Ordering.{int_eq}
use Rattle.std.specs.List.{list_all}
use Rattle.std.proofs.lemmas.Int.{ints}
use Rattle.std.proofs.lemmas.Iterator.{YieldsList-from_slice}
use Rattle.std.proofs.lemmas.Iterator.Search.{all_from_yields_List}
use Rattle.line_text.proofs.line.is_nought.Goals as goal

pub returns-then-affine-eq0 : goal.returns-then-affine-eq0
returns-then-affine-eq0 c =
    let all : c.all.result ≡ list_all (λ z. int_eq z (pos 0)) c.args.affine.now.coef = all_from_yields_List (λ z. int_eq z (pos 0)) _ _
    c.all.result c.all.ensures.ran (YieldsList-from_slice c.args.affine.now.coef cc) (λ x b q k. search (rules, tests)) in
    let bits = c.if-affine-eq0.true in
    let fits : SFits w128 c.args.affine.now.constant = search rules in
    let one : c.args.affine.now.constant ≡ pos 0 = omega (arith, ints) in
    rw one all
