use Rattle.std.proofs.Common.{◌≡◌, ◌-◌, length, length-drop, drop, pos, sym, ap, ◌∙◌, arith, rules, tests, vec_items}
use Rattle.std.specs.Ordering.{int_eq}
use Rattle.std.specs.List.{list_all}
use Rattle.std.proofs.lemmas.Iterator.{YieldsList-from_slice}
use Rattle.std.proofs.lemmas.Iterator.Search.{all_from_yields_List}
use Rattle.std.proofs.lemmas.List.{length-map, take_all}
use Rattle.line_text.proofs.Zeros.{over_decided}
use Rattle.line_text.proofs.over.is_over.Goals as goal

pub returns-then-count-le16 : goal.returns-then-count-le16
returns-then-count-le16 c =
    let few = c.if-count-le16.true in
    let count : length c.args.names.now ≡ length c.items-count.result.now = ap length (sym c.items-count.ensures)
    ∙ length-map c.items-count.result.now vec_items in
    let long : length c.args.affine.now.coef ≡ 16 = search rules in
    let rest : c.iter.result.rest.now ≡ drop (length c.items-count.result.now) c.args.affine.now.coef = c.iter.ensures.rest
    ∙ take_all (16 - length c.items-count.result.now) (drop (length c.items-count.result.now) c.args.affine.now.coef)
    (let d = length-drop (length c.items-count.result.now) c.args.affine.now.coef in omega arith) in
    let all : c.all.result ≡ list_all (λ z. int_eq z (pos 0)) (drop (length c.items-count.result.now) c.args.affine.now.coef) =
    all_from_yields_List (λ z. int_eq z (pos 0)) _ _ c.all.result c.all.ensures.ran
    (YieldsList-from_slice (drop (length c.items-count.result.now) c.args.affine.now.coef) cc) (λ x b q k. search (rules, tests)) in
    over_decided c.args.names.now c.args.affine.now (length c.items-count.result.now) c.all.result (sym count) few long all
