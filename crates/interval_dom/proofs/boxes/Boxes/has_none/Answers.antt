use Rattle.std.proofs.Common.{◌≡◌, ◌∙◌, length, rules, sym, tests}
use Rattle.std.proofs.lemmas.Iterator.Search.{any_from_yields_List}
use Rattle.std.proofs.lemmas.Iterator.{YieldsList-from_slice}
use Rattle.std.specs.List.{list_any}
use Rattle.interval_dom.specs.Intervals.{is_void}
use Rattle.interval_dom.proofs.BoxLaws.{empty_whole}
use Rattle.interval_dom.proofs.boxes.Boxes.has_none.Goals as goal

pub returns : goal.returns
returns c =
    let long : length c.args.self.now.intervals ≡ 16 = search rules in
    let some : c.any.result ≡ list_any is_void c.args.self.now.intervals =
    any_from_yields_List is_void _ _ _ c.any.ensures.ran (YieldsList-from_slice c.args.self.now.intervals cc) (λ x b q k. search (
      rules,
      tests,
    )) in
    some ∙ sym (empty_whole c.args.self.now long)
