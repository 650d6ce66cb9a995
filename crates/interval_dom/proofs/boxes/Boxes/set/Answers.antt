use Rattle.std.proofs.Common.{◌≡◌, ◌<◌, ◌∙◌, ap, length, arith, rules}
use Rattle.linear_cons.specs.Ends.{greatest_value, least_value}
use Rattle.interval_dom.specs.Laws.BoxLaws.{empty_none}
use Rattle.interval_dom.proofs.BoxLaws.{assigned, other_ends, sets_ends}
use Rattle.interval_dom.proofs.boxes.Boxes.set.Goals as goal

pub returns-then-has_none-clause-keeps : goal.returns-then-has_none-clause-keeps
returns-then-has_none-clause-keeps c store z is has covers = absurd (empty_none c.args.self.now store (cc) has)

pub returns-clause-keeps : goal.returns-clause-keeps
returns-clause-keeps c =
    let long : length c.args.self.now.intervals ≡ 16 = search rules in
    let lower = c.of.ensures ∙ c.least.ensures ∙ ap (least_value c.args.value.now) c.ends-bounds.ensures in
    let upper = c.of-2.ensures ∙ c.greatest.ensures ∙ ap (greatest_value c.args.value.now) c.ends-bounds.ensures in
    assigned c.args.self.now c.args.place c.args.value.now _ c.requires long lower upper

pub returns-clause-other_ends : goal.returns-clause-other_ends
returns-clause-other_ends c =
    let long : length c.args.self.now.intervals ≡ 16 = search rules in
    let inside : c.args.place < length c.args.self.now.intervals = omega arith in
    other_ends c.args.self.now c.args.place _ inside

pub returns-clause-hull : goal.returns-clause-hull
returns-clause-hull c some =
    let long : length c.args.self.now.intervals ≡ 16 = search rules in
    let inside : c.args.place < length c.args.self.now.intervals = omega arith in
    let lower = c.of.ensures ∙ c.least.ensures ∙ ap (least_value c.args.value.now) c.ends-bounds.ensures in
    let upper = c.of-2.ensures ∙ c.greatest.ensures ∙ ap (greatest_value c.args.value.now) c.ends-bounds.ensures in
    sets_ends c.args.self.now c.args.place c.args.value.now _ inside lower upper
