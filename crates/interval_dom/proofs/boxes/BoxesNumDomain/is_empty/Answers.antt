use Rattle.std.proofs.Common.{◌≡◌, ◌∙◌, length, rules, sym}
use Rattle.interval_dom.specs.Laws.BoxLaws.{empty_none}
use Rattle.interval_dom.proofs.BoxLaws.{empty_exact}
use Rattle.interval_dom.proofs.boxes.BoxesNumDomain.is_empty.Goals as goal

pub returns-clause-exact : goal.returns-clause-exact
returns-clause-exact c =
    let long : length c.args.self.now.intervals ≡ 16 = search rules in (
      λ empty store is has. empty_none c.args.self.now store (sym c.has_none.ensures ∙ empty) has,
      λ none. c.has_none.ensures ∙ empty_exact c.args.self.now long none,
    )
