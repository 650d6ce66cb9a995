use Rattle.std.proofs.Common.{◌≡◌, ◌<◌, ◌++◌, ◌∷◌, [], length, slice_index_or, sym, ap, ◌∙◌, arith}
use Rattle.std.proofs.lemmas.Bool.{ltb-true}
use Rattle.std.proofs.lemmas.Grind.{common_steps}
use Rattle.decision_tree.specs.Paths.{with_leaf}
use Rattle.decision_tree.specs.Plans.{plan_of, top}
use Rattle.tree_support.specs.Elimination.{cause_of}
use Rattle.tree_check.specs.Rounds.{dropped_by}
use Rattle.tree_check.proofs.Walked.{walked_found}
use Rattle.tree_check.proofs.giving.give_up_end.Goals as goal

pub returns-clause-walked : goal.returns-clause-walked
returns-clause-walked g c =
    let low : c.args.at.now.next < length c.args.found.now = ltb-true c.args.at.now.next (length c.args.found.now) (sym c.in-Some.ensures.lookup.0) in
    let is : c.in-Some.refuted.now ≡ slice_index_or c.args.found.now c.args.at.now.next c.in-Some.refuted.now = c.in-Some.ensures.lookup.1 in
    let here : c.in-Some.refuted.now.leaf ≡ c.args.at.now.passed = grind (arith, common_steps) in
    let given : plan_of c.undefine.new.self ≡ with_leaf (plan_of c.args.end.now) 0 (top (cause_of c.in-Some.refuted.now.finding.reason)) =
    c.undefine.ensures ∙ ap (λ cause. with_leaf (plan_of c.args.end.now) 0 (top cause)) c.in_ok-cause.ensures in
    let listed : c.push.new.self.items ≡ c.args.drops.now.items ++ dropped_by c.args.label c.in-Some.refuted.now ∷ [] =
    c.in_ok-push.ensures.items ∙ ap (λ dropped. c.args.drops.now.items ++ dropped ∷ []) c.dropped.ensures in
    walked_found c.args.label c.args.found.now c.args.at.now.passed (plan_of c.args.end.now) (plan_of c.undefine.new.self) c.args.at.now.next c.in-Some.refuted.now
    c.args.drops.now.items c.push.new.self.items c.requires.end low is here given listed
