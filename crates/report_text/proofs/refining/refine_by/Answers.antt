use Rattle.std.proofs.Common.{◌≡◌, ◌∙◌, rules}
use Rattle.std.proofs.lemmas.Result.{on_ok_weaker}
use Rattle.decision_tree.specs.Plans.{plan_of}
use Rattle.report_text.proofs.StandIns.{complements_trimmed, kept_added, parted_added}
use Rattle.report_text.proofs.refining.refine_by.Goals as goal

pub returns-then-not-makes_claims : goal.returns-then-not-makes_claims
returns-then-not-makes_claims c =
    let copied : c.in_ok-to_vec.field-0.items ≡ c.items.result.now = search rules in
    kept_added (plan_of c.args.ranked.now) (plan_of c.args.tree.now) c.args.line.now _ _ _ c.requires.trimmed (c.makes_claims.ensures c.if-not-makes_claims.true)
    (c.of-rows.ensures ∙ copied ∙ c.items.ensures) c.in_ok-push.ensures.items

pub add_lines-requires : goal.add_lines-requires
add_lines-requires c = complements_trimmed (plan_of c.args.ranked.now) (plan_of c.args.tree.now) c.args.line.now.rows c.requires.trimmed c.requires.fits

pub returns : goal.returns
returns c =
    on_ok_weaker c.add_lines.result (parted_added (plan_of c.args.ranked.now) (plan_of c.args.tree.now) c.args.line.now _ _ _ c.requires.trimmed
    (c.in_ok-trail.ensures ∙ c.items-2.ensures)) c.add_lines.ensures.added
