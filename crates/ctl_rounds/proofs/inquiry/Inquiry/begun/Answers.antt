use Rattle.std.proofs.Common.{◌≡◌, List, [], ◌∷◌, ◌++◌, length, ap, subst, sym, ◌∙◌}
use Rattle.step_meaning.specs.Syntax.{statements}
use Rattle.ctl_formula.specs.Mirror.{ctl}
use Rattle.part_families.specs.Families.{IsExact, IsNarrowFor}
use Rattle.ctl_rounds.specs.Finding.{FirstIs}
use Rattle.decision_tree.specs.declared.affine_rank.AffineRank.{AffineRank}
use Rattle.decision_tree.specs.declared.family.Family.{Family}
use Rattle.part_families.specs.Knowing.{told_on}
use Rattle.part_families.proofs.Combining.{operand_labels}
use Rattle.ctl_rounds.proofs.inquiry.Inquiry.begun.Goals as goal

pub returns-clause-exact : goal.returns-clause-exact
returns-clause-exact g c loopless free =
    let inquiry = c.args.self.now in
    let body = statements inquiry.premises.now.graph.now.body in
    let vars = length inquiry.premises.now.graph.now.names in
    let f = ctl inquiry.formula.now in
    let only : c.keep.new.found.tops.items ≡ c.in_ok-first.first ∷ [] =
    ◌∙◌ {A = List (Family AffineRank)} c.in_ok-keep.ensures.tops (ap (λ (tops : List (Family AffineRank)). tops ++ c.in_ok-first.first ∷ []) c.none-found.ensures.tops) in (
      (λ uncut. subst (FirstIs (IsExact body f)) (sym only) (c.in_ok-first.ensures.exact loopless (c.requires.inquiry.smaller.complete loopless free uncut))),
      (λ within. subst (FirstIs (IsNarrowFor vars body f)) (sym only)
          (c.in_ok-first.ensures.narrow loopless within (
            c.requires.inquiry.smaller.as_many,
            operand_labels inquiry.premises.now.graph.now (told_on g.D.NumDomain inquiry.premises.now) inquiry.premises.now.labels
                inquiry.smaller.now c.requires.inquiry.smaller c.requires.inquiry.premises.labels,
          )
          (c.requires.inquiry.smaller.narrow loopless free within))),
    )

pub returns-clause-alone : goal.returns-clause-alone
returns-clause-alone g c =
    ap length
    (◌∙◌ {A = List (Family AffineRank)} c.in_ok-keep.ensures.tops (ap (λ (tops : List (Family AffineRank)). tops ++ c.in_ok-first.first ∷ []) c.none-found.ensures.tops))
