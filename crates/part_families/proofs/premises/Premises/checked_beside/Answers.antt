use Rattle.std.proofs.Common.{List, subst, sym, ◌∙◌}
use Rattle.step_meaning.specs.Syntax.{statements}
use Rattle.ctl_formula.specs.Mirror.{ctl}
use Rattle.decision_tree.specs.Plans.{Plan}
use Rattle.decision_tree.specs.declared.affine_rank.AffineRank.{AffineRank}
use Rattle.tree_check.specs.Checking.{families_of}
use Rattle.tree_support.specs.Certificates.{affine_ranks}
use Rattle.tree_support.specs.Setting.{Setting, setting_of, trees_in}
use Rattle.tree_support.specs.Support.{IsSupported}
use Rattle.part_families.specs.Knowing.{told_on}
use Rattle.part_families.proofs.Left.{left_shows}
use Rattle.part_families.proofs.premises.Premises.checked_beside.Goals as goal

pub check_beside-requires-clause-known : goal.check_beside-requires-clause-known
check_beside-requires-clause-known g c =
    let told = told_on g.D.NumDomain c.args.self.now in
    let at : Setting AffineRank =
    setting_of (statements c.args.self.now.graph.now.body) told (ctl c.args.formula.now) (families_of c.args.operands.now) in
    subst (λ (plans : List (Plan AffineRank)). IsSupported affine_ranks at (trees_in plans)) (sym c.items.ensures) c.requires.known.shown.supported

pub returns : goal.returns
returns g c =
    left_shows c.args.self.now.graph.now (told_on g.D.NumDomain c.args.self.now) (ctl c.args.formula.now) c.args.number c.args.operands.now
    c.args.trees c.check_beside.new.family c.in_ok-_dropped._dropped.items c.in_ok-_dropped.ensures.legal c.in_ok-_dropped.ensures.supported
    c.requires.fit c.check_beside.ensures.part (c.check_beside.ensures.labels ∙ c.requires.labels ∙ c.requires.premises.labels)
    c.eliminations_spare_places.ensures
