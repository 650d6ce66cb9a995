use Rattle.control_flow.specs.Labels.{entry_of}
use Rattle.count_down.proofs.Leads.{all_weaken}
use Rattle.decision_tree.specs.Extent.{ComplementsFit, IsTreeOver}
use Rattle.tree_support.specs.Setting.{trees_in}
use Rattle.ctl_rounds.specs.Certified.{IsFamilyFor}
use Rattle.ctl_rounds.proofs.CoverLaws.{cover_has}
use Rattle.ctl_rounds.proofs.Joining.{complements_joined, over_joined}
use Rattle.ctl_rounds.proofs.laws.covers_can_be_printed.Goals as goal

pub returns : goal.returns
returns c = λ vars body told formula parts tops certificate cover is. (
  cover_has (IsTreeOver vars) tt (λ cover tree fits first second. over_joined vars cover tree first second) body tops cover is
      (all_weaken (IsFamilyFor vars body) (λ family. IsTreeOver vars (trees_in family.trees (entry_of body))) tops (λ family fit. fit.over (entry_of body))
      certificate.whole),
  cover_has ComplementsFit tt (λ cover tree fits first second. complements_joined cover tree fits) body tops cover is
      (all_weaken (IsFamilyFor vars body) (λ family. ComplementsFit (trees_in family.trees (entry_of body))) tops (λ family fit. fit.complements (entry_of body))
      certificate.whole),
)
