use Rattle.std.proofs.Common.{true, All}
use Rattle.step_meaning.specs.Run.{start}
use Rattle.linear_cons.specs.Functions.{value_at}
use Rattle.control_flow.specs.Labels.{entry_of}
use Rattle.count_down.proofs.Leads.{all_weaken}
use Rattle.ctl_formula.specs.Formulas.{Ctl, exit, truth, until}
use Rattle.ctl_formula.specs.Satisfaction.{Sat, WithinBound}
use Rattle.tree_check.specs.Checking.{families_of}
use Rattle.tree_support.specs.Certificates.{IsShown, operands_from}
use Rattle.tree_support.specs.Setting.{trees_in}
use Rattle.ctl_rounds.specs.Bounds.{HoldsAtInputs}
use Rattle.ctl_rounds.specs.Certified.{trees_of}
use Rattle.ctl_rounds.proofs.CoverLaws.{HasFirst, all_of_map, cover_holds}
use Rattle.ctl_rounds.proofs.laws.covers_hold.Goals as goal

first_leaf : (c : goal.After-af_exit_is_that_runs_end) → HasFirst
first_leaf c = record {
  first = c.either_has_the_first_defined_leaf.ensures.first;
  second = c.either_has_the_first_defined_leaf.ensures.second;
  neither = c.either_has_the_first_defined_leaf.ensures.neither;
}

pub returns-clause-satisfied : goal.returns-clause-satisfied
returns-clause-satisfied c = λ vars body told few valid truth formula parts tops certificate cover is.
    let families = families_of parts in
    let shown : All (λ family. IsShown body told formula (operands_from families 0 formula) (trees_of family)) tops =
    all_of_map (IsShown body told formula (operands_from families 0 formula)) trees_of tops certificate.shown.whole in
    cover_holds (first_leaf c) vars (λ rank input. Sat formula (start body input)) body tops cover is
    (all_weaken (λ family. IsShown body told formula (operands_from families 0 formula) (trees_of family))
    (λ family. HoldsAtInputs vars (λ rank input. Sat formula (start body input)) (trees_in family.trees (entry_of body))) tops
    (λ family own. (c.shown_formulas_hold.ensures.satisfied vars body told few valid truth families 0 formula certificate.shown.smaller (trees_of family) own).inputs)
    shown)

pub returns-clause-bounded : goal.returns-clause-bounded
returns-clause-bounded c = λ vars body told few valid truth all keep goal parts tops certificate cover is.
    let families = families_of parts in
    let formula : Ctl = until all keep goal in
    let shown : All (λ family. IsShown body told formula (operands_from families 0 formula) (trees_of family)) tops =
    all_of_map (IsShown body told formula (operands_from families 0 formula)) trees_of tops certificate.shown.whole in
    cover_holds (first_leaf c) vars (λ rank input. WithinBound (value_at rank.value input) formula (start body input)) body tops cover is
    (all_weaken (λ family. IsShown body told formula (operands_from families 0 formula) (trees_of family))
    (λ family. HoldsAtInputs vars (λ rank input. WithinBound (value_at rank.value input) formula (start body input)) (trees_in family.trees (entry_of body))) tops
    (λ family own. (c.shown_formulas_hold.ensures.bounded vars body told few valid truth families 0 all keep goal certificate.shown.smaller (trees_of family) own).inputs)
    shown)

pub returns-clause-ending : goal.returns-clause-ending
returns-clause-ending c = λ vars body told few valid is_true parts tops certificate cover is input why rank is_input at.
    (c.af_exit_is_that_runs_end.ensures (value_at rank.value input) (start body input)).0
    (returns-clause-bounded c vars body told few valid is_true true truth exit parts tops certificate cover is input why rank is_input at)
