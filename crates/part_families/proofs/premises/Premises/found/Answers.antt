use Rattle.std.proofs.Common.{◌≡◌, ◌≤◌, ℕ, length, sym, subst, ◌∙◌}
use Rattle.std.proofs.Math.Path.{fun_ext}
use Rattle.control_flow.specs.Labels.{all_labels}
use Rattle.tree_support.specs.Setting.{trees_in}
use Rattle.exact_families.specs.Narrowness.{IsNarrowAndComplete}
use Rattle.part_families.proofs.Narrowly.{found_fit, found_kept, found_narrow}
use Rattle.step_meaning.specs.Syntax.{statements}
use Rattle.ctl_formula.specs.Mirror.{ctl}
use Rattle.part_families.specs.Knowing.{told_on}
use Rattle.part_families.specs.Families.{IsExact, IsNarrowFor}
use Rattle.num_domain.proofs.LineLaws.{if_ok_more}
use Rattle.part_families.proofs.Exact.{found_exact}
use Rattle.exact_families.specs.Completeness.{AreKept}
use Rattle.part_families.proofs.premises.Premises.found.Goals as goal

pub returns-clause-exact : goal.returns-clause-exact
returns-clause-exact g c loopless each =
    let program = c.args.self.now.graph.now in
    if_ok_more c.left_of.result (λ family. AreKept c.in_ok-trees.trees family.trees) (IsExact (statements program.body) (ctl c.args.formula.now))
    (λ family kept. found_exact (statements program.body) (length program.names) program.valid.few program.valid.well_sorted loopless
    (told_on g.D.NumDomain c.args.self.now) c.args.self.now.transitions.now (c.requires.premises.transitions ∙ c.requires.premises.labels) c.requires.premises.told
    c.args.formula.now c.args.smaller.now.operands.items c.in_ok-trees.trees family
    (c.in_ok-trees.ensures.labels ∙ c.requires.premises.transitions ∙ c.requires.premises.labels)
    (rw c.deref.ensures.value at c.in_ok-trees.ensures.proposed) kept each) c.left_of.ensures.kept

pub returns-clause-narrow : goal.returns-clause-narrow
returns-clause-narrow g c loopless within own each =
    let program = c.args.self.now.graph.now in
    let body = statements program.body in
    let vars = length program.names in
    let told = told_on g.D.NumDomain c.args.self.now in
    let premises = c.requires.premises in
    let operands = c.args.smaller.now.operands.items in
    let trees = c.in_ok-trees.trees in
    let f = c.args.formula.now in
    let labels : length trees ≡ length (all_labels body) = c.in_ok-trees.ensures.labels ∙ premises.transitions ∙ premises.labels in
    let are = rw c.deref.ensures.value at c.in_ok-trees.ensures.proposed in
    let same : length c.args.self.now.transitions.now ≡ length (all_labels body) = premises.transitions ∙ premises.labels in
    let short : length (all_labels body) ≤ 1024 = subst (λ n. n ≤ 1024) premises.labels premises.few in
    let narrow = found_narrow body vars program.valid.few program.valid.well_sorted loopless told c.args.self.now.transitions.now same premises.told short f within operands
    c.args.self.now.labels premises.labels own trees labels are each in
    let kept = found_kept body vars program.valid.few program.valid.well_sorted loopless told c.args.self.now.transitions.now same premises.told short f within operands
    c.args.self.now.labels premises.labels own trees labels are each in
    let fit = found_fit body vars program.valid.few program.valid.well_sorted loopless told c.args.self.now.transitions.now same premises.told short f within operands
    c.args.self.now.labels premises.labels own trees labels are each in
    if_ok_more c.left_of.result (λ family. (label : ℕ) → trees_in family.trees label ≡ trees_in trees label) (IsNarrowFor vars body (ctl f))
    (λ family kept_as. subst (IsNarrowAndComplete vars body (ctl f)) (sym (fun_ext kept_as)) narrow) (c.left_of.ensures.whole fit kept)
