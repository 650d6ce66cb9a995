use Rattle.std.proofs.Common.{◌≡◌, ◌≤◌, ℕ, List, length, subst, ◌∙◌, arith}
use Rattle.step_meaning.specs.Syntax.{statements}
use Rattle.ctl_formula.specs.Mirror.{ctl}
use Rattle.tree_check.specs.Checking.{families_of}
use Rattle.tree_support.specs.Setting.{setting_of, trees_in}
use Rattle.part_families.specs.Knowing.{told_on}
use Rattle.num_domain.proofs.LineLaws.{if_ok_more}
use Rattle.exact_families.specs.Completeness.{AreKept, NoneGivenUp}
use Rattle.tree_support.specs.Certificates.{affine_ranks}
use Rattle.tree_support.specs.Elimination.{Eliminates}
use Rattle.tree_support.specs.declared.dropped.Dropped.{Dropped}
use Rattle.part_families.proofs.Kept.{unchanged, uncut_kept}
use Rattle.part_families.proofs.premises.Premises.left_of.Goals as goal

pub returns-clause-kept : goal.returns-clause-kept
returns-clause-kept g c =
    let at = setting_of (statements c.args.self.now.graph.now.body) (told_on g.D.NumDomain c.args.self.now) (ctl c.args.formula.now)
    (families_of c.args.smaller.now.operands.items) in
    if_ok_more c.checked.result (λ family. (drops : List Dropped) × Eliminates affine_ranks at (trees_in c.fitted-fit.result) drops (trees_in family.trees))
    (λ family. AreKept c.args.trees family.trees)
    (λ family legal label none.
    let same = uncut_kept at legal.0 (trees_in c.fitted-fit.result) (trees_in family.trees) legal.1 label none in
    same ∙ c.fitted-fit.ensures.kept label (subst NoneGivenUp same none))
    c.checked.ensures.legal

pub returns-clause-whole : goal.returns-clause-whole
returns-clause-whole g c fit kept =
    let at = setting_of (statements c.args.self.now.graph.now.body) (told_on g.D.NumDomain c.args.self.now) (ctl c.args.formula.now)
    (families_of c.args.smaller.now.operands.items) in
    let valid = c.args.self.now.graph.now.valid.few in
    let few : length c.args.self.now.graph.now.names ≤ 16 = omega (arith, valid) in
    let same = c.fitted-fit.ensures.same (rw c.program.ensures few) (rw c.program.ensures fit) in
    if_ok_more c.checked.result (λ family. (drops : List Dropped) × Eliminates affine_ranks at (trees_in c.fitted-fit.result) drops (trees_in family.trees))
    (λ family. (label : ℕ) → trees_in family.trees label ≡ trees_in c.args.trees label)
    (λ family legal.
    let moved : Eliminates affine_ranks at (trees_in c.args.trees) legal.0 (trees_in family.trees) =
    subst (λ trees. Eliminates affine_ranks at (trees_in trees) legal.0 (trees_in family.trees)) same legal.1 in
    unchanged at c.args.trees family.trees legal.0 (kept legal.0 (trees_in family.trees) moved) moved)
    c.checked.ensures.legal
