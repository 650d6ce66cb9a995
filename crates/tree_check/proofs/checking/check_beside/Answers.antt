use Rattle.std.proofs.Common.{◌≡◌, List, ap, length, map, rules, subst, sym, ◌∙◌}
use Rattle.step_meaning.specs.Syntax.{statements}
use Rattle.ctl_formula.specs.Mirror.{ctl}
use Rattle.decision_tree.specs.Plans.{Plan, plan_of}
use Rattle.tree_support.specs.Setting.{setting_of, trees_in}
use Rattle.tree_support.specs.Support.{IsSupported}
use Rattle.control_flow.specs.Told.{told_by}
use Rattle.tree_check.specs.Checking.{families_of}
use Rattle.tree_check.proofs.Settling.{written_back}
use Rattle.tree_check.proofs.checking.check_beside.Goals as goal

pub returns-clause-supported : goal.returns-clause-supported
returns-clause-supported g c =
    let told = told_by g.D.NumDomain.told_bounds g.D.NumDomain.told_rows g.D.NumDomain.seen_empty c.args.inv.now in
    let count : length c.settle_beside-settled.new.trees ≡ length c.into_vec-trees.result.items = search rules in
    let len : c.into_vec-trees.result.len ≡ length c.into_vec-trees.result.items = search rules in
    let last : map plan_of c.settle_beside-settled.new.trees ≡ c.of-2.result =
    ap (map plan_of) (sym (written_back c.settle_beside-settled.new.trees c.into_vec-trees.result.items c.into_vec-trees.result.len count len)) ∙ sym c.of-2.ensures in
    subst (λ (plans : List (Plan g.row.R.Denot)). IsSupported g.R.Rank (setting_of (statements c.args.graph.now.body) told (ctl c.args.formula.now) (families_of c.args.parts.now)) (trees_in plans)) last
    c.in_ok-settled.ensures.supported
