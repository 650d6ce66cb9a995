use Rattle.std.proofs.Common.{◌≡◌, List, [], ◌++◌, length, ap, ◌∙◌, rules}
use Rattle.step_meaning.specs.Syntax.{statements}
use Rattle.linear_cons.specs.declared.row.RowKind.{RowKind}
use Rattle.control_flow.specs.Labels.{Action, action_at}
use Rattle.decision_tree.specs.declared.affine_rank.AffineRank.{AffineRank}
use Rattle.decision_tree.specs.Evaluation.{eval}
use Rattle.decision_tree.specs.Plans.{Plan, plan_of}
use Rattle.tree_support.proofs.Lists.{all_none}
use Rattle.fit_check.specs.Ranges.{nested, rows_at, variable_rows, whole}
use Rattle.fit_check.proofs.Safe.{nested_is_safe, same_is_safe}
use Rattle.fit_check.proofs.ranging.safe_tree.Goals as goal

pub returns : goal.returns
returns c =
    let program = c.args.graph.now in
    let action : Action = action_at (statements program.body) c.args.label in
    let first : c.add_variables.new.kinds.items ≡ variable_rows (length program.names) = search rules in
    let both : c.add_action.new.kinds.items ≡ c.add_variables.new.kinds.items ++ rows_at c.args.bounds.now action = search rules in
    let all : c.add_action.new.kinds.items ≡ variable_rows (length program.names) ++ rows_at c.args.bounds.now action =
    both ∙ ap (λ (kinds : List RowKind). kinds ++ rows_at c.args.bounds.now action) first in
    let tree : plan_of c.in_ok-tree.tree ≡ nested (variable_rows (length program.names) ++ rows_at c.args.bounds.now action) whole =
    c.in_ok-tree.ensures ∙ ap (nested c.add_action.new.kinds.items) c.in_ok-whole.ensures ∙ ap (λ (kinds : List RowKind). nested kinds whole) all in
    same_is_safe (length program.names) c.args.bounds.now action (nested (variable_rows (length program.names) ++ rows_at c.args.bounds.now action) whole) (plan_of c.in_ok-tree-2.tree)
    (λ store. ap (λ (plan : Plan AffineRank). eval plan store) c.in_ok-tree-2.ensures.tree
    ∙ c.trimming_keeps_the_leaves_on_the_path.ensures [] (plan_of c.in_ok-tree.tree) store (all_none _)
    ∙ ap (λ (plan : Plan AffineRank). eval plan store) tree)
    (nested_is_safe (length program.names) c.args.bounds.now action whole)
