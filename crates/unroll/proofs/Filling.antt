-- Which trees tell before any is made.
use Rattle.std.proofs.Common.{◌≡◌, inl, inr, ℕ, zero, suc, ◌<◌, List, length, sym, ap, subst, ◌∙◌, arith, cond}
use Rattle.decision_tree.specs.Plans.{Plan, bottom, leaf}
use Rattle.decision_tree.specs.declared.affine_rank.AffineRank.{AffineRank}
use Rattle.decision_tree.specs.declared.reason.Why.TheVariants.{End}
use Rattle.step_meaning.specs.Syntax.{Statements}
use Rattle.control_flow.specs.Actions.{AtFirst}
use Rattle.control_flow.specs.Labels.{action_at, all_labels}
use Rattle.control_flow.proofs.LabelLaws.{only_end_is_final}
use Rattle.unroll.specs.Building.{TellsAt, TellsTree}
use Rattle.backward_transfer.specs.AffineShapes.{tree_at}
use Rattle.unroll.specs.Levels.{counted}
use Rattle.control_flow.specs.Measures.{size_before}
use Rattle.unroll.proofs.Lifting.{bottom_tree, end_tree}
use Rattle.unroll.proofs.Ordering.{heads_are_loops}

-- ---- nothing claimed yet

pub end_first : (limit : ℕ) (body : Statements) (trees : List (Plan AffineRank)) → tree_at trees 0 ≡ leaf End (counted 0) → AtFirst body 1 (TellsAt limit body trees)
end_first limit body trees is zero below first = subst (TellsTree limit body 0) (sym is) (end_tree limit body)
end_first limit body trees is (suc k) below first = absurd (omega arith)

pub unclaimed_first : (body : Statements) (trees : List (Plan AffineRank)) → tree_at trees 0 ≡ leaf End (counted 0) → ((k : ℕ) → 0 < k → tree_at trees k ≡ bottom)
    → AtFirst body (length (all_labels body)) (TellsAt 0 body trees)
unclaimed_first body trees is others zero below first = subst (TellsTree 0 body 0) (sym is) (end_tree 0 body)
unclaimed_first body trees is others (suc k) below (inl nought) = absurd (omega arith)
unclaimed_first body trees is others (suc k) below (inr head) =
    subst (TellsTree 0 body (suc k)) (sym (others (suc k) (omega arith)))
    (bottom_tree body (suc k) (λ final. let nought = only_end_is_final body (suc k) below final in absurd (omega arith)) (sym (heads_are_loops body (suc k) below) ∙ head)
    (λ sizes are. let same : sizes 0 (suc k) ≡ 1 = are 0 (suc k) below ∙ ap (λ t. cond t 1 (size_before (sizes zero) (action_at body (suc k)))) head in omega (arith, same)))
