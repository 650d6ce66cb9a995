-- A list of trees whose slice was written.
use Rattle.std.proofs.Common.{◌≡◌, ℕ, List, ◌++◌, drop, length, map, take, sym, ap, ◌∙◌}
use Rattle.std.proofs.lemmas.List.{drop-map, length-map, map-append, take-map}
use Rattle.std.proofs.Math.Seq.{take-append_seam}
use Rattle.decision_tree.specs.declared.tree.Tree.{Tree}
use Rattle.decision_tree.specs.Lending.{with_trees}
use Rattle.decision_tree.specs.Plans.{Plan, plan_of}

-- the plans of trees that are written over others are those plans written over the others' plans
pub plans_written : {R : Type 0} (count : ℕ) (trees written : List (Tree R)) (plans : List (Plan R)) → count ≡ length trees → map plan_of trees ≡ plans →
    map plan_of (take count (written ++ drop (length written) trees)) ≡ with_trees plans written
plans_written count trees written plans long are =
    sym (take-map plan_of count (written ++ drop (length written) trees))
    ∙ ap (λ n. take n (map plan_of (written ++ drop (length written) trees))) (long ∙ sym (length-map trees plan_of) ∙ ap length are)
    ∙ ap (λ t. take (length plans) t) (map-append plan_of written (drop (length written) trees) ∙ ap (λ t. map plan_of written ++ t) (sym (drop-map plan_of (length written) trees) ∙ ap (λ t. drop (length written) t) are))

-- as many trees as there were are all that is left
pub as_many_written : {R : Type 0} (plans : List (Plan R)) (trees : List (Tree R)) → length trees ≡ length plans → with_trees plans trees ≡ map plan_of trees
as_many_written plans trees long =
    ap (λ n. take n (map plan_of trees ++ drop (length trees) plans)) (sym long ∙ sym (length-map trees plan_of))
    ∙ take-append_seam (map plan_of trees) (drop (length trees) plans)
