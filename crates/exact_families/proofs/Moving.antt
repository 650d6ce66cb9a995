-- The trees before an assignment and before a test of which one outcome is possible lead to less.
use Rattle.std.proofs.Common.{◌≡◌, ◌⊎◌, inl, inr, ⊎_elim, ℕ, zero, suc, ◌<◌, Bool, List, [], ◌∷◌, ◌++◌, Option, None, Some, Contains, refl, sym, subst, ◌∙◌, arith}
use Rattle.linear_cons.specs.declared.affine.Affine.{Affine}
use Rattle.linear_cons.specs.declared.row.Row.{Row}
use Rattle.linear_cons.specs.declared.row.RowKind.TheVariants.{Never}
use Rattle.linear_cons.specs.Rows.{row_kind_of}
use Rattle.linear_forms.specs.Duality.{AreDual}
use Rattle.decision_tree.specs.AffineRanks.{excess_of}
use Rattle.decision_tree.specs.Plans.{Plan, leaf}
use Rattle.decision_tree.specs.declared.affine_rank.AffineRank.{AffineRank}
use Rattle.decision_tree.specs.declared.reason.Pick.TheVariants.{All as Every}
use Rattle.decision_tree.specs.declared.reason.Why.{Why}
use Rattle.decision_tree.specs.declared.reason.Why.TheVariants.{Step}
use Rattle.tree_unify.specs.Shapes.{trimmed}
use Rattle.backward_transfer.specs.Steps.{assigned, step_to, stepped}
use Rattle.backward_transfer.specs.Tests.{tested}
use Rattle.tree_support.specs.Certificates.{affine_ranks}
use Rattle.tree_support.specs.Arcs.{Arc, Flow, putting, rows_given, testing}
use Rattle.tree_support.specs.Setting.{Trees}
use Rattle.constraint_stack.specs.Claims.{moved_rank}
use Rattle.tree_support.specs.Systems.{moved_by}
use Rattle.exact_families.proofs.Judges.{Granted, GrantsOne, GrantsRows, IsJudge, judged}
use Rattle.exact_families.proofs.Leaves.{equal_rank, equal_why}
use Rattle.exact_families.proofs.Judging.{cut_judged}
use Rattle.exact_families.proofs.Making.{assigned_leaf, stepped_leaf, rank_alike}
use Rattle.exact_families.proofs.Shutting.{IsLess, append_contains, map_contains, only_one, says_moved}
use Rattle.exact_families.proofs.Testing.{not_both, one_of_both, test_stands}
use Rattle.exact_families.proofs.Whys.{SetsPlace, own_excess}
use Rattle.backward_transfer.specs.AffineShapes.{same_rank}

-- a rank that is one more than another, moved, is above it
pub less_than : (sets : Option (ℕ × Affine)) (rank other : AffineRank) (why : Why) (end : Plan AffineRank) → end ≡ leaf why other
    → affine_ranks.one_more (moved_rank affine_ranks sets other) ≡ rank → IsLess sets rank end
less_than sets rank other why end is more =
    subst (IsLess sets rank) (sym is)
    (subst (λ (r : AffineRank). row_kind_of (excess_of (affine_ranks.one_more (moved_rank affine_ranks sets other)).value r.value) ≡ Never) more
    (own_excess (affine_ranks.one_more (moved_rank affine_ranks sets other)).value))

module _ (flow : Flow) (family : Trees AffineRank) (label : ℕ) where
  -- What a judge finds of the tree before a step: each of its leaves is for every next state, of a rank that is no negative number, and each arc
  -- that the judge grants leads to a defined leaf of less rank.
  pub record Steps (step : Plan AffineRank) : Type 0 where
    pub sets : (arc : Arc) → Contains (flow.arcs label) arc → SetsPlace arc.sets
    pub why_is : (v : Affine → Bool) → IsJudge v → (why : Why) (rank : AffineRank) → judged v step ≡ leaf why rank → why ≡ Step Every
    pub less : (v : Affine → Bool) → IsJudge v → (why : Why) (rank : AffineRank) → judged v step ≡ leaf why rank
        → (arc : Arc) → Contains (flow.arcs label) arc → Granted v arc.asks → IsLess arc.sets rank (judged (says_moved v (moved_by arc.sets)) (family arc.target))

  -- a leaf of the next tree, and what it is before the step
  abbrev Before : (Affine → Bool) → Option (ℕ × Affine) → Plan AffineRank → Why → AffineRank → Type 0
  Before v sets tree why rank =
      (other : Why) × (next : AffineRank) × (judged (says_moved v (moved_by sets)) tree ≡ leaf other next) × (step_to (affine_ranks.one_more (moved_rank affine_ranks sets next)) ≡ leaf why rank)

  before_why : (v : Affine → Bool) (sets : Option (ℕ × Affine)) (tree : Plan AffineRank) (why : Why) (rank : AffineRank) → Before v sets tree why rank → why ≡ Step Every
  before_why v sets tree why rank found = sym (equal_why (Step Every) why (affine_ranks.one_more (moved_rank affine_ranks sets found.1)) rank found.3)

  before_less : (v : Affine → Bool) (sets : Option (ℕ × Affine)) (tree : Plan AffineRank) (why : Why) (rank : AffineRank) → Before v sets tree why rank
      → IsLess sets rank (judged (says_moved v (moved_by sets)) tree)
  before_less v sets tree why rank found =
      less_than sets rank found.1 found.0 (judged (says_moved v (moved_by sets)) tree) found.2
      (equal_rank (Step Every) why (affine_ranks.one_more (moved_rank affine_ranks sets found.1)) rank found.3)

  -- ---- an assignment

  module _ (next : ℕ) (x : ℕ) (by : Affine) (low : x < 16) where
    abbrev pub before_assignment : Plan AffineRank
    before_assignment = trimmed same_rank [] (assigned same_rank affine_ranks.substituted affine_ranks.one_more x by (family next))

    pub assign_steps : flow.arcs label ≡ putting x next by ∷ []
        → Steps before_assignment
    assign_steps arcs = record {
      sets = λ arc inside. subst (λ (a : Arc). SetsPlace a.sets) (only_one (putting x next by) arc (subst (λ (l : List Arc). Contains l arc) arcs inside)) low;
      why_is = λ v j why rank own. before_why v (Some (x, by)) (family next) why rank (assigned_leaf same_rank rank_alike v j affine_ranks.one_more affine_ranks.substituted x by (family next) why rank own);
      less = λ v j why rank own arc inside more.
          subst (λ (a : Arc). IsLess a.sets rank (judged (says_moved v (moved_by a.sets)) (family a.target)))
          (only_one (putting x next by) arc (subst (λ (l : List Arc). Contains l arc) arcs inside))
          (before_less v (Some (x, by)) (family next) why rank (assigned_leaf same_rank rank_alike v j affine_ranks.one_more affine_ranks.substituted x by (family next) why rank own));
    }

  -- ---- a test of which just one outcome is possible

  module _ (then_to else_to : ℕ) (holds fails : List (List Row)) (dual : AreDual holds fails) where
    abbrev pub before_test : Plan AffineRank
    before_test = trimmed same_rank [] (tested same_rank affine_ranks.where_greater affine_ranks.greater_fits affine_ranks.one_more (family then_to) (family else_to) holds fails)

    on_holding : (v : Affine → Bool) → IsJudge v → GrantsOne v holds → judged v before_test ≡ judged v (stepped same_rank affine_ranks.one_more (family then_to))
    on_holding v j some =
        cut_judged same_rank rank_alike v j (tested same_rank affine_ranks.where_greater affine_ranks.greater_fits affine_ranks.one_more (family then_to) (family else_to) holds fails)
        ∙ test_stands same_rank rank_alike v j (judged v (stepped same_rank affine_ranks.one_more (family then_to))) affine_ranks.where_greater affine_ranks.greater_fits affine_ranks.one_more (family then_to) (family else_to) fails holds
        (λ one other. absurd (not_both v j holds fails dual.exclude one other)) (λ one none. refl) (λ none other. absurd (none some)) (λ none other. absurd (none some))

    on_failing : (v : Affine → Bool) → IsJudge v → GrantsOne v fails → judged v before_test ≡ judged v (stepped same_rank affine_ranks.one_more (family else_to))
    on_failing v j some =
        cut_judged same_rank rank_alike v j (tested same_rank affine_ranks.where_greater affine_ranks.greater_fits affine_ranks.one_more (family then_to) (family else_to) holds fails)
        ∙ test_stands same_rank rank_alike v j (judged v (stepped same_rank affine_ranks.one_more (family else_to))) affine_ranks.where_greater affine_ranks.greater_fits affine_ranks.one_more (family then_to) (family else_to) fails holds
        (λ one other. absurd (not_both v j holds fails dual.exclude one other)) (λ one none. absurd (none some)) (λ none other. refl) (λ none other. absurd (other some))

    behind_holding : (v : Affine → Bool) → IsJudge v → GrantsOne v holds → (why : Why) (rank : AffineRank) → judged v before_test ≡ leaf why rank → Before v None (family then_to) why rank
    behind_holding v j some why rank own = stepped_leaf same_rank rank_alike v j affine_ranks.one_more (family then_to) why rank (sym (on_holding v j some) ∙ own)

    behind_failing : (v : Affine → Bool) → IsJudge v → GrantsOne v fails → (why : Why) (rank : AffineRank) → judged v before_test ≡ leaf why rank → Before v None (family else_to) why rank
    behind_failing v j some why rank own = stepped_leaf same_rank rank_alike v j affine_ranks.one_more (family else_to) why rank (sym (on_failing v j some) ∙ own)

    -- what an arc of the test asks is a conjunction
    arc_rows : (edge target : ℕ) (list : List (List Row)) (arc : Arc) → Contains (testing edge target list) arc
        → (conj : List Row) × Contains list conj × (record { edge = edge; target = target; asks = rows_given conj; sets = None } ≡ arc)
    arc_rows edge target list arc inside = map_contains (λ conj. record { edge = edge; target = target; asks = rows_given conj; sets = None }) list arc inside

    grants_conj : (v : Affine → Bool) (conj : List Row) → Granted v (rows_given conj) → GrantsRows v conj
    grants_conj v [] own = tt
    grants_conj v (row ∷ rest) own = (own.0, grants_conj v rest own.1)

    grants_list : (v : Affine → Bool) (list : List (List Row)) (conj : List Row) → Contains list conj → GrantsRows v conj → GrantsOne v list
    grants_list v [] conj inside own = absurd (let low = inside.1 in omega arith)
    grants_list v (c ∷ rest) conj (zero, low, is) own = inl (subst (GrantsRows v) (sym is) own)
    grants_list v (c ∷ rest) conj (suc k, low, is) own = inr (grants_list v rest conj (k, omega arith, is) own)

    arc_less : (v : Affine → Bool) (rank : AffineRank) (edge target : ℕ) (list : List (List Row)) (arc : Arc) → Contains (testing edge target list) arc → Granted v arc.asks
        → (GrantsOne v list → IsLess None rank (judged v (family target))) → IsLess arc.sets rank (judged (says_moved v (moved_by arc.sets)) (family arc.target))
    arc_less v rank edge target list arc inside more each =
        let found = arc_rows edge target list arc inside in
        let own : Granted v (rows_given found.0) = subst (λ (a : Arc). Granted v a.asks) (sym found.2) more in
        subst (λ (a : Arc). IsLess a.sets rank (judged (says_moved v (moved_by a.sets)) (family a.target))) found.2
        (each (grants_list v list found.0 found.1 (grants_conj v found.0 own)))

    arc_place : (edge target : ℕ) (list : List (List Row)) (arc : Arc) → Contains (testing edge target list) arc → SetsPlace arc.sets
    arc_place edge target list arc inside = let found = arc_rows edge target list arc inside in subst (λ (a : Arc). SetsPlace a.sets) found.2 tt

    either_before : (v : Affine → Bool) → IsJudge v → (why : Why) (rank : AffineRank) → judged v before_test ≡ leaf why rank
        → Before v None (family then_to) why rank ⊎ Before v None (family else_to) why rank
    either_before v j why rank own =
        ⊎_elim (λ some. inl (behind_holding v j some why rank own)) (λ some. inr (behind_failing v j some why rank own)) (one_of_both v j holds fails dual)

    pub test_steps : flow.arcs label ≡ testing 0 then_to holds ++ testing 1 else_to fails
        → Steps before_test
    test_steps arcs = record {
      sets = λ arc inside.
          ⊎_elim (λ here. arc_place 0 then_to holds arc here) (λ there. arc_place 1 else_to fails arc there)
          (append_contains (testing 0 then_to holds) (testing 1 else_to fails) arc (subst (λ (l : List Arc). Contains l arc) arcs inside));
      why_is = λ v j why rank own.
          ⊎_elim (λ here. before_why v None (family then_to) why rank here) (λ there. before_why v None (family else_to) why rank there) (either_before v j why rank own);
      less = λ v j why rank own arc inside more.
          ⊎_elim
          (λ here. arc_less v rank 0 then_to holds arc here more (λ some. before_less v None (family then_to) why rank (behind_holding v j some why rank own)))
          (λ there. arc_less v rank 1 else_to fails arc there more (λ some. before_less v None (family else_to) why rank (behind_failing v j some why rank own)))
          (append_contains (testing 0 then_to holds) (testing 1 else_to fails) arc (subst (λ (l : List Arc). Contains l arc) arcs inside));
    }
