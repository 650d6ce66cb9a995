-- Where the trees that a sweep makes are defined, by each judge.
use Rattle.std.proofs.Common.{◌≡◌, ◌↔◌, ℕ, Bool, true, false, ◌&&◌, ◌||◌, List, [], IsTrue, refl, ap, ◌∙◌}
use Rattle.linear_cons.specs.declared.affine.Affine.{Affine}
use Rattle.linear_cons.specs.declared.row.Row.{Row}
use Rattle.linear_cons.specs.Functions.{substituted}
use Rattle.linear_forms.specs.Duality.{AreDual}
use Rattle.decision_tree.specs.Plans.{IsEnd, Plan, bottom, branch, is_defined, leaf, top}
use Rattle.decision_tree.specs.Alternatives.{Alternatives}
use Rattle.tree_unify.specs.Shapes.{joined, trimmed}
use Rattle.tree_unify.specs.declared.join.Join.TheVariants.{Both, Either}
use Rattle.backward_transfer.specs.Steps.{assigned, stepped}
use Rattle.backward_transfer.specs.Tests.{tested}
use Rattle.exact_families.proofs.Judges.{GrantsOne, IsJudge, judged}
use Rattle.exact_families.proofs.Judging.{assign_judged, both_first, both_second, cut_judged, either_first, either_none, either_second, judged_is_end, step_judged}
use Rattle.exact_families.proofs.Testing.{not_both, test_stands}
use Rattle.exact_families.proofs.Making.{made}

module _ {R : Type 0} (same : R → R → Bool) (alike : (rank other : R) → IsTrue (same rank other) ↔ (rank ≡ other)) (v : Affine → Bool) (is : IsJudge v) where
  step_same : (one_more : R → R) (end : Plan R) → IsEnd end → is_defined (stepped same one_more end) ≡ is_defined end
  step_same one_more bottom ends = refl
  step_same one_more (top cause) ends = refl
  step_same one_more (leaf why rank) ends = refl
  step_same one_more (branch row this that) ends = absurd ends

  assign_same : (put : R → ℕ → Affine → R) (one_more : R → R) (place : ℕ) (by : Affine) (end : Plan R) → IsEnd end → is_defined (assigned same put one_more place by end) ≡ is_defined end
  assign_same put one_more place by bottom ends = refl
  assign_same put one_more place by (top cause) ends = refl
  assign_same put one_more place by (leaf why rank) ends = refl
  assign_same put one_more place by (branch row this that) ends = absurd ends

  -- before a step that changes nothing a claim stands exactly where one stands behind it
  pub skip_defined : (one_more : R → R) (plan : Plan R) → is_defined (judged v (trimmed same [] (stepped same one_more plan))) ≡ is_defined (judged v plan)
  skip_defined one_more plan =
      ap is_defined (cut_judged same alike v is (stepped same one_more plan) ∙ step_judged same alike v one_more plan) ∙ step_same one_more (judged v plan) (judged_is_end v plan)

  -- and before an assignment
  pub assign_defined : (put : R → ℕ → Affine → R) (one_more : R → R) (place : ℕ) (by : Affine) (plan : Plan R)
      → is_defined (judged v (trimmed same [] (assigned same put one_more place by plan))) ≡ is_defined (judged (λ a. v (substituted a place by)) plan)
  assign_defined put one_more place by plan =
      ap is_defined (cut_judged same alike v is (assigned same put one_more place by plan) ∙ assign_judged same alike v is put one_more place by plan)
      ∙ assign_same put one_more place by (judged (λ a. v (substituted a place by)) plan) (judged_is_end (λ a. v (substituted a place by)) plan)

  module _ (where_greater : R → R → Alternatives) (greater_fits : R → R → Type 0) where
    -- before a test of which one outcome is possible
    module _ (one_more : R → R) (this that : Plan R) (holds fails : List (List Row)) (dual : AreDual holds fails) where
      abbrev before : Plan R
      before = trimmed same [] (tested same where_greater greater_fits one_more this that holds fails)

      pub test_holds : GrantsOne v holds → is_defined (judged v before) ≡ is_defined (judged v this)
      test_holds some =
          ap is_defined (cut_judged same alike v is (tested same where_greater greater_fits one_more this that holds fails)
          ∙ test_stands same alike v is (judged v (stepped same one_more this)) where_greater greater_fits one_more this that fails holds
          (λ one other. absurd (not_both v is holds fails dual.exclude one other)) (λ one none. refl) (λ none other. absurd (none some)) (λ none other. absurd (none some))
          ∙ step_judged same alike v one_more this) ∙ step_same one_more (judged v this) (judged_is_end v this)

      pub test_fails : GrantsOne v fails → is_defined (judged v before) ≡ is_defined (judged v that)
      test_fails some =
          ap is_defined (cut_judged same alike v is (tested same where_greater greater_fits one_more this that holds fails)
          ∙ test_stands same alike v is (judged v (stepped same one_more that)) where_greater greater_fits one_more this that fails holds
          (λ one other. absurd (not_both v is holds fails dual.exclude one other)) (λ one none. absurd (none some)) (λ none other. refl) (λ none other. absurd (other some))
          ∙ step_judged same alike v one_more that) ∙ step_same one_more (judged v that) (judged_is_end v that)

    -- joined trees
    either_at : (a b : Plan R) (t u : Bool) → is_defined (judged v a) ≡ t → is_defined (judged v b) ≡ u
        → is_defined (judged v (joined same where_greater greater_fits Either a b)) ≡ (t || u)
    either_at a b true u one two = ap is_defined (either_first same alike v is where_greater greater_fits a b one) ∙ one
    either_at a b false true one two = ap is_defined (either_second same alike v is where_greater greater_fits a b one two) ∙ two
    either_at a b false false one two = ap is_defined (either_none same alike v is where_greater greater_fits a b one two) ∙ one

    pub either_defined : (a b : Plan R) → is_defined (judged v (joined same where_greater greater_fits Either a b)) ≡ (is_defined (judged v a) || is_defined (judged v b))
    either_defined a b = either_at a b _ _ refl refl

    both_at : (a b : Plan R) (t : Bool) → is_defined (judged v a) ≡ t → is_defined (judged v (joined same where_greater greater_fits Both a b)) ≡ (t && is_defined (judged v b))
    both_at a b true one = ap is_defined (both_second same alike v is where_greater greater_fits a b one)
    both_at a b false one = ap is_defined (both_first same alike v is where_greater greater_fits a b one) ∙ one

    pub both_defined : (a b : Plan R) → is_defined (judged v (joined same where_greater greater_fits Both a b)) ≡ (is_defined (judged v a) && is_defined (judged v b))
    both_defined a b = both_at a b _ refl

    -- the tree of an until or weak until: now, or kept and a step
    pub made_defined : (now keep step : Plan R)
        → is_defined (judged v (made same where_greater greater_fits now keep step)) ≡ (is_defined (judged v now) || (is_defined (judged v keep) && is_defined (judged v step)))
    made_defined now keep step =
        either_defined now (joined same where_greater greater_fits Both keep step) ∙ ap (λ t. is_defined (judged v now) || t) (both_defined keep step)
