-- What a judge finds in the tree of a label that is made by a sweep.
use Rattle.std.proofs.Common.{◌≡◌, ◌↔◌, ◌⊎◌, inl, inr, ⊎_elim, ℕ, Bool, true, false, [], Option, None, Some, IsTrue, refl, sym, ap, ◌∙◌}
use Rattle.std.proofs.lemmas.Bool.{false≢true}
use Rattle.linear_cons.specs.declared.affine.Affine.{Affine}
use Rattle.linear_cons.specs.Functions.{substituted}
use Rattle.decision_tree.specs.Plans.{IsEnd, Plan, bottom, branch, is_defined, leaf, top}
use Rattle.decision_tree.specs.Laws.AffineLaws.{equal_is}
use Rattle.decision_tree.specs.declared.affine_rank.AffineRank.{AffineRank}
use Rattle.decision_tree.specs.Alternatives.{Alternatives}
use Rattle.decision_tree.specs.declared.reason.Why.{Why}
use Rattle.tree_unify.specs.Shapes.{joined, trimmed}
use Rattle.tree_unify.specs.declared.join.Join.TheVariants.{Both, Either}
use Rattle.backward_transfer.specs.Steps.{assigned, step_to, stepped}
use Rattle.backward_transfer.specs.AffineShapes.{same_rank}
use Rattle.backward_sweeps.specs.Claiming.{claimed, reranked, taken_over}
use Rattle.backward_sweeps.specs.Moving.{nought}
use Rattle.exact_families.proofs.Judges.{IsJudge, judged}
use Rattle.exact_families.proofs.Judging.{assign_judged, both_first, both_second, cut_judged, either_first, either_none, either_second, judged_is_end, node_no, node_yes, on_no, on_yes, step_judged, true_or_not}

-- what `==` says of ranks
pub rank_alike : (rank other : AffineRank) → IsTrue (same_rank rank other) ↔ (rank ≡ other)
rank_alike rank other = equal_is rank other

pub not_leaf : {R : Type 0} (end : Plan R) (why : Why) (rank : R) → is_defined end ≡ false → end ≡ leaf why rank → ⊥
not_leaf end why rank none is = false≢true (sym none ∙ ap is_defined is)

is_leaf : {R : Type 0} (end : Plan R) (why : Why) (rank : R) → end ≡ leaf why rank → is_defined end ≡ true
is_leaf end why rank is = ap is_defined is

pub which_leaf : {R : Type 0} (end : Plan R) → is_defined end ≡ true → (why : Why) × (rank : R) × (end ≡ leaf why rank)
which_leaf bottom own = absurd (false≢true own)
which_leaf (top cause) own = absurd (false≢true own)
which_leaf (leaf why rank) own = (why, rank, refl)
which_leaf (branch row this that) own = absurd (false≢true own)

-- now, or kept and a step
module _ {R : Type 0} (same : R → R → Bool) (where_greater : R → R → Alternatives) (greater_fits : R → R → Type 0) where
  abbrev pub made : Plan R → Plan R → Plan R → Plan R
  made now keep step = joined same where_greater greater_fits Either now (joined same where_greater greater_fits Both keep step)

-- ---- claims taken over

module _ (v : Affine → Bool) where
  taken_judged : (why : Option Why) (plan : Plan AffineRank) → judged v (taken_over why plan) ≡ taken_over why (judged v plan)
  taken_judged why bottom = refl
  taken_judged why (top cause) = refl
  taken_judged why (leaf other next) = refl
  taken_judged why (branch row this that) =
      ⊎_elim
      (λ held. node_yes same_rank rank_alike v row (taken_over why this) (taken_over why that) held ∙ taken_judged why this ∙ ap (taken_over why) (sym (on_yes v row this that held)))
      (λ lost. node_no same_rank rank_alike v row (taken_over why this) (taken_over why that) lost ∙ taken_judged why that ∙ ap (taken_over why) (sym (on_no v row this that lost)))
      (true_or_not (v row.affine))

  claim_end : (why : Why) (end : Plan AffineRank) (other : Why) (next : AffineRank) → IsEnd end → claimed why end ≡ leaf other next
      → (is_defined end ≡ true) × (leaf why nought ≡ leaf other next)
  claim_end why bottom other next ends own = absurd (not_leaf bottom other next refl own)
  claim_end why (top cause) other next ends own = absurd (not_leaf (top cause) other next refl own)
  claim_end why (leaf second rank) other next ends own = (refl, own)
  claim_end why (branch row this that) other next ends own = absurd ends

  taken_same : (why : Option Why) (end : Plan AffineRank) → IsEnd end → is_defined (taken_over why end) ≡ is_defined end
  taken_same why bottom ends = refl
  taken_same why (top cause) ends = refl
  taken_same why (leaf other next) ends = refl
  taken_same why (branch row this that) ends = absurd ends

  taken_defined : (why : Option Why) (plan : Plan AffineRank) → is_defined (judged v (taken_over why plan)) ≡ is_defined (judged v plan)
  taken_defined why plan = ap is_defined (taken_judged why plan) ∙ taken_same why (judged v plan) (judged_is_end v plan)

  pub claim_defined : (why : Why) (plan : Plan AffineRank) → is_defined (judged v (claimed why plan)) ≡ is_defined (judged v plan)
  claim_defined why plan = taken_defined (Some why) plan

  pub rerank_defined : (plan : Plan AffineRank) → is_defined (judged v (reranked plan)) ≡ is_defined (judged v plan)
  rerank_defined plan = taken_defined None plan

  pub claim_found : (why : Why) (plan : Plan AffineRank) (other : Why) (next : AffineRank) → judged v (claimed why plan) ≡ leaf other next
      → (is_defined (judged v plan) ≡ true) × (leaf why nought ≡ leaf other next)
  claim_found why plan other next own = claim_end why (judged v plan) other next (judged_is_end v plan) (sym (taken_judged (Some why) plan) ∙ own)

module _ {R : Type 0} (same : R → R → Bool) (alike : (rank other : R) → IsTrue (same rank other) ↔ (rank ≡ other)) (v : Affine → Bool) (is : IsJudge v) where
  -- ---- now, or kept and a step

  module _ (where_greater : R → R → Alternatives) (greater_fits : R → R → Type 0) where
    -- a leaf of the made tree is the first tree's, or, where that has none and the second one, the third's
    pub record IsStep (now keep step : Plan R) (why : Why) (rank : R) : Type 0 where
      pub none : is_defined (judged v now) ≡ false
      pub kept : is_defined (judged v keep) ≡ true
      pub found : judged v step ≡ leaf why rank

    abbrev after_keep : Plan R → Plan R → Plan R
    after_keep keep step = joined same where_greater greater_fits Both keep step

    pub made_leaf : (now keep step : Plan R) (why : Why) (rank : R) → judged v (made same where_greater greater_fits now keep step) ≡ leaf why rank
        → (judged v now ≡ leaf why rank) ⊎ IsStep now keep step why rank
    made_leaf now keep step why rank own = at (is_defined (judged v now)) (is_defined (judged v keep)) (is_defined (judged v (after_keep keep step))) refl refl refl
      where
        at : (t u w : Bool) → is_defined (judged v now) ≡ t → is_defined (judged v keep) ≡ u → is_defined (judged v (after_keep keep step)) ≡ w
            → (judged v now ≡ leaf why rank) ⊎ IsStep now keep step why rank
        at true u w one two three = inl (sym (either_first same alike v is where_greater greater_fits now (after_keep keep step) one) ∙ own)
        at false u false one two three =
            absurd (not_leaf (judged v now) why rank one (sym (either_none same alike v is where_greater greater_fits now (after_keep keep step) one three) ∙ own))
        at false true true one two three = inr (record {
          none = one;
          kept = two;
          found = sym (either_second same alike v is where_greater greater_fits now (after_keep keep step) one three ∙ both_second same alike v is where_greater greater_fits keep step two) ∙ own;
        })
        at false false true one two three =
            absurd (false≢true (sym two ∙ ap is_defined (sym (both_first same alike v is where_greater greater_fits keep step two)) ∙ three))

  -- ---- before a step

  module _ (one_more : R → R) where
    step_end : (end : Plan R) (why : Why) (rank : R) → IsEnd end → stepped same one_more end ≡ leaf why rank
        → (other : Why) × (next : R) × (end ≡ leaf other next) × (step_to (one_more next) ≡ leaf why rank)
    step_end bottom why rank ends own = absurd (not_leaf bottom why rank refl own)
    step_end (top cause) why rank ends own = absurd (not_leaf (top cause) why rank refl own)
    step_end (leaf other next) why rank ends own = (other, next, refl, own)
    step_end (branch row this that) why rank ends own = absurd ends

    pub stepped_leaf : (plan : Plan R) (why : Why) (rank : R) → judged v (stepped same one_more plan) ≡ leaf why rank
        → (other : Why) × (next : R) × (judged v plan ≡ leaf other next) × (step_to (one_more next) ≡ leaf why rank)
    stepped_leaf plan why rank own = step_end (judged v plan) why rank (judged_is_end v plan) (sym (step_judged same alike v one_more plan) ∙ own)

    pub skipped_leaf : (plan : Plan R) (why : Why) (rank : R) → judged v (trimmed same [] (stepped same one_more plan)) ≡ leaf why rank
        → (other : Why) × (next : R) × (judged v plan ≡ leaf other next) × (step_to (one_more next) ≡ leaf why rank)
    skipped_leaf plan why rank own = stepped_leaf plan why rank (sym (cut_judged same alike v is (stepped same one_more plan)) ∙ own)

    module _ (put : R → ℕ → Affine → R) (place : ℕ) (by : Affine) where
      assign_end : (end : Plan R) (why : Why) (rank : R) → IsEnd end → assigned same put one_more place by end ≡ leaf why rank
          → (other : Why) × (next : R) × (end ≡ leaf other next) × (step_to (one_more (put next place by)) ≡ leaf why rank)
      assign_end bottom why rank ends own = absurd (not_leaf bottom why rank refl own)
      assign_end (top cause) why rank ends own = absurd (not_leaf (top cause) why rank refl own)
      assign_end (leaf other next) why rank ends own = (other, next, refl, own)
      assign_end (branch row this that) why rank ends own = absurd ends

      -- before an assignment the leaf is that at which the judge of what is behind it stands
      pub assigned_leaf : (plan : Plan R) (why : Why) (rank : R) → judged v (trimmed same [] (assigned same put one_more place by plan)) ≡ leaf why rank
          → (other : Why) × (next : R) × (judged (λ a. v (substituted a place by)) plan ≡ leaf other next) × (step_to (one_more (put next place by)) ≡ leaf why rank)
      assigned_leaf plan why rank own =
          assign_end (judged (λ a. v (substituted a place by)) plan) why rank (judged_is_end (λ a. v (substituted a place by)) plan)
          (sym (cut_judged same alike v is (assigned same put one_more place by plan) ∙ assign_judged same alike v is put one_more place by plan) ∙ own)
