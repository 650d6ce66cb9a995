-- The trees before each kind of step lead, by their picks, to leaves that serve.
use Rattle.std.proofs.Common.{◌≡◌, ◌⊎◌, inl, inr, ⊎_elim, ℕ, Bool, true, false, List, [], ◌∷◌, None, Contains, refl, sym, ap, subst, ◌∙◌}
use Rattle.linear_cons.specs.declared.affine.Affine.{Affine}
use Rattle.decision_tree.specs.Plans.{IsEnd, Plan, bottom, branch, is_defined, leaf, top}
use Rattle.decision_tree.specs.declared.affine_rank.AffineRank.{AffineRank}
use Rattle.decision_tree.specs.declared.reason.Pick.{Pick}
use Rattle.decision_tree.specs.declared.reason.Pick.TheVariants.{All as Every, Yes, No, Value}
use Rattle.decision_tree.specs.declared.reason.Why.{Why}
use Rattle.decision_tree.specs.declared.reason.Why.TheVariants.{Step}
use Rattle.control_flow.specs.declared.edge.Choice.TheVariants.{Branch}
use Rattle.tree_unify.specs.Shapes.{joined, trimmed}
use Rattle.tree_unify.specs.declared.join.Join.TheVariants.{Either}
use Rattle.tree_support.specs.Certificates.{affine_ranks}
use Rattle.tree_support.specs.Arcs.{Arc, Flow}
use Rattle.tree_support.specs.Setting.{Trees}
use Rattle.tree_support.specs.Systems.{moved_by}
use Rattle.backward_sweeps.specs.Claiming.{reranked}
use Rattle.exact_families.proofs.Judges.{IsJudge, judged}
use Rattle.backward_transfer.specs.Picks.{picked}
use Rattle.backward_transfer.specs.Steps.{stepped_by}
use Rattle.exact_families.proofs.Deeds.{free_arc}
use Rattle.exact_families.proofs.Leaves.{equal_rank, equal_why}
use Rattle.exact_families.proofs.Judging.{cut_judged, either_first, either_none, either_second, judged_is_end, node_no, node_yes, on_no, on_yes, true_or_not}
use Rattle.exact_families.proofs.Making.{not_leaf, rerank_defined, rank_alike}
use Rattle.exact_families.proofs.Moving.{less_than}
use Rattle.exact_families.proofs.Shutting.{IsLess, only_one, says_moved}
use Rattle.exact_families.proofs.Walks.{IsThere, Leads, MayPick, picked_arcs, same_pick}
use Rattle.exact_families.proofs.Whys.{SetsPlace}
use Rattle.backward_transfer.specs.AffineShapes.{same_rank}

abbrev kind_of : Pick → ℕ
kind_of Every = 0
kind_of Yes = 1
kind_of No = 2
kind_of (Value a) = 3

pub other_pick : (pick other : Pick) → (kind_of pick ≡ kind_of other → ⊥) → pick ≡ other → ⊥
other_pick pick other none is = none (ap kind_of is)

-- what leads to claims that are taken over with another rank leads to these claims
pub leads_on : (flow : Flow) (all : Bool) (label : ℕ) (trees : Trees AffineRank) (step : Plan AffineRank)
    → Leads flow all label IsThere (λ target. reranked (trees target)) step → Leads flow all label IsThere trees step
leads_on flow all label trees step leads = record {
  why_is = leads.why_is;
  sets = leads.sets;
  serves = λ v j pick rank own arc inside more.
      sym (rerank_defined (says_moved v (moved_by arc.sets)) (trees arc.target)) ∙ leads.serves v j pick rank own arc inside more;
}

module _ (flow : Flow) (label : ℕ) (trees : Trees AffineRank) (then_to else_to : ℕ) where
  -- ---- a free choice, of which one outcome is picked

  abbrev pub before_pick : Plan AffineRank
  before_pick = trimmed same_rank [] (picked same_rank affine_ranks.where_greater affine_ranks.greater_fits affine_ranks.one_more (trees then_to) (trees else_to))

  by_judged : (v : Affine → Bool) (pick : Pick) (plan : Plan AffineRank) → judged v (stepped_by same_rank affine_ranks.one_more pick plan) ≡ stepped_by same_rank affine_ranks.one_more pick (judged v plan)
  by_judged v pick bottom = refl
  by_judged v pick (top cause) = refl
  by_judged v pick (leaf why rank) = refl
  by_judged v pick (branch row this that) =
      ⊎_elim
      (λ held. node_yes same_rank rank_alike v row (stepped_by same_rank affine_ranks.one_more pick this) (stepped_by same_rank affine_ranks.one_more pick that) held ∙ by_judged v pick this ∙ ap (stepped_by same_rank affine_ranks.one_more pick) (sym (on_yes v row this that held)))
      (λ lost. node_no same_rank rank_alike v row (stepped_by same_rank affine_ranks.one_more pick this) (stepped_by same_rank affine_ranks.one_more pick that) lost ∙ by_judged v pick that ∙ ap (stepped_by same_rank affine_ranks.one_more pick) (sym (on_no v row this that lost)))
      (true_or_not (v row.affine))

  -- a leaf behind, one step later
  abbrev By : (Affine → Bool) → Pick → Plan AffineRank → Why → AffineRank → Type 0
  By v pick tree why rank = (other : Why) × (second : AffineRank) × (judged v tree ≡ leaf other second) × (leaf (Step pick) (affine_ranks.one_more second) ≡ leaf why rank)

  by_end : (pick : Pick) (end : Plan AffineRank) (why : Why) (rank : AffineRank) → IsEnd end → stepped_by same_rank affine_ranks.one_more pick end ≡ leaf why rank
      → (other : Why) × (second : AffineRank) × (end ≡ leaf other second) × (leaf (Step pick) (affine_ranks.one_more second) ≡ leaf why rank)
  by_end pick bottom why rank ends own = absurd (not_leaf bottom why rank refl own)
  by_end pick (top cause) why rank ends own = absurd (not_leaf (top cause) why rank refl own)
  by_end pick (leaf other second) why rank ends own = (other, second, refl, own)
  by_end pick (branch row this that) why rank ends own = absurd ends

  by_leaf : (v : Affine → Bool) (pick : Pick) (tree : Plan AffineRank) (why : Why) (rank : AffineRank) → judged v (stepped_by same_rank affine_ranks.one_more pick tree) ≡ leaf why rank → By v pick tree why rank
  by_leaf v pick tree why rank own = by_end pick (judged v tree) why rank (judged_is_end v tree) (sym (by_judged v pick tree) ∙ own)

  pick_leaf : (v : Affine → Bool) → IsJudge v → (why : Why) (rank : AffineRank) → judged v before_pick ≡ leaf why rank → By v Yes (trees then_to) why rank ⊎ By v No (trees else_to) why rank
  pick_leaf v j why rank own = at (is_defined (judged v first)) (is_defined (judged v second)) refl refl
    where
      first : Plan AffineRank
      first = stepped_by same_rank affine_ranks.one_more Yes (trees then_to)

      second : Plan AffineRank
      second = stepped_by same_rank affine_ranks.one_more No (trees else_to)

      uncut : judged v (joined same_rank affine_ranks.where_greater affine_ranks.greater_fits Either first second) ≡ leaf why rank
      uncut = sym (cut_judged same_rank rank_alike v j (picked same_rank affine_ranks.where_greater affine_ranks.greater_fits affine_ranks.one_more (trees then_to) (trees else_to))) ∙ own

      at : (t u : Bool) → is_defined (judged v first) ≡ t → is_defined (judged v second) ≡ u → By v Yes (trees then_to) why rank ⊎ By v No (trees else_to) why rank
      at true u one two = inl (by_leaf v Yes (trees then_to) why rank (sym (either_first same_rank rank_alike v j affine_ranks.where_greater affine_ranks.greater_fits first second one) ∙ uncut))
      at false true one two = inr (by_leaf v No (trees else_to) why rank (sym (either_second same_rank rank_alike v j affine_ranks.where_greater affine_ranks.greater_fits first second one two) ∙ uncut))
      at false false one two = absurd (not_leaf (judged v first) why rank one (sym (either_none same_rank rank_alike v j affine_ranks.where_greater affine_ranks.greater_fits first second one two) ∙ uncut))

  by_less : (v : Affine → Bool) (pick : Pick) (edge target : ℕ) (rank : AffineRank) → By v pick (trees target) (Step pick) rank → (arc : Arc) → Contains (free_arc edge target ∷ []) arc
      → IsLess arc.sets rank (judged (says_moved v (moved_by arc.sets)) (trees arc.target))
  by_less v pick edge target rank found arc inside =
      subst (λ (a : Arc). IsLess a.sets rank (judged (says_moved v (moved_by a.sets)) (trees a.target))) (only_one (free_arc edge target) arc inside)
      (less_than None rank found.1 found.0 (judged v (trees target)) found.2 (equal_rank (Step pick) (Step pick) (affine_ranks.one_more found.1) rank found.3))

  pub pick_leads : flow.choice label ≡ Branch → flow.arcs_of label true ≡ free_arc 0 then_to ∷ [] → flow.arcs_of label false ≡ free_arc 1 else_to ∷ []
      → ((arc : Arc) → Contains (flow.arcs label) arc → SetsPlace arc.sets) → Leads flow false label IsLess trees before_pick
  pick_leads choice first second every = record {
    why_is = λ v j why rank own.
        ⊎_elim
        (λ here. (Yes, sym (equal_why (Step Yes) why (affine_ranks.one_more here.1) rank here.3), (refl, choice)))
        (λ there. (No, sym (equal_why (Step No) why (affine_ranks.one_more there.1) rank there.3), (refl, choice)))
        (pick_leaf v j why rank own);
    sets = λ pick may arc inside. places pick may arc inside;
    serves = λ v j pick rank own arc inside more. serve v j pick rank own arc inside;
  }
    where
      places : (pick : Pick) → MayPick flow false label pick → (arc : Arc) → Contains (picked_arcs flow false label pick) arc → SetsPlace arc.sets
      places Every may arc inside = every arc inside
      places Yes may arc inside = subst (λ (a : Arc). SetsPlace a.sets) (only_one (free_arc 0 then_to) arc (subst (λ (l : List Arc). Contains l arc) first inside)) tt
      places No may arc inside = subst (λ (a : Arc). SetsPlace a.sets) (only_one (free_arc 1 else_to) arc (subst (λ (l : List Arc). Contains l arc) second inside)) tt
      places (Value a) may arc inside = absurd may

      serve : (v : Affine → Bool) → IsJudge v → (pick : Pick) (rank : AffineRank) → judged v before_pick ≡ leaf (Step pick) rank → (arc : Arc) → Contains (picked_arcs flow false label pick) arc
          → IsLess arc.sets rank (judged (says_moved v (moved_by arc.sets)) (trees arc.target))
      serve v j Yes rank own arc inside =
          ⊎_elim
          (λ here. by_less v Yes 0 then_to rank here arc (subst (λ (l : List Arc). Contains l arc) first inside))
          (λ there. absurd (other_pick No Yes (λ e. cc) (same_pick No Yes (equal_why (Step No) (Step Yes) (affine_ranks.one_more there.1) rank there.3))))
          (pick_leaf v j (Step Yes) rank own)
      serve v j No rank own arc inside =
          ⊎_elim
          (λ here. absurd (other_pick Yes No (λ e. cc) (same_pick Yes No (equal_why (Step Yes) (Step No) (affine_ranks.one_more here.1) rank here.3))))
          (λ there. by_less v No 1 else_to rank there arc (subst (λ (l : List Arc). Contains l arc) second inside))
          (pick_leaf v j (Step No) rank own)
      serve v j Every rank own arc inside =
          ⊎_elim
          (λ here. absurd (other_pick Yes Every (λ e. cc) (same_pick Yes Every (equal_why (Step Yes) (Step Every) (affine_ranks.one_more here.1) rank here.3))))
          (λ there. absurd (other_pick No Every (λ e. cc) (same_pick No Every (equal_why (Step No) (Step Every) (affine_ranks.one_more there.1) rank there.3))))
          (pick_leaf v j (Step Every) rank own)
      serve v j (Value a) rank own arc inside =
          ⊎_elim
          (λ here. absurd (other_pick Yes (Value a) (λ e. cc) (same_pick Yes (Value a) (equal_why (Step Yes) (Step (Value a)) (affine_ranks.one_more here.1) rank here.3))))
          (λ there. absurd (other_pick No (Value a) (λ e. cc) (same_pick No (Value a) (equal_why (Step No) (Step (Value a)) (affine_ranks.one_more there.1) rank there.3))))
          (pick_leaf v j (Step (Value a)) rank own)
