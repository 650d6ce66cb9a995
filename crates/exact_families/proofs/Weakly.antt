-- A weak until at the end, and before a step that changes nothing.
use Rattle.std.proofs.Common.{◌≡◌, ◌⊎◌, inl, inr, ⊎_elim, ℕ, Bool, true, false, List, [], ◌∷◌, None, All, Contains, refl, sym, ap, subst, ◌∙◌}
use Rattle.std.proofs.lemmas.List.Elements.{All-append}
use Rattle.linear_cons.specs.declared.affine.Affine.{Affine}
use Rattle.linear_cons.specs.declared.row.Row.{Row}
use Rattle.decision_tree.specs.Plans.{Plan, is_defined, leaf}
use Rattle.decision_tree.specs.declared.affine_rank.AffineRank.{AffineRank}
use Rattle.decision_tree.specs.declared.reason.Pick.{Pick}
use Rattle.decision_tree.specs.declared.reason.Pick.TheVariants.{All as Every, Yes, No, Value}
use Rattle.decision_tree.specs.declared.reason.Why.{Why}
use Rattle.decision_tree.specs.declared.reason.Why.TheVariants.{End, Atom, Both, Left, Right, Now, Dead, Step}
use Rattle.ctl_formula.specs.Formulas.{Ctl, weak}
use Rattle.backward_transfer.specs.Steps.{stepped}
use Rattle.tree_support.specs.Certificates.{affine_ranks}
use Rattle.tree_support.specs.Arcs.{Arc, Flow}
use Rattle.constraint_stack.specs.Forming.{Formed, given}
use Rattle.tree_support.specs.Setting.{Setting, Trees}
use Rattle.tree_support.specs.Systems.{moved_by, of_arcs, of_why, systems, unedged, undefined_at}
use Rattle.tree_unify.specs.Shapes.{joined, trimmed}
use Rattle.tree_unify.specs.declared.join.Join.TheVariants.{Either}
use Rattle.backward_sweeps.specs.Claiming.{claimed, reranked}
use Rattle.exact_families.proofs.Judges.{Granted, IsJudge, judged}
use Rattle.exact_families.specs.Shut.{IsShut}
use Rattle.exact_families.proofs.Deeds.{free_arc}
use Rattle.exact_families.proofs.Leaves.{equal_rank, equal_why}
use Rattle.exact_families.proofs.Hopeless.{why_hopeless}
use Rattle.exact_families.proofs.Judging.{either_first, either_none, either_second}
use Rattle.exact_families.proofs.Making.{claim_found, not_leaf, skipped_leaf, rank_alike, rerank_defined}
use Rattle.exact_families.proofs.Moving.{less_than}
use Rattle.exact_families.proofs.Parts.{apart, mark}
use Rattle.exact_families.proofs.Shutting.{IsLess, given_turns, only_one, says_moved, undefined_shut}
use Rattle.exact_families.proofs.Walks.{Leads, MayPick, picked_arcs, same_pick}
use Rattle.exact_families.proofs.Whys.{SetsPlace, asked_here, leaf_shut, weak_arcs}
use Rattle.backward_sweeps.specs.Moving.{nought}
use Rattle.backward_transfer.specs.AffineShapes.{same_rank}

-- ---- a step that changes nothing

module _ (flow : Flow) (all : Bool) (label : ℕ) (trees : Trees AffineRank) (target : ℕ) where
  abbrev pub before_skip : Plan AffineRank
  before_skip = trimmed same_rank [] (stepped same_rank affine_ranks.one_more (trees target))

  pub skip_leads : flow.arcs label ≡ free_arc 0 target ∷ []
      → ((pick : Pick) → MayPick flow all label pick → (arc : Arc) → Contains (picked_arcs flow all label pick) arc → SetsPlace arc.sets) → Leads flow all label IsLess trees before_skip
  skip_leads arcs places = record {
    why_is = λ v j why rank own.
        let found = skipped_leaf same_rank rank_alike v j affine_ranks.one_more (trees target) why rank own in (Every, sym (equal_why (Step Every) why (affine_ranks.one_more found.1) rank found.3), tt);
    sets = places;
    serves = λ v j pick rank own arc inside more.
        let found = skipped_leaf same_rank rank_alike v j affine_ranks.one_more (trees target) (Step pick) rank own in
        let is : Every ≡ pick = same_pick Every pick (equal_why (Step Every) (Step pick) (affine_ranks.one_more found.1) rank found.3) in
        let among : Contains (free_arc 0 target ∷ []) arc =
        subst (λ (l : List Arc). Contains l arc) arcs (subst (λ (p : Pick). Contains (picked_arcs flow all label p) arc) (sym is) inside) in
        subst (λ (a : Arc). IsLess a.sets rank (judged (says_moved v (moved_by a.sets)) (trees a.target))) (only_one (free_arc 0 target) arc among)
        (less_than None rank found.1 found.0 (judged v (trees target)) found.2 (equal_rank (Step Every) (Step pick) (affine_ranks.one_more found.1) rank found.3));
  }

-- ---- a weak until at the end

module _ (flow : Flow) (dead : ℕ → Bool) (rows : ℕ → List Row) (parts : ℕ → Trees AffineRank) (all : Bool) (f g : Ctl) (family : Trees AffineRank) (place : ℕ)
    (tree : family 0 ≡ joined same_rank affine_ranks.where_greater affine_ranks.greater_fits Either (claimed Now (parts 1 0)) (claimed (Step Every) (reranked (parts 0 0))))
    (arcs : flow.arcs 0 ≡ free_arc 0 0 ∷ []) where
  abbrev setting : Setting AffineRank
  setting = record { flow = flow; dead = dead; rows = rows; formula = weak all f g; parts = parts }

  abbrev asks : List Formed
  asks = asked_here setting family 0 place

  abbrev Stands : Why → AffineRank → Type 0
  Stands why rank = (v : Affine → Bool) → IsJudge v → Granted v asks → judged v (family 0) ≡ leaf why rank

  abbrev now : Plan AffineRank
  now = claimed Now (parts 1 0)

  abbrev stay : Plan AffineRank
  stay = claimed (Step Every) (reranked (parts 0 0))

  found : (v : Affine → Bool) → IsJudge v → (why : Why) (rank : AffineRank) → judged v (family 0) ≡ leaf why rank
      → ((Now ≡ why) × (is_defined (judged v (parts 1 0)) ≡ true)) ⊎ ((Step Every ≡ why) × (is_defined (judged v (parts 0 0)) ≡ true))
  found v j why rank own = at (is_defined (judged v now)) (is_defined (judged v stay)) refl refl
    where
      at : (t u : Bool) → is_defined (judged v now) ≡ t → is_defined (judged v stay) ≡ u
          → ((Now ≡ why) × (is_defined (judged v (parts 1 0)) ≡ true)) ⊎ ((Step Every ≡ why) × (is_defined (judged v (parts 0 0)) ≡ true))
      at true u one two =
          let claim = claim_found v Now (parts 1 0) why rank (sym (either_first same_rank rank_alike v j affine_ranks.where_greater affine_ranks.greater_fits now stay one) ∙ sym (ap (judged v) tree) ∙ own) in
          inl (equal_why Now why nought rank claim.1, claim.0)
      at false true one two =
          let claim = claim_found v (Step Every) (reranked (parts 0 0)) why rank (sym (either_second same_rank rank_alike v j affine_ranks.where_greater affine_ranks.greater_fits now stay one two) ∙ sym (ap (judged v) tree) ∙ own) in
          inr (equal_why (Step Every) why nought rank claim.1, sym (rerank_defined v (parts 0 0)) ∙ claim.0)
      at false false one two =
          absurd (not_leaf (judged v now) why rank one (sym (either_none same_rank rank_alike v j affine_ranks.where_greater affine_ranks.greater_fits now stay one two) ∙ sym (ap (judged v) tree) ∙ own))

  elsewhere : (why : Why) (rank : AffineRank) → (mark Now ≡ mark why → ⊥) → (mark (Step Every) ≡ mark why → ⊥) → Stands why rank → All IsShut (of_why setting why family rank 0 asks)
  elsewhere why rank one two stands =
      why_hopeless setting family rank asks (λ v j own. ⊎_elim (λ here. apart Now why one here.0) (λ there. apart (Step Every) why two there.0) (found v j why rank (stands v j own))) why 0

  back : (rank : AffineRank) → Stands (Step Every) rank → (arc : Arc) → Contains (flow.arcs 0) arc → (v : Affine → Bool) → IsJudge v → Granted v asks
      → is_defined (judged (says_moved v (moved_by arc.sets)) (family arc.target)) ≡ true
  back rank stands arc inside v j own =
      subst (λ (a : Arc). is_defined (judged (says_moved v (moved_by a.sets)) (family a.target)) ≡ true) (only_one (free_arc 0 0) arc (subst (λ (l : List Arc). Contains l arc) arcs inside))
      (ap is_defined (stands v j own))

  place_set : (arc : Arc) → Contains (flow.arcs 0) arc → SetsPlace arc.sets
  place_set arc inside = subst (λ (a : Arc). SetsPlace a.sets) (only_one (free_arc 0 0) arc (subst (λ (l : List Arc). Contains l arc) arcs inside)) tt

  whys : (why : Why) (rank : AffineRank) → Stands why rank → All IsShut (of_why setting why family rank 0 asks)
  whys Now rank stands =
      undefined_shut given given_turns unedged (parts 1 0) asks
      (λ v j own. ⊎_elim (λ here. here.1) (λ there. absurd (apart (Step Every) Now (λ e. cc) there.0)) (found v j Now rank (stands v j own)))
  whys (Step Every) rank stands =
      All-append IsShut (undefined_at (parts 0 0) asks) (of_arcs setting (weak all f g) family rank (flow.arcs 0) asks)
      (undefined_shut given given_turns unedged (parts 0 0) asks
      (λ v j own. ⊎_elim (λ here. absurd (apart Now (Step Every) (λ e. cc) here.0)) (λ there. there.1) (found v j (Step Every) rank (stands v j own))))
      (weak_arcs setting family rank (flow.arcs 0) asks place_set all f g (λ arc inside v j own more. back rank stands arc inside v j own))
  whys End rank stands = elsewhere End rank (λ e. cc) (λ e. cc) stands
  whys Atom rank stands = elsewhere Atom rank (λ e. cc) (λ e. cc) stands
  whys Both rank stands = elsewhere Both rank (λ e. cc) (λ e. cc) stands
  whys Left rank stands = elsewhere Left rank (λ e. cc) (λ e. cc) stands
  whys Right rank stands = elsewhere Right rank (λ e. cc) (λ e. cc) stands
  whys Dead rank stands = elsewhere Dead rank (λ e. cc) (λ e. cc) stands
  whys (Step Yes) rank stands = elsewhere (Step Yes) rank (λ e. cc) (λ e. cc) stands
  whys (Step No) rank stands = elsewhere (Step No) rank (λ e. cc) (λ e. cc) stands
  whys (Step (Value a)) rank stands = elsewhere (Step (Value a)) rank (λ e. cc) (λ e. cc) stands

  pub weak_end_shut : All IsShut (systems setting family 0 place)
  weak_end_shut = leaf_shut setting family 0 place (λ why rank stands. whys why rank stands)
