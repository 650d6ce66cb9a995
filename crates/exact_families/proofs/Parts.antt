-- The families of atoms, connectives and next are shut at each label.
use Rattle.std.proofs.Common.{◌≡◌, ◌⊎◌, inl, inr, ⊎_elim, ℕ, Bool, true, false, ◌&&◌, List, All, refl, sym, ap, ◌∙◌}
use Rattle.std.proofs.lemmas.List.Elements.{All-append}
use Rattle.linear_cons.specs.declared.affine.Affine.{Affine}
use Rattle.linear_cons.specs.declared.row.Row.{Row}
use Rattle.decision_tree.specs.Plans.{Plan, is_defined, leaf}
use Rattle.decision_tree.specs.declared.affine_rank.AffineRank.{AffineRank}
use Rattle.decision_tree.specs.declared.reason.Pick.TheVariants.{All as Every, Yes, No, Value}
use Rattle.decision_tree.specs.declared.reason.Why.{Why}
use Rattle.decision_tree.specs.declared.reason.Why.TheVariants.{End, Atom, Both, Left, Right, Now, Dead, Step}
use Rattle.ctl_formula.specs.Formulas.{Ctl, both, either}
use Rattle.tree_support.specs.Arcs.{Flow}
use Rattle.constraint_stack.specs.Forming.{Formed, given}
use Rattle.tree_support.specs.Setting.{Setting, Trees}
use Rattle.tree_support.specs.Systems.{of_why, systems, unedged, undefined_at}
use Rattle.tree_unify.specs.Shapes.{joined}
use Rattle.tree_unify.specs.declared.join.Join.TheVariants.{Both as Meet, Either}
use Rattle.backward_sweeps.specs.Claiming.{claimed, reranked}
use Rattle.exact_families.proofs.Judges.{Granted, IsJudge, judged}
use Rattle.exact_families.specs.Shut.{IsShut}
use Rattle.exact_families.proofs.Definedness.{both_defined}
use Rattle.exact_families.proofs.Leaves.{equal_why}
use Rattle.exact_families.proofs.Hopeless.{Hopeless, why_hopeless}
use Rattle.exact_families.proofs.Judging.{either_first, either_none, either_second}
use Rattle.exact_families.proofs.Making.{claim_found, not_leaf, rerank_defined, rank_alike}
use Rattle.exact_families.proofs.Shutting.{given_turns, undefined_shut}
use Rattle.exact_families.proofs.Whys.{asked_here, leaf_shut}
use Rattle.backward_sweeps.specs.Moving.{nought}
use Rattle.backward_transfer.specs.AffineShapes.{same_rank, affine_ranks}

and_both : (a b : Bool) → (a && b) ≡ true → (a ≡ true) × (b ≡ true)
and_both true b own = (refl, own)
and_both false b own = absurd (cc)

-- a number for each why, by which they are told apart
abbrev pub mark : Why → ℕ
mark End = 0
mark Atom = 1
mark Both = 2
mark Left = 3
mark Right = 4
mark Now = 5
mark Dead = 6
mark (Step Every) = 7
mark (Step Yes) = 8
mark (Step No) = 9
mark (Step (Value a)) = 10

pub apart : (why other : Why) → (mark why ≡ mark other → ⊥) → why ≡ other → ⊥
apart why other none is = none (ap mark is)

module _ (flow : Flow) (dead : ℕ → Bool) (rows : ℕ → List Row) (parts : ℕ → Trees AffineRank) (family : Trees AffineRank) (label place : ℕ) where
  abbrev setting : Ctl → Setting AffineRank
  setting formula = record { flow = flow; dead = dead; rows = rows; formula = formula; parts = parts }

  abbrev asks : Ctl → List Formed
  asks formula = asked_here (setting formula) family label place

  -- what the judges that grant the region find
  abbrev Stands : Ctl → Why → AffineRank → Type 0
  Stands formula why rank = (v : Affine → Bool) → IsJudge v → Granted v (asks formula) → judged v (family label) ≡ leaf why rank

  -- where each judge finds another why, there is none
  elsewhere : (formula : Ctl) (why : Why) (rank : AffineRank) → Hopeless (asks formula) → All IsShut (of_why (setting formula) why family rank label (asks formula))
  elsewhere formula why rank none = why_hopeless (setting formula) family rank (asks formula) none why label

  -- ---- a conjunction

  abbrev both_tree : Plan AffineRank
  both_tree = joined same_rank affine_ranks.where_greater affine_ranks.greater_fits Meet (reranked (parts 0 label)) (reranked (parts 1 label))

  module _ (f g : Ctl) (tree : family label ≡ claimed Both both_tree) where
    both_found : (v : Affine → Bool) → IsJudge v → (why : Why) (rank : AffineRank) → judged v (family label) ≡ leaf why rank
        → (Both ≡ why) × (is_defined (judged v (parts 0 label)) ≡ true) × (is_defined (judged v (parts 1 label)) ≡ true)
    both_found v j why rank own =
        let found = claim_found v Both both_tree why rank (sym (ap (judged v) tree) ∙ own) in
        let halves = and_both _ _ (sym (both_defined same_rank rank_alike v j affine_ranks.where_greater affine_ranks.greater_fits (reranked (parts 0 label)) (reranked (parts 1 label))) ∙ found.0) in
        (equal_why Both why nought rank found.1, sym (rerank_defined v (parts 0 label)) ∙ halves.0, sym (rerank_defined v (parts 1 label)) ∙ halves.1)

    both_whys : (why : Why) (rank : AffineRank) → Stands (both f g) why rank → All IsShut (of_why (setting (both f g)) why family rank label (asks (both f g)))
    both_whys Both rank stands =
        All-append IsShut (undefined_at (parts 0 label) (asks (both f g))) (undefined_at (parts 1 label) (asks (both f g)))
        (undefined_shut given given_turns unedged (parts 0 label) (asks (both f g)) (λ v j own. (both_found v j Both rank (stands v j own)).1))
        (undefined_shut given given_turns unedged (parts 1 label) (asks (both f g)) (λ v j own. (both_found v j Both rank (stands v j own)).2))
    both_whys End rank stands = elsewhere (both f g) End rank (λ v j own. apart Both End (λ e. cc) (both_found v j End rank (stands v j own)).0)
    both_whys Atom rank stands = elsewhere (both f g) Atom rank (λ v j own. apart Both Atom (λ e. cc) (both_found v j Atom rank (stands v j own)).0)
    both_whys Left rank stands = elsewhere (both f g) Left rank (λ v j own. apart Both Left (λ e. cc) (both_found v j Left rank (stands v j own)).0)
    both_whys Right rank stands = elsewhere (both f g) Right rank (λ v j own. apart Both Right (λ e. cc) (both_found v j Right rank (stands v j own)).0)
    both_whys Now rank stands = elsewhere (both f g) Now rank (λ v j own. apart Both Now (λ e. cc) (both_found v j Now rank (stands v j own)).0)
    both_whys Dead rank stands = elsewhere (both f g) Dead rank (λ v j own. apart Both Dead (λ e. cc) (both_found v j Dead rank (stands v j own)).0)
    both_whys (Step Every) rank stands = elsewhere (both f g) (Step Every) rank (λ v j own. apart Both (Step Every) (λ e. cc) (both_found v j (Step Every) rank (stands v j own)).0)
    both_whys (Step Yes) rank stands = elsewhere (both f g) (Step Yes) rank (λ v j own. apart Both (Step Yes) (λ e. cc) (both_found v j (Step Yes) rank (stands v j own)).0)
    both_whys (Step No) rank stands = elsewhere (both f g) (Step No) rank (λ v j own. apart Both (Step No) (λ e. cc) (both_found v j (Step No) rank (stands v j own)).0)
    both_whys (Step (Value a)) rank stands = elsewhere (both f g) (Step (Value a)) rank (λ v j own. apart Both (Step (Value a)) (λ e. cc) (both_found v j (Step (Value a)) rank (stands v j own)).0)

    pub both_shut : All IsShut (systems (setting (both f g)) family label place)
    both_shut = leaf_shut (setting (both f g)) family label place (λ why rank stands. both_whys why rank stands)

  -- ---- a disjunction

  module _ (f g : Ctl) (tree : family label ≡ joined same_rank affine_ranks.where_greater affine_ranks.greater_fits Either (claimed Left (parts 0 label)) (claimed Right (parts 1 label))) where
    abbrev left_tree : Plan AffineRank
    left_tree = claimed Left (parts 0 label)

    abbrev right_tree : Plan AffineRank
    right_tree = claimed Right (parts 1 label)

    either_found : (v : Affine → Bool) → IsJudge v → (why : Why) (rank : AffineRank) → judged v (family label) ≡ leaf why rank
        → ((Left ≡ why) × (is_defined (judged v (parts 0 label)) ≡ true)) ⊎ ((Right ≡ why) × (is_defined (judged v (parts 1 label)) ≡ true))
    either_found v j why rank own = at (is_defined (judged v left_tree)) (is_defined (judged v right_tree)) refl refl
      where
        at : (t u : Bool) → is_defined (judged v left_tree) ≡ t → is_defined (judged v right_tree) ≡ u
            → ((Left ≡ why) × (is_defined (judged v (parts 0 label)) ≡ true)) ⊎ ((Right ≡ why) × (is_defined (judged v (parts 1 label)) ≡ true))
        at true u one two =
            let found = claim_found v Left (parts 0 label) why rank (sym (either_first same_rank rank_alike v j affine_ranks.where_greater affine_ranks.greater_fits left_tree right_tree one) ∙ sym (ap (judged v) tree) ∙ own) in
            inl (equal_why Left why nought rank found.1, found.0)
        at false true one two =
            let found = claim_found v Right (parts 1 label) why rank (sym (either_second same_rank rank_alike v j affine_ranks.where_greater affine_ranks.greater_fits left_tree right_tree one two) ∙ sym (ap (judged v) tree) ∙ own) in
            inr (equal_why Right why nought rank found.1, found.0)
        at false false one two =
            absurd (not_leaf (judged v left_tree) why rank one (sym (either_none same_rank rank_alike v j affine_ranks.where_greater affine_ranks.greater_fits left_tree right_tree one two) ∙ sym (ap (judged v) tree) ∙ own))

    either_else : (why : Why) (rank : AffineRank) → (mark Left ≡ mark why → ⊥) → (mark Right ≡ mark why → ⊥) → Stands (either f g) why rank → All IsShut (of_why (setting (either f g)) why family rank label (asks (either f g)))
    either_else why rank one two stands =
        elsewhere (either f g) why rank (λ v j own. ⊎_elim (λ here. apart Left why one here.0) (λ there. apart Right why two there.0) (either_found v j why rank (stands v j own)))

    either_whys : (why : Why) (rank : AffineRank) → Stands (either f g) why rank → All IsShut (of_why (setting (either f g)) why family rank label (asks (either f g)))
    either_whys Left rank stands =
        undefined_shut given given_turns unedged (parts 0 label) (asks (either f g))
        (λ v j own. ⊎_elim (λ here. here.1) (λ there. absurd (apart Right Left (λ e. cc) there.0)) (either_found v j Left rank (stands v j own)))
    either_whys Right rank stands =
        undefined_shut given given_turns unedged (parts 1 label) (asks (either f g))
        (λ v j own. ⊎_elim (λ here. absurd (apart Left Right (λ e. cc) here.0)) (λ there. there.1) (either_found v j Right rank (stands v j own)))
    either_whys End rank stands = either_else End rank (λ e. cc) (λ e. cc) stands
    either_whys Atom rank stands = either_else Atom rank (λ e. cc) (λ e. cc) stands
    either_whys Both rank stands = either_else Both rank (λ e. cc) (λ e. cc) stands
    either_whys Now rank stands = either_else Now rank (λ e. cc) (λ e. cc) stands
    either_whys Dead rank stands = either_else Dead rank (λ e. cc) (λ e. cc) stands
    either_whys (Step Every) rank stands = either_else (Step Every) rank (λ e. cc) (λ e. cc) stands
    either_whys (Step Yes) rank stands = either_else (Step Yes) rank (λ e. cc) (λ e. cc) stands
    either_whys (Step No) rank stands = either_else (Step No) rank (λ e. cc) (λ e. cc) stands
    either_whys (Step (Value a)) rank stands = either_else (Step (Value a)) rank (λ e. cc) (λ e. cc) stands

    pub either_shut : All IsShut (systems (setting (either f g)) family label place)
    either_shut = leaf_shut (setting (either f g)) family label place (λ why rank stands. either_whys why rank stands)
