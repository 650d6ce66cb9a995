-- The families that sweeps make in a program without loops are shut.
use Rattle.std.proofs.Common.{◌≡◌, ◌⊎◌, ⊎_elim, ℕ, zero, suc, pos, negsuc, ◌-ℤ◌, Bool, true, false, cond, List, [], ◌∷◌, All, Contains, refl, sym, ap, subst, arith}
use Rattle.std.proofs.lemmas.Bool.{false≢true}
use Rattle.std.proofs.lemmas.Int.{ints}
use Rattle.linear_cons.specs.declared.affine.Affine.{Affine}
use Rattle.linear_cons.specs.declared.row.Row.{Row}
use Rattle.linear_cons.specs.declared.row.RowKind.TheVariants.{Never}
use Rattle.linear_cons.specs.Functions.{coefficient, complement_of, constant_of}
use Rattle.linear_cons.proofs.Places.{number_at_places}
use Rattle.linear_cons.proofs.RowKinds.{row_kind_unique}
use Rattle.decision_tree.specs.Equality.{same_plan}
use Rattle.decision_tree.specs.Paths.{leaf_numbered}
use Rattle.decision_tree.specs.Plans.{Plan, bottom, branch, is_defined, leaf, top}
use Rattle.decision_tree.specs.declared.affine_rank.AffineRank.{AffineRank}
use Rattle.decision_tree.specs.declared.reason.Pick.{Pick}
use Rattle.decision_tree.specs.declared.reason.Pick.TheVariants.{All as Every, Yes, No, Value}
use Rattle.decision_tree.specs.declared.reason.Why.{Why}
use Rattle.decision_tree.specs.declared.reason.Why.TheVariants.{Step}
use Rattle.control_flow.specs.declared.edge.Choice.TheVariants.{Branch}
use Rattle.ctl_formula.specs.Formulas.{Ctl, truth, falsity, exit, not_exit, always, never, least, negation, both, either, next, until, weak}
use Rattle.tree_support.specs.Arcs.{Arc, Flow, putting, passing}
use Rattle.tree_support.specs.Setting.{Setting, Trees}
use Rattle.tree_support.specs.Systems.{of_leaf, region, systems}
use Rattle.tree_support.proofs.Lists.{all_none}
use Rattle.backward_sweeps.specs.Claiming.{reranked}
use Rattle.exact_families.proofs.Deeds.{Deed, FlowsAs, IsMadeAt, asks, before, before_free, finishes, free_arc, frees, passes, sets}
use Rattle.exact_families.proofs.Judges.{judged}
use Rattle.exact_families.specs.Shut.{AllShut, IsShut}
use Rattle.exact_families.proofs.Ends.{always_shut, exit_shut, least_shut, next_end_shut, none_shut, not_exit_shut, truth_shut, until_end_shut}
use Rattle.exact_families.proofs.Leaves.{IsNatural}
use Rattle.exact_families.proofs.Freely.{free_leads, judged_counts}
use Rattle.exact_families.proofs.Leading.{leads_on, pick_leads}
use Rattle.exact_families.proofs.Moving.{Steps, assign_steps, test_steps}
use Rattle.exact_families.proofs.Parts.{both_shut, either_shut}
use Rattle.exact_families.proofs.Shutting.{IsLess, append_contains, only_one}
use Rattle.exact_families.proofs.Walks.{Leads, MayPick, leads_there, next_shut, picked_arcs, same_pick, until_shut, weak_shut}
use Rattle.exact_families.proofs.Weakly.{skip_leads, weak_end_shut}
use Rattle.exact_families.proofs.Whys.{SetsPlace}
use Rattle.unroll.specs.Levels.{counted, RanksCount}
use Rattle.unroll.proofs.CountedRanks.{Counts}
use Rattle.backward_transfer.specs.AffineShapes.{same_rank}

-- ---- numbers of steps

natural_number : (n : ℕ) → IsNatural (counted n)
natural_number n =
    sym (row_kind_unique (complement_of (constant_of (pos n))) Never (
      (λ i low.
          let first = number_at_places (λ j. pos 0) i low in
          let turned = number_at_places (λ j. coefficient (constant_of (negsuc 0)) j -ℤ coefficient (constant_of (pos n)) j) i low in
          omega (arith, ints, first, turned)),
      omega (arith, ints),
    ))

counts_natural : (rank : AffineRank) → Counts rank → IsNatural rank
counts_natural rank own = subst IsNatural (sym own.1) (natural_number own.0)

-- where each rank is a number of steps, so is that of a leaf
leaf_counts : (v : Affine → Bool) (plan : Plan AffineRank) → RanksCount plan → (why : Why) (rank : AffineRank) → judged v plan ≡ leaf why rank → Counts rank
leaf_counts v plan own why rank is = subst (RanksCount) is (judged_counts v plan own)

pub nought_counts : (plan : Plan AffineRank) → RanksCount (reranked plan)
nought_counts bottom = tt
nought_counts (top cause) = tt
nought_counts (leaf why rank) = (0, refl)
nought_counts (branch row this that) =
    at (same_plan same_rank (reranked this) (reranked that)) (nought_counts this) (nought_counts that)
  where
    at : (t : Bool) → RanksCount (reranked this) → RanksCount (reranked that)
        → RanksCount (cond t (reranked this) (branch row (reranked this) (reranked that)))
    at true one two = one
    at false one two = (one, two)

free_places : (flow : Flow) (all : Bool) (label then_to else_to : ℕ) → FlowsAs flow label (frees then_to else_to)
    → (pick : Pick) → MayPick flow all label pick → (arc : Arc) → Contains (picked_arcs flow all label pick) arc → SetsPlace arc.sets
free_places flow all label then_to else_to flows Every may arc inside =
    ⊎_elim
    (λ (here : Contains (free_arc 0 then_to ∷ []) arc). subst (λ (a : Arc). SetsPlace a.sets) (only_one (free_arc 0 then_to) arc here) tt)
    (λ (there : Contains (free_arc 1 else_to ∷ []) arc). subst (λ (a : Arc). SetsPlace a.sets) (only_one (free_arc 1 else_to) arc there) tt)
    (append_contains (free_arc 0 then_to ∷ []) (free_arc 1 else_to ∷ []) arc (subst (λ (l : List Arc). Contains l arc) flows.0 inside))
free_places flow all label then_to else_to flows Yes may arc inside =
    subst (λ (a : Arc). SetsPlace a.sets) (only_one (free_arc 0 then_to) arc (subst (λ (l : List Arc). Contains l arc) flows.2 inside)) tt
free_places flow all label then_to else_to flows No may arc inside =
    subst (λ (a : Arc). SetsPlace a.sets) (only_one (free_arc 1 else_to) arc (subst (λ (l : List Arc). Contains l arc) flows.3 inside)) tt
free_places flow all label then_to else_to flows (Value a) may arc inside = absurd may

free_by : (all : Bool) (label : ℕ) (flow : Flow) (then_to else_to : ℕ) (trees : Trees AffineRank) → ((target : ℕ) → RanksCount (trees target)) → FlowsAs flow label (frees then_to else_to)
    → Leads flow all label IsLess trees (before_free all (trees then_to) (trees else_to))
free_by true label flow then_to else_to trees counts flows =
    free_leads flow true label trees then_to else_to (counts then_to) (counts else_to) flows.0 (free_places flow true label then_to else_to flows)
free_by false label flow then_to else_to trees counts flows =
    pick_leads flow label trees then_to else_to flows.1 flows.2 flows.3
    (λ arc inside. free_places flow false label then_to else_to flows Every tt arc inside)

-- ---- steps of one kind lead

module _ (flow : Flow) (all : Bool) (label : ℕ) where
  abbrev Places : Type 0
  Places = (pick : Pick) → MayPick flow all label pick → (arc : Arc) → Contains (picked_arcs flow all label pick) arc → SetsPlace arc.sets

  -- where no branch is chosen only all arcs are picked
  every_place : (flow.choice label ≡ Branch → ⊥) → ((arc : Arc) → Contains (flow.arcs label) arc → SetsPlace arc.sets) → Places
  every_place none each Every may arc inside = each arc inside
  every_place none each Yes may arc inside = absurd (none may.1)
  every_place none each No may arc inside = absurd (none may.1)
  every_place none each (Value a) may arc inside = absurd may

  one_place : (arc : Arc) → SetsPlace arc.sets → flow.arcs label ≡ arc ∷ [] → (other : Arc) → Contains (flow.arcs label) other → SetsPlace other.sets
  one_place arc low is other inside = subst (λ (a : Arc). SetsPlace a.sets) (only_one arc other (subst (λ (l : List Arc). Contains l other) is inside)) low

  steps_lead : (trees : Trees AffineRank) (step : Plan AffineRank) → Steps flow trees label step → Places → Leads flow all label IsLess trees step
  steps_lead trees step steps places = record {
    why_is = λ v j why rank own. (Every, steps.why_is v j why rank own, tt);
    sets = places;
    serves = λ v j pick rank own arc inside more.
        let is : Every ≡ pick = sym (same_pick pick Every (steps.why_is v j (Step pick) rank own)) in
        steps.less v j (Step pick) rank own arc (subst (λ (p : Pick). Contains (picked_arcs flow all label p) arc) (sym is) inside) more;
  }

  -- the tree before what is done leads to less
  pub deed_leads : (deed : Deed) → FlowsAs flow label deed → (trees : Trees AffineRank) → ((target : ℕ) → RanksCount (trees target)) → Leads flow all label IsLess trees (before all deed trees)
  deed_leads finishes flows trees counts = record {
    why_is = λ v j why rank own. absurd (false≢true (ap is_defined own));
    sets = every_place flows.1 (one_place (free_arc 0 0) tt flows.0);
    serves = λ v j pick rank own arc inside more. absurd (false≢true (ap is_defined own));
  }
  deed_leads (sets x by target) flows trees counts =
      steps_lead trees (before all (sets x by target) trees) (assign_steps flow trees label target x by flows.2 flows.0)
      (every_place flows.1 (one_place (putting x target by) flows.2 flows.0))
  deed_leads (passes target) flows trees counts =
      skip_leads flow all label trees target flows.0 (every_place flows.1 (one_place (free_arc 0 target) tt flows.0))
  deed_leads (asks holds fails then_to else_to) flows trees counts =
      let steps : Steps flow trees label (before all (asks holds fails then_to else_to) trees) =
      test_steps flow trees label then_to else_to holds fails flows.2 flows.0 in
      steps_lead trees (before all (asks holds fails then_to else_to) trees) steps (every_place flows.1 steps.sets)
  deed_leads (frees then_to else_to) flows trees counts = free_by all label flow then_to else_to trees counts flows

-- ---- families

module _ (flow : Flow) (dead : ℕ → Bool) (rows : ℕ → List Row) (deeds : ℕ → Deed) (flows : (label : ℕ) → FlowsAs flow label (deeds label))
    (ends : flow.arcs 0 ≡ passing 0 ∷ []) (parts : ℕ → Trees AffineRank) (family : Trees AffineRank) where
  abbrev setting : Ctl → Setting AffineRank
  setting formula = record { flow = flow; dead = dead; rows = rows; formula = formula; parts = parts }

  -- the ranks of the family are numbers of steps, and so are those of the trees before a step
  pub record RanksAreSteps (all : Bool) : Type 0 where
    pub trees : (label : ℕ) → RanksCount (family label)
    pub steps : (label : ℕ) → RanksCount (before all (deeds label) family)

  until_label : (all : Bool) (f g : Ctl) → RanksAreSteps all → (label place : ℕ) → IsMadeAt (until all f g) deeds parts family label → All IsShut (systems (setting (until all f g)) family label place)
  until_label all f g steps zero place made =
      until_end_shut flow dead rows parts family 0 place all f g made
  until_label all f g steps (suc l) place made =
      until_shut flow dead rows parts all family (suc l) place (before all (deeds (suc l)) family) made f g
      (deed_leads flow all (suc l) (deeds (suc l)) (flows (suc l)) family steps.trees)
      (λ v j why rank own. counts_natural rank (leaf_counts v (before all (deeds (suc l)) family) (steps.steps (suc l)) why rank own))

  weak_label : (all : Bool) (f g : Ctl) → RanksAreSteps all → (label place : ℕ) → IsMadeAt (weak all f g) deeds parts family label → All IsShut (systems (setting (weak all f g)) family label place)
  weak_label all f g steps zero place made =
      weak_end_shut flow dead rows parts all f g family place made ends
  weak_label all f g steps (suc l) place made =
      weak_shut flow dead rows parts all family (suc l) place (before all (deeds (suc l)) family) made f g
      (leads_there flow all (suc l) family (before all (deeds (suc l)) family) (deed_leads flow all (suc l) (deeds (suc l)) (flows (suc l)) family steps.trees))

  next_label : (all : Bool) (f : Ctl) → (label place : ℕ) → IsMadeAt (next all f) deeds parts family label → All IsShut (systems (setting (next all f)) family label place)
  next_label all f zero place made = next_end_shut flow dead rows parts family place all f made
  next_label all f (suc l) place made =
      let trees : Trees AffineRank = λ target. reranked (parts 0 target) in
      next_shut flow dead rows parts all family (suc l) place (before all (deeds (suc l)) trees) f made
      (leads_on flow all (suc l) (parts 0) (before all (deeds (suc l)) trees)
      (leads_there flow all (suc l) trees (before all (deeds (suc l)) trees) (deed_leads flow all (suc l) (deeds (suc l)) (flows (suc l)) trees (λ target. nought_counts (parts 0 target)))))

  exit_label : (label place : ℕ) → IsMadeAt exit deeds parts family label → All IsShut (systems (setting exit) family label place)
  exit_label zero place made = exit_shut flow dead rows parts family place made
  exit_label (suc l) place made =
      none_shut flow dead rows parts family (suc l) place exit (λ v. ap (λ t. is_defined (judged v t)) made)

  not_exit_label : (label place : ℕ) → IsMadeAt not_exit deeds parts family label → All IsShut (systems (setting not_exit) family label place)
  not_exit_label zero place made =
      none_shut flow dead rows parts family 0 place not_exit (λ v. ap (λ t. is_defined (judged v t)) made)
  not_exit_label (suc l) place made = not_exit_shut flow dead rows parts family place l made

  -- at a label where stores may be, each part's family is shut
  pub label_shut : (formula : Ctl) → ((all : Bool) → RanksAreSteps all) → (label place : ℕ) → IsMadeAt formula deeds parts family label → All IsShut (systems (setting formula) family label place)
  label_shut truth steps label place made = truth_shut flow dead rows parts family label place made
  label_shut always steps label place made = always_shut flow dead rows parts family label place made
  label_shut falsity steps label place made =
      none_shut flow dead rows parts family label place falsity (λ v. ap (λ t. is_defined (judged v t)) made)
  label_shut never steps label place made =
      none_shut flow dead rows parts family label place never (λ v. ap (λ t. is_defined (judged v t)) made)
  label_shut exit steps label place made = exit_label label place made
  label_shut not_exit steps label place made = not_exit_label label place made
  label_shut (least a) steps label place made =
      subst (λ (b : Affine). All IsShut (systems (setting (least b)) family label place)) made.1
      (least_shut flow dead rows parts family label place made.0 made.2)
  label_shut (negation f) steps label place made =
      none_shut flow dead rows parts family label place (negation f) (λ v. ap (λ t. is_defined (judged v t)) made)
  label_shut (both f g) steps label place made = both_shut flow dead rows parts family label place f g made
  label_shut (either f g) steps label place made = either_shut flow dead rows parts family label place f g made
  label_shut (next all f) steps label place made = next_label all f label place made
  label_shut (until all f g) steps label place made = until_label all f g (steps all) label place made
  label_shut (weak all f g) steps label place made = weak_label all f g (steps all) label place made

  dead_shut : (formula : Ctl) (label place : ℕ) → dead label ≡ true → All IsShut (systems (setting formula) family label place)
  dead_shut formula label place is =
      subst (λ t. All IsShut (cond t [] (of_leaf (setting formula) (leaf_numbered (family label) place) family label (region (setting formula) (family label) label place)))) (sym is) (all_none IsShut)

  -- where nothing is claimed there are none
  bottom_shut : (formula : Ctl) (label place : ℕ) → family label ≡ bottom → All IsShut (systems (setting formula) family label place)
  bottom_shut formula label place is =
      subst (λ plan. All IsShut (cond (dead label) [] (of_leaf (setting formula) (leaf_numbered plan place) family label (region (setting formula) plan label place)))) (sym is)
      (none_at (dead label))
    where
      none_at : (t : Bool) → All IsShut (cond t [] [])
      none_at true = all_none IsShut
      none_at false = all_none IsShut

  -- and so at each: where no store is, there are no systems
  pub families_shut : (formula : Ctl) → ((all : Bool) → RanksAreSteps all)
      → ((label : ℕ) → dead label ≡ false → IsMadeAt formula deeds parts family label ⊎ (family label ≡ bottom)) → AllShut (setting formula) family
  families_shut formula steps made label place = at (dead label) refl
    where
      at : (t : Bool) → dead label ≡ t → All IsShut (systems (setting formula) family label place)
      at true is = dead_shut formula label place is
      at false is = ⊎_elim (λ own. label_shut formula steps label place own) (λ none. bottom_shut formula label place none) (made label is)
