-- The numbers of families that are narrow fit wherever the check forms them.
use Rattle.std.proofs.Common.{◌≡◌, ◌⊎◌, inl, inr, ⊎_elim, ℕ, zero, suc, ◌+◌, ◌-◌, ◌*◌, ◌^◌, ◌<◌, ◌≤◌, nat_lt, pos, Bool, true, false, if◌then◌else◌, List, [], ◌∷◌, ◌++◌, length, Option, None, Some, All, refl, sym, ap, subst, ◌∙◌, arith}
use Rattle.std.proofs.Math.Nat.{le_refl, mul-le-mul, mul-suc, mul_comm}
use Rattle.std.proofs.lemmas.List.Elements.{All-append, All-contains}
use Rattle.step_meaning.specs.Counts.{HasNoLoop}
use Rattle.step_meaning.specs.Countdown.{form_of}
use Rattle.step_meaning.specs.Syntax.{Expression, Statements, free, range, number, variable, truth, negative, negation, pair, divided}
use Rattle.step_meaning.specs.Valid.{IsBody}
use Rattle.linear_cons.specs.Functions.{NumbersFit, SubstitutionFits, complement_of, constant_of}
use Rattle.linear_cons.specs.Sizes.{total_size}
use Rattle.linear_cons.specs.declared.affine.Affine.{Affine}
use Rattle.linear_cons.specs.declared.bounds.Bounds.{Bounds}
use Rattle.linear_cons.specs.declared.row.Row.{Row}
use Rattle.linear_cons.proofs.Sizes.{sizes_complement, sizes_constant, sizes_fit, substitution_fits}
use Rattle.linear_forms.specs.Duality.{EachOf}
use Rattle.linear_forms.specs.Spreading.{spread_of}
use Rattle.decision_tree.specs.Paths.{leaf_numbered}
use Rattle.decision_tree.specs.Plans.{Plan, bottom, branch, leaf, leaves_of, top}
use Rattle.decision_tree.specs.declared.affine_rank.AffineRank.{AffineRank}
use Rattle.decision_tree.specs.declared.reason.Why.{Why}
use Rattle.decision_tree.specs.declared.reason.Why.TheVariants.{End as AtEnd}
use Rattle.control_flow.specs.Fitting.{IsFitting}
use Rattle.control_flow.specs.Growth.{factor, factor_at, greatest_of_tests, product_below}
use Rattle.control_flow.specs.Labels.{Action, ends, assigns, passes, tests, action_at, all_labels}
use Rattle.control_flow.specs.declared.edge.Choice.TheVariants.{Branch}
use Rattle.ctl_formula.specs.Formulas.{Ctl, truth as holds_always, falsity, exit, not_exit, always, never, least, negation as negated, both, either, next, until, weak}
use Rattle.constraint_stack.specs.Claims.{ClaimFits, unnatural}
use Rattle.constraint_stack.specs.Forming.{FormsWhole, given}
use Rattle.tree_support.specs.Arcs.{Arc, Flow, flow_of, passing, putting, rows_given, testing}
use Rattle.tree_support.specs.Certificates.{affine_ranks}
use Rattle.tree_support.specs.Setting.{Setting, Trees}
use Rattle.tree_support.specs.Systems.{moved_by}
use Rattle.tree_support.proofs.Lists.{all_none, all_one}
use Rattle.unroll.specs.Within.{EachIs, IsSteps, place_by}
use Rattle.unroll.proofs.CountedRanks.{met_fits, more_fits, more_steps, put_fits, put_steps}
use Rattle.unroll.proofs.Growing.{below_more, below_some}
use Rattle.unroll.proofs.WithinRows.{put_row_fits}
use Rattle.exact_families.specs.Completeness.{EachPart}
use Rattle.exact_families.specs.Narrowness.{NoValue}
use Rattle.exact_families.proofs.Acting.{IsFair, IsFittingAction, IsFreeOr, deed_of, deed_of_test}
use Rattle.exact_families.proofs.Bounds.{EachAre, RowsAre, rows_only}
use Rattle.exact_families.proofs.Complete.{AreAfter}
use Rattle.exact_families.proofs.Deeds.{FlowsAs, free_arc}
use Rattle.exact_families.proofs.Fits.{AreFit, ArcFits, EachEnd, ExceedingFits, RowsFit}
use Rattle.exact_families.proofs.Measured.{place, put_small, within_less}
use Rattle.exact_families.proofs.Programs.{fits_at, flows}
use Rattle.exact_families.proofs.SpreadFits.{RowFits, spread_fits}
use Rattle.exact_families.proofs.Suiting.{Ranks, Rows, after_at, turns_at}

-- ---- leaves

module _ (P : Row → Type 0) (Q : Why → AffineRank → Type 0) where
  side_leaf : (t : Bool) (this that : Plan AffineRank) (why : Why) (rank : AffineRank) → (if t then this else that) ≡ leaf why rank
      → (this ≡ leaf why rank → Q why rank) → (that ≡ leaf why rank → Q why rank) → Q why rank
  side_leaf true this that why rank is first second = first is
  side_leaf false this that why rank is first second = second is

  own_leaf : (end : Plan AffineRank) (why : Why) (rank : AffineRank) → EachIs P Q end → end ≡ leaf why rank → Q why rank
  own_leaf end why rank each is = subst (EachIs P Q) is each

  -- what holds of each leaf holds of the one with the number
  pub each_leaf : (plan : Plan AffineRank) (place : ℕ) (why : Why) (rank : AffineRank) → EachIs P Q plan → leaf_numbered plan place ≡ leaf why rank → Q why rank
  each_leaf (branch row this that) place why rank each is =
      side_leaf (nat_lt place (leaves_of this)) (leaf_numbered this place) (leaf_numbered that (place - leaves_of this)) why rank is
      (λ here. each_leaf this place why rank each.1 here) (λ there. each_leaf that (place - leaves_of this) why rank each.2 there)
  each_leaf bottom place why rank each is = own_leaf bottom why rank each is
  each_leaf (top cause) place why rank each is = own_leaf (top cause) why rank each is
  each_leaf (leaf other own) place why rank each is = own_leaf (leaf other own) why rank each is

-- ---- ranks

abbrev Few : AffineRank → Type 0
Few rank = IsSteps 1024 rank

few_small : 1024 ≤ 2 ^ 100
few_small = omega arith

pub natural_fits : (rank : AffineRank) → Few rank → ClaimFits affine_ranks (unnatural rank)
natural_fits rank own =
    let few = own.few in
    subst (λ (r : AffineRank). NumbersFit (complement_of r.value)) (sym own.is)
    (sizes_fit (1 + own.steps) (complement_of (constant_of (pos own.steps))) (omega (arith, few))
    (sizes_complement own.steps (constant_of (pos own.steps)) (sizes_constant (pos own.steps) own.steps (omega arith))))

exceeds_fits : (rank other : AffineRank) → Few rank → Few other → affine_ranks.greater_fits (affine_ranks.one_more other) rank
exceeds_fits rank other one two =
    let next = more_steps 1024 other two in
    let wide : IsSteps 1025 rank = let few = one.few in record { steps = one.steps; few = omega (arith, few); is = one.is } in
    (met_fits 1025 (omega arith) AtEnd AtEnd rank (affine_ranks.one_more other) wide next).0

-- ---- rows

module _ (body : Statements) (vars : ℕ) (few : vars ≤ 15) (valid : IsBody vars body) (fitting : IsFitting body) (loopless : HasNoLoop body) (bounds : ℕ → Bounds)
    (largest : ℕ) (small : greatest_of_tests body * product_below (factor_at body) (length (all_labels body)) ≤ largest) (most_small : largest ≤ 2 ^ 100)
    (short : length (all_labels body) ≤ 1024) (wide : product_below (factor_at body) (length (all_labels body)) ≤ 2 ^ 100) where
  abbrev n : ℕ
  n = length (all_labels body)

  abbrev R : ℕ → Row → Type 0
  R = Rows body vars few valid fitting loopless bounds largest small most_small short

  abbrev Q : ℕ → AffineRank → Type 0
  Q = Ranks body vars few valid fitting loopless bounds largest small most_small short

  few_steps : (l : ℕ) (rank : AffineRank) → Q l rank → Few rank
  few_steps l rank own = let enough = own.few in record { steps = own.steps; few = omega (arith, enough, short); is = own.is }

  row_fits : (l : ℕ) (row : Row) → R l row → NumbersFit row.affine
  row_fits l row own =
      let some : 1 ≤ product_below (factor_at body) (place_by false n l) = below_some body (place_by false n l) in
      let least : own.0.size * 1 ≤ own.0.size * product_below (factor_at body) (place_by false n l) = mul-le-mul (le_refl own.0.size) some in
      let enough = own.0.small in
      sizes_fit own.0.size row.affine (omega (arith, least, enough, most_small)) own.0.sizes

  turned : (l : ℕ) (row : Row) → R l row → NumbersFit (complement_of row.affine)
  turned l row own = turns_at body vars few valid fitting loopless bounds largest small most_small short l row own

  -- as they stand
  pub stand_fit : (l : ℕ) (plan : Plan AffineRank) → RowsAre (R l) plan → RowsFit given plan
  stand_fit l bottom each = tt
  stand_fit l (top cause) each = tt
  stand_fit l (leaf why rank) each = tt
  stand_fit l (branch row this that) each = (row_fits l row each.0, turned l row each.0, stand_fit l this each.1, stand_fit l that each.2)

  ends_stand : (l : ℕ) (rank : AffineRank) → Few rank → (plan : Plan AffineRank) → EachAre (R l) (Q l) plan → EachEnd (ExceedingFits None rank) plan
  ends_stand l rank own bottom each = tt
  ends_stand l rank own (top cause) each = tt
  ends_stand l rank own (leaf why other) each =
      let two = few_steps l other each.1 in (tt, more_fits 1024 few_small other two, exceeds_fits rank other own two)
  ends_stand l rank own (branch row this that) each = (ends_stand l rank own this each.1, ends_stand l rank own that each.2)

  -- moved over an assignment
  module _ (l x t : ℕ) (place_low : x < 16) (low : suc l < n) (by : Affine) (enough : (1 + total_size by) * product_below (factor_at body) (suc l) ≤ product_below (factor_at body) (place_by false n t))
      (target_low : t < n) where
    abbrev T : ℕ
    T = total_size by

    place_most : (k : ℕ) → k < n → place_by false n k ≤ n
    place_most zero k_low = le_refl n
    place_most (suc k) k_low = omega (arith, k_low)

    factor_most : 1 + T ≤ 2 ^ 100
    factor_most =
        let some : 1 ≤ product_below (factor_at body) (suc l) = below_some body (suc l) in
        let least : (1 + T) * 1 ≤ (1 + T) * product_below (factor_at body) (suc l) = mul-le-mul (le_refl (1 + T)) some in
        let more : product_below (factor_at body) (place_by false n t) ≤ product_below (factor_at body) n = below_more body (place_by false n t) n (place_most t target_low) in
        omega (arith, least, enough, more, wide)

    moved_row : (row : Row) → R t row → SubstitutionFits row.affine x by
    moved_row row own =
        put_row_fits x place_low by (product_below (factor_at body) (suc l)) largest (below_some body (suc l)) most_small row
        (within_less body vars few valid fitting loopless bounds largest small (product_below (factor_at body) (place_by false n t))
        ((1 + T) * product_below (factor_at body) (suc l)) row enough own.0)

    moved_turned : (row : Row) → R t row → SubstitutionFits (complement_of row.affine) x by
    moved_turned row own =
        let size : ℕ = own.0.size in
        let b : ℕ = product_below (factor_at body) (suc l) in
        let some : 1 ≤ b = below_some body (suc l) in
        let own_small = own.0.small in
        let least : (1 + T) * 1 ≤ (1 + T) * b = mul-le-mul (le_refl (1 + T)) some in
        let whole : size * ((1 + T) * b) ≤ size * product_below (factor_at body) (place_by false n t) = mul-le-mul (le_refl size) enough in
        let part : size * (1 + T) ≤ size * ((1 + T) * b) = mul-le-mul (le_refl size) (omega (arith, least)) in
        let next : suc T ≡ 1 + T = omega arith in
        let product : size * (1 + T) ≡ T * size + size = ap (λ k. size * k) (sym next) ∙ mul-suc size T ∙ ap (λ k. k + size) (mul_comm size T) in
        let after : suc size ≡ 1 + size = omega arith in
        let turned_product : T * (1 + size) ≡ T * size + T = ap (λ k. T * k) (sym after) ∙ mul-suc T size in
        let most = factor_most in
        substitution_fits x place_low by (1 + size) (complement_of row.affine) (sizes_complement size row.affine own.0.sizes)
        (omega (arith, own_small, whole, part, product, turned_product, most, most_small))

    put_rows : (plan : Plan AffineRank) → RowsAre (R t) plan → RowsFit (moved_by (Some (x, by))) plan
    put_rows bottom each = tt
    put_rows (top cause) each = tt
    put_rows (leaf why rank) each = tt
    put_rows (branch row this that) each =
        ((row_fits t row each.0, moved_row row each.0), (turned t row each.0, moved_turned row each.0), put_rows this each.1, put_rows that each.2)

    put_ends : (rank : AffineRank) → Few rank → (plan : Plan AffineRank) → EachAre (R t) (Q t) plan → EachEnd (ExceedingFits (Some (x, by)) rank) plan
    put_ends rank own bottom each = tt
    put_ends rank own (top cause) each = tt
    put_ends rank own (leaf why other) each =
        let two = few_steps t other each.1 in
        let moved = put_steps x by place_low 1024 other two in (
          put_fits x by place_low 1024 few_small other two,
          more_fits 1024 few_small (affine_ranks.substituted other x by) moved,
          exceeds_fits rank (affine_ranks.substituted other x by) own moved,
        )
    put_ends rank own (branch row this that) each = (put_ends rank own this each.1, put_ends rank own that each.2)

  -- ---- the rows of tests

  module _ (formula : Ctl) (parts : ℕ → Trees AffineRank) (family : Trees AffineRank) (dead : ℕ → Bool)
      (each_part : EachPart (λ f part. (l : ℕ) → l < n → EachAre (R l) (Q l) (part l)) formula parts)
      (parts_fit : (k l : ℕ) → RowsFit given (parts k l)) (each : (l : ℕ) → l < n → EachAre (R l) (Q l) (family l)) (past : (l : ℕ) → n ≤ l → family l ≡ bottom)
      (atom : (a : Affine) → formula ≡ least a → NumbersFit (complement_of a)) where
    -- the setting, but for what is told of the stores
    abbrev pub at : Setting AffineRank
    at = record { flow = flow_of body bounds; dead = dead; rows = λ label. []; formula = formula; parts = parts }

    list_fits : (rows : List Row) → EachOf RowFits rows → All FormsWhole (rows_given rows)
    list_fits [] own = all_none FormsWhole
    list_fits (row ∷ rest) own =
        All-append FormsWhole (given row.affine ∷ []) (rows_given rest) (all_one FormsWhole (given row.affine) own.0) (list_fits rest own.1)

    -- what is moved over an arc
    abbrev Moved : Option (ℕ × Affine) → AffineRank → Plan AffineRank → Type 0
    Moved sets rank plan = RowsFit (moved_by sets) plan × EachEnd (ExceedingFits sets rank) plan

    abbrev Fits : AffineRank → Arc → Type 0
    Fits rank arc = ArcFits at family rank formula arc

    arc_by : (f : Ctl) (rank : AffineRank) → EachPart (λ f part. (l : ℕ) → l < n → EachAre (R l) (Q l) (part l)) f parts → (arc : Arc) → All FormsWhole arc.asks
        → arc.target < n → ((plan : Plan AffineRank) → EachAre (R arc.target) (Q arc.target) plan → Moved arc.sets rank plan) → ArcFits at family rank f arc
    arc_by (next all f) rank own arc asks low moved = (asks, (moved (parts 0 arc.target) (own arc.target low)).0)
    arc_by (until all f g) rank own arc asks low moved = (let both = moved (family arc.target) (each arc.target low) in (asks, both.0, both.1))
    arc_by (weak all f g) rank own arc asks low moved = (asks, (moved (family arc.target) (each arc.target low)).0)
    arc_by holds_always rank own arc asks low moved = tt
    arc_by falsity rank own arc asks low moved = tt
    arc_by exit rank own arc asks low moved = tt
    arc_by not_exit rank own arc asks low moved = tt
    arc_by always rank own arc asks low moved = tt
    arc_by never rank own arc asks low moved = tt
    arc_by (least a) rank own arc asks low moved = tt
    arc_by (negated f) rank own arc asks low moved = tt
    arc_by (both f g) rank own arc asks low moved = tt
    arc_by (either f g) rank own arc asks low moved = tt

    module _ (rank : AffineRank) (own : Few rank) where
      still : (arc : Arc) → arc.sets ≡ None → All FormsWhole arc.asks → arc.target < n → Fits rank arc
      still arc none asks low =
          arc_by formula rank each_part arc asks low
          (λ plan has. subst (λ sets. Moved sets rank plan) (sym none)
          (stand_fit arc.target plan (rows_only (R arc.target) (Q arc.target) plan has), ends_stand arc.target rank own plan has))

      conjunctions : (edge target : ℕ) → target < n → (list : List (List Row)) → EachOf (EachOf RowFits) list → All (Fits rank) (testing edge target list)
      conjunctions edge target low [] has = all_none (Fits rank)
      conjunctions edge target low (rows ∷ rest) has =
          let arc : Arc = record { edge = edge; target = target; asks = rows_given rows; sets = None } in
          All-append (Fits rank) (arc ∷ []) (testing edge target rest)
          (all_one (Fits rank) arc (still arc refl (list_fits rows has.0) low)) (conjunctions edge target low rest has.1)

      one_arc : (arcs : List Arc) (arc : Arc) → arcs ≡ arc ∷ [] → Fits rank arc → All (Fits rank) arcs
      one_arc arcs arc is has = subst (All (Fits rank)) (sym is) (all_one (Fits rank) arc has)

      test_arcs : (l : ℕ) (c : Expression) (p q : ℕ) → p < n → q < n → (arcs : List Arc)
          → arcs ≡ testing 0 p (spread_of (bounds l) c true) ++ testing 1 q (spread_of (bounds l) c false) → All (Fits rank) arcs
      test_arcs l c p q p_low q_low arcs is =
          subst (All (Fits rank)) (sym is)
          (All-append (Fits rank) (testing 0 p (spread_of (bounds l) c true)) (testing 1 q (spread_of (bounds l) c false))
          (conjunctions 0 p p_low (spread_of (bounds l) c true) (spread_fits (bounds l) c true))
          (conjunctions 1 q q_low (spread_of (bounds l) c false) (spread_fits (bounds l) c false)))

      free_arcs : (p q : ℕ) → p < n → q < n → (arcs : List Arc) → arcs ≡ free_arc 0 p ∷ (free_arc 1 q ∷ []) → All (Fits rank) arcs
      free_arcs p q p_low q_low arcs is =
          subst (All (Fits rank)) (sym is)
          (All-append (Fits rank) (free_arc 0 p ∷ []) (free_arc 1 q ∷ []) (all_one (Fits rank) (free_arc 0 p) (still (free_arc 0 p) refl (all_none FormsWhole) p_low))
          (all_one (Fits rank) (free_arc 1 q) (still (free_arc 1 q) refl (all_none FormsWhole) q_low)))

      abbrev flow : Flow
      flow = flow_of body bounds

      deed_arcs : (l : ℕ) (c : Expression) (p q : ℕ) → IsFreeOr c (IsFair c) → AreAfter n l (deed_of_test (bounds l) c p q)
          → FlowsAs flow l (deed_of_test (bounds l) c p q) → All (Fits rank) (flow.arcs l)
      deed_arcs l free p q fair on has = free_arcs p q on.0.0 on.1.0 (flow.arcs l) has.0
      deed_arcs l (truth b) p q fair on has = test_arcs l (truth b) p q on.0.0 on.1.0 (flow.arcs l) has.0
      deed_arcs l (negation c) p q fair on has = test_arcs l (negation c) p q on.0.0 on.1.0 (flow.arcs l) has.0
      deed_arcs l (pair op a b) p q fair on has = test_arcs l (pair op a b) p q on.0.0 on.1.0 (flow.arcs l) has.0
      deed_arcs l (number z) p q fair on has = absurd fair.2
      deed_arcs l (variable x) p q fair on has = absurd fair.2
      deed_arcs l (range lo hi) p q fair on has = absurd fair.2
      deed_arcs l (negative e) p q fair on has = absurd fair.2
      deed_arcs l (divided division e b) p q fair on has = absurd fair.2

      arcs_as : (l : ℕ) → suc l < n → (action : Action) → action ≡ action_at body (suc l) → IsFittingAction action → AreAfter n (suc l) (deed_of (bounds (suc l)) action)
          → FlowsAs flow (suc l) (deed_of (bounds (suc l)) action) → All (Fits rank) (flow.arcs (suc l))
      arcs_as l low ends is fit on has = one_arc (flow.arcs (suc l)) (passing 0) has.0 (still (passing 0) refl (all_none FormsWhole) (omega (arith, low)))
      arcs_as l low (passes target) is fit on has =
          one_arc (flow.arcs (suc l)) (passing target) has.0 (still (passing target) refl (all_none FormsWhole) on.0)
      arcs_as l low (assigns x e target) is fit on has =
          let enough = put_small body vars few valid fitting loopless bounds largest small l target low on (form_of e) (ap factor (sym is)) in
          one_arc (flow.arcs (suc l)) (putting x target (form_of e)) has.0
          (arc_by formula rank each_part (putting x target (form_of e)) (all_none FormsWhole) on.0
          (λ plan known. (
            put_rows (l) x target fit.0 low (form_of e) enough on.0 plan (rows_only (R target) (Q target) plan known),
            put_ends l x target fit.0 low (form_of e) enough on.0 rank own plan known,
          )))
      arcs_as l low (tests head c p q) is fit on has = deed_arcs (suc l) c p q fit on has

      pub arcs_at : (l : ℕ) → l < n → All (Fits rank) (flow.arcs l)
      arcs_at zero low = all_one (Fits rank) (passing 0) (still (passing 0) refl (all_none FormsWhole) low)
      arcs_at (suc l) low =
          arcs_as l low (action_at body (suc l)) refl (fits_at body vars few valid fitting (suc l))
          (after_at body vars few valid fitting loopless bounds largest small most_small short (suc l) low) (flows body vars few valid fitting bounds (suc l))

      -- an outcome that is picked
      picks_deed : (l : ℕ) (c : Expression) (p q : ℕ) → IsFreeOr c (IsFair c) → AreAfter n l (deed_of_test (bounds l) c p q) → FlowsAs flow l (deed_of_test (bounds l) c p q)
          → flow.choice l ≡ Branch → (outcome : Bool) → All (Fits rank) (flow.arcs_of l outcome)
      picks_deed l free p q fair on has branching true = one_arc (flow.arcs_of l true) (free_arc 0 p) has.2 (still (free_arc 0 p) refl (all_none FormsWhole) on.0.0)
      picks_deed l free p q fair on has branching false = one_arc (flow.arcs_of l false) (free_arc 1 q) has.3 (still (free_arc 1 q) refl (all_none FormsWhole) on.1.0)
      picks_deed l (truth b) p q fair on has branching outcome = absurd (has.1 branching)
      picks_deed l (negation c) p q fair on has branching outcome = absurd (has.1 branching)
      picks_deed l (pair op a b) p q fair on has branching outcome = absurd (has.1 branching)
      picks_deed l (number z) p q fair on has branching outcome = absurd fair.2
      picks_deed l (variable x) p q fair on has branching outcome = absurd fair.2
      picks_deed l (range lo hi) p q fair on has branching outcome = absurd fair.2
      picks_deed l (negative e) p q fair on has branching outcome = absurd fair.2
      picks_deed l (divided division e b) p q fair on has branching outcome = absurd fair.2

      picks_as : (l : ℕ) (action : Action) → IsFittingAction action → AreAfter n l (deed_of (bounds l) action) → FlowsAs flow l (deed_of (bounds l) action)
          → flow.choice l ≡ Branch → (outcome : Bool) → All (Fits rank) (flow.arcs_of l outcome)
      picks_as l ends fit on has branching outcome = absurd (has.1 branching)
      picks_as l (passes target) fit on has branching outcome = absurd (has.1 branching)
      picks_as l (assigns x e target) fit on has branching outcome = absurd (has.1 branching)
      picks_as l (tests head c p q) fit on has branching outcome = picks_deed l c p q fit on has branching outcome

      pub picks_at : (l : ℕ) → l < n → flow.choice l ≡ Branch → (outcome : Bool) → All (Fits rank) (flow.arcs_of l outcome)
      picks_at l low branching outcome =
          picks_as l (action_at body l) (fits_at body vars few valid fitting l)
          (after_at body vars few valid fitting loopless bounds largest small most_small short l low) (flows body vars few valid fitting bounds l) branching outcome

    below_or : (a b : ℕ) → (a < b) ⊎ (b ≤ a)
    below_or a zero = inr (omega arith)
    below_or zero (suc b) = inl (omega arith)
    below_or (suc a) (suc b) = ⊎_elim (λ less. inl (omega (arith, less))) (λ more. inr (omega (arith, more))) (below_or a b)

    -- a leaf stands at a label, with a rank that is a number of steps
    leaf_at : (l place : ℕ) (why : Why) (rank : AffineRank) → leaf_numbered (family l) place ≡ leaf why rank → (l < n) × NoValue why × Few rank
    leaf_at l place why rank stands =
        ⊎_elim
        (λ (low : l < n). let own = each_leaf (R l) (λ why rank. NoValue why × Q l rank) (family l) place why rank (each l low) stands in (low, own.0, few_steps l rank own.1))
        (λ far. absurd (never_leaf (subst (λ (t : Plan AffineRank). leaf_numbered t place ≡ leaf why rank) (past l far) stands)))
        (below_or l n)
      where
        never_leaf : {why : Why} {rank : AffineRank} → bottom ≡ leaf why rank → ⊥
        never_leaf is = absurd (cc)

    own_fit : (l : ℕ) → RowsFit given (family l)
    own_fit l =
        ⊎_elim (λ (low : l < n). stand_fit l (family l) (rows_only (R l) (Q l) (family l) (each l low)))
        (λ far. subst (RowsFit given) (sym (past l far)) tt) (below_or l n)

    pub are_fit : AreFit at family
    are_fit = record {
      rows = λ label. all_none FormsWhole;
      own = own_fit;
      parts = parts_fit;
      atom = atom;
      arcs = λ l place why rank stands arc inside.
          let known = leaf_at l place why rank stands in
          All-contains (Fits rank) ((flow_of body bounds).arcs l) arc (arcs_at rank known.2 l known.0) inside;
      arcs_of = λ l place why rank stands branching outcome arc inside.
          let known = leaf_at l place why rank stands in
          All-contains (Fits rank) ((flow_of body bounds).arcs_of l outcome) arc (picks_at rank known.2 l known.0 branching outcome) inside;
      natural = λ l place why rank stands. natural_fits rank (leaf_at l place why rank stands).2;
      whys = λ l place why rank stands a is. subst NoValue is (leaf_at l place why rank stands).1;
    }
