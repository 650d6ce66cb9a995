-- The cover of families is defined wherever the first of them is, and the way there is found where that through the first is.
use Rattle.std.proofs.Common.{◌≡◌, inl, inr, ℕ, pos, ◌^◌, ◌<◌, ◌≤◌, All, int_le, Bool, true, false, if◌then◌else◌, IsTrue, Option, None, Some, List, [], ◌∷◌, ◌++◌, length, refl, sym, ap, subst, ◌∙◌, arith}
use Rattle.std.proofs.lemmas.Bool.{false≢true}
use Rattle.std.proofs.lemmas.List.Elements.{All-cons, All-head, All-tail}
use Rattle.step_meaning.specs.Outcome.{Store}
use Rattle.step_meaning.specs.Run.{IsInput, start}
use Rattle.step_meaning.specs.Syntax.{Statements}
use Rattle.linear_cons.specs.Functions.{PartsFit, value_at}
use Rattle.linear_cons.specs.Rows.{complement}
use Rattle.linear_cons.specs.declared.row.Row.{Row}
use Rattle.control_flow.specs.Edges.{configuration}
use Rattle.control_flow.specs.Labels.{entry_of}
use Rattle.control_flow.proofs.LabelLaws.{entry_is_a_label}
use Rattle.control_flow.proofs.Steps.{entry_is_start}
use Rattle.ctl_formula.specs.Formulas.{Ctl}
use Rattle.ctl_formula.specs.Satisfaction.{Sat}
use Rattle.decision_tree.specs.Equality.{same_plan}
use Rattle.decision_tree.specs.Evaluation.{WayFits, eval, rows_met}
use Rattle.decision_tree.specs.Extent.{ComplementsFit, IsWhole}
use Rattle.decision_tree.specs.Laws.EqualityLaws.{plan_eq-Decides}
use Rattle.decision_tree.specs.Plans.{Plan, bottom, branch, is_defined, leaf, size_of, top}
use Rattle.decision_tree.specs.declared.affine_rank.AffineRank.{AffineRank}
use Rattle.decision_tree.specs.declared.family.Family.{Family}
use Rattle.tree_unify.specs.Shapes.{grafted, joined_at}
use Rattle.tree_unify.specs.declared.join.Join.TheVariants.{Either}
use Rattle.backward_transfer.specs.AffineShapes.{affine_ranks, same_rank}
use Rattle.tree_support.specs.Setting.{trees_in}
use Rattle.fitting_ways.proofs.Rows.{rows_fit}
use Rattle.exact_families.specs.Completeness.{IsComplete}
use Rattle.formula_measures.specs.Measures.{ctl_growth}
use Rattle.exact_families.specs.Narrowness.{IsNarrowAt}
use Rattle.exact_families.proofs.Completing.{sat_like}
use Rattle.exact_families.proofs.Judging.{either_first}
use Rattle.exact_families.proofs.Making.{rank_alike}
use Rattle.exact_families.proofs.Narrow.{narrow_complements, narrow_rows}
use Rattle.exact_families.proofs.Narrowing.{size_at}
use Rattle.exact_families.proofs.StoreJudges.{judged_eval, store_says, stores_judge}
use Rattle.part_families.specs.Families.{IsExact, IsFamilyFor, IsNarrowFor, IsWithin}
use Rattle.ctl_rounds.specs.Bounds.{CoversInputs, FindsInputs}
use Rattle.ctl_rounds.specs.Covers.{Covers, Extends, IsFitToBegin, at_entry, claims_of, either_of}
use Rattle.ctl_rounds.specs.Finding.{BeginsExactly, FirstIs, body_of, formula_of, vars_of}
use Rattle.ctl_rounds.specs.declared.inquiry.Inquiry.{Inquiry}

-- ---- the first of more families

pub first_more : (IsSuch : Family AffineRank → Type 0) (tops more : List (Family AffineRank)) → FirstIs IsSuch tops → FirstIs IsSuch (tops ++ more)
first_more IsSuch [] more first = absurd first
first_more IsSuch (family ∷ rest) more first = first

-- what is said of the first of some, where there may be more behind them
module _ {D : Type 0} (inquiry : Inquiry D) where
  pub begins_more : (tops more : List (Family AffineRank)) → BeginsExactly inquiry tops → BeginsExactly inquiry (tops ++ more)
  begins_more tops more begins loopless free =
      let first = begins loopless free in (
        (λ uncut. first_more (IsExact (body_of inquiry) (formula_of inquiry)) tops more (first.0 uncut)),
        (λ within. first_more (IsNarrowFor (vars_of inquiry) (body_of inquiry) (formula_of inquiry)) tops more (first.1 within)),
      )

pub some_more : (tops : List (Family AffineRank)) (family : Family AffineRank) → 0 < length (tops ++ family ∷ [])
some_more [] family = omega arith
some_more (first ∷ rest) family = omega arith

pub first_of : (P IsSuch : Family AffineRank → Type 0) → ((family : Family AffineRank) → P family → IsSuch family) → (tops : List (Family AffineRank))
    → 0 < length tops → All P tops → FirstIs IsSuch tops
first_of P IsSuch gives [] some each = absurd (omega (arith, some))
first_of P IsSuch gives (family ∷ more) some each = gives family (All-head P family more each)

-- ---- what the cover keeps

-- what a tree has keeps it as another is joined behind it
module _ (Has : Plan AffineRank → Type 0) (keeps : (a b : Plan AffineRank) → Has a → Has (either_of a b)) where
  kept_on : (cover : Plan AffineRank) (trees : List (Plan AffineRank)) (made : Option (Plan AffineRank)) → Covers (Some cover) trees made → Has cover
      → Has (claims_of made)
  kept_on cover [] made covers own = subst (λ c. Has (claims_of c)) (sym covers) own
  kept_on cover (tree ∷ more) made covers own =
      elim covers.1 [
        | inl joined ↦ kept_on (either_of cover tree) more made (subst (λ c. Covers c more made) joined.1 covers.2) (keeps cover tree own)
        | inr left_out ↦ kept_on cover more made (subst (λ c. Covers c more made) left_out.1 covers.2) own
      ]

  pub begun_on : (tree : Plan AffineRank) (more : List (Plan AffineRank)) (made : Option (Plan AffineRank)) → size_of tree ≤ 4096 → ComplementsFit tree
      → Covers None (tree ∷ more) made → Has tree → Has (claims_of made)
  begun_on tree more made small fits covers own = started covers.0 covers.1 covers.2
    where
      started : (next : Option (Plan AffineRank)) → Extends None tree next → Covers next more made → Has (claims_of made)
      started next (inl begun) rest = kept_on tree more made (subst (λ c. Covers c more made) begun.1 rest) own
      started next (inr left_out) rest = absurd (left_out.0 (small, fits))

module _ (s : Store) where
  abbrev Defined : Plan AffineRank → Type 0
  Defined plan = is_defined (eval plan s) ≡ true

  pub either_defined : (a b : Plan AffineRank) → Defined a → Defined (either_of a b)
  either_defined a b own =
      ap is_defined
      (sym (judged_eval (either_of a b) s)
      ∙ either_first same_rank rank_alike (store_says s) (stores_judge s) affine_ranks.where_greater affine_ranks.greater_fits a b (ap is_defined (judged_eval a s) ∙ own)
      ∙ judged_eval a s) ∙ own

  either_way : (t : Bool) (this that : Plan AffineRank) → is_defined this ≡ true → is_defined that ≡ true → is_defined (if t then this else that) ≡ true
  either_way true this that first second = first
  either_way false this that first second = second

  pub whole_defined : (plan : Plan AffineRank) → IsWhole plan → Defined plan
  whole_defined bottom whole = absurd whole
  whole_defined (top cause) whole = absurd whole
  whole_defined (leaf why rank) whole = refl
  whole_defined (branch row this that) whole =
      either_way (int_le (pos 0) (value_at row.affine s)) (eval this s) (eval that s) (whole_defined this whole.0) (whole_defined that whole.1)

-- ---- the way through a joined tree

module _ (s : Store) where
  abbrev IsFound : Row → Type 0
  IsFound row = PartsFit row.affine s

  -- where the side that is taken is found
  taken_found : (met : Bool) (here there before behind : List Row) → (met ≡ true → All IsFound here → All IsFound before)
      → (met ≡ false → All IsFound there → All IsFound behind) → All IsFound (if met then here else there) → All IsFound (if met then before else behind)
  taken_found true here there before behind first second own = first refl own
  taken_found false here there before behind first second own = second refl own

  -- equal sides make one tree
  node_found : (t : Bool) (row : Row) (this that : Plan AffineRank) → (IsTrue t → this ≡ that) → WayFits (branch row this that) s
      → WayFits (if t then this else branch row this that) s
  node_found false row this that equal own = own
  node_found true row this that equal own =
      one_side (int_le (pos 0) (value_at row.affine s))
      (All-tail IsFound row (if int_le (pos 0) (value_at row.affine s) then rows_met this s else rows_met that s) own)
    where
      one_side : (met : Bool) → All IsFound (if met then rows_met this s else rows_met that s) → WayFits this s
      one_side true own = own
      one_side false own = subst (λ (side : Plan AffineRank). WayFits side s) (sym (equal refl)) own

  -- the way through the first tree to a defined leaf passes no more rows in the joined one
  module _ (second : Plan AffineRank) where
    abbrev grafted_on : List Row → Plan AffineRank → Plan AffineRank
    grafted_on path first = grafted same_rank (joined_at same_rank affine_ranks.where_greater affine_ranks.greater_fits Either second) path first

    grafted_found : (path : List Row) (first : Plan AffineRank) → Defined s first → WayFits first s → WayFits (grafted_on path first) s
    grafted_found path bottom defined own = absurd (false≢true defined)
    grafted_found path (top cause) defined own = absurd (false≢true defined)
    grafted_found path (leaf why rank) defined own = own
    grafted_found path (branch row this that) defined own =
        let here : Plan AffineRank = grafted_on (path ++ row ∷ []) this in
        let there : Plan AffineRank = grafted_on (path ++ complement row ∷ []) that in
        let met : Bool = int_le (pos 0) (value_at row.affine s) in
        node_found (same_plan same_rank here there) row here there (plan_eq-Decides same_rank rank_alike here there).0
        (All-cons IsFound row (if met then rows_met here s else rows_met there s)
        (All-head IsFound row (if met then rows_met this s else rows_met that s) own)
        (taken_found met (rows_met this s) (rows_met that s) (rows_met here s) (rows_met there s)
        (λ is fits. grafted_found (path ++ row ∷ []) this (subst (λ t. is_defined (if t then eval this s else eval that s) ≡ true) is defined) fits)
        (λ is fits. grafted_found (path ++ complement row ∷ []) that (subst (λ t. is_defined (if t then eval this s else eval that s) ≡ true) is defined) fits)
        (All-tail IsFound row (if met then rows_met this s else rows_met that s) own)))

  -- the way leads to a defined leaf, and is found within 128 bits
  abbrev LeadsOn : Plan AffineRank → Type 0
  LeadsOn plan = Defined s plan × WayFits plan s

  pub either_leads : (a b : Plan AffineRank) → LeadsOn a → LeadsOn (either_of a b)
  either_leads a b own = (either_defined s a b own.0, grafted_found b [] a own.0 own.1)

-- ---- the cover of families of which the first is defined wherever the formula holds

-- so its tree at the entry is at each input from which the formula holds
entry_defined : (vars : ℕ) (body : Statements) (f : Ctl) (family : Family AffineRank) → IsComplete body f (trees_in family.trees) → (input : Store) → IsInput vars input
    → Sat f (start body input) → Defined input (trees_in family.trees (entry_of body))
entry_defined vars body f family complete input is sat =
    complete (entry_of body) input (entry_is_a_label body) is.places
    (sat_like f (start body input) (configuration body (entry_of body) input) (sym (entry_is_start body), refl) sat)

pub first_covers : (vars : ℕ) (body : Statements) (f : Ctl) (tops : List (Family AffineRank)) (made : Option (Plan AffineRank))
    → FirstIs (IsExact body f) tops → FirstIs (IsFitToBegin body) tops → FirstIs (IsFamilyFor vars body) tops → Covers None (at_entry body tops) made
    → CoversInputs vars body f (claims_of made)
first_covers vars body f [] made exact begins fits covers = absurd exact
first_covers vars body f (family ∷ more) made exact begins fits covers = λ input is sat.
    begun_on (Defined input) (either_defined input) (trees_in family.trees (entry_of body)) (at_entry body more) made begins.1 (fits.complements (entry_of body)) covers
    (entry_defined vars body f family (exact begins.0) input is sat)

-- and of families of which the first is narrow
module _ (vars : ℕ) (body : Statements) (f : Ctl) (within : IsWithin vars body f) (family : Family AffineRank) (narrow : IsNarrowFor vars body f family)
    (more : List (Family AffineRank)) (made : Option (Plan AffineRank)) (covers : Covers None (at_entry body (family ∷ more)) made) where
  abbrev first : Plan AffineRank
  first = trees_in family.trees (entry_of body)

  first_narrow : IsNarrowAt vars body f (entry_of body) first
  first_narrow = narrow.0 (entry_of body) (entry_is_a_label body)

  few_nodes : size_of first ≤ 4096
  few_nodes = let small = first_narrow.small in let most = size_at body f within.0.sizes (entry_of body) (entry_is_a_label body) in omega (arith, small, most)

  kept_from_first : (Has : Plan AffineRank → Type 0) → ((a b : Plan AffineRank) → Has a → Has (either_of a b)) → Has first → Has (claims_of made)
  kept_from_first Has keeps own =
      begun_on Has keeps first (at_entry body more) made few_nodes
      (narrow_complements (ctl_growth body f) body vars (entry_of body) within.0.growth first first_narrow.each) covers own

  narrow_covers : CoversInputs vars body f (claims_of made)
  narrow_covers input is sat = kept_from_first (Defined input) (either_defined input) (entry_defined vars body f family narrow.1 input is sat)

  narrow_finds : ctl_growth body f ≤ 2 ^ 60 → FindsInputs vars body f (claims_of made)
  narrow_finds growth input is small sat =
      (kept_from_first (LeadsOn input) (either_leads input) (
        entry_defined vars body f family narrow.1 input is sat,
        rows_fit (ctl_growth body f) first growth (narrow_rows (ctl_growth body f) body vars (entry_of body) first first_narrow.each) input small,
      )).1

pub first_covers_narrowly : (vars : ℕ) (body : Statements) (f : Ctl) (tops : List (Family AffineRank)) (made : Option (Plan AffineRank))
    → IsWithin vars body f → FirstIs (IsNarrowFor vars body f) tops → Covers None (at_entry body tops) made → CoversInputs vars body f (claims_of made)
first_covers_narrowly vars body f [] made within narrow covers = absurd narrow
first_covers_narrowly vars body f (family ∷ more) made within narrow covers = narrow_covers vars body f within family narrow more made covers

pub first_finds_narrowly : (vars : ℕ) (body : Statements) (f : Ctl) (tops : List (Family AffineRank)) (made : Option (Plan AffineRank))
    → IsWithin vars body f → ctl_growth body f ≤ 2 ^ 60 → FirstIs (IsNarrowFor vars body f) tops → Covers None (at_entry body tops) made
    → FindsInputs vars body f (claims_of made)
first_finds_narrowly vars body f [] made within growth narrow covers = absurd narrow
first_finds_narrowly vars body f (family ∷ more) made within growth narrow covers = narrow_finds vars body f within family narrow more made covers growth
