-- Trees that are proposed within the measures of a program and a formula are narrow and complete, and the check keeps each leaf.
use Rattle.std.specs.Prelude.{⊤}
use Rattle.std.proofs.Common.{◌≡◌, ⊎_elim, ℕ, zero, suc, ◌+◌, ◌*◌, ◌^◌, ◌<◌, ◌≤◌, max, false, pos, List, [], length, sym, subst, arith}
use Rattle.std.proofs.Math.Nat.{le_refl, mul-le-mul}
use Rattle.step_meaning.specs.Syntax.{Statements}
use Rattle.step_meaning.specs.Valid.{IsBody}
use Rattle.linear_cons.specs.Functions.{IsOver, NumbersFit, complement_of}
use Rattle.linear_cons.specs.declared.affine.Affine.{Affine}
use Rattle.linear_cons.specs.declared.row.Row.{Row}
use Rattle.linear_cons.proofs.Sizes.{sizes_complement, sizes_fit, sizes_grown}
use Rattle.linear_cons.proofs.Over.{over_constant}
use Rattle.decision_tree.specs.Extent.{ComplementsFit, IsTreeOver, PickIs}
use Rattle.decision_tree.specs.Plans.{Plan, bottom, branch, leaf, leaves_of, size_of, top}
use Rattle.decision_tree.specs.declared.affine_rank.AffineRank.{AffineRank}
use Rattle.decision_tree.specs.declared.reason.Pick.TheVariants.{All as Every, Yes, No, Value}
use Rattle.decision_tree.specs.declared.reason.Why.{Why}
use Rattle.decision_tree.specs.declared.reason.Why.TheVariants.{End, Atom, Both, Left, Right, Now, Dead, Step}
use Rattle.control_flow.specs.Growth.{factor_at, greatest_of_tests, greatest_number, product_below}
use Rattle.control_flow.specs.Labels.{all_labels}
use Rattle.control_flow.specs.Told.{Told}
use Rattle.control_flow.specs.Transitions.{AreTold}
use Rattle.control_flow.specs.declared.transition.Transition.{Transition}
use Rattle.ctl_formula.specs.declared.formula.Formula.{Formula}
use Rattle.normal_form.specs.Rows.{RowsAreOver}
use Rattle.ctl_formula.specs.Formulas.{Ctl, truth, falsity, exit, not_exit, always, never, least, negation, both, either, next, until, weak}
use Rattle.ctl_formula.specs.Mirror.{ctl}
use Rattle.constraint_stack.specs.Forming.{given}
use Rattle.backward_transfer.specs.AffineShapes.{tree_at}
use Rattle.part_trees.specs.Proposed.{AreProposed}
use Rattle.tree_support.specs.Certificates.{affine_ranks}
use Rattle.tree_support.specs.Elimination.{Eliminates}
use Rattle.tree_support.specs.Setting.{Trees, setting_of}
use Rattle.tree_support.specs.declared.dropped.Dropped.{Dropped}
use Rattle.unroll.specs.Levels.{RowsAtMost}
use Rattle.unroll.specs.Within.{EachIs, IsWithin, place_by}
use Rattle.unroll.proofs.Growing.{below_some}
use Rattle.unroll.proofs.Keeping.{each_more}
use Rattle.unroll.proofs.WithinRows.{greatest_numbers, turned_fits}
use Rattle.exact_families.specs.Completeness.{EachPart, IsComplete, IsLoopless, two_parts}
use Rattle.formula_measures.specs.Measures.{IsWithinMeasures, atom_size, ctl_growth, part_size}
use Rattle.exact_families.specs.Narrowness.{HasNoMore, IsNarrowAndComplete, IsRankAt, IsRowAt, NoValue}
use Rattle.exact_families.specs.Shut.{AllShut, AllWhole}
use Rattle.exact_families.proofs.Bounds.{EachAre, rows_only}
use Rattle.exact_families.proofs.Completed.{below_or, made_complete, made_shut, past_trees}
use Rattle.exact_families.proofs.Counting.{map_part}
use Rattle.exact_families.proofs.Fits.{RowsFit}
use Rattle.exact_families.proofs.Lifting.{untold, untold_keeps}
use Rattle.exact_families.proofs.Narrowed.{are_fit, stand_fit}
use Rattle.exact_families.proofs.Narrowing.{narrow_made}
use Rattle.exact_families.proofs.Programs.{deeds}
use Rattle.exact_families.proofs.Whole.{IsMade}
use Rattle.exact_families.proofs.Wholeness.{all_whole}

-- ---- a part's numbers are no greater than those of the whole

part_atoms : (P : Ctl → Trees AffineRank → Type 0) (f : Ctl) (parts : ℕ → Trees AffineRank) → EachPart P f parts
    → EachPart (λ g part. (atom_size g ≤ atom_size f) × P g part) f parts
part_atoms P truth parts own = tt
part_atoms P falsity parts own = tt
part_atoms P exit parts own = tt
part_atoms P not_exit parts own = tt
part_atoms P always parts own = tt
part_atoms P never parts own = tt
part_atoms P (least a) parts own = tt
part_atoms P (negation f) parts own = own
part_atoms P (both f g) parts own = ((omega arith, own.0), (omega arith, own.1))
part_atoms P (either f g) parts own = ((omega arith, own.0), (omega arith, own.1))
part_atoms P (next all f) parts own = (le_refl (atom_size f), own)
part_atoms P (until all f g) parts own = ((omega arith, own.0), (omega arith, own.1))
part_atoms P (weak all f g) parts own = ((omega arith, own.0), (omega arith, own.1))

pub less_growth : (body : Statements) (f h : Ctl) → atom_size f ≤ atom_size h → ctl_growth body f ≤ ctl_growth body h
less_growth body f h less = mul-le-mul (omega (arith, less)) (le_refl (product_below (factor_at body) (length (all_labels body))))

more_within : (k less most : ℕ) → less ≤ most → (row : Row) → IsWithin k less row → IsWithin k most row
more_within k less most is row own = record { size = own.size; sizes = own.sizes; small = let small = own.small in omega (arith, small, is) }

-- ---- the trees

module _ (body : Statements) (vars : ℕ) (few : vars ≤ 15) (valid : IsBody vars body) (loopless : IsLoopless body) (told : Told)
    (transitions : List Transition) (same : length transitions ≡ length (all_labels body)) (told_are : AreTold body told transitions)
    (short : length (all_labels body) ≤ 1024) (formula : Formula) (within : IsWithinMeasures body (ctl formula)) (over : RowsAreOver vars (ctl formula))
    (first second trees : List (Plan AffineRank)) (labels : length trees ≡ length (all_labels body)) (are : AreProposed formula transitions first second trees)
    (each : EachPart (IsNarrowAndComplete vars body) (ctl formula) (two_parts first second)) (none : HasNoMore (ctl formula) first second)
    (one_labels : length first ≤ length (all_labels body)) (two_labels : length second ≤ length (all_labels body)) where
  abbrev n : ℕ
  n = length (all_labels body)

  abbrev parts : ℕ → Trees AffineRank
  parts = two_parts first second

  abbrev f : Ctl
  f = ctl formula

  -- ---- the measures

  some_product : 1 ≤ product_below (factor_at body) n
  some_product = below_some body n

  wide : product_below (factor_at body) n ≤ 2 ^ 100
  wide =
      let growth : ctl_growth body f ≤ 2 ^ 100 = within.growth in
      let more : 1 * product_below (factor_at body) n ≤ ctl_growth body f = mul-le-mul (omega arith) (le_refl (product_below (factor_at body) n)) in
      omega (arith, growth, more)

  small : greatest_of_tests body * product_below (factor_at body) n ≤ ctl_growth body f
  small = mul-le-mul (omega arith) (le_refl (product_below (factor_at body) n))

  atom_fits : (a : Affine) → f ≡ least a → NumbersFit (complement_of a)
  atom_fits a is =
      let growth : ctl_growth body (least a) ≤ 2 ^ 100 = subst (λ f. ctl_growth body f ≤ 2 ^ 100) is within.growth in
      let more : (1 + max (greatest_of_tests body) (greatest_number a)) * 1 ≤ ctl_growth body (least a) = mul-le-mul (le_refl (1 + max (greatest_of_tests body) (greatest_number a))) some_product in
      sizes_fit (1 + greatest_number a) (complement_of a) (omega (arith, growth, more)) (sizes_complement (greatest_number a) a (greatest_numbers a))

  -- ---- the parts

  abbrev R : ℕ → Row → Type 0
  R l = IsRowAt (ctl_growth body f) body vars l

  abbrev Q : ℕ → AffineRank → Type 0
  Q l = IsRankAt body l

  -- a part's trees are as narrow as the whole tells
  abbrev Own : Ctl → Trees AffineRank → Type 0
  Own g part = (l : ℕ) → l < n → EachAre (R l) (Q l) (part l) × (size_of (part l) ≤ part_size body g l)

  own_part : (g : Ctl) (part : Trees AffineRank) → (atom_size g ≤ atom_size f) × IsNarrowAndComplete vars body g part → Own g part
  own_part g part has l low =
      let here = has.1.0 l low in (
        each_more (IsRowAt (ctl_growth body g) body vars l) (R l) (λ why rank. NoValue why × Q l rank) (λ why rank. NoValue why × Q l rank)
            (λ row known. (more_within (product_below (factor_at body) (place_by false n l)) (ctl_growth body g) (ctl_growth body f) (less_growth body g f has.0) row known.0, known.1))
            (λ why rank known. known) (part l) here.each,
        here.small,
      )

  each_own : EachPart Own f parts
  each_own =
      map_part (λ g part. (atom_size g ≤ atom_size f) × IsNarrowAndComplete vars body g part) Own own_part f parts
      (part_atoms (IsNarrowAndComplete vars body) f parts each)

  side_fits : (list : List (Plan AffineRank)) → length list ≤ n → ((l : ℕ) → l < n → EachAre (R l) (Q l) (tree_at list l)) → (l : ℕ) → RowsFit given (tree_at list l)
  side_fits list most own l =
      ⊎_elim
      (λ (low : l < n). stand_fit body vars few valid loopless.fitting loopless.free told.bounds (ctl_growth body f) small within.growth short wide l (tree_at list l)
      (rows_only (R l) (Q l) (tree_at list l) (own l low)))
      (λ past. subst (RowsFit given) (sym (past_trees list l (omega (arith, past, most)))) tt)
      (below_or l n)

  none_fits : (list : List (Plan AffineRank)) → list ≡ [] → (l : ℕ) → RowsFit given (tree_at list l)
  none_fits list is l = subst (λ (xs : List (Plan AffineRank)). RowsFit given (tree_at xs l)) (sym is) tt

  two_fit : (g h : Ctl) → Own g (tree_at first) → Own h (tree_at second) → (k l : ℕ) → RowsFit given (parts k l)
  two_fit g h one two zero l = side_fits first one_labels (λ l low. (one l low).0) l
  two_fit g h one two (suc zero) l = side_fits second two_labels (λ l low. (two l low).0) l
  two_fit g h one two (suc (suc k)) l = tt

  one_fits : (g : Ctl) → Own g (tree_at first) → second ≡ [] → (k l : ℕ) → RowsFit given (parts k l)
  one_fits g one is zero l = side_fits first one_labels (λ l low. (one l low).0) l
  one_fits g one is (suc zero) l = none_fits second is l
  one_fits g one is (suc (suc k)) l = tt

  none_fit : first ≡ [] → second ≡ [] → (k l : ℕ) → RowsFit given (parts k l)
  none_fit one two zero l = none_fits first one l
  none_fit one two (suc zero) l = none_fits second two l
  none_fit one two (suc (suc k)) l = tt

  fits_by : (f : Ctl) → EachPart Own f parts → HasNoMore f first second → (k l : ℕ) → RowsFit given (parts k l)
  fits_by (both g h) own more k l = two_fit g h own.0 own.1 k l
  fits_by (either g h) own more k l = two_fit g h own.0 own.1 k l
  fits_by (until all g h) own more k l = two_fit g h own.0 own.1 k l
  fits_by (weak all g h) own more k l = two_fit g h own.0 own.1 k l
  fits_by (next all g) own more k l = one_fits g own more k l
  fits_by (negation g) own more k l = absurd own
  fits_by truth own more k l = none_fit more.0 more.1 k l
  fits_by falsity own more k l = none_fit more.0 more.1 k l
  fits_by exit own more k l = none_fit more.0 more.1 k l
  fits_by not_exit own more k l = none_fit more.0 more.1 k l
  fits_by always own more k l = none_fit more.0 more.1 k l
  fits_by never own more k l = none_fit more.0 more.1 k l
  fits_by (least a) own more k l = none_fit more.0 more.1 k l

  -- ---- the whole

  abbrev told_nothing : Told
  told_nothing = record { bounds = told.bounds; dead = told.dead; rows = λ label. [] }

  made_and_narrow : IsMade n (deeds body vars few valid loopless.fitting told.bounds) told.dead f parts (tree_at trees)
      × ((l : ℕ) → l < n → EachAre (R l) (Q l) (tree_at trees l) × (size_of (tree_at trees l) ≤ part_size body f l))
  made_and_narrow =
      narrow_made body vars few valid loopless.fitting loopless.free told transitions same told_are short (ctl_growth body f) small within.growth first second trees formula are
      within.sizes over (le_refl (ctl_growth body f)) each_own

  whole : AllWhole (untold (setting_of body told f parts)) (tree_at trees)
  whole =
      all_whole (untold (setting_of body told f parts)) (tree_at trees)
      (are_fit body vars few valid loopless.fitting loopless.free told.bounds (ctl_growth body f) small within.growth short wide f parts (tree_at trees) told.dead
      (map_part Own (λ g part. (l : ℕ) → l < n → EachAre (R l) (Q l) (part l)) (λ g part own l low. (own l low).0) f parts each_own)
      (fits_by f each_own none) (λ l low. (made_and_narrow.1 l low).0) (λ l past. past_trees trees l (omega (arith, past, labels))) atom_fits)

  shut : AllShut (untold (setting_of body told f parts)) (tree_at trees)
  shut =
      made_shut body vars few valid loopless.fitting loopless.free told_nothing parts trees labels f made_and_narrow.0
      (map_part (IsNarrowAndComplete vars body) (λ g part. ⊤) (λ g part own. tt) f parts each)

  pub narrow_and_complete : IsNarrowAndComplete vars body f (tree_at trees)
  narrow_and_complete = (
    (λ l low. let own = made_and_narrow.1 l low in record { each = own.0; small = own.1 }),
    made_complete body vars few valid loopless.fitting loopless.free told parts trees labels f made_and_narrow.0
        (map_part (IsNarrowAndComplete vars body) (IsComplete body) (λ g part own. own.1) f parts each),
  )

  pub narrow_kept : (new : Trees AffineRank) (drops : List Dropped) → Eliminates affine_ranks (setting_of body told f parts) (tree_at trees) drops new → drops ≡ []
  narrow_kept new drops legal = untold_keeps (setting_of body told f parts) (tree_at trees) new drops shut whole legal

-- ---- such a tree can be printed

over_pick : (vars : ℕ) (why : Why) → NoValue why → PickIs (IsOver vars) why
over_pick vars (Step Every) plain = tt
over_pick vars (Step Yes) plain = tt
over_pick vars (Step No) plain = tt
over_pick vars (Step (Value a)) plain = absurd plain
over_pick vars End plain = tt
over_pick vars Atom plain = tt
over_pick vars Both plain = tt
over_pick vars Left plain = tt
over_pick vars Right plain = tt
over_pick vars Now plain = tt
over_pick vars Dead plain = tt

module _ (most : ℕ) (body : Statements) (vars l : ℕ) where
  abbrev Each : Plan AffineRank → Type 0
  Each plan = EachIs (IsRowAt most body vars l) (λ why rank. NoValue why × IsRankAt body l rank) plan

  -- the factors of the assignments that its rows have yet to be moved over
  abbrev behind : ℕ
  behind = product_below (factor_at body) (place_by false (length (all_labels body)) l)

  some_behind : 1 ≤ behind
  some_behind = below_some body (place_by false (length (all_labels body)) l)

  pub narrow_over : (plan : Plan AffineRank) → Each plan → IsTreeOver vars plan
  narrow_over bottom each = tt
  narrow_over (top cause) each = tt
  narrow_over (leaf why rank) each =
      (subst (λ (r : AffineRank). IsOver vars r.value) (sym each.1.is) (over_constant vars (pos each.1.steps)), over_pick vars why each.0)
  narrow_over (branch row this that) each = (each.0.1, narrow_over this each.1, narrow_over that each.2)

  pub narrow_complements : most ≤ 2 ^ 100 → (plan : Plan AffineRank) → Each plan → ComplementsFit plan
  narrow_complements few bottom each = tt
  narrow_complements few (top cause) each = tt
  narrow_complements few (leaf why rank) each = tt
  narrow_complements few (branch row this that) each =
      (turned_fits behind most some_behind few row each.0.0, narrow_complements few this each.1, narrow_complements few that each.2)

  -- no number in its rows is above the bound
  pub narrow_rows : (plan : Plan AffineRank) → Each plan → RowsAtMost most plan
  narrow_rows bottom each = tt
  narrow_rows (top cause) each = tt
  narrow_rows (leaf why rank) each = tt
  narrow_rows (branch row this that) each =
      let within = each.0.0 in
      let small = within.small in
      let least : within.size * 1 ≤ within.size * behind = mul-le-mul (le_refl within.size) some_behind in
      (sizes_grown within.size most row.affine (omega (arith, small, least)) within.sizes, narrow_rows this each.1, narrow_rows that each.2)

pub leaves_most : (plan : Plan AffineRank) → leaves_of plan ≤ size_of plan
leaves_most bottom = omega arith
leaves_most (top cause) = omega arith
leaves_most (leaf why rank) = omega arith
leaves_most (branch row this that) = let one = leaves_most this in let two = leaves_most that in omega (arith, one, two)
