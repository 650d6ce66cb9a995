-- The trees before a step speak of the program's variables alone, where those behind it do.
use Rattle.std.proofs.Common.{ℕ, ◌==◌, if◌then◌else◌, ◌<◌, Bool, true, false, cond, not, ℤ, pos, negsuc, ◌-ℤ◌, int_lt, List, [], ◌∷◌, ◌++◌, map, Option, None, Some, All, refl, arith, subst, sym}
use Rattle.std.specs.Prelude.{⊤}
use Rattle.std.proofs.lemmas.List.Elements.{All-append, All-cons, All-head, All-nil, All-tail}
use Rattle.linear_cons.specs.declared.affine.Affine.{Affine}
use Rattle.linear_cons.specs.declared.bounds.Bounds.{Bounds}
use Rattle.linear_cons.specs.declared.bounds.Linear.{Linear}
use Rattle.linear_cons.specs.declared.row.Row.{Row}
use Rattle.linear_cons.specs.declared.row.RowKind.{RowKind}
use Rattle.linear_cons.specs.declared.row.RowKind.TheVariants.{Always, Never, Row as Kept}
use Rattle.linear_cons.specs.Ends.{ends_from, greatest_value, least_value, scaled_end}
use Rattle.linear_cons.specs.Functions.{constant_of, difference_of, multiple_of, substituted, sum_of, variable_at, IsOver}
use Rattle.linear_cons.specs.Rows.{IsRowOf, row_kind_of}
use Rattle.linear_cons.proofs.KindLaws.{row_kind_is}
use Rattle.linear_cons.proofs.Places.{eqb_apart}
use Rattle.step_meaning.specs.declared.expression.Op2.{Op2}
use Rattle.step_meaning.specs.declared.expression.Op2.TheVariants.{Add, And, Equal, Greater, GreaterEqual, Less, LessEqual, Mul, NotEqual, Or, Sub}
use Rattle.step_meaning.specs.Syntax.{Expression, free, negation, negative, number, pair, divided, quotient, remainder, range, truth, variable}
use Rattle.step_meaning.specs.Valid.{IsNumber, IsTest}
use Rattle.linear_forms.specs.Linearising.{are_equal, between, corners, is_number, least_left, linear_of, most_left, numbers_fit, product, quotient_end, scaled, square, unknown, with_ends}
use Rattle.linear_forms.specs.Spreading.{Claim, above, all_rows_of, at_least, before, claims, comparison_for, constraint, favoured, fitting, kept_before, less_one, pairs, rows_of, spread_of, with_constraint}
use Rattle.decision_tree.specs.Plans.{Plan, bottom, branch, leaf, top}
use Rattle.decision_tree.specs.declared.affine_rank.AffineRank.{AffineRank}
use Rattle.decision_tree.specs.declared.reason.Why.{Why}
use Rattle.decision_tree.specs.Extent.{IsTreeOver, PickIs}
use Rattle.linear_cons.proofs.Over.{over_constant, over_difference, over_multiple, over_places, over_put, over_quotient, over_sum}
use Rattle.tree_unify.specs.Shapes.{leaf_met}
use Rattle.tree_unify.specs.declared.join.Join.TheVariants.{Later}
use Rattle.control_flow.specs.Measures.{anywhere}
use Rattle.backward_transfer.specs.AffineShapes.{affine_ranks, assigned_shape, cut, same_rank, stepped_shape, tested_shape}
use Rattle.linear_forms.specs.Duality.{EachOf}
use Rattle.backward_transfer.specs.Tests.{enabled}
use Rattle.unroll.specs.Levels.{RanksCount}
use Rattle.unroll.specs.Within.{EachIs}
use Rattle.unroll.proofs.CountedRanks.{Counts, met_each, more_counts, put_counts}
use Rattle.unroll.proofs.Every.{every_ask}
use Rattle.unroll.proofs.Keeping.{KindIs, assigned_each, enabled_each, stepped_each, tested_each, trimmed_each}

module _ (vars : ℕ) where
  -- ---- functions

  abbrev RowIs : Row → Type 0
  RowIs row = IsOver vars row.affine

  kind_by : (a : Affine) (kind : RowKind) → IsRowOf a kind → IsOver vars a → KindIs RowIs kind
  kind_by a Always is own = tt
  kind_by a Never is own = tt
  kind_by a (Kept row) is own = over_quotient vars a row.affine is own

  pub kind_over : (a : Affine) → IsOver vars a → KindIs RowIs (row_kind_of a)
  kind_over a own = kind_by a (row_kind_of a) (row_kind_is a) own

  pub put_over : (a : Affine) (place : ℕ) (by : Affine) → IsOver vars a → IsOver vars by → KindIs RowIs (row_kind_of (substituted a place by))
  put_over a place by own other = kind_over (substituted a place by) (over_put vars a place by own other)

  -- ---- linear forms

  abbrev pub IsLinearOver : Linear → Type 0
  IsLinearOver x = IsOver vars x.affine

  between_over : (lo hi : Option ℤ) → IsLinearOver (between lo hi)
  between_over lo hi = over_constant vars (pos 0)

  either_over : (t : Bool) (x y : Linear) → IsLinearOver x → IsLinearOver y → IsLinearOver (cond t x y)
  either_over true x y one two = one
  either_over false x y one two = two

  with_ends_over : (a : Affine) (lo hi : Option ℤ) → IsOver vars a → IsLinearOver (with_ends a lo hi)
  with_ends_over a lo hi own = either_over (numbers_fit a) (record { affine = a; lo = lo; hi = hi }) unknown own (between_over None None)

  scaled_over : (x : Linear) (z : ℤ) → IsLinearOver x → IsLinearOver (scaled x z)
  scaled_over x z own = with_ends_over (multiple_of x.affine z) (scaled_end z x.lo x.hi) (scaled_end z x.hi x.lo) (over_multiple vars x.affine z own)

  corners_over : (a b c d : Option ℤ) → IsLinearOver (corners a b c d)
  corners_over None b c d = between_over None None
  corners_over (Some a) None c d = between_over None None
  corners_over (Some a) (Some b) None d = between_over None None
  corners_over (Some a) (Some b) (Some c) None = between_over None None
  corners_over (Some a) (Some b) (Some c) (Some d) = over_constant vars (pos 0)

  product_over : (bounds : Bounds) (x y : Linear) → IsLinearOver x → IsLinearOver y → IsLinearOver (product bounds x y)
  product_over bounds x y one two =
      let lx = least_value x bounds in
      let gx = greatest_value x bounds in
      let last = corners lx gx (least_value y bounds) (greatest_value y bounds) in
      let third = cond (are_equal x y) (square lx gx) last in
      let second = cond (is_number y) (scaled x y.affine.constant) third in
      either_over (is_number x) (scaled y x.affine.constant) second (scaled_over y x.affine.constant two)
      (either_over (is_number y) (scaled x y.affine.constant) third (scaled_over x y.affine.constant one)
      (either_over (are_equal x y) (square lx gx) last (over_constant vars (pos 0)) (corners_over lx gx (least_value y bounds) (greatest_value y bounds))))

  variable_over : (x : ℕ) → x < vars → IsOver vars (variable_at x)
  variable_over x low =
      over_places vars (λ i. if i == x then pos 1 else pos 0) (pos 0)
      (λ place below high. rw (eqb_apart place x (λ same. omega arith)) refl)

  pub linear_over : (bounds : Bounds) (e : Expression) → IsNumber vars e → IsLinearOver (linear_of bounds e)
  linear_over bounds (number z) sorted = over_constant vars z
  linear_over bounds (variable x) sorted = variable_over x sorted
  linear_over bounds (range lo hi) sorted = between_over lo hi
  linear_over bounds (negative e) sorted = scaled_over (linear_of bounds e) (negsuc 0) (linear_over bounds e sorted)
  linear_over bounds free sorted = between_over None None
  linear_over bounds (truth b) sorted = between_over None None
  linear_over bounds (negation c) sorted = between_over None None
  linear_over bounds (divided quotient e b) sorted =
      let lo = least_value (linear_of bounds e) bounds in
      let hi = greatest_value (linear_of bounds e) bounds in
      either_over (int_lt b (pos 0)) _ _ (between_over (quotient_end hi b) (quotient_end lo b)) (between_over (quotient_end lo b) (quotient_end hi b))
  linear_over bounds (divided remainder e b) sorted =
      let lo = least_value (linear_of bounds e) bounds in
      let hi = greatest_value (linear_of bounds e) bounds in
      between_over (Some (least_left lo b)) (Some (most_left hi b))
  linear_over bounds (pair Add l r) sorted =
      let x = linear_of bounds l in
      let y = linear_of bounds r in
      with_ends_over (sum_of x.affine y.affine) _ _ (over_sum vars x.affine y.affine (linear_over bounds l sorted.0) (linear_over bounds r sorted.1))
  linear_over bounds (pair Sub l r) sorted =
      let x = linear_of bounds l in
      let y = linear_of bounds r in
      with_ends_over (difference_of x.affine y.affine) _ _ (over_difference vars x.affine y.affine (linear_over bounds l sorted.0) (linear_over bounds r sorted.1))
  linear_over bounds (pair Mul l r) sorted =
      product_over bounds (linear_of bounds l) (linear_of bounds r) (linear_over bounds l sorted.0) (linear_over bounds r sorted.1)
  linear_over bounds other sorted = absurd sorted

  -- ---- rows of tests

  abbrev IsFoundOver : Option Affine → Type 0
  IsFoundOver None = ⊤
  IsFoundOver (Some a) = IsOver vars a

  fits_over : (t : Bool) (a : Affine) → IsOver vars a → IsFoundOver (cond t (Some a) None)
  fits_over true a own = own
  fits_over false a own = tt

  fitting_over : (a : Affine) → IsOver vars a → IsFoundOver (fitting a)
  fitting_over a own = fits_over (numbers_fit a) a own

  less_one_over : (t : Bool) (found : Option Affine) → IsFoundOver found → IsFoundOver (less_one t found)
  less_one_over t None own = tt
  less_one_over true (Some a) own = fitting_over (difference_of a (constant_of (pos 1))) (over_difference vars a (constant_of (pos 1)) own (over_constant vars (pos 1)))
  less_one_over false (Some a) own = own

  favoured_over : (end : Option ℤ) (found : Option Affine) → IsFoundOver found → IsFoundOver (favoured end found)
  favoured_over None found own = tt
  favoured_over (Some z) None own = tt
  favoured_over (Some z) (Some a) own = fitting_over (sum_of a (constant_of z)) (over_sum vars a (constant_of z) own (over_constant vars z))

  abbrev IsClaimOver : Claim → Type 0
  IsClaimOver claim = IsLinearOver claim.greater × IsLinearOver claim.smaller

  constraint_over : (claim : Claim) → IsClaimOver claim → IsFoundOver (constraint claim)
  constraint_over claim own =
      let difference = difference_of claim.greater.affine claim.smaller.affine in
      favoured_over (ends_from (λ high low. high -ℤ low) claim.greater.hi claim.smaller.lo) (less_one claim.is_strict (fitting difference))
      (less_one_over claim.is_strict (fitting difference)
      (fitting_over difference (over_difference vars claim.greater.affine claim.smaller.affine own.0 own.1)))

  abbrev Rows : List Row → Type 0
  Rows rows = All RowIs rows

  abbrev AreKeptOver : Option (List Row) → Type 0
  AreKeptOver None = ⊤
  AreKeptOver (Some rows) = Rows rows

  before_over : (kind : RowKind) (rows : Option (List Row)) → KindIs RowIs kind → AreKeptOver rows → AreKeptOver (before kind rows)
  before_over Always rows own others = others
  before_over Never rows own others = tt
  before_over (Kept row) None own others = tt
  before_over (Kept row) (Some rows) own others = All-cons RowIs row rows own others

  with_constraint_over : (found : Option Affine) (rows : Option (List Row)) → IsFoundOver found → AreKeptOver rows → AreKeptOver (with_constraint found rows)
  with_constraint_over None rows own others = others
  with_constraint_over (Some a) rows own others = before_over (row_kind_of a) rows (kind_over a own) others

  rows_of_over : (list : List Claim) → All IsClaimOver list → AreKeptOver (rows_of list)
  rows_of_over [] own = All-nil RowIs
  rows_of_over (claim ∷ more) own =
      with_constraint_over (constraint claim) (rows_of more) (constraint_over claim (All-head IsClaimOver claim more own))
      (rows_of_over more (All-tail IsClaimOver claim more own))

  kept_before_over : (rows : Option (List Row)) (more : List (List Row)) → AreKeptOver rows → All Rows more → All Rows (kept_before rows more)
  kept_before_over None more own others = others
  kept_before_over (Some rows) more own others = All-cons Rows rows more own others

  all_rows_over : (list : List (List Claim)) → All (All IsClaimOver) list → All Rows (all_rows_of list)
  all_rows_over [] own = All-nil Rows
  all_rows_over (conjunction ∷ more) own =
      kept_before_over (rows_of conjunction) (all_rows_of more) (rows_of_over conjunction (All-head (All IsClaimOver) conjunction more own))
      (all_rows_over more (All-tail (All IsClaimOver) conjunction more own))

  one_claim : (claim : Claim) → IsClaimOver claim → All IsClaimOver (claim ∷ [])
  one_claim claim own = All-cons IsClaimOver claim [] own (All-nil IsClaimOver)

  one_conjunction : (list : List Claim) → All IsClaimOver list → All (All IsClaimOver) (list ∷ [])
  one_conjunction list own = All-cons (All IsClaimOver) list [] own (All-nil (All IsClaimOver))

  claims_over : (op : Op2) (x y : Linear) → IsLinearOver x → IsLinearOver y → All (All IsClaimOver) (claims op x y)
  claims_over Less x y one two = one_conjunction (above y x ∷ []) (one_claim (above y x) (two, one))
  claims_over LessEqual x y one two = one_conjunction (at_least y x ∷ []) (one_claim (at_least y x) (two, one))
  claims_over Greater x y one two = one_conjunction (above x y ∷ []) (one_claim (above x y) (one, two))
  claims_over GreaterEqual x y one two = one_conjunction (at_least x y ∷ []) (one_claim (at_least x y) (one, two))
  claims_over Equal x y one two =
      one_conjunction (at_least x y ∷ at_least y x ∷ []) (All-cons IsClaimOver (at_least x y) (at_least y x ∷ []) (one, two) (one_claim (at_least y x) (two, one)))
  claims_over NotEqual x y one two =
      All-cons (All IsClaimOver) (above x y ∷ []) ((above y x ∷ []) ∷ []) (one_claim (above x y) (one, two))
      (one_conjunction (above y x ∷ []) (one_claim (above y x) (two, one)))
  claims_over Add x y one two = All-nil (All IsClaimOver)
  claims_over Sub x y one two = All-nil (All IsClaimOver)
  claims_over Mul x y one two = All-nil (All IsClaimOver)
  claims_over And x y one two = All-nil (All IsClaimOver)
  claims_over Or x y one two = All-nil (All IsClaimOver)

  each_with : (rows : List Row) (list : List (List Row)) → Rows rows → All Rows list → All Rows (map (λ other. rows ++ other) list)
  each_with rows [] own others = All-nil Rows
  each_with rows (other ∷ list) own others =
      All-cons Rows (rows ++ other) (map (λ next. rows ++ next) list)
      (All-append RowIs rows other own (All-head Rows other list others))
      (each_with rows list own (All-tail Rows other list others))

  pairs_over : (xs ys : List (List Row)) → All Rows xs → All Rows ys → All Rows (pairs xs ys)
  pairs_over [] ys own others = All-nil Rows
  pairs_over (rows ∷ xs) ys own others =
      All-append Rows (map (λ other. rows ++ other) ys) (pairs xs ys) (each_with rows ys (All-head Rows rows xs own) others)
      (pairs_over xs ys (All-tail Rows rows xs own) others)

  empty_rows : All Rows ([] ∷ [])
  empty_rows = All-cons Rows [] [] (All-nil RowIs) (All-nil Rows)

  truth_over : (t : Bool) → All Rows (cond t ([] ∷ []) [])
  truth_over true = empty_rows
  truth_over false = All-nil Rows

  false_over : (t : Bool) → All Rows (cond t [] ([] ∷ []))
  false_over true = All-nil Rows
  false_over false = empty_rows

  compared_over : (bounds : Bounds) (op : Op2) (l r : Expression) (outcome : Bool) → IsNumber vars l → IsNumber vars r
      → All Rows (all_rows_of (claims (comparison_for outcome op) (linear_of bounds l) (linear_of bounds r)))
  compared_over bounds op l r outcome one two =
      all_rows_over (claims (comparison_for outcome op) (linear_of bounds l) (linear_of bounds r))
      (claims_over (comparison_for outcome op) (linear_of bounds l) (linear_of bounds r) (linear_over bounds l one) (linear_over bounds r two))

  pub spread_over : (bounds : Bounds) (c : Expression) (outcome : Bool) → IsTest vars c → All Rows (spread_of bounds c outcome)
  spread_over bounds free outcome sorted = empty_rows
  spread_over bounds (truth true) outcome sorted = truth_over outcome
  spread_over bounds (truth false) outcome sorted = false_over outcome
  spread_over bounds (negation c) outcome sorted = spread_over bounds c (not outcome) sorted
  spread_over bounds (pair And l r) true sorted =
      pairs_over (spread_of bounds l true) (spread_of bounds r true) (spread_over bounds l true sorted.0) (spread_over bounds r true sorted.1)
  spread_over bounds (pair And l r) false sorted =
      All-append Rows (spread_of bounds l false) (spread_of bounds r false) (spread_over bounds l false sorted.0) (spread_over bounds r false sorted.1)
  spread_over bounds (pair Or l r) true sorted =
      All-append Rows (spread_of bounds l true) (spread_of bounds r true) (spread_over bounds l true sorted.0) (spread_over bounds r true sorted.1)
  spread_over bounds (pair Or l r) false sorted =
      pairs_over (spread_of bounds l false) (spread_of bounds r false) (spread_over bounds l false sorted.0) (spread_over bounds r false sorted.1)
  spread_over bounds (pair Less l r) outcome sorted = compared_over bounds Less l r outcome sorted.0 sorted.1
  spread_over bounds (pair LessEqual l r) outcome sorted = compared_over bounds LessEqual l r outcome sorted.0 sorted.1
  spread_over bounds (pair Greater l r) outcome sorted = compared_over bounds Greater l r outcome sorted.0 sorted.1
  spread_over bounds (pair GreaterEqual l r) outcome sorted = compared_over bounds GreaterEqual l r outcome sorted.0 sorted.1
  spread_over bounds (pair Equal l r) outcome sorted = compared_over bounds Equal l r outcome sorted.0 sorted.1
  spread_over bounds (pair NotEqual l r) outcome sorted = compared_over bounds NotEqual l r outcome sorted.0 sorted.1
  spread_over bounds other outcome sorted = absurd sorted

  -- ---- trees

  rows_each : (rows : List Row) → Rows rows → EachOf RowIs rows
  rows_each [] own = tt
  rows_each (row ∷ rest) own = (All-head RowIs row rest own, rows_each rest (All-tail RowIs row rest own))

  conjunctions_each : (list : List (List Row)) → All Rows list → EachOf (EachOf RowIs) list
  conjunctions_each [] own = tt
  conjunctions_each (rows ∷ rest) own = (rows_each rows (All-head Rows rows rest own), conjunctions_each rest (All-tail Rows rows rest own))

  -- with ranks that are numbers of steps, which speak of no variable
  abbrev ClaimIs : Why → AffineRank → Type 0
  ClaimIs why rank = Counts rank × PickIs (IsOver vars) why

  to_each : (plan : Plan AffineRank) → RanksCount plan → IsTreeOver vars plan → EachIs RowIs ClaimIs plan
  to_each bottom ranks over = tt
  to_each (top cause) ranks over = tt
  to_each (leaf why rank) ranks over = (ranks, over.1)
  to_each (branch row this that) ranks over = (over.0, to_each this ranks.0 over.1, to_each that ranks.1 over.2)

  of_each : (plan : Plan AffineRank) → EachIs RowIs ClaimIs plan → IsTreeOver vars plan
  of_each bottom each = tt
  of_each (top cause) each = tt
  of_each (leaf why rank) each =
      let counts = each.0 in
      (subst (λ (r : AffineRank). IsOver vars r.value) (sym counts.1) (over_constant vars (pos counts.0)), each.1)
  of_each (branch row this that) each = (each.0, of_each this each.1, of_each that each.2)

  trimmed_over : (plan : Plan AffineRank) → EachIs RowIs ClaimIs plan → IsTreeOver vars (cut plan)
  trimmed_over plan each = of_each (cut plan) (trimmed_each same_rank RowIs ClaimIs [] plan each)

  -- a step speaks of every next state, and so of no function
  more_is : (why : Why) (rank : AffineRank) → ClaimIs why rank → Counts (affine_ranks.one_more rank) × ⊤
  more_is why rank own = (more_counts rank own.0, tt)

  met_is : (why other : Why) (rank next : AffineRank) → ClaimIs why rank → ClaimIs other next
      → EachIs RowIs ClaimIs (leaf_met same_rank affine_ranks.where_greater affine_ranks.greater_fits Later (leaf why rank) (leaf other next))
  met_is why other rank next one two = met_each RowIs ClaimIs why other rank next one.0 two.0 one two

  pub assigned_over : (place : ℕ) (by : Affine) (plan : Plan AffineRank) → place < 16 → IsOver vars by → RanksCount plan → IsTreeOver vars plan
      → IsTreeOver vars (cut (assigned_shape place by plan))
  assigned_over place by plan low own ranks over =
      trimmed_over (assigned_shape place by plan)
      (assigned_each same_rank RowIs RowIs ClaimIs ClaimIs affine_ranks.substituted affine_ranks.one_more place by (λ row mine. put_over row.affine place by mine own)
      (λ why rank one. (more_counts (affine_ranks.substituted rank place by) (put_counts place by low rank one.0), tt)) plan (to_each plan ranks over))

  pub stepped_over : (plan : Plan AffineRank) → RanksCount plan → IsTreeOver vars plan → IsTreeOver vars (cut (stepped_shape plan))
  stepped_over plan ranks over =
      trimmed_over (stepped_shape plan) (stepped_each same_rank RowIs ClaimIs ClaimIs affine_ranks.one_more more_is plan (to_each plan ranks over))

  pub tested_over : (this that : Plan AffineRank) (c : Expression) → IsTest vars c → RanksCount this → RanksCount that → IsTreeOver vars this → IsTreeOver vars that
      → IsTreeOver vars (cut (tested_shape this that (spread_of anywhere c true) (spread_of anywhere c false)))
  tested_over this that c sorted one two first second =
      let holds = spread_of anywhere c true in
      let fails = spread_of anywhere c false in
      let ends = enabled_each same_rank RowIs ClaimIs ClaimIs affine_ranks.one_more more_is affine_ranks.where_greater affine_ranks.greater_fits met_is this that
      (to_each this one first) (to_each that two second) in
      trimmed_over (tested_shape this that holds fails)
      (tested_each same_rank RowIs ClaimIs affine_ranks.where_greater affine_ranks.greater_fits affine_ranks.one_more this that fails holds
      (every_ask RowIs (λ t u. EachIs RowIs ClaimIs (enabled same_rank affine_ranks.where_greater affine_ranks.greater_fits affine_ranks.one_more this that t u)) ends fails
      (conjunctions_each fails (spread_over anywhere c false sorted)) holds (conjunctions_each holds (spread_over anywhere c true sorted))))
