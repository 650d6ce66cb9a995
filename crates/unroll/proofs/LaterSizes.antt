-- How large the later of two trees is, whose ranks are numbers of steps, and a tree before a test.
use Rattle.std.specs.Bool.{⊤}
use Rattle.std.proofs.Common.{None, ◌≡◌, ◌⊎◌, ⊎_elim, ℕ, zero, suc, ◌+◌, ◌*◌, ◌<◌, ◌≤◌, pos, Bool, true, false, List, [], ◌∷◌, ◌++◌, refl, sym, ap, subst, ◌∙◌, arith}
use Rattle.std.proofs.Math.Nat.{add-mul, le_refl, mul-le-mul, mul-suc, suc-mul}
use Rattle.linear_cons.specs.Functions.{IsConstant, constant_of}
use Rattle.linear_cons.specs.Rows.{complement, row_kind_of}
use Rattle.linear_cons.specs.Settling.{settles}
use Rattle.linear_cons.specs.declared.row.Row.{Row}
use Rattle.linear_cons.specs.declared.row.RowKind.{RowKind}
use Rattle.linear_cons.specs.declared.row.RowKind.TheVariants.{Always, Never, Row as Kept}
use Rattle.decision_tree.specs.AffineRanks.{excess_of}
use Rattle.decision_tree.specs.Nodes.{node}
use Rattle.decision_tree.specs.Plans.{IsEnd, Plan, bottom, branch, leaf, size_of, top}
use Rattle.decision_tree.specs.declared.affine_rank.AffineRank.{AffineRank}
use Rattle.decision_tree.specs.declared.reason.Why.{Why}
use Rattle.tree_unify.specs.Choosing.{chosen}
use Rattle.tree_unify.specs.Shapes.{grafted, joined_at, leaf_met, on_side, trimmed_with}
use Rattle.tree_unify.specs.declared.join.Join.TheVariants.{Later}
use Rattle.backward_transfer.specs.Ranges.{later_of}
use Rattle.backward_transfer.proofs.Making.{node_most}
use Rattle.unroll.specs.Levels.{RanksCount, counted}
use Rattle.backward_transfer.specs.Tests.{IsLaterSmall, TestAsks}
use Rattle.step_meaning.specs.AffineExpressions.{IsAffineTest}
use Rattle.step_meaning.specs.Syntax.{Expression, number, variable, free, range, truth, negative, negation, pair, divided}
use Rattle.linear_forms.specs.Duality.{AreDual}
use Rattle.linear_forms.specs.Spreading.{spread_of}
use Rattle.linear_forms.proofs.Dual.{spread_dual}
use Rattle.control_flow.specs.Measures.{anywhere, leaves_of_test, size_of_test}
use Rattle.unroll.specs.Plain.{IsFittingTest}
use Rattle.backward_transfer.specs.AffineShapes.{affine_ranks, same_rank, tested_shape}
use Rattle.unroll.proofs.Bounding.{dual_later, dual_size, node_bound, stepped_size}
use Rattle.unroll.proofs.CountedRanks.{constant_excess, constant_kind}
use Rattle.unroll.proofs.DualAsks.{side_by}
use Rattle.unroll.proofs.Lifting.{plain_test}
use Rattle.unroll.proofs.SpreadRows.{spread_long}

chosen_size : (kind : RowKind) (greater other : Plan AffineRank) → (kind ≡ Always) ⊎ (kind ≡ Never) → size_of greater ≡ 1 → size_of other ≡ 1
    → size_of (chosen same_rank (record { more = kind; same = None } ∷ []) greater other) ≡ 1
chosen_size Always greater other known first second = first
chosen_size Never greater other known first second = second
chosen_size (Kept row) greater other known first second = ⊎_elim (λ is. absurd (cc)) (λ is. absurd (cc)) known

abbrev met : Plan AffineRank → Plan AffineRank → Plan AffineRank
met = leaf_met same_rank affine_ranks.where_greater affine_ranks.greater_fits Later

leaves_size : (why other : Why) (rank next : AffineRank) → (n : ℕ) × (rank ≡ counted n) → (n : ℕ) × (next ≡ counted n) → size_of (met (leaf why rank) (leaf other next)) ≡ 1
leaves_size why other rank next one two =
    let is : excess_of next.value rank.value ≡ excess_of (constant_of (pos two.0)) (constant_of (pos one.0)) =
    ap (λ (r : AffineRank). excess_of r.value rank.value) two.1 ∙ ap (λ (r : AffineRank). excess_of (constant_of (pos two.0)) r.value) one.1 in
    chosen_size (row_kind_of (excess_of next.value rank.value)) (leaf other next) (leaf why rank)
    (constant_kind (excess_of next.value rank.value) (subst IsConstant (sym is) (constant_excess two.0 one.0))) refl refl

met_size : (why : Why) (rank : AffineRank) → (n : ℕ) × (rank ≡ counted n) → (end : Plan AffineRank) → IsEnd end → RanksCount end → size_of (met (leaf why rank) end) ≤ 1
met_size why rank one bottom ends two = omega arith
met_size why rank one (top cause) ends two = omega arith
met_size why rank one (leaf other next) ends two = let same = leaves_size why other rank next one two in omega (arith, same)
met_size why rank one (branch row this that) ends two = absurd ends

cut_size : (f : Plan AffineRank → Plan AffineRank) → ((end : Plan AffineRank) → IsEnd end → RanksCount end → size_of (f end) ≤ 1) → (path : List Row) (plan : Plan AffineRank)
    → RanksCount plan → size_of (trimmed_with same_rank f path plan) ≤ size_of plan
cut_size f keeps path bottom ranks = keeps bottom tt tt
cut_size f keeps path (top cause) ranks = keeps (top cause) tt tt
cut_size f keeps path (leaf why rank) ranks = keeps (leaf why rank) tt ranks
cut_size f keeps path (branch row this that) ranks =
    let here = cut_size f keeps path this ranks.0 in
    let there = cut_size f keeps path that ranks.1 in
    let first = cut_size f keeps (path ++ row ∷ []) this ranks.0 in
    let second = cut_size f keeps (path ++ complement row ∷ []) that ranks.1 in
    let most = node_most same_rank row (trimmed_with same_rank f (path ++ row ∷ []) this) (trimmed_with same_rank f (path ++ complement row ∷ []) that) in
    side_by
    (λ t. size_of (on_side t (trimmed_with same_rank f path this) (trimmed_with same_rank f path that)
    (node same_rank row (trimmed_with same_rank f (path ++ row ∷ []) this) (trimmed_with same_rank f (path ++ complement row ∷ []) that))) ≤ size_of this + size_of that + 1)
    (settles path row) (λ is. omega (arith, here)) (λ is. omega (arith, there)) (λ is. omega (arith, first, second, most))

some_nodes : (plan : Plan AffineRank) → 1 ≤ size_of plan
some_nodes bottom = omega arith
some_nodes (top cause) = omega arith
some_nodes (leaf why rank) = omega arith
some_nodes (branch row this that) = omega arith

abbrev at_leaf : Plan AffineRank → List Row → Plan AffineRank → Plan AffineRank
at_leaf second = joined_at same_rank affine_ranks.where_greater affine_ranks.greater_fits Later second

grafted_size : (second : Plan AffineRank) → RanksCount second → (path : List Row) (first : Plan AffineRank) → RanksCount first
    → size_of (grafted same_rank (at_leaf second) path first) + 1 ≤ size_of first * (size_of second + 1)
grafted_size second two path bottom one = let some = some_nodes second in omega (arith, some)
grafted_size second two path (top cause) one = let some = some_nodes second in omega (arith, some)
grafted_size second two path (leaf why rank) one = let most = cut_size (met (leaf why rank)) (met_size why rank one) path second two in omega (arith, most)
grafted_size second two path (branch row this that) one =
    let first = grafted_size second two (path ++ row ∷ []) this one.0 in
    let other = grafted_size second two (path ++ complement row ∷ []) that one.1 in
    let both = node_bound same_rank row (grafted same_rank (at_leaf second) (path ++ row ∷ []) this) (grafted same_rank (at_leaf second) (path ++ complement row ∷ []) that)
    (size_of this * (size_of second + 1)) (size_of that * (size_of second + 1)) first other in
    let n : ℕ = size_of second + 1 in
    let more : suc (size_of this + size_of that) ≡ size_of this + size_of that + 1 = omega arith in
    let product : (size_of this + size_of that + 1) * n ≡ size_of this * n + size_of that * n + n =
    ap (λ k. k * n) (sym more) ∙ suc-mul (size_of this + size_of that) n ∙ ap (λ k. k + n) (add-mul (size_of this) (size_of that) n) in
    omega (arith, both, product)

-- the later of both is no larger than four times the product
pub later_size : (this that : Plan AffineRank) → RanksCount this → RanksCount that
    → size_of (later_of same_rank affine_ranks.where_greater affine_ranks.greater_fits this that) ≤ 4 * (size_of this * size_of that)
later_size this that one two =
    let most = grafted_size that two [] this one in
    let some = some_nodes that in
    let next : suc (size_of that) ≡ size_of that + 1 = omega arith in
    let product : size_of this * (size_of that + 1) ≡ size_of this * size_of that + size_of this = ap (λ k. size_of this * k) (sym next) ∙ mul-suc (size_of this) (size_of that) in
    let least : size_of this * 1 ≤ size_of this * size_of that = mul-le-mul (le_refl (size_of this)) some in
    omega (arith, most, product, least)

-- ---- a tree before a test

affine_size : (c : Expression) → IsAffineTest c → (a b : ℕ) → size_of_test c a b ≡ 2 * (leaves_of_test c * (a + b + 1))
affine_size free affine a b = absurd affine
affine_size (number z) affine a b = refl
affine_size (variable x) affine a b = refl
affine_size (range lo hi) affine a b = refl
affine_size (truth t) affine a b = refl
affine_size (negative e) affine a b = refl
affine_size (negation e) affine a b = refl
affine_size (pair op l r) affine a b = refl
affine_size (divided division e z) affine a b = refl

not_most : (n m : ℕ) → (n ≤ m → ⊥) → m < n
not_most zero m never = absurd (never (omega arith))
not_most (suc n) zero never = omega arith
not_most (suc n) (suc m) never = let less = not_most n m (λ most. never (omega (arith, most))) in omega (arith, less)

module _ (c : Expression) (fits : IsFittingTest c) (this that : Plan AffineRank) (one : RanksCount this) (two : RanksCount that) where
  abbrev rows : Bool → List (List Row)
  rows t = spread_of anywhere c t

  abbrev bound : ℕ
  bound = size_of_test c (size_of this) (size_of that)

  abbrev Later_small : List (List Row) → List (List Row) → Type 0
  Later_small holds fails = TestAsks (λ row. ⊤) (IsLaterSmall same_rank affine_ranks.where_greater affine_ranks.greater_fits this that) fails holds

  free_size : size_of (tested_shape this that ([] ∷ []) ([] ∷ [])) ≤ 4 * (size_of this * size_of that)
  free_size =
      let most = later_size this that one two in
      let less = stepped_size same_rank affine_ranks.one_more (later_of same_rank affine_ranks.where_greater affine_ranks.greater_fits this that) in
      omega (arith, most, less)

  dual : IsAffineTest c → AreDual (rows true) (rows false)
  dual affine = spread_dual fits.vars anywhere c fits.sorted affine fits.fit true

  pub shape_size : size_of (tested_shape this that (rows true) (rows false)) ≤ bound
  shape_size =
      ⊎_elim
      (λ (is : c ≡ free). subst (λ e. size_of (tested_shape this that (spread_of anywhere e true) (spread_of anywhere e false)) ≤ size_of_test e (size_of this) (size_of that)) (sym is) free_size)
      (λ (affine : IsAffineTest c).
      let most = dual_size (rows true) (rows false) (spread_long anywhere c true) (dual affine) same_rank affine_ranks.where_greater affine_ranks.greater_fits affine_ranks.one_more this that in
      let same = affine_size c affine (size_of this) (size_of that) in
      omega (arith, most, same)) (plain_test c fits.plain)

  shape_later : bound ≤ 65536 → Later_small (rows true) (rows false)
  shape_later small =
      ⊎_elim
      (λ (is : c ≡ free). subst (λ e. Later_small (spread_of anywhere e true) (spread_of anywhere e false)) (sym is)
      (let most = later_size this that one two in let same : bound ≡ 4 * (size_of this * size_of that) = ap (λ e. size_of_test e (size_of this) (size_of that)) is in omega (arith, most, same, small)))
      (λ (affine : IsAffineTest c).
      dual_later (rows true) (rows false) (spread_long anywhere c true) (dual affine) same_rank affine_ranks.where_greater affine_ranks.greater_fits affine_ranks.one_more this that)
      (plain_test c fits.plain)

  -- what is refused for its size isn't bounded by 65,536
  pub shape_full : (holds fails : List (List Row)) → holds ≡ rows true → fails ≡ rows false
      → (Later_small holds fails → size_of (tested_shape this that holds fails) ≤ 65536 → ⊥) → 65536 < bound
  shape_full holds fails first second never =
      let refused : Later_small (rows true) (rows false) → size_of (tested_shape this that (rows true) (rows false)) ≤ 65536 → ⊥ =
      subst (λ list. Later_small (rows true) list → size_of (tested_shape this that (rows true) list) ≤ 65536 → ⊥) second
      (subst (λ list. Later_small list fails → size_of (tested_shape this that list fails) ≤ 65536 → ⊥) first never) in
      let most = shape_size in
      not_most bound 65536 (λ small. refused (shape_later small) (omega (arith, most, small)))
