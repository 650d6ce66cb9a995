-- At which leaves stores stand in the trees before a step, and what ranks and complements these have.
use Rattle.std.proofs.Common.{◌≡◌, ◌↔◌, ◌⊎◌, inl, inr, ℕ, zero, suc, ◌<◌, ◌≤◌, max, pos, ◌<ℤ◌, Bool, true, false, List, [], ◌∷◌, ◌++◌, cond, Option, None, Some, IsTrue, length, set, refl, ap, ◌∙◌, arith, ⊎_elim}
use Rattle.std.proofs.lemmas.Int.{ints}
use Rattle.linear_cons.specs.Functions.{NumbersFit, complement_of, constant_of, value_at}
use Rattle.linear_cons.specs.Rows.{complement}
use Rattle.linear_cons.specs.Settling.{settles}
use Rattle.linear_cons.specs.declared.affine.Affine.{Affine}
use Rattle.linear_cons.specs.declared.row.Row.{Row}
use Rattle.linear_cons.proofs.Forms.{value_constant}
use Rattle.linear_forms.specs.Meeting.{MeetsOne}
use Rattle.decision_tree.specs.Evaluation.{eval}
use Rattle.decision_tree.specs.Laws.AffineLaws.{equal_is, excess_is}
use Rattle.decision_tree.specs.Equality.{same_plan}
use Rattle.decision_tree.specs.Nodes.{node}
use Rattle.decision_tree.specs.Plans.{Plan, bottom, branch, is_defined, leaf, top}
use Rattle.decision_tree.specs.declared.affine_rank.AffineRank.{AffineRank}
use Rattle.tree_unify.specs.Shapes.{OnSide, TrimFits, on_side, trimmed}
use Rattle.tree_unify.proofs.Asking.{later_first, later_none, later_second, later_undefined}
use Rattle.tree_unify.proofs.Meeting.{eval_is_end}
use Rattle.backward_transfer.specs.Ranges.{later_of}
use Rattle.backward_transfer.specs.Steps.{step_to, stepped}
use Rattle.backward_transfer.specs.Tests.{tested}
use Rattle.backward_transfer.proofs.Standing.{assign_defined, assign_none, cut_eval, either_undefined, step_eval, step_undefined}
use Rattle.backward_transfer.proofs.Trying.{test_stands}
use Rattle.step_meaning.specs.Outcome.{Store}
use Rattle.unroll.specs.Building.{ClaimsAt, IsBefore, IsBeforeBoth}
use Rattle.unroll.specs.Levels.{counted}
use Rattle.decision_tree.specs.Extent.{ComplementsFit}
use Rattle.backward_transfer.specs.AffineShapes.{affine_ranks, assigned_shape, cut, same_rank, stepped_shape, tested_shape}
use Rattle.unroll.proofs.CountedRanks.{more_counted, put_counted}

-- ---- affine ranks

alike : (rank other : AffineRank) → IsTrue (same_rank rank other) ↔ (rank ≡ other)
alike rank other = equal_is rank other

-- ---- the trees before a step

module _ (x : ℕ) (by : Affine) (plan : Plan AffineRank) (store : Store) (low : x < 16) (long : length store ≡ 16) where
  pub assigned_before : IsBefore (eval plan (set store x (value_at by store))) (eval (cut (assigned_shape x by plan)) store)
  assigned_before = record {
    claims = λ n claim. (
      _,
      cut_eval same_rank alike (assigned_shape x by plan) store
          ∙ assign_defined same_rank alike affine_ranks.one_more affine_ranks.substituted x by store low long plan claim.0 (counted n) claim.1
          ∙ ap (λ (r : AffineRank). step_to (affine_ranks.one_more r)) (put_counted x by low n)
          ∙ ap (λ (r : AffineRank). step_to r) (more_counted n),
    );
    none = λ none. ap is_defined (cut_eval same_rank alike (assigned_shape x by plan) store
        ∙ assign_none same_rank alike affine_ranks.one_more affine_ranks.substituted x by store low long plan none) ∙ none;
  }

-- a step behind the leaf at which the store stands
step_before : (plan made : Plan AffineRank) (store : Store) → made ≡ stepped same_rank affine_ranks.one_more (eval plan store) → IsBefore (eval plan store) made
step_before plan made store is = record {
  claims = λ n claim. (_, is ∙ ap (stepped same_rank affine_ranks.one_more) claim.1 ∙ ap (λ (r : AffineRank). step_to r) (more_counted n));
  none = λ none. ap is_defined (is ∙ step_undefined same_rank alike affine_ranks.one_more (eval plan store) (eval_is_end plan store) none) ∙ none;
}

pub stepped_before : (plan : Plan AffineRank) (store : Store) → IsBefore (eval plan store) (eval (cut (stepped_shape plan)) store)
stepped_before plan store =
    step_before plan (eval (cut (stepped_shape plan)) store) store
    (cut_eval same_rank alike (stepped_shape plan) store ∙ step_eval same_rank alike affine_ranks.one_more plan store)

module _ (this that : Plan AffineRank) (holds fails : List (List Row)) (store : Store) where
  abbrev later_tree : Plan AffineRank
  later_tree = later_of same_rank affine_ranks.where_greater affine_ranks.greater_fits this that

  abbrev asked_tree : Plan AffineRank
  asked_tree = tested same_rank affine_ranks.where_greater affine_ranks.greater_fits affine_ranks.one_more this that holds fails

  tested_both : MeetsOne store holds → MeetsOne store fails → eval (cut (tested_shape this that holds fails)) store ≡ stepped same_rank affine_ranks.one_more (eval later_tree store)
  tested_both met also =
      cut_eval same_rank alike asked_tree store
      ∙ test_stands same_rank alike store (stepped same_rank affine_ranks.one_more (eval later_tree store)) affine_ranks.where_greater affine_ranks.greater_fits affine_ranks.one_more this that fails holds
      (λ one other. step_eval same_rank alike affine_ranks.one_more later_tree store) (λ one none. absurd (none also)) (λ none other. absurd (none met)) (λ none other. absurd (none met))

  tested_first : MeetsOne store holds → (MeetsOne store fails → ⊥) → eval (cut (tested_shape this that holds fails)) store ≡ stepped same_rank affine_ranks.one_more (eval this store)
  tested_first met missed =
      cut_eval same_rank alike asked_tree store
      ∙ test_stands same_rank alike store (stepped same_rank affine_ranks.one_more (eval this store)) affine_ranks.where_greater affine_ranks.greater_fits affine_ranks.one_more this that fails holds
      (λ one other. absurd (missed other)) (λ one none. step_eval same_rank alike affine_ranks.one_more this store) (λ none other. absurd (none met)) (λ none other. absurd (none met))

  tested_second : (MeetsOne store holds → ⊥) → MeetsOne store fails → eval (cut (tested_shape this that holds fails)) store ≡ stepped same_rank affine_ranks.one_more (eval that store)
  tested_second missed met =
      cut_eval same_rank alike asked_tree store
      ∙ test_stands same_rank alike store (stepped same_rank affine_ranks.one_more (eval that store)) affine_ranks.where_greater affine_ranks.greater_fits affine_ranks.one_more this that fails holds
      (λ one other. absurd (missed one)) (λ one none. absurd (missed one)) (λ none other. step_eval same_rank alike affine_ranks.one_more that store) (λ none other. absurd (other met))

  exceeds : (a b : ℕ) → (value_at (constant_of (pos a)) store <ℤ value_at (constant_of (pos b)) store) ↔ (a < b)
  exceeds a b =
      let one = value_constant (pos a) store in
      let two = value_constant (pos b) store in
      (λ less. omega (arith, ints), λ less. omega (arith, ints))

  later_claims : (a b : ℕ) → ClaimsAt (eval this store) a → ClaimsAt (eval that store) b → ClaimsAt (eval later_tree store) (max a b)
  later_claims a b one two =
      ⊎_elim
      (λ (less : a < b).
      let most : b ≡ max a b = omega arith in (
        two.0,
        later_second same_rank alike affine_ranks.where_greater affine_ranks.greater_fits this that store one.0 two.0 (counted a) (counted b) one.1 two.1
            ((excess_is (constant_of (pos b)) (constant_of (pos a)) store).1 ((exceeds a b).1 less)) ∙ ap (λ k. leaf two.0 (counted k)) most,
      ))
      (λ (least : b ≤ a).
      let most : a ≡ max a b = omega arith in (
        one.0,
        later_first same_rank alike affine_ranks.where_greater affine_ranks.greater_fits this that store one.0 two.0 (counted a) (counted b) one.1 two.1
            (λ met. let less = (exceeds a b).0 ((excess_is (constant_of (pos b)) (constant_of (pos a)) store).0 met) in omega (arith, less, least)) ∙ ap (λ k. leaf one.0 (counted k)) most,
      ))
      (less_or a b)
    where
      less_or : (a b : ℕ) → (a < b) ⊎ (b ≤ a)
      less_or a zero = inr (omega arith)
      less_or zero (suc b) = inl (omega arith)
      less_or (suc a) (suc b) = ⊎_elim (λ less. inl (omega arith)) (λ most. inr (omega arith)) (less_or a b)

  pub both_before : MeetsOne store holds → MeetsOne store fails → IsBeforeBoth (eval this store) (eval that store) (eval (cut (tested_shape this that holds fails)) store)
  both_before met also = record {
    claims = λ n m one two.
        let later = later_claims n m one two in
        (_, tested_both met also ∙ ap (stepped same_rank affine_ranks.one_more) later.1 ∙ ap (λ (r : AffineRank). step_to r) (more_counted (max n m)));
    none = λ undefined.
        let none = either_undefined (is_defined (eval this store)) (eval this store) (eval that store) (eval later_tree store) refl
        (later_none same_rank alike affine_ranks.where_greater affine_ranks.greater_fits this that store)
        (later_undefined same_rank alike affine_ranks.where_greater affine_ranks.greater_fits this that store) undefined in
        (step_before later_tree (eval (cut (tested_shape this that holds fails)) store) store (tested_both met also)).none none;
  }

  pub first_before : MeetsOne store holds → (MeetsOne store fails → ⊥) → IsBefore (eval this store) (eval (cut (tested_shape this that holds fails)) store)
  first_before met missed = step_before this (eval (cut (tested_shape this that holds fails)) store) store (tested_first met missed)

  pub second_before : (MeetsOne store holds → ⊥) → MeetsOne store fails → IsBefore (eval that store) (eval (cut (tested_shape this that holds fails)) store)
  second_before missed met = step_before that (eval (cut (tested_shape this that holds fails)) store) store (tested_second missed met)

-- ---- complements

side_complements : (t : Option Bool) (this that neither : Plan AffineRank) (This That Neither : Type 0) → (This → ComplementsFit this) → (That → ComplementsFit that)
    → (Neither → ComplementsFit neither) → OnSide t This That Neither → ComplementsFit (on_side t this that neither)
side_complements (Some true) this that neither This That Neither first second both fits = first fits
side_complements (Some false) this that neither This That Neither first second both fits = second fits
side_complements None this that neither This That Neither first second both fits = both fits

node_complements : (t : Bool) (row : Row) (this that : Plan AffineRank) → ComplementsFit this → NumbersFit (complement_of row.affine) → ComplementsFit that
    → ComplementsFit (cond t this (branch row this that))
node_complements true row this that first turned second = first
node_complements false row this that first turned second = (turned, first, second)

-- where the complements that trimming forms fit, those of the trimmed tree do
pub trimmed_complements : (path : List Row) (plan : Plan AffineRank) → TrimFits same_rank path plan → ComplementsFit (trimmed same_rank path plan)
trimmed_complements path bottom fits = tt
trimmed_complements path (top cause) fits = tt
trimmed_complements path (leaf why rank) fits = tt
trimmed_complements path (branch row this that) fits =
    side_complements (settles path row) (trimmed same_rank path this) (trimmed same_rank path that)
    (node same_rank row (trimmed same_rank (path ++ row ∷ []) this) (trimmed same_rank (path ++ complement row ∷ []) that))
    (TrimFits same_rank path this) (TrimFits same_rank path that)
    (TrimFits same_rank (path ++ row ∷ []) this × NumbersFit (complement_of row.affine) × TrimFits same_rank (path ++ complement row ∷ []) that)
    (λ own. trimmed_complements path this own) (λ own. trimmed_complements path that own)
    (λ both. node_complements (same_plan same_rank (trimmed same_rank (path ++ row ∷ []) this) (trimmed same_rank (path ++ complement row ∷ []) that)) row
    (trimmed same_rank (path ++ row ∷ []) this) (trimmed same_rank (path ++ complement row ∷ []) that)
    (trimmed_complements (path ++ row ∷ []) this both.0) both.1 (trimmed_complements (path ++ complement row ∷ []) that both.2)) fits
