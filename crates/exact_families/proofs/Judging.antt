-- At which leaf of a joined or moved tree a judge stands.
use Rattle.std.proofs.Common.{◌≡◌, ◌↔◌, ◌⊎◌, inl, inr, ⊎_elim, ℕ, Bool, true, false, not, cond, List, [], ◌∷◌, ◌++◌, Option, None, Some, IsTrue, refl, sym, ap, ◌∙◌}
use Rattle.std.proofs.lemmas.Bool.{false≢true}
use Rattle.linear_cons.specs.declared.affine.Affine.{Affine}
use Rattle.linear_cons.specs.declared.row.Row.{Row}
use Rattle.linear_cons.specs.declared.row.RowKind.{RowKind}
use Rattle.linear_cons.specs.declared.row.RowKind.TheVariants.{Always, Never, Row as Kept}
use Rattle.linear_cons.specs.Functions.{complement_of, substituted}
use Rattle.linear_cons.specs.Rows.{complement, row_kind_of}
use Rattle.linear_cons.specs.Settling.{settles}
use Rattle.decision_tree.specs.Equality.{same_plan}
use Rattle.decision_tree.specs.Nodes.{node}
use Rattle.decision_tree.specs.Plans.{IsEnd, Plan, bottom, branch, is_defined, leaf, top}
use Rattle.decision_tree.specs.Alternatives.{Alternatives}
use Rattle.decision_tree.specs.Laws.EqualityLaws.{plan_eq-Decides}
use Rattle.tree_unify.specs.Shapes.{asks_second, grafted, joined, joined_at, leaf_met, on_side, trimmed, trimmed_with}
use Rattle.tree_unify.specs.declared.join.Join.{Join}
use Rattle.tree_unify.specs.declared.join.Join.TheVariants.{Both, Either}
use Rattle.backward_transfer.specs.Steps.{asked, assigned, stepped}
use Rattle.exact_families.proofs.Judges.{IsJudge, judge_kind, judged}
use Rattle.unroll.proofs.Agreeing.{SomeTells, settled_held, settled_refuted, some_more}

pub true_or_not : (t : Bool) → (t ≡ true) ⊎ (t ≡ false)
true_or_not true = inl refl
true_or_not false = inr refl

pub not_true : (t : Bool) → not t ≡ true → t ≡ false
not_true true is = absurd (false≢true is)
not_true false is = refl

-- the judge grants what the rows tell
abbrev pub Grants : (Affine → Bool) → List Row → Type 0
Grants v path = (a : Affine) → SomeTells path a → v a ≡ true

pub grants_none : (v : Affine → Bool) → Grants v []
grants_none v a some = absurd some

module _ (v : Affine → Bool) (is : IsJudge v) where
  pub granted : (path : List Row) (row : Row) → settles path row ≡ Some true → Grants v path → v row.affine ≡ true
  granted path row settle grants = grants row.affine (settled_held path row settle)

  pub turned_true : (a : Affine) → v (complement_of a) ≡ true → v a ≡ false
  turned_true a own = not_true (v a) (sym (is.turned a) ∙ own)

  pub turned_false : (a : Affine) → v a ≡ false → v (complement_of a) ≡ true
  turned_false a own = is.turned a ∙ ap not own

  pub refused : (path : List Row) (row : Row) → settles path row ≡ Some false → Grants v path → v row.affine ≡ false
  refused path row settle grants = turned_true row.affine (grants (complement_of row.affine) (settled_refuted path row settle))

  pub grants_more : (path : List Row) (row : Row) → Grants v path → v row.affine ≡ true → Grants v (path ++ row ∷ [])
  grants_more path row grants own a some = ⊎_elim (λ here. grants a here) (λ tell. is.more row.affine a tell own) (some_more path row a some)

module _ {R : Type 0} (v : Affine → Bool) where
  pub judged_end : (plan : Plan R) → IsEnd plan → judged v plan ≡ plan
  judged_end bottom ends = refl
  judged_end (top cause) ends = refl
  judged_end (leaf why rank) ends = refl
  judged_end (branch row this that) ends = absurd ends

  pub judged_is_end : (plan : Plan R) → IsEnd (judged v plan)
  judged_is_end bottom = tt
  judged_is_end (top cause) = tt
  judged_is_end (leaf why rank) = tt
  judged_is_end (branch row this that) = at (v row.affine) (judged v this) (judged v that) (judged_is_end this) (judged_is_end that)
    where
      at : {R : Type 0} (t : Bool) (here there : Plan R) → IsEnd here → IsEnd there → IsEnd (cond t here there)
      at true here there first second = first
      at false here there first second = second

  pub on_yes : (row : Row) (this that : Plan R) → v row.affine ≡ true → judged v (branch row this that) ≡ judged v this
  on_yes row this that own = ap (λ t. cond t (judged v this) (judged v that)) own

  pub on_no : (row : Row) (this that : Plan R) → v row.affine ≡ false → judged v (branch row this that) ≡ judged v that
  on_no row this that own = ap (λ t. cond t (judged v this) (judged v that)) own

module _ {R : Type 0} (same : R → R → Bool) (alike : (rank other : R) → IsTrue (same rank other) ↔ (rank ≡ other)) (v : Affine → Bool) where
  node_judged_at : (t : Bool) (row : Row) (this that : Plan R) → (IsTrue t → this ≡ that)
      → judged v (cond t this (branch row this that)) ≡ judged v (branch row this that)
  node_judged_at true row this that equal =
      ⊎_elim (λ held. sym (on_yes v row this that held)) (λ lost. ap (judged v) (equal refl) ∙ sym (on_no v row this that lost)) (true_or_not (v row.affine))
  node_judged_at false row this that equal = refl

  pub node_judged : (row : Row) (this that : Plan R) → judged v (node same row this that) ≡ judged v (branch row this that)
  node_judged row this that = node_judged_at (same_plan same this that) row this that (plan_eq-Decides same alike this that).0

  pub node_yes : (row : Row) (this that : Plan R) → v row.affine ≡ true → judged v (node same row this that) ≡ judged v this
  node_yes row this that own = node_judged row this that ∙ on_yes v row this that own

  pub node_no : (row : Row) (this that : Plan R) → v row.affine ≡ false → judged v (node same row this that) ≡ judged v that
  node_no row this that own = node_judged row this that ∙ on_no v row this that own

  pub step_judged : (one_more : R → R) (plan : Plan R) → judged v (stepped same one_more plan) ≡ stepped same one_more (judged v plan)
  step_judged one_more bottom = refl
  step_judged one_more (top cause) = refl
  step_judged one_more (leaf why rank) = refl
  step_judged one_more (branch row this that) =
      ⊎_elim
      (λ held. node_yes row (stepped same one_more this) (stepped same one_more that) held ∙ step_judged one_more this ∙ ap (stepped same one_more) (sym (on_yes v row this that held)))
      (λ lost. node_no row (stepped same one_more this) (stepped same one_more that) lost ∙ step_judged one_more that ∙ ap (stepped same one_more) (sym (on_no v row this that lost)))
      (true_or_not (v row.affine))

  pub asked_yes : (kind : RowKind) (this that : Plan R) → judge_kind v kind ≡ true → judged v (asked same kind this that) ≡ judged v this
  asked_yes Always this that own = refl
  asked_yes Never this that own = absurd (false≢true own)
  asked_yes (Kept row) this that own = node_yes row this that own

  pub asked_no : (kind : RowKind) (this that : Plan R) → judge_kind v kind ≡ false → judged v (asked same kind this that) ≡ judged v that
  asked_no Always this that own = absurd (false≢true (sym own))
  asked_no Never this that own = refl
  asked_no (Kept row) this that own = node_no row this that own

  module _ (is : IsJudge v) where
    trimmed_at : (f : Plan R → Plan R) (path : List Row) (row : Row) (this that : Plan R) (side : Option Bool)
        → settles path row ≡ side → Grants v path
        → ((way : List Row) → Grants v way → judged v (trimmed_with same f way this) ≡ judged v (f (judged v this)))
        → ((way : List Row) → Grants v way → judged v (trimmed_with same f way that) ≡ judged v (f (judged v that)))
        → judged v (on_side side (trimmed_with same f path this) (trimmed_with same f path that) (node same row (trimmed_with same f (path ++ row ∷ []) this) (trimmed_with same f (path ++ complement row ∷ []) that)))
        ≡ judged v (f (judged v (branch row this that)))
    trimmed_at f path row this that side settle grants first second = at side settle
      where
        below : (t : Plan R) → t ≡ judged v (branch row this that) → judged v (f t) ≡ judged v (f (judged v (branch row this that)))
        below t same_leaf = ap (λ t. judged v (f t)) same_leaf

        here : v row.affine ≡ true → (way : List Row) → Grants v way
            → judged v (trimmed_with same f way this) ≡ judged v (f (judged v (branch row this that)))
        here held way grants = first way grants ∙ below (judged v this) (sym (on_yes v row this that held))

        there : v row.affine ≡ false → (way : List Row) → Grants v way
            → judged v (trimmed_with same f way that) ≡ judged v (f (judged v (branch row this that)))
        there lost way grants = second way grants ∙ below (judged v that) (sym (on_no v row this that lost))

        at : (side : Option Bool) → settles path row ≡ side
            → judged v (on_side side (trimmed_with same f path this) (trimmed_with same f path that) (node same row (trimmed_with same f (path ++ row ∷ []) this) (trimmed_with same f (path ++ complement row ∷ []) that)))
            ≡ judged v (f (judged v (branch row this that)))
        at (Some true) settle = here (granted v is path row settle grants) path grants
        at (Some false) settle = there (refused v is path row settle grants) path grants
        at None settle =
            ⊎_elim
            (λ held. node_yes row _ _ held ∙ here held (path ++ row ∷ []) (grants_more v is path row grants held))
            (λ lost. node_no row _ _ lost ∙ there lost (path ++ complement row ∷ []) (grants_more v is path (complement row) grants (turned_false v is row.affine lost)))
            (true_or_not (v row.affine))

    -- a trimmed tree has, where the judge grants the path, what f gives for the tree's leaf
    pub trimmed_judged : (f : Plan R → Plan R) (path : List Row) (plan : Plan R) → Grants v path
        → judged v (trimmed_with same f path plan) ≡ judged v (f (judged v plan))
    trimmed_judged f path bottom grants = refl
    trimmed_judged f path (top cause) grants = refl
    trimmed_judged f path (leaf why rank) grants = refl
    trimmed_judged f path (branch row this that) grants =
        trimmed_at f path row this that (settles path row) refl grants (λ way grants. trimmed_judged f way this grants) (λ way grants. trimmed_judged f way that grants)

    pub cut_judged : (plan : Plan R) → judged v (trimmed same [] plan) ≡ judged v plan
    cut_judged plan = trimmed_judged (λ end. end) [] plan (grants_none v) ∙ judged_end v (judged v plan) (judged_is_end v plan)

    pub grafted_judged : (graft : List Row → Plan R → Plan R) (met : Plan R → Plan R)
        → ((path : List Row) (end : Plan R) → IsEnd end → Grants v path → judged v (graft path end) ≡ met end)
        → (path : List Row) (plan : Plan R) → Grants v path → judged v (grafted same graft path plan) ≡ met (judged v plan)
    grafted_judged graft met leaves path bottom grants = leaves path bottom tt grants
    grafted_judged graft met leaves path (top cause) grants = leaves path (top cause) tt grants
    grafted_judged graft met leaves path (leaf why rank) grants = leaves path (leaf why rank) tt grants
    grafted_judged graft met leaves path (branch row this that) grants =
        ⊎_elim
        (λ held. node_yes row _ _ held ∙ grafted_judged graft met leaves (path ++ row ∷ []) this (grants_more v is path row grants held) ∙ ap met (sym (on_yes v row this that held)))
        (λ lost. node_no row _ _ lost ∙ grafted_judged graft met leaves (path ++ complement row ∷ []) that (grants_more v is path (complement row) grants (turned_false v is row.affine lost)) ∙ ap met (sym (on_no v row this that lost)))
        (true_or_not (v row.affine))

    module _ (where_greater : R → R → Alternatives) (greater_fits : R → R → Type 0) where
      abbrev at_leaf : Join → Plan R → Plan R → Plan R
      at_leaf join first second = cond (asks_second join first) (judged v (leaf_met same where_greater greater_fits join first second)) first

      joined_at_judged : (join : Join) (b : Plan R) (path : List Row) (end : Plan R) (t : Bool) → IsEnd end → Grants v path
          → judged v (cond t (trimmed_with same (leaf_met same where_greater greater_fits join end) path b) end)
          ≡ cond t (judged v (leaf_met same where_greater greater_fits join end (judged v b))) end
      joined_at_judged join b path end true ends grants = trimmed_judged (leaf_met same where_greater greater_fits join end) path b grants
      joined_at_judged join b path end false ends grants = judged_end v end ends

      pub joined_judged : (join : Join) (a b : Plan R)
          → judged v (joined same where_greater greater_fits join a b) ≡ at_leaf join (judged v a) (judged v b)
      joined_judged join a b =
          grafted_judged (joined_at same where_greater greater_fits join b) (λ end. at_leaf join end (judged v b))
          (λ path end ends grants. joined_at_judged join b path end (asks_second join end) ends grants)
          [] a (grants_none v)

      either_defined : (first second : Plan R) → is_defined first ≡ true → at_leaf Either first second ≡ first
      either_defined first second own = rw own refl

      either_other : (first second : Plan R) → is_defined first ≡ false → is_defined second ≡ true → at_leaf Either first second ≡ second
      either_other first bottom none own = absurd (false≢true own)
      either_other first (top cause) none own = absurd (false≢true own)
      either_other first (branch row this that) none own = absurd (false≢true own)
      either_other first (leaf why rank) none own = rw none refl

      either_neither : (first second : Plan R) → IsEnd first → IsEnd second → is_defined first ≡ false → is_defined second ≡ false
          → at_leaf Either first second ≡ first
      either_neither first bottom ends end none own = rw none (judged_end v first ends)
      either_neither first (top cause) ends end none own = rw none (judged_end v first ends)
      either_neither first (leaf why rank) ends end none own = absurd (cc)
      either_neither first (branch row this that) ends end none own = absurd end

      pub either_first : (a b : Plan R) → is_defined (judged v a) ≡ true
          → judged v (joined same where_greater greater_fits Either a b) ≡ judged v a
      either_first a b own = joined_judged Either a b ∙ either_defined (judged v a) (judged v b) own

      pub either_second : (a b : Plan R) → is_defined (judged v a) ≡ false → is_defined (judged v b) ≡ true
          → judged v (joined same where_greater greater_fits Either a b) ≡ judged v b
      either_second a b none own = joined_judged Either a b ∙ either_other (judged v a) (judged v b) none own

      pub either_none : (a b : Plan R) → is_defined (judged v a) ≡ false → is_defined (judged v b) ≡ false
          → judged v (joined same where_greater greater_fits Either a b) ≡ judged v a
      either_none a b none own = joined_judged Either a b ∙ either_neither (judged v a) (judged v b) (judged_is_end v a) (judged_is_end v b) none own

      pub both_second : (a b : Plan R) → is_defined (judged v a) ≡ true
          → judged v (joined same where_greater greater_fits Both a b) ≡ judged v b
      both_second a b own = joined_judged Both a b ∙ rw own (judged_end v (judged v b) (judged_is_end v b))

      pub both_first : (a b : Plan R) → is_defined (judged v a) ≡ false
          → judged v (joined same where_greater greater_fits Both a b) ≡ judged v a
      both_first a b none = joined_judged Both a b ∙ rw none refl

    -- ---- a function put in

    -- what the judge says of functions behind the assignment
    abbrev pub behind : ℕ → Affine → Affine → Bool
    behind place by a = v (substituted a place by)

    pub assign_judged : (put : R → ℕ → Affine → R) (one_more : R → R) (place : ℕ) (by : Affine) (plan : Plan R)
        → judged v (assigned same put one_more place by plan) ≡ assigned same put one_more place by (judged (behind place by) plan)
    assign_judged put one_more place by bottom = refl
    assign_judged put one_more place by (top cause) = refl
    assign_judged put one_more place by (leaf why rank) = refl
    assign_judged put one_more place by (branch row this that) =
        let kind : RowKind = row_kind_of (substituted row.affine place by) in
        let round : v (substituted row.affine place by) ≡ judge_kind v kind = is.rounded (substituted row.affine place by) in
        ⊎_elim
        (λ held. asked_yes kind (assigned same put one_more place by this) (assigned same put one_more place by that) (sym round ∙ held)
        ∙ assign_judged put one_more place by this ∙ ap (assigned same put one_more place by) (sym (on_yes (behind place by) row this that held)))
        (λ lost. asked_no kind (assigned same put one_more place by this) (assigned same put one_more place by that) (sym round ∙ lost)
        ∙ assign_judged put one_more place by that ∙ ap (assigned same put one_more place by) (sym (on_no (behind place by) row this that lost)))
        (true_or_not (v (substituted row.affine place by)))
