-- What stands at a store where constraints are asked, and where trees are joined.
use Rattle.std.proofs.Common.{◌≡◌, ◌↔◌, ◌⊎◌, inl, inr, ℤ, Bool, true, false, cond, List, [], ◌∷◌, Option, Some, None, IsTrue, refl, sym, ap, ◌∙◌, ⊎_elim, arith}
use Rattle.std.proofs.lemmas.Bool.{false≢true}
use Rattle.linear_cons.specs.Rows.{MeetsAll, MeetsKind, complement}
use Rattle.linear_cons.specs.declared.row.Row.{Row}
use Rattle.linear_cons.specs.declared.row.RowKind.{RowKind}
use Rattle.linear_cons.specs.declared.row.RowKind.TheVariants.{Always, Never, Row as Kept}
use Rattle.linear_cons.proofs.RowLaws.{complement_met}
use Rattle.decision_tree.specs.Alternatives.{Alternatives, MeetsAny, MeetsEach, rows_of}
use Rattle.decision_tree.specs.declared.rank.Comparison.{Comparison}
use Rattle.decision_tree.specs.Evaluation.{eval}
use Rattle.decision_tree.specs.Nodes.{node}
use Rattle.decision_tree.specs.Plans.{IsEnd, Plan, bottom, branch, is_defined, leaf, top}
use Rattle.decision_tree.specs.declared.reason.Why.{Why}
use Rattle.tree_unify.specs.Choosing.{all_asked, any_asked, chosen, chosen_by, only_row, row_alone}
use Rattle.tree_unify.specs.Shapes.{asks_second, joined, joined_at, leaf_met, trimmed_with}
use Rattle.tree_unify.specs.declared.join.Join.{Join}
use Rattle.tree_unify.specs.declared.join.Join.TheVariants.{Both, Either, Later}
use Rattle.tree_unify.proofs.Meeting.{eval_end, eval_is_end, eval_met, eval_missed, grafted_eval, meets_or_not, node_eval, trimmed_eval}

kind_or_not : (store : List ℤ) (kind : RowKind) → MeetsKind store kind ⊎ (MeetsKind store kind → ⊥)
kind_or_not store Always = inl tt
kind_or_not store Never = inr (λ met. met)
kind_or_not store (Kept row) = meets_or_not row store

each_or_not : (store : List ℤ) (kinds : List RowKind) → MeetsEach store kinds ⊎ (MeetsEach store kinds → ⊥)
each_or_not store [] = inl tt
each_or_not store (kind ∷ rest) =
    ⊎_elim (λ here. ⊎_elim (λ met. inl (here, met)) (λ missed. inr (λ met. missed met.1)) (each_or_not store rest)) (λ apart. inr (λ met. apart met.0)) (kind_or_not store kind)

-- a store meets one of the alternatives or it doesn't
pub one_or_not : (store : List ℤ) (alternatives : Alternatives) → MeetsAny store alternatives ⊎ (MeetsAny store alternatives → ⊥)
one_or_not store [] = inr (λ met. met)
one_or_not store (part ∷ rest) =
    ⊎_elim (λ here. inl (inl here)) (λ apart.
    ⊎_elim (λ same. ⊎_elim (λ met. inl (inr (same, met))) (λ missed. inr (λ met. ⊎_elim apart (λ later. missed later.1) met)) (one_or_not store rest))
    (λ differs. inr (λ met. ⊎_elim apart (λ later. differs later.0) met)) (each_or_not store (rows_of part.same))) (kind_or_not store part.more)

alone : (kind : RowKind) (row : Row) → row_alone kind ≡ Some row → kind ≡ Kept row
alone Always row is = absurd (cc)
alone Never row is = absurd (cc)
alone (Kept held) row is = cc

-- a part that is a row alone is met where the row is
only : (alternatives : Alternatives) (row : Row) → only_row alternatives ≡ Some row → (part : Comparison) × (alternatives ≡ part ∷ []) × (part.more ≡ Kept row)
only [] row is = absurd (cc)
only (part ∷ []) row is = (part, refl, alone part.more row is)
only (part ∷ other ∷ rest) row is = absurd (cc)

module _ {R : Type 0} (same : R → R → Bool) (alike : (rank other : R) → IsTrue (same rank other) ↔ (rank ≡ other)) where
  all_met : (store : List ℤ) (kinds : List RowKind) (this that : Plan R) → MeetsEach store kinds
      → eval (all_asked same kinds this that) store ≡ eval this store
  all_met store [] this that met = refl
  all_met store (Always ∷ rest) this that met = all_met store rest this that met.1
  all_met store (Never ∷ rest) this that met = absurd met.0
  all_met store (Kept row ∷ rest) this that met =
      node_eval same alike row (all_asked same rest this that) that store
      ∙ eval_met row (all_asked same rest this that) that store met.0 ∙ all_met store rest this that met.1

  all_missed : (store : List ℤ) (kinds : List RowKind) (this that : Plan R) → (MeetsEach store kinds → ⊥)
      → eval (all_asked same kinds this that) store ≡ eval that store
  all_missed store [] this that missed = absurd (missed tt)
  all_missed store (Always ∷ rest) this that missed = all_missed store rest this that (λ met. missed (tt, met))
  all_missed store (Never ∷ rest) this that missed = refl
  all_missed store (Kept row ∷ rest) this that missed =
      node_eval same alike row (all_asked same rest this that) that store ∙ ⊎_elim
      (λ here. eval_met row (all_asked same rest this that) that store here ∙ all_missed store rest this that (λ met. missed (here, met)))
      (λ apart. eval_missed row (all_asked same rest this that) that store apart)
      (meets_or_not row store)

  -- what is asked behind a part
  abbrev behind : Comparison → Alternatives → Plan R → Plan R → Plan R
  behind part rest this that = all_asked same (rows_of part.same) (any_asked same rest this that) that

  any_met : (store : List ℤ) (alternatives : Alternatives) (this that : Plan R) → MeetsAny store alternatives
      → eval (any_asked same alternatives this that) store ≡ eval this store
  any_met store [] this that met = absurd met
  any_met store (part ∷ rest) this that met =
      ⊎_elim
      (λ here. all_met store (part.more ∷ []) this (behind part rest this that) (here, tt))
      (λ apart. all_missed store (part.more ∷ []) this (behind part rest this that) (λ met. apart met.0)
      ∙ (let later = ⊎_elim (λ here. absurd (apart here)) (λ (later : MeetsEach store (rows_of part.same) × MeetsAny store rest). later) met in
      all_met store (rows_of part.same) (any_asked same rest this that) that later.0 ∙ any_met store rest this that later.1))
      (kind_or_not store part.more)

  any_missed : (store : List ℤ) (alternatives : Alternatives) (this that : Plan R) → (MeetsAny store alternatives → ⊥)
      → eval (any_asked same alternatives this that) store ≡ eval that store
  any_missed store [] this that missed = refl
  any_missed store (part ∷ rest) this that missed =
      all_missed store (part.more ∷ []) this (behind part rest this that) (λ met. missed (inl met.0))
      ∙ ⊎_elim
      (λ here. all_met store (rows_of part.same) (any_asked same rest this that) that here ∙ any_missed store rest this that (λ met. missed (inr (here, met))))
      (λ apart. all_missed store (rows_of part.same) (any_asked same rest this that) that apart)
      (each_or_not store (rows_of part.same))

  -- to ask a row's complement with the sides changed is to ask the row
  turned : (row : Row) (this that : Plan R) (store : List ℤ)
      → eval (node same (complement row) that this) store ≡ eval (node same row this that) store
  turned row this that store =
      node_eval same alike (complement row) that this store ∙ ⊎_elim
      (λ met. eval_missed (complement row) that this store (λ opposite. (complement_met row.affine store).0 opposite met) ∙ sym (eval_met row this that store met))
      (λ missed. eval_met (complement row) that this store ((complement_met row.affine store).1 missed) ∙ sym (eval_missed row this that store missed))
      (meets_or_not row store)
      ∙ sym (node_eval same alike row this that store)

  -- whatever is asked, where both ways lead to the same tree that is the answer
  either_way : (kinds : List RowKind) (tree : Plan R) (store : List ℤ) → eval (all_asked same kinds tree tree) store ≡ eval tree store
  either_way kinds tree store = ⊎_elim (λ met. all_met store kinds tree tree met) (λ missed. all_missed store kinds tree tree missed) (each_or_not store kinds)

  -- of one part that is a row the answer is that of its row
  one_asked : (part : Comparison) (row : Row) (greater other : Plan R) (store : List ℤ) → part.more ≡ Kept row
      → eval (any_asked same (part ∷ []) greater other) store ≡ eval (node same row greater other) store
  one_asked part row greater other store is =
      ap (λ (kind : RowKind). eval (all_asked same (kind ∷ []) greater (all_asked same (rows_of part.same) other other)) store) is
      ∙ node_eval same alike row greater (all_asked same (rows_of part.same) other other) store
      ∙ ⊎_elim
      (λ met. eval_met row greater (all_asked same (rows_of part.same) other other) store met ∙ sym (eval_met row greater other store met))
      (λ missed. eval_missed row greater (all_asked same (rows_of part.same) other other) store missed ∙ either_way (rows_of part.same) other store
      ∙ sym (eval_missed row greater other store missed))
      (meets_or_not row store)
      ∙ sym (node_eval same alike row greater other store)

  chosen_as_asked : (alternatives : Alternatives) (greater other : Plan R) (store : List ℤ) (t : Option Row) → only_row alternatives ≡ t
      → eval (chosen_by same t alternatives greater other) store ≡ eval (any_asked same alternatives greater other) store
  chosen_as_asked alternatives greater other store None is = refl
  chosen_as_asked alternatives greater other store (Some row) is =
      let found = only alternatives row is in
      turned row greater other store ∙ sym (one_asked found.0 row greater other store found.2)
      ∙ sym (ap (λ (t : Alternatives). eval (any_asked same t greater other) store) found.1)

  pub chosen_met : (store : List ℤ) (alternatives : Alternatives) (greater other : Plan R) → MeetsAny store alternatives
      → eval (chosen same alternatives greater other) store ≡ eval greater store
  chosen_met store alternatives greater other met = chosen_as_asked alternatives greater other store (only_row alternatives) refl ∙ any_met store alternatives greater other met

  pub chosen_missed : (store : List ℤ) (alternatives : Alternatives) (greater other : Plan R) → (MeetsAny store alternatives → ⊥)
      → eval (chosen same alternatives greater other) store ≡ eval other store
  chosen_missed store alternatives greater other missed = chosen_as_asked alternatives greater other store (only_row alternatives) refl ∙ any_missed store alternatives greater other missed

  -- a tree trimmed by a path has its own leaves there
  pub trimmed_leaf : (path : List Row) (plan : Plan R) (store : List ℤ) → MeetsAll store path
      → eval (trimmed_with same (λ end. end) path plan) store ≡ eval plan store
  trimmed_leaf path plan store all = trimmed_eval same alike (λ end. end) path plan store all ∙ eval_end (eval plan store) store (eval_is_end plan store)

  module _ (where_greater : R → R → Alternatives) (greater_fits : R → R → Type 0) where
    -- what stands where the first tree's leaf meets the second's
    abbrev at_leaf : Join → List ℤ → Plan R → Plan R → Plan R
    at_leaf join store first second = cond (asks_second join first) (eval (leaf_met same where_greater greater_fits join first second) store) first

    joined_at_eval : (join : Join) (b : Plan R) (store : List ℤ) (path : List Row) (end : Plan R) (t : Bool) → IsEnd end → MeetsAll store path
        → eval (cond t (trimmed_with same (leaf_met same where_greater greater_fits join end) path b) end) store
        ≡ cond t (eval (leaf_met same where_greater greater_fits join end (eval b store)) store) end
    joined_at_eval join b store path end true ends all = trimmed_eval same alike (leaf_met same where_greater greater_fits join end) path b store all
    joined_at_eval join b store path end false ends all = eval_end end store ends

    joined_eval : (join : Join) (a b : Plan R) (store : List ℤ)
        → eval (joined same where_greater greater_fits join a b) store ≡ at_leaf join store (eval a store) (eval b store)
    joined_eval join a b store =
        grafted_eval same alike (joined_at same where_greater greater_fits join b) (λ end. at_leaf join store end (eval b store)) store
        (λ path end ends all. joined_at_eval join b store path end (asks_second join end) ends all)
        [] a (λ k d h. absurd (omega arith))

    either_defined : (store : List ℤ) (first second : Plan R) → is_defined first ≡ true → at_leaf Either store first second ≡ first
    either_defined store first second is = rw is refl

    either_other : (store : List ℤ) (first second : Plan R) → is_defined first ≡ false → is_defined second ≡ true
        → at_leaf Either store first second ≡ second
    either_other store first bottom none is = absurd (false≢true is)
    either_other store first (top cause) none is = absurd (false≢true is)
    either_other store first (branch row this that) none is = absurd (false≢true is)
    either_other store first (leaf why rank) none is = rw none refl

    either_neither : (store : List ℤ) (first second : Plan R) → IsEnd first → IsEnd second → is_defined first ≡ false → is_defined second ≡ false
        → at_leaf Either store first second ≡ first
    either_neither store first bottom ends end none is = rw none (eval_end first store ends)
    either_neither store first (top cause) ends end none is = rw none (eval_end first store ends)
    either_neither store first (leaf why rank) ends end none is = absurd (cc)
    either_neither store first (branch row this that) ends end none is = absurd end

    pub either_first : (a b : Plan R) (store : List ℤ) → is_defined (eval a store) ≡ true
        → eval (joined same where_greater greater_fits Either a b) store ≡ eval a store
    either_first a b store is = joined_eval Either a b store ∙ either_defined store (eval a store) (eval b store) is

    pub either_second : (a b : Plan R) (store : List ℤ) → is_defined (eval a store) ≡ false → is_defined (eval b store) ≡ true
        → eval (joined same where_greater greater_fits Either a b) store ≡ eval b store
    either_second a b store none is = joined_eval Either a b store ∙ either_other store (eval a store) (eval b store) none is

    pub either_none : (a b : Plan R) (store : List ℤ) → is_defined (eval a store) ≡ false → is_defined (eval b store) ≡ false
        → eval (joined same where_greater greater_fits Either a b) store ≡ eval a store
    either_none a b store none is = joined_eval Either a b store ∙ either_neither store (eval a store) (eval b store) (eval_is_end a store) (eval_is_end b store) none is

    pub both_second : (a b : Plan R) (store : List ℤ) → is_defined (eval a store) ≡ true
        → eval (joined same where_greater greater_fits Both a b) store ≡ eval b store
    both_second a b store is = joined_eval Both a b store ∙ rw is (eval_end (eval b store) store (eval_is_end b store))

    pub both_first : (a b : Plan R) (store : List ℤ) → is_defined (eval a store) ≡ false
        → eval (joined same where_greater greater_fits Both a b) store ≡ eval a store
    both_first a b store none = joined_eval Both a b store ∙ rw none refl

    pub later_second : (a b : Plan R) (store : List ℤ) (why other : Why) (rank next : R) → eval a store ≡ leaf why rank
        → eval b store ≡ leaf other next
        → MeetsAny store (where_greater next rank) → eval (joined same where_greater greater_fits Later a b) store ≡ leaf other next
    later_second a b store why other rank next first second met =
        joined_eval Later a b store ∙ rw (first, second) (chosen_met store (where_greater next rank) (leaf other next) (leaf why rank) met)

    pub later_first : (a b : Plan R) (store : List ℤ) (why other : Why) (rank next : R) → eval a store ≡ leaf why rank
        → eval b store ≡ leaf other next
        → (MeetsAny store (where_greater next rank) → ⊥) → eval (joined same where_greater greater_fits Later a b) store ≡ leaf why rank
    later_first a b store why other rank next first second missed =
        joined_eval Later a b store ∙ rw (first, second) (chosen_missed store (where_greater next rank) (leaf other next) (leaf why rank) missed)

    pub later_none : (a b : Plan R) (store : List ℤ) → is_defined (eval a store) ≡ false
        → eval (joined same where_greater greater_fits Later a b) store ≡ eval a store
    later_none a b store none = joined_eval Later a b store ∙ rw none refl

    undefined_met : (store : List ℤ) (first second : Plan R) → IsEnd second → is_defined first ≡ true → is_defined second ≡ false
        → at_leaf Later store first second ≡ second
    undefined_met store bottom second end is none = absurd (false≢true is)
    undefined_met store (top cause) second end is none = absurd (false≢true is)
    undefined_met store (branch row this that) second end is none = absurd (false≢true is)
    undefined_met store (leaf why rank) bottom end is none = refl
    undefined_met store (leaf why rank) (top cause) end is none = refl
    undefined_met store (leaf why rank) (leaf other next) end is none = absurd (cc)
    undefined_met store (leaf why rank) (branch row this that) end is none = absurd end

    pub later_undefined : (a b : Plan R) (store : List ℤ) → is_defined (eval a store) ≡ true → is_defined (eval b store) ≡ false
        → eval (joined same where_greater greater_fits Later a b) store ≡ eval b store
    later_undefined a b store is none = joined_eval Later a b store ∙ undefined_met store (eval a store) (eval b store) (eval_is_end b store) is none
