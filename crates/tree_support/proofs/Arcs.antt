-- The successors of a state that is reached are reached over the arcs of its label.
use Rattle.std.proofs.Common.{◌≡◌, ℕ, zero, suc, ◌<◌, ◌≤◌, ℤ, pos, ◌-ℤ◌, ◌≤ℤ◌, inl, inr, Bool, true, false, cond, List, [], ◌∷◌, Option, None, Some, length, set, refl, sym, subst, ap, ◌∙◌, arith}
use Rattle.std.proofs.lemmas.Int.{ints}
use Rattle.std.proofs.lemmas.List.{get_or-set_other, get_or-set_same, set-get_or, set-set, set_comm}
use Rattle.std.proofs.lemmas.List.Elements.{All-append, All-cons, Contains-append_left, Contains-append_right}
use Rattle.step_meaning.specs.Syntax.{Expression, Statements, free, negation, negative, number, pair, divided, range, truth, variable}
use Rattle.step_meaning.specs.Outcome.{Store, May}
use Rattle.step_meaning.specs.Step.{Configuration, IsFinal, Next, front}
use Rattle.step_meaning.specs.Naming.{IsUnnamed, NamesBelow}
use Rattle.step_meaning.specs.Valid.{IsBody, IsNumber}
use Rattle.linear_cons.specs.declared.affine.Affine.{Affine}
use Rattle.linear_cons.specs.declared.bounds.Bounds.{Bounds}
use Rattle.linear_cons.specs.declared.bounds.Linear.{Linear}
use Rattle.linear_cons.specs.declared.row.Row.{Row}
use Rattle.linear_cons.specs.Bounds.{Covers, IsFrom, IsUpTo, LiesIn}
use Rattle.linear_cons.specs.Functions.{coefficient, constant_of, sum_of, value_at, variable_at}
use Rattle.linear_cons.specs.Numbers.{number_at}
use Rattle.linear_cons.proofs.Forms.{form_unmentioned, value_constant, value_difference, value_sum, value_variable}
use Rattle.linear_forms.specs.Linearising.{is_exact, linear_of}
use Rattle.linear_forms.specs.Meeting.{MeetsEach, MeetsOne}
use Rattle.linear_forms.specs.Spreading.{spread_of}
use Rattle.linear_forms.proofs.Covering.{exact_value, linear_covers}
use Rattle.linear_forms.proofs.Exactness.{only_named}
use Rattle.linear_forms.proofs.Naming.{number_names, test_names}
use Rattle.linear_forms.proofs.SpreadCovering.{spread_covers}
use Rattle.quotient_cases.specs.Cases.{value_rows}
use Rattle.quotient_cases.proofs.Covering.{values_cover}
use Rattle.control_flow.specs.Actions.{IsSorted}
use Rattle.control_flow.specs.Edges.{SomeEdge, configuration, edges_from}
use Rattle.control_flow.specs.Edges.{Leads}
use Rattle.control_flow.specs.Labels.{Action, ends, assigns, passes, tests, action_at, all_labels, rest}
use Rattle.control_flow.proofs.LabelLaws.{labels_are_sorted, only_end_is_final}
use Rattle.control_flow.proofs.Taken.{each_successor}
use Rattle.control_flow.specs.States.{IsReachedState, followed}
use Rattle.control_flow.proofs.Reached.{Follows, reached_label, reached_places}
use Rattle.tree_support.specs.Arcs.{Arc, above_end, arcs_by, assigning, below_end, choosing, choosing_each, flow_of, passing, putting, rows_given, testing}
use Rattle.constraint_stack.specs.Forming.{exact, given}
use Rattle.control_flow.specs.Told.{IsTrueOfReached, Told}
use Rattle.tree_support.proofs.Lists.{all_none, all_one, contains_first, contains_later}
use Rattle.tree_support.proofs.Moving.{LeadsOver, SetsVariable, StoreMeets, Taken, store_after}

-- ---- stores

-- a store whose own number is put at place 15
pub same_store : (store : Store) → set store 15 (number_at store 15) ≡ store
same_store store = set-get_or store 15 (pos 0)

-- a number is put at place 15, another at a variable's place, and place 15 gets its old number again
pub put_back : (store : Store) (x : ℕ) (v c : ℤ) → x < 15 → set (set (set store 15 c) x v) 15 (number_at store 15) ≡ set store x v
put_back store x v c low =
    set_comm (set store 15 c) x 15 v (number_at store 15) (λ e. omega arith)
    ∙ ap (λ s. set s x v) (set-set store 15 c (number_at store 15) ∙ same_store store)

left_alone : (store : Store) → set (set store 15 (number_at store 15)) 15 (number_at store 15) ≡ store
left_alone store = set-set store 15 (number_at store 15) (number_at store 15) ∙ same_store store

-- ---- the rows of a conjunction

rows_met : (store : Store) (rows : List Row) → MeetsEach store rows → StoreMeets store (rows_given rows)
rows_met store [] met = all_none (λ a. pos 0 ≤ℤ value_at (exact a) store)
rows_met store (row ∷ rows) met =
    All-cons (λ a. pos 0 ≤ℤ value_at (exact a) store) (given row.affine) (rows_given rows) met.0 (rows_met store rows met.1)

-- ---- what an inexact assignment asks

module _ (store : Store) (a : Affine) (v : ℤ) (long : length store ≡ 16) (unnamed : coefficient a 15 ≡ pos 0) where
  number_put : value_at (variable_at 15) (set store 15 v) ≡ v
  number_put = value_variable 15 (set store 15 v) (omega arith) ∙ get_or-set_same store 15 v (pos 0) (omega arith)

  value_put : value_at a (set store 15 v) ≡ value_at a store
  value_put = form_unmentioned a 15 store (pos 1) v (omega arith) unnamed

  above_met : (lo : Option ℤ) → IsFrom lo (v -ℤ value_at a store) → StoreMeets (set store 15 v) (above_end a lo)
  above_met None from = all_none (λ b. pos 0 ≤ℤ value_at (exact b) (set store 15 v))
  above_met (Some lo) from =
      let difference = value_difference (variable_at 15) (sum_of a (constant_of lo)) (set store 15 v) in
      let sum = value_sum a (constant_of lo) (set store 15 v) in
      let end = value_constant lo (set store 15 v) in
      let number = number_put in
      let value = value_put in
      all_one (λ b. pos 0 ≤ℤ value_at (exact b) (set store 15 v)) _ (omega (arith, ints))

  below_met : (hi : Option ℤ) → IsUpTo hi (v -ℤ value_at a store) → StoreMeets (set store 15 v) (below_end a hi)
  below_met None upto = all_none (λ b. pos 0 ≤ℤ value_at (exact b) (set store 15 v))
  below_met (Some hi) upto =
      let difference = value_difference (sum_of a (constant_of hi)) (variable_at 15) (set store 15 v) in
      let sum = value_sum a (constant_of hi) (set store 15 v) in
      let end = value_constant hi (set store 15 v) in
      let number = number_put in
      let value = value_put in
      all_one (λ b. pos 0 ≤ℤ value_at (exact b) (set store 15 v)) _ (omega (arith, ints))

names_free : (e : Expression) → NamesBelow 15 e → IsUnnamed 15 e
names_free (number z) named = tt
names_free (variable x) named = λ is. omega arith
names_free free named = tt
names_free (range lo hi) named = tt
names_free (truth b) named = tt
names_free (negative e) named = names_free e named
names_free (negation c) named = names_free c named
names_free (pair op l r) named = (names_free l named.0, names_free r named.1)
names_free (divided division e b) named = names_free e named

-- a value that an expression may have doesn't hang on a place that it doesn't name
may_apart : (e : Expression) → NamesBelow 15 e → (store : Store) (z v : ℤ) → May e store v → May e (set store 15 z) v
may_apart (number n) named store z v may = may
may_apart (variable x) named store z v may = may ∙ sym (get_or-set_other store 15 x z (pos 0) (omega arith))
may_apart free named store z v may = may
may_apart (range lo hi) named store z v may = may
may_apart (truth b) named store z v may = absurd may
may_apart (negation c) named store z v may = absurd may
may_apart (negative e) named store z v may = (may.0, may_apart e named store z may.0 may.1, may.2)
may_apart (divided division e b) named store z v may = (may.0, may.1, may_apart e named store z may.0 may.2, may.3, may.4)
may_apart (pair op l r) named store z v may =
    (may.0, may.1, may_apart l named.0 store z may.0 may.2, may_apart r named.1 store z may.1 may.3, may.4)

-- ---- a label at which this is done

module _ (vars : ℕ) (few : vars ≤ 15) (body : Statements) (bounds : Bounds) (store : Store) (next : Configuration)
    (long : length store ≡ 16) (inside : LiesIn bounds store) (inside_with : (z : ℤ) → LiesIn bounds (set store 15 z)) where
  -- an arc that sets nothing leads on where the store meets what it asks
  unset : (arc : Arc) → arc.sets ≡ None → StoreMeets store arc.asks → next.store ≡ store → front next.todo ≡ front (rest body arc.target)
      → IsReachedState vars body arc.target next.store → LeadsOver vars body arc store next
  unset arc none asked same ahead reached = record {
    chosen = number_at store 15;
    variable = subst SetsVariable (sym none) tt;
    asked = subst (λ s. StoreMeets s arc.asks) (sym (same_store store)) asked;
    after = same
        ∙ subst (λ sets. store ≡ set (store_after sets (set store 15 (number_at store 15))) 15 (number_at store 15)) (sym none)
        (sym (left_alone store));
    same_front = ahead;
    reached = reached;
  }

  module _ (x : ℕ) (e : Expression) (to : ℕ) (low : x < vars) (sort : IsNumber vars e) (v : ℤ) (may : May e store v) (is : next.store ≡ set store x v)
      (ahead : front next.todo ≡ front (rest body to)) (reached : IsReachedState vars body to next.store) where
    abbrev form : Linear
    form = linear_of bounds e

    covers : Covers form store v
    covers = linear_covers bounds store inside e (number_names vars 16 (omega arith) e sort) v may

    -- the value of a function is put
    put : is_exact form ≡ true → LeadsOver vars body (putting x to form.affine) store next
    put exact_form =
        let value : v ≡ value_at form.affine store = exact_value form store v exact_form covers in
        let same : value_at form.affine (set store 15 (number_at store 15)) ≡ v = ap (value_at form.affine) (same_store store) ∙ sym value in record {
          chosen = number_at store 15;
          variable = omega arith;
          asked = all_none (λ a. pos 0 ≤ℤ value_at (exact a) (set store 15 (number_at store 15)));
          after = is ∙ sym (ap (λ z. set (set (set store 15 (number_at store 15)) x z) 15 (number_at store 15)) same
              ∙ put_back store x v (number_at store 15) (omega arith));
          same_front = ahead;
          reached = reached;
        }

    -- a value is chosen, which meets with the store the rows of a case
    chosen : (rows : List Row) → MeetsEach (set store 15 v) rows → LeadsOver vars body (choosing x to form rows) store next
    chosen rows met =
        let unnamed : coefficient form.affine 15 ≡ pos 0 = only_named 15 (omega arith) bounds e (names_free e (number_names vars 15 few e sort)) in record {
          chosen = v;
          variable = omega arith;
          asked = All-append (λ a. pos 0 ≤ℤ value_at (exact a) (set store 15 v)) _ _
              (above_met store form.affine v long unnamed form.lo covers.lower)
              (All-append (λ a. pos 0 ≤ℤ value_at (exact a) (set store 15 v)) _ _
              (below_met store form.affine v long unnamed form.hi covers.upper) (rows_met (set store 15 v) rows met));
          after = is ∙ sym (ap (λ z. set (set (set store 15 v) x z) 15 (number_at store 15)) (number_put store form.affine v long unnamed)
              ∙ put_back store x v v (omega arith));
          same_front = ahead;
          reached = reached;
        }

    chosen_each : (cases : List (List Row)) → MeetsOne (set store 15 v) cases → Taken vars body (choosing_each x to form cases) store next
    chosen_each [] met = absurd met
    chosen_each (rows ∷ more) (inl met) =
        let arc : Arc = choosing x to form rows in (arc, contains_first arc (choosing_each x to form more), chosen rows met)
    chosen_each (rows ∷ more) (inr met) =
        let arc : Arc = choosing x to form rows in
        let behind = chosen_each more met in
        (behind.0, contains_later arc behind.0 (choosing_each x to form more) behind.1, behind.2)

    assigned : Taken vars body (assigning x to form (value_rows bounds 15 e)) store next
    assigned = by_form (is_exact form) refl where
      by_form : (t : Bool) → is_exact form ≡ t → Taken vars body (cond t (putting x to form.affine ∷ []) (choosing_each x to form (value_rows bounds 15 e))) store next
      by_form true exact_form = let arc : Arc = putting x to form.affine in (arc, contains_first arc [], put exact_form)
      by_form false exact_form =
          chosen_each (value_rows bounds 15 e)
          (values_cover bounds (set store 15 v) (inside_with v) e (number_names vars 16 (omega arith) e sort) 15 (omega arith) v
          (may_apart e (number_names vars 15 few e sort) store v v may) (get_or-set_same store 15 v (pos 0) (omega arith)))

  -- over an arc of a test's outcome, of which the store meets a conjunction
  pub tested : (edge to : ℕ) (conjunctions : List (List Row)) → MeetsOne store conjunctions → next.store ≡ store
      → front next.todo ≡ front (rest body to) → IsReachedState vars body to next.store → Taken vars body (testing edge to conjunctions) store next
  tested edge to [] met same ahead reached = absurd met
  tested edge to (rows ∷ more) (inl met) same ahead reached =
      let arc : Arc = record { edge = edge; target = to; asks = rows_given rows; sets = None } in
      (arc, contains_first arc (testing edge to more), unset arc refl (rows_met store rows met) same ahead reached)
  tested edge to (rows ∷ more) (inr met) same ahead reached =
      let arc : Arc = record { edge = edge; target = to; asks = rows_given rows; sets = None } in
      let behind = tested edge to more met same ahead reached in
      (behind.0, contains_later arc behind.0 (testing edge to more) behind.1, behind.2)

  -- over an edge of the label
  over_edge : (label : ℕ) (action : Action) → IsSorted vars action
      → ((target : ℕ) → Follows label action store target next.store → IsReachedState vars body target next.store)
      → SomeEdge (λ edge. Leads action edge.kind store next.store × (front next.todo ≡ front (rest body edge.to))) (edges_from label action)
      → Taken vars body (arcs_by bounds action) store next
  over_edge label ends sorted reach edge = absurd edge
  over_edge label (assigns x e to) sorted reach (inl edge) =
      assigned x e to sorted.0 sorted.1 edge.0.0 edge.0.1 edge.0.2 edge.1 (reach to (inl (edge.0, refl)))
  over_edge label (assigns x e to) sorted reach (inr none) = absurd none
  over_edge label (passes to) sorted reach (inl edge) =
      let arc : Arc = passing to in
      (arc, contains_first arc [], unset arc refl (all_none (λ a. pos 0 ≤ℤ value_at (exact a) store)) edge.0 edge.1 (reach to (inl (edge.0, refl))))
  over_edge label (passes to) sorted reach (inr none) = absurd none
  over_edge label (tests head c to other) sorted reach (inl edge) =
      let yes_arcs = testing 0 to (spread_of bounds c true) in
      let no_arcs = testing 1 other (spread_of bounds c false) in
      let met = spread_covers bounds store inside c (test_names vars 16 (omega arith) c sorted) true edge.0.0 in
      let taken = tested 0 to (spread_of bounds c true) met edge.0.1 edge.1 (reach to (inl (edge.0, refl))) in
      (taken.0, Contains-append_left yes_arcs no_arcs taken.0 taken.1, taken.2)
  over_edge label (tests head c to other) sorted reach (inr (inl edge)) =
      let yes_arcs = testing 0 to (spread_of bounds c true) in
      let no_arcs = testing 1 other (spread_of bounds c false) in
      let met = spread_covers bounds store inside c (test_names vars 16 (omega arith) c sorted) false edge.0.0 in
      let taken = tested 1 other (spread_of bounds c false) met edge.0.1 edge.1 (reach other (inr (inl (edge.0, refl)))) in
      (taken.0, Contains-append_right yes_arcs no_arcs taken.0 taken.1, taken.2)
  over_edge label (tests head c to other) sorted reach (inr (inr none)) = absurd none

-- ---- all labels

module _ (vars : ℕ) (few : vars ≤ 15) (body : Statements) (valid : IsBody vars body) (told : Told) (is_true : IsTrueOfReached vars body told) where
  -- the bounds hold of the store itself
  pub lies : (label : ℕ) (store : Store) → IsReachedState vars body label store → LiesIn (told.bounds label) store
  lies label store reached = subst (LiesIn (told.bounds label)) (same_store store) (is_true.bounds label store (number_at store 15) reached)

  -- a final configuration is one of label 0, and stays
  stays : (label : ℕ) (store : Store) (next : Configuration) → IsReachedState vars body label store → label ≡ 0
      → next ≡ configuration body label store → Taken vars body ((flow_of body told.bounds).arcs label) store next
  stays zero store next reached last same =
      let arc : Arc = passing 0 in (
        arc,
        contains_first arc [],
        unset vars few body (told.bounds 0) store next (reached_places vars body 0 store reached) (lies 0 store reached)
            (λ z. is_true.bounds 0 store z reached) arc refl
            (all_none (λ a. pos 0 ≤ℤ value_at (exact a) store)) (ap (λ (c : Configuration). c.store) same)
            (ap (λ (c : Configuration). front c.todo) same)
            (subst (IsReachedState vars body 0) (sym (ap (λ (c : Configuration). c.store) same)) reached),
      )
  stays (suc label) store next reached last same = absurd (omega arith)

  pub over_arcs : (label : ℕ) (store : Store) → IsReachedState vars body label store → (next : Configuration)
      → Next (configuration body label store) next → Taken vars body ((flow_of body told.bounds).arcs label) store next
  over_arcs label store reached next step =
      let low : label < length (all_labels body) = reached_label vars body label store reached in
      elim (each_successor body label low store next step) [
        | inl edge ↦ over_edge vars few body (told.bounds label) store next (reached_places vars body label store reached) (lies label store reached)
            (λ z. is_true.bounds label store z reached) label (action_at body label) (labels_are_sorted vars body valid label low)
            (λ target leads. followed label target store next.store reached leads) edge
        | inr stay ↦ stays label store next reached stay.0 stay.1
      ]

  pub busy : (label : ℕ) (store : Store) → IsReachedState vars body (suc label) store → ¬ IsFinal (configuration body (suc label) store)
  busy label store reached final =
      let none = only_end_is_final body (suc label) (reached_label vars body (suc label) store reached) final in
      absurd (omega arith)
