-- Place 15, of which no program has a variable: whatever number stands there, outcomes are the same, and edges lead to the store with it.
use Rattle.std.proofs.Common.{ℕ, ◌≤◌, ℤ, pos, inl, inr, Bool, slice_set, get_or-set_other, sym, ap, ◌∙◌, arith}
use Rattle.std.proofs.lemmas.List.{set_comm}
use Rattle.step_meaning.specs.Naming.{NamesBelow}
use Rattle.step_meaning.specs.Outcome.{May, MayTest, Store}
use Rattle.step_meaning.specs.Syntax.{Expression, free, negation, negative, number, pair, divided, range, truth, variable}
use Rattle.linear_forms.proofs.Naming.{number_names, test_names}
use Rattle.control_flow.specs.Actions.{IsSorted}
use Rattle.control_flow.specs.declared.edge.EdgeKind.{EdgeKind}
use Rattle.control_flow.specs.declared.edge.EdgeKind.TheVariants.{Assign, Skip, Test}
use Rattle.control_flow.specs.Edges.{Leads}
use Rattle.control_flow.specs.Labels.{Action, assigns, passes, tests}

module _ (store : Store) (z : ℤ) where
  may_spared : (e : Expression) → NamesBelow 15 e → (v : ℤ) → May e store v → May e (slice_set store 15 z) v
  may_spared (number n) named v may = may
  may_spared (variable x) named v may = may ∙ sym (get_or-set_other store 15 x z (pos 0) (λ is. omega (arith, named, is)))
  may_spared free named v may = tt
  may_spared (range lo hi) named v may = may
  may_spared (truth b) named v may = absurd may
  may_spared (negative e) named v may = (may.0, may_spared e named may.0 may.1, may.2)
  may_spared (negation c) named v may = absurd may
  may_spared (pair op l r) named v may = (may.0, may.1, may_spared l named.0 may.0 may.2, may_spared r named.1 may.1 may.3, may.4)
  may_spared (divided division e b) named v may = (may.0, may.1, may_spared e named may.0 may.2, may.3, may.4)

  pub test_spared : (c : Expression) → NamesBelow 15 c → (t : Bool) → MayTest c store t → MayTest c (slice_set store 15 z) t
  test_spared (number n) named t may = absurd may
  test_spared (variable x) named t may = absurd may
  test_spared free named t may = tt
  test_spared (range lo hi) named t may = absurd may
  test_spared (truth b) named t may = may
  test_spared (negative e) named t may = absurd may
  test_spared (negation c) named t may = (may.0, test_spared c named may.0 may.1, may.2)
  test_spared (divided division e b) named t may = absurd may
  test_spared (pair op l r) named t (inl both) =
      inl (both.0, both.1, may_spared l named.0 both.0 both.2, may_spared r named.1 both.1 both.3, both.4)
  test_spared (pair op l r) named t (inr both) =
      inr (both.0, both.1, test_spared l named.0 both.0 both.2, test_spared r named.1 both.1 both.3, both.4)

  pub leads_spared : (vars : ℕ) → vars ≤ 15 → (action : Action) → IsSorted vars action → (kind : EdgeKind) (next : Store)
      → Leads action kind store next → Leads action kind (slice_set store 15 z) (slice_set next 15 z)
  leads_spared vars few (assigns x e to) sorted Assign next leads = (
    leads.0,
    may_spared e (number_names vars 15 few e sorted.1) leads.0 leads.1,
    ap (λ (s : Store). slice_set s 15 z) leads.2 ∙ set_comm store x 15 leads.0 z (λ is. let low = sorted.0 in omega (arith, few, is, low)),
  )
  leads_spared vars few (passes to) sorted Skip next leads = ap (λ (s : Store). slice_set s 15 z) leads
  leads_spared vars few (tests head c to other) sorted (Test outcome) next leads =
      (test_spared c (test_names vars 15 few c sorted) outcome leads.0, ap (λ (s : Store). slice_set s 15 z) leads.1)
  leads_spared vars few action sorted kind next leads = absurd leads
