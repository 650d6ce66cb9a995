-- The edges that lead to a label, taken down one after the other.
use Rattle.std.proofs.Common.{◌≡◌, ◌≢◌, ℕ, zero, suc, ◌+◌, ◌<◌, ◌≤◌, inl, inr, ◌⊎◌, ⊎_elim, true, false, List, [], ◌∷◌, ◌++◌, length, slice_index_or, Option, Some, get_or-set_other, get_or-set_same, length-set, length-append, refl, sym, ap, subst, ◌∙◌, arith, unwrap_or}
use Rattle.std.proofs.lemmas.Bool.{cases_eq, cases_lt}
use Rattle.std.proofs.lemmas.Option.{slice_get_past, unwrap_or-slice_get}
use Rattle.step_meaning.specs.Syntax.{Statements}
use Rattle.control_flow.specs.declared.edge.Edge.{Edge}
use Rattle.control_flow.specs.declared.edge.EdgeKind.{EdgeKind}
use Rattle.control_flow.specs.declared.edge.EdgeKind.TheVariants.{Assign, Skip, Test}
use Rattle.control_flow.specs.Actions.{LeadsBelow}
use Rattle.control_flow.specs.Edges.{SomeEdge, edges_from}
use Rattle.control_flow.specs.Labels.{Action, Label, ends, assigns, passes, tests, action_at, all_labels, end}
use Rattle.forward_inv.specs.declared.behind.Entering.{Entering}
use Rattle.forward_inv.specs.declared.behind.Entering.TheVariants.{NoEdge, OneEdge, Several}
use Rattle.forward_inv.specs.Behind.{AreEntering, AreUnentered, IsEdgeOf, IsEntering, entered_by, noted}

-- the edge is such, or it is this one
abbrev Also : (Edge → Type 0) → Edge → Edge → Type 0
Also such edge other = such other ⊎ (other ≡ edge)

-- one of the program's edges from the labels below a number
abbrev pub IsBelow : Statements → ℕ → Edge → Type 0
IsBelow body n edge = IsEdgeOf body edge × (edge.from < n)

-- ---- one label

module _ (such : Edge → Type 0) (label : ℕ) (edge : Edge) (fresh : such edge → ⊥) where
  entered_too : (entering : Entering) → edge.to ≡ label → IsEntering such label entering
      → IsEntering (Also such edge) label (entered_by entering edge)
  entered_too NoEdge to none = record {
    is = inr refl;
    leads = to;
    only = λ other is there. ⊎_elim (λ before. absurd (none other before there)) (λ same. same) is;
  }
  entered_too (OneEdge first) to only =
      (first, edge, inl only.is, inr refl, only.leads, to, λ same. fresh (subst such same only.is))
  entered_too Several to two = (two.0, two.1, inl two.2, inl two.3, two.4, two.5, two.6)

  entered_elsewhere : (entering : Entering) → label ≢ edge.to → IsEntering such label entering → IsEntering (Also such edge) label entering
  entered_elsewhere NoEdge apart none =
      λ other is there. ⊎_elim (λ before. none other before there) (λ same. apart (sym there ∙ ap (λ (e : Edge). e.to) same)) is
  entered_elsewhere (OneEdge first) apart only = record {
    is = inl only.is;
    leads = only.leads;
    only = λ other is there.
        ⊎_elim (λ before. only.only other before there) (λ same. absurd (apart (sym there ∙ ap (λ (e : Edge). e.to) same))) is;
  }
  entered_elsewhere Several apart two = (two.0, two.1, inl two.2, inl two.3, two.4, two.5, two.6)

same_entering : (such also : Edge → Type 0) (label : ℕ) → ((edge : Edge) → such edge → also edge) → ((edge : Edge) → also edge → such edge)
    → (entering : Entering) → IsEntering such label entering → IsEntering also label entering
same_entering such also label there back NoEdge none = λ edge is to. none edge (back edge is) to
same_entering such also label there back (OneEdge first) only = record {
  is = there first only.is;
  leads = only.leads;
  only = λ other is to. only.only other (back other is) to;
}
same_entering such also label there back Several two =
    (two.0, two.1, there two.0 two.2, there two.1 two.3, two.4, two.5, two.6)

-- ---- all labels

module _ (n : ℕ) (all : List Entering) where
  same_all : (such also : Edge → Type 0) → ((edge : Edge) → such edge → also edge) → ((edge : Edge) → also edge → such edge)
      → AreEntering such n all → AreEntering also n all
  same_all such also there back are = record {
    long = are.long;
    each = λ label low. same_entering such also label there back (slice_index_or all label NoEdge) (are.each label low);
  }

  one_noted : (such : Edge → Type 0) (edge : Edge) → (such edge → ⊥) → edge.to < n → AreEntering such n all
      → AreEntering (Also such edge) n (noted all (Some edge))
  one_noted such edge fresh inside are =
      let now = entered_by (slice_index_or all edge.to NoEdge) edge in record {
        long = length-set all edge.to now ∙ are.long;
        each = λ label low. ⊎_elim
            (λ (here : label ≡ edge.to).
            subst (λ l. IsEntering (Also such edge) l (slice_index_or (noted all (Some edge)) l NoEdge)) (sym here)
            (subst (IsEntering (Also such edge) edge.to)
            (sym (get_or-set_same all edge.to now NoEdge (let long = are.long in omega (arith, inside, long))))
            (entered_too such edge.to edge fresh (slice_index_or all edge.to NoEdge) refl (are.each edge.to inside))))
            (λ (apart : label ≢ edge.to).
            subst (IsEntering (Also such edge) label) (sym (get_or-set_other all edge.to label now NoEdge apart))
            (entered_elsewhere such label edge fresh (slice_index_or all label NoEdge) apart (are.each label low)))
            (cases_eq label edge.to);
      }

-- ---- the edges of one label more

module _ (body : Statements) (n label : ℕ) where
  at_label : (edge : Edge) → IsEdgeOf body edge → edge.from ≡ label → SomeEdge (λ other. other ≡ edge) (edges_from label (action_at body label))
  at_label edge is from = subst (λ l. SomeEdge (λ other. other ≡ edge) (edges_from l (action_at body l))) from is

  -- the edges below one more label are those below it and its own
  earlier : (edge : Edge) → IsBelow body label edge → IsBelow body (label + 1) edge
  earlier edge below = (below.0, let low = below.1 in omega (arith, low))

  own : (action : Action) (edge : Edge) → action_at body label ≡ action → edge.from ≡ label
      → SomeEdge (λ other. other ≡ edge) (edges_from label action) → IsBelow body (label + 1) edge
  own action edge is from some = (
    subst (λ l. SomeEdge (λ other. other ≡ edge) (edges_from l (action_at body l))) (sym from)
        (subst (λ a. SomeEdge (λ other. other ≡ edge) (edges_from label a)) (sym is) some),
    omega (arith, from),
  )

  either : (action : Action) (edge : Edge) → action_at body label ≡ action → IsBelow body (label + 1) edge
      → IsBelow body label edge ⊎ SomeEdge (λ other. other ≡ edge) (edges_from label action)
  either action edge is below = ⊎_elim
      (λ (low : edge.from < label). inl (below.0, low))
      (λ past. inr (subst (λ a. SomeEdge (λ other. other ≡ edge) (edges_from label a)) is
      (at_label edge below.0 (let low = below.1 in omega (arith, low, past)))))
      (cases_lt edge.from label)

  pub label_noted : (all : List Entering) (first_none second_none : Option Edge) (action : Action) → action_at body label ≡ action → LeadsBelow n action
      → AreEntering (IsBelow body label) n all
      → AreEntering (IsBelow body (label + 1)) n
      (noted (noted all (slice_index_or (edges_from label action) 0 first_none)) (slice_index_or (edges_from label action) 1 second_none))
  label_noted all first_none second_none ends is inside are =
      same_all n all (IsBelow body label) (IsBelow body (label + 1)) earlier
      (λ edge below. ⊎_elim (λ before. before) (λ some. absurd some) (either ends edge is below)) are
  label_noted all first_none second_none (assigns x e to) is inside are =
      let edge : Edge = record { from = label; to = to; kind = Assign } in
      same_all n (noted all (Some edge)) (Also (IsBelow body label) edge) (IsBelow body (label + 1))
      (λ other also. ⊎_elim (λ before. earlier other before)
      (λ same. subst (IsBelow body (label + 1)) (sym same) (own (assigns x e to) edge is refl (inl refl))) also)
      (λ other below. ⊎_elim (λ before. inl before) (λ some. ⊎_elim (λ same. inr (sym same)) (λ none. absurd none) some)
      (either (assigns x e to) other is below))
      (one_noted n all (IsBelow body label) edge (λ below. let low = below.1 in absurd (omega (arith, low))) inside are)
  label_noted all first_none second_none (passes to) is inside are =
      let edge : Edge = record { from = label; to = to; kind = Skip } in
      same_all n (noted all (Some edge)) (Also (IsBelow body label) edge) (IsBelow body (label + 1))
      (λ other also. ⊎_elim (λ before. earlier other before)
      (λ same. subst (IsBelow body (label + 1)) (sym same) (own (passes to) edge is refl (inl refl))) also)
      (λ other below. ⊎_elim (λ before. inl before) (λ some. ⊎_elim (λ same. inr (sym same)) (λ none. absurd none) some)
      (either (passes to) other is below))
      (one_noted n all (IsBelow body label) edge (λ below. let low = below.1 in absurd (omega (arith, low))) inside are)
  label_noted all first_none second_none (tests head c to other_to) is inside are =
      let first : Edge = record { from = label; to = to; kind = Test true } in
      let second : Edge = record { from = label; to = other_to; kind = Test false } in
      let begun = one_noted n all (IsBelow body label) first (λ below. let low = below.1 in absurd (omega (arith, low))) inside.0 are in
      same_all n (noted (noted all (Some first)) (Some second)) (Also (Also (IsBelow body label) first) second) (IsBelow body (label + 1))
      (λ other also. ⊎_elim
      (λ before. ⊎_elim (λ earlier_one. earlier other earlier_one)
      (λ same. subst (IsBelow body (label + 1)) (sym same) (own (tests head c to other_to) first is refl (inl refl))) before)
      (λ same. subst (IsBelow body (label + 1)) (sym same) (own (tests head c to other_to) second is refl (inr (inl refl)))) also)
      (λ other below. ⊎_elim (λ before. inl (inl before))
      (λ some. ⊎_elim (λ same. inl (inr (sym same))) (λ more. ⊎_elim (λ same. inr (sym same)) (λ none. absurd none) more) some)
      (either (tests head c to other_to) other is below))
      (one_noted n (noted all (Some first)) (Also (IsBelow body label) first) second
      (λ is_such. ⊎_elim (λ below. let low = below.1 in absurd (omega (arith, low))) (λ same. let kinds : ◌≡◌ {A = EdgeKind} (Test false) (Test true) = ap (λ (e : Edge). e.kind) same in absurd (cc)) is_such)
      inside.1 begun)

-- ---- the beginning and the end

pushed : (all : List Entering) → ((label : ℕ) → slice_index_or all label NoEdge ≡ NoEdge) → (label : ℕ)
    → slice_index_or (all ++ NoEdge ∷ []) label NoEdge ≡ NoEdge
pushed [] none zero = refl
pushed [] none (suc label) = refl
pushed (first ∷ more) none zero = none zero
pushed (first ∷ more) none (suc label) = pushed more (λ l. none (suc l)) label

pub one_unentered_more : (n : ℕ) (all : List Entering) → AreUnentered n all → AreUnentered (n + 1) (all ++ NoEdge ∷ [])
one_unentered_more n all are = (
  let longer = length-append all (NoEdge ∷ []) in let long = are.0 in omega (arith, longer, long),
  pushed all are.1,
)

pub none_below : (body : Statements) (n : ℕ) (all : List Entering) → AreUnentered n all → AreEntering (IsBelow body 0) n all
none_below body n all are = record {
  long = are.0;
  each = λ label low. subst (IsEntering (IsBelow body 0) label) (sym (are.1 label)) (λ edge below to. let none = below.1 in absurd (omega (arith, none)));
}

past_end : (body : Statements) (label : ℕ) → length (all_labels body) ≤ label → action_at body label ≡ ends
past_end body label past =
    ap (λ (l : Label). l.action)
    (sym (unwrap_or-slice_get (all_labels body) label end) ∙ ap (λ found. unwrap_or found end) (slice_get_past (all_labels body) label past))

pub from_a_label : (body : Statements) (edge : Edge) → IsEdgeOf body edge → edge.from < length (all_labels body)
from_a_label body edge is = ⊎_elim (λ (low : edge.from < length (all_labels body)). low)
    (λ past. absurd (subst (λ a. SomeEdge (λ other. other ≡ edge) (edges_from edge.from a)) (past_end body edge.from past) is))
    (cases_lt edge.from (length (all_labels body)))

pub all_below : (body : Statements) (label : ℕ) (all : List Entering) → length (all_labels body) ≤ label
    → AreEntering (IsBelow body label) (length (all_labels body)) all → AreEntering (IsEdgeOf body) (length (all_labels body)) all
all_below body label all past are =
    same_all (length (all_labels body)) all (IsBelow body label) (IsEdgeOf body) (λ edge below. below.0)
    (λ edge of. (of, let low = from_a_label body edge of in omega (arith, low, past))) are
