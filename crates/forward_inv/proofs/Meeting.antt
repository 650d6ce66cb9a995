-- Sets met with one of some lists of rows.
use Rattle.std.proofs.Common.{◌≡◌, ℕ, ◌+◌, ◌<◌, ℤ, inl, inr, List, [], ◌∷◌, ◌++◌, length, take, get_or, Option, subst}
use Rattle.std.proofs.lemmas.List.Elements.{All-cons, All-nil}
use Rattle.linear_cons.specs.declared.row.Row.{Row}
use Rattle.linear_cons.specs.Rows.{Meets, MeetsAll}
use Rattle.linear_forms.specs.Meeting.{MeetsEach, MeetsOne}
use Rattle.num_domain.specs.Domain.{IsStore, KeepsMeetingAll}
use Rattle.forward_inv.specs.Sets.{IsMemberOf, KeepsMeetingOne, KeepsMembers}
use Rattle.forward_inv.proofs.Taking.{taken}

each_all : (store : List ℤ) (rows : List Row) → MeetsEach store rows → MeetsAll store rows
each_all store [] met = All-nil (Meets store)
each_all store (row ∷ rows) met = All-cons (Meets store) row rows met.0 (each_all store rows met.1)

one_cases : (store : List ℤ) (lists : List (List Row)) (rows : List Row) (P : Type 0) → MeetsOne store (lists ++ rows ∷ [])
    → (MeetsOne store lists → P) → (MeetsEach store rows → P) → P
one_cases store [] rows P (inl here) before last = last here
one_cases store [] rows P (inr more) before last = absurd more
one_cases store (first ∷ lists) rows P (inl here) before last = before (inl here)
one_cases store (first ∷ lists) rows P (inr later) before last = one_cases store lists rows P later (λ met. before (inr met)) last

-- the members that meet one of the lists so far, and those that meet the next, are members of both
pub one_more : {D : Type 0} (has : D → List ℤ → Type 0) (old copied met : List ℤ → Type 0) (all : Option D) (new : D) (lists : List (List Row)) (i : ℕ) (rows : List Row)
    → i < length lists → rows ≡ get_or lists i rows → KeepsMeetingOne (take i lists) old (IsMemberOf has all)
    → ((store : List ℤ) → IsStore store → old store → copied store) → KeepsMeetingAll rows copied met
    → KeepsMembers (IsMemberOf has all) (has new) → KeepsMembers met (has new) → KeepsMeetingOne (take (i + 1) lists) old (has new)
one_more has old copied met all new lists i rows low is before same keeps own others store long member one =
    one_cases store (take i lists) rows (has new store) (subst (MeetsOne store) (taken lists i rows low is) one)
    (λ first. own store long (before store long member first))
    (λ each. others store long (keeps store long (same store long member) (each_all store rows each)))
