-- What a set implies that has no member which meets a row's complement.
use Rattle.std.proofs.Common.{◌≡◌, ℤ, pos, ◌≤ℤ◌, List, sym, subst, arith}
use Rattle.std.proofs.lemmas.Int.{by_lt_z, ints}
use Rattle.linear_cons.specs.declared.row.Row.{Row}
use Rattle.linear_cons.specs.Functions.{complement_of, value_at}
use Rattle.linear_cons.proofs.RowLaws.{complement_met}
use Rattle.num_domain.specs.Domain.{AllMeet, KeepsMeeting, SameMembers}

-- a set that has no member that meets the complement implies the row
pub implied : (old copied rest : List ℤ → Type 0) (row complement : Row) → complement.affine ≡ complement_of row.affine
    → SameMembers old copied → KeepsMeeting complement copied rest → ((store : List ℤ) → rest store → ⊥) → AllMeet row old
implied old copied rest row complement is same keeps none store long member =
    by_lt_z (value_at row.affine store) (pos 0)
    (λ below. absurd (none store (keeps store long ((same store long).0 member)
    (subst (λ a. pos 0 ≤ℤ value_at a store) (sym is) ((complement_met row.affine store).1 (λ met. omega (arith, ints, below, met)))))))
    (λ from. from)
