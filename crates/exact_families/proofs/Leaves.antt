-- What a leaf says: its why and its rank, by which leaves are told apart.
use Rattle.std.proofs.Common.{◌≡◌, pos, negsuc, ◌-ℤ◌, sym, ap, arith}
use Rattle.std.proofs.lemmas.Int.{ints}
use Rattle.linear_cons.specs.declared.row.RowKind.TheVariants.{Never}
use Rattle.linear_cons.specs.Functions.{coefficient, complement_of, constant_of}
use Rattle.linear_cons.specs.Rows.{row_kind_of}
use Rattle.linear_cons.proofs.Places.{number_at_places}
use Rattle.linear_cons.proofs.RowKinds.{row_kind_unique}
use Rattle.decision_tree.specs.Plans.{Plan, bottom, branch, leaf, top}
use Rattle.decision_tree.specs.declared.affine_rank.AffineRank.{AffineRank}
use Rattle.decision_tree.specs.declared.reason.Why.{Why}
use Rattle.backward_sweeps.specs.Moving.{nought}

-- the why and the rank of a leaf, which another leaf has too
abbrev why_or : {R : Type 0} → Why → Plan R → Why
why_or d (leaf why rank) = why
why_or d bottom = d
why_or d (top cause) = d
why_or d (branch row this that) = d

abbrev rank_or : {R : Type 0} → R → Plan R → R
rank_or d (leaf why rank) = rank
rank_or d bottom = d
rank_or d (top cause) = d
rank_or d (branch row this that) = d

pub equal_why : {R : Type 0} (why other : Why) (rank second : R) → leaf why rank ≡ leaf other second → why ≡ other
equal_why why other rank second is = ap (why_or why) is

pub equal_rank : {R : Type 0} (why other : Why) (rank second : R) → leaf why rank ≡ leaf other second → rank ≡ second
equal_rank why other rank second is = ap (rank_or rank) is

-- the rank 0, which is no negative number

abbrev pub IsNatural : AffineRank → Type 0
IsNatural rank = row_kind_of (complement_of rank.value) ≡ Never

pub nought_natural : IsNatural nought
nought_natural =
    sym (row_kind_unique (complement_of (constant_of (pos 0))) Never (
      (λ i low.
          let first = number_at_places (λ j. pos 0) i low in
          let second = number_at_places (λ j. pos 0) i low in
          let turned = number_at_places (λ j. coefficient (constant_of (negsuc 0)) j -ℤ coefficient (constant_of (pos 0)) j) i low in
          omega (arith, ints, first, turned)),
      omega (arith, ints),
    ))
