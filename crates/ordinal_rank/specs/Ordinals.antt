-- The functions of a rank below ω^5, the highest first.
use Rattle.std.specs.Prelude.{ℕ, pos, ℤ, List, [], ◌∷◌, map}
use Rattle.linear_cons.specs.Functions.{constant_of, substituted, sum_of, value_at}
use Rattle.linear_cons.specs.declared.affine.Affine.{Affine}
use Rattle.ordinal_rank.specs.declared.ordinal.OrdinalRank.{OrdinalRank}
use Rattle.ordinal_rank.specs.Parts.{Parts}

-- as parts and back, and as a list
abbrev pub parts_of : OrdinalRank → Parts 4
parts_of rank = (rank.fourth, (rank.third, (rank.second, (rank.first, rank.finite))))

abbrev pub rank_of : Parts 4 → OrdinalRank
rank_of parts = record {
  fourth = parts.0;
  third = parts.1.0;
  second = parts.1.1.0;
  first = parts.1.1.1.0;
  finite = parts.1.1.1.1;
}

abbrev pub functions_of : OrdinalRank → List Affine
functions_of rank = rank.fourth ∷ rank.third ∷ rank.second ∷ rank.first ∷ rank.finite ∷ []

-- the rank with a function put in for the variable at the place, and one more
abbrev pub put_in_rank : OrdinalRank → ℕ → Affine → OrdinalRank
put_in_rank rank place by = record {
  fourth = substituted rank.fourth place by;
  third = substituted rank.third place by;
  second = substituted rank.second place by;
  first = substituted rank.first place by;
  finite = substituted rank.finite place by;
}

abbrev pub one_more_rank : OrdinalRank → OrdinalRank
one_more_rank rank = record {
  fourth = rank.fourth;
  third = rank.third;
  second = rank.second;
  first = rank.first;
  finite = sum_of rank.finite (constant_of (pos 1));
}

-- their values at the store
abbrev pub numbers_at : OrdinalRank → List ℤ → List ℤ
numbers_at rank store = map (λ function. value_at function store) (functions_of rank)
