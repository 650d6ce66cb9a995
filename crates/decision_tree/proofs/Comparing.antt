-- The parts of a comparison in order, and that there are as many as ranks have parts, and some.
use Rattle.std.proofs.Common.{◌≡◌, ◌↔◌, ℕ, zero, suc, ◌+◌, ◌<◌, ◌≤◌, ℤ, List, [], ◌∷◌, drop, length, refl, sym, ap, ◌∙◌, arith}
use Rattle.decision_tree.specs.Alternatives.{Alternatives, MeetsAny, part_at}
use Rattle.decision_tree.specs.declared.rank.Comparison.{Comparison}
use Rattle.decision_tree.specs.declared.rank.Rank.{Ghosts as Ranks}

-- the part with a number, and those behind it
dropped : (alternatives : Alternatives) (number : ℕ) → number < length alternatives
    → drop number alternatives ≡ part_at alternatives number ∷ drop (suc number) alternatives
dropped [] number low = absurd (omega arith)
dropped (part ∷ rest) zero low = refl
dropped (part ∷ rest) (suc number) low = dropped rest number (omega arith)

pub dropped_next : (alternatives : Alternatives) (number next : ℕ) (part : Comparison) → next ≡ number + 1 → number < length alternatives
    → part ≡ part_at alternatives number → drop number alternatives ≡ part ∷ drop next alternatives
dropped_next alternatives number next part is low here =
    let same : suc number ≡ next = omega (arith, is) in
    dropped alternatives number low ∙ ap (λ n. part_at alternatives number ∷ drop n alternatives) same
    ∙ ap (λ p. p ∷ drop next alternatives) (sym here)

pub dropped_all : (alternatives : Alternatives) (number : ℕ) → length alternatives ≤ number → drop number alternatives ≡ []
dropped_all [] zero high = refl
dropped_all [] (suc number) high = refl
dropped_all (part ∷ rest) zero high = absurd (omega arith)
dropped_all (part ∷ rest) (suc number) high = dropped_all rest number (omega arith)

some_alternatives : (store : List ℤ) (alternatives : Alternatives) → MeetsAny store alternatives → 0 < length alternatives
some_alternatives store [] met = absurd met
some_alternatives store (part ∷ rest) met = omega arith

-- a rank has some part, since one more exceeds it
pub some_parts : {R : Type 0} (ranks : Ranks R) → ((rank other : R) → length (ranks.where_greater rank other) ≡ ranks.PARTS)
    → ((rank : R) (store : List ℤ) → ranks.exceeds (ranks.rank_value (ranks.one_more rank) store) (ranks.rank_value rank store))
    → ((rank other : R) (store : List ℤ) → MeetsAny store (ranks.where_greater rank other)
    ↔ ranks.exceeds (ranks.rank_value rank store) (ranks.rank_value other store))
    → R → 0 < ranks.PARTS
some_parts ranks long more greater rank =
    let some = some_alternatives [] (ranks.where_greater (ranks.one_more rank) rank) ((greater (ranks.one_more rank) rank []).1 (more rank [])) in
    let parts = long (ranks.one_more rank) rank in
    omega (arith, some, parts)
