-- Alternatives asked from a part on.
use Rattle.std.proofs.Common.{◌≡◌, ◌<◌, ◌+◌, ◌∷◌, [], ℕ, Bool, drop, length, refl, ap, ◌∙◌}
use Rattle.linear_cons.specs.declared.row.RowKind.{RowKind}
use Rattle.decision_tree.specs.Alternatives.{Alternatives, part_at, rows_of}
use Rattle.decision_tree.specs.Plans.{Plan}
use Rattle.decision_tree.specs.declared.rank.Comparison.{Comparison}
use Rattle.decision_tree.proofs.Comparing.{dropped_next}
use Rattle.tree_unify.specs.Choosing.{all_asked, any_asked}

-- the first constraint of the part, and behind it what is left
pub from_part : {R : Type 0} (same : R → R → Bool) (all : Alternatives) (number : ℕ) (part : Comparison) (kind : RowKind) (this that : Plan R)
    → number < length all → part ≡ part_at all number → part.more ≡ kind
    → any_asked same (drop number all) this that
    ≡ all_asked same (kind ∷ []) this (all_asked same (rows_of part.same) (any_asked same (drop (number + 1) all) this that) that)
from_part same all number part kind this that low here is =
    ap (λ (list : Alternatives). any_asked same list this that) (dropped_next all number (number + 1) part refl low here)
    ∙ ap (λ (k : RowKind). all_asked same (k ∷ []) this (all_asked same (rows_of part.same) (any_asked same (drop (number + 1) all) this that) that)) is
