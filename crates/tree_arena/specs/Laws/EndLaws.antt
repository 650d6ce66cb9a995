-- A proof, not a definition: leaves of a table are equal exactly where they are the same.
use Rattle.std.proofs.Common.{◌≡◌, Bool, refl, ap, Decides}
use Rattle.std.proofs.lemmas.Bool.{false≢true}
use Rattle.std.proofs.lemmas.Bool.Decides.{Decides-and, Decides-like}
use Rattle.decision_tree.specs.Laws.EqualityLaws.{cause_eq-Decides, why_eq-Decides}
use Rattle.tree_arena.specs.declared.node.End.{End}
use Rattle.tree_arena.specs.declared.node.End.TheVariants.{Bottom, Top, Leaf}
use Rattle.tree_arena.specs.Equality.{same_end}

pub end_eq-Decides : {R : Type 0} (same : R → R → Bool) → ((rank other : R) → Decides (same rank other) (rank ≡ other))
    → (end other : End R) → Decides (same_end same end other) (end ≡ other)
end_eq-Decides same tells Bottom Bottom = (λ e. refl, λ e. refl)
end_eq-Decides same tells (Top cause) (Top other) = let decided = cause_eq-Decides cause other in
    (λ e. ap (λ t. Top t) (decided.0 e), λ e. decided.1 (cc))
end_eq-Decides same tells (Leaf why rank) (Leaf other second) =
    Decides-like _ (λ (both : (why ≡ other) × (rank ≡ second)). cc) (λ (whole : Leaf why rank ≡ Leaf other second). (cc, cc))
    (Decides-and _ _ (why_eq-Decides why other) (tells rank second))
end_eq-Decides same tells _ _ = (λ e. absurd (false≢true e), λ e. absurd (cc))
