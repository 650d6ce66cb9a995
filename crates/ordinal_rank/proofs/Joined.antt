-- A tree whose leaves are those of two trees bounds ends where they do.
use Rattle.std.proofs.Common.{◌≡◌, ◌⊎◌, ℕ, ℤ, List, sym, ◌∙◌, ⊎_elim}
use Rattle.step_meaning.specs.Syntax.{Statements}
use Rattle.decision_tree.specs.Evaluation.{eval}
use Rattle.decision_tree.specs.Plans.{Plan}
use Rattle.ordinal_rank.specs.declared.ordinal.OrdinalRank.{OrdinalRank}
use Rattle.ordinal_rank.specs.Families.{BoundsEnds}

-- at each store the tree has the leaf of one of two trees
abbrev pub HasEither : Plan OrdinalRank → Plan OrdinalRank → Plan OrdinalRank → Type 0
HasEither first second made = (store : List ℤ) → (eval made store ≡ eval first store) ⊎ (eval made store ≡ eval second store)

pub either_bounds : (vars : ℕ) (body : Statements) (first second made : Plan OrdinalRank) → HasEither first second made
    → BoundsEnds vars body first → BoundsEnds vars body second → BoundsEnds vars body made
either_bounds vars body first second made either bounds more input why rank is_input is =
    ⊎_elim (λ same. bounds input why rank is_input (sym same ∙ is)) (λ same. more input why rank is_input (sym same ∙ is)) (either input)
