-- Trees whose numbers may be wrong.
use Rattle.std.specs.Prelude.{◌≡◌, Bool, List, [], ◌∷◌, None, ⊤}
use Rattle.derivation.specs.Pieces.{token, look, first_before, Fits}
use Rattle.concrete_syntax.specs.Trees.{Program}
use Rattle.source_syntax.specs.Language.{Token, Piece, is_at, Meets}
use Rattle.source_syntax.specs.Texts.{programs}

-- each token is as it is asked for, its number aside
abbrev pub FitsButForNumbers : List Piece → Type 0
FitsButForNumbers [] = ⊤
FitsButForNumbers (token t ∷ more) = FitsButForNumbers more
FitsButForNumbers (look (is_at number) ∷ more) = FitsButForNumbers more
FitsButForNumbers (look l ∷ more) = Meets l 0 (first_before more None) × FitsButForNumbers more

-- the tokens of the pieces: their words, levels and counts
abbrev pub tokens_in : List Piece → List Token
tokens_in [] = []
tokens_in (token t ∷ more) = t ∷ tokens_in more
tokens_in (look l ∷ more) = tokens_in more

-- where each token of a tree is as it is asked for, its number aside, a tree with right numbers spells the same tokens
abbrev pub TreesCanBeNumbered : Type 0
TreesCanBeNumbered =
    (functions : Bool) (tree : Program) → FitsButForNumbers ((programs functions).pieces tree)
    → (numbered : Program) × Fits 0 ((programs functions).pieces numbered)
    × (tokens_in ((programs functions).pieces numbered) ≡ tokens_in ((programs functions).pieces tree))
