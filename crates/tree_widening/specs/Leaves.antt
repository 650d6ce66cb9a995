-- The leaves of a tree that a path leaves open, each with the rows on its way: where the path settles a row its side alone is looked at.
use Rattle.std.specs.Prelude.{◌⊎◌, List, [], ◌∷◌, ◌++◌}
use Rattle.linear_cons.specs.Rows.{complement}
use Rattle.linear_cons.specs.Settling.{settles}
use Rattle.linear_cons.specs.declared.row.Row.{Row}
use Rattle.decision_tree.specs.Plans.{Plan, bottom, branch, leaf}
use Rattle.tree_unify.specs.Shapes.{OnSide, on_side}

module _ {R : Type 0} where
  -- where they begin: the first node whose row the path leaves open, or a leaf
  abbrev pub beginning : List Row → Plan R → Plan R
  beginning path (branch row this that) =
      on_side (settles path row) (beginning path this) (beginning path that) (branch row this that)
  beginning path end = end

  -- each of these leaves has the property, with its way
  abbrev pub AtEach : (List Row → Plan R → Type 0) → List Row → Plan R → Type 0
  AtEach P path (branch row this that) =
      OnSide (settles path row) (AtEach P path this) (AtEach P path that)
      (AtEach P (path ++ row ∷ []) this × AtEach P (path ++ complement row ∷ []) that)
  AtEach P path end = P path end

  -- one of them has it
  abbrev pub AtOne : (List Row → Plan R → Type 0) → List Row → Plan R → Type 0
  AtOne P path (branch row this that) =
      OnSide (settles path row) (AtOne P path this) (AtOne P path that)
      (AtOne P (path ++ row ∷ []) this ⊎ AtOne P (path ++ complement row ∷ []) that)
  AtOne P path end = P path end

  -- of two claims the first that is there
  abbrev pub first_of : Plan R → Plan R → Plan R
  first_of (leaf why rank) other = leaf why rank
  first_of end other = other

  -- the first of these leaves that makes a claim, yes sides first; `bottom` where none does
  abbrev pub first_left : List Row → Plan R → Plan R
  first_left path (branch row this that) =
      on_side (settles path row) (first_left path this) (first_left path that)
      (first_of (first_left (path ++ row ∷ []) this) (first_left (path ++ complement row ∷ []) that))
  first_left path (leaf why rank) = leaf why rank
  first_left path end = bottom

  -- the first leaf of the whole tree that makes a claim
  abbrev pub first_claim : Plan R → Plan R
  first_claim (branch row this that) = first_of (first_claim this) (first_claim that)
  first_claim (leaf why rank) = leaf why rank
  first_claim end = bottom
