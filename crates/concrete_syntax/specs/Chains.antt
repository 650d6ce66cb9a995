-- The chains of links that tails and items are, from lists.
use Rattle.std.specs.Prelude.{List, [], ◌∷◌}
use Rattle.concrete_syntax.specs.Trees.{Link, Tail, further, Declaration, Statement, Items, declaration, statement}

-- these links, and behind them a tail
abbrev pub tail_of : List Link → Tail → Tail
tail_of [] rest = rest
tail_of (link ∷ more) rest = further link (tail_of more rest)

-- a declaration or a statement
pub data Item : Type 0 where
  declared : Declaration → Item
  stated : Statement → Item

-- these declarations and statements, and behind them items
abbrev pub items_of : List Item → Items → Items
items_of [] rest = rest
items_of (declared d ∷ more) rest = declaration d (items_of more rest)
items_of (stated s ∷ more) rest = statement s (items_of more rest)
