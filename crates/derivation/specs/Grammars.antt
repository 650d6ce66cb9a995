-- Grammars as the calculus sees them: what may be still to be read, and how reading comes from one such thing to another.
use Rattle.std.specs.Prelude.{ℕ, List}
use Rattle.derivation.specs.declared.rule.Rule.{Rule}
use Rattle.derivation.specs.Languages.{Language}
use Rattle.derivation.specs.Pieces.{Piece, Rest}
use Rattle.derivation.specs.Comes.{Phrase, Comes, Breaks}

-- a language, and what may be still to be read of it: things one behind the other, with the trees of all
pub record Grammar : Type 1 where
  pub language : Language
  pub Sequence : Type 0
  pub phrase : Sequence → Phrase language

-- trees of all that is to be read, and their pieces
abbrev pub Trees : (G : Grammar) → G.Sequence → Type 0
Trees G all = (G.phrase all).Tree

abbrev pub pieces : (G : Grammar) → (all : G.Sequence) → Trees G all → List (Piece G.language)
pieces G all trees = (G.phrase all).pieces trees

-- reading all of these from `from` has come to reading all of those from `to`
pub record Leads (G : Grammar) (count : ℕ) (these : G.Sequence) (from : Rest G.language) (now : ℕ) (those : G.Sequence) (to : Rest G.language)
    (fill : Trees G those → Trees G these) : Type 0 where
  pub comes : Comes count (G.phrase these) from now (G.phrase those) to fill

-- reading all of these from `from` breaks the rule at the first of `to`
pub record Stops (G : Grammar) (count : ℕ) (these : G.Sequence) (from : Rest G.language) (rule : Rule) (to : Rest G.language) : Type 0 where
  pub breaks : Breaks count (G.phrase these) from rule to
