-- Readings of what stands in parentheses, once it is told apart.
use Rattle.std.proofs.Common.{◌≡◌, ℕ, subst}
use Rattle.derivation.specs.Pieces.{first}
use Rattle.formula_syntax.specs.declared.opening.Opening.{Opening}
use Rattle.formula_syntax.specs.Language.{Rest}
use Rattle.formula_syntax.specs.Openings.{opening_of_part, IsProper}
use Rattle.formula_syntax.specs.Trees.{Part}
use Rattle.formula_syntax.specs.Pending.{Inner, of_formula, a_part, an_inner, a_group, Sequence, first_read, Leads}
use Rattle.formula_syntax.specs.Reads.{Reads}
use Rattle.derivation.proofs.Grammars.{over}
use Rattle.derivation.proofs.Choices.{goes}
use Rattle.formula_syntax.proofs.Parts.{behind_group, group_tree, parts, a_closed_formula, behind_inner_group, inner_group_tree, inners}

-- The group that was read is `j`: how the reading goes on of a part that begins with it, and of what stands in parentheses and does.
module _ {c now n at : ℕ} {i j : Inner} {from to : Rest} (e : Opening.Parenthesis ≡ opening_of_part (first from.words)) (same : i ≡ j)
    (r : Reads c (a_group n) (record { at = at; inner = i }) from now to) where
  group_is : Reads c (a_group n) (record { at = at; inner = j }) from now to
  group_is = subst (λ i. Reads c (a_group n) (record { at = at; inner = i }) from now to) same r

  pub grouped_part : (K : Part → Sequence) → Leads c (first_read (a_part n) K) from now (behind_group n K at j) to (group_tree n K at j)
  grouped_part K = over (goes (parts n K) c from Opening.Parenthesis e) (group_is _)

  pub grouped_inner : (K : Inner → Sequence) → Leads c (first_read (an_inner n) K) from now (behind_inner_group n K at j) to (inner_group_tree n K at j)
  grouped_inner K = over (goes (inners n K) c from Opening.Parenthesis e) (group_is _)

-- what begins neither with a sum nor with a `(` is a formula
pub properly : (n c : ℕ) (K : Inner → Sequence) (from : Rest) (o : Opening) → o ≡ opening_of_part (first from.words) → IsProper o
    → Leads c (first_read (an_inner n) K) from c (a_closed_formula n K) from (λ g. (of_formula g.0, g.1.1))
properly n c K from Opening.Sum e is = absurd is
properly n c K from Opening.Parenthesis e is = absurd is
properly n c K from Opening.Nothing e is = absurd is
properly n c K from o e is = goes (inners n K) c from o e
