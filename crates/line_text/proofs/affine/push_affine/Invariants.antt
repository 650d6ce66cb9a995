use Rattle.std.proofs.Common.{◌≡◌, ◌++◌, None, drop, length}
use Rattle.line_text.specs.AffineText.{affine_text, term_of, variable_terms}
use Rattle.line_text.specs.Buffer.{BeginsWith}
use Rattle.line_text.specs.Parts.{rest_text}
use Rattle.line_text.proofs.affine.push_affine.Given as goal

-- what stands, with what the rest will add, is what stood before with the whole text
abbrev pub invariant-loop-number : goal.invariant-loop-number
invariant-loop-number l = record {
  text : l.text.items ++ rest_text l.begun (variable_terms (drop (length l.yielded) l.names) (drop (length l.yielded) l.affine.coef) ++
      term_of l.affine.constant None) ≡ l.initial.text.items ++ affine_text l.names l.affine;
  kept : BeginsWith l.text.items l.initial.text.items;
}
