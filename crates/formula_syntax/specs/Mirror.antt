-- Which tree of `Trees` each tree of this crate is: the same without its pointers.
use Rattle.formula_syntax.specs.declared.tree.Factor.{Factor}
use Rattle.formula_syntax.specs.declared.tree.FactorKind.{FactorKind, Signed', Summed'}
use Rattle.formula_syntax.specs.declared.tree.FactorKind.TheVariants.{Number, Name}
use Rattle.formula_syntax.specs.declared.tree.Tail.{Tail, Further'}
use Rattle.formula_syntax.specs.declared.tree.Tail.TheVariants.{Ended}
use Rattle.formula_syntax.specs.declared.tree.Sum.{Sum}
use Rattle.formula_syntax.specs.declared.tree.Part.{Part, Prefixed', Quantified', Grouped'}
use Rattle.formula_syntax.specs.declared.tree.Part.TheVariants.{Truth, Exit, Compared}
use Rattle.formula_syntax.specs.declared.tree.Chain.{Chain, Joined'}
use Rattle.formula_syntax.specs.declared.tree.Chain.TheVariants.{Done}
use Rattle.formula_syntax.specs.declared.tree.Formula.{Formula}
use Rattle.formula_syntax.specs.Trees as tree

abbrev mutual
  pub factor_kind : FactorKind → tree.FactorKind
  factor_kind (Number z) = tree.number z
  factor_kind (Name x) = tree.name x.items
  factor_kind (Signed' negative p at e) = tree.signed negative (tree.factor_at at (factor_kind e))
  factor_kind (Summed' p at e q more) = tree.summed (tree.factor_at at (factor_kind e)) (tail more)

  pub tail : Tail → tree.Tail
  tail Ended = tree.ended
  tail (Further' op p at e q rest) = tree.further op (tree.factor_at at (factor_kind e)) (tail rest)

abbrev pub factor : Factor → tree.Factor
factor e = tree.factor_at e.at (factor_kind e.kind)

abbrev pub sum : Sum → tree.Sum
sum s = record { factor = factor s.factor; tail = tail s.tail }

abbrev mutual
  pub part : Part → tree.Part
  part (Prefixed' prefix p f) = tree.prefixed prefix (part f)
  part (Quantified' all p f q c weak r g s d) = tree.quantified all (part f) (chain c) weak (part g) (chain d)
  part (Truth b) = tree.truth b
  part Exit = tree.exit
  part (Compared left comparison right) = tree.compared (sum left) comparison (sum right)
  part (Grouped' at p f q c) = tree.grouped at (part f) (chain c)

  pub chain : Chain → tree.Chain
  chain Done = tree.done
  chain (Joined' connective p f q rest) = tree.joined connective (part f) (chain rest)

abbrev pub formula : Formula → tree.Formula
formula f = record { part = part f.part; chain = chain f.chain }
