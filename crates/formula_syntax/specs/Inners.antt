-- What stands in parentheses, as the reader finds it.
use Rattle.formula_syntax.specs.declared.tree.Inner.{Inner}
use Rattle.formula_syntax.specs.declared.tree.Inner.TheVariants as I
use Rattle.formula_syntax.specs.declared.tree.InnerEnd.{InnerEnd}
use Rattle.formula_syntax.specs.declared.tree.InnerEnd.TheVariants as E
use Rattle.formula_syntax.specs.Trees.{Sum, compared}
use Rattle.formula_syntax.specs.Mirror.{sum, chain, formula}
use Rattle.formula_syntax.specs.Pending as pending
use Rattle.formula_syntax.specs.Pending.{of_formula, of_sum, closed, compares}

abbrev pub inner : Inner → pending.Inner
inner (I.Formula f) = of_formula (formula f)
inner (I.Sum s) = of_sum (sum s)

abbrev pub inner_end : InnerEnd → pending.InnerEnd
inner_end E.Closed = closed
inner_end (E.Compared comparison right behind) = compares (record { comparison = comparison; sum = sum right }) (chain behind)

-- a sum and what stands behind it
abbrev pub inner_of : Sum → pending.InnerEnd → pending.Inner
inner_of s closed = of_sum s
inner_of s (compares r behind) = of_formula (record { part = compared s r.comparison r.sum; chain = behind })
