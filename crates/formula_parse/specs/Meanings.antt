-- What a concrete tree means over the names of a program's variables. As in C99 (6.5.5, 6.5.6, 6.5.13, 6.5.14), `*` binds more tightly than
-- `+` and `-`, and `&&` more tightly than `||`; each groups from left to right. A name that isn't among the names counts as one variable more.
use Rattle.std.specs.Prelude.{ℕ, Bool, true, false, List, Option, None, Some}
use Rattle.ctl_formula.specs.Formulas as ctl
use Rattle.ctl_formula.specs.Formulas.{Ctl}
use Rattle.typed_expressions.specs.Scopes.{place_of}
use Rattle.formula_syntax.specs.declared.sign.Prefix.{Prefix}
use Rattle.formula_syntax.specs.declared.sign.Prefix.TheVariants as P
use Rattle.formula_syntax.specs.declared.sign.Connective.TheVariants as C
use Rattle.step_meaning.specs.declared.expression.Op2.{Op2}
use Rattle.step_meaning.specs.declared.expression.Op2.TheVariants as Op
use Rattle.step_meaning.specs.Syntax as syntax
use Rattle.step_meaning.specs.Countdown.{form_of}
use Rattle.formula_syntax.specs.declared.sign.Operator.TheVariants as O
use Rattle.formula_syntax.specs.Trees.{Factor, factor_at, FactorKind, number, name, signed, summed, Tail, ended, further, Sum, Part, prefixed, quantified, truth, exit, compared, grouped, Chain, done, joined, Formula}
use Rattle.formula_parse.specs.Comparing.{comparing}

-- what is added up already, with the sign behind it, and the product that follows
abbrev pub added : Option (syntax.Expression × Op2) → syntax.Expression → syntax.Expression
added None product = product
added (Some before) product = syntax.pair before.1 before.0 product

abbrev mutual
  pub factor_meaning : List (List ℕ) → Factor → syntax.Expression
  factor_meaning names (factor_at at kind) = kind_meaning names kind

  pub kind_meaning : List (List ℕ) → FactorKind → syntax.Expression
  kind_meaning names (number z) = syntax.number z
  kind_meaning names (name x) = syntax.variable (place_of names x)
  kind_meaning names (signed true e) = syntax.negative (factor_meaning names e)
  kind_meaning names (signed false e) = factor_meaning names e
  kind_meaning names (summed e more) = tail_meaning names None (factor_meaning names e) more

  -- behind a product that isn't yet added to what is before it
  pub tail_meaning : List (List ℕ) → Option (syntax.Expression × Op2) → syntax.Expression → Tail → syntax.Expression
  tail_meaning names before product ended = added before product
  tail_meaning names before product (further O.Multiply e more) = tail_meaning names before (syntax.pair Op.Mul product (factor_meaning names e)) more
  tail_meaning names before product (further O.Add e more) = tail_meaning names (Some (added before product, Op.Add)) (factor_meaning names e) more
  tail_meaning names before product (further O.Subtract e more) = tail_meaning names (Some (added before product, Op.Sub)) (factor_meaning names e) more

abbrev pub sum_meaning : List (List ℕ) → Sum → syntax.Expression
sum_meaning names s = tail_meaning names None (factor_meaning names s.factor) s.tail

-- what a prefix makes of a formula (Clarke and Emerson 1981): `AF g` is `A[true U g]`, and `AG f` is `A[f W false]`
abbrev pub prefixed_meaning : Prefix → Ctl → Ctl
prefixed_meaning P.Not f = ctl.negation f
prefixed_meaning P.AllNext f = ctl.next true f
prefixed_meaning P.SomeNext f = ctl.next false f
prefixed_meaning P.AllFinally f = ctl.until true ctl.truth f
prefixed_meaning P.SomeFinally f = ctl.until false ctl.truth f
prefixed_meaning P.AllGlobally f = ctl.weak true f ctl.falsity
prefixed_meaning P.SomeGlobally f = ctl.weak false f ctl.falsity

abbrev pub until_meaning : Bool → Bool → Ctl → Ctl → Ctl
until_meaning all true keep goal = ctl.weak all keep goal
until_meaning all false keep goal = ctl.until all keep goal

abbrev pub truth_meaning : Bool → Ctl
truth_meaning true = ctl.truth
truth_meaning false = ctl.falsity

-- what is joined by `||` already, and what follows
abbrev pub either_of : Option Ctl → Ctl → Ctl
either_of None f = f
either_of (Some before) f = ctl.either before f

abbrev mutual
  pub part_meaning : List (List ℕ) → Part → Ctl
  part_meaning names (prefixed p f) = prefixed_meaning p (part_meaning names f)
  part_meaning names (quantified all f c weak g d) =
      until_meaning all weak (chain_meaning names None (part_meaning names f) c) (chain_meaning names None (part_meaning names g) d)
  part_meaning names (truth b) = truth_meaning b
  part_meaning names exit = ctl.exit
  part_meaning names (compared left c right) = comparing c (form_of (sum_meaning names left)) (form_of (sum_meaning names right))
  part_meaning names (grouped at f c) = chain_meaning names None (part_meaning names f) c

  -- behind parts joined by `&&` that aren't yet joined to what is before them
  pub chain_meaning : List (List ℕ) → Option Ctl → Ctl → Chain → Ctl
  chain_meaning names before so_far done = either_of before so_far
  chain_meaning names before so_far (joined C.And f more) = chain_meaning names before (ctl.both so_far (part_meaning names f)) more
  chain_meaning names before so_far (joined C.Or f more) = chain_meaning names (Some (either_of before so_far)) (part_meaning names f) more

abbrev pub formula_meaning : List (List ℕ) → Formula → Ctl
formula_meaning names f = chain_meaning names None (part_meaning names f.part) f.chain
