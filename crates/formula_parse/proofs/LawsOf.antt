-- Proofs of the laws.
use Rattle.std.proofs.Common.{◌≡◌, ℕ, List, Bool, true, false, Option, None, Some, sym, ◌∙◌, subst, arith}
use Rattle.linear_cons.specs.declared.affine.Affine.{Affine}
use Rattle.linear_cons.specs.declared.row.RowKind.{RowKind}
use Rattle.linear_cons.specs.declared.row.RowKind.TheVariants.{Always, Never, Row as Kept}
use Rattle.ctl_formula.specs.Formulas.{Ctl}
use Rattle.ctl_formula.specs.Mirror.{ctl_of_kind}
use Rattle.normal_form.specs.Rows.{ComplementsFit}
use Rattle.formula_syntax.specs.declared.sign.Comparison.{Comparison}
use Rattle.formula_syntax.specs.declared.sign.Comparison.TheVariants as R
use Rattle.formula_syntax.specs.declared.sign.Connective.TheVariants as C
use Rattle.formula_syntax.specs.declared.sign.Prefix.{Prefix}
use Rattle.formula_syntax.specs.declared.sign.Prefix.TheVariants as P
use Rattle.derivation.specs.declared.fault.SyntaxFault.TheVariants as S
use Rattle.derivation.specs.declared.rule.Rule.TheVariants as Syntax
use Rattle.formula_syntax.specs.Trees.{Part, prefixed, quantified, truth, exit, compared, grouped, Chain, done, joined}
use Rattle.formula_syntax.specs.Laws.{TreesAreUnique, FormulasHaveNoFault as SyntaxHasNoFault}
use Rattle.formula_parse.specs.declared.fault.FormulaFault.TheVariants.{Lex, Expected, Unknown, NotAffine, Limit, Memory}
use Rattle.formula_parse.specs.declared.fault.FormulaLimit.{FormulaLimit}
use Rattle.formula_parse.specs.Comparing.{ComplementFits, ComparisonFits, comparing}
use Rattle.formula_parse.specs.Meanings.{part_meaning, chain_meaning, prefixed_meaning, until_meaning, truth_meaning, either_of}
use Rattle.formula_parse.specs.Faults.{PartFits, ChainFits}
use Rattle.formula_parse.specs.Derives.{StandsFor}
use Rattle.formula_parse.specs.Laws.{TextsAreUnique, ComplementsOfTextsFit, FormulasHaveNoFault}
use Rattle.formula_parse.proofs.Firsts.{all_fit}

pub texts_are_unique : TreesAreUnique → TextsAreUnique
texts_are_unique unique text names f g h k =
    let same : h.tree ≡ k.tree = unique text h.tree k.tree h.spelled k.spelled in
    let other : StandsFor names h.tree g = subst (λ t. StandsFor names t g) (sym same) k.stands in
    h.stands.means ∙ sym other.means

kind_fits : (kind : RowKind) → ComplementFits kind → ComplementsFit (ctl_of_kind kind)
kind_fits Always h = tt
kind_fits Never h = tt
kind_fits (Kept row) h = h

comparing_fits : (c : Comparison) (a b : Affine) → ComparisonFits c a b → ComplementsFit (comparing c a b)
comparing_fits R.GreaterEqual a b h = kind_fits _ h.0.0.1
comparing_fits R.Greater a b h = kind_fits _ h.0.0.2
comparing_fits R.LessEqual a b h = kind_fits _ h.0.0.1
comparing_fits R.Less a b h = kind_fits _ h.0.0.2
comparing_fits R.Equal a b h = (kind_fits _ h.0.0.1, kind_fits _ h.0.1.0.1)
comparing_fits R.NotEqual a b h = (kind_fits _ h.0.0.2, kind_fits _ h.1.0.0.2)

prefix_fits : (p : Prefix) (f : Ctl) → ComplementsFit f → ComplementsFit (prefixed_meaning p f)
prefix_fits P.Not f h = h
prefix_fits P.AllNext f h = h
prefix_fits P.SomeNext f h = h
prefix_fits P.AllFinally f h = (tt, h)
prefix_fits P.SomeFinally f h = (tt, h)
prefix_fits P.AllGlobally f h = (h, tt)
prefix_fits P.SomeGlobally f h = (h, tt)

until_fits : (all weak : Bool) (f g : Ctl) → ComplementsFit f → ComplementsFit g → ComplementsFit (until_meaning all weak f g)
until_fits all true f g h k = (h, k)
until_fits all false f g h k = (h, k)

truth_fits : (b : Bool) → ComplementsFit (truth_meaning b)
truth_fits true = tt
truth_fits false = tt

-- of what is joined already
abbrev BeforeFits : Option Ctl → Type 0
BeforeFits None = Unit {0}
BeforeFits (Some f) = ComplementsFit f

either_fits : (before : Option Ctl) (f : Ctl) → BeforeFits before → ComplementsFit f → ComplementsFit (either_of before f)
either_fits None f h k = k
either_fits (Some before) f h k = (h, k)

module _ (names : List (List ℕ)) where
  mutual
    part_complements : (f : Part) → PartFits names f → ComplementsFit (part_meaning names f)
    part_complements (prefixed p f) h = prefix_fits p (part_meaning names f) (part_complements f h)
    part_complements (quantified all f c weak g d) h =
        until_fits all weak _ _ (chain_complements None (part_meaning names f) c tt (part_complements f h.0.0) h.0.1)
        (chain_complements None (part_meaning names g) d tt (part_complements g h.1.0) h.1.1)
    part_complements (truth b) h = truth_fits b
    part_complements exit h = tt
    part_complements (compared left c right) h = comparing_fits c _ _ h.comparison_fits
    part_complements (grouped at f c) h = chain_complements None (part_meaning names f) c tt (part_complements f h.0) h.1

    chain_complements : (before : Option Ctl) (so_far : Ctl) (c : Chain) → BeforeFits before → ComplementsFit so_far → ChainFits names c
        → ComplementsFit (chain_meaning names before so_far c)
    chain_complements before so_far done h k fit = either_fits before so_far h k
    chain_complements before so_far (joined C.And f more) h k fit = chain_complements before _ more h (k, part_complements f fit.0) fit.1
    chain_complements before so_far (joined C.Or f more) h k fit = chain_complements (Some _) _ more (either_fits before so_far h k) (part_complements f fit.0) fit.1

pub complements_of_texts_fit : ComplementsOfTextsFit
complements_of_texts_fit text names f h =
    subst ComplementsFit (sym h.stands.means)
    (chain_complements names None _ h.tree.chain tt (part_complements names h.tree.part h.stands.fit.0) h.stands.fit.1)

pub formulas_have_no_fault : TreesAreUnique → SyntaxHasNoFault → FormulasHaveNoFault
formulas_have_no_fault unique syntax text names f (Limit FormulaLimit.Bytes at count) h k = absurd (omega (arith, h.short, k.0))
formulas_have_no_fault unique syntax text names f (Lex fault) h k = absurd (syntax text h.tree (S.Lex fault) h.spelled k.1)
formulas_have_no_fault unique syntax text names f (Expected at) h k = absurd (syntax text h.tree (S.Broken Syntax.Expected at) h.spelled k.1)
formulas_have_no_fault unique syntax text names f (Limit FormulaLimit.Nesting at count) h k = absurd (syntax text h.tree (S.Broken Syntax.Nesting at) h.spelled k.1)
formulas_have_no_fault unique syntax text names f (Limit FormulaLimit.Operators at count) h k = absurd (syntax text h.tree (S.Broken Syntax.Operators at) h.spelled k.1)
formulas_have_no_fault unique syntax text names f (Unknown at) h k =
    let same : h.tree ≡ k.tree = unique text h.tree k.tree h.spelled k.spelled in
    let other : StandsFor names k.tree f = subst (λ t. StandsFor names t f) same h.stands in
    absurd (let one = other.known in let two = k.first.unknown in cc)
formulas_have_no_fault unique syntax text names f (NotAffine at) h k =
    let same : h.tree ≡ k.tree = unique text h.tree k.tree h.spelled k.spelled in
    let other : StandsFor names k.tree f = subst (λ t. StandsFor names t f) same h.stands in
    absurd (all_fit names k.tree k.token other.fit k.first.breaks)
formulas_have_no_fault unique syntax text names f (Memory error) h k = tt
