use Rattle.std.proofs.Common.{◌≡◌, ◌∙◌, sym, ap, refl, arith, rules}
use Rattle.formula_syntax.specs.declared.sign.Sign.TheVariants as Mark
use Rattle.formula_syntax.specs.declared.opening.Opening.TheVariants as Opening
use Rattle.formula_syntax.specs.Mirror.{part, chain, sum, tail}
use Rattle.formula_syntax.specs.Inners.{inner, inner_end, inner_of}
use Rattle.formula_syntax.specs.Trees.{prefixed, compared, joined}
use Rattle.formula_syntax.specs.Pending.{of_formula}
use Rattle.derivation.specs.declared.rule.Rule.TheVariants.{Nesting, Operators}
use Rattle.formula_syntax.proofs.Steps.{over, fails, read, exceeds, lawful, goes, stuck, held, taken, left_out, not_next, failed_on, passed_on, mark_reads, opening_reads, mark_refused, opening_refused, told}
use Rattle.formula_syntax.proofs.Words.{next_word, part_word, connective_word}
use Rattle.formula_syntax.proofs.Parts.{located_groups, parts, inners, inner_ends, chain_ends, connectives, formula_goes, prefixes, quantifiers}
use Rattle.formula_syntax.proofs.Groups.{grouped_part, grouped_inner, properly}
use Rattle.formula_syntax.proofs.part.+parts.Goals as goal

-- formulas and what stands behind their first parts
pub formula-returns-in_err-first-clause-refused : goal.formula-returns-in_err-first-clause-refused
formula-returns-in_err-first-clause-refused t c =
    passed_on _ _ _ _ c.from_residual.ensures c.in_err-first.ensures.refused
    (λ fault refused behind. fails (formula_goes _ _ behind _) (refused _))

pub formula-returns-in_err-chain-clause-refused : goal.formula-returns-in_err-chain-clause-refused
formula-returns-in_err-chain-clause-refused t c =
    passed_on _ _ _ _ c.from_residual-in_err-chain.ensures c.in_err-chain.ensures.refused
    (λ fault refused behind. fails (formula_goes _ _ behind _) (fails (c.in_ok-first.ensures.read _) (refused _)))

pub formula-returns-clause-read : goal.formula-returns-clause-read
formula-returns-clause-read t c = λ behind. over (formula_goes _ _ behind _) (over (c.in_ok-first.ensures.read _) (c.in_ok-chain.ensures.read _))

pub chain-returns-in-None-clause-read : goal.chain-returns-in-None-clause-read
chain-returns-in-None-clause-read t c = λ behind. chain_ends _ _ behind _ (sym c.in-None.is ∙ c.connective_of.ensures.class)

pub joined-returns-then-more-gt-MOST_OPERATORS-clause-refused : goal.joined-returns-then-more-gt-MOST_OPERATORS-clause-refused
joined-returns-then-more-gt-MOST_OPERATORS-clause-refused t c = λ behind.
    exceeds (connectives _ behind c.args.connective) lawful (next_word c.args.reader.words.now c.args.at (connective_word _ c.args.connective c.requires.opens)) Operators (λ e. cc) (omega arith, c.if-more-gt-MOST_OPERATORS.true)

pub joined-returns-in_err-first-clause-refused : goal.joined-returns-in_err-first-clause-refused
joined-returns-in_err-first-clause-refused t c =
    passed_on _ _ _ _ c.from_residual.ensures c.in_err-first.ensures.refused
    (λ fault refused behind.
    fails (read (connectives _ behind c.args.connective) (next_word c.args.reader.words.now c.args.at (connective_word _ c.args.connective c.requires.opens)) (omega arith, c.if-more-gt-MOST_OPERATORS.false)) (refused _))

pub joined-returns-in_err-others-clause-refused : goal.joined-returns-in_err-others-clause-refused
joined-returns-in_err-others-clause-refused t c =
    passed_on _ _ _ _ c.from_residual-in_err-others.ensures c.in_err-others.ensures.refused
    (λ fault refused behind.
    fails (read (connectives _ behind c.args.connective) (next_word c.args.reader.words.now c.args.at (connective_word _ c.args.connective c.requires.opens)) (omega arith, c.if-more-gt-MOST_OPERATORS.false))
    (fails (c.in_ok-first.ensures.read _) (refused _)))

pub joined-returns-clause-read : goal.joined-returns-clause-read
joined-returns-clause-read t c =
    let part_kept : c.in_ok-part.part.value ≡ c.in_ok-first.first = search rules in
    let rest_kept : c.in_ok-rest.rest.value ≡ c.in_ok-others.others = search rules in
    told (ap (λ f. joined c.args.connective (part f) (chain c.in_ok-rest.rest.value)) part_kept ∙ ap (λ more. joined c.args.connective (part c.in_ok-first.first) (chain more)) rest_kept) (λ behind.
    over (read (connectives _ behind c.args.connective) (next_word c.args.reader.words.now c.args.at (connective_word _ c.args.connective c.requires.opens)) (omega arith, c.if-more-gt-MOST_OPERATORS.false))
    (over (c.in_ok-first.ensures.read _) (c.in_ok-others.ensures.read _)))

-- parts
pub part-returns-in-Truth-clause-read : goal.part-returns-in-Truth-clause-read
part-returns-in-Truth-clause-read t c =
    let opens = sym c.in-Truth.is ∙ c.opening_of_part.ensures.class in
    λ behind. over (goes (parts _ behind) _ _ (Opening.Truth c.in-Truth.value) opens)
    (mark_reads (Mark.Truth c.in-Truth.value) (refl, refl) (next_word c.args.reader.words.now c.args.at (part_word _ (Opening.Truth c.in-Truth.value) opens)))

pub part-returns-in-Exit-clause-read : goal.part-returns-in-Exit-clause-read
part-returns-in-Exit-clause-read t c =
    let opens = sym c.in-Exit.is ∙ c.opening_of_part.ensures.class in
    λ behind. over (goes (parts _ behind) _ _ Opening.Exit opens)
    (mark_reads Mark.Exit (refl, refl) (next_word c.args.reader.words.now c.args.at (part_word _ Opening.Exit opens)))

pub part-returns-in-Nothing-clause-refused : goal.part-returns-in-Nothing-clause-refused
part-returns-in-Nothing-clause-refused t c = λ behind. stuck (parts _ behind) lawful _ _ _ (λ shut. shut) (sym c.in-Nothing.is ∙ c.opening_of_part.ensures.class)

pub prefixed-returns-then-inner_levels-gt-MOST_LEVELS-clause-refused : goal.prefixed-returns-then-inner_levels-gt-MOST_LEVELS-clause-refused
prefixed-returns-then-inner_levels-gt-MOST_LEVELS-clause-refused t c = λ behind.
    exceeds (prefixes _ behind c.args.prefix) lawful (next_word c.args.reader.words.now c.args.at (part_word _ (Opening.Prefix c.args.prefix) c.requires.opens)) Nesting (λ e. cc) c.if-inner_levels-gt-MOST_LEVELS.true

pub prefixed-returns-then-more-gt-MOST_OPERATORS-clause-refused : goal.prefixed-returns-then-more-gt-MOST_OPERATORS-clause-refused
prefixed-returns-then-more-gt-MOST_OPERATORS-clause-refused t c = λ behind.
    exceeds (prefixes _ behind c.args.prefix) lawful (next_word c.args.reader.words.now c.args.at (part_word _ (Opening.Prefix c.args.prefix) c.requires.opens)) Operators (λ e. cc) (c.if-inner_levels-gt-MOST_LEVELS.false, c.if-more-gt-MOST_OPERATORS.true)

pub prefixed-returns-in_err-inner-clause-refused : goal.prefixed-returns-in_err-inner-clause-refused
prefixed-returns-in_err-inner-clause-refused t c =
    passed_on _ _ _ _ c.from_residual.ensures c.in_err-inner.ensures.refused
    (λ fault refused behind.
    fails (read (prefixes _ behind c.args.prefix) (next_word c.args.reader.words.now c.args.at (part_word _ (Opening.Prefix c.args.prefix) c.requires.opens)) (c.if-inner_levels-gt-MOST_LEVELS.false, c.if-more-gt-MOST_OPERATORS.false))
    (refused _))

pub prefixed-returns-clause-read : goal.prefixed-returns-clause-read
prefixed-returns-clause-read t c =
    let kept : c.in_ok-part.part.value ≡ c.in_ok-inner.inner = search rules in
    told (ap (λ f. prefixed c.args.prefix (part f)) kept) (λ behind.
    over (read (prefixes _ behind c.args.prefix) (next_word c.args.reader.words.now c.args.at (part_word _ (Opening.Prefix c.args.prefix) c.requires.opens)) (c.if-inner_levels-gt-MOST_LEVELS.false, c.if-more-gt-MOST_OPERATORS.false))
    (c.in_ok-inner.ensures.read _))

pub quantified-returns-then-more-gt-MOST_OPERATORS-clause-refused : goal.quantified-returns-then-more-gt-MOST_OPERATORS-clause-refused
quantified-returns-then-more-gt-MOST_OPERATORS-clause-refused t c = λ behind.
    exceeds (quantifiers _ behind c.args.all) lawful (next_word c.args.reader.words.now c.args.at (part_word _ (Opening.Quantifier c.args.all) c.requires.opens)) Operators (λ e. cc) (omega arith, c.if-more-gt-MOST_OPERATORS.true)

pub quantified-returns-in_err-open-clause-refused : goal.quantified-returns-in_err-open-clause-refused
quantified-returns-in_err-open-clause-refused t c =
    failed_on _ _ _ c.from_residual.ensures
    (λ behind. fails (read (quantifiers _ behind c.args.all) (next_word c.args.reader.words.now c.args.at (part_word _ (Opening.Quantifier c.args.all) c.requires.opens)) (omega arith, c.if-more-gt-MOST_OPERATORS.false))
    (opening_refused _ _ c.in_err-open.field-0.0 Mark.OpenBracket _ (refl, refl) c.in_err-open.ensures.missed))

pub quantified-returns-in_err-first-clause-refused : goal.quantified-returns-in_err-first-clause-refused
quantified-returns-in_err-first-clause-refused t c =
    passed_on _ _ _ _ c.from_residual-in_err-first.ensures c.in_err-first.ensures.refused
    (λ fault refused behind. fails (read (quantifiers _ behind c.args.all) (next_word c.args.reader.words.now c.args.at (part_word _ (Opening.Quantifier c.args.all) c.requires.opens)) (omega arith, c.if-more-gt-MOST_OPERATORS.false))
    (fails (opening_reads Mark.OpenBracket _ (refl, refl) c.in_ok-open.ensures.read c.in_ok-open.ensures.shallow) (refused _)))

pub quantified-returns-in_err-weak-clause-refused : goal.quantified-returns-in_err-weak-clause-refused
quantified-returns-in_err-weak-clause-refused t c =
    failed_on _ _ _ c.from_residual-in_err-weak.ensures
    (λ behind. fails (read (quantifiers _ behind c.args.all) (next_word c.args.reader.words.now c.args.at (part_word _ (Opening.Quantifier c.args.all) c.requires.opens)) (omega arith, c.if-more-gt-MOST_OPERATORS.false))
    (fails (opening_reads Mark.OpenBracket _ (refl, refl) c.in_ok-open.ensures.read c.in_ok-open.ensures.shallow)
    (fails (c.in_ok-first.ensures.read _) (c.in_err-weak.ensures.refused _ _))))

pub quantified-returns-in_err-second-clause-refused : goal.quantified-returns-in_err-second-clause-refused
quantified-returns-in_err-second-clause-refused t c =
    passed_on _ _ _ _ c.from_residual-in_err-second.ensures c.in_err-second.ensures.refused
    (λ fault refused behind. fails (read (quantifiers _ behind c.args.all) (next_word c.args.reader.words.now c.args.at (part_word _ (Opening.Quantifier c.args.all) c.requires.opens)) (omega arith, c.if-more-gt-MOST_OPERATORS.false))
    (fails (opening_reads Mark.OpenBracket _ (refl, refl) c.in_ok-open.ensures.read c.in_ok-open.ensures.shallow)
    (fails (c.in_ok-first.ensures.read _) (fails (c.in_ok-weak.ensures.read _ _) (refused _)))))

pub quantified-returns-in_err-next-clause-refused : goal.quantified-returns-in_err-next-clause-refused
quantified-returns-in_err-next-clause-refused t c =
    failed_on _ _ _ c.from_residual-in_err-next.ensures
    (λ behind. fails (read (quantifiers _ behind c.args.all) (next_word c.args.reader.words.now c.args.at (part_word _ (Opening.Quantifier c.args.all) c.requires.opens)) (omega arith, c.if-more-gt-MOST_OPERATORS.false))
    (fails (opening_reads Mark.OpenBracket _ (refl, refl) c.in_ok-open.ensures.read c.in_ok-open.ensures.shallow)
    (fails (c.in_ok-first.ensures.read _) (fails (c.in_ok-weak.ensures.read _ _) (fails (c.in_ok-second.ensures.read _)
    (mark_refused _ _ c.in_err-next.field-0.0 Mark.CloseBracket (refl, refl) c.in_err-next.ensures.missed))))))

pub quantified-returns-clause-read : goal.quantified-returns-clause-read
quantified-returns-clause-read t c = told c.in_ok-made.ensures (λ behind.
    over (read (quantifiers _ behind c.args.all) (next_word c.args.reader.words.now c.args.at (part_word _ (Opening.Quantifier c.args.all) c.requires.opens)) (omega arith, c.if-more-gt-MOST_OPERATORS.false))
    (over (opening_reads Mark.OpenBracket _ (refl, refl) c.in_ok-open.ensures.read c.in_ok-open.ensures.shallow)
    (over (c.in_ok-first.ensures.read _) (over (c.in_ok-weak.ensures.read _ _) (over (c.in_ok-second.ensures.read _)
    (mark_reads Mark.CloseBracket (refl, refl) c.in_ok-next.ensures.read))))))

-- parts that begin with a `(`
pub grouped-returns-in_err-inner-clause-refused : goal.grouped-returns-in_err-inner-clause-refused
grouped-returns-in_err-inner-clause-refused t c =
    passed_on _ _ _ _ c.from_residual.ensures c.in_err-inner.ensures.refused
    (λ fault refused behind. fails (goes (parts _ behind) _ _ Opening.Parenthesis c.requires.opens) (refused _))

pub grouped-returns-in_ok-part-in-Formula-clause-read : goal.grouped-returns-in_ok-part-in-Formula-clause-read
grouped-returns-in_ok-part-in-Formula-clause-read t c =
    told c.in_ok-part-in-Formula.ensures (λ behind. grouped_part c.requires.opens (ap inner c.in-Formula.is) c.in_ok-inner.ensures.read behind)

pub grouped-returns-in_err-tail-in-Sum-clause-refused : goal.grouped-returns-in_err-tail-in-Sum-clause-refused
grouped-returns-in_err-tail-in-Sum-clause-refused t c =
    passed_on _ _ _ _ c.from_residual-in_err-tail-in-Sum.ensures c.in_err-tail-in-Sum.ensures.refused
    (λ fault refused behind. fails (grouped_part c.requires.opens (ap inner c.in-Sum.is) c.in_ok-inner.ensures.read behind) (refused _))

pub grouped-returns-in_err-comparison-in-Sum-clause-refused : goal.grouped-returns-in_err-comparison-in-Sum-clause-refused
grouped-returns-in_err-comparison-in-Sum-clause-refused t c =
    passed_on _ _ _ _ c.from_residual-in_err-comparison-in-Sum.ensures c.in_err-comparison-in-Sum.ensures.refused
    (λ fault refused behind. fails (grouped_part c.requires.opens (ap inner c.in-Sum.is) c.in_ok-inner.ensures.read behind)
    (fails (c.in_ok-tail-in-Sum.ensures.read _) (refused _)))

pub grouped-returns-in_ok-comparison-in-Sum-clause-read : goal.grouped-returns-in_ok-comparison-in-Sum-clause-read
grouped-returns-in_ok-comparison-in-Sum-clause-read t c =
    told (ap (λ e. compared (record { factor = e; tail = tail c.in_ok-tail-in-Sum.tail }) c.in_ok-comparison-in-Sum.comparison (sum c.in_ok-comparison-in-Sum.right)) c.in_ok-factor-in-Sum.ensures) (λ behind. over (grouped_part c.requires.opens (ap inner c.in-Sum.is) c.in_ok-inner.ensures.read behind)
    (over (c.in_ok-tail-in-Sum.ensures.read _) (c.in_ok-comparison-in-Sum.ensures.read _)))

pub group-returns-in_err-open-clause-refused : goal.group-returns-in_err-open-clause-refused
group-returns-in_err-open-clause-refused t c =
    failed_on _ _ _ c.from_residual.ensures
    (λ behind. fails (held (located_groups _ behind) _ _) (opening_refused _ _ c.in_err-open.field-0.0 Mark.OpenParenthesis _ (refl, refl) c.in_err-open.ensures.missed))

pub group-returns-in_err-inner-clause-refused : goal.group-returns-in_err-inner-clause-refused
group-returns-in_err-inner-clause-refused t c =
    passed_on _ _ _ _ c.from_residual-in_err-inner.ensures c.in_err-inner.ensures.refused
    (λ fault refused behind. fails (held (located_groups _ behind) _ _)
    (fails (opening_reads Mark.OpenParenthesis _ (refl, refl) c.in_ok-open.ensures.read c.in_ok-open.ensures.shallow) (refused _)))

pub group-returns-clause-read : goal.group-returns-clause-read
group-returns-clause-read t c = λ behind. over (held (located_groups _ behind) _ _)
    (over (opening_reads Mark.OpenParenthesis _ (refl, refl) c.in_ok-open.ensures.read c.in_ok-open.ensures.shallow) (c.in_ok-inner.ensures.read _))

-- what stands in parentheses
pub inner-returns-in-Nothing-clause-refused : goal.inner-returns-in-Nothing-clause-refused
inner-returns-in-Nothing-clause-refused t c = λ behind. stuck (inners _ behind) lawful _ _ _ (λ shut. shut) (sym c.in-Nothing.is ∙ c.opening_of_part.ensures.class)

pub closed_formula-returns-in_err-formula-clause-refused : goal.closed_formula-returns-in_err-formula-clause-refused
closed_formula-returns-in_err-formula-clause-refused t c =
    passed_on _ _ _ _ c.from_residual.ensures c.in_err-formula.ensures.refused
    (λ fault refused behind. fails (properly _ _ behind _ _ refl c.requires.opens) (refused _))

pub closed_formula-returns-in_err-next-clause-refused : goal.closed_formula-returns-in_err-next-clause-refused
closed_formula-returns-in_err-next-clause-refused t c =
    failed_on _ _ _ c.from_residual-in_err-next.ensures
    (λ behind. fails (properly _ _ behind _ _ refl c.requires.opens) (fails (c.in_ok-formula.ensures.read _)
    (mark_refused _ _ c.in_err-next.field-0.0 Mark.CloseParenthesis (refl, refl) c.in_err-next.ensures.missed)))

pub closed_formula-returns-clause-read : goal.closed_formula-returns-clause-read
closed_formula-returns-clause-read t c = λ behind. over (properly _ _ behind _ _ refl c.requires.opens) (over (c.in_ok-formula.ensures.read _)
    (mark_reads Mark.CloseParenthesis (refl, refl) c.in_ok-next.ensures.read))

pub inner_sum-returns-in_err-left-clause-refused : goal.inner_sum-returns-in_err-left-clause-refused
inner_sum-returns-in_err-left-clause-refused t c =
    passed_on _ _ _ _ c.from_residual.ensures c.in_err-left.ensures.refused
    (λ fault refused behind. fails (goes (inners _ behind) _ _ Opening.Sum c.requires.opens) (refused _))

pub inner_sum-returns-in_err-end-clause-refused : goal.inner_sum-returns-in_err-end-clause-refused
inner_sum-returns-in_err-end-clause-refused t c =
    passed_on _ _ _ _ c.from_residual-in_err-end.ensures c.in_err-end.ensures.refused
    (λ fault refused behind. fails (goes (inners _ behind) _ _ Opening.Sum c.requires.opens) (fails (c.in_ok-left.ensures.read _) (refused _)))

pub inner_sum-returns-clause-read : goal.inner_sum-returns-clause-read
inner_sum-returns-clause-read t c = told c.inner_of.ensures (λ behind. over (goes (inners _ behind) _ _ Opening.Sum c.requires.opens)
    (over (c.in_ok-left.ensures.read _) (c.in_ok-end.ensures.read _)))

pub inner_group-returns-in_err-inner-clause-refused : goal.inner_group-returns-in_err-inner-clause-refused
inner_group-returns-in_err-inner-clause-refused t c =
    passed_on _ _ _ _ c.from_residual.ensures c.in_err-inner.ensures.refused
    (λ fault refused behind. fails (goes (inners _ behind) _ _ Opening.Parenthesis c.requires.opens) (refused _))

pub inner_group-returns-in_err-chain-in-Formula-clause-refused : goal.inner_group-returns-in_err-chain-in-Formula-clause-refused
inner_group-returns-in_err-chain-in-Formula-clause-refused t c =
    passed_on _ _ _ _ c.from_residual-in_err-chain-in-Formula.ensures c.in_err-chain-in-Formula.ensures.refused
    (λ fault refused behind. fails (grouped_inner c.requires.opens (ap inner c.in-Formula.is) c.in_ok-inner.ensures.read behind) (refused _))

pub inner_group-returns-in_err-next-in-Formula-clause-refused : goal.inner_group-returns-in_err-next-in-Formula-clause-refused
inner_group-returns-in_err-next-in-Formula-clause-refused t c =
    failed_on _ _ _ c.from_residual-in_err-next-in-Formula.ensures
    (λ behind. fails (grouped_inner c.requires.opens (ap inner c.in-Formula.is) c.in_ok-inner.ensures.read behind)
    (fails (c.in_ok-chain-in-Formula.ensures.read _)
    (mark_refused _ _ c.in_err-next-in-Formula.field-0.0 Mark.CloseParenthesis (refl, refl) c.in_err-next-in-Formula.ensures.missed)))

pub inner_group-returns-in_ok-next-in-Formula-clause-read : goal.inner_group-returns-in_ok-next-in-Formula-clause-read
inner_group-returns-in_ok-next-in-Formula-clause-read t c =
    told (ap (λ f. of_formula (record { part = f; chain = chain c.in_ok-chain-in-Formula.chain })) c.in_ok-part-in-Formula.ensures) (λ behind.
    over (grouped_inner c.requires.opens (ap inner c.in-Formula.is) c.in_ok-inner.ensures.read behind)
    (over (c.in_ok-chain-in-Formula.ensures.read _)
    (mark_reads Mark.CloseParenthesis (refl, refl) c.in_ok-next-in-Formula.ensures.read)))

pub inner_group-returns-in_err-tail-in-Sum-clause-refused : goal.inner_group-returns-in_err-tail-in-Sum-clause-refused
inner_group-returns-in_err-tail-in-Sum-clause-refused t c =
    passed_on _ _ _ _ c.from_residual-in_err-tail-in-Sum.ensures c.in_err-tail-in-Sum.ensures.refused
    (λ fault refused behind. fails (grouped_inner c.requires.opens (ap inner c.in-Sum.is) c.in_ok-inner.ensures.read behind) (refused _))

pub inner_group-returns-in_err-end-in-Sum-clause-refused : goal.inner_group-returns-in_err-end-in-Sum-clause-refused
inner_group-returns-in_err-end-in-Sum-clause-refused t c =
    passed_on _ _ _ _ c.from_residual-in_err-end-in-Sum.ensures c.in_err-end-in-Sum.ensures.refused
    (λ fault refused behind. fails (grouped_inner c.requires.opens (ap inner c.in-Sum.is) c.in_ok-inner.ensures.read behind)
    (fails (c.in_ok-tail-in-Sum.ensures.read _) (refused _)))

pub inner_group-returns-in_ok-end-in-Sum-clause-read : goal.inner_group-returns-in_ok-end-in-Sum-clause-read
inner_group-returns-in_ok-end-in-Sum-clause-read t c =
    told (c.inner_of.ensures ∙ ap (λ e. inner_of (record { factor = e; tail = tail c.in_ok-tail-in-Sum.tail }) (inner_end c.in_ok-end-in-Sum.end)) c.in_ok-factor-in-Sum.ensures) (λ behind. over (grouped_inner c.requires.opens (ap inner c.in-Sum.is) c.in_ok-inner.ensures.read behind)
    (over (c.in_ok-tail-in-Sum.ensures.read _) (c.in_ok-end-in-Sum.ensures.read _)))

pub inner_end-returns-in-Some-clause-read : goal.inner_end-returns-in-Some-clause-read
inner_end-returns-in-Some-clause-read t c = λ behind. taken (inner_ends _ behind) c.in-Some.ensures.read (omega arith, tt)

pub inner_compared-returns-in_err-comparison-clause-refused : goal.inner_compared-returns-in_err-comparison-clause-refused
inner_compared-returns-in_err-comparison-clause-refused t c =
    passed_on _ _ _ _ c.from_residual.ensures c.in_err-comparison.ensures.refused
    (λ fault refused behind. fails (left_out (inner_ends _ behind) (not_next _ _ c.requires.goes_on)) (refused _))

pub inner_compared-returns-in_err-chain-clause-refused : goal.inner_compared-returns-in_err-chain-clause-refused
inner_compared-returns-in_err-chain-clause-refused t c =
    passed_on _ _ _ _ c.from_residual-in_err-chain.ensures c.in_err-chain.ensures.refused
    (λ fault refused behind. fails (left_out (inner_ends _ behind) (not_next _ _ c.requires.goes_on)) (fails (c.in_ok-comparison.ensures.read _) (refused _)))

pub inner_compared-returns-in_err-next-clause-refused : goal.inner_compared-returns-in_err-next-clause-refused
inner_compared-returns-in_err-next-clause-refused t c =
    failed_on _ _ _ c.from_residual-in_err-next.ensures
    (λ behind. fails (left_out (inner_ends _ behind) (not_next _ _ c.requires.goes_on)) (fails (c.in_ok-comparison.ensures.read _) (fails (c.in_ok-chain.ensures.read _)
    (mark_refused _ _ c.in_err-next.field-0.0 Mark.CloseParenthesis (refl, refl) c.in_err-next.ensures.missed))))

pub inner_compared-returns-clause-read : goal.inner_compared-returns-clause-read
inner_compared-returns-clause-read t c = λ behind.
    over (left_out (inner_ends _ behind) (not_next _ _ c.requires.goes_on)) (over (c.in_ok-comparison.ensures.read _) (over (c.in_ok-chain.ensures.read _)
    (mark_reads Mark.CloseParenthesis (refl, refl) c.in_ok-next.ensures.read)))
