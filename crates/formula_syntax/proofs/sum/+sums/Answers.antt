use Rattle.std.proofs.Common.{◌≡◌, ◌∙◌, sym, ap, refl, rules, arith}
use mir.Val.{to_z, of_z}
use mir.Syntax.{w64}
use borrow.Author.Rules.{sfits_of}
use Rattle.std.proofs.lemmas.Int.{to_z-of_z}
use Rattle.formula_syntax.specs.declared.sign.Sign.TheVariants as Mark
use Rattle.formula_syntax.specs.declared.opening.FactorOpening.TheVariants as FactorOpening
use Rattle.formula_syntax.specs.Mirror.{factor, tail}
use Rattle.formula_syntax.specs.Trees.{number, signed, summed, further}
use Rattle.derivation.specs.declared.rule.Rule.TheVariants.{Nesting, Operators}
use Rattle.formula_syntax.proofs.Steps.{over, fails, read, exceeds, lawful, goes, stuck, held, failed_on, passed_on, mark_reads, opening_reads, mark_refused, opening_refused, number_reads, bytes_reads, bytes_refused, told}
use Rattle.formula_syntax.proofs.Words.{next_word, factor_word, operator_word}
use Rattle.formula_syntax.proofs.Sums.{located_factors, factors, signs, operators, sum_goes, tail_ends}
use Rattle.formula_syntax.proofs.sum.+sums.Goals as goal

pub sum-returns-in_err-factor-clause-refused : goal.sum-returns-in_err-factor-clause-refused
sum-returns-in_err-factor-clause-refused t c =
    passed_on _ _ _ _ c.from_residual.ensures c.in_err-factor.ensures.refused
    (λ fault refused behind. fails (sum_goes _ _ behind _) (refused _))

pub sum-returns-in_err-tail-clause-refused : goal.sum-returns-in_err-tail-clause-refused
sum-returns-in_err-tail-clause-refused t c =
    passed_on _ _ _ _ c.from_residual-in_err-tail.ensures c.in_err-tail.ensures.refused
    (λ fault refused behind. fails (sum_goes _ _ behind _) (fails (c.in_ok-factor.ensures.read _) (refused _)))

pub sum-returns-clause-read : goal.sum-returns-clause-read
sum-returns-clause-read t c = λ behind. over (sum_goes _ _ behind _) (over (c.in_ok-factor.ensures.read _) (c.in_ok-tail.ensures.read _))

pub tail-returns-in-None-clause-read : goal.tail-returns-in-None-clause-read
tail-returns-in-None-clause-read t c = λ behind. tail_ends _ _ behind _ (sym c.in-None.is ∙ c.operator_of.ensures.class)

pub further-returns-then-more-gt-MOST_OPERATORS-clause-refused : goal.further-returns-then-more-gt-MOST_OPERATORS-clause-refused
further-returns-then-more-gt-MOST_OPERATORS-clause-refused t c = λ behind.
    exceeds (operators _ behind c.args.op) lawful (next_word c.args.reader.words.now c.args.at (operator_word _ c.args.op c.requires.opens)) Operators (λ e. cc) (omega arith, c.if-more-gt-MOST_OPERATORS.true)

pub further-returns-in_err-first-clause-refused : goal.further-returns-in_err-first-clause-refused
further-returns-in_err-first-clause-refused t c =
    passed_on _ _ _ _ c.from_residual.ensures c.in_err-first.ensures.refused
    (λ fault refused behind.
    fails (read (operators _ behind c.args.op) (next_word c.args.reader.words.now c.args.at (operator_word _ c.args.op c.requires.opens)) (omega arith, c.if-more-gt-MOST_OPERATORS.false)) (refused _))

pub further-returns-in_err-others-clause-refused : goal.further-returns-in_err-others-clause-refused
further-returns-in_err-others-clause-refused t c =
    passed_on _ _ _ _ c.from_residual-in_err-others.ensures c.in_err-others.ensures.refused
    (λ fault refused behind.
    fails (read (operators _ behind c.args.op) (next_word c.args.reader.words.now c.args.at (operator_word _ c.args.op c.requires.opens)) (omega arith, c.if-more-gt-MOST_OPERATORS.false))
    (fails (c.in_ok-first.ensures.read _) (refused _)))

pub further-returns-clause-read : goal.further-returns-clause-read
further-returns-clause-read t c =
    let factor_kept : c.in_ok-factor.factor.value ≡ c.in_ok-first.first = search rules in
    let rest_kept : c.in_ok-rest.rest.value ≡ c.in_ok-others.others = search rules in
    told (ap (λ e. further c.args.op (factor e) (tail c.in_ok-rest.rest.value)) factor_kept ∙ ap (λ more. further c.args.op (factor c.in_ok-first.first) (tail more)) rest_kept) (λ behind.
    over (read (operators _ behind c.args.op) (next_word c.args.reader.words.now c.args.at (operator_word _ c.args.op c.requires.opens)) (omega arith, c.if-more-gt-MOST_OPERATORS.false))
    (over (c.in_ok-first.ensures.read _) (c.in_ok-others.ensures.read _)))

pub factor-returns-in_err-kind-clause-refused : goal.factor-returns-in_err-kind-clause-refused
factor-returns-in_err-kind-clause-refused t c =
    passed_on _ _ _ _ c.from_residual.ensures c.in_err-kind.ensures.refused
    (λ fault refused behind. fails (held (located_factors _ behind) _ _) (refused _))

pub factor-returns-clause-read : goal.factor-returns-clause-read
factor-returns-clause-read t c = λ behind. over (held (located_factors _ behind) _ _) (c.in_ok-kind.ensures.read _)

pub factor_kind-returns-in-Number-clause-read : goal.factor_kind-returns-in-Number-clause-read
factor_kind-returns-in-Number-clause-read t c =
    let fits = rw c.in-Number.is at c.opening_of_factor.type_inv in
    let kept : to_z w64 (of_z w64 c.in-Number.value) ≡ c.in-Number.value = to_z-of_z w64 c.in-Number.value (sfits_of fits.1.1.1.1.0.1) in
    let opens = sym c.in-Number.is ∙ c.opening_of_factor.ensures.class in
    told (ap number kept) (λ behind. over (goes (factors _ behind) _ _ (FactorOpening.Number c.in-Number.value) opens)
    (number_reads (next_word c.args.reader.words.now c.args.at (factor_word _ (FactorOpening.Number c.in-Number.value) opens))))

pub factor_kind-returns-in_err-name-in-Name-clause-refused : goal.factor_kind-returns-in_err-name-in-Name-clause-refused
factor_kind-returns-in_err-name-in-Name-clause-refused t c =
    passed_on _ _ _ _ c.from_residual.ensures c.in_err-name-in-Name.ensures.missed
    (λ fault missed behind. fails (goes (factors _ behind) _ _ FactorOpening.Name (sym c.in-Name.is ∙ c.opening_of_factor.ensures.class)) (bytes_refused _ _ fault missed))

pub factor_kind-returns-in_ok-name-in-Name-clause-read : goal.factor_kind-returns-in_ok-name-in-Name-clause-read
factor_kind-returns-in_ok-name-in-Name-clause-read t c = λ behind.
    over (goes (factors _ behind) _ _ FactorOpening.Name (sym c.in-Name.is ∙ c.opening_of_factor.ensures.class)) (bytes_reads c.in_ok-name-in-Name.ensures.read)

pub factor_kind-returns-in-Nothing-clause-refused : goal.factor_kind-returns-in-Nothing-clause-refused
factor_kind-returns-in-Nothing-clause-refused t c = λ behind.
    stuck (factors _ behind) lawful _ _ _ (λ shut. shut) (sym c.in-Nothing.is ∙ c.opening_of_factor.ensures.class)

pub signed-returns-then-inner_levels-gt-MOST_LEVELS-clause-refused : goal.signed-returns-then-inner_levels-gt-MOST_LEVELS-clause-refused
signed-returns-then-inner_levels-gt-MOST_LEVELS-clause-refused t c = λ behind.
    exceeds (signs _ behind c.args.negative) lawful (next_word c.args.reader.words.now c.args.at (factor_word _ (FactorOpening.Signed c.args.negative) c.requires.opens)) Nesting (λ e. cc) c.if-inner_levels-gt-MOST_LEVELS.true

pub signed-returns-then-more-gt-MOST_OPERATORS-clause-refused : goal.signed-returns-then-more-gt-MOST_OPERATORS-clause-refused
signed-returns-then-more-gt-MOST_OPERATORS-clause-refused t c = λ behind.
    exceeds (signs _ behind c.args.negative) lawful (next_word c.args.reader.words.now c.args.at (factor_word _ (FactorOpening.Signed c.args.negative) c.requires.opens)) Operators (λ e. cc) (c.if-inner_levels-gt-MOST_LEVELS.false, c.if-more-gt-MOST_OPERATORS.true)

pub signed-returns-in_err-inner-clause-refused : goal.signed-returns-in_err-inner-clause-refused
signed-returns-in_err-inner-clause-refused t c =
    passed_on _ _ _ _ c.from_residual.ensures c.in_err-inner.ensures.refused
    (λ fault refused behind.
    fails (read (signs _ behind c.args.negative) (next_word c.args.reader.words.now c.args.at (factor_word _ (FactorOpening.Signed c.args.negative) c.requires.opens)) (c.if-inner_levels-gt-MOST_LEVELS.false, c.if-more-gt-MOST_OPERATORS.false))
    (refused _))

pub signed-returns-clause-read : goal.signed-returns-clause-read
signed-returns-clause-read t c =
    let kept : c.in_ok-factor.factor.value ≡ c.in_ok-inner.inner = search rules in
    told (ap (λ e. signed c.args.negative (factor e)) kept) (λ behind.
    over (read (signs _ behind c.args.negative) (next_word c.args.reader.words.now c.args.at (factor_word _ (FactorOpening.Signed c.args.negative) c.requires.opens)) (c.if-inner_levels-gt-MOST_LEVELS.false, c.if-more-gt-MOST_OPERATORS.false))
    (c.in_ok-inner.ensures.read _))

pub summed-returns-in_err-inner-clause-refused : goal.summed-returns-in_err-inner-clause-refused
summed-returns-in_err-inner-clause-refused t c =
    failed_on _ _ _ c.from_residual.ensures
    (λ behind. fails (goes (factors _ behind) _ _ FactorOpening.Parenthesis c.requires.opens)
    (opening_refused _ _ c.in_err-inner.field-0.0 Mark.OpenParenthesis _ (refl, refl) c.in_err-inner.ensures.missed))

pub summed-returns-in_err-value-clause-refused : goal.summed-returns-in_err-value-clause-refused
summed-returns-in_err-value-clause-refused t c =
    passed_on _ _ _ _ c.from_residual-in_err-value.ensures c.in_err-value.ensures.refused
    (λ fault refused behind. fails (goes (factors _ behind) _ _ FactorOpening.Parenthesis c.requires.opens)
    (fails (opening_reads Mark.OpenParenthesis _ (refl, refl) c.in_ok-inner.ensures.read c.in_ok-inner.ensures.shallow)
    (refused _)))

pub summed-returns-in_err-next-clause-refused : goal.summed-returns-in_err-next-clause-refused
summed-returns-in_err-next-clause-refused t c =
    failed_on _ _ _ c.from_residual-in_err-next.ensures
    (λ behind. fails (goes (factors _ behind) _ _ FactorOpening.Parenthesis c.requires.opens)
    (fails (opening_reads Mark.OpenParenthesis _ (refl, refl) c.in_ok-inner.ensures.read c.in_ok-inner.ensures.shallow)
    (fails (c.in_ok-value.ensures.read _)
    (mark_refused _ _ c.in_err-next.field-0.0 Mark.CloseParenthesis (refl, refl) c.in_err-next.ensures.missed))))

pub summed-returns-clause-read : goal.summed-returns-clause-read
summed-returns-clause-read t c =
    let factor_kept : c.in_ok-factor.factor.value ≡ c.in_ok-value.value.factor = search rules in
    let tail_kept : c.in_ok-tail.tail.value ≡ c.in_ok-value.value.tail = search rules in
    told (ap (λ e. summed (factor e) (tail c.in_ok-tail.tail.value)) factor_kept ∙ ap (λ more. summed (factor c.in_ok-value.value.factor) (tail more)) tail_kept) (λ behind. over (goes (factors _ behind) _ _ FactorOpening.Parenthesis c.requires.opens)
    (over (opening_reads Mark.OpenParenthesis _ (refl, refl) c.in_ok-inner.ensures.read c.in_ok-inner.ensures.shallow)
    (over (c.in_ok-value.ensures.read _) (mark_reads Mark.CloseParenthesis (refl, refl) c.in_ok-next.ensures.read))))
