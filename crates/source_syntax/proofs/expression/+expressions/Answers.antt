use Rattle.std.proofs.Common.{◌≡◌, [], ◌∷◌, ◌∙◌, sym, ap, refl, arith, rules}
use mir.Val.{to_z, of_z}
use mir.Syntax.{w64}
use borrow.Author.Rules.{sfits_of}
use Rattle.std.proofs.lemmas.Int.{to_z-of_z}
use Rattle.derivation.specs.declared.symbol.Symbol.TheVariants as Sym
use Rattle.source_syntax.specs.declared.opening.OperandOpening.TheVariants as OperandOpening
use Rattle.concrete_syntax.specs.Mirror.{operand, tail, links}
use Rattle.concrete_syntax.specs.Chains.{tail_of}
use Rattle.source_syntax.specs.Pending.{a_tail}
use Rattle.concrete_syntax.specs.Trees.{number, parentheses, signed}
use Rattle.derivation.specs.declared.rule.Rule.TheVariants.{Nesting, Operators}
use Rattle.source_syntax.proofs.Steps.{over, fails, stay, refilled, read, exceeds, lawful, goes, stuck, held, failed_on, passed_on, sign_reads, number_reads, opening_reads, bytes_reads, sign_refused, opening_refused, bytes_refused}
use Rattle.source_syntax.proofs.Words.{next_word, operand_word, link_word}
use Rattle.source_syntax.proofs.Expressions.{truth_quiet, operands, located_operands, prefixes, link_signs, tail_ends, expression_goes}
use Rattle.source_syntax.proofs.Loops.{tail_over, one_link_more, told}
use Rattle.source_syntax.proofs.expression.+expressions.Goals as goal

pub expression-returns-in_err-operand-clause-refused : goal.expression-returns-in_err-operand-clause-refused
expression-returns-in_err-operand-clause-refused t c =
    passed_on _ _ _ _ c.from_residual.ensures c.in_err-operand.ensures.refused
    (λ fault refused behind. fails (expression_goes _ _ behind _) (refused _))

pub expression-returns-in_err-tail-clause-refused : goal.expression-returns-in_err-tail-clause-refused
expression-returns-in_err-tail-clause-refused t c =
    passed_on _ _ _ _ c.from_residual-in_err-tail.ensures c.in_err-tail.ensures.refused
    (λ fault refused behind. fails (expression_goes _ _ behind _) (fails (c.in_ok-operand.ensures.read _) (refused _)))

pub expression-returns-clause-read : goal.expression-returns-clause-read
expression-returns-clause-read t c = λ behind. over (expression_goes _ _ behind _) (over (c.in_ok-operand.ensures.read _) (c.in_ok-tail.ensures.read _))

pub tail-operators-init : goal.tail-operators-init
tail-operators-init t c =
    let none : c.new-links.result.items ≡ [] = search rules in record {
      forward = omega arith;
      inside = c.requires.within;
      few = c.requires.few;
      comes = λ behind. refilled (λ g. ap (λ l. (tail_of (links l) g.0, g.1)) (sym none)) (stay _ (a_tail _ ∷ behind) _);
    }

pub tail-returns-then-count-gt-MOST_OPERATORS-clause-refused : goal.tail-returns-then-count-gt-MOST_OPERATORS-clause-refused
tail-returns-then-count-gt-MOST_OPERATORS-clause-refused t c = λ behind.
    fails (c.operators.invariant.comes behind)
    (exceeds (link_signs _ behind c.in-Some.link) lawful
    (next_word c.args.reader.words.now c.operators.here (link_word _ c.in-Some.link (sym c.in-Some.is ∙ c.link_opening.ensures))) Operators (λ e. cc) (omega arith, c.if-count-gt-MOST_OPERATORS.true))

pub tail-returns-in_err-further-in-Some-clause-refused : goal.tail-returns-in_err-further-in-Some-clause-refused
tail-returns-in_err-further-in-Some-clause-refused t c =
    let next = next_word c.args.reader.words.now c.operators.here (link_word _ c.in-Some.link (sym c.in-Some.is ∙ c.link_opening.ensures)) in
    passed_on _ _ _ _ c.from_residual.ensures c.in_err-further-in-Some.ensures.refused
    (λ fault refused behind. fails (c.operators.invariant.comes behind) (fails (read (link_signs _ behind c.in-Some.link) next (omega arith, c.if-count-gt-MOST_OPERATORS.false)) (refused _)))

pub tail-operators-preserved : goal.tail-operators-preserved
tail-operators-preserved t c =
    let next = next_word c.args.reader.words.now c.operators.here (link_word _ c.in-Some.link (sym c.in-Some.is ∙ c.link_opening.ensures)) in
    record {
      forward = omega (arith, c.operators.invariant.forward, c.in_ok-further-in-Some.ensures.forward.forward);
      inside = c.in_ok-further-in-Some.ensures.forward.inside;
      few = c.in_ok-further-in-Some.ensures.counted;
      comes = tail_over _ _ _ _ _ _ _ _ c.in-Some.link _ _ _ (one_link_more _ _ c.in_ok-further-in-Some.further (search rules)) c.operators.invariant.comes
          (λ behind. read (link_signs _ behind c.in-Some.link) next (omega arith, c.if-count-gt-MOST_OPERATORS.false)) c.in_ok-further-in-Some.ensures.read;
    }

pub tail-returns-in-None-clause-read : goal.tail-returns-in-None-clause-read
tail-returns-in-None-clause-read t c = λ behind. refilled (λ g. ap (λ t. (t, g)) (sym c.in_ok-made-in-None.ensures))
    (over (c.operators.invariant.comes behind) (tail_ends _ _ behind _ (sym c.in-None.is ∙ c.link_opening.ensures)))

pub right-returns-in_err-operand-in-Operation-clause-refused : goal.right-returns-in_err-operand-in-Operation-clause-refused
right-returns-in_err-operand-in-Operation-clause-refused t c =
    passed_on _ _ _ _ c.from_residual.ensures c.in_err-operand-in-Operation.ensures.refused (λ fault refused. rw c.in-Operation.is refused)

pub right-returns-in_ok-operand-in-Operation-clause-read : goal.right-returns-in_ok-operand-in-Operation-clause-read
right-returns-in_ok-operand-in-Operation-clause-read t c = rw c.in-Operation.is (record { tree = _; made = refl; reads = c.in_ok-operand-in-Operation.ensures.read })

pub right-returns-in_err-divisor-in-Division-clause-refused : goal.right-returns-in_err-divisor-in-Division-clause-refused
right-returns-in_err-divisor-in-Division-clause-refused t c =
    failed_on _ _ _ c.from_residual-in_err-divisor-in-Division.ensures (rw c.in-Division.is (c.in_err-divisor-in-Division.ensures.refused _))

pub right-returns-in_ok-divisor-in-Division-clause-read : goal.right-returns-in_ok-divisor-in-Division-clause-read
right-returns-in_ok-divisor-in-Division-clause-read t c = rw c.in-Division.is (record { tree = _; made = refl; reads = c.in_ok-divisor-in-Division.ensures.read _ })

pub operand-returns-in_err-kind-clause-refused : goal.operand-returns-in_err-kind-clause-refused
operand-returns-in_err-kind-clause-refused t c =
    passed_on _ _ _ _ c.from_residual.ensures c.in_err-kind.ensures.refused
    (λ fault refused behind. fails (held (located_operands _ behind) _ _) (refused behind))

pub operand-returns-clause-read : goal.operand-returns-clause-read
operand-returns-clause-read t c = λ behind. over (held (located_operands _ behind) _ _) (c.in_ok-kind.ensures.read behind)

pub operand_kind-returns-in-Number-clause-read : goal.operand_kind-returns-in-Number-clause-read
operand_kind-returns-in-Number-clause-read t c =
    let fits = rw c.in-Number.is at c.opening_of_operand.type_inv in
    let kept : to_z w64 (of_z w64 c.in-Number.value) ≡ c.in-Number.value = to_z-of_z w64 c.in-Number.value (sfits_of fits.1.1.1.1.0.1) in
    let opens = sym c.in-Number.is ∙ c.opening_of_operand.ensures in
    told (ap number kept) (λ behind. over (goes (operands _ behind) _ _ (OperandOpening.Number c.in-Number.value) opens)
    (number_reads (next_word c.args.reader.words.now c.args.at (operand_word _ (OperandOpening.Number c.in-Number.value) opens))))

pub operand_kind-returns-in_err-name-in-Name-clause-refused : goal.operand_kind-returns-in_err-name-in-Name-clause-refused
operand_kind-returns-in_err-name-in-Name-clause-refused t c =
    passed_on _ _ _ _ c.from_residual.ensures c.in_err-name-in-Name.ensures.missed
    (λ fault missed behind. fails (goes (operands _ behind) _ _ OperandOpening.Name (sym c.in-Name.is ∙ c.opening_of_operand.ensures)) (bytes_refused _ _ fault missed))

pub operand_kind-returns-in_ok-name-in-Name-clause-read : goal.operand_kind-returns-in_ok-name-in-Name-clause-read
operand_kind-returns-in_ok-name-in-Name-clause-read t c = λ behind.
    over (goes (operands _ behind) _ _ OperandOpening.Name (sym c.in-Name.is ∙ c.opening_of_operand.ensures)) (bytes_reads c.in_ok-name-in-Name.ensures.read)

pub operand_kind-returns-in-Truth-clause-read : goal.operand_kind-returns-in-Truth-clause-read
operand_kind-returns-in-Truth-clause-read t c =
    let opens = sym c.in-Truth.is ∙ c.opening_of_operand.ensures in
    λ behind. over (goes (operands _ behind) _ _ (OperandOpening.Truth c.in-Truth.value) opens)
    (sign_reads _ (truth_quiet c.in-Truth.value) (next_word c.args.reader.words.now c.args.at (operand_word _ (OperandOpening.Truth c.in-Truth.value) opens)))

pub operand_kind-returns-in-Unknown-clause-read : goal.operand_kind-returns-in-Unknown-clause-read
operand_kind-returns-in-Unknown-clause-read t c =
    let opens = sym c.in-Unknown.is ∙ c.opening_of_operand.ensures in
    λ behind. over (goes (operands _ behind) _ _ OperandOpening.Unknown opens)
    (sign_reads Sym.Question (refl, refl) (next_word c.args.reader.words.now c.args.at (operand_word _ OperandOpening.Unknown opens)))

pub operand_kind-returns-in-Nothing-clause-refused : goal.operand_kind-returns-in-Nothing-clause-refused
operand_kind-returns-in-Nothing-clause-refused t c = λ behind. stuck (operands _ behind) lawful _ _ _ (λ shut. shut) (sym c.in-Nothing.is ∙ c.opening_of_operand.ensures)

pub parentheses-returns-in_err-inner-clause-refused : goal.parentheses-returns-in_err-inner-clause-refused
parentheses-returns-in_err-inner-clause-refused t c =
    failed_on _ _ _ c.from_residual.ensures
    (λ behind. fails (goes (operands _ behind) _ _ OperandOpening.Parenthesis c.requires.opens)
    (opening_refused _ _ c.in_err-inner.field-0.0 Sym.OpenParenthesis _ (refl, refl) c.in_err-inner.ensures.missed))

pub parentheses-returns-in_err-value-clause-refused : goal.parentheses-returns-in_err-value-clause-refused
parentheses-returns-in_err-value-clause-refused t c =
    passed_on _ _ _ _ c.from_residual-in_err-value.ensures c.in_err-value.ensures.refused
    (λ fault refused behind. fails (goes (operands _ behind) _ _ OperandOpening.Parenthesis c.requires.opens)
    (fails (opening_reads Sym.OpenParenthesis _ (refl, refl) c.in_ok-inner.ensures.read c.in_ok-inner.ensures.shallow)
    (refused _)))

pub parentheses-returns-in_err-next-clause-refused : goal.parentheses-returns-in_err-next-clause-refused
parentheses-returns-in_err-next-clause-refused t c =
    failed_on _ _ _ c.from_residual-in_err-next.ensures
    (λ behind. fails (goes (operands _ behind) _ _ OperandOpening.Parenthesis c.requires.opens)
    (fails (opening_reads Sym.OpenParenthesis _ (refl, refl) c.in_ok-inner.ensures.read c.in_ok-inner.ensures.shallow)
    (fails (c.in_ok-value.ensures.read _)
    (sign_refused _ _ c.in_err-next.field-0.0 Sym.CloseParenthesis (refl, refl) c.in_err-next.ensures.missed))))

pub parentheses-returns-clause-read : goal.parentheses-returns-clause-read
parentheses-returns-clause-read t c =
    let operand_kept : c.in_ok-operand.operand.value ≡ c.in_ok-value.value.operand = search rules in
    let tail_kept : c.in_ok-tail.tail.value ≡ c.in_ok-value.value.tail = search rules in
    told (ap (λ e. parentheses (operand e) (tail c.in_ok-tail.tail.value)) operand_kept ∙ ap (λ more. parentheses (operand c.in_ok-value.value.operand) (tail more)) tail_kept) (λ behind. over (goes (operands _ behind) _ _ OperandOpening.Parenthesis c.requires.opens)
    (over (opening_reads Sym.OpenParenthesis _ (refl, refl) c.in_ok-inner.ensures.read c.in_ok-inner.ensures.shallow)
    (over (c.in_ok-value.ensures.read _) (sign_reads Sym.CloseParenthesis (refl, refl) c.in_ok-next.ensures.read))))

pub signed-returns-then-inner_levels-gt-MOST_LEVELS-clause-refused : goal.signed-returns-then-inner_levels-gt-MOST_LEVELS-clause-refused
signed-returns-then-inner_levels-gt-MOST_LEVELS-clause-refused t c = λ behind.
    exceeds (prefixes _ behind c.args.prefix) lawful (next_word c.args.reader.words.now c.args.at (operand_word _ (OperandOpening.Signed c.args.prefix) c.requires.opens)) Nesting (λ e. cc) c.if-inner_levels-gt-MOST_LEVELS.true

pub signed-returns-in_err-inner-clause-refused : goal.signed-returns-in_err-inner-clause-refused
signed-returns-in_err-inner-clause-refused t c =
    let next = next_word c.args.reader.words.now c.args.at (operand_word _ (OperandOpening.Signed c.args.prefix) c.requires.opens) in
    passed_on _ _ _ _ c.from_residual.ensures c.in_err-inner.ensures.refused
    (λ fault refused behind. fails (read (prefixes _ behind c.args.prefix) next (c.if-inner_levels-gt-MOST_LEVELS.false, tt)) (refused behind))

pub signed-returns-clause-read : goal.signed-returns-clause-read
signed-returns-clause-read t c =
    let next = next_word c.args.reader.words.now c.args.at (operand_word _ (OperandOpening.Signed c.args.prefix) c.requires.opens) in
    let kept : c.in_ok-operand.operand.value ≡ c.in_ok-inner.inner = search rules in
    told (ap (λ e. signed c.args.prefix (operand e)) kept) (λ behind.
    over (read (prefixes _ behind c.args.prefix) next (c.if-inner_levels-gt-MOST_LEVELS.false, tt)) (c.in_ok-inner.ensures.read behind))
