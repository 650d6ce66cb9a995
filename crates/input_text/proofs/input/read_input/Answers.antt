use Rattle.std.proofs.Common.{◌≡◌, ◌∙◌, ℕ, List, true, false, sym, subst, ap, Some, arith}
use Rattle.std.proofs.lemmas.Grind.{common_steps}
use Rattle.linear_cons.specs.Numbers.{number_at}
use Rattle.input_text.specs.Input.{IsPairText, name_at}
use Rattle.input_text.proofs.Unique.{same_input}
use Rattle.input_text.proofs.input.read_input.Goals as goal

pub returns-in_err-input-clause-finds : goal.returns-in_err-input-clause-finds
returns-in_err-input-clause-finds c = λ names input is.
    let none = c.in_err-input.ensures.none in
    let any = is.some none.0 none.1 in
    let number = number_at input none.0 in
    absurd (none.2 any.0 any.1 any.2 number (subst (λ (piece : List ℕ). IsPairText (name_at c.args.names.now none.0) number piece) (sym any.3) any.4))

pub returns-then-not-are_pairs-clause-finds : goal.returns-then-not-are_pairs-clause-finds
returns-then-not-are_pairs-clause-finds c = λ names input is.
    let same : c.in_ok-input.input ≡ input =
    same_input c.args.names.now names c.args.text.now input c.in_ok-input.input is c.in_ok-input.ensures.input c.in_ok-input.ensures.given in
    let told = c.are_pairs.ensures.1 (rw same is.each) in
    let not = c.if-not-are_pairs.true in absurd (let wrong : false ≡ true = sym not ∙ told in cc)

pub returns-clause-finds : goal.returns-clause-finds
returns-clause-finds c = λ names input is.
    ap Some (same_input c.args.names.now names c.args.text.now input c.in_ok-input.input is c.in_ok-input.ensures.input c.in_ok-input.ensures.given)

pub returns-clause-is : goal.returns-clause-is
returns-clause-is c = grind (arith, common_steps)
