use Rattle.std.proofs.Common.{◌≡◌, ◌∙◌, ℕ, List, Option, Some, Bor, sym, ap, option_map, codes}
use Rattle.std.proofs.lemmas.Option.{same_Some}
use Rattle.clap.specs.Words.{found_of}
use Rattle.command_words.specs.Command.{values_of}
use Rattle.command_words.proofs.Asking.{demo_requests}
use Rattle.command_words.proofs.order.ordered.Goals as goal

pub returns-in-Some-demo_of : goal.returns-in-Some-demo_of
returns-in-Some-demo_of c =
    let is : values_of (found_of c.args.matches.now) (codes "demo") ≡ Some c.in-Some.text.now =
    sym c.value_of.ensures ∙ ap (λ (o : Option (Bor (List ℕ))). option_map (λ text. text.now) o) c.in-Some.is in
    let told = (c.demo_of.ensures c.in-Some-demo_of.number).0 c.in-Some-demo_of.is in
    demo_requests (values_of (found_of c.args.matches.now)) c.in-Some.text.now c.in-Some-demo_of.number is told.0 told.1
    (λ other count. same_Some other c.in-Some-demo_of.number (sym ((c.demo_of.ensures other).1 (count, told.1)) ∙ c.in-Some-demo_of.is))

pub ordered_of_source-requires : goal.ordered_of_source-requires
ordered_of_source-requires c =
    sym c.value_of.ensures ∙ ap (λ (o : Option (Bor (List ℕ))). option_map (λ text. text.now) o) c.in-None.is
