use Rattle.std.proofs.Common.{◌≡◌, List, map, sym, subst}
use Rattle.clap.specs.Words.{Row, Text, first_of, found_of, matches_of, rows_of}
use Rattle.command_words.specs.Command.{AreTaken, command}
use Rattle.command_words.specs.Order.{Requests}
use Rattle.command_words.proofs.order.order_of.Goals as goal

pub returns-in-Some : goal.returns-in-Some
returns-in-Some c = λ request.
    let words : List Text = map (λ word. word.now) c.args.words.now in
    let told : AreTaken words × (rows_of (found_of c.in-Some.matches) ≡ matches_of command words) =
    let raw = c.in_ok-matches.ensures in rw c.in-Some.is at raw in
    let ordered = c.ordered.ensures request in (
      λ said. (told.0, subst (λ (rows : List Row). Requests (λ name. first_of name rows) request) told.1 (ordered.0 said)),
      λ asked. ordered.1 (subst (λ (rows : List Row). Requests (λ name. first_of name rows) request) (sym told.1) asked.1),
    )
