use Rattle.std.proofs.Common.{◌≡◌, ◌∙◌, ap, subst, inl, inr, List, [], map, ℕ}
use Rattle.clap.specs.Words.{App, IsAmong, Kinds, app_of, fault_of, is_simple, is_simple_and_free, kind_of, matches_of}
use Rattle.command_words.specs.Command.{command}
use Rattle.command_words.proofs.Reading.{is_free_command, is_simple_command}
use Rattle.command_words.proofs.command.read.Goals as goal

pub returns-in-Ok : goal.returns-in-Ok
returns-in-Ok c =
    let words : List (List ℕ) = map (λ word. word.now) c.args.words.now in
    let is : app_of c.in_ok-command.command ≡ command = c.in_ok-command.ensures in
    let taken = c.in-Ok.ensures.kinds (ap is_simple_and_free is ∙ is_free_command) in
    let rows = (c.in-Ok.ensures.matches (ap is_simple is ∙ is_simple_command)).0 in
    (subst (λ (a : App). fault_of a words ≡ []) is taken, rows ∙ ap (λ (a : App). matches_of a words) is)

pub returns : goal.returns
returns c = λ taken.
    let words : List (List ℕ) = map (λ word. word.now) c.args.words.now in
    let is : app_of c.in_ok-command.command ≡ command = c.in_ok-command.ensures in
    let kinds = c.in-Err.ensures.kinds (ap is_simple_and_free is ∙ is_free_command) in
    let none : fault_of (app_of c.in_ok-command.command) words ≡ [] = ap (λ (a : App). fault_of a words) is ∙ taken in
    elim kinds [
      | inl memory ↦ c.in_default.not-OutOfMemory (c.kind.ensures ∙ memory)
      | inr among ↦ subst (λ (kinds : Kinds). IsAmong (kind_of c.in-Err.error) kinds) none among
    ]
