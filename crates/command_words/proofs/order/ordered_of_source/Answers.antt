use Rattle.std.proofs.Common.{◌≡◌, ◌∙◌, Some, sym, ap, subst, option_map, codes}
use Rattle.clap.specs.Words.{found_of}
use Rattle.command_words.specs.Command.{values_of}
use Rattle.command_words.specs.Order.{IsGiven, task_of}
use Rattle.command_words.proofs.Asking.{fit_requests, task_requests}
use Rattle.command_words.proofs.order.ordered_of_source.Goals as goal

pub returns-in-Some : goal.returns-in-Some
returns-in-Some c =
    fit_requests (values_of (found_of c.args.matches.now)) c.in-Some.domain c.requires
    (subst (λ given. IsGiven (values_of (found_of c.args.matches.now) (codes "fit")) given) c.if-is_given.true (subst (λ value. IsGiven value c.is_given.result) c.value_of.ensures c.is_given.ensures))
    (λ other. let told = c.fit_of.ensures other in (λ same. told.0 (c.in-Some.is ∙ same), λ asked. sym c.in-Some.is ∙ told.1 asked))

pub returns-in-Some-query_of : goal.returns-in-Some-query_of
returns-in-Some-query_of c =
    task_requests (values_of (found_of c.args.matches.now)) (task_of c.in-Some-query_of.query) c.requires
    (subst (λ given. IsGiven (values_of (found_of c.args.matches.now) (codes "fit")) given) c.if-is_given.false (subst (λ value. IsGiven value c.is_given.result) c.value_of.ensures c.is_given.ensures))
    (λ other. let told = c.query_of.ensures other in
    let is : option_map task_of c.query_of.result ≡ Some (task_of c.in-Some-query_of.query) = ap (option_map task_of) c.in-Some-query_of.is in
    (λ same. told.0 (is ∙ same), λ asked. sym is ∙ told.1 asked))
