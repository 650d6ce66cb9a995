-- What words that were read ask for.
use Rattle.std.proofs.Common.{◌≡◌, ◌↔◌, ◌∙◌, ℕ, List, Option, None, Some, option_map, sym, ap}
use Rattle.std.proofs.lemmas.Option.{none-some, same_Some}
use Rattle.command_words.specs.declared.order.Order.{Order}
use Rattle.command_words.specs.declared.order.Order.TheVariants.{Analysis, Demo, Fit}
use Rattle.command_words.specs.declared.order.Query.{Query}
use Rattle.command_words.specs.declared.order.Domain.{Domain}
use Rattle.command_words.specs.Order.{Accepted, Ask, Request, analysis, demo, fit, request_of, task_of}
use Rattle.function_top.proofs.Running.{AskOnce}

module _ (words : List (List ℕ)) (read : Option Order) (law : (request : Request) → option_map request_of read ≡ Some request ↔ Ask words request) where
  pub once : AskOnce words
  once one other here there = same_Some one other (sym ((law one).1 here) ∙ (law other).1 there)

  pub served : (query : Query) → read ≡ Some (Analysis query) → Ask words (analysis (task_of query))
  served query is = (law (analysis (task_of query))).0 (ap (option_map request_of) is)

  pub shown : (number : ℕ) → read ≡ Some (Demo number) → Ask words (demo number)
  shown number is = (law (demo number)).0 (ap (option_map request_of) is)

  pub fitted : (domain : Domain) → read ≡ Some (Fit domain) → Ask words (fit domain)
  fitted domain is = (law (fit domain)).0 (ap (option_map request_of) is)

  pub refused : read ≡ None → ¬ Accepted words
  refused none asks = none-some asks.0 (sym (ap (option_map request_of) none) ∙ (law asks.0).1 asks.1)
