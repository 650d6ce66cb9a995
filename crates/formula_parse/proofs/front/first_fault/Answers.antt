use Rattle.std.proofs.Common.{sym, ◌∙◌}
use Rattle.formula_parse.proofs.Firsts.{unknown_first}
use Rattle.formula_parse.proofs.front.first_fault.Goals as goal

pub returns-then-token-broken : goal.returns-then-token-broken
returns-then-token-broken c = λ names tree lexed spelled e broken. record {
  short = c.requires.short;
  tree = tree;
  spelled = spelled;
  tokens = c.args.tokens.now;
  lexed = lexed;
  token = c.in-Some.token;
  first = unknown_first names tree c.in-Some.token c.args.broken (sym c.in-Some.is ∙ e) broken c.if-token-broken.true;
  offset = c.offset_in.ensures;
}
