use Rattle.std.proofs.Common.{sym, ◌∙◌, subst}
use Rattle.formula_syntax.specs.Mirror.{formula as formula_of}
use Rattle.formula_parse.specs.Faults.{BreaksAt}
use Rattle.formula_parse.specs.Refusing.{OnAtom}
use Rattle.formula_parse.proofs.Firsts.{unknown_alone}
use Rattle.formula_parse.proofs.front.meant.Goals as goal

pub returns-in-Some-clause-fault : goal.returns-in-Some-clause-fault
returns-in-Some-clause-fault c = record {
  short = c.requires.short;
  tree = formula_of c.args.tree.now;
  spelled = c.requires.spelled;
  tokens = c.args.tokens.now;
  lexed = c.requires.lexed;
  token = c.in-Some.token;
  first = unknown_alone _ _ _ (sym c.in-Some.is ∙ c.first_unknown-unknown.ensures) c.in-Ok.ensures.meaning.0;
  offset = c.offset_in.ensures;
}

pub returns-in-NotAffine-clause-fault : goal.returns-in-NotAffine-clause-fault
returns-in-NotAffine-clause-fault c =
    c.first_fault.ensures _ _ c.requires.lexed c.requires.spelled c.first_unknown-unknown.ensures
    (subst (λ r. OnAtom r (BreaksAt c.args.names.now (formula_of c.args.tree.now))) c.in-NotAffine.is c.in-Err.ensures.refused)
