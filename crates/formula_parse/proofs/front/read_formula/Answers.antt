use Rattle.ctl_formula.specs.Mirror.{ctl}
use Rattle.formula_syntax.specs.Mirror.{formula as formula_of}
use Rattle.formula_parse.proofs.front.read_formula.Goals as goal

pub returns-in-Err-clause-fault : goal.returns-in-Err-clause-fault
returns-in-Err-clause-fault c = c.of_syntax.ensures _ _ c.if-bytes-gt-MOST_BYTES.false c.in-Err.ensures.fault

pub returns-clause-complements : goal.returns-clause-complements
returns-clause-complements c =
    c.complements_of_texts_fit.ensures c.args.text.now c.args.names.now (ctl c.in_ok-made.made)
    record {
      short = c.if-bytes-gt-MOST_BYTES.false;
      tree = formula_of c.in-Ok.syntax.tree;
      spelled = c.in-Ok.ensures.syntax;
      stands = c.in_ok-made.ensures.formula;
    }

pub returns-clause-variables : goal.returns-clause-variables
returns-clause-variables c =
    c.texts_name_their_variables.ensures c.args.text.now c.args.names.now (ctl c.in_ok-made.made)
    record {
      short = c.if-bytes-gt-MOST_BYTES.false;
      tree = formula_of c.in-Ok.syntax.tree;
      spelled = c.in-Ok.ensures.syntax;
      stands = c.in_ok-made.ensures.formula;
    }
