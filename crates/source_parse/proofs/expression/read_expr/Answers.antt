use Rattle.concrete_syntax.specs.Mirror.{expression as expression_tree}
use Rattle.source_parse.proofs.expression.read_expr.Goals as goal

pub returns-in-Err-clause-fault : goal.returns-in-Err-clause-fault
returns-in-Err-clause-fault c = c.of_syntax.ensures.expression c.args.text.now c.args.tokens.now c.args.level c.args.at c.in-Err.ensures.fault

pub returns-clause-read : goal.returns-clause-read
returns-clause-read c =
    let tree = expression_tree c.in-Ok.found.0 in
    record {
      tree = tree;
      stands = c.in-Ok.ensures.read;
      value = c.valued-value.ensures c.args.scope c.args.number tree c.in-Ok-meaning.ensures.meaning c.in-Ok-meaning.ensures.least;
      levels = c.in-Ok-expression_levels.ensures;
    }
