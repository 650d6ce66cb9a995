use Rattle.std.proofs.Common.{All, subst, sym}
use Rattle.concrete_syntax.specs.Mirror.{program as program_tree}
use Rattle.elaboration.proofs.Apart.{HasNoDot}
use Rattle.elaboration.proofs.Units.{valid_unit}
use Rattle.source_parse.proofs.Named.{dotless_names}
use Rattle.source_parse.proofs.front.of_parts.Goals as goal

pub invariant_of-result : goal.invariant_of-result
invariant_of-result c =
    let tree = program_tree c.args.tree.now in
    let own = dotless_names c.tokens_spell_their_kinds.ensures c.args.text.now c.args.tokens.now tree c.requires.spelled in
    let stands = c.requires.stands in
    record {
      valid = valid_unit c.args.tokens.now tree c.args.parts.func_names c.args.parts.funcs c.args.parts.names c.args.parts.body stands
          (subst (λ names. All HasNoDot names) (sym stands.knows) own.0) (subst (λ names. All HasNoDot names) (sym stands.declares) own.1);
    }
