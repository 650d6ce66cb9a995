use Rattle.std.proofs.Common.{◌∙◌, List, ℕ, ap, subst}
use Rattle.step_meaning.specs.declared.program.Program.{Program}
use Rattle.step_meaning.specs.Syntax.{statements}
use Rattle.source_parse.specs.Derives.{IsProgramText}
use Rattle.demo_program.specs.Demo.{demo_body, demo_names, demo_text}
use Rattle.function_top.proofs.demo.demo_graph.Goals as goal

pub parse-requires : goal.parse-requires
parse-requires c = rw c.requires.text (c.demo_texts_are_short.ensures c.args.number c.requires.few)

pub returns-in_ok-graph_of-in-Ok-clause-names : goal.returns-in_ok-graph_of-in-Ok-clause-names
returns-in_ok-graph_of-in-Ok-clause-names c =
    let program = c.in-Ok.program in
    let same =
    c.a_text_is_one_program.ensures (demo_text c.args.number) program.names demo_names (statements program.body) (demo_body c.args.number)
    (subst (λ (t : List ℕ). IsProgramText t program.names (statements program.body)) c.requires.text c.in-Ok.ensures.program)
    (c.demo_texts_are_programs.ensures c.args.number c.requires.few) in
    ap (λ (p : Program). p.names) c.in_ok-graph_of-in-Ok.ensures ∙ same.0

pub returns-in_ok-graph_of-in-Ok-clause-body : goal.returns-in_ok-graph_of-in-Ok-clause-body
returns-in_ok-graph_of-in-Ok-clause-body c =
    let program = c.in-Ok.program in
    let same =
    c.a_text_is_one_program.ensures (demo_text c.args.number) program.names demo_names (statements program.body) (demo_body c.args.number)
    (subst (λ (t : List ℕ). IsProgramText t program.names (statements program.body)) c.requires.text c.in-Ok.ensures.program)
    (c.demo_texts_are_programs.ensures c.args.number c.requires.few) in
    ap (λ (p : Program). statements p.body) c.in_ok-graph_of-in-Ok.ensures ∙ same.1
