use Rattle.std.proofs.Common.{◌≡◌, ◌≢◌, false, true, rules, slice_get, slice_index_or, sym, ◌∙◌}
use Rattle.std.proofs.lemmas.Bool.{ne_eqb}
use Rattle.step_meaning.specs.Syntax.{statements}
use Rattle.control_flow.specs.Labels.{action_at}
use Rattle.control_flow.specs.Told.{no_bounds, told_at}
use Rattle.tree_check.proofs.Beside.{marked_apart}
use Rattle.tree_check.proofs.Reading.{arcs_avoid, outcome_avoids, value_avoids}
use Rattle.tree_check.proofs.rounds.Premises.is_same_around.Goals as goal

pub returns : goal.returns
returns g c own =
    let label = c.args.label in
    let action = action_at (statements c.args.self.now.graph.now.body) label in
    let bounds = told_at g.D.NumDomain.told_bounds no_bounds (slice_get c.args.self.now.inv.now label) in
    let edges = c.edges-edges.result in
    let are = c.edges-edges.ensures in
    let first = c.target.result in
    let next = c.target-2.result in
    let same_first : slice_index_or c.args.same.now first false ≡ true = search rules in
    let same_next : slice_index_or c.args.same.now next false ≡ true = search rules in record {
      own = sym c.is_same-3.ensures ∙ own;
      ahead = λ other unmarked.
          let apart : first ≢ other = marked_apart c.args.same.now first other same_first unmarked in
          let next_apart = ne_eqb next other (marked_apart c.args.same.now next other same_next unmarked) in record {
            every = arcs_avoid label other action edges first next are c.target.ensures c.target-2.ensures apart next_apart bounds;
            outcomes = outcome_avoids label other action edges first next are c.target.ensures c.target-2.ensures apart next_apart bounds;
            values = value_avoids label other action edges first next are c.target.ensures c.target-2.ensures apart next_apart;
          };
    }
