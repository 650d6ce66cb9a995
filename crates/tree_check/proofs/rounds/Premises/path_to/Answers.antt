use Rattle.std.proofs.Common.{◌≡◌, length, map, ap, subst, sym, ◌∙◌, arith}
use Rattle.std.proofs.lemmas.Bool.{ltb-true}
use Rattle.control_flow.specs.Transitions.{transition_in}
use Rattle.control_flow.specs.declared.transition.Transition.TheVariants.{End}
use Rattle.decision_tree.specs.Paths.{path_of}
use Rattle.decision_tree.specs.Plans.{plan_of}
use Rattle.tree_support.specs.Setting.{trees_in}
use Rattle.tree_support.specs.Systems.{moved_by}
use Rattle.tree_check.specs.Narrowing.{HoldsAmong, sets_of}
use Rattle.tree_check.specs.Rounds.{setting_on}
use Rattle.std.proofs.lemmas.List.{get_or_default}
use Rattle.tree_check.proofs.Doing.{stands_at}
use Rattle.tree_check.proofs.Narrowing.{found_among, path_empty, path_held}
use Rattle.tree_check.proofs.Settling.{plan_got}
use Rattle.tree_check.proofs.Surveying.{held_empty}
use Rattle.tree_check.proofs.rounds.Premises.path_to.Goals as goal

pub returns-then-picks_values : goal.returns-then-picks_values
returns-then-picks_values g c = path_empty (setting_on g.D.NumDomain c.args.self.now) c.args.label c.new-stack.result (path_of (trees_in (map plan_of c.args.trees.now) c.args.dropped.now.label) c.args.dropped.now.leaf) (held_empty c.new-stack.result.rows c.new-stack.result.wide c.new-stack.ensures.rows c.new-stack.ensures.wide)

pub returns-in_default : goal.returns-in_default
returns-in_default g c = path_empty (setting_on g.D.NumDomain c.args.self.now) c.args.label c.new-stack.result (path_of (trees_in (map plan_of c.args.trees.now) c.args.dropped.now.label) c.args.dropped.now.leaf) (held_empty c.new-stack.result.rows c.new-stack.result.wide c.new-stack.ensures.rows c.new-stack.ensures.wide)

pub returns : goal.returns
returns g c =
    let at = setting_on g.D.NumDomain c.args.self.now in
    let path = path_of (trees_in (map plan_of c.args.trees.now) c.args.dropped.now.label) c.args.dropped.now.leaf in
    let empty = held_empty c.new-stack.result.rows c.new-stack.result.wide c.new-stack.ensures.rows c.new-stack.ensures.wide in
    let held = found_among c.new-stack.result c.add_path.new.stack (map (moved_by c.sets.result) (path_of (plan_of c.in-Some.tree.now) c.args.dropped.now.leaf))
    c.in_ok-add_path.field-0 empty c.in_ok-add_path.ensures.same c.in_ok-add_path.ensures.among in
    let is : plan_of c.in-Some.tree.now ≡ trees_in (map plan_of c.args.trees.now) c.args.dropped.now.label = plan_got c.args.trees.now c.args.dropped.now.label c.in-Some.tree.now
    (ltb-true c.args.dropped.now.label (length c.args.trees.now) (sym c.in-Some.ensures.lookup.0)) c.in-Some.ensures.lookup.1 in
    let labels = c.requires.ready.labels in
    let inside = c.requires.label in
    let read = get_or_default c.args.self.now.transitions.now c.args.label c.index-self-label.result End (omega (arith, labels, inside)) in
    path_held at c.args.label (transition_in c.args.self.now.transitions.now c.args.label)
    (stands_at g.D.NumDomain c.args.self.now c.requires.ready c.args.label c.requires.label c.requires.alive) (c.picks_values.ensures c.if-picks_values.false) c.add_path.new.stack path
    (subst (λ s. HoldsAmong c.add_path.new.stack (map (moved_by s) path)) (c.sets.ensures.sets ∙ ap sets_of read)
    (subst (λ plan. HoldsAmong c.add_path.new.stack (map (moved_by c.sets.result) (path_of plan c.args.dropped.now.leaf))) is held))
