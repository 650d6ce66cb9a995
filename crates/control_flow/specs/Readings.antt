-- What is done at a label, as it is read from a graph.
use Rattle.step_meaning.specs.Syntax.{expression}
use Rattle.control_flow.specs.Labels.{Action, ends, assigns, passes, tests}
use Rattle.control_flow.specs.declared.action.Action.{Action as Reading}
use Rattle.control_flow.specs.declared.action.Action.TheVariants.{End, Assign, Pass, Test}

-- what the reading says
abbrev pub action_read : Reading → Action
action_read End = ends
action_read (Assign place value next) = assigns place (expression value.now) next
action_read (Pass next) = passes next
action_read (Test is_head test then_to else_to) = tests is_head (expression test.now) then_to else_to
