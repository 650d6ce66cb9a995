-- Labels as a graph keeps them.
use Rattle.std.specs.Prelude.{◌≡◌, ◌<◌, List, map}
use Rattle.step_meaning.specs.Syntax.{Statements, expression, size_of}
use Rattle.control_flow.specs.declared.node.Node.{Node}
use Rattle.control_flow.specs.declared.node.Node.TheVariants.{End as Ends, Assign as Assigns, Pass as Passes, Test as Tests}
use Rattle.control_flow.specs.Labels.{Action, Label, ends, assigns, passes, tests, all_labels}

-- what is done at a node
abbrev pub action_of : Node → Action
action_of Ends = ends
action_of (Assigns x e next) = assigns x (expression e) next
action_of (Passes next) = passes next
action_of (Tests head c then_to else_to) = tests head (expression c) then_to else_to

abbrev pub actions : List Node → List Action
actions nodes = map action_of nodes

abbrev pub actions_of : List Label → List Action
actions_of labels = map (λ (label : Label). label.action) labels

-- the nodes are the labels of the body, which are at most 1,024 with label 0
pub record IsTableOf (nodes : List Node) (body : Statements) : Type 0 where
  pub labels : actions nodes ≡ actions_of (all_labels body)
  pub few : size_of body < 1024
