use Rattle.std.proofs.Common.{◌≡◌, ℕ, ◌<◌, length, sym, subst, arith}
use Rattle.step_meaning.specs.Syntax.{Statements, statements}
use Rattle.control_flow.specs.Actions.{LeadsBelow}
use Rattle.control_flow.specs.Labels.{Action, action_at, all_labels}
use Rattle.control_flow.proofs.LabelLaws.{edges_lead_to_labels}
use Rattle.control_flow.proofs.graph.Graph.size_before.Goals as goal

-- what is done at a label leads to labels
leads : (body : Statements) (l : ℕ) → l < length (all_labels body) → (action : Action) → action ≡ action_at body l → LeadsBelow (length (all_labels body)) action
leads body l low action is = subst (LeadsBelow (length (all_labels body))) (sym is) (edges_lead_to_labels body l low)

pub bounds-behind-yes : goal.bounds-behind-yes
bounds-behind-yes c =
    let below = leads (statements c.args.self.now.body) c.args.label c.requires.within _ c.in-Test.ensures.action in
    let inside = below.0 in
    let count = c.requires.count in
    omega (arith, inside, count)

pub bounds-behind-no : goal.bounds-behind-no
bounds-behind-no c =
    let below = leads (statements c.args.self.now.body) c.args.label c.requires.within _ c.in-Test.ensures.action in
    let inside = below.1 in
    let count = c.requires.count in
    omega (arith, inside, count)

pub bounds-behind-next : goal.bounds-behind-next
bounds-behind-next c =
    let inside = leads (statements c.args.self.now.body) c.args.label c.requires.within _ c.in-Assign.ensures.action in
    let count = c.requires.count in
    omega (arith, inside, count)

pub bounds-behind-next-in-Pass : goal.bounds-behind-next-in-Pass
bounds-behind-next-in-Pass c =
    let inside = leads (statements c.args.self.now.body) c.args.label c.requires.within _ c.in-Pass.ensures.action in
    let count = c.requires.count in
    omega (arith, inside, count)
