use Rattle.std.proofs.Common.{◌≡◌, ℕ, ◌<◌, List, length, map, get_or, sym, ap, ◌∙◌, arith}
use Rattle.std.proofs.lemmas.List.{get_or-map, length-map}
use Rattle.step_meaning.specs.Syntax.{statements}
use Rattle.control_flow.specs.Labels.{entry_of}
use Rattle.decision_tree.specs.declared.tree.Tree.{Tree}
use Rattle.decision_tree.specs.Plans.{bottom, plan_of}
use Rattle.tree_support.specs.Setting.{trees_in}
use Rattle.tree_support.proofs.entry.tree_at_entry.Goals as goal

-- the plan of a tree of a list is at its index among the plans
plan_at : {R : Type 0} (list : List (Tree R)) (i : ℕ) (tree : Tree R) → i < length list → tree ≡ get_or list i tree
    → trees_in (map plan_of list) i ≡ plan_of tree
plan_at list i tree low is = get_or-map plan_of list i tree bottom low ∙ ap plan_of (sym is)

pub bounds-items-entry : goal.bounds-items-entry
bounds-items-entry g c =
    let body = statements c.args.graph.now.body in
    let entry : c.entry.result ≡ entry_of body = c.entry.ensures in
    let below = c.edges_lead_to_labels.ensures.entry body in
    let long = sym (length-map c.items.result.now plan_of) ∙ ap length c.items.ensures ∙ c.requires in
    omega (arith, long, below, entry)

pub returns : goal.returns
returns g c =
    let body = statements c.args.graph.now.body in
    let entry : c.entry.result ≡ entry_of body = c.entry.ensures in
    let below = c.edges_lead_to_labels.ensures.entry body in
    let long = sym (length-map c.items.result.now plan_of) ∙ ap length c.items.ensures ∙ c.requires in
    let low : c.entry.result < length c.items.result.now = omega (arith, long, below, entry) in
    let same : trees_in c.args.family.now.trees (entry_of body) ≡ plan_of c.index-items-entry.result =
    rw (c.items.ensures, entry) at (plan_at c.items.result.now c.entry.result c.index-items-entry.result low c.index-items-entry.is) in
    sym same
