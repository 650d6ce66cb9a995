-- What a graph's table holds at a number is what is done at the label.
use Rattle.std.proofs.Common.{◌≡◌, ℕ, zero, suc, ◌<◌, ◌≤◌, List, [], ◌∷◌, length, get_or, Some, None, refl, sym, ap, ◌∙◌, arith}
use Rattle.std.proofs.lemmas.List.{length-map}
use Rattle.step_meaning.specs.Syntax.{Statements, size_of}
use Rattle.control_flow.specs.declared.node.Node.{Node}
use Rattle.control_flow.specs.Faults.{least_from, lesser}
use Rattle.control_flow.specs.Labels.{Label, action_at, all_labels, end}
use Rattle.control_flow.proofs.LabelLaws.{count_of_labels}
use Rattle.control_flow.specs.Tables.{IsTableOf, action_of, actions, actions_of}

-- as many nodes as labels
pub table_length : (nodes : List Node) (body : Statements) → IsTableOf nodes body → length nodes ≡ length (all_labels body)
table_length nodes body table =
    sym (length-map nodes action_of) ∙ ap length table.labels ∙ length-map (all_labels body) (λ (label : Label). label.action)

same_at : (nodes : List Node) (labels : List Label) → actions nodes ≡ actions_of labels → (i : ℕ) (d : Node) → i < length nodes → action_of (get_or nodes i d) ≡ (get_or labels i end).action
same_at [] labels same i d low = absurd (omega arith)
same_at (x ∷ nodes) [] same i d low = absurd (cc)
same_at (x ∷ nodes) (y ∷ labels) same zero d low = cc
same_at (x ∷ nodes) (y ∷ labels) same (suc i) d low = same_at nodes labels (cc) i d (omega arith)

pub node_at : (nodes : List Node) (body : Statements) → IsTableOf nodes body → (i : ℕ) (d : Node) → i < length (all_labels body) → action_of (get_or nodes i d) ≡ action_at body i
node_at nodes body table i d low = let count = table_length nodes body table in same_at nodes (all_labels body) table.labels i d (omega arith)

-- there is no least place where there is none
some_least : (at : ℕ) (offsets : List ℕ) → least_from (Some at) offsets ≡ None → ⊥
some_least at [] h = absurd (cc)
some_least at (x ∷ offsets) h = some_least (lesser (Some at) x) offsets h

pub none_wide : (offsets : List ℕ) → least_from None offsets ≡ None → offsets ≡ []
none_wide [] h = refl
none_wide (at ∷ offsets) h = absurd (some_least (lesser None at) offsets h)

pub few_nodes : (nodes : List Node) (body : Statements) → IsTableOf nodes body → length nodes ≤ 1024
few_nodes nodes body table =
    let length_is = table_length nodes body table in
    let count = count_of_labels body in
    let few : size_of body < 1024 = table.few in
    omega arith
