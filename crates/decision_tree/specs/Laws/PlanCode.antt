-- A code for plans, by which lists of trees can be seen as lists of plans: the marks of a plan, those of a node's sides before its own.
use Rattle.std.proofs.Common.{◌≡◌, ◌⊎◌, inl, inr, List, [], ◌∷◌, ◌++◌, refl, sym, ap, ◌∙◌, append-nil}
use Rattle.std.proofs.lemmas.List.{append_assoc}
use Rattle.std.specs.Coded.{Coded, code_by, coded_list, coded×, coded⊎}
use Rattle.linear_cons.specs.declared.row.Row.{Row}
use Rattle.linear_cons.specs.contracts.row.Row as row_type
use Rattle.decision_tree.specs.declared.reason.Cause.{Cause}
use Rattle.decision_tree.specs.declared.reason.Why.{Why}
use Rattle.decision_tree.specs.contracts.reason.Cause as cause_type
use Rattle.decision_tree.specs.contracts.reason.Why as why_type
use Rattle.decision_tree.specs.Plans.{Plan, bottom, leaf, branch, top}

-- an undefined leaf without a cause is marked by an empty list of rows, and a node by the list of its one row
abbrev pub Mark : Type 0 → Type 0
Mark R = Cause ⊎ (Why × R) ⊎ List Row

module _ {R : Type 0} where
  abbrev pub marks : Plan R → List (Mark R)
  marks bottom = inr (inr []) ∷ []
  marks (top cause) = inl cause ∷ []
  marks (leaf why rank) = inr (inl (why, rank)) ∷ []
  marks (branch row this that) = marks this ++ (marks that ++ inr (inr (row ∷ [])) ∷ [])

  -- the plans that the marks stand for, the last one first
  abbrev pub plans : List (Mark R) → List (Plan R) → List (Plan R)
  plans [] stack = stack
  plans (inl cause ∷ rest) stack = plans rest (top cause ∷ stack)
  plans (inr (inl both) ∷ rest) stack = plans rest (leaf both.0 both.1 ∷ stack)
  plans (inr (inr []) ∷ rest) stack = plans rest (bottom ∷ stack)
  plans (inr (inr (row ∷ _)) ∷ rest) (that ∷ this ∷ stack) = plans rest (branch row this that ∷ stack)
  plans (inr (inr (row ∷ _)) ∷ rest) _ = []

  abbrev pub first : List (Plan R) → Plan R
  first [] = bottom
  first (plan ∷ rest) = plan

  plans_of_marks : (plan : Plan R) (rest : List (Mark R)) (stack : List (Plan R))
      → plans (marks plan ++ rest) stack ≡ plans rest (plan ∷ stack)
  plans_of_marks bottom rest stack = refl
  plans_of_marks (top cause) rest stack = refl
  plans_of_marks (leaf why rank) rest stack = refl
  plans_of_marks (branch row this that) rest stack =
      ap (λ t. plans t stack) (append_assoc (marks this) (marks that ++ inr (inr (row ∷ [])) ∷ []) rest)
      ∙ plans_of_marks this ((marks that ++ inr (inr (row ∷ [])) ∷ []) ++ rest) stack
      ∙ ap (λ t. plans t (this ∷ stack)) (append_assoc (marks that) (inr (inr (row ∷ [])) ∷ []) rest)
      ∙ plans_of_marks that (inr (inr (row ∷ [])) ∷ rest) (this ∷ stack)

  pub back : (plan : Plan R) → first (plans (marks plan) []) ≡ plan
  back plan = ap (λ t. first (plans t [])) (sym (append-nil (marks plan))) ∙ ap first (plans_of_marks plan [] [])

  abbrev pub plan_code : Coded R → Coded (Plan R)
  plan_code code =
      code_by (List (Mark R)) (coded_list (coded⊎ (cause_type.the_row).coded
      (coded⊎ (coded× (why_type.the_row).coded code) (coded_list (row_type.the_row).coded))))
      marks (λ t. first (plans t [])) back
