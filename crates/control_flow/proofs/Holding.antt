-- Which sizes are in a list while those of a level are put in.
use Rattle.std.proofs.Common.{◌≡◌, inl, inr, ℕ, zero, suc, ◌<◌, ◌≤◌, min, true, false, List, length, refl, sym, ap, ◌∙◌, arith}
use Rattle.step_meaning.specs.Syntax.{Statements}
use Rattle.control_flow.specs.Edges.{is_head_by}
use Rattle.control_flow.specs.Labels.{Action, action_at, all_labels}
use Rattle.control_flow.specs.Actions.{AtFirst}
use Rattle.control_flow.specs.Measures.{AreSizes, greatest_below, size_before, size_by}
use Rattle.control_flow.specs.Sizing.{HoldsAt, held, held_at}
use Rattle.control_flow.proofs.Held.{greater_kept}

module _ (sizes : ℕ → ℕ → ℕ) where
  plain_size : (level : ℕ) (action : Action) → is_head_by action ≡ false → size_by sizes level action ≡ size_before (sizes level) action
  plain_size zero action plain = rw plain refl
  plain_size (suc level) action plain = rw plain refl

  head_size : (level : ℕ) (action : Action) → is_head_by action ≡ true → size_by sizes (suc level) action ≡ size_before (sizes level) action
  head_size level action head = rw head refl

  first_size : (action : Action) → is_head_by action ≡ true → size_by sizes zero action ≡ 1
  first_size action head = rw head refl

  module _ (body : Statements) (are : AreSizes body sizes) where
    pub plain_is : (level l : ℕ) → l < length (all_labels body) → is_head_by (action_at body l) ≡ false → size_before (sizes level) (action_at body l) ≡ sizes level l
    plain_is level l low plain = sym (are level l low ∙ plain_size level (action_at body l) plain)

    pub head_is : (level l : ℕ) → l < length (all_labels body) → is_head_by (action_at body l) ≡ true → size_before (sizes level) (action_at body l) ≡ sizes (suc level) l
    head_is level l low head = sym (are (suc level) l low ∙ head_size level (action_at body l) head)

    end_is : (level : ℕ) → sizes level 0 ≡ 1
    end_is zero = are 0 0 (omega arith)
    end_is (suc level) = are (suc level) 0 (omega arith)

    one_held : 1 ≡ held 1
    one_held = omega arith

    -- a list of ones
    module _ (list : List ℕ) (ones : (l : ℕ) → l < length (all_labels body) → held_at list l ≡ 1) where
      pub ones_end : (level : ℕ) → AtFirst body 1 (HoldsAt (sizes level) list)
      ones_end level zero low first = ones 0 (omega arith) ∙ one_held ∙ ap held (sym (end_is level))
      ones_end level (suc l) low first = absurd (omega arith)

      pub ones_first : AtFirst body (length (all_labels body)) (HoldsAt (sizes 0) list)
      ones_first zero low first = ones 0 low ∙ one_held ∙ ap held (sym (end_is 0))
      ones_first (suc l) low (inl nought) = absurd (omega arith)
      ones_first (suc l) low (inr head) = ones (suc l) low ∙ one_held ∙ ap held (sym (are 0 (suc l) low ∙ first_size (action_at body (suc l)) head))

-- the greatest of what is held is the greatest held
pub greatest_held : (top : ℕ) → 1 ≤ top → (n : ℕ) (f g : ℕ → ℕ) → ((l : ℕ) → l < n → f l ≡ min (g l) top) → greatest_below f n ≡ min (greatest_below g n) top
greatest_held top some zero f g same = omega arith
greatest_held top some (suc n) f g same =
    greater_kept top some (greatest_below f n) (f n) (greatest_below g n) (g n) (greatest_held top some n f g (λ l low. same l (omega arith))) (same n (omega arith))
