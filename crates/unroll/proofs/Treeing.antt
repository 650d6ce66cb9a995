-- What is known of a label whose tree is made, and that the tree tells.
use Rattle.std.proofs.Common.{◌≡◌, ℕ, ◌<◌, ◌≤◌, Bool, true, false, Some, List, length, set, sym, ap, subst, ◌∙◌, arith}
use Rattle.step_meaning.specs.Countdown.{form_of}
use Rattle.linear_cons.specs.Functions.{value_at}
use Rattle.linear_forms.specs.Meeting.{MeetsOne}
use Rattle.linear_forms.specs.Spreading.{spread_of}
use Rattle.decision_tree.specs.Evaluation.{eval}
use Rattle.decision_tree.specs.Plans.{Plan, size_of}
use Rattle.decision_tree.specs.declared.affine_rank.AffineRank.{AffineRank}
use Rattle.step_meaning.specs.Outcome.{Store}
use Rattle.step_meaning.specs.Step.{front}
use Rattle.step_meaning.specs.Syntax.{Expression, Statements}
use Rattle.step_meaning.specs.Valid.{IsBody, IsNumber, IsTest}
use Rattle.control_flow.specs.Actions.{IsSorted, AtNext}
use Rattle.control_flow.specs.Edges.{is_head_by}
use Rattle.control_flow.specs.Labels.{Action, ends, assigns, passes, tests, action_at, all_labels, rest}
use Rattle.control_flow.proofs.LabelLaws.{labels_are_sorted}
use Rattle.decision_tree.specs.Extent.{IsTreeOver, ComplementsFit}
use Rattle.unroll.specs.Building.{IsBefore, IsBeforeBoth, TellsAt, TellsTree, left_by}
use Rattle.backward_transfer.specs.AffineShapes.{tree_at}
use Rattle.unroll.specs.Levels.{RanksCount}
use Rattle.control_flow.specs.Measures.{AreSizes, anywhere, size_before, size_of_test}
use Rattle.step_meaning.specs.Plain.{IsPlain}
use Rattle.control_flow.specs.Fitting.{ActionFits}
use Rattle.unroll.specs.Plain.{IsFittingTest}
use Rattle.unroll.specs.Within.{TellsNumbers}
use Rattle.unroll.proofs.GrownLabels.{at_more}
use Rattle.unroll.proofs.LevelSizes.{label_size, test_more}
use Rattle.unroll.proofs.Lifting.{assign_tree, pass_tree, test_tree}
use Rattle.unroll.proofs.LevelLaws.{is_loop}
use Rattle.unroll.proofs.Ordering.{does, does_something, heads_are_loops}
use Rattle.control_flow.proofs.PlainActions.{plain_as, sorted_as}

module _ (body : Statements) (vars : ℕ) (few : vars ≤ 15) (valid : IsBody vars body) (plain : IsPlain body) (l : ℕ) (low : l < length (all_labels body)) where
  -- the end is done at no label but 0
  pub never_ends : 0 < l → ends ≡ action_at body l → ⊥
  never_ends some is = let something : does (action_at body l) ≡ true = does_something body l low some in let nothing : false ≡ true = ap does is ∙ something in absurd (cc)

  module _ (some : 0 < l) (fit : ActionFits (action_at body l)) (trees : List (Plan AffineRank)) (limit left : ℕ) (allows : left_by (is_head_by (action_at body l)) limit ≡ Some left)
      (behind : AtNext (action_at body l) (TellsAt left body trees)) where
    allows_loop : left_by (is_loop (front (rest body l))) limit ≡ Some left
    allows_loop = subst (λ t. left_by t limit ≡ Some left) (heads_are_loops body l low) allows

    apart : l ≡ 0 → ⊥
    apart nought = absurd (omega arith)

    behind_as : (action : Action) → action ≡ action_at body l → AtNext action (TellsAt left body trees)
    behind_as action is = subst (λ a. AtNext a (TellsAt left body trees)) (sym is) behind

    size_is : (sizes : ℕ → ℕ → ℕ) → AreSizes body sizes → (action : Action) → action ≡ action_at body l → sizes limit l ≡ size_before (sizes left) action
    size_is sizes are action is = label_size body sizes are l low limit left allows action is

    -- a tree behind that is too large makes the label's size too large
    pub assigned_full : (x : ℕ) (e : Expression) (next : ℕ) → assigns x e next ≡ action_at body l → 65536 < size_of (tree_at trees next)
        → (sizes : ℕ → ℕ → ℕ) → AreSizes body sizes → 65536 < sizes limit l
    assigned_full x e next is more sizes are =
        let same = size_is sizes are (assigns x e next) is in let most = (behind_as (assigns x e next) is).small sizes are in omega (arith, more, same, most)

    pub passed_full : (next : ℕ) → passes next ≡ action_at body l → 65536 < size_of (tree_at trees next) → (sizes : ℕ → ℕ → ℕ) → AreSizes body sizes → 65536 < sizes limit l
    passed_full next is more sizes are =
        let same = size_is sizes are (passes next) is in let most = (behind_as (passes next) is).small sizes are in omega (arith, more, same, most)

    pub tested_full : (head : Bool) (c : Expression) (p q : ℕ) → tests head c p q ≡ action_at body l → 65536 < size_of_test c (size_of (tree_at trees p)) (size_of (tree_at trees q))
        → (sizes : ℕ → ℕ → ℕ) → AreSizes body sizes → 65536 < sizes limit l
    tested_full head c p q is more sizes are =
        let same = size_is sizes are (tests head c p q) is in
        let two = behind_as (tests head c p q) is in
        let most = test_more (size_of (tree_at trees p)) (size_of (tree_at trees q)) (sizes left p) (sizes left q) (two.0.small sizes are) (two.1.small sizes are) c in
        omega (arith, more, same, most)

    pub tested_fits : (head : Bool) (c : Expression) (p q : ℕ) → tests head c p q ≡ action_at body l → IsFittingTest c
    tested_fits head c p q is = record {
      vars = vars;
      few = few;
      sorted = sorted_as body vars few valid plain l low (tests head c p q) is;
      plain = plain_as body vars few valid plain l low (tests head c p q) is;
      fit = subst ActionFits (sym is) fit;
    }

    module _ (made : Plan AffineRank) (ranks : RanksCount made) (complements : ComplementsFit made)
        (variables : (vars : ℕ) → IsBody vars body → IsTreeOver vars made) (numbers : TellsNumbers limit body l made) where
      pub assigned_tells : (x : ℕ) (e : Expression) (next : ℕ) → assigns x e next ≡ action_at body l → size_of made ≤ size_of (tree_at trees next)
          → ((s : Store) → length s ≡ 16 → IsBefore (eval (tree_at trees next) (set s x (value_at (form_of e) s))) (eval made s)) → TellsTree limit body l made
      assigned_tells x e next is less before =
          let behind_next = behind_as (assigns x e next) is in
          assign_tree body l low apart limit left allows_loop made ranks complements variables numbers
          (λ sizes are. let same = size_is sizes are (assigns x e next) is in let most = behind_next.small sizes are in omega (arith, same, most, less))
          vars x e next (sym is) few (sorted_as body vars few valid plain l low (assigns x e next) is).1 (plain_as body vars few valid plain l low (assigns x e next) is) (tree_at trees next) behind_next before

      pub passed_tells : (next : ℕ) → passes next ≡ action_at body l → size_of made ≤ size_of (tree_at trees next)
          → ((s : Store) → IsBefore (eval (tree_at trees next) s) (eval made s)) → TellsTree limit body l made
      passed_tells next is less before =
          let behind_next = behind_as (passes next) is in
          pass_tree body l low apart limit left allows_loop made ranks complements variables numbers
          (λ sizes are. let same = size_is sizes are (passes next) is in let most = behind_next.small sizes are in omega (arith, same, most, less))
          next (sym is) (tree_at trees next) behind_next before

      pub tested_tells : (head : Bool) (c : Expression) (p q : ℕ) → tests head c p q ≡ action_at body l → size_of made ≤ size_of_test c (size_of (tree_at trees p)) (size_of (tree_at trees q))
          → ((s : Store) → MeetsOne s (spread_of anywhere c true) → MeetsOne s (spread_of anywhere c false) → IsBeforeBoth (eval (tree_at trees p) s) (eval (tree_at trees q) s) (eval made s))
          → ((s : Store) → MeetsOne s (spread_of anywhere c true) → (MeetsOne s (spread_of anywhere c false) → ⊥) → IsBefore (eval (tree_at trees p) s) (eval made s))
          → ((s : Store) → (MeetsOne s (spread_of anywhere c true) → ⊥) → MeetsOne s (spread_of anywhere c false) → IsBefore (eval (tree_at trees q) s) (eval made s))
          → TellsTree limit body l made
      tested_tells head c p q is less both holds fails =
          let two = behind_as (tests head c p q) is in
          test_tree body l low apart limit left allows_loop made ranks complements variables numbers
          (λ sizes are.
          let same = size_is sizes are (tests head c p q) is in
          let most = test_more (size_of (tree_at trees p)) (size_of (tree_at trees q)) (sizes left p) (sizes left q) (two.0.small sizes are) (two.1.small sizes are) c in
          omega (arith, same, most, less))
          vars few head c p q (sym is) (sorted_as body vars few valid plain l low (tests head c p q) is) (plain_as body vars few valid plain l low (tests head c p q) is)
          (subst ActionFits (sym is) fit) (tree_at trees p) (tree_at trees q) two.0 two.1 both holds fails

    -- the numbers of the trees behind are those of their labels
    pub numbers_behind : AtNext (action_at body l) (λ k. TellsNumbers left body k (tree_at trees k))
    numbers_behind = at_more (TellsAt left body trees) (λ k. TellsNumbers left body k (tree_at trees k)) (λ k tells. tells.numbers) (action_at body l) behind

    -- the ranks of the trees behind are numbers of steps
    pub assigned_ranks_behind : (x : ℕ) (e : Expression) (next : ℕ) → assigns x e next ≡ action_at body l → RanksCount (tree_at trees next)
    assigned_ranks_behind x e next is = (behind_as (assigns x e next) is).ranks

    pub passed_ranks_behind : (next : ℕ) → passes next ≡ action_at body l → RanksCount (tree_at trees next)
    passed_ranks_behind next is = (behind_as (passes next) is).ranks

    pub tested_ranks_behind : (head : Bool) (c : Expression) (p q : ℕ) → tests head c p q ≡ action_at body l → RanksCount (tree_at trees p) × RanksCount (tree_at trees q)
    tested_ranks_behind head c p q is = let two = behind_as (tests head c p q) is in (two.0.ranks, two.1.ranks)

    -- the variables of a tree made are those of the program, where the trees behind speak of these alone
    sorted_for : (other : ℕ) → IsBody other body → (action : Action) → action ≡ action_at body l → IsSorted other action
    sorted_for other sorted action is = subst (IsSorted other) (sym is) (labels_are_sorted other body sorted l low)

    pub assigned_variables : (made : Plan AffineRank) (x : ℕ) (e : Expression) (next : ℕ) → assigns x e next ≡ action_at body l
        → ((other : ℕ) → IsNumber other e → IsTreeOver other (tree_at trees next) → IsTreeOver other made) → (other : ℕ) → IsBody other body → IsTreeOver other made
    assigned_variables made x e next is keeps other sorted =
        keeps other (sorted_for other sorted (assigns x e next) is).1 ((behind_as (assigns x e next) is).variables other sorted)

    pub passed_variables : (made : Plan AffineRank) (next : ℕ) → passes next ≡ action_at body l
        → ((other : ℕ) → IsTreeOver other (tree_at trees next) → IsTreeOver other made) → (other : ℕ) → IsBody other body → IsTreeOver other made
    passed_variables made next is keeps other sorted = keeps other ((behind_as (passes next) is).variables other sorted)

    pub tested_variables : (made : Plan AffineRank) (head : Bool) (c : Expression) (p q : ℕ) → tests head c p q ≡ action_at body l
        → ((other : ℕ) → IsTest other c → IsTreeOver other (tree_at trees p) → IsTreeOver other (tree_at trees q) → IsTreeOver other made)
        → (other : ℕ) → IsBody other body → IsTreeOver other made
    tested_variables made head c p q is keeps other sorted =
        let two = behind_as (tests head c p q) is in
        keeps other (sorted_for other sorted (tests head c p q) is) (two.0.variables other sorted) (two.1.variables other sorted)
