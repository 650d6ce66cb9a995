-- The trees of a candidate are over the variables of its program, and the complements of their rows fit 128 bits.
use Rattle.std.proofs.Common.{◌≡◌, ℕ, ◌+◌, ◌-◌, ◌*◌, ◌^◌, ◌<◌, ◌≤◌, true, false, nat_lt, Bool, ℤ, pos, inl, inr, ⊎_elim, List, [], ◌∷◌, ◌++◌, map, length, All, refl, sym, subst, arith}
use Rattle.std.proofs.lemmas.Bool.{cases_lt}
use Rattle.std.proofs.lemmas.List.{get_or_past}
use Rattle.std.proofs.lemmas.List.Elements.{All-append, All-cons}
use Rattle.linear_cons.specs.declared.affine.Affine.{Affine}
use Rattle.linear_cons.specs.declared.row.Row.{Row}
use Rattle.linear_cons.specs.declared.row.RowKind.{RowKind}
use Rattle.linear_cons.specs.declared.row.RowKind.TheVariants.{Always, Never, Row as Kept}
use Rattle.linear_cons.specs.Functions.{NumbersFit, coefficient, complement_of, constant_of, multiple_of, IsOver}
use Rattle.linear_cons.specs.Rows.{IsRowOf, row_kind_of}
use Rattle.linear_cons.proofs.KindLaws.{row_kind_is}
use Rattle.linear_cons.proofs.Sizes.{sizes_fit, sizes_quotient, sizes_complement, sizes_grown}
use Rattle.step_meaning.specs.declared.count.Count.{Count}
use Rattle.step_meaning.specs.declared.countdown.Countdown.{Countdown}
use Rattle.step_meaning.specs.declared.countdown.Countdown.TheVariants.{Straight, Loop}
use Rattle.step_meaning.specs.declared.expression.Op2.{Op2}
use Rattle.step_meaning.specs.declared.expression.Op2.TheVariants.{Add, Sub, Mul, Less, LessEqual, Greater, GreaterEqual, Equal, NotEqual, And, Or}
use Rattle.step_meaning.specs.AffineExpressions.{less, strictly_less}
use Rattle.step_meaning.specs.Countdown.{Asks, AsksByComparing, CountsFrom, IsCountdownBy, form_of}
use Rattle.linear_cons.specs.Sizes.{total_size}
use Rattle.step_meaning.specs.Syntax.{Expression, Statements, pair, assign, while_loop, sequence, size_of}
use Rattle.step_meaning.specs.Valid.{IsBody, IsNumber, IsTest}
use Rattle.decision_tree.specs.Paths.{PathFits, complements_on}
use Rattle.decision_tree.specs.Plans.{Plan, bottom, top, leaf, branch, leaves_of}
use Rattle.decision_tree.specs.declared.affine_rank.AffineRank.{AffineRank}
use Rattle.decision_tree.specs.declared.reason.Pick.TheVariants.{All as EveryState, No, Value, Yes}
use Rattle.decision_tree.specs.declared.reason.Why.{Why}
use Rattle.decision_tree.specs.declared.reason.Why.TheVariants.{Atom, Both, Dead, End, Left, Now, Right, Step}
use Rattle.tree_support.specs.Certificates.{SparesPlace}
use Rattle.tree_support.specs.Setting.{trees_in}
use Rattle.tree_support.proofs.Lists.{all_none}
use Rattle.count_down.specs.Building.{IsFew, IsLed, IsModest}
use Rattle.count_down.specs.Candidates.{IsCandidate, behind, candidate_by, carried, counting, inner, inside, last_of_loop, last_steps, most_within, steps_before, turn_counts, turn_of_loop, turn_steps}
use Rattle.count_down.specs.Trees.{bound, count_tree, ended, shifted, split, within}
use Rattle.decision_tree.specs.Extent.{ComplementsFit, IsTreeOver, PickIs}
use Rattle.count_down.proofs.CountingLaws.{EachIs, few_turn_counts}
use Rattle.count_down.proofs.Leading.{led_behind, led_modest}
use Rattle.count_down.proofs.Modest.{ahead_modest, small_sizes}
use Rattle.linear_cons.proofs.Over.{over_constant, over_sum, over_multiple, over_put, over_quotient}
use Rattle.step_meaning.proofs.OverVariables.{over_form}

-- ---- functions
module _ (vars : ℕ) where
  over_shifted : (e : Affine) (z : ℤ) → IsOver vars e → IsOver vars (shifted e z)
  over_shifted e z own = over_sum vars e (constant_of z) own (over_constant vars z)

  over_bound : (m s : ℕ) (e : Affine) (k : ℕ) → IsOver vars e → IsOver vars (bound m s e k)
  over_bound m s e k own =
      over_sum vars (multiple_of (shifted e (pos 1)) (pos m)) (constant_of (pos (k + 1 + s)))
      (over_multiple vars (shifted e (pos 1)) (pos m) (over_shifted e (pos 1) own)) (over_constant vars (pos (k + 1 + s)))

  -- ---- expressions

  compared_over : (op : Op2) (a b : Expression) (row : Row) → IsNumber vars a → IsNumber vars b → AsksByComparing op a b row → IsOver vars row.affine
  compared_over GreaterEqual a b row one two asks = over_quotient vars (form_of (less a b)) row.affine asks (over_form vars (less a b) (one, two))
  compared_over Greater a b row one two asks = over_quotient vars (form_of (strictly_less a b)) row.affine asks
      (over_form vars (strictly_less a b) ((one, two), tt))
  compared_over LessEqual a b row one two asks = over_quotient vars (form_of (less b a)) row.affine asks (over_form vars (less b a) (two, one))
  compared_over Less a b row one two asks = over_quotient vars (form_of (strictly_less b a)) row.affine asks
      (over_form vars (strictly_less b a) ((two, one), tt))
  compared_over Equal a b row one two (inl asks) = over_quotient vars (form_of (less a b)) row.affine asks (over_form vars (less a b) (one, two))
  compared_over Equal a b row one two (inr asks) = over_quotient vars (form_of (less b a)) row.affine asks (over_form vars (less b a) (two, one))
  compared_over other a b row one two asks = absurd asks

  -- a row that a test asks for
  pub asked_over : (test : Expression) (row : Row) → IsTest vars test → Asks test row → IsOver vars row.affine
  asked_over (pair And l r) row sorted (inl asks) = asked_over l row sorted.0 asks
  asked_over (pair And l r) row sorted (inr asks) = asked_over r row sorted.1 asks
  asked_over (pair Less l r) row sorted asks = compared_over Less l r row sorted.0 sorted.1 asks.3
  asked_over (pair LessEqual l r) row sorted asks = compared_over LessEqual l r row sorted.0 sorted.1 asks.3
  asked_over (pair Greater l r) row sorted asks = compared_over Greater l r row sorted.0 sorted.1 asks.3
  asked_over (pair GreaterEqual l r) row sorted asks = compared_over GreaterEqual l r row sorted.0 sorted.1 asks.3
  asked_over (pair Equal l r) row sorted asks = compared_over Equal l r row sorted.0 sorted.1 asks.3
  asked_over (pair NotEqual l r) row sorted asks = absurd asks.3
  asked_over (pair Or l r) row sorted asks = absurd asks
  asked_over (pair Add l r) row sorted asks = absurd sorted
  asked_over (pair Sub l r) row sorted asks = absurd sorted
  asked_over (pair Mul l r) row sorted asks = absurd sorted
  asked_over other row sorted asks = absurd asks

  over_carried : (row : Row) (p : ℕ) (s : Statements) → IsBody vars s → CountsFrom row p s
      → IsOver vars row.affine × IsOver vars (carried row.affine s)
  over_carried row p (sequence (assign x v) more) sorted counts =
      let later = over_carried row (p * (1 + total_size (form_of v))) more sorted.1 counts.3 in
      (later.0, over_put vars (carried row.affine more) x (form_of v) later.1 (over_form vars v sorted.0.1))
  over_carried row p (sequence (while_loop test body step) more) sorted counts = let own = asked_over test row sorted.0.0 counts.0 in (own, own)
  over_carried row p other sorted counts = absurd counts

  -- ---- trees

  abbrev pub IsFine : Plan AffineRank → Type 0
  IsFine tree = IsTreeOver vars tree × ComplementsFit tree × (leaves_of tree ≤ 2)

  split_fine : (f a b : Affine) (kind : RowKind) → IsRowOf f kind → IsModest f → IsOver vars f → IsOver vars a → IsOver vars b
      → IsFine (split kind (within a) (within b))
  split_fine f a b Always is modest own one two = ((one, tt), tt, omega arith)
  split_fine f a b Never is modest own one two = ((two, tt), tt, omega arith)
  split_fine f a b (Kept row) is modest own one two = (
    (over_quotient vars f row.affine is own, (one, tt), (two, tt)),
    (
      sizes_fit (1 + 2 ^ 91) (complement_of row.affine) (omega arith)
          (sizes_complement (2 ^ 91) row.affine (sizes_quotient (2 ^ 91) f row.affine is modest)),
      tt,
      tt,
    ),
    omega arith,
  )

  tree_fine : (m s : ℕ) (f : Affine) (k : ℕ) → IsModest f → IsOver vars f → IsFine (count_tree m s f k)
  tree_fine m s f k modest own =
      split_fine f (bound m s f k) (constant_of (pos (k + 1 + s))) (row_kind_of f) (row_kind_is f) modest own (over_bound m s f k own)
      (over_constant vars (pos (k + 1 + s)))

  mapped_fine : (Q : Count → Type 0) (f : Count → Plan AffineRank) → ((c : Count) → Q c → IsFine (f c)) → (counts : List Count) → EachIs Q counts
      → All IsFine (map f counts)
  mapped_fine Q f each [] all = all_none IsFine
  mapped_fine Q f each (c ∷ counts) all = All-cons IsFine (f c) (map f counts) (each c all.0) (mapped_fine Q f each counts all.1)

  last_fine : (counts : List Count) → All IsFine (map most_within counts)
  last_fine [] = all_none IsFine
  last_fine (c ∷ counts) = All-cons IsFine (most_within c) (map most_within counts)
      ((over_constant vars (pos c.most), tt), tt, omega arith) (last_fine counts)

  module _ (few_vars : vars ≤ 15) where
    counting_fine : (row : Row) (s : Statements) → IsBody vars s → IsLed row s → size_of s < 1024 → All IsFine (counting row.affine s)
    counting_fine row (sequence (assign x v) more) sorted led few =
        All-cons IsFine _ (counting row.affine more)
        (tree_fine (turn_of_loop row.affine more) (last_of_loop more) (carried row.affine (sequence (assign x v) more)) (1 + steps_before more)
        (led_modest row (sequence (assign x v) more) led) (let over = over_carried row led.product (sequence (assign x v) more) sorted led.counts in
        over.1))
        (counting_fine row more sorted.1 (led_behind row x v more led) (omega arith))
    counting_fine row (sequence (while_loop test body step) more) sorted led few =
        let e : Affine = row.affine in
        let m : ℕ = turn_steps e body step in
        let s : ℕ = last_steps more in
        let own = asked_over test row sorted.0.0 led.counts.0 in
        let counts = led.counts.1 in
        All-cons IsFine (count_tree m s e 0) (inner m s e body step ++ behind more)
        (tree_fine m s e 0 (sizes_grown (2 ^ 31) (2 ^ 91) e (omega arith) (small_sizes e counts.small)) own)
        (All-append IsFine (inner m s e body step) (behind more)
        (mapped_fine (IsFew 2048) (inside m s e)
        (λ c few_steps. tree_fine m s (shifted e c.change) c.most (ahead_modest e c.most c.change counts.small few_steps.most few_steps.moderate)
        (over_shifted e c.change own))
        (turn_counts e body step) (few_turn_counts vars few_vars e body step counts sorted.0.1 sorted.0.2 (omega arith)))
        (last_fine _))
    counting_fine row other sorted led few = absurd led.counts

    candidate_fine : (countdown : Countdown) (body : Statements) → IsBody vars body → size_of body < 1024 → IsCountdownBy countdown body
        → All IsFine (candidate_by countdown body)
    candidate_fine Straight body sorted few holds = All-cons IsFine ended (behind body) ((over_constant vars (pos 0), tt), tt, omega arith) (last_fine _)
    candidate_fine (Loop row) body sorted few counts =
        let led : IsLed row body = record {
          vars = vars;
          few = few_vars;
          sorted = sorted;
          product = 1;
          some = omega arith;
          small =
              omega arith;
          counts = counts.0;
        } in
        All-cons IsFine ended (counting row.affine body) ((over_constant vars (pos 0), tt), tt, omega arith) (counting_fine row body sorted led few)

    tree_at : (trees : List (Plan AffineRank)) → All IsFine trees → (label : ℕ) → IsFine (trees_in trees label)
    tree_at trees all label = ⊎_elim
        (λ (low : label < length trees). all label bottom low)
        (λ (past : length trees ≤ label). subst IsFine (sym (get_or_past trees label bottom past)) (tt, tt, omega arith))
        (cases_lt label (length trees))

    pub trees_fine : (body : Statements) (trees : List (Plan AffineRank)) → IsBody vars body → size_of body < 1024 → IsCandidate trees body
        → (label : ℕ) → IsFine (trees_in trees label)
    trees_fine body trees sorted few candidate label =
        subst (λ t. IsFine (trees_in t label)) (sym candidate.2)
        (tree_at (candidate_by candidate.0 body) (candidate_fine candidate.0 body sorted few candidate.1) label)

-- ---- what follows for places and paths

-- a place past the variables is one that a pick over them leaves alone
pick_spares : (vars place : ℕ) → vars ≤ place → (why : Why) → PickIs (IsOver vars) why → PickIs (λ function. coefficient function place ≡ pos 0) why
pick_spares vars place high (Step (Value by)) over = over.past place high
pick_spares vars place high (Step EveryState) over = tt
pick_spares vars place high (Step Yes) over = tt
pick_spares vars place high (Step No) over = tt
pick_spares vars place high End over = tt
pick_spares vars place high Atom over = tt
pick_spares vars place high Both over = tt
pick_spares vars place high Left over = tt
pick_spares vars place high Right over = tt
pick_spares vars place high Now over = tt
pick_spares vars place high Dead over = tt

pub over_spares : (vars place : ℕ) → vars ≤ place → (tree : Plan AffineRank) → IsTreeOver vars tree → SparesPlace place tree
over_spares vars place high bottom over = tt
over_spares vars place high (top cause) over = tt
over_spares vars place high (leaf why rank) over = (over.0.past place high, pick_spares vars place high why over.1)
over_spares vars place high (branch row this that) over = (over.0.past place high, over_spares vars place high this over.1, over_spares vars place high that over.2)

path_by : {R : Type 0} (row : Row) (this that : Plan R) (place : ℕ) → NumbersFit (complement_of row.affine) → PathFits this place
    → PathFits that (place - leaves_of this)
    → (first : Bool) → nat_lt place (leaves_of this) ≡ first → PathFits (branch row this that) place
path_by row this that place own one two true is = rw is one
path_by row this that place own one two false is = rw is (All-cons NumbersFit (complement_of row.affine)
    (complements_on that (place - leaves_of this)) own two)

pub complements_fit : {R : Type 0} (tree : Plan R) → ComplementsFit tree → (place : ℕ) → PathFits tree place
complements_fit bottom fit place = all_none NumbersFit
complements_fit (top cause) fit place = all_none NumbersFit
complements_fit (leaf why rank) fit place = all_none NumbersFit
complements_fit (branch row this that) fit place =
    path_by row this that place fit.0 (complements_fit this fit.1 place) (complements_fit that fit.2 (place - leaves_of this))
    (nat_lt place (leaves_of this)) refl
