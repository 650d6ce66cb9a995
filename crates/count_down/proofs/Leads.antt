-- Labels whose trees count down are blocked where each of their arcs leads to such a tree of fewer steps.
use Rattle.std.proofs.Common.{◌≡◌, ℕ, ◌+◌, ◌<◌, ◌≤◌, ℤ, pos, ◌+ℤ◌, ◌≤ℤ◌, Bool, true, false, if◌then◌else◌, List, [], ◌∷◌, ◌++◌, None, Some, length, All, sym, subst, arith}
use Rattle.std.proofs.lemmas.Int.{ints}
use Rattle.std.proofs.lemmas.List.Elements.{All-cons, All-contains, Contains-append_left}
use Rattle.linear_cons.specs.declared.affine.Affine.{Affine}
use Rattle.linear_cons.specs.declared.bounds.Linear.{Linear}
use Rattle.linear_cons.specs.declared.row.Row.{Row}
use Rattle.linear_cons.specs.Functions.{constant_of, value_at, variable_at}
use Rattle.linear_cons.specs.Rows.{row_kind_of}
use Rattle.linear_cons.proofs.KindLaws.{row_kind_is}
use Rattle.linear_cons.proofs.Ring.{mul_le, mul_zero}
use Rattle.linear_forms.specs.Linearising.{is_exact}
use Rattle.control_flow.specs.Labels.{Action, action_at, all_labels}
use Rattle.step_meaning.specs.Syntax.{Statements, size_of}
use Rattle.step_meaning.specs.Valid.{IsBody}
use Rattle.decision_tree.specs.declared.affine_rank.AffineRank.{AffineRank}
use Rattle.ctl_formula.specs.Formulas.{af_exit}
use Rattle.tree_support.specs.Arcs.{Arc, above_end, arcs_by, assigning, below_end, choosing, choosing_each, putting, rows_given, testing}
use Rattle.constraint_stack.specs.Forming.{Formed}
use Rattle.tree_support.specs.Setting.{Trees, setting_of}
use Rattle.tree_support.specs.Systems.{at_leaves, moved_by, systems, unless_less}
use Rattle.control_flow.specs.Told.{Told}
use Rattle.tree_support.proofs.Lists.{all_none, all_one}
use Rattle.tree_support.proofs.Moving.{store_after}
use Rattle.count_down.specs.Asking.{EachHas, Has}
use Rattle.count_down.specs.Blocking.{IsBlocked}
use Rattle.count_down.specs.Building.{IsModest}
use Rattle.count_down.specs.Trees.{bound, count_tree, ranked}
use Rattle.decision_tree.specs.Extent.{IsWhole}
use Rattle.count_down.proofs.Fitting.{bound_sizes, natural_fits, rows_fit, steps_sizes}
use Rattle.count_down.proofs.Labelled.{label_blocked}
use Rattle.count_down.proofs.Lining.{Natural, Negative}
use Rattle.count_down.proofs.Stepping.{StepFits, from_no, from_yes, more_natural, more_negative}

-- ---- lists of arcs

pub all_weaken : {A : Type 0} (P Q : A → Type 0) (xs : List A) → ((x : A) → P x → Q x) → All P xs → All Q xs
all_weaken P Q xs weaker all = λ k d low. weaker _ (all k d low)

abbrev pub tested : ℕ → ℕ → List Row → Arc
tested edge next rows = record { edge = edge; target = next; asks = rows_given rows; sets = None }

module _ (P : Arc → Type 0) where
  -- each arc of an assignment sets the place to something
  pub assigning_all : (x next : ℕ) (value : Linear) (cases : List (List Row)) → ((a : Affine) (asks : List Formed)
      → P (record { edge = 0; target = next; asks = asks; sets = Some (x, a) }))
      → All P (assigning x next value cases)
  assigning_all x next value cases each = by (is_exact value)
    where
      chosen : (list : List (List Row)) → All P (choosing_each x next value list)
      chosen [] = all_none P
      chosen (rows ∷ more) =
          All-cons P (choosing x next value rows) (choosing_each x next value more)
          (each (variable_at 15) (above_end value.affine value.lo ++ (below_end value.affine value.hi ++ rows_given rows))) (chosen more)

      by : (exact : Bool) → All P (if exact then putting x next value.affine ∷ [] else choosing_each x next value cases)
      by true = all_one P (putting x next value.affine) (each value.affine [])
      by false = chosen cases

  -- an arc of a test asks for the rows of a conjunction
  pub testing_all : (edge next : ℕ) (xs : List (List Row)) → ((rows : List Row) → P (tested edge next rows)) → All P (testing edge next xs)
  testing_all edge next [] each = all_none P
  testing_all edge next (rows ∷ more) each = All-cons P (tested edge next rows) (testing edge next more) (each rows) (testing_all edge next more each)

  pub testing_asked : (row : Row) (edge next : ℕ) (xs : List (List Row)) → EachHas row xs → ((rows : List Row) → Has row rows → P (tested edge next rows))
      → All P (testing edge next xs)
  testing_asked row edge next [] has each = all_none P
  testing_asked row edge next (rows ∷ more) has each =
      All-cons P (tested edge next rows) (testing edge next more) (each rows has.0) (testing_asked row edge next more has.1 each)

-- ---- what is given

-- A valid body with a graph, and a family of the truth without undefined leaves.
pub record IsGiven (body : Statements) (parts : ℕ → Trees AffineRank) : Type 0 where
  pub vars : ℕ
  pub few_vars : vars ≤ 15
  pub sorted : IsBody vars body
  pub few : size_of body < 1024
  pub kept : (label : ℕ) → label < length (all_labels body) → IsWhole (parts 0 label)

module _ (body : Statements) (told : Told) (parts : ℕ → Trees AffineRank) (family : Trees AffineRank) where
  -- each system of each leaf at the label is blocked
  abbrev pub Blocked : ℕ → Type 0
  Blocked label = (place : ℕ) → All IsBlocked (systems (setting_of body told af_exit parts) family label place)

  -- the systems of the arc are, behind what is asked
  abbrev pub Blocks : AffineRank → List Formed → Arc → Type 0
  Blocks rank asks arc = All IsBlocked (at_leaves (moved_by arc.sets) (unless_less arc.edge arc.sets rank) (family arc.target) (asks ++ arc.asks))

  -- the tree of the label counts a function down, and from both sides each arc of the action is blocked
  pub record Passes (m s label : ℕ) (action : Action) : Type 0 where
    pub e : Affine
    pub k : ℕ
    pub tree : family label ≡ count_tree m s e k
    pub modest : IsModest e
    pub steps : k + 1 + s ≤ 4096
    pub yes_arcs : (asks : List Formed) → Natural asks (λ store. value_at e store)
        → All (Blocks (ranked (bound m s e k)) asks) (arcs_by (told.bounds label) action)
    pub no_arcs : (asks : List Formed) → Negative asks (λ store. value_at e store)
        → All (Blocks (ranked (constant_of (pos (k + 1 + s)))) asks) (arcs_by (told.bounds label) action)

  pub passes_blocked : IsGiven body parts → (m s label : ℕ) → label < length (all_labels body) → 0 < m → m ≤ 1024
      → Passes m s label (action_at body label) → Blocked label
  passes_blocked ground m s label low turn short passes =
      label_blocked body told parts family label m s passes.e passes.k
      (record {
        tree = passes.tree;
        kept = ground.kept label low;
        turn = turn;
        rows = rows_fit passes.e (row_kind_of passes.e) (row_kind_is passes.e) passes.modest;
        bounds = natural_fits (bound m s passes.e passes.k) (bound_sizes m s passes.e passes.k short passes.steps passes.modest);
        lasts = natural_fits (constant_of (pos (passes.k + 1 + s))) (steps_sizes (passes.k + 1 + s) passes.steps);
        yes_arcs = λ asks natural arc inside.
            All-contains (Blocks (ranked (bound m s passes.e passes.k)) asks) (arcs_by (told.bounds label) (action_at body label)) arc
            (passes.yes_arcs asks natural) inside;
        no_arcs = λ asks negative arc inside.
            All-contains (Blocks (ranked (constant_of (pos (passes.k + 1 + s)))) asks) (arcs_by (told.bounds label) (action_at body label)) arc
            (passes.no_arcs asks negative) inside;
      })

  -- the arc leads to a tree that counts down what is at most as much, in fewer steps
  pub record LeadsDown (m s : ℕ) (e : Affine) (k : ℕ) (arc : Arc) : Type 0 where
    pub f : Affine
    pub j : ℕ
    pub tree : family arc.target ≡ count_tree m s f j
    pub d : ℤ
    pub less : d ≤ℤ pos 0
    pub is : (store : List ℤ) → length store ≡ 16 → value_at f (store_after arc.sets store) ≡ value_at e store +ℤ d
    pub fits : StepFits arc.sets m s e k f j
    pub step : j < k

  module _ (m s : ℕ) (e : Affine) (k : ℕ) (turn : 0 < m) (arc : Arc) (leads : LeadsDown m s e k arc) (asks : List Formed) where
    leads_yes : Natural asks (λ store. value_at e store) → Blocks (ranked (bound m s e k)) asks arc
    leads_yes natural =
        let step = leads.step in
        let down = mul_le (pos m) leads.d (pos 0) (omega (arith, ints)) leads.less in
        let none = mul_zero (pos m) in
        subst (λ tree. All IsBlocked (at_leaves (moved_by arc.sets) (unless_less arc.edge arc.sets (ranked (bound m s e k))) tree (asks ++ arc.asks)))
        (sym leads.tree)
        (from_yes arc.sets m s e k leads.f leads.j leads.fits leads.d leads.less leads.is arc.edge (asks ++ arc.asks) turn (omega arith)
        (omega (arith, ints))
        (more_natural asks (asks ++ arc.asks) (λ store. value_at e store) (λ a inside. Contains-append_left asks arc.asks a inside) natural))

    leads_no : Negative asks (λ store. value_at e store) → Blocks (ranked (constant_of (pos (k + 1 + s)))) asks arc
    leads_no negative =
        subst (λ tree. All IsBlocked (at_leaves (moved_by arc.sets) (unless_less arc.edge arc.sets (ranked (constant_of (pos (k + 1 + s))))) tree
        (asks ++ arc.asks))) (sym leads.tree)
        (from_no arc.sets m s e k leads.f leads.j leads.fits leads.d leads.less leads.is arc.edge (asks ++ arc.asks) leads.step
        (more_negative asks (asks ++ arc.asks) (λ store. value_at e store) (λ a inside. Contains-append_left asks arc.asks a inside) negative))

  -- a label all of whose arcs lead to fewer steps
  pub all_lead : (m s : ℕ) (e : Affine) (k : ℕ) → 0 < m → (label : ℕ) (action : Action) → family label ≡ count_tree m s e k
      → IsModest e
      → k + 1 + s ≤ 4096 → All (LeadsDown m s e k) (arcs_by (told.bounds label) action) → Passes m s label action
  all_lead m s e k turn label action tree modest steps leads = record {
    e = e;
    k = k;
    tree = tree;
    modest = modest;
    steps = steps;
    yes_arcs = λ asks natural.
        all_weaken (LeadsDown m s e k) (Blocks (ranked (bound m s e k)) asks) (arcs_by (told.bounds label) action)
        (λ arc own. leads_yes m s e k turn arc own asks natural) leads;
    no_arcs = λ asks negative.
        all_weaken (LeadsDown m s e k) (Blocks (ranked (constant_of (pos (k + 1 + s)))) asks) (arcs_by (told.bounds label) action)
        (λ arc own. leads_no m s e k turn arc own asks negative) leads;
  }
