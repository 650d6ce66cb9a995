-- The steps of a label's configurations are its edges.
use Rattle.std.proofs.Common.{◌≡◌, append-nil, ℕ, zero, suc, ◌+◌, ◌<◌, ◌⊎◌, inl, inr, ⊎_elim, Bool, true, false, List, [], ◌∷◌, ◌++◌, length, get_or, refl, sym, ap, ◌∙◌, arith}
use Rattle.step_meaning.specs.Outcome.{Store, MayTest}
use Rattle.step_meaning.specs.Step.{behind_body, behind_mark, from_mark, Configuration, Step, Todo, front, front_of_list, front_of_statement, items_of, one}
use Rattle.step_meaning.specs.Syntax.{Expression, Statement, Statements, assign, skip, return, break, continue, if_else, while_loop, do_while, empty, sequence, size_of, size_of_statement}
use Rattle.control_flow.specs.declared.edge.Edge.{Edge}
use Rattle.control_flow.specs.Edges.{EachEdge, EdgesAreSteps, Leads, SomeEdge, edges_from}
use Rattle.control_flow.specs.Labels.{Jumps, Action, Label, tests, all_labels, end, entry_label, entry_of, first_label, inside, labels_of, labels_of_statement, rest, stray}
use Rattle.control_flow.proofs.Standing.{EachFrom, StandsIn, each_at, each_both, each_left, each_right, length-labels_of, length-labels_of_statement, stands_behind}

-- the front of the label of this number
abbrev front_at : List Label → ℕ → Todo
front_at table n = front (get_or table n end).todo

-- ---- what is entered first has the front of the whole list

front_list : (s : Statements) (ahead behind_it : Todo) → front behind_it ≡ ahead → front_of_list s ahead behind_it ≡ front (items_of s ++ behind_it)
front_list empty ahead behind_it same = sym same
front_list (sequence first more) ahead behind_it same = refl

module _ (table : List Label) where
  mutual
    first_front : (n after : ℕ) (jumps : Jumps) (left : Todo) (s : Statement) → EachFrom (StandsIn table) n (labels_of_statement n after jumps left s) → front_at table (first_label n s) ≡ front_of_statement s left
    first_front n after jumps left (assign x e) stands = ap (λ (x : Label). front x.todo) stands.0
    first_front n after jumps left skip stands = ap (λ (x : Label). front x.todo) stands.0
    first_front n after jumps left return stands = ap (λ (x : Label). front x.todo) stands.0
    first_front n after jumps left break stands = ap (λ (x : Label). front x.todo) stands.0
    first_front n after jumps left continue stands = ap (λ (x : Label). front x.todo) stands.0
    first_front n after jumps left (if_else c y z) stands = ap (λ (x : Label). front x.todo) stands.0
    first_front n after jumps left (while_loop c body step) stands = ap (λ (x : Label). front x.todo) stands.0
    first_front n after jumps left (do_while body c) stands =
        let last : ℕ = n + size_of body in
        let behind_it : Todo = behind_body c body empty left in
        let loop : Todo = one (while_loop c body empty) ∷ left in
        let head : Label = record { todo = loop; action = tests true c (entry_label n last body) after } in
        let inner : List Label = labels_of n last (inside after last) behind_it body in
        let size = length-labels_of n last (inside after last) behind_it body in
        let turned = each_right (StandsIn table) n last inner (head ∷ []) (omega arith) stands in
        entry_front n last (inside after last) behind_it body (each_left (StandsIn table) n inner (head ∷ []) stands) (ap (λ (x : Label). front x.todo) turned.0)
        ∙ sym (front_list body loop behind_it refl)

    entry_front : (n after : ℕ) (jumps : Jumps) (left : Todo) (s : Statements) → EachFrom (StandsIn table) n (labels_of n after jumps left s) → front_at table after ≡ front left → front_at table (entry_label n after s) ≡ front (items_of s ++ left)
    entry_front n after jumps left empty stands follows = follows
    entry_front n after jumps left (sequence first more) stands follows =
        let next : ℕ = entry_label (n + size_of_statement first) after more in
        first_front n next jumps (items_of more ++ left) first
        (each_left (StandsIn table) n (labels_of_statement n next jumps (items_of more ++ left) first) (labels_of (n + size_of_statement first) after jumps left more) stands)

-- ---- a label whose steps are its edges

module _ (table : List Label) where
  -- an edge leads from the store to the configuration
  abbrev Lands : Action → Store → Configuration → Edge → Type 0
  Lands action s d edge = Leads action edge.kind s d.store × (front d.todo ≡ front_at table edge.to)

  abbrev Arrives : Todo → Action → Edge → Type 0
  Arrives todo action edge = (s t : Store) → Leads action edge.kind s t
      → (d : Configuration) × Step (record { todo = todo; store = s }) d × (d.store ≡ t) × (front d.todo ≡ front_at table edge.to)

  pub record IsRight (l : ℕ) (x : Label) : Type 0 where
    pub steps : (s : Store) (d : Configuration) → Step (record { todo = x.todo; store = s }) d → SomeEdge (Lands x.action s d) (edges_from l x.action)
    pub edges : EachEdge (Arrives x.todo x.action) (edges_from l x.action)

  -- what a test's step is: to the one list or to the other
  abbrev Tests : Expression → Todo → Todo → Store → Configuration → Type 0
  Tests c this that s d = ((MayTest c s true × (d.todo ≡ this)) ⊎ (MayTest c s false × (d.todo ≡ that))) × (d.store ≡ s)

  right_test : (l : ℕ) (head : Bool) (c : Expression) (p q : ℕ) (todo this that : Todo)
      → ((s : Store) (d : Configuration) → Step (record { todo = todo; store = s }) d → Tests c this that s d)
      → ((s : Store) (d : Configuration) → Tests c this that s d → Step (record { todo = todo; store = s }) d)
      → front_at table p ≡ front this → front_at table q ≡ front that
      → IsRight l (record { todo = todo; action = tests head c p q })
  right_test l head c p q todo this that there back first second = record {
    steps = λ s d step.
        let test = there s d step in
        ⊎_elim (λ (h : MayTest c s true × (d.todo ≡ this)). inl ((h.0, test.1), ap front h.1 ∙ sym first))
        (λ (h : MayTest c s false × (d.todo ≡ that)). inr (inl ((h.0, test.1), ap front h.1 ∙ sym second))) test.0;
    edges = (
      (λ s t leads. (record { todo = this; store = t }, back s (record { todo = this; store = t }) (inl (leads.0, refl), leads.1), refl, sym first)),
      ((λ s t leads. (record { todo = that; store = t }, back s (record { todo = that; store = t }) (inr (leads.0, refl), leads.1), refl, sym second)), tt),
    );
  }

-- ---- all labels

-- statements before a list leave what is behind its first mark, and the mark with it
behind_more : (s : Statements) (left : Todo) → behind_mark (items_of s ++ left) ≡ behind_mark left
behind_more empty left = refl
behind_more (sequence first more) left = behind_more more left

from_more : (s : Statements) (left : Todo) → from_mark (items_of s ++ left) ≡ from_mark left
from_more empty left = refl
from_more (sequence first more) left = from_more more left

module _ (table : List Label) (begins : front_at table 0 ≡ []) where
  -- the labels that follow a list and those to which jumps lead from before it have the fronts of what they stand for
  record Follows (after : ℕ) (jumps : Jumps) (left : Todo) : Type 0 where
    here : front_at table after ≡ front left
    out : front_at table jumps.out ≡ front (behind_mark left)
    mark : front_at table jumps.mark ≡ front (from_mark left)

  follows_before : (after next : ℕ) (jumps : Jumps) (left : Todo) (more : Statements) → Follows after jumps left
      → front_at table next ≡ front (items_of more ++ left) → Follows next jumps (items_of more ++ left)
  follows_before after next jumps left more follows first = record {
    here = first;
    out = follows.out ∙ ap front (sym (behind_more more left));
    mark = follows.mark ∙ ap front (sym (from_more more left));
  }

  mutual
    right_statement : (n after : ℕ) (jumps : Jumps) (left : Todo) (s : Statement) → EachFrom (StandsIn table) n (labels_of_statement n after jumps left s) → Follows after jumps left → EachFrom (IsRight table) n (labels_of_statement n after jumps left s)
    right_statement n after jumps left (assign x e) stands follows = (
      record {
        steps = λ s d step. inl (step.1, ap front step.0 ∙ sym follows.here);
        edges = ((λ s t leads. (record { todo = left; store = t }, (refl, leads), refl, sym follows.here)), tt);
      },
      tt,
    )
    right_statement n after jumps left skip stands follows = (
      record {
        steps = λ s d step. inl (step.1, ap front step.0 ∙ sym follows.here);
        edges = ((λ s t leads. (record { todo = left; store = t }, (refl, leads), refl, sym follows.here)), tt);
      },
      tt,
    )
    right_statement n after jumps left return stands follows = (
      record {
        steps = λ s d step. inl (step.1, ap front step.0 ∙ sym begins);
        edges = ((λ s t leads. (record { todo = []; store = t }, (refl, leads), refl, sym begins)), tt);
      },
      tt,
    )
    right_statement n after jumps left break stands follows = (
      record {
        steps = λ s d step. inl (step.1, ap front step.0 ∙ sym follows.out);
        edges = ((λ s t leads. (record { todo = behind_mark left; store = t }, (refl, leads), refl, sym follows.out)), tt);
      },
      tt,
    )
    right_statement n after jumps left continue stands follows = (
      record {
        steps = λ s d step. inl (step.1, ap front step.0 ∙ sym follows.mark);
        edges = ((λ s t leads. (record { todo = from_mark left; store = t }, (refl, leads), refl, sym follows.mark)), tt);
      },
      tt,
    )
    right_statement n after jumps left (if_else c y z) stands follows =
        let first : List Label = labels_of (n + 1) after jumps left y in
        let second : List Label = labels_of (n + 1 + size_of y) after jumps left z in
        let size = length-labels_of (n + 1) after jumps left y in
        let stands_first = each_left (StandsIn table) (n + 1) first second stands.1 in
        let stands_second = each_right (StandsIn table) (n + 1) (n + 1 + size_of y) first second (omega arith) stands.1 in (
          right_test table n false c (entry_label (n + 1) after y) (entry_label (n + 1 + size_of y) after z) (one (if_else c y z) ∷ left) (items_of y ++ left) (items_of z ++ left)
              (λ s d step. step) (λ s d test. test)
              (entry_front table (n + 1) after jumps left y stands_first follows.here)
              (entry_front table (n + 1 + size_of y) after jumps left z stands_second follows.here),
          each_both (IsRight table) (n + 1) (n + 1 + size_of y) first second (omega arith)
              (right_list (n + 1) after jumps left y stands_first follows)
              (right_list (n + 1 + size_of y) after jumps left z stands_second follows),
        )
    right_statement n after jumps left (while_loop c body step) stands follows =
        let turned : ℕ = entry_label (n + 1 + size_of body) n step in
        let loop : Todo = one (while_loop c body step) ∷ left in
        let behind_it : Todo = behind_body c body step left in
        let first : List Label = labels_of (n + 1) turned (inside after turned) behind_it body in
        let second : List Label = labels_of (n + 1 + size_of body) n jumps loop step in
        let size = length-labels_of (n + 1) turned (inside after turned) behind_it body in
        let stands_first = each_left (StandsIn table) (n + 1) first second stands.1 in
        let stands_second = each_right (StandsIn table) (n + 1) (n + 1 + size_of body) first second (omega arith) stands.1 in
        let head : front_at table n ≡ front loop = ap (λ (x : Label). front x.todo) stands.0 in
        let marked : front_at table turned ≡ front behind_it =
        entry_front table (n + 1 + size_of body) n jumps loop step stands_second head ∙ sym (front_list step loop loop refl) in
        let follows_body : Follows turned (inside after turned) behind_it = record { here = marked; out = follows.here; mark = marked } in
        let follows_step : Follows n jumps loop = record { here = head; out = follows.out; mark = follows.mark } in (
          right_test table n true c (entry_label (n + 1) turned body) after loop (items_of body ++ behind_it) left
              (λ s d step. step) (λ s d test. test)
              (entry_front table (n + 1) turned (inside after turned) behind_it body stands_first marked)
              follows.here,
          each_both (IsRight table) (n + 1) (n + 1 + size_of body) first second (omega arith)
              (right_list (n + 1) turned (inside after turned) behind_it body stands_first follows_body)
              (right_list (n + 1 + size_of body) n jumps loop step stands_second follows_step),
        )
    right_statement n after jumps left (do_while body c) stands follows =
        let last : ℕ = n + size_of body in
        let loop : Todo = one (while_loop c body empty) ∷ left in
        let behind_it : Todo = behind_body c body empty left in
        let inner : List Label = labels_of n last (inside after last) behind_it body in
        let head : Label = record { todo = loop; action = tests true c (entry_label n last body) after } in
        let size = length-labels_of n last (inside after last) behind_it body in
        let stands_inner = each_left (StandsIn table) n inner (head ∷ []) stands in
        let stands_head = each_right (StandsIn table) n last inner (head ∷ []) (omega arith) stands in
        let marked : front_at table last ≡ front behind_it = ap (λ (x : Label). front x.todo) stands_head.0 in
        let follows_body : Follows last (inside after last) behind_it = record { here = marked; out = follows.here; mark = marked } in
        each_both (IsRight table) n last inner (head ∷ []) (omega arith)
        (right_list n last (inside after last) behind_it body stands_inner follows_body) (
          right_test table last true c (entry_label n last body) after loop (items_of body ++ behind_it) left
              (λ s d step. step) (λ s d test. test)
              (entry_front table n last (inside after last) behind_it body stands_inner marked)
              follows.here,
          tt,
        )

    right_list : (n after : ℕ) (jumps : Jumps) (left : Todo) (s : Statements) → EachFrom (StandsIn table) n (labels_of n after jumps left s) → Follows after jumps left → EachFrom (IsRight table) n (labels_of n after jumps left s)
    right_list n after jumps left empty stands follows = tt
    right_list n after jumps left (sequence first more) stands follows =
        let behind_it : ℕ = n + size_of_statement first in
        let next : ℕ = entry_label behind_it after more in
        let ones : List Label = labels_of_statement n next jumps (items_of more ++ left) first in
        let others : List Label = labels_of behind_it after jumps left more in
        let size = length-labels_of_statement n next jumps (items_of more ++ left) first in
        let stands_one = each_left (StandsIn table) n ones others stands in
        let stands_others = each_right (StandsIn table) n behind_it ones others (omega arith) stands in
        let entered = entry_front table behind_it after jumps left more stands_others follows.here in
        each_both (IsRight table) n behind_it ones others (omega arith)
        (right_statement n next jumps (items_of more ++ left) first stands_one (follows_before after next jumps left more follows entered))
        (right_list behind_it after jumps left more stands_others follows)

-- ---- the labels of a program

all_stand : (body : Statements) → EachFrom (StandsIn (all_labels body)) 1 (labels_of 1 0 stray [] body)
all_stand body = stands_behind (end ∷ []) (labels_of 1 0 stray [] body) 1 refl

pub edges_are_steps : (body : Statements) (l : ℕ) → l < length (all_labels body) → EdgesAreSteps body l
edges_are_steps body zero low = record { each_step = λ s d step. absurd step; each_edge = tt }
edges_are_steps body (suc k) low =
    let right = right_list (all_labels body) refl 1 0 stray [] body (all_stand body) (record { here = refl; out = refl; mark = refl }) in
    let here = each_at (IsRight (all_labels body)) 1 (labels_of 1 0 stray [] body) right k (suc k) (omega arith) (omega arith) in
    record { each_step = here.steps; each_edge = here.edges }

-- a run begins at the entry
pub entry_is_start : (body : Statements) → front (rest body (entry_of body)) ≡ front (items_of body)
entry_is_start body =
    entry_front (all_labels body) 1 0 stray [] body (all_stand body) refl ∙ ap front (append-nil (items_of body))
