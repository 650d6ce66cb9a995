-- Which variables are set along the runs of frames.
use Rattle.std.proofs.Common.{◌≡◌, ◌≢◌, ℕ, ◌+◌, ◌<◌, ◌≤◌, ℤ, nat_eq, nat_lt, Bool, true, false, ◌||◌, ◌&&◌, IsTrue, Option, None, Some, List, [], ◌∷◌, ◌++◌, length, inl, inr, refl, ◌∙◌, subst, append-nil, arith}
use Rattle.std.specs.Bool.{⊤}
use Rattle.std.proofs.lemmas.Bool.{ltb-true}
use Rattle.std.proofs.lemmas.Bool.Decides.{eqb_tells}
use Rattle.step_meaning.specs.Syntax.{Expression, number, variable, free, range, truth, negative, negation, pair, divided}
use Rattle.step_meaning.specs.Outcome.{Store, May, MayTest}
use Rattle.linear_cons.specs.Numbers.{number_at}
use Rattle.call_meaning.specs.Units.{Command, Commands, assign, call, skip, return, break, continue, if_else, while_loop, do_while, empty, sequence, Table}
use Rattle.call_meaning.specs.Frames.{Task, command, mark, pass, choose, take, forget, tasks_of, passes, choices, entered, behind_mark, from_mark}
use Rattle.call_meaning.specs.Reads.{Places, also, among, Reads, AllRead, ValueReads, behind, IsSet, AreSet, given, IsTidy}

-- an expression has the same outcomes in two stores that agree on what it reads
module _ (shown : Places) (s t : Store) (same : (y : ℕ) → IsTrue (shown y) → number_at s y ≡ number_at t y) where
  pub read_number : (e : Expression) → Reads shown e → (v : ℤ) → May e s v → May e t v
  read_number (number z) reads v h = h
  read_number (variable x) reads v h = h ∙ same x reads
  read_number free reads v h = tt
  read_number (range lo hi) reads v h = h
  read_number (truth b) reads v h = absurd h
  read_number (negative e) reads v h = (h.0, read_number e reads h.0 h.1, h.2)
  read_number (negation c) reads v h = absurd h
  read_number (pair op l r) reads v h = (h.0, h.1, read_number l reads.0 h.0 h.2, read_number r reads.1 h.1 h.3, h.4)
  read_number (divided division e by) reads v h = (h.0, h.1, read_number e reads h.0 h.2, h.3, h.4)

  pub read_test : (c : Expression) → Reads shown c → (b : Bool) → MayTest c s b → MayTest c t b
  read_test (number z) reads b h = absurd h
  read_test (variable x) reads b h = absurd h
  read_test free reads b h = tt
  read_test (range lo hi) reads b h = absurd h
  read_test (truth c) reads b h = h
  read_test (negative e) reads b h = absurd h
  read_test (negation c) reads b h = (h.0, read_test c reads h.0 h.1, h.2)
  read_test (pair op l r) reads b (inl h) = inl (h.0, h.1, read_number l reads.0 h.0 h.2, read_number r reads.1 h.1 h.3, h.4)
  read_test (pair op l r) reads b (inr h) = inr (h.0, h.1, read_test l reads.0 h.0 h.2, read_test r reads.1 h.1 h.3, h.4)
  read_test (divided division e by) reads b h = absurd h

abbrev pub none : Places
none = λ y. false

abbrev pub Within : Places → Places → Type 0
Within less more = (y : ℕ) → IsTrue (less y) → IsTrue (more y)

or_map : (a b c : Bool) → (IsTrue b → IsTrue c) → IsTrue (a || b) → IsTrue (a || c)
or_map true b c f h = refl
or_map false b c f h = f h

or_right : (a b : Bool) → IsTrue b → IsTrue (a || b)
or_right true b h = refl
or_right false b h = h

also_more : (x : ℕ) (less more : Places) → Within less more → Within (also x less) (also x more)
also_more x less more w y h = or_map (nat_eq y x) (less y) (more y) (w y) h

pub also_grows : (x : ℕ) (shown : Places) → Within shown (also x shown)
also_grows x shown y h = or_right (nat_eq y x) (shown y) h

reads_more : (less more : Places) → Within less more → (e : Expression) → Reads less e → Reads more e
reads_more less more w (number z) h = tt
reads_more less more w (variable x) h = w x h
reads_more less more w free h = tt
reads_more less more w (range lo hi) h = tt
reads_more less more w (truth b) h = tt
reads_more less more w (negative e) h = reads_more less more w e h
reads_more less more w (negation c) h = reads_more less more w c h
reads_more less more w (pair op l r) h = (reads_more less more w l h.0, reads_more less more w r h.1)
reads_more less more w (divided division e by) h = reads_more less more w e h

all_more : (less more : Places) → Within less more → (arguments : List Expression) → AllRead less arguments → AllRead more arguments
all_more less more w [] h = tt
all_more less more w (a ∷ rest) h = (reads_more less more w a h.0, all_more less more w rest h.1)

value_more : (less more : Places) → Within less more → (value : Option Expression) → ValueReads less value → ValueReads more value
value_more less more w (Some e) h = reads_more less more w e h
value_more less more w None h = tt

behind_more : (less more : Places) → Within less more → (s : Command) → Within (behind less s) (behind more s)
behind_more less more w (assign x e) = also_more x less more w
behind_more less more w (call (Some x) f arguments) = also_more x less more w
behind_more less more w (call None f arguments) = w
behind_more less more w skip = w
behind_more less more w (return value) = w
behind_more less more w break = w
behind_more less more w continue = w
behind_more less more w (if_else c first second) = w
behind_more less more w (while_loop c body step) = w
behind_more less more w (do_while body c) = w

pub behind_grows : (shown : Places) (s : Command) → Within shown (behind shown s)
behind_grows shown (assign x e) = also_grows x shown
behind_grows shown (call (Some x) f arguments) = also_grows x shown
behind_grows shown (call None f arguments) = λ y h. h
behind_grows shown skip = λ y h. h
behind_grows shown (return value) = λ y h. h
behind_grows shown break = λ y h. h
behind_grows shown continue = λ y h. h
behind_grows shown (if_else c first second) = λ y h. h
behind_grows shown (while_loop c body step) = λ y h. h
behind_grows shown (do_while body c) = λ y h. h

module _ (table : Table) (vars : ℕ) where
  mutual
    pub set_more : (less more : Places) → Within less more → (s : Command) → IsSet table vars less s → IsSet table vars more s
    set_more less more w (assign x e) h = (h.0, reads_more less more w e h.1)
    set_more less more w (call target f arguments) h = (h.0, all_more less more w arguments h.1, h.2)
    set_more less more w skip h = tt
    set_more less more w (return value) h = value_more less more w value h
    set_more less more w break h = tt
    set_more less more w continue h = tt
    set_more less more w (if_else c first second) h =
        (reads_more less more w c h.0, are_more less more w first h.1, are_more less more w second h.2)
    set_more less more w (while_loop c body step) h =
        (reads_more less more w c h.0, are_more less more w body h.1, are_more less more w step h.2)
    set_more less more w (do_while body c) h = (reads_more less more w c h.0, are_more less more w body h.1)

    pub are_more : (less more : Places) → Within less more → (body : Commands) → AreSet table vars less body → AreSet table vars more body
    are_more less more w empty h = tt
    are_more less more w (sequence first rest) h =
        (set_more less more w first h.0, are_more (behind less first) (behind more first) (behind_more less more w first) rest h.1)

module _ (table : Table) (main : ℕ) where
  -- `main`'s variables are set always
  abbrev pub always : ℕ → Places
  always k = λ y. nat_eq k main && nat_lt y (table k).vars

  -- What is to do in a frame of this function reads only what is set, where `here` are set now, of which `marked` stay set at its first mark, and
  -- arguments read what `caller` says that is set in the frame of the caller.
  abbrev pub TodoSet : ℕ → Places → Places → Places → List Task → Type 0
  TodoSet k caller marked here [] = ⊤
  TodoSet k caller marked here (command s ∷ rest) = IsSet table (table k).vars here s × TodoSet k caller marked (behind here s) rest
  TodoSet k caller marked here (mark c body step ∷ rest) =
      Reads marked c × AreSet table (table k).vars marked body × AreSet table (table k).vars marked step
      × ((outer : Places) × Within outer marked × Within (always k) outer × TodoSet k caller outer marked rest)
  TodoSet k caller marked here (pass x a ∷ rest) = (x < (table k).vars) × Reads caller a × TodoSet k caller marked (also x here) rest
  TodoSet k caller marked here (choose l ∷ rest) = (l < (table k).vars) × TodoSet k caller marked (also l here) rest
  TodoSet k caller marked here (take x ∷ rest) = (x < (table k).vars) × TodoSet k caller marked (also x here) rest
  TodoSet k caller marked here (forget ∷ rest) = TodoSet k caller marked here rest

  module _ (k : ℕ) (caller marked : Places) where
    pub todo_more : (less more : Places) → Within less more → (todo : List Task) → TodoSet k caller marked less todo → TodoSet k caller marked more todo
    todo_more less more w [] h = tt
    todo_more less more w (command s ∷ rest) h =
        (set_more table (table k).vars less more w s h.0, todo_more (behind less s) (behind more s) (behind_more less more w s) rest h.1)
    todo_more less more w (mark c body step ∷ rest) h = h
    todo_more less more w (pass x a ∷ rest) h = (h.0, h.1, todo_more (also x less) (also x more) (also_more x less more w) rest h.2)
    todo_more less more w (choose l ∷ rest) h = (h.0, todo_more (also l less) (also l more) (also_more l less more w) rest h.1)
    todo_more less more w (take x ∷ rest) h = (h.0, todo_more (also x less) (also x more) (also_more x less more w) rest h.1)
    todo_more less more w (forget ∷ rest) h = todo_more less more w rest h

    pub todo_before : (here : Places) (body : Commands) (rest : List Task) → AreSet table (table k).vars here body → TodoSet k caller marked here rest
        → TodoSet k caller marked here (tasks_of body ++ rest)
    todo_before here empty rest h j = j
    todo_before here (sequence first more) rest h j =
        (h.0, todo_before (behind here first) more rest h.1 (todo_more here (behind here first) (behind_grows here first) rest j))

    pub choices_set : (unset : List ℕ) (here : Places) (rest : List Task) → ((y : ℕ) → IsTrue (among unset y) → y < (table k).vars)
        → ((more : Places) → Within here more → ((y : ℕ) → IsTrue (among unset y) → IsTrue (more y)) → TodoSet k caller marked more rest)
        → TodoSet k caller marked here (choices unset ++ rest)
    choices_set [] here rest bound j = j here (λ y h. h) (λ y h. absurd (cc))
    choices_set (l ∷ unset) here rest bound j = (
      bound l (elim (eqb_tells l l) [ inl same ↦ rw same.0 refl | inr other ↦ absurd (other.1 refl) ]),
      choices_set unset (also l here) rest (λ y h. bound y (or_right (nat_eq y l) (among unset y) h))
          (λ more w each. j more (λ y h. w y (also_grows l here y h))
          (λ y h. elim (eqb_tells y l) [
            | inl same ↦ w y (rw same.0 refl)
            | inr other ↦ each y (subst (λ b. IsTrue (b || among unset y)) other.0 h)
          ])),
    )

    pub passes_set : (arguments : List Expression) (x : ℕ) (here : Places) (rest : List Task) → x + length arguments ≤ (table k).vars → AllRead caller arguments
        → ((more : Places) → Within here more → ((y : ℕ) → x ≤ y → y < x + length arguments → IsTrue (more y)) → TodoSet k caller marked more rest)
        → TodoSet k caller marked here (passes x arguments ++ rest)
    passes_set [] x here rest few reads j = j here (λ y h. h) (λ y low high. absurd (omega arith))
    passes_set (a ∷ arguments) x here rest few reads j = (
      (omega arith),
      reads.0,
      passes_set arguments (x + 1) (also x here) rest (omega arith) reads.1
          (λ more w each. j more (λ y h. w y (also_grows x here y h))
          (λ y low high. elim (eqb_tells y x) [
            | inl same ↦ w y (rw same.0 refl)
            | inr other ↦ let apart : y ≢ x = other.1 in each y (omega arith) (omega arith)
          ])),
    )

    -- behind the first mark, and from it on, what is set there
    pub record Behind (todo : List Task) : Type 0 where
      pub outer : Places
      pub inner : Places
      pub low : Within outer inner
      pub high : Within inner marked
      pub whole : Within (always k) marked → Within (always k) outer
      pub set : TodoSet k caller outer inner todo

    pub behind_mark_set : (here : Places) (todo : List Task) → TodoSet k caller marked here todo → Behind (behind_mark todo)
    behind_mark_set here [] h = record { outer = marked; inner = marked; low = λ y i. i; high = λ y i. i; whole = λ i. i; set = tt }
    behind_mark_set here (command s ∷ rest) h = behind_mark_set (behind here s) rest h.1
    behind_mark_set here (mark c body step ∷ rest) h =
        record { outer = h.3.0; inner = marked; low = h.3.1; high = λ y i. i; whole = λ i. h.3.2; set = h.3.3 }
    behind_mark_set here (pass x a ∷ rest) h = behind_mark_set (also x here) rest h.2
    behind_mark_set here (choose l ∷ rest) h = behind_mark_set (also l here) rest h.1
    behind_mark_set here (take x ∷ rest) h = behind_mark_set (also x here) rest h.1
    behind_mark_set here (forget ∷ rest) h = behind_mark_set here rest h

    pub from_mark_set : (here : Places) (todo : List Task) → TodoSet k caller marked here todo → TodoSet k caller marked marked (from_mark todo)
    from_mark_set here [] h = tt
    from_mark_set here (command s ∷ rest) h = from_mark_set (behind here s) rest h.1
    from_mark_set here (mark c body step ∷ rest) h = h
    from_mark_set here (pass x a ∷ rest) h = from_mark_set (also x here) rest h.2
    from_mark_set here (choose l ∷ rest) h = from_mark_set (also l here) rest h.1
    from_mark_set here (take x ∷ rest) h = from_mark_set (also x here) rest h.1
    from_mark_set here (forget ∷ rest) h = from_mark_set here rest h

  module _ (tidy : IsTidy table main) where
    -- what a new frame has to do
    pub entered_set : (f : ℕ) (caller : Places) (arguments : List Expression) → f < main → length arguments ≡ (table f).params → AllRead caller arguments
        → TodoSet f caller none none (entered (table f) arguments)
    entered_set f caller arguments below many reads =
        let few = tidy.params f below in
        passes_set f caller none arguments 0 none (choices (table f).free ++ tasks_of (table f).body) (omega arith) reads
        (λ more w each. choices_set f caller none (table f).free more (tasks_of (table f).body) (tidy.free f below)
        (λ wide wider known. subst (λ todo. TodoSet f caller none wide todo) (append-nil (tasks_of (table f).body))
        (todo_before f caller none wide (table f).body []
        (are_more table (table f).vars (given (table f)) wide (shown more wide each wider known) (table f).body (tidy.functions f below)) tt)))
      where
        shown : (more wide : Places) → ((y : ℕ) → 0 ≤ y → y < 0 + length arguments → IsTrue (more y)) → Within more wide
            → ((y : ℕ) → IsTrue (among (table f).free y) → IsTrue (wide y)) → Within (given (table f)) wide
        shown more wide each wider known y h = split (nat_lt y (table f).params) refl h
          where
            split : (b : Bool) → nat_lt y (table f).params ≡ b → IsTrue (b || among (table f).free y) → IsTrue (wide y)
            split true is h = wider y (each y (omega arith) (let low = ltb-true y (table f).params is in omega arith))
            split false is h = known y h
