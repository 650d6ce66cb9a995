-- Frames with stores of their own, and frames over one store.
use Rattle.std.proofs.Common.{◌≡◌, ◌≢◌, ℕ, ◌+◌, ◌<◌, ◌≤◌, ℤ, pos, nat_lt, Bool, true, false, ◌||◌, ◌&&◌, IsTrue, Option, None, Some, List, [], ◌∷◌, ◌++◌, length, ◌⊎◌, inl, inr, slice_set, refl, sym, ap, ◌∙◌, subst, arith}
use Rattle.std.specs.Bool.{⊤}
use Rattle.std.proofs.lemmas.List.{get_or-drop, get_or-set_other, length-set}
use Rattle.std.proofs.lemmas.Grind.{get_or-set_at}
use Rattle.std.proofs.lemmas.Bool.Decides.{eqb_tells}
use Rattle.step_meaning.specs.Syntax.{Expression}
use Rattle.step_meaning.specs.Outcome.{Store, May, MayTest}
use Rattle.linear_cons.specs.Numbers.{number_at}
use Rattle.call_meaning.specs.Units.{Command, assign, call, skip, return, break, continue, if_else, while_loop, do_while, empty, Table}
use Rattle.call_meaning.specs.Frames.{Task, command, mark, pass, choose, take, forget, tasks_of, behind_first, behind_mark, from_mark, Frame, frame, Stack, Settles, settled, replacing}
use Rattle.call_inline.proofs.OneStore.{Sharing, sharing, Shared, own, set}
use Rattle.call_inline.proofs.OneStore as shared
use Rattle.call_meaning.specs.Frames as frames
use Rattle.call_meaning.specs.Reads.{Places, also, Reads, IsTidy}
use Rattle.call_meaning.specs.Validity.{AreRoutines}
use Rattle.call_inline.proofs.Replacing.{injected, replaced_keeps}
use Rattle.call_inline.proofs.Standing.{FramesStand}
use Rattle.call_inline.proofs.Setting.{none, Within, also_grows, read_number, read_test, always, TodoSet, todo_before, behind_mark_set, from_mark_set, entered_set}

-- frames without their stores
abbrev pub bare : Stack → List Sharing
bare [] = []
bare (first ∷ below) = sharing first.function first.todo ∷ bare below

-- what is set in a frame now, and of that what stays set at its first mark
pub record Known : Type 0 where
  pub marked : Places
  pub here : Places

module _ (table : Table) (main : ℕ) (tidy : IsTidy table main) (fresh : Store) (wide : length fresh ≡ 16) where
  -- a frame's own store has what the one store has of the variables that are set
  pub record Agrees (known : Known) (caller : Places) (a : Frame) (s : Store) : Type 0 where
    pub inside : a.function ≤ main
    pub places : length a.store ≡ 16
    pub bound : (y : ℕ) → IsTrue (known.here y) → y < (table a.function).vars
    pub low : Within known.marked known.here
    pub whole : Within (always table main a.function) known.marked
    pub same : (y : ℕ) → IsTrue (known.here y) → number_at a.store y ≡ number_at s ((table a.function).base + y)
    pub set : TodoSet table main a.function caller known.marked known.here a.todo

  abbrev pub IsBelow : ℕ → Stack → Type 0
  IsBelow k [] = ⊤
  IsBelow k (caller ∷ below) = (k < caller.function) × IsBelow k below

  -- the same of the frame above these, which is `main`'s where there is none
  abbrev pub IsUnder : ℕ → Stack → Type 0
  IsUnder k [] = k ≡ main
  IsUnder k (caller ∷ below) = (k < caller.function) × IsBelow k below

  is_below : (k : ℕ) (below : Stack) → IsUnder k below → IsBelow k below
  is_below k [] h = tt
  is_below k (caller ∷ below) h = h

  abbrev pub here_of : List Known → Places
  here_of [] = none
  here_of (first ∷ more) = first.here

  abbrev pub StackAgrees : List Known → Stack → Store → Type 0
  StackAgrees [] [] s = ⊤
  StackAgrees (x ∷ more) (a ∷ below) s = Agrees x (here_of more) a s × IsUnder a.function below × StackAgrees more below s
  StackAgrees [] (a ∷ below) s = ⊥
  StackAgrees (x ∷ more) [] s = ⊥

  below_all : (j k : ℕ) (below : Stack) → j < k → IsBelow k below → IsBelow j below
  below_all j k [] lower h = tt
  below_all j k (caller ∷ below) lower h = (let step = h.0 in omega arith, below_all j k below lower h.1)

  -- what is read by a frame is the same in the one store
  module _ (known : Known) (caller : Places) (a : Frame) (s : Store) (h : Agrees known caller a s) where
    alike : (y : ℕ) → IsTrue (known.here y) → number_at a.store y ≡ number_at (own table a.function s) y
    alike y shown = h.same y shown ∙ sym (get_or-drop (table a.function).base s y (pos 0))

    pub read_out : (e : Expression) → Reads known.here e → (v : ℤ) → May e a.store v → May e (own table a.function s) v
    read_out e reads v may = read_number known.here a.store (own table a.function s) alike e reads v may

    pub read_in : (e : Expression) → Reads known.here e → (v : ℤ) → May e (own table a.function s) v → May e a.store v
    read_in e reads v may = read_number known.here (own table a.function s) a.store (λ y shown. sym (alike y shown)) e reads v may

    pub tested_out : (c : Expression) → Reads known.here c → (b : Bool) → MayTest c a.store b → MayTest c (own table a.function s) b
    tested_out c reads b may = read_test known.here a.store (own table a.function s) alike c reads b may

    pub tested_in : (c : Expression) → Reads known.here c → (b : Bool) → MayTest c (own table a.function s) b → MayTest c a.store b
    tested_in c reads b may = read_test known.here (own table a.function s) a.store (λ y shown. sym (alike y shown)) c reads b may

    -- the frame with something else to do, for which less has to be set
    pub goes : (marked here : Places) (todo : List Task) → Within here known.here → Within marked here → Within (always table main a.function) marked
        → TodoSet table main a.function caller marked here todo → Agrees (record { marked = marked; here = here }) caller (frame a.function todo a.store) s
    goes marked here todo less low whole todo_set = record {
      inside = h.inside;
      places = h.places;
      bound = λ y shown. h.bound y (less y shown);
      low = low;
      whole = whole;
      same = λ y shown. h.same y (less y shown);
      set = todo_set;
    }

    -- a variable of another frame gets a number
    pub spared : (k x : ℕ) (v : ℤ) → k ≤ main → a.function ≢ k → x < (table k).vars → Agrees known caller a (set table k s x v)
    spared k x v inside apart small = record {
      inside = h.inside;
      places = h.places;
      bound = h.bound;
      low = h.low;
      whole = h.whole;
      same = λ y shown.
          h.same y shown
          ∙ sym (get_or-set_other s ((table k).base + x) ((table a.function).base + y) v (pos 0)
          (tidy.apart a.function k h.inside inside apart y x (h.bound y shown) small));
      set = h.set;
    }

    -- a variable of its own does
    pub given_here : (x : ℕ) (v : ℤ) (todo : List Task) → length s ≡ 16 → x < (table a.function).vars
        → TodoSet table main a.function caller known.marked (also x known.here) todo
        → Agrees (record { marked = known.marked; here = also x known.here }) caller (frame a.function todo (slice_set a.store x v)) (set table a.function s x v)
    given_here x v todo long small todo_set =
        let base : ℕ = (table a.function).base in
        let room = tidy.room a.function h.inside in
        record {
          inside = h.inside;
          places = length-set a.store x v ∙ h.places;
          bound = λ y shown. elim (eqb_tells y x) [
            | inl same ↦ (let is : y ≡ x = same.1 in omega arith)
            | inr other ↦ h.bound y (subst (λ b. IsTrue (b || known.here y)) other.0 shown)
          ];
          low = λ y shown. also_grows x known.here y (h.low y shown);
          whole = h.whole;
          same = λ y shown. elim (eqb_tells y x) [
            | inl same ↦
                (let is : y ≡ x = same.1 in
                let long_own = h.places in
                get_or-set_at a.store x y v (pos 0) is (omega arith)
                ∙ sym (get_or-set_at s (base + x) (base + y) v (pos 0) (omega arith) (omega arith)))
            | inr other ↦
                (let apart : y ≢ x = other.1 in
                get_or-set_other a.store x y v (pos 0) apart
                ∙ h.same y (subst (λ b. IsTrue (b || known.here y)) other.0 shown)
                ∙ sym (get_or-set_other s (base + x) (base + y) v (pos 0) (λ e. apart (omega arith))))
          ];
          set = todo_set;
        }

  stack_spared : (known : List Known) (below : Stack) (s : Store) (k x : ℕ) (v : ℤ) → k ≤ main → x < (table k).vars → IsBelow k below
      → StackAgrees known below s → StackAgrees known below (set table k s x v)
  stack_spared [] [] s k x v inside small lower h = tt
  stack_spared [] (a ∷ below) s k x v inside small lower h = absurd h
  stack_spared (known ∷ more) [] s k x v inside small lower h = absurd h
  stack_spared (known ∷ more) (a ∷ below) s k x v inside small lower h = (
    spared known (here_of more) a s h.0 k x v inside (λ e. let step = lower.0 in omega arith) small,
    h.1,
    stack_spared more below s k x v inside small lower.1 h.2,
  )

  -- ── Replacing ──

  never_main : (f : ℕ) → f < main → Within (always table main f) none
  never_main f below y h = elim (eqb_tells f main) [
    | inl same ↦ (let is : f ≡ main = same.1 in absurd (omega arith))
    | inr other ↦ subst (λ b. IsTrue (b && nat_lt y (table f).vars)) other.0 h
  ]

  -- the one store's frames are replaced alike, and the frames still agree
  abbrev pub Alike : List Sharing → Stack → Store → Option (List Sharing) → Type 0
  Alike bared after s replaced = (replaced ≡ Some (bare after)) × (known : List Known) × StackAgrees known after s

  own_command : (k : ℕ) (first : Command) (rest : List Task) (t : Store) (below after : Stack) (s : Store) (known : List Known)
      → StackAgrees known (frame k (command first ∷ rest) t ∷ below) s → FramesStand table main (bare (frame k (command first ∷ rest) t ∷ below))
      → frames.replaced_command table fresh k first rest t below ≡ Some after
      → Alike (bare below) after s (shared.replaced_command table k first rest (bare below))
  own_command k first rest t below after s [] h stands e = absurd h
  own_command k (call target f arguments) rest t below after s (known ∷ more) h (inside, inl last, callers) e = absurd last
  own_command k (call (Some x) f arguments) rest t below after s (known ∷ more) h (inside, inr j, callers) e =
      let own_set = h.0.set in
      let lower : f < k = j.0.0 in
      subst (λ after. Alike (bare below) after s (shared.replaced_command table k (call (Some x) f arguments) rest (bare below))) (injected e) (
        refl,
        record { marked = none; here = none } ∷ record { marked = known.marked; here = known.here } ∷ more,
        (
          record {
            inside = omega arith;
            places = wide;
            bound = λ y shown. absurd (cc);
            low = λ y shown. shown;
            whole = never_main f (omega arith);
            same = λ y shown. absurd (cc);
            set = entered_set table main tidy f known.here arguments (omega arith) own_set.0.2 own_set.0.1;
          },
          (lower, below_all f k below lower (is_below k below h.1)),
          (
            goes known (here_of more) (frame k (command (call (Some x) f arguments) ∷ rest) t) s h.0 known.marked known.here (take x ∷ rest) (λ y i. i) h.0.low h.0.whole
                (own_set.0.0, own_set.1),
            h.1,
            h.2,
          ),
        ),
      )
  own_command k (call None f arguments) rest t below after s (known ∷ more) h (inside, inr j, callers) e =
      let own_set = h.0.set in
      let lower : f < k = j.0.0 in
      subst (λ after. Alike (bare below) after s (shared.replaced_command table k (call None f arguments) rest (bare below))) (injected e) (
        refl,
        record { marked = none; here = none } ∷ record { marked = known.marked; here = known.here } ∷ more,
        (
          record {
            inside = omega arith;
            places = wide;
            bound = λ y shown. absurd (cc);
            low = λ y shown. shown;
            whole = never_main f (omega arith);
            same = λ y shown. absurd (cc);
            set = entered_set table main tidy f known.here arguments (omega arith) own_set.0.2 own_set.0.1;
          },
          (lower, below_all f k below lower (is_below k below h.1)),
          (
            goes known (here_of more) (frame k (command (call None f arguments) ∷ rest) t) s h.0 known.marked known.here (forget ∷ rest) (λ y i. i) h.0.low h.0.whole
                own_set.1,
            h.1,
            h.2,
          ),
        ),
      )
  own_command k (do_while body c) rest t below after s (known ∷ more) h stands e =
      let own_set = h.0.set in
      subst (λ after. Alike (bare below) after s (shared.replaced_command table k (do_while body c) rest (bare below))) (injected e) (
        refl,
        record { marked = known.here; here = known.here } ∷ more,
        (
          goes known (here_of more) (frame k (command (do_while body c) ∷ rest) t) s h.0 known.here known.here (tasks_of body ++ mark c body empty ∷ rest)
              (λ y i. i) (λ y i. i) (λ y i. h.0.low y (h.0.whole y i))
              (todo_before table main k (here_of more) known.here known.here body (mark c body empty ∷ rest) own_set.0.1
              (own_set.0.0, own_set.0.1, tt, (known.marked, h.0.low, h.0.whole, own_set.1))),
          h.1,
          h.2,
        ),
      )
  own_command k (assign x v) rest t below after s (known ∷ more) h stands e = absurd (cc)
  own_command k skip rest t below after s (known ∷ more) h stands e = absurd (cc)
  own_command k (return value) rest t below after s (known ∷ more) h stands e = absurd (cc)
  own_command k break rest t below after s (known ∷ more) h stands e = absurd (cc)
  own_command k continue rest t below after s (known ∷ more) h stands e = absurd (cc)
  own_command k (if_else c first second) rest t below after s (known ∷ more) h stands e = absurd (cc)
  own_command k (while_loop c body step) rest t below after s (known ∷ more) h stands e = absurd (cc)

  own_removed : (k j : ℕ) (todo : List Task) (t u : Store) (below after : Stack) (s : Store) (known : List Known)
      → StackAgrees known (frame k [] t ∷ frame j todo u ∷ below) s → FramesStand table main (bare (frame k [] t ∷ frame j todo u ∷ below))
      → Some (frame j (behind_first todo) u ∷ below) ≡ Some after
      → Alike (bare (frame j todo u ∷ below)) after s (shared.removed (bare (frame j todo u ∷ below)))
  own_removed k j todo t u below after s [] h stands e = absurd h
  own_removed k j todo t u below after s (known ∷ []) h stands e = absurd h.2
  own_removed k j (forget ∷ rest) t u below after s (known ∷ second ∷ more) h stands e =
      subst (λ after. Alike (bare (frame j (forget ∷ rest) u ∷ below)) after s (shared.removed (bare (frame j (forget ∷ rest) u ∷ below)))) (injected e) (
        refl,
        record { marked = second.marked; here = second.here } ∷ more,
        (
          goes second (here_of more) (frame j (forget ∷ rest) u) s h.2.0 second.marked second.here rest (λ y i. i) h.2.0.low h.2.0.whole h.2.0.set,
          h.2.1,
          h.2.2,
        ),
      )
  own_removed k j (take x ∷ rest) t u below after s (known ∷ second ∷ more) h stands e = absurd stands.1
  own_removed k j [] t u below after s (known ∷ second ∷ more) h stands e = absurd stands.2.1
  own_removed k j (command c ∷ rest) t u below after s (known ∷ second ∷ more) h stands e = absurd stands.2.1
  own_removed k j (mark c body step ∷ rest) t u below after s (known ∷ second ∷ more) h stands e = absurd stands.2.1
  own_removed k j (pass x a ∷ rest) t u below after s (known ∷ second ∷ more) h stands e = absurd stands.2.1
  own_removed k j (choose l ∷ rest) t u below after s (known ∷ second ∷ more) h stands e = absurd stands.2.1

  own_tasks : (k : ℕ) (todo : List Task) (t : Store) (below after : Stack) (s : Store) (known : List Known)
      → StackAgrees known (frame k todo t ∷ below) s → FramesStand table main (bare (frame k todo t ∷ below))
      → frames.replaced_tasks table fresh k todo t below ≡ Some after
      → Alike (bare below) after s (shared.replaced_tasks table k todo (bare below))
  own_tasks k todo t below after s [] h stands e = absurd h
  own_tasks k [] t [] after s (known ∷ more) h stands e = absurd (cc)
  own_tasks k [] t (caller ∷ below) after s (known ∷ more) h stands e =
      own_removed k caller.function caller.todo t caller.store below after s (known ∷ more) h stands e
  own_tasks k (command first ∷ rest) t below after s (known ∷ more) h stands e = own_command k first rest t below after s (known ∷ more) h stands e
  own_tasks k (mark c body step ∷ rest) t below after s (known ∷ more) h stands e =
      let own_set = h.0.set in
      let outer : Places = own_set.3.0 in
      subst (λ after. Alike (bare below) after s (shared.replaced_tasks table k (mark c body step ∷ rest) (bare below))) (injected e) (
        refl,
        record { marked = outer; here = known.marked } ∷ more,
        (
          goes known (here_of more) (frame k (mark c body step ∷ rest) t) s h.0 outer known.marked (tasks_of step ++ command (while_loop c body step) ∷ rest)
              h.0.low own_set.3.1 own_set.3.2
              (todo_before table main k (here_of more) outer known.marked step (command (while_loop c body step) ∷ rest) own_set.2
              ((own_set.0, own_set.1, own_set.2), own_set.3.3)),
          h.1,
          h.2,
        ),
      )
  own_tasks k (pass x a ∷ rest) t below after s (known ∷ more) h stands e = absurd (cc)
  own_tasks k (choose l ∷ rest) t below after s (known ∷ more) h stands e = absurd (cc)
  own_tasks k (take x ∷ rest) t below after s (known ∷ more) h stands e = absurd (cc)
  own_tasks k (forget ∷ rest) t below after s (known ∷ more) h stands e = absurd (cc)

  pub own_replaced : (c after : Stack) (s : Store) (known : List Known) → StackAgrees known c s → FramesStand table main (bare c)
      → frames.replaced table fresh c ≡ Some after → Alike (bare c) after s (shared.replaced table (bare c))
  own_replaced [] after s known h stands e = absurd stands
  own_replaced (first ∷ below) after s known h stands e = own_tasks first.function first.todo first.store below after s known h stands e

  -- and nothing of them is replaced where nothing is here
  unreplaced_command : (k : ℕ) (first : Command) (rest : List Task) (t : Store) (below : Stack) → frames.replaced_command table fresh k first rest t below ≡ None
      → shared.replaced_command table k first rest (bare below) ≡ None
  unreplaced_command k (call target f arguments) rest t below e = absurd (cc)
  unreplaced_command k (do_while body c) rest t below e = absurd (cc)
  unreplaced_command k (assign x v) rest t below e = refl
  unreplaced_command k skip rest t below e = refl
  unreplaced_command k (return value) rest t below e = refl
  unreplaced_command k break rest t below e = refl
  unreplaced_command k continue rest t below e = refl
  unreplaced_command k (if_else c first second) rest t below e = refl
  unreplaced_command k (while_loop c body step) rest t below e = refl

  unreplaced_tasks : (k : ℕ) (todo : List Task) (t : Store) (below : Stack) → frames.replaced_tasks table fresh k todo t below ≡ None
      → shared.replaced_tasks table k todo (bare below) ≡ None
  unreplaced_tasks k [] t [] e = refl
  unreplaced_tasks k [] t (caller ∷ below) e = absurd (cc)
  unreplaced_tasks k (command first ∷ rest) t below e = unreplaced_command k first rest t below e
  unreplaced_tasks k (mark c body step ∷ rest) t below e = absurd (cc)
  unreplaced_tasks k (pass x a ∷ rest) t below e = refl
  unreplaced_tasks k (choose l ∷ rest) t below e = refl
  unreplaced_tasks k (take x ∷ rest) t below e = refl
  unreplaced_tasks k (forget ∷ rest) t below e = refl

  pub unreplaced : (c : Stack) → frames.replaced table fresh c ≡ None → shared.replaced table (bare c) ≡ None
  unreplaced [] e = refl
  unreplaced (first ∷ below) e = unreplaced_tasks first.function first.todo first.store below e

  -- ── Steps ──

  pub record Joined (c : Stack) (f : Shared) : Type 0 where
    pub frames : f.frames ≡ bare c
    pub long : length f.store ≡ 16
    pub known : List Known
    pub agree : StackAgrees known c f.store

  joined : (c : Stack) (f : Shared) (s : Store) (known : List Known) → f.frames ≡ bare c → f.store ≡ s → length s ≡ 16 → StackAgrees known c s → Joined c f
  joined c f s known same store long agree = record {
    frames = same;
    long = ap length store ∙ long;
    known = known;
    agree = subst (λ s. StackAgrees known c s) (sym store) agree;
  }

  -- what the frames become by the steps of each kind, where `h` is what agrees before
  module _ (k : ℕ) (todo : List Task) (t : Store) (below : Stack) (s : Store) (known : Known) (more : List Known)
      (h : StackAgrees (known ∷ more) (frame k todo t ∷ below) s) (long : length s ≡ 16) where
    abbrev a : Frame
    a = frame k todo t

    went : (marked here : Places) (rest : List Task) → Within here known.here → Within marked here → Within (always table main k) marked
        → TodoSet table main k (here_of more) marked here rest → StackAgrees (record { marked = marked; here = here } ∷ more) (frame k rest t ∷ below) s
    went marked here rest less low whole set = (goes known (here_of more) a s h.0 marked here rest less low whole set, h.1, h.2)

    gave : (x : ℕ) (v : ℤ) (rest : List Task) → x < (table k).vars → TodoSet table main k (here_of more) known.marked (also x known.here) rest
        → StackAgrees (record { marked = known.marked; here = also x known.here } ∷ more) (frame k rest (slice_set t x v) ∷ below) (set table k s x v)
    gave x v rest small set = (
      given_here known (here_of more) a s h.0 x v rest long small set,
      h.1,
      stack_spared more below s k x v h.0.inside small (is_below k below h.1) h.2,
    )

    stays_long : (x : ℕ) (v : ℤ) → length (set table k s x v) ≡ 16
    stays_long x v = length-set s ((table k).base + x) v ∙ long

  module _ (s : Store) (long : length s ≡ 16) where
    -- what frames over one store do where these do something
    abbrev Out : Stack → Stack → Type 0
    Out c d = (f : Shared) × shared.FramesStep table (bare c) s f × Joined d f

    abbrev at : Stack → Store → Shared
    at c store = record { frames = bare c; store = store }

    -- one step to this stack, which is the one that was reached
    reached : (c d e : Stack) (f : Shared) → shared.FramesStep table (bare c) s f → Joined e f → d ≡ e → Out c d
    reached c d e f step join same = (f, step, subst (λ d. Joined d f) (sym same) join)

    out_returns : (k : ℕ) (value : Option Expression) (rest : List Task) (t : Store) (j : ℕ) (todo : List Task) (u : Store) (below : Stack) (known : List Known) (d : Stack)
        → StackAgrees known (frame k (command (return value) ∷ rest) t ∷ frame j todo u ∷ below) s
        → frames.ReturnsTo table fresh value t j todo u below d
        → Out (frame k (command (return value) ∷ rest) t ∷ frame j todo u ∷ below) d
    out_returns k value rest t j todo u below [] d h step = absurd h
    out_returns k value rest t j todo u below (known ∷ []) d h step = absurd h.2
    out_returns k (Some e) rest t j (take x ∷ after) u below (known ∷ second ∷ more) d h step =
        let c : Stack = frame k (command (return (Some e)) ∷ rest) t ∷ frame j (take x ∷ after) u ∷ below in
        let awaiting = h.2.0.set in
        let found = gave j (take x ∷ after) u below s second more h.2 long x step.0 after awaiting.0 awaiting.1 in
        let v = read_out known second.here (frame k (command (return (Some e)) ∷ rest) t) s h.0 e h.0.set.0 step.0 step.1 in
        let f : Shared = at (frame j after (slice_set u x step.0) ∷ below) (set table j s x step.0) in
        reached c d (frame j after (slice_set u x step.0) ∷ below) f (refl, (step.0, v, refl))
        (joined (frame j after (slice_set u x step.0) ∷ below) f (set table j s x step.0) (record { marked = second.marked; here = also x second.here } ∷ more)
        refl refl (stays_long j (take x ∷ after) u below s second more h.2 long x step.0) found) step.2
    out_returns k None rest t j (take x ∷ after) u below (known ∷ second ∷ more) d h step = absurd step
    out_returns k (Some e) rest t j (forget ∷ after) u below (known ∷ second ∷ more) d h step =
        let c : Stack = frame k (command (return (Some e)) ∷ rest) t ∷ frame j (forget ∷ after) u ∷ below in
        let f : Shared = at (frame j after u ∷ below) s in
        reached c d (frame j after u ∷ below) f (refl, refl)
        (joined (frame j after u ∷ below) f s (second ∷ more) refl refl long
        (went j (forget ∷ after) u below s second more h.2 long second.marked second.here after (λ y i. i) h.2.0.low h.2.0.whole h.2.0.set)) step
    out_returns k None rest t j (forget ∷ after) u below (known ∷ second ∷ more) d h step =
        let c : Stack = frame k (command (return None) ∷ rest) t ∷ frame j (forget ∷ after) u ∷ below in
        let f : Shared = at (frame j after u ∷ below) s in
        reached c d (frame j after u ∷ below) f (refl, refl)
        (joined (frame j after u ∷ below) f s (second ∷ more) refl refl long
        (went j (forget ∷ after) u below s second more h.2 long second.marked second.here after (λ y i. i) h.2.0.low h.2.0.whole h.2.0.set)) step
    out_returns k (Some e) rest t j [] u below (known ∷ second ∷ more) d h step = absurd step
    out_returns k None rest t j [] u below (known ∷ second ∷ more) d h step = absurd step
    out_returns k (Some e) rest t j (command c ∷ after) u below (known ∷ second ∷ more) d h step = absurd step
    out_returns k None rest t j (command c ∷ after) u below (known ∷ second ∷ more) d h step = absurd step
    out_returns k (Some e) rest t j (mark c b l ∷ after) u below (known ∷ second ∷ more) d h step = absurd step
    out_returns k None rest t j (mark c b l ∷ after) u below (known ∷ second ∷ more) d h step = absurd step
    out_returns k (Some e) rest t j (pass x b ∷ after) u below (known ∷ second ∷ more) d h step = absurd step
    out_returns k None rest t j (pass x b ∷ after) u below (known ∷ second ∷ more) d h step = absurd step
    out_returns k (Some e) rest t j (choose l ∷ after) u below (known ∷ second ∷ more) d h step = absurd step
    out_returns k None rest t j (choose l ∷ after) u below (known ∷ second ∷ more) d h step = absurd step

    -- the frames go on with this and the store stays
    out_goes : (c : Stack) (k : ℕ) (todo : List Task) (t : Store) (below : Stack) (d : Stack) (known : List Known) → StackAgrees known (frame k todo t ∷ below) s
        → shared.FramesStep table (bare c) s (at (frame k todo t ∷ below) s) → d ≡ frame k todo t ∷ below → Out c d
    out_goes c k todo t below d known agree step same =
        let f : Shared = at (frame k todo t ∷ below) s in
        reached c d (frame k todo t ∷ below) f step (joined (frame k todo t ∷ below) f s known refl refl long agree) same

    out_gives : (c : Stack) (k : ℕ) (todo rest : List Task) (t : Store) (below : Stack) (d : Stack) (known : Known) (more : List Known) (x : ℕ) (v : ℤ)
        → StackAgrees (known ∷ more) (frame k todo t ∷ below) s → x < (table k).vars → TodoSet table main k (here_of more) known.marked (also x known.here) rest
        → shared.FramesStep table (bare c) s (at (frame k rest (slice_set t x v) ∷ below) (set table k s x v)) → d ≡ frame k rest (slice_set t x v) ∷ below → Out c d
    out_gives c k todo rest t below d known more x v h small todo_set step same =
        let f : Shared = at (frame k rest (slice_set t x v) ∷ below) (set table k s x v) in
        reached c d (frame k rest (slice_set t x v) ∷ below) f step
        (joined (frame k rest (slice_set t x v) ∷ below) f (set table k s x v) (record { marked = known.marked; here = also x known.here } ∷ more) refl refl
        (stays_long k todo t below s known more h long x v) (gave k todo t below s known more h long x v rest small todo_set)) same

    out_command : (k : ℕ) (first : Command) (rest : List Task) (t : Store) (below : Stack) (known : List Known) (d : Stack)
        → StackAgrees known (frame k (command first ∷ rest) t ∷ below) s → frames.CommandSteps table fresh k first rest t below d
        → Out (frame k (command first ∷ rest) t ∷ below) d
    out_command k first rest t below [] d h step = absurd h
    out_command k (assign x e) rest t below (known ∷ more) d h step =
        let j = h.0.set in
        out_gives (frame k (command (assign x e) ∷ rest) t ∷ below) k (command (assign x e) ∷ rest) rest t below d known more x step.0 h j.0.0 j.1
        (refl, (step.0, read_out known (here_of more) (frame k (command (assign x e) ∷ rest) t) s h.0 e j.0.1 step.0 step.1, refl)) step.2
    out_command k skip rest t below (known ∷ more) d h step =
        out_goes (frame k (command skip ∷ rest) t ∷ below) k rest t below d (known ∷ more)
        (went k (command skip ∷ rest) t below s known more h long known.marked known.here rest (λ y i. i) h.0.low h.0.whole h.0.set.1) (refl, refl) step
    out_command k (return value) rest t [] (known ∷ more) d h step =
        out_goes (frame k (command (return value) ∷ rest) t ∷ []) k [] t [] d (known ∷ more)
        (went k (command (return value) ∷ rest) t [] s known more h long known.marked known.here [] (λ y i. i) h.0.low h.0.whole tt) (refl, refl) step
    out_command k (return value) rest t (caller ∷ below) (known ∷ more) d h step =
        out_returns k value rest t caller.function caller.todo caller.store below (known ∷ more) d h step
    out_command k break rest t below (known ∷ more) d h step =
        let b = behind_mark_set table main k (here_of more) known.marked known.here rest h.0.set.1 in
        out_goes (frame k (command break ∷ rest) t ∷ below) k (behind_mark rest) t below d (record { marked = b.outer; here = b.inner } ∷ more)
        (went k (command break ∷ rest) t below s known more h long b.outer b.inner (behind_mark rest) (λ y i. h.0.low y (b.high y i)) b.low (b.whole h.0.whole) b.set)
        (refl, refl) step
    out_command k continue rest t below (known ∷ more) d h step =
        out_goes (frame k (command continue ∷ rest) t ∷ below) k (from_mark rest) t below d (record { marked = known.marked; here = known.marked } ∷ more)
        (went k (command continue ∷ rest) t below s known more h long known.marked known.marked (from_mark rest) h.0.low (λ y i. i) h.0.whole
        (from_mark_set table main k (here_of more) known.marked known.here rest h.0.set.1)) (refl, refl) step
    out_command k (if_else c first second) rest t below (known ∷ more) d h (inl step) =
        let j = h.0.set in
        out_goes (frame k (command (if_else c first second) ∷ rest) t ∷ below) k (tasks_of first ++ rest) t below d (known ∷ more)
        (went k (command (if_else c first second) ∷ rest) t below s known more h long known.marked known.here (tasks_of first ++ rest) (λ y i. i) h.0.low h.0.whole
        (todo_before table main k (here_of more) known.marked known.here first rest j.0.1 j.1))
        (inl (tested_out known (here_of more) (frame k (command (if_else c first second) ∷ rest) t) s h.0 c j.0.0 true step.0, (refl, refl))) step.1
    out_command k (if_else c first second) rest t below (known ∷ more) d h (inr step) =
        let j = h.0.set in
        out_goes (frame k (command (if_else c first second) ∷ rest) t ∷ below) k (tasks_of second ++ rest) t below d (known ∷ more)
        (went k (command (if_else c first second) ∷ rest) t below s known more h long known.marked known.here (tasks_of second ++ rest) (λ y i. i) h.0.low h.0.whole
        (todo_before table main k (here_of more) known.marked known.here second rest j.0.2 j.1))
        (inr (tested_out known (here_of more) (frame k (command (if_else c first second) ∷ rest) t) s h.0 c j.0.0 false step.0, (refl, refl))) step.1
    out_command k (while_loop c body last) rest t below (known ∷ more) d h (inl step) =
        let j = h.0.set in
        out_goes (frame k (command (while_loop c body last) ∷ rest) t ∷ below) k (tasks_of body ++ mark c body last ∷ rest) t below d
        (record { marked = known.here; here = known.here } ∷ more)
        (went k (command (while_loop c body last) ∷ rest) t below s known more h long known.here known.here (tasks_of body ++ mark c body last ∷ rest)
        (λ y i. i) (λ y i. i) (λ y i. h.0.low y (h.0.whole y i))
        (todo_before table main k (here_of more) known.here known.here body (mark c body last ∷ rest) j.0.1
        (j.0.0, j.0.1, j.0.2, (known.marked, h.0.low, h.0.whole, j.1))))
        (inl (tested_out known (here_of more) (frame k (command (while_loop c body last) ∷ rest) t) s h.0 c j.0.0 true step.0, (refl, refl))) step.1
    out_command k (while_loop c body last) rest t below (known ∷ more) d h (inr step) =
        let j = h.0.set in
        out_goes (frame k (command (while_loop c body last) ∷ rest) t ∷ below) k rest t below d (known ∷ more)
        (went k (command (while_loop c body last) ∷ rest) t below s known more h long known.marked known.here rest (λ y i. i) h.0.low h.0.whole j.1)
        (inr (tested_out known (here_of more) (frame k (command (while_loop c body last) ∷ rest) t) s h.0 c j.0.0 false step.0, (refl, refl))) step.1
    out_command k (call target f arguments) rest t below (known ∷ more) d h step = absurd step
    out_command k (do_while body c) rest t below (known ∷ more) d h step = absurd step

    out_tasks : (k : ℕ) (todo : List Task) (t : Store) (below : Stack) (known : List Known) (d : Stack)
        → StackAgrees known (frame k todo t ∷ below) s → frames.TasksStep table fresh k todo t below d → Out (frame k todo t ∷ below) d
    out_tasks k todo t below [] d h step = absurd h
    out_tasks k [] t below (known ∷ more) d h step = absurd step
    out_tasks k (command first ∷ rest) t below (known ∷ more) d h step = out_command k first rest t below (known ∷ more) d h step
    out_tasks k (mark c b l ∷ rest) t below (known ∷ more) d h step = absurd step
    out_tasks k (pass x a ∷ rest) t [] (known ∷ more) d h step = absurd step
    out_tasks k (pass x a ∷ rest) t (caller ∷ below) (known ∷ []) d h step = absurd h.2
    out_tasks k (pass x a ∷ rest) t (caller ∷ below) (known ∷ second ∷ more) d h step =
        let j = h.0.set in
        out_gives (frame k (pass x a ∷ rest) t ∷ caller ∷ below) k (pass x a ∷ rest) rest t (caller ∷ below) d known (second ∷ more) x step.0 h j.0 j.2
        (refl, (step.0, read_out second (here_of more) caller s h.2.0 a j.1 step.0 step.1, refl)) step.2
    out_tasks k (choose l ∷ rest) t below (known ∷ more) d h step =
        let j = h.0.set in
        out_gives (frame k (choose l ∷ rest) t ∷ below) k (choose l ∷ rest) rest t below d known more l step.0 h j.0 j.1 (refl, (step.0, refl)) step.1
    out_tasks k (take x ∷ rest) t below (known ∷ more) d h step = absurd step
    out_tasks k (forget ∷ rest) t below (known ∷ more) d h step = absurd step

    pub out_steps : (c d : Stack) (known : List Known) → StackAgrees known c s → frames.StackSteps table fresh c d → Out c d
    out_steps [] d known h step = absurd step
    out_steps (first ∷ below) d known h step = out_tasks first.function first.todo first.store below known d h step

    -- and what these do where the others do something
    abbrev In : Stack → Shared → Type 0
    In c f = (d : Stack) × frames.StackSteps table fresh c d × Joined d f

    in_gives : (c : Stack) (k : ℕ) (todo rest : List Task) (t : Store) (below : Stack) (f : Shared) (known : Known) (more : List Known) (x : ℕ) (v : ℤ)
        → StackAgrees (known ∷ more) (frame k todo t ∷ below) s → x < (table k).vars → TodoSet table main k (here_of more) known.marked (also x known.here) rest
        → frames.StackSteps table fresh c (frame k rest (slice_set t x v) ∷ below) → f.frames ≡ bare (frame k rest (slice_set t x v) ∷ below)
        → f.store ≡ set table k s x v → In c f
    in_gives c k todo rest t below f known more x v h small todo_set step same store =
        let d : Stack = frame k rest (slice_set t x v) ∷ below in (
          d,
          step,
          joined d f (set table k s x v) (record { marked = known.marked; here = also x known.here } ∷ more) same store
              (stays_long k todo t below s known more h long x v) (gave k todo t below s known more h long x v rest small todo_set),
        )

    in_goes : (c : Stack) (k : ℕ) (todo : List Task) (t : Store) (below : Stack) (f : Shared) (known : List Known) → StackAgrees known (frame k todo t ∷ below) s
        → frames.StackSteps table fresh c (frame k todo t ∷ below) → shared.GoesOn k todo (bare below) s f → In c f
    in_goes c k todo t below f known agree step same =
        (frame k todo t ∷ below, step, joined (frame k todo t ∷ below) f s known same.0 same.1 long agree)

    in_returns : (k : ℕ) (value : Option Expression) (rest : List Task) (t : Store) (j : ℕ) (todo : List Task) (u : Store) (below : Stack) (known : List Known) (f : Shared)
        → StackAgrees known (frame k (command (return value) ∷ rest) t ∷ frame j todo u ∷ below) s
        → shared.ReturnsTo table k value j todo (bare below) s f
        → In (frame k (command (return value) ∷ rest) t ∷ frame j todo u ∷ below) f
    in_returns k value rest t j todo u below [] f h step = absurd h
    in_returns k value rest t j todo u below (known ∷ []) f h step = absurd h.2
    in_returns k (Some e) rest t j (take x ∷ after) u below (known ∷ second ∷ more) f h step =
        let awaiting = h.2.0.set in
        let v = read_in known second.here (frame k (command (return (Some e)) ∷ rest) t) s h.0 e h.0.set.0 step.1.0 step.1.1 in
        in_gives (frame k (command (return (Some e)) ∷ rest) t ∷ frame j (take x ∷ after) u ∷ below) j (take x ∷ after) after u below f second more x step.1.0 h.2
        awaiting.0 awaiting.1 (step.1.0, v, refl) step.0 step.1.2
    in_returns k None rest t j (take x ∷ after) u below (known ∷ second ∷ more) f h step = absurd step
    in_returns k (Some e) rest t j (forget ∷ after) u below (known ∷ second ∷ more) f h step =
        in_goes (frame k (command (return (Some e)) ∷ rest) t ∷ frame j (forget ∷ after) u ∷ below) j after u below f (second ∷ more)
        (went j (forget ∷ after) u below s second more h.2 long second.marked second.here after (λ y i. i) h.2.0.low h.2.0.whole h.2.0.set) refl step
    in_returns k None rest t j (forget ∷ after) u below (known ∷ second ∷ more) f h step =
        in_goes (frame k (command (return None) ∷ rest) t ∷ frame j (forget ∷ after) u ∷ below) j after u below f (second ∷ more)
        (went j (forget ∷ after) u below s second more h.2 long second.marked second.here after (λ y i. i) h.2.0.low h.2.0.whole h.2.0.set) refl step
    in_returns k (Some e) rest t j [] u below (known ∷ second ∷ more) f h step = absurd step
    in_returns k None rest t j [] u below (known ∷ second ∷ more) f h step = absurd step
    in_returns k (Some e) rest t j (command c ∷ after) u below (known ∷ second ∷ more) f h step = absurd step
    in_returns k None rest t j (command c ∷ after) u below (known ∷ second ∷ more) f h step = absurd step
    in_returns k (Some e) rest t j (mark c b l ∷ after) u below (known ∷ second ∷ more) f h step = absurd step
    in_returns k None rest t j (mark c b l ∷ after) u below (known ∷ second ∷ more) f h step = absurd step
    in_returns k (Some e) rest t j (pass x b ∷ after) u below (known ∷ second ∷ more) f h step = absurd step
    in_returns k None rest t j (pass x b ∷ after) u below (known ∷ second ∷ more) f h step = absurd step
    in_returns k (Some e) rest t j (choose l ∷ after) u below (known ∷ second ∷ more) f h step = absurd step
    in_returns k None rest t j (choose l ∷ after) u below (known ∷ second ∷ more) f h step = absurd step

    in_command : (k : ℕ) (first : Command) (rest : List Task) (t : Store) (below : Stack) (known : List Known) (f : Shared)
        → StackAgrees known (frame k (command first ∷ rest) t ∷ below) s → shared.CommandSteps table k first rest (bare below) s f
        → In (frame k (command first ∷ rest) t ∷ below) f
    in_command k first rest t below [] f h step = absurd h
    in_command k (assign x e) rest t below (known ∷ more) f h step =
        let j = h.0.set in
        in_gives (frame k (command (assign x e) ∷ rest) t ∷ below) k (command (assign x e) ∷ rest) rest t below f known more x step.1.0 h j.0.0 j.1
        (step.1.0, read_in known (here_of more) (frame k (command (assign x e) ∷ rest) t) s h.0 e j.0.1 step.1.0 step.1.1, refl) step.0 step.1.2
    in_command k skip rest t below (known ∷ more) f h step =
        in_goes (frame k (command skip ∷ rest) t ∷ below) k rest t below f (known ∷ more)
        (went k (command skip ∷ rest) t below s known more h long known.marked known.here rest (λ y i. i) h.0.low h.0.whole h.0.set.1) refl step
    in_command k (return value) rest t [] (known ∷ more) f h step =
        in_goes (frame k (command (return value) ∷ rest) t ∷ []) k [] t [] f (known ∷ more)
        (went k (command (return value) ∷ rest) t [] s known more h long known.marked known.here [] (λ y i. i) h.0.low h.0.whole tt) refl step
    in_command k (return value) rest t (caller ∷ below) (known ∷ more) f h step =
        in_returns k value rest t caller.function caller.todo caller.store below (known ∷ more) f h step
    in_command k break rest t below (known ∷ more) f h step =
        let b = behind_mark_set table main k (here_of more) known.marked known.here rest h.0.set.1 in
        in_goes (frame k (command break ∷ rest) t ∷ below) k (behind_mark rest) t below f (record { marked = b.outer; here = b.inner } ∷ more)
        (went k (command break ∷ rest) t below s known more h long b.outer b.inner (behind_mark rest) (λ y i. h.0.low y (b.high y i)) b.low (b.whole h.0.whole) b.set)
        refl step
    in_command k continue rest t below (known ∷ more) f h step =
        in_goes (frame k (command continue ∷ rest) t ∷ below) k (from_mark rest) t below f (record { marked = known.marked; here = known.marked } ∷ more)
        (went k (command continue ∷ rest) t below s known more h long known.marked known.marked (from_mark rest) h.0.low (λ y i. i) h.0.whole
        (from_mark_set table main k (here_of more) known.marked known.here rest h.0.set.1)) refl step
    in_command k (if_else c first second) rest t below (known ∷ more) f h (inl step) =
        let j = h.0.set in
        in_goes (frame k (command (if_else c first second) ∷ rest) t ∷ below) k (tasks_of first ++ rest) t below f (known ∷ more)
        (went k (command (if_else c first second) ∷ rest) t below s known more h long known.marked known.here (tasks_of first ++ rest) (λ y i. i) h.0.low h.0.whole
        (todo_before table main k (here_of more) known.marked known.here first rest j.0.1 j.1))
        (inl (tested_in known (here_of more) (frame k (command (if_else c first second) ∷ rest) t) s h.0 c j.0.0 true step.0, refl)) step.1
    in_command k (if_else c first second) rest t below (known ∷ more) f h (inr step) =
        let j = h.0.set in
        in_goes (frame k (command (if_else c first second) ∷ rest) t ∷ below) k (tasks_of second ++ rest) t below f (known ∷ more)
        (went k (command (if_else c first second) ∷ rest) t below s known more h long known.marked known.here (tasks_of second ++ rest) (λ y i. i) h.0.low h.0.whole
        (todo_before table main k (here_of more) known.marked known.here second rest j.0.2 j.1))
        (inr (tested_in known (here_of more) (frame k (command (if_else c first second) ∷ rest) t) s h.0 c j.0.0 false step.0, refl)) step.1
    in_command k (while_loop c body last) rest t below (known ∷ more) f h (inl step) =
        let j = h.0.set in
        in_goes (frame k (command (while_loop c body last) ∷ rest) t ∷ below) k (tasks_of body ++ mark c body last ∷ rest) t below f
        (record { marked = known.here; here = known.here } ∷ more)
        (went k (command (while_loop c body last) ∷ rest) t below s known more h long known.here known.here (tasks_of body ++ mark c body last ∷ rest)
        (λ y i. i) (λ y i. i) (λ y i. h.0.low y (h.0.whole y i))
        (todo_before table main k (here_of more) known.here known.here body (mark c body last ∷ rest) j.0.1
        (j.0.0, j.0.1, j.0.2, (known.marked, h.0.low, h.0.whole, j.1))))
        (inl (tested_in known (here_of more) (frame k (command (while_loop c body last) ∷ rest) t) s h.0 c j.0.0 true step.0, refl)) step.1
    in_command k (while_loop c body last) rest t below (known ∷ more) f h (inr step) =
        let j = h.0.set in
        in_goes (frame k (command (while_loop c body last) ∷ rest) t ∷ below) k rest t below f (known ∷ more)
        (went k (command (while_loop c body last) ∷ rest) t below s known more h long known.marked known.here rest (λ y i. i) h.0.low h.0.whole j.1)
        (inr (tested_in known (here_of more) (frame k (command (while_loop c body last) ∷ rest) t) s h.0 c j.0.0 false step.0, refl)) step.1
    in_command k (call target g arguments) rest t below (known ∷ more) f h step = absurd step
    in_command k (do_while body c) rest t below (known ∷ more) f h step = absurd step

    in_tasks : (k : ℕ) (todo : List Task) (t : Store) (below : Stack) (known : List Known) (f : Shared)
        → StackAgrees known (frame k todo t ∷ below) s → shared.TasksStep table k todo (bare below) s f → In (frame k todo t ∷ below) f
    in_tasks k todo t below [] f h step = absurd h
    in_tasks k [] t below (known ∷ more) f h step = absurd step
    in_tasks k (command first ∷ rest) t below (known ∷ more) f h step = in_command k first rest t below (known ∷ more) f h step
    in_tasks k (mark c b l ∷ rest) t below (known ∷ more) f h step = absurd step
    in_tasks k (pass x a ∷ rest) t [] (known ∷ more) f h step = absurd step
    in_tasks k (pass x a ∷ rest) t (caller ∷ below) (known ∷ []) f h step = absurd h.2
    in_tasks k (pass x a ∷ rest) t (caller ∷ below) (known ∷ second ∷ more) f h step =
        let j = h.0.set in
        in_gives (frame k (pass x a ∷ rest) t ∷ caller ∷ below) k (pass x a ∷ rest) rest t (caller ∷ below) f known (second ∷ more) x step.1.0 h j.0 j.2
        (step.1.0, read_in second (here_of more) caller s h.2.0 a j.1 step.1.0 step.1.1, refl) step.0 step.1.2
    in_tasks k (choose l ∷ rest) t below (known ∷ more) f h step =
        let j = h.0.set in
        in_gives (frame k (choose l ∷ rest) t ∷ below) k (choose l ∷ rest) rest t below f known more l step.1.0 h j.0 j.1 (step.1.0, refl) step.0 step.1.1
    in_tasks k (take x ∷ rest) t below (known ∷ more) f h step = absurd step
    in_tasks k (forget ∷ rest) t below (known ∷ more) f h step = absurd step

    pub in_steps : (c : Stack) (f : Shared) (known : List Known) → StackAgrees known c s → shared.FramesStep table (bare c) s f → In c f
    in_steps [] f known h step = absurd step
    in_steps (first ∷ below) f known h step = in_tasks first.function first.todo first.store below known f h step

  -- ── Settling ──

  module _ (routines : AreRoutines table main) where
    -- the frames over one store settle as these do
    pub settle_out : (c after : Stack) (s : Store) (known : List Known) → StackAgrees known c s → FramesStand table main (bare c) → frames.Settles table fresh c after
        → shared.Settles table (bare c) (bare after) × (new : List Known) × StackAgrees new after s
    settle_out c after s known h stands (settled none) = (shared.settled (unreplaced c none), known, h)
    settle_out c after s known h stands (replacing {more = more} e rest) =
        let first = own_replaced c more s known h stands e in
        let kept = replaced_keeps table main routines (bare c) (bare more) stands first.0 in
        let behind = settle_out more after s first.1 first.2 kept.0 rest in
        (shared.replacing first.0 behind.0, behind.1, behind.2)

    option_told : {A : Type 0} (o : Option A) → (o ≡ None) ⊎ ((x : A) × (o ≡ Some x))
    option_told None = inl refl
    option_told (Some x) = inr (x, refl)

    -- and these as those
    pub settle_in : (bared settling : List Sharing) (c : Stack) (s : Store) (known : List Known) → bared ≡ bare c → StackAgrees known c s
        → FramesStand table main bared → shared.Settles table bared settling
        → (after : Stack) × frames.Settles table fresh c after × (settling ≡ bare after) × (new : List Known) × StackAgrees new after s
    settle_in bared settling c s known same h stands (shared.settled done) = elim (option_told (frames.replaced table fresh c)) [
      | inl unchanged ↦ (c, settled unchanged, same, known, h)
      | inr found ↦
          (let first = own_replaced c found.0 s known h (subst (λ fs. FramesStand table main fs) same stands) found.1 in
          absurd (let no = sym (ap (shared.replaced table) same ∙ first.0) ∙ done in cc))
    ]
    settle_in bared settling c s known same h stands (shared.replacing {more = next} is rest) = elim (option_told (frames.replaced table fresh c)) [
      | inl unchanged ↦ absurd (let no = sym is ∙ ap (shared.replaced table) same ∙ unreplaced c unchanged in cc)
      | inr found ↦
          (let first = own_replaced c found.0 s known h (subst (λ fs. FramesStand table main fs) same stands) found.1 in
          let is_next = injected (sym is ∙ ap (shared.replaced table) same ∙ first.0) in
          let kept = replaced_keeps table main routines bared next stands is in
          let behind = settle_in next settling found.0 s first.1 is_next first.2 kept.0 rest in
          (behind.0, replacing found.1 behind.1, behind.2, behind.3, behind.4))
    ]

  -- ── The end ──

  pub done_out : (c : Stack) → frames.AreDone table fresh c → shared.AreDone (bare c)
  done_out [] h = absurd h
  done_out (first ∷ []) h = h
  done_out (first ∷ second ∷ more) h = absurd h

  pub done_in : (c : Stack) → shared.AreDone (bare c) → frames.AreDone table fresh c
  done_in [] h = absurd h
  done_in (first ∷ []) h = h
  done_in (first ∷ second ∷ more) h = absurd h
