-- What a builder in an arena answers, by what its parts answered.
use Rattle.std.proofs.Common.{◌≡◌, ◌↔◌, ℕ, ◌<◌, ◌≤◌, Bool, true, false, List, [], ◌∷◌, ◌++◌, None, IsTrue, Result, Ok, Err, IsErr, length, refl, sym, ap, ap₂, ◌∙◌, subst, arith}
use Rattle.std.proofs.lemmas.Bool.{true≢false}
use Rattle.std.proofs.lemmas.List.{append_assoc}
use Rattle.linear_cons.specs.Exact.{IsOutside}
use Rattle.linear_cons.specs.declared.exact.Wide.{Wide}
use Rattle.linear_cons.specs.Functions.{NumbersFit, complement_of}
use Rattle.linear_cons.specs.Rows.{complement}
use Rattle.linear_cons.specs.Settling.{settles}
use Rattle.linear_cons.specs.declared.row.Row.{Row}
use Rattle.decision_tree.specs.Nodes.{node}
use Rattle.decision_tree.specs.Plans.{IsEnd, Plan, bottom, branch, leaf, size_of, top}
use Rattle.decision_tree.specs.declared.rank.Rank.{Ghosts as Ranks}
use Rattle.tree_unify.specs.Builds.{Build, formed, given}
use Rattle.tree_unify.specs.Shapes.{asks_second, grafting, laying, replacing}
use Rattle.tree_unify.specs.declared.join.Join.{Join}
use Rattle.tree_unify.specs.declared.fault.TreeFault.TheVariants.{Full as TooFull, Wide as TooWide}
use Rattle.tree_unify.specs.declared.walk.Stopped.{Stopped}
use Rattle.tree_unify.specs.declared.walk.Walk.{Walk}
use Rattle.tree_unify.proofs.Meeting.{node_size}
use Rattle.tree_arena.specs.Trees.{Extends, IsAt, tree_at}
use Rattle.tree_arena.specs.declared.node.TreeRef.{TreeRef}
use Rattle.tree_arena.proofs.Entering.{at_kept, same_list}
use Rattle.tree_arena.proofs.Tables.{at_front}
use Rattle.arena_builders.specs.BuildsIn.{BuildsIn}

-- ---- lists that go on

pub goes_on : {R : Type 0} (first second third : List (Plan R)) → Extends first second → Extends second third → Extends first third
goes_on first second third one two =
    record { more = one.more ++ two.more; is = two.is ∙ ap (λ ts. ts ++ two.more) one.is ∙ append_assoc first one.more two.more }

pub place_kept : {R : Type 0} (old new : List (Plan R)) (place : ℕ) → Extends old new → place < length old → tree_at new place ≡ tree_at old place
place_kept old new place goes low = ap (λ ts. tree_at ts place) goes.is ∙ at_front old goes.more place bottom low

-- ---- a builder that stopped

module _ {R : Type 0} (whole : Build R) (start : List (Plan R)) (trail : List Row) where
  pub stopped_by : {new : List (Plan R)} {walk : Walk} {stopped : Stopped} → Extends start new
      → ((count : ℕ) → walk.fault ≡ TooFull count → (65536 < count) × (whole.Room → size_of whole.plan ≤ 65536 → ⊥))
      → ((w : Wide) → walk.fault ≡ TooWide w → whole.Fits → ⊥) → ((w : Wide) → walk.fault ≡ TooWide w → IsOutside w)
      → BuildsIn whole start new trail walk (Err stopped)
  stopped_by goes full wide operands = record {
    kept = goes;
    tree = tt;
    small = tt;
    room = tt;
    trail = tt;
    fits = tt;
    full = full;
    wide = wide;
    operands = operands;
  }

  -- in a part, which is no larger than the whole, and fits and has room where the whole does
  pub stopped_in : {part : Build R} {old new : List (Plan R)} {way : List Row} {walk : Walk} {stopped : Stopped} → Extends start old
      → BuildsIn part old new way walk (Err stopped) → size_of part.plan ≤ size_of whole.plan → (whole.Fits → part.Fits) → (whole.Room → part.Room)
      → BuildsIn whole start new trail walk (Err stopped)
  stopped_in {part} {old} {new} goes built least falls clears =
      stopped_by (goes_on start old new goes built.kept)
      (λ count is. let more = built.full count is in (more.0, λ room small. more.1 (clears room) (omega (arith, least, small))))
      (λ w is fits. built.wide w is (falls fits)) built.operands

  pub stopped_at : {new : List (Plan R)} {walk : Walk} {stopped : Stopped} → Extends start new → ((count : ℕ) → walk.fault ≡ TooFull count → ⊥)
      → ((w : Wide) → walk.fault ≡ TooWide w → whole.Fits → ⊥) → ((w : Wide) → walk.fault ≡ TooWide w → IsOutside w)
      → BuildsIn whole start new trail walk (Err stopped)
  stopped_at goes full wide operands = stopped_by goes (λ count is. absurd (full count is)) wide operands

  -- the same at the exit of a `?`, whose result is known only to be an error
  pub handed_on : {new : List (Plan R)} {walk : Walk} {stopped : Stopped} (result : Result TreeRef Stopped) → IsErr result
      → BuildsIn whole start new trail walk (Err stopped) → BuildsIn whole start new trail walk result
  handed_on (Ok made) failed built = absurd (true≢false (sym failed))
  handed_on (Err again) failed built = stopped_by built.kept built.full built.wide built.operands

-- ---- the same tree, of which more is asked, or less

pub asked_of : {R : Type 0} (plan : Plan R) (Part Whole : Type 0) {start new : List (Plan R)} {trail : List Row} {walk : Walk} → (Part → Whole) → (Whole → Part)
    → (result : Result TreeRef Stopped) → BuildsIn (formed plan Part) start new trail walk result → BuildsIn (formed plan Whole) start new trail walk result
asked_of plan Part Whole {start} {new} {trail} up down (Ok made) built = record {
  kept = built.kept;
  tree = built.tree;
  small = built.small;
  room = tt;
  trail = built.trail;
  fits = up built.fits;
  full = tt;
  wide = tt;
  operands = tt;
}
asked_of plan Part Whole {start} {new} {trail} up down (Err stopped) built =
    stopped_by (formed plan Whole) start trail built.kept built.full (λ w is fits. built.wide w is (down fits)) built.operands

-- ---- a node with the row, both of whose sides are made

module _ {R : Type 0} (same : R → R → Bool) (alike : (rank other : R) → IsTrue (same rank other) ↔ (rank ≡ other)) (row : Row) (this that : Plan R) (This That Whole : Type 0) where
  abbrev pub first : Build R
  first = formed this This

  abbrev pub second : Build R
  second = formed that That

  abbrev pub beside_both : Build R
  beside_both = formed (node same row this that) Whole

  pub stopped_first : {start new : List (Plan R)} {trail way : List Row} {walk : Walk} {stopped : Stopped} → (Whole → This)
      → BuildsIn first start new way walk (Err stopped) → BuildsIn beside_both start new trail walk (Err stopped)
  stopped_first {start} falls built = stopped_in beside_both start _ (same_list start) built (node_size same alike row first.plan second.plan).0 falls (λ room. room)

  pub stopped_second : {start old new : List (Plan R)} {trail way : List Row} {walk : Walk} {stopped : Stopped} → Extends start old → (Whole → That)
      → BuildsIn second old new way walk (Err stopped) → BuildsIn beside_both start new trail walk (Err stopped)
  stopped_second {start} goes falls built = stopped_in beside_both start _ goes built (node_size same alike row first.plan second.plan).1 falls (λ room. room)

  pub both_made : {start one two new : List (Plan R)} {trail here there back : List Row} {walk w1 w2 : Walk} {a b : TreeRef} (result : Result TreeRef Stopped)
      → BuildsIn first start one here w1 (Ok a) → BuildsIn second one two there w2 (Ok b) → (This → That → Whole)
      → BuildsIn (given (node same row (tree_at two a.place) (tree_at two b.place))) two new back walk result → back ≡ trail
      → BuildsIn beside_both start new trail walk result
  both_made {start} {one} {two} {new} {trail} {here} {there} {back} {walk} {w1} {w2} {a} {b} result left right joins joined same_way = by result joined
    where
      still : tree_at two a.place ≡ first.plan
      still = (at_kept one two a first.plan right.kept left.tree).tree

      plans : node same row (tree_at two a.place) (tree_at two b.place) ≡ node same row first.plan second.plan
      plans = ap₂ (λ (p q : Plan R). node same row p q) still right.tree.tree

      goes : Extends start new
      goes = goes_on start two new (goes_on start one two left.kept right.kept) joined.kept

      by : (r : Result TreeRef Stopped) → BuildsIn (given (node same row (tree_at two a.place) (tree_at two b.place))) two new back walk r → BuildsIn beside_both start new trail walk r
      by (Ok made) whole = record {
        kept = goes;
        tree = subst (λ (p : Plan R). IsAt new made p) plans whole.tree;
        small = subst (λ (p : Plan R). size_of p ≤ 65536) plans whole.small;
        room = tt;
        trail = whole.trail ∙ same_way;
        fits = joins left.fits right.fits;
        full = tt;
        wide = tt;
        operands = tt;
      }
      by (Err stopped) whole = stopped_by beside_both start trail goes
          (λ count is. let more = whole.full count is in (more.0, λ room small. more.1 tt (subst (λ (p : Plan R). size_of p ≤ 65536) (sym plans) small)))
          (λ w is fits. whole.wide w is tt) whole.operands

-- ---- a tree laid out, at a row that isn't settled

pub as_both : {R : Type 0} (same : R → R → Bool) (ranks : Ranks R) (join : Join) (end : Plan R) (trail : List Row) (row : Row) (this that : Plan R)
    {start new : List (Plan R)} {way : List Row} {walk : Walk} {result : Result TreeRef Stopped} → settles trail row ≡ None
    → BuildsIn (formed (node same row (laying same ranks join end (trail ++ row ∷ []) this).plan (laying same ranks join end (trail ++ complement row ∷ []) that).plan)
    ((laying same ranks join end (trail ++ row ∷ []) this).Fits × NumbersFit (complement_of row.affine)
    × (laying same ranks join end (trail ++ complement row ∷ []) that).Fits)) start new way walk result
    → BuildsIn (laying same ranks join end trail (branch row this that)) start new way walk result
as_both same ranks join end trail row this that settle built = rw settle built

-- ---- a tree grafted on

module _ {R : Type 0} (same : R → R → Bool) (ranks : Ranks R) (join : Join) (second : Plan R) (trail : List Row)
    {start new : List (Plan R)} {way : List Row} {walk : Walk} {result : Result TreeRef Stopped} where
  -- at a leaf it is what stands in its place
  pub as_leaf : (end : Plan R) → IsEnd end → BuildsIn (replacing same ranks join second trail end) start new way walk result
      → BuildsIn (grafting same ranks join second trail end) start new way walk result
  as_leaf bottom is built = built
  as_leaf (top cause) is built = built
  as_leaf (leaf why rank) is built = built
  as_leaf (branch row this that) is built = absurd is

  -- which is the second tree laid out, where that is asked
  pub as_asked : (end : Plan R) → asks_second join end ≡ true → BuildsIn (laying same ranks join end trail second) start new way walk result
      → BuildsIn (replacing same ranks join second trail end) start new way walk result
  as_asked end asks built = rw asks
      (asked_of (laying same ranks join end trail second).plan (laying same ranks join end trail second).Fits (true ≡ true → (laying same ranks join end trail second).Fits)
      (λ fits is. fits) (λ fits. fits refl) result built)
