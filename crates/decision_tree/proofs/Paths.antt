-- The path of a leaf, read along the sides that lead to it.
use Rattle.std.proofs.Common.{◌≡◌, ◌↔◌, ℕ, suc, ◌-◌, ◌<◌, Bool, true, false, cond, nat_lt, List, [], ◌∷◌, ◌++◌, reverse, map, refl, sym, ap, ◌∙◌, arith}
use Rattle.std.proofs.lemmas.List.{append-nil, reverse-append, reverse-reverse}
use Rattle.std.proofs.lemmas.List.Elements.{All-cons}
use Rattle.linear_cons.specs.declared.affine.Affine.{Affine}
use Rattle.linear_cons.specs.Functions.{NumbersFit, complement_of}
use Rattle.linear_cons.specs.declared.row.Row.{Row}
use Rattle.decision_tree.specs.Paths.{complements_on, path_of}
use Rattle.decision_tree.specs.Plans.{Plan, bottom, leaf, leaves_of, branch, top}
use Rattle.decision_tree.specs.Seeking.{AlongFits, IsSought, complements_along, path_along, sides_to}
use Rattle.decision_tree.specs.declared.path.Side.{Side}
use Rattle.decision_tree.specs.declared.path.Side.TheVariants.{Yes, No}

path_side : {R : Type 0} (row : Row) (this that : Plan R) (number : ℕ) (t : Bool) → path_along this (sides_to this number) ≡ path_of this number → path_along that (sides_to that (number - leaves_of this)) ≡ path_of that (number - leaves_of this) → path_along (branch row this that) (cond t (Yes ∷ sides_to this number) (No ∷ sides_to that (number - leaves_of this))) ≡ cond t (row.affine ∷ path_of this number) (complement_of row.affine ∷ path_of that (number - leaves_of this))
path_side row this that number true here there = ap (λ t. row.affine ∷ t) here
path_side row this that number false here there = ap (λ t. complement_of row.affine ∷ t) there

path_is : {R : Type 0} (plan : Plan R) (number : ℕ) → path_along plan (sides_to plan number) ≡ path_of plan number
path_is bottom number = refl
path_is (top cause) number = refl
path_is (leaf why rank) number = refl
path_is (branch row this that) number = path_side row this that number (nat_lt number (leaves_of this)) (path_is this number) (path_is that (number - leaves_of this))

complements_side : {R : Type 0} (row : Row) (this that : Plan R) (number : ℕ) (t : Bool) → complements_along this (sides_to this number) ≡ complements_on this number → complements_along that (sides_to that (number - leaves_of this)) ≡ complements_on that (number - leaves_of this) → complements_along (branch row this that) (cond t (Yes ∷ sides_to this number) (No ∷ sides_to that (number - leaves_of this))) ≡ cond t (complements_on this number) (complement_of row.affine ∷ complements_on that (number - leaves_of this))
complements_side row this that number true here there = here
complements_side row this that number false here there = ap (λ t. complement_of row.affine ∷ t) there

complements_is : {R : Type 0} (plan : Plan R) (number : ℕ) → complements_along plan (sides_to plan number) ≡ complements_on plan number
complements_is bottom number = refl
complements_is (top cause) number = refl
complements_is (leaf why rank) number = refl
complements_is (branch row this that) number = complements_side row this that number (nat_lt number (leaves_of this)) (complements_is this number) (complements_is that (number - leaves_of this))

-- what the sides that were found lead to
pub record Leads {R : Type 0} (plan : Plan R) (number : ℕ) (sides : List Side) : Type 0 where
  pub path : path_along plan sides ≡ path_of plan number
  pub complements : complements_along plan sides ≡ complements_on plan number

pub found_leads : {R : Type 0} (plan : Plan R) (number after : ℕ) (old sides : List Side) (found : Bool) → old ≡ [] → number < leaves_of plan → IsSought plan number after old sides found → Leads plan number (reverse sides)
found_leads plan number after old sides true none low sought =
    let is : reverse sides ≡ sides_to plan number = ap (λ t. reverse t) (sought.1 ∙ ap (λ t. t ++ reverse (sides_to plan number)) none) ∙ reverse-reverse (sides_to plan number) in
    record {
      path = ap (λ t. path_along plan t) is ∙ path_is plan number;
      complements = ap (λ t. complements_along plan t) is ∙ complements_is plan number;
    }
found_leads plan number after old sides false none low sought = absurd (let passed = sought.0 in omega arith)

-- ---- one side at a time

abbrev pub affines : List Row → List Affine
affines rows = map (λ (row : Row). row.affine) rows

one_more : (rows : List Row) (row : Row) (rest : List Affine) → affines (rows ++ row ∷ []) ++ rest ≡ affines rows ++ (row.affine ∷ rest)
one_more [] row rest = refl
one_more (first ∷ rows) row rest = ap (λ t. first.affine ∷ t) (one_more rows row rest)

-- the rows so far and those of the rest of the way are the whole, and the complements left fit where all do
pub record Going {R : Type 0} (rows : List Row) (plan : Plan R) (sides : List Side) (whole : List Affine) (Fits : Type 0) : Type 0 where
  pub listed : affines rows ++ path_along plan sides ≡ whole
  pub fits : AlongFits plan sides ↔ Fits

last_first : (sides rest : List Side) (side : Side) → sides ≡ rest ++ side ∷ [] → reverse sides ≡ side ∷ reverse rest
last_first sides rest side is = ap (λ t. reverse t) is ∙ reverse-append rest (side ∷ [])

pub going_yes : {R : Type 0} (before : List Row) (row : Row) (this that : Plan R) (sides rest : List Side) (whole : List Affine) (Fits : Type 0) → sides ≡ rest ++ Yes ∷ [] → Going before (branch row this that) (reverse sides) whole Fits → Going (before ++ row ∷ []) this (reverse rest) whole Fits
going_yes before row this that sides rest whole Fits is going =
    let same = last_first sides rest Yes is in
    let here : Going before (branch row this that) (Yes ∷ reverse rest) whole Fits = rw same at going in
    record { listed = one_more before row (path_along this (reverse rest)) ∙ here.listed; fits = here.fits }

pub going_no : {R : Type 0} (before : List Row) (row complement : Row) (this that : Plan R) (sides rest : List Side) (whole : List Affine) (Fits : Type 0) → sides ≡ rest ++ No ∷ [] → complement.affine ≡ complement_of row.affine → NumbersFit (complement_of row.affine) → Going before (branch row this that) (reverse sides) whole Fits → Going (before ++ complement ∷ []) that (reverse rest) whole Fits
going_no before row complement this that sides rest whole Fits is equal fit going =
    let same = last_first sides rest No is in
    let here : Going before (branch row this that) (No ∷ reverse rest) whole Fits = rw same at going in
    record {
      listed = one_more before complement (path_along that (reverse rest)) ∙ ap (λ t. affines before ++ (t ∷ path_along that (reverse rest))) equal ∙ here.listed;
      fits = (
        λ left. here.fits.0 (All-cons (λ a. NumbersFit a) (complement_of row.affine) (complements_along that (reverse rest)) fit left),
        λ all. let way = here.fits.1 all in λ k d h. way (suc k) d (omega arith),
      );
    }

-- a complement that doesn't fit
pub going_wide : {R : Type 0} (before : List Row) (row : Row) (this that : Plan R) (sides rest : List Side) (whole : List Affine) (Fits : Type 0) → sides ≡ rest ++ No ∷ [] → (NumbersFit (complement_of row.affine) → ⊥) → Going before (branch row this that) (reverse sides) whole Fits → Fits → ⊥
going_wide before row this that sides rest whole Fits is wide going all =
    let same = last_first sides rest No is in
    let here : Going before (branch row this that) (No ∷ reverse rest) whole Fits = rw same at going in
    wide (here.fits.1 all 0 (complement_of row.affine) (omega arith))

-- with no side left the way has ended
pub going_ends : {R : Type 0} (before : List Row) (plan : Plan R) (sides : List Side) (whole : List Affine) (Fits : Type 0) → sides ≡ [] → Going before plan (reverse sides) whole Fits → (affines before ≡ whole) × Fits
going_ends before bottom sides whole Fits none going = let here : Going before bottom [] whole Fits = rw none at going in (sym (append-nil (affines before)) ∙ here.listed, here.fits.0 (λ k d h. absurd (omega arith)))
going_ends before (top cause) sides whole Fits none going = let here : Going before (top cause) [] whole Fits = rw none at going in (sym (append-nil (affines before)) ∙ here.listed, here.fits.0 (λ k d h. absurd (omega arith)))
going_ends before (leaf why rank) sides whole Fits none going = let here : Going before (leaf why rank) [] whole Fits = rw none at going in (sym (append-nil (affines before)) ∙ here.listed, here.fits.0 (λ k d h. absurd (omega arith)))
going_ends before (branch row this that) sides whole Fits none going = let here : Going before (branch row this that) [] whole Fits = rw none at going in (sym (append-nil (affines before)) ∙ here.listed, here.fits.0 (λ k d h. absurd (omega arith)))
