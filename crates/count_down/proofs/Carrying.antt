-- What an arc of an assignment makes of the value of the function that is counted down.
use Rattle.std.proofs.Common.{◌≡◌, ℕ, ◌<◌, ℤ, pos, ◌+ℤ◌, ◌*ℤ◌, Bool, true, false, if◌then◌else◌, List, Option, None, Some, length, set, refl, sym, ap, ◌∙◌, arith}
use Rattle.std.proofs.lemmas.Int.{ints}
use Rattle.linear_cons.specs.declared.affine.Affine.{Affine}
use Rattle.linear_cons.specs.declared.bounds.Bounds.{Bounds}
use Rattle.linear_cons.specs.Functions.{coefficient, constant_of, substituted, value_at, variable_at}
use Rattle.linear_cons.proofs.Forms.{form_unmentioned, value_constant, value_substituted, value_sum}
use Rattle.linear_cons.proofs.Ring.{zero_mul}
use Rattle.linear_cons.specs.Ends.{exactly}
use Rattle.linear_forms.specs.Linearising.{is_exact, linear_of}
use Rattle.step_meaning.specs.Countdown.{form_of, added, amount, change_by}
use Rattle.step_meaning.specs.Syntax.{Expression}
use Rattle.step_meaning.specs.Turns.{MayAssign}
use Rattle.tree_support.proofs.Moving.{store_after}
use Rattle.count_down.specs.Trees.{shifted}
use Rattle.count_down.proofs.Moving.{changes}

-- a number that is added changes nothing but the value
pub shifted_value : (e : Affine) (z : ℤ) (store : List ℤ) → value_at (shifted e z) store ≡ value_at e store +ℤ z
shifted_value e z store = value_sum e (constant_of z) store ∙ ap (λ t. value_at e store +ℤ t) (value_constant z store)

-- behind a step that changes no store the function with the number z is that with the number c, and z - c more
pub unmoved : (e : Affine) (c z d : ℤ) → z ≡ c +ℤ d → (store : List ℤ) → value_at (shifted e z) (store_after None store) ≡ value_at (shifted e c) store +ℤ d
unmoved e c z d is store =
    let first = shifted_value e z store in
    let second = shifted_value e c store in
    omega (arith, ints)

-- a value that is put for a variable that doesn't occur changes nothing
pub unmentioned : (e : Affine) (x : ℕ) (z : ℤ) (store : List ℤ) → length store ≡ 16 → x < 16 → coefficient e x ≡ pos 0 → value_at e (set store x z) ≡ value_at e store
unmentioned e x z store long low none = form_unmentioned e x store (pos 1) z (omega arith) none

module _ (e : Affine) (x : ℕ) (low : x < 16) (bounds : Bounds) (v : Expression) where
  -- what an arc of the assignment sets
  abbrev sets : Option (ℕ × Affine)
  sets = Some (x, if is_exact (linear_of bounds v) then (linear_of bounds v).affine else variable_at 15)

  set_by : (exact : Bool) → is_exact (linear_of bounds v) ≡ exact → coefficient e x ≡ pos 0 → (store : List ℤ) → length store ≡ 16
      → value_at e (store_after sets store) ≡ value_at e store
  set_by true is none store long = rw is (unmentioned e x (value_at (linear_of bounds v).affine store) store long low none)
  set_by false is none store long = rw is (unmentioned e x (value_at (variable_at 15) store) store long low none)

  -- behind an assignment that a counting body may make the function has changed by the change that is counted
  pub counted : linear_of bounds v ≡ exactly (form_of v) → MayAssign e x v → (store : List ℤ) → length store ≡ 16
      → value_at e (store_after sets store) ≡ value_at e store +ℤ change_by e x v
  counted exact may store long = rw exact (changes e x store long low v may)

  pub uncounted : coefficient e x ≡ pos 0 → (store : List ℤ) → length store ≡ 16
      → value_at e (store_after sets store) ≡ value_at e store +ℤ change_by e x v
  uncounted none store long =
      let same = set_by (is_exact (linear_of bounds v)) refl none store long in
      let zero : change_by e x v ≡ pos 0 = ap (λ c. c *ℤ amount (added x v)) none ∙ zero_mul (amount (added x v)) in
      omega (arith, ints)

  -- the function that is carried back over an assignment has before it the value that it has behind it
  pub put_in : linear_of bounds v ≡ exactly (form_of v) → (store : List ℤ) → length store ≡ 16
      → value_at e (store_after sets store) ≡ value_at (substituted e x (form_of v)) store
  put_in exact store long = rw exact (sym (value_substituted e x (form_of v) store low (omega arith)))
