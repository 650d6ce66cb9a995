-- The first of several faults.
use Rattle.std.proofs.Common.{◌≡◌, ℕ, zero, suc, ◌<◌, ◌≤◌, nat_lt, nat_eq, Bool, true, false, ◌&&◌, ◌||◌, List, [], ◌∷◌, ◌++◌, Option, None, Some, length, slice_index_or, Contains, refl, ap, sym, ◌∙◌, subst, arith, if◌then◌else◌}
use Rattle.std.proofs.lemmas.Bool.{false≢true, true≢false, lt-ltb}
use Rattle.std.proofs.lemmas.Bool.Decides.{Decides-ltb, Decides-eqb}
use Rattle.std.proofs.lemmas.Option.{none-some, same_Some}
use Rattle.typed_expressions.specs.declared.fault.Fault.{Fault}
use Rattle.typed_expressions.specs.declared.fault.Rule.{Rule}
use Rattle.typed_expressions.specs.declared.fault.Rule.TheVariants.{Unknown, Twice, Mixed, BadRange, Variables, Outside, ZeroDivisor, Placed, Arguments}
use Rattle.typed_expressions.specs.Faults.{earliest, first_of, is_before, order_of, IsFirstOf, fault}

-- of one list and then another: as of both together
pub earliest_more : (least : Option Fault) (xs ys : List Fault) → earliest least (xs ++ ys) ≡ earliest (earliest least xs) ys
earliest_more least [] ys = refl
earliest_more None (f ∷ xs) ys = earliest_more (Some f) xs ys
earliest_more (Some g) (f ∷ xs) ys = earliest_more (Some (first_of g f)) xs ys

-- the first fault doesn't come before the second
abbrev NotBefore : Fault → Fault → Type 0
NotBefore f g = (g.token ≤ f.token) × (g.token ≡ f.token → order_of g.rule ≤ order_of f.rule)

order_tells : (a b c d : ℕ) → (less same lower : Bool) → nat_lt a b ≡ less → nat_eq a b ≡ same → nat_lt c d ≡ lower
    → (less || (same && lower)) ≡ false → (b ≤ a) × (b ≡ a → d ≤ c)
order_tells a b c d true same lower is equal low none = absurd (true≢false none)
order_tells a b c d false true true is equal low none = absurd (true≢false none)
order_tells a b c d false true false is equal low none =
    let apart : ¬ (a < b) = λ lt. false≢true (sym is ∙ lt-ltb a b lt) in
    let above : ¬ (c < d) = λ lt. false≢true (sym low ∙ lt-ltb c d lt) in
    (omega (arith, apart), λ e. omega (arith, above))
order_tells a b c d false false lower is equal low none =
    let apart : ¬ (a < b) = λ lt. false≢true (sym is ∙ lt-ltb a b lt) in
    (omega (arith, apart), λ e. absurd (false≢true (sym equal ∙ (Decides-eqb a b).1 (sym e))))

order_told : (a b c d : ℕ) → (less same lower : Bool) → nat_lt a b ≡ less → nat_eq a b ≡ same → nat_lt c d ≡ lower
    → (b ≤ a) → (b ≡ a → d ≤ c) → (less || (same && lower)) ≡ false
order_told a b c d true same lower is equal low least rules_least = let lt = (Decides-ltb a b).0 is in absurd (omega arith)
order_told a b c d false true true is equal low least rules_least =
    let same = (Decides-eqb a b).0 equal in
    let lt = (Decides-ltb c d).0 low in
    let le = rules_least (sym same) in
    absurd (omega arith)
order_told a b c d false true false is equal low least rules_least = refl
order_told a b c d false false lower is equal low least rules_least = refl

order_before : (a b c d : ℕ) → (less same lower : Bool) → nat_lt a b ≡ less → nat_eq a b ≡ same → nat_lt c d ≡ lower
    → (less || (same && lower)) ≡ true → (a ≤ b) × (a ≡ b → c ≤ d)
order_before a b c d true same lower is equal low yes_it = let lt = (Decides-ltb a b).0 is in (omega arith, λ e. absurd (omega arith))
order_before a b c d false true true is equal low yes_it =
    let same = (Decides-eqb a b).0 equal in
    let lt = (Decides-ltb c d).0 low in
    (omega arith, λ e. omega arith)
order_before a b c d false true false is equal low yes_it = absurd (false≢true yes_it)
order_before a b c d false false lower is equal low yes_it = absurd (false≢true yes_it)

tells : (f g : Fault) → is_before f g ≡ false → NotBefore f g
tells f g none =
    order_tells f.token g.token (order_of f.rule) (order_of g.rule)
    (nat_lt f.token g.token) (nat_eq f.token g.token) (nat_lt (order_of f.rule) (order_of g.rule)) refl refl refl none

told : (f g : Fault) → NotBefore f g → is_before f g ≡ false
told f g least =
    order_told f.token g.token (order_of f.rule) (order_of g.rule)
    (nat_lt f.token g.token) (nat_eq f.token g.token) (nat_lt (order_of f.rule) (order_of g.rule)) refl refl refl least.0 least.1

-- what comes before another one, that doesn't come before it
turned : (f g : Fault) → is_before f g ≡ true → NotBefore g f
turned f g first =
    order_before f.token g.token (order_of f.rule) (order_of g.rule)
    (nat_lt f.token g.token) (nat_eq f.token g.token) (nat_lt (order_of f.rule) (order_of g.rule)) refl refl refl first

chained : (f g h : Fault) → NotBefore f g → NotBefore g h → NotBefore f h
chained f g h first second = (
  omega (arith, first.0, second.0),
  λ same.
      let middle : g.token ≡ f.token = omega (arith, first.0, second.0) in
      let lower : h.token ≡ g.token = omega (arith, first.0, second.0) in
      let one = first.1 middle in
      let two = second.1 lower in
      omega arith,
)

itself : (f : Fault) → NotBefore f f
itself f = (omega arith, λ e. omega arith)

-- ── The first of several ──

-- a list with one more fault at its front, or behind its first
contains_more : (f g : Fault) (fs : List Fault) → Contains fs f → Contains (g ∷ fs) f
contains_more f g fs (i, within, is) = (suc i, omega arith, is)

contains_skip : (f g h : Fault) (fs : List Fault) → Contains (g ∷ fs) f → Contains (g ∷ h ∷ fs) f
contains_skip f g h fs (zero, within, is) = (0, omega arith, is)
contains_skip f g h fs (suc i, within, is) = (suc (suc i), omega arith, is)

-- no fault of the list comes before this one
abbrev NoneBefore : Fault → List Fault → Type 0
NoneBefore r fs = (k : ℕ) (d : Fault) → k < length fs → NotBefore (slice_index_or fs k d) r

none_more : (r f : Fault) (fs : List Fault) → NotBefore f r → NoneBefore r fs → NoneBefore r (f ∷ fs)
none_more r f fs first rest zero d within = first
none_more r f fs first rest (suc k) d within = rest k d (omega arith)

first_among : (g : Fault) (fs : List Fault) (r : Fault) → earliest (Some g) fs ≡ Some r → Contains (g ∷ fs) r × NoneBefore r (g ∷ fs)
first_among g [] r is =
    let same : g ≡ r = same_Some g r is in
    ((0, omega arith, same), subst (λ t. NoneBefore t (g ∷ [])) same (none_more g g [] (itself g) (λ k d within. absurd (omega arith))))
first_among g (f ∷ fs) r is =
    let inner = first_among (first_of g f) fs r in
    by_order inner (is_before f g) refl is
  where
    by_order : (earliest (Some (first_of g f)) fs ≡ Some r → Contains (first_of g f ∷ fs) r × NoneBefore r (first_of g f ∷ fs))
        → (less : Bool) → is_before f g ≡ less → earliest (Some (first_of g f)) fs ≡ Some r → Contains (g ∷ f ∷ fs) r × NoneBefore r (g ∷ f ∷ fs)
    by_order inner true e h =
        let kept : first_of g f ≡ f = ap (λ less. if less then f else g) e in
        let found = subst (λ t. Contains (t ∷ fs) r × NoneBefore r (t ∷ fs)) kept (inner h) in
        let f_last : NotBefore f r = found.1 0 f (omega arith) in (
          contains_more r g (f ∷ fs) found.0,
          none_more r g (f ∷ fs) (chained g f r (turned f g e) f_last) found.1,
        )
    by_order inner false e h =
        let kept : first_of g f ≡ g = ap (λ less. if less then f else g) e in
        let found = subst (λ t. Contains (t ∷ fs) r × NoneBefore r (t ∷ fs)) kept (inner h) in
        let g_last : NotBefore g r = found.1 0 g (omega arith) in (
          contains_skip r g f fs found.0,
          none_more r g (f ∷ fs) g_last (none_more r f fs (chained f g r (tells f g e) g_last) (λ k d within. found.1 (suc k) d (omega arith))),
        )

-- the first of a list of faults is one of them, and none of them comes before it
pub first_is : (faults : List Fault) (r : Fault) → earliest None faults ≡ Some r → IsFirstOf faults r
first_is [] r is = absurd (none-some r is)
first_is (f ∷ fs) r is =
    let found = first_among f fs r is in
    record { among = found.0; least = λ k d within. told (slice_index_or (f ∷ fs) k d) r (found.1 k d within) }

-- without a first fault there is none
never_none : (g : Fault) (fs : List Fault) → earliest (Some g) fs ≡ None → ⊥
never_none g [] is = none-some g (sym is)
never_none g (f ∷ fs) is = never_none (first_of g f) fs is

pub none_is : (faults : List Fault) → earliest None faults ≡ None → faults ≡ []
none_is [] is = refl
none_is (f ∷ fs) is = absurd (never_none f fs is)

-- ── At most one is first ──

same_order : (rule other : Rule) → order_of rule ≡ order_of other → rule ≡ other
same_order Unknown Unknown e = refl
same_order Twice Twice e = refl
same_order Mixed Mixed e = refl
same_order BadRange BadRange e = refl
same_order Variables Variables e = refl
same_order Outside Outside e = refl
same_order ZeroDivisor ZeroDivisor e = refl
same_order Placed Placed e = refl
same_order Arguments Arguments e = refl
same_order _ _ e = absurd (omega (arith, e))

pub one_first : (faults : List Fault) (f g : Fault) → IsFirstOf faults f → IsFirstOf faults g → f ≡ g
one_first faults f g first second =
    let there = tells g f (subst (λ t. is_before t f ≡ false) second.among.2 (first.least second.among.0 g second.among.1)) in
    let here = tells f g (subst (λ t. is_before t g ≡ false) first.among.2 (second.least first.among.0 f first.among.1)) in
    let tokens : f.token ≡ g.token = omega (arith, there.0, here.0) in
    let low = there.1 tokens in
    let high = here.1 (sym tokens) in
    let rules_same : f.rule ≡ g.rule = same_order f.rule g.rule (omega arith) in
    ap (λ r. fault r f.token) rules_same ∙ ap (λ t. fault g.rule t) tokens
