-- A function over distinct names is read back from its terms.
use Rattle.std.proofs.Common.{◌≡◌, ◌≢◌, ℕ, zero, suc, ◌<◌, ◌≤◌, ◌⊎◌, inl, inr, ⊎_elim, ℤ, pos, negsuc, List, [], ◌∷◌, ◌++◌, length, get_or, Option, None, Some, All, AllPairs, sym, refl, ap, ◌∙◌, arith}
use Rattle.std.specs.Prelude.{⊤}
use Rattle.std.proofs.lemmas.Bool.{cases_lt}
use Rattle.linear_cons.proofs.Places.{places-ext}
use Rattle.linear_cons.specs.declared.affine.Affine.{Affine}
use Rattle.linear_cons.specs.Numbers.{number_at}
use Rattle.line_text.specs.AffineText.{Term, affine_text, term_of, terms_of, variable_terms}
use Rattle.line_text.specs.Names.{AreNames, IsName, IsOver}
use Rattle.line_text.proofs.Products.{IsNamed}
use Rattle.line_text.proofs.Sums.{AllProper, Ends, sum_cut}
use Rattle.line_text.proofs.Words.{name_begins, name_is_word}

-- the name isn't among the names
abbrev pub Lacks : List ℕ → List (List ℕ) → Type 0
Lacks name [] = ⊤
Lacks name (other ∷ names) = (name ≢ other) × Lacks name names

-- each is a name that a term may have, and none is among those behind it
abbrev pub AreDistinct : List (List ℕ) → Type 0
AreDistinct [] = ⊤
AreDistinct (name ∷ names) = IsNamed (Some name) × Lacks name names × AreDistinct names

lacks_of : (name : List ℕ) (names : List (List ℕ)) → ((k : ℕ) (d : List ℕ) → k < length names → name ≢ get_or names k d) → Lacks name names
lacks_of name [] apart = tt
lacks_of name (other ∷ names) apart = (apart 0 [] (omega arith), lacks_of name names (λ k d low. apart (suc k) d (omega arith)))

distinct_of : (names : List (List ℕ)) → All IsName names → AllPairs (λ a b. a ≢ b) names → AreDistinct names
distinct_of [] each apart = tt
distinct_of (name ∷ names) each apart =
    let is = each 0 [] (omega arith) in (
      (name_is_word name is, name_begins name is),
      lacks_of name names (λ k d low. apart 0 (suc k) d (omega arith) (omega arith)),
      distinct_of names (λ k d low. each (suc k) d (omega arith)) (λ i j d below low. apart (suc i) (suc j) d (omega arith) (omega arith)),
    )

pub distinct_names : (names : List (List ℕ)) → AreNames names → AreDistinct names
distinct_names names are = distinct_of names are.each are.distinct

-- no term has the name
abbrev HasNone : List ℕ → List Term → Type 0
HasNone name [] = ⊤
HasNone name (term ∷ more) = (term.name ≢ Some name) × HasNone name more

-- a number makes one term, or none where it is 0
term_cases :
    (z : ℤ) (name : Option (List ℕ))
    → ((z ≡ pos 0) × (term_of z name ≡ [])) ⊎ ((z ≢ pos 0) × (term_of z name ≡ record { number = z; name = name } ∷ []))
term_cases (pos zero) name = inl (refl, refl)
term_cases (pos (suc n)) name = inr (λ e. cc, refl)
term_cases (negsuc n) name = inr (λ e. cc, refl)

proper_with :
    (z : ℤ) (name : Option (List ℕ)) (ts more : List Term) → IsNamed name → AllProper more
    → ((z ≡ pos 0) × (ts ≡ [])) ⊎ ((z ≢ pos 0) × (ts ≡ record { number = z; name = name } ∷ [])) → AllProper (ts ++ more)
proper_with z name ts more is all (inl none) = rw none.1 all
proper_with z name ts more is all (inr one) = rw one.1 (record { apart = one.0; named = is }, all)

none_with :
    (other : List ℕ) (z : ℤ) (name : Option (List ℕ)) (ts more : List Term) → name ≢ Some other → HasNone other more
    → ((z ≡ pos 0) × (ts ≡ [])) ⊎ ((z ≢ pos 0) × (ts ≡ record { number = z; name = name } ∷ [])) → HasNone other (ts ++ more)
none_with other z name ts more apart all (inl none) = rw none.1 all
none_with other z name ts more apart all (inr one) = rw one.1 (apart, all)

-- the terms over the names with a constant behind, by one list
abbrev pub all_terms : List (List ℕ) → List ℤ → ℤ → List Term
all_terms names numbers constant = variable_terms names numbers ++ term_of constant None

assoc : (a b c : List Term) → (a ++ b) ++ c ≡ a ++ (b ++ c)
assoc [] b c = refl
assoc (t ∷ a) b c = ap (λ u. t ∷ u) (assoc a b c)

constant_proper : (z : ℤ) → AllProper (term_of z None)
constant_proper (pos zero) = tt
constant_proper (pos (suc n)) = (record { apart = λ e. cc; named = tt }, tt)
constant_proper (negsuc n) = (record { apart = λ e. cc; named = tt }, tt)

constant_none : (name : List ℕ) (z : ℤ) → HasNone name (term_of z None)
constant_none name (pos zero) = tt
constant_none name (pos (suc n)) = (λ e. cc, tt)
constant_none name (negsuc n) = (λ e. cc, tt)

pub terms_proper : (names : List (List ℕ)) (numbers : List ℤ) (z : ℤ) → AreDistinct names → AllProper (all_terms names numbers z)
terms_proper [] numbers z are = constant_proper z
terms_proper (name ∷ names) [] z are = constant_proper z
terms_proper (name ∷ names) (number ∷ numbers) z are =
    rw assoc (proper_with number (Some name) (term_of number (Some name)) (all_terms names numbers z) are.0
    (terms_proper names numbers z are.2) (term_cases number (Some name)))

terms_none :
    (other : List ℕ) (names : List (List ℕ)) (numbers : List ℤ) (z : ℤ) → Lacks other names → HasNone other (all_terms names numbers z)
terms_none other [] numbers z lacks = constant_none other z
terms_none other (name ∷ names) [] z lacks = constant_none other z
terms_none other (name ∷ names) (number ∷ numbers) z lacks =
    rw assoc (none_with other number (Some name) (term_of number (Some name)) (all_terms names numbers z)
    (λ e. lacks.0 (sym (let f : name ≡ other = cc in f))) (terms_none other names numbers z lacks.1) (term_cases number (Some name)))

-- the number of the first term, and 0 where there is none
first_number : List Term → ℤ
first_number [] = pos 0
first_number (term ∷ more) = term.number

constant_read : (z : ℤ) → first_number (term_of z None) ≡ z
unfolding first_number
constant_read (pos zero) = refl
constant_read (pos (suc n)) = refl
constant_read (negsuc n) = refl

constant_back : (y z : ℤ) → term_of y None ≡ term_of z None → y ≡ z
constant_back y z e = sym (constant_read y) ∙ (ap first_number e ∙ constant_read z)

-- terms without the name don't begin with a term of the name
none_apart : (name : List ℕ) (term : Term) (ts more : List Term) → HasNone name ts → term.name ≡ Some name → ts ≡ term ∷ more → ⊥
none_apart name term [] more none is e = let k : true_of [] ≡ true_of (term ∷ more) = ap true_of e in omega arith
  where
    true_of : List Term → ℕ
    true_of [] = 0
    true_of (t ∷ ts) = 1
none_apart name term (t ∷ ts) more none is e = none.0 (let same : t ≡ term = cc in ap (λ (u : Term). u.name) same ∙ is)

-- the number at a place is read back, where no later term has its name
head_back :
    (name : List ℕ) (y z : ℤ) (ps qs ts us : List Term) → HasNone name ts → HasNone name us
    → ((y ≡ pos 0) × (ps ≡ [])) ⊎ ((y ≢ pos 0) × (ps ≡ record { number = y; name = Some name } ∷ []))
    → ((z ≡ pos 0) × (qs ≡ [])) ⊎ ((z ≢ pos 0) × (qs ≡ record { number = z; name = Some name } ∷ [])) → ps ++ ts ≡ qs ++ us
    → (y ≡ z) × (ts ≡ us)
head_back name y z ps qs ts us none none' (inl a) (inl b) e =
    (a.0 ∙ sym b.0, ap (λ t. t ++ ts) (sym a.1) ∙ (e ∙ ap (λ t. t ++ us) b.1))
head_back name y z ps qs ts us none none' (inl a) (inr b) e =
    let term : Term = record { number = z; name = Some name } in
    absurd (none_apart name term ts us none refl (ap (λ t. t ++ ts) (sym a.1) ∙ (e ∙ ap (λ t. t ++ us) b.1)))
head_back name y z ps qs ts us none none' (inr a) (inl b) e =
    let term : Term = record { number = y; name = Some name } in
    absurd (none_apart name term us ts none' refl (ap (λ t. t ++ us) (sym b.1) ∙ (sym e ∙ ap (λ t. t ++ ts) a.1)))
head_back name y z ps qs ts us none none' (inr a) (inr b) e =
    let s : Term = record { number = y; name = Some name } in
    let t : Term = record { number = z; name = Some name } in
    let whole : s ∷ ts ≡ t ∷ us = ap (λ u. u ++ ts) (sym a.1) ∙ (e ∙ ap (λ u. u ++ us) b.1) in
    let same : s ≡ t = cc in
    (ap (λ (u : Term). u.number) same, cc)

numbers_back :
    (names : List (List ℕ)) (xs ys : List ℤ) (c d : ℤ) → AreDistinct names → length names ≤ length xs → length names ≤ length ys
    → all_terms names xs c ≡ all_terms names ys d → ((i : ℕ) → i < length names → number_at xs i ≡ number_at ys i) × (c ≡ d)
numbers_back [] xs ys c d are p q e = (λ i low. absurd (omega arith), constant_back c d e)
numbers_back (name ∷ names) [] ys c d are p q e = absurd (omega arith)
numbers_back (name ∷ names) (x ∷ xs) [] c d are p q e = absurd (omega arith)
numbers_back (name ∷ names) (x ∷ xs) (y ∷ ys) c d are p q e =
    let apart : term_of x (Some name) ++ all_terms names xs c ≡ term_of y (Some name) ++ all_terms names ys d = sym
    (assoc (term_of x (Some name)) (variable_terms names xs) (term_of c None))
    ∙ (e ∙ assoc (term_of y (Some name)) (variable_terms names ys) (term_of d None)) in
    let head = head_back name x y (term_of x (Some name)) (term_of y (Some name)) (all_terms names xs c) (all_terms names ys d)
    (terms_none name names xs c are.1) (terms_none name names ys d are.1) (term_cases x (Some name)) (term_cases y (Some name)) apart in
    let more = numbers_back names xs ys c d are.2 (omega arith) (omega arith) head.1 in
    (at_each head.0 more.0, more.1)
  where
    at_each : x ≡ y → ((i : ℕ) → i < length names → number_at xs i ≡ number_at ys i) → (i : ℕ) → i < suc (length names)
        → number_at (x ∷ xs) i ≡ number_at (y ∷ ys) i
    at_each first more zero low = first
    at_each first more (suc i) low = more i (omega arith)

affine_same : (a b : Affine) → a.coef ≡ b.coef → a.constant ≡ b.constant → a ≡ b
affine_same a b e f =
    let with_coef : List ℤ → Affine = λ xs. record { coef = xs; constant = a.constant } in
    let with_constant : ℤ → Affine = λ z. record { coef = b.coef; constant = z } in
    ap with_coef e ∙ ap with_constant f

terms_back :
    (names : List (List ℕ)) (a b : Affine) → AreDistinct names → IsOver names a → IsOver names b → terms_of names a ≡ terms_of names b
    → a ≡ b
terms_back names a b are over over' e =
    let few = over.few in
    let long = over.places in
    let long' = over'.places in
    let back = numbers_back names a.coef b.coef a.constant b.constant are (omega arith) (omega arith) e in
    affine_same a b (places-ext a.coef b.coef long long' (λ i low. ⊎_elim
    (λ (inside : i < length names). back.0 i inside)
    (λ (past : length names ≤ i). over.past i past ∙ sym (over'.past i past))
    (cases_lt i (length names)))) back.1

-- two functions with the same text, where what follows ends it, are one
pub affine_cut :
    (names : List (List ℕ)) (a b : Affine) (x y : List ℕ) → AreDistinct names → IsOver names a → IsOver names b → Ends x → Ends y
    → affine_text names a ++ x ≡ affine_text names b ++ y → (a ≡ b) × (x ≡ y)
affine_cut names a b x y are over over' m n e =
    let cut = sum_cut (terms_of names a) (terms_of names b) x y (terms_proper names a.coef a.constant are)
    (terms_proper names b.coef b.constant are) m n e in
    (terms_back names a b are over over' cut.0, cut.1)
