-- The terms of a function are read back from its text, where a blank and a byte that is no sign follow, or `)`.
use Rattle.std.proofs.Common.{◌≡◌, ◌≢◌, ℕ, Bool, true, false, ◌||◌, eqb, ℤ, pos, negsuc, List, [], ◌∷◌, ◌++◌, Option, None, Some, sym, refl, ap, ◌∙◌, arith, append_assoc, unsigned_abs, codes, lit<}
use Rattle.std.specs.Prelude.{⊤}
use Rattle.line_text.specs.AffineText.{Term, front_sign, joining_sign, later_text, product_text, sum_text, unsigned_text}
use Rattle.line_text.proofs.Cuts.{heads_differ}
use Rattle.line_text.proofs.Numerals.{numeral_small}
use Rattle.line_text.proofs.Products.{BeginsEnded, IsNamed, front_cut, joining_cut, number_back, product_cut, product_first}

-- a term that is written: not 0, and with a name that is one
pub record IsProper (term : Term) : Type 0 where
  pub apart : term.number ≢ pos 0
  pub named : IsNamed term.name

abbrev pub AllProper : List Term → Type 0
AllProper [] = ⊤
AllProper (term ∷ more) = IsProper term × AllProper more

-- no sign, so that no later term begins with it
abbrev pub is_sign : ℕ → Bool
is_sign byte = eqb byte 43 || eqb byte 45

pub term_same : (s t : Term) → s.number ≡ t.number → s.name ≡ t.name → s ≡ t
term_same s t e f =
    let with_number : ℤ → Term = λ z. record { number = z; name = s.name } in
    let with_name : Option (List ℕ) → Term = λ n. record { number = t.number; name = n } in
    ap with_number e ∙ ap with_name f

-- behind a term stands a blank, or what stands behind the last one
later_begins : (terms : List Term) (x : List ℕ) → BeginsEnded x → BeginsEnded (later_text terms ++ x)
later_begins [] x ended = ended
later_begins (term ∷ more) x ended = joined term.number
  where
    joined : (z : ℤ) → BeginsEnded ((joining_sign z ++ (unsigned_text term ++ later_text more)) ++ x)
    joined (pos n) = refl
    joined (negsuc n) = refl

-- later terms aren't the end
joined_apart : (z : ℤ) (c : ℕ) (x y : List ℕ) → is_sign c ≡ false → 32 ∷ c ∷ x ≡ joining_sign z ++ y → ⊥
joined_apart (pos n) c x y none e =
    let same : c ≡ 43 = cc in let k : is_sign 43 ≡ false = ap is_sign (sym same) ∙ none in let l : true ≡ false = k in cc
joined_apart (negsuc n) c x y none e =
    let same : c ≡ 45 = cc in let k : is_sign 45 ≡ false = ap is_sign (sym same) ∙ none in let l : true ≡ false = k in cc

-- what may stand behind a function's text: it ends the last term, and is no sign before a later one
pub record Ends (x : List ℕ) : Type 0 where
  pub ended : BeginsEnded x
  pub apart : (z : ℤ) (y : List ℕ) → x ≡ joining_sign z ++ y → ⊥

pub blank_ends : (c : ℕ) (x : List ℕ) → is_sign c ≡ false → Ends (32 ∷ c ∷ x)
blank_ends c x none = record { ended = refl; apart = λ z y. joined_apart z c x y none }

closing_apart : (z : ℤ) (x y : List ℕ) → 41 ∷ x ≡ joining_sign z ++ y → ⊥
closing_apart (pos n) x y e = heads_differ 41 32 x _ refl e
closing_apart (negsuc n) x y e = heads_differ 41 32 x _ refl e

pub closing_ends : (x : List ℕ) → Ends (41 ∷ x)
closing_ends x = record { ended = refl; apart = λ z y. closing_apart z x y }

-- a term and what follows, by parts
parts :
    (sign : List ℕ) (term : Term) (more : List Term) (x : List ℕ)
    → (sign ++ (unsigned_text term ++ later_text more)) ++ x ≡ sign ++ (unsigned_text term ++ (later_text more ++ x))
parts sign term more x =
    append_assoc sign (unsigned_text term ++ later_text more) x ∙ ap (λ t. sign ++ t)
    (append_assoc (unsigned_text term) (later_text more) x)

pub later_cut :
    (ss ts : List Term) (x y : List ℕ) → AllProper ss → AllProper ts → Ends x → Ends y → later_text ss ++ x ≡ later_text ts ++ y
    → (ss ≡ ts) × (x ≡ y)
later_cut [] [] x y p q m n e = (refl, e)
later_cut [] (t ∷ ts) x y p q m n e =
    absurd (m.apart t.number (unsigned_text t ++ (later_text ts ++ y)) (e ∙ parts (joining_sign t.number) t ts y))
later_cut (s ∷ ss) [] x y p q m n e =
    absurd (n.apart s.number (unsigned_text s ++ (later_text ss ++ x)) (sym e ∙ parts (joining_sign s.number) s ss x))
later_cut (s ∷ ss) (t ∷ ts) x y p q m n e =
    let cut = joining_cut s.number t.number (unsigned_text s ++ (later_text ss ++ x)) (unsigned_text t ++ (later_text ts ++ y))
    (sym (parts (joining_sign s.number) s ss x) ∙ (e ∙ parts (joining_sign t.number) t ts y)) in
    let product = product_cut (unsigned_abs s.number) (unsigned_abs t.number) s.name t.name (later_text ss ++ x) (later_text ts ++ y)
    p.0.named q.0.named (later_begins ss x m.ended) (later_begins ts y n.ended) cut.1 in
    let more = later_cut ss ts x y p.1 q.1 m n product.2 in
    let first : s ≡ t = term_same s t (number_back s.number t.number cut.0 product.0) product.1 in
    (cc (first, more.0), more.1)

-- a sum with a first term
first_cut :
    (s t : Term) (ss ts : List Term) (x y : List ℕ) → IsNamed s.name → IsNamed t.name → AllProper ss → AllProper ts → Ends x → Ends y
    → sum_text (s ∷ ss) ++ x ≡ sum_text (t ∷ ts) ++ y → (s ≡ t) × (ss ≡ ts) × (x ≡ y)
first_cut s t ss ts x y is is' p q m n e =
    let cut = front_cut s.number t.number (unsigned_text s ++ (later_text ss ++ x)) (unsigned_text t ++ (later_text ts ++ y))
    (product_first (unsigned_abs s.number) s.name _ is) (product_first (unsigned_abs t.number) t.name _ is')
    (sym (parts (front_sign s.number) s ss x) ∙ (e ∙ parts (front_sign t.number) t ts y)) in
    let product = product_cut (unsigned_abs s.number) (unsigned_abs t.number) s.name t.name (later_text ss ++ x) (later_text ts ++ y)
    is is' (later_begins ss x m.ended) (later_begins ts y n.ended) cut.1 in
    let more = later_cut ss ts x y p q m n product.2 in
    (term_same s t (number_back s.number t.number cut.0 product.0) product.1, more.0, more.1)

-- no term is written as the term 0
nothing : Term
nothing = record { number = pos 0; name = None }

nothing_text : sum_text [] ≡ sum_text (nothing ∷ [])
unfolding nothing
nothing_text = ap (λ t. t ++ []) (sym (numeral_small 0 (omega arith)))

nothing_named : IsNamed nothing.name
unfolding nothing
nothing_named = tt

nothing_apart : (term : Term) → IsProper term → nothing ≡ term → ⊥
unfolding nothing
nothing_apart term is e = is.apart (ap (λ (t : Term). t.number) (sym e))

pub sum_cut :
    (ss ts : List Term) (x y : List ℕ) → AllProper ss → AllProper ts → Ends x → Ends y → sum_text ss ++ x ≡ sum_text ts ++ y
    → (ss ≡ ts) × (x ≡ y)
sum_cut [] [] x y p q m n e = (refl, cc)
sum_cut [] (t ∷ ts) x y p q m n e =
    let cut = first_cut nothing t [] ts x y nothing_named q.0.named tt q.1 m n (ap (λ u. u ++ x) (sym nothing_text) ∙ e) in
    absurd (nothing_apart t q.0 cut.0)
sum_cut (s ∷ ss) [] x y p q m n e =
    let cut = first_cut nothing s [] ss y x nothing_named p.0.named tt p.1 n m (ap (λ u. u ++ y) (sym nothing_text) ∙ sym e) in
    absurd (nothing_apart s p.0 cut.0)
sum_cut (s ∷ ss) (t ∷ ts) x y p q m n e =
    let cut = first_cut s t ss ts x y p.0.named q.0.named p.1 q.1 m n e in
    (cc (cut.0, cut.1), cut.2)

-- a colon isn't what stands behind a term
colon_apart : (z : ℤ) (x y : List ℕ) → 58 ∷ x ≡ joining_sign z ++ y → ⊥
colon_apart (pos n) x y e = heads_differ 58 32 x _ refl e
colon_apart (negsuc n) x y e = heads_differ 58 32 x _ refl e

colon_later : (terms : List Term) (x y : List ℕ) → 58 ∷ x ≡ later_text terms ++ 32 ∷ y → ⊥
colon_later [] x y e = heads_differ 58 32 x y refl e
colon_later (t ∷ ts) x y e =
    colon_apart t.number x (unsigned_text t ++ (later_text ts ++ 32 ∷ y)) (e ∙ parts (joining_sign t.number) t ts (32 ∷ y))

-- `always` before a colon isn't a sum before a blank, even where a variable has that name
pub always_apart : (terms : List Term) (x y : List ℕ) → AllProper terms → codes "always" ++ 58 ∷ x ≡ sum_text terms ++ 32 ∷ y → ⊥
always_apart [] x y p e = heads_differ 97 48 _ _ refl e
always_apart (t ∷ ts) x y p e =
    let always : Option (List ℕ) = Some (codes "always") in
    let named : IsNamed always = ((refl, (refl, (refl, (refl, (refl, (refl, tt)))))), lit< tt) in
    let cut = front_cut (pos 1) t.number (product_text 1 always ++ 58 ∷ x) (unsigned_text t ++ (later_text ts ++ 32 ∷ y)) refl
    (product_first (unsigned_abs t.number) t.name _ p.0.named) (e ∙ parts (front_sign t.number) t ts (32 ∷ y)) in
    let product = product_cut 1 (unsigned_abs t.number) always t.name (58 ∷ x) (later_text ts ++ 32 ∷ y) named p.0.named refl
    (later_begins ts (32 ∷ y) refl) cut.1 in
    colon_later ts x y product.2
