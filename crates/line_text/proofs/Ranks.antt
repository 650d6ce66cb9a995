-- The text of a rank is read back: how many functions it has, by the first power, and each of them.
use Rattle.std.proofs.Common.{◌≡◌, ℕ, zero, suc, ◌<◌, ◌≤◌, Bool, true, false, ◌&&◌, eqb, ℤ, pos, List, [], ◌∷◌, ◌++◌, length, All, refl, sym, ap, ◌∙◌, arith, append_assoc, codes, cond}
use Rattle.std.proofs.lemmas.List.Elements.{All-head, All-tail}
use Rattle.std.proofs.lemmas.Bool.Decides.{Decides-int_eq}
use Rattle.std.specs.Ordering.{int_eq}
use Rattle.std.specs.List.{list_all}
use Rattle.linear_cons.specs.declared.affine.Affine.{Affine}
use Rattle.line_text.specs.AffineText.{affine_text}
use Rattle.line_text.specs.LineText.{is_nought, power_text, rank_text, shown}
use Rattle.line_text.specs.Names.{IsOver}
use Rattle.line_text.specs.Numeral.{numeral}
use Rattle.line_text.proofs.Cuts.{heads_differ, word_cut}
use Rattle.line_text.proofs.Sums.{closing_ends}
use Rattle.line_text.proofs.Terms.{AreDistinct, affine_cut}
use Rattle.line_text.proofs.Words.{numeral_injective, numeral_is_word}

-- texts with different second bytes differ
pub seconds_differ : (a b c : ℕ) (x y : List ℕ) → eqb b c ≡ false → a ∷ b ∷ x ≡ a ∷ c ∷ y → ⊥
seconds_differ a b c x y apart e = heads_differ b c x y apart (let f = e in cc)

-- functions with one text are one, whatever follows
text_cut :
    (names : List (List ℕ)) (a b : Affine) → AreDistinct names → IsOver names a → IsOver names b → affine_text names a ≡ affine_text names b → a ≡ b
text_cut names a b are over over' e =
    (affine_cut names a b (41 ∷ []) (41 ∷ []) are over over' (closing_ends []) (closing_ends []) (ap (λ t. t ++ 41 ∷ []) e)).0

-- a power above 1 by parts
power_parts : (n : ℕ) (x : List ℕ) → power_text (suc (suc n)) ++ x ≡ codes "w^" ++ (numeral (suc (suc n)) ++ (codes "*(" ++ x))
power_parts n x = ap (λ t. codes "w^" ++ t) (append_assoc (numeral (suc (suc n))) (codes "*(") x)

pub power_cut : (n m : ℕ) (x y : List ℕ) → power_text (suc n) ++ x ≡ power_text (suc m) ++ y → (n ≡ m) × (x ≡ y)
power_cut zero zero x y e = (refl, cc)
power_cut zero (suc m) x y e = absurd (seconds_differ 119 42 94 _ _ refl (e ∙ power_parts m y))
power_cut (suc n) zero x y e = absurd (seconds_differ 119 94 42 _ _ refl (sym (power_parts n x) ∙ e))
power_cut (suc n) (suc m) x y e =
    let whole : codes "w^" ++ (numeral (suc (suc n)) ++ (codes "*(" ++ x)) ≡ codes "w^" ++ (numeral (suc (suc m)) ++ (codes "*(" ++ y)) =
    sym (power_parts n x) ∙ e ∙ power_parts m y in
    let numbers : numeral (suc (suc n)) ++ (codes "*(" ++ x) ≡ numeral (suc (suc m)) ++ (codes "*(" ++ y) = cc in
    let cut = word_cut (numeral (suc (suc n))) (numeral (suc (suc m))) (codes "*(" ++ x) (codes "*(" ++ y)
    (numeral_is_word _) (numeral_is_word _) refl refl numbers in
    let same : suc (suc n) ≡ suc (suc m) = numeral_injective _ _ cut.0 in
    let rest : codes "*(" ++ x ≡ codes "*(" ++ y = cut.1 in
    (omega arith, cc)

-- as many functions with one text are the same
rank_back : (names : List (List ℕ)) (ps qs : List Affine) → AreDistinct names → All (IsOver names) ps → All (IsOver names) qs
    → length ps ≡ length qs → rank_text names ps ≡ rank_text names qs → ps ≡ qs
rank_back names [] [] are over over' long e = refl
rank_back names [] (q ∷ qs) are over over' long e = absurd (omega arith)
rank_back names (p ∷ ps) [] are over over' long e = absurd (omega arith)
rank_back names (p ∷ []) (q ∷ []) are over over' long e =
    ap (λ t. t ∷ []) (text_cut names p q are (All-head (IsOver names) p [] over) (All-head (IsOver names) q [] over') e)
rank_back names (p ∷ []) (q ∷ next ∷ qs) are over over' long e = absurd (omega arith)
rank_back names (p ∷ next ∷ ps) (q ∷ []) are over over' long e = absurd (omega arith)
rank_back names (p ∷ first ∷ ps) (q ∷ other ∷ qs) are over over' long e =
    let behind = power_cut (length ps) (length qs) _ _ e in
    let cut = affine_cut names p q (codes ") + " ++ rank_text names (first ∷ ps)) (codes ") + " ++ rank_text names (other ∷ qs)) are
    (All-head (IsOver names) p (first ∷ ps) over) (All-head (IsOver names) q (other ∷ qs) over')
    (closing_ends (32 ∷ 43 ∷ 32 ∷ rank_text names (first ∷ ps))) (closing_ends (32 ∷ 43 ∷ 32 ∷ rank_text names (other ∷ qs))) behind.1 in
    let rest : rank_text names (first ∷ ps) ≡ rank_text names (other ∷ qs) = let f = cut.1 in cc in
    let more = rank_back names (first ∷ ps) (other ∷ qs) are (All-tail (IsOver names) p (first ∷ ps) over)
    (All-tail (IsOver names) q (other ∷ qs) over') (omega arith) rest in
    cc (cut.0, more)

-- lists of two functions or more with one text are the same
pub rank_cut : (names : List (List ℕ)) (ps qs : List Affine) → AreDistinct names → All (IsOver names) ps → All (IsOver names) qs
    → 2 ≤ length ps → 2 ≤ length qs → rank_text names ps ≡ rank_text names qs → ps ≡ qs
rank_cut names [] qs are over over' two two' e = absurd (omega arith)
rank_cut names (p ∷ []) qs are over over' two two' e = absurd (omega arith)
rank_cut names (p ∷ first ∷ ps) [] are over over' two two' e = absurd (omega arith)
rank_cut names (p ∷ first ∷ ps) (q ∷ []) are over over' two two' e = absurd (omega arith)
rank_cut names (p ∷ first ∷ ps) (q ∷ other ∷ qs) are over over' two two' e =
    let long : length ps ≡ length qs = (power_cut (length ps) (length qs) _ _ e).0 in
    rank_back names (p ∷ first ∷ ps) (q ∷ other ∷ qs) are over over' (omega (arith, long)) e

-- ---- what is left out in front

-- at least two are shown, and no more than there are
abbrev IsShownOf : ℕ → List Affine → Type 0
IsShownOf long parts = (2 ≤ length parts) × (length parts ≤ long)

either_shown : (t : Bool) (long : ℕ) (shorter whole : List Affine) → IsShownOf long shorter → IsShownOf long whole → IsShownOf long (cond t shorter whole)
either_shown true long shorter whole first second = first
either_shown false long shorter whole first second = second

shown_long : (parts : List Affine) → 2 ≤ length parts → IsShownOf (length parts) (shown parts)
shown_long [] two = absurd (omega arith)
shown_long (a ∷ []) two = absurd (omega arith)
shown_long (a ∷ b ∷ []) two = (omega arith, omega arith)
shown_long (a ∷ b ∷ c ∷ rest) two =
    let more = shown_long (b ∷ c ∷ rest) (omega arith) in
    let least = more.0 in
    let most = more.1 in
    either_shown (is_nought a) (length (a ∷ b ∷ c ∷ rest)) (shown (b ∷ c ∷ rest)) (a ∷ b ∷ c ∷ rest) (least, omega (arith, most)) (omega arith, omega arith)

-- what is shown is over the names
either_over : (names : List (List ℕ)) (t : Bool) (shorter whole : List Affine) → All (IsOver names) shorter → All (IsOver names) whole
    → All (IsOver names) (cond t shorter whole)
either_over names true shorter whole first second = first
either_over names false shorter whole first second = second

pub shown_over : (names : List (List ℕ)) (parts : List Affine) → All (IsOver names) parts → All (IsOver names) (shown parts)
shown_over names [] over = over
shown_over names (a ∷ []) over = over
shown_over names (a ∷ b ∷ []) over = over
shown_over names (a ∷ b ∷ c ∷ rest) over =
    either_over names (is_nought a) (shown (b ∷ c ∷ rest)) (a ∷ b ∷ c ∷ rest)
    (shown_over names (b ∷ c ∷ rest) (All-tail (IsOver names) a (b ∷ c ∷ rest) over)) over

both_hold : (a b : Bool) → (a && b) ≡ true → (a ≡ true) × (b ≡ true)
both_hold true b is = (refl, is)
both_hold false b is = absurd (cc)

-- lists of the number 0 that are as long are the same
zeros_same : (xs ys : List ℤ) → list_all (λ number. int_eq number (pos 0)) xs ≡ true → list_all (λ number. int_eq number (pos 0)) ys ≡ true
    → length xs ≡ length ys → xs ≡ ys
zeros_same [] [] first second long = refl
zeros_same [] (y ∷ ys) first second long = absurd (omega arith)
zeros_same (x ∷ xs) [] first second long = absurd (omega arith)
zeros_same (x ∷ xs) (y ∷ ys) first second long =
    let here = both_hold (int_eq x (pos 0)) (list_all (λ number. int_eq number (pos 0)) xs) first in
    let there = both_hold (int_eq y (pos 0)) (list_all (λ number. int_eq number (pos 0)) ys) second in
    let head : x ≡ y = (Decides-int_eq x (pos 0)).0 here.0 ∙ sym ((Decides-int_eq y (pos 0)).0 there.0) in
    let tail = zeros_same xs ys here.1 there.1 (omega arith) in
    cc (head, tail)

same_affine : (a b : Affine) → a.coef ≡ b.coef → a.constant ≡ b.constant → a ≡ b
same_affine a b lists constants =
    ap (λ (list : List ℤ). let r : Affine = record { coef = list; constant = a.constant } in r) lists
    ∙ ap (λ (number : ℤ). let r : Affine = record { coef = b.coef; constant = number } in r) constants

noughts_same : (names : List (List ℕ)) (a b : Affine) → IsOver names a → IsOver names b → is_nought a ≡ true → is_nought b ≡ true → a ≡ b
noughts_same names a b over over' first second =
    let here = both_hold (int_eq a.constant (pos 0)) (list_all (λ number. int_eq number (pos 0)) a.coef) first in
    let there = both_hold (int_eq b.constant (pos 0)) (list_all (λ number. int_eq number (pos 0)) b.coef) second in
    let constants : a.constant ≡ b.constant = (Decides-int_eq a.constant (pos 0)).0 here.0 ∙ sym ((Decides-int_eq b.constant (pos 0)).0 there.0) in
    let lists = zeros_same a.coef b.coef here.1 there.1 (over.places ∙ sym over'.places) in
    same_affine a b lists constants

-- what is left out is the constant 0, and a list that is shown whole is longer than what is left of another
shown_front : (names : List (List ℕ)) (p q : Affine) (ps qs : List Affine) (s t : Bool) → is_nought p ≡ s → is_nought q ≡ t
    → All (IsOver names) (p ∷ ps) → All (IsOver names) (q ∷ qs) → length ps ≡ length qs → length (shown ps) ≤ length ps
    → length (shown qs) ≤ length qs → (shown ps ≡ shown qs → ps ≡ qs) → cond s (shown ps) (p ∷ ps) ≡ cond t (shown qs) (q ∷ qs) → p ∷ ps ≡ q ∷ qs
shown_front names p q ps qs true true first second over over' long few few' tails same =
    let head = noughts_same names p q (All-head (IsOver names) p ps over) (All-head (IsOver names) q qs over') first second in
    let tail = tails same in
    cc (head, tail)
shown_front names p q ps qs true false first second over over' long few few' tails same =
    let lengths = ap length same in absurd (omega (arith, long, few, lengths))
shown_front names p q ps qs false true first second over over' long few few' tails same =
    let lengths = ap length same in absurd (omega (arith, long, few', lengths))
shown_front names p q ps qs false false first second over over' long few few' tails same = same

-- as many functions of which the same are shown are the same
pub shown_same : (names : List (List ℕ)) (ps qs : List Affine) → All (IsOver names) ps → All (IsOver names) qs → length ps ≡ length qs
    → shown ps ≡ shown qs → ps ≡ qs
shown_same names [] [] over over' long e = refl
shown_same names [] (q ∷ qs) over over' long e = absurd (omega arith)
shown_same names (p ∷ ps) [] over over' long e = absurd (omega arith)
shown_same names (p ∷ []) (q ∷ []) over over' long e = e
shown_same names (p ∷ []) (q ∷ b ∷ qs) over over' long e = absurd (omega arith)
shown_same names (p ∷ a ∷ ps) (q ∷ []) over over' long e = absurd (omega arith)
shown_same names (p ∷ a ∷ []) (q ∷ b ∷ []) over over' long e = e
shown_same names (p ∷ a ∷ []) (q ∷ b ∷ d ∷ qs) over over' long e = absurd (omega arith)
shown_same names (p ∷ a ∷ c ∷ ps) (q ∷ b ∷ []) over over' long e = absurd (omega arith)
shown_same names (p ∷ a ∷ c ∷ ps) (q ∷ b ∷ d ∷ qs) over over' long e =
    shown_front names p q (a ∷ c ∷ ps) (b ∷ d ∷ qs) (is_nought p) (is_nought q) refl refl over over' (omega arith)
    (shown_long (a ∷ c ∷ ps) (omega arith)).1 (shown_long (b ∷ d ∷ qs) (omega arith)).1
    (λ same. shown_same names (a ∷ c ∷ ps) (b ∷ d ∷ qs) (All-tail (IsOver names) p (a ∷ c ∷ ps) over)
    (All-tail (IsOver names) q (b ∷ d ∷ qs) over') (omega arith) same) e

-- five functions with one text are the same
pub ranks_told : (names : List (List ℕ)) (ps qs : List Affine) → AreDistinct names → (length ps ≡ 5) × All (IsOver names) ps
    → (length qs ≡ 5) × All (IsOver names) qs → rank_text names (shown ps) ≡ rank_text names (shown qs) → ps ≡ qs
ranks_told names ps qs are over over' e =
    let five = over.0 in
    let five' = over'.0 in
    shown_same names ps qs over.1 over'.1 (five ∙ sym five')
    (rank_cut names (shown ps) (shown qs) are (shown_over names ps over.1) (shown_over names qs over'.1)
    (shown_long ps (omega (arith, five))).0 (shown_long qs (omega (arith, five'))).0 e)

-- ---- the text, one function in front

pub rank_parts : (names : List (List ℕ)) (functions rest : List Affine) (first : Affine) → functions ≡ first ∷ rest → 0 < length rest
    → rank_text names functions ≡ power_text (length rest) ++ (affine_text names first ++ (codes ") + " ++ rank_text names rest))
rank_parts names functions [] first is some = absurd (omega arith)
rank_parts names functions (next ∷ more) first is some = ap (rank_text names) is
