-- A line is read back: its condition row by row, and its claim.
use Rattle.std.proofs.Common.{◌≡◌, ℕ, suc, Bool, true, false, ℤ, pos, List, [], ◌∷◌, ◌++◌, All, sym, refl, ap, ◌∙◌, arith, append_assoc, unsigned_abs, codes, None}
use Rattle.std.specs.Ordering.{int_eq}
use Rattle.linear_cons.specs.declared.affine.Affine.{Affine}
use Rattle.line_text.specs.declared.claim.Claim.{Claim}
use Rattle.line_text.specs.declared.claim.Claim.TheVariants.{Exactly, Within, Holds, Ranked, Fits, Unknown}
use Rattle.line_text.specs.AffineText.{affine_text, front_sign, number_text, terms_of}
use Rattle.line_text.specs.LineText.{claim_text, condition_text, is_one, more_joined, row_text, row_texts, steps_word}
use Rattle.line_text.specs.Names.{AreNames, IsOver}
use Rattle.line_text.specs.Numeral.{numeral}
use Rattle.line_text.specs.Spells.{IsClaimOver, Spells}
use Rattle.line_text.proofs.Cuts.{heads_differ, word_cut, BeginsStopped}
use Rattle.line_text.proofs.Products.{front_cut, number_back, product_first}
use Rattle.line_text.proofs.Ranks.{ranks_told, seconds_differ}
use Rattle.line_text.proofs.Sums.{Ends, always_apart, blank_ends}
use Rattle.line_text.proofs.Terms.{AreDistinct, affine_cut, distinct_names, terms_proper}
use Rattle.line_text.proofs.Words.{numeral_injective, numeral_is_word}

-- a number is read back, where a byte follows that no word has
number_cut : (y z : ℤ) (u v : List ℕ) → BeginsStopped u → BeginsStopped v → number_text y ++ u ≡ number_text z ++ v → y ≡ z
number_cut y z u v p q e =
    let cut = front_cut y z (numeral (unsigned_abs y) ++ u) (numeral (unsigned_abs z) ++ v) (product_first (unsigned_abs y) None u tt)
    (product_first (unsigned_abs z) None v tt) (sym (append_assoc (front_sign y) (numeral (unsigned_abs y)) u)
    ∙ (e ∙ append_assoc (front_sign z) (numeral (unsigned_abs z)) v)) in
    number_back y z cut.0 (numeral_injective _ _ (word_cut (numeral (unsigned_abs y)) (numeral (unsigned_abs z)) u v (numeral_is_word _)
    (numeral_is_word _) p q cut.1).0)

word_stops : (one : Bool) → BeginsStopped (steps_word one)
word_stops true = refl
word_stops false = refl

word_ends : (one : Bool) → Ends (steps_word one)
word_ends true = blank_ends 115 (codes "tep") refl
word_ends false = blank_ends 115 (codes "teps") refl

bound_cut :
    (names : List (List ℕ)) (a b : Affine) → AreDistinct names → IsOver names a → IsOver names b
    → affine_text names a ++ steps_word (is_one a) ≡ affine_text names b ++ steps_word (is_one b) → a ≡ b
bound_cut names a b are over over' e =
    (affine_cut names a b (steps_word (is_one a)) (steps_word (is_one b)) are over over' (word_ends (is_one a)) (word_ends (is_one b)) e).0

claim_cut :
    (names : List (List ℕ)) (c d : Claim) → AreDistinct names → IsClaimOver names c → IsClaimOver names d
    → claim_text names c ≡ claim_text names d → c ≡ d
claim_cut names (Exactly y) (Exactly z) are over over' e = ap Exactly (number_cut y z (steps_word (int_eq y (pos 1))) (steps_word (int_eq z (pos 1))) (word_stops _) (word_stops _) cc)
claim_cut names (Exactly y) (Within b) are over over' e = absurd (heads_differ 101 119 _ _ refl e)
claim_cut names (Exactly y) Holds are over over' e = absurd (heads_differ 101 104 _ _ refl e)
claim_cut names (Exactly y) (Ranked qs) are over over' e = absurd (seconds_differ 101 120 110 _ _ refl e)
claim_cut names (Exactly y) Fits are over over' e = absurd (heads_differ 101 102 _ _ refl e)
claim_cut names (Exactly y) Unknown are over over' e = absurd (heads_differ 101 117 _ _ refl e)
claim_cut names (Within a) (Exactly z) are over over' e = absurd (heads_differ 119 101 _ _ refl e)
claim_cut names (Within a) (Within b) are over over' e = ap Within (bound_cut names a b are over over' cc)
claim_cut names (Within a) Holds are over over' e = absurd (heads_differ 119 104 _ _ refl e)
claim_cut names (Within a) (Ranked qs) are over over' e = absurd (heads_differ 119 101 _ _ refl e)
claim_cut names (Within a) Fits are over over' e = absurd (heads_differ 119 102 _ _ refl e)
claim_cut names (Within a) Unknown are over over' e = absurd (heads_differ 119 117 _ _ refl e)
claim_cut names Holds (Exactly z) are over over' e = absurd (heads_differ 104 101 _ _ refl e)
claim_cut names Holds (Within b) are over over' e = absurd (heads_differ 104 119 _ _ refl e)
claim_cut names Holds Holds are over over' e = refl
claim_cut names Holds (Ranked qs) are over over' e = absurd (heads_differ 104 101 _ _ refl e)
claim_cut names Holds Fits are over over' e = absurd (heads_differ 104 102 _ _ refl e)
claim_cut names Holds Unknown are over over' e = absurd (heads_differ 104 117 _ _ refl e)
claim_cut names (Ranked ps) (Exactly z) are over over' e = absurd (seconds_differ 101 110 120 _ _ refl e)
claim_cut names (Ranked ps) (Within b) are over over' e = absurd (heads_differ 101 119 _ _ refl e)
claim_cut names (Ranked ps) Holds are over over' e = absurd (heads_differ 101 104 _ _ refl e)
claim_cut names (Ranked ps) (Ranked qs) are over over' e = ap Ranked (ranks_told names ps qs are over over' cc)
claim_cut names (Ranked ps) Fits are over over' e = absurd (heads_differ 101 102 _ _ refl e)
claim_cut names (Ranked ps) Unknown are over over' e = absurd (heads_differ 101 117 _ _ refl e)
claim_cut names Fits (Exactly z) are over over' e = absurd (heads_differ 102 101 _ _ refl e)
claim_cut names Fits (Within b) are over over' e = absurd (heads_differ 102 119 _ _ refl e)
claim_cut names Fits Holds are over over' e = absurd (heads_differ 102 104 _ _ refl e)
claim_cut names Fits (Ranked qs) are over over' e = absurd (heads_differ 102 101 _ _ refl e)
claim_cut names Fits Fits are over over' e = refl
claim_cut names Fits Unknown are over over' e = absurd (heads_differ 102 117 _ _ refl e)
claim_cut names Unknown (Exactly z) are over over' e = absurd (heads_differ 117 101 _ _ refl e)
claim_cut names Unknown (Within b) are over over' e = absurd (heads_differ 117 119 _ _ refl e)
claim_cut names Unknown Holds are over over' e = absurd (heads_differ 117 104 _ _ refl e)
claim_cut names Unknown (Ranked qs) are over over' e = absurd (heads_differ 117 101 _ _ refl e)
claim_cut names Unknown Fits are over over' e = absurd (heads_differ 117 102 _ _ refl e)
claim_cut names Unknown Unknown are over over' e = refl

-- a row and what follows, by parts
row_parts :
    (names : List (List ℕ)) (row : Affine) (more x : List ℕ)
    → (row_text names row ++ more) ++ x ≡ affine_text names row ++ (codes " >= 0" ++ (more ++ x))
row_parts names row more x = append_assoc (row_text names row) more x ∙ append_assoc (affine_text names row) (codes " >= 0") (more ++ x)

row_cut :
    (names : List (List ℕ)) (a b : Affine) (x y : List ℕ) → AreDistinct names → IsOver names a → IsOver names b
    → affine_text names a ++ (codes " >= 0" ++ x) ≡ affine_text names b ++ (codes " >= 0" ++ y) → (a ≡ b) × (x ≡ y)
row_cut names a b x y are over over' e =
    let cut = affine_cut names a b (codes " >= 0" ++ x) (codes " >= 0" ++ y) are over over' (blank_ends 62 (61 ∷ 32 ∷ 48 ∷ x) refl)
    (blank_ends 62 (61 ∷ 32 ∷ 48 ∷ y) refl) e in
    (cut.0, let f = cut.1 in cc)

all_first : (names : List (List ℕ)) (row : Affine) (more : List Affine) → All (IsOver names) (row ∷ more) → IsOver names row
all_first names row more all = all 0 row (omega arith)

all_rest : (names : List (List ℕ)) (row : Affine) (more : List Affine) → All (IsOver names) (row ∷ more) → All (IsOver names) more
all_rest names row more all = λ k d low. all (suc k) d (omega arith)

rows_cut :
    (names : List (List ℕ)) (rows others : List Affine) (x y : List ℕ) → AreDistinct names → All (IsOver names) rows
    → All (IsOver names) others → more_joined (row_texts names rows) ++ 58 ∷ x ≡ more_joined (row_texts names others) ++ 58 ∷ y → (rows ≡ others) × (x ≡ y)
rows_cut names [] [] x y are over over' e = (refl, cc)
rows_cut names [] (b ∷ others) x y are over over' e = absurd (heads_differ 58 32 _ _ refl e)
rows_cut names (a ∷ rows) [] x y are over over' e = absurd (heads_differ 32 58 _ _ refl e)
rows_cut names (a ∷ rows) (b ∷ others) x y are over over' e =
    let inner : (row_text names a ++ more_joined (row_texts names rows)) ++ 58 ∷ x ≡ (row_text names b ++ more_joined (row_texts names others)) ++ 58 ∷ y =
    cc in
    let cut = row_cut names a b (more_joined (row_texts names rows) ++ 58 ∷ x) (more_joined (row_texts names others) ++ 58 ∷ y) are
    (all_first names a rows over) (all_first names b others over') (sym (row_parts names a (more_joined (row_texts names rows)) (58 ∷ x))
    ∙ (inner ∙ row_parts names b (more_joined (row_texts names others)) (58 ∷ y))) in
    let more = rows_cut names rows others x y are (all_rest names a rows over) (all_rest names b others over') cut.1 in
    (cc (cut.0, more.0), more.1)

-- a condition without rows isn't one with rows
always_cut :
    (names : List (List ℕ)) (row : Affine) (more : List Affine) (x y : List ℕ) → AreDistinct names
    → codes "always" ++ 58 ∷ x ≡ condition_text names (row ∷ more) ++ 58 ∷ y → ⊥
always_cut names row more x y are e =
    always_apart (terms_of names row) x _ (terms_proper names row.coef row.constant are)
    (e ∙ row_parts names row (more_joined (row_texts names more)) (58 ∷ y))

condition_cut :
    (names : List (List ℕ)) (rows others : List Affine) (x y : List ℕ) → AreDistinct names → All (IsOver names) rows
    → All (IsOver names) others → condition_text names rows ++ 58 ∷ x ≡ condition_text names others ++ 58 ∷ y → (rows ≡ others) × (x ≡ y)
condition_cut names [] [] x y are over over' e = (refl, cc)
condition_cut names [] (b ∷ others) x y are over over' e = absurd (always_cut names b others x y are e)
condition_cut names (a ∷ rows) [] x y are over over' e = absurd (always_cut names a rows y x are (sym e))
condition_cut names (a ∷ rows) (b ∷ others) x y are over over' e =
    let cut = row_cut names a b (more_joined (row_texts names rows) ++ 58 ∷ x) (more_joined (row_texts names others) ++ 58 ∷ y) are
    (all_first names a rows over) (all_first names b others over') (sym (row_parts names a (more_joined (row_texts names rows)) (58 ∷ x))
    ∙ (e ∙ row_parts names b (more_joined (row_texts names others)) (58 ∷ y))) in
    let more = rows_cut names rows others x y are (all_rest names a rows over) (all_rest names b others over') cut.1 in
    (cc (cut.0, more.0), more.1)

pub line_cut :
    (names : List (List ℕ)) (line : List ℕ) (rows others : List Affine) (claim claim' : Claim) → AreNames names
    → Spells names line rows claim → Spells names line others claim' → (rows ≡ others) × (claim ≡ claim')
line_cut names line rows others claim claim' are one other =
    let distinct = distinct_names names are in
    let cut = condition_cut names rows others (32 ∷ claim_text names claim) (32 ∷ claim_text names claim') distinct one.condition_over
    other.condition_over (sym one.text ∙ other.text) in
    (cut.0, claim_cut names claim claim' distinct one.claim_over other.claim_over (let f = cut.1 in cc))

pub functions_told :
    (names : List (List ℕ)) (a b : Affine) → AreNames names → IsOver names a → IsOver names b → affine_text names a ≡ affine_text names b
    → a ≡ b
functions_told names a b are over over' e =
    (row_cut names a b [] [] (distinct_names names are) over over' (ap (λ t. t ++ codes " >= 0") e)).0

pub rows_told :
    (names : List (List ℕ)) (a b : Affine) → AreNames names → IsOver names a → IsOver names b → row_text names a ≡ row_text names b → a ≡ b
rows_told names a b are over over' e = (row_cut names a b [] [] (distinct_names names are) over over' e).0
