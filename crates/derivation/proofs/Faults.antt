-- A list of words that a tree spells has no fault, and no list has two first faults.
use Rattle.std.proofs.Common.{◌≡◌, ℕ, List, [], ◌∷◌, ◌++◌, None, Some, ◌⊎◌, inl, inr, refl, sym, ap, ◌∙◌, subst, append_assoc, arith}
use Rattle.std.proofs.lemmas.List.{append-nil}
use Rattle.derivation.specs.declared.rule.Rule.{Rule}
use Rattle.derivation.specs.declared.rule.Rule.TheVariants.{Expected, Nesting, Operators}
use Rattle.derivation.specs.Languages.{Language}
use Rattle.derivation.specs.Pieces.{Counting, one_more, Token, Piece, token, look, spelling, first, Fits}
use Rattle.derivation.specs.Limits.{IsWithin, IsCounted, IsTooMany, AllWithin, count_behind, count_on, BreaksLimit}
use Rattle.derivation.specs.Comes.{Phrase, AllBreak, Cause, FirstFault, IsSpelledBy}
use Rattle.derivation.proofs.Calculus.{spelling-append}

-- pieces that spell some words and then one more: the token of that one
record At {L : Language} (ps : List (Piece L)) (ws : List L.Word) (w : L.Word) : Type 0 where
  before : List (Piece L)
  t : Token L
  after : List (Piece L)
  split : ps ≡ before ++ token t ∷ after
  spelled : spelling before ≡ ws
  word : t.word ≡ w

behind_token : {L : Language} (s : Token L) (ps : List (Piece L)) (v : L.Word) (ws : List L.Word) (w : L.Word) → s.word ≡ v → At ps ws w → At (token s ∷ ps) (v ∷ ws) w
behind_token s ps v ws w e h = record {
  before = token s ∷ h.before;
  t = h.t;
  after = h.after;
  split = ap (λ xs. token s ∷ xs) h.split;
  spelled = ap (λ xs. s.word ∷ xs) h.spelled ∙ ap (λ x. x ∷ ws) e;
  word = h.word;
}

behind_look : {L : Language} (l : L.Look) (ps : List (Piece L)) (ws : List L.Word) (w : L.Word) → At ps ws w → At (look l ∷ ps) ws w
behind_look l ps ws w h = record {
  before = look l ∷ h.before;
  t = h.t;
  after = h.after;
  split = ap (λ xs. look l ∷ xs) h.split;
  spelled = h.spelled;
  word = h.word;
}

parted_at : {L : Language} (ps : List (Piece L)) (ws : List L.Word) (w : L.Word) (vs : List L.Word) → spelling ps ≡ ws ++ w ∷ vs → At ps ws w
parted_at [] [] w vs e = absurd (cc)
parted_at [] (v ∷ ws) w vs e = absurd (cc)
parted_at (token t ∷ ps) [] w vs e = record { before = []; t = t; after = ps; split = refl; spelled = refl; word = cc }
parted_at (token t ∷ ps) (v ∷ ws) w vs e =
    let tails : spelling ps ≡ ws ++ w ∷ vs = cc in
    let heads : t.word ≡ v = cc in
    behind_token t ps v ws w heads (parted_at ps ws w vs tails)
parted_at (look l ∷ ps) ws w vs e = behind_look l ps ws w (parted_at ps ws w vs e)

-- a token of pieces within the limits is within them
within_at : {L : Language} (c : ℕ) (before after : List (Piece L)) (t : Token L) → AllWithin c (before ++ token t ∷ after) → IsWithin (count_behind c before) t
within_at c [] after t h = h.0
within_at c (token s ∷ before) after t h = within_at (count_on c s.counting) before after t h.1
within_at c (look l ∷ before) after t h = within_at c before after t h

too_many : (most c : ℕ) (k : Counting) → IsCounted most c k → IsTooMany most c k → ⊥
too_many most c one_more h j = absurd (omega (arith, h, j))
too_many most c _ h j = j

breaks_none : {L : Language} (c : ℕ) (t : Token L) (rule : Rule) → IsWithin c t → BreaksLimit c t rule → ⊥
breaks_none c t Expected h k = k
breaks_none c t Nesting h k = absurd (omega (arith, h.0, k))
breaks_none {L} c t Operators h k = too_many L.most_operators c t.counting h.1 k.1

-- Where the words before a fault go on with its next word within the limits, there is no fault.
module _ {L : Language} {A : Phrase L} {all to : List L.Word} where
  goes_on : (rule : Rule) (fault : FirstFault A all rule to) (tree : A.Tree) → Fits 0 (A.pieces tree) → (front rest : List (Piece L))
      → A.pieces tree ≡ front ++ rest → AllWithin 0 front → (w : L.Word) (vs : List L.Word) → spelling front ≡ spelling fault.front ++ w ∷ vs
      → Some w ≡ first to → ⊥
  goes_on rule fault tree fits front rest begins within w vs spelled next = by_rule rule fault.cause
    where
      h : At front (spelling fault.front) w
      h = parted_at front (spelling fault.front) w vs spelled

      limit : (r : Rule) → AllBreak 0 0 A r fault.front (first to) → ⊥
      limit r k =
          breaks_none (count_behind 0 h.before) h.t r (within_at 0 h.before h.after h.t (subst (AllWithin 0) h.split within))
          (k tree fits h.before (h.after ++ rest) h.t
          (begins ∙ ap (λ ps. ps ++ rest) h.split ∙ append_assoc h.before (token h.t ∷ h.after) rest) h.spelled (ap Some h.word ∙ next))

      by_rule : (r : Rule) → Cause 0 0 A r fault.front fault.rest (first to) → ⊥
      by_rule Expected k =
          k tree fits (w ∷ (vs ++ spelling rest))
          (ap spelling begins ∙ spelling-append front rest ∙ ap (λ ws. ws ++ spelling rest) spelled ∙ append_assoc (spelling fault.front) (w ∷ vs) (spelling rest))
          next
      by_rule r k = limit r k.5

-- words that a tree spells have no fault
pub spelled_has_no_fault : {L : Language} (A : Phrase L) (all to : List L.Word) (rule : Rule) (tree : A.Tree) → FirstFault A all rule to → IsSpelledBy A all tree → ⊥
spelled_has_no_fault A all (w ∷ vs) rule tree fault s =
    goes_on rule fault tree s.fits (A.pieces tree) [] (sym (append-nil (A.pieces tree))) s.within w vs (sym s.spelled ∙ fault.parted) refl
spelled_has_no_fault A all [] rule tree fault s = at_end rule fault.cause
  where
    at_end : (r : Rule) → Cause 0 0 A r fault.front fault.rest None → ⊥
    at_end Expected k = k tree s.fits [] (sym s.spelled ∙ fault.parted) refl
    at_end _ k = absurd (let e = k.3 in cc)

-- the second of two fronts of one list is longer
record IsLonger {W : Type 0} (xs ys cs ds : List W) : Type 0 where
  w : W
  ms : List W
  longer : ys ≡ xs ++ w ∷ ms
  next : cs ≡ w ∷ (ms ++ ds)

abbrev Fronts : {W : Type 0} → List W → List W → List W → List W → Type 0
Fronts xs ys cs ds = ((xs ≡ ys) × (cs ≡ ds)) ⊎ (IsLonger xs ys cs ds ⊎ IsLonger ys xs ds cs)

behind_one : {W : Type 0} (x y : W) (xs ys cs ds : List W) → x ≡ y → Fronts xs ys cs ds → Fronts (x ∷ xs) (y ∷ ys) cs ds
behind_one x y xs ys cs ds e (inl same) = inl (let tails = same.0 in cc, same.1)
behind_one x y xs ys cs ds e (inr (inl h)) =
    inr (inl (record { w = h.w; ms = h.ms; longer = ap (λ l. y ∷ l) h.longer ∙ ap (λ z. z ∷ (xs ++ h.w ∷ h.ms)) (sym e); next = h.next }))
behind_one x y xs ys cs ds e (inr (inr h)) =
    inr (inr (record { w = h.w; ms = h.ms; longer = ap (λ l. x ∷ l) h.longer ∙ ap (λ z. z ∷ (ys ++ h.w ∷ h.ms)) e; next = h.next }))

fronts : {W : Type 0} (xs ys cs ds : List W) → xs ++ cs ≡ ys ++ ds → Fronts xs ys cs ds
fronts [] [] cs ds e = inl (refl, e)
fronts [] (y ∷ ys) cs ds e = inr (inl (record { w = y; ms = ys; longer = refl; next = e }))
fronts (x ∷ xs) [] cs ds e = inr (inr (record { w = x; ms = xs; longer = refl; next = sym e }))
fronts (x ∷ xs) (y ∷ ys) cs ds e =
    let tails : xs ++ cs ≡ ys ++ ds = cc in
    let heads : x ≡ y = cc in
    behind_one x y xs ys cs ds heads (fronts xs ys cs ds tails)

-- Of two faults at one word the one is Expected only where the other is, and the one is of nesting only where the other isn't of operators.
module _ {L : Language} {A : Phrase L} {all to other : List L.Word} where
  not_expected : (rule : Rule) (f : FirstFault A all Expected to) (g : FirstFault A all rule other) → spelling f.front ≡ spelling g.front → first to ≡ first other
      → (t : Token L) (more : List (Piece L)) → g.rest ≡ token t ∷ more → first other ≡ Some t.word → ⊥
  not_expected rule f g same nexts t more begins next =
      f.cause g.tree g.fits (spelling g.rest)
      (ap spelling g.begins ∙ spelling-append g.front g.rest ∙ ap (λ ws. ws ++ spelling g.rest) (sym same))
      (ap (λ ps. first (spelling ps)) begins ∙ sym next ∙ sym nexts)

  not_both : (f : FirstFault A all Nesting to) (g : FirstFault A all Operators other) → spelling f.front ≡ spelling g.front → first to ≡ first other → ⊥
  not_both f g same nexts =
      let j = g.cause in
      let deep = f.cause.5 g.tree g.fits g.front j.1 j.0 (g.begins ∙ ap (λ ps. g.front ++ ps) j.2) (sym same) (sym j.3 ∙ sym nexts) in
      absurd (omega (arith, deep, j.4.0))

same_rule : {L : Language} {A : Phrase L} {all to other : List L.Word} (rule rule' : Rule) (f : FirstFault A all rule to) (g : FirstFault A all rule' other)
    → spelling f.front ≡ spelling g.front → first to ≡ first other → rule ≡ rule'
same_rule Expected Expected f g same nexts = refl
same_rule Nesting Nesting f g same nexts = refl
same_rule Operators Operators f g same nexts = refl
same_rule Expected limit f g same nexts = absurd (not_expected limit f g same nexts g.cause.0 g.cause.1 g.cause.2 g.cause.3)
same_rule limit Expected f g same nexts = absurd (not_expected limit g f (sym same) (sym nexts) f.cause.0 f.cause.1 f.cause.2 f.cause.3)
same_rule Nesting Operators f g same nexts = absurd (not_both f g same nexts)
same_rule Operators Nesting f g same nexts = absurd (not_both g f (sym same) (sym nexts))

-- two first faults of one list are the same
pub faults_agree : {L : Language} {A : Phrase L} {all to other : List L.Word} (rule rule' : Rule) → FirstFault A all rule to → FirstFault A all rule' other
    → (rule ≡ rule') × (to ≡ other)
faults_agree {L} {A} {all} {to} {other} rule rule' f g = by_fronts (fronts (spelling f.front) (spelling g.front) to other (sym f.parted ∙ g.parted))
  where
    by_fronts : Fronts (spelling f.front) (spelling g.front) to other → (rule ≡ rule') × (to ≡ other)
    by_fronts (inl same) = (same_rule rule rule' f g same.0 (ap first same.1), same.1)
    by_fronts (inr (inl h)) = absurd (goes_on rule f g.tree g.fits g.front g.rest g.begins g.within h.w h.ms h.longer (ap first (sym h.next)))
    by_fronts (inr (inr h)) = absurd (goes_on rule' g f.tree f.fits f.front f.rest f.begins f.within h.w h.ms h.longer (ap first (sym h.next)))
