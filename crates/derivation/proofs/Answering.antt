-- What readers hand on when they fail, why reading stops at a word, and the word that stands at a number.
use Rattle.std.proofs.Common.{◌≡◌, ◌≢◌, ℕ, suc, ◌+◌, ◌<◌, ◌≤◌, ◌⊎◌, inl, inr, List, [], ◌∷◌, Some, Result, Ok, Err, length, map, drop, get_or, drop-cons, sym, ap, ◌∙◌, subst, add-one, IfErr}
use Rattle.std.proofs.lemmas.Bool.{cases_lt}
use Rattle.std.proofs.lemmas.List.{drop_all}
use Rattle.std.specs.Result.{IsErr, IsErrAnd}
use Rattle.derivation.specs.declared.fault.Fault.{Fault}
use Rattle.derivation.specs.declared.fault.Failure.{Failure}
use Rattle.derivation.specs.declared.rule.Rule.{Rule}
use Rattle.derivation.specs.declared.rule.Rule.TheVariants.{Expected, Nesting}
use Rattle.derivation.specs.Failures.{OnFault, IfFault, MissesWord, MissesOpening, MissesKind}
use Rattle.derivation.specs.Pieces.{Token, Rest, first}
use Rattle.derivation.specs.Grammars.{Grammar, Trees, Stops}
use Rattle.derivation.proofs.Grammars.{Lawful, sticks, Headed, exceeds}
use Rattle.derivation.proofs.Choices.{begins, not_next}

-- a fault that is handed on
pub handed_on : {X : Type 0} (r : Result X Fault) (f : Fault) (P : Fault → Type 0) → IsErr r × IsErrAnd r (λ e. e ≡ f) → P f → IfErr r P
handed_on (Ok x) f P h k = tt
handed_on (Err e) f P h k = subst P (sym h.1) k

-- the same where memory may run out instead
pub failed_on : {X : Type 0} (r : Result X Failure) (f : Fault) (P : Fault → Type 0) → IsErr r × IsErrAnd r (λ e. e ≡ Failure.Fault f) → P f → IfFault r P
failed_on (Ok x) f P h k = tt
failed_on (Err (Failure.Fault g)) f P h k = let same : f ≡ g = cc in subst P same k
failed_on (Err (Failure.Memory e)) f P h k = tt

-- a failure that is handed on, with what its fault says of a part
pub passed_on : {X : Type 0} (r : Result X Failure) (f : Failure) (P Q : Fault → Type 0) → IsErr r × IsErrAnd r (λ e. e ≡ f) → OnFault f P
    → ((fault : Fault) → P fault → Q fault) → IfFault r Q
passed_on (Ok x) f P Q h k turn = tt
passed_on (Err (Failure.Memory e)) f P Q h k turn = tt
passed_on (Err (Failure.Fault g)) f P Q h k turn = turn g (subst (λ f. OnFault f P) (sym h.1) k)

-- Where each tree begins with a word of this kind, or with this one, reading stops at another word, or where it opens level 65.
module _ {G : Grammar} (laws : Lawful G) (A : G.Sequence) {c : ℕ} {from : Rest G.language} where
  pub kind_missed : {X : Type 0} (kind : X → G.language.Word) → ((f : Trees G A) → (x : X) × (begins G A f ≡ Some (kind x))) → (rule : Rule)
      → MissesKind from kind rule → Stops G c A from rule from
  kind_missed {X} kind all Expected h =
      sticks laws A c from (λ next. (x : X) → next ≢ Some (kind x)) (λ f fits other. other (all f).0 (all f).1) (λ x. not_next (kind x) from.words (h x))
  kind_missed kind all _ h = absurd h

  pub word_missed : (w : G.language.Word) → ((f : Trees G A) → begins G A f ≡ Some w) → (rule : Rule) → MissesWord from w rule → Stops G c A from rule from
  word_missed w all Expected h = sticks laws A c from (λ next. next ≢ Some w) (λ f fits other. other (all f)) (not_next w from.words h)
  word_missed w all _ h = absurd h

  pub opening_missed : {t : Token G.language} {B : G.Sequence} {fill : Trees G B → Trees G A} → Headed G A t B fill
      → ((f : Trees G A) → begins G A f ≡ Some t.word) → (rule : Rule) → MissesOpening from t.word t.level rule → Stops G c A from rule from
  opening_missed x all Nesting h = exceeds x laws {to = h.0.0} h.0.1 Nesting (λ e. cc) h.1
  opening_missed {t} x all rule h = word_missed t.word all rule h

-- a fault that a reader tells by the number of its word, where what is left from a number on is `rest`
pub there : (G : Grammar) {c : ℕ} {A : G.Sequence} (rest : ℕ → Rest G.language) (at : ℕ) (fault : Fault) → fault.at ≡ at
    → Stops G c A (rest at) fault.rule (rest at) → Stops G c A (rest at) fault.rule (rest fault.at)
there G {c} {A} rest at fault e h = subst (λ n. Stops G c A (rest at) fault.rule (rest n)) (sym e) h

-- where a word stands, there is room for it, and the others stand behind
stands_at : {X W : Type 0} (word : X → W) (xs : List X) (at : ℕ) (w : W) (rest : List W) → map word (drop at xs) ≡ w ∷ rest
    → (at < length xs) × (map word (drop (at + 1) xs) ≡ rest)
stands_at {X} {W} word xs at w rest e = by_place (cases_lt at (length xs))
  where
    behind : (x : X) → drop at xs ≡ x ∷ drop (suc at) xs → map word (drop (at + 1) xs) ≡ rest
    behind x split =
        let whole : word x ∷ map word (drop (suc at) xs) ≡ w ∷ rest = sym (ap (map word) split) ∙ e in
        let tails : map word (drop (suc at) xs) ≡ rest = cc in
        rw add-one tails

    some : (ls : List X) → map word ls ≡ w ∷ rest → X
    some [] h = absurd (cc)
    some (l ∷ ls) h = l

    by_place : (at < length xs) ⊎ (length xs ≤ at) → (at < length xs) × (map word (drop (at + 1) xs) ≡ rest)
    by_place (inl inside) =
        let x = some (drop at xs) e in
        (inside, behind (get_or xs at x) (drop-cons xs at x inside))
    by_place (inr outside) =
        absurd (let none : [] ≡ w ∷ rest = sym (ap (map word) (drop_all at xs outside)) ∙ e in cc)

-- the word that is first is next, and has room
module _ {X W : Type 0} (word : X → W) (xs : List X) (at : ℕ) (w : W) (e : first (map word (drop at xs)) ≡ Some w) where
  rest_of : (rest : List W) × (map word (drop at xs) ≡ w ∷ rest)
  rest_of = by_words (map word (drop at xs)) e
    where
      by_words : (ws : List W) → first ws ≡ Some w → (rest : List W) × (ws ≡ w ∷ rest)
      by_words [] e = absurd (cc)
      by_words (v ∷ ws) e = (ws, let same : v ≡ w = cc in ap (λ x. x ∷ ws) same)

  pub room_at : at < length xs
  room_at = (stands_at word xs at w rest_of.0 rest_of.1).0

  pub front_at : map word (drop at xs) ≡ w ∷ map word (drop (at + 1) xs)
  front_at = rest_of.1 ∙ ap (λ r. w ∷ r) (sym (stands_at word xs at w rest_of.0 rest_of.1).1)
