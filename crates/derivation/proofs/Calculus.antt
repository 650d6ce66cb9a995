-- How one reading follows from another.
use Rattle.std.proofs.Common.{◌≡◌, ℕ, ◌+◌, List, [], ◌∷◌, ◌++◌, Option, None, Some, refl, sym, ap, ◌∙◌, subst, append_assoc}
use Rattle.derivation.specs.declared.rule.Rule.{Rule}
use Rattle.derivation.specs.declared.rule.Rule.TheVariants.{Expected}
use Rattle.derivation.specs.Languages.{Language}
use Rattle.derivation.specs.Pieces.{Token, Piece, token, look, Rest, spelling, first, first_before, number_behind, FitsBefore, Fits}
use Rattle.derivation.specs.Limits.{AllWithin, count_behind, count_on, BreaksLimit}
use Rattle.derivation.specs.Comes.{Phrase, MayStandFor, Comes, AllBreak, Cause, Breaks}

-- pieces one behind the other
module _ {L : Language} where
  pub spelling-append : (xs ys : List (Piece L)) → spelling (xs ++ ys) ≡ spelling xs ++ spelling ys
  spelling-append [] ys = refl
  spelling-append (token t ∷ xs) ys = ap (λ ws. t.word ∷ ws) (spelling-append xs ys)
  spelling-append (look l ∷ xs) ys = spelling-append xs ys

  first_before-append : (xs ys : List (Piece L)) (o : Option L.Word) → first_before (xs ++ ys) o ≡ first_before xs (first_before ys o)
  first_before-append [] ys o = refl
  first_before-append (token t ∷ xs) ys o = refl
  first_before-append (look l ∷ xs) ys o = first_before-append xs ys o

  pub first_spelling : (xs : List (Piece L)) → first (spelling xs) ≡ first_before xs None
  first_spelling [] = refl
  first_spelling (token t ∷ xs) = refl
  first_spelling (look l ∷ xs) = first_spelling xs

  first_between : (xs : List (Piece L)) (ws : List L.Word) → first (spelling xs ++ ws) ≡ first_before xs (first ws)
  first_between [] ws = refl
  first_between (token t ∷ xs) ws = refl
  first_between (look l ∷ xs) ws = first_between xs ws

  within-append : (xs ys : List (Piece L)) (c : ℕ) → AllWithin c xs → AllWithin (count_behind c xs) ys → AllWithin c (xs ++ ys)
  within-append [] ys c h k = k
  within-append (token t ∷ xs) ys c h k = (h.0, within-append xs ys (count_on c t.counting) h.1 k)
  within-append (look l ∷ xs) ys c h k = within-append xs ys c h k

  count_behind-append : (xs ys : List (Piece L)) (c : ℕ) → count_behind c (xs ++ ys) ≡ count_behind (count_behind c xs) ys
  count_behind-append [] ys c = refl
  count_behind-append (token t ∷ xs) ys c = count_behind-append xs ys (count_on c t.counting)
  count_behind-append (look l ∷ xs) ys c = count_behind-append xs ys c

  number_behind-append : (xs ys : List (Piece L)) (n : ℕ) → number_behind n (xs ++ ys) ≡ number_behind (number_behind n xs) ys
  number_behind-append [] ys n = refl
  number_behind-append (token t ∷ xs) ys n = number_behind-append xs ys (n + 1)
  number_behind-append (look l ∷ xs) ys n = number_behind-append xs ys n

  fits-append : (xs ys : List (Piece L)) (n : ℕ) (o : Option L.Word) → FitsBefore n xs (first_before ys o) → FitsBefore (number_behind n xs) ys o
      → FitsBefore n (xs ++ ys) o
  fits-append [] ys n o h k = k
  fits-append (token t ∷ xs) ys n o h k = fits-append xs ys (n + 1) o h k
  fits-append (look l ∷ xs) ys n o h k =
      (subst (λ next. L.Meets l n next) (sym (first_before-append xs ys o)) h.0, fits-append xs ys n o h.1 k)

  pub fits-behind : (xs ys : List (Piece L)) (n : ℕ) (o : Option L.Word) → FitsBefore n (xs ++ ys) o → FitsBefore (number_behind n xs) ys o
  fits-behind [] ys n o h = h
  fits-behind (token t ∷ xs) ys n o h = fits-behind xs ys (n + 1) o h
  fits-behind (look l ∷ xs) ys n o h = fits-behind xs ys n o h.1

  -- a next word may be exchanged for one that may stand for it, and so may the first word of the pieces before it
  stands-before : (xs : List (Piece L)) (other next : Option L.Word) → MayStandFor L next other → MayStandFor L (first_before xs next) (first_before xs other)
  stands-before [] other next h = h
  stands-before (token t ∷ xs) other next h = λ l n meets. meets
  stands-before (look l ∷ xs) other next h = stands-before xs other next h

  fits-for : (xs : List (Piece L)) (n : ℕ) (other next : Option L.Word) → MayStandFor L next other → FitsBefore n xs other → FitsBefore n xs next
  fits-for [] n other next h k = tt
  fits-for (token t ∷ xs) n other next h k = fits-for xs (n + 1) other next h k
  fits-for (look l ∷ xs) n other next h k = (stands-before xs other next h l n k.0, fits-for xs n other next h k.1)

pub cancel : {W : Type 0} (xs : List W) {ys zs : List W} → xs ++ ys ≡ xs ++ zs → ys ≡ zs
cancel [] e = e
cancel (x ∷ xs) e = cancel xs (cc)

-- reading has come to where it is
pub here : {L : Language} (c : ℕ) (A : Phrase L) (from : Rest L) → Comes c A from c A from (λ g. g)
here c A from = record {
  front = [];
  parted = refl;
  numbered = refl;
  within = tt;
  counted = refl;
  fits = tt;
  spells = λ g. refl;
  only = λ f fits rest e next. (f, refl);
}

-- what spells both fronts is what the second leads to
behind : {L : Language} (A B : Phrase L) (F : B.Tree → A.Tree) (c d : ℕ) (a b : Rest L) → (x : Comes c A a d B b F) → (more : List (Piece L))
    (to : List L.Word) → b.words ≡ spelling more ++ to → (f : A.Tree) → Fits a.number (A.pieces f) → (rest : List L.Word)
    → spelling (A.pieces f) ≡ spelling (x.front ++ more) ++ rest → first rest ≡ first to
    → (g : B.Tree) × (f ≡ F g) × Fits b.number (B.pieces g) × (spelling (B.pieces g) ≡ spelling more ++ rest)
behind A B F c d a b x more to parted f fits rest e next =
    let split : spelling (A.pieces f) ≡ spelling x.front ++ (spelling more ++ rest) =
    e ∙ ap (λ ws. ws ++ rest) (spelling-append x.front more) ∙ append_assoc (spelling x.front) (spelling more) rest in
    let same : first (spelling more ++ rest) ≡ first b.words =
    first_between more rest ∙ ap (first_before more) next ∙ sym (first_between more to) ∙ ap first (sym parted) in
    let found = x.only f fits (spelling more ++ rest) split same in
    let pieces : A.pieces f ≡ x.front ++ B.pieces found.0 = ap A.pieces found.1 ∙ x.spells found.0 in (
      found.0,
      found.1,
      subst (λ n. Fits n (B.pieces found.0)) (sym x.numbered)
          (fits-behind x.front (B.pieces found.0) a.number None (subst (Fits a.number) pieces fits)),
      cancel (spelling x.front) (sym (ap spelling pieces ∙ spelling-append x.front (B.pieces found.0)) ∙ split),
    )

-- the words and the number behind two fronts
parted_behind : {L : Language} (xs ys : List (Piece L)) (a b x : List L.Word) → a ≡ spelling xs ++ b → b ≡ spelling ys ++ x → a ≡ spelling (xs ++ ys) ++ x
parted_behind xs ys a b x p q =
    p ∙ ap (λ ws. spelling xs ++ ws) q ∙ sym (append_assoc (spelling xs) (spelling ys) x) ∙ ap (λ ws. ws ++ x) (sym (spelling-append xs ys))

numbered_behind : {L : Language} (xs ys : List (Piece L)) (a b x : ℕ) → b ≡ number_behind a xs → x ≡ number_behind b ys → x ≡ number_behind a (xs ++ ys)
numbered_behind xs ys a b x p q = q ∙ ap (λ n. number_behind n ys) p ∙ sym (number_behind-append xs ys a)

-- one reading behind another
pub over : {L : Language} {c d e : ℕ} {A B C : Phrase L} {a b x : Rest L} {F : B.Tree → A.Tree} {G : C.Tree → B.Tree}
    → Comes c A a d B b F → Comes d B b e C x G → Comes c A a e C x (λ g. F (G g))
over {L} {c} {d} {e} {A} {B} {C} {a} {b} {x} {F} {G} p q = record {
  front = p.front ++ q.front;
  parted = parted_behind p.front q.front a.words b.words x.words p.parted q.parted;
  numbered = numbered_behind p.front q.front a.number b.number x.number p.numbered q.numbered;
  within = within-append p.front q.front c p.within (subst (λ n. AllWithin n q.front) p.counted q.within);
  counted = q.counted ∙ ap (λ n. count_behind n q.front) p.counted ∙ sym (count_behind-append p.front q.front c);
  fits = fits-append p.front q.front a.number (first x.words)
      (subst (FitsBefore a.number p.front) (ap first q.parted ∙ first_between q.front x.words) p.fits)
      (subst (λ n. FitsBefore n q.front (first x.words)) p.numbered q.fits);
  spells = λ g. p.spells (G g) ∙ ap (λ ps. p.front ++ ps) (q.spells g) ∙ sym (append_assoc p.front q.front (C.pieces g));
  only = λ f fits rest e next.
      let found = behind A B F c d a b p q.front x.words q.parted f fits rest e next in
      let last = q.only found.0 found.2 rest found.3 next in
      (last.0, found.1 ∙ ap F last.1);
}

limit_behind : {L : Language} (m n : ℕ) → m ≡ n → (t : Token L) → (r : Rule) → BreaksLimit m t r → BreaksLimit n t r
limit_behind m n e t r h = subst (λ k. BreaksLimit k t r) e h

-- pieces that begin in two ways: the longer front begins with the shorter
abbrev Cut : {L : Language} → List (Piece L) → List (Piece L) → List (Piece L) → List (Piece L) → Token L → Type 0
Cut {L} xs before after ys t = (more : List (Piece L)) × (before ≡ xs ++ more) × (ys ≡ more ++ token t ∷ after)

deeper : {L : Language} (x y : Piece L) (xs before after ys : List (Piece L)) (t : Token L) → x ≡ y → Cut xs before after ys t
    → Cut (y ∷ xs) (x ∷ before) after ys t
deeper x y xs before after ys t e h = (h.0, ap (λ ps. x ∷ ps) h.1 ∙ ap (λ z. z ∷ (xs ++ h.0)) e, h.2)

cut : {L : Language} (xs before after ys : List (Piece L)) (t : Token L) (ws : List L.Word) → before ++ token t ∷ after ≡ xs ++ ys
    → spelling before ≡ spelling xs ++ ws → Cut xs before after ys t
cut [] before after ys t ws e words = (before, refl, sym e)
cut (token s ∷ xs) [] after ys t ws e words = absurd (cc)
cut (token s ∷ xs) (token r ∷ before) after ys t ws e words =
    let tails : before ++ token t ∷ after ≡ xs ++ ys = cc in
    let spelled : spelling before ≡ spelling xs ++ ws = cc in
    let heads : token r ≡ token s = cc in
    deeper (token r) (token s) xs before after ys t heads (cut xs before after ys t ws tails spelled)
cut (token s ∷ xs) (look l ∷ before) after ys t ws e words = absurd (cc)
cut (look m ∷ xs) [] after ys t ws e words = absurd (cc)
cut (look m ∷ xs) (token r ∷ before) after ys t ws e words = absurd (cc)
cut (look m ∷ xs) (look l ∷ before) after ys t ws e words =
    let tails : before ++ token t ∷ after ≡ xs ++ ys = cc in
    let heads : look l ≡ look m = cc in
    deeper (look l) (look m) xs before after ys t heads (cut xs before after ys t ws tails words)

-- what all trees of the rest break, all trees of the whole do
all_break : {L : Language} {c d : ℕ} {A B : Phrase L} {a b : Rest L} {F : B.Tree → A.Tree} → (p : Comes c A a d B b F) → (more : List (Piece L))
    → (x : List L.Word) → b.words ≡ spelling more ++ x → (r : Rule) → AllBreak b.number d B r more (first x)
    → AllBreak a.number c A r (p.front ++ more) (first x)
all_break {L} {c} {d} {A} {B} {a} {b} {F} p more x parted r k = λ f fits before after t split words next.
    let spelled : spelling (A.pieces f) ≡ spelling (p.front ++ more) ++ (t.word ∷ spelling after) =
    ap spelling split ∙ spelling-append before (token t ∷ after) ∙ ap (λ ws. ws ++ (t.word ∷ spelling after)) words in
    let found = behind A B F c d a b p more x parted f fits (t.word ∷ spelling after) spelled next in
    let whole : before ++ token t ∷ after ≡ p.front ++ B.pieces found.0 = sym split ∙ ap A.pieces found.1 ∙ p.spells found.0 in
    let front : spelling before ≡ spelling p.front ++ spelling more = words ∙ spelling-append p.front more in
    let h = cut p.front before after (B.pieces found.0) t (spelling more) whole front in
    let inner : spelling h.0 ≡ spelling more =
    cancel (spelling p.front) (sym (spelling-append p.front h.0) ∙ ap spelling (sym h.1) ∙ front) in
    let count : count_behind d h.0 ≡ count_behind c before =
    ap (λ n. count_behind n h.0) p.counted ∙ sym (count_behind-append p.front h.0 c) ∙ ap (count_behind c) (sym h.1) in
    limit_behind _ _ count t r (k found.0 found.2 h.0 after t h.2 inner next)

why : {L : Language} {c d : ℕ} {A B : Phrase L} {a b : Rest L} {F : B.Tree → A.Tree} → (p : Comes c A a d B b F) → (more rest : List (Piece L))
    → (x : List L.Word) → b.words ≡ spelling more ++ x → (r : Rule) → Cause b.number d B r more rest (first x)
    → Cause a.number c A r (p.front ++ more) rest (first x)
why {L} {c} {d} {A} {B} {a} {b} {F} p more rest x parted Expected k = λ f fits behind_words e next.
    let found = behind A B F c d a b p more x parted f fits behind_words e next in
    k found.0 found.2 behind_words found.3 next
why {L} {c} {d} {A} {B} {a} {b} {F} p more rest x parted limit k = (
  k.0,
  k.1,
  k.2,
  k.3,
  limit_behind _ _ (ap (λ n. count_behind n more) p.counted ∙ sym (count_behind-append p.front more c)) k.0 limit k.4,
  all_break p more x parted limit k.5,
)

-- a fault behind a reading
pub fails : {L : Language} {c d : ℕ} {A B : Phrase L} {a b x : Rest L} {F : B.Tree → A.Tree} {rule : Rule}
    → Comes c A a d B b F → Breaks d B b rule x → Breaks c A a rule x
fails {L} {c} {d} {A} {B} {a} {b} {x} {F} {rule} p q =
    let stands : MayStandFor L (first_before (B.pieces q.tree) None) (first b.words) =
    subst (λ o. MayStandFor L o (first b.words)) (sym (ap (λ ps. first_before ps None) q.begins ∙ first_before-append q.front q.rest None))
    (subst (MayStandFor L (first_before q.front (first_before q.rest None))) (sym (ap first q.parted ∙ first_between q.front x.words))
    (stands-before q.front (first x.words) (first_before q.rest None) q.stands)) in
    record {
      front = p.front ++ q.front;
      rest = q.rest;
      parted = parted_behind p.front q.front a.words b.words x.words p.parted q.parted;
      numbered = numbered_behind p.front q.front a.number b.number x.number p.numbered q.numbered;
      within = within-append p.front q.front c p.within (subst (λ n. AllWithin n q.front) p.counted q.within);
      tree = F q.tree;
      fits = subst (Fits a.number) (sym (p.spells q.tree))
          (fits-append p.front (B.pieces q.tree) a.number None
          (fits-for p.front a.number (first b.words) (first_before (B.pieces q.tree) None) stands p.fits)
          (subst (λ n. Fits n (B.pieces q.tree)) p.numbered q.fits));
      begins = p.spells q.tree ∙ ap (λ ps. p.front ++ ps) q.begins ∙ sym (append_assoc p.front q.front q.rest);
      stands = q.stands;
      cause = why p q.front q.rest x.words q.parted rule q.cause;
    }

-- behind no words the first word is the next token's
pub first_behind : {L : Language} (before after : List (Piece L)) (t : Token L) → spelling before ≡ [] → first_before (before ++ token t ∷ after) None ≡ Some t.word
first_behind [] after t none = refl
first_behind (token s ∷ before) after t none = absurd (cc)
first_behind (look l ∷ before) after t none = first_behind before after t none

-- pieces that begin with a token have nothing before their first
pub at_once : {L : Language} (c : ℕ) (rule : Rule) (before after more : List (Piece L)) (t u : Token L) → before ++ token t ∷ after ≡ token u ∷ more
    → spelling before ≡ [] → BreaksLimit c u rule → BreaksLimit (count_behind c before) t rule
at_once c rule [] after more t u e none h = let same : u ≡ t = cc in subst (λ x. BreaksLimit c x rule) same h
at_once c rule (token s ∷ before) after more t u e none h = absurd (cc)
at_once c rule (look l ∷ before) after more t u e none h = absurd (cc)
