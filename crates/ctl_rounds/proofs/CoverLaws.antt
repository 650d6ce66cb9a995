-- What the covers of families keep of each of their trees.
use Rattle.std.proofs.Common.{◌≡◌, ◌⊎◌, inl, inr, ⊎_elim, ℕ, ◌+◌, true, false, Option, None, Some, List, [], ◌∷◌, ◌++◌, All, map, refl, sym, ap, subst, ◌∙◌, arith}
use Rattle.std.proofs.lemmas.Bool.{false≢true}
use Rattle.std.proofs.lemmas.List.{map-append}
use Rattle.std.proofs.lemmas.List.Elements.{All-cons, All-head, All-map, All-nil, All-tail}
use Rattle.step_meaning.specs.Outcome.{Store}
use Rattle.step_meaning.specs.Syntax.{Statements}
use Rattle.control_flow.specs.Labels.{entry_of}
use Rattle.decision_tree.specs.declared.affine_rank.AffineRank.{AffineRank}
use Rattle.decision_tree.specs.declared.family.Family.{Family}
use Rattle.decision_tree.specs.Evaluation.{eval}
use Rattle.decision_tree.specs.Plans.{Plan, bottom, branch, is_defined, leaf, leaves_of, size_of, top}
use Rattle.tree_support.specs.Setting.{trees_in}
use Rattle.ctl_rounds.specs.Bounds.{HoldsAtInputs}
use Rattle.ctl_rounds.specs.Covers.{Covers, EitherFits, Extends, IsCover, MayBegin, at_entry, claims_of, either_of}

-- ---- there is one cover

extends_once : (old : Option (Plan AffineRank)) (tree : Plan AffineRank) (a b : Option (Plan AffineRank)) → Extends old tree a → Extends old tree b → a ≡ b
extends_once None tree a b (inl one) (inl two) = one.1 ∙ sym two.1
extends_once None tree a b (inl one) (inr two) = absurd (two.0 one.0)
extends_once None tree a b (inr one) (inl two) = absurd (one.0 two.0)
extends_once None tree a b (inr one) (inr two) = one.1 ∙ sym two.1
extends_once (Some cover) tree a b (inl one) (inl two) = one.1 ∙ sym two.1
extends_once (Some cover) tree a b (inl one) (inr two) = absurd (two.0 one.0)
extends_once (Some cover) tree a b (inr one) (inl two) = absurd (one.0 two.0)
extends_once (Some cover) tree a b (inr one) (inr two) = one.1 ∙ sym two.1

covers_once : (trees : List (Plan AffineRank)) (begun a b : Option (Plan AffineRank)) → Covers begun trees a → Covers begun trees b → a ≡ b
covers_once [] begun a b one two = one ∙ sym two
covers_once (tree ∷ more) begun a b one two =
    let same = extends_once begun tree one.0 two.0 one.1 two.1 in
    covers_once more two.0 a b (subst (λ next. Covers next more a) same one.2) two.2

-- the cover of families is what was made of their trees
pub is_the_cover : (body : Statements) (tops : List (Family AffineRank)) (made : Option (Plan AffineRank)) (cover : Plan AffineRank)
    → Covers None (at_entry body tops) made → IsCover body tops cover → claims_of made ≡ cover
is_the_cover body tops made cover covers is = ap claims_of (covers_once (at_entry body tops) None made is.0 covers is.1) ∙ sym is.2

-- ---- one family more

module _ (body : Statements) (family : Family AffineRank) (old new : Option (Plan AffineRank)) (last : Extends old (trees_in family.trees (entry_of body)) new) where
  pub covers_more : (begun : Option (Plan AffineRank)) (tops : List (Family AffineRank)) → Covers begun (at_entry body tops) old
      → Covers begun (at_entry body (tops ++ family ∷ [])) new
  covers_more begun [] is = (new, subst (λ cover. Extends cover (trees_in family.trees (entry_of body)) new) is last, refl)
  covers_more begun (first ∷ more) is = (is.0, is.1, covers_more is.0 more is.2)

-- a tree that may begin the cover is what it claims
pub begins : (tree : Plan AffineRank) (next cover : Option (Plan AffineRank)) → MayBegin tree → Extends None tree next → cover ≡ next → claims_of cover ≡ tree
begins tree next cover may (inl begun) is = ap claims_of (is ∙ begun.1)
begins tree next cover may (inr left_out) is = absurd (left_out.0 may)

-- a tree has one node fewer than twice its leaves
pub nodes_of : (plan : Plan AffineRank) → size_of plan + 1 ≡ leaves_of plan + leaves_of plan
nodes_of bottom = refl
nodes_of (top cause) = refl
nodes_of (leaf why rank) = refl
nodes_of (branch row this that) = let one = nodes_of this in let two = nodes_of that in omega (arith, one, two)

-- ---- what joining keeps, a cover has

pub all_of_map : {A B : Type 0} (P : B → Type 0) (f : A → B) (xs : List A) → All P (map f xs) → All (λ x. P (f x)) xs
all_of_map P f [] all = All-nil (λ x. P (f x))
all_of_map P f (x ∷ xs) all =
    All-cons (λ x. P (f x)) x xs (All-head P (f x) (map f xs) all) (all_of_map P f xs (All-tail P (f x) (map f xs) all))

module _ (Has : Plan AffineRank → Type 0) (none : Has bottom)
    (joins : (cover tree : Plan AffineRank) → EitherFits cover tree → Has cover → Has tree → Has (either_of cover tree)) where
  next_has : (old : Option (Plan AffineRank)) (tree : Plan AffineRank) (new : Option (Plan AffineRank)) → Extends old tree new → Has (claims_of old) → Has tree
      → Has (claims_of new)
  next_has None tree new (inl begun) first second = subst (λ c. Has (claims_of c)) (sym begun.1) second
  next_has None tree new (inr left_out) first second = subst (λ c. Has (claims_of c)) (sym left_out.1) first
  next_has (Some cover) tree new (inl may) first second = subst (λ c. Has (claims_of c)) (sym may.1) (joins cover tree may.0.0 first second)
  next_has (Some cover) tree new (inr left_out) first second = subst (λ c. Has (claims_of c)) (sym left_out.1) first

  all_have : (trees : List (Plan AffineRank)) (begun made : Option (Plan AffineRank)) → Covers begun trees made → Has (claims_of begun) → All Has trees
      → Has (claims_of made)
  all_have [] begun made covers first all = subst (λ c. Has (claims_of c)) (sym covers) first
  all_have (tree ∷ more) begun made covers first all =
      all_have more covers.0 made covers.2 (next_has begun tree covers.0 covers.1 first (All-head Has tree more all)) (All-tail Has tree more all)

  pub cover_has : (body : Statements) (tops : List (Family AffineRank)) (cover : Plan AffineRank) → IsCover body tops cover
      → All (λ family. Has (trees_in family.trees (entry_of body))) tops → Has cover
  cover_has body tops cover is all =
      subst Has (sym is.2)
      (all_have (at_entry body tops) None is.0 is.1 none (All-map Has (λ (family : Family AffineRank). trees_in family.trees (entry_of body)) tops all))

-- ---- what holds at the inputs

-- at each store the joined tree has the first tree's leaf where that is defined or the second's is not, else the second's
pub record HasFirst : Type 0 where
  pub first : (a b : Plan AffineRank) (store : Store) → is_defined (eval a store) ≡ true → eval (either_of a b) store ≡ eval a store
  pub second : (a b : Plan AffineRank) (store : Store) → is_defined (eval a store) ≡ false → is_defined (eval b store) ≡ true
      → eval (either_of a b) store ≡ eval b store
  pub neither : (a b : Plan AffineRank) (store : Store) → is_defined (eval a store) ≡ false → is_defined (eval b store) ≡ false
      → eval (either_of a b) store ≡ eval a store

defined_or : (plan : Plan AffineRank) → (is_defined plan ≡ true) ⊎ (is_defined plan ≡ false)
defined_or bottom = inr refl
defined_or (top cause) = inr refl
defined_or (leaf why rank) = inl refl
defined_or (branch row this that) = inr refl

module _ (law : HasFirst) (vars : ℕ) (P : AffineRank → Store → Type 0) where
  abbrev Holds : Plan AffineRank → Type 0
  Holds tree = HoldsAtInputs vars P tree

  nothing_holds : Holds bottom
  nothing_holds = λ input why rank is other. absurd (cc)

  either_holds : (cover tree : Plan AffineRank) → EitherFits cover tree → Holds cover → Holds tree → Holds (either_of cover tree)
  either_holds cover tree fits first second = λ input why rank is at.
      ⊎_elim {C = P rank input}
      (λ (defined : is_defined (eval cover input) ≡ true). first input why rank is (sym (law.first cover tree input defined) ∙ at))
      (λ (undefined : is_defined (eval cover input) ≡ false).
      ⊎_elim {C = P rank input}
      (λ (other : is_defined (eval tree input) ≡ true). second input why rank is (sym (law.second cover tree input undefined other) ∙ at))
      (λ (none : is_defined (eval tree input) ≡ false). first input why rank is (sym (law.neither cover tree input undefined none) ∙ at))
      (defined_or (eval tree input)))
      (defined_or (eval cover input))

  pub cover_holds : (body : Statements) (tops : List (Family AffineRank)) (cover : Plan AffineRank) → IsCover body tops cover
      → All (λ family. Holds (trees_in family.trees (entry_of body))) tops → Holds cover
  cover_holds = cover_has Holds nothing_holds either_holds

-- ---- what a cover claims, that of more families claims

module _ (law : HasFirst) (store : Store) (end : Plan AffineRank) (defined : is_defined end ≡ true) where
  abbrev EndsAt : Option (Plan AffineRank) → Type 0
  EndsAt cover = eval (claims_of cover) store ≡ end

  extends_keeps : (old : Option (Plan AffineRank)) (tree : Plan AffineRank) (new : Option (Plan AffineRank)) → Extends old tree new → EndsAt old → EndsAt new
  extends_keeps None tree new more is = absurd (false≢true (ap is_defined is ∙ defined))
  extends_keeps (Some cover) tree new (inl joined) is = subst EndsAt (sym joined.1) (law.first cover tree store (ap is_defined is ∙ defined) ∙ is)
  extends_keeps (Some cover) tree new (inr left_out) is = subst EndsAt (sym left_out.1) is

  covers_keep : (trees : List (Plan AffineRank)) (begun made : Option (Plan AffineRank)) → Covers begun trees made → EndsAt begun → EndsAt made
  covers_keep [] begun made same is = subst EndsAt (sym same) is
  covers_keep (tree ∷ more) begun made covers is = covers_keep more covers.0 made covers.2 (extends_keeps begun tree covers.0 covers.1 is)

  covers_grow : (trees more : List (Plan AffineRank)) (begun old new : Option (Plan AffineRank)) → Covers begun trees old → Covers begun (trees ++ more) new
      → EndsAt old → EndsAt new
  covers_grow [] more begun old new same covers is = covers_keep more begun new covers (subst EndsAt same is)
  covers_grow (tree ∷ rest) more begun old new one two is =
      covers_grow rest more one.0 old new one.2
      (subst (λ next. Covers next (rest ++ more) new) (extends_once begun tree two.0 one.0 two.1 one.1) two.2) is

  pub cover_keeps : (body : Statements) (tops more : List (Family AffineRank)) (old new : Plan AffineRank) → IsCover body tops old
      → IsCover body (tops ++ more) new → eval old store ≡ end → eval new store ≡ end
  cover_keeps body tops more old new one two is =
      ap (λ tree. eval tree store) two.2
      ∙ covers_grow (at_entry body tops) (at_entry body more) None one.0 two.0 one.1
      (subst (λ trees. Covers None trees two.0) (map-append (λ (family : Family AffineRank). trees_in family.trees (entry_of body)) tops more) two.1)
      (ap (λ tree. eval tree store) (sym one.2) ∙ is)
