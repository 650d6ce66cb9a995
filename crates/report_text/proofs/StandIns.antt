-- Each store meets exactly one line still where other lines stand for those that claim nothing.
use Rattle.std.proofs.Common.{◌≡◌, ℕ, ◌+◌, ◌<◌, length, take, get_or, Bool, true, false, cond, not, inl, inr, ℤ, List, [], ◌∷◌, ◌++◌, filter, refl, sym, ap, subst, ◌∙◌}
use Rattle.std.proofs.lemmas.Bool.{false≢true}
use Rattle.std.proofs.lemmas.List.{append-nil, append_assoc}
use Rattle.linear_solve.proofs.Lists.{take_snoc}
use Rattle.linear_cons.specs.declared.row.Row.{Row}
use Rattle.linear_cons.specs.Functions.{NumbersFit, complement_of}
use Rattle.linear_cons.specs.Rows.{MeetsAll}
use Rattle.decision_tree.specs.declared.affine_rank.AffineRank.{AffineRank}
use Rattle.decision_tree.specs.Evaluation.{eval}
use Rattle.decision_tree.specs.Extent.{ComplementsFit}
use Rattle.decision_tree.specs.Plans.{Plan, bottom, branch, is_defined, leaf, top}
use Rattle.tree_unify.proofs.Asking.{trimmed_leaf}
use Rattle.ordinal_rank.specs.contracts.ordinal.OrdinalRankPartialEq.TheImpl as rank_eq
use Rattle.ordinal_rank.specs.declared.ordinal.OrdinalRank.{OrdinalRank}
use Rattle.ordinal_rank.specs.Laws.PartLaws.{equal_is}
use Rattle.line_text.specs.LineText.{functions_of}
use Rattle.line_text.specs.declared.claim.Claim.{Claim}
use Rattle.line_text.specs.declared.claim.Claim.TheVariants.{Unknown}
use Rattle.line_text.proofs.Rows.{met_as_condition}
use Rattle.report_text.specs.declared.line.Line.{Line}
use Rattle.report_text.specs.declared.line.Top.{Top}
use Rattle.report_text.specs.declared.line.Top.TheVariants.{Bound, Exact, Fits, Plain}
use Rattle.report_text.specs.Leaves.{AreLines, AreLinesOf, MeetsOneLine, NoneOf, OneOf, claim_at, claim_by, claim_of, claiming, claiming_nothing, is_unknown, leaves_below}
use Rattle.report_text.specs.Ranked.{AreRefined, IsRefined, IsTrimmedBy, claim_else, claim_of_both, done, kept, more, ordinal_claim, parted}
use Rattle.report_text.specs.Walk.{AreAdded, IsRefinedOnto}
use Rattle.report_text.proofs.Standing.{no_line_below, none_of_both, none_of_parts, one_line_below, one_line_met, one_of_first, one_of_parts, one_of_second}
use Rattle.report_text.proofs.Trimming.{trimmed_fits}

-- ---- the tree trimmed by a line's rows

pub complements_trimmed : (ranked tree : Plan OrdinalRank) (rows : List Row) → IsTrimmedBy rows ranked tree → ComplementsFit ranked → ComplementsFit tree
complements_trimmed ranked tree rows (inl is) fits =
    subst ComplementsFit (sym is) (trimmed_fits (rank_eq.ghosts).eq ComplementsFit (λ row. NumbersFit (complement_of row.affine)) (λ row this that own. own)
    (λ row this that own first second. (own, first, second)) rows ranked fits)
complements_trimmed ranked tree rows (inr is) fits = subst ComplementsFit (sym is) fits

pub agrees : (ranked tree : Plan OrdinalRank) (rows : List Row) (store : List ℤ) → IsTrimmedBy rows ranked tree → MeetsAll store rows
    → eval tree store ≡ eval ranked store
agrees ranked tree rows store (inl is) met =
    ap (λ t. eval t store) is ∙ trimmed_leaf (rank_eq.ghosts).eq (λ rank other. equal_is rank other) rows ranked store met
agrees ranked tree rows store (inr is) met = ap (λ t. eval t store) is

-- ---- what stands for a line

-- for one line more
pub one_more : (ranked : Plan OrdinalRank) (line : Line) (first : List Line) {lines refined : List Line} → AreRefined ranked lines refined
    → IsRefined ranked line first → AreRefined ranked (lines ++ line ∷ []) (refined ++ first)
one_more ranked line first done last = subst (AreRefined ranked (line ∷ [])) (append-nil first) (more last done)
one_more ranked line first (more {line = other} {lines} {first = here} {rest} is there) last =
    subst (AreRefined ranked (other ∷ (lines ++ line ∷ []))) (sym (append_assoc here rest first)) (more is (one_more ranked line first there last))

pub more_refined : (ranked : Plan OrdinalRank) (whole : List Line) (i : ℕ) (line : Line) (old new : List Line) → i < length whole → line ≡ get_or whole i line
    → AreRefined ranked (take i whole) old → IsRefinedOnto ranked line old new → AreRefined ranked (take (i + 1) whole) new
more_refined ranked whole i line old new low is so_far item =
    rw (take_snoc whole i line low is, item.appended) (one_more ranked line item.added so_far item.stands)

-- a line whose rows were copied, where the trimmed tree makes no claim
pub kept_added : (ranked tree : Plan OrdinalRank) (line : Line) (rows : List Row) (old new : List Line) → IsTrimmedBy line.rows ranked tree
    → ((store : List ℤ) → is_defined (eval tree store) ≡ false) → rows ≡ line.rows → new ≡ old ++ record { rows = rows; claim = Unknown } ∷ []
    → IsRefinedOnto ranked line old new
kept_added ranked tree line rows old new is none same appended = record {
  added = record { rows = line.rows; claim = Unknown } ∷ [];
  appended = appended ∙ ap (λ rs. old ++ record { rows = rs; claim = Unknown } ∷ []) same;
  stands = kept (λ store met. ap is_defined (sym (agrees ranked tree line.rows store is met)) ∙ none store);
}

-- the lines of the trimmed tree's leaves, where it makes one
pub parted_added : (ranked tree : Plan OrdinalRank) (line : Line) (rows : List Row) (old new : List Line) → IsTrimmedBy line.rows ranked tree
    → rows ≡ line.rows → AreAdded (leaves_below ordinal_claim (functions_of rows) tree) old new → IsRefinedOnto ranked line old new
parted_added ranked tree line rows old new is same lines = record {
  added = lines.added;
  appended = lines.appended;
  stands = parted tree is (subst (λ rs. AreLines (leaves_below ordinal_claim (functions_of rs) tree) lines.added) same lines.lines);
}

undefined_claims : (end : Plan OrdinalRank) → is_defined end ≡ false → Unknown ≡ claim_by ordinal_claim end
undefined_claims bottom own = refl
undefined_claims (top cause) own = refl
undefined_claims (leaf why rank) own = absurd (false≢true (sym own))
undefined_claims (branch row this that) own = refl

module _ (ranked : Plan OrdinalRank) (store : List ℤ) where
  abbrev LineMet : Line → Type 0
  LineMet line = MeetsAll store line.rows

  abbrev Claimed : Line → Type 0
  Claimed line = line.claim ≡ claim_by ordinal_claim (eval ranked store)

  one_stands : (line : Line) (lines : List Line) → IsRefined ranked line lines → LineMet line → OneOf LineMet Claimed lines
  one_stands line lines (kept undefined) met = inl (met, undefined_claims (eval ranked store) (undefined store met), tt)
  one_stands line lines (parted tree is are) met =
      subst (λ (end : Plan OrdinalRank). OneOf LineMet (λ (l : Line). l.claim ≡ claim_by ordinal_claim end) lines) (agrees ranked tree line.rows store is met)
      (one_line_below ordinal_claim store (functions_of line.rows) tree lines are ((met_as_condition store line.rows).0 met))

  none_stands : (line : Line) (lines : List Line) → IsRefined ranked line lines → ¬ LineMet line → NoneOf LineMet lines
  none_stands line lines (kept undefined) unmet = (unmet, tt)
  none_stands line lines (parted tree is are) unmet =
      no_line_below ordinal_claim store (functions_of line.rows) tree lines are (λ met. unmet ((met_as_condition store line.rows).1 met))

  none_of_refined : {lines refined : List Line} → AreRefined ranked lines refined → NoneOf LineMet lines → NoneOf LineMet refined
  none_of_refined done unmet = tt
  none_of_refined (more {line} {lines} {first} {rest} here there) unmet =
      none_of_both LineMet Claimed first rest (none_stands line first here unmet.0) (none_of_refined there unmet.1)

  one_of_refined : (Is : Line → Type 0) {lines refined : List Line} → AreRefined ranked lines refined → OneOf LineMet Is lines → OneOf LineMet Claimed refined
  one_of_refined Is done one = absurd one
  one_of_refined Is (more {line} {lines} {first} {rest} here there) (inl met) =
      one_of_first LineMet Claimed first rest (one_stands line first here met.0) (none_of_refined there met.2)
  one_of_refined Is (more {line} {lines} {first} {rest} here there) (inr later) =
      one_of_second LineMet Claimed first rest (none_stands line first here later.0) (one_of_refined Is there later.1)

-- ---- the part of a list that passes a test

module _ {X : Type 0} (Met Is : X → Type 0) (keep : X → Bool) where
  pub none_held : (t : Bool) (x : X) (rest : List X) → ¬ Met x → NoneOf Met rest → NoneOf Met (cond t (x ∷ rest) rest)
  none_held true x rest unmet none = (unmet, none)
  none_held false x rest unmet none = none

  pub none_kept : (xs : List X) → NoneOf Met xs → NoneOf Met (filter keep xs)
  none_kept [] none = tt
  none_kept (x ∷ xs) none = none_held (keep x) x (filter keep xs) none.0 (none_kept xs none.1)

  -- the one that is met is kept, or left out
  here_held : (t : Bool) (x : X) (rest : List X) → t ≡ true → Met x → Is x → NoneOf Met rest → OneOf Met Is (cond t (x ∷ rest) rest)
  here_held true x rest held met is none = inl (met, is, none)
  here_held false x rest held met is none = absurd (false≢true held)

  later_held : (t : Bool) (x : X) (rest : List X) → ¬ Met x → OneOf Met Is rest → OneOf Met Is (cond t (x ∷ rest) rest)
  later_held true x rest unmet one = inr (unmet, one)
  later_held false x rest unmet one = one

  left_out : (t : Bool) (x : X) (rest : List X) → t ≡ false → NoneOf Met rest → NoneOf Met (cond t (x ∷ rest) rest)
  left_out true x rest held none = absurd (false≢true (sym held))
  left_out false x rest held none = none

  one_kept : ((x : X) → Is x → keep x ≡ true) → (xs : List X) → OneOf Met Is xs → OneOf Met Is (filter keep xs)
  one_kept held [] one = absurd one
  one_kept held (x ∷ xs) (inl here) = here_held (keep x) x (filter keep xs) (held x here.1) here.0 here.1 (none_kept xs here.2)
  one_kept held (x ∷ xs) (inr later) = later_held (keep x) x (filter keep xs) later.0 (one_kept held xs later.1)

  none_but_one : ((x : X) → Is x → keep x ≡ false) → (xs : List X) → OneOf Met Is xs → NoneOf Met (filter keep xs)
  none_but_one left [] one = absurd one
  none_but_one left (x ∷ xs) (inl here) = left_out (keep x) x (filter keep xs) (left x here.1) (none_kept xs here.2)
  none_but_one left (x ∷ xs) (inr later) = none_held (keep x) x (filter keep xs) later.0 (none_but_one left xs later.1)

-- ---- all lines together

known_claim : (claims : Top) (rank : AffineRank) → is_unknown (claim_of claims rank) ≡ false
known_claim Exact rank = refl
known_claim Bound rank = refl
known_claim Plain rank = refl
known_claim Fits rank = refl

module _ (ranked : Plan OrdinalRank) (store : List ℤ) (lines refined : List Line) (stand : AreRefined ranked (claiming_nothing lines) refined) where
  abbrev Met : Line → Type 0
  Met line = MeetsAll store line.rows

  abbrev Says : Claim → Line → Type 0
  Says claim line = line.claim ≡ claim

  abbrev own : Claim
  own = claim_by ordinal_claim (eval ranked store)

  of_claiming : (claim : Claim) → is_unknown claim ≡ false → MeetsOneLine store claim lines
      → MeetsOneLine store claim (claiming lines ++ (claiming refined ++ claiming_nothing refined))
  of_claiming claim known one =
      one_of_first Met (Says claim) (claiming lines) (claiming refined ++ claiming_nothing refined)
      (one_kept Met (Says claim) (λ line. not (is_unknown line.claim)) (λ line is. ap (λ c. not (is_unknown c)) is ∙ ap not known) lines one)
      (none_of_parts Met (Says claim) (λ line. is_unknown line.claim) refined (none_of_refined ranked store stand
      (none_but_one Met (Says claim) (λ line. is_unknown line.claim) (λ line is. ap is_unknown is ∙ known) lines one)))

  of_others : MeetsOneLine store Unknown lines → MeetsOneLine store own (claiming lines ++ (claiming refined ++ claiming_nothing refined))
  of_others one =
      one_of_second Met (Says own) (claiming lines) (claiming refined ++ claiming_nothing refined)
      (none_but_one Met (Says Unknown) (λ line. not (is_unknown line.claim)) (λ line is. ap (λ c. not (is_unknown c)) is) lines one)
      (one_of_parts Met (Says own) (λ line. is_unknown line.claim) refined (one_of_refined ranked store (Says Unknown) stand
      (one_kept Met (Says Unknown) (λ line. is_unknown line.claim) (λ line is. ap is_unknown is) lines one)))

  by_end : (claims : Top) (end : Plan AffineRank) → MeetsOneLine store (claim_at claims end) lines
      → MeetsOneLine store (claim_else claims end own) (claiming lines ++ (claiming refined ++ claiming_nothing refined))
  by_end claims bottom one = of_others one
  by_end claims (top cause) one = of_others one
  by_end claims (branch row this that) one = of_others one
  by_end claims (leaf why rank) one = of_claiming (claim_of claims rank) (known_claim claims rank) one

  pub refined_line_met : (claims : Top) (first : Plan AffineRank) → AreLinesOf claims first lines
      → MeetsOneLine store (claim_of_both claims first ranked store) (claiming lines ++ (claiming refined ++ claiming_nothing refined))
  refined_line_met claims first are = by_end claims (eval first store) (one_line_met claims store first lines are)
