-- The lines of a tree over the names are over them.
use Rattle.std.proofs.Common.{◌≡◌, ⊎_elim, inl, inr, ℕ, ◌<◌, ◌≤◌, ℤ, pos, negsuc, ◌-ℤ◌, List, [], ◌∷◌, ◌++◌, length, All, Contains, refl, sym, subst, ◌∙◌, arith}
use Rattle.std.proofs.lemmas.Bool.{cases_lt}
use Rattle.std.proofs.lemmas.Int.{ints}
use Rattle.std.proofs.lemmas.List.{get_or_past}
use Rattle.std.proofs.lemmas.List.Elements.{All-append, All-cons, All-head, All-map, All-nil, All-push, All-tail, All-weaker}
use Rattle.linear_cons.specs.declared.affine.Affine.{Affine}
use Rattle.linear_cons.specs.declared.row.Row.{Row}
use Rattle.linear_cons.specs.Numbers.{at_places, number_at}
use Rattle.linear_cons.specs.Functions.{coefficient, complement_of, constant_of}
use Rattle.linear_cons.specs.Functions as functions
use Rattle.linear_cons.proofs.Places.{length-at_places, number_at_places}
use Rattle.linear_solve.proofs.Lists.{member_of}
use Rattle.decision_tree.specs.declared.affine_rank.AffineRank.{AffineRank}
use Rattle.decision_tree.specs.declared.reason.Why.{Why}
use Rattle.decision_tree.specs.Plans.{Plan, bottom, branch, leaf, top}
use Rattle.decision_tree.specs.Extent.{IsTreeOver}
use Rattle.ordinal_rank.specs.contracts.ordinal.OrdinalRankPartialEq.TheImpl as rank_eq
use Rattle.ordinal_rank.specs.declared.ordinal.OrdinalRank.{OrdinalRank}
use Rattle.ordinal_rank.specs.Families.{IsTreeOver as IsOrdinalOver}
use Rattle.ordinal_rank.specs.Ordinals.{functions_of as functions_of_rank}
use Rattle.line_text.specs.declared.claim.Claim.{Claim}
use Rattle.line_text.specs.declared.claim.Claim.TheVariants.{Unknown}
use Rattle.line_text.specs.LineText.{functions_of}
use Rattle.line_text.specs.Names.{IsOver}
use Rattle.line_text.specs.Spells.{IsClaimOver}
use Rattle.report_text.specs.declared.line.Line.{Line}
use Rattle.report_text.specs.declared.line.Top.{Top}
use Rattle.report_text.specs.declared.line.Top.TheVariants.{Bound, Exact, Fits, Plain}
use Rattle.report_text.specs.Leaves.{AreLines, AreLinesOf, IsLineOf, claim_of, leaves_below, none, skipped, stands}
use Rattle.report_text.specs.Printed.{IsLineOver}
use Rattle.report_text.specs.Ranked.{AreRefined, IsRefined, IsTrimmedBy, done, kept, more, ordinal_claim, parted}
use Rattle.report_text.proofs.Trimming.{trimmed_fits}

-- a function of the numbers at places is 0 where its numbers are
zero_at : (f : ℕ → ℤ) (place : ℕ) → (place < 16 → f place ≡ pos 0) → number_at (at_places f) place ≡ pos 0
zero_at f place is = ⊎_elim
    (λ low. number_at_places f place low ∙ is low)
    (λ past. get_or_past (at_places f) place (pos 0) (subst (λ n. n ≤ place) (sym (length-at_places f)) past))
    (cases_lt place 16)

module _ (names : List (List ℕ)) (few : length names ≤ 15) where
  complement_over : (a : Affine) → IsOver names a → IsOver names (complement_of a)
  complement_over a over = record {
    few = over.few;
    places = length-at_places (λ i. coefficient (constant_of (negsuc 0)) i -ℤ coefficient a i);
    past = λ place low. zero_at (λ i. coefficient (constant_of (negsuc 0)) i -ℤ coefficient a i) place
        (λ below. let none = number_at_places (λ i. pos 0) place below in let same = over.past place low in omega (arith, ints, none, same));
  }

  -- the path and the claim of a leaf
  pub record IsLeafOver (below : List Affine × Claim) : Type 0 where
    pub path : All (IsOver names) below.0
    pub claim : IsClaimOver names below.1

  one_over : (path : List Affine) (claim : Claim) → All (IsOver names) path → IsClaimOver names claim → All IsLeafOver ((path, claim) ∷ [])
  one_over path claim over claims = All-cons IsLeafOver (path, claim) [] (record { path = over; claim = claims }) (All-nil IsLeafOver)

  -- a function of the variables below the number of names is over the names
  pub named : (a : Affine) → functions.IsOver (length names) a → IsOver names a
  named a over = record { few = omega (arith, few); places = over.places; past = over.past }

  -- of a tree whose rows and claims are so
  module _ {R : Type 0} (claims : R → Claim) (Fits : Plan R → Type 0)
      (split : (row : Row) (this that : Plan R) → Fits (branch row this that) → functions.IsOver (length names) row.affine × Fits this × Fits that)
      (claimed : (why : Why) (rank : R) → Fits (leaf why rank) → IsClaimOver names (claims rank)) where
    pub leaves_over : (above : List Affine) (tree : Plan R) → All (IsOver names) above → Fits tree → All IsLeafOver (leaves_below claims above tree)
    leaves_over above bottom over fits = one_over above Unknown over tt
    leaves_over above (top cause) over fits = one_over above Unknown over tt
    leaves_over above (leaf why rank) over fits = one_over above (claims rank) over (claimed why rank fits)
    leaves_over above (branch row this that) over fits =
        let parts = split row this that fits in
        All-append IsLeafOver (leaves_below claims (above ++ row.affine ∷ []) this) (leaves_below claims (above ++ complement_of row.affine ∷ []) that)
        (leaves_over (above ++ row.affine ∷ []) this (All-push (IsOver names) above row.affine over (named row.affine parts.0)) parts.1)
        (leaves_over (above ++ complement_of row.affine ∷ []) that
        (All-push (IsOver names) above (complement_of row.affine) over (complement_over row.affine (named row.affine parts.0))) parts.2)

  line_over : (path : List Affine) (claim : Claim) (line : Line) → IsLineOf path claim line → IsLeafOver (path, claim) → IsLineOver names line
  line_over path claim line is over = record {
    rows = All-map (IsOver names) (λ (row : Row). row.affine) line.rows
        (All-weaker (λ (row : Row). Contains path row.affine) (λ (row : Row). IsOver names row.affine)
        (λ row member. member_of (IsOver names) path row.affine over.path member) line.rows is.rows.among);
    claims = subst (IsClaimOver names) (sym is.claims) over.claim;
  }

  lines_over : {leaves : List (List Affine × Claim)} {lines : List Line} → AreLines leaves lines → All IsLeafOver leaves → All (IsLineOver names) lines
  lines_over none over = All-nil (IsLineOver names)
  lines_over (skipped {path} {claim} {leaves} nowhere others) over = lines_over others (All-tail IsLeafOver (path, claim) leaves over)
  lines_over (stands {path} {claim} {line} {leaves} {lines} is others) over =
      All-cons (IsLineOver names) line lines (line_over path claim line is (All-head IsLeafOver (path, claim) leaves over))
      (lines_over others (All-tail IsLeafOver (path, claim) leaves over))

  pub claim_over : (claims : Top) (rank : AffineRank) → IsOver names rank.value → IsClaimOver names (claim_of claims rank)
  claim_over Exact rank over = tt
  claim_over Bound rank over = over
  claim_over Plain rank over = tt
  claim_over Fits rank over = tt

  pub tree_lines_over : (claims : Top) (tree : Plan AffineRank) (lines : List Line) → IsTreeOver (length names) tree → AreLinesOf claims tree lines
      → All (IsLineOver names) lines
  tree_lines_over claims tree lines over are =
      lines_over are (leaves_over (claim_of claims) (IsTreeOver (length names)) (λ row this that own. own)
      (λ why rank own. claim_over claims rank (named rank.value own.0)) [] tree (All-nil (IsOver names)) over)

  -- what stands for lines over them by a tree of ordinal ranks over them
  trimmed_over : (ranked tree : Plan OrdinalRank) (rows : List Row) → IsTrimmedBy rows ranked tree → IsOrdinalOver (length names) ranked
      → IsOrdinalOver (length names) tree
  trimmed_over ranked tree rows (inl is) over =
      subst (IsOrdinalOver (length names)) (sym is) (trimmed_fits (rank_eq.ghosts).eq (IsOrdinalOver (length names))
      (λ row. functions.IsOver (length names) row.affine) (λ row this that own. own) (λ row this that own first second. (own, first, second)) rows ranked over)
  trimmed_over ranked tree rows (inr is) over = subst (IsOrdinalOver (length names)) (sym is) over

  stand_in_over : (ranked : Plan OrdinalRank) (line : Line) (lines : List Line) → IsOrdinalOver (length names) ranked → IsRefined ranked line lines
      → IsLineOver names line → All (IsLineOver names) lines
  stand_in_over ranked line lines over (kept undefined) own =
      All-cons (IsLineOver names) (record { rows = line.rows; claim = Unknown }) [] (record { rows = own.rows; claims = tt }) (All-nil (IsLineOver names))
  stand_in_over ranked line lines over (parted tree is are) own =
      lines_over are (leaves_over ordinal_claim (IsOrdinalOver (length names)) (λ row this that fits. fits)
      (λ why rank fits. (refl, All-weaker (functions.IsOver (length names)) (IsOver names) named (functions_of_rank rank) fits.0)) (functions_of line.rows) tree own.rows (trimmed_over ranked tree line.rows is over))

  pub refined_over : (ranked : Plan OrdinalRank) {lines refined : List Line} → IsOrdinalOver (length names) ranked → AreRefined ranked lines refined
      → All (IsLineOver names) lines → All (IsLineOver names) refined
  refined_over ranked over done all = All-nil (IsLineOver names)
  refined_over ranked over (more {line} {lines} {first} {rest} is there) all =
      All-append (IsLineOver names) first rest (stand_in_over ranked line first over is (All-head (IsLineOver names) line lines all))
      (refined_over ranked over there (All-tail (IsLineOver names) line lines all))
