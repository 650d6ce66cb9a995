-- The lines of what was found are over the names, and so is what is told of one input.
use Rattle.std.proofs.Common.{◌≡◌, ◌∙◌, inl, inr, true, false, int_le, if◌then◌else◌, ℕ, suc, ◌≤◌, ℤ, pos, List, [], ◌∷◌, length, not, All, refl, sym, ap, subst}
use Rattle.std.proofs.lemmas.List.Elements.{All-cons, All-filter, All-head, All-nil, All-tail, All-weaker}
use Rattle.linear_cons.specs.declared.affine.Affine.{Affine}
use Rattle.linear_cons.specs.declared.row.Row.{Row}
use Rattle.linear_cons.specs.Functions.{IsOver as IsOverPlaces, constant_of, value_at}
use Rattle.linear_cons.proofs.Over.{over_constant}
use Rattle.decision_tree.specs.Evaluation.{eval}
use Rattle.decision_tree.specs.Plans.{Plan, bottom, branch, leaf, plan_of, top}
use Rattle.decision_tree.specs.Extent.{IsTreeOver}
use Rattle.ordinal_rank.specs.Families.{IsTreeOver as IsOrdinalOver}
use Rattle.ordinal_rank.specs.Ordinals.{functions_of}
use Rattle.line_text.specs.declared.claim.Claim.{Claim}
use Rattle.line_text.specs.declared.claim.Claim.TheVariants.{Exactly, Fits, Holds, Ranked, Unknown, Within}
use Rattle.line_text.specs.Names.{IsOver}
use Rattle.line_text.specs.Spells.{IsClaimOver}
use Rattle.report_text.specs.declared.line.Line.{Line}
use Rattle.report_text.specs.declared.line.Top.TheVariants.{Exact}
use Rattle.report_text.specs.declared.report.Header.{Header}
use Rattle.report_text.specs.Leaves.{claim_of, is_unknown}
use Rattle.report_text.specs.Printed.{IsLineOver}
use Rattle.report_text.specs.Ranked.{ordinal_claim}
use Rattle.report_text.proofs.Over.{claim_over, named, tree_lines_over}
use Rattle.function_top.specs.declared.found.Exact.{Exact as Known}
use Rattle.function_top.specs.declared.found.Exact.TheVariants.{Made, Unasked, Unmade}
use Rattle.function_top.specs.declared.found.Found.{Found}
use Rattle.function_top.specs.declared.status.Status.{Status}
use Rattle.function_top.specs.OneInput.{AreToldAs, IsTold, IsToldAs, IsToldOf}
use Rattle.function_top.specs.Printable.{IsExactPrintable, IsFoundPrintable}
use Rattle.function_top.specs.Shown.{ShowsExact}

module _ (names : List (List ℕ)) (few : length names ≤ 15) where
  -- so are those of an exact part
  pub exact_over : (exact : Known) (header : Header) (lines : List Line) → IsExactPrintable (length names) exact → ShowsExact exact header lines
      → All (IsLineOver names) lines
  exact_over Unasked header lines printable shows = subst (All (IsLineOver names)) (sym shows.1) (All-nil (IsLineOver names))
  exact_over (Unmade stop) header lines printable shows = subst (All (IsLineOver names)) (sym shows.1) (All-nil (IsLineOver names))
  exact_over (Made tests stop tree) header lines printable shows =
      subst (All (IsLineOver names)) (sym shows.1.2)
      (All-filter (λ (line : Line). not (is_unknown line.claim)) (IsLineOver names) shows.1.0
      (tree_lines_over names few Exact (plan_of tree) shows.1.0 printable.0.over shows.1.1))

  -- what is told of one input is over them
  leaf_over : {R : Type 0} (Has : Plan R → Type 0) → ((row : Row) (this that : Plan R) → Has (branch row this that) → Has this × Has that)
      → (tree : Plan R) (input : List ℤ) → Has tree → Has (eval tree input)
  leaf_over Has sides bottom input over = over
  leaf_over Has sides (top cause) input over = over
  leaf_over Has sides (leaf why rank) input over = over
  leaf_over Has sides (branch row this that) input over =
      let both = sides row this that over in
      elim (int_le (pos 0) (value_at row.affine input)) as (λ t. Has (if t then eval this input else eval that input)) [
        | true ↦ leaf_over Has sides this input both.0
        | false ↦ leaf_over Has sides that input both.1
      ]

  told_bound_over : (bound : Affine) (input : List ℤ) (told : Affine) → IsOver names bound → IsToldAs bound input told → IsOver names told
  told_bound_over bound input told over (inl (fits, same)) =
      subst (IsOver names) (sym same) (named names few (constant_of (value_at bound input)) (over_constant (length names) (value_at bound input)))
  told_bound_over bound input told over (inr (wide, same)) = subst (IsOver names) (sym same) over

  told_functions_over : (functions : List Affine) (input : List ℤ) (told : List Affine) → All (IsOver names) functions → AreToldAs functions input told
      → (length told ≡ length functions) × All (IsOver names) told
  told_functions_over [] input [] over as_told = (refl, over)
  told_functions_over [] input (number ∷ more) over as_told = absurd as_told
  told_functions_over (function ∷ rest) input [] over as_told = absurd as_told
  told_functions_over (function ∷ rest) input (number ∷ more) over as_told =
      let those = told_functions_over rest input more (All-tail (IsOver names) function rest over) as_told.1 in (
        ap suc those.0,
        All-cons (IsOver names) number more (told_bound_over function input number (All-head (IsOver names) function rest over) as_told.0) those.1,
      )

  told_claim_over : (claim told : Claim) (input : List ℤ) → IsClaimOver names claim → IsTold claim input told → IsClaimOver names told
  told_claim_over (Within bound) told input over (function, as_told, is) =
      subst (IsClaimOver names) (sym is) (told_bound_over bound input function over as_told)
  told_claim_over (Ranked functions) told input over (numbers, as_told, is) =
      let those = told_functions_over functions input numbers over.1 as_told in
      subst (IsClaimOver names) (sym is) (those.0 ∙ over.0, those.1)
  told_claim_over (Exactly number) told input over is = subst (IsClaimOver names) (sym is) over
  told_claim_over Holds told input over is = subst (IsClaimOver names) (sym is) over
  told_claim_over Fits told input over is = subst (IsClaimOver names) (sym is) over
  told_claim_over Unknown told input over is = subst (IsClaimOver names) (sym is) over

  pub told_over : (found : Found) (input : List ℤ) (status : Status) (claim : Claim) → IsFoundPrintable (length names) found
      → IsToldOf found input status claim → IsClaimOver names claim
  told_over found input status claim printable (inl (all, inl (rank, leads, is))) = subst (IsClaimOver names) (sym is) tt
  told_over found input status claim printable (inl (all, inr (otherwise, inl (rank, leads, told)))) =
      let over = subst (IsTreeOver (length names)) leads.is
      (leaf_over (IsTreeOver (length names)) (λ row this that own. (own.1, own.2)) (plan_of found.cover) input printable.cover.over) in
      told_claim_over (claim_of found.claims rank) claim input (claim_over names few found.claims rank (named names few rank.value over.0)) told
  told_over found input status claim printable (inl (all, inr (otherwise, inr (lacks, (rank, leads, told))))) =
      let over = subst (IsOrdinalOver (length names)) leads.is
      (leaf_over (IsOrdinalOver (length names)) (λ row this that own. (own.1, own.2)) (plan_of found.ranked) input printable.ranked.over) in
      told_claim_over (ordinal_claim rank) claim input (refl, All-weaker (IsOverPlaces (length names)) (IsOver names) (named names few) (functions_of rank) over.0) told
  told_over found input status claim printable (inr (some, otherwise, lacks, nowhere, is)) = subst (IsClaimOver names) (sym is) tt
