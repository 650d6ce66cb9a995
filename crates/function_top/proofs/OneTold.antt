-- What is told of one input is true of it.
use Rattle.std.proofs.Common.{◌≡◌, ◌≢◌, inl, inr, ◌∙◌, ℕ, [], ◌∷◌, ◌++◌, length, Contains, Option, None, Some, codes, refl, sym, ap, subst, arith, List, map}
use Rattle.std.proofs.lemmas.List.Elements.{All-contains, Contains-append_right}
use Rattle.step_meaning.specs.Outcome.{Store}
use Rattle.step_meaning.specs.Run.{IsInput, start}
use Rattle.linear_cons.specs.declared.affine.Affine.{Affine}
use Rattle.linear_cons.specs.Functions.{value_at}
use Rattle.linear_cons.proofs.Forms.{value_constant}
use Rattle.ctl_formula.specs.Satisfaction.{SatWithin}
use Rattle.decision_tree.specs.declared.affine_rank.AffineRank.{AffineRank}
use Rattle.decision_tree.specs.Plans.{Plan, plan_of}
use Rattle.ordinal_rank.specs.Ends.{EndsUnder}
use Rattle.line_text.specs.declared.claim.Claim.{Claim}
use Rattle.line_text.specs.declared.claim.Claim.TheVariants.{Exactly, Fits, Holds, Ranked, Unknown, Within}
use Rattle.line_text.specs.Numeral.{numeral}
use Rattle.claim_line.specs.Tells.{Tells}
use Rattle.report_text.specs.declared.line.Top.{Top}
use Rattle.report_text.specs.declared.line.Top.TheVariants.{Exact as Counted}
use Rattle.report_text.specs.Leaves.{claim_at, claim_of}
use Rattle.report_text.specs.Ranked.{ordinal_claim}
use Rattle.command_words.specs.Order.{Task}
use Rattle.function_top.specs.declared.found.Exact.{Exact}
use Rattle.function_top.specs.declared.found.Exact.TheVariants.{Made, Unasked, Unmade}
use Rattle.function_top.specs.declared.found.Found.{Found}
use Rattle.function_top.specs.declared.status.Status.{Status}
use Rattle.function_top.specs.Exact.{IsExact}
use Rattle.function_top.specs.Found.{IsExactPart, IsFound, IsTrueTree}
use Rattle.function_top.specs.Known.{KnownClaims, OpenAsLines}
use Rattle.function_top.specs.OneInput.{IsTold, IsToldAs, IsToldOf, LeadsExactly, LeadsTo, AreToldAs}
use Rattle.function_top.specs.Refusals.{fault_line}
use Rattle.function_top.specs.Subject.{Subject}
use Rattle.function_top.specs.TrueLine.{IsTrueOf}
use Rattle.function_top.proofs.Truth.{exact_true}
use Rattle.report_text.proofs.Frame.{Bytes, IsSilent, free_lacks}
use Rattle.function_top.proofs.Written.{EachWhole, one_good}

-- whatever claim alone the line is, it is true of the input
abbrev pub TellsTrue : Subject → Store → Bytes → Type 0
TellsTrue subject input line = (claim : Claim) → Tells subject.names line claim → IsTrueOf subject claim input

-- ---- what is told is true

-- a function that is told by its value at an input has it there
told_value : (bound told : Affine) (input : Store) → IsToldAs bound input told → value_at bound input ≡ value_at told input
told_value bound told input (inl (fits, same)) = sym (ap (λ f. value_at f input) same ∙ value_constant (value_at bound input) input)
told_value bound told input (inr (wide, same)) = ap (λ f. value_at f input) (sym same)

told_values : (functions told : List Affine) (input : Store) → AreToldAs functions input told
    → map (λ function. value_at function input) functions ≡ map (λ function. value_at function input) told
told_values [] [] input as_told = refl
told_values [] (number ∷ more) input as_told = absurd as_told
told_values (function ∷ rest) [] input as_told = absurd as_told
told_values (function ∷ rest) (number ∷ more) input as_told =
    let first = told_value function number input as_told.0 in
    let others = told_values rest more input as_told.1 in
    cc (first, others)

-- so a claim that is told so says the same of it
told_true : (subject : Subject) (input : Store) (claim told : Claim) → IsTold claim input told → IsTrueOf subject claim input → IsTrueOf subject told input
told_true subject input (Within bound) told (function, as_told, is) truth =
    subst (λ claim. IsTrueOf subject claim input) (sym is)
    (subst (λ v. SatWithin v subject.formula (start subject.body input)) (told_value bound function input as_told) truth)
told_true subject input (Ranked functions) told (numbers, as_told, is) truth =
    subst (λ claim. IsTrueOf subject claim input) (sym is)
    (subst (λ values. EndsUnder values (start subject.body input)) (told_values functions numbers input as_told) truth)
told_true subject input (Exactly number) told is truth = subst (λ claim. IsTrueOf subject claim input) (sym is) truth
told_true subject input Holds told is truth = subst (λ claim. IsTrueOf subject claim input) (sym is) truth
told_true subject input Fits told is truth = subst (λ claim. IsTrueOf subject claim input) (sym is) truth
told_true subject input Unknown told is truth = subst (λ claim. IsTrueOf subject claim input) (sym is) truth

module _ (subject : Subject) (opening : OpenAsLines) (input : Store) (is_input : IsInput (length subject.names) input) where
  abbrev Holds_of : Claim → Type 0
  Holds_of claim = IsTrueOf subject claim input

  leaf_true : (claims : Top) (tree : Plan AffineRank) (rank : AffineRank) → IsTrueTree subject claims tree → LeadsTo tree input rank
      → Holds_of (claim_of claims rank)
  leaf_true claims tree rank truth leads = subst (λ end. Holds_of (claim_at claims end)) leads.is (truth input is_input)

  exactly_true : (delay : ℕ) (exact : Exact) (rank : AffineRank) → IsExact (length subject.names) subject.body delay exact → LeadsExactly exact input rank
      → Holds_of (claim_of Counted rank)
  exactly_true delay Unasked rank is leads = absurd leads
  exactly_true delay (Unmade stop) rank is leads = absurd leads
  exactly_true delay (Made tests stop tree) rank is leads =
      leaf_true Counted (plan_of tree) rank (exact_true subject opening tests (plan_of tree) is.2) leads

  part_true : (asked : Option Bytes) (delay : ℕ) (exact : Exact) (rank : AffineRank) → IsExactPart asked subject delay exact → LeadsExactly exact input rank
      → Holds_of (claim_of Counted rank)
  part_true None delay exact rank is leads = exactly_true delay exact rank is leads
  part_true (Some text) delay exact rank is leads = absurd (subst (λ e. LeadsExactly e input rank) is leads)

  pub told_is_true : (task : Task) (found : Found) (status : Status) (claim : Claim) → IsFound task subject found → IsToldOf found input status claim
      → Holds_of claim
  told_is_true task found status claim finds (inl (all, inl (rank, leads, is))) =
      subst Holds_of (sym is) (part_true task.formula task.delay found.exact rank finds.exactness.part leads)
  told_is_true task found status claim finds (inl (all, inr (none, inl (rank, leads, told)))) =
      told_true subject input (claim_of found.claims rank) claim told
      (leaf_true found.claims (plan_of found.cover) rank finds.truth.holds leads)
  told_is_true task found status claim finds (inl (all, inr (none, inr (lacks, (rank, leads, told))))) =
      told_true subject input (ordinal_claim rank) claim told (finds.truth.ends input leads.why rank is_input leads.is)
  told_is_true task found status claim finds (inr (some, none, lacks, nowhere, is)) = subst Holds_of (sym is) tt

-- ---- the other lines tell nothing

-- a text of one line with a colon
pub colon_tells : (subject : Subject) → KnownClaims subject.names → (input : Store) (line text : Bytes) → IsSilent line → Contains line 58
    → text ≡ line ++ 10 ∷ [] → EachWhole (TellsTrue subject input) text
colon_tells subject known input line text is has text_is =
    one_good (TellsTrue subject input) line text (free_lacks line is.free)
    (λ claim tells. absurd (All-contains (λ byte. byte ≢ 58) line 58 (known.colon line claim tells) has refl)) text_is

pub fault_colon : (what : Bytes) (number offset : ℕ) → Contains (fault_line what number offset) 58
fault_colon what number offset =
    Contains-append_right what (codes ": " ++ (numeral number ++ (codes " at " ++ numeral offset))) 58 (0, omega arith, refl)
