-- Of an input of a program with small levels the exact claim is told exactly where its runs are as it says.
use Rattle.std.proofs.Common.{◌≡◌, ◌≢◌, ◌↔◌, ◌^◌, inl, inr, ◌∙◌, ℕ, suc, ◌≤◌, pos, List, [], ◌∷◌, ◌++◌, length, Contains, Option, None, Some, refl, sym, ap, subst, arith}
use Rattle.std.proofs.lemmas.Bool.{cases_lt}
use Rattle.std.proofs.lemmas.List.Elements.{All-cons, All-nil}
use Rattle.step_meaning.specs.Outcome.{Store}
use Rattle.step_meaning.specs.Run.{IsInput}
use Rattle.step_meaning.specs.Syntax.{Statements}
use Rattle.control_flow.specs.Growth.{growth_of}
use Rattle.tree_support.proofs.Lists.{contains_first}
use Rattle.decision_tree.specs.declared.affine_rank.AffineRank.{AffineRank}
use Rattle.decision_tree.specs.declared.tree.Tree.{Tree}
use Rattle.decision_tree.specs.Evaluation.{eval}
use Rattle.decision_tree.specs.Plans.{plan_of}
use Rattle.unroll.specs.Levels.{counted}
use Rattle.unroll.specs.Refusals.{IsWide}
use Rattle.fitting_ways.specs.Ways.{HasSmallNumbers}
use Rattle.fitting_ways.proofs.Rows.{rows_fit}
use Rattle.input_text.specs.Input.{IsInputText}
use Rattle.line_text.specs.declared.claim.Claim.{Claim}
use Rattle.line_text.specs.declared.claim.Claim.TheVariants.{Exactly}
use Rattle.report_text.specs.declared.line.Top.{Top}
use Rattle.report_text.specs.declared.line.Top.TheVariants.{Bound, Exact as Counted, Fits, Plain}
use Rattle.report_text.specs.declared.report.Stop.{Stop}
use Rattle.report_text.specs.declared.report.Stop.TheVariants.{NotPlain, TooManyNodes, WideNumbers}
use Rattle.ordinal_rank.specs.declared.ordinal.OrdinalRank.{OrdinalRank}
use Rattle.report_text.specs.Leaves.{claim_at, claim_of}
use Rattle.report_text.specs.Ranked.{ordinal_claim}
use Rattle.report_text.specs.Sections.{IsWholeLine, whole_lines}
use Rattle.report_text.proofs.Cutting.{whole_lines_are}
use Rattle.claim_line.specs.Tells.{Tells}
use Rattle.function_top.specs.declared.found.Exact.{Exact}
use Rattle.function_top.specs.declared.found.Exact.TheVariants.{Made, Unasked, Unmade}
use Rattle.function_top.specs.declared.found.Found.{Found}
use Rattle.function_top.specs.declared.status.Status.{Status}
use Rattle.function_top.specs.Exact.{EndsExactly, HasSmallLevels, IsExact, IsExactTree, IsStopAt}
use Rattle.function_top.specs.Meeting.{TellsClaim}
use Rattle.function_top.specs.OneInput.{IsTold, IsToldOf, LeadsExactly, LeadsTo}
use Rattle.function_top.proofs.ExactLines.{claimed_by, ranks_at}
use Rattle.function_top.specs.Known.{KnownClaims}
use Rattle.function_top.proofs.Rising.{growth_up, none_heavy}
use Rattle.report_text.proofs.Frame.{Bytes, Lacks}
use Rattle.function_top.proofs.Written.{one_good}

-- ---- the numbers of an input

pub numbers_small : (names : List (List ℕ)) (text : List ℕ) (input : Store) → IsInputText names text input → HasSmallNumbers input
numbers_small names text input is place low = elim (cases_lt place (length names)) [
  | inl named ↦ (is.some place named).4.small
  | inr past ↦ let zero_there = is.input_is.zeros place past in rw zero_there (omega arith)
]

-- ---- the level that is made

module _ (body : Statements) (delay : ℕ) (small : HasSmallLevels body delay) where
  not_wide : (level : ℕ) → level ≤ delay → ¬ IsWide body level
  not_wide level within (inl unfit) = unfit small.fitting
  not_wide level within (inr large) =
      let up = growth_up body level delay within in
      let most = small.growth in
      omega (arith, up, most, large)

  not_stopped : (level : ℕ) (stop : Stop) → level ≤ delay → ¬ IsStopAt body level stop
  not_stopped level TooManyNodes within heavy = none_heavy body level delay within small.light heavy
  not_stopped level WideNumbers within wide = not_wide level within wide.1
  not_stopped level NotPlain within is = is

  -- it is that of as many tests as the delay
  pub record IsMadeWhole (vars : ℕ) (exact : Exact) : Type 0 where
    pub stop : Option Stop
    pub tree : Tree AffineRank
    pub is : exact ≡ Made delay stop tree
    pub level : IsExactTree vars body delay (plan_of tree)

  pub made_whole : (vars : ℕ) (exact : Exact) → IsExact vars body delay exact → IsMadeWhole vars exact
  made_whole vars Unasked known = absurd known
  made_whole vars (Unmade TooManyNodes) known = absurd (not_stopped 0 TooManyNodes (omega arith) known.1)
  made_whole vars (Unmade WideNumbers) known = absurd (not_stopped 0 WideNumbers (omega arith) known.1)
  made_whole vars (Unmade NotPlain) known = absurd (known small.fitting.plain)
  made_whole vars (Made tests None tree) known = record {
    stop = None;
    tree = tree;
    is = ap (λ n. Made n None tree) known.1;
    level = subst (λ n. IsExactTree vars body n (plan_of tree)) known.1 known.2;
  }
  made_whole vars (Made tests (Some stop) tree) known =
      absurd (not_stopped (suc tests) stop (let less = known.1.0 in omega (arith, less)) known.1.1)

-- ---- what is told

exactly_told : (claims : Top) (rank : AffineRank) (input : Store) (claim : Claim) (n : ℕ) → claims ≢ Counted → IsTold (claim_of claims rank) input claim
    → claim ≡ Exactly (pos n) → ⊥
exactly_told Counted rank input claim n other told is = other refl
exactly_told Bound rank input claim n other told is = let told_is = told.2 in cc
exactly_told Plain rank input claim n other told is = cc
exactly_told Fits rank input claim n other told is = cc

-- nor is it where the tree of ordinal ranks claims
ordinal_told : (rank : OrdinalRank) (input : Store) (claim : Claim) (n : ℕ) → IsTold (ordinal_claim rank) input claim → claim ≡ Exactly (pos n) → ⊥
ordinal_told rank input claim n told is = let told_is = told.2 in cc

module _ (vars : ℕ) (body : Statements) (tests : ℕ) (stop : Option Stop) (tree : Tree AffineRank) (level : IsExactTree vars body tests (plan_of tree))
    (growth : growth_of body tests ≤ 2 ^ 60) (input : Store) (is_input : IsInput vars input) (numbers : HasSmallNumbers input) (n : ℕ) where
  leads : EndsExactly body tests input n → LeadsTo (plan_of tree) input (counted n)
  leads ends =
      let claimed = (level.exact input is_input n).1 ends in
      record { fits = rows_fit (growth_of body tests) (plan_of tree) growth level.numbers input numbers; why = claimed.0; is = claimed.1 }

  of_leaf : (rank : AffineRank) (claim : Claim) → LeadsTo (plan_of tree) input rank → claim ≡ claim_of Counted rank → claim ≡ Exactly (pos n)
      → EndsExactly body tests input n
  of_leaf rank claim way is says =
      (level.exact input is_input n).0
      (claimed_by (eval (plan_of tree) input) n (ranks_at (plan_of tree) input level.ranks) (ap (claim_at Counted) way.is ∙ sym is ∙ says))

  to_leaf : (rank : AffineRank) (claim : Claim) → LeadsTo (plan_of tree) input rank → claim ≡ claim_of Counted rank → EndsExactly body tests input n
      → claim ≡ Exactly (pos n)
  to_leaf rank claim way is ends = is ∙ sym (ap (claim_at Counted) way.is) ∙ ap (claim_at Counted) (leads ends).is

  module _ (found : Found) (made : found.exact ≡ Made tests stop tree) (claims : found.claims ≢ Counted) where
    way_of : (rank : AffineRank) → LeadsExactly found.exact input rank → LeadsTo (plan_of tree) input rank
    way_of rank way = subst (λ e. LeadsExactly e input rank) made way

    way_to : (rank : AffineRank) → LeadsTo (plan_of tree) input rank → LeadsExactly found.exact input rank
    way_to rank way = subst (λ e. LeadsExactly e input rank) (sym made) way

    pub told_exactly : (status : Status) (claim : Claim) → IsToldOf found input status claim → (claim ≡ Exactly (pos n)) ↔ EndsExactly body tests input n
    told_exactly status claim (inl (all, inl (rank, way, is))) =
        ((λ says. of_leaf rank claim (way_of rank way) is says), (λ ends. to_leaf rank claim (way_of rank way) is ends))
    told_exactly status claim (inl (all, inr (none, inl (rank, way, told)))) =
        ((λ says. absurd (exactly_told found.claims rank input claim n claims told says)), (λ ends. absurd (none (counted n) (way_to (counted n) (leads ends)))))
    told_exactly status claim (inl (all, inr (none, inr (lacks, (rank, way, told))))) =
        ((λ says. absurd (ordinal_told rank input claim n told says)), (λ ends. absurd (none (counted n) (way_to (counted n) (leads ends)))))
    told_exactly status claim (inr (some, none, lacks, nowhere, is)) =
        ((λ says. absurd (let unknown = is in cc)), (λ ends. absurd (none (counted n) (way_to (counted n) (leads ends)))))

-- ---- what a text tells

-- a line that lacks the newline byte is a whole line of its text
whole_itself : (line text : Bytes) → Lacks line → text ≡ line ++ 10 ∷ [] → IsWholeLine text line
whole_itself line text lacks is =
    subst (λ lines. Contains lines line) (sym (ap whole_lines is ∙ whole_lines_are (line ∷ []) (All-cons (λ (one : Bytes). Lacks one) line [] lacks (All-nil (λ (one : Bytes). Lacks one)))))
    (contains_first line [])

-- of the text of one claim alone
module _ (names : List Bytes) (known : KnownClaims names) (line text : Bytes) (claim : Claim) (tells : Tells names line claim) (is : text ≡ line ++ 10 ∷ []) where
  pub tells_alone : (other : Claim) → TellsClaim names text other ↔ (claim ≡ other)
  tells_alone other = (
    (λ told. one_good (λ l. (c : Claim) → Tells names l c → claim ≡ c) line text (known.newline line claim tells) (λ c own. known.one line claim c tells own) is told.line told.whole
        other told.tells),
    (λ same. record { line = line; whole = whole_itself line text (known.newline line claim tells) is; tells = subst (Tells names line) same tells }),
  )
