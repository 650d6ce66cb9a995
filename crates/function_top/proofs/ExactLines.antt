-- What the lines of an exact level say.
use Rattle.std.proofs.Common.{◌≡◌, ◌↔◌, ℕ, suc, Bool, true, false, cond, not, if◌then◌else◌, ℤ, pos, negsuc, int_le, inl, inr, List, [], ◌∷◌, length, Contains, Option, None, Some, ◌<◌, ◌≤◌, get_or, map, refl, sym, ap, ◌∙◌, subst, arith}
use Rattle.std.specs.Option.{unwrap_or}
use Rattle.std.specs.Prelude.{IfSome, IsSome}
use Rattle.std.proofs.lemmas.List.{length-map}
use Rattle.std.proofs.lemmas.List.Elements.{All-contains, All-filter}
use Rattle.step_meaning.specs.Outcome.{Store}
use Rattle.step_meaning.specs.Run.{EndsInTests, IsInput, Longest, start}
use Rattle.step_meaning.specs.Syntax.{Statements}
use Rattle.step_meaning.specs.Valid.{IsBody}
use Rattle.linear_cons.specs.Functions.{IsConstant, value_at}
use Rattle.linear_cons.proofs.Places.{number_at_places}
use Rattle.linear_cons.specs.Rows.{MeetsAll}
use Rattle.decision_tree.specs.Evaluation.{eval}
use Rattle.decision_tree.specs.Plans.{Plan, bottom, branch, leaf, plan_of, top}
use Rattle.decision_tree.specs.declared.tree.Tree.{Tree}
use Rattle.decision_tree.specs.declared.affine_rank.AffineRank.{AffineRank}
use Rattle.decision_tree.specs.declared.reason.Cause.{Cause}
use Rattle.decision_tree.specs.declared.reason.Cause.TheVariants.{Given, Nodes, Point, Rows, Wide}
use Rattle.decision_tree.specs.declared.reason.Why.{Why}
use Rattle.line_text.specs.declared.claim.Claim.{Claim}
use Rattle.line_text.specs.declared.claim.Claim.TheVariants.{Exactly, Fits, Holds, Ranked, Unknown, Within}
use Rattle.report_text.specs.declared.line.Line.{Line}
use Rattle.report_text.specs.declared.line.Top.TheVariants.{Exact}
use Rattle.report_text.specs.declared.report.Stop.TheVariants.{WideNumbers}
use Rattle.report_text.specs.Leaves.{AreLinesOf, HasConstantRanks, OneOf, claim_at, claiming, is_unknown}
use Rattle.decision_tree.specs.Extent.{ComplementsFit, IsTreeOver}
use Rattle.report_text.proofs.Standing.{one_line_met}
use Rattle.control_flow.specs.Edges.{configuration}
use Rattle.control_flow.specs.Labels.{all_labels, entry_of}
use Rattle.control_flow.proofs.LabelLaws.{entry_is_a_label}
use Rattle.control_flow.proofs.Steps.{entry_is_start}
use Rattle.backward_transfer.specs.AffineShapes.{tree_at}
use Rattle.control_flow.specs.Growth.{growth_of}
use Rattle.unroll.specs.Levels.{Claims, IsLevel, RanksCount, RowsAtMost, counted}
use Rattle.control_flow.specs.Measures.{IsLight}
use Rattle.step_meaning.specs.Plain.{IsPlain}
use Rattle.unroll.specs.Stopping.{IsCause}
use Rattle.backward_transfer.proofs.Putting.{plan_at}
use Rattle.unroll.proofs.LevelLaws.{Alike, alike_back, longest_alike, tests_alike}
use Rattle.report_text.specs.declared.report.Stop.{Stop}
use Rattle.function_top.specs.declared.found.Exact.{Exact as Known}
use Rattle.function_top.specs.declared.found.Exact.TheVariants.{Made, Unasked}
use Rattle.function_top.specs.Exact.{EndsExactly, IsExact, IsExactTree, IsUnmade, MeetsLine, stop_of}
use Rattle.function_top.specs.Found.{IsExactPart}
use Rattle.function_top.specs.Printable.{IsPrintable}
use Rattle.function_top.specs.Subject.{Subject}
use Rattle.function_top.proofs.OnlyMet.{met_is_one}

-- the leaf at a store has a rank that is a number of steps, if it has one
side_ranks : (t : Bool) (this that : Plan AffineRank) → RanksCount this → RanksCount that → RanksCount (if t then this else that)
side_ranks true this that first second = first
side_ranks false this that first second = second

pub ranks_at : (tree : Plan AffineRank) (store : List ℤ) → RanksCount tree → RanksCount (eval tree store)
ranks_at bottom store ranks = tt
ranks_at (top cause) store ranks = tt
ranks_at (leaf why rank) store ranks = ranks
ranks_at (branch row this that) store ranks =
    side_ranks (int_le (pos 0) (value_at row.affine store)) (eval this store) (eval that store) (ranks_at this store ranks.0) (ranks_at that store ranks.1)

-- the number that a claim of exactly so many steps names
abbrev exact_number : Claim → ℕ
exact_number (Exactly (pos n)) = n
exact_number (Exactly (negsuc n)) = 0
exact_number (Within bound) = 0
exact_number Holds = 0
exact_number (Ranked functions) = 0
exact_number Fits = 0
exact_number Unknown = 0

-- an end that claims exactly so many steps is a leaf of that rank
pub claimed_by : (end : Plan AffineRank) (n : ℕ) → RanksCount end → claim_at Exact end ≡ Exactly (pos n) → (why : Why) × (end ≡ leaf why (counted n))
claimed_by bottom n counts is = cc
claimed_by (top cause) n counts is = cc
claimed_by (branch row this that) n counts is = cc
claimed_by (leaf why rank) n counts is =
    let named : counts.0 ≡ n = sym (ap (λ (r : AffineRank). exact_number (Exactly r.value.constant)) counts.1) ∙ ap exact_number is in
    (why, ap (leaf why) (counts.1 ∙ ap counted named))

module _ (input : Store) (claim : Claim) (known : is_unknown claim ≡ false) where
  abbrev Met : Line → Type 0
  Met line = MeetsAll input line.rows

  abbrev Is : Line → Type 0
  Is line = line.claim ≡ claim

  first_meets : (t : Bool) (line : Line) (lines : List Line) → t ≡ false → Met line → Is line → MeetsLine input claim (cond (not t) (line ∷ lines) lines)
  first_meets true line lines claims met is = cc
  first_meets false line lines claims met is = record { line = line; among = (0, omega arith, refl); meets = met; claims = is }

  later_meets : (t : Bool) (line : Line) (lines : List Line) → MeetsLine input claim lines → MeetsLine input claim (cond t (line ∷ lines) lines)
  later_meets false line lines meets = meets
  later_meets true line lines meets = record {
    line = meets.line;
    among = (suc meets.among.0, (let low = meets.among.1 in omega arith), meets.among.2);
    meets = meets.meets;
    claims = meets.claims;
  }

  -- the line that is met is among those that claim something
  pub claiming_meets : (lines : List Line) → OneOf Met Is lines → MeetsLine input claim (claiming lines)
  claiming_meets [] one = absurd one
  claiming_meets (line ∷ lines) (inl here) = first_meets (is_unknown line.claim) line (claiming lines) (ap is_unknown here.1 ∙ known) here.0 here.1
  claiming_meets (line ∷ lines) (inr later) = later_meets (not (is_unknown line.claim)) line (claiming lines) (claiming_meets lines later.1)

-- the lines of what an exact tree claims
module _ (vars : ℕ) (body : Statements) (tests : ℕ) (tree : Plan AffineRank) (level : IsExactTree vars body tests tree) (all lines : List Line)
    (are : AreLinesOf Exact tree all) (claims : lines ≡ claiming all) (input : Store) (is_input : IsInput vars input) (n : ℕ) where
  to_runs : MeetsLine input (Exactly (pos n)) lines → EndsExactly body tests input n
  to_runs meets =
      let At : Line → Type 0 = λ (line : Line). line.claim ≡ claim_at Exact (eval tree input) in
      let every = met_is_one (λ (line : Line). MeetsAll input line.rows) At all (one_line_met Exact input tree all are) in
      let kept = All-filter (λ line. not (is_unknown line.claim)) (λ (line : Line). MeetsAll input line.rows → At line) all every in
      let is = All-contains (λ (line : Line). MeetsAll input line.rows → At line) (claiming all) meets.line kept
      (subst (λ ls. Contains ls meets.line) claims meets.among) meets.meets in
      (level.exact input is_input n).0 (claimed_by (eval tree input) n (ranks_at tree input level.ranks) (sym is ∙ meets.claims))

  of_runs : EndsExactly body tests input n → MeetsLine input (Exactly (pos n)) lines
  of_runs ends =
      let claimed = (level.exact input is_input n).1 ends in
      let says : claim_at Exact (eval tree input) ≡ Exactly (pos n) = ap (claim_at Exact) claimed.1 in
      let one = one_line_met Exact input tree all are in
      subst (MeetsLine input (Exactly (pos n))) (sym claims)
      (claiming_meets input (Exactly (pos n)) refl all
      (subst (λ claim. OneOf (λ line. MeetsAll input line.rows) (λ line. line.claim ≡ claim) all) says one))

  pub met_by_runs : MeetsLine input (Exactly (pos n)) lines ↔ EndsExactly body tests input n
  met_by_runs = (to_runs, of_runs)

-- the tree of a level at the entry tells of the runs from an input
module _ (body : Statements) (tests : ℕ) (trees : List (Plan AffineRank)) (level : IsLevel tests body trees) where
  begins : (input : Store) → Alike (configuration body (entry_of body) input) (start body input)
  begins input = record { fronts = entry_is_start body; stores = refl }

  ends_there : (input : Store) (n : ℕ) → EndsInTests tests n (configuration body (entry_of body) input) × Longest n (configuration body (entry_of body) input)
      → EndsExactly body tests input n
  ends_there input n both =
      let here = configuration body (entry_of body) input in
      record {
        ends = tests_alike tests n here (start body input) (begins input) both.0;
        longest = longest_alike n here (start body input) (begins input) both.1;
      }

  ends_here : (input : Store) (n : ℕ) → EndsExactly body tests input n
      → EndsInTests tests n (configuration body (entry_of body) input) × Longest n (configuration body (entry_of body) input)
  ends_here input n ends =
      let here = configuration body (entry_of body) input in
      let back = alike_back here (start body input) (begins input) in
      (tests_alike tests n (start body input) here back ends.ends, longest_alike n (start body input) here back ends.longest)

  pub exact_tree : (vars : ℕ) → ((l : ℕ) → l ≤ tests → IsLight body l) → (tree : Plan AffineRank) → tree ≡ tree_at trees (entry_of body)
      → IsExactTree vars body tests tree
  exact_tree vars light tree is =
      let low = entry_is_a_label body in
      let at = subst (λ t. (input : Store) → length input ≡ 16 → (n : ℕ) → Claims t input n ↔ EndsExactly body tests input n) (sym is)
      (λ input long n.
      let told = level.exact (entry_of body) low input long n in
      ((λ claimed. ends_there input n (told.0 claimed)), (λ ends. told.1 (ends_here input n ends)))) in
      record {
        light = light;
        exact = λ input is_input n. at input is_input.places n;
        ranks = subst RanksCount (sym is) (level.ranks (entry_of body) low);
        numbers = subst (RowsAtMost (growth_of body tests)) (sym is) (level.numbers (entry_of body) low);
      }

  -- it can be printed
  pub printable_tree : (vars : ℕ) → IsBody vars body → (tree : Plan AffineRank) → tree ≡ tree_at trees (entry_of body)
      → IsPrintable vars tree × RanksCount tree
  printable_tree vars valid tree is =
      let low = entry_is_a_label body in (
        record {
          over = subst (IsTreeOver vars) (sym is) (level.variables (entry_of body) low vars valid);
          complements = subst ComplementsFit (sym is) (level.complements (entry_of body) low);
        },
        subst RanksCount (sym is) (level.ranks (entry_of body) low),
      )

-- ---- the part as a whole

-- what is known where a level was made
module _ (vars : ℕ) (body : Statements) (delay tests : ℕ) (tree : Tree AffineRank) (plain : IsPlain body)
    (level : IsExactTree vars body tests (plan_of tree)) where
  pub exact_by : (stopped : Option Cause) → (stopped ≡ None → tests ≡ delay) → (IsSome stopped → tests < delay)
      → IfSome stopped (IsCause body (suc tests)) → IsExact vars body delay (Made tests (stop_of stopped) tree)
  exact_by None whole short why = (plain, whole refl, level)
  exact_by (Some (Nodes count)) whole short why = (plain, (short refl, why.1), level)
  exact_by (Some (Wide operands)) whole short why = (plain, (short refl, (why.1, why.2)), level)
  exact_by (Some (Rows count)) whole short why = absurd why
  exact_by (Some (Point num den)) whole short why = absurd why
  exact_by (Some Given) whole short why = absurd why

-- and where none was
pub unmade_by : (body : Statements) → IsPlain body → (stopped : Option Cause) → IsSome stopped → IfSome stopped (IsCause body 0)
    → IsUnmade body (unwrap_or (stop_of stopped) WideNumbers)
unmade_by body plain None some why = absurd (cc)
unmade_by body plain (Some (Nodes count)) some why = (plain, why.1)
unmade_by body plain (Some (Wide operands)) some why = (plain, (why.1, why.2))
unmade_by body plain (Some (Rows count)) some why = absurd why
unmade_by body plain (Some (Point num den)) some why = absurd why
unmade_by body plain (Some Given) some why = absurd why

pub none_by : {A : Type 0} (found : Option A) → ((a : A) → found ≡ Some a → ⊥) → found ≡ None
none_by None none = refl
none_by (Some a) none = absurd (none a refl)

-- what wasn't made was stopped
pub some_stop : {A : Type 0} (stopped : Option Cause) (family : Option A) → (stopped ≡ None → IsSome family) → family ≡ None → IsSome stopped
some_stop None family whole none = absurd (let there = subst IsSome none (whole refl) in cc)
some_stop (Some cause) family whole none = refl

-- an exact part with a level is one of a program about which no formula is asked
pub made_exact : (asked : Option (List ℕ)) (subject : Subject) (delay : ℕ) (exact : Known) (tests : ℕ) (stop : Option Stop) (tree : Tree AffineRank)
    → IsExactPart asked subject delay exact → exact ≡ Made tests stop tree
    → IsExact (length subject.names) subject.body delay (Made tests stop tree)
made_exact None subject delay exact tests stop tree part is = subst (IsExact (length subject.names) subject.body delay) is part
made_exact (Some text) subject delay exact tests stop tree part is = let clash : Unasked ≡ Made tests stop tree = sym part ∙ is in absurd (cc)

-- what printing asks of the tree
pub ranks_constant : (plan : Plan AffineRank) → RanksCount plan → HasConstantRanks plan
ranks_constant bottom ranks = tt
ranks_constant (top cause) ranks = tt
ranks_constant (leaf why rank) ranks =
    subst (λ (r : AffineRank). IsConstant r.value) (sym ranks.1) (λ i low. number_at_places (λ place. pos 0) i low)
ranks_constant (branch row this that) ranks = (ranks_constant this ranks.0, ranks_constant that ranks.1)

-- what a found thing is held to
pub some_at : {A : Type 0} (P : A → Type 0) (found : Option A) (one : A) → IfSome found P → found ≡ Some one → P one
some_at P found one held is = subst (λ f. IfSome f P) is held

-- the tree at the entry of a level's trees
module _ (tests : ℕ) (body : Statements) (items : List (Tree AffineRank)) (trees : List (Plan AffineRank)) (read : map plan_of items ≡ trees)
    (level : IsLevel tests body trees) (entry : ℕ) (is : entry ≡ entry_of body) where
  pub entry_inside : entry < length items
  entry_inside =
      let long : length items ≡ length (all_labels body) = sym (length-map items plan_of) ∙ ap length read ∙ level.labels in
      let low = entry_is_a_label body in
      omega arith

  pub entry_tree : (tree : Tree AffineRank) → tree ≡ get_or items entry tree → plan_of tree ≡ tree_at trees (entry_of body)
  entry_tree tree at =
      ap plan_of at ∙ plan_at items entry tree entry_inside ∙ ap (tree_at (map plan_of items)) is ∙ ap (λ list. tree_at list (entry_of body)) read
