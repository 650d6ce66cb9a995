-- What is true of the program without calls is true of framed runs.
use Rattle.std.proofs.Common.{◌≡◌, ℕ, ◌+◌, ◌<◌, ℤ, pos, negsuc, List, [], ◌∷◌, length, map, Option, None, Some, refl, sym, ap, subst}
use Rattle.linear_cons.specs.Functions.{IsOver, value_at}
use Rattle.linear_cons.specs.Numbers.{number_at}
use Rattle.step_meaning.specs.Outcome.{Store}
use Rattle.step_meaning.specs.Run.{start}
use Rattle.step_meaning.specs.Step.{programs}
use Rattle.step_meaning.specs.Syntax.{Statements}
use Rattle.step_meaning.specs.Systems.{System}
use Rattle.ctl_formula.specs.Formulas.{normal}
use Rattle.ctl_formula.specs.Rows.{EachRow}
use Rattle.ctl_formula.specs.Satisfaction.{Sat, WithinBound}
use Rattle.ctl_formula.specs.Systems as formulas
use Rattle.ctl_formula.proofs.Agreeing.{flipped}
use Rattle.call_meaning.specs.declared.unit.Unit.{Unit}
use Rattle.call_meaning.specs.declared.statement.Func.{Func}
use Rattle.call_meaning.specs.Frames.{Stack}
use Rattle.call_meaning.specs.Frames as frames
use Rattle.call_meaning.specs.Runs.{framed}
use Rattle.call_meaning.specs.Tables.{main_routine, table_from, table_of}
use Rattle.call_meaning.specs.Units.{Routine, Table}
use Rattle.call_inline.specs.Inlined.{inlined_body}
use Rattle.call_inline.specs.Starts.{AreStores}
use Rattle.call_inline.proofs.Framing.{Framing, framing_starts, in_step_framed, longest_alike, satisfied_alike, within_alike}
use Rattle.source_parse.specs.Derives.{IsUnitText}
use Rattle.ordinal_rank.specs.Ends.{EndsUnder}
use Rattle.ordinal_rank.specs.Systems as systems
use Rattle.ordinal_rank.proofs.Agreeing.{under_same}
use Rattle.line_text.specs.declared.claim.Claim.{Claim}
use Rattle.line_text.specs.declared.claim.Claim.TheVariants.{Exactly, Within, Holds, Ranked, Fits, Unknown}
use Rattle.command_words.specs.Order.{Task}
use Rattle.function_top.specs.Call.{Call}
use Rattle.function_top.specs.Framed.{FramedAnswerHeadline, FramedHeadline, IsLongestIn, IsTrueAnswerOfFrames, IsTrueIn, IsTrueTextOfFrames, IsWithin}
use Rattle.function_top.specs.Headline.{AnswerHeadline, Headline, IsTrueAnswer, IsTrueText}
use Rattle.function_top.specs.Known.{KnownTexts}
use Rattle.function_top.specs.Subject.{IsFormulaAsked, IsSubject, Subject}
use Rattle.function_top.specs.TrueLine.{IsLongest, IsTrueOf}

-- `main` stands behind the functions
main_at : (base : ℕ) (funcs : List Func) (main : Routine) → table_from base funcs main (length funcs) ≡ main
main_at base [] main = refl
main_at base (f ∷ more) main = main_at (base + length f.names) more main

module _ (known : KnownTexts) (task : Task) (text : List ℕ) (subject : Subject) (h : IsSubject task text subject) (unit : Unit) (is : IsUnitText text unit) where
  abbrev table : Table
  table = table_of unit.funcs unit.names unit.body

  abbrev main : ℕ
  main = length unit.funcs

  abbrev body : Statements
  body = inlined_body table main

  same_body : subject.body ≡ body
  same_body = (known.unique text subject.names _ subject.body body h.program (record { unit = unit; derived = is; names_are = refl; means = refl })).1

  same_own : subject.own ≡ unit.names
  same_own = known.own_unique text subject.own unit.names h.own (record { unit = unit; derived = is; names_are = refl })

  main_vars : (table main).vars ≡ length unit.names
  main_vars = ap (λ (r : Routine). r.vars) (main_at (length unit.names) unit.funcs (main_routine unit.names unit.body))

  -- the formula speaks of variables of `main`
  asked_over : (asked : Option (List ℕ)) → IsFormulaAsked subject.own asked subject.formula → EachRow (λ a. IsOver (length subject.own) a) subject.formula
  asked_over None ends = subst (EachRow (λ a. IsOver (length subject.own) a)) (sym ends) (tt, tt)
  asked_over (Some asked) meant = known.variables asked subject.own subject.formula meant

  over : EachRow (λ a. IsOver (table main).vars a) subject.formula
  over =
      subst (λ (n : ℕ). EachRow (λ a. IsOver n a) subject.formula) (sym main_vars)
      (subst (λ (names : List (List ℕ)). EachRow (λ a. IsOver (length names) a) subject.formula) same_own (asked_over task.formula h.formula))

  normal_over : EachRow (λ a. IsOver (table main).vars a) (normal subject.formula)
  normal_over = known.normal_variables (table main).vars subject.formula over

  module _ (mine input fresh : Store) (stores : AreStores (length unit.names) mine input fresh) where
    abbrev system : System
    system = framed table fresh

    abbrev begins : Stack
    begins = frames.start table main mine

    own_same : (y : ℕ) → y < (table main).vars → number_at mine y ≡ number_at input y
    own_same y low = stores.same y (subst (λ n. y < n) main_vars low)

    longest_too : (number : ℤ) → IsLongest number (start body input) → IsLongestIn system number begins
    longest_too (pos n) long =
        (longest_alike table main unit.valid.routines unit.valid.tidy fresh stores.fresh_long input mine stores.input_long stores.mine_long own_same n).1 long
    longest_too (negsuc n) long = long

    within_too : (bound : ℤ) → WithinBound bound (normal subject.formula) (start body input) → IsWithin system bound (normal subject.formula) begins
    within_too (pos n) there =
        (within_alike table main unit.valid.routines unit.valid.tidy fresh stores.fresh_long input mine stores.input_long stores.mine_long own_same
        n (normal subject.formula) normal_over).1 there
    within_too (negsuc n) there = there

    holds_too : Sat subject.formula (start body input) → formulas.Sat system subject.formula begins
    holds_too there =
        (satisfied_alike table main unit.valid.routines unit.valid.tidy fresh stores.fresh_long input mine stores.input_long stores.mine_long own_same
        subject.formula over).1 there

    ranked_too : (numbers : List ℤ) → EndsUnder numbers (start body input) → systems.EndsUnder system numbers begins
    ranked_too numbers there =
        let joins = Framing table main unit.valid.routines unit.valid.tidy fresh stores.fresh_long in
        under_same programs system (λ a. IsOver (table main).vars a) (λ d c. joins c d)
        (flipped system programs (λ a. IsOver (table main).vars a) joins (in_step_framed table main unit.valid.routines unit.valid.tidy fresh stores.fresh_long))
        numbers (start body input) begins
        (framing_starts table main unit.valid.routines unit.valid.tidy fresh stores.fresh_long input mine stores.input_long stores.mine_long own_same) there

    true_too : (claim : Claim) → IsTrueOf subject claim input → IsTrueIn system subject.formula claim input begins
    true_too (Exactly number) there = longest_too number (subst (λ (b : Statements). IsLongest number (start b input)) same_body there)
    true_too (Within bound) there =
        within_too (value_at bound input) (subst (λ (b : Statements). WithinBound (value_at bound input) (normal subject.formula) (start b input)) same_body there)
    true_too Holds there = holds_too (subst (λ (b : Statements). Sat subject.formula (start b input)) same_body there)
    true_too (Ranked functions) there =
        let numbers = map (λ function. value_at function input) functions in
        ranked_too numbers (subst (λ (b : Statements). EndsUnder numbers (start b input)) same_body there)
    true_too Fits there = tt
    true_too Unknown there = tt

  pub text_too : (text : List ℕ) → IsTrueText subject text → IsTrueTextOfFrames unit subject text
  text_too text truth line condition claim whole spells input is_input meets mine fresh stores =
      true_too mine input fresh stores claim ((truth line condition claim whole spells).holds input is_input meets)

  pub answer_too : (input : Store) (text : List ℕ) → IsTrueAnswer subject input text → IsTrueAnswerOfFrames unit subject input text
  answer_too input text truth line claim whole tells mine fresh stores = true_too mine input fresh stores claim (truth line claim whole tells)

pub framed_headline : KnownTexts → (words : List (List ℕ)) (call : Call) → Headline words call → FramedHeadline words call
framed_headline known words call headline task text before written subject unit ask left h is taken taken_after =
    text_too known task text subject h unit is written (headline task text before written subject ask left h taken taken_after)

pub framed_answer_headline : KnownTexts → (words : List (List ℕ)) (call : Call) → AnswerHeadline words call → FramedAnswerHeadline words call
framed_answer_headline known words call answer task text before written asked subject unit input ask left h is one given taken taken_after =
    answer_too known task text subject h unit is input written (answer task text before written asked subject input ask left h one given taken taken_after)
