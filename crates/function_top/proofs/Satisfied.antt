-- Something is told of one input of a program without loops exactly where its start satisfies the formula, where the measures of the two are small.
use Rattle.std.proofs.Common.{◌≡◌, ◌⊎◌, ◌↔◌, ◌∙◌, ℕ, ◌≤◌, true, inl, inr, length, Option, None, Some, refl, sym, ap, subst}
use Rattle.std.specs.Prelude.{IsSome}
use Rattle.step_meaning.specs.Outcome.{Store}
use Rattle.step_meaning.specs.Run.{IsInput, start}
use Rattle.ctl_formula.specs.Formulas.{af_exit, normal}
use Rattle.ctl_formula.specs.Satisfaction.{Sat}
use Rattle.decision_tree.specs.declared.affine_rank.AffineRank.{AffineRank}
use Rattle.decision_tree.specs.Evaluation.{eval}
use Rattle.decision_tree.specs.Extent.{IsWhole}
use Rattle.decision_tree.specs.Plans.{Plan, bottom, branch, is_defined, leaf, plan_of, rank_of, top}
use Rattle.fitting_ways.specs.Ways.{HasSmallNumbers}
use Rattle.exact_families.proofs.Making.{which_leaf}
use Rattle.ctl_rounds.proofs.Exactly.{whole_defined}
use Rattle.line_text.specs.declared.claim.Claim.{Claim}
use Rattle.ordinal_rank.specs.declared.ordinal.OrdinalRank.{OrdinalRank}
use Rattle.command_words.specs.Order.{Task}
use Rattle.function_top.specs.declared.status.Status.{Status}
use Rattle.function_top.specs.declared.status.Status.TheVariants.{AllInputs, SomeInputs}
use Rattle.function_top.specs.declared.found.Found.{Found}
use Rattle.function_top.specs.Output.{IsAnswerOn}
use Rattle.function_top.specs.Found.{HasSmallMeasures, IsExactPart, IsFound}
use Rattle.function_top.specs.OneInput.{IsToldOf, LeadsExactly, LeadsTo}
use Rattle.function_top.specs.Subject.{IsFormulaAsked, Subject}
use Rattle.function_top.proofs.ToldExactly.{numbers_small}
use Rattle.function_top.proofs.Wider.{wider_input}
use Rattle.report_text.proofs.Frame.{Bytes}

-- ---- what was found

-- a tree that is one leaf has no undefined one
one_whole : {rank : AffineRank} (tree : Plan AffineRank) → rank_of tree ≡ Some rank → IsWhole tree
one_whole bottom is = absurd (cc)
one_whole (top cause) is = absurd (cc)
one_whole (leaf why rank) is = tt
one_whole (branch row this that) is = absurd (cc)

module _ (task : Task) (subject : Subject) (found : Found) (finds : IsFound task subject found)
    (formula : IsFormulaAsked subject.own task.formula subject.formula) (small : HasSmallMeasures subject) (input : Store)
    (is_input : IsInput (length subject.names) input) (numbers : HasSmallNumbers input) where
  abbrev IsSatisfied : Type 0
  IsSatisfied = Sat subject.formula (start subject.body input)

  claimed : (is_defined (eval (plan_of found.cover) input) ≡ true) ↔ IsSatisfied
  claimed = finds.exactness.covers small.loopless small.within input is_input

  -- where no formula is asked about the cover is one leaf
  is_whole : subject.formula ≡ af_exit → IsWhole (plan_of found.cover)
  is_whole ends = one_whole (plan_of found.cover) (finds.strength.loopless (ap normal ends) small.loopless.free)

  asked_or_whole : (asked : Option Bytes) → IsFormulaAsked subject.own asked subject.formula → IsSome asked ⊎ IsWhole (plan_of found.cover)
  asked_or_whole None ends = inr (is_whole ends)
  asked_or_whole (Some text) meant = inl refl

  by_cover : (rank : AffineRank) → LeadsTo (plan_of found.cover) input rank → IsSatisfied
  by_cover rank way = claimed.0 (ap is_defined way.is)

  by_rank : (rank : OrdinalRank) → LeadsTo (plan_of found.ranked) input rank → IsSatisfied
  by_rank rank way =
      let none = finds.truth.unranked (asked_or_whole task.formula formula) in
      let here : bottom ≡ leaf way.why rank = sym (ap (λ tree. eval tree input) none) ∙ way.is in absurd (cc)

  by_exact : (asked : Option Bytes) → IsFormulaAsked subject.own asked subject.formula → IsExactPart asked subject task.delay found.exact
      → (rank : AffineRank) → LeadsExactly found.exact input rank → IsSatisfied
  by_exact None ends exact rank way = claimed.0 (whole_defined input (plan_of found.cover) (is_whole ends))
  by_exact (Some text) meant exact rank way = absurd (subst (λ e. LeadsExactly e input rank) exact way)

  leads : IsSatisfied → (rank : AffineRank) × LeadsTo (plan_of found.cover) input rank
  leads sat =
      let there = which_leaf (eval (plan_of found.cover) input) (claimed.1 sat) in
      (there.1, record { fits = finds.exactness.ways small input is_input numbers sat; why = there.0; is = there.2 })

  pub told_of_satisfied : (status : Status) (claim : Claim) → IsToldOf found input status claim → (status ≡ AllInputs) ↔ IsSatisfied
  told_of_satisfied status claim (inl (all, inl (rank, way, is))) = ((λ same. by_exact task.formula formula finds.exactness.part rank way), (λ sat. all))
  told_of_satisfied status claim (inl (all, inr (none, inl (rank, way, told)))) = ((λ same. by_cover rank way), (λ sat. all))
  told_of_satisfied status claim (inl (all, inr (none, inr (lacks, (rank, way, told))))) = ((λ same. by_rank rank way), (λ sat. all))
  told_of_satisfied status claim (inr (some, none, lacks, nowhere, is)) = (
    (λ all. absurd (let clash : SomeInputs ≡ AllInputs = sym some ∙ all in cc)),
    (λ sat. let way = leads sat in absurd (lacks way.0 way.1)),
  )

-- ---- what was due

pub satisfied_answer : {task : Task} {text asked : Bytes} {subject : Subject} {input : Store} {status : Status} {turns : ℕ} {bytes : Bytes}
    → length subject.own ≤ length subject.names → HasSmallMeasures subject → IsAnswerOn task text asked subject input status turns bytes
    → (status ≡ AllInputs) ↔ Sat subject.formula (start subject.body input)
satisfied_answer {task} {text} {asked} {subject} {input} {status} fewer small on =
    told_of_satisfied task subject on.found on.analysed.finds on.analysed.is.formula small input (wider_input fewer on.input_is.input_is) (numbers_small subject.own asked input on.input_is)
    status on.claim on.told
