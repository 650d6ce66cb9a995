-- What a tree claims of a formula is true where its leaves show the formula's normal form.
use Rattle.std.proofs.Common.{◌≡◌, ◌≢◌, ◌↔◌, Bool, true, length, refl, subst}
use Rattle.std.proofs.lemmas.Bool.{false≢true}
use Rattle.step_meaning.specs.Outcome.{Store}
use Rattle.step_meaning.specs.Run.{IsInput, start}
use Rattle.step_meaning.specs.Step.{Configuration}
use Rattle.ctl_formula.specs.Formulas.{Ctl, truth, falsity, exit, not_exit, always, never, least, negation, both, either, next, until, weak, normal}
use Rattle.ctl_formula.specs.Satisfaction.{Sat}
use Rattle.decision_tree.specs.declared.affine_rank.AffineRank.{AffineRank}
use Rattle.decision_tree.specs.Evaluation.{eval}
use Rattle.decision_tree.specs.Plans.{Plan, bottom, branch, is_defined, leaf, top}
use Rattle.ctl_rounds.specs.Bounds.{CoversInputs, SatisfiesInputs, SatisfiesWithin}
use Rattle.report_text.specs.declared.line.Top.TheVariants.{Bound, Exact as Counted, Plain}
use Rattle.report_text.specs.Leaves.{claim_at}
use Rattle.function_top.specs.Found.{ClaimsExactly, IsTrueTree, claims_for}
use Rattle.function_top.specs.Subject.{Subject}
use Rattle.function_top.specs.TrueLine.{IsTrueOf}

module _ (law : (f : Ctl) (c : Configuration) → Sat (normal f) c ↔ Sat f c) (subject : Subject) (tree : Plan AffineRank) where
  -- of a formula: wherever the tree is defined it holds, and it does so within the value of the rank
  abbrev Satisfied : Ctl → Type 0
  Satisfied f = SatisfiesInputs (length subject.names) subject.body f tree

  abbrev Bounded : Ctl → Type 0
  Bounded f = SatisfiesWithin (length subject.names) subject.body f tree

  plain_end : (end : Plan AffineRank) (input : Store) → Satisfied (normal subject.formula) → IsInput (length subject.names) input → eval tree input ≡ end
      → IsTrueOf subject (claim_at Plain end) input
  plain_end bottom input satisfied is_input is = tt
  plain_end (top cause) input satisfied is_input is = tt
  plain_end (leaf why rank) input satisfied is_input is = (law subject.formula (start subject.body input)).0 (satisfied input why rank is_input is)
  plain_end (branch row this that) input satisfied is_input is = tt

  bound_end : (end : Plan AffineRank) (input : Store) → Bounded (normal subject.formula) → IsInput (length subject.names) input → eval tree input ≡ end
      → IsTrueOf subject (claim_at Bound end) input
  bound_end bottom input bounded is_input is = tt
  bound_end (top cause) input bounded is_input is = tt
  bound_end (leaf why rank) input bounded is_input is = bounded input why rank is_input is
  bound_end (branch row this that) input bounded is_input is = tt

  plain : (f : Ctl) → f ≡ normal subject.formula → Satisfied f → IsTrueTree subject Plain tree
  plain f is satisfied input is_input = plain_end (eval tree input) input (subst Satisfied is satisfied) is_input refl

  pub claims_true : (f : Ctl) → f ≡ normal subject.formula → Satisfied f → ((all : Bool) (keep goal : Ctl) → f ≡ until all keep goal → Bounded (until all keep goal))
      → IsTrueTree subject (claims_for f) tree
  claims_true truth is satisfied bounded = plain truth is satisfied
  claims_true falsity is satisfied bounded = plain falsity is satisfied
  claims_true exit is satisfied bounded = plain exit is satisfied
  claims_true not_exit is satisfied bounded = plain not_exit is satisfied
  claims_true always is satisfied bounded = plain always is satisfied
  claims_true never is satisfied bounded = plain never is satisfied
  claims_true (least a) is satisfied bounded = plain (least a) is satisfied
  claims_true (negation f) is satisfied bounded = plain (negation f) is satisfied
  claims_true (both f g) is satisfied bounded = plain (both f g) is satisfied
  claims_true (either f g) is satisfied bounded = plain (either f g) is satisfied
  claims_true (next all f) is satisfied bounded = plain (next all f) is satisfied
  claims_true (until all keep goal) is satisfied bounded = λ input is_input.
      bound_end (eval tree input) input (subst Bounded is (bounded all keep goal refl)) is_input refl
  claims_true (weak all keep goal) is satisfied bounded = plain (weak all keep goal) is satisfied

-- and it claims something exactly where the formula holds, where it misses none
module _ (law : (f : Ctl) (c : Configuration) → Sat (normal f) c ↔ Sat f c) (subject : Subject) (tree : Plan AffineRank)
    (satisfied : SatisfiesInputs (length subject.names) subject.body (normal subject.formula) tree)
    (covers : CoversInputs (length subject.names) subject.body (normal subject.formula) tree) where
  of_end : (end : Plan AffineRank) (input : Store) → IsInput (length subject.names) input → eval tree input ≡ end → is_defined end ≡ true
      → Sat (normal subject.formula) (start subject.body input)
  of_end bottom input is_input is own = absurd (false≢true own)
  of_end (top cause) input is_input is own = absurd (false≢true own)
  of_end (leaf why rank) input is_input is own = satisfied input why rank is_input is
  of_end (branch row this that) input is_input is own = absurd (false≢true own)

  pub claims_exactly : ClaimsExactly subject tree
  claims_exactly input is_input = (
    (λ own. (law subject.formula (start subject.body input)).0 (of_end (eval tree input) input is_input refl own)),
    (λ sat. covers input is_input ((law subject.formula (start subject.body input)).1 sat)),
  )

-- no exact number of steps is claimed
pub no_exact_number : (f : Ctl) → claims_for f ≢ Counted
no_exact_number truth = λ is. cc
no_exact_number falsity = λ is. cc
no_exact_number exit = λ is. cc
no_exact_number not_exit = λ is. cc
no_exact_number always = λ is. cc
no_exact_number never = λ is. cc
no_exact_number (least a) = λ is. cc
no_exact_number (negation f) = λ is. cc
no_exact_number (both f g) = λ is. cc
no_exact_number (either f g) = λ is. cc
no_exact_number (next all f) = λ is. cc
no_exact_number (until all keep goal) = λ is. cc
no_exact_number (weak all keep goal) = λ is. cc
