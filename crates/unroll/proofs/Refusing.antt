-- Refusals that are passed on, and what they tell of the weight of a level.
use Rattle.std.specs.Result.{IsErrAnd}
use Rattle.std.specs.Prelude.{IfErr, IfSome, IsSomeAnd}
use Rattle.std.specs.Option.{is_some}
use Rattle.std.proofs.Common.{◌≡◌, ℕ, suc, ◌<◌, ◌≤◌, if◌then◌else◌, Option, None, Some, Result, Ok, Err, List, refl, sym, subst, arith}
use Rattle.decision_tree.specs.Plans.{Plan}
use Rattle.decision_tree.specs.declared.affine_rank.AffineRank.{AffineRank}
use Rattle.decision_tree.specs.declared.family.Family.{Family}
use Rattle.decision_tree.specs.declared.reason.Cause.{Cause}
use Rattle.linear_cons.specs.declared.exact.Wide.{Wide as Operands}
use Rattle.step_meaning.specs.Syntax.{Statements}
use Rattle.control_flow.specs.Measures.{IsHeavy, IsLight, IsWeight}
use Rattle.unroll.specs.Refusals.{IsNodes, IsRefusal, IsRefusalAt, IsWide}
use Rattle.unroll.specs.Stopping.{IsCause}
use Rattle.tree_unify.specs.declared.fault.TreeFault.{TreeFault}
use Rattle.tree_unify.specs.declared.fault.TreeFault.TheVariants.{Full, Memory, Wide}

-- what is said of an error is said where it is passed on
pub told_of : {T : Type 0} (P : TreeFault → Type 0) (r : Result T TreeFault) (error : TreeFault) → IsErrAnd r (λ (e : TreeFault). e ≡ error) → P error → IfErr r P
told_of P (Ok x) error gives own = absurd gives
told_of P (Err e) error gives own = subst P (sym gives) own

-- an error that is passed on is the one that it was
pub same_error : {T E : Type 0} (r : Result T E) (own error : E) → IsErrAnd r (λ (e : E). e ≡ own) → r ≡ Err error → own ≡ error
same_error r own error gives is = sym (subst (λ (x : Result _ _). IsErrAnd x (λ e. e ≡ own)) is gives)

-- the weight of a level, as far as it is held, is above 65,536 exactly where it is itself
module _ (body : Statements) (level most : ℕ) (is : IsWeight body level most) where
  pub light_by : most ≤ 65536 → IsLight body level
  light_by few sizes are = let same = is sizes are in omega (arith, same, few)

  pub heavy_by : 65536 < most → IsHeavy body level
  heavy_by more sizes are = let same = is sizes are in omega (arith, same, more)

pub refused_by : (body : Statements) (level : ℕ) (refusal : TreeFault) → IsNodes refusal → IsHeavy body level → IsRefusalAt body level refusal
refused_by body level (Full count) nodes heavy = (nodes, heavy)
refused_by body level (Wide operands) nodes heavy = absurd nodes
refused_by body level (Memory error) nodes heavy = absurd nodes

-- a refusal of the trees of a light level
pub refused_at : (body : Statements) (level : ℕ) (refusal : TreeFault) → IsLight body level → IsRefusal refusal → ((count : ℕ) → refusal ≡ Full count → IsHeavy body level)
    → ((operands : Operands) → refusal ≡ Wide operands → IsWide body level) → IsRefusalAt body level refusal
refused_at body level (Full count) light own full wide = (own, full count refl)
refused_at body level (Wide operands) light own full wide = (own, light, wide operands refl)
refused_at body level (Memory error) light own full wide = tt

-- why no further level was made
pub cause_in : (body : Statements) (family : Option (Family AffineRank)) (tests made : ℕ) (stopped : Option Cause) (cause : Cause) (trees : List (Plan AffineRank))
    → IsSomeAnd family (λ (f : Family AffineRank). f.trees ≡ trees) → tests ≡ made → stopped ≡ Some cause → IsCause body (suc made) cause
    → IfSome stopped (IsCause body (if is_some family then suc tests else 0))
cause_in body None tests made stopped cause trees has same is own = absurd has
cause_in body (Some family) tests made None cause trees has same is own = absurd (cc)
cause_in body (Some family) tests made (Some this) cause trees has same is own =
    let equal : this ≡ cause = cc in subst (IsCause body (suc tests)) (sym equal) (subst (λ n. IsCause body (suc n) cause) (sym same) own)
