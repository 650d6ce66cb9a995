-- The laws of equality, proved: it holds exactly between identical reasons, causes and plans.
use Rattle.std.proofs.Common.{◌≡◌, ◌∙◌, ℤ, Bool, refl, sym, ap, Decides}
use Rattle.std.proofs.lemmas.Bool.{false≢true}
use Rattle.std.proofs.lemmas.Bool.Decides.{Decides-and, Decides-eqb, Decides-int_eq, Decides-like}
use Rattle.std.proofs.lemmas.Slice.Eq.{slice_eq-Decides}
use Rattle.std.specs.Cmp.{IsEquivalence, both_ways}
use Rattle.linear_cons.specs.declared.exact.Op.{Op}
use Rattle.linear_cons.specs.declared.exact.Op.TheVariants.{Add, Sub, Mul}
use Rattle.linear_cons.specs.declared.exact.Wide.{Wide as Operands}
use Rattle.linear_cons.proofs.RowLaws.{affine_eq-Decides, row_eq-Decides}
use Rattle.decision_tree.specs.declared.reason.Cause.{Cause}
use Rattle.decision_tree.specs.declared.reason.Cause.TheVariants.{Wide, Rows, Nodes, Point, Given}
use Rattle.decision_tree.specs.declared.reason.Pick.{Pick}
use Rattle.decision_tree.specs.declared.reason.Pick.TheVariants.{All, Yes, No, Value}
use Rattle.decision_tree.specs.declared.reason.Why.{Why}
use Rattle.decision_tree.specs.declared.reason.Why.TheVariants.{End, Atom, Both, Left, Right, Now, Dead, Step}
use Rattle.linear_cons.specs.contracts.exact.OpPartialEq.TheImpl as op_eq
use Rattle.linear_cons.specs.contracts.exact.WidePartialEq.TheImpl as wide_eq
use Rattle.decision_tree.specs.Equality.{same_cause, same_pick, same_plan, same_reason}
use Rattle.decision_tree.specs.Plans.{Plan, bottom, leaf, branch, top}

-- a test that tells whether what f sees of two is the same is an equivalence
pub equivalence_by : {K P : Type 0} (f : K → P) (E : K → K → Bool) → ((x y : K) → Decides (E x y) (f x ≡ f y)) → IsEquivalence E
equivalence_by f E tells = record {
  refl = λ x. (tells x x).1 refl;
  symm = λ x y. both_ways (E x y) (E y x) (λ e. (tells y x).1 (sym ((tells x y).0 e))) (λ e. (tells x y).1 (sym ((tells y x).0 e)));
  congr = λ x y z same. both_ways (E x z) (E y z) (λ e. (tells y z).1 (sym ((tells x y).0 same) ∙ (tells x z).0 e))
      (λ e. (tells x z).1 ((tells x y).0 same ∙ (tells y z).0 e));
}

pub pick_eq-Decides : (pick other : Pick) → Decides (same_pick pick other) (pick ≡ other)
pick_eq-Decides All All = (λ e. refl, λ e. refl)
pick_eq-Decides Yes Yes = (λ e. refl, λ e. refl)
pick_eq-Decides No No = (λ e. refl, λ e. refl)
pick_eq-Decides (Value a) (Value b) = let decided = affine_eq-Decides a b in (λ e. ap (λ t. Value t) (decided.0 e), λ e. decided.1 (cc))
pick_eq-Decides _ _ = (λ e. absurd (false≢true e), λ e. absurd (cc))

pub why_eq-Decides : (why other : Why) → Decides (same_reason why other) (why ≡ other)
why_eq-Decides End End = (λ e. refl, λ e. refl)
why_eq-Decides Atom Atom = (λ e. refl, λ e. refl)
why_eq-Decides Both Both = (λ e. refl, λ e. refl)
why_eq-Decides Left Left = (λ e. refl, λ e. refl)
why_eq-Decides Right Right = (λ e. refl, λ e. refl)
why_eq-Decides Now Now = (λ e. refl, λ e. refl)
why_eq-Decides Dead Dead = (λ e. refl, λ e. refl)
why_eq-Decides (Step pick) (Step other) = let decided = pick_eq-Decides pick other in
    (λ e. ap (λ t. Step t) (decided.0 e), λ e. decided.1 (cc))
why_eq-Decides _ _ = (λ e. absurd (false≢true e), λ e. absurd (cc))

op_eq-Decides : (op other : Op) → Decides ((op_eq.ghosts).eq op other) (op ≡ other)
op_eq-Decides Add Add = (λ e. refl, λ e. refl)
op_eq-Decides Sub Sub = (λ e. refl, λ e. refl)
op_eq-Decides Mul Mul = (λ e. refl, λ e. refl)
op_eq-Decides _ _ = (λ e. absurd (false≢true e), λ e. absurd (cc))

wide_eq-Decides : (wide other : Operands) → Decides ((wide_eq.ghosts).eq wide other) (wide ≡ other)
wide_eq-Decides wide other =
    Decides-like _ (λ (all : (wide.left ≡ other.left) × ((wide.right ≡ other.right) × (wide.op ≡ other.op))). parts all.0 all.1.0 all.1.1)
    (λ same. (ap (λ t. t.left) same, (ap (λ t. t.right) same, ap (λ t. t.op) same)))
    (Decides-and _ _ (Decides-int_eq wide.left other.left) (Decides-and _ _ (Decides-int_eq wide.right other.right)
    (op_eq-Decides wide.op other.op)))
  where
    parts : wide.left ≡ other.left → wide.right ≡ other.right → wide.op ≡ other.op → wide ≡ other
    parts lefts rights ops =
        ap (λ (t : ℤ). let w : Operands = record { left = t; right = wide.right; op = wide.op } in w) lefts
        ∙ ap (λ (t : ℤ). let w : Operands = record { left = other.left; right = t; op = wide.op } in w) rights
        ∙ ap (λ (t : Op). let w : Operands = record { left = other.left; right = other.right; op = t } in w) ops

pub cause_eq-Decides : (cause other : Cause) → Decides (same_cause cause other) (cause ≡ other)
cause_eq-Decides (Wide wide) (Wide other) = let decided = wide_eq-Decides wide other in
    (λ e. ap (λ t. Wide t) (decided.0 e), λ e. decided.1 (cc))
cause_eq-Decides (Rows count) (Rows other) = let decided = Decides-eqb count other in
    (λ e. ap (λ t. Rows t) (decided.0 e), λ e. decided.1 (cc))
cause_eq-Decides (Nodes count) (Nodes other) = let decided = Decides-eqb count other in
    (λ e. ap (λ t. Nodes t) (decided.0 e), λ e. decided.1 (cc))
cause_eq-Decides (Point num den) (Point other by) =
    Decides-like _ (λ (both : (num ≡ other) × (den ≡ by)). cc) (λ (same : Point num den ≡ Point other by). (cc, cc))
    (Decides-and _ _ (slice_eq-Decides Decides-int_eq num other _ refl) (Decides-int_eq den by))
cause_eq-Decides Given Given = (λ e. refl, λ e. refl)
cause_eq-Decides _ _ = (λ e. absurd (false≢true e), λ e. absurd (cc))

-- where `==` tells which ranks are identical, it tells which plans are
pub plan_eq-Decides : {R : Type 0} (same : R → R → Bool) → ((rank other : R) → Decides (same rank other) (rank ≡ other))
    → (plan other : Plan R) → Decides (same_plan same plan other) (plan ≡ other)
plan_eq-Decides same tells bottom bottom = (λ e. refl, λ e. refl)
plan_eq-Decides same tells (top cause) (top other) = let decided = cause_eq-Decides cause other in
    (λ e. ap (λ t. top t) (decided.0 e), λ e. decided.1 (cc))
plan_eq-Decides same tells (leaf why rank) (leaf other second) =
    Decides-like _ (λ (both : (why ≡ other) × (rank ≡ second)). cc) (λ (whole : leaf why rank ≡ leaf other second). (cc, cc))
    (Decides-and _ _ (why_eq-Decides why other) (tells rank second))
plan_eq-Decides same tells (branch row this that) (branch other first second) =
    Decides-like _ (λ (all : (row ≡ other) × ((this ≡ first) × (that ≡ second))). cc)
    (λ (whole : branch row this that ≡ branch other first second). (cc, (cc, cc)))
    (Decides-and _ _ (row_eq-Decides row other) (Decides-and _ _ (plan_eq-Decides same tells this first)
    (plan_eq-Decides same tells that second)))
plan_eq-Decides same tells _ _ = (λ e. absurd (false≢true e), λ e. absurd (cc))
