-- Operators group by the ladder of C99.
use Rattle.std.proofs.Common.{◌≡◌, ℕ, ◌<◌, ◌≤◌, Bool, true, false, nat_lt, List, [], ◌∷◌, ◌++◌, refl, ap, sym, ◌∙◌, arith, if◌then◌else◌}
use Rattle.std.proofs.lemmas.Bool.{false≢true, lt-ltb}
use Rattle.std.proofs.lemmas.Bool.Decides.{Decides-ltb}
use Rattle.std.proofs.lemmas.List.{append_assoc}
use Rattle.step_meaning.specs.declared.expression.Op2.{Op2}
use Rattle.step_meaning.specs.declared.expression.Op2.TheVariants.{Add, Sub, Mul, Less, LessEqual, Greater, GreaterEqual, Equal, NotEqual, And, Or}
use Rattle.typed_expressions.specs.Grouping.{Grouped, leaf, node, divided, Joint, operator, divisor, joined, attach, tightness, joint_tightness, first_operand, further_operands, IsLadder, BindsAtLeast, BindsMoreThan}

joined_first : {A : Type 0} (group : Grouped A) (joint : Joint A) → first_operand (joined group joint) ≡ first_operand group
joined_first group (operator op right) = refl
joined_first group (divisor sign by) = refl

pub attach_first : {A : Type 0} (group : Grouped A) (joint : Joint A) → first_operand (attach group joint) ≡ first_operand group
attach_first (leaf a) joint = joined_first (leaf a) joint
attach_first (node top l r) joint = by_order (nat_lt (tightness top) (joint_tightness joint))
  where
    by_order : (less : Bool) → first_operand (if less then node top l (attach r joint) else joined (node top l r) joint) ≡ first_operand l
    by_order true = refl
    by_order false = joined_first (node top l r) joint
attach_first (divided sign l by) joint = joined_first (divided sign l by) joint

joined_further : {A : Type 0} (group : Grouped A) (joint : Joint A) → further_operands (joined group joint) ≡ further_operands group ++ joint ∷ []
joined_further group (operator op right) = refl
joined_further group (divisor sign by) = refl

pub attach_further : {A : Type 0} (group : Grouped A) (joint : Joint A) → further_operands (attach group joint) ≡ further_operands group ++ joint ∷ []
attach_further (leaf a) joint = joined_further (leaf a) joint
attach_further (node top l r) joint =
    let first = attach_first r joint in
    let further = attach_further r joint in
    by_order first further (nat_lt (tightness top) (joint_tightness joint))
  where
    by_order : first_operand (attach r joint) ≡ first_operand r
        → further_operands (attach r joint) ≡ further_operands r ++ joint ∷ []
        → (less : Bool)
        → further_operands (if less then node top l (attach r joint) else joined (node top l r) joint)
        ≡ (further_operands l ++ operator top (first_operand r) ∷ further_operands r) ++ joint ∷ []
    by_order first further true =
        ap (λ a. further_operands l ++ operator top a ∷ further_operands (attach r joint)) first
        ∙ ap (λ more. further_operands l ++ operator top (first_operand r) ∷ more) further
        ∙ sym (append_assoc (further_operands l) (operator top (first_operand r) ∷ further_operands r) (joint ∷ []))
    by_order first further false = joined_further (node top l r) joint
attach_further (divided sign l by) joint = joined_further (divided sign l by) joint

-- what binds more tightly than k is still so with an operator that does
joined_more : {A : Type 0} (k : ℕ) (group : Grouped A) (joint : Joint A) → k < joint_tightness joint → BindsMoreThan k (joined group joint)
joined_more k group (operator op right) less = less
joined_more k group (divisor sign by) less = less

binds_more : {A : Type 0} (k : ℕ) (group : Grouped A) (joint : Joint A) → BindsMoreThan k group → k < joint_tightness joint → BindsMoreThan k (attach group joint)
binds_more k (leaf a) joint binds less = joined_more k (leaf a) joint less
binds_more k (node top l r) joint binds less = by_order (nat_lt (tightness top) (joint_tightness joint))
  where
    by_order : (low : Bool) → BindsMoreThan k (if low then node top l (attach r joint) else joined (node top l r) joint)
    by_order true = binds
    by_order false = joined_more k (node top l r) joint less
binds_more k (divided sign l by) joint binds less = joined_more k (divided sign l by) joint less

-- nothing binds more tightly than a division
tightest : (op : Op2) → tightness op ≤ tightness Mul
tightest Or = omega arith
tightest And = omega arith
tightest Equal = omega arith
tightest NotEqual = omega arith
tightest Less = omega arith
tightest LessEqual = omega arith
tightest Greater = omega arith
tightest GreaterEqual = omega arith
tightest Add = omega arith
tightest Sub = omega arith
tightest Mul = omega arith

tightest_joint : {A : Type 0} (joint : Joint A) → joint_tightness joint ≤ tightness Mul
tightest_joint (operator op right) = tightest op
tightest_joint (divisor sign by) = omega arith

joined_ladder : {A : Type 0} (group : Grouped A) (joint : Joint A) → BindsAtLeast (joint_tightness joint) group → IsLadder group → IsLadder (joined group joint)
joined_ladder group (operator op right) least is = (least, tt, is, tt)
joined_ladder group (divisor sign by) least is = (least, is)

pub attach_ladder : {A : Type 0} (group : Grouped A) (joint : Joint A) → IsLadder group → IsLadder (attach group joint)
attach_ladder (leaf a) joint is = joined_ladder (leaf a) joint tt tt
attach_ladder (node top l r) joint is =
    let inner = attach_ladder r joint is.3 in
    by_order inner (nat_lt (tightness top) (joint_tightness joint)) refl
  where
    by_order : IsLadder (attach r joint) → (less : Bool) → nat_lt (tightness top) (joint_tightness joint) ≡ less
        → IsLadder (if less then node top l (attach r joint) else joined (node top l r) joint)
    by_order inner true e = (is.0, binds_more (tightness top) r joint is.1 ((Decides-ltb (tightness top) (joint_tightness joint)).0 e), is.2, inner)
    by_order inner false e =
        let not_less : ¬ (tightness top < joint_tightness joint) = λ less. false≢true (sym e ∙ lt-ltb (tightness top) (joint_tightness joint) less) in
        joined_ladder (node top l r) joint (omega (arith, not_less)) is
attach_ladder (divided sign l by) joint is = joined_ladder (divided sign l by) joint (tightest_joint joint) is

-- ---- one group

-- further operators and operands, one after the other
abbrev build : {A : Type 0} → Grouped A → List (Joint A) → Grouped A
build group [] = group
build group (more ∷ rest) = build (attach group more) rest

build_both : {A : Type 0} (group : Grouped A) (some rest : List (Joint A)) → build group (some ++ rest) ≡ build (build group some) rest
build_both group [] rest = refl
build_both group (more ∷ some) rest = build_both (attach group more) some rest

-- all of the list bind more tightly than k
abbrev BindMore : {A : Type 0} → ℕ → List (Joint A) → Type 0
BindMore k [] = Unit {0}
BindMore k (more ∷ rest) = (k < joint_tightness more) × BindMore k rest

both_bind : {A : Type 0} (k : ℕ) (some rest : List (Joint A)) → BindMore k some → BindMore k rest → BindMore k (some ++ rest)
both_bind k [] rest here there = there
both_bind k (more ∷ some) rest here there = (here.0, both_bind k some rest here.1 there)

left_binds : {A : Type 0} (k high : ℕ) (l : Grouped A) → BindsAtLeast high l → k < high → BindsMoreThan k l
left_binds k high (leaf a) least less = tt
left_binds k high (node top l r) least less = omega arith
left_binds k high (divided sign l by) least less = omega arith

right_binds : {A : Type 0} (k high : ℕ) (r : Grouped A) → BindsMoreThan high r → k < high → BindsMoreThan k r
right_binds k high (leaf a) more less = tt
right_binds k high (node top l r) more less = omega arith
right_binds k high (divided sign l by) more less = omega arith

-- in a group by the ladder all operators bind as its own do
further_bind : {A : Type 0} (k : ℕ) (group : Grouped A) → IsLadder group → BindsMoreThan k group → BindMore k (further_operands group)
further_bind k (leaf a) is binds = tt
further_bind k (node op l r) is binds =
    both_bind k (further_operands l) (operator op (first_operand r) ∷ further_operands r)
    (further_bind k l is.2 (left_binds k (tightness op) l is.0 binds))
    (binds, further_bind k r is.3 (right_binds k (tightness op) r is.1 binds))
further_bind k (divided sign l by) is binds =
    both_bind k (further_operands l) (divisor sign by ∷ []) (further_bind k l is.1 (left_binds k (tightness Mul) l is.0 binds)) (binds, tt)

-- behind a group of operators that bind at least as tightly an operator takes the whole group
attach_whole : {A : Type 0} (group : Grouped A) (joint : Joint A) → BindsAtLeast (joint_tightness joint) group → attach group joint ≡ joined group joint
attach_whole (leaf a) joint least = refl
attach_whole (node top l r) joint least = by_order (nat_lt (tightness top) (joint_tightness joint)) refl
  where
    by_order : (less : Bool) → nat_lt (tightness top) (joint_tightness joint) ≡ less
        → (if less then node top l (attach r joint) else joined (node top l r) joint) ≡ joined (node top l r) joint
    by_order true e = absurd (let less = (Decides-ltb (tightness top) (joint_tightness joint)).0 e in omega arith)
    by_order false e = refl
attach_whole (divided sign l by) joint least = refl

-- operators that bind more tightly go into the right operand
build_right : {A : Type 0} (op : Op2) (l r : Grouped A) (more : List (Joint A)) → BindMore (tightness op) more → build (node op l r) more ≡ node op l (build r more)
build_right op l r [] binds = refl
build_right op l r (more ∷ rest) binds =
    ap (λ group. build group rest) (into_right (nat_lt (tightness op) (joint_tightness more)) (lt-ltb (tightness op) (joint_tightness more) binds.0))
    ∙ build_right op l (attach r more) rest binds.1
  where
    into_right : (less : Bool) → less ≡ true
        → (if less then node op l (attach r more) else joined (node op l r) more) ≡ node op l (attach r more)
    into_right true e = refl
    into_right false e = absurd (false≢true e)

-- a group by the ladder is what its operands and operators build
built : {A : Type 0} (group : Grouped A) → IsLadder group → build (leaf (first_operand group)) (further_operands group) ≡ group
built (leaf a) is = refl
built (node op l r) is =
    build_both (leaf (first_operand l)) (further_operands l) (operator op (first_operand r) ∷ further_operands r)
    ∙ ap (λ group. build (attach group (operator op (first_operand r))) (further_operands r)) (built l is.2)
    ∙ ap (λ group. build group (further_operands r)) (attach_whole l (operator op (first_operand r)) is.0)
    ∙ build_right op l (leaf (first_operand r)) (further_operands r) (further_bind (tightness op) r is.3 is.1)
    ∙ ap (λ right. node op l right) (built r is.3)
built (divided sign l by) is =
    build_both (leaf (first_operand l)) (further_operands l) (divisor sign by ∷ [])
    ∙ ap (λ group. attach group (divisor sign by)) (built l is.1)
    ∙ attach_whole l (divisor sign by) is.0

pub one_ladder : {A : Type 0} (group other : Grouped A) → IsLadder group → IsLadder other → first_operand group ≡ first_operand other
    → further_operands group ≡ further_operands other → group ≡ other
one_ladder group other is also first further =
    sym (built group is) ∙ ap (λ a. build (leaf a) (further_operands group)) first ∙ ap (λ more. build (leaf (first_operand other)) more) further ∙ built other also
