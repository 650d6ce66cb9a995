-- How far a tree reaches: whether it claims everywhere, of which variables it speaks, and whether its rows can be turned.
use Rattle.std.specs.Prelude.{ℕ, ⊤}
use Rattle.linear_cons.specs.Functions.{IsOver, NumbersFit, complement_of}
use Rattle.linear_cons.specs.declared.affine.Affine.{Affine}
use Rattle.decision_tree.specs.Plans.{Plan, bottom, branch, leaf, top}
use Rattle.decision_tree.specs.declared.affine_rank.AffineRank.{AffineRank}
use Rattle.decision_tree.specs.declared.reason.Pick.{Pick}
use Rattle.decision_tree.specs.declared.reason.Pick.TheVariants.{All as EveryState, No, Value, Yes}
use Rattle.decision_tree.specs.declared.reason.Why.{Why}
use Rattle.decision_tree.specs.declared.reason.Why.TheVariants.{Atom, Both, Dead, End, Left, Now, Right, Step}

-- no leaf is undefined
abbrev pub IsWhole : {R : Type 0} → Plan R → Type 0
IsWhole bottom = ⊥
IsWhole (top cause) = ⊥
IsWhole (leaf why rank) = ⊤
IsWhole (branch row this that) = IsWhole this × IsWhole that

-- where the state is picked in which a function's value was put, the function is such
abbrev pub PutIs : (Affine → Type 0) → Pick → Type 0
PutIs IsSuch (Value by) = IsSuch by
PutIs IsSuch EveryState = ⊤
PutIs IsSuch Yes = ⊤
PutIs IsSuch No = ⊤

-- and where a leaf stands for that reason; no other speaks of a function
abbrev pub PickIs : (Affine → Type 0) → Why → Type 0
PickIs IsSuch (Step pick) = PutIs IsSuch pick
PickIs IsSuch End = ⊤
PickIs IsSuch Atom = ⊤
PickIs IsSuch Both = ⊤
PickIs IsSuch Left = ⊤
PickIs IsSuch Right = ⊤
PickIs IsSuch Now = ⊤
PickIs IsSuch Dead = ⊤

-- all rows, ranks and picks of the tree are functions of the variables below the place `vars` alone
abbrev pub IsTreeOver : ℕ → Plan AffineRank → Type 0
IsTreeOver vars (branch row this that) = IsOver vars row.affine × IsTreeOver vars this × IsTreeOver vars that
IsTreeOver vars (leaf why rank) = IsOver vars rank.value × PickIs (IsOver vars) why
IsTreeOver vars bottom = ⊤
IsTreeOver vars (top cause) = ⊤

-- the numbers of each row's complement fit 128 bits
abbrev pub ComplementsFit : {R : Type 0} → Plan R → Type 0
ComplementsFit (branch row this that) = NumbersFit (complement_of row.affine) × ComplementsFit this × ComplementsFit that
ComplementsFit (leaf why rank) = ⊤
ComplementsFit bottom = ⊤
ComplementsFit (top cause) = ⊤
