-- That a unit is valid has one proof at most, so that the type `Unit` may keep the fact. Nothing else is said here.
use Rattle.std.specs.Prelude.{ℕ, Bool, true, false, Option, None, Some, List, [], ◌∷◌, length, All}
use denote.Struct.Props as logic
use Rattle.step_meaning.specs.Syntax.{Expression, negative, negation, pair, divided}
use Rattle.step_meaning.specs.ValidOnce.{IsNumber-prop, IsTest-prop}
use Rattle.call_meaning.specs.declared.statement.UnitBlock.{UnitBlock}
use Rattle.call_meaning.specs.declared.statement.Func.{Func}
use Rattle.call_meaning.specs.Units.{Command, Commands, assign, call, skip, return, break, continue, if_else, while_loop, do_while, empty, sequence, Table}
use Rattle.call_meaning.specs.Reads.{Places, Reads, AllRead, ValueReads, TargetIsIn, behind, IsSet, AreSet, IsTidy}
use Rattle.call_meaning.specs.Sorts.{AllNumbers, ValueIsNumber, IsSorted, AreSorted, IsNoValue, HasNoValue, HaveNoValue}
use Rattle.call_meaning.specs.Tables.{commands, table_of}
use Rattle.call_meaning.specs.Valid.{IsUnit}
use Rattle.call_meaning.specs.Validity.{MayAsk, Stands, AllStand, Gives, IsClosing, Closes, AreRoutines}

-- ── Sorts ──

AllNumbers-prop : (vars : ℕ) (arguments : List Expression) → IsProp (AllNumbers vars arguments)
AllNumbers-prop vars [] = Prim.hlevel logic.props
AllNumbers-prop vars (a ∷ more) = Prim.hlevel (IsNumber-prop vars a, AllNumbers-prop vars more, logic.props)

ValueIsNumber-prop : (vars : ℕ) (value : Option Expression) → IsProp (ValueIsNumber vars value)
ValueIsNumber-prop vars (Some e) = IsNumber-prop vars e
ValueIsNumber-prop vars None = Prim.hlevel logic.props

mutual
  IsSorted-prop : (vars : ℕ) (first : Command) → IsProp (IsSorted vars first)
  IsSorted-prop vars (assign x e) = Prim.hlevel (IsNumber-prop vars e, logic.props)
  IsSorted-prop vars (call target f arguments) = AllNumbers-prop vars arguments
  IsSorted-prop vars skip = Prim.hlevel logic.props
  IsSorted-prop vars (return value) = ValueIsNumber-prop vars value
  IsSorted-prop vars break = Prim.hlevel logic.props
  IsSorted-prop vars continue = Prim.hlevel logic.props
  IsSorted-prop vars (if_else c one other) = Prim.hlevel (IsTest-prop vars c, AreSorted-prop vars one, AreSorted-prop vars other, logic.props)
  IsSorted-prop vars (while_loop c body step) = Prim.hlevel (IsTest-prop vars c, AreSorted-prop vars body, AreSorted-prop vars step, logic.props)
  IsSorted-prop vars (do_while body c) = Prim.hlevel (AreSorted-prop vars body, IsTest-prop vars c, logic.props)

  AreSorted-prop : (vars : ℕ) (body : Commands) → IsProp (AreSorted vars body)
  AreSorted-prop vars empty = Prim.hlevel logic.props
  AreSorted-prop vars (sequence first more) = Prim.hlevel (IsSorted-prop vars first, AreSorted-prop vars more, logic.props)

all_sorted : (funcs : List Func) → IsProp (All (λ f. AreSorted (length f.names) (commands f.body)) funcs)
all_sorted funcs = let sorted = λ (vars : ℕ) (body : Commands). AreSorted-prop vars body in Prim.hlevel (sorted, logic.props)

IsNoValue-prop : (value : Option Expression) → IsProp (IsNoValue value)
IsNoValue-prop (Some e) = Prim.hlevel logic.props
IsNoValue-prop None = Prim.hlevel logic.props

mutual
  HasNoValue-prop : (first : Command) → IsProp (HasNoValue first)
  HasNoValue-prop (return value) = IsNoValue-prop value
  HasNoValue-prop (assign x e) = Prim.hlevel logic.props
  HasNoValue-prop (call target f arguments) = Prim.hlevel logic.props
  HasNoValue-prop skip = Prim.hlevel logic.props
  HasNoValue-prop break = Prim.hlevel logic.props
  HasNoValue-prop continue = Prim.hlevel logic.props
  HasNoValue-prop (if_else c one other) = Prim.hlevel (HaveNoValue-prop one, HaveNoValue-prop other, logic.props)
  HasNoValue-prop (while_loop c body step) = Prim.hlevel (HaveNoValue-prop body, HaveNoValue-prop step, logic.props)
  HasNoValue-prop (do_while body c) = HaveNoValue-prop body

  HaveNoValue-prop : (body : Commands) → IsProp (HaveNoValue body)
  HaveNoValue-prop empty = Prim.hlevel logic.props
  HaveNoValue-prop (sequence first more) = Prim.hlevel (HasNoValue-prop first, HaveNoValue-prop more, logic.props)

-- ── Routines ──

MayAsk-prop : (target : Option ℕ) (valued : Bool) → IsProp (MayAsk target valued)
MayAsk-prop (Some x) valued = Prim.hlevel logic.props
MayAsk-prop None valued = Prim.hlevel logic.props

module _ (table : Table) (k : ℕ) (may : Bool) where
  mutual
    Stands-prop : (within : Bool) (first : Command) → IsProp (Stands table k may within first)
    Stands-prop within (assign x e) = Prim.hlevel logic.props
    Stands-prop within (call target f arguments) = Prim.hlevel (MayAsk-prop target (table f).valued, logic.props)
    Stands-prop within skip = Prim.hlevel logic.props
    Stands-prop within (return value) = Prim.hlevel logic.props
    Stands-prop within break = Prim.hlevel logic.props
    Stands-prop within continue = Prim.hlevel logic.props
    Stands-prop within (if_else c one other) = Prim.hlevel (AllStand-prop within one, AllStand-prop within other, logic.props)
    Stands-prop within (while_loop c body step) = Prim.hlevel (AllStand-prop true body, AllStand-prop within step, logic.props)
    Stands-prop within (do_while body c) = AllStand-prop true body

    AllStand-prop : (within : Bool) (body : Commands) → IsProp (AllStand table k may within body)
    AllStand-prop within empty = Prim.hlevel logic.props
    AllStand-prop within (sequence first more) = Prim.hlevel (Stands-prop within first, AllStand-prop within more, logic.props)

Gives-prop : (valued : Bool) (value : Option Expression) → IsProp (Gives valued value)
Gives-prop valued (Some e) = Prim.hlevel logic.props
Gives-prop valued None = Prim.hlevel logic.props

module _ (table : Table) (k : ℕ) (valued : Bool) where
  mutual
    IsClosing-prop : (first : Command) → IsProp (IsClosing table k valued first)
    IsClosing-prop (return value) = Gives-prop valued value
    IsClosing-prop (if_else c one other) = Prim.hlevel (Closes-prop one, Closes-prop other, logic.props)
    IsClosing-prop (assign x e) = Prim.hlevel (Stands-prop table k false false (assign x e), logic.props)
    IsClosing-prop (call target f arguments) = Prim.hlevel (Stands-prop table k false false (call target f arguments), logic.props)
    IsClosing-prop skip = Prim.hlevel (Stands-prop table k false false skip, logic.props)
    IsClosing-prop break = Prim.hlevel (Stands-prop table k false false break, logic.props)
    IsClosing-prop continue = Prim.hlevel (Stands-prop table k false false continue, logic.props)
    IsClosing-prop (while_loop c body step) = Prim.hlevel (Stands-prop table k false false (while_loop c body step), logic.props)
    IsClosing-prop (do_while body c) = Prim.hlevel (Stands-prop table k false false (do_while body c), logic.props)

    Closes-prop : (body : Commands) → IsProp (Closes table k valued body)
    Closes-prop empty = Prim.hlevel logic.props
    Closes-prop (sequence first empty) = IsClosing-prop first
    Closes-prop (sequence first (sequence next more)) =
        Prim.hlevel (Stands-prop table k false false first, Closes-prop (sequence next more), logic.props)

AreRoutines-prop : (table : Table) (main : ℕ) → IsProp (AreRoutines table main)
AreRoutines-prop table main =
    let closes = λ (k : ℕ). Closes-prop table k (table k).valued (table k).body in
    let whole = AllStand-prop table main true false (table main).body in
    Prim.hlevel (closes, whole, logic.props)

-- ── Reads ──

Reads-prop : (shown : Places) (e : Expression) → IsProp (Reads shown e)
Reads-prop shown (negative e) = Reads-prop shown e
Reads-prop shown (negation c) = Reads-prop shown c
Reads-prop shown (pair op l r) = Prim.hlevel (Reads-prop shown l, Reads-prop shown r, logic.props)
Reads-prop shown (divided division e by) = Reads-prop shown e
Reads-prop shown _ = Prim.hlevel logic.props

AllRead-prop : (shown : Places) (arguments : List Expression) → IsProp (AllRead shown arguments)
AllRead-prop shown [] = Prim.hlevel logic.props
AllRead-prop shown (a ∷ more) = Prim.hlevel (Reads-prop shown a, AllRead-prop shown more, logic.props)

ValueReads-prop : (shown : Places) (value : Option Expression) → IsProp (ValueReads shown value)
ValueReads-prop shown (Some e) = Reads-prop shown e
ValueReads-prop shown None = Prim.hlevel logic.props

TargetIsIn-prop : (vars : ℕ) (target : Option ℕ) → IsProp (TargetIsIn vars target)
TargetIsIn-prop vars (Some x) = Prim.hlevel logic.props
TargetIsIn-prop vars None = Prim.hlevel logic.props

module _ (table : Table) (vars : ℕ) where
  mutual
    IsSet-prop : (shown : Places) (first : Command) → IsProp (IsSet table vars shown first)
    IsSet-prop shown (assign x e) = Prim.hlevel (Reads-prop shown e, logic.props)
    IsSet-prop shown (call target f arguments) = Prim.hlevel (TargetIsIn-prop vars target, AllRead-prop shown arguments, logic.props)
    IsSet-prop shown skip = Prim.hlevel logic.props
    IsSet-prop shown (return value) = ValueReads-prop shown value
    IsSet-prop shown break = Prim.hlevel logic.props
    IsSet-prop shown continue = Prim.hlevel logic.props
    IsSet-prop shown (if_else c one other) = Prim.hlevel (Reads-prop shown c, AreSet-prop shown one, AreSet-prop shown other, logic.props)
    IsSet-prop shown (while_loop c body step) = Prim.hlevel (Reads-prop shown c, AreSet-prop shown body, AreSet-prop shown step, logic.props)
    IsSet-prop shown (do_while body c) = Prim.hlevel (Reads-prop shown c, AreSet-prop shown body, logic.props)

    AreSet-prop : (shown : Places) (body : Commands) → IsProp (AreSet table vars shown body)
    AreSet-prop shown empty = Prim.hlevel logic.props
    AreSet-prop shown (sequence first more) = Prim.hlevel (IsSet-prop shown first, AreSet-prop (behind shown first) more, logic.props)

IsTidy-prop : (table : Table) (main : ℕ) → IsProp (IsTidy table main)
IsTidy-prop table main =
    let set = λ (vars : ℕ) (shown : Places) (body : Commands). AreSet-prop table vars shown body in
    Prim.hlevel (set, logic.props)

pub IsUnit-prop : (func_names : List (List ℕ)) (funcs : List Func) (names : List (List ℕ)) (body : UnitBlock) → IsProp (IsUnit func_names funcs names body)
IsUnit-prop func_names funcs names body =
    let sorted = all_sorted funcs in
    let main_sorted = AreSorted-prop (length names) (commands body) in
    let valueless = HaveNoValue-prop (commands body) in
    let routines = AreRoutines-prop (table_of funcs names body) (length funcs) in
    let tidy = IsTidy-prop (table_of funcs names body) (length funcs) in
    Prim.hlevel (sorted, main_sorted, valueless, routines, tidy, logic.props)
