-- What a reader's error says.
use Rattle.std.specs.Prelude.{◌≢◌, ℕ, ◌<◌, List, ◌∷◌, Result, Ok, Err, ⊤}
use Rattle.derivation.specs.declared.fault.Fault.{Fault as FaultOf}
use Rattle.derivation.specs.declared.fault.Failure.{Failure}
use Rattle.derivation.specs.declared.fault.Failure.TheVariants.{Fault, Memory}
use Rattle.derivation.specs.declared.rule.Rule.{Rule}
use Rattle.derivation.specs.declared.rule.Rule.TheVariants.{Expected, Nesting}
use Rattle.derivation.specs.Languages.{Language}
use Rattle.derivation.specs.Pieces.{Rest}
use Rattle.derivation.specs.Comes.{IsNext}

-- this holds of the fault, unless memory ran out
abbrev pub OnFault : Failure → (FaultOf → Type 0) → Type 0
OnFault (Fault fault) P = P fault
OnFault (Memory error) P = ⊤

-- where a reader answers a fault, and not a tree or that memory ran out, this holds of it
abbrev pub IfFault : {X : Type 0} → Result X Failure → (FaultOf → Type 0) → Type 0
IfFault (Ok found) P = ⊤
IfFault (Err failure) P = OnFault failure P

-- why a word isn't the one that has to stand here
abbrev pub MissesWord : {L : Language} → Rest L → L.Word → Rule → Type 0
MissesWord {L} from wanted Expected = (to : List L.Word) → from.words ≢ wanted ∷ to
MissesWord from wanted _ = ⊥

-- why it isn't, or opens level 65
abbrev pub MissesOpening : {L : Language} → Rest L → L.Word → ℕ → Rule → Type 0
MissesOpening {L} from wanted level Nesting = ((to : Rest L) × IsNext wanted from to) × (64 < level)
MissesOpening from wanted level rule = MissesWord from wanted rule

-- why it is none of this kind
abbrev pub MissesKind : {L : Language} {X : Type 0} → Rest L → (X → L.Word) → Rule → Type 0
MissesKind {L} {X} from kind Expected = (x : X) (to : List L.Word) → from.words ≢ kind x ∷ to
MissesKind from kind _ = ⊥
