-- The readers' answers as steps of the calculus.
use Rattle.std.proofs.Common.{◌≡◌, inl, inr, ℕ, ◌≤◌, ℤ, List, [], ◌∷◌, Some, refl, sym, subst, arith}
use Rattle.derivation.specs.declared.rule.Rule.{Rule}
use Rattle.derivation.specs.declared.symbol.Symbol.{Symbol}
use Rattle.derivation.specs.declared.lexeme.Lexeme.{Lexeme}
use Rattle.derivation.specs.Word.{symbol, name as named, number as numbered}
use Rattle.derivation.specs.Comes.{IsNext}
use Rattle.derivation.specs.Failures.{MissesWord, MissesOpening, MissesKind}
use Rattle.source_syntax.specs.Language.{Rest, IsQuiet, rest_from}
use Rattle.derivation.specs.declared.fault.Fault.{Fault}
use Rattle.source_syntax.specs.Spelling.{plain, sign, leading, opening, leading_opening}
use Rattle.source_syntax.specs.Pending.{Pending, exactly, a_name, bytes_of_a_name, a_number, a_place, Trees, grammar, Leads, Stops}
use Rattle.source_syntax.specs.Reads.{AreNext, MissesOne}
use Rattle.derivation.proofs.Grammars.{over, fails, stay, read}
use Rattle.derivation.proofs.Choices.{held}
use Rattle.derivation.proofs.Answering.{kind_missed, word_missed, opening_missed, there}
use Rattle.source_syntax.proofs.Completions.{lawful}
use Rattle.source_syntax.proofs.Expressions.{tokens, places, names, name_bytes, numbers}

module _ {c : ℕ} {S : List Pending} {from to : Rest} where
  pub sign_reads : (s : Symbol) (quiet : IsQuiet (Some (symbol s))) → IsNext (symbol s) from to
      → Leads c (exactly (sign s) quiet ∷ S) from c S to (λ g. (tt, g))
  sign_reads s quiet e = read (tokens (sign s) quiet S) e (omega arith, tt)

  pub leading_reads : (s : Symbol) (quiet : IsQuiet (Some (symbol s))) → IsNext (symbol s) from to
      → Leads c (exactly (leading s) quiet ∷ S) from 0 S to (λ g. (tt, g))
  leading_reads s quiet e = read (tokens (leading s) quiet S) e (omega arith, tt)

  pub opening_reads : (s : Symbol) (level : ℕ) (quiet : IsQuiet (Some (symbol s))) → IsNext (symbol s) from to → level ≤ 64
      → Leads c (exactly (opening s level) quiet ∷ S) from c S to (λ g. (tt, g))
  opening_reads s level quiet e shallow = read (tokens (opening s level) quiet S) e (shallow, tt)

  pub leading_opening_reads : (s : Symbol) (level : ℕ) (quiet : IsQuiet (Some (symbol s))) → IsNext (symbol s) from to → level ≤ 64
      → Leads c (exactly (leading_opening s level) quiet ∷ S) from 0 S to (λ g. (tt, g))
  leading_opening_reads s level quiet e shallow = read (tokens (leading_opening s level) quiet S) e (shallow, tt)

  pub number_reads : {z : ℤ} → IsNext (numbered z) from to → Leads c (exactly (plain (numbered z)) (refl, refl) ∷ S) from c S to (λ g. (tt, g))
  number_reads {z} e = read (tokens (plain (numbered z)) (refl, refl) S) e (omega arith, tt)

  pub sign_at_reads : (s : Symbol) (quiet : IsQuiet (Some (symbol s))) → IsNext (symbol s) from to
      → Leads c (a_place ∷ exactly (sign s) quiet ∷ S) from c S to (λ g. (from.number, (tt, g)))
  sign_at_reads s quiet e = over (held (places (exactly (sign s) quiet ∷ S)) c from) (sign_reads s quiet e)

  pub bytes_reads : {x : List ℕ} → IsNext (named x) from to → Leads c (bytes_of_a_name ∷ S) from c S to (λ g. (x, g))
  bytes_reads {x} e = read (name_bytes x S) e (omega arith, tt)

  pub name_reads : {x : List ℕ} → IsNext (named x) from to → Leads c (a_name ∷ S) from c S to (λ g. (record { at = from.number; bytes = x }, g))
  name_reads {x} e = over (held (names S) c from) (bytes_reads e)

  pub number_at_reads : {z : ℤ} → IsNext (numbered z) from to → Leads c (a_place ∷ a_number ∷ S) from c S to (λ g. (from.number, (z, g)))
  number_at_reads {z} e = over (held (places (a_number ∷ S)) c from) (read (numbers z S) e (omega arith, tt))

-- the same for faults
module _ {c : ℕ} {S : List Pending} (lexemes : List Lexeme) (at : ℕ) (fault : Fault) where
  pub sign_refused : (s : Symbol) (quiet : IsQuiet (Some (symbol s))) → MissesWord (rest_from lexemes at) (symbol s) fault.rule × (fault.at ≡ at)
      → Stops c (exactly (sign s) quiet ∷ S) (rest_from lexemes at) fault.rule (rest_from lexemes fault.at)
  sign_refused s quiet h =
      there grammar (rest_from lexemes) at fault h.1 (word_missed lawful (exactly (sign s) quiet ∷ S) (symbol s) (λ f. refl) fault.rule h.0)

  pub leading_refused : (s : Symbol) (quiet : IsQuiet (Some (symbol s))) → MissesWord (rest_from lexemes at) (symbol s) fault.rule × (fault.at ≡ at)
      → Stops c (exactly (leading s) quiet ∷ S) (rest_from lexemes at) fault.rule (rest_from lexemes fault.at)
  leading_refused s quiet h =
      there grammar (rest_from lexemes) at fault h.1 (word_missed lawful (exactly (leading s) quiet ∷ S) (symbol s) (λ f. refl) fault.rule h.0)

  pub opening_refused : (s : Symbol) (level : ℕ) (quiet : IsQuiet (Some (symbol s))) → MissesOpening (rest_from lexemes at) (symbol s) level fault.rule × (fault.at ≡ at)
      → Stops c (exactly (opening s level) quiet ∷ S) (rest_from lexemes at) fault.rule (rest_from lexemes fault.at)
  opening_refused s level quiet h =
      there grammar (rest_from lexemes) at fault h.1 (opening_missed lawful _ (tokens (opening s level) quiet S) (λ f. refl) fault.rule h.0)

  pub leading_opening_refused : (s : Symbol) (level : ℕ) (quiet : IsQuiet (Some (symbol s)))
      → MissesOpening (rest_from lexemes at) (symbol s) level fault.rule × (fault.at ≡ at)
      → Stops c (exactly (leading_opening s level) quiet ∷ S) (rest_from lexemes at) fault.rule (rest_from lexemes fault.at)
  leading_opening_refused s level quiet h =
      there grammar (rest_from lexemes) at fault h.1 (opening_missed lawful _ (tokens (leading_opening s level) quiet S) (λ f. refl) fault.rule h.0)

  pub sign_at_refused : (s : Symbol) (quiet : IsQuiet (Some (symbol s))) → MissesWord (rest_from lexemes at) (symbol s) fault.rule × (fault.at ≡ at)
      → Stops c (a_place ∷ exactly (sign s) quiet ∷ S) (rest_from lexemes at) fault.rule (rest_from lexemes fault.at)
  sign_at_refused s quiet h = fails (held (places (exactly (sign s) quiet ∷ S)) c (rest_from lexemes at)) (sign_refused s quiet h)

  pub bytes_refused : MissesKind (rest_from lexemes at) named fault.rule × (fault.at ≡ at)
      → Stops c (bytes_of_a_name ∷ S) (rest_from lexemes at) fault.rule (rest_from lexemes fault.at)
  bytes_refused h = there grammar (rest_from lexemes) at fault h.1 (kind_missed lawful (bytes_of_a_name ∷ S) named (λ f. (f.0, refl)) fault.rule h.0)

  pub name_refused : MissesKind (rest_from lexemes at) named fault.rule × (fault.at ≡ at)
      → Stops c (a_name ∷ S) (rest_from lexemes at) fault.rule (rest_from lexemes fault.at)
  name_refused h = fails (held (names S) c (rest_from lexemes at)) (bytes_refused h)

  pub number_at_refused : MissesKind (rest_from lexemes at) numbered fault.rule × (fault.at ≡ at)
      → Stops c (a_place ∷ a_number ∷ S) (rest_from lexemes at) fault.rule (rest_from lexemes fault.at)
  number_at_refused h =
      fails (held (places (a_number ∷ S)) c (rest_from lexemes at))
      (there grammar (rest_from lexemes) at fault h.1 (kind_missed lawful (a_number ∷ S) numbered (λ f. (f.0, refl)) fault.rule h.0))

-- signs one behind the other
abbrev pub AreQuiet : List Symbol → Type 0
AreQuiet [] = Unit {0}
AreQuiet (s ∷ more) = IsQuiet (Some (symbol s)) × AreQuiet more

abbrev pub in_turn : (all : List Symbol) → AreQuiet all → List Pending → List Pending
in_turn [] quiet S = S
in_turn (s ∷ more) quiet S = exactly (sign s) quiet.0 ∷ in_turn more quiet.1 S

abbrev pub units : (all : List Symbol) (quiet : AreQuiet all) (S : List Pending) → Trees S → Trees (in_turn all quiet S)
units [] quiet S g = g
units (s ∷ more) quiet S g = (tt, units more quiet.1 S g)

abbrev pub behind_units : (all : List Symbol) (quiet : AreQuiet all) (S : List Pending) → Trees (in_turn all quiet S) → Trees S
behind_units [] quiet S g = g
behind_units (s ∷ more) quiet S g = behind_units more quiet.1 S g.1

module _ {c : ℕ} {S : List Pending} where
  pub signs_read : (all : List Symbol) (quiet : AreQuiet all) {from to : Rest} → AreNext all from to
      → Leads c (in_turn all quiet S) from c S to (units all quiet S)
  signs_read [] quiet {from} {to} h = subst (λ to. Leads c S from c S to (λ g. g)) h (stay c S from)
  signs_read (s ∷ more) quiet h = over (sign_reads s quiet.0 h.1) (signs_read more quiet.1 h.2)

pub signs_refused : {c : ℕ} (S : List Pending) (all : List Symbol) (quiet : AreQuiet all) {from to : Rest} {rule : Rule}
    → MissesOne all from rule to → Stops c (in_turn all quiet S) from rule to
signs_refused S [] quiet h = absurd h
signs_refused {c} S (s ∷ more) quiet {from} {to} {rule} (inl h) =
    subst (λ to. Stops c (in_turn (s ∷ more) quiet S) from rule to) (sym h.1) (word_missed lawful (in_turn (s ∷ more) quiet S) (symbol s) (λ f. refl) rule h.0)
signs_refused S (s ∷ more) quiet (inr h) = fails (sign_reads s quiet.0 h.1) (signs_refused S more quiet.1 h.2)
