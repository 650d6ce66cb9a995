-- The readers' answers as steps of the calculus.
use Rattle.std.proofs.Common.{◌≡◌, ℕ, ℤ, ◌≤◌, List, Some, refl, sym, subst, arith}
use Rattle.derivation.specs.Comes.{IsNext}
use Rattle.formula_syntax.specs.declared.sign.Sign.{Sign}
use Rattle.formula_syntax.specs.declared.lexeme.Lexeme.{Lexeme}
use Rattle.derivation.specs.declared.fault.Fault.{Fault}
use Rattle.derivation.specs.Failures.{MissesWord, MissesOpening, MissesKind}
use Rattle.formula_syntax.specs.Words.{sign, name as named, number as numbered}
use Rattle.formula_syntax.specs.Language.{Rest, IsQuiet, rest_from}
use Rattle.formula_syntax.specs.Spelling.{plain, mark, opening}
use Rattle.formula_syntax.specs.Pending.{Pending, exactly, bytes_of_a_name, TreeOf, Sequence, first_read, then_read, grammar, Leads, Stops}
use Rattle.formula_syntax.specs.Reads.{Reads}
use Rattle.derivation.proofs.Grammars.{read}
use Rattle.derivation.proofs.Answering.{kind_missed, word_missed, opening_missed, there}
use Rattle.formula_syntax.proofs.Completions.{lawful}
use Rattle.formula_syntax.proofs.Sums.{tokens, names}

module _ {c : ℕ} {S : Sequence} {from to : Rest} where
  pub mark_reads : (s : Sign) (quiet : IsQuiet (Some (sign s))) → IsNext (sign s) from to
      → Leads c (then_read (exactly (mark s) quiet) S) from c S to (λ g. (tt, g))
  mark_reads s quiet e = read (tokens (mark s) quiet S) e (omega arith, tt)

  pub opening_reads : (s : Sign) (level : ℕ) (quiet : IsQuiet (Some (sign s))) → IsNext (sign s) from to → level ≤ 64
      → Leads c (then_read (exactly (opening s level) quiet) S) from c S to (λ g. (tt, g))
  opening_reads s level quiet e shallow = read (tokens (opening s level) quiet S) e (shallow, tt)

  pub number_reads : {z : ℤ} → IsNext (numbered z) from to → Leads c (then_read (exactly (plain (numbered z)) (refl, refl)) S) from c S to (λ g. (tt, g))
  number_reads {z} e = read (tokens (plain (numbered z)) (refl, refl) S) e (omega arith, tt)

pub bytes_reads : {c : ℕ} {K : List ℕ → Sequence} {from to : Rest} {x : List ℕ} → IsNext (named x) from to
    → Leads c (first_read bytes_of_a_name K) from c (K x) to (λ g. (x, g))
bytes_reads {c} {K} {from} {to} {x} e = read (names x K) e (omega arith, tt)

-- the same for faults
module _ {c : ℕ} (lexemes : List Lexeme) (at : ℕ) (fault : Fault) where
  pub mark_refused : {S : Sequence} (s : Sign) (quiet : IsQuiet (Some (sign s))) → MissesWord (rest_from lexemes at) (sign s) fault.rule × (fault.at ≡ at)
      → Stops c (then_read (exactly (mark s) quiet) S) (rest_from lexemes at) fault.rule (rest_from lexemes fault.at)
  mark_refused {S} s quiet h =
      there grammar (rest_from lexemes) at fault h.1 (word_missed lawful (then_read (exactly (mark s) quiet) S) (sign s) (λ f. refl) fault.rule h.0)

  pub opening_refused : {S : Sequence} (s : Sign) (level : ℕ) (quiet : IsQuiet (Some (sign s))) → MissesOpening (rest_from lexemes at) (sign s) level fault.rule × (fault.at ≡ at)
      → Stops c (then_read (exactly (opening s level) quiet) S) (rest_from lexemes at) fault.rule (rest_from lexemes fault.at)
  opening_refused {S} s level quiet h =
      there grammar (rest_from lexemes) at fault h.1 (opening_missed lawful _ (tokens (opening s level) quiet S) (λ f. refl) fault.rule h.0)

  pub bytes_refused : {K : List ℕ → Sequence} → MissesKind (rest_from lexemes at) named fault.rule × (fault.at ≡ at)
      → Stops c (first_read bytes_of_a_name K) (rest_from lexemes at) fault.rule (rest_from lexemes fault.at)
  bytes_refused {K} h =
      there grammar (rest_from lexemes) at fault h.1 (kind_missed lawful (first_read bytes_of_a_name K) named (λ f. (f.0, refl)) fault.rule h.0)

-- a tree that is told by an equation
pub told : {count now : ℕ} {p : Pending} {t u : TreeOf p} {from to : Rest} → t ≡ u → Reads count p u from now to → Reads count p t from now to
told {count} {now} {p} {t} {u} {from} {to} e r = subst (λ t. Reads count p t from now to) (sym e) r
