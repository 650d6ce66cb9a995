use Rattle.std.proofs.Common.{◌≡◌, ◌∙◌, Some, refl, ap, sym}
use mir.Val.{to_z, of_z}
use borrow.Author.Rules.{sfits_of}
use mir.Syntax.{w64}
use Rattle.std.proofs.lemmas.Int.{to_z-of_z}
use Rattle.derivation.specs.declared.symbol.Symbol.TheVariants as Sym
use Rattle.source_syntax.specs.declared.opening.SizeOpening.TheVariants as SizeOpening
use Rattle.source_syntax.proofs.Steps.{over, goes, stuck, lawful, sign_reads, number_reads}
use Rattle.source_syntax.proofs.Expressions.{sizes}
use Rattle.source_syntax.proofs.Words.{next_word, one_behind, size_word}
use Rattle.source_syntax.proofs.Loops.{told}
use Rattle.source_syntax.proofs.expression.size.Goals as goal

pub returns-in-Number-clause-read : goal.returns-in-Number-clause-read
returns-in-Number-clause-read c =
    let fits = rw c.in-Number.is at c.size_opening.type_inv in
    let kept : to_z w64 (of_z w64 c.in-Number.value) ≡ c.in-Number.value = to_z-of_z w64 c.in-Number.value (sfits_of fits.1.1.1.1.0.1) in
    let opens = sym c.in-Number.is ∙ c.size_opening.ensures in
    λ count. told (ap Some kept) (λ behind. over (goes (sizes behind) count _ (SizeOpening.Number c.in-Number.value) opens)
    (number_reads (next_word c.args.reader.words.now c.args.at (size_word _ (SizeOpening.Number c.in-Number.value) opens))))

pub returns-in-Infinite : goal.returns-in-Infinite
returns-in-Infinite c =
    let opens = sym c.in-Infinite.is ∙ c.size_opening.ensures in
    let word = size_word _ SizeOpening.Infinite opens in record {
      read = λ count behind.
          over (goes (sizes behind) count _ SizeOpening.Infinite opens) (sign_reads Sym.Infinite (refl, refl) (next_word c.args.reader.words.now c.args.at word));
      forward = one_behind c.args.reader.words.now c.args.at word;
      refused = tt;
    }

pub returns-in-Nothing-clause-refused : goal.returns-in-Nothing-clause-refused
returns-in-Nothing-clause-refused c = λ count behind. stuck (sizes behind) lawful count _ _ (λ shut. shut) (sym c.in-Nothing.is ∙ c.size_opening.ensures)
