use Rattle.std.proofs.Common.{◌≡◌, [], ◌∷◌, ◌++◌, ◌∙◌, map, sym, ap, refl, arith, rules}
use Rattle.concrete_syntax.specs.Chains.{items_of}
use Rattle.derivation.specs.declared.symbol.Symbol.TheVariants as Sym
use Rattle.source_syntax.specs.declared.opening.StatementOpening.TheVariants as StatementOpening
use Rattle.source_syntax.specs.declared.opening.ItemOpening.TheVariants as ItemOpening
use Rattle.concrete_syntax.specs.declared.statement.Item.TheVariants as Item
use Rattle.concrete_syntax.specs.Mirror.{item, statement, for_loop as for_kind}
use Rattle.derivation.specs.declared.rule.Rule.TheVariants.{Nesting}
use Rattle.source_syntax.proofs.Steps.{over, fails, refilled, read, exceeds, lawful, goes, stuck, held, failed_on, passed_on, sign_reads, sign_refused, signs_read, signs_refused, opening_reads, opening_refused}
use Rattle.source_syntax.proofs.Statements.{break_signs, break_quiet, continue_signs, continue_quiet, statements, located_statements, all_items, otherwise_ends, elses, not_else}
use Rattle.source_syntax.proofs.Loops.{told_reads, continues_from, one_item_more}
use Rattle.source_syntax.proofs.statement.+statements.Goals as goal

pub braces-returns-in_err-inner-clause-refused : goal.braces-returns-in_err-inner-clause-refused
braces-returns-in_err-inner-clause-refused t c =
    failed_on _ _ _ c.from_residual.ensures
    (λ count behind. fails (goes (statements _ _ behind) count _ StatementOpening.Braces c.requires.opens) (opening_refused _ _ c.in_err-inner.field-0.0 Sym.OpenBrace _ (refl, refl) c.in_err-inner.ensures.missed))

pub braces-returns-in_err-all-clause-refused : goal.braces-returns-in_err-all-clause-refused
braces-returns-in_err-all-clause-refused t c =
    passed_on _ _ _ _ c.from_residual-in_err-all.ensures c.in_err-all.ensures.refused
    (λ fault refused count behind. fails (goes (statements _ _ behind) count _ StatementOpening.Braces c.requires.opens) (fails (opening_reads Sym.OpenBrace _ (refl, refl) c.in_ok-inner.ensures.read c.in_ok-inner.ensures.shallow) (refused _ _)))

pub braces-returns-clause-read : goal.braces-returns-clause-read
braces-returns-clause-read t c = λ count behind.
    (_, over (goes (statements _ _ behind) count _ StatementOpening.Braces c.requires.opens) (over (opening_reads Sym.OpenBrace _ (refl, refl) c.in_ok-inner.ensures.read c.in_ok-inner.ensures.shallow) (c.in_ok-all.ensures.read _ _).1))

pub conditional-returns-in_err-open-clause-refused : goal.conditional-returns-in_err-open-clause-refused
conditional-returns-in_err-open-clause-refused t c =
    failed_on _ _ _ c.from_residual.ensures
    (λ count behind. fails (goes (statements _ _ behind) count _ StatementOpening.If c.requires.opens) (opening_refused _ _ c.in_err-open.field-0.0 Sym.If _ (refl, refl) c.in_err-open.ensures.missed))

pub conditional-returns-in_err-tested-clause-refused : goal.conditional-returns-in_err-tested-clause-refused
conditional-returns-in_err-tested-clause-refused t c =
    passed_on _ _ _ _ c.from_residual-in_err-tested.ensures c.in_err-tested.ensures.refused
    (λ fault refused count behind. fails (goes (statements _ _ behind) count _ StatementOpening.If c.requires.opens) (fails (opening_reads Sym.If _ (refl, refl) c.in_ok-open.ensures.read c.in_ok-open.ensures.shallow) (refused _ _)))

pub conditional-returns-in_err-part-clause-refused : goal.conditional-returns-in_err-part-clause-refused
conditional-returns-in_err-part-clause-refused t c =
    passed_on _ _ _ _ c.from_residual-in_err-part.ensures c.in_err-part.ensures.refused
    (λ fault refused count behind. fails (goes (statements _ _ behind) count _ StatementOpening.If c.requires.opens) (fails (opening_reads Sym.If _ (refl, refl) c.in_ok-open.ensures.read c.in_ok-open.ensures.shallow) (fails (c.in_ok-tested.ensures.read _ _).1 (refused _ _))))

pub conditional-returns-in_err-other-clause-refused : goal.conditional-returns-in_err-other-clause-refused
conditional-returns-in_err-other-clause-refused t c =
    passed_on _ _ _ _ c.from_residual-in_err-other.ensures c.in_err-other.ensures.refused
    (λ fault refused count behind. fails (goes (statements _ _ behind) count _ StatementOpening.If c.requires.opens) (fails (opening_reads Sym.If _ (refl, refl) c.in_ok-open.ensures.read c.in_ok-open.ensures.shallow) (fails (c.in_ok-tested.ensures.read _ _).1 (fails (c.in_ok-part.ensures.read _ _).1 (refused _ _)))))

pub conditional-returns-clause-read : goal.conditional-returns-clause-read
conditional-returns-clause-read t c = λ count behind.
    (_, over (goes (statements _ _ behind) count _ StatementOpening.If c.requires.opens) (over (opening_reads Sym.If _ (refl, refl) c.in_ok-open.ensures.read c.in_ok-open.ensures.shallow) (over (c.in_ok-tested.ensures.read _ _).1 (over (c.in_ok-part.ensures.read _ _).1 (c.in_ok-other.ensures.read _ _).1))))

pub while_loop-returns-in_err-open-clause-refused : goal.while_loop-returns-in_err-open-clause-refused
while_loop-returns-in_err-open-clause-refused t c =
    failed_on _ _ _ c.from_residual.ensures
    (λ count behind. fails (goes (statements _ _ behind) count _ StatementOpening.While c.requires.opens) (opening_refused _ _ c.in_err-open.field-0.0 Sym.While _ (refl, refl) c.in_err-open.ensures.missed))

pub while_loop-returns-in_err-tested-clause-refused : goal.while_loop-returns-in_err-tested-clause-refused
while_loop-returns-in_err-tested-clause-refused t c =
    passed_on _ _ _ _ c.from_residual-in_err-tested.ensures c.in_err-tested.ensures.refused
    (λ fault refused count behind. fails (goes (statements _ _ behind) count _ StatementOpening.While c.requires.opens) (fails (opening_reads Sym.While _ (refl, refl) c.in_ok-open.ensures.read c.in_ok-open.ensures.shallow) (refused _ _)))

pub while_loop-returns-in_err-body-clause-refused : goal.while_loop-returns-in_err-body-clause-refused
while_loop-returns-in_err-body-clause-refused t c =
    passed_on _ _ _ _ c.from_residual-in_err-body.ensures c.in_err-body.ensures.refused
    (λ fault refused count behind. fails (goes (statements _ _ behind) count _ StatementOpening.While c.requires.opens) (fails (opening_reads Sym.While _ (refl, refl) c.in_ok-open.ensures.read c.in_ok-open.ensures.shallow) (fails (c.in_ok-tested.ensures.read _ _).1 (refused _ _))))

pub while_loop-returns-clause-read : goal.while_loop-returns-clause-read
while_loop-returns-clause-read t c = λ count behind.
    (_, over (goes (statements _ _ behind) count _ StatementOpening.While c.requires.opens) (over (opening_reads Sym.While _ (refl, refl) c.in_ok-open.ensures.read c.in_ok-open.ensures.shallow) (over (c.in_ok-tested.ensures.read _ _).1 (c.in_ok-body.ensures.read _ _).1)))

pub do_loop-returns-in_err-inner-clause-refused : goal.do_loop-returns-in_err-inner-clause-refused
do_loop-returns-in_err-inner-clause-refused t c =
    failed_on _ _ _ c.from_residual.ensures
    (λ count behind. fails (goes (statements _ _ behind) count _ StatementOpening.Do c.requires.opens) (opening_refused _ _ c.in_err-inner.field-0.0 Sym.Do _ (refl, refl) c.in_err-inner.ensures.missed))

pub do_loop-returns-in_err-body-clause-refused : goal.do_loop-returns-in_err-body-clause-refused
do_loop-returns-in_err-body-clause-refused t c =
    passed_on _ _ _ _ c.from_residual-in_err-body.ensures c.in_err-body.ensures.refused
    (λ fault refused count behind. fails (goes (statements _ _ behind) count _ StatementOpening.Do c.requires.opens) (fails (opening_reads Sym.Do _ (refl, refl) c.in_ok-inner.ensures.read c.in_ok-inner.ensures.shallow) (refused _ _)))

pub do_loop-returns-in_err-test-clause-refused : goal.do_loop-returns-in_err-test-clause-refused
do_loop-returns-in_err-test-clause-refused t c =
    passed_on _ _ _ _ c.from_residual-in_err-test.ensures c.in_err-test.ensures.refused
    (λ fault refused count behind. fails (goes (statements _ _ behind) count _ StatementOpening.Do c.requires.opens) (fails (opening_reads Sym.Do _ (refl, refl) c.in_ok-inner.ensures.read c.in_ok-inner.ensures.shallow) (fails (c.in_ok-body.ensures.read _ _).1 (refused _ _))))

pub do_loop-returns-clause-read : goal.do_loop-returns-clause-read
do_loop-returns-clause-read t c = λ count behind.
    (_, over (goes (statements _ _ behind) count _ StatementOpening.Do c.requires.opens) (over (opening_reads Sym.Do _ (refl, refl) c.in_ok-inner.ensures.read c.in_ok-inner.ensures.shallow) (over (c.in_ok-body.ensures.read _ _).1 (c.in_ok-test.ensures.read _ _).1)))

pub for_loop-returns-in_err-open-clause-refused : goal.for_loop-returns-in_err-open-clause-refused
for_loop-returns-in_err-open-clause-refused t c =
    failed_on _ _ _ c.from_residual.ensures
    (λ count behind. fails (goes (statements _ _ behind) count _ StatementOpening.For c.requires.opens) (opening_refused _ _ c.in_err-open.field-0.0 Sym.For _ (refl, refl) c.in_err-open.ensures.missed))

pub for_loop-returns-in_err-head-clause-refused : goal.for_loop-returns-in_err-head-clause-refused
for_loop-returns-in_err-head-clause-refused t c =
    passed_on _ _ _ _ c.from_residual-in_err-head.ensures c.in_err-head.ensures.refused
    (λ fault refused count behind. fails (goes (statements _ _ behind) count _ StatementOpening.For c.requires.opens) (fails (opening_reads Sym.For _ (refl, refl) c.in_ok-open.ensures.read c.in_ok-open.ensures.shallow) (refused _ _)))

pub for_loop-returns-in_err-body-clause-refused : goal.for_loop-returns-in_err-body-clause-refused
for_loop-returns-in_err-body-clause-refused t c =
    passed_on _ _ _ _ c.from_residual-in_err-body.ensures c.in_err-body.ensures.refused
    (λ fault refused count behind. fails (goes (statements _ _ behind) count _ StatementOpening.For c.requires.opens) (fails (opening_reads Sym.For _ (refl, refl) c.in_ok-open.ensures.read c.in_ok-open.ensures.shallow) (fails (c.in_ok-head.ensures.read _ _).1 (refused _ _))))

pub for_loop-returns-clause-read : goal.for_loop-returns-clause-read
for_loop-returns-clause-read t c =
    let kept : c.in_ok-boxed.boxed.value
    ≡ record { start = c.in_ok-head.head.start; test = c.in_ok-head.head.test; step = c.in_ok-head.head.step; body = c.in_ok-body.body } =
    search rules
    in
    told_reads (ap for_kind kept) (λ count behind.
    (_, over (goes (statements _ _ behind) count _ StatementOpening.For c.requires.opens) (over (opening_reads Sym.For _ (refl, refl) c.in_ok-open.ensures.read c.in_ok-open.ensures.shallow) (over (c.in_ok-head.ensures.read _ _).1 (c.in_ok-body.ensures.read _ _).1))))

pub otherwise-returns-in_err-part-clause-refused : goal.otherwise-returns-in_err-part-clause-refused
otherwise-returns-in_err-part-clause-refused t c =
    passed_on _ _ _ _ c.from_residual.ensures c.in_err-part.ensures.refused
    (λ fault refused count behind. fails (read (elses _ _ behind) c.in-Some.ensures.read (c.if-inner_levels-gt-MOST_LEVELS.false, tt)) (refused count behind))

pub items-further-init : goal.items-further-init
items-further-init t c =
    let none : c.new-list.result.items ≡ [] = search rules in
    record { forward = omega arith; comes = continues_from _ (λ all. ap (λ l. items_of (map item l) all) (sym none)) }

pub statement-returns-in_err-kind-clause-refused : goal.statement-returns-in_err-kind-clause-refused
statement-returns-in_err-kind-clause-refused t c =
    passed_on _ _ _ _ c.from_residual.ensures c.in_err-kind.ensures.refused
    (λ fault refused count behind. fails (held (located_statements _ _ behind) count _) (refused count behind))

pub statement-returns-clause-read : goal.statement-returns-clause-read
statement-returns-clause-read t c = λ count behind. (_, over (held (located_statements _ _ behind) count _) (c.in_ok-kind.ensures.read count behind).1)

pub boxed-returns-clause-read : goal.boxed-returns-clause-read
boxed-returns-clause-read t c =
    let kept : c.in_ok-boxed.boxed.value ≡ c.in_ok-inner.inner = search rules in
    told_reads (ap statement kept) c.in_ok-inner.ensures.read

pub kind-returns-in_err-next-in-Skip-clause-refused : goal.kind-returns-in_err-next-in-Skip-clause-refused
kind-returns-in_err-next-in-Skip-clause-refused t c =
    failed_on _ _ _ c.from_residual.ensures
    (λ count behind. fails (goes (statements _ _ behind) count _ StatementOpening.Skip (sym c.in-Skip.is ∙ c.opening_of_statement.ensures)) (sign_refused _ _ c.in_err-next-in-Skip.field-0.0 Sym.Semicolon (refl, refl) c.in_err-next-in-Skip.ensures.missed))

pub kind-returns-in_ok-next-in-Skip-clause-read : goal.kind-returns-in_ok-next-in-Skip-clause-read
kind-returns-in_ok-next-in-Skip-clause-read t c = λ count behind.
    (_, over (goes (statements _ _ behind) count _ StatementOpening.Skip (sym c.in-Skip.is ∙ c.opening_of_statement.ensures)) (sign_reads Sym.Semicolon (refl, refl) c.in_ok-next-in-Skip.ensures.read))

pub kind-returns-in_err-next-in-Break-clause-refused : goal.kind-returns-in_err-next-in-Break-clause-refused
kind-returns-in_err-next-in-Break-clause-refused t c =
    failed_on _ _ _ c.from_residual-in_err-next-in-Break.ensures
    (λ count behind. fails (goes (statements _ _ behind) count _ StatementOpening.Break (sym c.in-Break.is ∙ c.opening_of_statement.ensures)) (signs_refused _ break_signs break_quiet c.in_err-next-in-Break.ensures.missed))

pub kind-returns-in_ok-next-in-Break-clause-read : goal.kind-returns-in_ok-next-in-Break-clause-read
kind-returns-in_ok-next-in-Break-clause-read t c = λ count behind.
    (_, over (goes (statements _ _ behind) count _ StatementOpening.Break (sym c.in-Break.is ∙ c.opening_of_statement.ensures)) (signs_read break_signs break_quiet c.in_ok-next-in-Break.ensures.read))

pub kind-returns-in_err-next-in-Continue-clause-refused : goal.kind-returns-in_err-next-in-Continue-clause-refused
kind-returns-in_err-next-in-Continue-clause-refused t c =
    failed_on _ _ _ c.from_residual-in_err-next-in-Continue.ensures
    (λ count behind. fails (goes (statements _ _ behind) count _ StatementOpening.Continue (sym c.in-Continue.is ∙ c.opening_of_statement.ensures)) (signs_refused _ continue_signs continue_quiet c.in_err-next-in-Continue.ensures.missed))

pub kind-returns-in_ok-next-in-Continue-clause-read : goal.kind-returns-in_ok-next-in-Continue-clause-read
kind-returns-in_ok-next-in-Continue-clause-read t c = λ count behind.
    (_, over (goes (statements _ _ behind) count _ StatementOpening.Continue (sym c.in-Continue.is ∙ c.opening_of_statement.ensures)) (signs_read continue_signs continue_quiet c.in_ok-next-in-Continue.ensures.read))

pub kind-returns-in-Nothing-clause-refused : goal.kind-returns-in-Nothing-clause-refused
kind-returns-in-Nothing-clause-refused t c = λ count behind.
    stuck (statements _ _ behind) lawful count _ _ (λ shut. shut) (sym c.in-Nothing.is ∙ c.opening_of_statement.ensures)

pub items-further-preserved-in-Declaration : goal.items-further-preserved-in-Declaration
items-further-preserved-in-Declaration t c =
    let pushed : c.push.new.self.items ≡ c.further.list.items ++ Item.Declaration c.in_ok-further-in-Declaration.further ∷ [] = search rules in record {
      forward = omega (arith, c.further.invariant.forward, c.in_ok-further-in-Declaration.ensures.forward.forward);
      comes = λ count behind. (
        _,
        refilled (λ g. ap (λ all. (all, g.1)) (one_item_more _ _ _ pushed g.0)) (over (c.further.invariant.comes count behind).1
            (over (goes (all_items _ _ behind) _ _ ItemOpening.Declaration (sym c.in-Declaration.is ∙ c.opening_of_item.ensures)) (c.in_ok-further-in-Declaration.ensures.read _ _))),
      );
    }

pub items-further-preserved : goal.items-further-preserved
items-further-preserved t c =
    let pushed : c.push-in-Statement.new.self.items ≡ c.further.list.items ++ Item.Statement c.in_ok-further-in-Statement.further ∷ [] = search rules in record {
      forward = omega (arith, c.further.invariant.forward, c.in_ok-further-in-Statement.ensures.forward.forward);
      comes = λ count behind. (
        _,
        refilled (λ g. ap (λ all. (all, g.1)) (one_item_more _ _ _ pushed g.0)) (over (c.further.invariant.comes count behind).1
            (over (goes (all_items _ _ behind) _ _ ItemOpening.Statement (sym c.in-Statement.is ∙ c.opening_of_item.ensures)) (c.in_ok-further-in-Statement.ensures.read _ _).1)),
      );
    }

pub items-returns-in-Close-clause-read : goal.items-returns-in-Close-clause-read
items-returns-in-Close-clause-read t c = λ count behind. (
  _,
  refilled (λ g. ap (λ all. (all, g)) (sym c.in_ok-all-in-Close.ensures)) (over (c.further.invariant.comes count behind).1
      (over (goes (all_items _ _ behind) _ _ ItemOpening.Close (sym c.in-Close.is ∙ c.opening_of_item.ensures)) (sign_reads Sym.CloseBrace (refl, refl) c.in_ok-next-in-Close.ensures.read))),
)

pub items-returns-in_err-further-in-Declaration-clause-refused : goal.items-returns-in_err-further-in-Declaration-clause-refused
items-returns-in_err-further-in-Declaration-clause-refused t c =
    passed_on _ _ _ _ c.from_residual-in_err-further-in-Declaration.ensures c.in_err-further-in-Declaration.ensures.refused
    (λ fault refused count behind. fails (c.further.invariant.comes count behind).1
    (fails (goes (all_items _ _ behind) _ _ ItemOpening.Declaration (sym c.in-Declaration.is ∙ c.opening_of_item.ensures)) (refused _ _)))

pub items-returns-in_err-further-in-Statement-clause-refused : goal.items-returns-in_err-further-in-Statement-clause-refused
items-returns-in_err-further-in-Statement-clause-refused t c =
    passed_on _ _ _ _ c.from_residual-in_err-further-in-Statement.ensures c.in_err-further-in-Statement.ensures.refused
    (λ fault refused count behind. fails (c.further.invariant.comes count behind).1
    (fails (goes (all_items _ _ behind) _ _ ItemOpening.Statement (sym c.in-Statement.is ∙ c.opening_of_item.ensures)) (refused _ _)))

pub otherwise-returns-clause-read : goal.otherwise-returns-clause-read
otherwise-returns-clause-read t c = λ count behind.
    (_, over (read (elses _ _ behind) c.in-Some.ensures.read (c.if-inner_levels-gt-MOST_LEVELS.false, tt)) (c.in_ok-part.ensures.read count behind).1)

pub otherwise-returns-then-inner_levels-gt-MOST_LEVELS-clause-refused : goal.otherwise-returns-then-inner_levels-gt-MOST_LEVELS-clause-refused
otherwise-returns-then-inner_levels-gt-MOST_LEVELS-clause-refused t c =
    λ count behind. exceeds (elses _ _ behind) lawful c.in-Some.ensures.read Nesting (λ e. cc) c.if-inner_levels-gt-MOST_LEVELS.true

pub otherwise-returns-in_default-clause-read : goal.otherwise-returns-in_default-clause-read
otherwise-returns-in_default-clause-read t c = λ count behind. (_, otherwise_ends _ _ count behind _ (not_else _ c.in_default.ensures.read))
