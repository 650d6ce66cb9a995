use Rattle.std.proofs.Common.{rules, ◌≡◌, ◌∙◌, ℕ, ◌+◌, length, ap, sym, subst}
use Rattle.step_meaning.specs.declared.program.Program.{Program}
use Rattle.step_meaning.specs.Syntax.{size_of, statements}
use Rattle.claim_line.specs.Tells.{Tells}
use Rattle.function_top.specs.Explained.{explained, explanation}
use Rattle.function_top.proofs.Reported.{answer_due, report_due}
use Rattle.function_top.proofs.question.Question.due_over.Goals as goal

pub returns-in-Some-clause-due : goal.returns-in-Some-clause-due
returns-in-Some-clause-due g c = λ task text asked.
    let told = c.in_ok-answer_at-in-Some.ensures.told in
    answer_due task text c.args.self.now asked c.in_ok-found.found _ _ (c.in_ok-found.ensures.finds c.args.self.now.own asked.formula.meant asked.formula.normal_form)
    c.in_ok-answer_at-in-Some.ensures.turns c.in-Some.input c.in-Some.is told.0 told.2.0
    (subst (λ (p : Program). Tells p.names told.2.0 told.0) c.program.ensures told.2.1) told.2.2 _ told.1 (length c.args.advisers.now.items)

pub returns-in-Some-clause-asked : goal.returns-in-Some-clause-asked
returns-in-Some-clause-asked g c =
    let asked = c.in_ok-found.ensures.asked in (asked.0, asked.1, asked.2, c.in_ok-answer_at-in-Some.ensures.turns ∙ asked.3)

pub returns-clause-due : goal.returns-clause-due
returns-clause-due g c = λ task text asked.
    let own = c.args.self.now in
    let shows = c.in_ok-report_on_found-in-None.ensures.shows in
    let turns = c.in_ok-report_on_found-in-None.ensures.turns in
    let found = c.in_ok-found.found in
    let labels = 1 + size_of (statements own.graph.body) in
    let count : c.len-count.result ≡ length c.args.advisers.now.items = search rules in
    let explains = shows.4
    ∙ ap (λ (n : ℕ). explained own.query.explain (explanation labels found.families n found.turns)) count
    ∙ ap (λ (n : ℕ). explained own.query.explain (explanation labels found.families (length c.args.advisers.now.items) n)) (sym turns) in
    report_due task text own asked found _ _ (c.in_ok-found.ensures.finds c.args.self.now.own asked.formula.meant asked.formula.normal_form) turns c.in-None.is shows.0
    (length c.args.advisers.now.items) shows.1 explains shows.2 _ shows.3

pub returns-clause-asked : goal.returns-clause-asked
returns-clause-asked g c =
    let asked = c.in_ok-found.ensures.asked in (asked.0, asked.1, asked.2, c.in_ok-report_on_found-in-None.ensures.turns ∙ asked.3)
