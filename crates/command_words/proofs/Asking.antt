-- What values ask for, where it is known what one of their parts asks for.
use Rattle.std.proofs.Common.{◌≡◌, ◌∙◌, ◌↔◌, ℕ, false, true, Option, None, Some, refl, sym, ap, subst, codes}
use Rattle.std.proofs.lemmas.Option.{same_Some}
use Rattle.clap.specs.Words.{Text}
use Rattle.command_words.specs.declared.order.Domain.{Domain}
use Rattle.command_words.specs.Order.{IsAlone, IsCount, IsFit, IsGiven, IsTask, Request, Requests, Task, analysis, demo, fit}

module _ (value : Text → Option Text) where
  -- where `--demo` has a text, they ask for the demo program that it names
  pub demo_requests : (text : Text) (number : ℕ) → value (codes "demo") ≡ Some text → IsCount text number → IsAlone value
      → ((other : ℕ) → IsCount text other → other ≡ number) → (request : Request) → (Some (demo number) ≡ Some request) ↔ Requests value request
  demo_requests text number is count alone only request = (
    λ same. subst (λ r. Requests value r) (same_Some (demo number) request same) (text, is, count, alone),
    λ asked. back request asked,
  )
    where
      back : (r : Request) → Requests value r → Some (demo number) ≡ Some r
      back (analysis task) asked = let none = asked.0 in cc
      back (demo other) asked =
          let own : IsCount text other = subst (λ t. IsCount t other) (same_Some asked.0 text (sym asked.1 ∙ is)) asked.2 in
          ap (λ n. Some (demo n)) (sym (only other own))
      back (fit domain) asked = let none = asked.0 in cc

  -- where it has no number, or doesn't stand alone, they ask for nothing
  pub no_demo : (text : Text) → value (codes "demo") ≡ Some text → ((number : ℕ) → ¬ (IsCount text number × IsAlone value))
      → (request : Request) → ¬ Requests value request
  no_demo text is none (analysis task) asked = let no = asked.0 in cc
  no_demo text is none (demo number) asked =
      none number (subst (λ t. IsCount t number) (same_Some asked.0 text (sym asked.1 ∙ is)) asked.2, asked.3)
  no_demo text is none (fit domain) asked = let no = asked.0 in cc

  -- where it isn't given, and `--fit` isn't, they ask for the analysis that the others ask for
  pub task_requests : (task : Task) → value (codes "demo") ≡ None → IsGiven (value (codes "fit")) false → ((other : Task) → (Some task ≡ Some other) ↔ IsTask value other)
      → (request : Request) → (Some (analysis task) ≡ Some request) ↔ Requests value request
  task_requests task none unasked is request = (
    λ same. subst (λ r. Requests value r) (same_Some (analysis task) request same) (none, unasked, (is task).0 refl),
    λ asked. back request asked,
  )
    where
      back : (r : Request) → Requests value r → Some (analysis task) ≡ Some r
      back (analysis other) asked = ap (λ t. Some (analysis t)) (same_Some task other ((is other).1 asked.2))
      back (demo number) asked = let given = asked.1 in cc
      back (fit domain) asked = absurd (unasked asked.1.asked)

  -- where these ask for none, they ask for nothing
  pub no_task : value (codes "demo") ≡ None → IsGiven (value (codes "fit")) false → ((task : Task) → ¬ IsTask value task)
      → (request : Request) → ¬ Requests value request
  no_task none unasked lacks (analysis task) asked = lacks task asked.2
  no_task none unasked lacks (demo number) asked = let given = asked.1 in cc
  no_task none unasked lacks (fit domain) asked = unasked asked.1.asked

  -- where `--fit` is given, they ask what fits over the sets that are named
  pub fit_requests : (domain : Domain) → value (codes "demo") ≡ None → IsGiven (value (codes "fit")) true
      → ((other : Domain) → (Some domain ≡ Some other) ↔ IsFit value other) → (request : Request) → (Some (fit domain) ≡ Some request) ↔ Requests value request
  fit_requests domain none given is request = (
    λ same. subst (λ r. Requests value r) (same_Some (fit domain) request same) (none, (is domain).0 refl),
    λ asked. back request asked,
  )
    where
      back : (r : Request) → Requests value r → Some (fit domain) ≡ Some r
      back (analysis task) asked = absurd (asked.1 given)
      back (demo number) asked = let some = asked.1 in cc
      back (fit other) asked = ap (λ d. Some (fit d)) (same_Some domain other ((is other).1 asked.1))

  -- where none are, or another option is given, they ask for nothing
  pub no_fit : value (codes "demo") ≡ None → IsGiven (value (codes "fit")) true → ((domain : Domain) → ¬ IsFit value domain)
      → (request : Request) → ¬ Requests value request
  no_fit none given lacks (analysis task) asked = asked.1 given
  no_fit none given lacks (demo number) asked = let some = asked.1 in cc
  no_fit none given lacks (fit domain) asked = lacks domain asked.1
