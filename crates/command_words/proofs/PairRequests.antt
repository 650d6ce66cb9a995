-- Words that spell options with their values ask for what the values ask for.
use Rattle.std.proofs.Common.{◌≡◌, ◌∙◌, ◌↔◌, Bool, true, false, List, [], ◌∷◌, Option, None, Some, refl, sym, subst, codes}
use Rattle.clap.specs.Words.{Text}
use Rattle.command_words.specs.Command.{value_in}
use Rattle.command_words.specs.Order.{Ask, IsAlone, IsDelay, IsDomain, IsFit, IsGiven, IsTask, Request, Requests, Task, analysis, demo as demo_asked, fit}
use Rattle.command_words.specs.Pairs.{ArePairs, IsOption, Pair, ctl, domain, delay, at, demo, spelled, value_among}
use Rattle.command_words.specs.declared.order.Domain.{Domain}
use Rattle.command_words.proofs.PairFaults.{AreReadAsPairs, reads_pairs}
use Rattle.command_words.proofs.PairRows.{IsFlag, explaining, fitting, refining, no_flag as not_flag}

no_flag : (flag : Text) → IsFlag flag → (pairs : List Pair) → ArePairs pairs → value_among pairs flag ≡ None
no_flag flag is [] are = refl
no_flag flag is (pair ∷ more) are = rw (not_flag flag pair.option is are.0) (no_flag flag is more are.3)

-- a flag that isn't there and one that isn't given
given_first : (e : Bool) → IsGiven (Some (codes "false")) e → IsGiven None e
given_first true is = cc
given_first false is = λ other. cc

given_second : (e : Bool) → IsGiven None e → IsGiven (Some (codes "false")) e
given_second true is = cc
given_second false is = λ other. cc

module _ (f g : Text → Option Text) (same : (name : Text) → IsOption name → f name ≡ g name)
    (flags : (name : Text) → IsFlag name → (e : Bool) → IsGiven (f name) e → IsGiven (g name) e) where
  same_task : (task : Task) → IsTask f task → IsTask g task
  same_task task is = record {
    domain = subst (λ v. IsDomain v task.domain) (same (codes "domain") domain) is.domain;
    delay = subst (λ v. IsDelay v task.delay) (same (codes "delay") delay) is.delay;
    formula = is.formula ∙ same (codes "ctl") ctl;
    input = is.input ∙ same (codes "at") at;
    explain = flags (codes "explain") explaining task.explain is.explain;
    refine = flags (codes "refine") refining task.refine is.refine;
    alone = is.alone;
  }

  same_alone : IsAlone f → IsAlone g
  same_alone (without, unasked) = (
    (
      sym (same (codes "domain") domain) ∙ without.0,
      (
        sym (same (codes "delay") delay) ∙ without.1.0,
        (sym (same (codes "ctl") ctl) ∙ without.1.1.0, (sym (same (codes "at") at) ∙ without.1.1.1.0, tt)),
      ),
    ),
    (
      flags (codes "explain") explaining false unasked.0,
      (flags (codes "fit") fitting false unasked.1.0, (flags (codes "refine") refining false unasked.1.1.0, tt)),
    ),
  )

  same_fit : (over : Domain) → IsFit f over → IsFit g over
  same_fit over is = record {
    asked = flags (codes "fit") fitting true is.asked;
    over = subst (λ v. IsDomain v over) (same (codes "domain") domain) is.over;
    without = (
      sym (same (codes "delay") delay) ∙ is.without.0,
      (sym (same (codes "ctl") ctl) ∙ is.without.1.0, (sym (same (codes "at") at) ∙ is.without.1.1.0, tt)),
    );
    unflagged = (flags (codes "explain") explaining false is.unflagged.0, (flags (codes "refine") refining false is.unflagged.1.0, tt));
  }

  same_requests : (request : Request) → Requests f request → Requests g request
  same_requests (analysis task) is =
      (sym (same (codes "demo") demo) ∙ is.0, flags (codes "fit") fitting false is.1, same_task task is.2)
  same_requests (demo_asked number) is = (is.0, sym (same (codes "demo") demo) ∙ is.1, is.2, same_alone is.3)
  same_requests (fit over) is = (sym (same (codes "demo") demo) ∙ is.0, same_fit over is.1)

pub pairs_ask : (program : Text) (pairs : List Pair) → ArePairs pairs → (request : Request)
    → Ask (program ∷ spelled pairs) request ↔ Requests (value_among pairs) request
pairs_ask program pairs are request =
    let read : AreReadAsPairs program pairs = reads_pairs program pairs are in
    let none : (flag : Text) → IsFlag flag → value_among pairs flag ≡ None = λ flag is. no_flag flag is pairs are in (
      λ asked. same_requests (value_in (program ∷ spelled pairs)) (value_among pairs) read.values
          (λ flag own e is. subst (λ v. IsGiven v e) (sym (none flag own)) (given_first e (subst (λ v. IsGiven v e) (read.flags flag own) is)))
          request asked.1,
      λ asked. (
        read.taken,
        same_requests (value_among pairs) (value_in (program ∷ spelled pairs)) (λ name is. sym (read.values name is))
            (λ flag own e is. subst (λ v. IsGiven v e) (sym (read.flags flag own)) (given_second e (subst (λ v. IsGiven v e) (none flag own) is)))
            request asked,
      ),
    )
