-- A normal form means what its formula does, and the normal form of the negation what the negation does.
use Rattle.std.specs.Prelude.{◌≡◌, ◌⊎◌, ◌↔◌, suc, ℤ, pos, ◌≤ℤ◌, not, [], ◌∷◌}
use Rattle.std.proofs.Common.{inl, inr, refl, arith}
use Rattle.std.proofs.lemmas.Int.{ints}
use Rattle.linear_cons.specs.Functions.{value_at}
use Rattle.linear_cons.proofs.RowLaws.{complement_met}
use Rattle.step_meaning.specs.Step.{Configuration, IsFinal, Todo, front}
use Rattle.step_meaning.proofs.Progress.{trichotomy}
use Rattle.ctl_formula.specs.Formulas.{Ctl, truth, falsity, exit, not_exit, always, never, least, negation, both, either, next, until, weak, normal, opposite}
use Rattle.ctl_formula.specs.Satisfaction.{Sat}
use Rattle.ctl_formula.proofs.Classical.{IsStable, classically, joined, ahead_stable, ahead_map, ahead_not, ahead_apart, until_map, weak_map, weak_stable, until_excludes, weak_excludes, weak_of_not_until, until_of_not_weak}

-- a list is empty or not
empty_or_not : (ahead : Todo) → (ahead ≡ []) ⊎ (¬ (ahead ≡ []))
empty_or_not [] = inl refl
empty_or_not (first ∷ rest) = inr (λ e. cc)

pub final_or_not : (c : Configuration) → IsFinal c ⊎ (¬ IsFinal c)
final_or_not c = empty_or_not (front c.todo)

-- a number is at least 0 where it isn't below
at_least : (v : ℤ) → ¬ ¬ (pos 0 ≤ℤ v) → pos 0 ≤ℤ v
at_least v h = elim (trichotomy v (pos 0)) [
  | inl below ↦ absurd (h (λ high. omega (arith, ints)))
  | inr (inl even) ↦ omega (arith, ints)
  | inr (inr above) ↦ omega (arith, ints)
]

pub stable : (f : Ctl) → IsStable (Sat f)
stable truth c h = tt
stable falsity c h = h (λ e. e)
stable exit c h = elim (final_or_not c) [ inl final ↦ final | inr more ↦ absurd (h more) ]
stable not_exit c h = λ final. h (λ more. more final)
stable always c h = tt
stable never c h = h (λ e. e)
stable (least a) c h = at_least (value_at a c.store) h
stable (negation f) c h = λ holds. h (λ fails. fails holds)
stable (both f g) c h = (stable f c (λ none. h (λ pair. none pair.0)), stable g c (λ none. h (λ pair. none pair.1)))
stable (either f g) c h = joined h
stable (next all f) c h = ahead_stable all (Sat f) (stable f) c h
stable (until all f g) c h = joined h
stable (weak all f g) c h = λ n. weak_stable all (Sat f) (Sat g) n c (λ none. h (λ each. none (each n)))

mutual
  pub same : (f : Ctl) (c : Configuration) → Sat (normal f) c ↔ Sat f c
  same truth c = ((λ h. h), (λ h. h))
  same falsity c = ((λ h. h), (λ h. h))
  same exit c = ((λ h. h), (λ h. h))
  same not_exit c = ((λ h. h), (λ h. h))
  same always c = ((λ h. h), (λ h. h))
  same never c = ((λ h. h), (λ h. h))
  same (least a) c = ((λ h. h), (λ h. h))
  same (negation f) c = opposed f c
  same (both f g) c = ((λ h. ((same f c).0 h.0, (same g c).0 h.1)), (λ h. ((same f c).1 h.0, (same g c).1 h.1)))
  same (either f g) c = (
    (λ h none. h (λ cases. elim cases [ inl one ↦ none (inl ((same f c).0 one)) | inr other ↦ none (inr ((same g c).0 other)) ])),
    (λ h none. h (λ cases. elim cases [ inl one ↦ none (inl ((same f c).1 one)) | inr other ↦ none (inr ((same g c).1 other)) ])),
  )
  same (next all f) c = (
    ahead_map all (Sat (normal f)) (Sat f) (λ d. (same f d).0) c,
    ahead_map all (Sat f) (Sat (normal f)) (λ d. (same f d).1) c,
  )
  same (until all f g) c = (
    (λ h none. h (λ some. none (some.0, until_map all (Sat (normal f)) (Sat (normal g)) (Sat f) (Sat g) (λ d. (same f d).0) (λ d. (same g d).0) some.0 c some.1))),
    (λ h none. h (λ some. none (some.0, until_map all (Sat f) (Sat g) (Sat (normal f)) (Sat (normal g)) (λ d. (same f d).1) (λ d. (same g d).1) some.0 c some.1))),
  )
  same (weak all f g) c = (
    (λ h n. weak_map all (Sat (normal f)) (Sat (normal g)) (Sat f) (Sat g) (λ d. (same f d).0) (λ d. (same g d).0) n c (h n)),
    (λ h n. weak_map all (Sat f) (Sat g) (Sat (normal f)) (Sat (normal g)) (λ d. (same f d).1) (λ d. (same g d).1) n c (h n)),
  )

  pub opposed : (f : Ctl) (c : Configuration) → Sat (opposite f) c ↔ (¬ Sat f c)
  opposed truth c = ((λ h k. h), (λ h. h tt))
  opposed falsity c = ((λ h k. k), (λ h. tt))
  opposed exit c = ((λ h. h), (λ h. h))
  opposed not_exit c = ((λ h k. k h), (λ h. stable exit c h))
  opposed always c = ((λ h k. h), (λ h. h tt))
  opposed never c = ((λ h k. k), (λ h. tt))
  opposed (least a) c = complement_met a c.store
  opposed (negation f) c = ((λ h k. k ((same f c).0 h)), (λ h. (same f c).1 (stable f c h)))
  opposed (both f g) c = (
    (λ h k. h (λ cases. elim cases [ inl one ↦ (opposed f c).0 one k.0 | inr other ↦ (opposed g c).0 other k.1 ])),
    (λ h none. none (inl ((opposed f c).1 (λ one. none (inr ((opposed g c).1 (λ other. h (one, other)))))))),
  )
  opposed (either f g) c = (
    (λ h k. k (λ cases. elim cases [ inl one ↦ (opposed f c).0 h.0 one | inr other ↦ (opposed g c).0 h.1 other ])),
    (λ h. ((opposed f c).1 (λ one. h (classically (inl one))), (opposed g c).1 (λ other. h (classically (inr other))))),
  )
  opposed (next all f) c = (
    (λ h k. ahead_apart all (Sat f) (Sat (opposite f)) (λ d holds fails. (opposed f d).0 fails holds) c k h),
    (λ h. ahead_map (not all) (λ d. ¬ Sat f d) (Sat (opposite f)) (λ d. (opposed f d).1) c (ahead_not all (Sat f) c (stable f) h)),
  )
  opposed (until all f g) c = (
    (λ h k. k (λ some. until_excludes all (Sat f) (Sat g) (Sat (opposite f)) (Sat (opposite g)) (λ d holds fails. (opposed f d).0 fails holds)
        (λ d holds fails. (opposed g d).0 fails holds) some.0 c some.1 (h (suc some.0)))),
    (λ h n. weak_of_not_until all (Sat f) (Sat g) (Sat (opposite f)) (Sat (opposite g)) (λ d. (opposed f d).1) (λ d. (opposed g d).1) (stable g) n c
        (λ holds. h (classically (n, holds)))),
  )
  opposed (weak all f g) c = (
    (λ h k. h (λ some. weak_excludes all (Sat f) (Sat g) (Sat (opposite f)) (Sat (opposite g)) (λ d holds fails. (opposed f d).0 fails holds)
        (λ d holds fails. (opposed g d).0 fails holds) some.0 c (k (suc some.0)) some.1)),
    (λ h none. h (λ n. weak_stable all (Sat f) (Sat g) n c (λ fails. none (
      n,
      until_of_not_weak all (Sat f) (Sat g) (Sat (opposite f)) (Sat (opposite g))
          (λ d. (opposed f d).1) (λ d. (opposed g d).1) n c fails,
    )))),
  )
