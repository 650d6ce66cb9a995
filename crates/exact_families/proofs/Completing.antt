-- What satisfaction gives of a tree at a configuration: where an until or weak until is satisfied, the tree that a sweep makes is defined.
use Rattle.std.proofs.Common.{◌≡◌, ◌⊎◌, inl, inr, ⊎_elim, ℕ, zero, suc, ◌+◌, pos, ◌≤ℤ◌, Bool, true, false, ◌&&◌, ◌||◌, refl, sym, subst, ◌∙◌, arith}
use Rattle.std.proofs.lemmas.Bool.{false≢true}
use Rattle.linear_cons.specs.Functions.{value_at}
use Rattle.step_meaning.specs.Step.{Configuration, IsFinal, Next, Step, StepsFrom, front}
use Rattle.ctl_formula.specs.Formulas.{Ctl, truth, falsity, exit, not_exit, always, never, least, negation, both, either, next, until, weak}
use Rattle.ctl_formula.specs.Satisfaction.{Ahead, Sat, UntilIn, WeakIn}
use Rattle.ctl_formula.specs.Systems.{Classically}

-- a Bool is decided
pub stable : (t : Bool) → Classically (t ≡ true) → t ≡ true
stable true some = refl
stable false some = absurd (some (λ is. false≢true is))

pub or_left : (a b : Bool) → a ≡ true → (a || b) ≡ true
or_left true b is = refl
or_left false b is = absurd (false≢true is)

pub or_right : (a b : Bool) → b ≡ true → (a || b) ≡ true
or_right true b is = refl
or_right false b is = is

pub and_both : (a b : Bool) → a ≡ true → b ≡ true → (a && b) ≡ true
and_both true b one two = two
and_both false b one two = absurd (false≢true one)

-- ---- successors

-- two configurations with the same front and store
abbrev pub IsLike : Configuration → Configuration → Type 0
IsLike d e = (front d.todo ≡ front e.todo) × (d.store ≡ e.store)

-- a property of the front and the store
abbrev pub Respects : (Configuration → Type 0) → Type 0
Respects P = (d e : Configuration) → IsLike d e → P d → P e

-- some successor is like the other, and each successor is
abbrev pub Goes : Configuration → Configuration → Type 0
Goes c e = (d : Configuration) × Next c d × IsLike d e

abbrev pub GoesOnly : Configuration → Configuration → Type 0
GoesOnly c e = (d : Configuration) → Next c d → IsLike d e

like_back : (d e : Configuration) → IsLike d e → IsLike e d
like_back d e like = (sym like.0, sym like.1)

step_like : (c e d : Configuration) → IsLike c e → Step c d → Step e d
step_like c e d like step = subst (λ t. StepsFrom t e.store d) like.0 (subst (λ t. StepsFrom (front c.todo) t d) like.1 step)

final_like : (c e : Configuration) → IsLike c e → IsFinal c → IsFinal e
final_like c e like final = sym like.0 ∙ final

ahead_like : (all : Bool) (P : Configuration → Type 0) → Respects P → Respects (Ahead all P)
ahead_like true P respects c e like own = λ d next. ⊎_elim
    (λ step. own d (inl (step_like e c d (like_back c e like) step)))
    (λ (stays : IsFinal e × (d ≡ e)). subst P (sym stays.1) (respects c e like (own c (inr (final_like e c (like_back c e like) stays.0, refl))))) next
ahead_like false P respects c e like own = λ none. own (λ some. ⊎_elim
    (λ step. none (some.0, inl (step_like c e some.0 like step), some.2))
    (λ (stays : IsFinal c × (some.0 ≡ c)). none (e, inr (final_like c e like stays.0, refl), respects c e like (subst P stays.1 some.2))) some.1)

module _ (all : Bool) (keep goal : Configuration → Type 0) (keep_like : Respects keep) (goal_like : Respects goal) where
  pub until_like : (n : ℕ) → Respects (UntilIn n all keep goal)
  until_like zero c e like own = goal_like c e like own
  until_like (suc n) c e like own = λ none. own (λ some. ⊎_elim
      (λ met. none (inl (goal_like c e like met)))
      (λ both. none (inr (keep_like c e like both.0, ahead_like all (λ d. UntilIn n all keep goal d) (until_like n) c e like both.1))) some)

  pub weak_like : (n : ℕ) → Respects (WeakIn n all keep goal)
  weak_like zero c e like own = tt
  weak_like (suc n) c e like own = λ none. own (λ some. ⊎_elim
      (λ met. none (inl (goal_like c e like met)))
      (λ both. none (inr (keep_like c e like both.0, ahead_like all (λ d. WeakIn n all keep goal d) (weak_like n) c e like both.1))) some)

-- so is satisfaction
pub sat_like : (f : Ctl) → Respects (Sat f)
sat_like truth c e like own = tt
sat_like falsity c e like own = own
sat_like exit c e like own = final_like c e like own
sat_like not_exit c e like own = λ final. own (final_like e c (like_back c e like) final)
sat_like always c e like own = tt
sat_like never c e like own = own
sat_like (least a) c e like own = subst (λ t. pos 0 ≤ℤ value_at a t) like.1 own
sat_like (negation f) c e like own = λ holds. own (sat_like f e c (like_back c e like) holds)
sat_like (both f g) c e like own = (sat_like f c e like own.0, sat_like g c e like own.1)
sat_like (either f g) c e like own = λ none. own (λ some. none (⊎_elim (λ here. inl (sat_like f c e like here)) (λ there. inr (sat_like g c e like there)) some))
sat_like (next all f) c e like own = ahead_like all (Sat f) (sat_like f) c e like own
sat_like (until all f g) c e like own = λ none. own (λ some. none (some.0, until_like all (Sat f) (Sat g) (sat_like f) (sat_like g) some.0 c e like some.1))
sat_like (weak all f g) c e like own = λ n. weak_like all (Sat f) (Sat g) (sat_like f) (sat_like g) n c e like (own n)

pub ahead_map : (all : Bool) (P Q : Configuration → Type 0) → ((d : Configuration) → P d → Q d) → (c : Configuration) → Ahead all P c → Ahead all Q c
ahead_map true P Q more c own = λ d step. more d (own d step)
ahead_map false P Q more c own = λ none. own (λ some. none (some.0, some.1, more some.0 some.2))

pub ahead_stable : (all : Bool) (P : Configuration → Type 0) → ((d : Configuration) → Classically (P d) → P d) → (c : Configuration) → Classically (Ahead all P c) → Ahead all P c
ahead_stable true P sure c own = λ d step. sure d (λ none. own (λ each. none (each d step)))
ahead_stable false P sure c own = λ none. own (λ some. some none)

-- of the one successor
pub one_ahead : (all : Bool) (P : Configuration → Type 0) → Respects P → (c e : Configuration) → Goes c e → GoesOnly c e → Ahead all P c → Classically (P e)
one_ahead true P respects c e goes only own none = none (respects goes.0 e goes.2 (own goes.0 goes.1))
one_ahead false P respects c e goes only own none = own (λ some. none (respects some.0 e (only some.0 some.1) some.2))

-- of two: of both, or of one
pub both_ahead : (P : Configuration → Type 0) → Respects P → (c e f : Configuration) → Goes c e → Goes c f → Ahead true P c → P e × P f
both_ahead P respects c e f first second own = (respects first.0 e first.2 (own first.0 first.1), respects second.0 f second.2 (own second.0 second.1))

pub some_ahead : (P : Configuration → Type 0) → Respects P → (c e f : Configuration) → ((d : Configuration) → Next c d → IsLike d e ⊎ IsLike d f) → Ahead false P c → Classically (P e ⊎ P f)
some_ahead P respects c e f only own none =
    own (λ some. ⊎_elim (λ like. none (inl (respects some.0 e like some.2))) (λ like. none (inr (respects some.0 f like some.2))) (only some.0 some.1))

-- ---- until

module _ (all : Bool) (keep goal : Configuration → Type 0) (c : Configuration) (now kept step : Bool) (of_goal : goal c → now ≡ true) (of_keep : keep c → kept ≡ true) where
  -- where the steps ahead give that the tree before the step is defined, so is the tree that is made
  pub until_there : ((n : ℕ) → Ahead all (λ d. UntilIn n all keep goal d) c → Classically (step ≡ true)) → (n : ℕ) → UntilIn n all keep goal c → (now || (kept && step)) ≡ true
  until_there ahead zero own = or_left now (kept && step) (of_goal own)
  until_there ahead (suc n) own =
      stable (now || (kept && step))
      (λ none. own (λ some. ⊎_elim
      (λ met. none (or_left now (kept && step) (of_goal met)))
      (λ both. ahead n both.1 (λ there. none (or_right now (kept && step) (and_both kept step (of_keep both.0) there))))
      some))

-- an until at the end, whose only successor is itself, is its goal
pub until_end : (all : Bool) (keep goal : Configuration → Type 0) → Respects keep → Respects goal → (c : Configuration) → Goes c c → GoesOnly c c → (n : ℕ) → UntilIn n all keep goal c → Classically (goal c)
until_end all keep goal keeps goals c step only zero own none = none own
until_end all keep goal keeps goals c step only (suc n) own none =
    own (λ some. ⊎_elim (λ met. none met) (λ both. one_ahead all (λ d. UntilIn n all keep goal d) (until_like all keep goal keeps goals n) c c step only both.1 (λ later. until_end all keep goal keeps goals c step only n later none)) some)

-- ---- weak until

module _ (all : Bool) (keep goal : Configuration → Type 0) where
  pub weak_stable : (n : ℕ) (c : Configuration) → Classically (WeakIn n all keep goal c) → WeakIn n all keep goal c
  weak_stable zero c own = tt
  weak_stable (suc n) c own = λ none. own (λ weak. weak none)

  pub weak_less : (n : ℕ) (c : Configuration) → WeakIn (suc n) all keep goal c → WeakIn n all keep goal c
  weak_less zero c own = tt
  weak_less (suc n) c own = λ none.
      own (λ some. ⊎_elim
      (λ met. none (inl met))
      (λ both. none (inr (both.0, ahead_map all (λ d. WeakIn (suc n) all keep goal d) (λ d. WeakIn n all keep goal d) (λ d weak. weak_less n d weak) c both.1))) some)

  pub weak_falls : (k n m : ℕ) (c : Configuration) → m ≡ k + n → WeakIn m all keep goal c → WeakIn n all keep goal c
  weak_falls zero n m c is own = let same : m ≡ n = omega (arith, is) in subst (λ t. WeakIn t all keep goal c) same own
  weak_falls (suc k) n m c is own =
      let one : m ≡ suc (k + n) = omega (arith, is) in
      weak_falls k n (k + n) c refl (weak_less (k + n) c (subst (λ t. WeakIn t all keep goal c) one own))

  module _ (c : Configuration) (now kept step : Bool) (of_goal : goal c → now ≡ true) (of_keep : keep c → kept ≡ true) where
    weak_at : (t : Bool) → now ≡ t → (((n : ℕ) → Ahead all (λ d. WeakIn n all keep goal d) c) → Classically (step ≡ true))
        → ((n : ℕ) → WeakIn n all keep goal c) → (now || (kept && step)) ≡ true
    weak_at true is ahead own = or_left now (kept && step) is
    weak_at false is ahead own =
        let unmet : goal c → ⊥ = λ met. false≢true (sym is ∙ of_goal met) in
        let here : kept ≡ true = stable kept (λ none. own 1 (λ some. ⊎_elim (λ met. unmet met) (λ both. none (of_keep both.0)) some)) in
        let each : (n : ℕ) → Ahead all (λ d. WeakIn n all keep goal d) c =
        λ n. ahead_stable all (λ d. WeakIn n all keep goal d) (λ d weak. weak_stable n d weak) c (λ none. own (suc n) (λ some. ⊎_elim (λ met. unmet met) (λ both. none both.1) some)) in
        or_right now (kept && step) (and_both kept step here (stable step (ahead each)))

    pub weak_there : (((n : ℕ) → Ahead all (λ d. WeakIn n all keep goal d) c) → Classically (step ≡ true)) → ((n : ℕ) → WeakIn n all keep goal c) → (now || (kept && step)) ≡ true
    weak_there ahead own = weak_at now refl ahead own

  -- the one successor keeps it for every number
  pub one_weak : Respects keep → Respects goal → (c e : Configuration) → Goes c e → GoesOnly c e → ((n : ℕ) → Ahead all (λ d. WeakIn n all keep goal d) c) → (n : ℕ) → WeakIn n all keep goal e
  one_weak keeps goals c e step only own n = weak_stable n e (one_ahead all (λ d. WeakIn n all keep goal d) (weak_like all keep goal keeps goals n) c e step only (own n))

-- of two successors one keeps it for every number
pub two_weak : (keep goal : Configuration → Type 0) → Respects keep → Respects goal → (c e f : Configuration) → ((d : Configuration) → Next c d → IsLike d e ⊎ IsLike d f) → ((n : ℕ) → Ahead false (λ d. WeakIn n false keep goal d) c)
    → Classically (((n : ℕ) → WeakIn n false keep goal e) ⊎ ((n : ℕ) → WeakIn n false keep goal f))
two_weak keep goal keeps goals c e f only own none =
    none (inl (λ n. weak_stable false keep goal n e (λ first.
    none (inr (λ m. weak_stable false keep goal m f (λ second.
    some_ahead (λ d. WeakIn (m + n) false keep goal d) (weak_like false keep goal keeps goals (m + n)) c e f only (own (m + n))
    (λ some. ⊎_elim
    (λ here. first (weak_falls false keep goal m n (m + n) e refl here))
    (λ there. second (weak_falls false keep goal n m (m + n) f (omega arith) there))
    some)))))))
