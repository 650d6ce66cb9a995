-- Runs that end with so many tests of a loop, and the longest one, from a configuration and from those behind it.
use Rattle.std.proofs.Common.{◌≡◌, ◌↔◌, ◌⊎◌, inl, inr, ℕ, zero, suc, ◌≤◌, max, Bool, true, false, [], ◌∷◌, None, Some, refl, sym, subst, ◌∙◌, arith, ⊎_elim}
use Rattle.unroll.specs.Building.{Tells, left_by}
use Rattle.step_meaning.specs.Run.{EndsInTests, EndsWithin, Longest, TestsAllow}
use Rattle.step_meaning.specs.Step.{Configuration, IsFinal, Step, Todo, front, one, turn}
use Rattle.step_meaning.proofs.Front.{back, same_bound}
use Rattle.step_meaning.specs.Syntax.{assign, skip, return, break, continue, if_else, while_loop, do_while}

-- the first statement is a loop
abbrev pub is_loop : Todo → Bool
is_loop (one (while_loop c body step) ∷ rest) = true
is_loop (one (assign x e) ∷ rest) = false
is_loop (one skip ∷ rest) = false
is_loop (one return ∷ rest) = false
is_loop (one break ∷ rest) = false
is_loop (one continue ∷ rest) = false
is_loop (one (if_else c first second) ∷ rest) = false
is_loop (one (do_while body c) ∷ rest) = false
is_loop (turn c body step ∷ rest) = false
is_loop [] = false

pub allowed : (xs : Todo) (tests left : ℕ) (P : ℕ → Type 0) → left_by (is_loop xs) tests ≡ Some left → TestsAllow xs tests P → P left
allowed (one (while_loop c body step) ∷ rest) zero left P is allows = absurd allows
allowed (one (while_loop c body step) ∷ rest) (suc tests) left P is allows = let same : tests ≡ left = cc in subst P same allows
allowed (one (assign x e) ∷ rest) tests left P is allows = let same : tests ≡ left = cc in subst P same allows
allowed (one skip ∷ rest) tests left P is allows = let same : tests ≡ left = cc in subst P same allows
allowed (one return ∷ rest) tests left P is allows = let same : tests ≡ left = cc in subst P same allows
allowed (one break ∷ rest) tests left P is allows = let same : tests ≡ left = cc in subst P same allows
allowed (one continue ∷ rest) tests left P is allows = let same : tests ≡ left = cc in subst P same allows
allowed (one (if_else c first second) ∷ rest) tests left P is allows = let same : tests ≡ left = cc in subst P same allows
allowed (one (do_while body c) ∷ rest) tests left P is allows = let same : tests ≡ left = cc in subst P same allows
allowed (turn c body step ∷ rest) tests left P is allows = let same : tests ≡ left = cc in subst P same allows
allowed [] tests left P is allows = let same : tests ≡ left = cc in subst P same allows

pub allow : (xs : Todo) (tests left : ℕ) (P : ℕ → Type 0) → left_by (is_loop xs) tests ≡ Some left → P left → TestsAllow xs tests P
allow (one (while_loop c body step) ∷ rest) zero left P is holds = absurd (cc)
allow (one (while_loop c body step) ∷ rest) (suc tests) left P is holds = let same : left ≡ tests = cc in subst P same holds
allow (one (assign x e) ∷ rest) tests left P is holds = let same : left ≡ tests = cc in subst P same holds
allow (one skip ∷ rest) tests left P is holds = let same : left ≡ tests = cc in subst P same holds
allow (one return ∷ rest) tests left P is holds = let same : left ≡ tests = cc in subst P same holds
allow (one break ∷ rest) tests left P is holds = let same : left ≡ tests = cc in subst P same holds
allow (one continue ∷ rest) tests left P is holds = let same : left ≡ tests = cc in subst P same holds
allow (one (if_else c first second) ∷ rest) tests left P is holds = let same : left ≡ tests = cc in subst P same holds
allow (one (do_while body c) ∷ rest) tests left P is holds = let same : left ≡ tests = cc in subst P same holds
allow (turn c body step ∷ rest) tests left P is holds = let same : left ≡ tests = cc in subst P same holds
allow [] tests left P is holds = let same : left ≡ tests = cc in subst P same holds

pub refused : (xs : Todo) (tests : ℕ) (P : ℕ → Type 0) → left_by (is_loop xs) tests ≡ None → TestsAllow xs tests P → ⊥
refused (one (while_loop c body step) ∷ rest) zero P is allows = allows
refused (one (while_loop c body step) ∷ rest) (suc tests) P is allows = absurd (cc)
refused (one (assign x e) ∷ rest) tests P is allows = absurd (cc)
refused (one skip ∷ rest) tests P is allows = absurd (cc)
refused (one return ∷ rest) tests P is allows = absurd (cc)
refused (one break ∷ rest) tests P is allows = absurd (cc)
refused (one continue ∷ rest) tests P is allows = absurd (cc)
refused (one (if_else c first second) ∷ rest) tests P is allows = absurd (cc)
refused (one (do_while body c) ∷ rest) tests P is allows = absurd (cc)
refused (turn c body step ∷ rest) tests P is allows = absurd (cc)
refused [] tests P is allows = absurd (cc)

weaker : (xs : Todo) (tests : ℕ) (P Q : ℕ → Type 0) → ((left : ℕ) → P left → Q left) → TestsAllow xs tests P → TestsAllow xs tests Q
weaker (one (while_loop c body step) ∷ rest) zero P Q less allows = allows
weaker (one (while_loop c body step) ∷ rest) (suc tests) P Q less allows = less tests allows
weaker (one (assign x e) ∷ rest) tests P Q less allows = less tests allows
weaker (one skip ∷ rest) tests P Q less allows = less tests allows
weaker (one return ∷ rest) tests P Q less allows = less tests allows
weaker (one break ∷ rest) tests P Q less allows = less tests allows
weaker (one continue ∷ rest) tests P Q less allows = less tests allows
weaker (one (if_else c first second) ∷ rest) tests P Q less allows = less tests allows
weaker (one (do_while body c) ∷ rest) tests P Q less allows = less tests allows
weaker (turn c body step ∷ rest) tests P Q less allows = less tests allows
weaker [] tests P Q less allows = less tests allows

-- ---- more steps

within_one_more : (n : ℕ) (c : Configuration) → EndsWithin n c → EndsWithin (suc n) c
within_one_more zero c final = inl final
within_one_more (suc n) c (inl final) = inl final
within_one_more (suc n) c (inr each) = inr (λ d step. within_one_more n d (each d step))

tests_one_more : (tests n : ℕ) (c : Configuration) → EndsInTests tests n c → EndsInTests tests (suc n) c
tests_one_more tests zero c final = inl final
tests_one_more tests (suc n) c (inl final) = inl final
tests_one_more tests (suc n) c (inr each) =
    inr (weaker (front c.todo) tests (λ left. (d : Configuration) → Step c d → EndsInTests left n d)
    (λ left. (d : Configuration) → Step c d → EndsInTests left (suc n) d) (λ left all d step. tests_one_more left n d (all d step)) each)

pub within_more : (n m : ℕ) (c : Configuration) → n ≤ m → EndsWithin n c → EndsWithin m c
within_more n zero c less ends = let same : n ≡ 0 = omega arith in subst (λ k. EndsWithin k c) same ends
within_more n (suc m) c less ends =
    ⊎_elim {C = EndsWithin (suc m) c} (λ (same : n ≡ suc m). subst (λ k. EndsWithin k c) same ends)
    (λ (below : n ≤ m). within_one_more m c (within_more n m c below ends)) (last_or n m less)
  where
    last_or : (n m : ℕ) → n ≤ suc m → (n ≡ suc m) ⊎ (n ≤ m)
    last_or zero m less = inr (omega arith)
    last_or (suc n) zero less = inl (omega arith)
    last_or (suc n) (suc m) less = ⊎_elim (λ same. inl (omega arith)) (λ below. inr (omega arith)) (last_or n m (omega arith))

pub tests_more : (tests n m : ℕ) (c : Configuration) → n ≤ m → EndsInTests tests n c → EndsInTests tests m c
tests_more tests n zero c less ends = let same : n ≡ 0 = omega arith in subst (λ k. EndsInTests tests k c) same ends
tests_more tests n (suc m) c less ends =
    ⊎_elim {C = EndsInTests tests (suc m) c} (λ (same : n ≡ suc m). subst (λ k. EndsInTests tests k c) same ends)
    (λ (below : n ≤ m). tests_one_more tests m c (tests_more tests n m c below ends)) (last_or n m less)
  where
    last_or : (n m : ℕ) → n ≤ suc m → (n ≡ suc m) ⊎ (n ≤ m)
    last_or zero m less = inr (omega arith)
    last_or (suc n) zero less = inl (omega arith)
    last_or (suc n) (suc m) less = ⊎_elim (λ same. inl (omega arith)) (λ below. inr (omega arith)) (last_or n m (omega arith))

-- ---- configurations with one front and one store

pub record Alike (c d : Configuration) : Type 0 where
  pub fronts : front c.todo ≡ front d.todo
  pub stores : c.store ≡ d.store

pub alike_back : (c d : Configuration) → Alike c d → Alike d c
alike_back c d same = record { fronts = sym same.fronts; stores = sym same.stores }

pub within_alike : (n : ℕ) (c d : Configuration) → Alike c d → EndsWithin n c → EndsWithin n d
within_alike n c d same = same_bound c d same.fronts same.stores n

pub tests_alike : (tests n : ℕ) (c d : Configuration) → Alike c d → EndsInTests tests n c → EndsInTests tests n d
tests_alike tests zero c d same ends = sym same.fronts ∙ ends
tests_alike tests (suc n) c d same (inl final) = inl (sym same.fronts ∙ final)
tests_alike tests (suc n) c d same (inr each) =
    inr (subst (λ xs. TestsAllow xs tests (λ left. (e : Configuration) → Step d e → EndsInTests left n e)) same.fronts
    (weaker (front c.todo) tests (λ left. (e : Configuration) → Step c e → EndsInTests left n e)
    (λ left. (e : Configuration) → Step d e → EndsInTests left n e) (λ left all e step. all e (back c d same.fronts same.stores e step)) each))

pub longest_alike : (n : ℕ) (c d : Configuration) → Alike c d → Longest n c → Longest n d
longest_alike zero c d same ends = within_alike zero c d same ends
longest_alike (suc n) c d same longest =
    (within_alike (suc n) c d same longest.0, λ ends. longest.1 (within_alike n d c (alike_back c d same) ends))

pub longest_ends : (n : ℕ) (c : Configuration) → Longest n c → EndsWithin n c
longest_ends zero c longest = longest
longest_ends (suc n) c longest = longest.0

-- ---- what a set of numbers tells

pub tells_by : (tests : ℕ) (c : Configuration) (A B : ℕ → Type 0) → ((n : ℕ) → A n → B n) → ((n : ℕ) → B n → A n) → Tells tests c A → Tells tests c B
tells_by tests c A B there back tells = record {
  ends = λ n stands. tells.ends n (back n stands);
  longest = λ n stands. tells.longest n (back n stands);
  found = λ n ends. let known = tells.found n ends in (known.0, known.1, there known.0 known.2);
}

-- no longest run is longer than another
longest_least : (n k : ℕ) (c : Configuration) → Longest n c → EndsWithin k c → n ≤ k
longest_least zero k c longest ends = omega arith
longest_least (suc n) k c longest ends =
    ⊎_elim {C = suc n ≤ k} (λ (more : suc n ≤ k). more) (λ (few : k ≤ n). absurd (longest.1 (within_more k n c few ends))) (either n k)
  where
    either : (n k : ℕ) → (suc n ≤ k) ⊎ (k ≤ n)
    either n zero = inr (omega arith)
    either zero (suc k) = inl (omega arith)
    either (suc n) (suc k) = ⊎_elim (λ more. inl (omega arith)) (λ few. inr (omega arith)) (either n k)

pub longest_one : (n k : ℕ) (c : Configuration) → Longest n c → Longest k c → n ≡ k
longest_one n k c first second =
    let one = longest_least n k c first (longest_ends k c second) in
    let two = longest_least k n c second (longest_ends n c first) in
    omega arith

pub tells_exactly : (tests n : ℕ) (c : Configuration) (Stands : ℕ → Type 0) → Tells tests c Stands → Stands n ↔ (EndsInTests tests n c × Longest n c)
tells_exactly tests n c Stands tells = (
  (λ stands. (tells.ends n stands, tells.longest n stands)),
  (λ both. let known = tells.found n both.0 in subst Stands (longest_one known.0 n c (tells.longest known.0 known.2) both.1) known.2),
)

-- ---- from the configurations behind a step to the one before it

-- steps lead to the likes of two configurations, and to no others
pub record TwoNext (c d e : Configuration) : Type 0 where
  pub goes : IsFinal c → ⊥
  pub first : (x : Configuration) × Step c x × Alike x d
  pub second : (x : Configuration) × Step c x × Alike x e
  pub only : (x : Configuration) → Step c x → Alike x d ⊎ Alike x e

-- one more than the greater
abbrev pub Behind : (ℕ → Type 0) → (ℕ → Type 0) → ℕ → Type 0
Behind First Second n = (a : ℕ) × (b : ℕ) × First a × Second b × (n ≡ suc (max a b))

max_first : (a b : ℕ) → a ≤ max a b
max_first a b = omega arith

max_second : (a b : ℕ) → b ≤ max a b
max_second a b = omega arith

longest_before : (n : ℕ) (c d : Configuration) → (IsFinal c → ⊥) → (x : Configuration) × Step c x × Alike x d → Longest n d → EndsWithin n c → ⊥
longest_before zero c d goes next longest ends = goes ends
longest_before (suc n) c d goes next longest (inl final) = goes final
longest_before (suc n) c d goes next longest (inr each) = longest.1 (within_alike n next.0 d next.2 (each next.0 next.1))

module _ (tests left : ℕ) (c d e : Configuration) (First Second : ℕ → Type 0) (next : TwoNext c d e) (allows : left_by (is_loop (front c.todo)) tests ≡ Some left)
    (first : Tells left d First) (second : Tells left e Second) where
  step_ends : (a b : ℕ) → First a → Second b → EndsInTests tests (suc (max a b)) c
  step_ends a b here there =
      inr (allow (front c.todo) tests left (λ left. (x : Configuration) → Step c x → EndsInTests left (max a b) x) allows
      (λ x step. ⊎_elim
      (λ like. tests_alike left (max a b) d x (alike_back x d like) (tests_more left a (max a b) d (max_first a b) (first.ends a here)))
      (λ like. tests_alike left (max a b) e x (alike_back x e like) (tests_more left b (max a b) e (max_second a b) (second.ends b there)))
      (next.only x step)))

  step_within : (a b : ℕ) → First a → Second b → EndsWithin (suc (max a b)) c
  step_within a b here there =
      inr (λ x step. ⊎_elim
      (λ like. within_alike (max a b) d x (alike_back x d like) (within_more a (max a b) d (max_first a b) (longest_ends a d (first.longest a here))))
      (λ like. within_alike (max a b) e x (alike_back x e like) (within_more b (max a b) e (max_second a b) (longest_ends b e (second.longest b there))))
      (next.only x step))

  step_longest : (a b : ℕ) → First a → Second b → EndsWithin (max a b) c → ⊥
  step_longest a b here there ends =
      ⊎_elim (λ (same : max a b ≡ a). longest_before a c d next.goes next.first (first.longest a here) (subst (λ n. EndsWithin n c) same ends))
      (λ (same : max a b ≡ b). longest_before b c e next.goes next.second (second.longest b there) (subst (λ n. EndsWithin n c) same ends))
      (one_of a b)
    where
      one_of : (a b : ℕ) → (max a b ≡ a) ⊎ (max a b ≡ b)
      one_of zero b = inr (omega arith)
      one_of (suc a) zero = inl (omega arith)
      one_of (suc a) (suc b) = ⊎_elim (λ same. inl (omega arith)) (λ same. inr (omega arith)) (one_of a b)

  step_found : (n : ℕ) → EndsInTests tests n c → (k : ℕ) × (k ≤ n) × Behind First Second k
  step_found zero ends = absurd (next.goes ends)
  step_found (suc n) (inl final) = absurd (next.goes final)
  step_found (suc n) (inr each) =
      let all : (x : Configuration) → Step c x → EndsInTests left n x
      = allowed (front c.todo) tests left (λ left. (x : Configuration) → Step c x → EndsInTests left n x) allows each in
      let here = first.found n (tests_alike left n next.first.0 d next.first.2 (all next.first.0 next.first.1)) in
      let there = second.found n (tests_alike left n next.second.0 e next.second.2 (all next.second.0 next.second.1)) in
      let most : ℕ = suc (max here.0 there.0) in
      let few = here.1 in
      let few_too = there.1 in
      (most, (omega arith), (here.0, there.0, here.2, there.2, refl))

  pub step_tells : Tells tests c (Behind First Second)
  step_tells = record {
    ends = λ n stands. subst (λ k. EndsInTests tests k c) (sym stands.4) (step_ends stands.0 stands.1 stands.2 stands.3);
    longest = λ n stands. subst (λ k. Longest k c) (sym stands.4)
        (step_within stands.0 stands.1 stands.2 stands.3, step_longest stands.0 stands.1 stands.2 stands.3);
    found = step_found;
  }

-- where no test of a loop is left nothing is told of a loop
pub head_tells : (tests : ℕ) (c : Configuration) (Stands : ℕ → Type 0) → (IsFinal c → ⊥) → left_by (is_loop (front c.todo)) tests ≡ None → ((n : ℕ) → Stands n → ⊥)
    → Tells tests c Stands
head_tells tests c Stands goes none never = record { ends = λ n stands. absurd (never n stands); longest = λ n stands. absurd (never n stands); found = found }
  where
    found : (n : ℕ) → EndsInTests tests n c → (k : ℕ) × (k ≤ n) × Stands k
    found zero ends = absurd (goes ends)
    found (suc n) (inl final) = absurd (goes final)
    found (suc n) (inr each) = absurd (refused (front c.todo) tests (λ left. (x : Configuration) → Step c x → EndsInTests left n x) none each)

-- a final configuration has runs of no step
pub end_tells : (tests : ℕ) (c : Configuration) (Stands : ℕ → Type 0) → IsFinal c → Stands 0 → ((n : ℕ) → Stands n → n ≡ 0) → Tells tests c Stands
end_tells tests c Stands final here none = record {
  ends = λ n stands. subst (λ k. EndsInTests tests k c) (sym (none n stands)) final;
  longest = λ n stands. subst (λ k. Longest k c) (sym (none n stands)) final;
  found = λ n ends. (0, (omega arith), here);
}
