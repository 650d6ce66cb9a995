-- The counts at the labels of statements without loops count the steps to what follows: at each label stands the count of a step and of what
-- follows it.
use Rattle.std.proofs.Common.{◌≡◌, ℕ, ◌+◌, ◌≤◌, pos, List, [], ◌∷◌, ◌++◌, map, length, subst, arith}
use Rattle.std.specs.Bool.{⊤}
use Rattle.std.proofs.lemmas.Int.{ints, int_max_is}
use Rattle.linear_cons.specs.declared.affine.Affine.{Affine}
use Rattle.control_flow.specs.Labels.{Jumps, Action, Label, ends, assigns, passes, tests, entry_label, first_label, labels_of, labels_of_statement, stray}
use Rattle.control_flow.proofs.Standing.{EachFrom, each_both, length-labels_of, length-labels_of_statement}
use Rattle.step_meaning.specs.declared.count.Count.{Count}
use Rattle.step_meaning.specs.Counts.{before, before_statement, either_of, none, step_by}
use Rattle.step_meaning.specs.Countdown.{AreCounting, CountsDown, IsCounting, IsSmall, change_by}
use Rattle.step_meaning.specs.Step.{Todo, items_of}
use Rattle.step_meaning.specs.Syntax.{Statement, Statements, assign, skip, return, break, continue, if_else, while_loop, do_while, empty, sequence, size_of, size_of_statement}
use Rattle.step_meaning.specs.Turns.{IsModerate, MayAssign}
use Rattle.step_meaning.specs.Valid.{IsBody, IsStatement}
use Rattle.count_down.specs.Building.{AreMeasured, IsFew, IsMeasured}
use Rattle.count_down.specs.Candidates.{turn_counts}
use Rattle.count_down.specs.LabelCounts.{counts_of, counts_of_statement}
use Rattle.count_down.proofs.Adding.{change_small}
use Rattle.count_down.proofs.Labelling.{length_counts, length_one}
use Rattle.count_down.proofs.Measured.{counting_measured, most_before}

-- ---- lists that stand at labels

-- the property holds of the first with the label n, of the second with the label behind it, and so on
abbrev pub StandAt : {A : Type 0} → (ℕ → A → Type 0) → ℕ → List A → Type 0
StandAt P n [] = ⊤
StandAt P n (x ∷ more) = P n x × StandAt P (n + 1) more

-- it holds of each
abbrev pub EachIs : {A : Type 0} → (A → Type 0) → List A → Type 0
EachIs Q [] = ⊤
EachIs Q (x ∷ more) = Q x × EachIs Q more

pub each_is_both : {A : Type 0} (Q : A → Type 0) (xs ys : List A) → EachIs Q xs → EachIs Q ys → EachIs Q (xs ++ ys)
each_is_both Q [] ys h k = k
each_is_both Q (x ∷ xs) ys h k = (h.0, each_is_both Q xs ys h.1 k)

module _ {A : Type 0} (P : ℕ → A → Type 0) where
  pub stand_first : (n : ℕ) (xs ys : List A) → StandAt P n (xs ++ ys) → StandAt P n xs
  stand_first n [] ys h = tt
  stand_first n (x ∷ xs) ys h = (h.0, stand_first (n + 1) xs ys h.1)

  pub stand_second : (n m : ℕ) (xs ys : List A) → n + length xs ≡ m → StandAt P n (xs ++ ys) → StandAt P m ys
  stand_second n m [] ys e h = let same : n ≡ m = omega arith in subst (λ k. StandAt P k ys) same h
  stand_second n m (x ∷ xs) ys e h = stand_second (n + 1) m xs ys (omega arith) h.1

pub stand_mapped : {A B : Type 0} (P : ℕ → B → Type 0) (f : A → B) (n : ℕ) (xs : List A) → StandAt P n (map f xs) → StandAt (λ l x. P l (f x)) n xs
stand_mapped P f n [] h = tt
stand_mapped P f n (x ∷ xs) h = (h.0, stand_mapped P f (n + 1) xs h.1)

pub stand_with : {A : Type 0} (P : ℕ → A → Type 0) (Q : A → Type 0) (n : ℕ) (xs : List A) → StandAt P n xs → EachIs Q xs
    → StandAt (λ l x. P l x × Q x) n xs
stand_with P Q n [] h k = tt
stand_with P Q n (x ∷ xs) h k = ((h.0, k.0), stand_with P Q (n + 1) xs h.1 k.1)

-- ---- counts that stand at labels

-- `Has l c` says that c is the count of what is done from label l on; `Own l c` says more, of the labels of the statements
module _ (e : Affine) (Has Own : ℕ → Count → Type 0) (weaker : (l : ℕ) (c : Count) → Own l c → Has l c) where
  -- the statements have no loop, the change of each assignment is known, and where one returns, the end has the count of nothing
  abbrev mutual
    pub IsWalked : Jumps → Statement → Type 0
    IsWalked jumps (assign x v) = MayAssign e x v
    IsWalked jumps skip = ⊤
    IsWalked jumps return = Has 0 none
    IsWalked jumps break = Has jumps.out none
    IsWalked jumps continue = Has jumps.mark none
    IsWalked jumps (if_else test first second) = AreWalked jumps first × AreWalked jumps second
    IsWalked jumps (while_loop test body step) = ⊥
    IsWalked jumps (do_while body test) = ⊥

    pub AreWalked : Jumps → Statements → Type 0
    AreWalked jumps empty = ⊤
    AreWalked jumps (sequence first more) = IsWalked jumps first × AreWalked jumps more

  mutual
    counting_walked_one : (jumps : Jumps) (s : Statement) → IsCounting e s → IsWalked jumps s
    counting_walked_one jumps (assign x v) counts = counts
    counting_walked_one jumps skip counts = tt
    counting_walked_one jumps return counts = absurd counts
    counting_walked_one jumps break counts = absurd counts
    counting_walked_one jumps continue counts = absurd counts
    counting_walked_one jumps (if_else test first second) counts = (counting_walked jumps first counts.0, counting_walked jumps second counts.1)
    counting_walked_one jumps (while_loop test body step) counts = absurd counts
    counting_walked_one jumps (do_while body test) counts = absurd counts

    pub counting_walked : (jumps : Jumps) (s : Statements) → AreCounting e s → AreWalked jumps s
    counting_walked jumps empty counts = tt
    counting_walked jumps (sequence first more) counts = (counting_walked_one jumps first counts.0, counting_walked jumps more counts.1)

  mutual
    measured_walked_one : Has 0 none → (s : Statement) → IsMeasured e s → IsWalked stray s
    measured_walked_one ended (assign x v) measured = measured
    measured_walked_one ended skip measured = tt
    measured_walked_one ended return measured = ended
    measured_walked_one ended break measured = ended
    measured_walked_one ended continue measured = ended
    measured_walked_one ended (if_else test first second) measured = (measured_walked ended first measured.0, measured_walked ended second measured.1)
    measured_walked_one ended (while_loop test body step) measured = absurd measured
    measured_walked_one ended (do_while body test) measured = absurd measured

    pub measured_walked : Has 0 none → (s : Statements) → AreMeasured e s → AreWalked stray s
    measured_walked ended empty measured = tt
    measured_walked ended (sequence first more) measured = (measured_walked_one ended first measured.0, measured_walked ended more measured.1)

  mutual
    walked_measured_one : (jumps : Jumps) (s : Statement) → IsWalked jumps s → IsMeasured e s
    walked_measured_one jumps (assign x v) walked = walked
    walked_measured_one jumps skip walked = tt
    walked_measured_one jumps return walked = tt
    walked_measured_one jumps break walked = tt
    walked_measured_one jumps continue walked = tt
    walked_measured_one jumps (if_else test first second) walked = (walked_measured jumps first walked.0, walked_measured jumps second walked.1)
    walked_measured_one jumps (while_loop test body step) walked = absurd walked
    walked_measured_one jumps (do_while body test) walked = absurd walked

    walked_measured : (jumps : Jumps) (s : Statements) → AreWalked jumps s → AreMeasured e s
    walked_measured jumps empty walked = tt
    walked_measured jumps (sequence first more) walked = (walked_measured_one jumps first walked.0, walked_measured jumps more walked.1)

  -- at the label stands the count of a step and of what follows
  abbrev pub Follows : ℕ → Action → Type 0
  Follows l ends = ⊥
  Follows l (assigns x v next) = MayAssign e x v × ((c : Count) × Has next c × Own l (step_by (change_by e x v) c))
  Follows l (passes next) = (c : Count) × Has next c × Own l (step_by (pos 0) c)
  Follows l (tests head test p q) = (c : Count) × (d : Count) × Has p c × Has q d × Own l (either_of c d)

  abbrev pub IsFollowed : ℕ → Label → Type 0
  IsFollowed l x = Follows l x.action

  -- at the first label of a statement stands the count from before it
  first_stands : (n : ℕ) (jumps : Jumps) (s : Statement) (c : Count) → IsWalked jumps s → StandAt Own n (counts_of_statement (change_by e) s c)
      → Has (first_label n s) (before_statement (change_by e) s c)
  first_stands n jumps (assign x v) c walked h = weaker n (before_statement (change_by e) (assign x v) c) h.0
  first_stands n jumps skip c walked h = weaker n (before_statement (change_by e) skip c) h.0
  first_stands n jumps return c walked h = weaker n (before_statement (change_by e) return c) h.0
  first_stands n jumps break c walked h = weaker n (before_statement (change_by e) break c) h.0
  first_stands n jumps continue c walked h = weaker n (before_statement (change_by e) continue c) h.0
  first_stands n jumps (if_else test first second) c walked h = weaker n (before_statement (change_by e) (if_else test first second) c) h.0
  first_stands n jumps (while_loop test body step) c walked h = absurd walked
  first_stands n jumps (do_while body test) c walked h = absurd walked

  -- and so it is where statements are entered
  pub entry_stands : (n after : ℕ) (jumps : Jumps) (s : Statements) (c : Count) → AreWalked jumps s → Has after c → StandAt Own n (counts_of (change_by e) s c)
      → Has (entry_label n after s) (before (change_by e) s c)
  entry_stands n after jumps empty c walked behind h = behind
  entry_stands n after jumps (sequence first more) c walked behind h =
      first_stands n jumps first (before (change_by e) more c) walked.0
      (stand_first Own n (counts_of_statement (change_by e) first (before (change_by e) more c)) (counts_of (change_by e) more c) h)

  mutual
    statement_followed : (n after : ℕ) (jumps : Jumps) (rest : Todo) (s : Statement) (c : Count) → IsWalked jumps s → Has after c
        → StandAt Own n (counts_of_statement (change_by e) s c)
        → EachFrom IsFollowed n (labels_of_statement n after jumps rest s)
    statement_followed n after jumps rest (assign x v) c walked behind h = ((walked, (c, behind, h.0)), tt)
    statement_followed n after jumps rest skip c walked behind h = ((c, behind, h.0), tt)
    statement_followed n after jumps rest return c walked behind h = ((none, walked, h.0), tt)
    statement_followed n after jumps rest break c walked behind h = ((none, walked, h.0), tt)
    statement_followed n after jumps rest continue c walked behind h = ((none, walked, h.0), tt)
    statement_followed n after jumps rest (if_else test first second) c walked behind h =
        let by = change_by e in
        let size = length_counts e by first c (walked_measured jumps first walked.0) in
        let one = stand_first Own (n + 1) (counts_of by first c) (counts_of by second c) h.1 in
        let two = stand_second Own (n + 1) (n + 1 + size_of first) (counts_of by first c) (counts_of by second c) (omega arith) h.1 in
        let labels = length-labels_of (n + 1) after jumps rest first in (
          (
            before by first c,
            before by second c,
            entry_stands (n + 1) after jumps first c walked.0 behind one,
            entry_stands
                (n + 1 + size_of first) after jumps second c walked.1 behind two,
            h.0,
          ),
          each_both IsFollowed (n + 1) (n + 1 + size_of first) (labels_of (n + 1) after jumps rest first)
              (labels_of (n + 1 + size_of first) after jumps rest second) (omega arith)
              (list_followed (n + 1) after jumps rest first c walked.0 behind one)
              (list_followed (n + 1 + size_of first) after jumps rest second c walked.1 behind two),
        )
    statement_followed n after jumps rest (while_loop test body step) c walked behind h = absurd walked
    statement_followed n after jumps rest (do_while body test) c walked behind h = absurd walked

    -- where the count of what follows stands at the label that follows, and the counts of the statements at their labels, at each label
    -- stands the count of a step and of what follows it
    pub list_followed : (n after : ℕ) (jumps : Jumps) (rest : Todo) (s : Statements) (c : Count) → AreWalked jumps s → Has after c
        → StandAt Own n (counts_of (change_by e) s c)
        → EachFrom IsFollowed n (labels_of n after jumps rest s)
    list_followed n after jumps rest empty c walked behind h = tt
    list_followed n after jumps rest (sequence first more) c walked behind h =
        let by = change_by e in
        let size = length_one e by first (before by more c) (walked_measured_one jumps first walked.0) in
        let one = stand_first Own n (counts_of_statement by first (before by more c)) (counts_of by more c) h in
        let two = stand_second Own n (n + size_of_statement first) (counts_of_statement by first (before by more c)) (counts_of by more c)
        (omega arith) h in
        let next = entry_label (n + size_of_statement first) after more in
        let labels = length-labels_of_statement n next jumps (items_of more ++ rest) first in
        each_both IsFollowed n (n + size_of_statement first) (labels_of_statement n next jumps (items_of more ++ rest) first)
        (labels_of (n + size_of_statement first) after jumps rest more) (omega arith)
        (statement_followed n next jumps (items_of more ++ rest) first (before by more c) walked.0
        (entry_stands (n + size_of_statement first) after jumps more c walked.1 behind two) one)
        (list_followed (n + size_of_statement first) after jumps rest more c walked.1 behind two)

-- ---- how large counts are
module _ (e : Affine) (small : IsSmall e) (vars : ℕ) (few_vars : vars ≤ 15) where
  mutual
    moderate_one : (s : Statement) (c : Count) → IsStatement vars s → IsMeasured e s → IsModerate c → IsModerate (before_statement (change_by e) s c)
    moderate_one (assign x v) c sorted measured moderate =
        let place = sorted.0 in let change = change_small e x v small (omega arith) measured in omega (arith, ints)
    moderate_one skip c sorted measured moderate = omega (arith, ints)
    moderate_one return c sorted measured moderate = omega (arith, ints)
    moderate_one break c sorted measured moderate = omega (arith, ints)
    moderate_one continue c sorted measured moderate = omega (arith, ints)
    moderate_one (if_else test first second) c sorted measured moderate =
        let one = moderate_before first c sorted.1 measured.0 moderate in
        let two = moderate_before second c sorted.2 measured.1 moderate in
        omega (arith, ints, int_max_is (before (change_by e) first c).change (before (change_by e) second c).change)
    moderate_one (while_loop test body step) c sorted measured moderate = moderate
    moderate_one (do_while body test) c sorted measured moderate = moderate

    pub moderate_before : (s : Statements) (c : Count) → IsBody vars s → AreMeasured e s → IsModerate c → IsModerate (before (change_by e) s c)
    moderate_before empty c sorted measured moderate = moderate
    moderate_before (sequence first more) c sorted measured moderate =
        moderate_one first (before (change_by e) more c) sorted.0 measured.0 (moderate_before more c sorted.1 measured.1 moderate)

  mutual
    few_one : (s : Statement) (c : Count) → IsStatement vars s → IsMeasured e s → IsModerate c → c.most + size_of_statement s ≤ 2048
        → EachIs (IsFew 2048) (counts_of_statement (change_by e) s c)
    few_one (assign x v) c sorted measured moderate room = (
      record {
        most = omega arith;
        moderate = moderate_one
            (assign x v) c sorted measured moderate;
      },
      tt,
    )
    few_one skip c sorted measured moderate room = (record { most = omega arith; moderate = moderate_one skip c sorted measured moderate }, tt)
    few_one return c sorted measured moderate room = (record { most = omega arith; moderate = moderate_one return c sorted measured moderate }, tt)
    few_one break c sorted measured moderate room = (record { most = omega arith; moderate = moderate_one break c sorted measured moderate }, tt)
    few_one continue c sorted measured moderate room = (record { most = omega arith; moderate = moderate_one continue c sorted measured moderate }, tt)
    few_one (if_else test first second) c sorted measured moderate room =
        let one = most_before (change_by e) first c in
        let two = most_before (change_by e) second c in (
          record { most = omega arith; moderate = moderate_one (if_else test first second) c sorted measured moderate },
          each_is_both (IsFew 2048) (counts_of (change_by e) first c) (counts_of (change_by e) second c)
              (few_counts first c sorted.1 measured.0 moderate (omega arith)) (few_counts second c sorted.2 measured.1 moderate (omega arith)),
        )
    few_one (while_loop test body step) c sorted measured moderate room = tt
    few_one (do_while body test) c sorted measured moderate room = tt

    pub few_counts : (s : Statements) (c : Count) → IsBody vars s → AreMeasured e s → IsModerate c → c.most + size_of s ≤ 2048
        → EachIs (IsFew 2048) (counts_of (change_by e) s c)
    few_counts empty c sorted measured moderate room = tt
    few_counts (sequence first more) c sorted measured moderate room =
        let behind = most_before (change_by e) more c in
        each_is_both (IsFew 2048) (counts_of_statement (change_by e) first (before (change_by e) more c)) (counts_of (change_by e) more c)
        (few_one first (before (change_by e) more c) sorted.0 measured.0 (moderate_before more c sorted.1 measured.1 moderate) (omega arith))
        (few_counts more c sorted.1 measured.1 moderate (omega arith))

-- those of a turn that counts a function down
pub few_turn_counts : (vars : ℕ) → vars ≤ 15 → (e : Affine) (body step : Statements) → CountsDown body step e → IsBody vars body → IsBody vars step
    → size_of body + size_of step ≤ 2048 → EachIs (IsFew 2048) (turn_counts e body step)
few_turn_counts vars few_vars e body step counts sorted sorted_step few =
    let measured = counting_measured e step counts.in_step in
    let moderate : IsModerate none = omega (arith, ints) in
    let most = most_before (change_by e) step none in
    each_is_both (IsFew 2048) (counts_of (change_by e) body (before (change_by e) step none)) (counts_of (change_by e) step none)
    (few_counts e counts.small vars few_vars body (before (change_by e) step none) sorted (counting_measured e body counts.in_body)
    (moderate_before e counts.small vars few_vars step none sorted_step measured moderate) (omega arith))
    (few_counts e counts.small vars few_vars step none sorted_step measured moderate (omega arith))
