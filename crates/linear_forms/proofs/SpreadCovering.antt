-- The spreading of a test covers each store at which the test may have the outcome.
use Rattle.std.proofs.Common.{◌≡◌, ℤ, inl, inr, Bool, true, false, not, List, [], ◌∷◌, if◌then◌else◌, refl, sym, subst, ap}
use Rattle.step_meaning.specs.declared.expression.Op2.{Op2}
use Rattle.step_meaning.specs.declared.expression.Op2.TheVariants.{Less, LessEqual, Greater, GreaterEqual, Equal, NotEqual, And, Or}
use Rattle.step_meaning.specs.Syntax.{Expression, number, variable, free, range, truth, negative, negation, pair, divided}
use Rattle.step_meaning.specs.Naming.{NamesBelow}
use Rattle.step_meaning.specs.Outcome.{Compares, Connects, MayTest}
use Rattle.linear_cons.specs.declared.bounds.Bounds.{Bounds}
use Rattle.linear_cons.specs.declared.row.Row.{Row}
use Rattle.linear_cons.specs.Bounds.{LiesIn}
use Rattle.linear_forms.specs.Linearising.{linear_of}
use Rattle.linear_forms.specs.Meeting.{MeetsOne}
use Rattle.linear_forms.specs.Spreading.{all_rows_of, claims, comparison_for, spread_by, spread_of}
use Rattle.linear_forms.proofs.Comparing.{claims_cover, comparison_holds}
use Rattle.linear_forms.proofs.Covering.{linear_covers}
use Rattle.linear_forms.proofs.MeetingLaws.{meets_left, meets_pairs, meets_right}

-- a comparison's conjunctions are those of the spreading
compared : (op : Op2) (a b : ℤ) (t : Bool) (xs ys zs : List (List Row)) → Compares op a b t → spread_by op t xs ys zs ≡ zs
compared Less a b t xs ys zs h = refl
compared LessEqual a b t xs ys zs h = refl
compared Greater a b t xs ys zs h = refl
compared GreaterEqual a b t xs ys zs h = refl
compared Equal a b t xs ys zs h = refl
compared NotEqual a b t xs ys zs h = refl
compared _ a b t xs ys zs h = absurd h

connected : (s : List ℤ) (op : Op2) (xs ys zs : Bool → List (List Row)) (a b t : Bool) → Connects op a b t → MeetsOne s (xs a) → MeetsOne s (ys b) → MeetsOne s (spread_by op t (xs t) (ys t) (zs t))
connected s And xs ys zs true true t is left right = subst (λ o. MeetsOne s (spread_by And o (xs o) (ys o) (zs o))) (sym is) (meets_pairs s (xs true) (ys true) left right)
connected s And xs ys zs true false t is left right = subst (λ o. MeetsOne s (spread_by And o (xs o) (ys o) (zs o))) (sym is) (meets_right s (xs false) (ys false) right)
connected s And xs ys zs false b t is left right = subst (λ o. MeetsOne s (spread_by And o (xs o) (ys o) (zs o))) (sym is) (meets_left s (xs false) (ys false) left)
connected s Or xs ys zs true b t is left right = subst (λ o. MeetsOne s (spread_by Or o (xs o) (ys o) (zs o))) (sym is) (meets_left s (xs true) (ys true) left)
connected s Or xs ys zs false true t is left right = subst (λ o. MeetsOne s (spread_by Or o (xs o) (ys o) (zs o))) (sym is) (meets_right s (xs true) (ys true) right)
connected s Or xs ys zs false false t is left right = subst (λ o. MeetsOne s (spread_by Or o (xs o) (ys o) (zs o))) (sym is) (meets_pairs s (xs false) (ys false) left right)
connected s _ xs ys zs a b t is left right = absurd is

pub not_not : (b t : Bool) → t ≡ not b → b ≡ not t
not_not true t is = sym (ap not is)
not_not false t is = sym (ap not is)

pub spread_covers : (bounds : Bounds) (s : List ℤ) → LiesIn bounds s → (c : Expression) → NamesBelow 16 c → (t : Bool) → MayTest c s t → MeetsOne s (spread_of bounds c t)
spread_covers bounds s inside (number z) named t may = absurd may
spread_covers bounds s inside (variable x) named t may = absurd may
spread_covers bounds s inside free named t may = inl tt
spread_covers bounds s inside (range lo hi) named t may = absurd may
spread_covers bounds s inside (truth true) named t may = subst (λ o. MeetsOne s (if o then [] ∷ [] else [])) (sym may) (inl tt)
spread_covers bounds s inside (truth false) named t may = subst (λ o. MeetsOne s (if o then [] else [] ∷ [])) (sym may) (inl tt)
spread_covers bounds s inside (negative e) named t may = absurd may
spread_covers bounds s inside (divided division e b) named t may = absurd may
spread_covers bounds s inside (negation c) named t may =
    subst (λ o. MeetsOne s (spread_of bounds c o)) (not_not may.0 t may.2) (spread_covers bounds s inside c named may.0 may.1)
spread_covers bounds s inside (pair op l r) named t (inl may) =
    subst (MeetsOne s) (sym (compared op may.0 may.1 t _ _ _ may.4))
    (claims_cover s (comparison_for t op) (linear_of bounds l) (linear_of bounds r) may.0 may.1
    (linear_covers bounds s inside l named.0 may.0 may.2) (linear_covers bounds s inside r named.1 may.1 may.3)
    (comparison_holds op may.0 may.1 t may.4))
spread_covers bounds s inside (pair op l r) named t (inr may) =
    connected s op (spread_of bounds l) (spread_of bounds r) (λ o. all_rows_of (claims (comparison_for o op) (linear_of bounds l) (linear_of bounds r))) may.0 may.1 t may.4
    (spread_covers bounds s inside l named.0 may.0 may.2) (spread_covers bounds s inside r named.1 may.1 may.3)
