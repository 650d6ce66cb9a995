-- Ends are known exactly where their numbers fit.
use Rattle.std.proofs.Common.{◌≡◌, ℕ, ◌+◌, ◌^◌, ℤ, pos, negsuc, ◌+ℤ◌, Bool, true, false, cond, Option, Some, None, SomeIff, refl, sym, ap}
use Rattle.std.proofs.Common.{◌∙◌, add-one}
use Rattle.std.specs.Bool.{Decides}
use Rattle.std.proofs.lemmas.Bool.Decides.{Decides-like, Decides-ltb}
use Rattle.linear_cons.specs.declared.affine.Affine.{Affine}
use Rattle.linear_cons.specs.Functions.{coefficient}
use Rattle.linear_cons.specs.Numbers.{Fits128}
use Rattle.linear_cons.specs.Ends.{ends_from, exact_end, fits, term_end, terms_end}

-- ---- choices by a test

pub when_so : {A : Type 0} (b : Bool) (x y : A) → b ≡ true → cond b x y ≡ x
when_so b x y so = ap (λ t. cond t x y) so

pub when_not : {A : Type 0} (b : Bool) (x y : A) → b ≡ false → cond b x y ≡ y
when_not b x y not_so = ap (λ t. cond t x y) not_so

pub is_false : (b : Bool) (P : Type 0) → Decides b P → ¬ P → b ≡ false
is_false true P decides fails = absurd (fails (decides.0 refl))
is_false false P decides fails = refl

-- ---- what fits

pub fits_decides : (z : ℤ) → Decides (fits z) (Fits128 z)
unfolding fits
fits_decides (pos n) = Decides-like _ (λ h. record { sfits = h }) (λ f. f.sfits) (Decides-ltb n (2 ^ 127))
fits_decides (negsuc n) = Decides-like _ (λ h. record { sfits = h }) (λ f. f.sfits) (Decides-ltb n (2 ^ 127))

pub known_end : (z : ℤ) → Fits128 z → exact_end z ≡ Some z
known_end z fit = when_so (fits z) (Some z) None ((fits_decides z).1 fit)

pub unknown_end : (z : ℤ) → ¬ Fits128 z → exact_end z ≡ None
unknown_end z outside = when_not (fits z) (Some z) None (is_false (fits z) (Fits128 z) (fits_decides z) outside)

pub end_is : (o : Option ℤ) (z : ℤ) → SomeIff o (Fits128 z) z → o ≡ exact_end z
end_is (Some x) z h = ap Some h.1 ∙ sym (known_end z h.0)
end_is None z h = sym (unknown_end z h)

-- ---- sums of terms

pub terms_none : (a : Affine) (own other : ℕ → Option ℤ) → terms_end 0 a own other ≡ Some (pos 0)
unfolding terms_end
terms_none a own other = refl

pub terms_more : (n : ℕ) (a : Affine) (own other : ℕ → Option ℤ)
    → terms_end (n + 1) a own other ≡ ends_from (λ s t. s +ℤ t) (terms_end n a own other) (term_end (coefficient a n) (own n) (other n))
unfolding terms_end
terms_more n a own other = rw add-one refl
