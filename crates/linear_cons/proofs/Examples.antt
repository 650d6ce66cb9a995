-- Worked examples of the definitions, which compute.
use Rattle.std.proofs.Common.{◌≡◌, pos, negsuc, refl}
use Rattle.linear_cons.specs.Divisor.{gcd}
use Rattle.linear_cons.specs.Numbers.{floor_by}

common_divisors : (gcd 12 18 ≡ 6) × (gcd 0 5 ≡ 5) × (gcd 5 0 ≡ 5) × (gcd 7 3 ≡ 1)
common_divisors = (refl, refl, refl, refl)

-- -1, -4 and -5 divided by 2 and 4
rounded_down : (floor_by 2 (pos 3) ≡ pos 1) × (floor_by 2 (negsuc 0) ≡ negsuc 0) × (floor_by 4 (negsuc 3) ≡ negsuc 0) × (floor_by 4 (negsuc 4) ≡ negsuc 1)
rounded_down = (refl, refl, refl, refl)
