-- Tests joined by `&&`, and choices between a number and 0. Assumes nothing.
use Rattle.std.specs.Prelude.{◌≡◌, ℕ, ◌<◌, Bool, true, false, cond, ◌&&◌}
use Rattle.std.proofs.Common.{arith}
use Rattle.std.proofs.lemmas.Bool.{and_parts, and_from, and_right, cond-false, cond_both}

-- three tests that hold together, taken apart
pub and_parts₃ : (x y z : Bool) → (x && (y && z)) ≡ true → (x ≡ true) × (y ≡ true) × (z ≡ true)
and_parts₃ x y z h = let p = and_parts x (y && z) h in let q = and_parts y z p.1 in (p.0, q.0, q.1)

-- and put together
pub and_from₃ : (x y z : Bool) → x ≡ true → y ≡ true → z ≡ true → (x && (y && z)) ≡ true
and_from₃ x y z p q r = and_from x (y && z) p (and_from y z q r)

-- 0 is a byte
pub or_zero_below : (t : Bool) (n : ℕ) → (t ≡ true → n < 256) → cond t n 0 < 256
or_zero_below t n h = cond_both t n 0 (λ x. x < 256) h (λ e. omega arith)

-- where the second test fails there is 0
pub none_right : (t u : Bool) (n : ℕ) → u ≡ false → cond (t && u) n 0 ≡ 0
none_right t u n h = cond-false (t && u) n 0 (and_right t u h)
