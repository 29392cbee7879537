-- Tests that are computed at every number with so many binary digits.
use Rattle.std.proofs.Common.{◌≡◌, ℕ, zero, suc, ◌+◌, ◌*◌, ◌/◌, ◌^◌, Bool, true, ◌&&◌, ◌∙◌, ⊎_elim, pow-suc, arith}
use native.Mathlib.Nat.{div-div-eq-div-mul}
use Rattle.std.proofs.lemmas.Bool.{and_parts, cases_eq}

-- whether a test passes at every number that has n more binary digits after those of p
unfoldable pub all_bits : ℕ → ℕ → (ℕ → Bool) → Bool
all_bits zero p f = f p
all_bits (suc n) p f = all_bits n (2 * p) f && all_bits n (2 * p + 1) f

-- then it passes at each of them
pub at_each : (n p : ℕ) (f : ℕ → Bool) → all_bits n p f ≡ true → (w : ℕ) → w / 2 ^ n ≡ p → f w ≡ true
unfolding all_bits
at_each zero p f h w e = let same : w ≡ p = omega arith in rw same h
at_each (suc n) p f h w e =
    let half : w / 2 ^ n / 2 ≡ p = div-div-eq-div-mul w (2 ^ n) 2 ∙ (rw pow-suc at e) in
    let both = and_parts (all_bits n (2 * p) f) (all_bits n (2 * p + 1) f) h in
    ⊎_elim (λ low. at_each n (2 * p) f both.0 w low) (λ other. at_each n (2 * p + 1) f both.1 w (omega arith)) (cases_eq (w / 2 ^ n) (2 * p))
