-- A test of each number below n. Assumes nothing.
use Rattle.std.specs.Prelude.{◌≡◌, ℕ, zero, suc, ◌+◌, ◌<◌, ◌≤◌, Bool, true, false}
use Rattle.std.proofs.Math.Path.{refl}
use Rattle.std.proofs.Math.Logic.{⊎_elim}
use Rattle.std.proofs.Common.{add-one}
use native.Mathlib.Omega.{arith}
use Rattle.std.proofs.lemmas.Bool.{cases_lt, and_parts, and_right, and_from}
use Rattle.levels.specs.Tables.{every}

module _ (f : ℕ → Bool) where
  -- a loop that tests each: before the first turn, after a turn, where a test fails, and at the end
  pub every_none : every f 0 ≡ true
  unfolding every
  every_none = refl

  pub every_more : (i : ℕ) → every f i ≡ true → f i ≡ true → every f (i + 1) ≡ true
  unfolding every
  every_more i before here = rw (add-one, before, here)

  pub every_stop : (i n : ℕ) → f i ≡ false → i < n → every f n ≡ false
  unfolding every
  every_stop i zero here lt = absurd (omega arith)
  every_stop i (suc n) here lt =
      ⊎_elim (λ l. rw (every_stop i n here l)) (λ l. let e : n ≡ i = omega arith in rw e (and_right (every f i) (f i) here)) (cases_lt i n)

  pub every_all : (i n : ℕ) → every f i ≡ true → n ≤ i → i ≤ n → every f n ≡ true
  every_all i n e h k = let q : n ≡ i = omega arith in rw q e

  -- what the test of all says of each
  pub every_each : (n : ℕ) → every f n ≡ true → (k : ℕ) → k < n → f k ≡ true
  unfolding every
  every_each zero e k lt = absurd (omega arith)
  every_each (suc n) e k lt =
      let p = and_parts (every f n) (f n) e in
      ⊎_elim (λ l. every_each n p.0 k l) (λ l. let q : k ≡ n = omega arith in rw q p.1) (cases_lt k n)

  pub every_from : (n : ℕ) → ((k : ℕ) → k < n → f k ≡ true) → every f n ≡ true
  unfolding every
  every_from zero h = refl
  every_from (suc n) h = and_from _ _ (every_from n (λ k l. h k (omega arith))) (h n (omega arith))
