-- A set has more bits than each other set that is a part of it. Assumes nothing.
use Rattle.std.specs.Prelude.{◌≡◌, ◌≢◌, ℕ, zero, suc, ◌/◌, ◌%◌, ◌^◌, ◌<◌, ◌≤◌, bit_or, count_ones, ◌==◌, ◌⊎◌, nat_lt}
use Rattle.std.specs.Int.Count.{ones_step, ones-le}
use Rattle.std.proofs.Common.{arith, inl, inr, ⊎_elim, ap, refl}
use Rattle.std.proofs.lemmas.Bool.{ltb-true, eqb-true, cond_both, cases_lt}
use Rattle.std.proofs.lemmas.Nat.{or_shr, or_mod, le_or_l, ones_le_self}
use Rattle.levels.specs.Both.{and_parts₃}
use Rattle.levels.specs.Compartments.{compartments}
use Rattle.levels.specs.Ranks.{RankLaws, compartments_rank}

-- what is added to a number stays below it
part_le : (a b : ℕ) → bit_or a b ≡ b → a ≤ b
part_le a b e = omega (arith, le_or_l a b, e)

-- digit by digit, the second number falling to k
rises_by : (k a b : ℕ) → b ≤ k → bit_or a b ≡ b → (a ≡ b) ⊎ (count_ones a < count_ones b)
rises_by zero a b h e = inl (omega (arith, part_le a b e))
rises_by (suc k) a b h e =
    let upper : bit_or (a / 2) (b / 2) ≡ b / 2 = cc (or_shr a b 1, e) in
    let lower : bit_or (a % 2) (b % 2) ≡ b % 2 = cc (or_mod a b 1, e) in
    let digit = part_le (a % 2) (b % 2) lower in
    let x = ones_step a in
    let y = ones_step b in
    ⊎_elim
    (λ p. let q = ap count_ones p in ⊎_elim (λ l. inr (omega arith)) (λ l. inl (omega arith)) (cases_lt (a % 2) (b % 2)))
    (λ l. inr (omega arith))
    (rises_by k (a / 2) (b / 2) (omega arith) upper)

rises : (a b : ℕ) → bit_or a b ≡ b → a ≢ b → count_ones a < count_ones b
rises a b e other = ⊎_elim (λ p. absurd (other p)) (λ l. l) (rises_by b a b (omega arith) e)

-- the ranks of compartments keep the laws
pub union_ranks : (n : ℕ) → n ≤ 16 → RankLaws (compartments n) (compartments_rank n)
union_ranks n few = record {
  zero_rank = cond_both (nat_lt 0 (2 ^ n)) (count_ones 0) 0 (λ x. x ≡ 0) (λ e. omega (arith, ones_le_self 0)) (λ e. refl);
  unheld_rank = λ a h. rw h;
  rises = λ a b h other.
      let t = and_parts₃ (nat_lt a (2 ^ n)) (nat_lt b (2 ^ n)) (bit_or a b == b) h in
      rw (t.0, t.1) (rises a b (eqb-true _ _ t.2) other);
  small_rank = λ a h. cond_both (nat_lt a (2 ^ n)) (count_ones a) 0 (λ x. x < 256) (λ e. omega (arith, ones_le_self a)) (λ e. omega arith);
  word_rank = λ a. cond_both (nat_lt a (2 ^ n)) (count_ones a) 0 (λ x. x < 65536) (λ e. omega (arith, ones-le n a (ltb-true _ _ e))) (λ e. omega arith);
}
