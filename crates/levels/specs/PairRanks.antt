-- The ranks of a pair keep the laws, since those of its parts do. Assumes nothing.
use Rattle.std.specs.Prelude.{◌≡◌, ◌≢◌, ℕ, ◌+◌, ◌/◌, ◌%◌, ◌<◌, true, ◌&&◌, nat_lt}
use Rattle.std.proofs.Common.{◌⊎◌, inl, inr, arith, ⊎_elim, refl, ap}
use Rattle.std.proofs.lemmas.Bool.{ltb-true, and_parts, cond_both}
use Rattle.std.proofs.lemmas.Bool.Decides.{eqb_tells}
use Rattle.levels.specs.Order.{Meaning, Laws}
use Rattle.levels.specs.Both.{and_parts₃}
use Rattle.levels.specs.Pairs.{pair, both_held}
use Rattle.levels.specs.Ranks.{RankLaws, pair_rank}
use Rattle.levels.specs.Parts.{pair_laws}

-- along a flow a code stays, or its rank rises
rises_or_stays : (m : Meaning) (t : ℕ → ℕ) → RankLaws m t → (a b : ℕ) → m.flows a b ≡ true → (a ≡ b) ⊎ (t a < t b)
rises_or_stays m t ranks a b h = ⊎_elim (λ e. inl e.1) (λ e. inr (ranks.rises a b h e.1)) (eqb_tells a b)

module _ (p q : Meaning) (lp : Laws p) (lq : Laws q) (r s : ℕ → ℕ) (rp : RankLaws p r) (rq : RankLaws q s) where
  -- the rank of a held code is the sum of two bytes
  held_bound : (a : ℕ) → both_held p q a ≡ true → r (a / 256) + s (a % 256) < 511
  held_bound a h =
      let t = and_parts₃ (nat_lt a 65536) (p.held (a / 256)) (q.held (a % 256)) h in
      let w = ltb-true a 65536 t.0 in
      omega (arith, rp.small_rank (a / 256) (omega arith), rq.small_rank (a % 256) (omega arith))

  -- the ranks of bytes are those of the second order
  byte_bound : (a : ℕ) → a < 256 → r (a / 256) + s (a % 256) < 256
  byte_bound a h =
      let z : a / 256 ≡ 0 = omega arith in
      rw z (omega (arith, rp.zero_rank, rq.small_rank (a % 256) (omega arith)))

  zero_bound : r (0 / 256) + s (0 % 256) ≡ 0
  zero_bound = omega (arith, rp.zero_rank, rq.zero_rank)

  sum_rises : (a b : ℕ) → (pair p q).flows a b ≡ true → a ≢ b → r (a / 256) + s (a % 256) < r (b / 256) + s (b % 256)
  sum_rises a b h other =
      let t = and_parts₃ (nat_lt a 65536) (nat_lt b 65536) (p.flows (a / 256) (b / 256) && q.flows (a % 256) (b % 256)) h in
      let u = and_parts (p.flows (a / 256) (b / 256)) (q.flows (a % 256) (b % 256)) t.2 in
      ⊎_elim
      (λ e. let x = ap r e in ⊎_elim (λ f. absurd (other (omega arith))) (λ g. omega arith) (rises_or_stays q s rq (a % 256) (b % 256) u.1))
      (λ l. ⊎_elim (λ f. let y = ap s f in omega arith) (λ g. omega arith) (rises_or_stays q s rq (a % 256) (b % 256) u.1))
      (rises_or_stays p r rp (a / 256) (b / 256) u.0)

  pub pair_ranks : RankLaws (pair p q) (pair_rank p q r s)
  pair_ranks = record {
    zero_rank = cond_both (both_held p q 0) _ 0 (λ x. x ≡ 0) (λ e. zero_bound) (λ e. refl);
    unheld_rank = λ a h. rw h;
    rises = λ a b h other.
        let x = (pair_laws p q lp lq).flows_from_held a b h in
        let y = (pair_laws p q lp lq).flows_to_held a b h in
        rw (x, y) (sum_rises a b h other);
    small_rank = λ a h. cond_both (both_held p q a) _ 0 (λ x. x < 256) (λ e. byte_bound a h) (λ e. omega arith);
    word_rank = λ a. cond_both (both_held p q a) _ 0 (λ x. x < 65536) (λ e. omega (arith, held_bound a e)) (λ e. omega arith);
  }
