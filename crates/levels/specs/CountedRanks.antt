-- In an order whose codes are below n more codes flow to a level than to each other that flows to it. Assumes nothing.
use Rattle.std.specs.Prelude.{◌≡◌, ◌≢◌, ℕ, zero, suc, ◌+◌, ◌<◌, ◌≤◌, Bool, true, false, cond, not, List, [], ◌∷◌, ◌==◌, refl}
use Rattle.std.specs.List.{range_with_len, count_by}
use Rattle.std.proofs.Common.{arith, ⊎_elim}
use Rattle.std.proofs.lemmas.Bool.{eq-eqb, eqb-false, ne_eqb, both_ways, and_parts, and_from, and_right, not-true, not_from_true, not_from_false, cond-true, cond-false, false_from_ne_true, cases_lt}
use Rattle.std.proofs.lemmas.List.Sums.{sum_by-cons, count_by-le-length}
use Rattle.std.proofs.lemmas.List.FromFn.{length-range_with_len}
use Rattle.levels.specs.Order.{Meaning, Laws}
use Rattle.levels.specs.Ranks.{RankLaws, flows_strictly, counted_rank}

-- a test that says more counts more
module _ (p q : ℕ → Bool) (more : (k : ℕ) → p k ≡ true → q k ≡ true) where
  one : (x y : Bool) → (x ≡ true → y ≡ true) → cond x 1 0 ≤ cond y 1 0
  one true y h = rw (h refl) (omega arith)
  one false y h = omega arith

  count_le : (xs : List ℕ) → count_by p xs ≤ count_by q xs
  count_le [] = omega arith
  count_le (x ∷ xs) =
      omega (arith, sum_by-cons (λ k. cond (p k) 1 0) x xs, sum_by-cons (λ k. cond (q k) 1 0) x xs, count_le xs, one (p x) (q x) (more x))

  module _ (i : ℕ) (new : p i ≡ false) (old : q i ≡ true) where
    count_lt : (a n : ℕ) → a ≤ i → i < a + n → count_by p (range_with_len a n) < count_by q (range_with_len a n)
    count_lt a zero h k = absurd (omega arith)
    count_lt a (suc n) h k =
        let x = sum_by-cons (λ j. cond (p j) 1 0) a (range_with_len (a + 1) n) in
        let y = sum_by-cons (λ j. cond (q j) 1 0) a (range_with_len (a + 1) n) in
        ⊎_elim
        (λ l. omega (arith, x, y, one (p a) (q a) (more a), count_lt (a + 1) n (omega arith) (omega arith)))
        (λ l.
        let e : a ≡ i = omega arith in
        let u = cond-false {A = ℕ} (p a) 1 0 (rw e new) in
        let v = cond-true {A = ℕ} (q a) 1 0 (rw e old) in
        omega (arith, x, y, u, v, count_le (range_with_len (a + 1) n)))
        (cases_lt a i)

-- a test that none passes counts none
count_none : (p : ℕ → Bool) → ((k : ℕ) → p k ≡ false) → (xs : List ℕ) → count_by p xs ≡ 0
count_none p none [] = refl
count_none p none (x ∷ xs) = omega (arith, sum_by-cons (λ k. cond (p k) 1 0) x xs, cond-false {A = ℕ} (p x) 1 0 (none x), count_none p none xs)

module _ (m : Meaning) (n : ℕ) (laws : Laws m) (within : (a : ℕ) → m.held a ≡ true → a < n) (few : n < 256) where
  -- to flow strictly is to flow, to another code
  strict : (a b : ℕ) → m.flows a b ≡ true → a ≢ b → flows_strictly m b a ≡ true
  strict a b h other = and_from _ _ h (not_from_false _ (ne_eqb a b other))

  back : (a b : ℕ) → flows_strictly m b a ≡ true → m.flows b a ≡ true → ⊥
  back a b e h =
      let t = and_parts (m.flows a b) (not (a == b)) e in
      eqb-false a b (not-true _ t.1) (laws.antisymmetric a b t.0 h)

  bound : (b : ℕ) → counted_rank m n b ≤ n
  bound b = omega (arith, count_by-le-length (flows_strictly m b) (range_with_len 0 n), length-range_with_len 0 n)

  none : (b : ℕ) → ((k : ℕ) → flows_strictly m b k ≡ true → ⊥) → counted_rank m n b ≡ 0
  none b not_so = count_none (flows_strictly m b) (λ k. false_from_ne_true _ (not_so k)) (range_with_len 0 n)

  flows : (a b : ℕ) → flows_strictly m b a ≡ true → m.flows a b ≡ true
  flows a b e = (and_parts (m.flows a b) (not (a == b)) e).0

  -- what flows strictly to a flows strictly to what a flows to
  along : (a b : ℕ) → m.flows a b ≡ true → a ≢ b → (k : ℕ) → flows_strictly m a k ≡ true → flows_strictly m b k ≡ true
  along a b h other k e = strict k b (laws.transitive k a b (flows k a e) h) (λ q. back k a e (rw q h))

  pub counted_ranks : RankLaws m (counted_rank m n)
  counted_ranks = record {
    zero_rank = none 0 (λ k e. back k 0 e (laws.least k (laws.flows_from_held k 0 (flows k 0 e))));
    unheld_rank = λ a h. none a (λ k e. both_ways _ h (laws.flows_to_held k a (flows k a e)));
    rises = λ a b h other.
        count_lt (flows_strictly m a) (flows_strictly m b) (along a b h other) a
        (and_right _ _ (not_from_true _ (eq-eqb a a refl))) (strict a b h other)
        0 n (omega arith) (omega (arith, within a (laws.flows_from_held a b h)));
    small_rank = λ a h. omega (arith, bound a);
    word_rank = λ a. omega (arith, bound a);
  }
