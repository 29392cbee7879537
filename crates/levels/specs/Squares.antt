-- The test of a table says of its joins that they are those of a semilattice. Assumes nothing.
use Rattle.std.specs.Prelude.{◌≡◌, ℕ, ◌+◌, ◌*◌, ◌<◌, ◌≤◌, true, List, replicate, ◌==◌, nat_lt, slice_index}
use Rattle.std.proofs.Common.{⊎_elim, arith}
use Rattle.std.proofs.lemmas.Bool.{ltb-true, lt-ltb, eqb-true, eq-eqb, cases_lt}
use Rattle.std.proofs.lemmas.List.{get_or_past, get_or-replicate, length-replicate}
use Rattle.levels.specs.Order.{Laws}
use Rattle.levels.specs.Joins.{by_join}
use Rattle.levels.specs.Tables.{join_in, every, regroups, exchanges, repeats, semilattice}
use Rattle.levels.specs.Both.{and_parts₃, and_from₃}
use Rattle.levels.specs.Everys.{every_each, every_from}
use Rattle.levels.specs.Semilattices.{Semilattice, semilattice_laws, laws_semilattice}

-- a list of zeros holds 0 at each place and past its end
pub zeros : (n k : ℕ) → ◌≡◌ {A = ℕ} (slice_index (replicate n 0) k) 0
zeros n k = ⊎_elim (λ l. get_or-replicate {A = ℕ} n k 0 0 l) (λ l. get_or_past {X = ℕ} (replicate n 0) k 0 (simp length-replicate l)) (cases_lt k n)

-- bytes that read alike have the same joins
pub read_alike : (xs ys : List ℕ) (n : ℕ) → ((k : ℕ) → slice_index xs k ≡ slice_index ys k) → join_in xs n ≡ join_in ys n
read_alike xs ys n e = λ i a b. e (a * n + b) i

module _ (n : ℕ) (j : ℕ → ℕ → ℕ) where
  module _ (some : 1 ≤ n) (few : n ≤ 256) (passed : semilattice n j ≡ true) where
    one : (a : ℕ) → a < n → ((j 0 a == a) ≡ true) × ((j a a == a) ≡ true) × (every (exchanges n j a) n ≡ true)
    one a x = and_parts₃ (j 0 a == a) (j a a == a) (every (exchanges n j a) n) (every_each (repeats n j) n passed a x)

    two : (a b : ℕ) → a < n → b < n → (nat_lt (j a b) n ≡ true) × ((j a b == j b a) ≡ true) × (every (regroups j a b) n ≡ true)
    two a b x y = and_parts₃ (nat_lt (j a b) n) (j a b == j b a) (every (regroups j a b) n) (every_each (exchanges n j a) n (one a x).2 b y)

    passes : Semilattice n j
    passes = record {
      some = some;
      closed = λ a b x y. ltb-true _ _ (two a b x y).0;
      small = λ a b x y h k. omega (arith, ltb-true _ _ (two a b x y).0);
      unit = λ a x. eqb-true _ _ (one a x).0;
      idempotent = λ a x. eqb-true _ _ (one a x).1;
      commutative = λ a b x y. eqb-true _ _ (two a b x y).1;
      associative = λ a b c x y z. eqb-true _ _ (every_each (regroups j a b) n (two a b x y).2 c z);
    }

    pub test_laws : Laws (by_join n j)
    test_laws = semilattice_laws n j passes

  -- the other way
  tested : Semilattice n j → semilattice n j ≡ true
  tested s =
      every_from (repeats n j) n (λ a x.
      and_from₃ _ _ _ (eq-eqb _ _ (s.unit a x)) (eq-eqb _ _ (s.idempotent a x)) (every_from (exchanges n j a) n (λ b y.
      and_from₃ _ _ _ (lt-ltb _ _ (s.closed a b x y)) (eq-eqb _ _ (s.commutative a b x y))
      (every_from (regroups j a b) n (λ c z. eq-eqb _ _ (s.associative a b c x y z))))))

  pub laws_test : Laws (by_join n j) → semilattice n j ≡ true
  laws_test laws = tested (laws_semilattice n j laws)
