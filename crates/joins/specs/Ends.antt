-- Two things that are combined: the levels of an order, and numbers. Assumes nothing.
use Rattle.std.specs.Prelude.{◌≡◌, ℕ, max, true}
use Rattle.std.proofs.Common.{arith}
use Rattle.levels.specs.Order.{Meaning, Laws}
use Rattle.joins.specs.Joins.{Joins, JoinLaws}

-- the levels that an order holds, with its join
abbrev pub levels_of : Meaning → Joins ℕ
levels_of m = record { member = m.held; least = 0; join = m.join }

-- numbers, with the larger of two
abbrev pub numbers : Joins ℕ
numbers = record { member = λ n. true; least = 0; join = max }

-- The equations of a join from the laws of an order alone, whatever form it has.
module _ (m : Meaning) (laws : Laws m) where
  below_both : (a b c d : ℕ) → m.held a ≡ true → m.held b ≡ true → m.held c ≡ true → m.flows a c ≡ true → m.flows b c ≡ true → m.flows c d ≡ true → m.flows (m.join a b) d ≡ true
  below_both a b c d x y z f g h = laws.join_least a b d (laws.transitive a c d f h) (laws.transitive b c d g h)

  swapped : (a b : ℕ) → m.held a ≡ true → m.held b ≡ true → m.flows (m.join a b) (m.join b a) ≡ true
  swapped a b x y = laws.join_least a b _ (laws.join_right b a y x) (laws.join_left b a y x)

  module _ (a b c : ℕ) (x : m.held a ≡ true) (y : m.held b ≡ true) (z : m.held c ≡ true) where
    ab : m.held (m.join a b) ≡ true
    ab = laws.join_held a b x y

    bc : m.held (m.join b c) ≡ true
    bc = laws.join_held b c y z

    rightward : m.flows (m.join (m.join a b) c) (m.join a (m.join b c)) ≡ true
    rightward =
        let r = laws.join_right a (m.join b c) x bc in
        laws.join_least (m.join a b) c _ (laws.join_least a b _ (laws.join_left a (m.join b c) x bc) (laws.transitive b _ _ (laws.join_left b c y z) r)) (laws.transitive c _ _ (laws.join_right b c y z) r)

    leftward : m.flows (m.join a (m.join b c)) (m.join (m.join a b) c) ≡ true
    leftward =
        let l = laws.join_left (m.join a b) c ab z in
        laws.join_least a (m.join b c) _ (laws.transitive a _ _ (laws.join_left a b x y) l) (laws.join_least b c _ (laws.transitive b _ _ (laws.join_right a b x y) l) (laws.join_right (m.join a b) c ab z))

  pub levels_laws : JoinLaws (levels_of m)
  levels_laws = record {
    least_member = laws.zero_held;
    join_member = laws.join_held;
    neutral = λ a x. laws.antisymmetric _ _ (laws.join_least 0 a a (laws.least a x) (laws.reflexive a x)) (laws.join_right 0 a laws.zero_held x);
    idempotent = λ a x. laws.antisymmetric _ _ (laws.join_least a a a (laws.reflexive a x) (laws.reflexive a x)) (laws.join_left a a x x);
    commutative = λ a b x y. laws.antisymmetric _ _ (swapped a b x y) (swapped b a y x);
    associative = λ a b c x y z. laws.antisymmetric _ _ (rightward a b c x y z) (leftward a b c x y z);
  }

pub numbers_laws : JoinLaws numbers
numbers_laws = grind arith
