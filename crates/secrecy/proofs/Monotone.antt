-- Levels that follow from rows rise with the rows.
use Rattle.std.proofs.Common.{◌≡◌, ℕ, true, List, [], ◌∷◌, arith}
use Rattle.levels.specs.Order.{Meaning, Laws}
use Rattle.machine.specs.Machine.{Machine, Kind}
use Rattle.secrecy.specs.Rows.{Rows}
use Rattle.secrecy.specs.Flow.{joined, join_of_all, deciding_of, deciding, pc_level, level_after}
use Rattle.secrecy.specs.Filling.{Below}

module _ (m : Meaning) (laws : Laws m) where
  -- joins rise with both parts
  pub join_rises : (a b c d : ℕ) → m.flows a c ≡ true → m.flows b d ≡ true → m.flows (m.join a b) (m.join c d) ≡ true
  join_rises a b c d h k =
      let x = laws.flows_to_held a c h in
      let y = laws.flows_to_held b d k in
      laws.join_least a b (m.join c d) (laws.transitive a c _ h (laws.join_left c d x y)) (laws.transitive b d _ k (laws.join_right c d x y))

  -- a level that flows to each of two flows to a third that both flow to: the join does
  pub join_below : (a b c : ℕ) → m.flows a c ≡ true → m.flows b c ≡ true → m.flows (m.join a b) c ≡ true
  join_below a b c h k = laws.join_least a b c h k

  pub zero_only : (a : ℕ) → m.flows a 0 ≡ true → a ≡ 0
  zero_only a h = laws.antisymmetric a 0 h (laws.least a (laws.flows_from_held a 0 h))

  zero_rises : m.flows 0 0 ≡ true
  zero_rises = laws.least 0 laws.zero_held

  module _ {B V W : Type 0} (M : Machine B V W) (R S : Rows) (below : Below m R S) where
    joined_rises : (a : ℕ) (qs : List ℕ) → m.flows (joined m (R.region a) (R.level a) qs) (joined m (S.region a) (S.level a) qs) ≡ true
    joined_rises a [] = (below a).region
    joined_rises a (q ∷ qs) = join_rises _ _ _ _ ((below a).levels q) (joined_rises a qs)

    all_rise : (a : ℕ) (qs : List ℕ) → m.flows (join_of_all m (R.level a) qs) (join_of_all m (S.level a) qs) ≡ true
    all_rise a [] = zero_rises
    all_rise a (q ∷ []) = (below a).levels q
    all_rise a (q ∷ (r ∷ rs)) = join_rises _ _ _ _ ((below a).levels q) (all_rise a (r ∷ rs))

    deciding_by : (a : ℕ) (k : Kind) → m.flows (deciding_of m (R.level a) k) (deciding_of m (S.level a) k) ≡ true
    deciding_by a k = grind (arith, all_rise a, zero_rises)

    -- the deciding level, the pc_level and the level of a place after a word
    pub deciding_rises : (a : ℕ) → m.flows (deciding m M R a) (deciding m M S a) ≡ true
    deciding_rises a = deciding_by a (M.kind a)

    pub pc_level_rises : (a : ℕ) → m.flows (pc_level m M R a) (pc_level m M S a) ≡ true
    pc_level_rises a = join_rises _ _ _ _ (below a).region (deciding_rises a)

    pub level_after_rises : (a p : ℕ) → m.flows (level_after m M R a p) (level_after m M S a p) ≡ true
    level_after_rises a p = grind (arith, joined_rises a (M.sources a p), (below a).levels p)
