-- What pooling answers and leaves. Assumes nothing.
use Rattle.std.specs.Prelude.{ℕ, List, length}
use Rattle.verdicts.specs.Verdict.{Verdict, fine, refused, and_then}
use Rattle.words.specs.Legal.{legal_of}
use Rattle.levels.specs.Order.{Meaning}
use Rattle.secrecy.specs.Rules.{length_rule}
use Rattle.judge.specs.Judgement.{Passes}
use Rattle.pooled.specs.Pools.{pool_of, set_verdict, given_rules, Fit, CellsPooled, LeastOfBoth}
use Rattle.pooling.specs.Faults.{in_set}

module _ (m : Meaning) (ws xs ys : List ℕ) where
  -- What is refused: the words; receiving rows of another length; the first set on its own, and then the second; and the first row in
  -- which the two differ in join address, remaining cycles or function.
  abbrev pub pool_verdict : List ℕ → Verdict
  pool_verdict receiving =
      and_then (legal_of ws)
      (and_then (length_rule (length ws) receiving)
      (and_then (in_set 1 (set_verdict m (length ws) xs)) (and_then (in_set 2 (set_verdict m (length ws) ys)) (given_rules (length ws) xs ys))))

  -- what is left in the receiving rows: the pool where nothing is refused, and else what was there
  abbrev pub left_by : Verdict → List ℕ → List ℕ
  left_by fine old = pool_of m xs ys
  left_by (refused r) old = old

  -- what holds of rows that were pooled
  pub record Pooled (new : List ℕ) : Type 0 where
    -- the sets could be pooled: each is right on its own, and their given columns are the same
    pub fit : Fit m (length ws) xs ys
    -- cell by cell
    pub cells : CellsPooled m (length ws) xs ys new
    -- the pool of accepted sets is accepted
    pub accepted : Passes m ws xs → Passes m ws ys → Passes m ws new
    -- it is the least set that lies at or above both
    pub least : LeastOfBoth m (length ws) xs ys new
