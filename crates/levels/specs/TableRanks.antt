-- The ranks of a table keep the laws. Assumes nothing.
use Rattle.std.specs.Prelude.{◌≡◌, ℕ, ◌≤◌, true, List}
use Rattle.std.proofs.Common.{arith}
use Rattle.std.proofs.lemmas.Bool.{ltb-true}
use Rattle.levels.specs.Tables.{table, join_in, semilattice}
use Rattle.levels.specs.Squares.{test_laws}
use Rattle.levels.specs.Ranks.{RankLaws, counted_rank}
use Rattle.levels.specs.CountedRanks.{counted_ranks}

pub table_ranks : (n : ℕ) (bytes : List ℕ) → 1 ≤ n → n ≤ 16 → semilattice n (join_in bytes n) ≡ true → RankLaws (table n bytes) (counted_rank (table n bytes) n)
table_ranks n bytes some few passed =
    counted_ranks (table n bytes) n (test_laws n (join_in bytes n) some (omega arith) passed) (λ a h. ltb-true a n h) (omega arith)
