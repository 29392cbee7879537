-- The refusal that each fault stands for: its number, and what it carries. Assumes nothing.
use Rattle.std.specs.Prelude.{ℕ, [], ◌∷◌}
use Rattle.verdicts.specs.Verdict.{Refusal, refusal, Verdict, fine, refused}
use Rattle.words.specs.Legal.{word_refusal}
use Rattle.judge.specs.Faults.{row_refusal}
use Rattle.pooling.specs.declared.fault.PoolFault.{PoolFault}
use Rattle.pooling.specs.declared.fault.PoolFault.TheVariants.{Words, Receiving, First, Second, Differ}
use Rattle.pooling.specs.declared.fault.CountFault.{CountFault}
use Rattle.pooling.specs.declared.fault.CountFault.TheVariants as count

-- a refusal of the first (1) or second (2) of two sets of rows: it carries which one, and then what it carries of itself
abbrev pub of_set : ℕ → Refusal → Refusal
of_set k (refusal n vs) = refusal n (k ∷ vs)

-- what a check of that set comes to
abbrev pub in_set : ℕ → Verdict → Verdict
in_set k fine = fine
in_set k (refused r) = refused (of_set k r)

-- of pooling: the words, the length of the receiving rows, each set on its own, and a row in which the sets differ
abbrev pub pool_refusal : PoolFault → Refusal
pool_refusal (Words f) = word_refusal f
pool_refusal Receiving = refusal 3 []
pool_refusal (First f) = of_set 1 (row_refusal f)
pool_refusal (Second f) = of_set 2 (row_refusal f)
pool_refusal (Differ row) = refusal 17 (row ∷ [])

-- of words, and of how many numbers there are for their rows
abbrev pub count_refusal : CountFault → Refusal
count_refusal (count.Words f) = word_refusal f
count_refusal count.Count = refusal 3 []
