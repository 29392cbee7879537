use Rattle.std.proofs.Common.{◌≡◌, drop}
use Rattle.std.specs.List.{fold}
use Rattle.joins.specs.Folds.{fold_of}
use Rattle.joins.proofs.folding.fold.Given as goal

-- what is joined so far, and then the values that are left
abbrev pub invariant-loop-value : goal.invariant-loop-value
invariant-loop-value g l =
    let j = g.S.Semilattice.meaning l.semilattice in
    fold j.join l.joined (drop l.value-index l.values) ≡ fold_of j l.values
