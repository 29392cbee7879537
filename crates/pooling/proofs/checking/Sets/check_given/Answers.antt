use Rattle.std.proofs.Common.{◌≡◌, false, sym, ◌∙◌, arith}
use Rattle.verdicts.proofs.Firsts.{first_stop}
use Rattle.secrecy.specs.Rows.{rows_of}
use Rattle.pooled.specs.Pools.{same_given}
use Rattle.judge.proofs.Checks.{broken}
use Rattle.pooling.proofs.checking.Sets.check_given.Goals as goal

pub returns-then-not-agree : goal.returns-then-not-agree
returns-then-not-agree c =
    let sets = c.args.self.now in
    let differ : same_given (rows_of sets.first.words sets.first.rows.now) (rows_of sets.second.words sets.second.rows.now) c.loop-row.row ≡ false = sym c.agree.ensures ∙ c.if-not-agree.true in
    sym (first_stop _ c.loop-row.row _ _ c.loop-row.invariant (broken _ 17 _ (rw sets.same at differ)) (omega arith))
