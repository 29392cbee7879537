use Rattle.std.proofs.Common.{ℕ, ◌≤◌, length, sym, drop_of_length-le}
use Rattle.verdicts.proofs.Firsts.{first_of_end}
use Rattle.secrecy.specs.Rows.{place_columns}
use Rattle.judge.proofs.judgement.departure.Departure.check_each.Goals as goal

past : (i : ℕ) → 35 ≤ i → length place_columns ≤ i
unfolding place_columns
past i h = h

pub returns : goal.returns
returns g c =
    sym (first_of_end _ _ _ c.loop-place.invariant.1 (drop_of_length-le place_columns (past c.loop-place.place-index c.loop-place-test.false)))
