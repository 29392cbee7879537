use Rattle.std.proofs.Common.{◌≡◌, drop}
use Rattle.verdicts.specs.Verdict.{first_of}
use Rattle.secrecy.specs.Rows.{place_columns}
use Rattle.secrecy.specs.Rules.{flow_rule}
use Rattle.row_layout.specs.Views.{rows_in, chip}
use Rattle.judge.proofs.judgement.departure.Departure.check_each.Given as goal

-- what the rules of all places come to is what those of the places that are left come to
abbrev pub invariant-loop-place : goal.invariant-loop-place
invariant-loop-place g l =
    let routine = l.self.judgement.now.routine in
    let flow = flow_rule (g.O.Order.meaning l.self.judgement.now.order.now) (chip routine) (rows_in routine.rows) l.self.at l.next in
    (l.place-items ≡ place_columns) × (first_of flow place_columns ≡ first_of flow (drop l.place-index place_columns))
