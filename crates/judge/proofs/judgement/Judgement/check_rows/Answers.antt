use Rattle.std.proofs.Common.{◌-◌, sym, arith}
use Rattle.verdicts.proofs.Firsts.{first_each, first_more, first_all}
use Rattle.judge.specs.Faults.{row_refusal}
use Rattle.judge.proofs.Checks.{stopped}
use Rattle.judge.proofs.judgement.Judgement.check_rows.Goals as goal

pub returns-in_err-check_row : goal.returns-in_err-check_row
returns-in_err-check_row g c =
    stopped row_refusal _ _ _ c.loop-row.row _ c.from_residual.ensures.1 c.loop-row.invariant c.in_err-check_row.ensures (omega arith)

pub returns-in_ok-check_row : goal.returns-in_ok-check_row
returns-in_ok-check_row g c = sym (first_all _ _ _ (first_more _ _ c.loop-row.invariant (sym c.in_ok-check_row.ensures)) (omega arith) (omega arith))

pub check_row-requires : goal.check_row-requires
check_row-requires g c = λ positive. first_each _ c.loop-row.row c.loop-row.invariant (c.loop-row.row - 1) (omega arith)
