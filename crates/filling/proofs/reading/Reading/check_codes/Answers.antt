use Rattle.std.proofs.Common.{ℕ, List, ◌≤◌, length, get_or, arith, ap, sym, drop_of_length-le}
use Rattle.verdicts.proofs.Firsts.{first_of_end}
use Rattle.secrecy.specs.Rows.{place_columns, level_columns}
use Rattle.filling.proofs.Sets.{column_small}
use Rattle.filling.proofs.Seeding.{codes_unread}
use Rattle.filling.proofs.reading.Reading.check_codes.Goals as goal

past : (i : ℕ) → 36 ≤ i → length level_columns ≤ i
unfolding place_columns
past i h = h

pub returns : goal.returns
returns g c =
    sym (first_of_end _ _ _ c.loop-column.invariant.1 (drop_of_length-le level_columns (past c.loop-column.column-index c.loop-column-test.false)))

pub cell-requires : goal.cell-requires
cell-requires g c =
    let e = ap (λ (xs : List ℕ). get_or xs c.loop-column.column-index 0) c.loop-column.invariant.0 in
    let s = column_small c.loop-column.column-index c.loop-column-test.true in
    omega arith

pub returns-then-row-gt0 : goal.returns-then-row-gt0
returns-then-row-gt0 g c = sym (codes_unread (g.O.Order.meaning c.args.self.now.order.now) (g.met.O.Order.lawful c.args.self.now.order.now) c.args.self.now.rows.words c.args.self.now.rows.rows.now c.args.row c.if-row-gt0.true)
