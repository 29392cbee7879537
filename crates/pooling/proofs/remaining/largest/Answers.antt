use Rattle.std.proofs.Common.{◌≡◌, ℕ, rules, arith}
use Rattle.avr.proofs.Made.{made}
use Rattle.row_layout.specs.Views.{rows_in}
use Rattle.pooling.proofs.Most.{largest_of, past}
use Rattle.pooling.proofs.remaining.largest.Goals as goal

pub returns : goal.returns
returns c =
    let R = rows_in c.args.rows.now in
    let xs = c.from_fn-remaining.result in
    let long = c.from_fn-remaining.ensures.items.long in
    largest_of c.args.rows.now.words R xs c.fold.result (let l = c.requires in omega arith)
    (λ k l. made _ (λ (i y : ℕ). y ≡ R.remaining i) _ (λ i y q e. (search rules, search rules)) _ _ c.from_fn-remaining.ensures.items k 0 (omega arith))
    (past c.args.rows.now.words c.args.rows.now.rows.now) c.fold.ensures.least
