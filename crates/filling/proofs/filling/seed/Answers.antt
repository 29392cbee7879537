use Rattle.std.proofs.Common.{◌*◌, ◌≤◌, length, get_or, arith, ◌∙◌}
use Rattle.std.proofs.lemmas.Bool.Decides.{nat_tests}
use Rattle.std.proofs.lemmas.List.{ext_get_or}
use Rattle.secrecy.specs.Rows.{columns}
use Rattle.filling.specs.Seeds.{seed_of}
use Rattle.filling.proofs.Seeding.{seeded_at, seeded_length, read_more}
use Rattle.filling.proofs.filling.seed.Goals as goal

pub loop-row-preserved : goal.loop-row-preserved
loop-row-preserved c = λ k l. c.copy.ensures k ∙ rw c.first_read.ensures (read_more c.loop-row.row k (get_or c.args.given.now k 0) (get_or c.loop-row.receiving k 0) (c.loop-row.invariant k l))

pub returns : goal.returns
returns c =
    let rows = c.loop-row.row in
    let whole : length c.args.given.now ≤ rows * columns = omega arith in
    ext_get_or 0 c.loop-row.receiving (seed_of c.args.given.now) (let e = seeded_length 0 c.args.given.now in omega arith)
    (λ k l. let e = seeded_at 0 k c.args.given.now in let i = c.loop-row.invariant k (omega arith) in grind (arith, nat_tests))
