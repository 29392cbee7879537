use Rattle.std.proofs.Common.{◌≡◌, ◌≤◌, true, false, sym, ap, refl, ◌∙◌, arith, rules}
use borrow.Author.Tests.{clash}
use Rattle.levels.specs.Tables.{join_in, semilattice}
use Rattle.levels.specs.Squares.{read_alike, test_laws, laws_test}
use Rattle.levels.proofs.table.Table.fill.Goals as goal

pub invariant_of-self-clause-sound : goal.invariant_of-self-clause-sound
invariant_of-self-clause-sound c =
    let n = c.in_ok-square.square.levels in
    let passed : semilattice n (join_in c.args.bytes.now n) ≡ true = search rules in
    ap (semilattice n) (read_alike c.padded.result c.args.bytes.now n c.padded.ensures) ∙ passed

pub returns-then-is_some-clause-exact : goal.returns-then-is_some-clause-exact
returns-then-is_some-clause-exact c =
    let failed : semilattice c.args.levels (join_in c.args.bytes.now c.args.levels) ≡ false = search rules in
    (λ e. absurd (clash e), λ h. absurd (clash (sym failed ∙ laws_test c.args.levels (join_in c.args.bytes.now c.args.levels) h.1)))

pub returns-clause-exact : goal.returns-clause-exact
returns-clause-exact c =
    let some : 1 ≤ c.args.levels = search rules in
    let few : c.args.levels ≤ 16 = search rules in
    let passed : semilattice c.args.levels (join_in c.args.bytes.now c.args.levels) ≡ true = search rules in (
      (λ e. (record { some = some; few = few; square = search rules }, test_laws c.args.levels (join_in c.args.bytes.now c.args.levels) some (omega arith) passed)),
      (λ h. refl),
    )
