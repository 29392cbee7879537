use Rattle.joins.proofs.Folds.{folded_all, least_at, alike_at}
use Rattle.joins.proofs.folding.fold.Goals as goal

pub returns-clause-answer : goal.returns-clause-answer
returns-clause-answer g c =
    let s = c.args.semilattice.now in
    folded_all _ (g.met.S.Semilattice.lawful s) _ _ _ c.loop-value-test.false c.loop-value.invariant

pub returns-clause-least : goal.returns-clause-least
returns-clause-least g c =
    let laws = g.met.S.Semilattice.lawful c.args.semilattice.now in
    least_at _ laws _ _ (folded_all _ laws _ _ _ c.loop-value-test.false c.loop-value.invariant)

pub returns-clause-alike : goal.returns-clause-alike
returns-clause-alike g c =
    let laws = g.met.S.Semilattice.lawful c.args.semilattice.now in
    alike_at _ laws _ _ (folded_all _ laws _ _ _ c.loop-value-test.false c.loop-value.invariant)
