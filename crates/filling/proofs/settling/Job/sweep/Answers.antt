use Rattle.std.proofs.Common.{arith}
use Rattle.std.proofs.lemmas.Bool.Decides.{nat_tests}
use Rattle.filling.proofs.Steps.{raised_then, neither}
use Rattle.filling.proofs.settling.Job.sweep.Goals as goal

pub loop-row-preserved : goal.loop-row-preserved
loop-row-preserved g c =
    let t = c.take-changed.ensures in
    record {
      between = t.between;
      raised = raised_then _ _ _ _ _ _ c.loop-row.invariant.raised t.raised;
      clean = t.clean;
      none = λ e row l.
          let q = neither _ _ e in
          let old = c.loop-row.invariant.none q.0 row in
          let before = c.in-Some.ensures.before row in
          let now = t.taken q.1 row in
          grind (arith, nat_tests, old, before, now);
    }
