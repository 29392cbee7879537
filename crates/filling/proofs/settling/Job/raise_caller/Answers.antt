use Rattle.std.proofs.Common.{sym, ◌∙◌}
use Rattle.avr.specs.Chip.{avr}
use Rattle.filling.proofs.Ways.{called}
use Rattle.filling.proofs.settling.Job.raise_caller.Goals as goal

pub raise_along-requires-clause-leads : goal.raise_along-requires-clause-leads
raise_along-requires-clause-leads g c =
    let q = called ((avr c.args.self.now.words.now).kind c.args.caller) c.args.function (sym c.calls.ensures ∙ c.if-calls.true) in
    rw c.from.ensures (c.requires.leads q.0 q.1)
