use Rattle.std.proofs.Common.{◌≡◌, ℕ, true, sym, ap, subst, ◌∙◌}
use Rattle.std.specs.List.{list_all}
use Rattle.avr.specs.Table.{written_of}
use Rattle.avr.specs.Chip.{instruction_of}
use Rattle.judge.specs.Verdicts.{flows_along}
use Rattle.judge.proofs.Kept.{SameCodes, all_flow}
use Rattle.judge.proofs.judgement.departure.Departure.keeps_levels.Goals as goal

pub returns-then-same_codes : goal.returns-then-same_codes
returns-then-same_codes g c h =
    let departure = c.args.self.now in
    let m = g.O.Order.meaning departure.judgement.now.order.now in
    let routine = departure.judgement.now.routine in
    let same = c.same_codes.ensures c.if-same_codes.true in
    let is = departure.departs.is in
    let all : list_all (flows_along m routine departure.at c.args.next) (written_of (instruction_of routine.words.now departure.at)) ≡ true =
    ap (λ i. list_all (flows_along m routine departure.at c.args.next) (written_of i)) (sym is) ∙ (sym c.written_flow.ensures ∙ h) in
    all_flow m (g.met.O.Order.lawful departure.judgement.now.order.now) routine departure.at c.args.next departure.right (subst (λ (a : ℕ). SameCodes routine a c.args.next) c.from.ensures same) all
