use Rattle.std.proofs.Common.{◌≡◌, ℕ, List, length, length-set, get_or, rules, arith, ap, ◌∙◌}
use Rattle.words.specs.declared.instruction.Instruction.{Instruction}
use Rattle.avr.specs.Table.{written_of}
use Rattle.avr.specs.Chip.{avr}
use Rattle.secrecy.specs.Rows.{rows_of}
use Rattle.secrecy.specs.Flow.{level_after}
use Rattle.filling.proofs.Written.{small, copied, set_none, set_next, set_all}
use Rattle.filling.proofs.settling.Job.levels_after.Goals as goal

pub loop-place-init : goal.loop-place-init
loop-place-init g c =
    let few = c.args.self.now.few in
    record {
      items = c.as_slice-place-items.ensures ∙ (c.written-places.ensures ∙ ap (λ (i : Instruction). written_of i) c.instruction-instruction.ensures);
      long = c.copy_from_slice.ensures.len;
      set = set_none _ _ _ _ _ (λ p l. rw c.copy_from_slice.ensures.after (copied (length c.args.self.now.words.now) c.args.rows.now c.args.at c.from-start.result _ p (omega arith) c.from-start.ensures (omega arith) l));
    }

pub bounds-levels-from : goal.bounds-levels-from
bounds-levels-from g c =
    let e = c.loop-place.invariant.items in
    let s = small c.args.self.now.words.now c.args.at c.loop-place.place-index (rw (← e) c.loop-place-test.true) in
    let q = ap (λ (xs : List ℕ). get_or xs c.loop-place.place-index 0) e in
    let f = c.from.ensures in
    omega arith

pub loop-place-preserved : goal.loop-place-preserved
loop-place-preserved g c =
    let m = g.O.Order.meaning c.args.self.now.order.now in
    let ws = c.args.self.now.words.now in
    let R = rows_of (length ws) c.args.rows.now in
    let e = c.loop-place.invariant.items in
    let k = c.loop-place.place-index in
    let after : c.level_after.result ≡ level_after m (avr ws) R c.args.at (get_or c.as_slice-place-items.result.now k 0) = search rules in
    record {
      items = e;
      long = rw length-set c.loop-place.invariant.long;
      set =
          rw (c.from.ensures, after, e)
          (set_next m ws R c.args.at c.loop-place.levels k c.loop-place.invariant.long (rw (← e) c.loop-place-test.true) c.loop-place.invariant.set);
    }

pub returns : goal.returns
returns g c = λ p l. set_all _ _ _ _ c.loop-place.levels c.loop-place.place-index (rw (← c.loop-place.invariant.items) c.loop-place-test.false) c.loop-place.invariant.set p l
