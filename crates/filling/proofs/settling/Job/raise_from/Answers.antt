use Rattle.std.proofs.Common.{◌≡◌, ℕ, ◌+◌, inl, inr, ⊎_elim, length, sym, ◌∙◌, subst}
use Rattle.words.specs.Routes.{route_of}
use Rattle.avr.specs.Chip.{instruction_of}
use Rattle.secrecy.specs.Rows.{rows_of}
use Rattle.filling.specs.Between.{SettledTo}
use Rattle.filling.proofs.Ways.{to_next, to_fork, to_back}
use Rattle.filling.proofs.Steps.{lists_then, settled_kept}
use Rattle.filling.proofs.Stays.{settled_after}
use Rattle.filling.proofs.settling.Job.raise_from.Goals as goal

pub returns-in-To-clause-settled : goal.returns-in-To-clause-settled
returns-in-To-clause-settled g c = λ e.
    let m = g.O.Order.meaning c.args.self.now.order.now in
    let ws = c.args.self.now.words.now in
    let given = c.args.self.now.given.now in
    let i = instruction_of ws c.args.at in
    let d = c.depart-departure.result in
    let is = rw (c.route.ensures, c.instruction.ensures) at c.in-To.is in
    let s = c.raise_along.ensures in
    let P : ℕ → Type 0 = λ x. SettledTo m ws given c.raise_along.new.rows d.levels d.inside d.pc_level x in
    settled_after m (g.met.O.Order.lawful c.args.self.now.order.now) ws given _ _ c.requires.between s.between c.args.at (s.raises.unlisted c.args.at e).1
    d.pc_level d.levels d.inside c.depart-departure.ensures.departs c.depart-departure.ensures.inside
    (λ b l way.
    let q = to_next m ws (rows_of (length ws) given) c.args.at (route_of c.args.at i) i c.in-To.next b is way in
    subst P (sym q) (s.settled (rw q at l)))

pub returns-in-Fork-clause-raises : goal.returns-in-Fork-clause-raises
returns-in-Fork-clause-raises g c =
    lists_then (g.O.Order.meaning c.args.self.now.order.now) (g.met.O.Order.lawful c.args.self.now.order.now) _ _ _ _ _ _ _ _ _ _ c.raise_along-straight.ensures.raises c.raise_along-diverted.ensures.raises

pub returns-in-Fork-clause-settled : goal.returns-in-Fork-clause-settled
returns-in-Fork-clause-settled g c = λ e.
    let m = g.O.Order.meaning c.args.self.now.order.now in
    let laws = g.met.O.Order.lawful c.args.self.now.order.now in
    let ws = c.args.self.now.words.now in
    let given = c.args.self.now.given.now in
    let i = instruction_of ws c.args.at in
    let d = c.depart-departure.result in
    let is = rw (c.route.ensures, c.instruction.ensures) at c.in-Fork.is in
    let s = c.raise_along-straight.ensures in
    let t = c.raise_along-diverted.ensures in
    let new = c.raise_along-diverted.new.rows in
    let both = lists_then m laws _ _ _ _ _ _ _ _ _ _ s.raises t.raises in
    let P : ℕ → Type 0 = λ x. SettledTo m ws given new d.levels d.inside d.pc_level x in
    settled_after m laws ws given _ _ c.requires.between t.between c.args.at (both.unlisted c.args.at e).1
    d.pc_level d.levels d.inside c.depart-departure.ensures.departs c.depart-departure.ensures.inside
    (λ b l way.
    ⊎_elim
    (λ (q : b ≡ c.in-Fork.on). subst P (sym q) (settled_kept m laws ws given _ new t.raises.rises c.in-Fork.on d.levels d.inside d.pc_level (s.settled (rw q at l))))
    (λ (q : b ≡ c.in-Fork.aside). subst P (sym q) (t.settled (rw q at l)))
    (to_fork m ws (rows_of (length ws) given) c.args.at (route_of c.args.at i) i c.in-Fork.on c.in-Fork.aside b is way))

pub returns-in-Return-clause-raises : goal.returns-in-Return-clause-raises
returns-in-Return-clause-raises g c =
    lists_then (g.O.Order.meaning c.args.self.now.order.now) (g.met.O.Order.lawful c.args.self.now.order.now) _ _ _ _ _ _ _ _ _ _ c.raise_callers-callers.ensures.raises c.raise_finish-finish.ensures.raises

pub returns-in-Return-clause-settled : goal.returns-in-Return-clause-settled
returns-in-Return-clause-settled g c = λ e.
    let m = g.O.Order.meaning c.args.self.now.order.now in
    let laws = g.met.O.Order.lawful c.args.self.now.order.now in
    let ws = c.args.self.now.words.now in
    let given = c.args.self.now.given.now in
    let R = rows_of (length ws) given in
    let i = instruction_of ws c.args.at in
    let d = c.depart-departure.result in
    let is = rw (c.route.ensures, c.instruction.ensures) at c.in-Return.is in
    let s = c.raise_callers-callers.ensures in
    let t = c.raise_finish-finish.ensures in
    let new = c.raise_finish-finish.new.rows in
    let both = lists_then m laws _ _ _ _ _ _ _ _ _ _ s.raises t.raises in
    let P : ℕ → Type 0 = λ x. SettledTo m ws given new d.levels d.inside d.pc_level x in
    let same : c.function-function.result ≡ R.function c.args.at = rw (c.function-function.ensures, c.given_rows.ensures.rows, c.given_rows.ensures.words, c.from.ensures) in
    settled_after m laws ws given _ _ c.requires.between t.between c.args.at (both.unlisted c.args.at e).1
    d.pc_level d.levels d.inside c.depart-departure.ensures.departs c.depart-departure.ensures.inside
    (λ b l way. elim (to_back m ws R c.args.at (route_of c.args.at i) i b is way) [
      | inl (k, lk, calls, q) ↦ subst P (sym q) (settled_kept m laws ws given _ new t.raises.rises (k + 1) d.levels d.inside d.pc_level (s.settled k lk calls.0 (rw same calls.1)))
      | inr (z, q) ↦ subst P (sym q) (t.settled (same ∙ z))
    ])
