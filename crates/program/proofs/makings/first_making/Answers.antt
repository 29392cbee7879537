use Rattle.std.proofs.Common.{◌≡◌, ◌+◌, ◌≤◌, true, false, is_some, drop, get_or, length, add-one, refl, arith, rules, drop_of_length-le}
use Rattle.routine.specs.declared.steps.Step.TheVariants.{Judge}
use Rattle.program.specs.Makings.{row_step_of, first_making}
use Rattle.program.proofs.Outcomes.{first_at, first_past}
use Rattle.program.proofs.makings.first_making.Goals as goal

pub returns-then-is_some-clause-value : goal.returns-then-is_some-clause-value
returns-then-is_some-clause-value c =
    let steps = c.args.steps.now in
    let i = c.loop-at.at in
    let before : first_making steps ≡ i + first_making (drop i steps) = c.loop-at.invariant in
    let makes : is_some (row_step_of (get_or steps i Judge)) ≡ true = search rules in
    let here : first_making (drop i steps) ≡ 0 = first_at steps i Judge c.loop-at-test.true makes in
    let first : i ≡ first_making steps = omega (arith, before, here) in
    first

pub loop-at-preserved : goal.loop-at-preserved
loop-at-preserved c =
    let steps = c.args.steps.now in
    let i = c.loop-at.at in
    let before : first_making steps ≡ i + first_making (drop i steps) = c.loop-at.invariant in
    let none : is_some (row_step_of (get_or steps i Judge)) ≡ false = search rules in
    let past = first_past steps i Judge c.loop-at-test.true none in
    let after : first_making steps ≡ (i + 1) + first_making (drop (i + 1) steps) = rw add-one (omega (arith, before, past)) in
    after

pub returns-clause-value : goal.returns-clause-value
returns-clause-value c =
    let steps = c.args.steps.now in
    let i = c.loop-at.at in
    let before : first_making steps ≡ i + first_making (drop i steps) = c.loop-at.invariant in
    let over : length steps ≤ i = c.loop-at-test.false in
    let rest : first_making (drop i steps) ≡ 0 = rw (drop_of_length-le steps over) refl in
    let end : i ≤ length steps = c.loop-at.auto.at-end in
    let all : length steps ≡ first_making steps = omega (arith, before, rest, over, end) in
    all
