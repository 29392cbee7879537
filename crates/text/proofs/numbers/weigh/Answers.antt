use Rattle.std.proofs.Common.{◌+◌, ◌<◌, ◌≤◌, leb, sym, ◌∙◌, arith}
use Rattle.std.specs.Str.Parse.{digits_value}
use Rattle.std.proofs.lemmas.Bool.{cond-false, lt-leb}
use Rattle.std.proofs.lemmas.Int.Digits.{digits_value_more}
use Rattle.std.proofs.lemmas.Str.Parse.{digits_value-take-le}
use Rattle.text.specs.declared.numbers.Base.{Base}
use Rattle.text.specs.declared.numbers.Base.TheVariants.{Decimal, Hexadecimal}
use Rattle.text.specs.Kinds.{radix}
use Rattle.text.proofs.numbers.weigh.Goals as goal

some_digit : (base : Base) → 1 ≤ radix base
some_digit Decimal = omega arith
some_digit Hexadecimal = omega arith

-- more digits never make a number smaller
pub returns-then-more-from : goal.returns-then-more-from
returns-then-more-from c =
    let b = radix c.args.base in
    let ds = c.args.digits.now in
    let i = c.loop-digit.digit-index in
    let more = rw c.loop-digit.invariant.1 at (digits_value_more b ds i c.loop-digit-test.true) in
    let least = digits_value-take-le b ds (i + 1) (some_digit c.args.base) in
    let above : c.args.most < digits_value b ds = omega (arith, more, least, c.appended-more.ensures) in
    sym (cond-false (leb (digits_value b ds) c.args.most) _ _ (lt-leb (digits_value b ds) c.args.most above))

pub loop-digit-preserved : goal.loop-digit-preserved
loop-digit-preserved c =
    let more = rw c.loop-digit.invariant.1 at (digits_value_more (radix c.args.base) c.args.digits.now c.loop-digit.digit-index c.loop-digit-test.true) in
    (omega arith, more ∙ sym c.appended-more.ensures)
