use Rattle.std.proofs.Common.{◌≡◌, ◌≤◌, take}
use Rattle.std.specs.Str.Parse.{digits_value}
use Rattle.text.specs.Kinds.{radix}
use Rattle.text.proofs.numbers.weigh.Given as goal

abbrev pub invariant-loop-digit : goal.invariant-loop-digit
invariant-loop-digit l = (l.sum ≤ l.most) × (digits_value (radix l.base) (take l.digit-index l.digits) ≡ l.sum)
