-- Why an order is not made, as refusals with their numbers. Assumes nothing.
use Rattle.std.specs.Prelude.{ℕ, ◌&&◌, [], nat_le}
use Rattle.verdicts.specs.Verdict.{Refusal, refusal, Verdict, rule}
use Rattle.levels.specs.declared.fault.OrderFault.{OrderFault}
use Rattle.levels.specs.declared.fault.OrderFault.TheVariants.{Size, Law}

-- the number of a fault: 14 for a size out of range, 15 for a broken law
abbrev pub number_of : OrderFault → ℕ
number_of Size = 14
number_of Law = 15

-- the refusal that a fault stands for: its number, which carries nothing
abbrev pub refusal_of : OrderFault → Refusal
refusal_of fault = refusal (number_of fault) []

-- a size is at least 1 and at most `most`
abbrev pub sized : ℕ → ℕ → Verdict
sized most n = rule (nat_le 1 n && nat_le n most) 14 []
