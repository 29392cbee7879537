-- Where an instruction leads from its address. Assumes nothing.
use Rattle.std.specs.Prelude.{ℕ, ◌+◌, ℤ, pos, negsuc, ◌+ℤ◌}
use Rattle.words.specs.declared.instruction.BinaryOp.{BinaryOp}
use Rattle.words.specs.declared.instruction.BinaryOp.TheVariants as binary
use Rattle.words.specs.declared.instruction.Instruction.{Instruction}
use Rattle.words.specs.declared.instruction.Instruction.TheVariants.{Binary, Rjmp, Rcall, Branch, Ret}
use Rattle.words.specs.declared.route.Route.{Route}
use Rattle.words.specs.declared.route.Route.TheVariants.{To, Jump, Fork, Call, Return}

-- An address as a number. A sum below 0 is no address: it stands as one that is past the end of every listing.
abbrev pub landing : ℤ → ℕ
landing (pos n) = n
landing (negsuc n) = 0xFFFF_FFFF

-- the target of a jump by a distance: the own address, plus 1, plus the distance
abbrev pub target : ℕ → ℤ → ℕ
target at k = landing (pos (at + 1) +ℤ k)

-- cpse forks, to the next word or past it; the others go on
abbrev pub binary_route : ℕ → BinaryOp → Route
binary_route at binary.Cpse = Fork (at + 1) (at + 2)
binary_route at _ = To (at + 1)

-- where an instruction at an address leads
abbrev pub route_of : ℕ → Instruction → Route
route_of at (Binary op d r) = binary_route at op
route_of at (Rjmp k) = Jump (target at k)
route_of at (Rcall k) = Call (target at k)
route_of at (Branch f set k) = Fork (at + 1) (target at k)
route_of at Ret = Return
route_of at _ = To (at + 1)
