-- Numbers that are filled up. Assumes nothing.
use Rattle.std.specs.Prelude.{ℕ, ◌-◌, List, ◌++◌, length, take, replicate}

-- numbers, followed by zeros, up to a length
abbrev pub filled_to : ℕ → List ℕ → List ℕ
filled_to size numbers = take size numbers ++ replicate (size - length numbers) 0
