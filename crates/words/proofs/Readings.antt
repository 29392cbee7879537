-- One reading after another.
use Rattle.std.proofs.Common.{rules, ◌≡◌, List, [], ◌∷◌, Option}
use Rattle.std.specs.Option.{option_or}
use Rattle.words.specs.declared.instruction.Instruction.{Instruction}
use Rattle.words.specs.Decode.{first_of}

pub first_two : (a b : Option Instruction) (os : List (Option Instruction)) → first_of (a ∷ (b ∷ os)) ≡ first_of (option_or a b ∷ os)
first_two a b os = search rules

pub first_one : (a : Option Instruction) → first_of (a ∷ []) ≡ a
first_one a = search rules
