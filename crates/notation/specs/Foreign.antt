-- Words of the chip that no routine may hold, by name. Assumes nothing.
use Rattle.std.specs.Prelude.{ℕ, ◌/◌, ◌%◌, cond, List, [], ◌∷◌, Some, None, Option, ◌==◌}
use Rattle.std.specs.Option.{option_or, option_map}
use Rattle.std.specs.Int.Bits.{bit_and}
use Rattle.notation.specs.declared.foreign.Mnemonic.{Mnemonic}
use Rattle.notation.specs.declared.foreign.Mnemonic.TheVariants as mnemonic
use Rattle.notation.specs.declared.foreign.Foreign.{Foreign}

-- what some bits mean, by a table
abbrev pub meant : List (ℕ × Mnemonic) → ℕ → Option Mnemonic
meant [] bits = None
meant (entry ∷ table) bits = cond (bits == entry.0) (Some entry.1) (meant table bits)

-- words that name one register in bits 4 to 8
abbrev pub of_register : ℕ → Option Mnemonic
of_register bits =
    meant (
    (0x9400, mnemonic.Com)
    ∷ (0x9402, mnemonic.Swap)
    ∷ (0x9405, mnemonic.Asr)
    ∷ (0x9000, mnemonic.Lds)
    ∷ (0x9200, mnemonic.Sts)
    ∷ (0x9004, mnemonic.Lpm)
    ∷ (0x9005, mnemonic.Lpm)
    ∷ (0x900F, mnemonic.Pop)
    ∷ (0x920F, mnemonic.Push)
    ∷ []
    )
    bits

-- words that are told by their other bits: jumps of two words
abbrev pub far : ℕ → Option Mnemonic
far bits = meant ((0x940C, mnemonic.Jmp) ∷ (0x940E, mnemonic.Call) ∷ []) bits

-- single bits of ports
abbrev pub of_port_bit : ℕ → Option Mnemonic
of_port_bit bits = meant ((0x9800, mnemonic.Cbi) ∷ (0x9900, mnemonic.Sbic) ∷ (0x9A00, mnemonic.Sbi) ∷ (0x9B00, mnemonic.Sbis) ∷ []) bits

-- ports
abbrev pub of_port : ℕ → Option Mnemonic
of_port bits = meant ((0xB000, mnemonic.In) ∷ (0xB800, mnemonic.Out) ∷ []) bits

-- single bits of registers
abbrev pub of_bit : ℕ → Option Mnemonic
of_bit bits = meant ((0xF800, mnemonic.Bld) ∷ (0xFA00, mnemonic.Bst) ∷ (0xFC00, mnemonic.Sbrc) ∷ (0xFE00, mnemonic.Sbrs) ∷ []) bits

-- whole words
abbrev pub fixed : ℕ → Option Mnemonic
fixed word =
    meant (
    (0x9409, mnemonic.Ijmp)
    ∷ (0x9509, mnemonic.Icall)
    ∷ (0x9518, mnemonic.Reti)
    ∷ (0x9588, mnemonic.Sleep)
    ∷ (0x95A8, mnemonic.Wdr)
    ∷ (0x95C8, mnemonic.Lpm)
    ∷ []
    )
    word

-- a name without a register
abbrev pub bare : Mnemonic → Foreign
bare m = record { mnemonic = m; register = None }

-- a name with the register that bits 4 to 8 name
abbrev pub with_register : ℕ → Mnemonic → Foreign
with_register word m = record { mnemonic = m; register = Some (word / 16 % 32) }

-- a name that no register goes with
abbrev pub bare_of : ℕ → Option Mnemonic
bare_of word =
    option_or (option_or (option_or (option_or (fixed word) (far (bit_and word 0xFE0E))) (of_port_bit (bit_and word 0xFF00))) (of_port (bit_and word 0xF800)))
    (of_bit (bit_and word 0xFE08))

-- what a word is called
abbrev pub foreign_of : ℕ → Option Foreign
foreign_of word = option_or (option_map (with_register word) (of_register (bit_and word 0xFE0F))) (option_map bare (bare_of word))
