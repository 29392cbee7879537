-- What single bytes mean in a routine file. Assumes nothing.
use Rattle.std.specs.Prelude.{ℕ, Bool, not, ◌&&◌, ◌||◌, ◌==◌, nat_le}

-- the byte that ends a line
abbrev pub newline : ℕ → Bool
newline b = b == 10

-- a byte that can stand inside a line
abbrev pub in_line : ℕ → Bool
in_line b = not (newline b)

-- what may stand between tokens: space, tab and carriage return
abbrev pub blank : ℕ → Bool
blank b = b == 32 || (b == 9 || b == 13)

-- `;`: what follows it on its line is a comment
abbrev pub semicolon : ℕ → Bool
semicolon b = b == 59

-- a byte that can stand in a token
abbrev pub solid : ℕ → Bool
solid b = not (blank b || (semicolon b || newline b))

-- `=`: it stands between a name and a value
abbrev pub equals : ℕ → Bool
equals b = b == 61

-- a byte that can stand inside a name
abbrev pub in_name : ℕ → Bool
in_name b = not (equals b)

-- a byte that can stand in a routine file: no control byte but tab, newline and carriage return
abbrev pub allowed : ℕ → Bool
allowed b = (nat_le 32 b && not (b == 127)) || (b == 9 || (b == 10 || b == 13))
