-- Which bytes are refused, and how a token is split at its first `=`. Assumes nothing.
use Rattle.std.specs.Prelude.{ℕ, ◌+◌, cond, List, drop, Some, None, Ok, Err, count_by, Option, Result, slice_index}
use Rattle.text.specs.declared.checking.BadByte.{BadByte}
use Rattle.text.specs.Bytes.{newline, in_name, allowed}
use Rattle.text.specs.Cuts.{whole, front, behind}

-- the first byte that is not allowed, with the number of its line: one more than the newlines before it
abbrev pub first_bad : List ℕ → BadByte
first_bad bs = record { line = 1 + count_by newline (front allowed bs); byte = slice_index (behind allowed bs) 0 }

-- what the check of a file answers
abbrev pub checked : List ℕ → Result (Unit {0}) BadByte
checked bs = cond (whole allowed bs) (Ok tt) (Err (first_bad bs))

-- the name before the first `=` of a token and the value behind it, if there is an `=`
abbrev pub assigned : List ℕ → Option (List ℕ × List ℕ)
assigned token = cond (whole in_name token) None (Some (front in_name token, drop 1 (behind in_name token)))
