-- What is quoted of a token. Assumes nothing.
use Rattle.std.specs.Prelude.{ℕ, Bool, List, length, take, nat_lt}
use Rattle.routine.specs.declared.quotes.Quote.{Quote}
use Rattle.routine.specs.Filled.{filled_to}

-- how many bytes of a token are quoted at most
abbrev pub quote_length : ℕ
quote_length = 32

-- a token is quoted by its first bytes, with zeros where it has fewer, and by its length
unfoldable pub quote_of : List ℕ → Quote
quote_of token = record { bytes = filled_to quote_length token; length = length token }

-- the bytes that a quote shows
abbrev pub quoted : Quote → List ℕ
quoted quote = take quote.length quote.bytes

-- whether a quote shows less than the token
abbrev pub is_cut : Quote → Bool
is_cut quote = nat_lt quote_length quote.length
