-- Loans. Assumes nothing.
use Rattle.std.specs.Prelude.{◌≡◌, ℕ, List}
use Rattle.std.specs.Borrow.{MutBor}

-- the bytes that are held, or handed back, are the very ones that were lent, and as they were
abbrev pub SameLoan : MutBor (List ℕ) → MutBor (List ℕ) → Type 0
SameLoan held lent = (held.ghost_name ≡ lent.ghost_name) × (held.now ≡ lent.now)
