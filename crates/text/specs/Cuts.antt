-- How a list of bytes is cut at its front. Assumes nothing.
use Rattle.std.specs.Prelude.{◌≡◌, ℕ, Bool, List, [], ◌∷◌, length, take, drop, ◌==◌}
use Rattle.std.specs.List.{prefix_len}

-- what calls answer for a byte is whether it passes a test
abbrev pub Computes : (ℕ → Bool → Type 0) → (ℕ → Bool) → Type 0
Computes answers test = (b : ℕ) (t : Bool) → answers b t → t ≡ test b

-- the longest front whose bytes all pass a test, and what follows it
abbrev pub front : (ℕ → Bool) → List ℕ → List ℕ
front test bs = take (prefix_len test bs) bs

-- what follows it
abbrev pub behind : (ℕ → Bool) → List ℕ → List ℕ
behind test bs = drop (prefix_len test bs) bs

-- each byte passes a test
abbrev pub whole : (ℕ → Bool) → List ℕ → Bool
whole test bs = length (behind test bs) == 0

-- b in front of the first of some pieces
abbrev pub onto : ℕ → List (List ℕ) → List (List ℕ)
onto b [] = (b ∷ []) ∷ []
onto b (piece ∷ pieces) = (b ∷ piece) ∷ pieces
