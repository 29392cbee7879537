-- What `first` means, in words that do not follow its steps. Assumes nothing.
use Rattle.std.specs.Prelude.{◌≡◌, ℕ, ◌<◌, List, ◌∷◌, ◌++◌}
use Rattle.std.specs.List.{All}
use Rattle.verdicts.specs.Verdict.{Verdict, Refusal, fine, refused, first, first_of}

-- every rule below n holds
abbrev pub Keeps : (ℕ → Verdict) → ℕ → Type 0
Keeps rules n = (k : ℕ) → k < n → rules k ≡ fine

-- r is what the rule k answers, it is among the first n, and each rule before it holds
abbrev pub BreaksFirst : (ℕ → Verdict) → ℕ → Refusal → Type 0
BreaksFirst rules n r = (k : ℕ) × (k < n) × (rules k ≡ refused r) × Keeps rules k

-- `first` finds nothing if and only if every rule holds, and else it names the first broken one
pub record FirstBroken (rules : ℕ → Verdict) (n : ℕ) : Type 0 where
  pub kept : first rules n ≡ fine → Keeps rules n
  pub found : Keeps rules n → first rules n ≡ fine
  pub named : (r : Refusal) → first rules n ≡ refused r → BreaksFirst rules n r

-- the rule of each element of a list holds
abbrev pub KeepsAll : {X : Type 0} → (X → Verdict) → List X → Type 0
KeepsAll rules xs = All (λ x. rules x ≡ fine) xs

-- r is what the rule of the element x answers, and the rules of all elements before it hold
pub record BreaksFirstOf {X : Type 0} (rules : X → Verdict) (xs : List X) (r : Refusal) : Type 0 where
  pub x : X
  pub before : List X
  pub after : List X
  pub split : xs ≡ before ++ x ∷ after
  pub kept : KeepsAll rules before
  pub broken : rules x ≡ refused r

-- so it is with `first_of` and the elements of a list
pub record FirstBrokenOf (rules : ℕ → Verdict) (xs : List ℕ) : Type 0 where
  pub kept : first_of rules xs ≡ fine → KeepsAll rules xs
  pub found : KeepsAll rules xs → first_of rules xs ≡ fine
  pub named : (r : Refusal) → first_of rules xs ≡ refused r → BreaksFirstOf rules xs r

-- and so for any rules
abbrev pub FirstBrokenStands : Type 0
FirstBrokenStands = (rules : ℕ → Verdict) → ((n : ℕ) → FirstBroken rules n) × ((xs : List ℕ) → FirstBrokenOf rules xs)
