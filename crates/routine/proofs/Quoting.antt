-- What a quote holds and shows of a token. Assumes nothing.
use Rattle.std.proofs.Common.{◌≡◌, ℕ, ◌-◌, ◌<◌, ◌≤◌, min, List, ◌++◌, length, take, drop, replicate, Ok, Result, MatchResult, inl, inr, ap, ◌∙◌, arith}
use Rattle.std.specs.Result.{IsErrAnd}
use Rattle.std.proofs.lemmas.List.{take_min, take_all, drop-replicate, take-append-le, append-nil, length-take}
use Rattle.std.proofs.lemmas.Bool.{cases_lt}
use Rattle.routine.specs.Filled.{filled_to}
use Rattle.routine.specs.Faults.{wrong, quoting}
use Rattle.routine.specs.declared.faults.Expected.{Expected}
use Rattle.routine.specs.declared.faults.Malformed.{Malformed}

module _ (size : ℕ) where
  -- zeros that are left behind n of them
  zeros : (n m : ℕ) → size - n ≡ size - m → drop {A = ℕ} n (replicate size 0) ≡ replicate (size - m) 0
  zeros n m left = drop-replicate n size 0 ∙ ap (λ k. replicate k 0) left

  -- the front of a token, as far as there is room, and zeros behind it
  pub filled : (n : ℕ) (token part : List ℕ) → n ≡ min size (length token) → part ≡ take n token → part ++ drop n (replicate size 0) ≡ filled_to size token
  filled n token part count front =
      let shown : part ≡ take size token = front ∙ ap (λ k. take k token) count ∙ take_min size token in
      ap (λ bytes. bytes ++ drop n (replicate size 0)) shown ∙ ap (λ rest. take size token ++ rest) (zeros n (length token) (omega arith))

-- what a token says, with the token quoted where it does not say what is expected
pub told : {X : Type 0} (says : List ℕ → Result X Expected) (token : List ℕ) (said : Result X Expected) (r : Result X Malformed) (marks : Expected → Malformed → Type 0) →
    said ≡ says token → MatchResult said (λ x. r ≡ Ok x) (λ e. IsErrAnd r (marks e)) → ((e : Expected) (m : Malformed) → marks e m → m ≡ wrong e token) →
    r ≡ quoting says token
told says token said r marks read same is = grind arith

module _ (size : ℕ) (token : List ℕ) where
  -- a token for which there is room is shown whole
  whole : length token ≤ size → take (length token) (filled_to size token) ≡ take size token
  whole fits = grind (arith, take_all, take-append-le)

  -- of a longer one its front is
  front : size < length token → take (length token) (filled_to size token) ≡ take size token
  front longer =
      let none : size - length token ≡ 0 = omega arith in
      let few : length (take size token) ≤ length token = omega (arith, length-take size token) in
      grind (arith, take_all, append-nil)

  pub shown : take (length token) (filled_to size token) ≡ take size token
  shown = elim (cases_lt size (length token)) [ inl longer ↦ front longer | inr fits ↦ whole fits ]
