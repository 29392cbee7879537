-- The address of a word that does not decode is one of the words. Assumes nothing.
use Rattle.std.proofs.Common.{◌≡◌, ℕ, ◌<◌, List, [], ◌∷◌, length, arith}
use Rattle.verdicts.specs.Verdict.{refused, refusal}
use Rattle.verdicts.proofs.Firsts.{first_named}
use Rattle.words.specs.Legal.{decodes_at, legal_of}

pub undecodable_within : (ws : List ℕ) (at : ℕ) → legal_of ws ≡ refused (refusal 2 (at ∷ [])) → at < length ws
undecodable_within ws at h =
    let named = first_named (decodes_at ws) (length ws) (refusal 2 (at ∷ [])) (grind arith) in
    let same : named.0 ≡ at = grind (arith, named.2) in
    omega (arith, named.1)
