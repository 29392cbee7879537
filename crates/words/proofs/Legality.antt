-- Words that pass the check are such as a listing has.
use Rattle.std.proofs.Common.{rules, ◌≡◌, ℕ, List, length}
use Rattle.verdicts.specs.Verdict.{fine, first}
use Rattle.verdicts.proofs.Firsts.{and_fine, first_each}
use Rattle.words.specs.Legal.{length_of, legal_of, decodes_at, Decodes}

pub legal_decodes : (ws : List ℕ) → legal_of ws ≡ fine → Decodes ws
legal_decodes ws e k h =
    let each = first_each (decodes_at ws) (length ws) (and_fine (length_of ws) (first (decodes_at ws) (length ws)) e).1 k h in search rules
