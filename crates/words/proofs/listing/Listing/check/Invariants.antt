use Rattle.std.proofs.Common.{◌≡◌}
use Rattle.verdicts.specs.Verdict.{first, fine}
use Rattle.words.specs.Legal.{decodes_at}
use Rattle.words.proofs.listing.Listing.check.Given as goal

abbrev pub invariant-loop-at : goal.invariant-loop-at
invariant-loop-at l = first (decodes_at l.words) l.at ≡ fine
