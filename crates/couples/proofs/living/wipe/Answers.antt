use Rattle.std.proofs.Common.{ℕ, replicate, ap, ◌∙◌}
use Rattle.couples.proofs.living.wipe.Goals as goal

pub returns : goal.returns
returns c = c.fill.ensures.after (λ y h. h) ∙ ap (λ k. replicate {A = ℕ} k 0) c.requires
