use Rattle.std.proofs.Common.{◌≡◌, ℕ, false, List, [], length, replicate, ap, ap₂, ◌∙◌}
use Rattle.avr.specs.Core.{Core, core}
use Rattle.avr.specs.Chip.{blank_core}
use Rattle.board.specs.declared.chip.registers.Registers.{Registers}
use Rattle.board.specs.Cores.{bare, core_with}
use Rattle.board.proofs.chip.Chip.clear.Goals as goal

cleared : (r : Registers) (m n : List ℕ) → bare r ≡ core (replicate 32 0) false false [] → n ≡ replicate (length m) 0 → length m ≡ 65536 → core_with r n ≡ blank_core
cleared r m n p q l = ap₂ (λ (x : Core) n. core x.registers x.carry x.zero n) p (q ∙ ap (λ k. replicate {A = ℕ} k 0) l)

pub returns-clause-state : goal.returns-clause-state
returns-clause-state c =
    cleared c.blank-self.result c.args.self.now.memory.now _ c.blank-self.ensures (c.fill.ensures.after (λ y h. h)) c.args.self.now.size
