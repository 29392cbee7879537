-- One step of a board, and runs of steps.
use Rattle.std.proofs.Common.{arith, ◌≡◌, ℕ, ◌<◌, ◌≤◌, ◌⊎◌, List, sym, subst}
use Rattle.machine.specs.declared.phase.Phase.{Phase}
use Rattle.machine.specs.declared.phase.Phase.TheVariants as phase
use Rattle.machine.specs.declared.phase.Ending.{Ending}
use Rattle.machine.specs.Run.{State, moves, stops, step, Runs, last, more}
use Rattle.machine.specs.Calls.{Board, board, did, ends, does, does_at, run, phase_of}
use Rattle.machine.specs.Laws.{CountsIn, RunCounts}
use Rattle.machine.proofs.Runs.{Grows, grows, finish, counts, chain}
use Rattle.avr.specs.Core.{Core}
use Rattle.avr.specs.Chip.{instruction_of, avr}
use Rattle.avr.proofs.Sounds.{positive}

-- a step that goes on adds to the count, within the limit
pub step_grows : (ws : List ℕ) (limit : ℕ) (s u : State Core) → moves u ≡ step (avr ws) limit s → (s.count < u.count) × (u.count ≤ limit)
step_grows ws limit s u p = subst (Grows limit s.count) (sym p) (grows (avr ws) (λ a. positive a (instruction_of ws a)) limit s)

-- runs, over words that stay the same
pub run_last : (ws vs : List ℕ) (limit : ℕ) (s t : State Core) (e : Ending) → vs ≡ ws → stops t e ≡ step (avr vs) limit s → Runs (avr ws) limit s t e
run_last ws vs limit s t e p q = last s t e (rw p at (sym q))

pub run_more : (ws vs : List ℕ) (limit : ℕ) (s u t : State Core) (e : Ending) → vs ≡ ws → moves u ≡ step (avr vs) limit s → Runs (avr ws) limit u t e → Runs (avr ws) limit s t e
run_more ws vs limit s u t e p q r = more s u t e (rw p at (sym q)) r

pub ran : (ws : List ℕ) (limit : ℕ) (p q : Phase) (s t : State Core) (e : Ending) → (p ≡ phase.Loading) ⊎ (p ≡ phase.Running) → q ≡ phase_of e → Runs (avr ws) limit s t e →
    did t q (ends e) ≡ does_at (avr ws) (run limit) p s
ran ws limit p q s t e h k r = grind (arith, finish (avr ws) (λ a. positive a (instruction_of ws a)) limit s t e r)

-- what a call to run does is a run that counts, or nothing
counted : (ws : List ℕ) (limit : ℕ) (p : Phase) (s : State Core) (c : Board Core) (e : Ending) → record { board = c; answer = ends e } ≡ does_at (avr ws) (run limit) p s →
    CountsIn (avr ws) p limit (board s p) c e
counted ws limit p s c e h = let pos = λ (a : ℕ). positive a (instruction_of ws a) in grind (arith, counts (avr ws) pos limit s, chain (avr ws) pos limit s)

pub run_counts : (ws : List ℕ) (limit : ℕ) (b c : Board Core) (e : Ending) → record { board = c; answer = ends e } ≡ does (avr ws) (run limit) b → RunCounts (avr ws) limit b c e
run_counts ws limit b c e h = counted ws limit b.phase b.state c e h
