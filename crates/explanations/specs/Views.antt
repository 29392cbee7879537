-- What an explanation goes by. Assumes nothing.
use Rattle.std.specs.Prelude.{ℕ, ◌+◌, Bool, true, false, not, ◌&&◌, ◌||◌, ◌==◌, if◌then◌else◌}
use Rattle.words.specs.declared.instruction.Instruction.{Instruction}
use Rattle.words.specs.declared.route.Route.{Route}
use Rattle.words.specs.declared.route.Route.TheVariants.{To, Jump, Fork, Call, Return}
use Rattle.words.specs.Cycles.{cycles_of}
use Rattle.words.specs.Routes.{route_of}
use Rattle.secrecy.specs.Rows.{Rows}
use Rattle.secrecy.specs.Rules.{leaves, stays}

-- the way by which a fork goes aside is the one meant: it leads to b, and going on does not, or does so in time
abbrev pub aside_meant : Rows → ℕ → ℕ → ℕ → ℕ → ℕ → Bool
aside_meant R a b on aside c = aside == b && (not (on == b) || (leaves R a b c || stays R a b c))

-- the cycles of a way that leads from a to b, by where the word leads; rjmp, rcall and ret always divert
abbrev pub cycles_by : Rows → ℕ → ℕ → Route → Instruction → ℕ
cycles_by R a b (To t) i = cycles_of i false
cycles_by R a b (Jump t) i = cycles_of i true
cycles_by R a b (Fork on aside) i = cycles_of i (aside_meant R a b on aside (cycles_of i false))
cycles_by R a b (Call t) i = cycles_of i true
cycles_by R a b Return i = cycles_of i true

-- the cycles of the way that a refusal of its time means
abbrev pub cycles_to : Rows → ℕ → ℕ → Instruction → ℕ
cycles_to R a b i = cycles_by R a b (route_of a i) i

-- the join address that a row before b would have to say: b itself, where b is outside every region
abbrev pub due_join : Rows → ℕ → ℕ
due_join R b = if R.remaining b == 0 then b else R.join_address b

-- the remaining cycles that row a would have to say: those of the way, and what remains at b
abbrev pub due_cycles : Rows → ℕ → ℕ → Instruction → ℕ
due_cycles R a b i = cycles_to R a b i + R.remaining b
