-- The chip is a sound machine: its table can be trusted.
use Rattle.std.proofs.Common.{◌<◌, Bool, ◌≡◌, ℕ, true, false, List, [], is_some, Some, None, Option, unwrap_or, refl, arith, length-set, get_or-set_other}
use Rattle.std.proofs.lemmas.Bool.Decides.{nat_tests}
use Rattle.std.proofs.lemmas.Grind.{get_or-set_at}
use Rattle.words.specs.declared.instruction.Instruction.{Instruction}
use Rattle.words.specs.Cycles.{cycles_of}
use Rattle.words.specs.Operands.{Operands}
use Rattle.words.proofs.Operands.{operands}
use Rattle.machine.specs.Machine.{forks, Positive, Sound}
use Rattle.avr.specs.Core.{Core}
use Rattle.avr.specs.Effects.{effect_of}
use Rattle.avr.specs.Table.{origins_of, deciders_of}
use Rattle.avr.specs.Chip.{instruction_of, kind_of, well_formed_core, avr}
use Rattle.avr.specs.Exact.{Exact, TableExact}
use Rattle.avr.proofs.Locals.{local}

-- the table is true of each instruction whose operands are in range
exact_by : (i : Instruction) → Operands i → Exact i
exact_by i n = record {
  local = λ x y fx fy. local x y fx fy i n;
  kept = λ x p e. grind (arith, nat_tests, get_or-set_other);
  decided = λ x y h. grind (arith, nat_tests);
}

pub exact : TableExact
exact w i e = exact_by i (operands w i e)

-- the instruction at every address has operands in range: nop stands in where a word does not decode
pub named : (ws : List ℕ) (a : ℕ) → Operands (instruction_of ws a)
named ws a = grind (arith, operands)

-- every instruction takes a cycle at least, whichever way it goes
some_cycles : (i : Instruction) (aside : Bool) → 0 < cycles_of i aside
some_cycles i aside = grind arith

pub positive : (a : ℕ) (i : Instruction) → Positive (kind_of a i)
positive a i = grind (arith, some_cycles i)

-- the places of a fork are its deciding places
fork_deciders : (a : ℕ) (i : Instruction) (qs : List ℕ) (b c b' c' : ℕ) → kind_of a i ≡ forks qs b c b' c' → deciders_of i ≡ qs
fork_deciders a i qs b c b' c' e = grind arith

-- an instruction that forks writes nothing
still : (a : ℕ) (i : Instruction) (qs : List ℕ) (b c b' c' : ℕ) → kind_of a i ≡ forks qs b c b' c' → (p : ℕ) → is_some (origins_of i p) ≡ false
still a i qs b c b' c' e p = grind arith

-- written by the table, or not
written : (o : Option (List ℕ)) → is_some o ≡ true → o ≡ Some (unwrap_or o [])
written o e = grind arith

unwritten : (o : Option (List ℕ)) → is_some o ≡ false → o ≡ None
unwritten o e = grind arith

well_formed_effect : (i : Instruction) (x : Core) → well_formed_core x ≡ true → well_formed_core (effect_of i x) ≡ true
well_formed_effect i x h = grind (arith, length-set)

pub sound : (ws : List ℕ) → Sound (avr ws)
sound ws =
    let told = λ (a : ℕ). exact_by (instruction_of ws a) (named ws a) in
    record {
      positive = λ a. positive a (instruction_of ws a);
      local = λ a p x y fx fy w h. (told a).local x y fx fy p _ (written (origins_of (instruction_of ws a) p) w) h;
      kept = λ a p x w. (told a).kept x p (unwritten (origins_of (instruction_of ws a) p) w);
      decided = λ a qs b c b' c' e x y h. (told a).decided x y (rw (fork_deciders a (instruction_of ws a) qs b c b' c' e) h);
      still = λ a. still a (instruction_of ws a);
      well_formed_blank = refl;
      well_formed_effect = λ a. well_formed_effect (instruction_of ws a);
      well_formed_put = λ w n x h. grind (arith, length-set);
      put_same = λ w n x y q v fx fy h. grind (arith, nat_tests, get_or-set_at, get_or-set_other);
      put_else = λ w n k x y q v o h. grind (arith, nat_tests, get_or-set_other);
      get_same = λ w x y v h. grind (arith, nat_tests);
    }
