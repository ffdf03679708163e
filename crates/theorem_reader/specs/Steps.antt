-- The acts of a run, step by step of the original program.
use Rattle.std.specs.Prelude.{⊤, ◌≡◌, ◌⊎◌, ℕ, zero, suc, ◌+◌, ◌-◌, ◌%◌, ◌≤◌, ◌==◌, ◌||◌, nat_le, if◌then◌else◌, Bool, true, false, List, [], ◌∷◌, ◌++◌, length, Option, Some, None}
use Rattle.flat_machine.specs.FlatMachine.{Moment, is_taken}
use Rattle.mote_core.specs.declared.mote.Mote.{Mote}
use Rattle.kernel_entry.specs.declared.kernel.Stop.{Stop}
use Rattle.kernel_entry.specs.declared.kernel.End.{End}
use Rattle.kernel_entry.specs.declared.kernel.End.TheVariants as ends
use Rattle.theorem_reader.specs.Acts.{Act, Service, Arrival, Interrupt, Follow, steps_in, services_in, StopsLast}
use Rattle.theorem_reader.specs.Memory.{sram_byte, HasState}
use Rattle.theorem_reader.specs.Pools.{IsPlaceOf}

-- a service but those at 0xF004 and 0xF006, behind which rewritten code goes on, is the last of the acts
abbrev pub EndsThere : List Act → Type 0
EndsThere [] = ⊤
EndsThere (Service line stops before after ∷ other ∷ acts) = (0xF004 ≤ before.cpu.pc) × (before.cpu.pc ≤ 0xF007) × EndsThere (other ∷ acts)
EndsThere (act ∷ acts) = EndsThere acts

-- instructions in rewritten code and services, and nothing else: 1 to 40 of the former, and two services at most
pub record AreOwn (acts : List Act) : Type 0 where
  pub alone : length acts ≡ steps_in acts + services_in acts
  pub some : 1 ≤ steps_in acts
  pub steps : steps_in acts ≤ 40
  pub services : services_in acts ≤ 2
  pub ends : EndsThere acts

-- the kernel has control: the pc is in its pages, as at one of its entries, or 0, as where nothing was done yet
abbrev pub is_with_kernel : Mote → Bool
is_with_kernel m = (m.cpu.pc == 0) || nat_le 0xF000 m.cpu.pc

-- The acts of one step of the original program, which stands at s. The act is an interrupt, where it takes one (`is_taken`). Where
-- it takes none, control is where the code of the program's address begins, and goes through that; or it arrives there first. An
-- interrupt and an arrival come only where the kernel has control.
pub data AreOfStep (image : List ℕ) (s : Moment) (before : Mote) (acts : List Act) : Type 0 where
  Interrupted : is_with_kernel before ≡ true → (stops : Bool) → (after : Mote) → acts ≡ Interrupt stops before after ∷ [] → is_taken s ≡ true → AreOfStep image s before acts
  There : is_taken s ≡ false → IsPlaceOf image before.flash.words s.now.cpu.pc before.cpu.pc → AreOwn acts → AreOfStep image s before acts
  Arriving : is_with_kernel before ≡ true → is_taken s ≡ false → (made ops : ℕ) → (there : Mote) → (own : List Act) → acts ≡ Arrival false s.now.cpu.pc made ops before there ∷ own → AreOwn own
      → AreOfStep image s before acts

-- Between two steps the kernel's stack is empty, and COUNT, the byte at 0x0100, is what the program's crossings leave of the
-- quantum. Where an interrupt is due, as behind a checkpoint, the kernel has control.
pub record IsBetween (quantum : ℕ) (s : Moment) (m : Mote) : Type 0 where
  pub stack : m.cpu.sp ≡ 0x011F
  pub count : sram_byte m 0x0100 ≡ quantum - s.now.crossings % quantum
  pub due : s.due ≡ true → is_with_kernel m ≡ true

-- The acts are those of n steps, one behind the other. Before step k + 1 the mote stands where the original program stands
-- after k steps, at (k).
abbrev pub GoByStep : (image : List ℕ) (quantum : ℕ) (at : ℕ → Moment) → (first : Mote) → (n : ℕ) → List Act → (last : Mote) → Type 0
GoByStep image quantum at first zero acts last = (first ≡ last) × (acts ≡ [])
GoByStep image quantum at first (suc k) acts last =
    (before : Mote) × (earlier own : List Act) × (acts ≡ earlier ++ own) × GoByStep image quantum at first k earlier before × HasState (at k).now before × IsBetween quantum (at k) before
    × AreOfStep image (at k) before own × StopsLast false own × Follow image quantum before own last

-- The program goes on by none of these: there are none, it hasn't ended, and its next step can begin where control is; or the
-- arrival at its address is refused, outside the image or by an operation on flash; or it stops by itself, in whatever way, in
-- the last of them.
pub data AreUnmade (image : List ℕ) (s : Moment) (before : Mote) (acts : List Act) (end : Option End) : Type 0 where
  Nothing : acts ≡ [] → end ≡ None → (is_with_kernel before ≡ true) ⊎ IsPlaceOf image before.flash.words s.now.cpu.pc before.cpu.pc → AreUnmade image s before acts end
  Refused : is_with_kernel before ≡ true → (made ops : ℕ) → (after : Mote) → acts ≡ Arrival true s.now.cpu.pc made ops before after ∷ []
      → end ≡ Some (if nat_le (length image) s.now.cpu.pc then ends.Wild s.now.cpu.pc else ends.Flash after.flash.ops) → AreUnmade image s before acts end
  Stopped : AreOfStep image s before acts → StopsLast true acts → (stop : Stop) → end ≡ Some (ends.Stopped stop) → AreUnmade image s before acts end

-- n steps were made, and behind them at most what begins one more, which isn't; and so the program ended, if it did
pub record IsByStep (image : List ℕ) (quantum : ℕ) (at : ℕ → Moment) (first : Mote) (acts : List Act) (n : ℕ) (left : Mote) (end : Option End) : Type 0 where
  pub last : Mote
  pub earlier : List Act
  pub rest : List Act
  pub all : acts ≡ earlier ++ rest
  pub steps : GoByStep image quantum at first n earlier last
  pub state : HasState (at n).now last
  pub between : IsBetween quantum (at n) last
  pub unmade : AreUnmade image (at n) last rest end
  pub follow : Follow image quantum last rest left
