-- What a machine did, one act after another, told by the mote before and after each.
use Rattle.std.specs.Prelude.{⊤, ◌≡◌, ◌≢◌, Bool, false, ℕ, suc, ◌+◌, ◌-◌, ◌*◌, ◌/◌, ◌%◌, ◌≤◌, ◌⊎◌, List, [], ◌∷◌, ◌++◌, slice_index, slice_set, length, replicate, ◌<◌, ◌==◌, nat_le, if◌then◌else◌}
use Rattle.std.specs.Prelude.{true, Option, Some, None}
use Rattle.std.specs.Option.{option_map}
use Rattle.avr_isa.specs.declared.form.Form.{Form}
use Rattle.avr_isa.specs.Crossing.{is_crossing}
use Rattle.input_script.specs.declared.input.Event.{Event}
use Rattle.flat_machine.specs.FlatMachine.{at_reset, next_size}
use Rattle.flat_machine.specs.FlatSpace.{FlatSpace, flat_calls}
use Rattle.avr_decode.specs.Program.{instruction_at}
use Rattle.avr_decode.specs.Decoding.{the_form, size_by_first_word}
use Rattle.avr_exec.specs.Spaces.{Went}
use Rattle.avr_exec.specs.Execution.{exec_of}
use Rattle.mote_devices.specs.declared.line.Line.{Line}
use Rattle.mote_devices.specs.State.{State}
use Rattle.mote_devices.specs.Waking.{wake}
use Rattle.page_draft.specs.Runs.{address, ends_at}
use Rattle.page_draft.specs.CodePages.{page_size}
use Rattle.flash_words.specs.Operations.{is_listed, Operation, Erase, Program, perform}
use Rattle.mote_core.specs.declared.mote.Mote.{Mote}
use Rattle.mote_core.specs.Physical.{physical_calls}
use Rattle.step_laws.specs.Moves.{line_before}
use Rattle.theorem_reader.specs.Pools.{pool_from, pool_size, IsInPool, AreFaithful, IsErased, AreFaithfulBut, IsPlaceOf, StandAt}
use Rattle.theorem_reader.specs.Memory.{sram_byte, Keeps, core_at, HasMemory}
use Rattle.theorem_reader.specs.Wear.{ErasesFew}

-- One AVR instruction of the mote in rewritten code. A service of the kernel, in which the program may stop. Each of these two may
-- write a device line. The arrival of control at an original address, the target, which may be refused; which makes so many pages;
-- and which tries so many operations on flash. An interrupt, in which the program may stop too.
pub data Act : Type 0 where
  Step : (line : Option Line) → (before after : Mote) → Act
  Service : (line : Option Line) → (stops : Bool) → (before after : Mote) → Act
  Arrival : (refused : Bool) → (target made ops : ℕ) → (before after : Mote) → Act
  Interrupt : (stops : Bool) → (before after : Mote) → Act

-- The mote executes the instruction whose words stand at its pc, and that is in the pool, `from` to 0xEFFF; the line is what it
-- writes. All of flash stays, and so does the swap area; of SRAM the bytes at 0x0108 to 0x011D and at 0x0120 to 0x04FF.
pub record IsStep (from : ℕ) (line : Option Line) (before after : Mote) : Type 0 where
  pub low : from ≤ before.cpu.pc
  pub high : before.cpu.pc ≤ 0xEFFF
  pub flash : after.flash ≡ before.flash
  pub swap : after.swap ≡ before.swap
  pub cells : Keeps 0x0108 0x011D before after × Keeps 0x0120 0x04FF before after
  pub executed : option_map (λ (form : Form). exec_of physical_calls form before.cpu
      (record { sram = before.sram; devices = before.devices; words = before.flash.words; line = None })
      (size_by_first_word (slice_index before.flash.words ((before.cpu.pc + 1) % 65536))))
      (the_form (slice_index before.flash.words before.cpu.pc) (slice_index before.flash.words ((before.cpu.pc + 1) % 65536)))
      ≡ Some (Went after.cpu (record { sram = after.sram; devices = after.devices; words = after.flash.words; line = line }))

-- the kernel's stack is empty; else nothing changes
abbrev pub rested : Mote → Mote
rested m = record m { cpu = record m.cpu { sp = 0x011F } }

-- the address behind the call of the kernel, where that left it: the high byte at 0x011E, the low one at 0x011F
abbrev pub called_from : Mote → ℕ
called_from m = sram_byte m 0x011E * 256 + sram_byte m 0x011F

-- where that call begins, which has two words
abbrev pub call_address : Mote → ℕ
call_address m = (called_from m + 65534) % 65536

-- the word behind that call, which is an address of the program there
abbrev pub program_address : Mote → ℕ
program_address m = slice_index m.flash.words (called_from m)

-- COUNT, the byte at 0x0100, counts crossings down. This is what comes of such a count once the program went from one address to
-- another: where that is a crossing it is one less, or the quantum where it was 1.
abbrev pub count_behind : (quantum from to count : ℕ) → ℕ
count_behind quantum from to count = if is_crossing from to then (if count == 1 then quantum else count - 1) else count

-- The original program's instruction at that address is executed over flat memory, whatever of it was stored to, and however much
-- may be: the 65,536 bytes that the mote keeps for the program (`Memory`), the devices, and the image. From 0xF008 on the crossing
-- to its next address is counted; at 0xF004 and 0xF006 COUNT stays, and a line may be written. Or nothing but the kernel's stack
-- pointer changes, and no line is written, where the program stops.
pub data Executes (image : List ℕ) (quantum : ℕ) (line : Option Line) (stops : Bool) (before after : Mote) : Type 0 where
  Ends : stops ≡ true → line ≡ None → after ≡ rested before → Executes image quantum line stops before after
  Done : stops ≡ false → (form : Form) → (to : ℕ) → (old new : FlatSpace) → instruction_at image (program_address before) ≡ Some form
      → HasMemory before old.memory → old.devices ≡ before.devices → old.image ≡ image → old.line ≡ None
      → exec_of flat_calls form (core_at before (program_address before)) old (next_size image (program_address before)) ≡ Went (core_at after to) new
      → HasMemory after new.memory → after.devices ≡ new.devices → line ≡ (if nat_le before.cpu.pc 0xF007 then new.line else None)
      → sram_byte after 0x0100 ≡ (if nat_le before.cpu.pc 0xF007 then sram_byte before 0x0100 else count_behind quantum (program_address before) to (sram_byte before 0x0100))
      → Executes image quantum line stops before after

-- The program is to go on at the next address, as behind a SLEEP: the devices are as inputs leave them, with an enabled interrupt
-- requested (`wake`), the crossing to the next address is counted, and nothing else changes but the kernel's stack pointer. Or
-- that alone does, where the program stops.
pub data Sleeps (quantum : ℕ) (stops : Bool) (before after : Mote) : Type 0 where
  Stays : stops ≡ true → after ≡ rested before → Sleeps quantum stops before after
  Wakes : stops ≡ false → (devices : State) → wake before.devices ≡ Some devices → ((a : ℕ) → 0x0101 ≤ a → sram_byte after a ≡ sram_byte before a)
      → after ≡ record (rested before) { sram = after.sram; devices = devices }
      → sram_byte after 0x0100 ≡ count_behind quantum (program_address before) ((program_address before + 1) % 65536) (sram_byte before 0x0100) → Sleeps quantum stops before after

-- The pc is at one of the kernel's eight entries, the even addresses from 0xF000 to 0xF00E. All of flash stays, and the bytes
-- of SRAM at 0x0101 to 0x011F, but for the program's stack pointer, and at 0x0142 to 0x03FF. At each entry but 0xF004, which
-- alone reaches the heap, so does the swap area, and 0x0120 to 0x0CFF. The kernel's stack, 0x011E and 0x011F, is empty
-- again. The pc stays; but at 0xF004 and 0xF006, unless the program stops, it is one more than the address that stack had,
-- which is behind the call of the kernel: rewritten code goes on behind the one word there. At 0xF000 nothing else changes; at
-- 0xF002 but r24 and SREG, from 0x0101 and 0x0102, and the byte at 0x0100, which is the quantum; the program stops at neither.
-- From 0xF004 to 0xF00D an instruction of the program is executed, or it stops; at 0xF00E it goes on behind a SLEEP, or stops.
-- From 0xF006 on the registers stay. A line is written at 0xF004 and 0xF006 alone.
pub record IsService (image : List ℕ) (quantum : ℕ) (line : Option Line) (stops : Bool) (before after : Mote) : Type 0 where
  pub low : 0xF000 ≤ before.cpu.pc
  pub high : before.cpu.pc ≤ 0xF00F
  pub even : before.cpu.pc % 2 ≡ 0
  pub stack : after.cpu.sp ≡ 0x011F
  pub resumed : stops ≡ false → 0xF004 ≤ before.cpu.pc → before.cpu.pc ≤ 0xF007 → after.cpu.pc ≡ (called_from before + 1) % 65536
  pub stays : (stops ≡ true) ⊎ ((before.cpu.pc ≤ 0xF003) ⊎ (0xF008 ≤ before.cpu.pc)) → after.cpu.pc ≡ before.cpu.pc
  pub bridge : before.cpu.pc ≡ 0xF000 → (stops ≡ false) × (line ≡ None) × (after ≡ rested before)
  pub refilled : before.cpu.pc ≡ 0xF002 → (stops ≡ false) × (line ≡ None) × (after ≡ record before {
    cpu = record before.cpu { r = slice_set before.cpu.r 24 (sram_byte before 0x0101); sreg = sram_byte before 0x0102; sp = 0x011F };
    sram = slice_set before.sram 0 quantum;
  })
  pub executes : 0xF004 ≤ before.cpu.pc → before.cpu.pc ≤ 0xF00D → Executes image quantum line stops before after
  pub sleeps : 0xF00E ≤ before.cpu.pc → (line ≡ None) × Sleeps quantum stops before after
  pub registers : 0xF006 ≤ before.cpu.pc → after.cpu.r ≡ before.cpu.r
  pub flash : after.flash ≡ before.flash
  pub cells : Keeps 0x0101 0x0102 before after × Keeps 0x0105 0x011F before after × Keeps 0x0142 0x03FF before after
  pub heap : before.cpu.pc ≢ 0xF004 → (after.swap ≡ before.swap) × Keeps 0x0120 0x0CFF before after

-- An arrival that makes no page leaves the words of flash as they are; or two of them, a call of the kernel at 0xF000, as which
-- an exit stub begins, become a jump to where control goes on.
pub data Relinks (before after : List ℕ) (place : ℕ) : Type 0 where
  Same : after ≡ before → Relinks before after place
  Linked : (s : ℕ) → StandAt before s 0x940E 0xF000 → after ≡ slice_set (slice_set before s 0x940C) (s + 1) place → Relinks before after place

-- RING, at 0x0142 and 0x0143, the low byte first: the number within the pool of the page to be made anew where none is erased
abbrev pub ring_of : Mote → ℕ
ring_of m = sram_byte m 0x0142 + 256 * sram_byte m 0x0143

-- the page that is to be made anew for the target: RING's, where no page of the pool is erased, or has a place of the target
pub record IsRecycled (image : List ℕ) (target : ℕ) (before : Mote) (page : ℕ) : Type 0 where
  pub anew : (place : ℕ) → ¬ IsPlaceOf image before.flash.words target place
  pub full : (other : ℕ) → IsInPool image other → ¬ IsErased before.flash.words other
  pub turn : 128 * page ≡ pool_from image + 128 * ring_of before

-- The page that is made: the lowest of the pool that was erased, and RING stays; or, where none was, RING's, and RING is the next
-- one then.
pub data IsNext (image : List ℕ) (target : ℕ) (before after : Mote) (page : ℕ) : Type 0 where
  Lowest : IsInPool image page → IsErased before.flash.words page → ((lower : ℕ) → IsInPool image lower → lower < page → ¬ IsErased before.flash.words lower)
      → ring_of after ≡ ring_of before → IsNext image target before after page
  InTurn : IsRecycled image target before page → ring_of after ≡ (ring_of before + 1) % pool_size image → IsNext image target before after page

-- Why the page made of the instructions from t on to the one of number `last` goes no further: control never goes on from that one
-- to the next; or the next one is in another page of 128 words, or outside the image, or has a place in another page already; or
-- with it the page would have more than 128 words.
pub data GoesNoFurther (image flash : List ℕ) (page t last : ℕ) : Type 0 where
  Leads : ends_at image (address image t last) ≡ true → GoesNoFurther image flash page t last
  Leaves : address image t (suc last) / 128 ≢ t / 128 → GoesNoFurther image flash page t last
  Beyond : length image ≤ address image t (suc last) → GoesNoFurther image flash page t last
  Known : (place : ℕ) → place / 128 ≢ page → IsPlaceOf image flash (address image t (suc last)) place → GoesNoFurther image flash page t last
  Full : 128 < page_size image t (suc last) → GoesNoFurther image flash page t last

-- A page is made for the target, which has no place before. It is the next one, and the one where control is then; there the
-- code of the target begins. It begins with the target, has so many instructions, and goes on as far as it may.
pub record IsMade (image : List ℕ) (target : ℕ) (before after : Mote) : Type 0 where
  pub anew : (place : ℕ) → ¬ IsPlaceOf image before.flash.words target place
  pub next : IsNext image target before after (after.cpu.pc / 128)
  pub place : IsPlaceOf image after.flash.words target after.cpu.pc
  pub last : ℕ
  pub first : slice_index after.flash.words (128 * (after.cpu.pc / 128) + 2) / 256 ≡ target % 128
  pub entries : slice_index after.flash.words (128 * (after.cpu.pc / 128) + 1) ≡ suc last
  pub stops : GoesNoFurther image before.flash.words (after.cpu.pc / 128) target last

-- A word of a page that isn't made: it stays. Or it is one of the first two of an exit stub. That called the kernel at 0xF000, and
-- jumps to where control is then; or it jumped into the page that is to be made anew, and calls the kernel then.
pub data KeepsLink (image : List ℕ) (target : ℕ) (before after : Mote) (a : ℕ) : Type 0 where
  Kept : slice_index after.flash.words a ≡ slice_index before.flash.words a → KeepsLink image target before after a
  Linked : (s : ℕ) → (a ≡ s) ⊎ (a ≡ s + 1) → StandAt before.flash.words s 0x940E 0xF000 → StandAt after.flash.words s 0x940C after.cpu.pc → KeepsLink image target before after a
  Unlinked : (s : ℕ) → (a ≡ s) ⊎ (a ≡ s + 1) → slice_index before.flash.words s ≡ 0x940C → IsRecycled image target before (slice_index before.flash.words (s + 1) / 128)
      → StandAt after.flash.words s 0x940E 0xF000 → KeepsLink image target before after a

-- .. each word of a page
abbrev pub KeepsLinks : (image : List ℕ) (target : ℕ) (before after : Mote) (page : ℕ) → Type 0
KeepsLinks image target before after page = (k : ℕ) → k < 128 → KeepsLink image target before after (128 * page + k)

-- A page that isn't made keeps its code and its links, and is erased if it was; or it is this one, which is erased now.
abbrev pub IsUnmade : (image : List ℕ) (target : ℕ) (before after : Mote) (lost page : ℕ) → Type 0
IsUnmade image target before after lost page =
    (KeepsLinks image target before after page × (IsErased before.flash.words page → IsErased after.flash.words page)) ⊎ ((page ≡ lost) × IsErased after.flash.words page)

-- How an arrival ends. Its target is in the image, and control goes on where the code of that begins, in a flash that is
-- faithful. Each page of the pool but the one of that place keeps its code and its links (`KeepsLinks`). If a page was made it is
-- that one (`IsMade`); else a link is all that changes of the words of flash (`Relinks`), and RING stays. No operation that is
-- listed to fail was tried.
-- Or the target is outside the image, and it is refused: no page is made, and flash and the pc stay. Or the target is in the
-- image, and an operation on flash was refused, the last of those that were tried, and listed to fail: flash is faithful, but
-- that a page may lack its words. Each page of the pool but one that was made keeps its code and its links, one at most excepted,
-- which is erased then (`IsUnmade`). The pc stays, or is in the pool: in the page that was made, if any (`IsMade`).
pub data Arrives (image : List ℕ) (refused : Bool) (target made : ℕ) (before after : Mote) : Type 0 where
  In : refused ≡ false → target < length image → AreFaithful image after.flash.words → IsPlaceOf image after.flash.words target after.cpu.pc
      → ((page : ℕ) → IsInPool image page → page ≢ after.cpu.pc / 128 → KeepsLinks image target before after page)
      → (made ≡ 0 → Relinks before.flash.words after.flash.words after.cpu.pc × (ring_of after ≡ ring_of before)) → (made ≡ 1 → IsMade image target before after)
      → ((op : ℕ) → before.flash.ops < op → op ≤ after.flash.ops → is_listed before.flash.failing op ≡ false) → Arrives image refused target made before after
  Outside : refused ≡ true → length image ≤ target → made ≡ 0 → after.flash ≡ before.flash → after.cpu.pc ≡ before.cpu.pc → Arrives image refused target made before after
  Refused : refused ≡ true → target < length image → before.flash.ops < after.flash.ops → is_listed before.flash.failing after.flash.ops ≡ true → AreFaithfulBut image after.flash.words
      → (lost : ℕ) → ((page : ℕ) → IsInPool image page → (made ≡ 0) ⊎ (page ≢ after.cpu.pc / 128) → IsUnmade image target before after lost page)
      → (after.cpu.pc ≡ before.cpu.pc) ⊎ ((pool_from image ≤ after.cpu.pc) × (after.cpu.pc < 0xF000)) → (made ≡ 1 → IsMade image target before after) → Arrives image refused target made before after

-- An operation on a page of the pool: an erase, where the page isn't erased in flash; or a program of 128 words, where it is.
abbrev pub IsAllowed : (image flash : List ℕ) → Operation → Type 0
IsAllowed image flash (Erase page) = IsInPool image page × (¬ IsErased flash page)
IsAllowed image flash (Program page words) = IsInPool image page × (length words ≡ 128) × IsErased flash page

-- Before it flash is faithful. Registers, SREG, stack pointer, devices and swap stay; of SRAM all but 0x0142 to 0x03FF; of
-- flash all words outside the pool. One page is made at most. Flash changes by so many operations, one behind the other up to one
-- that is refused, if any is: each is to erase a page of the pool that those in front don't leave erased, or to program one that
-- they do, which has its words then (docs/MOTE.md). A page that is made takes one at least. Where a page of the pool was erased
-- before, there are at most two beside that; and always at most two for each page of the pool, and four. No page is erased more
-- than twice, or where its words are the same then (`ErasesFew`).
pub record IsArrival (image : List ℕ) (refused : Bool) (target made ops : ℕ) (before after : Mote) : Type 0 where
  pub sound : AreFaithful image before.flash.words
  pub page : made ≤ 1
  pub worked : made ≤ ops
  pub operations : List Operation
  pub tried : length operations ≡ ops
  pub counted : after.flash.ops ≡ before.flash.ops + ops
  pub allowed : (done behind : List Operation) → (operation : Operation) → operations ≡ done ++ (operation ∷ behind) → IsAllowed image (perform before.flash done).memory.words operation
  pub few : (page : ℕ) → IsInPool image page → IsErased before.flash.words page → ops ≤ made + 2
  pub most : ops ≤ 2 * pool_size image + 4
  pub performed : (perform before.flash operations).memory ≡ after.flash
  pub erased : ErasesFew before.flash after.flash
  pub stays : after ≡ record before { cpu = record before.cpu { pc = after.cpu.pc }; sram = after.sram; flash = after.flash }
  pub low : Keeps 0x0100 0x0141 before after
  pub high : (a : ℕ) → 0x0400 ≤ a → sram_byte after a ≡ sram_byte before a
  pub outside : (a : ℕ) → (a < pool_from image) ⊎ (0xF000 ≤ a) → slice_index after.flash.words a ≡ slice_index before.flash.words a
  pub arrives : Arrives image refused target made before after

-- All of flash stays, and so do the swap area, the core but for SREG, and SRAM at 0x0100 to 0x0CFF but for the program's stack
-- pointer. Nothing changes where the program stops there.
pub record IsInterrupt (stops : Bool) (before after : Mote) : Type 0 where
  pub stopped : stops ≡ true → after ≡ before
  pub stays : after ≡ record before { cpu = record before.cpu { sreg = after.cpu.sreg }; sram = after.sram; devices = after.devices }
  pub cells : Keeps 0x0100 0x0102 before after × Keeps 0x0105 0x0CFF before after

-- the acts lead from the first mote to the last, each from where the one before it led, and each is what it is called
abbrev pub Follow : (image : List ℕ) (quantum : ℕ) → Mote → List Act → Mote → Type 0
Follow image quantum first [] last = first ≡ last
Follow image quantum first (Step line before after ∷ acts) last = (before ≡ first) × IsStep (pool_from image) line before after × Follow image quantum after acts last
Follow image quantum first (Service line stops before after ∷ acts) last = (before ≡ first) × IsService image quantum line stops before after × Follow image quantum after acts last
Follow image quantum first (Arrival refused target made ops before after ∷ acts) last = (before ≡ first) × IsArrival image refused target made ops before after × Follow image quantum after acts last
Follow image quantum first (Interrupt stops before after ∷ acts) last = (before ≡ first) × IsInterrupt stops before after × Follow image quantum after acts last

-- how many steps there are
abbrev pub steps_in : List Act → ℕ
steps_in [] = 0
steps_in (Step line before after ∷ acts) = suc (steps_in acts)
steps_in (_ ∷ acts) = steps_in acts

-- how many services
abbrev pub services_in : List Act → ℕ
services_in [] = 0
services_in (Service line stops before after ∷ acts) = suc (services_in acts)
services_in (_ ∷ acts) = services_in acts

-- how many pages were made, by arrivals that went on, or were refused behind that
abbrev pub made_in : List Act → ℕ
made_in [] = 0
made_in (Arrival refused target made ops before after ∷ acts) = made + made_in acts
made_in (_ ∷ acts) = made_in acts

-- the device lines that were written
abbrev pub lines_in : List Act → List Line
lines_in [] = []
lines_in (Step line before after ∷ acts) = line_before line (lines_in acts)
lines_in (Service line stops before after ∷ acts) = line_before line (lines_in acts)
lines_in (_ ∷ acts) = lines_in acts

-- whether the program stops in it
abbrev pub is_stop : Act → Bool
is_stop (Service line stops before after) = stops
is_stop (Interrupt stops before after) = stops
is_stop _ = false

-- the program stops in the last of the acts and in no other, where so it is said; else in none
abbrev pub StopsLast : (stops : Bool) → List Act → Type 0
StopsLast stops [] = stops ≡ false
StopsLast stops (act ∷ []) = is_stop act ≡ stops
StopsLast stops (act ∷ other ∷ acts) = (is_stop act ≡ false) × StopsLast stops (other ∷ acts)

-- A mote that has done nothing: registers and SREG are 0, the pc is 0, and the kernel's stack is empty. SRAM is 0 but for the
-- byte at 0x0100, the quantum, and the map of the swap area at 0x0400 to 0x04FF, which is 0xFF. The devices are the original
-- program's at reset, the slots of the swap area, of 256 bytes each, are 0, and of its operations on flash none was tried yet,
-- and none refused.
pub record IsNew (events : List Event) (quantum slots : ℕ) (m : Mote) : Type 0 where
  pub core : m.cpu ≡ record { r = replicate 32 0; sreg = 0; sp = 0x011F; pc = 0 }
  pub size : length m.sram ≡ 4096
  pub count : sram_byte m 0x0100 ≡ quantum
  pub map : (a : ℕ) → 0x0400 ≤ a → a ≤ 0x04FF → sram_byte m a ≡ 0xFF
  pub zero : (a : ℕ) → 0x0101 ≤ a → a ≤ 0x10FF → (a < 0x0400) ⊎ (0x0500 ≤ a) → sram_byte m a ≡ 0
  pub devices : m.devices ≡ (at_reset events).devices
  pub swap : m.swap ≡ replicate slots (replicate 256 0)
  pub ops : m.flash.ops ≡ 0
  pub refused : m.flash.refused ≡ None

-- At boot such a mote's flash has the image from word 0 on, then erased words, and RET in the kernel's pages; no page was erased,
-- and these operations are to fail.
pub record IsBoot (image failing : List ℕ) (events : List Event) (quantum slots : ℕ) (m : Mote) : Type 0 where
  pub new : IsNew events quantum slots m
  pub flash : m.flash ≡ record m.flash { words = image ++ replicate (0xF000 - length image) 0xFFFF ++ replicate 0x1000 0x9508; erases = replicate 512 0; failing = failing }

-- What comes of a call of the kernel at 0xF000, as which an exit stub begins. The act behind that service is the arrival at the
-- address that stands behind the call; the call is in flash still. Unless that arrival is refused, a jump to where control goes on
-- stands there then; or the call's page is the one that was made.
abbrev pub Links : Mote → Act → Type 0
Links called (Arrival refused target made ops before after) =
    (target ≡ program_address called) × StandAt before.flash.words (call_address called) 0x940E 0xF000
    × (refused ≡ false → StandAt after.flash.words (call_address called) 0x940C after.cpu.pc ⊎ ((made ≡ 1) × (call_address called / 128 ≡ after.cpu.pc / 128)))
Links called act = ⊥

-- so it is for each service at 0xF000 but one that is the last of the acts
abbrev pub AreLinked : List Act → Type 0
AreLinked [] = ⊤
AreLinked (Service line stops before after ∷ other ∷ acts) = (before.cpu.pc ≡ 0xF000 → Links before other) × AreLinked (other ∷ acts)
AreLinked (act ∷ acts) = AreLinked acts

-- Acts lead to a mote from one of which this is so, and these are all: so many steps and services, so many pages beside those
-- that there were, and these device lines. No more than 5,120 steps for each crossing of the quantum stand in a row without a
-- service. Exit stubs are linked (`AreLinked`).
pub record HasActs (IsFirst : Mote → Type 0) (began : ℕ) (image : List ℕ) (quantum natural entries pages : ℕ) (lines : List Line) (last : Mote) : Type 0 where
  pub acts : List Act
  pub first : Mote
  pub begins : IsFirst first
  pub follow : Follow image quantum first acts last
  pub natural_is : natural ≡ steps_in acts
  pub entries_is : entries ≡ services_in acts
  pub pages_is : pages ≡ began + made_in acts
  pub lines_are : lines ≡ lines_in acts
  pub few : (front between back : List Act) → acts ≡ front ++ (between ++ back) → services_in between ≡ 0 → steps_in between ≤ 5120 * quantum
  pub linked : AreLinked acts
