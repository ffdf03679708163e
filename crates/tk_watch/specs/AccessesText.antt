-- The bytes that a step reads and writes by address, as they are shown.
use Rattle.std.specs.Prelude.{ℕ, ◌-◌, ◌/◌, ◌%◌, ◌^◌, ◌==◌, ◌&&◌, Bool, nat_le, nat_lt, if◌then◌else◌, List, [], ◌++◌, codes, decimal, Option, Some, None}
use Rattle.text_lines.specs.Pieces.{address_text, byte_text}
use Rattle.avr_isa.specs.declared.form.Form.{Form}
use Rattle.avr_isa.specs.declared.form.Form.TheVariants.{LoadOff, StoreOff, LoadAt, StoreAt, Lds, Sts, Pop, Push, InIo, OutIo, Cbi, Sbi, Sbic, Sbis, Rcall, Call as CallForm, Icall, Ret, Reti}
use Rattle.avr_isa.specs.Addresses.{wrapping_sum, wrapping_difference}
use Rattle.avr_decode.specs.Program.{instruction_at}
use Rattle.avr_exec.specs.declared.cpu.Cpu.{Cpu}
use Rattle.avr_exec.specs.Asks.{displaced, io_address, target}
use Rattle.avr_exec.specs.Registers.{register}
use Rattle.flat_machine.specs.FlatMachine.{Moment, Program, is_taken}
use Rattle.tk_watch.specs.declared.accesses.Access.{Access}
use Rattle.tk_watch.specs.declared.accesses.Access.TheVariants.{Nothing, Load, Store, SkipIfSet, SkipIfClear, Set, Clear, Call, Interrupt, Return}

-- What an instruction reads and writes by address, with these registers: AVR Instruction Set Manual, "Operation" of each
-- instruction. It stands apart from `plan_of` of avr_exec. That asks nothing for an address of the core's own registers, which
-- counts here as any other. It doesn't say which register gets a byte. A table over its asks would have more rows than this one.
unfoldable pub access_of : Form → Cpu → Access
access_of (LoadOff d base q) cpu = Load (displaced cpu base q) d
access_of (LoadAt d pointer) cpu = Load (target cpu pointer) d
access_of (Lds d a) cpu = Load a d
access_of (InIo d a) cpu = Load (io_address a) d
access_of (Pop d) cpu = Load (wrapping_sum cpu.sp 1) d
access_of (StoreOff base q r) cpu = Store (displaced cpu base q) (register cpu r)
access_of (StoreAt pointer r) cpu = Store (target cpu pointer) (register cpu r)
access_of (Sts a r) cpu = Store a (register cpu r)
access_of (OutIo a r) cpu = Store (io_address a) (register cpu r)
access_of (Push r) cpu = Store cpu.sp (register cpu r)
access_of (Sbis a b) cpu = SkipIfSet (io_address a) (2 ^ b)
access_of (Sbic a b) cpu = SkipIfClear (io_address a) (2 ^ b)
access_of (Sbi a b) cpu = Set (io_address a) (2 ^ b)
access_of (Cbi a b) cpu = Clear (io_address a) (2 ^ b)
access_of (Rcall k) cpu = Call cpu.sp (wrapping_sum cpu.pc 1)
access_of Icall cpu = Call cpu.sp (wrapping_sum cpu.pc 1)
access_of (CallForm a) cpu = Call cpu.sp (wrapping_sum cpu.pc 2)
access_of Ret cpu = Return cpu.sp
access_of Reti cpu = Return cpu.sp
access_of _ cpu = Nothing

-- an instruction, or none
abbrev pub access_at : Option Form → Cpu → Access
access_at None cpu = Nothing
access_at (Some form) cpu = access_of form cpu

-- what the next step reads and writes, where an interrupt is taken or not: an interrupt pushes the pc
abbrev pub next_by : (taken : Bool) → (image : List ℕ) → Cpu → Access
next_by taken image cpu = if taken then Interrupt cpu.sp cpu.pc else access_at (instruction_at image cpu.pc) cpu

-- .. at a moment of a program
abbrev pub next_access : Program → Moment → Access
next_access program m = next_by (is_taken m) program.image m.now.cpu

-- the row of a byte: the step of this number, which began at this pc with this SREG, did this to it
unfoldable pub access_line : (step pc sreg : ℕ) → (kind : List ℕ) → (a v : ℕ) → List ℕ
access_line step pc sreg kind a v = codes "step " ++ decimal step ++ codes " " ++ address_text pc ++ codes " " ++ kind ++ codes " " ++ address_text a ++ codes " " ++ byte_text v ++ codes " " ++ byte_text sreg
    ++ codes "\n"

-- .. which is told where the byte is one of so many from an address on
abbrev pub access_text : (first count step pc sreg : ℕ) → (kind : List ℕ) → (a v : ℕ) → List ℕ
access_text first count step pc sreg kind a v = if nat_le first a && nat_lt (a - first) count then access_line step pc sreg kind a v else []

-- a return address is pushed: its low byte first, its high byte below
abbrev pub push_text : (first count step pc sreg : ℕ) → (kind : List ℕ) → (sp back : ℕ) → List ℕ
push_text first count step pc sreg kind sp back =
    access_text first count step pc sreg kind sp (back % 256) ++ access_text first count step pc sreg kind (wrapping_difference sp 1) (back / 256)

-- .. and popped
abbrev pub pop_text : (first count step pc sreg : ℕ) → (sp back : ℕ) → List ℕ
pop_text first count step pc sreg sp back =
    access_text first count step pc sreg (codes "load") (wrapping_sum sp 1) (back / 256) ++ access_text first count step pc sreg (codes "load") (wrapping_sum sp 2) (back % 256)

-- The rows of a step, which left the core so. A byte that was loaded stands in its register then, and the pc is a return address
-- that was popped. Of a bit that was tested its weight is told where it was set, else 0; the pc says whether the next instruction
-- was skipped. Of a bit that was set or cleared the weight is told.
abbrev pub accesses_text : (first count step pc sreg : ℕ) → Access → (after : Cpu) → List ℕ
accesses_text first count step pc sreg Nothing after = []
accesses_text first count step pc sreg (Load a d) after = access_text first count step pc sreg (codes "load") a (register after d)
accesses_text first count step pc sreg (Store a v) after = access_text first count step pc sreg (codes "store") a v
accesses_text first count step pc sreg (SkipIfSet a bit) after = access_text first count step pc sreg (codes "test") a (if after.pc == wrapping_sum pc 1 then 0 else bit)
accesses_text first count step pc sreg (SkipIfClear a bit) after = access_text first count step pc sreg (codes "test") a (if after.pc == wrapping_sum pc 1 then bit else 0)
accesses_text first count step pc sreg (Set a bit) after = access_text first count step pc sreg (codes "set") a bit
accesses_text first count step pc sreg (Clear a bit) after = access_text first count step pc sreg (codes "clear") a bit
accesses_text first count step pc sreg (Call sp back) after = push_text first count step pc sreg (codes "store") sp back
accesses_text first count step pc sreg (Interrupt sp back) after = push_text first count step pc sreg (codes "interrupt") sp back
accesses_text first count step pc sreg (Return sp) after = pop_text first count step pc sreg sp after.pc
