-- Execution of one instruction over any space.
use Rattle.std.specs.Prelude.{ℕ, Bool, true, false, ◌+◌, ◌*◌, ◌/◌, ◌%◌, Result, Ok, Err}
use Rattle.avr_isa.specs.declared.form.Form.{Form}
use Rattle.avr_isa.specs.declared.form.Form.TheVariants.{Sleep, Spm}
use Rattle.avr_exec.specs.declared.cpu.Cpu.{Cpu}
use Rattle.avr_exec.specs.declared.ask.Ask.{Ask}
use Rattle.avr_exec.specs.declared.ask.Ask.TheVariants.{Nothing, Load, Store, Modify, PushByte, PopByte, PushReturn, PopReturn, Program, ExtendedProgram, ExtendedProgramRaising}
use Rattle.avr_exec.specs.declared.answer.Answer.{Answer}
use Rattle.avr_exec.specs.declared.answer.Answer.TheVariants.{Done, Byte, Address}
use Rattle.avr_exec.specs.declared.stop.BusStop.{BusStop}
use Rattle.avr_exec.specs.Spaces.{Outcome, Went, Stopped, Calls}
use Rattle.avr_exec.specs.Asks.{ask_of, finish_of}

-- the same outcome with another answer
abbrev pub answered_by : {S A B : Type 0} → (A → B) → Outcome S A → Outcome S B
answered_by f (Went answer next) = Went (f answer) next
answered_by f (Stopped stop) = Stopped stop

-- the byte address of the program that RAMPZ's lowest bit and Z give
abbrev pub extended : ℕ → ℕ → ℕ
extended rampz z = rampz % 2 * 65536 + z

-- RAMPZ after RAMPZ:Z was raised by one
abbrev pub rampz_raised : ℕ → ℕ → ℕ
rampz_raised rampz z = (rampz + (z + 1) / 65536) % 256

-- what a space answers to what is asked, and what it is then
unfoldable pub answer_of : {S : Type 0} → Calls S → S → Ask → Outcome S Answer
answer_of calls space Nothing = Went Done space
answer_of calls space (Load a) = answered_by Byte (calls.load space a)
answer_of calls space (Store a v) = answered_by (λ _. Done) (calls.store space a v)
answer_of calls space (Modify a clear set) = answered_by (λ _. Done) (calls.modify space a clear set)
answer_of calls space (PushByte sp v) = answered_by (λ _. Done) (calls.push space sp v)
answer_of calls space (PopByte sp) = answered_by Byte (calls.pop space sp)
answer_of calls space (PushReturn sp ret) = answered_by (λ _. Done) (calls.push_ret space sp ret)
answer_of calls space (PopReturn sp) = answered_by Address (calls.pop_ret space sp)
answer_of calls space (Program z) = Went (Byte (calls.flash_byte space z)) space
answer_of calls space (ExtendedProgram z) = Went (Byte (calls.flash_byte space (extended (calls.rampz space) z))) space
answer_of calls space (ExtendedProgramRaising z) =
    Went (Byte (calls.flash_byte space (extended (calls.rampz space) z))) (calls.set_rampz space (rampz_raised (calls.rampz space) z))

-- the instructions that are executed: all but SLEEP and SPM
unfoldable pub is_executed : Form → Bool
is_executed Sleep = false
is_executed Spm = false
is_executed _ = true

-- The new registers and space, or the stop that the one call of the bus gave. `next_size` is the number
-- of words of the next instruction, which a skip passes over.
unfoldable pub exec_of : {S : Type 0} → Calls S → Form → Cpu → S → ℕ → Outcome S Cpu
exec_of calls form cpu space next_size = answered_by (finish_of form cpu next_size) (answer_of calls space (ask_of form cpu))

-- what a result with the registers and the space after it tell
abbrev pub finished : {S A : Type 0} → Result A BusStop → Cpu → S → Outcome S Cpu
finished (Ok done) cpu space = Went cpu space
finished (Err stop) cpu space = Stopped stop
