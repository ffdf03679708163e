-- Serves proofs: the guarded space beside the physical space of the same mote. Where a program asks for nothing or for a register
-- of the devices, both answer alike: so an instruction that asks no more may run as it stands.
use Rattle.std.specs.Prelude.{◌≡◌, ℕ, ◌+◌, ◌≤◌, List, Option}
use Rattle.avr_exec.specs.declared.ask.Ask.{Ask}
use Rattle.avr_exec.specs.declared.answer.Answer.{Answer}
use Rattle.avr_exec.specs.Spaces.{Went}
use Rattle.avr_exec.specs.Execution.{answer_of}
use Rattle.mote_devices.specs.declared.line.Line.{Line}
use Rattle.mote_devices.specs.State.{State}
use Rattle.mote_core.specs.Physical.{Physical, physical_calls}
use Rattle.mem_guard.specs.Guarded.{Guarded, guarded_calls}

-- the physical space with the same SRAM, devices and line, and with these words of flash
abbrev pub physical_of : List ℕ → Guarded → Physical
physical_of words g = record { sram = g.sram; devices = g.devices; words = words; line = g.line }

-- Both spaces give the same answer, the same next devices and the same line; SRAM and swap stay, and one poll is made at most.
pub record AnswersAlike (words : List ℕ) (g : Guarded) (ask : Ask) : Type 0 where
  pub answer : Answer
  pub devices : State
  pub line : Option Line
  pub guarded : answer_of guarded_calls g ask ≡ Went answer (record g { devices = devices; line = line })
  pub physical : answer_of physical_calls (physical_of words g) ask ≡ Went answer (record (physical_of words g) { devices = devices; line = line })
  pub polls : devices.polls ≤ g.devices.polls + 1
