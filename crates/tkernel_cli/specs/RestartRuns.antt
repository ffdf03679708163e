-- A run, a restart, and a second run. A first run goes up to its end, or to the operation
-- on flash that the script has fail; then power is lost, and a second machine begins with what is kept of the pool.
use Rattle.std.specs.Prelude.{◌≡◌, ℕ, List, length, Option, Some, None}
use Rattle.byte_streams.specs.Faults.{Rose}
use Rattle.byte_streams.specs.Streams.{CutShort}
use Rattle.flash_words.specs.Layouts.{layout_of}
use Rattle.flash_words.specs.Memory.{Memory}
use Rattle.flash_words.specs.Operations.{renewed}
use Rattle.nat_page.specs.Faithful.{IsFaithful}
use Rattle.nat_page.specs.Used.{used_pages}
use Rattle.kernel_entry.specs.declared.kernel.End.{End as MachineEnd}
use Rattle.kernel_entry.specs.declared.kernel.End.TheVariants as ends
use Rattle.program_steps.specs.Machines.{Machine}
use Rattle.tk_restart.specs.declared.sweeping.Kept.{Kept}
use Rattle.tk_restart.specs.Losing.{lost_in}
use Rattle.tk_restart.specs.Restarting.{Restarts}
use Rattle.tk_run.specs.Booted.{started_over}
use Rattle.cli_words.specs.declared.request.Request.{Request}
use Rattle.cli_words.specs.declared.status.Status.{Status}
use Rattle.cli_words.specs.declared.status.Status.TheVariants as status
use Rattle.tkernel_cli.specs.DumpRuns.{silent}
use Rattle.printed_text.specs.RestartLines.{restart_text}
use Rattle.cli_words.specs.Stream.{Stream}
use Rattle.tkernel_cli.specs.Runs.{Runs, RunsToTheEnd, RunsUntilCut}

-- the operation on flash that ended a run
abbrev pub refused_in : Option MachineEnd → Option ℕ
refused_in None = None
refused_in (Some ends.Spent) = None
refused_in (Some (ends.Stopped stop)) = None
refused_in (Some (ends.Wild t)) = None
refused_in (Some (ends.Flash op)) = Some op

-- Flash of a machine after power was lost, with its operations counted anew.
abbrev pub lost_flash : Machine → Memory
lost_flash m = lost_in (refused_in m.end) m.kernel.mote.flash.refused (renewed m.kernel.mote.flash)

-- the machine that the second run begins with, over this flash
abbrev pub second_start : Request → Memory → Machine
second_start request flash = started_over request.image flash request.script request.options.quantum request.options.swap

-- the first line could not be put: the second run isn't made
pub record IsUnbegun (request : Request) (flash : Memory) (line : List ℕ) (before now : Stream) (told : Status) (m : Machine) : Type 0 where
  pub status_is : told ≡ status.WriteFault
  pub rose : Rose before.faults now.faults
  pub put : CutShort before.told now.told line
  pub is : m ≡ second_start request flash

-- or it is, and ends as a run from boot does, or lines could not be put; moves lead to its machine from its own start
pub data RunsOver (request : Request) (flash : Memory) (line : List ℕ) (before now : Stream) (told : Status) (m : Machine) : Type 0 where
  Unbegun : IsUnbegun request flash line before now told m → RunsOver request flash line before now told m
  Ended : RunsToTheEnd request (second_start request flash) line before now told m → RunsOver request flash line before now told m
  Cut : RunsUntilCut request (second_start request flash) line before now told m → RunsOver request flash line before now told m

-- A first machine runs as `run` does, and its lines go nowhere. Of the flash that it leaves just what a restart keeps is
-- left, which is faithful to the image, and the machine of the second run begins there, and is kept.
pub record HasRestarted (request : Request) (before now : Stream) (told_status : Status) (held : Option Machine) : Type 0 where
  pub first : Machine
  pub ended : Status
  pub runs : Runs request silent silent ended first
  pub left : Memory
  pub told : Kept
  pub restarts : Restarts (layout_of (length request.image)) request.image (lost_flash first) left told
  pub faithful : IsFaithful (layout_of (length request.image)) request.image left.words
  pub used : used_pages (layout_of (length request.image)) left.words ≡ told.kept
  pub machine : Machine
  pub kept : held ≡ Some machine
  pub over : RunsOver request left (restart_text told.kept told.dropped) before now told_status machine
