-- The dump of what a run leaves.
use Rattle.std.specs.Prelude.{◌≡◌, ◌⊎◌, Option, None, Some}
use Rattle.flash_dump.specs.WrittenDumps.{written}
use Rattle.printed_text.specs.PlainLines.{no_memory_line}
use Rattle.program_steps.specs.Machines.{Machine}
use Rattle.cli_words.specs.declared.request.Request.{Request}
use Rattle.cli_words.specs.declared.status.Status.{Status}
use Rattle.cli_words.specs.declared.status.Status.TheVariants as status
use Rattle.tkernel_cli.specs.Runs.{Runs, Says}
use Rattle.cli_words.specs.Stream.{Stream}

-- a sink that takes everything, tells nothing and never fails
abbrev pub silent : Stream
silent = record { told = None; faults = 0 }

-- The machine of the run is kept, whatever its end; its own lines go nowhere. The dump of its flash is said, or else
-- there was no memory for that text.
pub record HasDumped (request : Request) (before now : Stream) (told : Status) (held : Option Machine) : Type 0 where
  pub machine : Machine
  pub kept : held ≡ Some machine
  pub ended : Status
  pub runs : Runs request silent silent ended machine
  pub said : Says status.Done (written machine.kernel.mote.flash.words) before now told
      ⊎ Says status.NoMemory no_memory_line before now told
