-- Serves the contract of `read_dump`: why a dump was not read.
use Rattle.std.specs.Prelude.{◌≡◌, ℕ, List, Some}
use Rattle.flash_dump.specs.declared.dump.DumpError.{DumpError}
use Rattle.flash_dump.specs.declared.dump.DumpError.TheVariants.{Bad, NoMemory}
use Rattle.flash_dump.specs.Dumps.{dump_fault}

-- Want of memory has no other reason.
abbrev pub IsRefusal : List ℕ → DumpError → Type 0
IsRefusal text (Bad line fault) = dump_fault text ≡ Some (line, fault)
IsRefusal text NoMemory = Unit {0}
