use Rattle.std.proofs.Common.{◌≡◌, ap}
use Rattle.std.specs.Prelude.{Result, Ok, Err, IfOk}
use Rattle.flash_words.specs.Memory.{Memory, erased_flash}
use Rattle.flash_dump.specs.Dumps.{IsOpen, erased}
use Rattle.flash_dump.proofs.DumpLaws.{erased_open}
use Rattle.flash_dump.proofs.dump.erased.Goals as goal

opened : {E : Type 0} (result : Result Memory E) → IfOk result (λ flash. flash ≡ erased_flash) → IfOk result (λ flash. (flash.words ≡ erased) × IsOpen flash 0)
opened (Ok flash) new = (ap (λ (m : Memory). m.words) new, erased_open flash new)
opened (Err e) new = tt

pub returns : goal.returns
returns c = record { words = opened c.erased.result c.erased.ensures.new }
