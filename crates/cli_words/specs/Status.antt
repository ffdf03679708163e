-- The numbers of the exit statuses.
use Rattle.std.specs.Prelude.{ℕ}
use Rattle.cli_words.specs.declared.status.Status.{Status}
use Rattle.cli_words.specs.declared.status.Status.TheVariants.{Done, Spent, Fault, BadInput, Usage, ReadFault, WriteFault, NoMemory, FlashFault}

abbrev pub number_of : Status → ℕ
number_of Done = 0
number_of Spent = 1
number_of Fault = 2
number_of BadInput = 3
number_of Usage = 4
number_of ReadFault = 5
number_of WriteFault = 6
number_of NoMemory = 8
number_of FlashFault = 9
