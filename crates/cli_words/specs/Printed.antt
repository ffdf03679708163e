-- The jobs that print one line.
use Rattle.std.specs.Prelude.{ℕ, List}
use Rattle.printed_text.specs.FaultyLines.{bad_line_text}
use Rattle.printed_text.specs.PlainLines.{usage_line, read_fault_line, too_long_line, no_memory_line}
use Rattle.cli_words.specs.declared.job.Job.{Job}
use Rattle.cli_words.specs.declared.job.Job.TheVariants.{Print}
use Rattle.cli_words.specs.declared.status.Status.{Status}
use Rattle.cli_words.specs.declared.status.Status.TheVariants.{BadInput, ReadFault, NoMemory}

-- what `help` and refused words are answered with
abbrev pub usage : Status → Job
usage own = Print own (record { items = usage_line })

abbrev pub read_fault : Job
read_fault = Print ReadFault (record { items = read_fault_line })

abbrev pub too_long : Job
too_long = Print BadInput (record { items = too_long_line })

abbrev pub no_memory : Job
no_memory = Print NoMemory (record { items = no_memory_line })

-- a part of the input has this first faulty line, with this fault
abbrev pub bad_part : (part : List ℕ) (line : ℕ) (word : List ℕ) → Job
bad_part part line word = Print BadInput (record { items = bad_line_text part line word })
