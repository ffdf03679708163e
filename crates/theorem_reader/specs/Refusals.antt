-- What is told of words and texts that are refused, and what `asm` writes.
use Rattle.std.specs.Prelude.{◌≡◌, ◌⊎◌, ℕ, ◌<◌, ◌≤◌, List, ◌++◌, codes, decimal, drop, length, Option, Some, None}
use Rattle.hex_image.specs.HexText.{hex_fault, hex_word}
use Rattle.hex_image.specs.Written.{written}
use Rattle.hex_image.specs.declared.fault.HexFault.{HexFault}
use Rattle.input_script.specs.Script.{Schedule, script_fault, script_word}
use Rattle.input_script.specs.declared.fault.ScriptFault.{ScriptFault}
use Rattle.task_input.specs.Images.{IsFirstMisplaced}
use Rattle.task_input.specs.Scripts.{Schedules, scripts_fault}
use Rattle.flash_dump.specs.Dumps.{dump_fault}
use Rattle.flash_dump.specs.declared.dump_line.DumpFault.{DumpFault}
use Rattle.avr_asm.specs.AsmText.{AsmText, fault_of, asm_word}
use Rattle.avr_asm.specs.declared.fault.AsmFault.{AsmFault}
use Rattle.flash_dump.specs.DumpLines.{dump_word}
use Rattle.printed_text.specs.PlainLines.{usage_line}
use Rattle.program_steps.specs.Machines.{Machine}
use Rattle.tk_tasks.specs.States.{Tasks as KeptTasks}
use Rattle.cli_words.specs.declared.command.RunOptions.{RunOptions}
use Rattle.cli_words.specs.declared.command.TaskOptions.{TaskOptions}
use Rattle.cli_words.specs.declared.command.Command.TheVariants.{Help, Run, Dump, Restart, Tasks, Check, Asm}
use Rattle.cli_words.specs.Commands.{IsCommand, IsNoCommand}
use Rattle.theorem_reader.specs.Runs.{HasHex}
use Rattle.theorem_reader.specs.Telling.{Sink, IsTold}
use Rattle.theorem_reader.specs.Texts.{address, no_memory}

-- the words are those of a command that reads a program and a script of its own
pub data ReadsScript (words : List (List ℕ)) : Type 0 where
  Runs : (options : RunOptions) → IsCommand words (Run options) → ReadsScript words
  Dumps : (options : RunOptions) → IsCommand words (Dump options) → ReadsScript words
  Restarts : (options : RunOptions) → IsCommand words (Restart options) → ReadsScript words

-- .. that reads a HEX text
pub data ReadsHex (words : List (List ℕ)) : Type 0 where
  Scripted : ReadsScript words → ReadsHex words
  Several : (options : TaskOptions) → IsCommand words (Tasks options) → ReadsHex words
  Checks : IsCommand words Check → ReadsHex words

-- .. that reads any text
pub data ReadsText (words : List (List ℕ)) : Type 0 where
  Program : ReadsHex words → ReadsText words
  Source : IsCommand words Asm → ReadsText words

-- a line of a part of the input, with its fault, as `bad hex line 3 digit`. The word of each fault is in
-- `printed_text/FaultyLines`: `hex_word`, `script_word`, `dump_word` and `asm_word`; the usage line is in
-- `printed_text/PlainLines`.
abbrev pub bad_line : (part : List ℕ) (number : ℕ) (word : List ℕ) → List ℕ
bad_line part number word = codes "bad " ++ part ++ codes " line " ++ decimal number ++ codes " " ++ word ++ codes "\n"

-- words that are answered with the usage line, and this status: `help`, and words that are no command, whatever the text is
pub data IsUsage (words : List (List ℕ)) (own : ℕ) : Type 0 where
  Helped : IsCommand words Help → own ≡ 0 → IsUsage words own
  Unknown : IsNoCommand words → own ≡ 4 → IsUsage words own

-- Words and a text that are answered with status 3 and this line: a text that is too long; the first faulty line of the HEX text,
-- of the script or the dump behind it, or of a source; and the first word of the image that stands where no program of `tasks`
-- may have one.
pub data IsRefused (words : List (List ℕ)) (text line : List ℕ) : Type 0 where
  TooLong : ReadsText words → 2097152 < length text → line ≡ codes "input too long\n" → IsRefused words text line
  BadHex : ReadsHex words → length text ≤ 2097152 → (number : ℕ) → (fault : HexFault) → hex_fault text ≡ Some (number, fault) → line ≡ bad_line (codes "hex") number (hex_word fault)
      → IsRefused words text line
  BadScript : ReadsScript words → (image : List ℕ) → (front : HasHex text image) → (number : ℕ) → (fault : ScriptFault) → script_fault (drop front.position text) ≡ Some (number, fault)
      → line ≡ bad_line (codes "script") number (script_word fault) → IsRefused words text line
  BadScripts : (options : TaskOptions) → IsCommand words (Tasks options) → (image : List ℕ) → (front : HasHex text image) → (number : ℕ) → (fault : ScriptFault)
      → scripts_fault options.count (drop front.position text) ≡ Some (number, fault) → line ≡ bad_line (codes "script") number (script_word fault) → IsRefused words text line
  BadImage : (options : TaskOptions) → IsCommand words (Tasks options) → (image : List ℕ) → (front : HasHex text image) → (scripts : List Schedule)
      → Schedules options.count (drop front.position text) scripts → (a : ℕ) → IsFirstMisplaced options.count image a
      → line ≡ codes "bad task image " ++ address a ++ codes "\n" → IsRefused words text line
  BadDump : IsCommand words Check → (image : List ℕ) → (front : HasHex text image) → (number : ℕ) → (fault : DumpFault) → dump_fault (drop front.position text) ≡ Some (number, fault)
      → line ≡ bad_line (codes "dump") number (dump_word fault) → IsRefused words text line
  BadSource : IsCommand words Asm → length text ≤ 2097152 → (number : ℕ) → (fault : AsmFault) → fault_of text ≡ Some (number, fault)
      → line ≡ bad_line (codes "asm") number (asm_word fault) → IsRefused words text line

-- memory was wanted, or this text is told with this status; neither a machine nor tasks are kept
abbrev pub IsSaid : Sink → (own : ℕ) (whole : List ℕ) → (status : ℕ) (taken : List ℕ) → Option Machine → Option KeptTasks → Type 0
IsSaid sink own whole status taken kept tasks = (IsTold sink 8 no_memory status taken ⊎ IsTold sink own whole status taken) × (kept ≡ None) × (tasks ≡ None)

-- the usage line is told with this status, for which no memory is wanted; neither a machine nor tasks are kept
abbrev pub HasUsage : Sink → (own status : ℕ) (taken : List ℕ) → Option Machine → Option KeptTasks → Type 0
HasUsage sink own status taken kept tasks = IsTold sink own usage_line status taken × (kept ≡ None) × (tasks ≡ None)

-- the words are `asm`, and the text is a source without a fault, of this image, and isn't too long
pub record AsksAsm (words : List (List ℕ)) (text image : List ℕ) : Type 0 where
  pub command : IsCommand words Asm
  pub short : length text ≤ 2097152
  pub faultless : fault_of text ≡ None
  pub source : AsmText text image

-- memory was wanted, or the HEX text of the image is told: records of up to 16 bytes, and the end record (`hex_image/Written`)
abbrev pub IsAssembled : Sink → (image : List ℕ) → (status : ℕ) (taken : List ℕ) → Option Machine → Option KeptTasks → Type 0
IsAssembled sink image status taken kept tasks = IsSaid sink 0 (written image) status taken kept tasks
