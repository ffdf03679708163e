-- The clauses tell of each call, unless memory was wanted.
use Rattle.std.proofs.Common.{◌≡◌, ◌⊎◌, ℕ, ◌≤◌, List, length, Some, refl, ap, subst, arith, inl, inr}
use Rattle.tk_io.specs.Memory.{SinkState}
use Rattle.byte_streams.specs.Streams.{Input}
use Rattle.hex_image.specs.HexText.{HexText, hex_fault, hex_word}
use Rattle.hex_image.specs.declared.fault.HexFault.{HexFault}
use Rattle.printed_text.specs.FaultyLines.{hex_part}
use Rattle.cli_words.specs.declared.command.Command.{Command}
use Rattle.cli_words.specs.declared.command.Command.TheVariants.{Help, Run, Dump, Restart, Tasks, Check, Generate, Asm}
use Rattle.cli_words.specs.declared.command.RunOptions.{RunOptions}
use Rattle.cli_words.specs.declared.command.TaskOptions.{TaskOptions}
use Rattle.cli_words.specs.declared.job.Job.{Job}
use Rattle.cli_words.specs.declared.job.Job.TheVariants as jobs
use Rattle.cli_words.specs.declared.request.Request.{Request}
use Rattle.cli_words.specs.Commands.{IsCommand}
use Rattle.cli_words.specs.Printed.{no_memory}
use Rattle.cli_requests.specs.Asking.{Asks, IsAsked, Tells}
use Rattle.cli_requests.specs.Reading.{AsksByText, IsUnread, IsJudged, Bad, Good}
use Rattle.cli_requests.specs.AsmCommand.{AsmAsks}
use Rattle.cli_requests.specs.CheckCommand.{CheckAsks}
use Rattle.cli_requests.specs.DumpCommand.{DumpAsks}
use Rattle.cli_requests.specs.RestartCommand.{RestartAsks}
use Rattle.cli_requests.specs.RunCommand.{RequestThen, RunAsks}
use Rattle.cli_requests.specs.TasksCommand.{Refused, Placed, TasksAsks}
use Rattle.cli_requests.proofs.Reasons.{all_taken, taken_of}
use Rattle.tkernel_cli.specs.declared.top.Exit.{Exit}
use Rattle.tkernel_cli.specs.Answer.{Does}
use Rattle.theorem_reader.specs.Calls as calls
use Rattle.theorem_reader.specs.Calls.{IsWanting}
use Rattle.theorem_reader.specs.Refusals.{ReadsScript, Runs, Dumps, Restarts, ReadsHex, Scripted, Several, Checks, ReadsText, Program, Source, Helped, Unknown, TooLong, BadHex, BadScript}
use Rattle.theorem_reader.specs.Refusals.{BadScripts, BadImage, BadDump, BadSource}
use Rattle.theorem_reader.specs.Runs.{Asked, AsksAs}
use Rattle.theorem_reader.specs.Telling.{Sink, IsRoomy, IsSo}
use Rattle.theorem_reader.proofs.Doing.{Call, with_room, so_is, so_then, told_how}

-- A text. -------------------------------------------------------------------------------------------------

-- a HEX text in front of what is asked for, or its first faulty line
hex_then : (words : List (List ℕ)) (text : List ℕ) (Then : List ℕ × ℕ → Job → Type 0) (job : Job) → ReadsHex words → length text ≤ 2097152
    → ((hex : List ℕ × ℕ) → HexText text hex.0 hex.1 → Then hex job → calls.IsAsked words text)
    → IsJudged (List ℕ × ℕ) hex_part (λ hex. HexText text hex.0 hex.1) (λ line word. (fault : HexFault) × (hex_fault text ≡ Some (line, fault)) × (word ≡ hex_word fault)) Then job
    → calls.IsAsked words text
hex_then words text Then job reads short then (Bad number word bad is) = calls.Refuse _ (BadHex reads short number bad.0 bad.1 refl)
hex_then words text Then job reads short then (Good hex is asks) = then hex is asks

-- .. and a script of one program
script_then : (kind : RunOptions → Command) (options : RunOptions) (words : List (List ℕ)) (text : List ℕ) (asked : Request → Job) (job : Job) → ReadsScript words → IsCommand words (kind options)
    → length text ≤ 2097152 → ((asked : Asked) → AsksAs kind words text asked → calls.IsAsked words text) → RequestThen options text asked job → calls.IsAsked words text
script_then kind options words text asked job reads command short then =
    hex_then words text _ job (Scripted reads) short (λ hex read script. elim script [
      | Bad number word bad is ↦ calls.Refuse _ (BadScript reads hex.0 (record { position = hex.1; hex = read; short = short }) number bad.0 bad.1 refl)
      | Good schedule good is ↦ then (record { image = hex.0; events = schedule.events; failing = schedule.failing; steps = options.steps; quantum = options.quantum; slots = options.swap })
          (record { command = command; front = record { position = hex.1; hex = read; short = short }; script = good })
    ])

-- .. of several
tasks_then : (options : TaskOptions) (words : List (List ℕ)) (text : List ℕ) (job : Job) → IsCommand words (Tasks options) → length text ≤ 2097152 → TasksAsks options text job
    → calls.IsAsked words text
tasks_then options words text job command short =
    hex_then words text _ job (Several options command) short (λ hex read script. elim script [
      | Bad number word bad is ↦ calls.Refuse _ (BadScripts options command hex.0 (record { position = hex.1; hex = read; short = short }) number bad.0 bad.1 refl)
      | Good scripts good placed ↦ elim placed [
        | Refused a first is ↦ calls.Refuse _ (BadImage options command hex.0 (record { position = hex.1; hex = read; short = short }) scripts good a first refl)
        | Placed none is ↦ calls.Several (record { image = hex.0; scripts = scripts; count = options.count; steps = options.steps; quantum = options.quantum; slots = options.swap })
            (record { command = command; front = record { position = hex.1; hex = read; short = short }; scripts = good; placed = none })
      ]
    ])

-- .. and a dump
check_then : (words : List (List ℕ)) (text : List ℕ) (job : Job) → IsCommand words Check → length text ≤ 2097152 → CheckAsks text job → calls.IsAsked words text
check_then words text job command short =
    hex_then words text _ job (Checks command) short (λ hex read dump. elim dump [
      | Bad number word bad is ↦ calls.Refuse _ (BadDump command hex.0 (record { position = hex.1; hex = read; short = short }) number bad.0 bad.1 refl)
      | Good flash good is ↦ calls.Check hex.0 flash (record { command = command; front = record { position = hex.1; hex = read; short = short }; dump = good })
    ])

-- a source
asm_then : (words : List (List ℕ)) (text : List ℕ) (job : Job) → IsCommand words Asm → length text ≤ 2097152 → AsmAsks text job → calls.IsAsked words text
asm_then words text job command short (Bad number word bad is) = calls.Refuse _ (BadSource command short number bad.0 bad.1 refl)
asm_then words text job command short (Good image good is) = calls.Assemble image (record { command = command; short = short; faultless = good.0; source = good.1 })

-- A command. ----------------------------------------------------------------------------------------------

-- one of these is asked for, or this job is that memory is wanted for a text
abbrev IsCovered : List (List ℕ) → List ℕ → Job → Type 0
IsCovered words text job = calls.IsAsked words text ⊎ (ReadsText words × (job ≡ no_memory))

by_text : (Rule : List ℕ → Job → Type 0) (words : List (List ℕ)) (before now : Input) (text : List ℕ) (job : Job) → ReadsText words → Tells before now text
    → (length text ≤ 2097152 → Rule text job → calls.IsAsked words text) → AsksByText Rule before now job → IsCovered words text job
by_text Rule words before now text job reads tells then (inl (IsUnread.ReadFault is rose taken)) = absurd (tells.read rose)
by_text Rule words before now text job reads tells then (inl (IsUnread.NoMemory is taken)) = inr (reads, is)
by_text Rule words before now text job reads tells then (inl (IsUnread.TooLong is taken)) =
    inl (calls.Refuse _ (TooLong reads (omega (arith, taken_of before now text 2097153 tells.told taken)) refl))
by_text Rule words before now text job reads tells then (inr judged) =
    let same = all_taken before now text judged.0 tells.told judged.1.taken judged.1.end in
    inl (then (omega (arith, judged.1.short, ap length same)) (subst (λ t. Rule t job) same judged.2))

by_command : (command : Command) (words : List (List ℕ)) (before now : Input) (text : List ℕ) (job : Job) → IsCommand words command → Tells before now text → Asks command before now job
    → IsCovered words text job
by_command Help words before now text job is tells asks = inl (calls.Tell 0 (Helped is refl))
by_command (Generate seed) words before now text job is tells asks = inl (calls.Generate seed is)
by_command (Run options) words before now text job is tells asks =
    by_text (RunAsks options) words before now text job (Program (Scripted (Runs options is))) tells (λ short. script_then Run options words text jobs.Run job (Runs options is) is short calls.Run)
    asks
by_command (Dump options) words before now text job is tells asks =
    by_text (DumpAsks options) words before now text job (Program (Scripted (Dumps options is))) tells
    (λ short. script_then Dump options words text jobs.Dump job (Dumps options is) is short calls.Dump) asks
by_command (Restart options) words before now text job is tells asks =
    by_text (RestartAsks options) words before now text job (Program (Scripted (Restarts options is))) tells
    (λ short. script_then Restart options words text (λ request. jobs.Restart request request.script) job (Restarts options is) is short calls.Restart) asks
by_command (Tasks options) words before now text job is tells asks =
    by_text (TasksAsks options) words before now text job (Program (Several options is)) tells (λ short. tasks_then options words text job is short) asks
by_command Check words before now text job is tells asks = by_text CheckAsks words before now text job (Program (Checks is)) tells (λ short. check_then words text job is short) asks
by_command Asm words before now text job is tells asks = by_text AsmAsks words before now text job (Source is) tells (λ short. asm_then words text job is short) asks

by_words : (words : List (List ℕ)) (before now : Input) (text : List ℕ) (job : Job) → Tells before now text → IsAsked words before now job → IsCovered words text job
by_words words before now text job tells (inl asked) = by_command asked.0 words before now text job asked.1 tells asked.2
by_words words before now text job tells (inr unknown) = inl (calls.Tell 4 (Unknown unknown.0 refl))

-- The words alone, where a source may fail. --------------------------------------------------------------

words_by : (command : Command) (words : List (List ℕ)) → IsCommand words command → calls.AreCovered words
words_by Help words is = calls.Tells 0 (Helped is refl)
words_by (Generate seed) words is = calls.Makes seed is
words_by (Run options) words is = calls.Reads (Program (Scripted (Runs options is)))
words_by (Dump options) words is = calls.Reads (Program (Scripted (Dumps options is)))
words_by (Restart options) words is = calls.Reads (Program (Scripted (Restarts options is)))
words_by (Tasks options) words is = calls.Reads (Program (Several options is))
words_by Check words is = calls.Reads (Program (Checks is))
words_by Asm words is = calls.Reads (Source is)

pub words_covered : (words : List (List ℕ)) (before now : Input) (job : Job) → IsAsked words before now job → calls.AreCovered words
words_covered words before now job (inl asked) = words_by asked.0 words asked.1
words_covered words before now job (inr unknown) = calls.Tells 4 (Unknown unknown.0 refl)

-- A call. -------------------------------------------------------------------------------------------------

pub covered : (room : ℕ) (out : SinkState) (words : List (List ℕ)) (exit : Exit) (status : ℕ) → IsRoomy room out → (call : Call words exit status out.faults out.taken) (text : List ℕ)
    → Tells call.source call.source' text
    → calls.IsAsked words text ⊎ IsSo room out (λ sink. IsWanting words sink status out.taken exit.kept exit.tasks)
covered room out words exit status roomy call text tells = elim (by_words words call.source call.source' text call.answer.job tells call.answer.asked) [
  | inl asked ↦ inl asked
  | inr none ↦
      let done = subst (λ j. Does j call.sink call.sink' exit) none.1 call.answer.done in
      let So : Sink → Type 0 = λ sink. IsWanting words sink status out.taken exit.kept exit.tasks in
      inr (with_room room out So roomy (so_is words exit status out.faults out.taken call So
      (so_then call.sink call.sink' _ So (λ sink told. (none.0, told, done.0.1, done.1)) (told_how words exit status out.faults out.taken call _ _ done.0.0))))
]
