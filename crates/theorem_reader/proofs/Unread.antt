-- What is told where the source fails.
use Rattle.std.proofs.Common.{◌≡◌, ◌⊎◌, ℕ, ◌+◌, ◌<◌, ◌≤◌, List, [], ◌∷◌, ◌++◌, codes, length, length-append, Option, Some, None, ap, subst, arith, inl, inr}
use Rattle.std.proofs.lemmas.List.{length_push}
use Rattle.std.specs.Io.KnownBytes.{Consumes, IsAtEnd}
use Rattle.byte_streams.specs.Faults.{Rose}
use Rattle.byte_streams.specs.Streams.{Input}
use Rattle.printed_text.specs.PlainLines.{read_fault_line}
use Rattle.cli_words.specs.declared.command.Command.{Command}
use Rattle.cli_words.specs.declared.command.Command.TheVariants.{Help, Run, Dump, Restart, Tasks, Check, Generate, Asm}
use Rattle.cli_words.specs.declared.job.Job.{Job}
use Rattle.cli_words.specs.declared.job.Job.TheVariants as jobs
use Rattle.cli_words.specs.declared.status.Status.{Status}
use Rattle.cli_words.specs.declared.status.Status.TheVariants as statuses
use Rattle.cli_words.specs.Commands.{IsCommand}
use Rattle.cli_words.specs.Printed.{no_memory, read_fault, too_long}
use Rattle.cli_words.specs.Status.{number_of}
use Rattle.cli_words.proofs.OneCommand.{one_command}
use Rattle.cli_requests.specs.Asking.{Asks, IsAsked}
use Rattle.cli_requests.specs.Reading.{AsksByText, IsUnread}
use Rattle.cli_requests.specs.AsmCommand.{AsmAsks}
use Rattle.cli_requests.specs.CheckCommand.{CheckAsks}
use Rattle.cli_requests.specs.DumpCommand.{DumpAsks}
use Rattle.cli_requests.specs.RestartCommand.{RestartAsks}
use Rattle.cli_requests.specs.RunCommand.{RunAsks}
use Rattle.cli_requests.specs.TasksCommand.{TasksAsks}
use Rattle.tkernel_cli.specs.declared.top.Exit.{Exit}
use Rattle.tkernel_cli.specs.Answer.{Does}
use Rattle.theorem_reader.specs.Telling.{BrokenState, FailsBehind}
use Rattle.theorem_reader.specs.Refusals.{ReadsText, Program, Source, Scripted, Several, Checks, Runs, Dumps, Restarts, IsSaid}
use Rattle.theorem_reader.proofs.Doing.{IsSoThen, Call, not_risen, so_then, so_is, told_how}
use Rattle.theorem_reader.proofs.Refusing.{said_how}

-- a source had this text and one byte more, which it never gives; it failed only where nothing was left before that
pub record IsBroken (text : List ℕ) (before now : Input) : Type 0 where
  pub told : before.left ≡ Some (text ++ 0 ∷ [])
  pub rest : List ℕ
  pub left : now.left ≡ Some (rest ++ 0 ∷ [])
  pub behind : Rose before.faults now.faults → rest ≡ []

-- its count rose only behind its bytes
pub not_before : (s : BrokenState) (before : ℕ) → FailsBehind s → before ≡ 0 → Rose before s.faults → s.left ≡ []
not_before s before (inl none) first rose = absurd (not_risen before s.faults first none rose)
not_before s before (inr empty) first rose = empty

never_ends : (now : Option (List ℕ)) (rest : List ℕ) → now ≡ Some (rest ++ 0 ∷ []) → IsAtEnd now → ⊥
never_ends None rest left end = absurd (cc)
never_ends (Some xs) rest left end =
    let same : xs ≡ rest ++ 0 ∷ [] = cc in
    omega (arith, ap length same, ap length end, length_push rest 0)

all_taken : (before now : Option (List ℕ)) (text rest bytes : List ℕ) → before ≡ Some (text ++ 0 ∷ []) → now ≡ Some (rest ++ 0 ∷ []) → Consumes before now bytes
    → length bytes + length rest ≡ length text
all_taken None now text rest bytes told left taken = absurd (cc)
all_taken (Some xs) None text rest bytes told left taken = absurd (cc)
all_taken (Some xs) (Some ys) text rest bytes told left taken =
    let first : xs ≡ text ++ 0 ∷ [] = cc in
    let last : ys ≡ rest ++ 0 ∷ [] = cc in
    omega (arith, ap length first, ap length last, ap length taken, length-append bytes ys, length_push text 0, length_push rest 0)

-- what may be told then: this, or that memory is wanted
abbrev OrNone : Job → Job → Type 0
OrNone own job = (job ≡ own) ⊎ (job ≡ no_memory)

short_text : (before now : Input) (text : List ℕ) (job : Job) → IsBroken text before now → length text ≤ 2097152 → (Rule : List ℕ → Job → Type 0) → AsksByText Rule before now job
    → OrNone read_fault job
short_text before now text job broken short Rule (inl (IsUnread.ReadFault is rose taken)) = inl is
short_text before now text job broken short Rule (inl (IsUnread.NoMemory is taken)) = inr is
short_text before now text job broken short Rule (inl (IsUnread.TooLong is taken)) =
    absurd (omega (arith, all_taken before.left now.left text broken.rest taken.0 broken.told broken.left taken.2.left, taken.1, short))
short_text before now text job broken short Rule (inr judged) = absurd (never_ends now.left broken.rest broken.left judged.1.end)

long_text : (before now : Input) (text : List ℕ) (job : Job) → IsBroken text before now → 2097152 < length text → (Rule : List ℕ → Job → Type 0) → AsksByText Rule before now job → OrNone too_long job
long_text before now text job broken long Rule (inl (IsUnread.ReadFault is rose taken)) =
    absurd (omega (arith, all_taken before.left now.left text broken.rest taken.2.0 broken.told broken.left taken.2.2.left, ap length (broken.behind rose), taken.1, taken.2.1, long))
long_text before now text job broken long Rule (inl (IsUnread.NoMemory is taken)) = inr is
long_text before now text job broken long Rule (inl (IsUnread.TooLong is taken)) = inl is
long_text before now text job broken long Rule (inr judged) = absurd (never_ends now.left broken.rest broken.left judged.1.end)

-- a command that reads a text
abbrev IsReading : Command → Type 0
IsReading Help = ⊥
IsReading (Generate seed) = ⊥
IsReading _ = Unit {0}

reading : (words : List (List ℕ)) → ReadsText words → (command : Command) × IsCommand words command × IsReading command
reading words (Program (Scripted (Runs options is))) = (Run options, is, tt)
reading words (Program (Scripted (Dumps options is))) = (Dump options, is, tt)
reading words (Program (Scripted (Restarts options is))) = (Restart options, is, tt)
reading words (Program (Several options is)) = (Tasks options, is, tt)
reading words (Program (Checks is)) = (Check, is, tt)
reading words (Source is) = (Asm, is, tt)

-- what is so of each job that a text asks for is so of each that such a command asks for
by_command : (Tells : Job → Type 0) (command : Command) (before now : Input) (job : Job) → IsReading command → ((Rule : List ℕ → Job → Type 0) → AsksByText Rule before now job → Tells job)
    → Asks command before now job → Tells job
by_command Tells Help before now job reads tells asks = absurd reads
by_command Tells (Generate seed) before now job reads tells asks = absurd reads
by_command Tells (Run options) before now job reads tells asks = tells (RunAsks options) asks
by_command Tells (Dump options) before now job reads tells asks = tells (DumpAsks options) asks
by_command Tells (Restart options) before now job reads tells asks = tells (RestartAsks options) asks
by_command Tells (Tasks options) before now job reads tells asks = tells (TasksAsks options) asks
by_command Tells Check before now job reads tells asks = tells CheckAsks asks
by_command Tells Asm before now job reads tells asks = tells AsmAsks asks

by_words : (Tells : Job → Type 0) (words : List (List ℕ)) (before now : Input) (job : Job) → ReadsText words → ((Rule : List ℕ → Job → Type 0) → AsksByText Rule before now job → Tells job)
    → IsAsked words before now job → Tells job
by_words Tells words before now job reads tells (inl asked) =
    let own = reading words reads in
    by_command Tells asked.0 before now job (subst IsReading (one_command words own.0 asked.0 own.1 asked.1) own.2) tells asked.2
by_words Tells words before now job reads tells (inr none) = let own = reading words reads in absurd (none.0 own.0 own.1)

-- a line, or want of memory
line_how : (words : List (List ℕ)) (exit : Exit) (status faults : ℕ) (taken : List ℕ) (call : Call words exit status faults taken) (own : Status) (line : List ℕ) (job : Job)
    → OrNone (jobs.Print own (record { items = line })) job → Does job call.sink call.sink' exit → IsSoThen faults (λ sink. IsSaid sink (number_of own) line status taken exit.kept exit.tasks)
line_how words exit status faults taken call own line job (inl is) done =
    let told = subst (λ j. Does j call.sink call.sink' exit) is done in
    so_is words exit status faults taken call (λ sink. IsSaid sink (number_of own) line status taken exit.kept exit.tasks)
    (said_how words exit status faults taken call own line told.0.0 told.0.1 told.1)
line_how words exit status faults taken call own line job (inr is) done =
    let none = subst (λ j. Does j call.sink call.sink' exit) is done in
    so_is words exit status faults taken call (λ sink. IsSaid sink (number_of own) line status taken exit.kept exit.tasks)
    (so_then call.sink call.sink' _ (λ sink. IsSaid sink (number_of own) line status taken exit.kept exit.tasks) (λ sink told. (inl told, none.0.1, none.1))
    (told_how words exit status faults taken call _ _ none.0.0))

pub fault_told : (words : List (List ℕ)) (exit : Exit) (status faults : ℕ) (taken : List ℕ) (call : Call words exit status faults taken) (text : List ℕ) → IsBroken text call.source call.source'
    → length text ≤ 2097152 → ReadsText words → IsSoThen faults (λ sink. IsSaid sink 5 read_fault_line status taken exit.kept exit.tasks)
fault_told words exit status faults taken call text broken short reads =
    line_how words exit status faults taken call statuses.ReadFault read_fault_line call.answer.job
    (by_words (OrNone read_fault) words call.source call.source' call.answer.job reads (short_text call.source call.source' text call.answer.job broken short) call.answer.asked) call.answer.done

pub length_told : (words : List (List ℕ)) (exit : Exit) (status faults : ℕ) (taken : List ℕ) (call : Call words exit status faults taken) (text : List ℕ) → IsBroken text call.source call.source'
    → 2097152 < length text → ReadsText words → IsSoThen faults (λ sink. IsSaid sink 3 (codes "input too long\n") status taken exit.kept exit.tasks)
length_told words exit status faults taken call text broken long reads =
    line_how words exit status faults taken call statuses.BadInput (codes "input too long\n") call.answer.job
    (by_words (OrNone too_long) words call.source call.source' call.answer.job reads (long_text call.source call.source' text call.answer.job broken long) call.answer.asked) call.answer.done
