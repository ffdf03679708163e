-- What is told of words and texts that are refused, and what `asm` writes.
use Rattle.std.proofs.Common.{◌≡◌, ℕ, ◌<◌, ◌≤◌, List, ◌++◌, codes, length, drop, Some, None, refl, sym, ◌∙◌, subst, inl, inr}
use Rattle.hex_image.specs.HexText.{HexText, hex_fault, hex_word}
use Rattle.hex_image.specs.Written.{written}
use Rattle.input_script.specs.Script.{script_fault, script_word}
use Rattle.hex_image.specs.declared.fault.HexFault.{HexFault}
use Rattle.input_script.specs.declared.fault.ScriptFault.{ScriptFault}
use Rattle.flash_dump.specs.declared.dump_line.DumpFault.{DumpFault}
use Rattle.avr_asm.specs.declared.fault.AsmFault.{AsmFault}
use Rattle.cli_words.specs.declared.command.Command.TheVariants.{Help, Run, Dump, Restart, Tasks, Check, Asm}
use Rattle.cli_words.specs.declared.job.Job.TheVariants as jobs
use Rattle.cli_words.specs.declared.status.Status.{Status}
use Rattle.cli_words.specs.declared.status.Status.TheVariants as statuses
use Rattle.printed_text.specs.PlainLines.{usage_line}
use Rattle.printed_text.specs.FaultyLines.{bad_image_text, bad_line_text}
use Rattle.flash_dump.specs.DumpLines.{dump_word}
use Rattle.avr_asm.specs.AsmText.{asm_word}
use Rattle.cli_words.specs.Status.{number_of}
use Rattle.byte_streams.specs.Streams.{Input}
use Rattle.cli_words.specs.declared.job.Job.{Job}
use Rattle.cli_words.specs.Printed.{usage}
use Rattle.cli_words.proofs.OneCommand.{one_command}
use Rattle.cli_requests.specs.Asking.{Asks, IsAsked, Tells, IsWarranted}
use Rattle.cli_requests.specs.Reading.{Bad, Good}
use Rattle.cli_requests.specs.TasksCommand.{Refused}
use Rattle.tkernel_cli.specs.Answer.{Does}
use Rattle.tkernel_cli.specs.Runs.{Says}
use Rattle.tkernel_cli.specs.declared.top.Exit.{Exit}
use Rattle.theorem_reader.specs.Refusals.{ReadsScript, Runs, Dumps, Restarts, ReadsHex, Scripted, Several, Checks, ReadsText, Program, Source, bad_line, IsUsage, Helped, Unknown, IsRefused}
use Rattle.theorem_reader.specs.Refusals.{HasUsage, TooLong, BadHex, BadScript, BadScripts, BadImage, BadDump, BadSource, IsSaid, AsksAsm, IsAssembled}
use Rattle.theorem_reader.specs.Texts.{address}
use Rattle.theorem_reader.proofs.Doing.{IsSoThen, Call, Somehow, so_is, so_then, retold, told_how, told_by}

-- a line that is warranted
record Warrants (words : List (List ℕ)) (source source' : Input) (own : ℕ) (line : List ℕ) : Type 0 where
  status : Status
  items : List ℕ
  warranted : IsWarranted words source source' (jobs.Print status (record { items = items }))
  status_is : number_of status ≡ own
  line_is : items ≡ line

bad_hex : (words : List (List ℕ)) (source source' : Input) (text : List ℕ) (number : ℕ) (fault : HexFault) → Tells source source' text → length text ≤ 2097152 → hex_fault text ≡ Some (number, fault)
    → ReadsHex words
    → IsWarranted words source source' (jobs.Print statuses.BadInput (record { items = bad_line_text (codes "bad hex line ") number (hex_word fault) }))
bad_hex words source source' text number fault tells short bad (Scripted (Runs options is)) = inl (Run options, is, (text, tells, inr (short, Bad number (hex_word fault) (fault, bad, refl) refl)))
bad_hex words source source' text number fault tells short bad (Scripted (Dumps options is)) = inl (Dump options, is, (text, tells, inr (short, Bad number (hex_word fault) (fault, bad, refl) refl)))
bad_hex words source source' text number fault tells short bad (Scripted (Restarts options is)) =
    inl (Restart options, is, (text, tells, inr (short, Bad number (hex_word fault) (fault, bad, refl) refl)))
bad_hex words source source' text number fault tells short bad (Several options is) = inl (Tasks options, is, (text, tells, inr (short, Bad number (hex_word fault) (fault, bad, refl) refl)))
bad_hex words source source' text number fault tells short bad (Checks is) = inl (Check, is, (text, tells, inr (short, Bad number (hex_word fault) (fault, bad, refl) refl)))

bad_script : (words : List (List ℕ)) (source source' : Input) (text image : List ℕ) (position number : ℕ) (fault : ScriptFault) → Tells source source' text → length text ≤ 2097152
    → HexText text image position → script_fault (drop position text) ≡ Some (number, fault) → ReadsScript words
    → IsWarranted words source source' (jobs.Print statuses.BadInput (record { items = bad_line_text (codes "bad script line ") number (script_word fault) }))
bad_script words source source' text image position number fault tells short hex bad (Runs options is) =
    inl (Run options, is, (text, tells, inr (short, Good (image, position) hex (Bad number (script_word fault) (fault, bad, refl) refl))))
bad_script words source source' text image position number fault tells short hex bad (Dumps options is) =
    inl (Dump options, is, (text, tells, inr (short, Good (image, position) hex (Bad number (script_word fault) (fault, bad, refl) refl))))
bad_script words source source' text image position number fault tells short hex bad (Restarts options is) =
    inl (Restart options, is, (text, tells, inr (short, Good (image, position) hex (Bad number (script_word fault) (fault, bad, refl) refl))))

too_long : (words : List (List ℕ)) (source source' : Input) (text : List ℕ) → Tells source source' text → 2097152 < length text → ReadsText words
    → IsWarranted words source source' (jobs.Print statuses.BadInput (record { items = codes "input too long\n" }))
too_long words source source' text tells long (Program (Scripted (Runs options is))) = inl (Run options, is, (text, tells, inl (long, refl)))
too_long words source source' text tells long (Program (Scripted (Dumps options is))) = inl (Dump options, is, (text, tells, inl (long, refl)))
too_long words source source' text tells long (Program (Scripted (Restarts options is))) = inl (Restart options, is, (text, tells, inl (long, refl)))
too_long words source source' text tells long (Program (Several options is)) = inl (Tasks options, is, (text, tells, inl (long, refl)))
too_long words source source' text tells long (Program (Checks is)) = inl (Check, is, (text, tells, inl (long, refl)))
too_long words source source' text tells long (Source is) = inl (Asm, is, (text, tells, inl (long, refl)))

-- the texts of faulty lines
hex_line : (number : ℕ) (fault : HexFault) → bad_line_text (codes "bad hex line ") number (hex_word fault) ≡ bad_line (codes "hex") number (hex_word fault)
unfolding bad_line_text
hex_line number fault = refl

script_line : (number : ℕ) (fault : ScriptFault) → bad_line_text (codes "bad script line ") number (script_word fault) ≡ bad_line (codes "script") number (script_word fault)
unfolding bad_line_text
script_line number fault = refl

dump_line : (number : ℕ) (fault : DumpFault) → bad_line_text (codes "bad dump line ") number (dump_word fault) ≡ bad_line (codes "dump") number (dump_word fault)
unfolding bad_line_text
dump_line number fault = refl

image_line : (a : ℕ) → bad_image_text a ≡ codes "bad task image " ++ address a ++ codes "\n"
unfolding bad_image_text
image_line a = refl

asm_line : (number : ℕ) (fault : AsmFault) → bad_line_text (codes "bad asm line ") number (asm_word fault) ≡ bad_line (codes "asm") number (asm_word fault)
unfolding bad_line_text
asm_line number fault = refl

warrants : (words : List (List ℕ)) (source source' : Input) (text line : List ℕ) → Tells source source' text → IsRefused words text line → Warrants words source source' 3 line
warrants words source source' text line tells (TooLong reads long line_is) =
    record { status = statuses.BadInput; items = _; warranted = too_long words source source' text tells long reads; status_is = refl; line_is = sym line_is }
warrants words source source' text line tells (BadHex reads short number fault bad line_is) =
    record { status = statuses.BadInput; items = _; warranted = bad_hex words source source' text number fault tells short bad reads; status_is = refl; line_is = hex_line number fault ∙ sym line_is }
warrants words source source' text line tells (BadScript reads image front number fault bad line_is) =
    record {
      status = statuses.BadInput;
      items = _;
      warranted = bad_script words source source' text image front.position number fault tells front.short front.hex bad reads;
      status_is =
          refl;
      line_is = script_line number fault ∙ sym line_is;
    }
warrants words source source' text line tells (BadScripts options is image front number fault bad line_is) =
    record {
      status = statuses.BadInput;
      items = _;
      warranted =
          inl (Tasks options, is, (text, tells, inr (front.short, Good (image, front.position) front.hex (Bad number (script_word fault) (fault, bad, refl) refl))));
      status_is = refl;
      line_is =
          script_line number fault ∙ sym line_is;
    }
warrants words source source' text line tells (BadImage options is image front scripts scheduled a first line_is) =
    record {
      status = statuses.BadInput;
      items = _;
      warranted =
          inl (Tasks options, is, (text, tells, inr (front.short, Good (image, front.position) front.hex (Good scripts scheduled (Refused a first refl)))));
      status_is = refl;
      line_is = image_line a
          ∙ sym line_is;
    }
warrants words source source' text line tells (BadDump is image front number fault bad line_is) =
    record {
      status = statuses.BadInput;
      items = _;
      warranted =
          inl (Check, is, (text, tells, inr (front.short, Good (image, front.position) front.hex (Bad number (dump_word fault) (fault, bad, refl) refl))));
      status_is = refl;
      line_is =
          dump_line number fault ∙ sym line_is;
    }
warrants words source source' text line tells (BadSource is short number fault bad line_is) =
    record {
      status = statuses.BadInput;
      items = _;
      warranted = inl (Asm, is, (text, tells, inr (short, Bad number (asm_word fault) (fault, bad, refl) refl)));
      status_is = refl;
      line_is =
          asm_line number fault ∙ sym line_is;
    }

-- a text that is told, and no machine
pub said_how : (words : List (List ℕ)) (exit : Exit) (status faults : ℕ) (taken : List ℕ) (call : Call words exit status faults taken) (own : Status) (whole : List ℕ)
    → Says own whole call.sink call.sink' exit.status → exit.kept ≡ None → exit.tasks ≡ None
    → Somehow call.sink call.sink' (λ sink. IsSaid sink (number_of own) whole status taken exit.kept exit.tasks)
said_how words exit status faults taken call own whole said none alone =
    so_then call.sink call.sink' _ (λ sink. IsSaid sink (number_of own) whole status taken exit.kept exit.tasks) (λ sink told. (inr told, none, alone))
    (told_how words exit status faults taken call own whole said)

-- a line that is warranted is told
warranted_told : (words : List (List ℕ)) (exit : Exit) (status faults : ℕ) (taken : List ℕ) (call : Call words exit status faults taken) (own : ℕ) (line : List ℕ)
    → Warrants words call.source call.source' own line → IsSoThen faults (λ sink. IsSaid sink own line status taken exit.kept exit.tasks)
warranted_told words exit status faults taken call own line w =
    let So : ℕ → List ℕ → Type 0 = λ n whole. IsSoThen faults (λ sink. IsSaid sink n whole status taken exit.kept exit.tasks) in
    subst (λ whole. So own whole) w.line_is (subst (λ n. So n w.items) w.status_is
    (told_by words exit status faults taken call _ (λ sink. IsSaid sink (number_of w.status) w.items status taken exit.kept exit.tasks) w.warranted (λ sink told none alone. (inl told, none, alone))
    (λ done. said_how words exit status faults taken call w.status w.items done.0.0 done.0.1 done.1)))

-- the usage line is asked for whether or not there is memory
record IsUsageOf (own : ℕ) (job : Job) : Type 0 where
  status : Status
  status_is : number_of status ≡ own
  is : job ≡ usage status

usage_asked : (words : List (List ℕ)) (source source' : Input) (own : ℕ) (job : Job) → IsUsage words own → IsAsked words source source' job → IsUsageOf own job
usage_asked words source source' own job (Helped help own_is) (inl asked) =
    let asks = subst (λ c. Asks c source source' job) (sym (one_command words Help asked.0 help asked.1)) asked.2 in
    record { status = statuses.Done; status_is = sym own_is; is = asks.0 }
usage_asked words source source' own job (Helped help own_is) (inr none) = absurd (none.0 Help help)
usage_asked words source source' own job (Unknown none own_is) (inl asked) = absurd (none asked.0 asked.1)
usage_asked words source source' own job (Unknown none own_is) (inr unknown) = record { status = statuses.Usage; status_is = sym own_is; is = unknown.1 }

pub usage_told : (words : List (List ℕ)) (exit : Exit) (status faults : ℕ) (taken : List ℕ) (call : Call words exit status faults taken) (own : ℕ)
    → IsUsage words own → IsSoThen faults (λ sink. HasUsage sink own status taken exit.kept exit.tasks)
usage_told words exit status faults taken call own usage =
    let asked = usage_asked words call.source call.source' own call.answer.job usage call.answer.asked in
    let done = subst (λ j. Does j call.sink call.sink' exit) asked.is call.answer.done in
    so_is words exit status faults taken call (λ sink. HasUsage sink own status taken exit.kept exit.tasks)
    (so_then call.sink call.sink' _ (λ sink. HasUsage sink own status taken exit.kept exit.tasks)
    (λ sink told. (retold sink _ _ _ _ status taken asked.status_is refl told, done.0.1, done.1))
    (told_how words exit status faults taken call asked.status usage_line done.0.0))

pub refused_told : (words : List (List ℕ)) (exit : Exit) (status faults : ℕ) (taken : List ℕ) (call : Call words exit status faults taken) (text : List ℕ) → Tells call.source call.source' text
    → (line : List ℕ)
    → IsRefused words text line → IsSoThen faults (λ sink. IsSaid sink 3 line status taken exit.kept exit.tasks)
refused_told words exit status faults taken call text tells line refused =
    warranted_told words exit status faults taken call 3 line (warrants words call.source call.source' text line tells refused)

pub asm_told_of : (words : List (List ℕ)) (exit : Exit) (status faults : ℕ) (taken : List ℕ) (call : Call words exit status faults taken) (text : List ℕ) → Tells call.source call.source' text
    → (image : List ℕ)
    → AsksAsm words text image → IsSoThen faults (λ sink. IsAssembled sink image status taken exit.kept exit.tasks)
asm_told_of words exit status faults taken call text tells image asks =
    told_by words exit status faults taken call _ (λ sink. IsAssembled sink image status taken exit.kept exit.tasks)
    (inl (Asm, asks.command, (text, tells, inr (asks.short, Good image (asks.faultless, asks.source) refl))))
    (λ sink told none alone. (inl told, none, alone)) (λ done. said_how words exit status faults taken call statuses.Done (written image) done.0.0 done.0.1 done.1)
