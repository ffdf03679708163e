-- What is ruled out.
use Rattle.std.proofs.Common.{arith, ◌≡◌, ◌≢◌, ◌⊎◌, ℕ, ◌++◌, List, false, true, Bool, Option, Some, None, codes, decimal, sym, ap, ◌∙◌, inl, inr}
use Rattle.std.specs.Prelude.{flat_map, ◌/◌}
use Rattle.std.proofs.lemmas.Bool.{cases_order}
use Rattle.std.proofs.lemmas.List.{append_assoc}
use Rattle.flash_words.specs.Memory.{Memory}
use Rattle.flash_words.specs.Operations.{is_listed}
use Rattle.mote_devices.specs.declared.line.Line.{Line}
use Rattle.avr_exec.specs.Spaces.{Went}
use Rattle.mote_core.specs.declared.mote.Mote.{Mote}
use Rattle.mote_core.specs.Physical.{Physical}
use Rattle.flat_machine.specs.FlatMachine.{End as FlatEnd}
use Rattle.flat_machine.specs.FlatMachine as flat_ends
use Rattle.kernel_entry.specs.declared.kernel.End.{End as MachineEnd}
use Rattle.kernel_entry.specs.declared.kernel.End.TheVariants as ends
use Rattle.program_steps.specs.Machines.{Machine}
use Rattle.tk_tasks.specs.States.{Tasks as KeptTasks}
use Rattle.cli_words.specs.declared.command.Command.{Command}
use Rattle.cli_words.specs.declared.command.Command.TheVariants.{Help, Run as RunCommand, Asm}
use Rattle.cli_words.specs.Commands.{IsCommand}
use Rattle.cli_words.proofs.OneCommand.{one_command}
use Rattle.theorem_reader.specs.Acts.{IsStep, Executes, Relinks, IsNext, GoesNoFurther, KeepsLink}
use Rattle.theorem_reader.specs.Calls.{IsAsked, AreCovered}
use Rattle.theorem_reader.specs.Checks.{IsChecked, IsMisshapen, IsUnlinked}
use Rattle.theorem_reader.specs.Dumps.{HasEnded, IsDumped}
use Rattle.theorem_reader.specs.Ends.{IsKeptEnd}
use Rattle.theorem_reader.specs.Memory.{core_at}
use Rattle.theorem_reader.specs.Pools.{AreFaithfulBut, KeepsWord}
use Rattle.theorem_reader.specs.Refusals.{IsUsage}
use Rattle.theorem_reader.specs.Restarts.{IsLost, IsRestarted}
use Rattle.theorem_reader.specs.Runs.{Asked, boot_of, IsRun, original_of}
use Rattle.theorem_reader.specs.Texts.{device_line, end_words, stop_line, end_status, count_line}
use Rattle.theorem_reader.specs.RuledOut.{Agree, DifferInCounts, AnswersAgree, MachinesAgree, ActsAreNone}
use Rattle.theorem_reader.specs.Steps.{AreUnmade}
use Rattle.theorem_reader.specs.Stints.{HasPart}
use Rattle.theorem_reader.specs.Tasks.{AreRun, worst_status}
use Rattle.theorem_reader.specs.Telling.{Serves, Fails}
use Rattle.theorem_reader.proofs.Motes.{one_mote}

serves_or_fails : {A : Type 0} → Serves ≡ Fails → A
serves_or_fails e = absurd (cc)

-- Answers. ------------------------------------------------------------------------------------------------

runs : (asked : Asked) → Agree (IsRun (boot_of asked) Serves asked) (λ status other taken another. (status ≡ 9) ⊎ ((other ≡ 9) ⊎ ((status ≡ other) × DifferInCounts taken another)))
runs asked status other taken another kept held (IsRun.NoMemory told none) two = inl told.0
runs asked status other taken another kept held (IsRun.Failed m is run) two = inr (inr (inl run.told.0.0))
runs asked status other taken another kept held (IsRun.Cut m is fails run) two = serves_or_fails fails
runs asked status other taken another kept held (IsRun.Ended m is run) (IsRun.NoMemory told none) = inr (inl told.0)
runs asked status other taken another kept held (IsRun.Ended m is run) (IsRun.Failed n is' run') = inr (inr (inr (inl run'.told.0.0)))
runs asked status other taken another kept held (IsRun.Ended m is run) (IsRun.Cut n is' fails run') = serves_or_fails fails
runs asked status other taken another kept held (IsRun.Ended m is run) (IsRun.Ended n is' run') =
    let r = original_of asked asked.steps in
    let lines = flat_map device_line r.lines in
    let stop = stop_line (end_words r.end) r.state.now.steps (r.state.now.crossings / asked.quantum) in
    let apart = λ (z : Machine). sym (append_assoc lines stop (count_line z)) in
    inr (inr (inr (inr (run.told.0.0 ∙ sym run'.told.0.0, record { front = lines ++ stop; one = m; another = n; is = run.told.0.1 ∙ apart m; other_is = run'.told.0.1 ∙ apart n }))))

-- what has one status agrees in it
agree : {A : Type 0} → (Is : ℕ → List ℕ → A → Type 0) (own : ℕ) → ((status : ℕ) (taken : List ℕ) (kept : A) → Is status taken kept → (status ≡ 8) ⊎ (status ≡ own))
    → Agree Is (λ status other taken another. status ≡ other)
agree Is own each status other taken another kept held one two = elim (each status taken kept one) [
  | inl wanting ↦ inl wanting
  | inr first ↦ elim (each other another held two) [ inl wanting ↦ inr (inl wanting) | inr second ↦ inr (inr (first ∙ sym second)) ]
]

restarted_own : (asked : Asked) (status : ℕ) (taken : List ℕ) (kept : Option Machine) → IsRestarted Serves asked status taken kept
    → (status ≡ 8) ⊎ (status ≡ end_status (original_of asked asked.steps).end)
restarted_own asked status taken kept (IsRestarted.NoMemory told none) = inl told.0
restarted_own asked status taken kept (IsRestarted.Unbegun flash m is fails run) = serves_or_fails fails
restarted_own asked status taken kept (IsRestarted.Ran flash (IsRun.NoMemory told none)) = inl told.0
restarted_own asked status taken kept (IsRestarted.Ran flash (IsRun.Ended m is run)) = inr run.told.0.0
restarted_own asked status taken kept (IsRestarted.Ran flash (IsRun.Failed m is run)) =
    let none = ap (λ (f : Memory). is_listed f.failing m.kernel.mote.flash.ops) run.run.stands.acts.begins.over in
    absurd (let e : ◌≡◌ {A = Bool} false true = sym none ∙ run.run.listed in cc)
restarted_own asked status taken kept (IsRestarted.Ran flash (IsRun.Cut m is fails run)) = serves_or_fails fails

one_misshapen : (image flash : List ℕ) (p q : ℕ) → IsMisshapen image flash p → IsMisshapen image flash q → p ≡ q
one_misshapen image flash p q one other = elim (cases_order p q) [
  | inl same ↦ same
  | inr (inl less) ↦ absurd (one.without (other.lower p less))
  | inr (inr more) ↦ absurd (other.without (one.lower q more))
]

one_unlinked : (image flash : List ℕ) (p q : ℕ) → IsUnlinked image flash p → IsUnlinked image flash q → p ≡ q
one_unlinked image flash p q one other = elim (cases_order p q) [
  | inl same ↦ same
  | inr (inl less) ↦ absurd (one.without (other.lower p one.inside less))
  | inr (inr more) ↦ absurd (other.without (one.lower q other.inside more))
]

checks : (image flash : List ℕ) → Agree (IsChecked Serves image flash) (λ status other taken another. (status ≡ other) × (taken ≡ another))
checks image flash status other taken another kept held (IsChecked.NoMemory told none) two = inl told.0
checks image flash status other taken another kept held one (IsChecked.NoMemory told none) = inr (inl told.0)
checks image flash status other taken another kept held (IsChecked.Faithful is told none) (IsChecked.Faithful is' told' none') = inr (inr (told.0 ∙ sym told'.0, told.1 ∙ sym told'.1))
checks image flash status other taken another kept held (IsChecked.Faithful is told none) (IsChecked.Misshapen page is' told' none') = absurd (is'.without (is.forms page is'.inside))
checks image flash status other taken another kept held (IsChecked.Faithful is told none) (IsChecked.Unlinked page is' told' none') = absurd (is'.without (is.links page is'.inside))
checks image flash status other taken another kept held (IsChecked.Misshapen page is told none) (IsChecked.Faithful is' told' none') = absurd (is.without (is'.forms page is.inside))
checks image flash status other taken another kept held (IsChecked.Misshapen page is told none) (IsChecked.Misshapen page' is' told' none') =
    inr (inr (told.0 ∙ sym told'.0, told.1 ∙ ap (λ p. codes "not faithful page " ++ decimal p ++ codes " form\n") (one_misshapen image flash page page' is is') ∙ sym told'.1))
checks image flash status other taken another kept held (IsChecked.Misshapen page is told none) (IsChecked.Unlinked page' is' told' none') = absurd (is.without (is'.forms page is.inside))
checks image flash status other taken another kept held (IsChecked.Unlinked page is told none) (IsChecked.Faithful is' told' none') = absurd (is.without (is'.links page is.inside))
checks image flash status other taken another kept held (IsChecked.Unlinked page is told none) (IsChecked.Misshapen page' is' told' none') = absurd (is'.without (is.forms page' is'.inside))
checks image flash status other taken another kept held (IsChecked.Unlinked page is told none) (IsChecked.Unlinked page' is' told' none') =
    inr (inr (told.0 ∙ sym told'.0, told.1 ∙ ap (λ p. codes "not faithful page " ++ decimal p ++ codes " links\n") (one_unlinked image flash page page' is is') ∙ sym told'.1))

pub answers_agree : AnswersAgree
answers_agree = record {
  run = runs;
  dump = λ asked. agree (IsDumped Serves asked) 0 (λ status taken kept. elim [
    | IsDumped.NoMemory told none ↦ inl told.0
    | IsDumped.Unwritten m is ended told ↦ inl told.0
    | IsDumped.Dumped m is ended told ↦ inr told.0
  ]);
  restart = λ asked. agree (IsRestarted Serves asked) _ (restarted_own asked);
  tasks = λ asked. agree (λ status taken (kept : Option Machine × Option KeptTasks). AreRun Serves asked status taken kept.0 kept.1) (worst_status asked) (λ status taken kept. elim [
    | AreRun.NoMemory told none alone ↦ inl told.0
    | AreRun.Ended t run none is ↦ inr run.told.0.0
    | AreRun.Cut t fails run none is ↦ serves_or_fails fails
  ]);
  check = checks;
  said = λ own whole status other taken another kept held one two. elim one.0 [
    | inl told ↦ inl told.0
    | inr told ↦ elim two.0 [ inl told' ↦ inr (inl told'.0) | inr told' ↦ inr (inr (told.0 ∙ sym told'.0, told.1 ∙ sym told'.1)) ]
  ];
}

-- Machines. -----------------------------------------------------------------------------------------------

-- an original program whose machine has no end did all its steps
endless : (end : FlatEnd) (kept other : Option MachineEnd) → IsKeptEnd end kept → IsKeptEnd end other → kept ≡ None → other ≡ None
endless flat_ends.Spent kept other one two none = two
endless end kept other one two none = absurd (let e : Some one.0 ≡ None = sym one.1 ∙ none in cc)

-- a step
one_outcome : (from : ℕ) (line other : Option Line) (before after later : Mote) → IsStep from line before after → IsStep from other before later → (after ≡ later) × (line ≡ other)
one_outcome from line other before after later one two =
    let space : Physical = record { sram = after.sram; devices = after.devices; words = after.flash.words; line = line } in
    let space' : Physical = record { sram = later.sram; devices = later.devices; words = later.flash.words; line = other } in
    let same : Some (Went after.cpu space) ≡ Some (Went later.cpu space') = sym one.executed ∙ two.executed in
    let cpu : after.cpu ≡ later.cpu = cc in
    let there : space ≡ space' = cc in (
      one_mote after later cpu (ap (λ (s : Physical). s.sram) there) (one.flash ∙ sym two.flash) (ap (λ (s : Physical). s.devices) there) (one.swap ∙ sym two.swap),
      ap (λ (s : Physical). s.line) there,
    )

pub machines_agree : MachinesAgree
machines_agree = record {
  stand = λ asked r m n one other. record {
    core = ap (core_at m.kernel.mote) one.pc ∙ one.state.core ∙ sym (ap (core_at n.kernel.mote) other.pc ∙ other.state.core);
    steps = one.steps ∙ sym other.steps;
    crossings = one.crossings ∙ sym other.crossings;
    due = one.due ∙ sym other.due;
    layout = one.layout ∙ sym other.layout;
    slots = one.slots ∙ sym other.slots;
    quantum = one.quantum ∙ sym other.quantum;
    devices = one.state.devices ∙ sym other.state.devices;
  };
  ended = λ asked m n one other. (one.unbroken ∙ sym other.unbroken, endless (original_of asked asked.steps).end m.end n.end one.end other.end);
  step = one_outcome;
}

-- Acts, pages and calls. ----------------------------------------------------------------------------------

other_command : {A : Type 0} → (words : List (List ℕ)) (a b : Command) → IsCommand words a → IsCommand words b → a ≢ b → A
other_command words a b one other apart = absurd (apart (one_command words a b one other))

no_usage : {A : Type 0} → (words : List (List ℕ)) (own : ℕ) (command : Command) → IsCommand words command → command ≢ Help → IsUsage words own → A
no_usage words own command is apart (IsUsage.Helped help own_is) = other_command words command Help is help apart
no_usage words own command is apart (IsUsage.Unknown none own_is) = absurd (none command is)

pub acts_are_none : ActsAreNone
acts_are_none = record {
  executed = λ image quantum line before after none. elim [
    | Executes.Ends stops silent same ↦ (let e : ◌≡◌ {A = Bool} false true = stops in cc)
    | Executes.Done on form to old new stands m d i l went memory devices line_is count ↦ (let e : None ≡ Some form = sym none ∙ stands in cc)
  ];
  linked = λ before after place none. elim [ Relinks.Same same ↦ same | Relinks.Linked s call is ↦ absurd (none s call.0) ];
  stays = λ image target before after a none. elim [
    | KeepsLink.Kept same ↦ same
    | KeepsLink.Linked s at call jump ↦ absurd (none s (inl call))
    | KeepsLink.Unlinked s at jump gone call ↦ absurd (none s (inr jump))
  ];
  kept = λ before after a none. elim [ KeepsWord.Kept same ↦ same | KeepsWord.Exits s at exit later ↦ absurd (none s exit) ];
  next = λ image target before after page pool erased. elim [
    | IsNext.Lowest inside is lowest stays ↦ stays
    | IsNext.InTurn recycled turns ↦ absurd (recycled.full page pool erased)
  ];
  far = λ image flash page t last goes same inside none fits. elim [
    | GoesNoFurther.Leads ends ↦ (let e : ◌≡◌ {A = Bool} true false = sym ends ∙ goes in cc)
    | GoesNoFurther.Leaves other ↦ other same
    | GoesNoFurther.Beyond out ↦ omega (arith, inside, out)
    | GoesNoFurther.Known place away there ↦ none place there
    | GoesNoFurther.Full full ↦ omega (arith, fits, full)
  ];
  lacks = λ image flash none. elim [ AreFaithfulBut.Whole whole ↦ whole | AreFaithfulBut.Lacking page words pool erased size with ↦ absurd (none page pool erased) ];
  begun = λ image s before acts. elim [
    | AreUnmade.Nothing none going can ↦ none
    | AreUnmade.Refused kernel made ops after is over ↦ absurd (let e : None ≡ Some _ = over in cc)
    | AreUnmade.Stopped of stops stop over ↦ absurd (let e : None ≡ Some (ends.Stopped stop) = over in cc)
  ];
  parked = λ left own kept task part none. elim part [
    | HasPart.Here runs is back ↦ (let e : ◌≡◌ {A = Bool} false true = runs in cc)
    | HasPart.Away runs parked some is_parked ↦ (let e : Some parked ≡ None = sym some ∙ none in cc)
  ];
  ended = λ asked m. elim [ HasEnded.Well run ↦ AreFaithfulBut.Whole run.flash.faithful | HasEnded.InAFault run ↦ run.faithful ];
  lost = λ image m flash erases none. elim [
    | IsLost.Whole unfailed words counts ↦ words
    | IsLost.Torn op page over refused pool torn others counts ↦ absurd (none op over)
  ];
  asked = λ words text options is. elim [
    | IsAsked.Run asked asks ↦ inl (asked, asks)
    | IsAsked.Dump asked asks ↦ other_command words _ _ is asks.command (λ e. cc)
    | IsAsked.Restart asked asks ↦ other_command words _ _ is asks.command (λ e. cc)
    | IsAsked.Several asked asks ↦ other_command words _ _ is asks.command (λ e. cc)
    | IsAsked.Check image flash asks ↦ other_command words _ _ is asks.command (λ e. cc)
    | IsAsked.Assemble image asks ↦ other_command words _ _ is asks.command (λ e. cc)
    | IsAsked.Generate seed asks ↦ other_command words _ _ is asks (λ e. cc)
    | IsAsked.Refuse line refused ↦ inr (line, refused)
    | IsAsked.Tell own usage ↦ no_usage words own (RunCommand options) is (λ e. cc) usage
  ];
  covered = λ words is. elim [
    | AreCovered.Reads reads ↦ reads
    | AreCovered.Makes seed asks ↦ other_command words _ _ is asks (λ e. cc)
    | AreCovered.Tells own usage ↦ no_usage words own Asm is (λ e. cc) usage
  ];
}
