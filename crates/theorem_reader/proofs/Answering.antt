-- What is answered, in lists and numbers.
use Rattle.std.proofs.Common.{◌≡◌, ◌≢◌, false, take, length, ℕ, false, ◌+◌, ◌*◌, ◌≤◌, List, [], ◌++◌, Option, Some, None, refl, sym, ap, ap₂, ◌∙◌, subst, arith, zero-add, inl, inr}
use Rattle.std.specs.Prelude.{IfSome, codes, decimal, flat_map}
use Rattle.std.proofs.lemmas.Bool.{false_from_ne_true}
use Rattle.flash_words.specs.Memory.{Memory, new_flash}
use Rattle.flash_words.specs.Layouts.{layout_of, IsRight}
use Rattle.flash_words.specs.Operations.{is_listed}
use Rattle.flash_words.specs.declared.layout.Layout.{Layout}
use Rattle.flash_words.proofs.LoadedLaws.{loaded_image}
use Rattle.nat_page.specs.Faithful.{IsFaithful}
use Rattle.branch_bridge.specs.declared.rewriting.Torn.{Torn}
use Rattle.branch_bridge.specs.Operating.{with_torn}
use Rattle.branch_bridge.specs.Tried.{IsTorn}
use Rattle.kernel_entry.specs.Parts.{image_held}
use Rattle.kernel_entry.specs.declared.kernel.End.{End as MachineEnd}
use Rattle.kernel_entry.specs.declared.kernel.End.TheVariants as ends
use Rattle.input_script.specs.Script.{Schedule}
use Rattle.flat_machine.specs.FlatMachine.{Moment, Program, End as FlatEnd}
use Rattle.flat_machine.specs.FlatMachine as flat_ends
use Rattle.step_laws.specs.Numbers.{Numbers}
use Rattle.nat_page.specs.Used.{used_pages}
use Rattle.step_laws.specs.Walks.{Walk}
use Rattle.mote_core.specs.declared.mote.Mote.{Mote}
use Rattle.mote_devices.specs.declared.line.Line.{Line}
use Rattle.program_steps.specs.Machines.{Machine, state_of, numbers_of}
use Rattle.program_steps.specs.Ready.{IsSound, HasFault, mended_words}
use Rattle.step_laws.proofs.NumberLaws.{unmoved}
use Rattle.tk_run.specs.Booted.{started}
use Rattle.tk_run.specs.Running.{Leads, states_of, flat_end}
use Rattle.cli_words.specs.declared.command.Command.TheVariants.{Run as RunCommand, Generate}
use Rattle.cli_words.specs.declared.job.Job.TheVariants as jobs
use Rattle.cli_words.specs.declared.request.Request.{Request}
use Rattle.cli_words.specs.declared.status.Status.{Status}
use Rattle.tkernel_cli.specs.declared.top.Exit.{Exit}
use Rattle.cli_requests.specs.Asking.{IsWarranted, Tells}
use Rattle.cli_requests.specs.Reading.{Good}
use Rattle.cli_words.specs.Stream.{Stream}
use Rattle.tkernel_cli.specs.Runs.{KeepsEnd, Runs, RunsToTheEnd, RunsIntoAFault, RunsUntilCut, Follows, AreUnlisted, first_start, ended_text}
use Rattle.theorem_reader.specs.Acts.{HasActs, made_in}
use Rattle.theorem_reader.specs.Pools.{pool_size, AreFaithful, AreFaithfulBut}
use Rattle.theorem_reader.specs.Ends.{end_of, IsKeptEnd}
use Rattle.theorem_reader.specs.Runs.{Asked, Asks, AsksGenerate, generated_by, options_of, original_of, last_lines, Start, boot_of, Stands, EndsWell, EndsInAFault, IsCutShort, ToTheEnd, IsRun}
use Rattle.theorem_reader.specs.Runs.{NoMemory, Ended, Failed, Cut}
use Rattle.theorem_reader.specs.Wear.{IsSpared}
use Rattle.theorem_reader.proofs.Sparing.{walk_spares, goes_on, new_unused}
use Rattle.theorem_reader.specs.Telling.{Fails}
use Rattle.theorem_reader.specs.Texts.{device_line}
use Rattle.theorem_reader.proofs.Holding.{has_state}
use Rattle.theorem_reader.proofs.Pooling.{faithful_is, but_is}
use Rattle.theorem_reader.proofs.Booting.{is_boot}
use Rattle.theorem_reader.proofs.Acting.{acts_of, Holds, follow}
use Rattle.theorem_reader.proofs.Linked.{are_linked}
use Rattle.theorem_reader.proofs.Stepwise.{paced}
use Rattle.theorem_reader.proofs.Bounding.{natural_of, entries_of, pages_of, lines_of_acts, longest_of, longest_in, no_longer}
use Rattle.theorem_reader.proofs.Doing.{IsSoThen, Call, Somehow, so_then, past_by, retold, told_how, cut_by, told_by}
use Rattle.theorem_reader.proofs.SameTexts.{lines_same, ended_same, failed_same, status_same}

abbrev pub script_of : Asked → Schedule
script_of asked = record { events = asked.events; failing = asked.failing }

-- what the words and the text ask to run
abbrev pub request_of : Asked → Request
request_of asked = record { image = asked.image; script = script_of asked; options = options_of asked }

-- a machine that has done nothing yet, over a flash whose pool has so many pages
abbrev pub start_of : Asked → Memory → (pages : ℕ) → Machine
start_of asked flash pages = started asked.image flash (script_of asked) asked.quantum asked.slots pages

has_acts : (IsFirst : Mote → Type 0) (asked : Asked) (flash : Memory) (pages : ℕ) (lines : List Line) (m : Machine) → IsFirst (start_of asked flash pages).kernel.mote
    → take (length asked.image) flash.words ≡ asked.image → (path : Leads (start_of asked flash pages) lines m) → Walk (state_of (start_of asked flash pages)) path.moves (state_of m)
    → m.longest ≤ 5120 * asked.quantum → HasActs IsFirst pages asked.image asked.quantum m.natural m.entries m.pages lines m.kernel.mote
has_acts IsFirst asked flash pages lines m begins held path walk bound =
    let x = state_of (start_of asked flash pages) in
    let moves = path.moves in
    let counts = numbers_of (start_of asked flash pages) in
    let acts = acts_of x moves (state_of m) walk in
    record {
      acts = acts;
      first = (start_of asked flash pages).kernel.mote;
      begins = begins;
      follow = (follow asked.image asked.quantum x moves (state_of m) walk (record { laid = refl; held = held; counts = refl })).follow;
      natural_is = ap (λ (k : Numbers). k.natural) path.goes.numbers ∙ natural_of x moves (state_of m) walk counts ∙ zero-add (_);
      entries_is = ap (λ (k : Numbers). k.entries) path.goes.numbers ∙ entries_of x moves (state_of m) walk counts ∙ zero-add (_);
      pages_is = ap (λ (k : Numbers). k.pages) path.goes.numbers ∙ pages_of x moves (state_of m) walk counts;
      lines_are = sym path.goes.told ∙ lines_of_acts x moves (state_of m) walk;
      few = λ front between back is none.
          let longest : m.longest ≡ longest_in 0 0 acts = ap (λ (k : Numbers). k.longest) path.goes.numbers ∙ longest_of x moves (state_of m) walk counts in
          omega (arith, bound, longest, ap (longest_in 0 0) is, no_longer 0 0 front between back none);
      linked = are_linked x moves (state_of m) walk;
    }

-- the layout of a run is that of its image
pub layout_same : (image : List ℕ) (m : Machine) → IsSound m → image_held m.kernel ≡ image → m.kernel.layout ≡ layout_of (length image)
layout_same image m sound held =
    let order = sound.order in
    order.layout ∙ ap layout_of (sym order.faithful.image_length ∙ ap length held)

-- how such a machine began
pub record IsBegun (began : Start) (asked : Asked) (flash : Memory) : Type 0 where
  pub first : began.IsFirst (start_of asked flash began.pages).kernel.mote
  pub untried : flash.ops ≡ 0
  pub held : take (length asked.image) flash.words ≡ asked.image
  pub used : began.pages ≡ used_pages (layout_of (length asked.image)) flash.words

-- where moves lead from such a start
stands_from : (began : Start) (asked : Asked) (flash : Memory) (n : ℕ) (m : Machine) → IsBegun began asked flash → Follows (request_of asked) (start_of asked flash began.pages) n m
    → m.steps ≤ asked.steps → (at : Stands began asked (original_of asked n) m) × (at.acts.first ≡ (start_of asked flash began.pages).kernel.mote)
unfolding has_acts
stands_from began asked flash n m begun follows within =
    let start = start_of asked flash began.pages in
    let at = follows.at in
    let path = at.path in
    let same = at.state in
    let sound = follows.sound in
    let pace = paced asked.image asked.quantum (states_of (original_of asked)) start m.steps path.moves m (record { laid = refl; held = begun.held; counts = refl })
    (λ w owes. refl) at.by_step path.last (sym (zero-add m.steps)) in
    let acts = has_acts began.IsFirst asked flash began.pages (original_of asked n).lines m begun.first begun.held path pace.walk (subst (λ q. m.longest ≤ 5120 * q) at.quantum follows.longest) in (
      record {
        state = has_state m.kernel m.kernel.mote m.at m.steps m.crossings (original_of asked n).state.now sound.order.paged (ap (λ (s : Moment). s.now) same);
        pc = ap (λ (s : Moment). s.now.cpu.pc) same;
        steps = ap (λ (s : Moment). s.now.steps) same;
        crossings = ap (λ (s : Moment). s.now.crossings) same;
        due = ap (λ (s : Moment). s.due) same;
        layout = layout_same asked.image m sound (ap (λ (p : Program). p.image) at.program);
        slots = ap (λ (p : Program). p.page_limit) at.program;
        quantum = at.quantum;
        most_steps = within;
        most_operations = omega (arith, sound.bounded.ops, ap (λ (k : Numbers). k.others) path.goes.numbers, (unmoved path.moves (numbers_of start)).1);
        most_pages = follows.pages;
        acts = acts;
        by_step = pace.by_step;
        most_natural = sound.bounded.moves.natural;
        most_entries = sound.bounded.moves.entries;
      },
      refl,
    )

-- the end that is kept
own_end : (end : MachineEnd) → flat_end end ≡ end_of end
own_end ends.Spent = refl
own_end _ = refl

pub kept_end : (end : FlatEnd) (m : Machine) → KeepsEnd end m → IsKeptEnd end m.end
kept_end flat_ends.Spent m keeps = keeps
kept_end end m keeps = (keeps.0, keeps.1, sym (own_end keeps.0) ∙ keeps.2)

-- a run to the original's end keeps no refused operation as its end
fault_spends : (end : FlatEnd) (m : Machine) (op : ℕ) → ((kept : MachineEnd) × (m.end ≡ Some kept) × (flat_end kept ≡ end)) → m.end ≡ Some (ends.Flash op) → end ≡ flat_ends.Spent
fault_spends end m op keeps is =
    let e : Some keeps.0 ≡ Some (ends.Flash op) = sym keeps.1 ∙ is in
    let same : keeps.0 ≡ ends.Flash op = cc in
    sym keeps.2 ∙ ap flat_end same

pub no_fault : (end : FlatEnd) (m : Machine) (op : ℕ) → KeepsEnd end m → m.end ≢ Some (ends.Flash op)
no_fault flat_ends.Spent m op keeps is = let e : Some (ends.Flash op) ≡ None = sym is ∙ keeps in absurd (cc)
no_fault end m op keeps is = let e : end ≡ flat_ends.Spent = fault_spends end m op keeps is in absurd (cc)

torn_by_order : (torn : Option Torn) (layout : Layout) (m : Machine) → IfSome torn (λ t. IsTorn layout m.kernel.mote.flash.words t × HasFault m) → IfSome torn (IsTorn layout m.kernel.mote.flash.words)
torn_by_order None layout m is = tt
torn_by_order (Some torn) layout m is = is.0

never_torn : (m : Machine) (torn : Option Torn) → ((op : ℕ) → m.end ≢ Some (ends.Flash op)) → IfSome torn (λ t. IsTorn m.kernel.layout m.kernel.mote.flash.words t × HasFault m) → torn ≡ None
never_torn m None unfailed is = refl
never_torn m (Some torn) unfailed is = absurd (unfailed is.1.0 is.1.1)

-- flash behind a run, with the words that a torn page lacks
mended_code : (asked : Asked) (m : Machine) → IsSound m → image_held m.kernel ≡ asked.image
    → (length asked.image ≤ 24576) × IsFaithful (layout_of (length asked.image)) asked.image (mended_words m.kernel m.torn)
mended_code asked m sound held =
    let l = layout_of (length asked.image) in
    let laid = layout_same asked.image m sound held in
    let words = mended_words m.kernel m.torn in
    ((subst IsRight laid sound.order.right).image_fits, subst (λ i. IsFaithful l i words) held (subst (λ k. IsFaithful k (image_held m.kernel) words) laid sound.order.faithful))

pub lacking_of : (asked : Asked) (m : Machine) → IsSound m → image_held m.kernel ≡ asked.image → AreFaithfulBut asked.image m.kernel.mote.flash.words
lacking_of asked m sound held =
    let words = m.kernel.mote.flash.words in
    let code = mended_code asked m sound held in
    but_is asked.image words m.torn code.0 code.1 (torn_by_order m.torn (layout_of (length asked.image)) m
    (subst (λ k. IfSome m.torn (λ t. IsTorn k words t × HasFault m)) (layout_same asked.image m sound held) sound.order.tried.torn))

pub whole_of : (asked : Asked) (m : Machine) → IsSound m → image_held m.kernel ≡ asked.image → ((op : ℕ) → m.end ≢ Some (ends.Flash op)) → AreFaithful asked.image m.kernel.mote.flash.words
whole_of asked m sound held unfailed =
    let words = m.kernel.mote.flash.words in
    let code = mended_code asked m sound held in
    faithful_is asked.image words code.0 (subst (λ t. IsFaithful (layout_of (length asked.image)) asked.image (with_torn words t)) (never_torn m m.torn unfailed sound.order.tried.torn) code.1)

-- how often pages were erased, where so many are used at the start
pub spared : (asked : Asked) (flash : Memory) (pages n : ℕ) (m : Machine) → take (length asked.image) flash.words ≡ asked.image → pages ≡ used_pages (layout_of (length asked.image)) flash.words
    → ((op : ℕ) → 1 ≤ op → op ≤ m.kernel.mote.flash.ops → is_listed flash.failing op ≡ false) → Follows (request_of asked) (start_of asked flash pages) n m → m.pages ≤ pool_size asked.image
    → IsSpared flash m.kernel.mote.flash
spared asked flash pages n m held used unlisted follows fits =
    let start = start_of asked flash pages in
    let path = follows.at.path in
    let laid : Holds asked.image asked.quantum (state_of start) = record { laid = refl; held = held; counts = refl } in
    let pace = paced asked.image asked.quantum (states_of (original_of asked)) start m.steps path.moves m laid (λ w owes. refl) follows.at.by_step path.last (sym (zero-add m.steps)) in
    let made : m.pages ≡ pages + made_in (acts_of (state_of start) path.moves (state_of m) pace.walk) = ap (λ (k : Numbers). k.pages) path.goes.numbers
    ∙ pages_of (state_of start) path.moves (state_of m) pace.walk (numbers_of start) in
    walk_spares asked.image asked.quantum (state_of start) path.moves (state_of m) pace.walk laid (omega (arith, made, fits, used), unlisted)

-- .. of a machine whose device lines could not be put
unlisted_by : (asked : Asked) (flash : Memory) (pages n : ℕ) (m : Machine) → take (length asked.image) flash.words ≡ asked.image → Follows (request_of asked) (start_of asked flash pages) n m
    → ((op : ℕ) → m.end ≢ Some (ends.Flash op)) → (op : ℕ) → 1 ≤ op → op ≤ m.kernel.mote.flash.ops → is_listed flash.failing op ≡ false
unlisted_by asked flash pages n m held follows unfailed op low high =
    let path = follows.at.path in
    let stays = (goes_on (state_of (start_of asked flash pages)) path.moves (state_of m) path.goes.walk).failing in
    false_from_ne_true (is_listed flash.failing op) (λ there. unfailed op (follows.sound.order.tried.listed op low high (ap (λ failing. is_listed failing op) stays ∙ there)))

-- and how it ended
pub ends_well : (began : Start) (asked : Asked) (flash : Memory) (front : List ℕ) (before now : Stream) (told : Status) (m : Machine) → IsBegun began asked flash
    → ((op : ℕ) → 1 ≤ op → op ≤ m.kernel.mote.flash.ops → is_listed flash.failing op ≡ false)
    → RunsToTheEnd (request_of asked) (start_of asked flash began.pages) front before now told m → EndsWell began asked m
ends_well began asked flash front before now told m begun unlisted run =
    let there = stands_from began asked flash asked.steps m begun run.follows run.within in
    record {
      stands = there.0;
      end = kept_end _ m run.end;
      unbroken = run.unbroken;
      unrefused = run.unrefused;
      none_failed = λ op low high. ap (λ (first : Mote). is_listed first.flash.failing op) there.1 ∙ unlisted op low high;
      flash = record {
        wear = λ fits.
            rw there.1 (spared asked flash began.pages asked.steps m begun.held begun.used unlisted run.follows fits);
        faithful = whole_of asked m run.follows.sound (ap (λ (p : Program). p.image) run.follows.at.program) (λ op. no_fault _ m op run.end);
      };
    }

pub to_the_end : (began : Start) (asked : Asked) (flash : Memory) (front : List ℕ) (words : List (List ℕ)) (exit : Exit) (status faults : ℕ) (taken : List ℕ)
    (call : Call words exit status faults taken) (m : Machine) → IsBegun began asked flash → front ≡ began.front
    → ((op : ℕ) → 1 ≤ op → op ≤ m.kernel.mote.flash.ops → is_listed flash.failing op ≡ false)
    → RunsToTheEnd (request_of asked) (start_of asked flash began.pages) front call.sink call.sink' exit.status m
    → Somehow call.sink call.sink' (λ sink. ToTheEnd began sink asked status taken m)
to_the_end began asked flash front words exit status faults taken call m begun same unlisted run =
    let r = original_of asked asked.steps in
    so_then call.sink call.sink' _ (λ sink. ToTheEnd began sink asked status taken m) (λ sink told. record {
      told = (
        retold sink _ _ _ _ status taken (status_same r.end) (ap (λ f. f ++ ended_text (request_of asked) m) same ∙ ended_same began.front r asked.quantum m) told,
        past_by words exit status faults taken call _ _ (ap₂ (λ a b. a ++ b) same (lines_same r.lines)) run.begun,
      );
      run = ends_well began asked flash front call.sink call.sink' exit.status m begun unlisted run;
    }) (told_how words exit status faults taken call _ _ run.said)

pub cut_short : (began : Start) (asked : Asked) (flash : Memory) (front : List ℕ) (words : List (List ℕ)) (exit : Exit) (status faults : ℕ) (taken : List ℕ)
    (call : Call words exit status faults taken) (m : Machine) → IsBegun began asked flash → front ≡ began.front
    → RunsUntilCut (request_of asked) (start_of asked flash began.pages) front call.sink call.sink' exit.status m → IsCutShort began asked status taken m
cut_short began asked flash front words exit status faults taken call m begun same run =
    let follows = run.follows in
    let there = stands_from began asked flash m.steps m begun follows run.within in
    let image : image_held m.kernel ≡ asked.image = ap (λ (p : Program). p.image) follows.at.program in
    record {
      told = (
        retold Fails 6 6 _ _ status taken refl (ap₂ (λ a b. a ++ b) same (lines_same (original_of asked m.steps).lines)) (cut_by words exit status faults taken call _ run.status_is run.put),
        past_by words exit status faults taken call _ _ same run.begun,
      );
      stands = there.0;
      broken = run.broken;
      over = λ end is other. sym (own_end end) ∙ sym (run.over end is other);
      lacking = lacking_of asked m follows.sound image;
      flash = λ unfailed. record {
        wear = λ fits.
            rw there.1 (spared asked flash began.pages m.steps m begun.held begun.used (unlisted_by asked flash began.pages m.steps m begun.held follows unfailed) follows fits);
        faithful = whole_of asked m follows.sound image unfailed;
      };
    }

-- From boot. ----------------------------------------------------------------------------------------------

is_boot_of : (asked : Asked) (n : ℕ) (m : Machine) → Follows (request_of asked) (first_start (request_of asked)) n m → IsBegun (boot_of asked) asked (new_flash asked.image asked.failing)
is_boot_of asked n m follows =
    let held : image_held m.kernel ≡ asked.image = ap (λ (p : Program). p.image) follows.at.program in
    record {
      first = is_boot asked.image asked.failing asked.events asked.quantum asked.slots;
      untried = refl;
      held = loaded_image asked.image;
      used = sym (new_unused asked.image asked.failing (subst IsRight (layout_same asked.image m follows.sound held) follows.sound.order.right));
    }

pub ends_well_from_boot : (asked : Asked) (before now : Stream) (told : Status) (m : Machine) → AreUnlisted (request_of asked) m
    → RunsToTheEnd (request_of asked) (first_start (request_of asked)) [] before now told m → EndsWell (boot_of asked) asked m
ends_well_from_boot asked before now told m unlisted run =
    ends_well (boot_of asked) asked (new_flash asked.image asked.failing) [] before now told m (is_boot_of asked asked.steps m run.follows) unlisted run

pub ends_in_a_fault : (asked : Asked) (before now : Stream) (told : Status) (m : Machine) → (run : RunsIntoAFault (request_of asked) before now told m) → EndsInAFault (boot_of asked) asked m
ends_in_a_fault asked before now told m run =
    let there = stands_from (boot_of asked) asked (new_flash asked.image asked.failing) m.steps m (is_boot_of asked m.steps m run.follows) run.follows (omega (arith, run.fewer)) in
    record {
      stands = there.0;
      fewer = run.fewer;
      going = run.spent;
      listed = ap (λ (first : Mote). is_listed first.flash.failing m.kernel.mote.flash.ops) there.1 ∙ ap (is_listed asked.failing) (sym run.last) ∙ run.listed;
      first = λ op low less. ap (λ (first : Mote). is_listed first.flash.failing op) there.1 ∙ run.first op low (omega (arith, less, run.last));
      end = run.end ∙ ap (λ op. Some (ends.Flash op)) run.last;
      unbroken = run.unbroken;
      faithful = lacking_of asked m run.follows.sound (ap (λ (p : Program). p.image) run.follows.at.program);
    }

ran : (asked : Asked) (words : List (List ℕ)) (exit : Exit) (status faults : ℕ) (taken : List ℕ) (call : Call words exit status faults taken) (m : Machine) → exit.kept ≡ Some m
    → Runs (request_of asked) call.sink call.sink' exit.status m → Somehow call.sink call.sink' (λ sink. IsRun (boot_of asked) sink asked status taken exit.kept)
ran asked words exit status faults taken call m kept (Runs.Ended unlisted run) =
    so_then call.sink call.sink' _ (λ sink. IsRun (boot_of asked) sink asked status taken exit.kept) (λ sink run. Ended m kept run)
    (to_the_end (boot_of asked) asked (new_flash asked.image asked.failing) [] words exit status faults taken call m (is_boot_of asked asked.steps m run.follows) refl unlisted run)
ran asked words exit status faults taken call m kept (Runs.Failed run) =
    let r = original_of asked m.steps in
    so_then call.sink call.sink' _ (λ sink. IsRun (boot_of asked) sink asked status taken exit.kept) (λ sink told. Failed m kept (record {
      told = (
        retold sink 9 9 _ _ status taken refl (failed_same r run.op asked.quantum m (ap (λ (s : Moment). s.now.steps) run.follows.at.state)
            ∙ ap (λ op. flat_map device_line r.lines ++ last_lines r (codes "flash fault " ++ decimal op) asked.quantum m) run.last) told,
        past_by words exit status faults taken call _ _ (lines_same r.lines) run.begun,
      );
      run = ends_in_a_fault asked call.sink call.sink' exit.status m run;
    })) (told_how words exit status faults taken call _ _ run.said)
ran asked words exit status faults taken call m kept (Runs.Cut run) =
    let flash = new_flash asked.image asked.failing in
    (Fails, run.rose, Cut m kept refl (cut_short (boot_of asked) asked flash [] words exit status faults taken call m (is_boot_of asked m.steps m run.follows) refl run))

-- a run that is warranted, whatever asked for it
pub run_of : (words : List (List ℕ)) (exit : Exit) (status faults : ℕ) (taken : List ℕ) (call : Call words exit status faults taken) (asked : Asked)
    → IsWarranted words call.source call.source' (jobs.Run (request_of asked)) → IsSoThen faults (λ sink. IsRun (boot_of asked) sink asked status taken exit.kept)
run_of words exit status faults taken call asked warranted =
    told_by words exit status faults taken call _ (λ sink. IsRun (boot_of asked) sink asked status taken exit.kept) warranted (λ sink told none alone. NoMemory told none)
    (λ done. ran asked words exit status faults taken call done.0.machine done.0.kept done.0.runs)

pub run_told : (words : List (List ℕ)) (exit : Exit) (status faults : ℕ) (taken : List ℕ) (call : Call words exit status faults taken) (text : List ℕ) → Tells call.source call.source' text
    → (asked : Asked) → Asks words text asked → IsSoThen faults (λ sink. IsRun (boot_of asked) sink asked status taken exit.kept)
run_told words exit status faults taken call text tells asked asks =
    run_of words exit status faults taken call asked
    (inl (RunCommand (options_of asked), asks.command, (text, tells, inr (asks.front.short, Good (asked.image, asks.front.position) asks.front.hex (Good (script_of asked) asks.script refl)))))

-- .. of a seed
pub generated_told : (words : List (List ℕ)) (exit : Exit) (status faults : ℕ) (taken : List ℕ) (call : Call words exit status faults taken) (seed : ℕ)
    → AsksGenerate words seed → IsSoThen faults (λ sink. IsRun (boot_of (generated_by seed)) sink (generated_by seed) status taken exit.kept)
generated_told words exit status faults taken call seed asks = run_of words exit status faults taken call (generated_by seed) (inl (Generate seed, asks, refl))
