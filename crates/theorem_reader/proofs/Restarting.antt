-- What `restart` answers.
use Rattle.std.proofs.Common.{◌≡◌, ◌≢◌, ℕ, zero, suc, ◌+◌, ◌-◌, ◌*◌, ◌/◌, ◌%◌, ◌≤◌, ◌<◌, Bool, false, not, ◌&&◌, if◌then◌else◌, List, ◌++◌, length, slice_index, Option, Some, None, codes, decimal}
use Rattle.std.proofs.Common.{refl, sym, ap, ap₂, ◌∙◌, subst, arith, inl, inr, ◌⊎◌}
use Rattle.std.specs.Prelude.{IfSome, ◌==◌, take, drop}
use Rattle.std.specs.List.{list_all}
use Rattle.std.proofs.lemmas.Bool.{cases_lt}
use Rattle.base.proofs.ManyLaws.{length-many}
use Rattle.flash_words.specs.Layouts.{layout_of}
use Rattle.flash_words.specs.declared.layout.Layout.{Layout}
use Rattle.flash_words.specs.Memory.{Memory}
use Rattle.flash_words.specs.Operations.{renewed}
use Rattle.flash_words.specs.Pages.{page_of, set_page, blank, page_words}
use Rattle.flash_words.proofs.LayoutLaws.{layout_right}
use Rattle.flash_words.proofs.PageLaws as pages
use Rattle.page_index.specs.Maps.{IsPool, place_of}
use Rattle.page_index.specs.Entries.{Lists}
use Rattle.page_draft.specs.CodePages.{Anywhere}
use Rattle.nat_page.proofs.StayLaws.{holds_more}
use Rattle.nat_page.proofs.HeldLaws.{map_held}
use Rattle.pool_check.proofs.MovedLaws.{holds_alone, holds_in_flash}
use Rattle.nat_page.specs.Faithful.{IsFaithful}
use Rattle.flat_machine.specs.FlatMachine.{Program}
use Rattle.kernel_entry.specs.Parts.{image_held}
use Rattle.kernel_entry.specs.declared.kernel.End.TheVariants as ends
use Rattle.program_steps.specs.Machines.{Machine}
use Rattle.tk_restart.specs.declared.sweeping.Kept.{Kept}
use Rattle.tk_restart.specs.Keeping.{IsKeptEntry, count_where, is_dropped}
use Rattle.tk_restart.specs.Keeping as keeping
use Rattle.tk_restart.specs.Losing.{lost_in, torn_words}
use Rattle.tk_restart.specs.Restarting.{Restarts}
use Rattle.tk_restart.proofs.KeepingLaws.{kept_page, kept_lists, lists_before}
use Rattle.cli_words.specs.declared.command.Command.TheVariants.{Restart}
use Rattle.cli_words.specs.declared.status.Status.{Status}
use Rattle.cli_words.specs.declared.status.Status.TheVariants as statuses
use Rattle.byte_streams.specs.Streams.{CutShort}
use Rattle.cli_requests.specs.Asking.{Tells}
use Rattle.tkernel_cli.specs.declared.top.Exit.{Exit}
use Rattle.cli_requests.specs.Reading.{Good}
use Rattle.cli_words.specs.Stream.{Stream}
use Rattle.tkernel_cli.specs.Runs.{Runs, RunsToTheEnd, RunsUntilCut}
use Rattle.tkernel_cli.specs.DumpRuns.{silent}
use Rattle.tkernel_cli.specs.RestartRuns.{HasRestarted, RunsOver, lost_flash, refused_in, second_start}
use Rattle.printed_text.specs.RestartLines.{restart_text}
use Rattle.hex_image.proofs.LawLemmas.{few_words}
use Rattle.tk_restart.proofs.TornWords.{number_at, torn_word, length_torn}
use Rattle.theorem_reader.specs.Pools.{number_where, HasAddress}
use Rattle.theorem_reader.specs.Checks.{used_in}
use Rattle.theorem_reader.specs.Runs.{Asked, Start, options_of, Ended, Cut}
use Rattle.theorem_reader.specs.Restarts.{AsksRestart, number_behind, IsLost, Whole, Torn, IsKeeper, IsKept, restart_line, IsLeft, restart_of, IsUnbegun, IsRestarted, NoMemory, Unbegun, Ran}
use Rattle.theorem_reader.specs.Telling.{Fails}
use Rattle.theorem_reader.proofs.OtherPages.{run_keeps}
use Rattle.theorem_reader.proofs.Pooling.{in_pool, from_pool, pool_begins, blank_word, first_word, address_same, faithful_is, address_of_entry}
use Rattle.theorem_reader.proofs.Answering.{script_of, request_of, start_of, IsBegun, no_fault, layout_same, to_the_end, cut_short}
use Rattle.theorem_reader.proofs.Doing.{IsSoThen, Call, Somehow, not_risen, so_then, retold, cut_by, told_by}
use Rattle.theorem_reader.proofs.Booting.{is_new}
use Rattle.theorem_reader.proofs.Checking.{used_same, pool_numbers}
use Rattle.theorem_reader.proofs.Dumping.{has_ended}
use Rattle.theorem_reader.proofs.Erasing.{turned, erased_once, erased_never}

-- What stands in flash when power is back. ----------------------------------------------------------------

number_same : (x k : ℕ) → number_at x k ≡ number_behind x k
number_same x zero = refl
number_same x (suc k) = ap (λ n. (n * 1664525 + 1013904223) % 4294967296) (number_same x k)

blank_long : length blank ≡ page_words
unfolding blank
blank_long = length-many page_words 0xFFFF

lost_none : (op : Option ℕ) (flash : Memory) → lost_in op None flash ≡ flash
lost_none None flash = refl
lost_none (Some op) flash = refl

torn_page : (words new : List ℕ) (page : ℕ) → length words ≡ 65536 → page < 480 → length new ≡ page_words → set_page (set_page words page blank) page new ≡ set_page words page new
torn_page words new page whole low long = pages.set_page_twice words blank new page blank_long (omega (arith, whole, low))

outside_page : (page a : ℕ) → a / 128 ≢ page → (a < page_words * page) ⊎ (page_words * page + page_words ≤ a)
outside_page page a other = elim (cases_lt a (page_words * page)) [
  | inl below ↦ inl below
  | inr from ↦ elim (cases_lt a (page_words * page + page_words)) [
    | inl inside ↦ absurd (other (omega (arith, from, inside)))
    | inr above ↦ inr above
  ]
]

-- that, and how long it is
pub record LostFlash (image : List ℕ) (m : Machine) : Type 0 where
  pub is : IsLost image m (lost_flash m).words (lost_flash m).erases
  pub size : length (lost_flash m).words ≡ 65536

torn_is : (image : List ℕ) (m : Machine) (op page : ℕ) → m.kernel.mote.flash.refused ≡ Some page → m.end ≡ Some (ends.Flash op) → IsPool (layout_of (length image)) page
    → length m.kernel.mote.flash.words ≡ 65536
    → LostFlash image m
torn_is image m op page is end pool whole =
    let begins = pool_begins image in
    let low : page < 480 = omega (arith, begins.end, pool.to) in
    let words = m.kernel.mote.flash.words in
    let long = length_torn op 128 in
    let inside : page_words * page + page_words ≤ length words = omega (arith, whole, low) in
    let same : (lost_flash m).words ≡ set_page words page (torn_words op 128) =
    ap₂ (λ o p. (lost_in o p (renewed m.kernel.mote.flash)).words) (ap refused_in end) is ∙ torn_page words (torn_words op 128) page whole low long in
    record {
      is = Torn op page end is (from_pool image page pool)
          (λ k below.
          let at : 128 * page + k - page_words * page ≡ k = omega arith in
          ap (λ f. slice_index f (128 * page + k)) same ∙ pages.word_in_page words (torn_words op 128) page (128 * page + k) long inside (omega arith) (omega (arith, below))
          ∙ ap (slice_index (torn_words op 128)) at ∙ torn_word op 128 k below ∙ ap (λ n. n / 65536) (number_same op k))
          (λ a other. ap (λ f. slice_index f a) same ∙ pages.word_out_of_page words (torn_words op 128) page a long inside (outside_page page a other))
          (ap₂ (λ o p. (lost_in o p (renewed m.kernel.mote.flash)).erases) (ap refused_in end) is);
      size = ap length same ∙ pages.length-set_page words (torn_words op 128) page long inside ∙ whole;
    }

lost_in_fault : (image : List ℕ) (m : Machine) (op : ℕ) (refused : Option ℕ) → m.kernel.mote.flash.refused ≡ refused → refused ≢ None → m.end ≡ Some (ends.Flash op)
    → IfSome refused (IsPool (layout_of (length image)))
    → length m.kernel.mote.flash.words ≡ 65536 → LostFlash image m
lost_in_fault image m op None is some end pool whole = absurd (some refl)
lost_in_fault image m op (Some page) is some end pool whole = torn_is image m op page is end pool whole

pub lost_is : (asked : Asked) (told : Status) (m : Machine) → Runs (request_of asked) silent silent told m → LostFlash asked.image m
lost_is asked told m (Runs.Ended unlisted run) =
    let same : (lost_flash m).words ≡ m.kernel.mote.flash.words =
    ap (λ p. (lost_in (refused_in m.end) p (renewed m.kernel.mote.flash)).words) run.unrefused ∙ ap (λ (f : Memory). f.words) (lost_none (refused_in m.end) (renewed m.kernel.mote.flash)) in
    let erases : (lost_flash m).erases ≡ m.kernel.mote.flash.erases =
    ap (λ p. (lost_in (refused_in m.end) p (renewed m.kernel.mote.flash)).erases) run.unrefused ∙ ap (λ (f : Memory). f.erases) (lost_none (refused_in m.end) (renewed m.kernel.mote.flash)) in
    record { is = Whole (λ op. no_fault _ m op run.end) same erases; size = ap length same ∙ run.follows.sound.order.whole.words }
lost_is asked told m (Runs.Failed run) =
    let order = run.follows.sound.order in
    let held : image_held m.kernel ≡ asked.image = ap (λ (p : Program). p.image) run.follows.at.program in
    let pool = subst (λ l. IfSome m.kernel.mote.flash.refused (IsPool l)) (layout_same asked.image m run.follows.sound held) order.tried.pool in
    lost_in_fault asked.image m run.op m.kernel.mote.flash.refused refl run.refused run.end pool order.whole.words
lost_is asked told m (Runs.Cut run) = absurd (not_risen 0 0 refl refl run.rose)

-- What a restart keeps. -----------------------------------------------------------------------------------

entry_of_address : (words : List ℕ) (page t : ℕ) → (has : HasAddress words page t) → Lists words page has.index t (place_of words page has.index)
entry_of_address words page t has =
    record { used = subst (λ w. w < 192) (sym (first_word words page)) has.used; near = has.most; listed = has.inside; address = has.is ∙ sym (address_same words page has.index); place = refl }

keeper_is : (image words : List ℕ) (kept : ℕ → Bool) (page : ℕ) → length image ≤ 24576 → IsPool (layout_of (length image)) page → keeping.IsKeeper (layout_of (length image)) image words kept page
    → IsKeeper image words kept page
unfolding page_of
keeper_is image words kept page few pool own =
    let code = own.code in
    let map = map_held Anywhere image words page code.first code.last few code.holds in
    let begins = pool_begins image in
    record {
      used = λ erased. absurd (omega (arith, erased, first_word words page, map.original));
      formed = record {
        below = λ low. absurd (omega (arith, low, pool.from));
        kernel = λ high. absurd (omega (arith, high, pool.to, begins.end));
        pool = λ there. inr (record { first = code.first; last = code.last; holds = holds_alone image words page code.first code.last code.holds });
      };
      alone = λ lower t inside less is has has'. own.alone lower has.index has'.index t (place_of words lower has.index) (place_of words page has'.index) (in_pool image lower inside) less is
          (entry_of_address words lower t has) (entry_of_address words page t has');
    }

is_keeper : (image words : List ℕ) (kept : ℕ → Bool) (page : ℕ) → IsPool (layout_of (length image)) page → IsKeeper image words kept page
    → keeping.IsKeeper (layout_of (length image)) image words kept page
unfolding page_of
is_keeper image words kept page pool own =
    record {
      code = elim (own.formed.pool pool) [
        | inl free ↦ (let first : 128 * page + 0 ≡ 128 * page = omega arith in absurd (own.used (ap (slice_index words) (sym first) ∙ blank_word words page 0 free (omega arith))))
        | inr code ↦ record { first = code.first; last = code.last; holds = holds_in_flash image words page code.first code.last code.holds }
      ];
      alone = λ lower i j t v v' inside less is lists lists'. own.alone lower t (from_pool image lower inside) less is (address_of_entry words lower i t v lists)
          (address_of_entry words page j t v' lists');
    }

dropped_same : (words : List ℕ) (kept : ℕ → Bool) (first n : ℕ) → count_where (is_dropped words kept) first n
    ≡ number_where (λ page. not (list_all (λ word. word == 0xFFFF) (take 128 (drop (128 * page) words))) && not (kept page)) first n
unfolding count_where number_where page_of
dropped_same words kept first zero = refl
dropped_same words kept first (suc n) = ap (λ dropped. (if is_dropped words kept (first + n) then 1 else 0) + dropped) (dropped_same words kept first n)

kept_is : (image : List ℕ) (old new : Memory) (told : Kept) → length image ≤ 24576 → length old.words ≡ 65536 → IsFaithful (layout_of (length image)) image new.words
    → (restarts : Restarts (layout_of (length image)) image old new told) → IsKept image old.words new.words restarts.kept
kept_is image old new told few whole faithful restarts =
    let layout : Layout = layout_of (length image) in
    let right = layout_right (length image) few in
    let keeps = restarts.keeps in
    let kept = restarts.kept in
    record {
      are = λ page inside.
          let pool = in_pool image page inside in
          (λ is. keeper_is image old.words kept page few pool ((keeps.are page pool).0 is), λ own. (keeps.are page pool).1 (is_keeper image old.words kept page pool own));
      faithful = faithful_is image new.words few faithful;
      code = λ page inside is.
          let own = kept_page layout image old.words new.words kept restarts.stray page right whole keeps (in_pool image page inside) is in
          run_keeps image old.words new.words page own.first own.last own.before
          (holds_more (λ t v. IsKeptEntry layout old.words kept t v) Anywhere image new.words page own.first own.last (λ t v entry. tt) own.behind);
      same = λ page t inside is.
          let own = kept_page layout image old.words new.words kept restarts.stray page right whole keeps (in_pool image page inside) is in (
            λ has. address_of_entry old.words page has.index t _ (lists_before layout image old.words new.words kept page has.index t _ few own (entry_of_address new.words page t has)),
            λ has. address_of_entry new.words page has.index t _ (kept_lists layout image old.words new.words kept page has.index t _ few own (entry_of_address old.words page t has)),
          );
      erased = λ page inside not k below. blank_word new.words page k (keeps.drops page (in_pool image page inside) not) below;
    }

line_same : (image lost left : List ℕ) (kept : ℕ → Bool) (n d : ℕ) → n ≡ used_in image left
    → d ≡ count_where (is_dropped lost kept) (layout_of (length image)).pool_first (layout_of (length image)).pool_pages
    → restart_text n d ≡ restart_line image lost left kept
unfolding restart_text
line_same image lost left kept n d used dropped =
    let numbers = pool_numbers image in
    let IsDropped : ℕ → Bool = λ page. not (list_all (λ word. word == 0xFFFF) (take 128 (drop (128 * page) lost))) && not (kept page) in
    ap₂ (λ a b. codes "restart kept " ++ decimal a ++ codes " dropped " ++ decimal b ++ codes "\n") used
    (dropped ∙ dropped_same lost kept _ _ ∙ ap₂ (number_where IsDropped) numbers.0 numbers.1)

-- The second run. -----------------------------------------------------------------------------------------

-- what was left of the first
abbrev left_of : (asked : Asked) (before now : Stream) (told : Status) (kept : Option Machine) → length asked.image ≤ 24576 → HasRestarted (request_of asked) before now told kept → IsLeft asked
left_of asked before now told kept few done =
    let before_it = lost_is asked done.ended done.first done.runs in
    record {
      first = done.first;
      ended = has_ended asked done.ended done.first done.runs;
      lost = (lost_flash done.first).words;
      erases = (lost_flash done.first).erases;
      left = done.left.words;
      kept = done.restarts.kept;
      lost_is = before_it.is;
      left_is = kept_is asked.image (lost_flash done.first) done.left done.told few before_it.size done.faithful done.restarts;
    }

line_told : (asked : Asked) (before now : Stream) (told : Status) (kept : Option Machine) (few : length asked.image ≤ 24576) (done : HasRestarted (request_of asked) before now told kept)
    → restart_text done.told.kept done.told.dropped ≡ (restart_of asked (left_of asked before now told kept few done)).front
line_told asked before now told kept few done =
    line_same asked.image (lost_flash done.first).words done.left.words done.restarts.kept done.told.kept done.told.dropped
    (sym done.used ∙ used_same asked.image done.left.words) done.restarts.dropped_is

-- how the second machine begins
is_restart_of : (asked : Asked) (before now : Stream) (told : Status) (kept : Option Machine) (few : length asked.image ≤ 24576) (done : HasRestarted (request_of asked) before now told kept)
    → IsBegun (restart_of asked (left_of asked before now told kept few done)) asked (renewed done.left)
is_restart_of asked before now told kept few done =
    let layout : Layout = layout_of (length asked.image) in
    let size = (lost_is asked done.ended done.first done.runs).size in
    let page_turned = λ (page : ℕ). turned layout asked.image (lost_flash done.first) done.left done.told page (layout_right (length asked.image) few) size done.restarts in
    record {
      first = record {
        new = is_new (renewed done.left) asked.events asked.quantum asked.slots refl refl;
        over = refl;
        once = λ page below. erased_once (lost_flash done.first) done.left page (page_turned page);
        never = λ page below. erased_never (lost_flash done.first) done.left page (page_turned page);
      };
      untried = refl;
      held = done.faithful.held;
      used = sym (used_same asked.image done.left.words);
    }

-- .. which has as many pages as it has
second_is : (asked : Asked) (before now : Stream) (told : Status) (kept : Option Machine) (few : length asked.image ≤ 24576) (done : HasRestarted (request_of asked) before now told kept)
    → second_start (request_of asked) done.left ≡ start_of asked (renewed done.left) (restart_of asked (left_of asked before now told kept few done)).pages
second_is asked before now told kept few done = ap (start_of asked (renewed done.left)) (used_same asked.image done.left.words)

unbegun : (asked : Asked) (began : Start) (flash : Memory) (front : List ℕ) (words : List (List ℕ)) (exit : Exit) (status faults : ℕ) (taken : List ℕ) (call : Call words exit status faults taken)
    (m : Machine) → IsBegun began asked flash → front ≡ began.front → m ≡ start_of asked flash began.pages → exit.status ≡ statuses.WriteFault
    → CutShort call.sink.told call.sink'.told front → IsUnbegun began asked status taken m
unbegun asked began flash front words exit status faults taken call m begun same is fault put = record {
  told = retold Fails 6 6 _ _ status taken refl same (cut_by words exit status faults taken call _ fault put);
  first = subst (λ (z : Machine). began.IsFirst z.kernel.mote) (sym is) begun.first;
  kernel = subst (λ (z : Machine). z.kernel ≡ record z.kernel { layout = layout_of (length asked.image); quantum = asked.quantum }) (sym is) refl;
  nothing = subst (λ (z : Machine). z ≡ record z { at = 0; end = None; due = false; broken = false; steps = 0; crossings = 0; natural = 0; entries = 0; pages = began.pages }) (sym is) refl;
}

restarted : (asked : Asked) (words : List (List ℕ)) (exit : Exit) (status faults : ℕ) (taken : List ℕ) (call : Call words exit status faults taken) → length asked.image ≤ 24576
    → (done : HasRestarted (request_of asked) call.sink call.sink' exit.status exit.kept)
    → RunsOver (request_of asked) done.left (restart_text done.told.kept done.told.dropped) call.sink call.sink' exit.status done.machine
    → Somehow call.sink call.sink' (λ sink. IsRestarted sink asked status taken exit.kept)
restarted asked words exit status faults taken call few done over =
    let m = done.machine in
    let left = left_of asked call.sink call.sink' exit.status exit.kept few done in
    let began = restart_of asked left in
    let flash = renewed done.left in
    let begun = is_restart_of asked call.sink call.sink' exit.status exit.kept few done in
    let own = line_told asked call.sink call.sink' exit.status exit.kept few done in
    let second = second_is asked call.sink call.sink' exit.status exit.kept few done in
    elim over [
      | RunsOver.Unbegun none ↦ (
        Fails,
        none.rose,
        Unbegun left m done.kept refl (unbegun asked began flash _ words exit status faults taken call m begun own (none.is ∙ second) none.status_is none.put),
      )
      | RunsOver.Ended run ↦
          so_then call.sink call.sink' _ (λ sink. IsRestarted sink asked status taken exit.kept) (λ sink run. Ran left (Ended m done.kept run))
          (to_the_end began asked flash _ words exit status faults taken call m begun own (λ op low high. refl)
          (subst (λ (start : Machine). RunsToTheEnd (request_of asked) start (restart_text done.told.kept done.told.dropped) call.sink call.sink' exit.status m) second run))
      | RunsOver.Cut run ↦ (
        Fails,
        run.rose,
        Ran left (Cut m done.kept refl (cut_short began asked flash _ words exit status faults taken call m begun own
            (subst (λ (start : Machine). RunsUntilCut (request_of asked) start (restart_text done.told.kept done.told.dropped) call.sink call.sink' exit.status m) second run))),
      )
    ]

pub restart_told : (words : List (List ℕ)) (exit : Exit) (status faults : ℕ) (taken : List ℕ) (call : Call words exit status faults taken) (text : List ℕ) → Tells call.source call.source' text
    → (asked : Asked)
    → AsksRestart words text asked → IsSoThen faults (λ sink. IsRestarted sink asked status taken exit.kept)
restart_told words exit status faults taken call text tells asked asks =
    told_by words exit status faults taken call _ (λ sink. IsRestarted sink asked status taken exit.kept)
    (inl (Restart (options_of asked), asks.command, (text, tells, inr (asks.front.short, Good (asked.image, asks.front.position) asks.front.hex (Good (script_of asked) asks.script refl)))))
    (λ sink told none alone. NoMemory told none) (λ done. restarted asked words exit status faults taken call (few_words text asked.image asks.front.position asks.front.hex) done.0 done.0.over)
