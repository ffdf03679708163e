-- A whole step, from its moves and where they led.
use Rattle.avr_isa.specs.Crossing.{is_crossing}
use Rattle.preempt_count.specs.Counting.{is_checkpoint}
use Rattle.mote_devices.specs.Waking.{Timely}
use Rattle.flat_machine.specs.FlatMachine.{is_taken, next_of, tried}
use Rattle.flat_machine.proofs.MachineLaws.{next_tried}
use Rattle.program_steps.proofs.Awaiting.{state_settled, due_reached, free_of}
use Rattle.std.proofs.Common.{◌≡◌, ℕ, ◌+◌, ◌-◌, ◌%◌, ◌<◌, Bool, true, false, List, [], ◌∷◌, refl, sym, ap, ap₂, ◌∙◌, arith, subst, map}
use Rattle.std.specs.Prelude.{◌&&◌, ◌||◌, ◌==◌, is_some, ◌^◌, Option, Some, None}
use Rattle.mote_devices.specs.declared.line.Line.{Line}
use Rattle.flash_words.specs.Memory.{Memory}
use Rattle.page_index.specs.Entries.{IsMapped}
use Rattle.flat_machine.specs.FlatMachine as flat_ends
use Rattle.kernel_entry.specs.declared.kernel.Kernel.{Kernel}
use Rattle.kernel_entry.specs.declared.kernel.Stop.{Stop}
use Rattle.kernel_entry.specs.Seen.{count_of, state_at, program}
use Rattle.kernel_entry.specs.declared.kernel.End.TheVariants as ends
use Rattle.step_laws.specs.Moves.{Inner, lines_of, line_before, Within}
use Rattle.step_laws.specs.Numbers.{Numbers, moved}
use Rattle.step_laws.specs.States.{State}
use Rattle.step_laws.proofs.Ways.{walk_of}
use Rattle.step_laws.specs.StepLaws.{tried_as, moves_of, Outcome, GoesTo, StopsAt, Reaches, Keeps, crossings_over}
use Rattle.program_steps.specs.Machines.{Machine, state_of, numbers_of, flat_of}
use Rattle.program_steps.specs.Ready.{count_in, IsGoing, IsQuiet, AreArrivals, most_arrivals}
use Rattle.program_steps.specs.Loop.{AreSmall, KeepsFlash, LawOf, Taken, Took, HasTaken}
use Rattle.program_steps.specs.Stepping.{Goes, links_in, settled, HasSettled, HasStepped, StepWay, Stays, AreOwn, ends_in_arrive}
use Rattle.program_steps.proofs.Told.{mapped_kept}
use Rattle.step_laws.proofs.BoundLaws.{keep_bounds, end_bounds}
use Rattle.program_steps.proofs.Bounds.{arrivals_first, most_owed, bounded_stop}
use Rattle.program_steps.proofs.ReadyLaws.{reaches_as, ready_on, order_on, last_on}
use Rattle.program_steps.proofs.Laws.{law_of, mapped_going}

pub small_ready : {m : Machine} → IsGoing m → m.steps < 2 ^ 50 → AreSmall (numbers_of m) (2 ^ 60)
small_ready ready steps =
    let counted = ready.counted in
    record { natural = omega (arith, counted.natural); entries = omega (arith, counted.entries); since = omega (arith, counted.since) }

inner_last : (rest : List Inner) → ends_in_arrive (map Within rest) ≡ false
inner_last [] = refl
inner_last (m ∷ rest) = inner_last rest

-- the law's walk as moves
law_goes : {old new : Machine} (line : Option Line) {law : LawOf old} → Taken old new law → line ≡ law.line → Goes old new (moves_of law) (line_before line [])
unfolding lines_of
law_goes {old} {new} line {law} taken written = record {
  walk = (law.walk.0, law.walk.1, walk_of law.walk.0 (state_of new) law.rest (rw taken.state law.walk.2));
  told = law.lines ∙ ap (λ l. line_before l []) (sym written);
  numbers = taken.numbers;
}

flat_same : {k k' : Kernel} {a a' s s' c c' : ℕ} → k ≡ k' → a ≡ a' → s ≡ s' → c ≡ c' → state_at k a s c ≡ state_at k' a' s' c'
flat_same ek ea es ec = rw (ek, ea, es, ec)

pub stays_by : {old new : Machine} → Keeps (state_of old) (state_of new) → Stays old new
stays_by keeps = record {
  program = rw (keeps.layout, keeps.flash, keeps.slots, keeps.quantum, keeps.part);
  layout = keeps.layout;
  quantum = keeps.quantum;
  failing = ap (λ (f : Memory). f.failing) keeps.flash;
}

-- the step that goes on: what comes next, by what is tried
next_as : {old : Machine} (new : Machine) (line : Option Line) (wakes : Bool) → IsGoing old → is_taken (flat_of old) ≡ false → (wakes ≡ true → line ≡ None)
    → tried (program old.kernel) (flat_of old).now ≡ tried_as wakes line (flat_of new).now → new.crossings ≡ crossings_over old.at new.at old.crossings
    → new.due ≡ (wakes || is_checkpoint old.at new.at (count_in old)) → next_of (program old.kernel) (flat_of old) ≡ flat_ends.On line (flat_of new)
next_as {old} new line false ready untaken silent is crossings due =
    let last = last_on old.kernel.quantum old.at new.at old.crossings (count_in old) ready.some ready.most ready.exact in
    let same : (is_crossing old.at new.at && (new.crossings % old.kernel.quantum == 0)) ≡ new.due = ap (λ c. is_crossing old.at new.at && (c % old.kernel.quantum == 0)) crossings ∙ last ∙ sym due in
    next_tried (program old.kernel) (flat_of old) _ untaken is ∙ ap (λ d. flat_ends.On line (record { now = (flat_of new).now; due = d })) same
next_as {old} new line true ready untaken silent is crossings due =
    next_tried (program old.kernel) (flat_of old) _ untaken is ∙ ap₂ (λ l d. flat_ends.On l (record { now = (flat_of new).now; due = d })) (sym (silent refl)) (sym due)

-- The moves of its law were made, and flash stays: it goes on, ..
module _ (old mid : Machine) (line : Option Line) (law : LawOf old) (ready : IsGoing old) (untaken : is_taken (flat_of old) ≡ false) (keeps : KeepsFlash old mid) (took : Took old mid line law) where
  went_by : (to : ℕ) → GoesTo (links_in old) (state_of old) old.at law.line law.rest to law.end → HasStepped old (settled mid to) line
  unfolding moved
  went_by to goes =
      let new = settled mid to in
      let crossed : crossings_over mid.at to mid.crossings ≡ crossings_over old.at to old.crossings = ap₂ (λ a c. crossings_over a to c) took.rest.at took.rest.crossings in
      let state : state_of new ≡ law.end = state_settled mid to ∙ took.taken.state in
      let taken : Taken old new law = record { state = state; numbers = took.taken.numbers } in
      let due : new.due ≡ (goes.wakes || is_checkpoint old.at to (count_in old)) = due_reached mid took.taken.state goes.reaches in
      let bounds = keep_bounds (state_of old) old.at to old.crossings law (numbers_of old) ready.some ready.most ready.counted goes in
      let steps : mid.steps ≡ old.steps + 1 = ap (λ (k : Numbers). k.steps) took.taken.numbers ∙ bounds.0 in
      let same : state_at law.end.kernel to (old.steps + 1) (crossings_over old.at to old.crossings) ≡ (flat_of new).now =
      flat_same (sym (ap (λ (s : State). s.kernel) took.taken.state)) refl (sym steps) (sym crossed) in
      let on = ready_on to ready taken refl crossed goes keeps.torn in
      record {
        moves = moves_of law;
        goes = law_goes line taken took.written;
        last = inner_last law.rest;
        some = λ e. cc;
        own = AreOwn.Making law.first law.rest refl law.few law.serves;
        stays = stays_by (rw state law.keeps);
        broken = took.rest.broken;
        flash = keeps.flash;
        arrivals = on.arrivals;
        way = StepWay.On on (λ free. ap (λ o. is_some o && mid.due) free) steps
            (next_as new line goes.wakes ready untaken (λ w. took.written ∙ goes.silent w) (goes.original old.steps old.crossings ∙ ap₂ (tried_as goes.wakes) (sym took.written) same) crossed due);
      }

  -- .. or the program stops; such a step makes no page, and is none
  arrivals_stopped : mid.steps ≡ old.steps → mid.owed ≡ None → AreArrivals (numbers_of mid) (most_arrivals mid.owed mid.steps)
  arrivals_stopped steps free =
      let before = ready.arrivals in
      let same = arrivals_first law.first law.rest (numbers_of old) in
      let pages : mid.pages ≡ old.pages = ap (λ (k : Numbers). k.pages) took.taken.numbers ∙ same.pages in
      let began : mid.began ≡ old.began = ap (λ (k : Numbers). k.began) took.taken.numbers ∙ same.began in
      let others : mid.others ≡ old.others = ap (λ (k : Numbers). k.others) took.taken.numbers ∙ same.others in
      let ops : mid.kernel.mote.flash.ops ≡ old.kernel.mote.flash.ops = ap (λ (f : Memory). f.ops) keeps.flash in
      let most = most_owed old.owed old.steps in
      subst (λ o. AreArrivals (numbers_of mid) (most_arrivals o mid.steps)) (sym free)
      (record { pages = omega (arith, before.pages); ops = omega (arith, before.ops); few = omega (arith, before.few) })

  stopped_by : (stop : Stop) → StopsAt (state_of old) old.at law.line law.rest stop law.end → HasStepped old mid line
  stopped_by stop stops =
      let n = numbers_of old in
      let ended = end_bounds (state_of old) old.at old.crossings stop law n ready.some ready.most ready.counted stops in
      let same = arrivals_first law.first law.rest n in
      let steps : mid.steps ≡ old.steps = ap (λ (k : Numbers). k.steps) took.taken.numbers ∙ ended.0 in
      let kept : Keeps (state_of old) (state_of mid) = rw took.taken.state law.keeps in
      let stopped : mid.end ≡ Some (ends.Stopped stop) = ap (λ (s : State). s.end) took.taken.state ∙ stops.ended in
      let free : mid.owed ≡ None = free_of mid (ap (λ (s : State). s.owed) took.taken.state ∙ stops.free) in
      record {
        moves = moves_of law;
        goes = law_goes line took.taken took.written;
        last = inner_last law.rest;
        some = λ e. cc;
        own = AreOwn.Making law.first law.rest refl law.few law.serves;
        stays = stays_by kept;
        broken = took.rest.broken;
        flash = keeps.flash;
        arrivals = arrivals_stopped steps free;
        way = StepWay.Stopped stop (record {
          order = order_on mid kept keeps.torn (ap (λ (k : Numbers). k.pages) took.taken.numbers ∙ same.pages) ready;
          bounded = rw (took.taken.numbers, took.rest.crossings, kept.quantum)
              (bounded_stop old.kernel.mote.devices.polls mid.kernel.mote.devices.polls old.owed ended.2 same ended.0 ready.arrivals ready.polls kept.polls);
          ended = λ going. let e : Some (ends.Stopped stop) ≡ None = sym stopped ∙ going in cc;
          exact = ap (λ (s : State). count_of s.kernel) took.taken.state ∙ stops.count ∙ ready.exact ∙ ap₂ (λ q c. q - c % q) (sym kept.quantum) (sym took.rest.crossings);
        }) stopped (took.written ∙ stops.silent) steps (next_tried (program old.kernel) (flat_of old) _ untaken (stops.original old.steps old.crossings))
            (ap₂ (λ s d. record { now = s; due = d })
            (flat_same (ap (λ (s : State). s.kernel) took.taken.state) took.rest.at steps took.rest.crossings ∙ stops.same old.steps old.crossings) (took.rest.due free));
      }

  stepped_as : (new : Machine) → HasSettled mid new → Outcome (links_in old) (state_of old) old.at law.line law.rest law.end → HasStepped old new line
  stepped_as new settle (Outcome.Went to goes) =
      let due = goes.wakes || is_checkpoint old.at to (count_in old) in
      let part : mid.kernel.part ≡ old.kernel.part = ap (λ (s : State). s.kernel.part) took.taken.state ∙ law.keeps.part in
      let there : Reaches (links_in mid) to due (state_of mid) = reaches_as part keeps.layout keeps.flash refl refl took.taken.state goes.reaches in
      rw (settle.on to due (ap (λ (s : State). s.end) took.taken.state ∙ goes.going) there) (went_by to goes)
  stepped_as new settle (Outcome.Stopped stop stops) =
      let stopped : mid.end ≡ Some (ends.Stopped stop) = ap (λ (s : State). s.end) took.taken.state ∙ stops.ended in
      rw (settle.over (λ going. let e : Some (ends.Stopped stop) ≡ None = sym stopped ∙ going in cc)) (stopped_by stop stops)

-- what the law of a going machine gives
module _ (old mid : Machine) (line : Option Line) (ready : IsGoing old) (timely : Timely old.kernel.mote.devices) (placed : old.owed ≡ None) (few : old.steps < 2 ^ 50)
    (told : HasTaken old mid line) where
  pub gone_by : (new : Machine) → is_taken (flat_of old) ≡ false → KeepsFlash old mid → HasSettled mid new → HasStepped old new line
  gone_by new untaken keeps settle = let law = law_of ready timely few placed in stepped_as old mid line law ready untaken keeps (told law) new settle law.outcome

  pub few_after : mid.crossings < 2 ^ 62
  few_after = omega (arith, (told (law_of ready timely few placed)).rest.crossings, ready.counted.crossed)

  pub quiet_after : old.due ≡ false → IsQuiet mid
  quiet_after undue = λ free. (told (law_of ready timely few placed)).rest.due free ∙ undue

pub mapped_after : {old mid : Machine} → IsGoing old → KeepsFlash old mid → IsMapped mid.kernel.layout mid.kernel.mote.flash.words
mapped_after ready keeps = mapped_kept keeps (mapped_going ready)
