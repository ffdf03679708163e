-- A walk over several steps.
use Rattle.std.proofs.Common.{◌≡◌, ℕ, ◌+◌, ◌-◌, ◌<◌, ◌≤◌, false, refl, arith}
use Rattle.std.specs.Prelude.{◌^◌, None, Option}
use Rattle.flash_words.specs.Layouts.{IsRight}
use Rattle.mote_devices.specs.Waking.{Timely}
use Rattle.mote_devices.specs.declared.line.Line.{Line}
use Rattle.page_index.specs.Entries.{IsEntry}
use Rattle.kernel_entry.specs.declared.kernel.Kernel.{Kernel}
use Rattle.program_steps.specs.declared.progress.Progress.{Progress}
use Rattle.program_steps.specs.Machines.{Machine, state_of, numbers_of}
use Rattle.program_steps.specs.Loop.{CanPlain, HasPlain, HasReached, IsOver, IsUnderway, IsMidway, IsFurther, KeepsFlash, Halts, AreSmall, target, settled_at}
use Rattle.program_steps.specs.Several.{HasFollowed}
use Rattle.program_steps.specs.Wholes.{whole}
use Rattle.program_steps.specs.Walking.{CanBegin, IsAlong, IsPartway, Underway, Further, AllMade, Stepped}
use Rattle.program_steps.proofs.Told.{can_plain, not_over, right_kept, keeps_on}
use Rattle.program_steps.proofs.Awaiting.{awaits_none}
use Rattle.program_steps.proofs.Taking.{took_over}
use Rattle.program_steps.proofs.Laws.{law_of}
use Rattle.program_steps.proofs.Entered.{entered_none}
use Rattle.program_steps.proofs.Undue.{undue_untaken}
use Rattle.program_steps.proofs.Settling.{stepped_as, torn_settled}
use Rattle.program_steps.proofs.Stepped.{small_ready, mapped_after, few_after, quiet_after, gone_by}
use Rattle.program_steps.proofs.OneBehindOther.{goes_on_by, silently_on}
use Rattle.program_steps.proofs.Underway.{begun_now, can_move, few_enough, further_plain, underway_by}

module _ (end : ℕ) (start : Machine) where
  -- the same last step, of which something else is known now
  pub along_with : {R S : Machine → Machine → Type 0} (now new : Machine) → (along : IsAlong R end start now) → KeepsFlash now new → S along.last new → IsAlong S end start new
  along_with now new along keeps is = record {
    last = along.last;
    begins = along.begins;
    timely = along.timely;
    keeps = keeps_on along.keeps keeps;
    is = is;
  }

  pub along_right : {R : Machine → Machine → Type 0} (now : Machine) → IsAlong R end start now → IsRight now.kernel.layout
  along_right now along = right_kept along.keeps along.begins.ready.order.right

  -- the first step is counted
  pub along_begun : (now : Machine) → CanBegin end start now → Timely now.kernel.mote.devices → end ≤ 10 ^ 12 → IsAlong Underway end start (record now { steps = now.steps + 1 })
  along_begun now begins timely most =
      let short : now.steps < 2 ^ 50 = omega (arith, begins.few, most) in
      record {
        last = now;
        begins = begins;
        timely = timely;
        keeps = record { flash = refl; layout = refl; torn = refl };
        is = begun_now None (law_of begins.ready timely short begins.placed) (small_ready begins.ready short) refl;
      }

  -- .. and so is the one that follows a step which is over
  pub along_next : (w : Machine) → IsAlong (Stepped None) end start w → w.end ≡ None → w.owed ≡ None → w.due ≡ false → Timely w.kernel.mote.devices → w.steps < end → end ≤ 10 ^ 12
      → IsAlong Underway end start (record w { steps = w.steps + 1 })
  along_next w along going placed undue timely few most =
      let last = along.last in
      let begins = along.begins in
      let on = goes_on_by last w None along.is.way going in
      let one : last.steps - start.steps + 1 ≡ w.steps - start.steps = omega (arith, on.steps, begins.begun) in
      let followed : HasFollowed w w = record { ready = on.ready; undue = undue; entered = entered_none on.ready on.quiet placed; still = undue } in
      along_begun w (record {
        begun = omega (arith, on.steps, begins.begun);
        silently = rw one at (silently_on (last.steps - start.steps) start begins.silently along.is refl followed);
        ready = on.ready;
        placed = placed;
        undue = undue;
        few = few;
      }) timely most

  -- one more move of the fast path
  pub along_can : (now : Machine) → IsAlong Underway end start now → now.kernel.mote.cpu.pc < 0xF000 → CanPlain (state_of now)
  along_can now along low = can_plain (can_move along.is) low

  pub along_few : (now : Machine) → IsAlong Underway end start now → AreSmall (numbers_of now) (2 ^ 62)
  along_few now along = few_enough along.is

  pub along_further : (now new : Machine) (line : Option Line) → IsAlong Underway end start now → HasPlain now new None line → now.kernel.mote.cpu.pc < 0xF000 → KeepsFlash now new
      → IsAlong (Further line) end start new
  along_further now new line along plain low keeps = along_with now new along keeps (further_plain along.is plain low)

  -- .. to where no entry begins
  pub along_underway : (now new : Machine) → IsAlong Underway end start now → HasPlain now new None None → now.kernel.mote.cpu.pc < 0xF000 → KeepsFlash now new → Halts new false
      → ((t : ℕ) → ¬ IsEntry new.kernel.layout new.kernel.mote.flash.words t new.kernel.mote.cpu.pc) → IsAlong Underway end start new
  along_underway now new along plain low keeps free none = along_with now new along keeps (underway_by along.is (further_plain along.is plain low) free none)

  -- more moves may follow
  pub along_partway : (now : Machine) (line : Option Line) → end ≤ 10 ^ 12 → (along : IsAlong (Further line) end start now) → IsPartway along.last now line
  along_partway now line most along =
      let last = along.last in
      let short : last.steps < 2 ^ 50 = omega (arith, along.begins.few, most) in
      record { law = law_of along.begins.ready along.timely short along.begins.placed; few = small_ready along.begins.ready short; further = along.is }

  -- where it is over all of its moves were made
  pub along_made : (now : Machine) (line : Option Line) → IsOver (state_of now) → IsAlong (Further line) end start now → IsAlong (AllMade line) end start now
  along_made now line over along =
      along_with now now along (record { flash = refl; layout = refl; torn = refl })
      (λ law. took_over (along_right now along) (mapped_after along.begins.ready along.keeps) over law (along.is.rest law))

  pub along_crossings : (now : Machine) (line : Option Line) → end ≤ 10 ^ 12 → IsAlong (AllMade line) end start now → now.crossings < 2 ^ 62
  along_crossings now line most along = few_after along.last now line along.begins.ready along.timely along.begins.placed (omega (arith, along.begins.few, most)) along.is

  -- .. and it is over once that is taken down
  settled_by : (k : Kernel) (p : Progress) (reached : Option ℕ) → end ≤ 10 ^ 12 → IsAlong (AllMade p.line) end start (whole k p) → HasReached (whole k p) reached
      → IsAlong (Stepped (settled_at (target reached p.owed) p).line) end start (whole k (settled_at (target reached p.owed) p))
  settled_by k p reached most along at =
      let last = along.last in
      let q = settled_at (target reached p.owed) p in
      let short : last.steps < 2 ^ 50 = omega (arith, along.begins.few, most) in
      let mapped = mapped_after along.begins.ready along.keeps in
      let quiet = quiet_after last (whole k p) p.line along.begins.ready along.timely along.begins.placed short along.is along.begins.undue in
      let gone = gone_by last (whole k p) p.line along.begins.ready along.timely along.begins.placed short along.is (whole k q) (undue_untaken last along.begins.undue) along.keeps in
      along_with (whole k p) (whole k q) along (record { flash = refl; layout = refl; torn = torn_settled (target reached p.owed) p }) (stepped_as last k p q reached gone mapped quiet at refl)

  pub along_stepped : (k : Kernel) (p q : Progress) (reached : Option ℕ) → end ≤ 10 ^ 12 → IsAlong (AllMade p.line) end start (whole k p) → HasReached (whole k p) reached
      → q ≡ settled_at (target reached p.owed) p
      → IsAlong (Stepped q.line) end start (whole k q)
  along_stepped k p q reached most along at is = rw is (settled_by k p reached most along at)

  -- where it led to an entry no interrupt is due
  pub along_quiet : (w : Machine) (line : Option Line) → IsAlong (Stepped line) end start w → w.end ≡ None → w.owed ≡ None → w.due ≡ false
  along_quiet w line along going free = (goes_on_by along.last w line along.is.way going).quiet free

-- where no entry begins, and control isn't with the kernel, moves may follow
pub partway_underway : {begun was now : Machine} {before after : Option Line} → IsPartway begun was before → IsFurther begun now after → Halts now false
    → ((t : ℕ) → ¬ IsEntry now.kernel.layout now.kernel.mote.flash.words t now.kernel.mote.cpu.pc) → IsUnderway begun now after
partway_underway {begun} {was} {now} on further free none = record {
  law = on.law;
  few = on.few;
  midway = IsMidway.Going (not_over (state_of now) (awaits_none now free.0) free.1 none) further.rest;
  small = further.small;
}
