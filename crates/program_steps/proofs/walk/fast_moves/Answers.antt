use Rattle.std.proofs.Common.{◌≡◌, ℕ, ◌+◌, ◌-◌, ◌<◌, ◌≤◌, refl, sym, arith, subst, ◌∙◌}
use Rattle.std.specs.Prelude.{◌≢◌, ◌^◌, Some, None, Option}
use Rattle.flash_model.specs.DecodeCache.{AreMicroOps}
use Rattle.mote_devices.specs.declared.line.Line.{Line}
use Rattle.kernel_entry.specs.declared.kernel.Kernel.{Kernel}
use Rattle.program_steps.specs.declared.progress.Progress.{Progress}
use Rattle.program_steps.specs.Machines.{Machine}
use Rattle.program_steps.specs.Loop.{HasPlain, KeepsFlash, IsOver, settled_at, moves_made}
use Rattle.program_steps.specs.Wholes.{whole}
use Rattle.program_steps.specs.Walking.{kernel_with, progress_at, CanGo, IsAlong, Underway, Further, AllMade, Stepped}
use Rattle.page_index.specs.Entries.{IsEntry}
use Rattle.program_steps.proofs.Told.{place_low, keeps_on}
use Rattle.program_steps.proofs.Underway.{below_most}
use Rattle.program_steps.proofs.Stepped.{mapped_after}
use Rattle.program_steps.proofs.Walking.{along_right, along_few, along_further, along_underway, along_made, along_crossings, along_stepped, along_quiet, along_next}
use Rattle.program_steps.proofs.walk.fast_moves.Goals as goal
use Rattle.program_steps.proofs.walk.fast_moves.Goals.{In-Some, In-Entry}

-- one step fewer is left
one_fewer : (end left : ℕ) → left ≤ end → left ≢ 0 → end - (left - 1) ≡ end - left + 1
one_fewer end left room some = omega (arith, room, some)

pub overflow_sub-left : goal.overflow_sub-left
overflow_sub-left c = omega (arith, c.requires.few.0)

pub fast-init : goal.fast-init
fast-init c =
    let end = c.args.end in
    let cpu = c.args.cpu.now in
    let p = c.args.p.now in
    let back : end - (end - p.steps) ≡ p.steps = omega (arith, c.requires.few.0) in
    let at = c.from-place.ensures ∙ c.requires.at in
    record {
      low = rw c.from-place.ensures c.requires.low;
      silent = c.requires.silent;
      free = c.requires.free;
      room = omega arith;
      more = omega arith;
      along = λ start k can. subst (λ a. IsAlong Underway end start (whole (kernel_with k cpu c.args.sram.now cpu.sreg a) (progress_at p p.since (end - (end - p.steps))))) (sym at)
          (rw back can.along);
    }

pub fast_plain-requires : goal.fast_plain-requires
fast_plain-requires c = record { low = c.fast.invariant.low; ops = (c.requires.can.1.mote.flash.words, c.requires.can.2.ops) }

pub returns-in-None : goal.returns-in-None
returns-in-None c =
    let at = c.fast.invariant in
    let same = c.in-None.ensures.none in
    rw c.put_back.ensures.core (rw c.put_back.ensures.progress (rw same.0 (rw same.1 (rw same.2 (record {
      pc = refl;
      free = at.free;
      silent = at.silent;
      few = omega arith;
      more = at.more;
      gone = λ start k can. (at.low, at.along start k can);
    })))))

-- where a move begins, in a kernel that may stand there, and what it leaves
abbrev now_in : In-Some → Kernel → Machine
now_in c k = whole (kernel_with k c.fast.cpu c.fast.sram c.fast.sreg c.fast.place) (progress_at c.fast.p c.fast.since (c.args.end - c.fast.left))

abbrev core_in : In-Some → Kernel → Kernel
core_in c k = kernel_with k c.fast_plain.new.cpu c.fast_plain.new.sram c.fast_plain.new.sreg c.in-Some.next

abbrev counted_in : In-Some → Progress
counted_in c = progress_at c.fast.p (c.fast.since + 1) (c.args.end - c.fast.left)

abbrev new_in : In-Some → Kernel → Machine
new_in c k = whole (core_in c k) (counted_in c)

abbrev Goes : In-Some → Machine → Kernel → Type 0
Goes c start k = CanGo c.args.ops.now c.args.cpu.now c.args.sram.now c.args.p.now c.args.cursor.now c.args.end start k

kept : (c : In-Some) (k : Kernel) → KeepsFlash (now_in c k) (new_in c k)
kept c k = record { flash = refl; layout = refl; torn = refl }

plain : (c : In-Some) (k : Kernel) → AreMicroOps k.mote.flash.words c.args.ops.now → HasPlain (now_in c k) (new_in c k) None None
plain c k ops = rw c.fast.invariant.silent at (c.in-Some.ensures.stepped k (progress_at c.fast.p c.fast.since (c.args.end - c.fast.left)) ops)

further : (c : In-Some) (start : Machine) (k : Kernel) → Goes c start k → IsAlong (Further None) c.args.end start (new_in c k)
further c start k can = along_further c.args.end start (now_in c k) (new_in c k) None (c.fast.invariant.along start k can) (plain c k can.ops) c.fast.invariant.low (kept c k)

-- one of these kernels stands there
first : (c : In-Some) → IsAlong Underway c.args.end c.requires.can.0 (now_in c c.requires.can.1)
first c = c.fast.invariant.along c.requires.can.0 c.requires.can.1 c.requires.can.2

below : (c : In-Some) → moves_made (now_in c c.requires.can.1) < 2 ^ 62
below c = below_most (first c).is

-- where an entry is known, the step is over
abbrev at_entry : In-Entry → In-Some
at_entry c = (goal.at.In-Entry c).In-Some

entry_in : (c : In-Entry) (start : Machine) (k : Kernel) → Goes (at_entry c) start k → IsEntry k.layout k.mote.flash.words c.in-Entry.to c.in-Some.next
entry_in c start k can = can.cursor.noted c.in-Entry.to c.in-Some.next c.in-Some.ensures.below c.in-Entry.ensures.told

made : (c : In-Entry) (start : Machine) (k : Kernel) → Goes (at_entry c) start k → IsAlong (AllMade None) c.args.end start (new_in (at_entry c) k)
made c start k can = along_made c.args.end start (new_in (at_entry c) k) None (IsOver.Reached (c.in-Entry.to, entry_in c start k can)) (further (at_entry c) start k can)

over : (c : In-Entry) (start : Machine) (k : Kernel) → Goes (at_entry c) start k
    → IsAlong (Stepped None) c.args.end start (whole (core_in (at_entry c) k) (settled_at (Some c.in-Entry.to) (counted_in (at_entry c))))
over c start k can =
    let at = c.fast.invariant in
    let p = counted_in (at_entry c) in
    let z = settled_at (Some c.in-Entry.to) p in
    let all = subst (λ (l : Option Line). IsAlong (AllMade l) c.args.end start (new_in (at_entry c) k)) (sym at.silent) (made c start k can) in
    subst (λ (l : Option Line). IsAlong (Stepped l) c.args.end start (whole (core_in (at_entry c) k) z)) at.silent
    (along_stepped c.args.end start (core_in (at_entry c) k) p z (Some c.in-Entry.to) c.requires.few.1 all (at.free.0, at.free.1, entry_in c start k can) refl)

pub overflow_add-since : goal.overflow_add-since
overflow_add-since c =
    let moved = (goal.at.overflow_add-since c).In-Some in
    omega (arith, (along_few c.args.end c.requires.can.0 (now_in moved c.requires.can.1) (first moved)).since)

pub fast-preserved-in-Quiet : goal.fast-preserved-in-Quiet
fast-preserved-in-Quiet c =
    let at = c.fast.invariant in
    let moved = (goal.at.fast-preserved-in-Quiet c).In-Some in
    let below = c.in-Some.ensures.below in
    let quiet = c.in-Quiet.ensures.told in
    record {
      low = c.requires.can.2.cursor.low c.in-Some.next below quiet;
      silent = at.silent;
      free = at.free;
      room = at.room;
      more = omega (arith, at.more);
      along = λ start k can. along_underway c.args.end start (now_in moved k) (new_in moved k) (at.along start k can) (plain moved k can.ops) at.low (kept moved k) at.free
          (λ t. can.cursor.quiet t c.in-Some.next below quiet);
    }

pub fast-smaller-in-Quiet : goal.fast-smaller-in-Quiet
fast-smaller-in-Quiet c = omega (arith, below (goal.at.fast-smaller-in-Quiet c).In-Some)

pub returns-in-Unknown : goal.returns-in-Unknown
returns-in-Unknown c =
    let at = c.fast.invariant in
    let moved = (goal.at.returns-in-Unknown c).In-Some in
    rw c.put_back-in-Unknown.ensures.core (rw c.put_back-in-Unknown.ensures.progress (record {
      pc = refl;
      free = at.free;
      silent = at.silent;
      few = omega arith;
      more = omega (arith, at.more);
      gone = further moved;
    }))

pub crossings_after-p-requires : goal.crossings_after-p-requires
crossings_after-p-requires c =
    let at = (goal.at.crossings_after-p-requires c).In-Entry in
    let can = c.requires.can in
    record { few = along_crossings c.args.end can.0 (new_in (at_entry at) can.1) None c.requires.few.1 (made at can.0 can.1 can.2) }

pub returns-then-left-eq0 : goal.returns-then-left-eq0
returns-then-left-eq0 c =
    let at = c.fast.invariant in
    let entry = (goal.at.returns-then-left-eq0 c).In-Entry in
    let none : c.args.end - c.fast.left ≡ c.args.end = omega (arith, c.if-left-eq0.true) in
    rw c.put_back-then-left-eq0.ensures.core (rw c.put_back-then-left-eq0.ensures.progress (rw c.crossings_after-p.ensures.after (record {
      pc = refl;
      free = at.free;
      silent = at.silent;
      few = omega arith;
      more = omega (arith, at.more);
      gone = λ start k can. subst
          (λ n. IsAlong (Stepped None) c.args.end start (whole (core_in (at_entry entry) k) (record (settled_at (Some c.in-Entry.to) (counted_in (at_entry entry))) { steps = n }))) none
          (over entry start k can);
    })))

pub fast-smaller : goal.fast-smaller
fast-smaller c = omega (arith, below (goal.at.fast-smaller c).In-Some)

pub fast-preserved : goal.fast-preserved
fast-preserved c =
    let at = c.fast.invariant in
    let end = c.args.end in
    let entry = (goal.at.fast-preserved c).In-Entry in
    let moved = at_entry entry in
    let some = c.if-left-eq0.false in
    let can = c.requires.can in
    let on = first moved in
    record {
      low = place_low (along_right end can.0 (now_in moved can.1) on) (mapped_after on.begins.ready (keeps_on on.keeps (kept moved can.1)))
          (c.in-Entry.to, entry_in entry can.0 can.1 can.2);
      silent = at.silent;
      free = at.free;
      room = omega (arith, at.room);
      more = omega (arith, at.more);
      along = λ start k can.
          let w = whole (core_in moved k) (settled_at (Some c.in-Entry.to) (counted_in moved)) in
          let step = over entry start k can in
          rw c.crossings_after-p.ensures.after (rw (one_fewer end c.fast.left at.room some)
          (along_next end start w step at.free.1 at.free.0 (along_quiet end start w None step at.free.1 at.free.0) can.timely (omega (arith, at.room, some)) c.requires.few.1));
    }
