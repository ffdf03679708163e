-- Steps that begin where an interrupt is due and none is wanted are those that begin where none is due.
use Rattle.std.proofs.Common.{◌≡◌, ℕ, zero, suc, ◌+◌, Bool, true, false, refl, sym, ap, ◌∙◌, arith, subst}
use Rattle.std.specs.Prelude.{◌≢◌, ◌&&◌, is_some, Option, Some, None}
use Rattle.avr_flags.specs.Status.{has_bit, interrupts}
use Rattle.mote_devices.specs.declared.line.Line.{Line}
use Rattle.mote_devices.specs.Waking.{is_enabled}
use Rattle.flat_machine.specs.FlatMachine.{Moment, is_taken, next_of}
use Rattle.flat_machine.proofs.MachineLaws.{next_tried}
use Rattle.kernel_entry.specs.Seen.{program as program_of}
use Rattle.kernel_entry.specs.declared.kernel.End.{End}
use Rattle.kernel_entry.specs.declared.kernel.Owed.{Owed}
use Rattle.step_laws.specs.StepLaws.{Reaches}
use Rattle.program_steps.specs.Machines.{Machine, state_of, flat_of}
use Rattle.program_steps.specs.Ready.{IsGoing}
use Rattle.program_steps.specs.Stepping.{HasStepped, StepWay}
use Rattle.program_steps.specs.Several.{Silently, HasDone}
use Rattle.program_steps.proofs.Awaiting.{awaits_none}
use Rattle.program_steps.proofs.Laws.{by_stands}

abbrev pub undue : Machine → Machine
undue m = record m { due = false }

pub undue_untaken : (m : Machine) → m.due ≡ false → is_taken (flat_of m) ≡ false
undue_untaken m is = ap (λ d. d && (has_bit m.kernel.mote.cpu.sreg interrupts && is_enabled m.kernel.mote.devices)) is

-- where nothing is owed, moves begin in the same state
undue_state : (m : Machine) (d : Bool) → m.owed ≡ None → state_of (record m { due = d }) ≡ state_of m
undue_state m d free = ap (λ o. record { kernel = m.kernel; owed = o; end = m.end; torn = m.torn }) (awaits_none (record m { due = d }) free ∙ sym (awaits_none m free))

pub going_undue : {m : Machine} → IsGoing m → m.owed ≡ None → IsGoing (undue m)
going_undue {m} ready free = record {
  order = ready.order;
  going = ready.going;
  untorn = ready.untorn;
  top = ready.top;
  some = ready.some;
  most = ready.most;
  stands = Reaches.Placed (ap (λ o. is_some o && false) free) (awaits_none (undue m) free) (by_stands m free ready.stands);
  counted = ready.counted;
  arrivals = ready.arrivals;
  polls = ready.polls;
  exact = ready.exact;
  fresh = λ due. absurd (let e : false ≡ true = sym (ap (λ o. is_some o && false) free) ∙ due in cc);
}

-- what comes next is the same
undue_next : (m : Machine) → is_taken (flat_of m) ≡ false → next_of (program_of m.kernel) (flat_of m) ≡ next_of (program_of m.kernel) (flat_of (undue m))
undue_next m untaken = next_tried (program_of m.kernel) (flat_of m) _ untaken refl ∙ sym (next_tried (program_of m.kernel) (flat_of (undue m)) _ refl refl)

-- a step behind which the program goes on
way_on : {m z : Machine} {line : Option Line} → is_taken (flat_of m) ≡ false → z.end ≡ None → StepWay (undue m) z line → StepWay m z line
way_on {m} untaken going (StepWay.On ready quiet steps is) = StepWay.On ready quiet steps (undue_next m untaken ∙ is)
way_on untaken going (StepWay.Stopped stop over kept silent steps is same) = absurd (over.ended going)

stepped_undue : {m : Machine} (z : Machine) (due : Bool) (line : Option Line) → m.owed ≡ None → state_of (record z { due = due }) ≡ state_of z → StepWay m (record z { due = due }) line
    → HasStepped (undue m) z line → HasStepped m (record z { due = due }) line
stepped_undue {m} z due line free same way step = record {
  moves = step.moves;
  goes = record { walk = rw same (rw (undue_state m false free) at step.goes.walk); told = step.goes.told; numbers = step.goes.numbers };
  last = step.last;
  some = step.some;
  own = step.own;
  stays = record { program = step.stays.program; layout = step.stays.layout; quantum = step.stays.quantum; failing = step.stays.failing };
  broken = step.broken;
  flash = step.flash;
  arrivals = step.arrivals;
  way = way;
}

step_on : {m z : Machine} {line : Option Line} → m.owed ≡ None → is_taken (flat_of m) ≡ false → z.end ≡ None → HasStepped (undue m) z line → HasStepped m z line
step_on {m} {z} {line} free untaken going step = stepped_undue z z.due line free refl (way_on untaken going step.way) step

-- a step that stops leaves one due
way_over : {m : Machine} (z : Machine) (line : Option Line) → is_taken (flat_of m) ≡ false → z.end ≢ None → StepWay (undue m) z line → StepWay m (record z { due = m.due }) line
way_over z line untaken ended (StepWay.On ready quiet steps is) = absurd (ended ready.going)
way_over {m} z line untaken ended (StepWay.Stopped stop over kept silent steps is same) =
    StepWay.Stopped stop (record { order = over.order; bounded = over.bounded; ended = over.ended; exact = over.exact }) kept silent steps (undue_next m untaken ∙ is)
    (ap (λ (f : Moment). record { now = f.now; due = m.due }) same)

-- several steps
silently_undue : (n : ℕ) (m z : Machine) → m.owed ≡ None → is_taken (flat_of m) ≡ false → Silently (suc n) (undue m) z → Silently (suc n) m z
silently_undue zero m z free untaken s = (m, s.1, refl, step_on free untaken s.4.ready.going (rw s.2 s.3), s.4)
silently_undue (suc n) m z free untaken s = (s.0, s.1, silently_undue n m s.0 free untaken s.2, s.3, s.4)

done_by : (earlier : ℕ) {m z last : Machine} (count : ℕ) {line : Option Line} → m.owed ≡ None → is_taken (flat_of m) ≡ false → (count ≡ 1 → z.end ≡ None) → count ≡ earlier + 1
    → Silently earlier (undue m) last → HasStepped last z line → HasDone m z count line
done_by zero {m} {z} {last} count {line} free untaken going counted s step =
    record { earlier = 0; last = m; counted = counted; silently = refl; step = step_on free untaken (going counted) (rw s step) }
done_by (suc n) {m} {z} {last} count free untaken going counted s step =
    record { earlier = suc n; last = last; counted = counted; silently = silently_undue n m last free untaken s; step = step }

pub done_on : {m z : Machine} {count : ℕ} {line : Option Line} → m.owed ≡ None → is_taken (flat_of m) ≡ false → (count ≡ 1 → z.end ≡ None) → HasDone (undue m) z count line → HasDone m z count line
done_on {m} {z} {count} free untaken going done = done_by done.earlier count free untaken going done.counted done.silently done.step

over_by : (earlier : ℕ) {m z last : Machine} {line : Option Line} → m.owed ≡ None → is_taken (flat_of m) ≡ false → z.end ≢ None → z.owed ≡ None → 1 ≡ earlier + 1 → Silently earlier (undue m) last
    → HasStepped last z line → HasDone m (record z { due = m.due }) 1 line
over_by zero {m} {z} {last} {line} free untaken ended nothing counted s step =
    record {
      earlier = 0;
      last = m;
      counted = refl;
      silently = refl;
      step = stepped_undue z m.due line free (undue_state z m.due nothing) (way_over z line untaken ended (subst (λ y. HasStepped y z line) (sym s) step).way)
          (subst (λ y. HasStepped y z line) (sym s) step);
    }
over_by (suc n) free untaken ended nothing counted s step = absurd (omega arith)

pub done_over : {m : Machine} (z : Machine) (count : ℕ) (line : Option Line) → m.owed ≡ None → is_taken (flat_of m) ≡ false → z.end ≢ None → z.owed ≡ None → count ≡ 1 → HasDone (undue m) z count line
    → HasDone m (record z { due = m.due }) 1 line
done_over z count line free untaken ended nothing one done = over_by done.earlier free untaken ended nothing (sym one ∙ done.counted) done.silently done.step

pub none_end : (e : Option End) → is_some e ≡ false → e ≡ None
none_end None is = refl
none_end (Some end) is = absurd (cc)

pub some_end : (e : Option End) → is_some e ≡ true → e ≢ None
some_end None is = absurd (cc)
some_end (Some end) is = λ none. absurd (cc)

-- a program that has ended owes no arrival
pub owes_going : (end : Option End) (owes : Option Owed) (owed : Owed) → (end ≢ None → owes ≡ None) → owes ≡ Some owed → end ≡ None
owes_going None owes owed ended is = refl
owes_going (Some end) owes owed ended is = absurd (let e : Some owed ≡ None = sym is ∙ ended (λ none. absurd (cc)) in cc)

-- an arrival that is owed through no stub
alone_by : (owes : Option Owed) (target : ℕ) (stub : Option ℕ) → owes ≡ Some (record { target = target; stub = stub }) → is_some stub ≡ false → owes ≡ Some (record { target = target; stub = None })
alone_by owes target None is alone = is
alone_by owes target (Some stub) is alone = absurd (cc)

pub owed_alone : (owes : Option Owed) (owed : Owed) → owes ≡ Some owed → is_some owed.stub ≡ false → owes ≡ Some (record { target = owed.target; stub = None })
owed_alone owes owed is alone = alone_by owes owed.target owed.stub is alone
