-- What each service is, as an act, and how it ends.
use Rattle.std.proofs.Common.{◌≡◌, ◌≢◌, ℕ, ◌+◌, ◌≤◌, Bool, true, false, nat_le, if◌then◌else◌, ◌%◌, ◌-◌, slice_index, List, [], ◌∷◌, length, Option, Some, None, refl, sym, ap, ◌∙◌, subst, arith}
use Rattle.std.proofs.Common.{◌⊎◌, ◌<◌, inl, inr, slice_set}
use Rattle.sram_layout.specs.Bytes.{byte_at, with_byte, data_word_at, with_word}
use Rattle.mote_devices.specs.declared.line.Line.{Line}
use Rattle.mote_core.specs.declared.mote.Mote.{Mote}
use Rattle.avr_isa.specs.declared.form.Form.{Form}
use Rattle.avr_isa.specs.declared.form.Form.TheVariants as forms
use Rattle.avr_isa.specs.Addresses.{wrapping_sum}
use Rattle.avr_flags.specs.Status.{has_bit, interrupts}
use Rattle.avr_exec.specs.declared.cpu.Cpu.{Cpu}
use Rattle.avr_exec.specs.Spaces.{Outcome, Went, Stopped}
use Rattle.flat_machine.specs.FlatSpace.{FlatSpace}
use Rattle.mote_devices.specs.State.{State as Devices}
use Rattle.mote_devices.specs.Waking.{wake}
use Rattle.nat_template.specs.declared.shapes.TemplateShape.TheVariants.{SelfJump}
use Rattle.nat_template.specs.Stubs.{quantum_entry, mem_entry, push_return_entry, return_entry, indirect_entry, self_entry, fault_entry}
use Rattle.std.proofs.lemmas.Bool.Decides.{nat_tests}
use Rattle.preempt_count.specs.Counting.{count_over}
use Rattle.preempt_count.proofs.CountLaws.{byte_crossed, count_crossed}
use Rattle.kernel_entry.specs.declared.kernel.Served.{Served}
use Rattle.kernel_entry.specs.declared.kernel.Stop.{Stop}
use Rattle.kernel_entry.specs.declared.kernel.Stop.TheVariants.{Asleep, Halted, Read}
use Rattle.kernel_entry.specs.Services.{served, slept, slept_by, is_sleep, faulted, fault_of, foreign_read, read_by, accessed, executed, execution, execution_by, if_instruction, resumed_by, resumed}
use Rattle.kernel_entry.specs.Services.{gone_by, gone}
use Rattle.kernel_entry.specs.Rows.{HasStopped, Resumes, Goes, ExecutedBy, ReadBy, PushedBy, PoppedBy, CalledBy, GoneThrough, LoopsOrHalts}
use Rattle.kernel_entry.specs.declared.kernel.Kernel.{Kernel}
use Rattle.kernel_entry.specs.Conditions.{CanServe, AtBridge, AtQuantum, AtMem, AtPushReturn, AtReturn, AtIndirect, AtSelf, AtFault}
use Rattle.avr_exec.specs.declared.ask.Ask.{Ask}
use Rattle.avr_exec.specs.Asks.{ask_of}
use Rattle.avr_exec.specs.Likeness.{Leaves as LeavesSpace}
use Rattle.mem_guard.specs.Guarded.{Guarded}
use Rattle.heap_frames.specs.Paged.{IsPaged}
use Rattle.kernel_entry.specs.Seen.{View, view_of, view_by, space_of, count_of}
use Rattle.theorem_reader.specs.Memory.{core_at, HasMemory}
use Rattle.theorem_reader.proofs.Holding.{has_memory}
use Rattle.kernel_entry.specs.Parts.{core_of, image_held, descriptor, instruction, rested}
use Rattle.sram_layout.specs.Cells.{vsp_cell}
use Rattle.sram_layout.proofs.Laws.{byte_other, byte_out_of_word}
use Rattle.kernel_entry.specs.Left.{Leaves, LeavesHeap}
use Rattle.kernel_entry.proofs.LeftLaws.{Kept, kept}
use Rattle.kernel_entry.proofs.RowLaws.{flatly, ResumedBy, resumes_row, WentBy, goes_row}
use Rattle.kernel_entry.proofs.ServedLaws.{served_leaves, served_leaves_heap, at_entry, along, serving, looped_as, bridge_row, mem_row, push_row, return_row, indirect_row, self_entry_row, slept_is}
use Rattle.kernel_entry.proofs.ServedLaws.{faulted_is}
use Rattle.step_laws.proofs.ServiceMoves.{kernel_served}
use Rattle.step_laws.specs.States.{State, is_stop, line_served, mote_of}
use Rattle.step_laws.specs.Walks.{MakesServe}
use Rattle.theorem_reader.specs.Acts.{called_from, Executes, Ends, Done, Sleeps, Stays, Wakes, IsService}

pub at_an_entry : (k : Kernel) → CanServe k → (0xF000 ≤ k.mote.cpu.pc) × (k.mote.cpu.pc ≤ 0xF00F) × (k.mote.cpu.pc % 2 ≡ 0)
at_an_entry k (AtBridge at) = (omega (arith, at), omega (arith, at), omega (arith, at))
at_an_entry k (AtQuantum at) = (omega (arith, at), omega (arith, at), omega (arith, at))
at_an_entry k (AtMem at shape can) = (omega (arith, at), omega (arith, at), omega (arith, at))
at_an_entry k (AtPushReturn at shape can) = (omega (arith, at), omega (arith, at), omega (arith, at))
at_an_entry k (AtReturn at shape can count) = (omega (arith, at), omega (arith, at), omega (arith, at))
at_an_entry k (AtIndirect at shape can count) = (omega (arith, at), omega (arith, at), omega (arith, at))
at_an_entry k (AtSelf at shape can count) = (omega (arith, at), omega (arith, at), omega (arith, at))
at_an_entry k (AtFault at shape can) = (omega (arith, at), omega (arith, at), omega (arith, at))

some_bytes : (m : List ℕ) → 1 ≤ byte_at m 0x0100 → 0 < length m
unfolding byte_at
some_bytes [] some = absurd (omega (arith, some))
some_bytes (b ∷ m) some = omega arith

-- How a service ends. Rewritten code goes on behind its call, at MEM and PUSHRET; or the program stops; or control goes to an
-- address of the program, at the others.
abbrev pub is_resume : Served → Bool
is_resume (Served.Resume line) = true
is_resume _ = false

pub data Passed (k new : Kernel) (result : Served) : Type 0 where
  On : is_resume result ≡ true → is_stop result ≡ false → 0xF004 ≤ k.mote.cpu.pc → k.mote.cpu.pc ≤ 0xF007 → new.mote.cpu.pc ≡ (called_from k.mote + 1) % 65536 → Passed k new result
  Over : is_stop result ≡ true → new.mote.cpu.pc ≡ k.mote.cpu.pc → Passed k new result
  Away : is_resume result ≡ false → is_stop result ≡ false → (k.mote.cpu.pc ≤ 0xF003) ⊎ (0xF008 ≤ k.mote.cpu.pc) → new.mote.cpu.pc ≡ k.mote.cpu.pc → Passed k new result

-- .. and from PUSHRET on the registers stay
abbrev Passes : (k new : Kernel) (result : Served) → Type 0
Passes k new result = Passed k new result × (0xF006 ≤ k.mote.cpu.pc → new.mote.cpu.r ≡ k.mote.cpu.r)

stopped_passes : (k new : Kernel) (result : Served) (stop : Stop) → HasStopped k result new stop → Passes k new result
stopped_passes k new result stop has = (Over (ap is_stop has.answer) (ap (λ (n : Kernel). n.mote.cpu.pc) has.stays), λ low. ap (λ (n : Kernel). n.mote.cpu.r) has.stays)

resumes_pass : (k new : Kernel) (result : Served) (seen : View) (line : Option Line) → 0xF004 ≤ k.mote.cpu.pc → k.mote.cpu.pc ≤ 0xF006 → Resumes k result new seen line → Passed k new result
unfolding byte_at
resumes_pass k new result seen line low high does = On (ap is_resume does.answer) (ap is_stop does.answer) low (omega (arith, high)) does.pc

goes_away : (k new : Kernel) (result : Served) (seen : View) (target : ℕ) → 0xF008 ≤ k.mote.cpu.pc → seen.registers ≡ k.mote.cpu.r → Goes k result new seen target → Passes k new result
goes_away k new result seen target high same does =
    (Away (ap is_resume does.answer) (ap is_stop does.answer) (inr high) does.pc, λ low. ap (λ (v : View). v.registers) does.view ∙ same)

executed_passes : (k new : Kernel) (result : Served) (form : Form) (outcome : Outcome FlatSpace Cpu) → k.mote.cpu.pc ≡ 0xF004 → ExecutedBy k result new form outcome → Passes k new result
executed_passes k new result form (Went core space) at does = (resumes_pass k new result _ _ (omega (arith, at)) (omega (arith, at)) does.resumes, λ low. absurd (omega (arith, at, low)))
executed_passes k new result form (Stopped stop) at does = stopped_passes k new result _ does

read_passes : (k new : Kernel) (result : Served) (form : Form) (foreign : Option ℕ) → k.mote.cpu.pc ≡ 0xF004 → ReadBy k result new form foreign → Passes k new result
read_passes k new result form (Some a) at does = stopped_passes k new result _ does
read_passes k new result form None at does = executed_passes k new result form _ at does

pushed_passes : (k new : Kernel) (result : Served) (outcome : Outcome FlatSpace (Unit {0})) → k.mote.cpu.pc ≡ 0xF006 → PushedBy k result new outcome → Passes k new result
pushed_passes k new result (Went done space) at does = (resumes_pass k new result _ _ (omega (arith, at)) (omega (arith, at)) does, λ low. ap (λ (v : View). v.registers) does.view)
pushed_passes k new result (Stopped stop) at does = stopped_passes k new result _ does

popped_passes : (k new : Kernel) (result : Served) (form : Form) (outcome : Outcome FlatSpace ℕ) → 0xF008 ≤ k.mote.cpu.pc → PoppedBy k result new form outcome → Passes k new result
popped_passes k new result form (Went target space) high does = goes_away k new result _ _ high refl does
popped_passes k new result form (Stopped stop) high does = stopped_passes k new result _ does

called_passes : (k new : Kernel) (result : Served) (outcome : Outcome FlatSpace (Unit {0})) → 0xF008 ≤ k.mote.cpu.pc → CalledBy k result new outcome → Passes k new result
called_passes k new result (Went done space) high does = goes_away k new result _ _ high refl does
called_passes k new result (Stopped stop) high does = stopped_passes k new result _ does

through_passes : (k new : Kernel) (result : Served) (form : Form) → 0xF008 ≤ k.mote.cpu.pc → GoneThrough k result new form → Passes k new result
through_passes k new result forms.Icall high does = called_passes k new result _ high does
through_passes k new result form high does = goes_away k new result _ _ high refl does

looped_passes : (k new : Kernel) (result : Served) (b : Bool) → 0xF008 ≤ k.mote.cpu.pc → has_bit k.mote.cpu.sreg interrupts ≡ b → LoopsOrHalts k result new → Passes k new result
looped_passes k new result true high on row = goes_away k new result _ _ high refl (row.on on)
looped_passes k new result false high off row = stopped_passes k new result _ (row.off off)

-- FAULT: a SLEEP ends, or the program does
record Sleeping (k new : Kernel) (result : Served) : Type 0 where
  sleeps : Sleeps k.quantum (is_stop result) k.mote new.mote
  passes : 0xF008 ≤ k.mote.cpu.pc → Passes k new result
  silent : line_served result ≡ None

ends_asleep : (k : Kernel) (stop : Stop) → Sleeping k (rested k) (Served.Stopped stop)
ends_asleep k stop = record { sleeps = Stays refl refl; passes = λ high. (Over refl refl, λ low. refl); silent = refl }

slept_by_inputs : (k : Kernel) (o : Option Devices) → 0 < length k.mote.sram → wake k.mote.devices ≡ o → Sleeping k (slept_by k o).1 (slept_by k o).0
unfolding byte_at
slept_by_inputs k None some is = ends_asleep k (Asleep (descriptor k))
slept_by_inputs k (Some devices) some is =
    let to = wrapping_sum (descriptor k) 1 in
    record {
      sleeps = Wakes refl devices is (λ a low. byte_crossed k.quantum (descriptor k) to a k.mote.sram (omega (arith, low)) (λ e. omega (arith, e, low))) refl
          (count_crossed k.quantum (descriptor k) to k.mote.sram some);
      passes = λ high. (Away refl refl (inr high) refl, λ low. refl);
      silent = refl;
    }

slept_by_status : (k : Kernel) (b : Bool) → 0 < length k.mote.sram → has_bit k.mote.cpu.sreg interrupts ≡ b → Sleeping k (slept k).1 (slept k).0
slept_by_status k true some on = along (λ result new. Sleeping k new result) (slept k) (slept_by k (wake k.mote.devices)) (slept_is k true on) (slept_by_inputs k (wake k.mote.devices) some refl)
slept_by_status k false some off =
    along (λ result new. Sleeping k new result) (slept k) (Served.Stopped (Asleep (descriptor k)), rested k) (slept_is k false off) (ends_asleep k (Asleep (descriptor k)))

faulted_sleeps : (k : Kernel) (b : Bool) → 0 < length k.mote.sram → is_sleep (instruction k) ≡ b → Sleeping k (faulted k).1 (faulted k).0
faulted_sleeps k true some is = along (λ result new. Sleeping k new result) (faulted k) (slept k) (faulted_is k true is) (slept_by_status k _ some refl)
faulted_sleeps k false some is = along (λ result new. Sleeping k new result) (faulted k) (Served.Stopped (fault_of (descriptor k) (instruction k)), rested k) (faulted_is k false is)
    (ends_asleep k (fault_of (descriptor k) (instruction k)))

sleeps_at : (k : Kernel) → 1 ≤ byte_at k.mote.sram 0x0100 → k.mote.cpu.pc ≡ 0xF00E → Sleeping k (served k).1 (served k).0
sleeps_at k some at = along (λ result new. Sleeping k new result) (served k) (faulted k) (at_entry k fault_entry at) (faulted_sleeps k _ (some_bytes k.mote.sram some) refl)

sleeping_cells : (quantum : ℕ) (stops : Bool) (before after : Mote) → Sleeps quantum stops before after → (a : ℕ) → 0x0101 ≤ a → byte_at after.sram a ≡ byte_at before.sram a
unfolding byte_at
sleeping_cells quantum stops before after (Stays over is) a low = ap (λ (m : Mote). slice_index m.sram (a - 0x0100)) is
sleeping_cells quantum stops before after (Wakes going devices wakes bytes is count) a low = bytes a low

passes_at : (k : Kernel) → CanServe k → Passes k (served k).1 (served k).0
passes_at k (AtBridge at) =
    let row = bridge_row k at in
    (Away (ap is_resume row.answer) (ap is_stop row.answer) (inl (omega (arith, at))) (ap (λ (n : Kernel). n.mote.cpu.pc) row.stays), λ low. absurd (omega (arith, at, low)))
passes_at k (AtQuantum at) =
    let is = at_entry k quantum_entry at in (
      Away (ap (λ (p : Served × Kernel). is_resume p.0) is) (ap (λ (p : Served × Kernel). is_stop p.0) is) (inl (omega (arith, at))) (ap (λ (p : Served × Kernel). p.1.mote.cpu.pc) is),
      λ low. absurd (omega (arith, at, low)),
    )
passes_at k (AtMem at shape can) = let row = mem_row k (AtMem at shape can) at in read_passes k _ _ row.form _ at row.does
passes_at k (AtPushReturn at shape can) = let row = push_row k (AtPushReturn at shape can) at in pushed_passes k _ _ _ at row.does
passes_at k (AtReturn at shape can count) = let row = return_row k (AtReturn at shape can count) at in popped_passes k _ _ row.form _ (omega (arith, at)) row.does
passes_at k (AtIndirect at shape can count) = let row = indirect_row k (AtIndirect at shape can count) at in through_passes k _ _ row.form (omega (arith, at)) row.does
passes_at k (AtSelf at shape can count) = looped_passes k _ _ _ (omega (arith, at)) refl (self_entry_row k (AtSelf at shape can count) at)
passes_at k (AtFault at shape can) = (sleeps_at k can.count.some at).passes (omega (arith, at))

pub passed_at : (k : Kernel) → CanServe k → Passed k (served k).1 (served k).0
passed_at k can = (passes_at k can).0

-- .. and where the pc is then
resumed_pc : (k new : Kernel) (result : Served) → Passed k new result → is_stop result ≡ false → 0xF004 ≤ k.mote.cpu.pc → k.mote.cpu.pc ≤ 0xF007 → new.mote.cpu.pc ≡ (called_from k.mote + 1) % 65536
resumed_pc k new result (On on going from to pc) unstopped low high = pc
resumed_pc k new result (Over over pc) unstopped low high = absurd (let e : ◌≡◌ {A = Bool} true false = sym over ∙ unstopped in cc)
resumed_pc k new result (Away on going (inl below) pc) unstopped low high = absurd (omega (arith, below, low))
resumed_pc k new result (Away on going (inr above) pc) unstopped low high = absurd (omega (arith, above, high))

same_pc : (k new : Kernel) (result : Served) → Passed k new result → (is_stop result ≡ true) ⊎ ((k.mote.cpu.pc ≤ 0xF003) ⊎ (0xF008 ≤ k.mote.cpu.pc)) → new.mote.cpu.pc ≡ k.mote.cpu.pc
same_pc k new result (Over over pc) why = pc
same_pc k new result (Away on going at pc) why = pc
same_pc k new result (On on going from to pc) (inl over) = absurd (let e : ◌≡◌ {A = Bool} true false = sym over ∙ going in cc)
same_pc k new result (On on going from to pc) (inr (inl below)) = absurd (omega (arith, below, from))
same_pc k new result (On on going from to pc) (inr (inr above)) = absurd (omega (arith, above, to))

-- QUANTUM, as it changes the mote
quantum_is : (k : Kernel) → k.mote.cpu.pc ≡ 0xF002 → (served k).1.mote ≡ record k.mote {
  cpu = record k.mote.cpu { r = slice_set k.mote.cpu.r 24 (slice_index k.mote.sram 1); sreg = slice_index k.mote.sram 2; sp = 0x011F };
  sram = slice_set k.mote.sram 0 k.quantum;
}
unfolding byte_at with_byte
quantum_is k at = ap (λ (p : Served × Kernel). p.1.mote) (at_entry k quantum_entry at)

-- An instruction of the program is executed, over the memory that the program sees. The kernel's cells stay.
record Ran (k new : Kernel) (result : Served) : Type 0 where
  executes : Executes (image_held k) k.quantum (line_served result) (is_stop result) k.mote new.mote
  cells : (a : ℕ) → 0x0101 ≤ a → a ≤ 0x011F → a ≢ 0x0103 → a ≢ 0x0104 → byte_at new.mote.sram a ≡ byte_at k.mote.sram a

-- COUNT behind an instruction that led there
abbrev CountBehind : Kernel → Bool → (to : ℕ) → ℕ
CountBehind k stays to = if stays then count_of k else count_over k.quantum (descriptor k) to (count_of k)

done_by : (k new : Kernel) (result : Served) (form : Form) (core : Cpu) (space : FlatSpace) → is_stop result ≡ false → line_served result ≡ (if nat_le k.mote.cpu.pc 0xF007 then space.line else None)
    → IsPaged k.mote.sram k.mote.swap → IsPaged new.mote.sram new.mote.swap → instruction k ≡ Some form → flatly k form ≡ Went core space → view_of new ≡ view_by core space
    → count_of new ≡ CountBehind k (nat_le k.mote.cpu.pc 0xF007) core.pc → Executes (image_held k) k.quantum (line_served result) (is_stop result) k.mote new.mote
unfolding byte_at data_word_at
done_by k new result form core space going line paged paged' is executed view count =
    let there : core ≡ core_at new.mote core.pc = ap (λ (v : View). record { r = v.registers; sreg = v.status; sp = v.stack_pointer; pc = core.pc }) (sym view) in
    Done going form core.pc (space_of k) space is (has_memory k.mote paged) refl refl refl (executed ∙ ap (λ (c : Cpu). Went c space) there)
    (subst (HasMemory new.mote) (ap (λ (v : View). v.memory) view) (has_memory new.mote paged')) (ap (λ (v : View). v.devices) view) line count

resumes_by : (k new : Kernel) (result : Served) (form : Form) (ask : Ask) (outcome : Outcome FlatSpace Cpu) → IsPaged k.mote.sram k.mote.swap → IsPaged new.mote.sram new.mote.swap
    → instruction k ≡ Some form → flatly k form ≡ outcome
    → nat_le k.mote.cpu.pc 0xF007 ≡ true → ResumedBy k result new ask outcome → Executes (image_held k) k.quantum (line_served result) (is_stop result) k.mote new.mote
resumes_by k new result form ask (Went core space) paged paged' is executed low does =
    done_by k new result form core space (ap is_stop does.0.answer) (ap line_served does.0.answer ∙ ap (λ b. if b then space.line else None) (sym low)) paged paged' is executed does.0.view
    (does.0.count ∙ ap (λ b. CountBehind k b core.pc) (sym low))
resumes_by k new result form ask (Stopped stop) paged paged' is executed low does = Ends (ap is_stop does.answer) (ap line_served does.answer) (ap (λ (n : Kernel). n.mote) does.stays)

goes_by : (k new : Kernel) (result : Served) (form : Form) (outcome : Outcome FlatSpace Cpu) → IsPaged k.mote.sram k.mote.swap → IsPaged new.mote.sram new.mote.swap → instruction k ≡ Some form
    → flatly k form ≡ outcome → nat_le k.mote.cpu.pc 0xF007 ≡ false → WentBy k result new outcome → Executes (image_held k) k.quantum (line_served result) (is_stop result) k.mote new.mote
goes_by k new result form (Went core space) paged paged' is executed high does =
    done_by k new result form core space (ap is_stop does.answer) (ap line_served does.answer ∙ ap (λ b. if b then space.line else None) (sym high)) paged paged' is executed does.view
    (does.count ∙ ap (λ b. CountBehind k b core.pc) (sym high))
goes_by k new result form (Stopped stop) paged paged' is executed high does = Ends (ap is_stop does.answer) (ap line_served does.answer) (ap (λ (n : Kernel). n.mote) does.stays)

resumed_cells : (k : Kernel) (ask : Ask) (o : Outcome Guarded Cpu) (a : ℕ) → 0x0101 ≤ a → a ≤ 0x011F → a ≢ 0x0103 → a ≢ 0x0104 → LeavesSpace (Kept k ask) o
    → byte_at (resumed_by k (execution_by k o).0 (execution_by k o).1).1.mote.sram a ≡ byte_at k.mote.sram a
resumed_cells k ask (Went core memory) a low high first second left =
    byte_out_of_word memory.sram vsp_cell a core.sp (omega arith) (omega (arith, low)) first second ∙ left.0.cells a (omega (arith, low)) (omega (arith, high))
resumed_cells k ask (Stopped stop) a low high first second left = refl

gone_cells : (k : Kernel) (ask : Ask) (o : Outcome Guarded Cpu) (a : ℕ) → 0x0101 ≤ a → a ≤ 0x011F → a ≢ 0x0103 → a ≢ 0x0104 → LeavesSpace (Kept k ask) o
    → byte_at (gone_by k (execution_by k o).0 (execution_by k o).1).1.mote.sram a ≡ byte_at k.mote.sram a
gone_cells k ask (Went core memory) a low high first second left =
    byte_crossed k.quantum (descriptor k) core.pc a (with_word memory.sram vsp_cell core.sp) (omega (arith, low)) (λ e. omega (arith, e, low))
    ∙ resumed_cells k ask (Went core memory) a low high first second left
gone_cells k ask (Stopped stop) a low high first second left = refl

-- at MEM and PUSHRET rewritten code counts, and behind them the service
early : (k : Kernel) → k.mote.cpu.pc ≤ 0xF006 → nat_le k.mote.cpu.pc 0xF007 ≡ true
early k low = grind (arith, nat_tests)

late : (k : Kernel) → 0xF008 ≤ k.mote.cpu.pc → nat_le k.mote.cpu.pc 0xF007 ≡ false
late k high = grind (arith, nat_tests)

resumes_is : (k : Kernel) (can : CanServe k) (form : Form) → IsPaged k.mote.sram k.mote.swap → instruction k ≡ Some form → nat_le k.mote.cpu.pc 0xF007 ≡ true → served k ≡ resumed k
    → Ran k (served k).1 (served k).0
unfolding resumed
resumes_is k can form paged is low at =
    let ask = ask_of form (core_of k (descriptor k)) in
    let e = resumed_by k (execution k form).0 (execution k form).1 in
    let there : served k ≡ e = at ∙ ap (λ i. if_instruction k i (λ f. resumed_by k (execution k f).0 (execution k f).1)) is in
    along (λ result new. IsPaged new.mote.sram new.mote.swap → Ran k new result) (served k) e there (λ paged'. record {
      executes = resumes_by k e.1 e.0 form ask (flatly k form) paged paged' is refl low (resumes_row k form paged);
      cells = λ a from to first second. resumed_cells k ask (executed k form) a from to first second (kept k form paged);
    }) ((served_leaves k can).paged paged)

goes_is : (k : Kernel) (can : CanServe k) (form : Form) → IsPaged k.mote.sram k.mote.swap → instruction k ≡ Some form → nat_le k.mote.cpu.pc 0xF007 ≡ false → served k ≡ gone k
    → Ran k (served k).1 (served k).0
unfolding gone
goes_is k can form paged is low at =
    let e = gone_by k (execution k form).0 (execution k form).1 in
    let there : served k ≡ e = at ∙ ap (λ i. if_instruction k i (λ f. gone_by k (execution k f).0 (execution k f).1)) is in
    along (λ result new. IsPaged new.mote.sram new.mote.swap → Ran k new result) (served k) e there (λ paged'. record {
      executes = goes_by k e.1 e.0 form (flatly k form) paged paged' is refl low (goes_row k form paged);
      cells = λ a from to first second. gone_cells k (ask_of form (core_of k (descriptor k))) (executed k form) a from to first second (kept k form paged);
    }) ((served_leaves k can).paged paged)

-- .. or the program ends
rests : (k : Kernel) (result : Served) → is_stop result ≡ true → line_served result ≡ None → served k ≡ (result, rested k) → Ran k (served k).1 (served k).0
rests k result over none is = along (λ answer new. Ran k new answer) (served k) (result, rested k) is (record { executes = Ends over none refl; cells = λ a low high first second. refl })

reads_at : (k : Kernel) (can : CanServe k) (form : Form) → IsPaged k.mote.sram k.mote.swap → instruction k ≡ Some form → k.mote.cpu.pc ≡ 0xF004 → (foreign : Option ℕ) → foreign_read k ≡ foreign
    → Ran k (served k).1 (served k).0
unfolding accessed
reads_at k can form paged is at None own = resumes_is k can form paged is (early k (omega (arith, at))) (at_entry k mem_entry at ∙ ap (read_by k) own)
reads_at k can form paged is at (Some a) foreign = rests k (Served.Stopped (Read (descriptor k) a)) refl refl (at_entry k mem_entry at ∙ ap (read_by k) foreign)

loops_at : (k : Kernel) (can : CanServe k) (form : Form) → IsPaged k.mote.sram k.mote.swap → instruction k ≡ Some form → k.mote.cpu.pc ≡ 0xF00C → (b : Bool) → has_bit k.mote.cpu.sreg interrupts ≡ b
    → Ran k (served k).1 (served k).0
loops_at k can form paged is at true on = goes_is k can form paged is (late k (omega (arith, at))) (at_entry k self_entry at ∙ looped_as k true on)
loops_at k can form paged is at false off = rests k (Served.Stopped (Halted (descriptor k))) refl refl (at_entry k self_entry at ∙ looped_as k false off)

record ServedAs (k new : Kernel) (line : Option Line) (stops : Bool) : Type 0 where
  going : k.mote.cpu.pc ≤ 0xF003 → stops ≡ false
  silent : (k.mote.cpu.pc ≤ 0xF003) ⊎ (0xF00E ≤ k.mote.cpu.pc) → line ≡ None
  executes : 0xF004 ≤ k.mote.cpu.pc → k.mote.cpu.pc ≤ 0xF00D → Executes (image_held k) k.quantum line stops k.mote new.mote
  sleeps : 0xF00E ≤ k.mote.cpu.pc → Sleeps k.quantum stops k.mote new.mote
  cells : (a : ℕ) → 0x0101 ≤ a → a ≤ 0x011F → a ≢ 0x0103 → a ≢ 0x0104 → byte_at new.mote.sram a ≡ byte_at k.mote.sram a
  bridge : k.mote.cpu.pc ≡ 0xF000 → new.mote ≡ record k.mote { cpu = record k.mote.cpu { sp = 0x011F } }
  refilled : k.mote.cpu.pc ≡ 0xF002 → new.mote ≡ record k.mote {
    cpu = record k.mote.cpu { r = slice_set k.mote.cpu.r 24 (slice_index k.mote.sram 1); sreg = slice_index k.mote.sram 2; sp = 0x011F };
    sram = slice_set k.mote.sram 0 k.quantum;
  }

-- at BRIDGE and QUANTUM the program doesn't stop, and no line is written
goes_as : (k : Kernel) (can : CanServe k) → k.mote.cpu.pc ≤ 0xF003 → is_stop (served k).0 ≡ false → line_served (served k).0 ≡ None
    → ((a : ℕ) → 0x0101 ≤ a → byte_at (served k).1.mote.sram a ≡ byte_at k.mote.sram a) → ServedAs k (served k).1 (line_served (served k).0) (is_stop (served k).0)
goes_as k can below goes silent cells = record {
  going = λ low. goes;
  silent = λ out. silent;
  executes = λ low high. absurd (omega (arith, low, below));
  sleeps = λ low. absurd (omega (arith, low, below));
  cells = λ a low high first second. cells a low;
  bridge = λ at. ap (λ (n : Kernel). n.mote) (bridge_row k at).stays;
  refilled = quantum_is k;
}

-- an instruction is executed
runs_as : (k : Kernel) (can : CanServe k) → 0xF004 ≤ k.mote.cpu.pc → k.mote.cpu.pc ≤ 0xF00D → Ran k (served k).1 (served k).0
    → ServedAs k (served k).1 (line_served (served k).0) (is_stop (served k).0)
runs_as k can low high ran = record {
  going = λ below. absurd (omega (arith, low, below));
  silent = elim [ inl below ↦ absurd (omega (arith, low, below)) | inr above ↦ absurd (omega (arith, high, above)) ];
  executes = λ from to. ran.executes;
  sleeps = λ above. absurd (omega (arith, high, above));
  cells = ran.cells;
  bridge = λ at. absurd (omega (arith, low, at));
  refilled = λ at. absurd (omega (arith, low, at));
}

-- FAULT
sleeps_as : (k : Kernel) (can : CanServe k) → 0xF00E ≤ k.mote.cpu.pc → Sleeping k (served k).1 (served k).0 → ServedAs k (served k).1 (line_served (served k).0) (is_stop (served k).0)
sleeps_as k can high sleeping = record {
  going = λ below. absurd (omega (arith, high, below));
  silent = λ out. sleeping.silent;
  executes = λ from to. absurd (omega (arith, high, to));
  sleeps = λ above. sleeping.sleeps;
  cells = λ a low to first second. sleeping_cells k.quantum (is_stop (served k).0) k.mote (served k).1.mote sleeping.sleeps a low;
  bridge = λ at. absurd (omega (arith, high, at));
  refilled = λ at. absurd (omega (arith, high, at));
}

served_as : (k : Kernel) → CanServe k → ServedAs k (served k).1 (line_served (served k).0) (is_stop (served k).0)
unfolding byte_at with_byte
served_as k (AtBridge at) =
    let row = bridge_row k at in
    goes_as k (AtBridge at) (omega (arith, at)) (ap is_stop row.answer) (ap line_served row.answer) (λ a low. ap (λ (n : Kernel). slice_index n.mote.sram (a - 0x0100)) row.stays)
served_as k (AtQuantum at) =
    let is = at_entry k quantum_entry at in
    goes_as k (AtQuantum at) (omega (arith, at)) (ap (λ (p : Served × Kernel). is_stop p.0) is) (ap (λ (p : Served × Kernel). line_served p.0) is) (λ a low.
    ap (λ (p : Served × Kernel). byte_at p.1.mote.sram a) is ∙ byte_other k.mote.sram 0x0100 a k.quantum (omega arith) (omega (arith, low)) (λ e. omega (arith, e, low)))
served_as k (AtMem at shape can) =
    let row = mem_row k (AtMem at shape can) at in
    runs_as k (AtMem at shape can) (omega (arith, at)) (omega (arith, at)) (reads_at k (AtMem at shape can) row.form can.paged row.is at (foreign_read k) refl)
served_as k (AtPushReturn at shape can) =
    let row = push_row k (AtPushReturn at shape can) at in
    runs_as k (AtPushReturn at shape can) (omega (arith, at)) (omega (arith, at))
    (resumes_is k (AtPushReturn at shape can) row.form can.paged row.is (early k (omega (arith, at))) (at_entry k push_return_entry at))
served_as k (AtReturn at shape can count) =
    let row = return_row k (AtReturn at shape can count) at in
    runs_as k (AtReturn at shape can count) (omega (arith, at)) (omega (arith, at))
    (goes_is k (AtReturn at shape can count) row.form can.paged row.is (late k (omega (arith, at))) (at_entry k return_entry at))
served_as k (AtIndirect at shape can count) =
    let row = indirect_row k (AtIndirect at shape can count) at in
    runs_as k (AtIndirect at shape can count) (omega (arith, at)) (omega (arith, at))
    (goes_is k (AtIndirect at shape can count) row.form can.paged row.is (late k (omega (arith, at))) (at_entry k indirect_entry at))
served_as k (AtSelf at shape can count) =
    let called = (serving k SelfJump shape (λ e. cc) can).called in
    runs_as k (AtSelf at shape can count) (omega (arith, at)) (omega (arith, at)) (loops_at k (AtSelf at shape can count) called.form can.paged called.is at (has_bit k.mote.cpu.sreg interrupts) refl)
served_as k (AtFault at shape can) = sleeps_as k (AtFault at shape can) (omega (arith, at)) (sleeps_at k can.count.some at)

pub service_is : (image : List ℕ) (quantum : ℕ) (x y : State) (line : Option Line) (stops : Bool) → image_held x.kernel ≡ image → x.kernel.quantum ≡ quantum → MakesServe x line stops y
    → IsService image quantum line stops (mote_of x) (mote_of y)
unfolding byte_at
service_is image quantum x y line stops held counts makes =
    let at = at_an_entry x.kernel makes.can in
    let leaves = subst (Leaves x.kernel) (sym (kernel_served x y line stops makes)) (served_leaves x.kernel makes.can) in
    let passes = subst (λ (k : Kernel). Passes x.kernel k (served x.kernel).0) (sym (kernel_served x y line stops makes)) (passes_at x.kernel makes.can) in
    let there : ServedAs x.kernel y.kernel (line_served (served x.kernel).0) (is_stop (served x.kernel).0) =
    subst (λ (k : Kernel). ServedAs x.kernel k (line_served (served x.kernel).0) (is_stop (served x.kernel).0)) (sym (kernel_served x y line stops makes)) (served_as x.kernel makes.can) in
    let told : ServedAs x.kernel y.kernel line stops = subst (ServedAs x.kernel y.kernel line) makes.halts
    (subst (λ (l : Option Line). ServedAs x.kernel y.kernel l (is_stop (served x.kernel).0)) makes.written there) in
    let heap : x.kernel.mote.cpu.pc ≢ 0xF004 → LeavesHeap x.kernel y.kernel = λ other. subst (LeavesHeap x.kernel) (sym (kernel_served x y line stops makes))
    (served_leaves_heap x.kernel makes.can other) in
    record {
      low = at.0;
      high = at.1;
      even = at.2;
      stack = leaves.stack;
      resumed = λ going. resumed_pc x.kernel y.kernel (served x.kernel).0 passes.0 (makes.halts ∙ going);
      stays = λ why. same_pc x.kernel y.kernel (served x.kernel).0 passes.0 (elim why [ inl over ↦ inl (makes.halts ∙ over) | inr at ↦ inr at ]);
      bridge = λ at. (told.going (omega (arith, at)), told.silent (inl (omega (arith, at))), told.bridge at);
      refilled = λ at. (
        told.going (omega (arith, at)),
        told.silent (inl (omega (arith, at))),
        told.refilled at ∙ ap (λ q. record (mote_of x) {
          cpu = record (mote_of x).cpu { r = slice_set (mote_of x).cpu.r 24 (slice_index (mote_of x).sram 1); sreg = slice_index (mote_of x).sram 2; sp = 0x011F };
          sram = slice_set (mote_of x).sram 0 q;
        }) counts,
      );
      registers = passes.1;
      executes = λ low high. rw counts at (rw held at (told.executes low high));
      sleeps = λ low. (told.silent (inr low), subst (λ q. Sleeps q stops (mote_of x) (mote_of y)) counts (told.sleeps low));
      cells = (
        λ a low high. told.cells a low (omega (arith, high)) (λ e. omega (arith, e, high)) (λ e. omega (arith, e, high)),
        λ a low high. told.cells a (omega (arith, low)) high (λ e. omega (arith, e, low)) (λ e. omega (arith, e, low)),
        λ a low high. leaves.tables a low (omega arith),
      );
      flash = leaves.flash;
      heap = λ other. ((heap other).swap, λ a low high. (heap other).frames a low (omega arith));
    }
