-- When an interrupt is taken, and what that leaves.
use Rattle.std.proofs.Common.{◌≡◌, ℕ, Bool, true, false, cond, refl, sym, ap, ap₂, subst, ◌∙◌}
use Rattle.std.specs.Prelude.{Some, None}
use Rattle.avr_isa.specs.Addresses.{wrapping_difference}
use Rattle.avr_exec.specs.StackRules.{push_return_on}
use Rattle.avr_exec.specs.Spaces.{Outcome, Went, Stopped}
use Rattle.avr_exec.specs.declared.stop.BusStop.TheVariants as bus
use Rattle.flat_machine.specs.Addresses.{is_stack}
use Rattle.heap_frames.specs.Paged.{IsPaged}
use Rattle.mote_devices.specs.Waking.{enabled}
use Rattle.flat_machine.specs.FlatMachine.{lowest, vector}
use Rattle.mem_guard.specs.Guarded.{Guarded, push_return}
use Rattle.mem_guard.proofs.Leaves.{push_return_leaves_kept}
use Rattle.kernel_entry.specs.declared.kernel.Kernel.{Kernel}
use Rattle.kernel_entry.specs.declared.kernel.Stop.TheVariants.{Stack}
use Rattle.kernel_entry.specs.declared.kernel.Taken.{Taken}
use Rattle.kernel_entry.specs.declared.kernel.Taken.TheVariants as answers
use Rattle.kernel_entry.specs.Parts.{virtual_sp, memory_of}
use Rattle.kernel_entry.specs.Interrupts.{is_wanted, taken, taken_by, pushed, pushed_by, first_outside, with_address, after_taking, TakesLeast}
use Rattle.kernel_entry.proofs.InterruptLaws.{KeepsIf, keeps_as, push_devices}

abbrev least : Kernel → ℕ
least k = lowest (enabled k.mote.devices)

abbrev Row : Kernel → ℕ → Taken × Kernel → Type 0
Row k target t = TakesLeast k target t.0 t.1

not_both : (b : Bool) → b ≡ true → b ≡ false → ⊥
not_both b on off = let e : true ≡ false = sym on ∙ off in absurd (cc)

nothing_row : (k : Kernel) (target : ℕ) → is_wanted k ≡ false → IsPaged k.mote.sram k.mote.swap → Row k target (answers.Nothing, k)
nothing_row k target off paged = record {
  nothing = (λ e. off, λ e. refl);
  stopped = λ stop. (λ e. absurd (cc), λ e. absurd (not_both (is_wanted k) e.0 off));
  vector = λ place. (λ e. absurd (cc), λ e. absurd (not_both (is_wanted k) e.0 off));
  stays = λ none. refl;
  taken = λ place e. absurd (cc);
  paged = paged;
}

stopped_row : (k : Kernel) (target address : ℕ) → is_wanted k ≡ true → first_outside (virtual_sp k) ≡ Some address → IsPaged k.mote.sram k.mote.swap
    → Row k target (answers.Stopped (Stack target address), k)
stopped_row k target address on outside paged = record {
  nothing = (λ e. absurd (cc), λ e. absurd (not_both (is_wanted k) on e));
  stopped = λ stop. (
    λ e. (on, (address, outside, let same : stop ≡ Stack target address = cc in same)),
    λ e.
        let there = e.1.1 in
        let same : address ≡ e.1.0 = let some : Some address ≡ Some e.1.0 = sym outside ∙ there in cc in
        ap (λ a. answers.Stopped (Stack target a)) same ∙ sym (ap answers.Stopped e.1.2),
  );
  vector = λ place. (λ e. absurd (cc), λ e. absurd (let some : Some address ≡ None = sym outside ∙ e.1 in cc));
  stays = λ none. refl;
  taken = λ place e. absurd (cc);
  paged = paged;
}

vector_row : (k : Kernel) (target : ℕ) → is_wanted k ≡ true → first_outside (virtual_sp k) ≡ None → IsPaged (after_taking k (least k) target).mote.sram k.mote.swap
    → Row k target (answers.Vector (vector k.part (least k)), after_taking k (least k) target)
vector_row k target on inside paged = record {
  nothing = (λ e. absurd (cc), λ e. absurd (not_both (is_wanted k) on e));
  stopped = λ stop. (λ e. absurd (cc), λ e. absurd (let none = e.1.1 in let some : None ≡ Some e.1.0 = sym inside ∙ none in cc));
  vector = λ place. (λ e. (on, inside, let same : place ≡ vector k.part (least k) = cc in same), λ e. ap answers.Vector (sym e.2));
  stays = λ none. absurd (none (vector k.part (least k)) refl);
  taken = λ place e. refl;
  paged = paged;
}

is_taken : (k : Kernel) (target : ℕ) (o : Outcome Guarded (Unit {0})) → is_wanted k ≡ true → push_return (memory_of k) (virtual_sp k) target ≡ o
    → taken k target ≡ taken_by k (least k) target (pushed_by k o).0 (pushed_by k o).1
is_taken k target o on is =
    ap (λ b. cond b (taken_by k (least k) target (pushed k target).0 (pushed k target).1) (answers.Nothing, k)) on
    ∙ ap (λ p. taken_by k (least k) target (pushed_by k p).0 (pushed_by k p).1) is

-- the two bytes, each in the window or outside
push_by : (g : Guarded) (sp ret : ℕ) (b c : Bool) → is_stack sp ≡ b → is_stack (wrapping_difference sp 1) ≡ c
    → push_return g sp ret ≡ cond b (cond c (Went tt (record g { sram = with_address g.sram sp ret })) (Stopped (bus.Stack (wrapping_difference sp 1)))) (Stopped (bus.Stack sp))
unfolding push_return push_return_on
push_by g sp ret b c first second =
    ap₂ (λ x y. cond x (cond y (Went tt (record g { sram = with_address g.sram sp ret })) (Stopped (bus.Stack (wrapping_difference sp 1)))) (Stopped (bus.Stack sp))) first second

outside_by : (sp : ℕ) (b c : Bool) → is_stack sp ≡ b → is_stack (wrapping_difference sp 1) ≡ c → first_outside sp ≡ cond b (cond c None (Some (wrapping_difference sp 1))) (Some sp)
outside_by sp b c first second = ap₂ (λ x y. cond x (cond y None (Some (wrapping_difference sp 1))) (Some sp)) first second

row_by : (k : Kernel) (target : ℕ) (b c : Bool) → is_wanted k ≡ true → is_stack (virtual_sp k) ≡ b → is_stack (wrapping_difference (virtual_sp k) 1) ≡ c → IsPaged k.mote.sram k.mote.swap
    → Row k target (taken k target)
row_by k target true true on first second paged =
    let push = push_by (memory_of k) (virtual_sp k) target true true first second in
    let keeps = subst (λ o. KeepsIf k (taken_by k (least k) target (pushed_by k o).0 (pushed_by k o).1)) push
    (keeps_as k (least k) target (push_return (memory_of k) (virtual_sp k) target) (push_return_leaves_kept (memory_of k) (virtual_sp k) target paged)
    (push_devices (memory_of k) (virtual_sp k) target)) in
    subst (Row k target) (sym (is_taken k target _ on push)) (vector_row k target on (outside_by (virtual_sp k) true true first second) keeps.paged)
row_by k target true false on first second paged =
    subst (Row k target) (sym (is_taken k target _ on (push_by (memory_of k) (virtual_sp k) target true false first second)))
    (stopped_row k target (wrapping_difference (virtual_sp k) 1) on (outside_by (virtual_sp k) true false first second) paged)
row_by k target false c on first second paged =
    subst (Row k target) (sym (is_taken k target _ on (push_by (memory_of k) (virtual_sp k) target false c first second)))
    (stopped_row k target (virtual_sp k) on (outside_by (virtual_sp k) false c first second) paged)

row_if : (k : Kernel) (target : ℕ) (b : Bool) → is_wanted k ≡ b → IsPaged k.mote.sram k.mote.swap → Row k target (taken k target)
row_if k target true on paged = row_by k target (is_stack (virtual_sp k)) (is_stack (wrapping_difference (virtual_sp k) 1)) on refl refl paged
row_if k target false off paged =
    subst (Row k target) (sym (ap (λ b. cond b (taken_by k (least k) target (pushed k target).0 (pushed k target).1) (answers.Nothing, k)) off)) (nothing_row k target off paged)

pub taking_row : (k : Kernel) (target : ℕ) (result : Taken) (new : Kernel) → (result, new) ≡ taken k target → IsPaged k.mote.sram k.mote.swap → TakesLeast k target result new
taking_row k target result new is paged = subst (Row k target) (sym is) (row_if k target (is_wanted k) refl paged)
