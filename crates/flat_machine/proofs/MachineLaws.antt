-- Laws of the flat machine: what a try is in each case, and what a run does first.
use Rattle.std.proofs.Common.{◌≡◌, ℕ, zero, suc, true, false, not, ◌&&◌, cond, refl, ap, ap₂, ◌∙◌}
use Rattle.std.specs.Prelude.{Option, Some, None}
use Rattle.std.proofs.lemmas.Bool.{cond-true, cond-false}
use Rattle.avr_isa.specs.declared.form.Form.{Form}
use Rattle.avr_isa.specs.declared.form.Form.TheVariants.{Sleep, Spm}
use Rattle.avr_decode.specs.Program.{instruction_at}
use Rattle.avr_flags.specs.Status.{has_bit, interrupts}
use Rattle.avr_exec.specs.Execution.{exec_of, is_executed}
use Rattle.mote_devices.specs.declared.line.Line.{Line}
use Rattle.flat_machine.specs.FlatSpace.{flat_calls}
use Rattle.flat_machine.specs.FlatMachine.{Program, FlatState, End, Spent, Wild, Illegal, SelfProgram, Halted, Read, Tried, Stops, Moment, Ends, On, next_of, next_by, is_taken, interrupted, slept}
use Rattle.flat_machine.specs.FlatMachine.{next_size, jumps_to_itself, space_of, stepped, executed, is_inside, foreign_word, read_or_executed, tried_form, tried, ended, with_line, followed, run}

-- the cases of a try, by the instruction at the pc
pub tried_illegal : (program : Program) (s : FlatState) → instruction_at program.image s.cpu.pc ≡ None → tried program s ≡ Stops (Illegal s.cpu.pc)
unfolding tried
tried_illegal program s is = ap (tried_form program s) is

pub tried_spm : (program : Program) (s : FlatState) → instruction_at program.image s.cpu.pc ≡ Some Spm → tried program s ≡ Stops (SelfProgram s.cpu.pc)
unfolding tried
tried_spm program s is = ap (tried_form program s) is

pub tried_sleep : (program : Program) (s : FlatState) → instruction_at program.image s.cpu.pc ≡ Some Sleep → tried program s ≡ slept s
unfolding tried
tried_sleep program s is = ap (tried_form program s) is

pub form_tried : (program : Program) (s : FlatState) (form : Form) → is_executed form ≡ true → tried_form program s (Some form) ≡ read_or_executed program s form (foreign_word program s form)
unfolding is_executed
form_tried program s Sleep runs = absurd (cc)
form_tried program s Spm runs = absurd (cc)
form_tried program s _ runs = refl

tried_as : (program : Program) (s : FlatState) (form : Form) (foreign : Option ℕ) → instruction_at program.image s.cpu.pc ≡ Some form → is_executed form ≡ true → foreign_word program s form ≡ foreign
    → tried program s ≡ read_or_executed program s form foreign
unfolding tried
tried_as program s form foreign is runs reads = ap (tried_form program s) is ∙ form_tried program s form runs ∙ ap (read_or_executed program s form) reads

-- LPM and ELPM of a word that a shut part may not read
pub tried_read : (program : Program) (s : FlatState) (form : Form) (a : ℕ) → instruction_at program.image s.cpu.pc ≡ Some form → is_executed form ≡ true → foreign_word program s form ≡ Some a
    → tried program s ≡ Stops (Read s.cpu.pc a)
tried_read program s form a is runs reads = tried_as program s form (Some a) is runs reads

tried_other : (program : Program) (s : FlatState) (form : Form) → instruction_at program.image s.cpu.pc ≡ Some form → is_executed form ≡ true → foreign_word program s form ≡ None
    → tried program s ≡ executed program s form
tried_other program s form is runs own = tried_as program s form None is runs own

-- an RJMP or JMP to its own address with interrupts off halts
pub tried_halt : (program : Program) (s : FlatState) (form : Form) → instruction_at program.image s.cpu.pc ≡ Some form → is_executed form ≡ true
    → foreign_word program s form ≡ None → jumps_to_itself s.cpu.pc form ≡ true → has_bit s.cpu.sreg interrupts ≡ false → tried program s ≡ Stops (Halted s.cpu.pc)
tried_halt program s form is runs own itself off =
    tried_other program s form is runs own
    ∙ ap₂ (λ a b. cond (a && not b) (Stops (Halted s.cpu.pc)) (stepped s (exec_of flat_calls form s.cpu (space_of program s) (next_size program.image s.cpu.pc)))) itself off

-- every other instruction is executed over the flat space
pub tried_step : (program : Program) (s : FlatState) (form : Form) → instruction_at program.image s.cpu.pc ≡ Some form → is_executed form ≡ true
    → foreign_word program s form ≡ None → jumps_to_itself s.cpu.pc form && not (has_bit s.cpu.sreg interrupts) ≡ false
    → tried program s ≡ stepped s (exec_of flat_calls form s.cpu (space_of program s) (next_size program.image s.cpu.pc))
tried_step program s form is runs own goes =
    tried_other program s form is runs own ∙ cond-false (jumps_to_itself s.cpu.pc form && not (has_bit s.cpu.sreg interrupts)) _ _ goes

-- what comes next: an interrupt, or what the instruction is
pub next_taken : (program : Program) (m : Moment) → is_taken m ≡ true → next_of program m ≡ interrupted program m.now
unfolding next_of
next_taken program m is = cond-true (is_taken m) _ _ is

pub next_tried : (program : Program) (m : Moment) (t : Tried) → is_taken m ≡ false → tried program m.now ≡ t → next_of program m ≡ next_by program.quantum m.now t
unfolding next_of
next_tried program m t is same = cond-false (is_taken m) _ _ is ∙ ap (next_by program.quantum m.now) same

-- a run outside the program's part
pub run_wild : (program : Program) (m : Moment) (n : ℕ) → is_inside program m.now.cpu.pc ≡ false → run program m n ≡ ended (Wild m.now.cpu.pc) m
unfolding run
run_wild program m zero out = cond-false (is_inside program m.now.cpu.pc) _ _ out
run_wild program m (suc n) out = cond-false (is_inside program m.now.cpu.pc) _ _ out

-- a run of no steps inside it
pub run_spent : (program : Program) (m : Moment) → is_inside program m.now.cpu.pc ≡ true → run program m 0 ≡ ended Spent m
unfolding run
run_spent program m inside = cond-true (is_inside program m.now.cpu.pc) _ _ inside

-- a run that begins with a stop
pub run_stops : (program : Program) (m : Moment) (n : ℕ) (end : End) → is_inside program m.now.cpu.pc ≡ true → next_of program m ≡ Ends end
    → run program m (suc n) ≡ ended end m
unfolding run
run_stops program m n end inside stops =
    ap₂ (λ b t. cond b (followed m t (λ next. run program next n)) (ended (Wild m.now.cpu.pc) m)) inside stops

-- a run that begins with a step
pub run_goes : (program : Program) (m next : Moment) (n : ℕ) (line : Option Line) → is_inside program m.now.cpu.pc ≡ true → next_of program m ≡ On line next
    → run program m (suc n) ≡ with_line line (run program next n)
unfolding run
run_goes program m next n line inside goes =
    ap₂ (λ b t. cond b (followed m t (λ following. run program following n)) (ended (Wild m.now.cpu.pc) m)) inside goes
