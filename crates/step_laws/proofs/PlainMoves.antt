-- What the words of CALL and JMP mean; plain moves from quiet steps, and the instruction at the pc by its words.
use Rattle.std.proofs.Common.{ℕ, ◌≡◌, refl, ◌+◌, ◌<◌, Bool, true, ap, ap₂, ◌∙◌, arith, zero, suc, ◌-◌, false}
use Rattle.std.specs.Prelude.{Some, Option, None}
use Rattle.avr_isa.specs.declared.form.Form.TheVariants as forms
use Rattle.avr_isa.specs.UndefinedPairs.{is_undefined}
use Rattle.flash_words.specs.Jumps.{jump_word}
use Rattle.nat_template.specs.Stubs.{call_word}
use Rattle.avr_decode.specs.Decoding.{the_form, is_long, two_word_form, defined_form, if_defined}
use Rattle.avr_isa.specs.declared.form.Form.{Form}
use Rattle.avr_exec.specs.declared.cpu.Cpu.{Cpu}
use Rattle.avr_exec.specs.declared.ask.Ask.TheVariants.{Nothing}
use Rattle.avr_exec.specs.declared.answer.Answer.TheVariants.{Done}
use Rattle.avr_isa.specs.Addresses.{wrapping_sum}
use Rattle.avr_exec.specs.Asks.{ask_of, finish_of}
use Rattle.avr_exec.specs.Execution.{answer_of, is_executed}
use Rattle.flash_words.specs.Pages.{word_at}
use Rattle.mote_core.specs.declared.mote.Mote.{Mote}
use Rattle.mote_core.specs.declared.mote.Plain.TheVariants.{Went}
use Rattle.mote_core.specs.Physical.{physical_calls}
use Rattle.mote_core.specs.Conditions.{is_mapped}
use Rattle.mote_core.specs.Step.{form_at, next_size, space_of}
use Rattle.mote_core.specs.QuietSteps.{IsQuiet, flash_form}
use Rattle.mote_core.proofs.StepsByAnswer.{quiet_by, keeps_same}
use Rattle.step_laws.specs.States.{Begins, InPool, State, mote_of, with_mote}
use Rattle.step_laws.specs.Settings.{IsRunning}
use Rattle.step_laws.specs.Walks.{MakesPlain, WalkWithin}
use Rattle.step_laws.specs.Moves.{plains}
use Rattle.step_laws.proofs.Stretches.{IsStretch}
use Rattle.nat_page.specs.Entered.{IsPlace}
use Rattle.inline_laws.specs.InlineWays.{Passes}

pub call_form : (a : ℕ) → the_form call_word a ≡ Some (forms.Call a)
unfolding the_form is_long two_word_form defined_form if_defined is_undefined
call_form a = refl

pub jmp_form : (a : ℕ) → the_form jump_word a ≡ Some (forms.Jmp a)
unfolding the_form is_long two_word_form defined_form if_defined is_undefined
jmp_form a = refl

-- a quiet step is a plain move
pub quiet_move : (x : State) (next : Mote) (b : Bool) → IsRunning x → InPool x.kernel.layout (mote_of x).cpu.pc → Begins x.kernel.layout (mote_of x).flash.words (mote_of x).cpu.pc b
    → IsQuiet (mote_of x) next → MakesPlain x b None (with_mote x next)
quiet_move x next b running pool starts quiet = record {
  free = running.free;
  going = running.going;
  pool = pool;
  starts = starts;
  can = quiet.can;
  room = running.room;
  shown = Went;
  next = next;
  step = quiet.step;
  written = refl;
  kept = quiet.keeps;
  result = refl;
}

-- these two words stand at p, in a page of the pool
abbrev pub StandAt : Mote → (p first second : ℕ) → Type 0
StandAt m p first second = (word_at m.flash.words p ≡ first) × (word_at m.flash.words (p + 1) ≡ second) × (p < 0xF000)

pub form_there : (m : Mote) (p first second : ℕ) (form : Option Form) → StandAt m p first second → the_form first second ≡ form → flash_form m p ≡ form
form_there m p first second form words is =
    let there : wrapping_sum p 1 ≡ p + 1 = omega arith in
    ap₂ (λ a b. the_form a b) words.0 (ap (word_at m.flash.words) there ∙ words.1) ∙ is

-- an instruction that asks nothing is quiet
pub quiet_nothing : (m : Mote) (form : Form) (cpu : Cpu) → form_at m ≡ Some form → is_executed form ≡ true → ask_of form m.cpu ≡ Nothing → finish_of form m.cpu (next_size m) Done ≡ cpu
    → IsQuiet m (record m { cpu = cpu })
unfolding answer_of is_mapped
quiet_nothing m form cpu is runs asks after =
    quiet_by m form Done m.sram cpu is runs (ap is_mapped asks) (ap (answer_of physical_calls (space_of m None)) asks) after (keeps_same m.sram)

-- they are plain moves inside the words at v, behind the first
pub passes_walk : (x : State) (v size n : ℕ) (m last : Mote) → IsRunning x → IsStretch x.kernel.layout (mote_of x).flash.words v size → m.flash ≡ (mote_of x).flash → m.devices ≡ (mote_of x).devices
    → Passes (v + 1) (v + size) n m last → WalkWithin (with_mote x m) (plains n) (with_mote x last)
passes_walk x v size zero m last running row flash devices passes = ap (with_mote x) passes
passes_walk x v size (suc n) m last running row flash devices (next, above, below, quiet, rest) =
    let pc = m.cpu.pc in
    let room = running.room in
    let here : v + (pc - v) ≡ pc = omega arith in
    let inner : ¬ IsPlace x.kernel.layout m.flash.words pc = rw flash (rw here at (row.inner (pc - v) (omega arith) (omega arith))) in
    let running' : IsRunning (with_mote x m) = record { free = running.free; going = running.going; room = omega (arith, ap (λ d. d.polls) devices) } in (
      with_mote x next,
      quiet_move (with_mote x m) next false running' (rw here at (row.pool (pc - v) (omega arith))) inner quiet,
      passes_walk x v size n next last running row (quiet.step.flash ∙ flash) (quiet.devices ∙ devices) rest,
    )
