-- Execution is a function of the one answer: what follows of it from what the answer is.
use Rattle.std.proofs.Common.{◌≡◌, ℕ, refl, sym, ◌∙◌, ap}
use Rattle.avr_isa.specs.declared.form.Form.{Form}
use Rattle.avr_exec.specs.declared.cpu.Cpu.{Cpu}
use Rattle.avr_exec.specs.declared.ask.Ask.TheVariants.{Nothing}
use Rattle.avr_exec.specs.declared.answer.Answer.{Answer}
use Rattle.avr_exec.specs.declared.answer.Answer.TheVariants.{Done}
use Rattle.avr_exec.specs.declared.stop.BusStop.{BusStop}
use Rattle.avr_exec.specs.Spaces.{Outcome, Went, Stopped, Calls}
use Rattle.avr_exec.specs.Asks.{ask_of, finish_of}
use Rattle.avr_exec.specs.Execution.{answered_by, answer_of, exec_of}
use Rattle.avr_exec.specs.Likeness.{over, Leaves, IsWent}

-- execution is what the registers become at the one answer
pub exec_by_ask : {S : Type 0} (calls : Calls S) (form : Form) (cpu : Cpu) (space : S) (n : ℕ)
    → exec_of calls form cpu space n ≡ answered_by (finish_of form cpu n) (answer_of calls space (ask_of form cpu))
unfolding exec_of
exec_by_ask calls form cpu space n = refl

-- where the one answer is an answer, so is the outcome
pub exec_went : {S : Type 0} (calls : Calls S) (form : Form) (cpu : Cpu) (space : S) (n : ℕ) (answer : Answer) (next : S)
    → answer_of calls space (ask_of form cpu) ≡ Went answer next
    → exec_of calls form cpu space n ≡ Went (finish_of form cpu n answer) next
exec_went calls form cpu space n answer next e =
    exec_by_ask calls form cpu space n ∙ ap (answered_by (finish_of form cpu n)) e

-- where it is a stop, that is the outcome
pub exec_stopped : {S : Type 0} (calls : Calls S) (form : Form) (cpu : Cpu) (space : S) (n : ℕ) (stop : BusStop)
    → answer_of calls space (ask_of form cpu) ≡ Stopped stop
    → exec_of calls form cpu space n ≡ Stopped stop
exec_stopped calls form cpu space n stop e =
    exec_by_ask calls form cpu space n ∙ ap (answered_by (finish_of form cpu n)) e

-- where nothing is asked the space stays, and there is no stop
pub exec_nothing : {S : Type 0} (calls : Calls S) (form : Form) (cpu : Cpu) (space : S) (n : ℕ)
    → ask_of form cpu ≡ Nothing
    → exec_of calls form cpu space n ≡ Went (finish_of form cpu n Done) space
unfolding answer_of
exec_nothing calls form cpu space n e =
    exec_went calls form cpu space n Done space (ap (answer_of calls space) e)

answered_by-over : {S T A B : Type 0} (h : S → T) (f : A → B) (o : Outcome S A)
    → answered_by f (over h o) ≡ over h (answered_by f o)
answered_by-over h f (Went answer next) = refl
answered_by-over h f (Stopped stop) = refl

-- spaces that answer alike under a map give outcomes that are alike under it
pub exec_alike : {S T : Type 0} (calls : Calls S) (calls' : Calls T) (h : S → T) (form : Form) (cpu : Cpu) (space : S) (n : ℕ)
    → answer_of calls' (h space) (ask_of form cpu) ≡ over h (answer_of calls space (ask_of form cpu))
    → exec_of calls' form cpu (h space) n ≡ over h (exec_of calls form cpu space n)
exec_alike calls calls' h form cpu space n e =
    exec_by_ask calls' form cpu (h space) n
    ∙ ap (answered_by (finish_of form cpu n)) e
    ∙ answered_by-over h (finish_of form cpu n) (answer_of calls space (ask_of form cpu))
    ∙ ap (over h) (sym (exec_by_ask calls form cpu space n))

pub answered_by-leaves : {S A B : Type 0} (P : S → Type 0) (f : A → B) (o : Outcome S A) → Leaves P o → Leaves P (answered_by f o)
answered_by-leaves P f (Went answer next) h = h
answered_by-leaves P f (Stopped stop) h = h

-- what the one answer leaves true of the space, execution leaves true
pub exec_leaves : {S : Type 0} (P : S → Type 0) (calls : Calls S) (form : Form) (cpu : Cpu) (space : S) (n : ℕ)
    → Leaves P (answer_of calls space (ask_of form cpu))
    → Leaves P (exec_of calls form cpu space n)
unfolding exec_of
exec_leaves P calls form cpu space n h =
    answered_by-leaves P (finish_of form cpu n) (answer_of calls space (ask_of form cpu)) h

answered_by-went : {S A B : Type 0} (f : A → B) (o : Outcome S A) → IsWent o → IsWent (answered_by f o)
answered_by-went f (Went answer next) h = h
answered_by-went f (Stopped stop) h = h

-- where the one answer is no stop, execution doesn't stop
pub exec_never_stops : {S : Type 0} (calls : Calls S) (form : Form) (cpu : Cpu) (space : S) (n : ℕ)
    → IsWent (answer_of calls space (ask_of form cpu))
    → IsWent (exec_of calls form cpu space n)
unfolding exec_of
exec_never_stops calls form cpu space n h =
    answered_by-went (finish_of form cpu n) (answer_of calls space (ask_of form cpu)) h
