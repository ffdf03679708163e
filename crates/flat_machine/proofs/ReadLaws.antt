-- Which instructions read words of the program.
use Rattle.std.proofs.Common.{◌≡◌, ℕ, Bool, true, false, refl}
use Rattle.std.specs.Prelude.{None}
use Rattle.std.proofs.lemmas.Bool.{cond_both}
use Rattle.avr_isa.specs.declared.form.Form.{Form}
use Rattle.avr_isa.specs.declared.form.Form.TheVariants as forms
use Rattle.avr_exec.specs.declared.cpu.Cpu.{Cpu}
use Rattle.avr_exec.specs.declared.ask.Ask.TheVariants.{Nothing, Load, Store}
use Rattle.avr_exec.specs.Registers.{is_own as is_core_own}
use Rattle.avr_exec.specs.Asks.{ask_of, load_of, store_of}
use Rattle.flat_machine.specs.FlatMachine.{word_asked}

-- LPM and ELPM
abbrev pub reads_program : Form → Bool
reads_program forms.Lpm0 = true
reads_program forms.Elpm0 = true
reads_program (forms.Lpm d inc) = true
reads_program (forms.Elpm d inc) = true
reads_program _ = false

loads : (r a : ℕ) → word_asked r (load_of a) ≡ None
unfolding load_of
loads r a = cond_both (is_core_own a) Nothing (Load a) (λ ask. word_asked r ask ≡ None) (λ own. refl) (λ other. refl)

stores : (r a v : ℕ) → word_asked r (store_of a v) ≡ None
unfolding store_of
stores r a v = cond_both (is_core_own a) Nothing (Store a v) (λ ask. word_asked r ask ≡ None) (λ own. refl) (λ other. refl)

-- no other instruction does
pub asks_none : (r : ℕ) (form : Form) (cpu : Cpu) → reads_program form ≡ false → word_asked r (ask_of form cpu) ≡ None
unfolding ask_of
asks_none r (forms.LoadOff d base q) cpu none = loads r _
asks_none r (forms.StoreOff base q d) cpu none = stores r _ _
asks_none r (forms.LoadAt d pointer) cpu none = loads r _
asks_none r (forms.StoreAt pointer d) cpu none = stores r _ _
asks_none r (forms.Lds d a) cpu none = loads r _
asks_none r (forms.Sts a d) cpu none = stores r _ _
asks_none r (forms.InIo d a) cpu none = loads r _
asks_none r (forms.OutIo a d) cpu none = stores r _ _
asks_none r (forms.Sbic a b) cpu none = loads r _
asks_none r (forms.Sbis a b) cpu none = loads r _
asks_none r forms.Lpm0 cpu none = absurd (cc)
asks_none r forms.Elpm0 cpu none = absurd (cc)
asks_none r (forms.Lpm d inc) cpu none = absurd (cc)
asks_none r (forms.Elpm d inc) cpu none = absurd (cc)
asks_none r _ cpu none = refl
