-- Quiet steps that read or write SRAM: LDS, STS, LD and ST by Z, and CALL from the top of the kernel's stack. What is loaded,
-- what is stored and the registers afterwards are arguments with equations, so that steps can be chained.
use Rattle.std.proofs.Common.{◌≡◌, ℕ, ◌+◌, ◌/◌, ◌%◌, ◌<◌, ◌≤◌, true, false, cond, List, refl, ap, ap₂, arith, ◌∙◌}
use Rattle.std.specs.Prelude.{Some, None, ◌||◌, slice_index, slice_set}
use Rattle.std.proofs.lemmas.Bool.Decides.{nat_tests}
use Rattle.avr_isa.specs.declared.form.Form.TheVariants.{LoadOff, StoreOff, Lds, Sts, Call}
use Rattle.avr_isa.specs.declared.operation.Base.TheVariants.{Z}
use Rattle.avr_exec.specs.declared.cpu.Cpu.{Cpu}
use Rattle.avr_exec.specs.declared.ask.Ask.TheVariants.{Nothing, Load, Store, PushReturn}
use Rattle.avr_exec.specs.declared.answer.Answer.TheVariants.{Done, Byte}
use Rattle.avr_isa.specs.Addresses.{wrapping_sum, wrapping_difference}
use Rattle.avr_exec.specs.Registers.{is_own, own_byte, with_own_byte, with_counter}
use Rattle.avr_exec.specs.Asks.{ask_of, finish_of, load_of, store_of}
use Rattle.avr_exec.specs.Effects.{loaded, stored}
use Rattle.avr_exec.specs.Execution.{answered_by, answer_of, is_executed}
use Rattle.avr_exec.specs.StackRules.{push_return_on}
use Rattle.avr_exec.specs.Spaces.{Went as WentOn}
use Rattle.sram_layout.specs.Bytes.{byte_at, with_byte}
use Rattle.sram_layout.specs.Regions.{stack_window}
use Rattle.mote_core.specs.declared.mote.Mote.{Mote}
use Rattle.mote_core.specs.Physical.{Physical, is_sram, with_sram, from_device, to_device, physical_calls}
use Rattle.mote_devices.specs.Accesses.{read, write}
use Rattle.avr_isa.specs.IoTable.{can_read, can_write}
use Rattle.mote_core.specs.Conditions.{is_mapped}
use Rattle.mote_core.specs.Step.{space_of}
use Rattle.mote_core.specs.QuietSteps.{KeepsKernel, IsQuiet, core, held, flash_form, z_of}
use Rattle.mote_core.proofs.StepsByAnswer.{quiet_by, keeps_same, keeps_stack}

-- the pc one or two words on, as a sum
pub pc_one : (m : Mote) (r : List ℕ) (status pc : ℕ) → pc + 1 < 65536 → core m r status (wrapping_sum pc 1) ≡ core m r status (pc + 1)
pc_one m r status pc below = let e : (pc + 1) % 65536 ≡ pc + 1 = omega arith in ap (core m r status) e

pub pc_two : (m : Mote) (r : List ℕ) (status pc : ℕ) → pc + 2 < 65536 → core m r status (wrapping_sum pc 2) ≡ core m r status (pc + 2)
pc_two m r status pc below = let e : (pc + 2) % 65536 ≡ pc + 2 = omega arith in ap (core m r status) e

-- an address of SRAM is none of the core's own
sram_not_own : (a : ℕ) → is_sram a ≡ true → is_own a ≡ false
sram_not_own a ram = grind (arith, nat_tests)

-- what SRAM answers
load_mapped : (a : ℕ) → is_sram a ≡ true → is_mapped (load_of a) ≡ true
unfolding load_of is_mapped
load_mapped a ram = ap (λ b. is_mapped (cond b Nothing (Load a))) (sram_not_own a ram) ∙ ap (λ b. b || can_read a) ram

load_answered : (space : Physical) (a : ℕ) → is_sram a ≡ true → answer_of physical_calls space (load_of a) ≡ WentOn (Byte (byte_at space.sram a)) space
unfolding load_of answer_of
load_answered space a ram =
    ap (λ b. answer_of physical_calls space (cond b Nothing (Load a))) (sram_not_own a ram)
    ∙ ap (λ b. answered_by Byte (cond b (WentOn (byte_at space.sram a) space) (from_device space a (read space.devices a)))) ram

loaded_is : (cpu : Cpu) (a v : ℕ) → is_sram a ≡ true → loaded cpu a v ≡ v
unfolding loaded
loaded_is cpu a v ram = ap (λ b. cond b (own_byte cpu a) v) (sram_not_own a ram)

store_mapped : (a v : ℕ) → is_sram a ≡ true → is_mapped (store_of a v) ≡ true
unfolding store_of is_mapped
store_mapped a v ram = ap (λ b. is_mapped (cond b Nothing (Store a v))) (sram_not_own a ram) ∙ ap (λ b. b || can_write a) ram

store_answered : (space : Physical) (a v : ℕ) → is_sram a ≡ true → answer_of physical_calls space (store_of a v) ≡ WentOn Done (with_sram space a v)
unfolding store_of answer_of
store_answered space a v ram =
    ap (λ b. answer_of physical_calls space (cond b Nothing (Store a v))) (sram_not_own a ram)
    ∙ ap (λ b. answered_by (λ (_ : Unit {0}). Done) (cond b (WentOn tt (with_sram space a v)) (to_device space a (write space.devices a v)))) ram

stored_is : (cpu : Cpu) (a v : ℕ) → is_sram a ≡ true → stored cpu a v ≡ cpu
unfolding stored
stored_is cpu a v ram = ap (λ b. cond b (with_own_byte cpu a v) cpu) (sram_not_own a ram)

-- LDS and STS at a data address of SRAM
pub quiet_lds : (m : Mote) (r r' : List ℕ) (s pc : ℕ) (sram : List ℕ) (d a : ℕ) → flash_form m pc ≡ Some (Lds d a) → is_sram a ≡ true → pc + 2 < 65536 → slice_set r d (byte_at sram a) ≡ r'
    → IsQuiet (held m r s pc sram) (held m r' s (pc + 2) sram)
unfolding is_executed ask_of finish_of
quiet_lds m r r' s pc sram d a is ram below value =
    quiet_by (held m r s pc sram) (Lds d a) (Byte (byte_at sram a)) sram (core m r' s (pc + 2)) is refl (load_mapped a ram) (load_answered (space_of (held m r s pc sram) None) a ram)
    (ap (λ v. core m (slice_set r d v) s (wrapping_sum pc 2)) (loaded_is (core m r s pc) a (byte_at sram a) ram) ∙ ap (λ x. core m x s (wrapping_sum pc 2)) value ∙ pc_two m r' s pc below)
    (keeps_same sram)

pub quiet_sts : (m : Mote) (r : List ℕ) (s pc : ℕ) (sram : List ℕ) (a d v : ℕ) → flash_form m pc ≡ Some (Sts a d) → is_sram a ≡ true → pc + 2 < 65536 → slice_index r d ≡ v
    → KeepsKernel sram (with_byte sram a v) → IsQuiet (held m r s pc sram) (held m r s (pc + 2) (with_byte sram a v))
unfolding is_executed ask_of finish_of
quiet_sts m r s pc sram a d v is ram below value keeps =
    quiet_by (held m r s pc sram) (Sts a d) Done (with_byte sram a v) (core m r s (pc + 2)) is refl (store_mapped a (slice_index r d) ram)
    (store_answered (space_of (held m r s pc sram) None) a (slice_index r d) ram ∙ ap (λ x. WentOn Done (with_sram (space_of (held m r s pc sram) None) a x)) value)
    (ap (λ (c : Cpu). with_counter c (wrapping_sum c.pc 2)) (stored_is (core m r s pc) a (slice_index r d) ram) ∙ pc_two m r s pc below) keeps

sram_small : (a : ℕ) → is_sram a ≡ true → a ≤ 0x10FF
sram_small a ram = grind (arith, nat_tests)

z_small : (z a : ℕ) → z ≡ a → a ≤ 0x10FF → (z + 0) % 65536 ≡ a
z_small z a is small = omega arith

-- Z as a data address of SRAM
z_there : (r : List ℕ) (a : ℕ) → z_of r ≡ a → is_sram a ≡ true → (z_of r + 0) % 65536 ≡ a
z_there r a is ram = z_small (z_of r) a is (sram_small a ram)

-- LD and ST by Z, at a data address of SRAM
pub quiet_ld_z : (m : Mote) (r r' : List ℕ) (s pc : ℕ) (sram : List ℕ) (d a : ℕ) → flash_form m pc ≡ Some (LoadOff d Z 0) → z_of r ≡ a → is_sram a ≡ true → pc + 1 < 65536
    → slice_set r d (byte_at sram a) ≡ r' → IsQuiet (held m r s pc sram) (held m r' s (pc + 1) sram)
unfolding is_executed ask_of finish_of
quiet_ld_z m r r' s pc sram d a is z ram below value =
    let there = z_there r a z ram in
    quiet_by (held m r s pc sram) (LoadOff d Z 0) (Byte (byte_at sram a)) sram (core m r' s (pc + 1)) is refl (ap (λ x. is_mapped (load_of x)) there ∙ load_mapped a ram)
    (ap (λ x. answer_of physical_calls (space_of (held m r s pc sram) None) (load_of x)) there ∙ load_answered (space_of (held m r s pc sram) None) a ram)
    (ap (λ x. core m (slice_set r d (loaded (core m r s pc) x (byte_at sram a))) s (wrapping_sum pc 1)) there
    ∙ ap (λ v. core m (slice_set r d v) s (wrapping_sum pc 1)) (loaded_is (core m r s pc) a (byte_at sram a) ram)
    ∙ ap (λ x. core m x s (wrapping_sum pc 1)) value ∙ pc_one m r' s pc below) (keeps_same sram)

pub quiet_st_z : (m : Mote) (r : List ℕ) (s pc : ℕ) (sram : List ℕ) (d a v : ℕ) → flash_form m pc ≡ Some (StoreOff Z 0 d) → z_of r ≡ a → is_sram a ≡ true → pc + 1 < 65536 → slice_index r d ≡ v
    → KeepsKernel sram (with_byte sram a v) → IsQuiet (held m r s pc sram) (held m r s (pc + 1) (with_byte sram a v))
unfolding is_executed ask_of finish_of
quiet_st_z m r s pc sram d a v is z ram below value keeps =
    let there = z_there r a z ram in
    quiet_by (held m r s pc sram) (StoreOff Z 0 d) Done (with_byte sram a v) (core m r s (pc + 1)) is refl
    (ap (λ x. is_mapped (store_of x (slice_index r d))) there ∙ store_mapped a (slice_index r d) ram)
    (ap (λ x. answer_of physical_calls (space_of (held m r s pc sram) None) (store_of x (slice_index r d))) there ∙ store_answered (space_of (held m r s pc sram) None) a (slice_index r d) ram
    ∙ ap (λ x. WentOn Done (with_sram (space_of (held m r s pc sram) None) a x)) value)
    (ap (λ x. let c = stored (core m r s pc) x (slice_index r d) in with_counter c (wrapping_sum c.pc 1)) there
    ∙ ap (λ (c : Cpu). with_counter c (wrapping_sum c.pc 1)) (stored_is (core m r s pc) a (slice_index r d) ram) ∙ pc_one m r s pc below) keeps

-- CALL from the top of the kernel's stack
call_mapped : (ret : ℕ) → is_mapped (PushReturn 0x011F ret) ≡ true
unfolding is_mapped
call_mapped ret = refl

call_answered : (space : Physical) (ret : ℕ)
    → answer_of physical_calls space (PushReturn 0x011F ret) ≡ WentOn Done (record space { sram = with_byte (with_byte space.sram 0x011F (ret % 256)) 0x011E (ret / 256) })
unfolding answer_of push_return_on
call_answered space ret = refl

pub quiet_call : (m : Mote) (r : List ℕ) (s pc : ℕ) (sram : List ℕ) (target : ℕ) → flash_form m pc ≡ Some (Call target) → m.cpu.sp ≡ 0x011F → pc + 2 < 65536
    → IsQuiet (held m r s pc sram) (record m { cpu = record m.cpu { r = r; sreg = s; sp = 0x011D; pc = target }; sram = with_byte (with_byte sram 0x011F ((pc + 2) % 256)) 0x011E ((pc + 2) / 256) })
unfolding is_executed ask_of finish_of
quiet_call m r s pc sram target is top below =
    let e : (pc + 2) % 65536 ≡ pc + 2 = omega arith in
    let sram' = with_byte (with_byte sram 0x011F ((pc + 2) % 256)) 0x011E ((pc + 2) / 256) in
    let cpu' : ℕ → Cpu = λ sp. record m.cpu { r = r; sreg = s; sp = wrapping_difference sp 2; pc = target } in
    quiet_by (held m r s pc sram) (Call target) Done sram' (record m.cpu { r = r; sreg = s; sp = 0x011D; pc = target }) is refl
    (ap (λ sp. is_mapped (PushReturn sp (wrapping_sum pc 2))) top ∙ call_mapped (wrapping_sum pc 2))
    (ap₂ (λ sp ret. answer_of physical_calls (space_of (held m r s pc sram) None) (PushReturn sp ret)) top e ∙ call_answered (space_of (held m r s pc sram) None) (pc + 2))
    (ap cpu' top) (keeps_stack sram ((pc + 2) % 256) ((pc + 2) / 256))

-- an address of the program's stack is SRAM's
pub stack_sram : (a : ℕ) → stack_window.first ≤ a → a < stack_window.behind → is_sram a ≡ true
stack_sram a from to = grind (arith, nat_tests)
