use Rattle.std.proofs.Common.{refl}
use Rattle.avr_isa.specs.declared.form.Form.TheVariants as forms
use Rattle.avr_isa.specs.Addresses.{wrapping_sum, relative}
use Rattle.kernel_entry.specs.Parts.{descriptor}
use Rattle.kernel_entry.proofs.AtOnce.{called_is, called_near_is, pop_is, push_is, done_by, instruction_is, read_by_lpm}
use Rattle.kernel_entry.proofs.at_once.execute_at_once.Goals as goal

pub returns-in-Call-clause-executed : goal.returns-in-Call-clause-executed
returns-in-Call-clause-executed c =
    let k = c.args.k.now in
    let to = c.in-Call.field-0 in
    let next = c.push_in_window.new.k in
    let is = instruction_is c.args.k.now _ _ _ _ c.requires.at c.in-Some.ensures.value c.form.ensures.value c.in-Call.is in
    λ yes. done_by k next (forms.Call to) to is refl (called_is k next c.args.at to c.requires.at (c.push_in_window.ensures.pushed yes) (c.push_in_window.ensures.after yes))

pub returns-in-Rcall-clause-executed : goal.returns-in-Rcall-clause-executed
returns-in-Rcall-clause-executed c =
    let k = c.args.k.now in
    let o = c.in-Rcall.field-0 in
    let push = c.push_in_window-in-Rcall in
    let is = instruction_is c.args.k.now _ _ _ _ c.requires.at c.in-Some.ensures.value c.form.ensures.value c.in-Rcall.is in
    λ yes. done_by k push.new.k (forms.Rcall o) (relative (descriptor k) o) is refl
    (called_near_is k push.new.k c.args.at o c.requires.at (push.ensures.pushed yes) (push.ensures.after yes))

pub returns-in-Lds-clause-executed : goal.returns-in-Lds-clause-executed
returns-in-Lds-clause-executed c =
    let is = instruction_is c.args.k.now _ _ _ _ c.requires.at c.in-Some.ensures.value c.form.ensures.value c.in-Lds.is in
    λ yes. done_by _ _ (forms.Lds c.in-Lds.d c.in-Lds.a) _ is refl (c.load_direct.ensures.executed yes)

pub returns-in-Sts-clause-executed : goal.returns-in-Sts-clause-executed
returns-in-Sts-clause-executed c =
    let is = instruction_is c.args.k.now _ _ _ _ c.requires.at c.in-Some.ensures.value c.form.ensures.value c.in-Sts.is in
    λ yes. done_by _ _ (forms.Sts c.in-Sts.a c.in-Sts.r) _ is refl (c.store_direct.ensures.executed yes)

pub returns-in-LoadOff-clause-executed : goal.returns-in-LoadOff-clause-executed
returns-in-LoadOff-clause-executed c =
    let is = instruction_is c.args.k.now _ _ _ _ c.requires.at c.in-Some.ensures.value c.form.ensures.value c.in-LoadOff.is in
    λ yes. done_by _ _ (forms.LoadOff c.in-LoadOff.d c.in-LoadOff.base c.in-LoadOff.q) _ is refl (c.load_displaced.ensures.executed yes)

pub returns-in-StoreOff-clause-executed : goal.returns-in-StoreOff-clause-executed
returns-in-StoreOff-clause-executed c =
    let is = instruction_is c.args.k.now _ _ _ _ c.requires.at c.in-Some.ensures.value c.form.ensures.value c.in-StoreOff.is in
    λ yes. done_by _ _ (forms.StoreOff c.in-StoreOff.base c.in-StoreOff.q c.in-StoreOff.r) _ is refl (c.store_displaced.ensures.executed yes)

pub returns-in-LoadAt-clause-executed : goal.returns-in-LoadAt-clause-executed
returns-in-LoadAt-clause-executed c =
    let is = instruction_is c.args.k.now _ _ _ _ c.requires.at c.in-Some.ensures.value c.form.ensures.value c.in-LoadAt.is in
    λ yes. done_by _ _ (forms.LoadAt c.in-LoadAt.d c.in-LoadAt.pointer) _ is refl (c.load_pointed.ensures.executed yes)

pub returns-in-StoreAt-clause-executed : goal.returns-in-StoreAt-clause-executed
returns-in-StoreAt-clause-executed c =
    let is = instruction_is c.args.k.now _ _ _ _ c.requires.at c.in-Some.ensures.value c.form.ensures.value c.in-StoreAt.is in
    λ yes. done_by _ _ (forms.StoreAt c.in-StoreAt.pointer c.in-StoreAt.r) _ is refl (c.store_pointed.ensures.executed yes)

pub returns-in-Pop-clause-executed : goal.returns-in-Pop-clause-executed
returns-in-Pop-clause-executed c =
    let k = c.args.k.now in
    let next = c.pop_register.new.k in
    let d = c.in-Pop.d in
    let is = instruction_is c.args.k.now _ _ _ _ c.requires.at c.in-Some.ensures.value c.form.ensures.value c.in-Pop.is in
    λ yes. done_by k next (forms.Pop d) (wrapping_sum (descriptor k) 1) is refl (pop_is k next d (c.pop_register.ensures.held yes) (c.pop_register.ensures.after yes))

pub returns-in-Push-clause-executed : goal.returns-in-Push-clause-executed
returns-in-Push-clause-executed c =
    let k = c.args.k.now in
    let next = c.push_register.new.k in
    let r = c.in-Push.r in
    let is = instruction_is c.args.k.now _ _ _ _ c.requires.at c.in-Some.ensures.value c.form.ensures.value c.in-Push.is in
    λ yes. done_by k next (forms.Push r) (wrapping_sum (descriptor k) 1) is refl (push_is k next r (c.push_register.ensures.held yes) (c.push_register.ensures.after yes))

pub returns-in-Lpm-clause-executed : goal.returns-in-Lpm-clause-executed
returns-in-Lpm-clause-executed c =
    let is = instruction_is c.args.k.now _ _ _ _ c.requires.at c.in-Some.ensures.value c.form.ensures.value c.in-Lpm.is in
    λ yes. read_by_lpm _ _ c.in-Lpm.d c.in-Lpm.increment is (c.read_program.ensures.unshut yes) (c.read_program.ensures.executed yes)

pub returns-in-InIo-clause-executed : goal.returns-in-InIo-clause-executed
returns-in-InIo-clause-executed c =
    let is = instruction_is c.args.k.now _ _ _ _ c.requires.at c.in-Some.ensures.value c.form.ensures.value c.in-InIo.is in
    λ yes. done_by _ _ (forms.InIo c.in-InIo.d c.in-InIo.a) _ is refl (c.read_stack_pointer.ensures.executed yes)

pub returns-in-OutIo-clause-executed : goal.returns-in-OutIo-clause-executed
returns-in-OutIo-clause-executed c =
    let is = instruction_is c.args.k.now _ _ _ _ c.requires.at c.in-Some.ensures.value c.form.ensures.value c.in-OutIo.is in
    λ yes. done_by _ _ (forms.OutIo c.in-OutIo.a c.in-OutIo.r) _ is refl (c.write_stack_pointer.ensures.executed yes)
