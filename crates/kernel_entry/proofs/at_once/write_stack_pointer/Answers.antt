use Rattle.std.proofs.Common.{◌≡◌, ◌+◌, ◌*◌, ◌/◌, ◌%◌, rules}
use Rattle.avr_exec.specs.Registers.{register, with_stack}
use Rattle.kernel_entry.specs.Parts.{virtual_sp, memory_of, core_of, put_back}
use Rattle.kernel_entry.proofs.AtOnce.{out_low, out_high}
use Rattle.kernel_entry.proofs.at_once.write_stack_pointer.Goals as goal

pub returns-then-get-eq-SPL-clause-executed : goal.returns-then-get-eq-SPL-clause-executed
returns-then-get-eq-SPL-clause-executed c =
    let k = c.args.k.now in
    let next = c.keep_stack_pointer.new.k in
    let is : c.args.a.now ≡ 0x3D = search rules in
    let after : next ≡ put_back k (with_stack (core_of k 0) (virtual_sp k / 256 * 256 + register k.mote.cpu c.args.r.now)) (memory_of k) = search rules in
    λ yes. out_low k next c.args.a.now c.args.r.now is after

pub returns-then-get-eq-SPH-clause-executed : goal.returns-then-get-eq-SPH-clause-executed
returns-then-get-eq-SPH-clause-executed c =
    let k = c.args.k.now in
    let next = c.keep_stack_pointer-then-get-eq-SPH.new.k in
    let is : c.args.a.now ≡ 0x3E = search rules in
    let after : next ≡ put_back k (with_stack (core_of k 0) (register k.mote.cpu c.args.r.now * 256 + virtual_sp k % 256)) (memory_of k) = search rules in
    λ yes. out_high k next c.args.a.now c.args.r.now is after
