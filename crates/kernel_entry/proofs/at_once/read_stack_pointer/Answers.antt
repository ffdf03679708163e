use Rattle.std.proofs.Common.{◌≡◌, ◌/◌, ◌%◌, rules}
use Rattle.avr_exec.specs.Registers.{with_register}
use Rattle.kernel_entry.specs.Parts.{virtual_sp, memory_of, core_of, put_back}
use Rattle.kernel_entry.proofs.AtOnce.{in_low, in_high}
use Rattle.kernel_entry.proofs.at_once.read_stack_pointer.Goals as goal

pub returns-then-get-eq-SPL-clause-executed : goal.returns-then-get-eq-SPL-clause-executed
returns-then-get-eq-SPL-clause-executed c =
    let k = c.args.k.now in
    let is : c.args.a.now ≡ 0x3D = search rules in
    let after : c.keep_byte.new.k ≡ put_back k (with_register (core_of k 0) c.args.d.now (virtual_sp k % 256)) (memory_of k) = search rules in
    λ yes. in_low k c.keep_byte.new.k c.args.d.now c.args.a.now is after

pub returns-then-get-eq-SPH-clause-executed : goal.returns-then-get-eq-SPH-clause-executed
returns-then-get-eq-SPH-clause-executed c =
    let k = c.args.k.now in
    let next = c.keep_byte-then-get-eq-SPH.new.k in
    let is : c.args.a.now ≡ 0x3E = search rules in
    let after : next ≡ put_back k (with_register (core_of k 0) c.args.d.now (virtual_sp k / 256)) (memory_of k) = search rules in
    λ yes. in_high k next c.args.d.now c.args.a.now is after
