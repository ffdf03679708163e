use Rattle.std.proofs.Common.{ap, rules, sym, tests, ◌∙◌}
use Rattle.avr_asm.specs.Targets.{jump_of}
use Rattle.avr_asm.proofs.SizeLaws.{jump_added}
use Rattle.avr_asm.proofs.WordLaws.{on_ok}
use Rattle.avr_asm.proofs.second_pass.add_jump.Goals as goal

pub returns-in-Ok-clause-added : goal.returns-in-Ok-clause-added
returns-in-Ok-clause-added c =
    on_ok c.add_instruction.result
    (λ added list has. jump_added list c.args.jump c.args.target.now c.in-Ok.instr c.args.words.now.items c.add_instruction.new.words.items
    (ap (λ pc. jump_of list pc c.args.jump c.args.target.now) (search (rules, tests)) ∙ sym (c.in-Ok.ensures.value list has)) added)
    c.add_instruction.ensures.added
