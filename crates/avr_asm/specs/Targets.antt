-- Where jumps lead, once all labels are known.
use Rattle.std.specs.Prelude.{ℕ, ℤ, pos, ◌-ℤ◌, ◌+◌, if◌then◌else◌, List, Option, Some, None, Result, Ok, Err}
use Rattle.std.specs.Result.{result_err}
use Rattle.avr_isa.specs.declared.form.Form.{Form}
use Rattle.avr_isa.specs.declared.form.Form.TheVariants as forms
use Rattle.avr_isa.specs.Instruction.{is_valid}
use Rattle.avr_asm.specs.declared.fault.AsmFault.{AsmFault}
use Rattle.avr_asm.specs.declared.fault.AsmFault.TheVariants as faults
use Rattle.avr_asm.specs.declared.line.Line.{Line}
use Rattle.avr_asm.specs.declared.mnemonic.FlagState.TheVariants.{Set, Clear}
use Rattle.avr_asm.specs.declared.mnemonic.Jump.{Jump}
use Rattle.avr_asm.specs.declared.mnemonic.Jump.TheVariants.{If, Rjmp, Rcall, Jmp, Call}
use Rattle.avr_asm.specs.declared.statement.Statement.{Statement}
use Rattle.avr_asm.specs.declared.statement.Statement.TheVariants.{To}
use Rattle.avr_asm.specs.declared.statement.Target.{Target}
use Rattle.avr_asm.specs.declared.statement.Target.TheVariants as targets
use Rattle.avr_asm.specs.SourceLines.{line_of}
use Rattle.avr_asm.specs.Addresses.{Label, Place, address_of}

-- from the word behind the one at pc to the target, as whole numbers: nothing wraps
abbrev pub distance : ℕ → ℕ → ℤ
distance pc target = pos target -ℤ pos (pc + 1)

-- the jump at pc to an address
abbrev pub jump_to : Jump → ℕ → ℕ → Form
jump_to (If Set s) pc target = forms.Brbs s (distance pc target)
jump_to (If Clear s) pc target = forms.Brbc s (distance pc target)
jump_to Rjmp pc target = forms.Rjmp (distance pc target)
jump_to Rcall pc target = forms.Rcall (distance pc target)
jump_to Jmp pc target = forms.Jmp target
jump_to Call pc target = forms.Call target

-- a jump whose field holds its distance
abbrev pub in_reach : Form → Result Form AsmFault
in_reach jump = if is_valid jump then Ok jump else Err faults.Reach

-- the jump to a label's address, where there is that label
abbrev pub jump_to_label : Jump → ℕ → Option ℕ → Result Form AsmFault
jump_to_label kind pc None = Err faults.Label
jump_to_label kind pc (Some address) = in_reach (jump_to kind pc address)

abbrev pub jump_of : List Label → ℕ → Jump → Target → Result Form AsmFault
jump_of labels pc kind (targets.At address) = in_reach (jump_to kind pc address)
jump_of labels pc kind (targets.Label name) = jump_to_label kind pc (address_of labels name.items)

-- What is wrong with a statement at pc, where all labels are known: the last two faults.
abbrev pub fault_of_statement : List Label → ℕ → Option Statement → Option AsmFault
fault_of_statement labels pc (Some (To kind target)) = result_err (jump_of labels pc kind target)
fault_of_statement labels pc _ = None

-- what is wrong with a line, which keeps a fault of its own
abbrev pub fault_of_line : List Label → ℕ → Result Line AsmFault → Option AsmFault
fault_of_line labels pc (Err fault) = Some fault
fault_of_line labels pc (Ok line) = fault_of_statement labels pc line.statement

-- what is wrong with the target of a line that stands at a place
abbrev pub target_fault_at : List Label → Place → List ℕ → Option AsmFault
target_fault_at labels place line = fault_of_line labels place.at (line_of line)
