-- Lines and texts, right and wrong, with what they say.
use Rattle.std.proofs.Common.{◌≡◌, [], ◌∷◌, codes, refl}
use Rattle.std.specs.Prelude.{Some, None}
use Rattle.input_script.specs.declared.input.Input.TheVariants.{Pin, Uart, Adc, Int}
use Rattle.input_script.specs.declared.line.Statement.TheVariants.{Nothing, At, FailFlash}
use Rattle.input_script.specs.declared.fault.ScriptFault.TheVariants.{Form, Order, Range}
use Rattle.input_script.specs.Grammar.{statement_of}
use Rattle.input_script.specs.Script.{IsScript, script_fault, nothing}

pub pins : statement_of (codes "at 1 pina 0x0f") ≡ Some (At 1 (Pin 0 15))
pins = refl

pub other_pins : statement_of (codes "at 1 pind 0xF0") ≡ Some (At 1 (Pin 3 240))
other_pins = refl

pub serial : statement_of (codes "at 0022 uart 0x41") ≡ Some (At 22 (Uart 65))
serial = refl

pub analog : statement_of (codes "at 7 adc 0x0A3") ≡ Some (At 7 (Adc 163))
analog = refl

pub interrupt : statement_of (codes "at 9 int 7") ≡ Some (At 9 (Int 7))
interrupt = refl

pub fail : statement_of (codes "fail flash 0012") ≡ Some (FailFlash 12)
fail = refl

pub comment : statement_of (codes "# at 1 int 7") ≡ Some Nothing
comment = refl

pub empty : statement_of [] ≡ Some Nothing
empty = refl

-- Values of other widths and bases have no form.
pub two_digits : statement_of (codes "at 1 adc 0xA3") ≡ None
two_digits = refl

pub three_digits : statement_of (codes "at 1 pinc 0x00F") ≡ None
three_digits = refl

pub two_of_an_interrupt : statement_of (codes "at 1 int 07") ≡ None
two_of_an_interrupt = refl

pub interrupt_8 : statement_of (codes "at 1 int 8") ≡ None
interrupt_8 = refl

pub no_mark : statement_of (codes "at 1 uart 41") ≡ None
no_mark = refl

pub capital_mark : statement_of (codes "at 1 uart 0X41") ≡ None
capital_mark = refl

-- Other words and other spaces haven't either.
pub other_kind : statement_of (codes "at 1 pine 0x0F") ≡ None
other_kind = refl

pub capital : statement_of (codes "At 1 int 7") ≡ None
capital = refl

pub two_spaces : statement_of (codes "at 1  int 7") ≡ None
two_spaces = refl

pub space_in_front : statement_of (codes " at 1 int 7") ≡ None
space_in_front = refl

pub space_behind : statement_of (codes "at 1 int 7 ") ≡ None
space_behind = refl

pub one_space : statement_of (codes " ") ≡ None
one_space = refl

pub no_value : statement_of (codes "at 1 int") ≡ None
no_value = refl

pub no_number : statement_of (codes "at  int 7") ≡ None
no_number = refl

pub hexadecimal_number : statement_of (codes "at 0x1 int 7") ≡ None
hexadecimal_number = refl

pub eleven_digits : statement_of (codes "at 00000000001 int 7") ≡ None
eleven_digits = refl

pub other_part : statement_of (codes "fail sram 1") ≡ None
other_part = refl

pub fail_alone : statement_of (codes "fail flash ") ≡ None
fail_alone = refl

-- An event, a fail line and a comment, and what they schedule.
pub three_lines : IsScript (codes "at 22 uart 0x41\nfail flash 0012\n# end\n") (record { events = record { at = 22; input = Uart 65 } ∷ []; failing = 12 ∷ [] })
three_lines = record { sound = refl; schedule_is = refl }

pub no_lines : IsScript [] nothing
no_lines = record { sound = refl; schedule_is = refl }

-- Each fault at its line, and the first of a line's faults; events and fail lines are in order each by themselves.
pub no_form : script_fault (codes "\nend\n") ≡ Some (2, Form)
no_form = refl

pub late : script_fault (codes "at 5 int 1\nat 5 int 2\nat 4 int 3\nend") ≡ Some (3, Order)
late = refl

pub late_failing : script_fault (codes "fail flash 2\nat 1 int 0\nfail flash 1\n") ≡ Some (3, Order)
late_failing = refl

pub either_order : script_fault (codes "fail flash 2\nat 1 int 0\nfail flash 2\n") ≡ None
either_order = refl

pub fail_zero : script_fault (codes "fail flash 0\n") ≡ Some (1, Range)
fail_zero = refl

pub large_number : script_fault (codes "at 4294967295 int 0\nat 4294967296 int 0\n") ≡ Some (2, Range)
large_number = refl

pub large_value : script_fault (codes "at 1 adc 0x3FF\nat 1 adc 0x400\n") ≡ Some (2, Range)
large_value = refl

pub order_before_range : script_fault (codes "at 5 int 1\nat 4 adc 0x400\n") ≡ Some (2, Order)
order_before_range = refl
