-- One line of a script, in this project's own forms: `at N KIND 0xVALUE`, `at N int K`, `fail flash N`, a comment, or nothing.
-- The kinds of device input are the pins of ports A to D (ATmega128 datasheet, "I/O Ports"), the serial port ("USART"),
-- the converter ("Analog to Digital Converter") and the lines INT0 to INT7 ("External Interrupts").
use Rattle.std.specs.Prelude.{ℕ, ◌==◌, ◌&&◌, ◌||◌, Bool, nat_le, if◌then◌else◌, List, [], ◌∷◌, length, slice_index, codes, bytes_eq, Option, Some, None, option_map, option_and_then}
use Rattle.std.specs.List.{list_all, slice_split}
use Rattle.std.specs.Char.{is_digit}
use Rattle.std.specs.Str.Parse.{digits_value}
use Rattle.text_lines.specs.Stripping.{stripped}
use Rattle.input_script.specs.declared.input.Input.{Input}
use Rattle.input_script.specs.declared.input.Input.TheVariants.{Pin, Uart, Adc, Int}
use Rattle.input_script.specs.declared.line.Statement.{Statement}
use Rattle.input_script.specs.declared.line.Statement.TheVariants.{Nothing, At, FailFlash}

-- the number that exactly so many digits of a base write, of either case
abbrev pub digits_in : (radix width : ℕ) → List ℕ → Option ℕ
digits_in radix width text = if (length text == width) && list_all (λ b. is_digit b radix) text then Some (digits_value radix text) else None

-- the number that 1 to 10 decimal digits write
abbrev pub number_of : List ℕ → Option ℕ
number_of text = if nat_le 1 (length text) && nat_le (length text) 10 then digits_in 10 (length text) text else None

-- `0x`, and exactly so many hexadecimal digits
abbrev pub hex_in : (width : ℕ) → List ℕ → Option ℕ
hex_in width text = option_and_then (digits_in 16 width) (stripped (codes "0x") text)

-- the input that a kind's word and a value write: of an interrupt one digit, 0 to 7
abbrev pub input_in : (word value : List ℕ) → Option Input
input_in word value =
    if bytes_eq word (codes "pina") then option_map (Pin 0) (hex_in 2 value)
    else if bytes_eq word (codes "pinb") then option_map (Pin 1) (hex_in 2 value)
    else if bytes_eq word (codes "pinc") then option_map (Pin 2) (hex_in 2 value)
    else if bytes_eq word (codes "pind") then option_map (Pin 3) (hex_in 2 value)
    else if bytes_eq word (codes "uart") then option_map Uart (hex_in 2 value)
    else if bytes_eq word (codes "adc") then option_map Adc (hex_in 3 value)
    else if bytes_eq word (codes "int") then option_map Int (digits_in 8 1 value)
    else None

-- what the words of a line say, where they are a fail line or an event
abbrev pub said_in : List (List ℕ) → Option Statement
said_in (fail ∷ flash ∷ number ∷ []) = if bytes_eq fail (codes "fail") && bytes_eq flash (codes "flash") then option_map FailFlash (number_of number) else None
said_in (at ∷ number ∷ word ∷ value ∷ []) =
    if bytes_eq at (codes "at") then option_and_then (λ n. option_map (At n) (input_in word value)) (number_of number) else None
said_in words = None

-- the words of a line, with one space between each two
abbrev pub words_of : List ℕ → List (List ℕ)
words_of line = slice_split (λ b. b == 32) line

-- a line that is empty or begins with `#`
abbrev pub is_skipped : List ℕ → Bool
is_skipped line = (length line == 0) || (slice_index line 0 == 35)

-- what a line says, where it has a form
abbrev pub statement_of : List ℕ → Option Statement
statement_of line = if is_skipped line then Some Nothing else said_in (words_of line)
