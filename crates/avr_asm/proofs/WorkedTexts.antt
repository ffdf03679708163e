-- What is wrong with a text, tried on texts whose first fault is seen at a glance.
use Rattle.std.proofs.Common.{◌≡◌, ℕ, List, [], ◌∷◌, ◌++◌, codes, refl}
use Rattle.std.specs.Prelude.{Option, Some, None, map, replicate}
use Rattle.avr_isa.specs.Instruction.{fields_in_range, is_valid, size_of}
use Rattle.avr_isa.specs.UndefinedPairs.{is_undefined}
use Rattle.avr_asm.specs.declared.fault.AsmFault.{AsmFault}
use Rattle.avr_asm.specs.declared.fault.AsmFault.TheVariants.{Form, Mnemonic, Range, Twice, TooLarge, Label, Reach}
use Rattle.avr_asm.specs.Addresses.{Place, fault_at}
use Rattle.avr_asm.specs.AsmText.{fault_of, labels_of}
use Rattle.avr_asm.specs.Mnemonics.{operation_of}
use Rattle.avr_asm.specs.Numbers.{number_of}
use Rattle.avr_asm.specs.Operands.{is_name, name_of, operand_of, pointer_of, register_of}
use Rattle.avr_asm.specs.SourceLines.{statement_of}
use Rattle.avr_asm.specs.Statements.{meaning_of}

-- a text, and what is wrong with it
abbrev Row : Type 0
Row = List ℕ × Option (ℕ × AsmFault)

abbrev AreFaults : List Row → Type 0
AreFaults rows = map (λ (row : Row). fault_of row.0) rows ≡ map (λ (row : Row). row.1) rows

-- texts without a fault
abbrev sound : List Row
sound =
    (codes "", None)
    ∷ (codes "\n", None)
    ∷ (codes " \t\r\n", None)
    ∷ (codes "; a comment: r1, \n", None)
    ∷ (codes "a:nop", None)
    ∷ (codes "a: nop ; b:", None)
    ∷ (codes "a:", None)
    ∷ (codes "nop\na:", None)
    ∷ (codes "ldi r16,0xfF", None)
    ∷ (codes "ldi\tr16 ,\t255", None)
    ∷ (codes "y: nop", None)
    ∷ (codes "ld r1,-X", None)
    ∷ (codes "r32: rjmp r32", None)
    ∷ (codes "add: add r0, r1", None)
    ∷ (codes "R1: call R1", None)
    ∷ (codes "rjmp b\nb:", None)
    ∷ (codes "b: brne b", None)
    ∷ (codes "_9: .dw 4\n;\n", None)
    ∷ (codes "ldd r1,Y+0x3F", None)
    ∷ (codes "st Z, r31", None)
    ∷ (codes "lpm\nlpm r0, Z", None)
    ∷ (codes "jmp 65535", None)
    ∷ (codes "brbs 7, 0", None)
    ∷ []

-- faults of form
abbrev form : List Row
form =
    (codes "MOV r1, r2", Some (1, Form))
    ∷ (codes "foo1", Some (1, Form))
    ∷ (codes "a : nop", Some (1, Form))
    ∷ (codes ": nop", Some (1, Form))
    ∷ (codes "1a: nop", Some (1, Form))
    ∷ (codes "r1: nop", Some (1, Form))
    ∷ (codes "X: nop", Some (1, Form))
    ∷ (codes "a: b: nop", Some (1, Form))
    ∷ (codes "ldd r1, Y + 1", Some (1, Form))
    ∷ (codes "ld r1, - X", Some (1, Form))
    ∷ (codes "ldd r1, Y", Some (1, Form))
    ∷ (codes "ld r1, Y+1", Some (1, Form))
    ∷ (codes "ldi r16, 12345678901", Some (1, Form))
    ∷ (codes "ldi r16, 0X1", Some (1, Form))
    ∷ (codes "ldi r16, 0x", Some (1, Form))
    ∷ (codes "ldi r16, 0x123456789", Some (1, Form))
    ∷ (codes "ldi r32, 1", Some (1, Form))
    ∷ (codes "add r0", Some (1, Form))
    ∷ (codes "add r0, r1, r2", Some (1, Form))
    ∷ (codes "add r0,, r1", Some (1, Form))
    ∷ (codes "nop r0", Some (1, Form))
    ∷ (codes "st r0, X", Some (1, Form))
    ∷ (codes "out r1, 0", Some (1, Form))
    ∷ (codes "sts r1, 0", Some (1, Form))
    ∷ (codes "lpm r1, X", Some (1, Form))
    ∷ (codes "elpm r1, -Z", Some (1, Form))
    ∷ (codes "brbs x, 0", Some (1, Form))
    ∷ (codes "brbs 9, r1", Some (1, Form))
    ∷ (codes "rjmp X", Some (1, Form))
    ∷ (codes "nop\nldi r01, 1", Some (2, Form))
    ∷ (codes "foo -", Some (1, Form))
    ∷ (codes "nop,", Some (1, Form))
    ∷ (codes ".", Some (1, Form))
    ∷ (codes "..dw 1", Some (1, Form))
    ∷ (codes ". dw 1", Some (1, Form))
    ∷ []

-- unknown mnemonics
abbrev mnemonic : List Row
mnemonic =
    (codes "mvo r1, r2", Some (1, Mnemonic))
    ∷ (codes "sez", Some (1, Mnemonic))
    ∷ (codes "nop\nfoo 1, X, Y+1, a", Some (2, Mnemonic))
    ∷ (codes ".word 1", Some (1, Mnemonic))
    ∷ (codes "clr r1", Some (1, Mnemonic))
    ∷ (codes "a: nops", Some (1, Mnemonic))
    ∷ []

-- operands outside their fields
abbrev range : List Row
range =
    (codes "nop\nldi r15, 1", Some (2, Range))
    ∷ (codes "ld r26, X+", Some (1, Range))
    ∷ (codes "st -Y, r29", Some (1, Range))
    ∷ (codes "lpm r31, Z+", Some (1, Range))
    ∷ (codes "elpm r30, Z+", Some (1, Range))
    ∷ (codes "ldi r16, 256", Some (1, Range))
    ∷ (codes "movw r1, r2", Some (1, Range))
    ∷ (codes "adiw r25, 1", Some (1, Range))
    ∷ (codes "adiw r24, 64", Some (1, Range))
    ∷ (codes "muls r15, r16", Some (1, Range))
    ∷ (codes "fmul r24, r16", Some (1, Range))
    ∷ (codes "ldd r1, Y+64", Some (1, Range))
    ∷ (codes "lds r1, 0x10000", Some (1, Range))
    ∷ (codes "in r0, 64", Some (1, Range))
    ∷ (codes "cbi 32, 0", Some (1, Range))
    ∷ (codes "cbi 0, 8", Some (1, Range))
    ∷ (codes "bld r0, 8", Some (1, Range))
    ∷ (codes "bset 8", Some (1, Range))
    ∷ (codes "brbs 8, 0", Some (1, Range))
    ∷ (codes "brbc 0, 65536", Some (1, Range))
    ∷ (codes "rjmp 65536", Some (1, Range))
    ∷ (codes "jmp 0xFFFFFFFF", Some (1, Range))
    ∷ (codes ".dw 9999999999", Some (1, Range))
    ∷ []

-- labels that were there before, and targets
abbrev behind : List Row
behind =
    (codes "a: nop\na: nop", Some (2, Twice))
    ∷ (codes "a:\na:", Some (2, Twice))
    ∷ (codes "a: nop\na: ldi r15, 1", Some (2, Range))
    ∷ (codes "rjmp far\na:\na:", Some (3, Twice))
    ∷ (codes "brne 100\nrjmp far\nfoo", Some (3, Mnemonic))
    ∷ (codes "rjmp far", Some (1, Label))
    ∷ (codes "rjmp A\na:", Some (1, Label))
    ∷ (codes "brne 100", Some (1, Reach))
    ∷ (codes "brne 64", None)
    ∷ (codes "brne 65", Some (1, Reach))
    ∷ (codes "rjmp 2048", None)
    ∷ (codes "rjmp 2049", Some (1, Reach))
    ∷ (codes "rjmp 65535", Some (1, Reach))
    ∷ (codes "rcall 0", None)
    ∷ (codes "brne 100\nrjmp far", Some (1, Reach))
    ∷ (codes "nop\nrjmp far\nbrne 100", Some (2, Label))
    ∷ []

-- a name of 64 bytes, and one of 65
name_64 : List ℕ
name_64 = replicate 63 97 ++ codes "_"

abbrev longest : List Row
longest = (name_64 ++ codes ":", None) ∷ (name_64 ++ codes "a:", Some (1, Form)) ∷ (codes "rjmp a" ++ name_64, Some (1, Form)) ∷ []

-- each text has its fault
faulty : AreFaults (sound ++ form ++ mnemonic ++ range ++ behind ++ longest)
unfolding name_64 statement_of operation_of operand_of register_of pointer_of number_of name_of is_name meaning_of is_valid fields_in_range is_undefined size_of
faulty = refl

-- labels have addresses of words, a label behind the last statement the number of words
labels : labels_of (codes "a: nop\nb: call a\n.dw 1\nc:") ≡ (codes "c", 4) ∷ (codes "b", 1) ∷ (codes "a", 0) ∷ []
unfolding statement_of operation_of operand_of register_of pointer_of number_of name_of is_name meaning_of is_valid fields_in_range is_undefined size_of
labels = refl

-- the last words of an image, and what comes behind them
before_last : Place
before_last = record { at = 24575; labels = (codes "a", 7) ∷ [] }

behind_last : Place
behind_last = record { at = 24576; labels = (codes "a", 7) ∷ [] }

last_lines : fault_at before_last (codes "nop") ∷ fault_at before_last (codes "jmp 0") ∷ fault_at behind_last (codes "b:") ∷ fault_at behind_last (codes "nop") ∷ fault_at behind_last (codes "a: nop")
    ∷ fault_at behind_last (codes "nops") ∷ []
    ≡ None ∷ Some TooLarge ∷ None ∷ Some TooLarge ∷ Some Twice ∷ Some Mnemonic ∷ []
unfolding before_last behind_last statement_of operation_of operand_of register_of pointer_of number_of name_of is_name meaning_of is_valid fields_in_range is_undefined size_of
last_lines = refl
