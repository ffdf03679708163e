-- The table of mnemonics: the words of each instruction with the least and the greatest of each of its
-- operands, at word 2,048, as avr-as and avr-ld of binutils make them (`-mmcu=atmega128`).
use Rattle.std.proofs.Common.{◌≡◌, ℕ, List, [], ◌∷◌, ◌++◌, codes, refl}
use Rattle.std.specs.Prelude.{Option, Some, None, Result, Ok, Err, map}
use Rattle.std.specs.List.{flat_map}
use Rattle.text_lines.specs.Lines.{lines_of}
use Rattle.avr_isa.specs.declared.form.Form.{Form}
use Rattle.avr_isa.specs.Encoding.{first_word, second_word}
use Rattle.avr_isa.specs.Instruction.{fields_in_range, is_valid}
use Rattle.avr_isa.specs.UndefinedPairs.{is_undefined}
use Rattle.avr_asm.specs.declared.fault.AsmFault.{AsmFault}
use Rattle.avr_asm.specs.declared.line.Line.{Line}
use Rattle.avr_asm.specs.declared.statement.Statement.{Statement}
use Rattle.avr_asm.specs.declared.statement.Statement.TheVariants.{Ready, To, Word}
use Rattle.avr_asm.specs.Mnemonics.{operation_of}
use Rattle.avr_asm.specs.Numbers.{number_of}
use Rattle.avr_asm.specs.Operands.{is_name, name_of, operand_of, pointer_of, register_of}
use Rattle.avr_asm.specs.SourceLines.{line_of, statement_of}
use Rattle.avr_asm.specs.Statements.{meaning_of}
use Rattle.avr_asm.specs.Targets.{jump_of}

second_of : Option ℕ → List ℕ
second_of None = []
second_of (Some word) = word ∷ []

words_of_form : Form → List ℕ
words_of_form form = first_word form ∷ second_of (second_word form)

words_of_jump : Result Form AsmFault → List ℕ
words_of_jump (Ok form) = words_of_form form
words_of_jump (Err fault) = []

words_of_statement : Option Statement → List ℕ
words_of_statement None = []
words_of_statement (Some (Ready form)) = words_of_form form
words_of_statement (Some (To kind target)) = words_of_jump (jump_of [] 2048 kind target)
words_of_statement (Some (Word word)) = word ∷ []

words_of_line : Result Line AsmFault → List ℕ
words_of_line (Ok line) = words_of_statement line.statement
words_of_line (Err fault) = []

words_of : List ℕ → List ℕ
words_of text = flat_map (λ (line : List ℕ). words_of_line (line_of line)) (lines_of text)

-- lines, and the words of each at word 2,048
abbrev Row : Type 0
Row = List ℕ × List ℕ

abbrev AreWords : List Row → Type 0
AreWords rows = map (λ (row : Row). words_of row.0) rows ≡ map (λ (row : Row). row.1) rows

-- without operands
abbrev bare : List Row
bare =
    (codes "nop\nret\nreti\nijmp\nicall", 0x0000 ∷ 0x9508 ∷ 0x9518 ∷ 0x9409 ∷ 0x9509 ∷ [])
    ∷ (codes "sleep\nbreak\nwdr\nspm\nsei", 0x9588 ∷ 0x9598 ∷ 0x95A8 ∷ 0x95E8 ∷ 0x9478 ∷ [])
    ∷ (codes "cli\nlpm\nelpm", 0x94F8 ∷ 0x95C8 ∷ 0x95D8 ∷ [])
    ∷ []

-- of two registers of r0 to r31
abbrev two_registers_all : List Row
two_registers_all =
    (codes "add r0, r31\nadd r31, r0", 0x0E0F ∷ 0x0DF0 ∷ [])
    ∷ (codes "adc r0, r31\nadc r31, r0", 0x1E0F ∷ 0x1DF0 ∷ [])
    ∷ (codes "sub r0, r31\nsub r31, r0", 0x1A0F ∷ 0x19F0 ∷ [])
    ∷ (codes "sbc r0, r31\nsbc r31, r0", 0x0A0F ∷ 0x09F0 ∷ [])
    ∷ (codes "and r0, r31\nand r31, r0", 0x220F ∷ 0x21F0 ∷ [])
    ∷ (codes "or r0, r31\nor r31, r0", 0x2A0F ∷ 0x29F0 ∷ [])
    ∷ (codes "eor r0, r31\neor r31, r0", 0x260F ∷ 0x25F0 ∷ [])
    ∷ (codes "mov r0, r31\nmov r31, r0", 0x2E0F ∷ 0x2DF0 ∷ [])
    ∷ (codes "cp r0, r31\ncp r31, r0", 0x160F ∷ 0x15F0 ∷ [])
    ∷ (codes "cpc r0, r31\ncpc r31, r0", 0x060F ∷ 0x05F0 ∷ [])
    ∷ (codes "cpse r0, r31\ncpse r31, r0", 0x120F ∷ 0x11F0 ∷ [])
    ∷ (codes "mul r0, r31\nmul r31, r0", 0x9E0F ∷ 0x9DF0 ∷ [])
    ∷ []

-- of two registers of fewer
abbrev two_registers_some : List Row
two_registers_some =
    (codes "movw r0, r30\nmovw r30, r0", 0x010F ∷ 0x01F0 ∷ [])
    ∷ (codes "muls r16, r31\nmuls r31, r16", 0x020F ∷ 0x02F0 ∷ [])
    ∷ (codes "mulsu r16, r23\nmulsu r23, r16", 0x0307 ∷ 0x0370 ∷ [])
    ∷ (codes "fmul r16, r23\nfmul r23, r16", 0x030F ∷ 0x0378 ∷ [])
    ∷ (codes "fmuls r16, r23\nfmuls r23, r16", 0x0387 ∷ 0x03F0 ∷ [])
    ∷ (codes "fmulsu r16, r23\nfmulsu r23, r16", 0x038F ∷ 0x03F8 ∷ [])
    ∷ []

-- of a register and a constant
abbrev constants : List Row
constants =
    (codes "ldi r16, 255\nldi r31, 0", 0xEF0F ∷ 0xE0F0 ∷ [])
    ∷ (codes "cpi r16, 255\ncpi r31, 0", 0x3F0F ∷ 0x30F0 ∷ [])
    ∷ (codes "subi r16, 255\nsubi r31, 0", 0x5F0F ∷ 0x50F0 ∷ [])
    ∷ (codes "sbci r16, 255\nsbci r31, 0", 0x4F0F ∷ 0x40F0 ∷ [])
    ∷ (codes "ori r16, 255\nori r31, 0", 0x6F0F ∷ 0x60F0 ∷ [])
    ∷ (codes "andi r16, 255\nandi r31, 0", 0x7F0F ∷ 0x70F0 ∷ [])
    ∷ (codes "adiw r24, 63\nadiw r30, 0", 0x96CF ∷ 0x9630 ∷ [])
    ∷ (codes "sbiw r24, 63\nsbiw r30, 0", 0x97CF ∷ 0x9730 ∷ [])
    ∷ []

-- of one register
abbrev one_register : List Row
one_register =
    (codes "com r0\ncom r31", 0x9400 ∷ 0x95F0 ∷ [])
    ∷ (codes "neg r0\nneg r31", 0x9401 ∷ 0x95F1 ∷ [])
    ∷ (codes "swap r0\nswap r31", 0x9402 ∷ 0x95F2 ∷ [])
    ∷ (codes "inc r0\ninc r31", 0x9403 ∷ 0x95F3 ∷ [])
    ∷ (codes "asr r0\nasr r31", 0x9405 ∷ 0x95F5 ∷ [])
    ∷ (codes "lsr r0\nlsr r31", 0x9406 ∷ 0x95F6 ∷ [])
    ∷ (codes "ror r0\nror r31", 0x9407 ∷ 0x95F7 ∷ [])
    ∷ (codes "dec r0\ndec r31", 0x940A ∷ 0x95FA ∷ [])
    ∷ (codes "push r0\npush r31", 0x920F ∷ 0x93FF ∷ [])
    ∷ (codes "pop r0\npop r31", 0x900F ∷ 0x91FF ∷ [])
    ∷ []

-- of each register
abbrev registers : List Row
registers =
    (codes "push r0\npush r1\npush r2\npush r3\npush r4\npush r5\npush r6\npush r7", 0x920F ∷ 0x921F ∷ 0x922F ∷ 0x923F ∷ 0x924F ∷ 0x925F ∷ 0x926F ∷ 0x927F ∷ [])
    ∷ (codes "push r8\npush r9\npush r10\npush r11\npush r12\npush r13\npush r14\npush r15", 0x928F ∷ 0x929F ∷ 0x92AF ∷ 0x92BF ∷ 0x92CF ∷ 0x92DF ∷ 0x92EF ∷ 0x92FF ∷ [])
    ∷ (codes "push r16\npush r17\npush r18\npush r19\npush r20\npush r21\npush r22\npush r23", 0x930F ∷ 0x931F ∷ 0x932F ∷ 0x933F ∷ 0x934F ∷ 0x935F ∷ 0x936F ∷ 0x937F ∷ [])
    ∷ (codes "push r24\npush r25\npush r26\npush r27\npush r28\npush r29\npush r30\npush r31", 0x938F ∷ 0x939F ∷ 0x93AF ∷ 0x93BF ∷ 0x93CF ∷ 0x93DF ∷ 0x93EF ∷ 0x93FF ∷ [])
    ∷ []

-- LD through each pointer
abbrev loads : List Row
loads =
    (codes "ld r0, X\nld r31, X", 0x900C ∷ 0x91FC ∷ [])
    ∷ (codes "ld r0, X+\nld r31, X+", 0x900D ∷ 0x91FD ∷ [])
    ∷ (codes "ld r0, -X\nld r31, -X", 0x900E ∷ 0x91FE ∷ [])
    ∷ (codes "ld r0, Y\nld r31, Y", 0x8008 ∷ 0x81F8 ∷ [])
    ∷ (codes "ld r0, Y+\nld r31, Y+", 0x9009 ∷ 0x91F9 ∷ [])
    ∷ (codes "ld r0, -Y\nld r31, -Y", 0x900A ∷ 0x91FA ∷ [])
    ∷ (codes "ld r0, Z\nld r31, Z", 0x8000 ∷ 0x81F0 ∷ [])
    ∷ (codes "ld r0, Z+\nld r29, Z+", 0x9001 ∷ 0x91D1 ∷ [])
    ∷ (codes "ld r0, -Z\nld r29, -Z", 0x9002 ∷ 0x91D2 ∷ [])
    ∷ []

-- ST through each pointer
abbrev stores : List Row
stores =
    (codes "st X, r0\nst X, r31", 0x920C ∷ 0x93FC ∷ [])
    ∷ (codes "st X+, r0\nst X+, r31", 0x920D ∷ 0x93FD ∷ [])
    ∷ (codes "st -X, r0\nst -X, r31", 0x920E ∷ 0x93FE ∷ [])
    ∷ (codes "st Y, r0\nst Y, r31", 0x8208 ∷ 0x83F8 ∷ [])
    ∷ (codes "st Y+, r0\nst Y+, r31", 0x9209 ∷ 0x93F9 ∷ [])
    ∷ (codes "st -Y, r0\nst -Y, r31", 0x920A ∷ 0x93FA ∷ [])
    ∷ (codes "st Z, r0\nst Z, r31", 0x8200 ∷ 0x83F0 ∷ [])
    ∷ (codes "st Z+, r0\nst Z+, r29", 0x9201 ∷ 0x93D1 ∷ [])
    ∷ (codes "st -Z, r0\nst -Z, r29", 0x9202 ∷ 0x93D2 ∷ [])
    ∷ []

-- with a displacement
abbrev displaced : List Row
displaced =
    (codes "ldd r0, Y+63\nldd r31, Y+0", 0xAC0F ∷ 0x81F8 ∷ [])
    ∷ (codes "ldd r0, Z+63\nldd r31, Z+0", 0xAC07 ∷ 0x81F0 ∷ [])
    ∷ (codes "std Y+63, r0\nstd Y+0, r31", 0xAE0F ∷ 0x83F8 ∷ [])
    ∷ (codes "std Z+63, r0\nstd Z+0, r31", 0xAE07 ∷ 0x83F0 ∷ [])
    ∷ []

-- of a register and an address, an I/O field, or a place in the program
abbrev addresses : List Row
addresses =
    (codes "lds r0, 0xFFFF\nlds r31, 0", 0x9000 ∷ 0xFFFF ∷ 0x91F0 ∷ 0x0000 ∷ [])
    ∷ (codes "sts 0xFFFF, r0\nsts 0, r31", 0x9200 ∷ 0xFFFF ∷ 0x93F0 ∷ 0x0000 ∷ [])
    ∷ (codes "in r0, 63\nin r31, 0", 0xB60F ∷ 0xB1F0 ∷ [])
    ∷ (codes "out 63, r0\nout 0, r31", 0xBE0F ∷ 0xB9F0 ∷ [])
    ∷ (codes "lpm r0, Z\nlpm r31, Z", 0x9004 ∷ 0x91F4 ∷ [])
    ∷ (codes "lpm r0, Z+\nlpm r29, Z+", 0x9005 ∷ 0x91D5 ∷ [])
    ∷ (codes "elpm r0, Z\nelpm r31, Z", 0x9006 ∷ 0x91F6 ∷ [])
    ∷ (codes "elpm r0, Z+\nelpm r29, Z+", 0x9007 ∷ 0x91D7 ∷ [])
    ∷ []

-- of a bit
abbrev bits : List Row
bits =
    (codes "cbi 0, 7\ncbi 31, 0", 0x9807 ∷ 0x98F8 ∷ [])
    ∷ (codes "sbi 0, 7\nsbi 31, 0", 0x9A07 ∷ 0x9AF8 ∷ [])
    ∷ (codes "sbic 0, 7\nsbic 31, 0", 0x9907 ∷ 0x99F8 ∷ [])
    ∷ (codes "sbis 0, 7\nsbis 31, 0", 0x9B07 ∷ 0x9BF8 ∷ [])
    ∷ (codes "bld r0, 7\nbld r31, 0", 0xF807 ∷ 0xF9F0 ∷ [])
    ∷ (codes "bst r0, 7\nbst r31, 0", 0xFA07 ∷ 0xFBF0 ∷ [])
    ∷ (codes "sbrc r0, 7\nsbrc r31, 0", 0xFC07 ∷ 0xFDF0 ∷ [])
    ∷ (codes "sbrs r0, 7\nsbrs r31, 0", 0xFE07 ∷ 0xFFF0 ∷ [])
    ∷ (codes "bset 0\nbset 7", 0x9408 ∷ 0x9478 ∷ [])
    ∷ (codes "bclr 0\nbclr 7", 0x9488 ∷ 0x94F8 ∷ [])
    ∷ []

-- of a flag and a target
abbrev branches : List Row
branches =
    (codes "brbs 0, 2112\nbrbs 7, 1985", 0xF1F8 ∷ 0xF207 ∷ [])
    ∷ (codes "brbc 0, 2112\nbrbc 7, 1985", 0xF5F8 ∷ 0xF607 ∷ [])
    ∷ (codes "breq 2112\nbreq 1985", 0xF1F9 ∷ 0xF201 ∷ [])
    ∷ (codes "brne 2112\nbrne 1985", 0xF5F9 ∷ 0xF601 ∷ [])
    ∷ (codes "brlo 2112\nbrlo 1985", 0xF1F8 ∷ 0xF200 ∷ [])
    ∷ (codes "brsh 2112\nbrsh 1985", 0xF5F8 ∷ 0xF600 ∷ [])
    ∷ []

-- of a target, and words as they are
abbrev jumps : List Row
jumps =
    (codes "rjmp 4096\nrjmp 1", 0xC7FF ∷ 0xC800 ∷ [])
    ∷ (codes "rcall 4096\nrcall 1", 0xD7FF ∷ 0xD800 ∷ [])
    ∷ (codes "jmp 0\njmp 0xFFFF", 0x940C ∷ 0x0000 ∷ 0x940C ∷ 0xFFFF ∷ [])
    ∷ (codes "call 0\ncall 0xFFFF", 0x940E ∷ 0x0000 ∷ 0x940E ∷ 0xFFFF ∷ [])
    ∷ (codes ".dw 0\n.dw 0xFFFF", 0x0000 ∷ 0xFFFF ∷ [])
    ∷ (codes ".dw 0x1234", 0x1234 ∷ [])
    ∷ []

-- each line has its words
worded : AreWords (bare ++ two_registers_all ++ two_registers_some ++ constants ++ one_register ++ registers ++ loads ++ stores ++ displaced ++ addresses ++ bits ++ branches ++ jumps)
unfolding words_of words_of_line words_of_statement words_of_jump words_of_form second_of statement_of operation_of operand_of register_of pointer_of number_of name_of
    is_name meaning_of is_valid fields_in_range is_undefined first_word second_word
worded = refl
