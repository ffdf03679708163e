-- The test program that belongs to a seed.
use Rattle.std.specs.Prelude.{ℕ, zero, suc, ◌+◌, ◌/◌, ◌%◌, ◌^◌, ◌==◌, if◌then◌else◌, List, [], ◌∷◌, ◌++◌}
use Rattle.avr_isa.specs.declared.form.Form.{Form}
use Rattle.avr_isa.specs.declared.form.Form.TheVariants.{Two, One}
use Rattle.avr_isa.specs.declared.operation.TwoOp.TheVariants.{Add, Eor, Sub}
use Rattle.avr_isa.specs.declared.operation.OneOp.TheVariants.{Inc}
use Rattle.avr_isa.specs.Encoding.{first_word}
use Rattle.base.specs.Sequences.{next_number}

-- one of four instructions of the registers d and r
abbrev pub chosen : (choice d r : ℕ) → Form
chosen choice d r = if choice == 0 then Two Add d r else (if choice == 1 then Two Eor d r else (if choice == 2 then Two Sub d r else One Inc d))

-- the instruction that a number chooses: by its two highest bits, of two of the registers r16 to r23
abbrev pub instruction_of : ℕ → Form
instruction_of x = chosen (x / 2 ^ 30) (16 + x / 2 ^ 24 % 8) (16 + x / 2 ^ 16 % 8)

-- the words of the n numbers that follow x
unfoldable pub words_from : (x n : ℕ) → List ℕ
words_from x zero = []
words_from x (suc n) = first_word (instruction_of (next_number x)) ∷ words_from (next_number x) n

-- back to word 1 while r24, counted down, isn't 0; then r16 to r23 at PORTA, and an RJMP to its own address
abbrev pub ending : List ℕ
ending =
    0x958A ∷  -- DEC r24
    0xF011 ∷  -- BREQ, over the jump
    0x940C ∷ 0x0001 ∷  -- JMP 1
    0xBB0B ∷ 0xBB1B ∷ 0xBB2B ∷ 0xBB3B ∷  -- OUT PORTA of r16, r17, r18, r19
    0xBB4B ∷ 0xBB5B ∷ 0xBB6B ∷ 0xBB7B ∷  -- OUT PORTA of r20, r21, r22, r23
    0xCFFF ∷ []  -- RJMP to itself

-- the program of a seed: LDI r24,200, an instruction for each of 8,000 numbers, and the ending
unfoldable pub generated : (seed : ℕ) → List ℕ
generated seed = 0xEC88 ∷ words_from seed 8000 ++ ending
