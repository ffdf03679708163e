-- Stubs: what stands in a page in the place of a jump to an original address.
use Rattle.std.specs.Prelude.{ℕ, pos, if◌then◌else◌, List, [], ◌∷◌, ◌++◌, map}
use Rattle.std.specs.List.{flat_map}
use Rattle.avr_isa.specs.Crossing.{is_crossing}
use Rattle.avr_isa.specs.declared.form.Form.{Form}
use Rattle.avr_isa.specs.declared.form.Form.TheVariants.{One, Lds, Sts, InIo, OutIo, Brbs}
use Rattle.avr_isa.specs.declared.operation.OneOp.TheVariants.{Dec}
use Rattle.sram_layout.specs.Cells.{count_cell, r24_cell, sreg_cell}
use Rattle.flash_words.specs.Jumps.{jump_word}
use Rattle.nat_template.specs.Words.{words_of_forms, sreg_field}
use Rattle.nat_template.specs.declared.piece.Piece.{Piece}
use Rattle.nat_template.specs.declared.piece.Piece.TheVariants.{Fixed, Link}

-- CALL, the first of its two words (AVR Instruction Set Manual, "CALL"), and the kernel's entries
abbrev pub call_word : ℕ
call_word = 0x940E

abbrev pub bridge_entry : ℕ
bridge_entry = 0xF000

abbrev pub quantum_entry : ℕ
quantum_entry = 0xF002

abbrev pub mem_entry : ℕ
mem_entry = 0xF004

abbrev pub push_return_entry : ℕ
push_return_entry = 0xF006

abbrev pub return_entry : ℕ
return_entry = 0xF008

abbrev pub indirect_entry : ℕ
indirect_entry = 0xF00A

abbrev pub self_entry : ℕ
self_entry = 0xF00C

abbrev pub fault_entry : ℕ
fault_entry = 0xF00E

-- a call of the kernel, with the word behind it that the service reads
abbrev pub service : ℕ → ℕ → List Piece
service entry word = Fixed call_word ∷ Fixed entry ∷ Fixed word ∷ []

-- JMP to a place, a word address of flash
abbrev pub jump_words : ℕ → List ℕ
jump_words place = jump_word ∷ place ∷ []

-- the words of a piece: a link leads to the kernel's bridge until it is resolved
abbrev pub words_of_piece : Piece → List ℕ
words_of_piece (Fixed word) = word ∷ []
words_of_piece (Link target) = call_word ∷ bridge_entry ∷ target ∷ []

-- the words of pieces that follow one another
abbrev pub words_of : List Piece → List ℕ
words_of pieces = flat_map words_of_piece pieces

-- Before a crossing one is taken off COUNT, with r24 and SREG kept in their cells: STS R24, r24; IN r24, SREG; STS SREG
-- cell, r24; LDS r24, COUNT; DEC r24; STS COUNT, r24. At 0 the quantum is over: BREQ over the next eight words, of which
-- the first five put both back: LDS r24, SREG cell; OUT SREG, r24; LDS r24, R24.
abbrev pub count_down : List Form
count_down =
    Sts r24_cell 24 ∷ InIo 24 sreg_field ∷ Sts sreg_cell 24 ∷ Lds 24 count_cell ∷ One Dec 24 ∷ Sts count_cell 24
    ∷ Brbs 1 (pos 8) ∷ Lds 24 sreg_cell ∷ OutIo sreg_field 24 ∷ Lds 24 r24_cell ∷ []

abbrev pub crossing_stub : ℕ → List Piece
crossing_stub target = map (λ word. Fixed word) (words_of_forms count_down) ++ Link target ∷ service quantum_entry target

-- the stub for the step from an address to another: a link alone, unless that is a crossing
unfoldable pub stub : ℕ → ℕ → List Piece
stub from to = if is_crossing from to then crossing_stub to else Link to ∷ []
