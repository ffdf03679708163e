-- `the_form` is the meaning of two words.
use Rattle.std.proofs.Common.{◌≡◌, ℕ, ◌+◌, ◌%◌, ◌<◌, List, Option, Some, IsTrue}
use Rattle.avr_isa.specs.declared.form.Form.{Form}
use Rattle.avr_isa.specs.Instruction.{is_valid}
use Rattle.avr_isa.specs.Encoding.{IsRow, IsDecoded}
use Rattle.avr_isa.specs.Image.{word}
use Rattle.avr_decode.specs.Decoding.{the_form}
use Rattle.avr_decode.specs.Program.{instruction_at}
use Rattle.decode_laws.proofs.Complete.{complete}
use Rattle.decode_laws.proofs.Sound.{sound}

-- a valid form that has these words is what they mean
pub the_form_only : (f : Form) (first second : ℕ) → IsTrue (is_valid f) → IsRow f first second → the_form first second ≡ Some f
the_form_only f first second valid row = rw row.opcode (complete f second valid row.address)

-- what two words mean is valid and has these words
pub the_form_row : (f : Form) (first second : ℕ) → first < 65536 → second < 65536 → the_form first second ≡ Some f → IsTrue (is_valid f) × IsRow f first second
the_form_row f first second first_fits second_fits same = rw same at (sound first second first_fits second_fits)

pub the_form_is_decoded : (first second : ℕ) → first < 65536 → second < 65536 → IsDecoded first second (the_form first second)
the_form_is_decoded first second first_fits second_fits =
    record { row = sound first second first_fits second_fits; only = λ f. the_form_only f first second }

pub decoded_of : (first second : ℕ) (o : Option Form) → first < 65536 → second < 65536 → o ≡ the_form first second → IsDecoded first second o
decoded_of first second o first_fits second_fits same = rw same (the_form_is_decoded first second first_fits second_fits)

-- and so is what an image of words has at an address
pub valid_at : (image : List ℕ) (a : ℕ) (f : Form) → ((a : ℕ) → word image a < 65536) → instruction_at image a ≡ Some f → IsTrue (is_valid f)
valid_at image a f words is = (the_form_row f (word image a) (word image ((a + 1) % 65536)) (words a) (words ((a + 1) % 65536)) is).0
