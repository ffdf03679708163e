-- Words that begin with an instruction's words are its row, and the other way round.
use Rattle.std.proofs.Common.{◌≡◌, ℕ, IsTrue, ◌∙◌, sym}
use Rattle.avr_isa.specs.declared.form.Form.{Form}
use Rattle.avr_isa.specs.Instruction.{is_valid}
use Rattle.avr_isa.specs.Encoding.{first_word, second_word, IsRow}
use Rattle.decode_laws.proofs.Decoded.{the_form_only}
use Rattle.avr_encode.specs.declared.Words.{Words}
use Rattle.avr_encode.specs.Words.{BeginWith}
use Rattle.avr_encode.proofs.encode.Goals as goal

row_of : (f : Form) (words : Words) (a b : ℕ) → words.first ≡ first_word f → words.second ≡ second_word f → BeginWith words a b → IsRow f a b
row_of f words a b opcode address begin =
    record {
      opcode = begin.opcode ∙ opcode;
      address = rw address at begin.address;
    }

begins : (f : Form) (words : Words) (a b : ℕ) → words.first ≡ first_word f → words.second ≡ second_word f → IsRow f a b → BeginWith words a b
begins f words a b opcode address row =
    record {
      opcode = row.opcode ∙ sym opcode;
      address = rw address row.address;
    }

pub returns-clause-decodes : goal.returns-clause-decodes
returns-clause-decodes c = λ a b begin.
    let valid : IsTrue (is_valid c.args.i.now) = rw (← c.form-form.ensures.value) c.form-form.ensures.valid in
    let row = row_of c.args.i.now _ a b (cc) (cc) begin in
    record {
      row = (valid, row);
      only = λ f other also. sym (the_form_only c.args.i.now a b valid row) ∙ the_form_only f a b other also;
    }

pub returns-clause-only : goal.returns-clause-only
returns-clause-only c = λ a b decoded. begins c.args.i.now _ a b (cc) (cc) decoded.row.1
