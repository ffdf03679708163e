-- Words that were added stand where they were added.
use Rattle.std.proofs.Common.{◌≡◌, ℕ, ◌+◌, List, [], ◌∷◌, ◌++◌, length, ap, refl, sym, ◌∙◌, arith}
use Rattle.std.specs.Prelude.{if◌then◌else◌, is_some, None, Some, Option, Result, Ok, Err, OnOk}
use Rattle.std.proofs.lemmas.List.{append_assoc, length-append, get_or-append-add}
use Rattle.avr_isa.specs.declared.form.Form.{Form}
use Rattle.avr_isa.specs.Encoding.{second_word, IsDecoded}
use Rattle.avr_isa.specs.Image.{word}
use Rattle.avr_isa.specs.Instruction.{size_of}
use Rattle.avr_encode.specs.declared.Words.{Words}
use Rattle.avr_encode.specs.Words.{BeginWith}
use Rattle.avr_asm.specs.Passes.{IsAddedInstruction}

-- what follows where a call succeeds
pub on_ok : {A E P Q : Type 0} (r : Result A E) → (P → Q) → OnOk r P → OnOk r Q
on_ok (Ok value) follows holds = follows holds
on_ok (Err error) follows holds = tt

-- the number of words, by the second of them
abbrev pub words_by : Option ℕ → ℕ
words_by second = if is_some second then 2 else 1

pub size_by : (f : Form) → size_of f ≡ words_by (second_word f)
unfolding size_of second_word
size_by f = refl

-- a word behind some others
first_behind : (old : List ℕ) (first : ℕ) (more : List ℕ) → word ((old ++ first ∷ []) ++ more) (length old) ≡ first
first_behind old first more =
    ap (λ words. word words (length old)) (append_assoc old (first ∷ []) more)
    ∙ ap (word (old ++ first ∷ more)) (omega arith)
    ∙ get_or-append-add old (first ∷ more) 0 0xFFFF

second_behind : (old : List ℕ) (first second : ℕ) (more : List ℕ) → word (((old ++ first ∷ []) ++ second ∷ []) ++ more) (length old + 1) ≡ second
second_behind old first second more =
    ap (λ words. word words (length old + 1)) (append_assoc (old ++ first ∷ []) (second ∷ []) more ∙ append_assoc old (first ∷ []) (second ∷ more))
    ∙ get_or-append-add old (first ∷ second ∷ more) 1 0xFFFF

-- an instruction of one word
pub one_added : (form : Form) (code : Words) (old : List ℕ) → code.second ≡ second_word form → ((a b : ℕ) → BeginWith code a b → IsDecoded a b (Some form)) → code.second ≡ None
    → IsAddedInstruction form old (old ++ code.first ∷ [])
one_added form code old second decodes none =
    let size : size_of form ≡ 1 = size_by form ∙ ap words_by (sym second ∙ none) in
    record {
      code = code.first ∷ [];
      joined = refl;
      size = length-append old (code.first ∷ []) ∙ ap (λ n. length old + n) (sym size);
      stands = λ more.
          record {
            inside = omega (arith, length-append (old ++ code.first ∷ []) more, length-append old (code.first ∷ []), size);
            decoded = decodes _ _ (record {
              opcode = first_behind old code.first more;
              address = rw none tt;
            });
          };
    }

-- an instruction of two words
pub two_added : (form : Form) (code : Words) (a : ℕ) (old : List ℕ) → code.second ≡ second_word form → ((a b : ℕ) → BeginWith code a b → IsDecoded a b (Some form)) → code.second ≡ Some a
    → IsAddedInstruction form old ((old ++ code.first ∷ []) ++ a ∷ [])
two_added form code a old second decodes some =
    let size : size_of form ≡ 2 = size_by form ∙ ap words_by (sym second ∙ some) in
    record {
      code = code.first ∷ a ∷ [];
      joined = append_assoc old (code.first ∷ []) (a ∷ []);
      size = length-append (old ++ code.first ∷ []) (a ∷ []) ∙ ap (λ n. n + 1) (length-append old (code.first ∷ [])) ∙ omega (arith, size);
      stands = λ more.
          record {
            inside = omega (arith, length-append ((old ++ code.first ∷ []) ++ a ∷ []) more, length-append (old ++ code.first ∷ []) (a ∷ []), length-append old (code.first ∷ []), size);
            decoded = decodes _ _ (record {
              opcode = rw (append_assoc (old ++ code.first ∷ [])) (first_behind old code.first (a ∷ more));
              address = rw some (second_behind old code.first a more);
            });
          };
    }
