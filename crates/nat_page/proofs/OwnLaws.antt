-- An instruction that has its own word for a template: what is read of it, and a draft that takes it.
use Rattle.std.proofs.Common.{◌≡◌, ℕ, ◌+◌, ◌*◌, ◌/◌, ◌%◌, ◌≤◌, false, List, [], ◌∷◌, ◌++◌, if◌then◌else◌, arith, refl, sym, ap, ap₂, ◌∙◌}
use Rattle.avr_isa.specs.Image.{word}
use Rattle.avr_decode.specs.Program.{instruction_at}
use Rattle.decode_laws.proofs.Lengths.{the_form-size}
use Rattle.flash_words.specs.Pages.{page_words}
use Rattle.flash_words.specs.declared.layout.Layout.{Layout}
use Rattle.nat_template.specs.declared.piece.Piece.TheVariants.{Fixed}
use Rattle.nat_template.specs.declared.shapes.TemplateShape.TheVariants.{Native}
use Rattle.nat_template.specs.Shapes.{shape_of}
use Rattle.nat_template.specs.Stubs.{stub}
use Rattle.nat_template.specs.Templates.{template_by}
use Rattle.nat_template.proofs.Sizes.{native_size}
use Rattle.page_draft.specs.declared.instruction.Instruction.{Instruction}
use Rattle.page_draft.specs.declared.draft.Draft.{Draft}
use Rattle.page_draft.specs.Standing.{size}
use Rattle.page_draft.specs.Runs.{is_closed, never_returns, shape_at, size_at, next_of, template_at, closing_at, ends_at}
use Rattle.page_draft.specs.Drafts.{IsRead, Adds, code_of}
use Rattle.page_draft.proofs.RunLaws.{same_second}
use Rattle.nat_page.specs.Making.{HasNoEntry}
use Rattle.nat_page.specs.Drafts.{GoesOn, IsDrafting, IsOwn, own_instruction}

shape_is : (image : List ℕ) (pc first : ℕ) → IsOwn image pc first → shape_at image pc ≡ Native
shape_is image pc first own = ap (shape_of pc) (same_second image pc own.inside own.short ∙ own.is) ∙ own.native

size_is : (image : List ℕ) (pc first : ℕ) → IsOwn image pc first → size_at image pc ≡ 1
size_is image pc first own =
    sym (the_form-size (word image pc) (word image (pc + 1)) own.form (omega (arith, own.own, own.fits)) own.is)
    ∙ native_size pc own.form own.native

one_word : (pc first n : ℕ) (image : List ℕ) → template_by Native pc first (instruction_at image pc) n ≡ Fixed first ∷ []
unfolding template_by
one_word pc first n image = refl

module _ (image : List ℕ) (pc first : ℕ) (own : IsOwn image pc first) where
  template_is : template_at image pc ≡ Fixed first ∷ []
  template_is =
      ap₂ (λ s w. template_by s pc w (instruction_at image pc) (size_at image (pc + 1))) (shape_is image pc first own) own.own
      ∙ one_word pc first (size_at image (pc + 1)) image

  closing_is : closing_at image pc ≡ stub pc (pc + 1)
  closing_is =
      ap (λ s. if is_closed s then stub pc (next_of image pc) else []) (shape_is image pc first own)
      ∙ ap (λ n. stub pc (pc + n)) (size_is image pc first own)

  ends_is : ends_at image pc ≡ false
  ends_is = ap (λ s. never_returns s (instruction_at image pc)) (shape_is image pc first own)

  next_is : next_of image pc ≡ pc + 1
  next_is = ap (λ n. pc + n) (size_is image pc first own)

pub own_code : (image : List ℕ) (pc first : ℕ) → code_of (own_instruction image pc first) ≡ Fixed first ∷ []
own_code image pc first = one_word pc first (size_at image (pc + 1)) image

pub own_read : (image : List ℕ) (pc first : ℕ) → IsOwn image pc first → IsRead image (own_instruction image pc first)
own_read image pc first own = record {
  next = sym (next_is image pc first own);
  ends = sym (ends_is image pc first own);
  code = own_code image pc first ∙ sym (template_is image pc first own);
  code_size = sym (ap size (template_is image pc first own));
  closing = sym (closing_is image pc first own);
  closing_size = sym (ap size (closing_is image pc first own));
}

-- a draft in front of an instruction, however that was read
pub drafting_again : (layout : Layout) (image words : List ℕ) (t : ℕ) (draft : Draft) (here here' : Instruction) → IsDrafting layout image words t draft here → here'.pc ≡ here.pc → IsRead image here'
    → IsDrafting layout image words t draft here'
drafting_again layout image words t draft here here' drafting same read = record {
  last = drafting.last;
  begun = drafting.begun;
  reached = same ∙ drafting.reached;
  read = read;
  entries = drafting.entries;
  code = drafting.code;
  sized = drafting.sized;
}

-- the run goes on from one to the next
pub own_on : (layout : Layout) (image words : List ℕ) (pc first others next : ℕ) → IsOwn image pc first → IsOwn image (pc + 1) next → (pc + 1) / page_words ≡ pc / page_words
    → HasNoEntry layout words (pc + 1) → others + 2 + size (stub (pc + 1) (pc + 1 + 1)) ≤ page_words
    → GoesOn layout image words pc others (own_instruction image (pc + 1) next)
own_on layout image words pc first others next own own' paged unknown fits =
    let template = ap size (template_is image (pc + 1) next own') in
    let closing = ap size (closing_is image (pc + 1) next own') in
    record {
      read = own_read image (pc + 1) next own';
      follows = sym (next_is image pc first own);
      returns = ends_is image pc first own;
      paged = paged;
      inside = own'.inside;
      unknown = unknown;
      fits = omega (arith, template, closing, fits);
    }

-- its draft, with it
pub own_added : (image : List ℕ) (pc first : ℕ) (old new : Draft) → new.entries.items ≡ old.entries.items ++ (256 * (pc % 128) + old.size) ∷ [] → new.code.items ≡ old.code.items ++ Fixed first ∷ []
    → new.size ≡ old.size + 1 → Adds old new (own_instruction image pc first)
own_added image pc first old new entries code sized = record { entries = entries; code = code ∙ ap (λ c. old.code.items ++ c) (sym (own_code image pc first)); size = sized }
