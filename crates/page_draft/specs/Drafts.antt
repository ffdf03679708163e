-- Serves private functions: a page while it is made: its run's instructions one after another.
use Rattle.std.specs.Prelude.{◌≡◌, ℕ, ◌+◌, ◌*◌, ◌/◌, ◌%◌, if◌then◌else◌, List, [], ◌∷◌, ◌++◌, length, map}
use Rattle.std.specs.List.{range_with_len}
use Rattle.flash_words.specs.Pages.{page_words}
use Rattle.nat_template.specs.declared.piece.Piece.{Piece}
use Rattle.nat_template.specs.declared.piece.Piece.TheVariants.{Fixed}
use Rattle.page_draft.specs.declared.instruction.Instruction.{Instruction}
use Rattle.page_draft.specs.declared.draft.Draft.{Draft}
use Rattle.page_draft.specs.Standing.{size}
use Rattle.nat_template.specs.Stubs.{stub}
use Rattle.nat_template.specs.Templates.{template_by}
use Rattle.page_draft.specs.Runs.{is_closed, next_of, template_at, closing_at, ends_at, address, templates}

-- the template of what was read, and its stub to the next address, where it needs one if the run ends with it
abbrev pub code_of : Instruction → List Piece
code_of read = template_by read.shape read.pc read.first read.instr read.next_size

abbrev pub closing_of : Instruction → List Piece
closing_of read = if is_closed read.shape then stub read.pc read.next else []

-- what was read is the image's instruction at its pc
pub record IsRead (image : List ℕ) (read : Instruction) : Type 0 where
  pub next : read.next ≡ next_of image read.pc
  pub ends : read.ends ≡ ends_at image read.pc
  pub code : code_of read ≡ template_at image read.pc
  pub code_size : read.code_size ≡ size (template_at image read.pc)
  pub closing : closing_of read ≡ closing_at image read.pc
  pub closing_size : read.closing_size ≡ size (closing_at image read.pc)

-- for each of the first n instructions the offset in the original page times 256, and the words of the
-- templates in front of its own
unfoldable pub starts : List ℕ → (t n : ℕ) → List ℕ
starts image t n = map (λ i. 256 * (address image t i % page_words) + size (templates image t i)) (range_with_len 0 n)

-- a draft with one more instruction
pub record Adds (old new : Draft) (here : Instruction) : Type 0 where
  pub entries : new.entries.items ≡ old.entries.items ++ (256 * (here.pc % page_words) + old.size) ∷ []
  pub code : new.code.items ≡ old.code.items ++ code_of here
  pub size : new.size ≡ old.size + here.code_size

-- the pieces of the page of a draft
abbrev pub draft_pieces : (t : ℕ) → List ℕ → List Piece → List Piece
draft_pieces t entries body =
    Fixed (t / page_words) ∷ Fixed (length entries) ∷ map (λ entry. Fixed (entry + (2 + length entries))) entries ++ body
