-- Serves private functions: the run of a page that is made, while it is read.
use Rattle.std.specs.Prelude.{◌≡◌, ℕ, suc, ◌+◌, ◌/◌, ◌<◌, ◌≤◌, false, List, length, Some}
use Rattle.avr_isa.specs.declared.form.Form.{Form}
use Rattle.avr_isa.specs.Image.{word}
use Rattle.avr_decode.specs.Decoding.{the_form}
use Rattle.avr_decode.specs.Program.{instruction_at}
use Rattle.flash_words.specs.Layouts.{most_image_words}
use Rattle.nat_template.specs.declared.shapes.TemplateShape.TheVariants.{Native}
use Rattle.nat_template.specs.Shapes.{shape_of_form}
use Rattle.nat_template.specs.Stubs.{stub}
use Rattle.flash_words.specs.Pages.{page_words}
use Rattle.flash_words.specs.declared.layout.Layout.{Layout}
use Rattle.page_draft.specs.declared.instruction.Instruction.{Instruction}
use Rattle.page_draft.specs.declared.draft.Draft.{Draft}
use Rattle.page_draft.specs.Standing.{size}
use Rattle.page_draft.specs.Runs.{size_at, next_of, ends_at, address, templates}
use Rattle.page_draft.specs.CodePages.{code}
use Rattle.page_draft.specs.Drafts.{starts, IsRead}
use Rattle.nat_page.specs.Making.{HasNoEntry}
use Rattle.nat_page.specs.Drafted.{size_with, StopsBehind, IsBegun}

-- it goes on to the next instruction
pub record GoesOn (layout : Layout) (image words : List ℕ) (pc others : ℕ) (next : Instruction) : Type 0 where
  pub read : IsRead image next
  pub follows : next.pc ≡ next_of image pc
  pub returns : ends_at image pc ≡ false
  pub paged : next.pc / page_words ≡ pc / page_words
  pub inside : next.pc < length image
  pub unknown : HasNoEntry layout words next.pc
  pub fits : size_with image others next.pc ≤ page_words

-- the draft has the instructions in front of `here`
pub record IsDrafting (layout : Layout) (image words : List ℕ) (t : ℕ) (draft : Draft) (here : Instruction) : Type 0 where
  pub last : ℕ
  pub begun : IsBegun layout image words t last
  pub reached : here.pc ≡ address image t last
  pub read : IsRead image here
  pub entries : draft.entries.items ≡ starts image t last
  pub code : draft.code.items ≡ templates image t last
  pub sized : draft.size ≡ size (templates image t last)

-- the draft has the whole run, whose last instruction is this one, and its closing
pub record IsDrafted (layout : Layout) (image words : List ℕ) (t : ℕ) (draft : Draft) (here : Instruction) : Type 0 where
  pub last : ℕ
  pub begun : IsBegun layout image words t last
  pub reached : here.pc ≡ address image t last
  pub read : IsRead image here
  pub stops : StopsBehind layout image words (address image t last) (last + 3 + size (templates image t (suc last)))
  pub entries : draft.entries.items ≡ starts image t (suc last)
  pub sized : draft.size ≡ size (code image t last)
  pub code : draft.code.items ≡ code image t last

-- the instruction at the pc has this word, its own and all of it, for a template
pub record IsOwn (image : List ℕ) (pc first : ℕ) : Type 0 where
  pub form : Form
  pub own : word image pc ≡ first
  pub fits : first < 65536
  pub is : the_form (word image pc) (word image (pc + 1)) ≡ Some form
  pub native : shape_of_form pc form ≡ Native
  pub inside : pc < length image
  pub short : length image ≤ most_image_words

-- what is read of it
abbrev pub own_instruction : List ℕ → (pc first : ℕ) → Instruction
own_instruction image pc first = record {
  pc = pc;
  next = pc + 1;
  ends = false;
  first = first;
  instr = instruction_at image pc;
  shape = Native;
  next_size = size_at image (pc + 1);
  code_size = 1;
  closing_size = size (stub pc (pc + 1));
}

-- the draft has the instructions in front of one at this pc, which has its own word for a template
pub record IsDraftingOwn (layout : Layout) (image words : List ℕ) (t : ℕ) (draft : Draft) (pc : ℕ) : Type 0 where
  pub first : ℕ
  pub own : IsOwn image pc first
  pub drafting : IsDrafting layout image words t draft (own_instruction image pc first)
