-- A straight run of instructions of the image, and what stands in a page in its place (docs/LOADER.md). An
-- image ends far below word 65,536, so sums of addresses don't wrap.
use Rattle.std.specs.Prelude.{◌≡◌, ℕ, zero, suc, ◌+◌, ◌/◌, ◌<◌, ◌≤◌, Bool, true, false, if◌then◌else◌, List, [], ◌++◌, length, Option, Some}
use Rattle.avr_isa.specs.declared.form.Form.{Form}
use Rattle.avr_isa.specs.declared.form.Form.TheVariants as forms
use Rattle.avr_isa.specs.Image.{word}
use Rattle.avr_decode.specs.Decoding.{size_by_first_word}
use Rattle.avr_decode.specs.Program.{instruction_at}
use Rattle.flash_words.specs.Pages.{page_words}
use Rattle.nat_template.specs.declared.shapes.TemplateShape.{TemplateShape}
use Rattle.nat_template.specs.declared.shapes.TemplateShape.TheVariants.{Native, Mem, Jump, Branch, Skip, Ret, Ind, SelfJump, Fault}
use Rattle.nat_template.specs.declared.piece.Piece.{Piece}
use Rattle.nat_template.specs.Shapes.{shape_of}
use Rattle.nat_template.specs.Stubs.{stub}
use Rattle.nat_template.specs.Templates.{template_of}

-- the shape of the instruction at the pc
abbrev pub shape_at : List ℕ → ℕ → TemplateShape
shape_at image pc = shape_of pc (instruction_at image pc)

-- how many words the instruction has, by its first word; what is no instruction has one
abbrev pub size_at : List ℕ → ℕ → ℕ
size_at image pc = size_by_first_word (word image pc)

-- the address behind it
abbrev pub next_of : List ℕ → ℕ → ℕ
next_of image pc = pc + size_at image pc

-- its template; only a skip, which has one word, looks at the instruction behind it
abbrev pub template_at : List ℕ → ℕ → List Piece
template_at image pc = template_of pc (word image pc) (instruction_at image pc) (size_at image (pc + 1))

-- of IJMP and ICALL, which have one shape, only IJMP doesn't return
abbrev pub is_jump_through_z : Option Form → Bool
is_jump_through_z (Some forms.Ijmp) = true
is_jump_through_z _ = false

-- a transfer without return: nothing behind it is reached from it
abbrev pub never_returns : TemplateShape → Option Form → Bool
never_returns Jump form = true
never_returns Ret form = true
never_returns SelfJump form = true
never_returns Fault form = true
never_returns Ind form = is_jump_through_z form
never_returns _ form = false

-- a run ends with the instruction at the pc
abbrev pub ends_at : List ℕ → ℕ → Bool
ends_at image pc = never_returns (shape_at image pc) (instruction_at image pc)

-- what goes on to the next address by itself is closed by a stub to it, where a run stops behind it
abbrev pub is_closed : TemplateShape → Bool
is_closed Native = true
is_closed Mem = true
is_closed Branch = true
is_closed Skip = true
is_closed _ = false

abbrev pub closing_at : List ℕ → ℕ → List Piece
closing_at image pc = if is_closed (shape_at image pc) then stub pc (next_of image pc) else []

-- the address of instruction i of the run from t, counted from 0
abbrev pub address : List ℕ → ℕ → ℕ → ℕ
address image t zero = t
address image t (suc i) = next_of image (address image t i)

-- the templates of its first n instructions
abbrev pub templates : List ℕ → ℕ → ℕ → List Piece
templates image t zero = []
templates image t (suc n) = templates image t n ++ template_at image (address image t n)

-- Instructions 0 to last are a run from t: they are inside the image and in one original page, and only
-- the last may be a transfer without return.
pub record IsRun (image : List ℕ) (t last : ℕ) : Type 0 where
  pub inside : (i : ℕ) → i ≤ last → address image t i < length image
  pub paged : (i : ℕ) → i ≤ last → address image t i / page_words ≡ t / page_words
  pub goes_on : (i : ℕ) → i < last → ends_at image (address image t i) ≡ false
