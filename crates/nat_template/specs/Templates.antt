-- The template of an instruction: what stands in a page in its place.
use Rattle.std.specs.Prelude.{ℕ, pos, ◌+◌, ◌==◌, ◌||◌, Bool, if◌then◌else◌, List, [], ◌∷◌, ◌++◌, length, map, Option, Some}
use Rattle.avr_isa.specs.declared.form.Form.{Form}
use Rattle.avr_isa.specs.declared.form.Form.TheVariants as forms
use Rattle.avr_isa.specs.declared.operation.Base.TheVariants.{Y}
use Rattle.avr_isa.specs.Encoding.{first_word}
use Rattle.avr_isa.specs.Addresses.{wrapping_sum, relative}
use Rattle.nat_template.specs.declared.shapes.TemplateShape.{TemplateShape}
use Rattle.nat_template.specs.declared.shapes.TemplateShape.TheVariants.{Native, Mem, Jump, Branch, Skip, Call, Ret, Ind, SelfJump, Fault}
use Rattle.nat_template.specs.declared.piece.Piece.{Piece}
use Rattle.nat_template.specs.declared.piece.Piece.TheVariants.{Fixed}
use Rattle.nat_template.specs.Shapes.{shape_of}
use Rattle.nat_template.specs.Stubs.{service, stub, words_of, mem_entry, push_return_entry, return_entry, indirect_entry, self_entry, fault_entry}
use Rattle.nat_template.specs.Words.{words_of_forms}
use Rattle.nat_template.specs.Inline.{push_forms, pop_forms, load_forms, store_forms}

-- where a jump, branch or call leads, by its own word
abbrev pub target_of : ℕ → Option Form → ℕ
target_of pc (Some (forms.Brbs s k)) = relative pc k
target_of pc (Some (forms.Brbc s k)) = relative pc k
target_of pc (Some (forms.Rjmp k)) = relative pc k
target_of pc (Some (forms.Rcall k)) = relative pc k
target_of pc (Some (forms.Jmp a)) = a
target_of pc (Some (forms.Call a)) = a
target_of pc _ = pc

-- a word that passes over the next one, which is RJMP over these pieces (AVR Instruction Set Manual, "RJMP")
abbrev pub passing : ℕ → List Piece → List Piece
passing word pieces = Fixed word ∷ Fixed (0xC000 + length (words_of pieces)) ∷ pieces

-- the same branch, over the one word behind it
abbrev pub short_branch : Option Form → ℕ
short_branch (Some (forms.Brbs s k)) = first_word (forms.Brbs s (pos 1))
short_branch (Some (forms.Brbc s k)) = first_word (forms.Brbc s (pos 1))
short_branch _ = 0

-- r30 and r31, which an inline template uses itself
abbrev pub is_z : ℕ → Bool
is_z r = (r == 30) || (r == 31)

-- instructions, of which the last calls MEM, and the pc behind them
abbrev pub inline : List Form → ℕ → List Piece
inline forms pc = map (λ word. Fixed word) (words_of_forms forms) ++ Fixed pc ∷ []

-- a call of MEM alone, or these instructions in its place
abbrev pub mem_or : Bool → List Form → ℕ → List Piece
mem_or called forms pc = if called then service mem_entry pc else inline forms pc

-- what reaches data memory: PUSH, POP, and LDD and STD with Y, of another register than Z's, are inline
unfoldable pub mem_pieces : ℕ → Option Form → List Piece
mem_pieces pc (Some (forms.Push r)) = mem_or (is_z r) (push_forms r) pc
mem_pieces pc (Some (forms.Pop d)) = mem_or (is_z d) (pop_forms d) pc
mem_pieces pc (Some (forms.LoadOff d Y q)) = mem_or (is_z d) (load_forms d q) pc
mem_pieces pc (Some (forms.StoreOff Y q r)) = mem_or (is_z r) (store_forms q r) pc
mem_pieces pc _ = service mem_entry pc

-- by the shape: the first word of the instruction, where it stays; its target; how many words the next has, behind which a skip leads
unfoldable pub template_by : TemplateShape → (pc first : ℕ) (form : Option Form) (next_size : ℕ) → List Piece
template_by Native pc first form next_size = Fixed first ∷ []
template_by Mem pc first form next_size = mem_pieces pc form
template_by Jump pc first form next_size = stub pc (target_of pc form)
template_by Branch pc first form next_size = passing (short_branch form) (stub pc (target_of pc form))
template_by Skip pc first form next_size = passing first (stub pc (wrapping_sum pc (1 + next_size)))
template_by Call pc first form next_size = service push_return_entry pc ++ stub pc (target_of pc form)
template_by Ret pc first form next_size = service return_entry pc
template_by Ind pc first form next_size = service indirect_entry pc
template_by SelfJump pc first form next_size = service self_entry pc
template_by Fault pc first form next_size = service fault_entry pc

-- the template of the instruction at the pc
abbrev pub template_of : (pc first : ℕ) → Option Form → ℕ → List Piece
template_of pc first form next_size = template_by (shape_of pc form) pc first form next_size
