-- How many words stubs and templates have.
use Rattle.std.proofs.Common.{◌≡◌, ◌<◌, ◌≤◌, ◌+◌, ℕ, Bool, true, false, cond, List, [], ◌∷◌, refl, length, take, get_or, arith}
use Rattle.std.specs.Prelude.{◌==◌, Option, Some}
use Rattle.std.proofs.lemmas.List.Folds.{length-flat_map-take}
use Rattle.avr_isa.specs.Crossing.{is_crossing}
use Rattle.avr_isa.specs.Addresses.{wrapping_sum}
use Rattle.avr_isa.specs.declared.form.Form.{Form}
use Rattle.avr_isa.specs.declared.form.Form.TheVariants as forms
use Rattle.avr_isa.specs.Instruction.{size_of}
use Rattle.nat_template.specs.declared.piece.Piece.{Piece}
use Rattle.nat_template.specs.declared.piece.Piece.TheVariants.{Fixed, Link}
use Rattle.nat_template.specs.declared.shapes.TemplateShape.{TemplateShape}
use Rattle.nat_template.specs.declared.shapes.TemplateShape.TheVariants.{Native, Mem, Jump, Branch, Skip, Call, SelfJump}
use Rattle.nat_template.specs.Shapes.{shape_of_form}
use Rattle.nat_template.specs.Stubs.{stub, crossing_stub, words_of, words_of_piece}
use Rattle.nat_template.specs.Templates.{template_by, target_of, inline, mem_or, mem_pieces, is_z}
use Rattle.nat_template.specs.Inline.{push_forms, pop_forms, load_forms, store_forms}
use Rattle.avr_isa.specs.Encoding.{second_word}
use Rattle.avr_isa.specs.declared.operation.Base.TheVariants.{Y}

size_by : (to : ℕ) (crosses : Bool) → length (words_of (cond crosses (crossing_stub to) (Link to ∷ []))) ≡ cond crosses 22 3
unfolding second_word
size_by to true = refl
size_by to false = refl

-- a stub has 22 words where the step is a crossing, and else 3
pub stub_size : (from to : ℕ) → length (words_of (stub from to)) ≡ cond (is_crossing from to) 22 3
unfolding stub
stub_size from to = size_by to (is_crossing from to)

3_or_22 : (crosses : Bool) → (3 ≤ cond crosses 22 3) × (cond crosses 22 3 ≤ 22)
3_or_22 true = (omega arith, omega arith)
3_or_22 false = (omega arith, omega arith)

pub stub_bound : (from to : ℕ) → (3 ≤ length (words_of (stub from to))) × (length (words_of (stub from to)) ≤ 22)
stub_bound from to =
    let e = stub_size from to in
    let bound = 3_or_22 (is_crossing from to) in
    (omega arith, omega arith)

-- the inline templates have 39, 39, 32 and 32 words
pub push_size : (r pc : ℕ) → length (words_of (inline (push_forms r) pc)) ≡ 39
unfolding second_word push_forms
push_size r pc = refl

pub pop_size : (d pc : ℕ) → length (words_of (inline (pop_forms d) pc)) ≡ 39
unfolding second_word pop_forms
pop_size d pc = refl

pub load_size : (d q pc : ℕ) → length (words_of (inline (load_forms d q) pc)) ≡ 32
unfolding second_word load_forms
load_size d q pc = refl

pub store_size : (q r pc : ℕ) → length (words_of (inline (store_forms q r) pc)) ≡ 32
unfolding second_word store_forms
store_size q r pc = refl

-- a call of MEM, or so many words in its place
mem_bound : (called : Bool) (forms : List Form) (pc n : ℕ) → length (words_of (inline forms pc)) ≡ n → 1 ≤ n → n ≤ 39
    → (1 ≤ length (words_of (mem_or called forms pc))) × (length (words_of (mem_or called forms pc)) ≤ 39)
mem_bound true forms pc n is some most = (omega arith, omega arith)
mem_bound false forms pc n is some most = (omega arith, omega arith)

mem_size : (pc : ℕ) (form : Option Form) → (1 ≤ length (words_of (mem_pieces pc form))) × (length (words_of (mem_pieces pc form)) ≤ 39)
unfolding mem_pieces
mem_size pc (Some (forms.Push r)) = mem_bound (is_z r) (push_forms r) pc 39 (push_size r pc) (omega arith) (omega arith)
mem_size pc (Some (forms.Pop d)) = mem_bound (is_z d) (pop_forms d) pc 39 (pop_size d pc) (omega arith) (omega arith)
mem_size pc (Some (forms.LoadOff d Y q)) = mem_bound (is_z d) (load_forms d q) pc 32 (load_size d q pc) (omega arith) (omega arith)
mem_size pc (Some (forms.StoreOff Y q r)) = mem_bound (is_z r) (store_forms q r) pc 32 (store_size q r pc) (omega arith) (omega arith)
mem_size pc _ = (omega arith, omega arith)

-- a template has 1 to 39 words
pub template_size : (shape : TemplateShape) (pc first : ℕ) (form : Option Form) (next_size : ℕ)
    → (1 ≤ length (words_of (template_by shape pc first form next_size))) × (length (words_of (template_by shape pc first form next_size)) ≤ 39)
unfolding template_by
template_size Mem pc first form next_size = mem_size pc form
template_size Jump pc first form next_size = let b = stub_bound pc (target_of pc form) in (omega arith, omega arith)
template_size Branch pc first form next_size = let b = stub_bound pc (target_of pc form) in (omega arith, omega arith)
template_size Skip pc first form next_size = let b = stub_bound pc (wrapping_sum pc (1 + next_size)) in (omega arith, omega arith)
template_size Call pc first form next_size = let b = stub_bound pc (target_of pc form) in (omega arith, omega arith)
template_size _ pc first form next_size = (omega arith, omega arith)

-- the words of a piece have room behind those of the pieces before it
pub words_room : (pieces : List Piece) (i : ℕ) (piece : Piece) → i < length pieces → get_or pieces i (Fixed 0) ≡ piece
    → length (words_of (take i pieces)) + length (words_of_piece piece) ≤ length (words_of pieces)
words_room pieces i piece below here = rw here at (length-flat_map-take words_of_piece pieces i (Fixed 0) below)

jump_not_native : (own : Bool) → cond own SelfJump Jump ≡ Native → ⊥
jump_not_native true is = cc
jump_not_native false is = cc

-- an instruction that stands in a page as it is has one word, so its first word is all of it
pub native_size : (pc : ℕ) (form : Form) → shape_of_form pc form ≡ Native → size_of form ≡ 1
unfolding shape_of_form size_of
native_size pc (forms.Lds d a) is = absurd (cc)
native_size pc (forms.Sts a r) is = absurd (cc)
native_size pc (forms.Jmp a) is = absurd (jump_not_native (a == pc) is)
native_size pc (forms.Call a) is = absurd (cc)
native_size pc _ is = refl
