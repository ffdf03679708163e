-- The instruction at an address of the image, by its words.
use Rattle.std.proofs.Common.{ℕ, ◌≡◌, ◌<◌, ◌≤◌, length, arith, Bool, true, false, refl, sym, ap, ◌+◌, List}
use Rattle.std.specs.Prelude.{◌≢◌, if◌then◌else◌, Option, Some, None}
use Rattle.avr_isa.specs.Image.{word}
use Rattle.avr_decode.specs.Program.{instruction_at}
use Rattle.nat_template.specs.Templates.{template_by}
use Rattle.page_draft.specs.Runs.{shape_at, size_at, template_at}
use Rattle.avr_isa.specs.declared.form.Form.{Form}
use Rattle.nat_template.specs.declared.shapes.TemplateShape.{TemplateShape}
use Rattle.nat_template.specs.declared.shapes.TemplateShape.TheVariants.{Fault}
use Rattle.nat_template.specs.Shapes.{shape_of, shape_of_form}
use Rattle.step_laws.specs.States.{State, mote_of}
use Rattle.flash_words.specs.Layouts.{IsRight, most_image_words}
use Rattle.flash_model.proofs.ImageLaws.{front_fits}
use Rattle.kernel_entry.specs.declared.kernel.Kernel.{Kernel}
use Rattle.step_laws.specs.Settings.{IsBounded}
use Rattle.std.proofs.lemmas.List.{length-take}
use Rattle.kernel_entry.specs.Parts.{image_held}

-- the image is short, and its words are words
pub setting_short : (x : State) → IsRight x.kernel.layout → length (image_held x.kernel) ≤ most_image_words
setting_short x right = let fits = right.image_fits in omega (arith, length-take x.kernel.layout.image_words (mote_of x).flash.words)

pub image_words : (k : Kernel) → IsBounded k → (a : ℕ) → word (image_held k) a < 65536
image_words k bounded a = front_fits k.mote.flash.words k.layout.image_words a bounded.whole.words_fit

-- an instruction of a shape other than Fault
pub form_of_shape : (shape : TemplateShape) (a : ℕ) (form : Option Form) → shape_of a form ≡ shape → shape ≢ Fault → (f : Form) × (form ≡ Some f) × (shape_of_form a f ≡ shape)
form_of_shape shape a None is apart = absurd (apart (sym is))
form_of_shape shape a (Some f) is apart = (f, refl, is)

pub one_by : (b : Bool) → ◌≡◌ {A = ℕ} (if b then 2 else 1) 1 → b ≡ false
one_by true is = absurd (omega arith)
one_by false is = refl

-- the template of an address, by its shape
pub by_shape : (image : List ℕ) (a : ℕ) (shape : TemplateShape) → shape_at image a ≡ shape → template_at image a ≡ template_by shape a (word image a) (instruction_at image a) (size_at image (a + 1))
by_shape image a shape is = ap (λ s. template_by s a (word image a) (instruction_at image a) (size_at image (a + 1))) is
