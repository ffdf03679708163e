-- How many words closings have.
use Rattle.std.proofs.Common.{◌≡◌, ℕ, ◌+◌, ◌≤◌, Bool, true, false, cond, [], Option, arith}
use Rattle.avr_isa.specs.declared.form.Form.{Form}
use Rattle.avr_isa.specs.Crossing.{is_crossing}
use Rattle.nat_template.specs.declared.shapes.TemplateShape.{TemplateShape}
use Rattle.nat_template.specs.declared.shapes.TemplateShape.TheVariants.{Native, Mem, Jump, Branch, Skip, Call}
use Rattle.nat_template.specs.Stubs.{stub}
use Rattle.nat_template.specs.Templates.{template_by, target_of}
use Rattle.nat_template.proofs.Sizes.{stub_size, stub_bound}
use Rattle.page_draft.specs.Standing.{size}
use Rattle.page_draft.specs.Runs.{is_closed}

-- what isn't closed has at least three words, and a closing has at most 22
pub closed_range : (shape : TemplateShape) (pc first to : ℕ) (form : Option Form) (next_size : ℕ)
    → (3 ≤ size (template_by shape pc first form next_size) + size (cond (is_closed shape) (stub pc to) [])) × (size (cond (is_closed shape) (stub pc to) []) ≤ 22)
unfolding template_by
closed_range Native pc first to form next_size = let range = stub_bound pc to in (omega arith, omega arith)
closed_range Mem pc first to form next_size = let range = stub_bound pc to in (omega arith, omega arith)
closed_range Branch pc first to form next_size = let range = stub_bound pc to in (omega arith, omega arith)
closed_range Skip pc first to form next_size = let range = stub_bound pc to in (omega arith, omega arith)
closed_range Jump pc first to form next_size =
    let range = stub_bound pc (target_of pc form) in (omega arith, omega arith)
closed_range Call pc first to form next_size =
    let range = stub_bound pc (target_of pc form) in (omega arith, omega arith)
closed_range _ pc first to form next_size = (omega arith, omega arith)

-- a closing that is no crossing has at most three words
pub plain_range : (closed : Bool) (from to : ℕ) → is_crossing from to ≡ false → size (cond closed (stub from to) []) ≤ 3
plain_range true from to plain = let long : size (stub from to) ≡ 3 = rw plain at (stub_size from to) in omega arith
plain_range false from to plain = omega arith
