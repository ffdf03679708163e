-- The shapes that a test chooses: of IN and OUT, SBI and CBI, SBIC and SBIS, and of RJMP and JMP.
use Rattle.std.proofs.Common.{◌≡◌, Bool, true, false, refl}
use Rattle.std.specs.Prelude.{◌≢◌, if◌then◌else◌}
use Rattle.nat_template.specs.declared.shapes.TemplateShape.{TemplateShape}
use Rattle.nat_template.specs.declared.shapes.TemplateShape.TheVariants.{Native, Mem, Fault}

-- a shape that neither answer has is not chosen
pub not_chosen : (test : Bool) (one other shape : TemplateShape) → one ≢ shape → other ≢ shape → (if test then one else other) ≡ shape → ⊥
not_chosen true one other shape not_one not_other is = not_one is
not_chosen false one other shape not_one not_other is = not_other is

pub not_io : (stack allowed : Bool) (shape : TemplateShape) → Mem ≢ shape → Native ≢ shape → Fault ≢ shape → (if stack then Mem else if allowed then Native else Fault) ≡ shape → ⊥
not_io true allowed shape mem native fault is = mem is
not_io false allowed shape mem native fault is = not_chosen allowed Native Fault shape native fault is

-- a shape that one answer doesn't have tells the test
pub chosen_one : (test : Bool) (one other shape : TemplateShape) → other ≢ shape → (if test then one else other) ≡ shape → test ≡ true
chosen_one true one other shape not_other is = refl
chosen_one false one other shape not_other is = absurd (not_other is)

pub chosen_other : (test : Bool) (one other shape : TemplateShape) → one ≢ shape → (if test then one else other) ≡ shape → test ≡ false
chosen_other true one other shape not_one is = absurd (not_one is)
chosen_other false one other shape not_one is = refl
