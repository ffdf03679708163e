-- The law of each shape, and so of each entry of flash that holds the image and rewritten code of it.
use Rattle.std.proofs.Common.{ℕ, Bool, true, false, refl, subst, arith}
use Rattle.nat_template.specs.declared.shapes.TemplateShape.{TemplateShape}
use Rattle.nat_template.specs.declared.shapes.TemplateShape.TheVariants as shapes
use Rattle.page_draft.specs.Runs.{shape_at}
use Rattle.step_laws.specs.States.{State, mote_of}
use Rattle.step_laws.specs.Settings.{IsSetting, IsAtEntry}
use Rattle.step_laws.specs.StepLaws.{ShapeLaw, HasShapeLaws, HasEntryLaws, links_at}
use Rattle.step_laws.proofs.JumpLaw.{jump_law}
use Rattle.step_laws.proofs.NativeLaw.{native_law}
use Rattle.step_laws.proofs.SkipLaw.{branch_law, skip_law}
use Rattle.step_laws.proofs.MemLaw.{mem_law}
use Rattle.step_laws.proofs.CallLaw.{call_law}
use Rattle.step_laws.proofs.GoneLaw.{ret_law, ind_law, self_law}
use Rattle.step_laws.proofs.FaultLaw.{fault_law}
use Rattle.nat_page.specs.Entered.{StandsIn}
use Rattle.nat_page.specs.Parts.{IsByPage, EntersPart, IsLinkFrom}
use Rattle.nat_page.proofs.PartLaws.{parted_stands}
use Rattle.step_laws.specs.Links.{part_number}
use Rattle.kernel_entry.specs.Parts.{image_held}

pub shape_law : (shape : TemplateShape) → ShapeLaw shape
shape_law shapes.Native = native_law
shape_law shapes.Mem = mem_law
shape_law shapes.Jump = jump_law
shape_law shapes.Branch = branch_law
shape_law shapes.Skip = skip_law
shape_law shapes.Call = call_law
shape_law shapes.Ret = ret_law
shape_law shapes.Ind = ind_law
shape_law shapes.SelfJump = self_law
shape_law shapes.Fault = fault_law

-- so in the pool that the machine runs in
pub shape_laws : HasShapeLaws
shape_laws shape x a v s is = shape_law shape (links_at x) x a v s is

-- no original page is in two parts
pub part_by_page : (shut : Bool) → IsByPage (part_number shut)
part_by_page true a b same = omega (arith, same)
part_by_page false a b same = refl

-- the setting at an entry
pub entry_setting : (x : State) (a : ℕ) → IsAtEntry x a → IsSetting (links_at x) x a (mote_of x).cpu.pc
entry_setting x a here = record {
  ready = here.ready;
  at = refl;
  code = (
      let part = part_number x.kernel.part.shut in
      let Stands : ℕ → Type 0 =
      λ q. StandsIn (EntersPart x.kernel.layout (mote_of x).flash.words part q) (IsLinkFrom x.kernel.layout (image_held x.kernel) (mote_of x).flash.words part q) x.kernel.layout
      (image_held x.kernel) (mote_of x).flash.words a (mote_of x).cpu.pc in
      subst Stands here.own
      (parted_stands x.kernel.layout (image_held x.kernel) (mote_of x).flash.words part a (mote_of x).cpu.pc
      (part_by_page x.kernel.part.shut) here.ready.bounded.right here.code here.parted here.entry));
}

pub entry_laws : HasEntryLaws
entry_laws x a here = shape_law (shape_at (image_held x.kernel) a) (links_at x) x a (mote_of x).cpu.pc (entry_setting x a here) refl
