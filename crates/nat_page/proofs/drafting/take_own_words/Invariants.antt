use Rattle.std.proofs.Common.{◌≤◌, ◌-◌}
use Rattle.flash_words.specs.Layouts.{image_of}
use Rattle.nat_page.specs.Drafts.{IsOwn, own_instruction, IsDrafting}
use Rattle.nat_page.proofs.drafting.take_own_words.Given as goal

-- the draft has the instructions in front of one that has its own word for a template
abbrev pub invariant-run : goal.invariant-run
invariant-run l = record {
  on : l.fn.pc ≤ l.pc;
  own : IsOwn (image_of l.layout l.flash.words) l.pc l.first;
  drafting : IsDrafting l.layout (image_of l.layout l.flash.words) l.flash.words l.t l.draft (own_instruction (image_of l.layout l.flash.words) l.pc l.first);
}

-- the addresses that are left of the image
abbrev pub decreases-run : goal.decreases-run
decreases-run l = l.layout.image_words - l.pc
