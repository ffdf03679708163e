use Rattle.std.proofs.Common.{◌-◌}
use Rattle.flash_words.specs.Layouts.{image_of}
use Rattle.nat_page.specs.Drafts.{IsDrafting}
use Rattle.nat_page.proofs.drafting.draft_run.Given as goal

abbrev pub invariant-run : goal.invariant-run
invariant-run l = IsDrafting l.layout (image_of l.layout l.flash.words) l.flash.words l.t l.draft l.here

-- the addresses that are left of the image
abbrev pub decreases-run : goal.decreases-run
decreases-run l = l.layout.image_words - l.here.pc
