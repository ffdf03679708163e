use Rattle.std.proofs.Common.{◌≤◌}
use Rattle.flash_words.specs.Layouts.{image_of}
use Rattle.nat_page.specs.Faithful.{IsFaithful}
use Rattle.pool_tests.proofs.pool_pages.the_pool_may_be_full.Given as goal

abbrev pub invariant-loop-t : goal.invariant-loop-t
invariant-loop-t g l = record {
  faithful : IsFaithful l.layout (image_of l.layout l.flash.value.words) l.flash.value.words;
  ops : l.flash.value.ops ≤ l.t;
}
