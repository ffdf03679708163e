use Rattle.std.proofs.Common.{◌*◌, ◌<◌, ◌≤◌}
use Rattle.flash_words.specs.Layouts.{image_of}
use Rattle.nat_page.specs.Faithful.{IsFaithful}
use Rattle.branch_bridge.specs.Arrivals.{ring_of}
use Rattle.pool_tests.proofs.recycling.small_pools_go_round.Given as goal

abbrev pub invariant-loop-t : goal.invariant-loop-t
invariant-loop-t g l = record {
  faithful : IsFaithful l.layout (image_of l.layout l.flash.value.words) l.flash.value.words;
  ring : ring_of l.sram < l.layout.pool_pages;
  ops : l.flash.value.ops ≤ 1000 * l.t;
}
