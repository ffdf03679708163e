use Rattle.std.proofs.Common.{◌≡◌, ◌<◌, ◌≤◌}
use Rattle.flash_words.specs.Memory.{IsWhole}
use Rattle.nat_page.specs.Used.{used_among}
use Rattle.nat_page.proofs.using.pages_in_use.Given as goal

abbrev pub invariant-loop-i : goal.invariant-loop-i
invariant-loop-i l = record {
  counted : l.pages ≡ used_among l.flash.words l.layout.pool_first l.i;
  few : l.pages ≤ l.i;
  whole : 0 < l.i → IsWhole l.flash;
}
