use Rattle.std.proofs.Common.{◌≡◌, ◌<◌, length}
use Rattle.tk_restart.specs.Sweeping.{IsSwept}
use Rattle.tk_restart.proofs.sweeping.sweep.Given as goal

abbrev pub invariant-pages : goal.invariant-pages
invariant-pages l = record {
  swept : IsSwept l.layout l.image l.fn.flash l.flash l.k l.told;
  whole : 0 < l.k → length l.fn.flash.words ≡ 65536;
}
