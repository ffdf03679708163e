use Rattle.std.proofs.Common.{◌≡◌, false}
use Rattle.tk_restart.specs.Strays.{are_item}
use Rattle.tk_restart.proofs.strays.lists.Given as goal

abbrev pub invariant-entries : goal.invariant-entries
invariant-entries l = are_item l.flash.words l.t l.place l.i ≡ false
