use Rattle.flash_words.specs.Layouts.{image_of}
use Rattle.tk_restart.specs.Unlinking.{IsUnlinked}
use Rattle.tk_restart.proofs.unlinking.unlink.Given as goal

abbrev pub invariant-pages : goal.invariant-pages
invariant-pages l = IsUnlinked l.layout (image_of l.layout l.fn.flash.words) l.fn.flash l.flash l.k
