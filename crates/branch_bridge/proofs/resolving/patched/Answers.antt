use Rattle.std.proofs.Common.{rules}
use Rattle.nat_page.specs.Links.{with_two_words}
use Rattle.branch_bridge.proofs.resolving.patched.Goals as goal

pub returns : goal.returns
unfolding with_two_words
returns c = search rules
