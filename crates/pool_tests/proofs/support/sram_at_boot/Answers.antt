use Rattle.std.proofs.Common.{◌<◌, sym, subst}
use Rattle.branch_bridge.specs.Arrivals.{ring_of}
use Rattle.branch_bridge.proofs.RestLaws.{boot_ring_below}
use Rattle.pool_tests.proofs.support.sram_at_boot.Goals as goal

pub returns-clause-ring : goal.returns-clause-ring
returns-clause-ring c =
    let pages = c.args.layout.now.pool_pages in
    subst (λ m. ring_of m < pages) (sym c.new.ensures.value) (boot_ring_below pages c.requires.right.pool_pages)
