use Rattle.std.proofs.Common.{◌≡◌, ◌+◌, ◌*◌, ◌<◌, length}
use Rattle.sram_layout.specs.Bytes.{byte_count}
use Rattle.addr_tables.proofs.ForgetLaws.{ForgetsFirst}
use Rattle.addr_tables.proofs.tables.forget_each.Given as goal

abbrev pub invariant-asides : goal.invariant-asides
invariant-asides l = record { forgets : ForgetsFirst l.page l.i l.fn.sram l.sram; long : 0 < l.i → length l.sram ≡ byte_count }

abbrev pub invariant-sets : goal.invariant-sets
invariant-sets l = record { forgets : ForgetsFirst l.page (32 + 2 * l.set) l.fn.sram l.sram; long : length l.sram ≡ byte_count }
