use Rattle.std.proofs.Common.{◌≡◌, ℕ, ◌+◌, ◌*◌, ◌<◌, false, length}
use Rattle.sram_layout.specs.Bytes.{byte_count}
use Rattle.sram_layout.specs.Cells.{entry_at}
use Rattle.addr_tables.specs.Changes.{entry_cell, IsIn}
use Rattle.addr_tables.proofs.tables.has_place_in.Given as goal

-- where none was seen, none of the first entries of both tables has its place in the page
abbrev pub invariant-asides : goal.invariant-asides
invariant-asides l = record {
  none : l.any ≡ false → (k : ℕ) → k < l.i → ¬ IsIn l.page (entry_at l.sram (entry_cell k));
  long : 0 < l.i → length l.sram ≡ byte_count;
}

abbrev pub invariant-sets : goal.invariant-sets
invariant-sets l = record {
  none : l.any ≡ false → (k : ℕ) → k < 32 + 2 * l.set → ¬ IsIn l.page (entry_at l.sram (entry_cell k));
  long : length l.sram ≡ byte_count;
}
