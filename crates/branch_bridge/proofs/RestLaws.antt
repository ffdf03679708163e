-- Bytes beside RING and the tables.
use Rattle.std.proofs.Common.{◌≡◌, ℕ, ◌+◌, ◌%◌, ◌<◌, ◌≤◌, ◌⊎◌, List, arith, inl, inr, ap₂, ◌*◌, ⊎_elim}
use Rattle.sram_layout.specs.Bytes.{data_word_at}
use Rattle.sram_layout.specs.Boot.{at_boot}
use Rattle.sram_layout.specs.Cells.{ring_cell}
use Rattle.sram_layout.specs.Regions.{place_cells, place_tables}
use Rattle.sram_layout.proofs.BootLaws.{boot_zero}
use Rattle.sram_layout.proofs.Laws.{length-with_word, byte_out_of_word}
use Rattle.flash_words.specs.declared.layout.Layout.{Layout}
use Rattle.addr_tables.specs.Changes.{KeepsRest}
use Rattle.branch_bridge.specs.Arrivals.{ring_of, turned, KeepsOtherBytes}

-- where the tables alone change, and where RING does
beside_tables : (a : ℕ) → (a < place_cells.first) ⊎ (place_cells.behind ≤ a) → (a < place_tables.first) ⊎ (place_tables.behind ≤ a)
beside_tables a apart = ⊎_elim (λ below. inl (omega arith)) inr apart

pub others_rest : (m m' : List ℕ) → KeepsRest m m' → KeepsOtherBytes m m'
others_rest m m' keeps = record { size = keeps.size; rest = λ a from apart. keeps.rest a from (beside_tables a apart) }

pub others_turned : (layout : Layout) (m : List ℕ) → KeepsOtherBytes m (turned layout m)
others_turned layout m = record {
  size = length-with_word m ring_cell ((ring_of m + 1) % layout.pool_pages);
  rest = λ a from apart. byte_out_of_word m ring_cell a ((ring_of m + 1) % layout.pool_pages) (omega arith) from (λ is. elim apart [
    | inl below ↦ omega arith
    | inr above ↦ omega arith
  ]) (λ is. ⊎_elim (λ below. omega arith) (λ above. omega arith) apart);
}

-- RING is 0 at boot
pub boot_ring : ring_of at_boot ≡ 0
unfolding data_word_at
boot_ring = ap₂ (λ low high. low + 256 * high) (boot_zero ring_cell (omega arith) (omega arith) (inl (omega arith))) (boot_zero (ring_cell + 1) (omega arith) (omega arith) (inl (omega arith)))

pub boot_ring_below : (pool_pages : ℕ) → 1 ≤ pool_pages → ring_of at_boot < pool_pages
boot_ring_below pool_pages some = omega (arith, boot_ring)
