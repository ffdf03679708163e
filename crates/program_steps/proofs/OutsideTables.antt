-- A change of RING and the two tables of places alone leaves the heap and all that the program sees. m and n are lists of
-- SRAM's bytes.
use Rattle.std.proofs.Common.{◌≡◌, ℕ, ◌+◌, ◌*◌, List, ap₂, arith, inl, inr}
use Rattle.sram_layout.specs.Bytes.{byte_at, data_word_at}
use Rattle.sram_layout.specs.Cells.{count_cell, vsp_cell}
use Rattle.heap_frames.specs.SamePaging.{SamePaging}
use Rattle.heap_frames.specs.Paged.{IsPaged}
use Rattle.heap_frames.specs.Memory.{vmem}
use Rattle.heap_frames.specs.Frames.{pages}
use Rattle.heap_frames.proofs.SamePagingLaws.{pages_same, paged_same, vmem_same}
use Rattle.branch_bridge.specs.Arrivals.{KeepsOtherBytes}

outside_paging : {m n : List ℕ} → KeepsOtherBytes m n → SamePaging m n
outside_paging same = record {
  size = same.size;
  cells = λ b from to. same.rest b (omega arith) (inl (omega arith));
  tables = λ b from to. same.rest b (omega arith) (inr from);
}

pub outside_paged : {m n : List ℕ} {w : List (List ℕ)} → KeepsOtherBytes m n → IsPaged m w → IsPaged n w
outside_paged {m} {n} {w} same = paged_same m n w (outside_paging same)

pub outside_memory : {m n : List ℕ} (w : List (List ℕ)) → KeepsOtherBytes m n → vmem n w ≡ vmem m w
outside_memory {m} {n} w same = vmem_same m n w (outside_paging same) (λ a from to. same.rest a (omega arith) (inr (omega arith)))

pub outside_pages : {m n : List ℕ} → KeepsOtherBytes m n → pages n ≡ pages m
outside_pages {m} {n} same = pages_same m n (outside_paging same)

pub outside_count : {m n : List ℕ} → KeepsOtherBytes m n → byte_at n count_cell ≡ byte_at m count_cell
outside_count same = same.rest count_cell (omega arith) (inl (omega arith))

-- the low half of the program's stack pointer, and the whole of it
pub outside_pointer : {m n : List ℕ} → KeepsOtherBytes m n → byte_at n vsp_cell ≡ byte_at m vsp_cell
outside_pointer same = same.rest vsp_cell (omega arith) (inl (omega arith))

pub outside_stack : {m n : List ℕ} → KeepsOtherBytes m n → data_word_at n vsp_cell ≡ data_word_at m vsp_cell
unfolding data_word_at
outside_stack same = ap₂ (λ low high. low + 256 * high) (outside_pointer same) (same.rest (vsp_cell + 1) (omega arith) (inl (omega arith)))
