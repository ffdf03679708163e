-- What was parked comes back, and what all tasks share stays.
use Rattle.std.proofs.Common.{◌≡◌, ℕ, ◌+◌, ◌*◌, ◌-◌, ◌<◌, ◌≤◌, List, length, get_or, refl, ap, ap₂, ◌∙◌, sym, arith, inl, inr}
use Rattle.std.specs.Prelude.{Bool}
use Rattle.std.proofs.lemmas.List.{ext_get_or}
use Rattle.std.proofs.lemmas.Bool.{cases_lt}
use Rattle.sram_layout.specs.Bytes.{byte_count, byte_at, part_at, with_part, data_word_at}
use Rattle.sram_layout.specs.Cells.{vsp_cell}
use Rattle.sram_layout.proofs.PartLaws.{length-with_part, byte_in_part, byte_out_of_part, part_byte, length-part_at}
use Rattle.avr_exec.specs.declared.cpu.Cpu.{Cpu}
use Rattle.heap_frames.specs.SamePaging.{SamePaging}
use Rattle.heap_frames.proofs.SamePagingLaws.{vmem_same, pages_same, paged_same}
use Rattle.mote_devices.specs.State.{State as Devices}
use Rattle.mote_core.specs.declared.mote.Mote.{Mote}
use Rattle.flat_machine.specs.FlatMachine.{FlatState}
use Rattle.kernel_entry.specs.declared.kernel.Kernel.{Kernel}
use Rattle.kernel_entry.specs.Seen.{state_at}
use Rattle.parked_tasks.specs.declared.parked.Parked.{Parked}
use Rattle.parked_tasks.specs.Parking.{low_first, low_count, high_first, high_count, IsSized, parked_of, taken_up, Shares, IsBack}

-- SRAM with both parts written
abbrev pub both : List ℕ → List ℕ → List ℕ → List ℕ
both m low high = with_part (with_part m low_first low) high_first high

low_size : (m low : List ℕ) → length m ≡ byte_count → length low ≡ low_count → length (with_part m low_first low) ≡ byte_count
low_size m low size few = length-with_part m low low_first (omega arith) (omega arith) ∙ size

pub both_size : (m low high : List ℕ) → length m ≡ byte_count → length low ≡ low_count → length high ≡ high_count → length (both m low high) ≡ byte_count
both_size m low high size few many = length-with_part (with_part m low_first low) high high_first (omega arith) (omega (arith, low_size m low size few)) ∙ low_size m low size few

both_low : (m low high : List ℕ) (b : ℕ) → length m ≡ byte_count → length low ≡ low_count → length high ≡ high_count → low_first ≤ b → b < high_first
    → byte_at (both m low high) b ≡ byte_at (with_part m low_first low) b
both_low m low high b size few many from to = byte_out_of_part (with_part m low_first low) high high_first b (omega arith) (omega (arith, low_size m low size few)) (omega arith) (inl to)

pub shared : (m : Mote) (p : Parked) → length m.sram ≡ byte_count → length p.low ≡ low_count → length p.high ≡ high_count → Shares m (taken_up m p)
shared m p size few many = record {
  flash = refl;
  size = both_size m.sram p.low p.high size few many ∙ sym size;
  tables = λ b from to. both_low m.sram p.low p.high b size few many (omega arith) to ∙ byte_out_of_part m.sram p.low low_first b (omega arith) (omega arith) (omega arith) (inr (omega arith));
}

-- the two parts of one SRAM, in another
abbrev put : List ℕ → List ℕ → List ℕ
put was m = both m (part_at was low_first low_count) (part_at was high_first high_count)

few_low : (was : List ℕ) → length was ≡ byte_count → length (part_at was low_first low_count) ≡ low_count
few_low was size = length-part_at was low_first low_count (omega arith) (omega arith)

few_high : (was : List ℕ) → length was ≡ byte_count → length (part_at was high_first high_count) ≡ high_count
few_high was size = length-part_at was high_first high_count (omega arith) (omega arith)

put_low : (was m : List ℕ) (b : ℕ) → length was ≡ byte_count → length m ≡ byte_count → low_first ≤ b → b < low_first + low_count → byte_at (put was m) b ≡ byte_at was b
put_low was m b whole size from to =
    both_low m (part_at was low_first low_count) (part_at was high_first high_count) b size (few_low was whole) (few_high was whole) from (omega arith)
    ∙ byte_in_part m (part_at was low_first low_count) low_first b (omega arith) (omega (arith, few_low was whole)) from (omega (arith, few_low was whole))
    ∙ part_byte was low_first low_count (b - low_first) (omega arith) (omega arith)
    ∙ ap (byte_at was) (omega arith)

put_high : (was m : List ℕ) (b : ℕ) → length was ≡ byte_count → length m ≡ byte_count → high_first ≤ b → b < high_first + high_count → byte_at (put was m) b ≡ byte_at was b
put_high was m b whole size from to =
    byte_in_part (with_part m low_first (part_at was low_first low_count)) (part_at was high_first high_count) high_first b (omega arith)
    (omega (arith, low_size m (part_at was low_first low_count) size (few_low was whole), few_high was whole)) from (omega (arith, few_high was whole))
    ∙ part_byte was high_first high_count (b - high_first) (omega arith) (omega arith)
    ∙ ap (byte_at was) (omega arith)

put_size : (was m : List ℕ) → length was ≡ byte_count → length m ≡ byte_count → length (put was m) ≡ byte_count
put_size was m whole size = both_size m (part_at was low_first low_count) (part_at was high_first high_count) size (few_low was whole) (few_high was whole)

put_paging : (was m : List ℕ) → length was ≡ byte_count → length m ≡ byte_count → SamePaging was (put was m)
put_paging was m whole size = record {
  size = put_size was m whole size ∙ sym whole;
  cells = λ b from to. put_low was m b whole size (omega arith) (omega arith);
  tables = λ b from to. put_high was m b whole size (omega arith) (omega arith);
}

put_stack : (was m : List ℕ) → length was ≡ byte_count → length m ≡ byte_count → data_word_at (put was m) vsp_cell ≡ data_word_at was vsp_cell
unfolding data_word_at
put_stack was m whole size = ap₂ (λ low high. low + 256 * high) (put_low was m vsp_cell whole size (omega arith) (omega arith)) (put_low was m (vsp_cell + 1) whole size (omega arith) (omega arith))

-- a program's state by its parts that stand in SRAM
flat : Mote → (sp : ℕ) (memory : List ℕ) (has : List Bool) (pc steps crossings : ℕ) → FlatState
flat m sp memory has pc steps crossings =
    record { cpu = record { r = m.cpu.r; sreg = m.cpu.sreg; sp = sp; pc = pc }; memory = memory; devices = m.devices; pages = has; steps = steps; crossings = crossings }

put_state : (was m : Mote) (k : Kernel) (pc steps crossings : ℕ) → length was.sram ≡ byte_count → length m.sram ≡ byte_count
    → state_at (record k { mote = taken_up m (parked_of was) }) pc steps crossings ≡ state_at (record k { mote = was }) pc steps crossings
unfolding flat
put_state was m k pc steps crossings whole size =
    let n = put was.sram m.sram in
    let paging = put_paging was.sram m.sram whole size in
    let memory = vmem_same was.sram n was.swap paging (λ b from to. put_high was.sram m.sram b whole size (omega arith) (omega arith)) in
    rw (put_stack was.sram m.sram whole size, memory, pages_same was.sram n paging)

put_back : (was m : Mote) → length was.sram ≡ byte_count → length m.sram ≡ byte_count → IsBack was (taken_up m (parked_of was))
put_back was m whole size = record {
  core = refl;
  devices = refl;
  swap = refl;
  low = λ b from to. put_low was.sram m.sram b whole size from to;
  high = λ b from to. put_high was.sram m.sram b whole size from to;
  program = λ k pc steps crossings. put_state was m k pc steps crossings whole size;
  paged = λ paged. paged_same was.sram (put was.sram m.sram) was.swap (put_paging was.sram m.sram whole size) paged;
}

pub back : (was m : Mote) (p : Parked) → length was.sram ≡ byte_count → length m.sram ≡ byte_count → p ≡ parked_of was → IsBack was (taken_up m p)
back was m p whole size is = rw is (put_back was m whole size)

-- a mote that took up what was parked, part by part
pub took : (m : Mote) (p : Parked) (cpu : Cpu) (low sram : List ℕ) (devices : Devices) (swap : List (List ℕ)) → cpu ≡ p.cpu → low ≡ with_part m.sram low_first p.low
    → sram ≡ with_part low high_first p.high → devices ≡ p.devices → swap ≡ p.swap
    → ◌≡◌ {A = Mote} (record { cpu = cpu; sram = sram; flash = m.flash; devices = devices; swap = swap }) (taken_up m p)
took m p cpu low sram devices swap ec el es ed ew = rw (ec, es, el, ed, ew)

-- Changes one behind the other. ---------------------------------------------------------------------------

-- the bytes of SRAM decide it
byte_of : (m : List ℕ) (i : ℕ) → get_or m i 0 ≡ byte_at m (256 + i)
unfolding byte_at
byte_of m i = ap (λ k. get_or m k 0) (omega arith)

same_bytes : (m n : List ℕ) → length m ≡ byte_count → length n ≡ byte_count → ((b : ℕ) → 256 ≤ b → b < 256 + byte_count → byte_at m b ≡ byte_at n b) → m ≡ n
same_bytes m n size size' same = ext_get_or 0 m n (omega arith) (λ i below. byte_of m i ∙ same (256 + i) (omega arith) (omega arith) ∙ sym (byte_of n i))

-- a byte of SRAM with both parts written
pub both_in_low : (m low high : List ℕ) (b : ℕ) → length m ≡ byte_count → length low ≡ low_count → length high ≡ high_count → low_first ≤ b → b < low_first + low_count
    → byte_at (both m low high) b ≡ get_or low (b - low_first) 0
both_in_low m low high b size few many from to = both_low m low high b size few many from (omega arith) ∙ byte_in_part m low low_first b (omega arith) (omega arith) from (omega arith)

pub both_between : (m low high : List ℕ) (b : ℕ) → length m ≡ byte_count → length low ≡ low_count → length high ≡ high_count → low_first + low_count ≤ b → b < high_first
    → byte_at (both m low high) b ≡ byte_at m b
both_between m low high b size few many from to = both_low m low high b size few many (omega arith) to
    ∙ byte_out_of_part m low low_first b (omega arith) (omega arith) (omega arith) (inr (omega arith))

pub both_in_high : (m low high : List ℕ) (b : ℕ) → length m ≡ byte_count → length low ≡ low_count → length high ≡ high_count → high_first ≤ b → b < high_first + high_count
    → byte_at (both m low high) b ≡ get_or high (b - high_first) 0
both_in_high m low high b size few many from to = byte_in_part (with_part m low_first low) high high_first b (omega arith) (omega (arith, low_size m low size few)) from (omega arith)

-- what was written before is gone
both_twice : (m low high low' high' : List ℕ) → length m ≡ byte_count → length low ≡ low_count → length high ≡ high_count → length low' ≡ low_count → length high' ≡ high_count
    → both (both m low high) low' high' ≡ both m low' high'
both_twice m low high low' high' size few many few' many' =
    let n = both m low high in
    let size_n = both_size m low high size few many in
    same_bytes (both n low' high') (both m low' high') (both_size n low' high' size_n few' many') (both_size m low' high' size few' many') (λ b from to. elim (cases_lt b (low_first + low_count)) [
      | inl below ↦ both_in_low n low' high' b size_n few' many' from below ∙ sym (both_in_low m low' high' b size few' many' from below)
      | inr above ↦ elim (cases_lt b high_first) [
        | inl below ↦ both_between n low' high' b size_n few' many' above below ∙ both_between m low high b size few many above below ∙ sym (both_between m low' high' b size few' many' above below)
        | inr high_up ↦ both_in_high n low' high' b size_n few' many' high_up (omega arith) ∙ sym (both_in_high m low' high' b size few' many' high_up (omega arith))
      ]
    ])

-- and what is written back is as it was
both_back : (m low high : List ℕ) → length m ≡ byte_count → length low ≡ low_count → length high ≡ high_count → put m (both m low high) ≡ m
both_back m low high size few many =
    let n = both m low high in
    let size_n = both_size m low high size few many in
    let low' = part_at m low_first low_count in
    let high' = part_at m high_first high_count in
    same_bytes (put m n) m (put_size m n size size_n) size (λ b from to. elim (cases_lt b (low_first + low_count)) [
      | inl below ↦ put_low m n b size size_n from below
      | inr above ↦ elim (cases_lt b high_first) [
        | inl below ↦ both_between n low' high' b size_n (few_low m size) (few_high m size) above below ∙ both_between m low high b size few many above below
        | inr high_up ↦ put_high m n b size size_n high_up (omega arith)
      ]
    ])

-- a task that waits while two others are changed would take up the mote just as before
pub taken_twice : (m : Mote) (p q : Parked) → length m.sram ≡ byte_count → IsSized p → IsSized q → taken_up (taken_up m p) q ≡ taken_up m q
taken_twice m p q size sized sized' = rw (both_twice m.sram p.low p.high q.low q.high size sized.0 sized.1 sized'.0 sized'.1)

-- and so would the one that was parked now
pub taken_back : (m : Mote) (p : Parked) → length m.sram ≡ byte_count → IsSized p → taken_up (taken_up m p) (parked_of m) ≡ m
taken_back m p size sized = ap (λ s. record m { sram = s }) (both_back m.sram p.low p.high size sized.0 sized.1)

pub sized_of : (m : Mote) → length m.sram ≡ byte_count → IsSized (parked_of m)
sized_of m size = (few_low m.sram size, few_high m.sram size)

-- where a mote has taken up its own parts
pub both_own : (m : List ℕ) → length m ≡ byte_count → both m (part_at m low_first low_count) (part_at m high_first high_count) ≡ m
both_own m size =
    let low = part_at m low_first low_count in
    let high = part_at m high_first high_count in
    same_bytes (put m m) m (put_size m m size size) size (λ b from to. elim (cases_lt b (low_first + low_count)) [
      | inl below ↦ put_low m m b size size from below
      | inr above ↦ elim (cases_lt b high_first) [
        | inl below ↦ both_between m low high b size (few_low m size) (few_high m size) above below
        | inr high_up ↦ put_high m m b size size high_up (omega arith)
      ]
    ])
