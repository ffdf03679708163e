-- The memory's bytes, and when two memories are the same but for one byte.
use Rattle.std.proofs.Common.{◌≡◌, ℕ, ◌/◌, ◌%◌, ◌<◌, ◌≤◌, List, length, arith, ◌∙◌, sym, refl}
use Rattle.std.specs.Prelude.{◌≢◌, Bool, true, false, slice_index, slice_set}
use Rattle.std.proofs.lemmas.Bool.Decides.{nat_tests}
use Rattle.sram_layout.specs.Bytes.{byte_at}
use Rattle.sram_layout.specs.Regions.{stack_window}
use Rattle.flat_machine.specs.Addresses.{is_stack, is_heap}
use Rattle.heap_frames.specs.Memory.{heap_byte, virtual_byte, vmem}
use Rattle.heap_frames.proofs.Tables.{table_item, table_same, table_set, length-table}
use Rattle.heap_frames.proofs.EntryLaws.{page_below}

-- heap addresses are outside the stack window
pub heap_no_stack : (a : ℕ) → is_heap a ≡ true → is_stack a ≡ false
heap_no_stack a heap = grind (arith, nat_tests)

pub stack_from : (a : ℕ) → is_stack a ≡ true → stack_window.first ≤ a
stack_from a stack = grind (arith, nat_tests)

pub stack_to : (a : ℕ) → is_stack a ≡ true → a < stack_window.behind
stack_to a stack = grind (arith, nat_tests)

pub in_window : (a : ℕ) → stack_window.first ≤ a → a < stack_window.behind → is_stack a ≡ true
in_window a from to = grind (arith, nat_tests)

pub heap_below : (a : ℕ) → is_heap a ≡ true → a < 65536
heap_below a heap =
    let low : a / 256 < 256 = page_below (a / 256) heap in
    omega arith

-- a byte of the window, of the heap, and of neither
pub stack_byte : (m : List ℕ) (w : List (List ℕ)) (a : ℕ) → is_stack a ≡ true → virtual_byte m w a ≡ byte_at m a
unfolding virtual_byte
stack_byte m w a stack = rw stack

pub page_byte : (m : List ℕ) (w : List (List ℕ)) (a : ℕ) → is_heap a ≡ true → virtual_byte m w a ≡ heap_byte m w (a / 256) (a % 256)
unfolding virtual_byte
page_byte m w a heap =
    rw (heap_no_stack a heap, heap)

pub no_byte : (m : List ℕ) (w : List (List ℕ)) (a : ℕ) → is_stack a ≡ false → is_heap a ≡ false → virtual_byte m w a ≡ 0
unfolding virtual_byte
no_byte m w a outside elsewhere = rw (outside, elsewhere)

pub length-vmem : (m : List ℕ) (w : List (List ℕ)) → length (vmem m w) ≡ 65536
unfolding vmem
length-vmem m w = length-table 65536 (virtual_byte m w)

pub vmem_byte : (m : List ℕ) (w : List (List ℕ)) (a : ℕ) → a < 65536 → slice_index (vmem m w) a ≡ virtual_byte m w a
unfolding vmem
vmem_byte m w a below = table_item 65536 (virtual_byte m w) a 0 below

-- the same window and the same heap bytes are the same memory
pub record SameBytes (m n : List ℕ) (w w' : List (List ℕ)) (P : ℕ → Type 0) : Type 0 where
  pub window : (a : ℕ) → is_stack a ≡ true → P a → byte_at n a ≡ byte_at m a
  pub heap : (a : ℕ) → a < 65536 → is_heap a ≡ true → P a → heap_byte n w' (a / 256) (a % 256) ≡ heap_byte m w (a / 256) (a % 256)

by_class : {m n : List ℕ} {w w' : List (List ℕ)} {P : ℕ → Type 0} (a : ℕ) (stack heap : Bool) → is_stack a ≡ stack → is_heap a ≡ heap → SameBytes m n w w' P → a < 65536 → P a
    → virtual_byte n w' a ≡ virtual_byte m w a
by_class {m} {n} {w} {w'} a true heap in_stack in_heap same below p = stack_byte n w' a in_stack ∙ same.window a in_stack p ∙ sym (stack_byte m w a in_stack)
by_class {m} {n} {w} {w'} a false true in_stack in_heap same below p = page_byte n w' a in_heap ∙ same.heap a below in_heap p ∙ sym (page_byte m w a in_heap)
by_class {m} {n} {w} {w'} a false false in_stack in_heap same below p = no_byte n w' a in_stack in_heap ∙ sym (no_byte m w a in_stack in_heap)

pub same_byte : {m n : List ℕ} {w w' : List (List ℕ)} {P : ℕ → Type 0} (a : ℕ) → SameBytes m n w w' P → a < 65536 → P a → virtual_byte n w' a ≡ virtual_byte m w a
same_byte a same below p = by_class a (is_stack a) (is_heap a) refl refl same below p

pub same_memory : {m n : List ℕ} {w w' : List (List ℕ)} → SameBytes m n w w' (λ a. Unit {0}) → vmem n w' ≡ vmem m w
unfolding vmem
same_memory {m} {n} {w} {w'} same = table_same 65536 (virtual_byte n w') (virtual_byte m w) (λ a below. same_byte a same below tt)

pub one_byte : {m n : List ℕ} {w w' : List (List ℕ)} (a v : ℕ) → SameBytes m n w w' (λ k. k ≢ a) → a < 65536 → virtual_byte n w' a ≡ v → vmem n w' ≡ slice_set (vmem m w) a v
unfolding vmem
one_byte {m} {n} {w} {w'} a v same below there = table_set 65536 (virtual_byte m w) (virtual_byte n w') a v below there (λ k low apart. same_byte k same low apart)
