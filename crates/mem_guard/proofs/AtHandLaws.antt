-- A byte at hand: what a load and a store of it do.
use Rattle.std.proofs.Common.{◌≡◌, ℕ, true, false, arith, List, sym, ap, subst, ◌∙◌}
use Rattle.std.specs.Prelude.{if◌then◌else◌, Option, Some, None, IfSome}
use Rattle.std.proofs.lemmas.Bool.Decides.{nat_tests}
use Rattle.avr_exec.specs.Registers.{is_own}
use Rattle.avr_exec.specs.Spaces.{Went}
use Rattle.sram_layout.specs.Bytes.{byte_at, with_byte}
use Rattle.flat_machine.specs.Addresses.{is_stack, is_heap}
use Rattle.flat_machine.proofs.ClassLaws.{class_stack, class_heap}
use Rattle.flat_machine.specs.declared.address.AddrClass.TheVariants.{Stack, Heap}
use Rattle.flat_machine.specs.Classes.{class_of}
use Rattle.heap_frames.specs.Paged.{IsPaged}
use Rattle.heap_frames.proofs.MemoryLaws.{heap_no_stack}
use Rattle.heap_frames.specs.Paging.{store_of, heap_load, heap_store}
use Rattle.heap_frames.specs.InFrame.{stored_in_frame}
use Rattle.mem_guard.specs.Guarded.{load_in, load, store_in, store, from_heap, to_heap}
use Rattle.mem_guard.specs.AtHand.{stored_at_hand, LoadsAtHand, StoresAtHand}

-- neither class has an address of the core's own
stack_outside : (a : ℕ) → is_stack a ≡ true → is_own a ≡ false
stack_outside a stack = grind (arith, nat_tests)

heap_outside : (a : ℕ) → is_heap a ≡ true → is_own a ≡ false
heap_outside a heap = grind (arith, nat_tests)

in_heap : (a : ℕ) → class_of a ≡ Heap → is_stack a ≡ false
in_heap a is = heap_no_stack a (class_heap a is)

pub loads_stack : (m : List ℕ) (a : ℕ) → class_of a ≡ Stack → LoadsAtHand m a (byte_at m a)
unfolding load
loads_stack m a is = record {
  outside = stack_outside a (class_stack a is);
  loads = λ g same paged. ap (λ c. load_in c g a) is ∙ ap (λ n. Went (byte_at n a) g) same;
}

loads_heap : (m : List ℕ) (a byte : ℕ) → class_of a ≡ Heap → ((w : List (List ℕ)) → IsPaged m w → heap_load (store_of m w) a ≡ (byte, store_of m w)) → LoadsAtHand m a byte
unfolding load
loads_heap m a byte is hit = record {
  outside = heap_outside a (class_heap a is);
  loads = λ g same paged. ap (λ c. load_in c g a) is
      ∙ ap (from_heap g) (ap (λ n. heap_load (store_of n g.swap) a) same ∙ hit g.swap (subst (λ n. IsPaged n g.swap) same paged) ∙ ap (λ n. (byte, store_of n g.swap)) (sym same));
}

pub loads_found : (m : List ℕ) (a : ℕ) (found : Option ℕ) → class_of a ≡ Heap
    → IfSome found (λ byte. (w : List (List ℕ)) → IsPaged m w → heap_load (store_of m w) a ≡ (byte, store_of m w)) → IfSome found (λ byte. LoadsAtHand m a byte)
loads_found m a (Some byte) is hit = loads_heap m a byte is hit
loads_found m a None is hit = hit

pub stores_stack : (m : List ℕ) (a v : ℕ) → class_of a ≡ Stack → StoresAtHand m a v
unfolding store stored_at_hand
stores_stack m a v is = record {
  outside = stack_outside a (class_stack a is);
  stores = λ g same paged. ap (λ c. store_in c g a v) is ∙ ap (λ n. Went tt (record g { sram = with_byte n a v })) same
      ∙ ap (λ b. Went tt (record g { sram = if b then with_byte m a v else stored_in_frame m a v })) (sym (class_stack a is));
}

pub stores_heap : (m : List ℕ) (a v : ℕ) → class_of a ≡ Heap → ((w : List (List ℕ)) → IsPaged m w → heap_store (store_of m w) a v ≡ Some (store_of (stored_in_frame m a v) w)) → StoresAtHand m a v
unfolding store stored_at_hand
stores_heap m a v is hit = record {
  outside = heap_outside a (class_heap a is);
  stores = λ g same paged. ap (λ c. store_in c g a v) is
      ∙ ap (to_heap g a) (ap (λ n. heap_store (store_of n g.swap) a v) same ∙ hit g.swap (subst (λ n. IsPaged n g.swap) same paged))
      ∙ ap (λ b. Went tt (record g { sram = if b then with_byte m a v else stored_in_frame m a v })) (sym (in_heap a is));
}

-- SRAM after a store, by the class
pub stack_after : (m : List ℕ) (a v : ℕ) → class_of a ≡ Stack → with_byte m a v ≡ stored_at_hand m a v
unfolding stored_at_hand
stack_after m a v is = ap (λ b. if b then with_byte m a v else stored_in_frame m a v) (sym (class_stack a is))

pub heap_after : (m : List ℕ) (a v : ℕ) → class_of a ≡ Heap → stored_in_frame m a v ≡ stored_at_hand m a v
unfolding stored_at_hand
heap_after m a v is = ap (λ b. if b then with_byte m a v else stored_in_frame m a v) (sym (in_heap a is))
