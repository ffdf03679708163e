-- What an address of each class is, and what flat memory answers there.
use Rattle.std.proofs.Common.{◌≡◌, ℕ, ◌/◌, ◌<◌, Bool, true, false, cond, refl, ap, ap₂, arith, ◌&&◌, ◌||◌, nat_lt, nat_le}
use Rattle.std.proofs.lemmas.Bool.Decides.{nat_tests}
use Rattle.flat_machine.specs.Addresses.{is_stack, is_heap, is_heap_page}
use Rattle.flat_machine.specs.declared.address.AddrClass.{AddrClass}
use Rattle.flat_machine.specs.declared.address.AddrClass.TheVariants.{Register, Cpu, Io, Stack, Heap}
use Rattle.flat_machine.specs.Classes.{class_of}
use Rattle.avr_exec.specs.Spaces.{Outcome, Went}
use Rattle.mote_devices.specs.Accesses.{read, write}
use Rattle.flat_machine.specs.FlatSpace.{FlatSpace, flat_calls, memory_byte, with_memory, store_to_heap, from_device, to_device}

abbrev pub chosen : Bool → Bool → Bool → Bool → AddrClass
chosen register core stack heap = cond register Register (cond core Cpu (cond stack Stack (cond heap Heap Io)))

chosen_stack : (p q s h : Bool) → chosen p q s h ≡ Stack → s ≡ true
chosen_stack false false true h is = refl
chosen_stack false false false true is = absurd (cc)
chosen_stack _ _ _ _ is = absurd (cc)

chosen_heap : (p q s h : Bool) → chosen p q s h ≡ Heap → h ≡ true
chosen_heap false false false true is = refl
chosen_heap _ _ _ _ is = absurd (cc)

pub class_stack : (a : ℕ) → class_of a ≡ Stack → is_stack a ≡ true
unfolding class_of
class_stack a is = chosen_stack (nat_lt a 0x20) (nat_le 0x5D a && nat_le a 0x5F) (is_stack a) (is_heap a) is

pub class_heap : (a : ℕ) → class_of a ≡ Heap → is_heap a ≡ true
unfolding class_of
class_heap a is = chosen_heap (nat_lt a 0x20) (nat_le 0x5D a && nat_le a 0x5F) (is_stack a) (is_heap a) is

-- below data address 256 there is no stack and no heap
pub low_stack : (a : ℕ) → a < 256 → is_stack a ≡ false
low_stack a below = grind (arith, nat_tests)

pub low_heap : (a : ℕ) → a < 256 → is_heap a ≡ false
low_heap a below = let page : a / 256 ≡ 0 = omega arith in ap is_heap_page page

-- what flat memory answers to a load and to a store, by the class of the address
abbrev pub load_in : AddrClass → FlatSpace → ℕ → Outcome FlatSpace ℕ
load_in Stack s a = Went (memory_byte s a) s
load_in Heap s a = Went (memory_byte s a) s
load_in _ s a = from_device s a (read s.devices a)

abbrev pub store_in : AddrClass → FlatSpace → ℕ → ℕ → Outcome FlatSpace (Unit {0})
store_in Stack s a v = Went tt (with_memory s a v)
store_in Heap s a v = store_to_heap s a v
store_in _ s a v = to_device s a (write s.devices a v)

-- an address of the core is none of memory
no_memory : (a : ℕ) → nat_lt a 0x20 || (nat_le 0x5D a && nat_le a 0x5F) ≡ true → (is_stack a ≡ false) × (is_heap a ≡ false)
no_memory a core =
    let low : a < 256 = grind (arith, nat_tests) in
    (low_stack a low, low_heap a low)

load_by : (register core stack heap : Bool) (s : FlatSpace) (a : ℕ) → (register || core ≡ true → (stack ≡ false) × (heap ≡ false))
    → cond (stack || heap) (Went (memory_byte s a) s) (from_device s a (read s.devices a)) ≡ load_in (chosen register core stack heap) s a
load_by false false true heap s a none = refl
load_by false false false true s a none = refl
load_by false false false false s a none = refl
load_by _ _ stack heap s a none = ap₂ (λ b c. cond (b || c) (Went (memory_byte s a) s) (from_device s a (read s.devices a))) (none refl).0 (none refl).1

pub load_by_class : (s : FlatSpace) (a : ℕ) → flat_calls.load s a ≡ load_in (class_of a) s a
unfolding class_of
load_by_class s a = load_by (nat_lt a 0x20) (nat_le 0x5D a && nat_le a 0x5F) (is_stack a) (is_heap a) s a (no_memory a)

store_by : (register core stack heap : Bool) (s : FlatSpace) (a v : ℕ) → (register || core ≡ true → (stack ≡ false) × (heap ≡ false))
    → cond stack (Went tt (with_memory s a v)) (cond heap (store_to_heap s a v) (to_device s a (write s.devices a v))) ≡ store_in (chosen register core stack heap) s a v
store_by false false true heap s a v none = refl
store_by false false false true s a v none = refl
store_by false false false false s a v none = refl
store_by _ _ stack heap s a v none = ap₂ (λ b c. cond b (Went tt (with_memory s a v)) (cond c (store_to_heap s a v) (to_device s a (write s.devices a v)))) (none refl).0 (none refl).1

pub store_by_class : (s : FlatSpace) (a v : ℕ) → flat_calls.store s a v ≡ store_in (class_of a) s a v
unfolding class_of
store_by_class s a v = store_by (nat_lt a 0x20) (nat_le 0x5D a && nat_le a 0x5F) (is_stack a) (is_heap a) s a v (no_memory a)
