-- The bytes of a program's memory by the class of their address, and rows of them.
use Rattle.std.proofs.Common.{◌≡◌, ℕ, suc, ◌+◌, ◌<◌, ◌≤◌, Bool, true, false, cond, List, [], ◌++◌, codes, ◌==◌, ◌&&◌, ◌||◌, not, nat_lt, nat_le, refl, sym, ap, ap₂, ◌∙◌, arith, append_assoc, inl, inr}
use Rattle.std.specs.Prelude.{slice_index}
use Rattle.std.proofs.lemmas.Bool.{cases_lt}
use Rattle.std.proofs.lemmas.Bool.Decides.{nat_tests}
use Rattle.flat_machine.specs.Addresses.{is_stack, is_heap}
use Rattle.heap_frames.specs.Memory.{vmem}
use Rattle.heap_frames.proofs.MemoryLaws.{no_byte, vmem_byte}
use Rattle.flat_machine.specs.declared.address.AddrClass.TheVariants.{Stack, Heap}
use Rattle.flat_machine.specs.Classes.{class_of}
use Rattle.flat_machine.proofs.ClassLaws.{chosen, low_stack, low_heap}
use Rattle.text_lines.specs.Pieces.{address_text}
use Rattle.tk_watch.specs.MemoryText.{byte_told, is_filled, row_text}
use Rattle.tk_watch.specs.Rows.{rows}

neither : (p q s h : Bool) → (chosen p q s h ≡ Stack → ⊥) → (chosen p q s h ≡ Heap → ⊥) → p ≡ false → q ≡ false → (s ≡ false) × (h ≡ false)
neither false false true h no_stack no_heap low core = absurd (no_stack refl)
neither false false false true no_stack no_heap low core = absurd (no_heap refl)
neither false false false false no_stack no_heap low core = (refl, refl)
neither _ _ _ _ no_stack no_heap low core = absurd (cc)

low_byte : (m : List ℕ) (w : List (List ℕ)) (a : ℕ) → a < 256 → slice_index (vmem m w) a ≡ 0
low_byte m w a below = vmem_byte m w a (omega arith) ∙ no_byte m w a (low_stack a below) (low_heap a below)

high_register : (a : ℕ) → 256 ≤ a → nat_lt a 0x20 ≡ false
high_register a above = grind (arith, nat_tests)

high_core : (a : ℕ) → 256 ≤ a → (nat_le 0x5D a && nat_le a 0x5F) ≡ false
high_core a above = grind (arith, nat_tests)

-- what is neither in the stack window nor in the heap is 0
pub no_memory_byte : (m : List ℕ) (w : List (List ℕ)) (a : ℕ) → a < 65536 → (class_of a ≡ Stack → ⊥) → (class_of a ≡ Heap → ⊥) → slice_index (vmem m w) a ≡ 0
unfolding class_of
no_memory_byte m w a below no_stack no_heap = elim (cases_lt a 256) [
  | inl low ↦ low_byte m w a low
  | inr above ↦
      let apart = neither (nat_lt a 0x20) (nat_le 0x5D a && nat_le a 0x5F) (is_stack a) (is_heap a) no_stack no_heap (high_register a above) (high_core a above) in
      vmem_byte m w a below ∙ no_byte m w a apart.0 apart.1
]

-- one byte more of a row
pub none_filled : (byte : ℕ → ℕ) → false ≡ is_filled byte 0
unfolding is_filled
none_filled byte = refl

pub filled_next : (byte : ℕ → ℕ) (i v : ℕ) (filled : Bool) → filled ≡ is_filled byte i → v ≡ byte i → (filled || not (v == 0)) ≡ is_filled byte (i + 1)
unfolding is_filled
filled_next byte i v filled is same =
    let next : suc i ≡ i + 1 = omega arith in
    ap₂ (λ a b. a || not (b == 0)) is same ∙ ap (is_filled byte) next

-- a row that is told, and one that isn't
pub row_told : (memory text line : List ℕ) (at i : ℕ) → i ≡ 16 → true ≡ is_filled (λ k. slice_index memory (at + k)) i
    → text ≡ address_text at ++ rows (λ k. byte_told (slice_index memory (at + k))) i → line ≡ text ++ codes "\n" → line ≡ row_text memory at
unfolding row_text
row_told memory text line at i all filled was is =
    let some : is_filled (λ k. slice_index memory (at + k)) 16 ≡ true = ap (is_filled (λ k. slice_index memory (at + k))) (sym all) ∙ sym filled in
    let whole = address_text at ++ (rows (λ k. byte_told (slice_index memory (at + k))) 16 ++ codes "\n") in
    is ∙ ap (λ t. t ++ codes "\n") (was ∙ ap (λ n. address_text at ++ rows (λ k. byte_told (slice_index memory (at + k))) n) all)
    ∙ append_assoc (address_text at) (rows (λ k. byte_told (slice_index memory (at + k))) 16) (codes "\n")
    ∙ ap (λ b. cond b whole []) (sym some)

pub row_blank : (memory : List ℕ) (at i : ℕ) → i ≡ 16 → false ≡ is_filled (λ k. slice_index memory (at + k)) i → row_text memory at ≡ []
unfolding row_text
row_blank memory at i all blank =
    let none : is_filled (λ k. slice_index memory (at + k)) 16 ≡ false = ap (is_filled (λ k. slice_index memory (at + k))) (sym all) ∙ sym blank in
    ap (λ b. cond b (address_text at ++ (rows (λ k. byte_told (slice_index memory (at + k))) 16 ++ codes "\n")) []) none
