-- What forgetting a page leaves is one function of SRAM.
use Rattle.std.proofs.Common.{◌≡◌, ℕ, ◌+◌, ◌-◌, ◌*◌, ◌/◌, ◌%◌, ◌<◌, ◌≤◌, ◌⊎◌, true, false, cond, List, length, get_or, map, arith, refl, ap, ap₂, sym, ◌∙◌, inl, inr, eq-eqb, ne_eqb, ⊎_elim}
use Rattle.std.specs.Prelude.{◌&&◌}
use Rattle.std.specs.List.{range_with_len}
use Rattle.std.proofs.lemmas.Bool.{cases_eq, cases_lt}
use Rattle.std.proofs.lemmas.Bool.Decides.{nat_tests}
use Rattle.std.proofs.lemmas.List.FromFn.{length-map-range_with_len, get_or-map-range_with_len}
use Rattle.std.proofs.lemmas.Grind.{same_number_lists}
use Rattle.flash_words.specs.Pages.{page_words}
use Rattle.sram_layout.specs.Bytes.{byte_count, byte_at}
use Rattle.sram_layout.specs.Cells.{entry_at}
use Rattle.sram_layout.specs.Regions.{place_tables, is_within}
use Rattle.addr_tables.specs.Changes.{entry_cell, is_in, Forgets, forgotten_byte, forgotten}

outside : (a : ℕ) → (a < place_tables.first) ⊎ (place_tables.behind ≤ a) → is_within place_tables a ≡ false
outside a where_it_is = ⊎_elim (λ low. grind (arith, nat_tests)) (λ high. grind (arith, nat_tests)) where_it_is

inside : (a : ℕ) → place_tables.first ≤ a → a < place_tables.behind → is_within place_tables a ≡ true
inside a from to = grind (arith, nat_tests)

-- a byte of entry k
entry_byte : (page k b : ℕ) (old new : List ℕ) → k < 160 → b < 4 → Forgets page old new
    → byte_at new (entry_cell k + b) ≡ cond (is_in page (entry_at old (entry_cell k))) 0 (byte_at old (entry_cell k + b))
entry_byte page k b old new below near forgets = elim (cases_eq ((entry_at old (entry_cell k)).1 / page_words) page) [
  | inl inside ↦ forgets.emptied k b below near inside ∙ sym (ap (λ t. cond t 0 (byte_at old (entry_cell k + b))) (eq-eqb _ _ inside))
  | inr outside ↦ forgets.stays k b below near outside ∙ sym (ap (λ t. cond t 0 (byte_at old (entry_cell k + b))) (ne_eqb _ _ outside))
]

forgets_byte : (page a : ℕ) (old new : List ℕ) → 0x0100 ≤ a → Forgets page old new → byte_at new a ≡ forgotten_byte old page a
forgets_byte page a old new from forgets =
    let test = is_in page (entry_at old (4 * (a / 4))) in
    let rest : (a < place_tables.first) ⊎ (place_tables.behind ≤ a) → byte_at new a ≡ forgotten_byte old page a = λ apart. forgets.rest.rest a from apart
    ∙ sym (ap (λ t. cond (t && test) 0 (byte_at old a)) (outside a apart)) in
    elim (cases_lt a place_tables.first) [
      | inl low ↦ rest (inl low)
      | inr above ↦ elim (cases_lt a place_tables.behind) [
        | inl below ↦
            let k = (a - place_tables.first) / 4 in
            let b = (a - place_tables.first) % 4 in
            let here : entry_cell k + b ≡ a = omega arith in
            let cell : entry_cell k ≡ 4 * (a / 4) = omega arith in
            ap (byte_at new) (sym here)
            ∙ entry_byte page k b old new (omega arith) (omega arith) forgets
            ∙ ap₂ (λ c d. cond (is_in page (entry_at old c)) 0 (byte_at old d)) cell here
            ∙ sym (ap (λ t. cond (t && test) 0 (byte_at old a)) (inside a above below))
        | inr high ↦ rest (inr high)
      ]
    ]

pub forgets_is : (page : ℕ) (old new : List ℕ) → length new ≡ byte_count → Forgets page old new → new ≡ forgotten old page
unfolding forgotten byte_at
forgets_is page old new long forgets =
    let all = map (forgotten_byte old page) (range_with_len 0x0100 byte_count) in
    same_number_lists new all (long ∙ sym (length-map-range_with_len (forgotten_byte old page) 0x0100 byte_count)) (λ k below.
    let there : 0x0100 + k - 0x0100 ≡ k = omega arith in
    ap (λ i. get_or new i 0) (sym there)
    ∙ forgets_byte page (0x0100 + k) old new (omega arith) forgets
    ∙ sym (get_or-map-range_with_len (forgotten_byte old page) 0x0100 byte_count k (0x0100 + k) 0 (omega arith) refl))
