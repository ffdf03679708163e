-- Entries emptied one after another, and what forgetting a page leaves.
use Rattle.std.proofs.Common.{◌≡◌, ℕ, ◌+◌, ◌*◌, ◌/◌, ◌<◌, ◌≤◌, Bool, true, false, cond, List, length, arith, refl, ap, ap₂, subst, sym, ◌∙◌, inl, inr, eq-eqb, ne_eqb, below_none, below_more}
use Rattle.std.specs.Prelude.{◌≢◌}
use Rattle.std.proofs.lemmas.Bool.{cases_eq}
use Rattle.flash_words.specs.Pages.{page_words}
use Rattle.flash_words.specs.declared.layout.Layout.{Layout}
use Rattle.sram_layout.specs.Bytes.{byte_count, byte_at, data_word_at}
use Rattle.sram_layout.specs.Cells.{entry_at, with_entry, way_cell}
use Rattle.addr_tables.specs.Tables.{IsHeld, IsTables}
use Rattle.addr_tables.specs.Changes.{entry_cell, KeepsRest, is_in, IsIn, without_entry, Forgets, HasNoneIn, StaysOutside}
use Rattle.sram_layout.proofs.RegionLaws.{outside_same, outside_then}
use Rattle.addr_tables.proofs.EntryLaws.{way_cell_is, apart_cells, written, byte_not_written, rest_written, tables_all, all_tables}

-- an entry, by its four bytes
abbrev entry_of_bytes : ℕ → ℕ → ℕ → ℕ → ℕ × ℕ
entry_of_bytes a b c d = (a + 256 * b, c + 256 * d)

below_four : (P : ℕ → Type 0) → P 0 → P 1 → P 2 → P 3 → (b : ℕ) → b < 4 → P b
below_four P p0 p1 p2 p3 = below_more P 3 (below_more P 2 (below_more P 1 (below_more P 0 (below_none P) p0) p1) p2) p3

entry_bytes : (m : List ℕ) (a : ℕ) → entry_at m a ≡ entry_of_bytes (byte_at m (a + 0)) (byte_at m (a + 1)) (byte_at m (a + 2)) (byte_at m (a + 3))
unfolding data_word_at
entry_bytes m a = ap₂ (λ low high. entry_of_bytes low (byte_at m (a + 1)) (byte_at m (a + 2)) high) (ap (byte_at m) (omega arith)) (ap (byte_at m) (omega arith))

-- an entry whose bytes stay, and one whose bytes are 0
pub bytes_stay : (m m' : List ℕ) (a : ℕ) → ((b : ℕ) → b < 4 → byte_at m' (a + b) ≡ byte_at m (a + b)) → entry_at m' a ≡ entry_at m a
bytes_stay m m' a same =
    entry_bytes m' a
    ∙ ap₂ (λ x y. entry_of_bytes x y (byte_at m' (a + 2)) (byte_at m' (a + 3))) (same 0 (omega arith)) (same 1 (omega arith))
    ∙ ap₂ (entry_of_bytes (byte_at m (a + 0)) (byte_at m (a + 1))) (same 2 (omega arith)) (same 3 (omega arith))
    ∙ sym (entry_bytes m a)

pub bytes_zero : (m : List ℕ) (a : ℕ) → ((b : ℕ) → b < 4 → byte_at m (a + b) ≡ 0) → entry_at m a ≡ (0, 0)
bytes_zero m a zero =
    entry_bytes m a
    ∙ ap₂ (λ x y. entry_of_bytes x y (byte_at m (a + 2)) (byte_at m (a + 3))) (zero 0 (omega arith)) (zero 1 (omega arith))
    ∙ ap₂ (entry_of_bytes 0 0) (zero 2 (omega arith)) (zero 3 (omega arith))

-- the bytes of an entry that is emptied
emptied_bytes : (m : List ℕ) (k b : ℕ) → length m ≡ byte_count → k < 160 → b < 4 → byte_at (with_entry m (entry_cell k) 0 0) (entry_cell k + b) ≡ 0
emptied_bytes m k b long below =
    let new = with_entry m (entry_cell k) 0 0 in
    let is = sym (entry_bytes new (entry_cell k)) ∙ written m k 0 0 long below in
    let low : byte_at new (entry_cell k + 0) + 256 * byte_at new (entry_cell k + 1) ≡ 0 = ap (λ (entry : ℕ × ℕ). entry.0) is in
    let high : byte_at new (entry_cell k + 2) + 256 * byte_at new (entry_cell k + 3) ≡ 0 = ap (λ (entry : ℕ × ℕ). entry.1) is in
    below_four (λ b. byte_at new (entry_cell k + b) ≡ 0) (omega arith) (omega arith) (omega arith) (omega arith) b

-- a byte of an entry after the page is forgotten
abbrev left : Bool → ℕ → ℕ
left b byte = cond b 0 byte

-- one entry
without_here : (m : List ℕ) (page k b : ℕ) → length m ≡ byte_count → k < 160 → b < 4
    → byte_at (without_entry m page (entry_cell k)) (entry_cell k + b) ≡ left (is_in page (entry_at m (entry_cell k))) (byte_at m (entry_cell k + b))
unfolding without_entry
without_here m page k b long below near =
    elim (is_in page (entry_at m (entry_cell k))) as (λ t. byte_at (cond t (with_entry m (entry_cell k) 0 0) m) (entry_cell k + b) ≡ left t (byte_at m (entry_cell k + b))) [
      | true ↦ emptied_bytes m k b long below near
      | false ↦ refl
    ]

without_there : (m : List ℕ) (page k j b : ℕ) → j ≢ k → b < 4 → byte_at (without_entry m page (entry_cell k)) (entry_cell j + b) ≡ byte_at m (entry_cell j + b)
unfolding without_entry
without_there m page k j b apart near = elim (is_in page (entry_at m (entry_cell k))) as (λ t. byte_at (cond t (with_entry m (entry_cell k) 0 0) m) (entry_cell j + b) ≡ byte_at m (entry_cell j + b)) [
  | true ↦ byte_not_written m (entry_cell k) (entry_cell j + b) 0 0 (omega arith) (omega arith) (elim (apart_cells k j apart) [ inl low ↦ inl (omega arith) | inr high ↦ inr (omega arith) ])
  | false ↦ refl
]

without_rest : (m : List ℕ) (page k : ℕ) → k < 160 → KeepsRest m (without_entry m page (entry_cell k))
unfolding without_entry
without_rest m page k below = elim (is_in page (entry_at m (entry_cell k))) as (λ t. KeepsRest m (cond t (with_entry m (entry_cell k) 0 0) m)) [
  | true ↦ rest_written m k 0 0 below
  | false ↦ outside_same m
]

-- the first n entries of the row
pub record ForgetsFirst (page n : ℕ) (old new : List ℕ) : Type 0 where
  pub first : (k b : ℕ) → k < n → k < 160 → b < 4 → byte_at new (entry_cell k + b) ≡ left (is_in page (entry_at old (entry_cell k))) (byte_at old (entry_cell k + b))
  pub others : (k b : ℕ) → n ≤ k → k < 160 → b < 4 → byte_at new (entry_cell k + b) ≡ byte_at old (entry_cell k + b)
  pub rest : KeepsRest old new

pub forgets_more : (page n : ℕ) (old mid : List ℕ) → length mid ≡ byte_count → n < 160 → ForgetsFirst page n old mid → ForgetsFirst page (n + 1) old (without_entry mid page (entry_cell n))
forgets_more page n old mid long room before =
    let same : entry_at mid (entry_cell n) ≡ entry_at old (entry_cell n) = bytes_stay old mid (entry_cell n) (λ b near. before.others n b (omega arith) room near) in
    record {
      first = λ k b lower below near. elim (cases_eq k n) [
        | inl here ↦
            rw here (without_here mid page n b long room near ∙ ap₂ (λ entry byte. left (is_in page entry) byte) same (before.others n b (omega arith) room near))
        | inr apart ↦ without_there mid page n k b apart near ∙ before.first k b (omega arith) below near
      ];
      others = λ k b from below near. without_there mid page n k b (λ same. omega arith) near ∙ before.others k b (omega arith) below near;
      rest = outside_then before.rest (without_rest mid page n room);
    }

-- one more, as the loops number it
pub forgets_aside : (page n : ℕ) (old mid new : List ℕ) → length mid ≡ byte_count → n < 32 → ForgetsFirst page n old mid → new ≡ without_entry mid page (entry_cell n)
    → ForgetsFirst page (n + 1) old new
forgets_aside page n old mid new long room before is = rw is (forgets_more page n old mid long (omega arith) before)

pub forgets_way : (page set which : ℕ) (old mid new : List ℕ) → length mid ≡ byte_count → set < 64 → which < 2 → ForgetsFirst page (32 + 2 * set + which) old mid
    → new ≡ without_entry mid page (way_cell set which) → ForgetsFirst page (32 + 2 * set + which + 1) old new
forgets_way page set which old mid new long near near' before is =
    let n = 32 + 2 * set + which in
    rw (is ∙ ap (without_entry mid page) (way_cell_is set which)) (forgets_more page n old mid long (omega arith) before)

-- all of them
pub forgets_all : (page n : ℕ) (old new : List ℕ) → 160 ≤ n → ForgetsFirst page n old new → Forgets page old new
forgets_all page n old new whole all = record {
  emptied = λ k b below near inside. all.first k b (omega arith) below near ∙ ap (λ t. left t (byte_at old (entry_cell k + b))) (eq-eqb _ _ inside);
  stays = λ k b below near outside. all.first k b (omega arith) below near ∙ ap (λ t. left t (byte_at old (entry_cell k + b))) (ne_eqb _ _ outside);
  rest = all.rest;
}

-- entry by entry: an entry in the page is empty, and another stays
pub data Forgotten (page : ℕ) (old new : ℕ × ℕ) : Type 0 where
  Emptied : IsIn page old → new ≡ (0, 0) → Forgotten page old new
  Stayed : ¬ IsIn page old → new ≡ old → Forgotten page old new

pub forgets_entry : (page k : ℕ) (old new : List ℕ) → k < 160 → Forgets page old new → Forgotten page (entry_at old (entry_cell k)) (entry_at new (entry_cell k))
forgets_entry page k old new below forgets = elim (cases_eq ((entry_at old (entry_cell k)).1 / page_words) page) [
  | inl inside ↦ Emptied inside (bytes_zero new (entry_cell k) (λ b near. forgets.emptied k b below near inside))
  | inr outside ↦ Stayed outside (bytes_stay old new (entry_cell k) (λ b near. forgets.stays k b below near outside))
]

none_in : (page : ℕ) (old new : ℕ × ℕ) → Forgotten page old new → new.1 ≢ 0 → ¬ IsIn page new
none_in page old new (Forgotten.Emptied inside empty) full inside' = full (ap (λ (entry : ℕ × ℕ). entry.1) empty)
none_in page old new (Forgotten.Stayed outside same) full inside = outside (subst (IsIn page) same inside)

pub forgets_gone : (page : ℕ) (old new : List ℕ) → Forgets page old new → HasNoneIn page new
forgets_gone page old new forgets k below = none_in page _ _ (forgets_entry page k old new below forgets)

-- right tables are right still, for each flash that keeps the entries outside the page
held_outside : (layout : Layout) (words words' : List ℕ) (page : ℕ) (old new : ℕ × ℕ) → StaysOutside layout words words' page → Forgotten page old new → IsHeld layout words old
    → IsHeld layout words' new
held_outside layout words words' page old new stays (Forgotten.Emptied inside empty) held full = absurd (full (ap (λ (entry : ℕ × ℕ). entry.1) empty))
held_outside layout words words' page old new stays (Forgotten.Stayed outside same) held full =
    rw same (stays old.0 old.1 (held (rw same at full)) outside)

pub forgets_tables : (layout : Layout) (words words' : List ℕ) (page : ℕ) (old new : List ℕ) → Forgets page old new → StaysOutside layout words words' page → IsTables layout old words
    → IsTables layout new words'
forgets_tables layout words words' page old new forgets stays tables =
    all_tables layout new words' (λ k below. held_outside layout words words' page _ _ stays (forgets_entry page k old new below forgets) (tables_all layout old words tables k below))

-- no entry has its place there, and nothing changes
pub forgets_none : (page : ℕ) (m : List ℕ) → ((k : ℕ) → k < 160 → ¬ IsIn page (entry_at m (entry_cell k))) → Forgets page m m
forgets_none page m none = record { emptied = λ k b below near is. absurd (none k below is); stays = λ k b below near out. refl; rest = outside_same m }
