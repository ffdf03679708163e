-- What the calls leave in SRAM (docs/LOADER.md, "The tables of places").
use Rattle.std.specs.Prelude.{◌≡◌, ◌≢◌, ℕ, ◌+◌, ◌*◌, ◌/◌, ◌<◌, ◌⊎◌, ◌==◌, ◌&&◌, ◌||◌, Bool, if◌then◌else◌, List, map, Option, Some, None}
use Rattle.std.specs.List.{range_with_len}
use Rattle.flash_words.specs.Pages.{page_words}
use Rattle.flash_words.specs.declared.layout.Layout.{Layout}
use Rattle.sram_layout.specs.Bytes.{first_address, byte_count, byte_at}
use Rattle.sram_layout.specs.Cells.{aside_cell, entry_at, with_entry}
use Rattle.sram_layout.specs.Regions.{place_tables, is_within, KeepsOutside}
use Rattle.page_index.specs.Entries.{IsEntry}
use Rattle.addr_tables.specs.Hits.{aside_of, way_of, hit}

-- the entry is exactly this pair
abbrev pub is_pair : ℕ × ℕ → ℕ → ℕ → Bool
is_pair entry t place = entry.0 == t && entry.1 == place

-- (t, place) as the first entry of its set, and the first before as the second
abbrev pub moved_to_front : List ℕ → ℕ → ℕ → List ℕ
moved_to_front sram t place =
    let first = entry_at sram (way_of t 0) in
    with_entry (with_entry sram (way_of t 1) first.0 first.1) (way_of t 0) t place

-- the two-way table with (t, place) in t's set, which stays as it is where one of its two entries is the pair
unfoldable pub noted_in_set : List ℕ → ℕ → ℕ → List ℕ
noted_in_set sram t place =
    if is_pair (entry_at sram (way_of t 0)) t place || is_pair (entry_at sram (way_of t 1)) t place then sram
    else moved_to_front sram t place

-- both tables with (t, place) noted
unfoldable pub noted : List ℕ → ℕ → ℕ → List ℕ
noted sram t place = with_entry (noted_in_set sram t place) (aside_of t) t place

-- entry k of the 160 of both tables, as they stand in SRAM: the 32 of the look-aside table, then the two of each set
abbrev pub entry_cell : ℕ → ℕ
entry_cell k = aside_cell k

-- only bytes of the two tables change
abbrev pub KeepsRest : (old new : List ℕ) → Type 0
KeepsRest old new = KeepsOutside place_tables old new

-- one of the two entries of t's set is (t, place)
abbrev pub SetHas : List ℕ → ℕ → ℕ → Type 0
SetHas sram t place = (entry_at sram (way_of t 0) ≡ (t, place)) ⊎ (entry_at sram (way_of t 1) ≡ (t, place))

-- What `noted` leaves, entry by entry.
pub record Notes (t place : ℕ) (old new : List ℕ) : Type 0 where
  pub aside : entry_at new (aside_of t) ≡ (t, place)
  pub stays : SetHas old t place → (which : ℕ) → which < 2 → entry_at new (way_of t which) ≡ entry_at old (way_of t which)
  pub first : ¬ SetHas old t place → entry_at new (way_of t 0) ≡ (t, place)
  pub second : ¬ SetHas old t place → entry_at new (way_of t 1) ≡ entry_at old (way_of t 0)
  pub others : (k : ℕ) → k < 160 → entry_cell k ≢ aside_of t → entry_cell k ≢ way_of t 0 → entry_cell k ≢ way_of t 1 → entry_at new (entry_cell k) ≡ entry_at old (entry_cell k)
  pub rest : KeepsRest old new

-- where a search answered a place, it is noted
abbrev pub noted_if : List ℕ → ℕ → Option ℕ → List ℕ
noted_if sram t None = sram
noted_if sram t (Some place) = noted sram t place

-- What a search answers and leaves. The place that the tables have is answered, whatever the pool holds. Where they
-- have none, the place of t's entry in the pool is. A place that is answered is noted. Where neither has one, None is
-- answered, and nothing changes.
pub data Finds (layout : Layout) (words old new : List ℕ) (t : ℕ) (result : Option ℕ) : Type 0 where
  Hit : (place : ℕ) → hit old t ≡ Some place → result ≡ Some place → new ≡ noted old t place → Finds layout words old new t result
  Entered : (place : ℕ) → hit old t ≡ None → IsEntry layout words t place → result ≡ Some place → new ≡ noted old t place → Finds layout words old new t result
  Missed : hit old t ≡ None → ((place : ℕ) → ¬ IsEntry layout words t place) → result ≡ None → new ≡ old → Finds layout words old new t result

-- the entry's place, a word address of flash, lies in this page (place 0, of an empty entry, in page 0)
abbrev pub is_in : ℕ → ℕ × ℕ → Bool
is_in page entry = entry.1 / page_words == page

abbrev pub IsIn : ℕ → ℕ × ℕ → Type 0
IsIn page entry = entry.1 / page_words ≡ page

-- the entry at address a emptied, where its place is in the page
unfoldable pub without_entry : List ℕ → ℕ → ℕ → List ℕ
without_entry sram page a = if is_in page (entry_at sram a) then with_entry sram a 0 0 else sram

-- What forgetting a page leaves, byte by byte: the four bytes of an entry with a place in the page are 0, and every
-- other byte stays.
pub record Forgets (page : ℕ) (old new : List ℕ) : Type 0 where
  pub emptied : (k b : ℕ) → k < 160 → b < 4 → IsIn page (entry_at old (entry_cell k)) → byte_at new (entry_cell k + b) ≡ 0
  pub stays : (k b : ℕ) → k < 160 → b < 4 → ¬ IsIn page (entry_at old (entry_cell k)) → byte_at new (entry_cell k + b) ≡ byte_at old (entry_cell k + b)
  pub rest : KeepsRest old new

-- That as a function: a byte of an entry with a place in the page is 0. Entries stand at multiples of 4.
abbrev pub forgotten_byte : List ℕ → ℕ → ℕ → ℕ
forgotten_byte sram page a = if is_within place_tables a && is_in page (entry_at sram (4 * (a / 4))) then 0 else byte_at sram a

unfoldable pub forgotten : List ℕ → ℕ → List ℕ
forgotten sram page = map (forgotten_byte sram page) (range_with_len first_address byte_count)

-- no entry has a place in the page, but for empty ones
abbrev pub HasNoneIn : ℕ → List ℕ → Type 0
HasNoneIn page sram = (k : ℕ) → k < 160 → (entry_at sram (entry_cell k)).1 ≢ 0 → ¬ IsIn page (entry_at sram (entry_cell k))

-- each entry of the pool with a place outside the page stays, whatever becomes of the page
abbrev pub StaysOutside : Layout → List ℕ → List ℕ → ℕ → Type 0
StaysOutside layout words words' page = (t v : ℕ) → IsEntry layout words t v → v / page_words ≢ page → IsEntry layout words' t v
