-- Serves private functions and the contracts of `Cursor`: what one knows of the pool: at which places no entry begins, and which
-- entry begins at others (docs/LOADER.md).
use Rattle.std.specs.Prelude.{◌≡◌, ◌≢◌, ◌↔◌, ℕ, ◌/◌, ◌<◌, List}
use Rattle.flash_words.specs.declared.layout.Layout.{Layout}
use Rattle.page_index.specs.Maps.{address_of, place_of}
use Rattle.page_index.specs.Entries.{IsEntry}
use Rattle.page_cursor.specs.Marks.{Marking, IsQuietAt, IsNoted}
use Rattle.page_cursor.specs.declared.cursor.Cursor.{Cursor}

-- What is known of places is right: where it is noted that no entry begins none does, and the place is in front of the kernel's
-- words; and where one is noted it begins.
pub record AreMarks (layout : Layout) (words : List ℕ) (m : Marking) : Type 0 where
  pub quiet : (t place : ℕ) → place < 65536 → IsQuietAt m place → ¬ IsEntry layout words t place
  pub low : (place : ℕ) → place < 65536 → IsQuietAt m place → place < 0xF000
  pub noted : (t place : ℕ) → place < 65536 → IsNoted m place t → IsEntry layout words t place

-- the entry of address t at the place is one of the first n of the page
pub record IsAmong (words : List ℕ) (page n t place : ℕ) : Type 0 where
  pub index : ℕ
  pub below : index < n
  pub address : t ≡ address_of words page index
  pub begins : place ≡ place_of words page index

-- of the page's entries the first n are noted, and no other; of their places it isn't noted that none begins there
pub record AreNoted (words : List ℕ) (m : Marking) (page n : ℕ) : Type 0 where
  pub noted : (t place : ℕ) → place / 128 ≡ page → IsNoted m place t → IsAmong words page n t place
  pub there : (i : ℕ) → i < n → IsNoted m (place_of words page i) (address_of words page i)
  pub begins : (i : ℕ) → i < n → ¬ IsQuietAt m (place_of words page i)

-- just the same entries begin at places outside a page
abbrev pub HaveSameBeside : Layout → (old new : List ℕ) → ℕ → Type 0
HaveSameBeside layout old new page = (t place : ℕ) → place / 128 ≢ page → (IsEntry layout old t place ↔ IsEntry layout new t place)

-- what a cursor knows of places
abbrev pub IsCursor : Layout → List ℕ → Cursor → Type 0
IsCursor layout words c = AreMarks layout words c.marks

-- right for every flash
abbrev pub IsCursorAnywhere : Cursor → Type 0
IsCursorAnywhere c = (layout : Layout) → (words : List ℕ) → IsCursor layout words c

-- it is noted of the place, a word address of flash, that no entry begins there
pub record IsPassed (c : Cursor) (place : ℕ) : Type 0 where
  pub inside : place < 65536
  pub quiet : IsQuietAt c.marks place
