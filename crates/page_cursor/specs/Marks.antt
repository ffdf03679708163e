-- Serves private functions: what is known of places.
use Rattle.std.specs.Prelude.{◌≡◌, ◌≢◌, ℕ, ◌/◌, ◌%◌, ◌<◌, ◌≤◌, ◌⊎◌, Bool, true, false, List, slice_set, slice_index_or}
use Rattle.page_cursor.specs.declared.marks.Mark.{Mark}
use Rattle.page_cursor.specs.declared.marks.Mark.TheVariants.{Unknown, Quiet, Entry}

-- of each place whether it is noted that no entry begins there, and its mark; and the pages of which something is noted: these from
-- the number on that tells how many more there may be
pub record Marking : Type 0 where
  pub quiet : List Bool
  pub marks : List ℕ
  pub pages : List ℕ
  pub room : ℕ

abbrev pub mark_at : Marking → ℕ → ℕ
mark_at m place = slice_index_or m.marks place 0

-- the mark of a place where no entry is known; each lower one is the address of the entry that begins there
abbrev pub no_entry : ℕ
no_entry = 65535

-- it is noted that no entry begins at the place
abbrev pub IsQuietAt : Marking → ℕ → Type 0
IsQuietAt m place = slice_index_or m.quiet place false ≡ true

-- it is noted that the entry of address t begins at the place
abbrev pub IsNoted : Marking → ℕ → ℕ → Type 0
IsNoted m place t = (mark_at m place ≡ t) × (t < no_entry)

-- nothing is noted of the place
abbrev pub IsUnknownAt : List Bool → List ℕ → ℕ → Type 0
IsUnknownAt quiet marks place = (slice_index_or quiet place false ≡ false) × (slice_index_or marks place 0 ≡ no_entry)

-- what is noted of the place is what was
abbrev pub StaysAt : List Bool → List ℕ → List Bool → List ℕ → ℕ → Type 0
StaysAt quiet marks old_quiet old_marks place = (slice_index_or quiet place false ≡ slice_index_or old_quiet place false) × (slice_index_or marks place 0 ≡ slice_index_or old_marks place 0)

-- what is told of a place
abbrev pub Tells : Marking → ℕ → Mark → Type 0
Tells m place Unknown = IsUnknownAt m.quiet m.marks place
Tells m place Quiet = IsQuietAt m place
Tells m place (Entry t) = IsNoted m place t

-- the entry of this address is noted at the place
abbrev pub with_address : Marking → ℕ → ℕ → Marking
with_address m place t = record m { quiet = slice_set m.quiet place false; marks = slice_set m.marks place t }

-- nothing is noted
abbrev pub IsFresh : Marking → Type 0
IsFresh m = (place : ℕ) → place < 65536 → IsUnknownAt m.quiet m.marks place

-- it is noted of each place of the page that no entry begins there
abbrev pub IsQuietIn : Marking → ℕ → Type 0
IsQuietIn m page = (place : ℕ) → place / 128 ≡ page → IsQuietAt m place × (mark_at m place ≡ no_entry)

-- what is noted of other pages stays
abbrev pub KeepsOthers : Marking → Marking → ℕ → Type 0
KeepsOthers old new page = (place : ℕ) → place / 128 ≢ page → StaysAt new.quiet new.marks old.quiet old.marks place

-- the page is one of these, of which there are 512, from one number on
pub record IsListed (pages : List ℕ) (from page : ℕ) : Type 0 where
  pub index : ℕ
  pub behind : from ≤ index
  pub below : index < 512
  pub is : slice_index_or pages index 0 % 512 ≡ page

-- each page of which something is noted is listed, where there may be more
pub record IsCovered (m : Marking) : Type 0 where
  pub room : m.room ≤ 512
  pub pages : 0 < m.room → (place : ℕ) → place < 65536 → IsListed m.pages m.room (place / 128) ⊎ IsUnknownAt m.quiet m.marks place
