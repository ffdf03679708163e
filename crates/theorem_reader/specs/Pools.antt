-- Flash, and what stands in it of a program: the image's words below the pool, in the pool erased pages and rewritten code,
-- RET in the kernel's pages. Which form a page has, and which links, the crate `pool_check` defines (`Forms` and `Links`).
use Rattle.std.specs.Prelude.{◌≡◌, Bool, ℕ, zero, suc, ◌+◌, ◌*◌, ◌/◌, ◌%◌, ◌<◌, ◌≤◌, ◌⊎◌, nat_le, if◌then◌else◌, List, take, drop, length, slice_index}
use Rattle.flash_words.specs.Layouts.{layout_of}
use Rattle.flash_words.specs.Pages.{set_page}
use Rattle.pool_check.specs.Forms.{HasForm}
use Rattle.pool_check.specs.Links.{HasLinks}

-- The pool's first word: 0x4000, or 0x6000 for an image of more than 16,384 words.
abbrev pub pool_from : List ℕ → ℕ
pool_from image = if nat_le (length image) 16384 then 0x4000 else 0x6000

-- how many pages the pool has
abbrev pub pool_size : List ℕ → ℕ
pool_size image = if nat_le (length image) 16384 then 352 else 288

-- of n numbers from one on, how many are such
unfoldable pub number_where : (is : ℕ → Bool) → (first n : ℕ) → ℕ
number_where is first zero = 0
number_where is first (suc n) = (if is (first + n) then 1 else 0) + number_where is first n

-- .. of those of the pool's pages
abbrev pub pages_where : (image : List ℕ) → (is : ℕ → Bool) → ℕ
pages_where image is = number_where is (pool_from image / 128) (pool_size image)

-- the page's 128 words have their form
abbrev pub IsFormed : (image flash : List ℕ) → ℕ → Type 0
IsFormed image flash page = HasForm (layout_of (length image)) image page (take 128 (drop (128 * page) flash))

-- what the page owes to the other pages of the pool
abbrev pub IsLinked : (image flash : List ℕ) → ℕ → Type 0
IsLinked image flash page = HasLinks (layout_of (length image)) image flash page

-- the page is in the pool, which begins at page 128 or 192 and ends at page 479
pub record IsInPool (image : List ℕ) (page : ℕ) : Type 0 where
  pub low : pool_from image ≤ 128 * page
  pub high : page ≤ 479

-- every page has its form, and every page of the pool its links; flash holds the image, erased words from there to the pool, and
-- RET from 0xF000 on
pub record AreFaithful (image flash : List ℕ) : Type 0 where
  pub forms : (page : ℕ) → page < 512 → IsFormed image flash page
  pub links : (page : ℕ) → IsInPool image page → IsLinked image flash page
  pub held : take (length image) flash ≡ image
  pub erased : (a : ℕ) → length image ≤ a → a < pool_from image → slice_index flash a ≡ 0xFFFF
  pub kernel : (a : ℕ) → 0xF000 ≤ a → a ≤ 0xFFFF → slice_index flash a ≡ 0x9508

-- the page is erased
abbrev pub IsErased : (flash : List ℕ) → (page : ℕ) → Type 0
IsErased flash page = (k : ℕ) → k < 128 → slice_index flash (128 * page + k) ≡ 0xFFFF

-- Flash is faithful; or one page of the pool, which is erased, lacks 128 words, and with them flash would be faithful.
pub data AreFaithfulBut (image flash : List ℕ) : Type 0 where
  Whole : AreFaithful image flash → AreFaithfulBut image flash
  Lacking : (page : ℕ) → (words : List ℕ) → IsInPool image page → IsErased flash page → length words ≡ 128
      → AreFaithful image (set_page flash page words) → AreFaithfulBut image flash

-- A page whose first word is below 192, as that of an erased one isn't, has an entry of the address t. The numbers of its
-- entries stand from its third word on: the upper byte is the place of the address in its page of 128 words, whose number is
-- the first word; how many there are, the second.
pub record HasAddress (flash : List ℕ) (page t : ℕ) : Type 0 where
  pub index : ℕ
  pub used : slice_index flash (128 * page) < 192
  pub most : index < 126
  pub inside : index < slice_index flash (128 * page + 1)
  pub is : t ≡ 128 * slice_index flash (128 * page) + slice_index flash (128 * page + 2 + index) / 256

-- The code of the original address t begins at the place v: in a page of the pool with an entry of t, of whose number the lower
-- byte is the place in this page.
pub record IsPlaceOf (image flash : List ℕ) (t v : ℕ) : Type 0 where
  pub page : ℕ
  pub pool : IsInPool image page
  pub entry : HasAddress flash page t
  pub place : v ≡ 128 * page + slice_index flash (128 * page + 2 + entry.index) % 256
  pub fits : slice_index flash (128 * page + 2 + entry.index) % 256 < 128

-- these two words stand at that address
abbrev pub StandAt : (words : List ℕ) → (at first second : ℕ) → Type 0
StandAt words at first second = (slice_index words at ≡ first) × (slice_index words (at + 1) ≡ second)

-- Two words as an exit stub begins: a call of the kernel at 0xF000, or a jump.
abbrev pub IsExit : (flash : List ℕ) → (s : ℕ) → Type 0
IsExit flash s = StandAt flash s 0x940E 0xF000 ⊎ (slice_index flash s ≡ 0x940C)

-- A word stays; or it is one of two as an exit stub begins, before and after.
pub data KeepsWord (before after : List ℕ) (a : ℕ) : Type 0 where
  Kept : slice_index after a ≡ slice_index before a → KeepsWord before after a
  Exits : (s : ℕ) → (a ≡ s) ⊎ (a ≡ s + 1) → IsExit before s → IsExit after s → KeepsWord before after a

-- .. for each word of a page: of its code nothing changes but which of such pairs call the kernel, and where the others jump
abbrev pub KeepsCode : (before after : List ℕ) → (page : ℕ) → Type 0
KeepsCode before after page = (k : ℕ) → k < 128 → KeepsWord before after (128 * page + k)
