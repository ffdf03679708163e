-- Serves private functions: what is kept of the jumps among the words of a page: for each page a set of pages, among which are
-- those that its jumps lead into; and its sources, among which are all pages whose set it is in.
use Rattle.std.specs.Prelude.{ℕ, ◌≡◌, ◌≢◌, ◌+◌, ◌-◌, ◌/◌, ◌<◌, ◌≤◌, true, List, length, slice_index, slice_index_or}
use Rattle.flash_words.specs.Pages.{page_count, page_words, page_of}
use Rattle.flash_words.specs.declared.page_set.PageSet.{PageSet}
use Rattle.flash_words.specs.declared.jumps.Jumps.{Jumps}
use Rattle.flash_words.specs.PageSets.{has_page}
use Rattle.flash_words.specs.Jumps.{jump_word}

-- the words of a page from the n-th on are erased
abbrev pub IsBlankFrom : List ℕ → ℕ → Type 0
IsBlankFrom page n = (k : ℕ) → n ≤ k → k < page_words → slice_index page k ≡ 0xFFFF

-- where a jump stands among a page's words, the set has the page that it leads into
abbrev pub HasJumps : List ℕ → PageSet → Type 0
HasJumps page set = (k : ℕ) → k + 1 < page_words → slice_index page k ≡ jump_word → has_page set (slice_index page (k + 1) / page_words) ≡ true

-- .. where it stands from one word on up to another
abbrev pub HasJumpsBetween : (from to : ℕ) → List ℕ → PageSet → Type 0
HasJumpsBetween from to page set = (k : ℕ) → from ≤ k → k < to → k + 1 < page_words → slice_index page k ≡ jump_word → has_page set (slice_index page (k + 1) / page_words) ≡ true

-- a page's set has those of its words
abbrev pub HasSet : List ℕ → List PageSet → ℕ → Type 0
HasSet words sets page = (s : PageSet) → HasJumps (page_of words page) (slice_index_or sets page s)

-- a page is a source of another
abbrev pub IsSource : List PageSet → (target page : ℕ) → Type 0
IsSource sources target page = (s : PageSet) → has_page (slice_index_or sources target s) page ≡ true

-- it is a source of each page of its set
abbrev pub IsSourceOfEach : List PageSet → List PageSet → ℕ → Type 0
IsSourceOfEach sets sources page = (target : ℕ) (s : PageSet) → target < page_count → has_page (slice_index_or sets page s) target ≡ true → IsSource sources target page

-- each page is a source of each page of its set
pub record AreSources (jumps : Jumps) : Type 0 where
  pub sized : length jumps.sources.items ≡ page_count
  pub each : (page : ℕ) → page < page_count → IsSourceOfEach jumps.sets.items jumps.sources.items page

-- each page of flash has its set
pub record AreJumps (words : List ℕ) (jumps : Jumps) : Type 0 where
  pub sized : length jumps.sets.items ≡ page_count
  pub sources : AreSources jumps
  pub each : (page : ℕ) → page < page_count → HasSet words jumps.sets.items page

-- .. each but one
pub record AreJumpsBeside (words : List ℕ) (jumps : Jumps) (but : ℕ) : Type 0 where
  pub sized : length jumps.sets.items ≡ page_count
  pub sources : AreSources jumps
  pub each : (page : ℕ) → page < page_count → page ≢ but → HasSet words jumps.sets.items page

-- .. each but one, of which just the jumps have it whose second word is in front of one word, or whose first isn't in front of another
pub record AreJumpsOutside (words : List ℕ) (jumps : Jumps) (but from to : ℕ) : Type 0 where
  pub beside : AreJumpsBeside words jumps but
  pub before : (s : PageSet) → HasJumpsBetween 0 (from - 1) (page_of words but) (slice_index_or jumps.sets.items but s)
  pub behind : (s : PageSet) → HasJumpsBetween to page_words (page_of words but) (slice_index_or jumps.sets.items but s)
