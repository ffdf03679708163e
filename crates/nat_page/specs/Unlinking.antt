-- Links of a page that are resolved, and call the kernel's bridge again: those that a test picks (docs/LOADER.md,
-- "Recycling").
use Rattle.std.specs.Prelude.{◌≡◌, ◌≢◌, ℕ, ◌+◌, ◌-◌, ◌*◌, ◌/◌, ◌==◌, ◌&&◌, Bool, true, false, if◌then◌else◌, List, [], ◌∷◌}
use Rattle.flash_words.specs.Pages.{page_words, word_at, page_of}
use Rattle.nat_template.specs.declared.piece.Piece.{Piece}
use Rattle.nat_template.specs.declared.piece.Piece.TheVariants.{Fixed, Link}
use Rattle.nat_template.specs.Stubs.{call_word, bridge_entry}
use Rattle.page_index.specs.Maps.{address_of, entry_count}
use Rattle.nat_page.specs.declared.unlinking.Unlinked.{Unlinked}
use Rattle.page_draft.specs.Standing.{jump_word}
use Rattle.page_draft.specs.CodePages.{page_pieces}
use Rattle.nat_page.specs.Links.{with_two_words}

-- whether links that are resolved, to an address and with a place, are picked: those that lead into this page
abbrev pub leads_into : ℕ → (t place : ℕ) → Bool
leads_into victim t place = place / page_words == victim

-- at s stands a jump, for a link to t, that is picked
abbrev pub is_picked : List ℕ → (ℕ → ℕ → Bool) → (s t : ℕ) → Bool
is_picked words test s t = word_at words s == jump_word && test t (word_at words (s + 1))

-- of pieces in a row, the first at the word address a, where the links stand that are
abbrev pub links_where : List ℕ → (ℕ → ℕ → Bool) → ℕ → List Piece → List ℕ
links_where words test a [] = []
links_where words test a (Fixed word ∷ pieces) = links_where words test (a + 1) pieces
links_where words test a (Link t ∷ pieces) =
    if is_picked words test a t then a ∷ links_where words test (a + 3) pieces else links_where words test (a + 3) pieces

-- the words with a call of the kernel's bridge at each of these addresses
abbrev pub with_calls : List ℕ → List ℕ → List ℕ
with_calls words [] = words
with_calls words (s ∷ stubs) = with_calls (with_two_words words s call_word bridge_entry) stubs

-- the pieces of a used page, whose map tells the run
abbrev pub pieces_in : (image words : List ℕ) → ℕ → List Piece
pieces_in image words page = page_pieces image (address_of words page 0) (entry_count words page - 1)

-- where the stubs of a used page stand that are picked, and those that jump into the victim
abbrev pub stubs_where : (ℕ → ℕ → Bool) → (image words : List ℕ) → ℕ → List ℕ
stubs_where test image words page = links_where words test (page_words * page) (pieces_in image words page)

abbrev pub stubs_into : (image words : List ℕ) → (victim page : ℕ) → List ℕ
stubs_into image words victim page = stubs_where (leads_into victim) image words page

-- links may lead where they did, but not into the victim
abbrev pub Outside : (ℕ → ℕ → Type 0) → ℕ → ℕ → ℕ → Type 0
Outside leads victim t v = leads t v × (v / page_words ≢ victim)

-- there are some
abbrev pub are_some : List ℕ → Bool
are_some [] = false
are_some (s ∷ stubs) = true

-- Serves private functions: a page with calls at these addresses, and whether there are any.
pub record IsPatched (words : List ℕ) (page : ℕ) (patch : Unlinked) (stubs : List ℕ) : Type 0 where
  pub words_are : patch.words ≡ page_of (with_calls words stubs) page
  pub any : patch.any ≡ are_some stubs
