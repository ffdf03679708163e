-- Serves private functions: what an arrival may have made wrong of what is known of places.
use Rattle.std.specs.Prelude.{⊤, ◌↔◌, ℕ, ◌/◌, List}
use Rattle.flash_words.specs.declared.layout.Layout.{Layout}
use Rattle.page_index.specs.Entries.{IsEntry}
use Rattle.page_cursor.specs.Cursors.{HaveSameBeside}
use Rattle.program_steps.specs.declared.arrival.Stale.{Stale}
use Rattle.program_steps.specs.declared.arrival.Stale.TheVariants.{Nothing, PageOf, Everything}

-- nothing, where the same entries begin at each place; or a page, where they do at places outside it
abbrev pub IsStale : Layout → (old new : List ℕ) → Stale → Type 0
IsStale layout old new Nothing = (t place : ℕ) → (IsEntry layout old t place ↔ IsEntry layout new t place)
IsStale layout old new (PageOf place) = HaveSameBeside layout old new (place / 128)
IsStale layout old new Everything = ⊤
