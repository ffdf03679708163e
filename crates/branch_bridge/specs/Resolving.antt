-- Resolving a stub: its call of the kernel's bridge becomes a jump to the place of the address that the stub
-- leads to (docs/LOADER.md, "What stands for an instruction").
use Rattle.std.specs.Prelude.{ℕ, ◌/◌, List}
use Rattle.flash_words.specs.Pages.{page_words, page_of}
use Rattle.flash_words.specs.declared.layout.Layout.{Layout}
use Rattle.page_index.specs.Entries.{IsEntry}
use Rattle.page_draft.specs.Standing.{jump_word}
use Rattle.nat_page.specs.Links.{IsUnresolved, with_two_words}
use Rattle.branch_bridge.specs.Operating.{Operation, rewriting}

-- at `stub` stands a stub's call of the bridge, and `place` is the place of the address that the stub leads to
pub record CanResolve (layout : Layout) (image words : List ℕ) (stub place : ℕ) : Type 0 where
  pub target : ℕ
  pub unresolved : IsUnresolved layout image words stub target
  pub entry : IsEntry layout words target place

-- its page is erased, and programmed with the jump in the place of the call
abbrev pub resolving : List ℕ → (stub place : ℕ) → List Operation
resolving words stub place = rewriting (stub / page_words) (page_of (with_two_words words stub jump_word place) (stub / page_words))
