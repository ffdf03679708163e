-- Serves the contract of `arrive_at_known_place`: when an arrival leaves flash as it is.
use Rattle.std.specs.Prelude.{ℕ, ◌<◌, List}
use Rattle.flash_words.specs.Memory.{Memory}
use Rattle.flash_words.specs.Layouts.{IsRight, image_of}
use Rattle.flash_words.specs.declared.layout.Layout.{Layout}
use Rattle.nat_page.specs.Faithful.{IsFaithful}
use Rattle.page_index.specs.Entries.{IsEntry}
use Rattle.addr_tables.specs.Tables.{IsTables}
use Rattle.branch_bridge.specs.Arrivals.{ring_of}

-- the pool is faithful, the tables are right, and the address t has its entry at this place
pub record IsKnownAt (layout : Layout) (flash : Memory) (sram : List ℕ) (t place : ℕ) : Type 0 where
  pub right : IsRight layout
  pub code : IsFaithful layout (image_of layout flash.words) flash.words
  pub tables : IsTables layout sram flash.words
  pub ring : ring_of sram < layout.pool_pages
  pub entry : IsEntry layout flash.words t place
