-- Arrivals that leave flash as it is.
use Rattle.std.proofs.Common.{◌≡◌, ℕ, ◌+◌, ◌<◌, ◌≤◌, min, List, Some, None, false, arith, refl, ap}
use Rattle.flash_words.specs.Memory.{Memory}
use Rattle.flash_words.specs.Layouts.{IsRight, image_of}
use Rattle.flash_words.specs.declared.layout.Layout.{Layout}
use Rattle.nat_page.specs.Faithful.{IsFaithful}
use Rattle.nat_page.specs.Used.{used_pages}
use Rattle.nat_page.proofs.UsedLaws.{used_pages-most}
use Rattle.nat_page.proofs.FaithfulLaws.{faithful_mapped}
use Rattle.nat_page.proofs.EnteredLaws.{entry_law}
use Rattle.page_index.specs.Entries.{IsEntry}
use Rattle.addr_tables.specs.Tables.{IsTables}
use Rattle.addr_tables.specs.Changes.{Finds, noted}
use Rattle.addr_tables.proofs.FindLaws.{found_noted, finds_known}
use Rattle.addr_tables.proofs.NoteLaws.{rest_noted}
use Rattle.branch_bridge.specs.declared.arrival.Moved.{Moved}
use Rattle.branch_bridge.specs.Arrivals.{Store, ArrivesFrom, Found, Went, KeptThrough, went_on, ring_of}
use Rattle.branch_bridge.specs.KnownPlaces.{IsKnownAt}
use Rattle.branch_bridge.proofs.ArrivalLaws.{flash_left}
use Rattle.branch_bridge.proofs.MakeLaws.{ring_kept}
use Rattle.branch_bridge.proofs.RestLaws.{others_rest}

pub at_most : (a n : ℕ) → a ≤ n → a ≡ min (a + 0) n
at_most a n below = omega arith

module _ (layout : Layout) (flash : Memory) (old : List ℕ) where
  -- the address is inside the image
  pub known_inside : (t place : ℕ) → IsKnownAt layout flash old t place → t < layout.image_words
  known_inside t place known =
      let law = entry_law layout (image_of layout flash.words) flash.words t place known.right known.code known.entry in
      omega (arith, law.inside, known.code.image_length)

  -- a search answers the place, and notes it
  pub known_finds : (new : List ℕ) (t place : ℕ) → IsKnownAt layout flash old t place → new ≡ noted old t place → Finds layout flash.words old new t (Some place)
  known_finds new t place known is =
      rw is (finds_known layout flash.words old t place known.tables (faithful_mapped layout (image_of layout flash.words) flash.words known.right known.code) known.entry)

  -- the place that a search answered is where control goes on
  pub known_arrives : (new : List ℕ) (t place : ℕ) → t < layout.image_words → Finds layout flash.words old new t (Some place)
      → ArrivesFrom layout (record { flash = flash; sram = old }) (record { flash = flash; sram = new }) t None (went_on place)
  known_arrives new t place inside finds =
      let moved : Moved = record { place = place; made = false; recycled = None } in
      Went moved (Found place inside finds refl refl) refl refl

  -- and nothing that an arrival is to keep has changed
  pub known_kept : (new : List ℕ) (t place : ℕ) → IsRight layout → IsFaithful layout (image_of layout flash.words) flash.words → ring_of old < layout.pool_pages → t < layout.image_words
      → Finds layout flash.words old new t (Some place) → IsTables layout new flash.words → IsEntry layout flash.words t place
      → KeptThrough layout (record { flash = flash; sram = old }) (record { flash = flash; sram = new }) t (went_on place)
  known_kept new t place right code ring inside finds tables entry =
      let before : Store = record { flash = flash; sram = old } in
      let after : Store = record { flash = flash; sram = new } in
      let left = flash_left layout before after t None (went_on place) right code.whole ring tt (known_arrives new t place inside finds) in
      let is = found_noted layout flash.words old new t place finds in
      record {
        code = code;
        same_image = refl;
        tables = tables;
        entered = entry;
        ops = omega arith;
        ring = omega (arith, ap ring_of is, ring_kept old (noted old t place) (rest_noted old t place), ring);
        used = at_most (used_pages layout flash.words) layout.pool_pages (used_pages-most layout flash.words);
        tried = left.tried;
        image = left.image;
        torn = left.torn;
        rest = rw is (others_rest old (noted old t place) (rest_noted old t place));
      }
