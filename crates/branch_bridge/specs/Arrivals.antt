-- Arrivals: what becomes of flash and SRAM, and what is answered, where control arrives at an original address
-- (docs/LOADER.md, "An arrival"). An operation on flash that is refused ends it: what comes before is done, it and
-- what comes after is not.
use Rattle.std.specs.Prelude.{◌≡◌, ◌≢◌, ◌↔◌, ℕ, ◌+◌, ◌*◌, ◌/◌, ◌%◌, ◌<◌, ◌≤◌, ◌==◌, Bool, true, false, if◌then◌else◌, List, [], ◌∷◌, min}
use Rattle.std.specs.Prelude.{Option, Some, None, Result, Ok, Err, IfOk, IfSome, MatchOption, ⊤}
use Rattle.sram_layout.specs.Bytes.{data_word_at, with_word}
use Rattle.sram_layout.specs.Cells.{ring_cell}
use Rattle.sram_layout.specs.Regions.{place_cells, KeepsOutside}
use Rattle.flash_words.specs.Memory.{Memory}
use Rattle.flash_words.specs.Operations.{next_op, fails, left_by_refusal, erased_page}
use Rattle.flash_words.specs.Layouts.{image_of}
use Rattle.flash_words.specs.declared.layout.Layout.{Layout}
use Rattle.nat_page.specs.Making.{HasNoFree, IsLowestFree, IsPrepared}
use Rattle.flash_words.specs.Pages.{page_words, page_of, blank}
use Rattle.nat_page.specs.Links.{IsUnresolved}
use Rattle.nat_page.specs.Faithful.{IsFaithful}
use Rattle.nat_page.specs.Used.{used_pages}
use Rattle.nat_page.specs.Parts.{IsLinkFrom, IsParted}
use Rattle.page_index.specs.Entries.{IsEntry}
use Rattle.addr_tables.specs.Tables.{IsTables}
use Rattle.addr_tables.specs.Changes.{Finds, noted, forgotten}
use Rattle.branch_bridge.specs.declared.rewriting.ResolveStop.{ResolveStop}
use Rattle.branch_bridge.specs.declared.rewriting.Torn.{Torn}
use Rattle.branch_bridge.specs.declared.arrival.ArriveStop.{ArriveStop}
use Rattle.branch_bridge.specs.declared.arrival.ArriveStop.TheVariants.{Wild, Flash}
use Rattle.branch_bridge.specs.declared.arrival.Refused.{Refused}
use Rattle.branch_bridge.specs.declared.arrival.Moved.{Moved}
use Rattle.branch_bridge.specs.declared.through.Arrival.{Arrival}
use Rattle.std.specs.Option.{option_map}
use Rattle.branch_bridge.specs.Resolving.{resolving}
use Rattle.branch_bridge.specs.Operating.{Program, perform, with_torn}
use Rattle.branch_bridge.specs.Unresolving.{unresolved_in}
use Rattle.branch_bridge.specs.Tried.{Tried}

-- the stub through which control came to t, if any: it leads to t, and isn't resolved
abbrev pub CameThrough : Layout → List ℕ → Option ℕ → ℕ → Type 0
CameThrough layout words stub t = IfSome stub (λ s. IsUnresolved layout (image_of layout words) words s t)

-- what an arrival may change
pub record Store : Type 0 where
  pub flash : Memory
  pub sram : List ℕ

-- the number within the pool of the page to recycle next
abbrev pub ring_of : List ℕ → ℕ
ring_of sram = data_word_at sram ring_cell

abbrev pub turned : Layout → List ℕ → List ℕ
turned layout sram = with_word sram ring_cell ((ring_of sram + 1) % layout.pool_pages)

-- of SRAM's bytes only those of RING and of the tables of places change
abbrev pub KeepsOtherBytes : (old new : List ℕ) → Type 0
KeepsOtherBytes old new = KeepsOutside place_cells old new

-- what is told of the page, where it was erased to be made again, and of an operation on flash that was refused
abbrev pub recycled_page : Bool → ℕ → Option ℕ
recycled_page again page = if again then Some page else None

abbrev pub refused_by : ResolveStop → Refused
refused_by stop = record { why = Flash stop.op; torn = stop.torn }

-- the stub that is to be resolved, if any
abbrev pub to_resolve : Option ℕ → Option ℕ → Option ℕ
to_resolve recycled None = None
to_resolve None (Some s) = Some s
to_resolve (Some page) (Some s) = if page == s / page_words then None else Some s

-- The run from t is programmed into a free page, `again` where it was erased for that, and t's place is noted; or
-- the operation is refused.
pub data Makes (layout : Layout) (old new : Store) (page t : ℕ) (again : Bool) (result : Result Moved Refused) : Type 0 where
  Made : (words : List ℕ) → (place : ℕ) → IsPrepared layout (image_of layout old.flash.words) old.flash.words page t words place
      → perform old.flash (Program again page words ∷ []) ≡ record { memory = new.flash; stop = None } → new.sram ≡ noted old.sram t place
      → result ≡ Ok (record { place = place; made = true; recycled = recycled_page again page }) → Makes layout old new page t again result
  NotMade : (words : List ℕ) → (place : ℕ) → IsPrepared layout (image_of layout old.flash.words) old.flash.words page t words place
      → (stop : ResolveStop) → perform old.flash (Program again page words ∷ []) ≡ record { memory = new.flash; stop = Some stop } → new.sram ≡ old.sram
      → result ≡ Err (refused_by stop) → Makes layout old new page t again result

-- A used page is recycled: the stubs of other pages into it are unresolved, the tables forget it, it is erased,
-- RING goes on, and it is made again.
pub data Recycles (layout : Layout) (old new : Store) (victim t : ℕ) (result : Result Moved Refused) : Type 0 where
  NotUnlinked : (stop : ResolveStop) → unresolved_in layout victim old.flash ≡ record { memory = new.flash; stop = Some stop }
      → new.sram ≡ old.sram → result ≡ Err (refused_by stop) → Recycles layout old new victim t result
  NotErased : (unlinked : Memory) → unresolved_in layout victim old.flash ≡ record { memory = unlinked; stop = None }
      → fails unlinked ≡ true → new.flash ≡ left_by_refusal unlinked victim → new.sram ≡ forgotten old.sram victim
      → result ≡ Err (record { why = Flash (next_op unlinked); torn = None }) → Recycles layout old new victim t result
  Erased : (unlinked : Memory) → unresolved_in layout victim old.flash ≡ record { memory = unlinked; stop = None } → fails unlinked ≡ false
      → Makes layout (record { flash = erased_page unlinked victim; sram = turned layout (forgotten old.sram victim) }) new victim t true result → Recycles layout old new victim t result

-- The first of these that applies: outside the image it is refused; the place that the tables have is taken, or the
-- one of the pool's entry; the lowest free page is made; the page that RING names is recycled.
pub data Arrives (layout : Layout) (old new : Store) (t : ℕ) (result : Result Moved Refused) : Type 0 where
  Beyond : layout.image_words ≤ t → new ≡ old → result ≡ Err (record { why = Wild t; torn = None }) → Arrives layout old new t result
  Found : (place : ℕ) → t < layout.image_words → Finds layout old.flash.words old.sram new.sram t (Some place) → new.flash ≡ old.flash
      → result ≡ Ok (record { place = place; made = false; recycled = None }) → Arrives layout old new t result
  Free : (page : ℕ) → t < layout.image_words → Finds layout old.flash.words old.sram old.sram t None → IsLowestFree layout old.flash.words page
      → Makes layout old new page t false result → Arrives layout old new t result
  Full : t < layout.image_words → Finds layout old.flash.words old.sram old.sram t None → HasNoFree layout old.flash.words
      → Recycles layout old new (layout.pool_first + ring_of old.sram) t result → Arrives layout old new t result

-- what was refused, and the page that it left torn
abbrev pub refusal_in : Result Moved Refused → Option Refused
refusal_in (Ok moved) = None
refusal_in (Err refused) = Some refused

abbrev pub torn_by : Option Refused → Option Torn
torn_by None = None
torn_by (Some refused) = refused.torn

abbrev pub torn_in : Result Moved Refused → Option Torn
torn_in result = torn_by (refusal_in result)

-- the operation on flash that was refused
abbrev pub stopped_at : ArriveStop → Option Torn → Option ResolveStop
stopped_at (Wild address) torn = None
stopped_at (Flash op) torn = Some (record { op = op; torn = torn })

abbrev pub stopped_by : Option Refused → Option ResolveStop
stopped_by None = None
stopped_by (Some refused) = stopped_at refused.why refused.torn

-- whether a page was made
abbrev pub made_in : Result Moved Refused → Bool
made_in (Ok moved) = moved.made
made_in (Err refused) = false

abbrev pub one_if : Bool → ℕ
one_if test = if test then 1 else 0

-- where no page was made each entry stays, and none is new; else so it is at places outside the page that was made
abbrev pub KeepsEntries : Layout → (old new : List ℕ) → (made : Bool) → (place : ℕ) → Type 0
KeepsEntries layout old new made place = (t v : ℕ) → (made ≡ true → v / page_words ≢ place / page_words) → (IsEntry layout old t v ↔ IsEntry layout new t v)

-- What an arrival leaves. With the words put in that a torn page lacks, the pool is faithful to the same image, and
-- right tables are right; where control goes on, right tables give t's entry. RING stays in the pool, and
-- stubs that call the bridge do so still, but for those of a page that was recycled.
pub record Kept (layout : Layout) (old new : Store) (t : ℕ) (result : Result Moved Refused) : Type 0 where
  pub code : IsFaithful layout (image_of layout old.flash.words) (with_torn new.flash.words (torn_in result))
  pub same_image : image_of layout (with_torn new.flash.words (torn_in result)) ≡ image_of layout old.flash.words
  pub tables : IsTables layout old.sram old.flash.words → IsTables layout new.sram (with_torn new.flash.words (torn_in result))
  pub entered : IsTables layout old.sram old.flash.words → IfOk result (λ moved. IsEntry layout new.flash.words t moved.place)
  pub ops : new.flash.ops ≤ old.flash.ops + (2 * layout.pool_pages + 2)
  pub ring : ring_of old.sram < layout.pool_pages → ring_of new.sram < layout.pool_pages
  pub stubs : IfOk result (λ moved. (s to : ℕ) → moved.recycled ≢ Some (s / page_words) → IsUnresolved layout (image_of layout old.flash.words) old.flash.words s to
      → IsUnresolved layout (image_of layout old.flash.words) new.flash.words s to)

-- An arrival through a stub, or through none: once t's place is known the stub is resolved, unless its page was
-- recycled for it. `place` is where control goes on, `made` whether a page was made, also where it was refused then.
pub data ArrivesFrom (layout : Layout) (old new : Store) (t : ℕ) (stub : Option ℕ) (arrival : Arrival) : Type 0 where
  Stopped : (refused : Refused) → Arrives layout old new t (Err refused) → arrival ≡ record { place = None; made = false; refused = Some refused } → ArrivesFrom layout old new t stub arrival
  Went : (moved : Moved) → Arrives layout old new t (Ok moved) → to_resolve moved.recycled stub ≡ None → arrival ≡ record { place = Some moved.place; made = moved.made; refused = None }
      → ArrivesFrom layout old new t stub arrival
  Resolved : (mid : Store) → (moved : Moved) → (s : ℕ) → Arrives layout old mid t (Ok moved) → to_resolve moved.recycled stub ≡ Some s → (stop : Option ResolveStop)
      → perform mid.flash (resolving mid.flash.words s moved.place) ≡ record { memory = new.flash; stop = stop } → new.sram ≡ mid.sram
      → arrival ≡ record { place = Some moved.place; made = moved.made; refused = option_map refused_by stop } → ArrivesFrom layout old new t stub arrival

-- the answer of one that made no page, and was not refused
abbrev pub went_on : ℕ → Arrival
went_on place = record { place = Some place; made = false; refused = None }

-- the stub through which control came, if any, is of a page of its target's part
abbrev pub IsOwnStub : Layout → (words : List ℕ) → (part : ℕ → ℕ) → Option ℕ → (t : ℕ) → Type 0
IsOwnStub layout words part stub t = IfSome stub (λ s. IsLinkFrom layout (image_of layout words) words part (part t) s t)

-- links keep to the parts of the image that they keep to, however it is parted, unless a stub is resolved into another
abbrev pub KeepsParts : Layout → (old new : Store) → (t : ℕ) → Option ℕ → Arrival → Type 0
KeepsParts layout old new t stub arrival = (part : ℕ → ℕ) → IsParted layout (image_of layout old.flash.words) old.flash.words part → IsOwnStub layout old.flash.words part stub t
    → IsParted layout (image_of layout old.flash.words) (with_torn new.flash.words (torn_by arrival.refused)) part

-- What it leaves. With the words put in that a torn page lacks, the pool is faithful to the same image, the tables are
-- right, t has its entry where control goes on, and one page more is used where one was made, as far as the pool
-- goes. A torn page is blank. Flash has the same image, and SRAM the same bytes beside RING and the tables.
pub record KeptThrough (layout : Layout) (old new : Store) (t : ℕ) (arrival : Arrival) : Type 0 where
  pub code : IsFaithful layout (image_of layout old.flash.words) (with_torn new.flash.words (torn_by arrival.refused))
  pub same_image : image_of layout (with_torn new.flash.words (torn_by arrival.refused)) ≡ image_of layout old.flash.words
  pub tables : IsTables layout new.sram (with_torn new.flash.words (torn_by arrival.refused))
  pub entered : IfSome arrival.place (λ place. IsEntry layout (with_torn new.flash.words (torn_by arrival.refused)) t place)
  pub ops : new.flash.ops ≤ old.flash.ops + (2 * layout.pool_pages + 4)
  pub ring : ring_of new.sram < layout.pool_pages
  pub used : used_pages layout (with_torn new.flash.words (torn_by arrival.refused)) ≡ min (used_pages layout old.flash.words + one_if arrival.made) layout.pool_pages
  pub tried : Tried layout old.flash new.flash (stopped_by arrival.refused)
  pub image : image_of layout new.flash.words ≡ image_of layout old.flash.words
  pub torn : MatchOption (torn_by arrival.refused) ⊤ (λ torn. page_of new.flash.words torn.page ≡ blank)
  pub rest : KeepsOtherBytes old.sram new.sram
