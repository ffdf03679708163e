use Rattle.std.proofs.Common.{◌≡◌, ℕ, ◌+◌, ◌≤◌, min, List, Some, false, arith, refl, ap, ◌∙◌}
use Rattle.std.specs.Result.{result_ok}
use Rattle.flash_words.specs.declared.layout.Layout.{Layout}
use Rattle.nat_page.proofs.FaithfulLaws.{faithful_mapped}
use Rattle.nat_page.proofs.UsedLaws.{used_pages-most, all_used}
use Rattle.branch_bridge.specs.Operating.{with_torn}
use Rattle.addr_tables.specs.Changes.{Finds, Missed}
use Rattle.addr_tables.proofs.FindLaws.{found_none, found_right, found_noted}
use Rattle.addr_tables.proofs.NoteLaws.{rest_noted}
use Rattle.branch_bridge.proofs.MakeLaws.{ring_kept}
use Rattle.branch_bridge.proofs.EntriesKept.{entries_made}
use Rattle.branch_bridge.proofs.SurveyLaws.{surveyed_free, surveyed_full}
use Rattle.branch_bridge.specs.Arrivals.{Store, KeepsOtherBytes, Arrives, Found, Free, Full, ring_of, torn_in}
use Rattle.branch_bridge.proofs.ArrivalLaws.{tried_made, tried_recycled, only_wild}
use Rattle.sram_layout.proofs.RegionLaws.{outside_same}
use Rattle.branch_bridge.proofs.RestLaws.{others_rest}
use Rattle.branch_bridge.proofs.arrival.arrive_with_hints.Goals as goal
use Rattle.branch_bridge.proofs.KnownLaws.{at_most}

fits : (a n : ℕ) → a ≤ n → a ≡ min a n
fits a n below = omega arith

at_least : (a b n : ℕ) → a ≡ n → n ≡ min (a + b) n
at_least a b n is = omega arith

-- the place that was found is noted, if it wasn't
found_rest : (layout : Layout) (words old new : List ℕ) (t place : ℕ) → Finds layout words old new t (Some place) → KeepsOtherBytes old new
found_rest layout words old new t place finds = rw (found_noted layout words old new t place finds) (others_rest _ _ (rest_noted old t place))

found_ring : (layout : Layout) (words old new : List ℕ) (t place : ℕ) → Finds layout words old new t (Some place) → ring_of new ≡ ring_of old
found_ring layout words old new t place finds = rw (found_noted layout words old new t place finds) (ring_kept _ _ (rest_noted old t place))

pub find_with_hints-requires-clause-mapped : goal.find_with_hints-requires-clause-mapped
find_with_hints-requires-clause-mapped c = λ missed. faithful_mapped _ _ _ c.requires.right c.requires.code

pub returns-in-Ok-clause-arrives : goal.returns-in-Ok-clause-arrives
returns-in-Ok-clause-arrives c = Found c.in-Ok.place (omega arith) c.in-Ok.ensures.finds refl refl

pub returns-in-Ok-clause-kept : goal.returns-in-Ok-clause-kept
returns-in-Ok-clause-kept c = record {
  code = c.requires.code;
  same_image = refl;
  tables = λ tables. c.find_with_hints.ensures.tables tables;
  entered = λ tables. (found_right _ _ _ _ _ _ c.in-Ok.ensures.finds tables).0;
  ops = omega arith;
  ring = λ below. rw (found_ring _ _ _ _ _ _ c.in-Ok.ensures.finds) below;
  stubs = λ s to apart stub. stub;
}

pub returns-in-Ok-clause-entries : goal.returns-in-Ok-clause-entries
returns-in-Ok-clause-entries c = λ t v away. (λ entry. entry, λ entry. entry)

pub make_page-requires-clause-unknown : goal.make_page-requires-clause-unknown
make_page-requires-clause-unknown c = (found_none _ _ _ _ _ _ (ap result_ok c.in-Err.is) c.find_with_hints.ensures.finds).unknown

pub make_page-requires-clause-pool : goal.make_page-requires-clause-pool
make_page-requires-clause-pool c = (surveyed_free _ _ _ _ _ c.in-Err.ensures.survey c.in-Some.is).pool

pub make_page-requires-clause-free : goal.make_page-requires-clause-free
make_page-requires-clause-free c = (surveyed_free _ _ _ _ _ c.in-Err.ensures.survey c.in-Some.is).free

pub recycle-requires-clause-full : goal.recycle-requires-clause-full
recycle-requires-clause-full c = surveyed_full _ _ _ _ c.in-Err.ensures.survey c.in-None.is

pub recycle-requires-clause-unknown : goal.recycle-requires-clause-unknown
recycle-requires-clause-unknown c = (found_none _ _ _ _ _ _ (ap result_ok c.in-Err.is) c.find_with_hints.ensures.finds).unknown

pub returns-then-t-layout-clause-used : goal.returns-then-t-layout-clause-used
returns-then-t-layout-clause-used c = at_most _ _ (used_pages-most c.args.layout.now c.args.flash.now.words)

pub returns-in-Ok-clause-used : goal.returns-in-Ok-clause-used
returns-in-Ok-clause-used c = at_most _ _ (used_pages-most c.args.layout.now c.args.flash.now.words)

pub returns-then-t-layout-clause-rest : goal.returns-then-t-layout-clause-rest
returns-then-t-layout-clause-rest c = outside_same c.args.sram.now

pub returns-in-Ok-clause-rest : goal.returns-in-Ok-clause-rest
returns-in-Ok-clause-rest c = found_rest _ _ _ _ _ _ c.in-Ok.ensures.finds

pub returns-in-Some : goal.returns-in-Some
returns-in-Some c =
    let layout = c.args.layout.now in
    let none = found_none _ _ _ _ _ _ (ap result_ok c.in-Err.is) c.find_with_hints.ensures.finds in
    let new : Store = record { flash = c.make_page.new.flash; sram = c.make_page.new.sram } in
    let page = c.in-Some.page in
    let result = c.make_page.result in
    let makes = c.make_page.ensures.makes in
    let lowest = surveyed_free _ _ _ _ _ c.in-Err.ensures.survey c.in-Some.is in
    let old : Store = record { flash = c.args.flash.now; sram = c.args.sram.now } in
    let arrives : Arrives layout old new c.args.t result = Free page (omega arith) (Missed none.missed none.unknown refl refl) lowest (rw none.left at makes) in
    let is = c.make_page.ensures.used in
    record {
      arrives = arrives;
      used = is ∙ fits _ _ (omega (arith, is, used_pages-most layout (with_torn new.flash.words (torn_in result))));
      entries = entries_made _ _ _ _ _ _ _ _ c.requires.right c.requires.code lowest.pool lowest.free (λ a v away entry. entry) (λ a v entry. entry) makes;
      tried = tried_made layout _ new page c.args.t false result c.requires.right c.requires.code.whole lowest.pool lowest.free makes;
      rest = rw none.left at c.make_page.ensures.rest;
      kept = rw none.left at c.make_page.ensures.kept;
      wild = only_wild layout old new c.args.t result arrives;
    }

pub returns-in-None : goal.returns-in-None
returns-in-None c =
    let layout = c.args.layout.now in
    let none = found_none _ _ _ _ _ _ (ap result_ok c.in-Err.is) c.find_with_hints.ensures.finds in
    let old : Store = record { flash = c.args.flash.now; sram = c.args.sram.now } in
    let new : Store = record { flash = c.recycle.new.flash; sram = c.recycle.new.sram } in
    let result = c.recycle.result in
    let recycles = c.recycle.ensures.recycles in
    let full = surveyed_full _ _ _ _ c.in-Err.ensures.survey c.in-None.is in
    let arrives : Arrives layout old new c.args.t result = Full (omega arith) (Missed none.missed none.unknown refl refl) full (rw none.left at recycles) in
    let same = ap ring_of none.left in
    record {
      arrives = arrives;
      used = c.recycle.ensures.used ∙ at_least _ _ _ (all_used layout c.args.flash.now.words (faithful_mapped _ _ _ c.requires.right c.requires.code) full);
      entries = c.recycle.ensures.entries;
      tried = tried_recycled layout _ new _ c.args.t result c.requires.right c.requires.code.whole (record { from = omega arith; to = omega (arith, c.requires.ring, same) }) recycles;
      rest = rw none.left at c.recycle.ensures.rest;
      kept = rw none.left at c.recycle.ensures.kept;
      wild = only_wild layout old new c.args.t result arrives;
    }
