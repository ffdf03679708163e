use Rattle.std.proofs.Common.{◌≡◌, ℕ, ◌+◌, ◌<◌, List, None, Err, true, arith, refl, sym, ap, ap₂, ◌∙◌, subst, rules}
use Rattle.flash_words.specs.declared.failing.FlashStop.{FlashStop}
use Rattle.flash_words.specs.Memory.{Memory}
use Rattle.flash_words.specs.Operations.{next_op, erased_page}
use Rattle.flash_words.specs.Layouts.{IsRight, image_of}
use Rattle.flash_words.specs.declared.layout.Layout.{Layout}
use Rattle.page_index.specs.Maps.{IsPool}
use Rattle.nat_page.specs.Used.{is_used, used_pages}
use Rattle.nat_page.proofs.UsedLaws.{used_among-same, all_used}
use Rattle.nat_page.proofs.FaithfulLaws.{faithful_mapped}
use Rattle.branch_bridge.proofs.RecycleLaws.{erased_used, full_used}
use Rattle.nat_page.specs.Faithful.{IsFaithful}
use Rattle.nat_page.specs.Making.{HasNoFree}
use Rattle.addr_tables.specs.Tables.{IsTables}
use Rattle.addr_tables.specs.Changes.{forgotten}
use Rattle.addr_tables.proofs.TableLaws.{tables_kept}
use Rattle.branch_bridge.specs.declared.arrival.ArriveStop.TheVariants.{Flash}
use Rattle.branch_bridge.specs.Arrivals.{Store, KeepsOtherBytes, Makes, NotUnlinked, NotErased, Erased, turned}
use Rattle.branch_bridge.proofs.ErasedLaws.{emptied, known_left, emptied_kept}
use Rattle.branch_bridge.proofs.MakeLaws.{ring_kept, makes_told, makes_ops}
use Rattle.branch_bridge.proofs.EntriesKept.{entries_made}
use Rattle.sram_layout.proofs.RegionLaws.{outside_same, outside_then}
use Rattle.branch_bridge.proofs.RestLaws.{others_rest, others_turned}
use Rattle.branch_bridge.proofs.arrival.recycle.Goals as goal

-- where no page is free, and the same pages are used afterwards, all of them are
still_full : (layout : Layout) (image old new : List ℕ) → IsRight layout → IsFaithful layout image old → HasNoFree layout old
    → ((page : ℕ) → is_used new page ≡ is_used old page) → used_pages layout new ≡ layout.pool_pages
still_full layout image old new right code full uses =
    used_among-same old new layout.pool_first layout.pool_pages (λ page low high. uses page) ∙ all_used layout old (faithful_mapped layout image old right code) full

-- the page that RING names is one of the pool
ring_page : (layout : Layout) (ring k : ℕ) → ring ≡ k → k < layout.pool_pages → IsPool layout (layout.pool_first + ring)
ring_page layout ring k is below = record { from = omega arith; to = omega arith }

pub returns-in-Err-clause-recycles : goal.returns-in-Err-clause-recycles
returns-in-Err-clause-recycles c = rw (← c.ring.ensures.value) (NotUnlinked c.in-Err.stop c.in-Err.ensures.performed refl (ap Err c.from.ensures))

pub returns-in-Err-clause-used : goal.returns-in-Err-clause-used
returns-in-Err-clause-used c = rw c.from.ensures (still_full _ _ _ _ c.requires.right c.requires.code c.requires.full c.in-Err.ensures.uses)

pub turn-requires-clause-ring : goal.turn-requires-clause-ring
turn-requires-clause-ring c = omega (arith, ring_kept c.args.sram.now c.forget_page.new.sram c.forget_page.ensures.forgets.rest, c.requires.ring)

pub unmark_offsets-requires-clause-mapped : goal.unmark_offsets-requires-clause-mapped
unmark_offsets-requires-clause-mapped c =
    (faithful_mapped _ _ _ c.requires.right c.in-Ok.ensures.code).pages _ (ring_page _ _ _ c.ring.ensures.value c.requires.ring)

pub make_page-requires : goal.make_page-requires
make_page-requires c =
    let layout = c.args.layout.now in
    let old : Store = record { flash = c.args.flash.now; sram = c.args.sram.now } in
    let victim = layout.pool_first + c.ring.result in
    let unlinked = c.unresolve.new.flash in
    let pool : IsPool layout victim = ring_page _ _ _ c.ring.ensures.value c.requires.ring in
    let done = c.in-Ok.ensures in
    let empty = emptied _ old.flash unlinked _ victim _ c.requires.right done.code done.image pool done.apart done.same c.requires.unknown c.in-Ok-erase.ensures.done in
    let mapped = faithful_mapped layout (image_of layout old.flash.words) unlinked.words c.requires.right c.in-Ok.ensures.code in
    let marks = c.unmark_offsets.ensures in
    let known = known_left _ _ _ _ _ _ _ _ _ c.requires.right mapped pool empty done.entries c.requires.known marks.size marks.only marks.unmarked marks.kept in
    record { right = c.requires.right; code = empty.code; known = known; pool = pool; free = empty.free; inside = c.requires.inside; unknown = empty.unknown; room = search rules; size = search rules }

pub returns-in-Err-clause-rest : goal.returns-in-Err-clause-rest
returns-in-Err-clause-rest c = outside_same c.args.sram.now

pub returns-in-Err-erase : goal.returns-in-Err-erase
returns-in-Err-erase c =
    let layout = c.args.layout.now in
    let old : Store = record { flash = c.args.flash.now; sram = c.args.sram.now } in
    let new : Store = record { flash = c.erase.new.self; sram = c.forget_page.new.sram } in
    let unlinked = c.unresolve.new.flash in
    let image = image_of layout old.flash.words in
    let rest = c.forget_page.ensures.forgets.rest in
    let op : c.in-Err-erase.stop.op ≡ next_op unlinked = ap (λ (s : FlashStop). s.op) c.in-Err-erase.ensures.stop in
    let words : new.flash.words ≡ unlinked.words = ap (λ (m : Memory). m.words) c.in-Err-erase.ensures.refused in
    rw c.from-in-Err-erase.ensures (record {
      recycles = rw (← c.ring.ensures.value) (NotErased unlinked c.in-Ok.ensures.performed c.in-Err-erase.ensures.listed c.in-Err-erase.ensures.refused c.forget_page.ensures.after
          (ap (λ n. Err (record { why = Flash n; torn = None })) op));
      used =
          ap (used_pages layout) words
          ∙ still_full layout image old.flash.words unlinked.words c.requires.right c.requires.code c.requires.full c.in-Ok.ensures.uses;
      entries = tt;
      rest = others_rest old.sram new.sram rest;
      kept = record {
        code = subst (IsFaithful layout image) (sym words) c.in-Ok.ensures.code;
        same_image = ap (image_of layout) words ∙ c.in-Ok.ensures.image;
        tables = λ right. subst (IsTables layout new.sram) (sym words) (c.forget_page.ensures.tables layout unlinked.words (tables_kept _ _ _ _ _ (λ a from to. refl) c.in-Ok.ensures.entries right));
        entered = λ right. tt;
        ops = omega (arith, ap (λ (m : Memory). m.ops) c.in-Err-erase.ensures.refused, c.unresolve.ensures.ops);
        ring = λ below. omega (arith, ring_kept old.sram new.sram rest);
        stubs = tt;
      };
    })

pub returns : goal.returns
returns c =
    let layout = c.args.layout.now in
    let old : Store = record { flash = c.args.flash.now; sram = c.args.sram.now } in
    let new : Store = record { flash = c.make_page.new.flash; sram = c.make_page.new.sram } in
    let victim = layout.pool_first + c.ring.result in
    let unlinked = c.unresolve.new.flash in
    let image = image_of layout old.flash.words in
    let forgot = c.forget_page.new.sram in
    let result = c.make_page.result in
    let makes = c.make_page.ensures.makes in
    let pool : IsPool layout victim = ring_page _ _ _ c.ring.ensures.value c.requires.ring in
    let done = c.in-Ok.ensures in
    let empty = emptied _ old.flash unlinked _ victim _ c.requires.right done.code done.image pool done.apart done.same c.requires.unknown c.in-Ok-erase.ensures.done in
    let used : is_used unlinked.words victim ≡ true = c.in-Ok.ensures.uses victim ∙ full_used layout image old.flash.words victim c.requires.right c.requires.code c.requires.full pool in
    let store : Memory → List ℕ → Store = λ m s. record { flash = m; sram = s } in
    let sram : c.turn.new.sram ≡ turned layout (forgotten old.sram victim) = c.turn.ensures.after ∙ ap (turned layout) c.forget_page.ensures.after in
    let made : Makes layout (record { flash = erased_page unlinked victim; sram = turned layout (forgotten old.sram victim) }) new victim c.args.t true result =
    rw (ap₂ store c.in-Ok-erase.ensures.done sram) at makes in
    record {
      used =
          c.make_page.ensures.used
          ∙ ap (λ (m : Memory). used_pages layout m.words + 1) c.in-Ok-erase.ensures.done
          ∙ sym (erased_used layout image unlinked.words victim c.requires.right c.in-Ok.ensures.code pool used)
          ∙ still_full layout image old.flash.words unlinked.words c.requires.right c.requires.code c.requires.full c.in-Ok.ensures.uses;
      recycles = rw (← c.ring.ensures.value) (Erased unlinked c.in-Ok.ensures.performed c.in-Ok-erase.ensures.free made);
      kept = emptied_kept _ _ _ _ _ _ _ _ _ _ _ empty done.entries (c.forget_page.ensures.erased layout unlinked.words c.erase.new.self.words) c.turn.ensures.after
          c.requires.right c.forget_page.ensures.size.1 done.stubs (makes_told layout _ new victim c.args.t true result makes)
          (omega (arith, makes_ops layout _ new victim c.args.t true result makes, ap (λ (m : Memory). m.ops) c.in-Ok-erase.ensures.done, c.unresolve.ensures.ops)) c.make_page.ensures.kept;
      entries = entries_made layout old.flash.words (record { flash = c.erase.new.self; sram = c.turn.new.sram }) new victim c.args.t true result c.requires.right empty.code pool empty.free
          (λ a v away entry. empty.stays a v (c.in-Ok.ensures.entries a v entry) away) empty.before makes;
      rest = outside_then (others_rest old.sram forgot c.forget_page.ensures.forgets.rest)
          (outside_then (subst (KeepsOtherBytes forgot) (sym c.turn.ensures.after) (others_turned layout forgot)) c.make_page.ensures.rest);
    }
