use Rattle.std.proofs.Common.{◌≡◌, ◌+◌, arith, sym, ◌∙◌}
use Rattle.page_index.specs.Maps.{IsPool}
use Rattle.nat_page.specs.Used.{is_used}
use Rattle.tk_restart.specs.Keeping.{is_dropped}
use Rattle.tk_restart.proofs.SweepLaws.{swept_all, swept_fate, swept_none, swept_pages}
use Rattle.tk_restart.proofs.CountLaws.{count_most}
use Rattle.tk_restart.proofs.sweeping.sweep.Goals as goal

pub pages-init : goal.pages-init
pages-init c = record { swept = swept_none c.args.layout.now c.args.image.now c.args.flash.now; whole = λ begun. absurd (omega (arith, begun)) }

pub sweep_page-fate-requires-clause-pages : goal.sweep_page-fate-requires-clause-pages
sweep_page-fate-requires-clause-pages c =
    swept_pages c.args.layout.now c.args.image.now _ _ c.pages.k _ (omega (arith, c.requires.length, c.requires.right.image_fits)) c.pages.invariant.swept

pub sweep_page-fate-requires-clause-room : goal.sweep_page-fate-requires-clause-room
sweep_page-fate-requires-clause-room c =
    let most = count_most (is_dropped c.args.flash.now.words (is_used c.pages.flash.words)) c.args.layout.now.pool_first c.pages.k in
    omega (arith, most, c.pages.invariant.swept.dropped_is, c.pages.invariant.swept.ops, c.requires.room, c.pages-test.true, c.requires.right.pool_below_kernel)

pub with-told-requires-clause-few : goal.with-told-requires-clause-few
with-told-requires-clause-few c =
    let most = count_most (is_used c.pages.flash.words) c.args.layout.now.pool_first c.pages.k in
    omega (arith, most, c.pages.invariant.swept.kept_is, c.pages-test.true, c.requires.right.pool_below_kernel)

pub with-told-requires-clause-small : goal.with-told-requires-clause-small
with-told-requires-clause-small c =
    let most = count_most (is_dropped c.args.flash.now.words (is_used c.pages.flash.words)) c.args.layout.now.pool_first c.pages.k in
    omega (arith, most, c.pages.invariant.swept.dropped_is, c.pages-test.true, c.requires.right.pool_below_kernel)

pub pages-preserved : goal.pages-preserved
pages-preserved c =
    let layout = c.args.layout.now in
    let pool : IsPool layout (layout.pool_first + c.pages.k) = record { from = omega arith; to = omega (arith, c.pages-test.true) } in
    let whole = c.sweep_page-fate.ensures.whole in
    record {
      swept = swept_fate layout c.args.image.now c.args.flash.now c.pages.flash c.sweep_page-fate.new.flash c.pages.k c.pages.told c.with-told.result c.sweep_page-fate.result
          (omega (arith, c.requires.length, c.requires.right.image_fits)) c.requires.right whole pool
          c.pages.invariant.swept c.sweep_page-fate.ensures.judged c.sweep_page-fate.ensures.after c.with-told.ensures.value;
      whole = λ begun. sym c.pages.invariant.swept.size ∙ whole.words;
    }

pub returns : goal.returns
returns c =
    let layout = c.args.layout.now in
    let at_end : c.pages.k ≡ layout.pool_pages = omega (arith, c.pages.auto.k-end, c.pages-test.false) in
    record {
      sweeps = swept_all layout c.args.image.now c.args.flash.now c.pages.flash c.pages.told (omega (arith, c.requires.length, c.requires.right.image_fits)) (rw at_end at c.pages.invariant.swept);
      whole = c.pages.invariant.whole (omega (arith, at_end, c.requires.right.pool_pages));
    }
