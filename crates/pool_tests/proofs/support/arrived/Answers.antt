use Rattle.std.proofs.Common.{◌≡◌, List, ℕ, Result, Ok, Err, arith, subst, sym}
use Rattle.std.specs.Prelude.{OnOk}
use Rattle.flash_words.specs.Layouts.{image_of}
use Rattle.flash_words.specs.declared.layout.Layout.{Layout}
use Rattle.nat_page.specs.Faithful.{IsFaithful}
use Rattle.branch_bridge.specs.declared.arrival.Moved.{Moved}
use Rattle.branch_bridge.specs.declared.arrival.Refused.{Refused}
use Rattle.branch_bridge.specs.Operating.{with_torn}
use Rattle.branch_bridge.specs.Arrivals.{torn_in}
use Rattle.pool_tests.proofs.support.arrived.Goals as goal

-- no page is torn where nothing was refused
faithful_on : (layout : Layout) (old new : List ℕ) (result : Result Moved Refused) → image_of layout (with_torn new (torn_in result)) ≡ image_of layout old
    → IsFaithful layout (image_of layout old) (with_torn new (torn_in result)) → OnOk result (IsFaithful layout (image_of layout new) new)
faithful_on layout old new (Ok moved) same faithful = subst (λ i. IsFaithful layout i new) (sym same) faithful
faithful_on layout old new (Err refused) same faithful = tt

image_on : (layout : Layout) (old new : List ℕ) (result : Result Moved Refused) → image_of layout (with_torn new (torn_in result)) ≡ image_of layout old
    → OnOk result (image_of layout new ≡ image_of layout old)
image_on layout old new (Ok moved) same = same
image_on layout old new (Err refused) same = tt

on_ok : (P : Type 0) (result : Result Moved Refused) → P → OnOk result P
on_ok P (Ok moved) holds = holds
on_ok P (Err refused) holds = tt

pub returns : goal.returns
returns c =
    let layout = c.args.layout.now in
    let old = c.args.flash.now.words in
    let new = c.arrive.new.flash.words in
    let kept = c.arrive.ensures.kept in
    record {
      faithful = faithful_on layout old new c.arrive.result kept.same_image kept.code;
      image = image_on layout old new c.arrive.result kept.same_image;
      ring = on_ok _ c.arrive.result (kept.ring c.requires.ring);
      room = omega (arith, kept.ops, c.requires.right.pool_below_kernel);
    }
