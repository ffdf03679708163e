use Rattle.std.proofs.Common.{arith, ◌≡◌, ℕ, List, Option, Some, None, Ok, Err, false, refl, sym, ap, ◌∙◌, subst}
use Rattle.flash_words.specs.Layouts.{image_of}
use Rattle.nat_page.specs.Links.{IsUnresolved}
use Rattle.branch_bridge.specs.declared.arrival.Refused.{Refused}
use Rattle.branch_bridge.specs.declared.through.Arrival.{Arrival}
use Rattle.branch_bridge.specs.Operating.{stop_of, mended, with_torn}
use Rattle.branch_bridge.specs.Arrivals.{Store, ArrivesFrom, Stopped, Went, Resolved, torn_by}
use Rattle.nat_page.specs.Parts.{IsLinkFrom}
use Rattle.branch_bridge.proofs.PartLaws.{arrives_parted, resolved_parted}
use Rattle.nat_page.specs.Used.{used_pages}
use Rattle.branch_bridge.proofs.ArrivalLaws.{flash_left}
use Rattle.branch_bridge.proofs.ThroughLaws.{IsToResolve, is_to_resolve, mended_is}
use Rattle.page_index.specs.Entries.{IsEntry}
use Rattle.nat_page.specs.Faithful.{IsFaithful}
use Rattle.addr_tables.proofs.TableLaws.{tables_kept}
use Rattle.branch_bridge.proofs.through.arrive_through.Goals as goal

pub returns-in-Err : goal.returns-in-Err
returns-in-Err c =
    let layout = c.args.layout.now in
    let old : Store = record { flash = c.args.flash.now; sram = c.args.sram.now } in
    let new : Store = record { flash = c.arrive_with_hints.new.flash; sram = c.arrive_with_hints.new.sram } in
    let arrival : Arrival = record { place = None; made = false; refused = Some c.in-Err.refused } in
    let arrives : ArrivesFrom layout old new c.args.t c.args.stub arrival = Stopped c.in-Err.refused c.in-Err.ensures.arrives refl in
    let left = flash_left layout old new c.args.t c.args.stub arrival c.requires.right c.requires.code.whole c.requires.ring c.requires.stub arrives in
    let kept = c.in-Err.ensures.kept in
    record {
      arrives = arrives;
      entries = λ unrefused. absurd (let e : Some c.in-Err.refused ≡ None = unrefused in cc);
      parts = λ part parted own. (arrives_parted layout old new part c.args.t (Err c.in-Err.refused) c.requires.right c.requires.code c.requires.ring c.in-Err.ensures.arrives parted).0;
      kept = record {
        used = c.in-Err.ensures.used;
        tried = left.tried;
        image = left.image;
        torn = left.torn;
        rest = c.in-Err.ensures.rest;
        code = kept.code;
        same_image = kept.same_image;
        tables = kept.tables c.requires.tables;
        entered = tt;
        ops = (let before = kept.ops in omega arith);
        ring = kept.ring c.requires.ring;
      };
    }

pub resolve-requires-clause-stub : goal.resolve-requires-clause-stub
resolve-requires-clause-stub c =
    let layout = c.args.layout.now in
    let old = c.args.flash.now.words in
    let moved = c.in-Ok.moved in
    let s = c.in-Some.stub in
    let is : IsToResolve moved.recycled c.args.stub s = is_to_resolve moved.recycled c.args.stub s (sym c.to_resolve.ensures.value ∙ c.in-Some.is) in
    let from : IsUnresolved layout (image_of layout old) old s c.args.t = rw is.same at c.requires.stub in
    record {
      target = c.args.t;
      unresolved = rw c.in-Ok.ensures.kept.same_image (c.in-Ok.ensures.kept.stubs s c.args.t is.apart from);
      entry = c.in-Ok.ensures.kept.entered c.requires.tables;
    }

pub returns-in-Some : goal.returns-in-Some
returns-in-Some c =
    let layout = c.args.layout.now in
    let old : Store = record { flash = c.args.flash.now; sram = c.args.sram.now } in
    let mid : Store = record { flash = c.arrive_with_hints.new.flash; sram = c.arrive_with_hints.new.sram } in
    let new : Store = record { flash = c.resolve.new.flash; sram = c.arrive_with_hints.new.sram } in
    let told : Option Refused → Arrival = λ r. record { place = Some c.in-Ok.moved.place; made = c.in-Ok.moved.made; refused = r } in
    let kept = c.in-Ok.ensures.kept in
    let words = c.resolve.new.flash.words in
    let left : List ℕ = with_torn words (torn_by c.refusal-refused.result) in
    let is : left ≡ mended words (stop_of c.resolve.result) = ap (λ r. with_torn words (torn_by r)) c.refusal-refused.ensures.value ∙ mended_is words (stop_of c.resolve.result) in
    let entry : (a v : ℕ) → IsEntry layout mid.flash.words a v → IsEntry layout left a v = λ a v e. rw is ((c.resolve.ensures.entries a v).0 e) in
    let code : IsFaithful layout (image_of layout mid.flash.words) left = subst (IsFaithful layout (image_of layout mid.flash.words)) (sym is) c.resolve.ensures.code in
    let arrives = Resolved mid c.in-Ok.moved c.in-Some.stub c.in-Ok.ensures.arrives (sym c.to_resolve.ensures.value ∙ c.in-Some.is) (stop_of c.resolve.result) c.resolve.ensures.performed refl
    (ap told c.refusal-refused.ensures.value) in
    let left_flash = flash_left layout old new c.args.t c.args.stub (told c.refusal-refused.result) c.requires.right c.requires.code.whole c.requires.ring c.requires.stub arrives in
    let image = image_of layout old.flash.words in
    let s = c.in-Some.stub in
    record {
      entries = λ unrefused a v away.
          let at : left ≡ words = ap (λ r. with_torn words (torn_by r)) unrefused in
          let both = c.in-Ok.ensures.entries a v away in
          (λ e. rw at at (entry a v (both.0 e)), λ e. both.1 ((c.resolve.ensures.entries a v).1 (rw (sym at ∙ is) at e)));
      parts = λ part parted own.
          let to_own : IsToResolve c.in-Ok.moved.recycled c.args.stub s = is_to_resolve c.in-Ok.moved.recycled c.args.stub s (sym c.to_resolve.ensures.value ∙ c.in-Some.is) in
          let stub : IsUnresolved layout image old.flash.words s c.args.t = rw to_own.same at c.requires.stub in
          let from : IsLinkFrom layout image old.flash.words part (part c.args.t) s c.args.t = rw to_own.same at own in
          let gone = arrives_parted layout old mid part c.args.t (Ok c.in-Ok.moved) c.requires.right c.requires.code c.requires.ring c.in-Ok.ensures.arrives parted in
          rw is
          (rw c.resolve.ensures.performed at (resolved_parted layout image mid.flash part s c.args.t c.in-Ok.moved.place c.requires.right kept.code
          (kept.stubs s c.args.t to_own.apart stub) (kept.entered c.requires.tables) (gone.1 (part c.args.t) s c.args.t to_own.apart from) gone.0));
      kept = record {
        used = ap (used_pages layout) is ∙ c.resolve.ensures.used ∙ c.in-Ok.ensures.used;
        tried = left_flash.tried;
        image = left_flash.image;
        torn = left_flash.torn;
        rest = c.in-Ok.ensures.rest;
        code = rw kept.same_image at code;
        same_image = ap (image_of layout) is ∙ c.resolve.ensures.image ∙ kept.same_image;
        tables = tables_kept layout mid.sram mid.sram mid.flash.words left (λ a from to. refl) entry (kept.tables c.requires.tables);
        entered = entry c.args.t c.in-Ok.moved.place (kept.entered c.requires.tables);
        ops = (let before = kept.ops in let two = c.resolve.ensures.ops in omega arith);
        ring = kept.ring c.requires.ring;
      };
      arrives = arrives;
    }

pub returns-in-None : goal.returns-in-None
returns-in-None c =
    let layout = c.args.layout.now in
    let old : Store = record { flash = c.args.flash.now; sram = c.args.sram.now } in
    let new : Store = record { flash = c.arrive_with_hints.new.flash; sram = c.arrive_with_hints.new.sram } in
    let arrival : Arrival = record { place = Some c.in-Ok.moved.place; made = c.in-Ok.moved.made; refused = None } in
    let arrives : ArrivesFrom layout old new c.args.t c.args.stub arrival = Went c.in-Ok.moved c.in-Ok.ensures.arrives (sym c.to_resolve.ensures.value ∙ c.in-None.is) refl in
    let left = flash_left layout old new c.args.t c.args.stub arrival c.requires.right c.requires.code.whole c.requires.ring c.requires.stub arrives in
    let kept = c.in-Ok.ensures.kept in
    record {
      arrives = arrives;
      entries = λ unrefused. c.in-Ok.ensures.entries;
      parts = λ part parted own. (arrives_parted layout old new part c.args.t (Ok c.in-Ok.moved) c.requires.right c.requires.code c.requires.ring c.in-Ok.ensures.arrives parted).0;
      kept = record {
        used = c.in-Ok.ensures.used;
        tried = left.tried;
        image = left.image;
        torn = left.torn;
        rest = c.in-Ok.ensures.rest;
        code = kept.code;
        same_image = kept.same_image;
        tables = kept.tables c.requires.tables;
        entered = kept.entered c.requires.tables;
        ops = (let before = kept.ops in omega arith);
        ring = kept.ring c.requires.ring;
      };
    }
