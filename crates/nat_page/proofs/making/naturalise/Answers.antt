use Rattle.std.proofs.Common.{◌≡◌, sym, ap, subst}
use Rattle.flash_words.specs.Pages.{set_page}
use Rattle.flash_words.specs.Memory.{Memory}
use Rattle.flash_words.specs.declared.failing.FlashStop.{FlashStop}
use Rattle.nat_page.specs.declared.making.NatStop.TheVariants as stops
use Rattle.flash_words.specs.Layouts.{image_of}
use Rattle.nat_page.specs.Faithful.{IsFaithful}
use Rattle.nat_page.specs.Making.{MakesPage}
use Rattle.nat_page.proofs.MadeLaws.{makes_faithful, makes_image, makes_entry, makes_entries, makes_unresolved}
use Rattle.nat_page.proofs.UsedLaws.{used_made}
use Rattle.nat_page.proofs.making.naturalise.Goals as goal

pub returns-in-Ok : goal.returns-in-Ok
returns-in-Ok c =
    let layout = c.args.layout.now in
    let old = c.args.flash.now.words in
    let new = c.program.new.self.words in
    let image = image_of layout old in
    let page = c.args.page in
    let t = c.args.t in
    let right = c.requires.right in
    let code = c.requires.code in
    let pool = c.requires.pool in
    let free = c.requires.free in
    let place = c.prepare-prepared.result.place in
    let words = c.prepare-prepared.result.words in
    let changed : new ≡ set_page old page words = ap (λ (m : Memory). m.words) (c.in-Ok.ensures.fresh free) in
    let makes : MakesPage layout image old new page t place = record { words = words; prepared = c.prepare-prepared.ensures.prepared; changed = changed } in
    record {
      done = c.in-Ok.ensures.free;
      refused = record {};
      stop = record {};
      after = record { words = words; prepared = c.prepare-prepared.ensures.prepared; after = c.in-Ok.ensures.fresh free };
      faithful = makes_faithful layout image old new page t place right code pool free makes;
      image = makes_image layout image old new page t place right code pool makes;
      entered = makes_entry layout image old new page t place right code pool makes;
      entries = λ a v entry. makes_entries layout image old new page t place right code pool free makes a v entry;
      stubs = λ s to stub. makes_unresolved layout image old new page t place right code pool free makes s to stub;
      used = used_made layout image old new page t place right code pool free makes;
    }

pub returns-in-Err : goal.returns-in-Err
returns-in-Err c =
    let layout = c.args.layout.now in
    let image = image_of layout c.args.flash.now.words in
    let same : c.program.new.self.words ≡ c.args.flash.now.words = ap (λ (m : Memory). m.words) c.in-Err.ensures.refused in
    record {
      done = record {};
      after = record {};
      refused = (c.in-Err.ensures.listed, c.in-Err.ensures.refused);
      entered = record {};
      used = record {};
      stop = ap stops.Flash (ap (λ (stop : FlashStop). stop.op) c.in-Err.ensures.stop);
      faithful = subst (IsFaithful layout image) (sym same) c.requires.code;
      image = ap (image_of layout) same;
      entries = λ a v entry. rw same entry;
      stubs = λ s to stub. rw same stub;
    }
