use Rattle.std.proofs.Common.{◌≡◌, ◌/◌, arith, ap, ◌∙◌}
use Rattle.flash_words.specs.Layouts.{image_of}
use Rattle.page_draft.specs.Drafts.{starts}
use Rattle.nat_page.proofs.GrowLaws.{begun_first, counts_of, drafting_more, stop_told, drafted}
use Rattle.nat_page.proofs.drafting.draft_run.Goals as goal

pub run-init : goal.run-init
unfolding starts
run-init c =
    let words = c.args.flash.now.words in
    record {
      last = 0;
      begun = begun_first c.args.layout.now (image_of c.args.layout.now words) words c.args.t (omega arith) c.requires.unknown;
      reached = c.read-here.ensures.pc;
      read = c.read-here.ensures.read;
      entries = c.requires.entries;
      code = c.requires.code;
      sized = c.requires.size;
    }

pub next_in_run-requires-clause-known : goal.next_in_run-requires-clause-known
next_in_run-requires-clause-known c =
    let drafting = c.run.invariant in
    let paged : c.run.here.pc / 128 ≡ c.args.t / 128 = ap (λ a. a / 128) drafting.reached ∙ drafting.begun.run.paged drafting.last (omega arith) in
    rw paged c.requires.known

pub next_in_run-requires-clause-words : goal.next_in_run-requires-clause-words
next_in_run-requires-clause-words c =
    let words = c.args.flash.now.words in
    let counts = counts_of c.args.layout.now (image_of c.args.layout.now words) words c.args.t c.run.draft c.run.here c.run.invariant in
    omega (arith, counts.entries, counts.code, counts.room)

pub past_own_words-here-requires-clause-drafting : goal.past_own_words-here-requires-clause-drafting
past_own_words-here-requires-clause-drafting c =
    drafting_more _ _ _ _ _ _ _ _ _ c.run.invariant c.words_with.ensures.value c.in-Some.ensures.next c.add.ensures.adds

pub words_with-requires : goal.words_with-requires
words_with-requires c =
    let words = c.args.flash.now.words in
    let counts = counts_of c.args.layout.now (image_of c.args.layout.now words) words c.args.t c.run.draft c.run.here c.run.invariant in
    record { room = omega (arith, counts.code, counts.room) }

pub add-requires-2-clause-entries : goal.add-requires-2-clause-entries
add-requires-2-clause-entries c =
    let words = c.args.flash.now.words in
    let counts = counts_of c.args.layout.now (image_of c.args.layout.now words) words c.args.t c.run.draft c.run.here c.run.invariant in
    omega (arith, counts.entries, counts.room)

pub add-requires-2-clause-room : goal.add-requires-2-clause-room
add-requires-2-clause-room c =
    let words = c.args.flash.now.words in
    let counts = counts_of c.args.layout.now (image_of c.args.layout.now words) words c.args.t c.run.draft c.run.here c.run.invariant in
    omega (arith, counts.code, counts.room)

pub close-requires-clause-room : goal.close-requires-clause-room
close-requires-clause-room c =
    let words = c.args.flash.now.words in
    let counts = counts_of c.args.layout.now (image_of c.args.layout.now words) words c.args.t c.run.draft c.run.here c.run.invariant in
    omega (arith, counts.code, counts.room, c.add-2.ensures.adds.size)

pub returns : goal.returns
returns c =
    let words = c.args.flash.now.words in
    let image = image_of c.args.layout.now words in
    let stops = stop_told c.args.layout.now image words c.run.here.pc c.words_with.result c.next_in_run.result c.next_in_run.ensures.next c.in_default.not-Some in
    record {
      drafted = drafted c.args.layout.now image words c.args.t c.words_with.result c.run.draft c.add-2.new.self c.close.new.self c.run.here c.run.invariant c.words_with.ensures.value stops
          c.add-2.ensures.adds c.close.ensures.entries c.close.ensures.code c.close.ensures.size;
    }
