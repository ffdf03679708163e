use Rattle.std.proofs.Common.{◌≡◌, ◌+◌, length, arith}
use Rattle.flash_words.specs.Layouts.{image_of}
use Rattle.nat_page.specs.Drafts.{own_instruction}
use Rattle.nat_page.proofs.GrowLaws.{counts_of, drafting_more}
use Rattle.nat_page.proofs.OwnLaws.{own_added}
use Rattle.nat_page.proofs.drafting.take_own_words.Goals as goal

pub overflow_add-len-in-run : goal.overflow_add-len-in-run
overflow_add-len-in-run c =
    let words = c.args.flash.now.words in
    let image = image_of c.args.layout.now words in
    let counts = counts_of c.args.layout.now image words c.args.t c.run.draft (own_instruction image c.run.pc c.run.first) c.run.invariant.drafting in
    omega (arith, counts.entries, counts.code, counts.room, c.len.ensures, c.from.ensures)

pub own_word_behind-requires-clause-words : goal.own_word_behind-requires-clause-words
own_word_behind-requires-clause-words c =
    let words = c.args.flash.now.words in
    let image = image_of c.args.layout.now words in
    let counts = counts_of c.args.layout.now image words c.args.t c.run.draft (own_instruction image c.run.pc c.run.first) c.run.invariant.drafting in
    omega (arith, counts.entries, counts.code, counts.room, c.len.ensures, c.from.ensures)

pub add_word-requires-clause-entries : goal.add_word-requires-clause-entries
add_word-requires-clause-entries c =
    let words = c.args.flash.now.words in
    let image = image_of c.args.layout.now words in
    let counts = counts_of c.args.layout.now image words c.args.t c.run.draft (own_instruction image c.run.pc c.run.first) c.run.invariant.drafting in
    omega (arith, counts.entries, counts.code, counts.room)

pub add_word-requires-clause-room : goal.add_word-requires-clause-room
add_word-requires-clause-room c =
    let words = c.args.flash.now.words in
    let image = image_of c.args.layout.now words in
    let counts = counts_of c.args.layout.now image words c.args.t c.run.draft (own_instruction image c.run.pc c.run.first) c.run.invariant.drafting in
    omega (arith, counts.code, counts.room)

pub run-preserved : goal.run-preserved
run-preserved c =
    let draft = c.run.draft in
    let others = 4 + c.len.result + c.from.result in
    let told : others ≡ length draft.entries.items + draft.size + 1 + 3 = omega (arith, c.len.ensures, c.from.ensures) in
    record {
      on = omega (arith, c.run.invariant.on);
      own = c.in-Some.ensures.next.0;
      drafting = drafting_more _ _ _ _ _ _ _ _ _ c.run.invariant.drafting told
          (c.in-Some.ensures.next.1 c.run.first c.run.invariant.own) (own_added _ _ _ _ _ c.add_word.ensures.entries c.add_word.ensures.code c.add_word.ensures.size);
    }
