use Rattle.std.proofs.Common.{arith, ap, sym, ◌∙◌, Some}
use Rattle.page_index.specs.Maps.{place_of}
use Rattle.page_index.proofs.MapLaws.{map_by_word, map_of_entry, entry_words, same_address}
use Rattle.page_index.proofs.page.place_in.Goals as goal

pub returns-then-word-t-clause-only : goal.returns-then-word-t-clause-only
returns-then-word-t-clause-only c = λ i v lists.
    let words = c.args.flash.now.words in
    let map = map_of_entry words c.args.page i c.args.t v c.requires.mapped lists in
    absurd (c.if-word-t.true (c.word.ensures.value ∙ (entry_words words c.args.page i c.args.t v map lists).0))

pub entries-i-end-requires-clause-map : goal.entries-i-end-requires-clause-map
entries-i-end-requires-clause-map c = map_by_word c.args.flash.now.words c.args.page c.requires.mapped (λ blank. omega arith)

-- the entry that was found
pub returns-then-entry-t-clause-found : goal.returns-then-entry-t-clause-found
returns-then-entry-t-clause-found c =
    let map = map_by_word c.args.flash.now.words c.args.page c.requires.mapped (λ blank. omega arith) in (
      c.loop-i.i,
      record {
        used = map.original;
        near = omega arith;
        listed = omega arith;
        address = omega arith;
        place = omega arith;
      },
    )

pub returns-then-entry-t-clause-only : goal.returns-then-entry-t-clause-only
returns-then-entry-t-clause-only c = λ i v lists.
    let words = c.args.flash.now.words in
    let page = c.args.page in
    let found = returns-then-entry-t-clause-found c in
    let map = map_of_entry words page i c.args.t v c.requires.mapped lists in
    ap Some (found.1.place ∙ ap (place_of words page) (same_address words page found.0 i c.args.t _ v map found.1 lists) ∙ sym lists.place)
