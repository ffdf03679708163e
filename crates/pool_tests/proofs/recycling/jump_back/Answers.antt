use Rattle.std.proofs.Common.{◌≡◌, ◌+◌, arith, sym, subst}
use Rattle.flash_words.specs.Pages.{word_at}
use Rattle.nat_template.specs.Stubs.{call_word, bridge_entry}
use Rattle.page_index.specs.Entries.{IsEntry}
use Rattle.nat_page.specs.Links.{IsLinkIn}
use Rattle.nat_page.specs.Faithful.{IsFaithful}
use Rattle.flash_words.specs.Layouts.{image_of}
use Rattle.nat_page.proofs.FaithfulLaws.{faithful_mapped}
use Rattle.pool_tests.proofs.WorkedPage.{round, back_link}
use Rattle.pool_tests.proofs.recycling.jump_back.Goals as goal

pub entry-requires-clause-mapped : goal.entry-requires-clause-mapped
entry-requires-clause-mapped c =
    let words = c.args.flash.now.words in
    faithful_mapped c.args.layout.now (image_of c.args.layout.now words) words c.requires.right c.requires.faithful

pub returns : goal.returns
returns c =
    let layout = c.args.layout.now in
    let words = c.args.flash.now.words in
    let code : IsFaithful layout round words = subst (λ i. IsFaithful layout i words) c.requires.image c.requires.faithful in
    let entry : IsEntry layout words 2 0x4083 = subst (λ v. IsEntry layout words 2 v) c.in-Some-eq16515.field-0-test c.in-Some-eq16515.ensures.found in
    let link : IsLinkIn layout round words (0x4083 + 16) 0 = back_link layout words 0x4083 c.requires.right code entry in
    let call : word_at words 0x4093 ≡ call_word = omega (arith, c.word.ensures.value, c.if-word-ne37902.false) in
    let bridge : word_at words 0x4094 ≡ bridge_entry = omega (arith, c.word-2.ensures.value, c.if-word-ne61440.false) in
    record {
      stub = record {
        link = subst (λ i. IsLinkIn layout i words 0x4093 0) (sym c.requires.image) link;
        call = call;
        bridge = bridge;
      };
    }
