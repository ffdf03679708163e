use Rattle.std.proofs.Common.{◌≡◌, ◌+◌, ◌*◌, ◌/◌, ◌%◌, arith}
use Rattle.std.proofs.lemmas.Option.{IfSome_then}
use Rattle.nat_page.specs.Making.{HasNoEntry}
use Rattle.nat_page.proofs.OwnLaws.{own_on}
use Rattle.nat_page.proofs.drafting.own_word_behind.Goals as goal

pub returns : goal.returns
returns c =
    let layout = c.args.layout.now in
    let words = c.args.flash.now.words in
    let pc = c.args.pc in
    let there : 128 * (pc / 128) + (pc + 1) % 128 ≡ pc + 1 = omega (arith, c.if-next-pc.false) in
    let unknown : HasNoEntry layout words (pc + 1) = λ v entry. (let known = c.requires.known.only ((pc + 1) % 128) v (omega arith) (rw there entry) in absurd (cc)) in
    record {
      next = IfSome_then c.own_word.result c.own_word.ensures.own (λ next own'.
          (own', λ first own. own_on _ _ _ _ _ _ _ own own' c.if-next-pc.false unknown (omega (arith, c.from.ensures, c.stub_size.ensures.size, c.if-words-from-gt128.false))));
    }
