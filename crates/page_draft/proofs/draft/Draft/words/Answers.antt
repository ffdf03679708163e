use Rattle.std.proofs.Common.{◌+◌, length, map, arith, ap}
use Rattle.std.proofs.lemmas.List.{length-append, length-map}
use Rattle.page_draft.specs.Standing.{size}
use Rattle.page_draft.proofs.draft.Draft.words.Goals as goal

pub push_words-requires : goal.push_words-requires
push_words-requires c =
    let entries = ap length c.deref.ensures.0 in
    let code = ap size c.deref-2.ensures.0 in
    let none = ap length c.new-words.ensures in
    let before = ap length c.push_map_words.ensures.words in
    let all = length-append c.push-2.new.self.items (map (λ entry. entry + (2 + c.len-count.result)) c.deref.result.now) in
    record {
      room = omega (
        arith,
        entries,
        code,
        none,
        before,
        all,
        length-map c.deref.result.now (λ entry. entry + (2 + c.len-count.result)),
        c.push.ensures.len,
        c.push-2.ensures.len,
        c.requires.sized,
        c.requires.fits,
      );
    }
