-- Each turn puts the next number's word behind the others; at the end no number is left.
use Rattle.std.proofs.Common.{arith}
use Rattle.program_generator.proofs.WordLaws.{words_from_end, words_from_next}
use Rattle.program_generator.proofs.push_chosen.Goals as goal

pub loop-preserved : goal.loop-preserved
loop-preserved c =
    let next_word = words_from_next c.loop.words.items c.loop.x c.loop.counter c.args.n (omega arith) in
    cc c.in_ok-push.ensures.items

pub returns : goal.returns
returns c =
    let no_more = words_from_end c.loop.words.items c.loop.x c.loop.counter c.args.n (omega arith) in
    record { words = cc }
