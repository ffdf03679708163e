use Rattle.std.proofs.Common.{◌≡◌, ◌+◌, ◌/◌, ◌%◌, subst, arith}
use Rattle.avr_isa.specs.Addresses.{wrapping_difference}
use Rattle.printed_text.specs.Gathering.{Gathers}
use Rattle.printed_text.proofs.Gathered.{gathers_on}
use Rattle.tk_watch.specs.AccessesText.{access_text}
use Rattle.tk_watch.proofs.access_rows.tell_push.Goals as goal

pub returns-clause-text : goal.returns-clause-text
returns-clause-text g c =
    let row = c.args.row in
    let mid = c.tell.new.gathered.items in
    let left = c.tell-2.new.gathered.items in
    let after = g.K.Sink.taken c.tell.new.out in
    let later = g.K.Sink.taken c.tell-2.new.out in
    let below : (c.args.sp + 65535) % 65536 ≡ wrapping_difference c.args.sp 1 = omega arith in
    gathers_on c.tell-2.result c.args.gathered.now.items mid left _ _ (g.K.Sink.taken c.args.out.now) after later c.in_ok-tell.ensures.text
    (subst (λ a. Gathers mid left after later c.tell-2.result (access_text row.first row.count row.step row.pc row.sreg c.args.kind.now a (c.args.back / 256))) below c.tell-2.ensures.text)
