use Rattle.std.proofs.Common.{◌≡◌, ◌+◌, [], length, take, drop, arith, refl, sym, ap, not, subst, ◌∙◌, ◌++◌, length-append, length-take, rules}
use Rattle.std.specs.Prelude.{if◌then◌else◌}
use Rattle.std.proofs.lemmas.List.{take-append-le}
use Rattle.std.proofs.lemmas.Grind.{common_steps}
use Rattle.byte_streams.proofs.KnownBytes.{gives_both, gives_kept, gives_no_more}
use Rattle.byte_streams.specs.Streams.{Gives, input_of}
use Rattle.byte_streams.proofs.source.read_all.Goals as goal

pub returns-then-taken-limit-clause-bytes : goal.returns-then-taken-limit-clause-bytes
returns-then-taken-limit-clause-bytes g c = (
  c.loop-bytes.bytes.items ++ take c.in-Ok.taken c.read.new.buf,
  grind (arith, common_steps, c.in-Ok.ensures.bound.0, c.in-Ok.ensures.bound.1, c.read.auto.buf),
  gives_both _ _ _ _ _ c.loop-bytes.invariant.taken (record { left = c.in-Ok.ensures.bytes.0; given = c.in-Ok.ensures.gives }),
)

pub returns-then-is_err-clause-bytes : goal.returns-then-is_err-clause-bytes
returns-then-is_err-clause-bytes g c = (
  length (c.loop-bytes.bytes.items ++ take c.in-Ok.taken c.read.new.buf),
  grind (arith, common_steps, c.in-Ok.ensures.bound.0, c.in-Ok.ensures.bound.1, c.read.auto.buf),
  (c.loop-bytes.bytes.items ++ take c.in-Ok.taken c.read.new.buf, refl, gives_both _ _ _ _ _ c.loop-bytes.invariant.taken (record { left = c.in-Ok.ensures.bytes.0; given = c.in-Ok.ensures.gives })),
)

pub returns-in-Err-clause-bytes : goal.returns-in-Err-clause-bytes
returns-in-Err-clause-bytes g c = (
  length c.loop-bytes.bytes.items,
  grind (arith, common_steps, c.loop-bytes.invariant.within),
  (c.loop-bytes.bytes.items, refl, gives_kept _ _ _ _ c.loop-bytes.invariant.taken c.in-Err.ensures.bytes c.in-Err.ensures.gives),
)

pub returns-then-taken-eq0-clause-bytes : goal.returns-then-taken-eq0-clause-bytes
returns-then-taken-eq0-clause-bytes g c =
    let none : take c.in-Ok.taken c.read.new.buf ≡ [] = ap (λ n. take n c.read.new.buf) c.if-taken-eq0.true in
    let more = subst (λ bytes. Gives (input_of g.S.Source.left g.S.Source.given g.S.Source.faults c.loop-bytes.s)
    (input_of g.S.Source.left g.S.Source.given g.S.Source.faults c.read.new.self) bytes) none
    (record { left = c.in-Ok.ensures.bytes.0; given = c.in-Ok.ensures.gives }) in
    (grind (arith, common_steps, c.loop-bytes.invariant.within), gives_no_more _ _ _ _ c.loop-bytes.invariant.taken more, search rules)

pub returns-then-taken-eq0-clause-cause : goal.returns-then-taken-eq0-clause-cause
returns-then-taken-eq0-clause-cause g c = search rules

pub loop-bytes-preserved : goal.loop-bytes-preserved
loop-bytes-preserved g c =
    let ok = c.is_err.ensures.negation ∙ ap not c.if-is_err.false in
    let before = c.loop-bytes.bytes.items in
    let got = take c.in-Ok.taken c.read.new.buf in
    let behind = drop (c.min-room.result + 1) c.loop-bytes.piece in
    let front = take-append-le c.in-Ok.taken c.read.new.buf behind c.in-Ok.ensures.bound.0 in
    let items : c.extend_from_slice.new.self.items ≡ before ++ got =
    c.extend_from_slice.ensures.items ∙ ap (λ b. if b then before ++ take c.in-Ok.taken (c.read.new.buf ++ behind) else before) ok ∙ ap (λ z. before ++ z) front in
    let at = input_of g.S.Source.left g.S.Source.given g.S.Source.faults in
    let more = gives_both _ _ _ _ _ c.loop-bytes.invariant.taken (record { left = c.in-Ok.ensures.bytes.0; given = c.in-Ok.ensures.gives }) in
    record {
      within = omega (arith, ap length items, length-append before got, length-take c.in-Ok.taken c.read.new.buf, c.if-taken-limit.false, c.loop-bytes.invariant.within);
      taken = subst (λ bytes. Gives (at c.args.s.now) (at c.read.new.self) bytes) (sym items) more;
      later = omega (arith, c.loop-bytes.invariant.later, c.in-Ok.ensures.cause.later);
    }
