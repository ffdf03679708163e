use Rattle.std.proofs.Common.{refl, ap, ◌∙◌, Some, inl}
use Rattle.tk_io.specs.Memory.{SinkState}
use Rattle.cli_requests.specs.Asking.{Tells}
use Rattle.theorem_reader.proofs.Doing.{call_of, not_risen, with_room}
use Rattle.theorem_reader.proofs.OneAnswer.{answered_twice}
use Rattle.theorem_reader.proofs.twice.run_twice.Goals as goal

pub returns : goal.returns
returns g c =
    let one = call_of _ c.tkernel-exit.result _ _ _ _ _ _
    (ap (λ (s : SinkState). Some s.taken) c.in_ok-out.ensures.fresh) (ap (λ (s : SinkState). s.faults) c.in_ok-out.ensures.fresh)
    refl c.number-status.ensures.number c.tkernel-exit.ensures.answer c.tkernel-exit.ensures.exact in
    let other = call_of _ c.tkernel-again.result _ _ _ _ _ _
    (ap (λ (s : SinkState). Some s.taken) c.in_ok-more.ensures.fresh) (ap (λ (s : SinkState). s.faults) c.in_ok-more.ensures.fresh)
    refl c.number-number.ensures.number c.tkernel-again.ensures.answer c.tkernel-again.ensures.exact in
    let tells : Tells one.source one.source' c.args.text.now =
    record { told = inl (ap Some (c.new-input.ensures.left ∙ c.in_ok-first.ensures.same)); read = not_risen 0 0 refl refl } in
    let again : Tells other.source other.source' c.args.text.now =
    record { told = inl (ap Some (c.new-same.ensures.left ∙ c.in_ok-second.ensures.same)); read = not_risen 0 0 refl refl } in
    record {
      again = λ serves. with_room g.row.MORE _ _ c.keeps_room.ensures.room
          (answered_twice _ (record { by = record { exit = _; status = _; faults = _; taken = _; call = one }; none = serves })
          (record { exit = _; status = _; faults = _; taken = _; call = other }) c.args.text.now tells again);
    }
