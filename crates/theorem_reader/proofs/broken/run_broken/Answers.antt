use Rattle.std.proofs.Common.{[], ◌∷◌, ◌++◌, refl, ap, Some}
use Rattle.tk_io.specs.Memory.{SinkState}
use Rattle.theorem_reader.specs.Telling.{BrokenState}
use Rattle.theorem_reader.proofs.Doing.{call_of, with_room}
use Rattle.theorem_reader.proofs.Answering.{generated_told}
use Rattle.theorem_reader.proofs.Refusing.{usage_told}
use Rattle.theorem_reader.proofs.Unread.{IsBroken, not_before, fault_told, length_told}
use Rattle.theorem_reader.proofs.Alone.{no_tasks}
use Rattle.theorem_reader.proofs.Covering.{words_covered}
use Rattle.theorem_reader.proofs.broken.run_broken.Goals as goal

pub returns : goal.returns
returns g c =
    let call = call_of _ c.tkernel-exit.result _ _ _ _ _ _
    (ap (λ (s : SinkState). Some s.taken) c.in_ok-out.ensures.fresh) (ap (λ (s : SinkState). s.faults) c.in_ok-out.ensures.fresh)
    refl c.number-status.ensures.number c.tkernel-exit.ensures.answer c.tkernel-exit.ensures.exact in
    let broken : IsBroken _ call.source call.source' =
    record {
      told = ap (λ (s : BrokenState). Some (s.left ++ 0 ∷ [])) c.new-input.ensures.fresh;
      rest = _;
      left = refl;
      behind = λ rose. not_before _ _ c.keeps_behind.ensures.behind
          (ap (λ (s : BrokenState). s.faults) c.new-input.ensures.fresh) rose;
    } in
    record {
      fault = λ reads short. with_room g.row.ROOM _ _ c.keeps_room.ensures.room (fault_told _ _ _ _ _ call _ broken short reads);
      long = λ reads long. with_room g.row.ROOM _ _ c.keeps_room.ensures.room (length_told _ _ _ _ _ call _ broken long reads);
      generate = λ seed asks. with_room g.row.ROOM _ _ c.keeps_room.ensures.room (generated_told _ _ _ _ _ call seed asks);
      usage = λ own usage. with_room g.row.ROOM _ _ c.keeps_room.ensures.room (usage_told _ _ _ _ _ call own usage);
      no_tasks = no_tasks _ _ _ _ _ call;
      covered = words_covered _ _ _ _ call.answer.asked;
    }
