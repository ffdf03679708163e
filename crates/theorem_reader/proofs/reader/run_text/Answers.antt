use Rattle.std.proofs.Common.{refl, ap, Some, inl}
use Rattle.tk_io.specs.Memory.{SinkState}
use Rattle.cli_requests.specs.Asking.{Tells}
use Rattle.theorem_reader.proofs.Doing.{call_of, not_risen, with_room}
use Rattle.theorem_reader.proofs.Alone.{no_tasks}
use Rattle.theorem_reader.proofs.Answering.{run_told, generated_told}
use Rattle.theorem_reader.proofs.Checking.{check_told}
use Rattle.theorem_reader.proofs.Covering.{covered}
use Rattle.theorem_reader.proofs.Dumping.{dump_told}
use Rattle.theorem_reader.proofs.Refusing.{refused_told, usage_told, asm_told_of}
use Rattle.theorem_reader.proofs.Restarting.{restart_told}
use Rattle.theorem_reader.proofs.Sharing.{tasks_told}
use Rattle.theorem_reader.proofs.reader.run_text.Goals as goal

pub returns : goal.returns
returns g c =
    let call = call_of _ c.tkernel-exit.result _ _ _ _ _ _
    (ap (λ (s : SinkState). Some s.taken) c.in_ok-out.ensures.fresh) (ap (λ (s : SinkState). s.faults) c.in_ok-out.ensures.fresh)
    refl c.number-status.ensures.number c.tkernel-exit.ensures.answer c.tkernel-exit.ensures.exact in
    let tells : Tells call.source call.source' _ = record { told = inl (ap Some c.new-input.ensures.left); read = not_risen 0 0 refl refl } in
    record {
      run = λ asked asks. with_room g.row.ROOM _ _ c.keeps_room.ensures.room (run_told _ _ _ _ _ call _ tells asked asks);
      dump = λ asked asks. with_room g.row.ROOM _ _ c.keeps_room.ensures.room (dump_told _ _ _ _ _ call _ tells asked asks);
      restart = λ asked asks. with_room g.row.ROOM _ _ c.keeps_room.ensures.room (restart_told _ _ _ _ _ call _ tells asked asks);
      tasks = λ asked asks. with_room g.row.ROOM _ _ c.keeps_room.ensures.room (tasks_told _ _ _ _ _ call _ tells asked asks);
      check = λ image flash asks. with_room g.row.ROOM _ _ c.keeps_room.ensures.room (check_told _ _ _ _ _ call _ tells image flash asks);
      asm = λ image asks. with_room g.row.ROOM _ _ c.keeps_room.ensures.room (asm_told_of _ _ _ _ _ call _ tells image asks);
      generate = λ seed asks. with_room g.row.ROOM _ _ c.keeps_room.ensures.room (generated_told _ _ _ _ _ call seed asks);
      refused = λ line asks. with_room g.row.ROOM _ _ c.keeps_room.ensures.room (refused_told _ _ _ _ _ call _ tells line asks);
      usage = λ own usage. with_room g.row.ROOM _ _ c.keeps_room.ensures.room (usage_told _ _ _ _ _ call own usage);
      no_tasks = no_tasks _ _ _ _ _ call;
      covered = covered g.row.ROOM _ _ _ _ c.keeps_room.ensures.room call _ tells;
    }
