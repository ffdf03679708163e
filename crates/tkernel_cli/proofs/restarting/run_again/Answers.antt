use Rattle.std.proofs.Common.{◌-◌, [], subst, refl, sym, ◌∙◌, arith}
use Rattle.std.specs.Io.KnownBytes.{Appends}
use Rattle.byte_streams.specs.Streams.{CutShort}
use Rattle.program_steps.specs.Ready.{IsKept}
use Rattle.tk_run.specs.InTurn.{GoOutInTurn}
use Rattle.tk_run.specs.Running.{HasAdvanced}
use Rattle.tk_run.proofs.InTurn.{begins_in_turn}
use Rattle.tk_run.proofs.WholeRun.{over_is}
use Rattle.tkernel_cli.specs.RestartRuns.{RunsOver, second_start}
use Rattle.cli_words.specs.Stream.{stream}
use Rattle.printed_text.specs.RestartLines.{restart_text}
use Rattle.tkernel_cli.proofs.RestartEnds.{over_answered, over_cut}
use Rattle.tkernel_cli.proofs.restarting.run_again.Goals as goal

pub returns-in-Err : goal.returns-in-Err
returns-in-Err g c = record {
  over = λ request flash same faithful steps.
      let line = c.deref.ensures.0 ∙ c.restart_line.ensures.text in
      RunsOver.Unbegun (record {
        status_is = refl;
        rose = c.in-Err.ensures.cause.failed;
        put = subst (λ text. CutShort (g.K.Sink.taken c.args.out.now) (g.K.Sink.taken c.put.new.k) text) line c.in-Err.ensures.bytes;
        is = same;
      });
}

pub returns-in-Ok-advance : goal.returns-in-Ok-advance
returns-in-Ok-advance g c = record {
  over = λ request flash same faithful steps.
      let line = c.deref.ensures.0 ∙ c.restart_line.ensures.text in
      let put = subst (λ text. Appends (g.K.Sink.taken c.args.out.now) (g.K.Sink.taken c.put.new.k) text) line c.in-Ok.ensures.bytes in
      let kept = subst IsKept same c.requires.kept in
      let before = stream g.K.Sink.taken g.K.Sink.faults c.args.out.now in
      let first = stream g.K.Sink.taken g.K.Sink.faults c.put.new.k in
      let mid = stream g.K.Sink.taken g.K.Sink.faults c.advance.new.out in
      let now = stream g.K.Sink.taken g.K.Sink.faults c.tell_end.new.out in
      let advanced = subst (λ n. HasAdvanced (second_start request flash) c.advance.new.self n first.told mid.told c.advance.result) (sym steps)
      (subst (λ m. HasAdvanced m c.advance.new.self c.args.steps first.told mid.told c.advance.result) same c.advance.ensures.advanced) in
      over_answered request flash (restart_text c.args.told.kept c.args.told.dropped) before first mid now c.tell_end.result c.advance.result c.in-Ok-advance.end c.advance.new.self
      faithful kept (omega (arith, steps, c.requires.steps)) put c.in-Ok.ensures.cause.later advanced c.in-Ok-advance.is c.advance.ensures.cause c.tell_end.ensures.said;
}

pub returns-in-Err-advance : goal.returns-in-Err-advance
returns-in-Err-advance g c = record {
  over = λ request flash same faithful steps.
      let line = c.deref.ensures.0 ∙ c.restart_line.ensures.text in
      let put = subst (λ text. Appends (g.K.Sink.taken c.args.out.now) (g.K.Sink.taken c.put.new.k) text) line c.in-Ok.ensures.bytes in
      let kept = subst IsKept same c.requires.kept in
      let before = stream g.K.Sink.taken g.K.Sink.faults c.args.out.now in
      let first = stream g.K.Sink.taken g.K.Sink.faults c.put.new.k in
      let now = stream g.K.Sink.taken g.K.Sink.faults c.advance.new.out in
      let advanced = subst (λ n. HasAdvanced (second_start request flash) c.advance.new.self n first.told now.told c.advance.result) (sym steps)
      (subst (λ m. HasAdvanced m c.advance.new.self c.args.steps first.told now.told c.advance.result) same c.advance.ensures.advanced) in
      let start = over_is request.image flash request.script request.options.quantum request.options.swap faithful kept in
      let turns = subst (λ m. GoOutInTurn g.K.Sink.taken m c.put.new.k c.advance.new.out (c.advance.new.self.steps - m.steps)) same c.advance.ensures.turns in
      over_cut request flash (restart_text c.args.told.kept c.args.told.dropped) before first now c.advance.result c.in-Err-advance.field-0 c.advance.new.self
      faithful kept (omega (arith, steps, c.requires.steps)) put c.in-Ok.ensures.cause.later advanced c.in-Err-advance.is c.advance.ensures.cause
      (begins_in_turn g.K.Sink.taken _ _ _ [] c.advance.new.self c.put.new.k c.advance.new.out start turns);
}
