use Rattle.std.proofs.Common.{◌/◌, ℕ, List, ◌++◌, ap, ap₂, ◌∙◌, subst}
use Rattle.printed_text.specs.StopLines.{end_line}
use Rattle.program_steps.specs.Machines.{Machine}
use Rattle.cli_words.specs.declared.status.Status.TheVariants.{WriteFault}
use Rattle.cli_words.specs.Stream.{stream}
use Rattle.tkernel_cli.specs.Runs.{Says, count_line_of, last_text, status_of_stop, stop_line_of}
use Rattle.tkernel_cli.proofs.Putting.{said_cut, said_on}
use Rattle.tkernel_cli.proofs.running.tell_end.Goals as goal

pub returns-in-Ok : goal.returns-in-Ok
returns-in-Ok g c =
    let inside = c.machine.inside in
    let first = c.deref.ensures.0 ∙ c.stop_line.ensures.text ∙ ap (λ q. end_line c.args.end inside.steps (inside.crossings / q)) c.from.ensures in
    let second = c.deref-in-Ok.ensures.0 ∙ c.counts.ensures.text in
    let before = stream g.K.Sink.taken g.K.Sink.faults c.args.out.now in
    let mid = stream g.K.Sink.taken g.K.Sink.faults c.put.new.k in
    let now = stream g.K.Sink.taken g.K.Sink.faults c.say.new.out in
    let P : List ℕ → Type 0 = λ text. Says (status_of_stop c.args.end) text before now c.say.result in
    let Q : Machine → Type 0 = λ m. P (last_text c.args.end m) in
    let said = said_on c.status_of.result c.say.result before mid now c.deref.result.now c.deref-in-Ok.result.now c.in-Ok.ensures.bytes c.in-Ok.ensures.cause.later c.say.ensures.said in
    let own = subst (λ s. Says s (c.deref.result.now ++ c.deref-in-Ok.result.now) before now c.say.result) c.status_of.ensures.status said in
    record { said = subst Q c.machine.view_is (subst P (ap₂ (λ x y. x ++ y) first second) own) }

pub returns-in-Err : goal.returns-in-Err
returns-in-Err g c =
    let inside = c.machine.inside in
    let first = c.deref.ensures.0 ∙ c.stop_line.ensures.text ∙ ap (λ q. end_line c.args.end inside.steps (inside.crossings / q)) c.from.ensures ∙ ap (stop_line_of c.args.end) c.machine.view_is in
    let before = stream g.K.Sink.taken g.K.Sink.faults c.args.out.now in
    let now = stream g.K.Sink.taken g.K.Sink.faults c.put.new.k in
    let P : List ℕ → Type 0 = λ line. Says (status_of_stop c.args.end) (line ++ count_line_of c.args.machine.now) before now WriteFault in
    record { said = subst P first (said_cut (status_of_stop c.args.end) before now c.deref.result.now _ c.in-Err.ensures.cause.failed c.in-Err.ensures.bytes) }
