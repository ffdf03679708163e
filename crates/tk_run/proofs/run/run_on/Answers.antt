use Rattle.std.proofs.Common.{[]}
use Rattle.std.specs.Prelude.{is_err}
use Rattle.program_steps.specs.Wholes.{whole}
use Rattle.tk_run.specs.Gathering.{HasMade}
use Rattle.tk_run.specs.Running.{HasAdvanced}
use Rattle.tk_run.proofs.Advancing.{advanced_kept, others_kept}
use Rattle.tk_run.proofs.Putting.{advanced_made}
use Rattle.tk_run.proofs.run.run_on.Given.{Over}
use Rattle.tk_run.proofs.run.run_on.Goals.{in-Some-cursor, in-None, After-is_err-p}
use Rattle.tk_run.proofs.run.run_on.Goals as goal

pub returns-in-Some-clause-advanced : goal.returns-in-Some-clause-advanced
returns-in-Some-clause-advanced g c = advanced_kept c.requires.whole c.in-Some.is

-- the steps were made, whichever cursor they went by
made : (g : Over) (c : After-is_err-p g) → HasMade g.K.Sink.taken g.K.Sink.faults (whole c.args.k.now c.args.p.now) (whole c.match-cursor.k c.match-cursor.p) c.args.n [] c.args.out.now
    c.match-cursor.out c.match-cursor.result
made g c = elim c.match-cursor.branch [
  | in-Some-cursor w ↦ rw (w.k-is, w.p-is, w.out-is, w.result-is) w.put_steps-result.ensures.made
  | in-None w ↦ rw (w.k-is, w.p-is, w.out-is, w.result-is) w.put_steps_anew-result.ensures.made
]

advanced : (g : Over) (c : After-is_err-p g) → HasAdvanced (whole c.args.k.now c.args.p.now) (record (whole c.match-cursor.k c.match-cursor.p) { broken = is_err c.match-cursor.result }) c.args.n
    (g.K.Sink.taken c.args.out.now) (g.K.Sink.taken c.match-cursor.out) c.match-cursor.result
advanced g c = advanced_made c.match-cursor.result (whole c.args.k.now c.args.p.now) (whole c.match-cursor.k c.match-cursor.p) c.args.n (g.K.Sink.taken c.args.out.now)
    (g.K.Sink.taken c.match-cursor.out) (made g c).ran

pub returns-clause-advanced : goal.returns-clause-advanced
returns-clause-advanced g c = rw c.is_err-p.ensures.value (advanced g (goal.at.returns-clause-advanced g c).After-is_err-p)

pub returns-clause-others : goal.returns-clause-others
returns-clause-others g c = others_kept (advanced g (goal.at.returns-clause-others g c).After-is_err-p)

pub returns-clause-turns : goal.returns-clause-turns
returns-clause-turns g c = (made g (goal.at.returns-clause-turns g c).After-is_err-p).turns
