use Rattle.std.proofs.Common.{sym, subst}
use Rattle.std.specs.Prelude.{Ok}
use Rattle.program_steps.specs.Wholes.{whole}
use Rattle.tk_watch.specs.Watching.{HasRun}
use Rattle.tk_watch.proofs.RunsShown.{profile_run, watched_run}
use Rattle.tk_watch.proofs.showing.run.Goals as goal

pub counted_steps-requires : goal.counted_steps-requires
counted_steps-requires g c =
    let start = c.requires.start in
    let ready = start.kept.ready start.whole in
    record {
      going = start.going;
      whole = start.whole;
      ready = ready.going start.going;
      quiet = ready.quiet start.going;
      unshut = start.kept.unshut;
      begins = start.begins;
      steps = c.requires.steps;
      size = start.size;
      zero = start.zero;
    }

pub mark_places-requires : goal.mark_places-requires
mark_places-requires g c = record { size = c.requires.start.size; unmarked = c.requires.start.zero }

pub watched_steps-requires : goal.watched_steps-requires
watched_steps-requires g c =
    let start = c.requires.start in
    let ready = start.kept.ready start.whole in
    record {
      going = start.going;
      whole = start.whole;
      ready = ready.going start.going;
      quiet = ready.quiet start.going;
      unshut = start.kept.unshut;
      begins = start.begins;
      steps = c.requires.steps;
      possible = c.requires.possible;
      size = c.mark_places.ensures.size;
      marked = c.mark_places.ensures.marked;
      empty = c.requires.empty;
    }

pub returns-in-Profile-clause-run : goal.returns-in-Profile-clause-run
returns-in-Profile-clause-run g c =
    let old = whole c.args.k.now c.args.p.now in
    let new = whole c.counted_steps.new.k c.counted_steps.new.p in
    subst (λ v. HasRun v old new c.args.n c.counted_steps.new.counts c.args.gathered.now.items (g.K.Sink.taken c.args.out.now) (g.K.Sink.taken c.args.out.now) (Ok c.counted_steps.result))
    (sym c.in-Profile.is)
    (profile_run old new c.args.n c.counted_steps.new.counts c.args.gathered.now.items (g.K.Sink.taken c.args.out.now) c.counted_steps.result c.requires.empty c.counted_steps.ensures.counted)

pub returns-in_default-clause-run : goal.returns-in_default-clause-run
returns-in_default-clause-run g c = watched_run c.args.view.now _ _ c.args.n _ _ _ _ c.watched_steps.result c.in_default.not-Profile c.watched_steps.ensures.watched

pub returns-in_default-clause-size : goal.returns-in_default-clause-size
returns-in_default-clause-size g c = c.mark_places.ensures.size
