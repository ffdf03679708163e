use Rattle.std.proofs.Common.{refl, ap, subst, ◌∙◌}
use Rattle.std.specs.Prelude.{not}
use Rattle.program_steps.specs.Wholes.{whole}
use Rattle.program_steps.specs.Several.{HasDone}
use Rattle.program_steps.proofs.Undue.{going_undue, done_on, done_over, none_end, some_end}
use Rattle.program_steps.proofs.step.steps.Goals as goal

pub undue_steps-count-requires : goal.undue_steps-count-requires
undue_steps-count-requires c =
    record {
      ready = going_undue c.requires.ready c.requires.placed;
      placed = c.requires.placed;
      undue = refl;
      some = c.requires.some;
      few = c.requires.few;
      cursor = c.requires.cursor;
    }

pub returns-then-count-ne1 : goal.returns-then-count-ne1
returns-then-count-ne1 c =
    let now = c.undue_steps-count in
    record {
      done = done_on c.requires.placed c.requires.untaken (λ one. absurd (c.if-count-ne1.true one)) now.ensures.done;
      most = now.ensures.most;
      cursor = now.ensures.cursor;
    }

pub returns-then-is_none : goal.returns-then-is_none
returns-then-is_none c =
    let now = c.undue_steps-count in
    let going = none_end now.new.p.end (c.is_none.ensures ∙ ap not c.if-is_none.true) in
    record {
      done = subst (λ n. HasDone (whole c.args.k.now c.args.p.now) (whole now.new.k now.new.p) n now.new.p.line) c.if-count-ne1.false
          (done_on c.requires.placed c.requires.untaken (λ one. going) now.ensures.done);
      most = c.requires.some;
      cursor = now.ensures.cursor;
    }

pub returns : goal.returns
returns c =
    let now = c.undue_steps-count in
    let ended = some_end now.new.p.end (c.is_none.ensures ∙ ap not c.if-is_none.false) in
    record {
      done = done_over (whole now.new.k now.new.p) now.result now.new.p.line c.requires.placed c.requires.untaken ended (now.ensures.ended ended) c.if-count-ne1.false now.ensures.done;
      most = c.requires.some;
      cursor = now.ensures.cursor;
    }
