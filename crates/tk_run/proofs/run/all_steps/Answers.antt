use Rattle.std.proofs.Common.{sym, ◌∙◌, ◌≡◌, ◌+◌, ◌-◌, ◌%◌, ◌++◌, [], refl, arith}
use Rattle.std.proofs.lemmas.Result.{err_from_is_err_and}
use Rattle.std.specs.Prelude.{Some, None}
use Rattle.byte_streams.proofs.KnownBytes.{appends-nothing}
use Rattle.printed_text.specs.Gathering.{turn_steps}
use Rattle.printed_text.proofs.Gathered.{sent_on, cut_on}
use Rattle.printed_text.specs.DeviceLines.{lines_text}
use Rattle.step_laws.specs.Moves.{line_before}
use Rattle.program_steps.specs.Wholes.{whole}
use Rattle.program_steps.proofs.Owning.{open_admits}
use Rattle.program_steps.proofs.TakingLaws.{untaken_of}
use Rattle.program_steps.proofs.Told.{cursor_same}
use Rattle.tk_run.specs.InTurn.{GoOutInTurn}
use Rattle.tk_run.proofs.RunSoFar.{unshut_on}
use Rattle.tk_run.proofs.Advancing.{IsIn, can_step, advanced_enter, is_in, advanced_stop, advanced_bound, advanced_cut, advanced_failed}
use Rattle.tk_run.proofs.Gathered.{IsUnderWay, take_in, take_on, under_way, turn_on, turn_cut, last_in, last_below, steps_on}
use Rattle.tk_run.proofs.InTurn.{turns_later, turns_on, turns_left, stepped_counts, done_counts, bound_counts}
use Rattle.tk_run.proofs.run.all_steps.Given.{Over}
use Rattle.tk_run.proofs.run.all_steps.Goals.{In_ok-send_in_turn, After-steps-done}
use Rattle.tk_run.proofs.run.all_steps.Goals as goal

-- the run up to this step, behind what went out in turn
way_at : (g : Over) (c : In_ok-send_in_turn g) → IsUnderWay (whole c.args.k.now c.args.p.now) (whole c.steps.k c.steps.p) c.steps.done c.send_in_turn.new.gathered.items
    (g.K.Sink.taken c.args.out.now) (g.K.Sink.taken c.send_in_turn.new.out)
way_at g c = turn_on c.send_in_turn.new.gathered.items _ c.steps.invariant.way c.in_ok-send_in_turn.ensures.text

turns_at : (g : Over) (c : In_ok-send_in_turn g) → GoOutInTurn g.K.Sink.taken (whole c.args.k.now c.args.p.now) c.args.out.now c.send_in_turn.new.out
    (c.steps.done + (turn_steps - c.steps.done % turn_steps))
turns_at g c =
    turns_on g.K.Sink.taken (whole c.args.k.now c.args.p.now) (whole c.steps.k c.steps.p) c.args.out.now c.steps.out c.send_in_turn.new.out c.steps.done _ c.send_in_turn.new.gathered.items
    c.steps.invariant.turns c.in_ok-send_in_turn.ensures.text (way_at g c) c.in_ok-send_in_turn.ensures.turn

pub steps-init : goal.steps-init
steps-init g c = record {
  way = under_way c.args.gathered.now.items (g.K.Sink.taken c.args.out.now) c.requires.may.ready c.requires.may.quiet c.requires.empty;
  cursor = c.requires.cursor;
  turns = λ turn below. absurd (omega (arith, below));
  within = omega arith;
  faults = omega arith;
}

pub enter-requires-clause-untaken : goal.enter-requires-clause-untaken
enter-requires-clause-untaken g c = untaken_of (whole c.steps.k c.steps.p) (sym c.must_take.ensures.value ∙ c.if-must_take.false)

pub enter-requires-clause-steps : goal.enter-requires-clause-steps
enter-requires-clause-steps g c = omega (arith, c.steps.invariant.way.between.ran.steps, c.steps.invariant.within, c.requires.may.steps)

pub enter-requires-clause-admitted : goal.enter-requires-clause-admitted
enter-requires-clause-admitted g c = open_admits c.steps.k.part c.steps.p.at (unshut_on c.steps.invariant.way.between.ran.stays c.requires.may.unshut)

pub take-requires-clause-wanted : goal.take-requires-clause-wanted
take-requires-clause-wanted g c = sym c.must_take.ensures.value ∙ c.if-must_take.true

pub steps-done-requires-clause-ready : goal.steps-done-requires-clause-ready
steps-done-requires-clause-ready g c = (can_step (whole c.steps.k c.steps.p) (whole c.enter.new.k c.enter.new.p) c.enter.result c.enter.ensures.entered c.in_default-enter.is).ready

pub steps-done-requires-clause-placed : goal.steps-done-requires-clause-placed
steps-done-requires-clause-placed g c = (can_step (whole c.steps.k c.steps.p) (whole c.enter.new.k c.enter.new.p) c.enter.result c.enter.ensures.entered c.in_default-enter.is).placed

pub steps-done-requires-clause-untaken : goal.steps-done-requires-clause-untaken
steps-done-requires-clause-untaken g c = (can_step (whole c.steps.k c.steps.p) (whole c.enter.new.k c.enter.new.p) c.enter.result c.enter.ensures.entered c.in_default-enter.is).untaken

pub at_bound-requires-clause-steps : goal.at_bound-requires-clause-steps
at_bound-requires-clause-steps g c = omega (arith, c.steps.invariant.way.between.ran.steps, c.steps.invariant.within, c.requires.may.steps)

pub at_bound-requires-clause-unshut : goal.at_bound-requires-clause-unshut
at_bound-requires-clause-unshut g c = unshut_on c.steps.invariant.way.between.ran.stays c.requires.may.unshut

-- What was gathered could not be put in turn.
pub returns-in_err-send_in_turn : goal.returns-in_err-send_in_turn
returns-in_err-send_in_turn g c =
    let old = whole c.args.k.now c.args.p.now in
    let way = c.steps.invariant.way in
    let may = c.requires.may in
    let failed = err_from_is_err_and c.from_residual.result c.from_residual.ensures.1 in
    rw failed.1 (record {
      made = record {
        ran = advanced_cut c.args.n failed.0 may.going may.whole (omega (arith, c.steps-test.true)) way.between
            (turn_cut old (whole c.steps.k c.steps.p) c.steps.done c.steps.gathered.items _ way c.in_err-send_in_turn.ensures.text);
        turns = turns_left g.K.Sink.taken old c.args.out.now c.steps.out c.send_in_turn.new.out c.steps.done c.steps.p.steps c.steps.invariant.turns (_, c.in_err-send_in_turn.ensures.text.2)
            (omega (arith, way.between.ran.steps));
        cause = record {
          later = omega (arith, c.steps.invariant.faults, c.send_in_turn.ensures.cause.later);
          failed = omega (arith, c.steps.invariant.faults, c.in_err-send_in_turn.ensures.cause.failed);
        };
      };
    })

-- An interrupt is taken.
pub steps-preserved-then-must_take : goal.steps-preserved-then-must_take
steps-preserved-then-must_take g c =
    let now = whole c.steps.k c.steps.p in
    let sent = (goal.at.steps-preserved-then-must_take g c).In_ok-send_in_turn in
    record {
      way = take_on (way_at g sent) (sym c.must_take.ensures.value ∙ c.if-must_take.true) c.take.ensures.stepped (sym c.take.ensures.end ∙ c.in_default.is);
      cursor = cursor_same now (whole c.take.new.k c.take.new.p) c.steps.cursor c.take.ensures.layout c.take.ensures.flash c.steps.invariant.cursor;
      turns = λ turn below. turns_at g sent turn (omega (arith, below));
      within = omega (arith, c.steps-test.true);
      faults = omega (arith, c.steps.invariant.faults, c.in_ok-send_in_turn.ensures.cause.later);
    }

pub returns-in-Some : goal.returns-in-Some
returns-in-Some g c =
    let old = whole c.args.k.now c.args.p.now in
    let now = whole c.steps.k c.steps.p in
    let may = c.requires.may in
    let sent = (goal.at.returns-in-Some g c).In_ok-send_in_turn in
    let way = way_at g sent in
    record {
      made = record {
        ran = record {
          text = way.text;
          advanced = advanced_stop old now (whole c.take.new.k c.take.new.p) c.steps.done c.args.n None c.in-Some.end (Some []) (Some way.text) (Some way.text) may.going may.whole c.steps-test.true
              (take_in old now c.steps.done (Some []) (Some way.text) way.between (sym c.must_take.ensures.value ∙ c.if-must_take.true)) c.take.ensures.stepped c.take.ensures.stepped.way
              (appends-nothing (Some way.text)) (sym c.take.ensures.end ∙ c.in-Some.is);
          sent = way.sent;
        };
        turns = turns_left g.K.Sink.taken old c.args.out.now c.send_in_turn.new.out _ _ c.take.new.p.steps (turns_at g sent) ([], appends-nothing (g.K.Sink.taken c.send_in_turn.new.out))
            (omega (arith, c.steps.invariant.way.between.ran.steps, stepped_counts c.take.ensures.stepped));
        cause = record { later = omega (arith, c.steps.invariant.faults, c.in_ok-send_in_turn.ensures.cause.later); failed = tt };
      };
    }

-- The arrival ends the run.
pub returns-in-Some-enter : goal.returns-in-Some-enter
returns-in-Some-enter g c =
    let old = whole c.args.k.now c.args.p.now in
    let may = c.requires.may in
    let way = way_at g (goal.at.returns-in-Some-enter g c).In_ok-send_in_turn in
    record {
      made = record {
        ran = record {
          text = way.text;
          advanced = advanced_enter old (whole c.steps.k c.steps.p) (whole c.enter.new.k c.enter.new.p) c.steps.done c.args.n (Some []) (Some way.text) c.enter.result c.in-Some-enter.end may.going
              may.whole c.steps-test.true way.between c.enter.ensures.entered c.enter.ensures.entered.way c.in-Some-enter.is;
          sent = way.sent;
        };
        turns = turns_left g.K.Sink.taken old c.args.out.now c.steps.out c.send_in_turn.new.out c.steps.done c.enter.new.p.steps c.steps.invariant.turns (_, c.in_ok-send_in_turn.ensures.text.appended)
            (omega (arith, c.steps.invariant.way.between.ran.steps, c.enter.ensures.entered.steps));
        cause = record { later = omega (arith, c.steps.invariant.faults, c.in_ok-send_in_turn.ensures.cause.later); failed = tt };
      };
    }

-- Steps are made.
in_at : (g : Over) (c : After-steps-done g) → IsIn (whole c.args.k.now c.args.p.now) (whole c.enter.new.k c.enter.new.p) c.steps.done (Some [])
    (Some (way_at g (goal.at.After-steps-done g c).In_ok-send_in_turn).text)
in_at g c = is_in (whole c.args.k.now c.args.p.now) (whole c.steps.k c.steps.p) (whole c.enter.new.k c.enter.new.p) c.steps.done _ _ c.enter.result
    (way_at g (goal.at.After-steps-done g c).In_ok-send_in_turn).between c.enter.ensures.entered c.in_default-enter.is

pub steps-preserved : goal.steps-preserved
steps-preserved g c =
    let old = whole c.args.k.now c.args.p.now in
    let sent = (goal.at.steps-preserved g c).In_ok-send_in_turn in
    let way = way_at g sent in
    record {
      way = steps_on c.gather.new.gathered.items _
          (in_at g (goal.at.steps-preserved g c).After-steps-done) c.steps-done.ensures.done c.in_default-end.is way.sent c.in_ok-gather.ensures.text;
      cursor = c.steps-done.ensures.cursor;
      turns = λ turn below. turns_later g.K.Sink.taken old c.args.out.now c.send_in_turn.new.out c.gather.new.out _ (turns_at g sent) (_, c.in_ok-gather.ensures.text.appended) turn
          (omega (arith, below, c.steps-done.ensures.most, c.min.ensures, c.up_to_turn.ensures.value));
      within = omega (arith, c.steps-done.ensures.most, c.min.ensures, c.steps.invariant.within);
      faults = omega (arith, c.steps.invariant.faults, c.in_ok-send_in_turn.ensures.cause.later, c.in_ok-gather.ensures.cause.later);
    }

pub returns-in_err-gather : goal.returns-in_err-gather
returns-in_err-gather g c =
    let old = whole c.args.k.now c.args.p.now in
    let mid = whole c.enter.new.k c.enter.new.p in
    let new = whole c.steps-done.new.k c.steps-done.new.p in
    let line = c.steps-done.new.p.line in
    let done = c.steps-done.ensures.done in
    let may = c.requires.may in
    let sent = (goal.at.returns-in_err-gather g c).In_ok-send_in_turn in
    let way = way_at g sent in
    let now = in_at g (goal.at.returns-in_err-gather g c).After-steps-done in
    let last = last_in new c.steps-done.result line now done in
    let below = last_below mid new c.steps.done c.steps-done.result c.args.n line done (omega (arith, c.steps-done.ensures.most, c.min.ensures, c.steps.invariant.within)) in
    let failed = err_from_is_err_and c.from_residual-in_err-gather.result c.from_residual-in_err-gather.ensures.1 in
    rw failed.1 (record {
      made = record {
        ran = advanced_failed c.args.n failed.0 may.going may.whole below last done.step done.step.way c.in_err-gather.ensures.line
            (cut_on way.text c.send_in_turn.new.gathered.items (lines_text (line_before line [])) _ _ _ way.sent c.in_err-gather.ensures.text);
        turns = turns_left g.K.Sink.taken old c.args.out.now c.send_in_turn.new.out c.gather.new.out _ c.steps-done.new.p.steps (turns_at g sent) (_, c.in_err-gather.ensures.text.2)
            (omega (arith, done_counts now done, c.steps-done.ensures.most, c.min.ensures, c.up_to_turn.ensures.value));
        cause = record {
          later = omega (arith, c.steps.invariant.faults, c.in_ok-send_in_turn.ensures.cause.later, c.in_err-gather.ensures.cause.later);
          failed = omega (arith, c.steps.invariant.faults, c.in_ok-send_in_turn.ensures.cause.later, c.in_err-gather.ensures.cause.failed);
        };
      };
    })

pub returns-in-Some-end : goal.returns-in-Some-end
returns-in-Some-end g c =
    let old = whole c.args.k.now c.args.p.now in
    let mid = whole c.enter.new.k c.enter.new.p in
    let new = whole c.steps-done.new.k c.steps-done.new.p in
    let line = c.steps-done.new.p.line in
    let done = c.steps-done.ensures.done in
    let may = c.requires.may in
    let sent = (goal.at.returns-in-Some-end g c).In_ok-send_in_turn in
    let way = way_at g sent in
    let now = in_at g (goal.at.returns-in-Some-end g c).After-steps-done in
    let last = last_in new c.steps-done.result line now done in
    let below = last_below mid new c.steps.done c.steps-done.result c.args.n line done (omega (arith, c.steps-done.ensures.most, c.min.ensures, c.steps.invariant.within)) in
    let text = lines_text (line_before line []) in
    record {
      made = record {
        ran = record {
          text = way.text ++ text;
          advanced = advanced_stop old done.last new (c.steps.done + done.earlier) c.args.n line c.in-Some-end.end (Some []) (Some way.text) (Some (way.text ++ text)) may.going may.whole below last
              done.step done.step.way refl c.in-Some-end.is;
          sent = sent_on way.text c.send_in_turn.new.gathered.items text c.gather.new.gathered.items _ _ _ way.sent c.in_ok-gather.ensures.text;
        };
        turns = turns_left g.K.Sink.taken old c.args.out.now c.send_in_turn.new.out c.gather.new.out _ c.steps-done.new.p.steps (turns_at g sent) (_, c.in_ok-gather.ensures.text.appended)
            (omega (arith, done_counts now done, c.steps-done.ensures.most, c.min.ensures, c.up_to_turn.ensures.value));
        cause = record { later = omega (arith, c.steps.invariant.faults, c.in_ok-send_in_turn.ensures.cause.later, c.in_ok-gather.ensures.cause.later); failed = tt };
      };
    }

-- All steps are made.
pub returns : goal.returns
returns g c =
    let old = whole c.args.k.now c.args.p.now in
    let now = whole c.steps.k c.steps.p in
    let new = whole c.at_bound.new.k c.at_bound.new.p in
    let may = c.requires.may in
    let way = c.steps.invariant.way in
    let done : c.steps.done ≡ c.args.n = omega (arith, c.steps-test.false, c.steps.invariant.within) in
    record {
      made = record {
        ran = record {
          text = way.text;
          advanced = advanced_bound old now new c.args.n (Some []) (Some way.text) c.at_bound.result may.going may.whole (rw done at way.between) c.at_bound.ensures.bound;
          sent = way.sent;
        };
        turns = turns_left g.K.Sink.taken old c.args.out.now c.steps.out c.steps.out c.steps.done c.at_bound.new.p.steps c.steps.invariant.turns ([], appends-nothing (g.K.Sink.taken c.steps.out))
            (omega (arith, way.between.ran.steps, bound_counts now new c.at_bound.result c.at_bound.ensures.bound));
        cause = record { later = c.steps.invariant.faults; failed = tt };
      };
    }
