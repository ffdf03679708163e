use Rattle.std.proofs.Common.{◌≡◌, ◌++◌, length, take, false, true, Bool, refl, sym, ap, ◌∙◌, arith}
use Rattle.std.proofs.lemmas.Result.{err_from_is_err_and}
use Rattle.tk_tasks.specs.States.{Tasks}
use Rattle.tk_tasks.specs.Plays.{IsPlay, told_text}
use Rattle.tk_tasks.specs.Trying.{tried_told}
use Rattle.step_laws.proofs.Ways.{walks_on}
use Rattle.tk_tasks.proofs.Runs.{way_start, way_cut_in_turn, way_on, way_cut, still_less, room_of, quantum_some, all_ended, sent_all}
use Rattle.tk_tasks.proofs.InTurn.{turns_later, told_on_turns, counts_on, went_out_by, went_later, puts_more}
use Rattle.tk_tasks.proofs.run.put_plays.Goals as goal

pub plays-init : goal.plays-init
plays-init g c = record {
  way = way_start c.args.n c.args.t.now c.new-gathered.result.items (g.K.Sink.taken c.args.out.now) c.new-gathered.ensures;
  sound = c.requires.sound;
  whole = c.requires.unstarted.whole;
  quantum = refl;
  counted = refl;
  turns = λ turn below. absurd (omega (arith, below));
  faults = omega arith;
}

pub returns-in_err-send_in_turn-clause-put : goal.returns-in_err-send_in_turn-clause-put
returns-in_err-send_in_turn-clause-put g c =
    let failed = err_from_is_err_and c.from_residual.result c.from_residual.ensures.1 in
    rw failed.1 (way_cut_in_turn c.plays.invariant.way c.in_err-send_in_turn.ensures.text)

pub play-shown-requires-clause-room : goal.play-shown-requires-clause-room
play-shown-requires-clause-room g c = room_of c.plays.invariant.way c.requires.sound c.requires.unstarted.unchanged c.requires.steps

pub put_shown-requires-clause-quantum : goal.put_shown-requires-clause-quantum
put_shown-requires-clause-quantum g c =
    let some = quantum_some c.plays.invariant.sound c.plays.invariant.whole (λ task here. (c.goes_on.ensures.going task here).0 c.plays-test.true) in
    omega (arith, some, c.play-shown.ensures.quantum, ap (λ (u : Tasks). u.kernel.quantum) c.t.view_is)

pub plays-smaller : goal.plays-smaller
plays-smaller g c = still_less c.play-shown.ensures.played

pub plays-preserved : goal.plays-preserved
plays-preserved g c =
    let r = c.play-shown.result in
    let told = tried_told r.task r.line r.end r.steps r.crossings in
    let new = c.play-shown.new.self in
    let quantum = c.play-shown.ensures.quantum ∙ c.plays.invariant.quantum in
    record {
      way = way_on c.args.n c.args.t.now c.plays.t new c.plays.gathered.items c.send_in_turn.new.gathered.items c.put_shown.new.gathered.items (g.K.Sink.taken c.args.out.now)
          (g.K.Sink.taken c.plays.out) (g.K.Sink.taken c.send_in_turn.new.out) (g.K.Sink.taken c.put_shown.new.out)
          told r.count c.t.inside.kernel.quantum c.plays.invariant.way c.in_ok-send_in_turn.ensures.text c.play-shown.ensures.played (ap (λ (u : Tasks). u.kernel.quantum) c.t.view_is ∙ quantum)
          c.in_ok-put_shown.ensures.text;
      sound = c.play-shown.ensures.sound;
      whole = c.play-shown.ensures.whole;
      quantum = quantum;
      counted = counts_on c.plays.done r.count c.plays.invariant.way.plays c.play-shown.ensures.played.plays c.plays.invariant.counted c.play-shown.ensures.played.counted;
      turns = turns_later g.K.Sink.taken c.args.n c.args.t.now c.args.out.now c.send_in_turn.new.out c.put_shown.new.out _
          (told_on_turns g.K.Sink.taken c.args.n c.args.t.now c.plays.t new c.args.out.now c.plays.out c.send_in_turn.new.out c.plays.done r.count c.plays.gathered.items
          c.send_in_turn.new.gathered.items told c.plays.invariant.way c.plays.invariant.turns c.plays.invariant.counted
          c.in_ok-send_in_turn.ensures.text c.in_ok-send_in_turn.ensures.turn c.play-shown.ensures.played (omega (arith, c.play-shown.ensures.most, c.up_to_turn.ensures.value)))
          (_, c.in_ok-put_shown.ensures.text.appended);
      faults = omega (arith, c.plays.invariant.faults, c.in_ok-send_in_turn.ensures.cause.later, c.in_ok-put_shown.ensures.cause.later);
    }

pub returns-in_err-put_shown-clause-put : goal.returns-in_err-put_shown-clause-put
returns-in_err-put_shown-clause-put g c =
    let r = c.play-shown.result in
    let told = tried_told r.task r.line r.end r.steps r.crossings in
    let new = c.play-shown.new.self in
    let quantum = c.play-shown.ensures.quantum ∙ c.plays.invariant.quantum in
    let failed = err_from_is_err_and c.from_residual-in_err-put_shown.result c.from_residual-in_err-put_shown.ensures.1 in
    rw failed.1 (way_cut c.send_in_turn.new.gathered.items c.t.inside.kernel.quantum c.plays.invariant.way c.in_ok-send_in_turn.ensures.text c.play-shown.ensures.played
    (ap (λ (u : Tasks). u.kernel.quantum) c.t.view_is ∙ quantum)
    c.in_err-put_shown.ensures.text)

pub returns-clause-put : goal.returns-clause-put
returns-clause-put g c =
    let way = c.plays.invariant.way in
    let ended = all_ended way c.requires.sound c.plays.invariant.sound c.requires.unstarted.going
    (λ task here going. let e : ◌≡◌ {A = Bool} false true = sym c.plays-test.false ∙ (c.goes_on.ensures.going task here).1 going in cc) in
    sent_all c.send.result (g.K.Sink.taken c.send.new.out) (way, ended) c.send.ensures.text

pub returns-in_err-send_in_turn-clause-turns : goal.returns-in_err-send_in_turn-clause-turns
returns-in_err-send_in_turn-clause-turns g c =
    went_out_by g.K.Sink.taken c.args.n c.args.t.now c.plays.t c.args.out.now c.send_in_turn.new.out c.plays.invariant.way.plays c.plays.invariant.way.path
    (turns_later g.K.Sink.taken c.args.n c.args.t.now c.args.out.now c.plays.out c.send_in_turn.new.out _ c.plays.invariant.turns (_, c.in_err-send_in_turn.ensures.text.2))

pub returns-in_err-put_shown-clause-turns : goal.returns-in_err-put_shown-clause-turns
returns-in_err-put_shown-clause-turns g c =
    let r = c.play-shown.result in
    let told = tried_told r.task r.line r.end r.steps r.crossings in
    let new = c.play-shown.new.self in
    let way = c.plays.invariant.way in
    let played = c.play-shown.ensures.played in
    let turns = told_on_turns g.K.Sink.taken c.args.n c.args.t.now c.plays.t new c.args.out.now c.plays.out c.send_in_turn.new.out c.plays.done r.count c.plays.gathered.items
    c.send_in_turn.new.gathered.items told way c.plays.invariant.turns c.plays.invariant.counted
    c.in_ok-send_in_turn.ensures.text c.in_ok-send_in_turn.ensures.turn played (omega (arith, c.play-shown.ensures.most, c.up_to_turn.ensures.value)) in
    went_out_by g.K.Sink.taken c.args.n c.args.t.now new c.args.out.now c.put_shown.new.out (way.plays ++ played.plays)
    (walks_on (IsPlay c.args.n) c.args.t.now c.plays.t new way.plays played.plays way.path played.path)
    (turns_later g.K.Sink.taken c.args.n c.args.t.now c.args.out.now c.send_in_turn.new.out c.put_shown.new.out (length (way.plays ++ played.plays)) turns
    (take c.in_err-put_shown.ensures.text.0 (c.send_in_turn.new.gathered.items ++ told_text c.t.inside.kernel.quantum told), c.in_err-put_shown.ensures.text.2))

pub returns-clause-turns : goal.returns-clause-turns
returns-clause-turns g c =
    went_later g.K.Sink.taken c.args.n c.args.t.now c.plays.t c.args.out.now c.plays.out c.send.new.out
    (went_out_by g.K.Sink.taken c.args.n c.args.t.now c.plays.t c.args.out.now c.plays.out c.plays.invariant.way.plays c.plays.invariant.way.path c.plays.invariant.turns)
    (puts_more c.send.result (g.K.Sink.taken c.plays.out) (g.K.Sink.taken c.send.new.out) _ c.send.ensures.text)
