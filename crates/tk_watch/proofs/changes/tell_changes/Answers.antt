use Rattle.std.proofs.Common.{◌+◌, ℕ, List, refl, ◌∙◌, arith, inl, inr}
use Rattle.std.specs.Prelude.{slice_index}
use Rattle.std.proofs.lemmas.Bool.{cases_lt}
use Rattle.std.proofs.lemmas.Result.{err_from_is_err_and}
use Rattle.heap_frames.specs.Memory.{vmem}
use Rattle.tk_watch.specs.ChangesText.{change_text}
use Rattle.tk_watch.proofs.HeldNow.{front_next, later_next, none_changed, now_next, rows_between, size_next}
use Rattle.tk_watch.proofs.Rows.{rows_begin, rows_next, rows_cut}
use Rattle.tk_watch.proofs.changes.tell_changes.Goals as goal

pub bytes-init : goal.bytes-init
bytes-init g c =
    let memory = vmem c.args.mote.now.sram c.args.mote.now.swap in
    let row : ℕ → List ℕ = λ i. change_text c.args.step c.args.outset.pc (c.args.range.0 + i) (slice_index c.args.bytes.now i) (slice_index memory (c.args.range.0 + i)) in
    let none = rows_between row 0 c.args.outset.reach.0 (omega arith)
    (λ i above below. none_changed _ _ _ _ _ (c.requires.held i (omega (arith, below, c.requires.order, c.requires.reach)) (λ within. absurd (omega (arith, within.0, below))))) in
    record {
      from = omega arith;
      within = c.requires.order;
      sent = rw none (rows_begin row c.args.gathered.now.items (g.K.Sink.taken c.args.out.now));
      size = c.requires.size;
      now = λ j above below. absurd (omega (arith, above, below));
      front = λ j below. refl;
      later = λ j above. refl;
      faults = omega arith;
    }

pub bytes-preserved : goal.bytes-preserved
bytes-preserved g c =
    let memory = vmem c.args.mote.now.sram c.args.mote.now.swap in
    let was = c.bytes.invariant.later c.bytes.i (omega arith) in
    let value = c.memory_byte-now.ensures.value in
    record {
      from = omega (arith, c.bytes.invariant.from);
      within = omega (arith, c.bytes-test.true);
      sent = rows_next _ c.args.gathered.now.items c.bytes.i c.bytes.invariant.sent (rw (was, value) at c.in_ok-tell_byte.ensures.text);
      size = size_next c.bytes.bytes c.bytes.i c.memory_byte-now.result c.bytes.invariant.size;
      now = now_next memory c.bytes.bytes c.args.outset.reach.0 c.args.range.0 c.bytes.i c.memory_byte-now.result
          (omega (arith, c.bytes.invariant.size, c.bytes-test.true, c.requires.reach, c.requires.few)) value c.bytes.invariant.now;
      front = front_next c.bytes.bytes c.args.bytes.now c.args.outset.reach.0 c.bytes.i c.memory_byte-now.result c.bytes.invariant.from c.bytes.invariant.front;
      later = later_next c.bytes.bytes c.args.bytes.now c.bytes.i c.memory_byte-now.result c.bytes.invariant.later;
      faults = omega (arith, c.bytes.invariant.faults, c.in_ok-tell_byte.ensures.cause.later);
    }

pub returns-in_err-tell_byte-clause-text : goal.returns-in_err-tell_byte-clause-text
returns-in_err-tell_byte-clause-text g c =
    let was = c.bytes.invariant.later c.bytes.i (omega arith) in
    let failed = err_from_is_err_and c.from_residual.result c.from_residual.ensures.1 in
    rw failed.1 (rows_cut _ c.args.gathered.now.items c.bytes.i c.args.range.1 _ (omega (arith, c.bytes-test.true, c.requires.reach)) c.bytes.invariant.sent
    (rw (was, c.memory_byte-now.ensures.value) at c.in_err-tell_byte.ensures.text))

pub returns-clause-text : goal.returns-clause-text
returns-clause-text g c =
    let memory = vmem c.args.mote.now.sram c.args.mote.now.swap in
    let row : ℕ → List ℕ = λ i. change_text c.args.step c.args.outset.pc (c.args.range.0 + i) (slice_index c.args.bytes.now i) (slice_index memory (c.args.range.0 + i)) in
    let all = rows_between row c.bytes.i c.args.range.1 (omega (arith, c.bytes.invariant.within, c.requires.reach))
    (λ i above below. none_changed _ _ _ _ _ (c.requires.held i below (λ within. absurd (omega (arith, within.1, above, c.bytes-test.false))))) in
    rw all c.bytes.invariant.sent

pub returns-clause-held : goal.returns-clause-held
returns-clause-held g c = λ i below. elim (cases_lt i c.args.outset.reach.0) [
  | inl front ↦ c.bytes.invariant.front i front ∙ c.requires.held i below (λ within. absurd (omega (arith, within.0, front)))
  | inr above ↦ elim (cases_lt i c.bytes.i) [
    | inl read ↦ c.bytes.invariant.now i above read
    | inr behind ↦ c.bytes.invariant.later i behind ∙ c.requires.held i below (λ within. absurd (omega (arith, within.1, behind, c.bytes-test.false)))
  ]
]
