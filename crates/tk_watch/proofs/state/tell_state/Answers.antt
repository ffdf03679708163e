use Rattle.std.proofs.Common.{◌≡◌, ℕ, ◌++◌, List, ap, subst, ◌∙◌}
use Rattle.std.specs.Prelude.{count_by, slice_index}
use Rattle.std.proofs.lemmas.Result.{err_from_is_err_and}
use Rattle.byte_streams.specs.Streams.{CutShort, IsSent}
use Rattle.heap_frames.specs.Frames.{pages}
use Rattle.kernel_entry.specs.Parts.{virtual_sp}
use Rattle.printed_text.proofs.Gathered.{cut_first, gathers_on}
use Rattle.mote_devices.specs.State.{stored, mask_address}
use Rattle.program_steps.specs.Machines.{Machine}
use Rattle.program_steps.specs.Wholes.{whole}
use Rattle.tk_watch.specs.Rows.{rows}
use Rattle.tk_watch.specs.StateText.{core_text, counts_text, register_text, requests_text, taken_of}
use Rattle.tk_watch.proofs.state.tell_state.Goals as goal

abbrev core_of : Machine → List ℕ
core_of m = core_text m.at (virtual_sp m.kernel) m.kernel.mote.cpu.sreg

abbrev behind_of : (slots events : ℕ) → Machine → List ℕ
behind_of slots events m =
    rows (λ n. register_text n (slice_index m.kernel.mote.cpu.r n)) 32
    ++ (counts_text m.kernel.mote.devices.polls (taken_of events m.kernel.mote.devices) events (count_by (λ has. has) (pages m.kernel.mote.sram)) slots
    ++ requests_text (stored m.kernel.mote.devices mask_address) m.kernel.mote.devices.received.pending m.kernel.mote.flash.ops)

pub returns-in_err-add-clause-text : goal.returns-in_err-add-clause-text
returns-in_err-add-clause-text g c =
    let m = whole c.args.k.now c.args.p.now in
    let core : c.core_text-core.result.items ≡ core_of m = c.core_text-core.ensures.text ∙ ap (λ sp. core_text m.at sp m.kernel.mote.cpu.sreg) c.vsp.ensures.value in
    let old = c.args.gathered.now.items in
    let before = g.K.Sink.taken c.args.out.now in
    let after = g.K.Sink.taken c.add.new.out in
    let failed = err_from_is_err_and c.from_residual.result c.from_residual.ensures.1 in
    rw failed.1 (cut_first old (core_of m) (behind_of c.args.bounds.slots c.args.bounds.events m) before after (subst (λ t. CutShort before after (old ++ t)) core c.in_err-add.ensures.text))

pub returns-clause-text : goal.returns-clause-text
returns-clause-text g c =
    let m = whole c.args.k.now c.args.p.now in
    let core : c.core_text-core.result.items ≡ core_of m = c.core_text-core.ensures.text ∙ ap (λ sp. core_text m.at sp m.kernel.mote.cpu.sreg) c.vsp.ensures.value in
    let old = c.args.gathered.now.items in
    let mid = c.add.new.gathered.items in
    let rest = c.tell_registers_and_counts.new.gathered.items in
    let before = g.K.Sink.taken c.args.out.now in
    let after = g.K.Sink.taken c.add.new.out in
    let later = g.K.Sink.taken c.tell_registers_and_counts.new.out in
    gathers_on c.tell_registers_and_counts.result old mid rest (core_of m) (behind_of c.args.bounds.slots c.args.bounds.events m) before after later
    (subst (λ t. IsSent (old ++ t) mid before after) core c.in_ok-add.ensures.text) c.tell_registers_and_counts.ensures.text
