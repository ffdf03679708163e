use Rattle.mote_core.proofs.NeverStops.{step_never_stops, never_stopped}
use Rattle.mote_core.proofs.mote.execute.Goals as goal

pub unreachable-requires : goal.unreachable-requires
unreachable-requires c = never_stopped _ c.in-Err.field-0 (step_never_stops _ c.args.instr.now c.args.cpu.now c.args.next_size c.requires.mapped) c.in-Err.ensures.outcome
