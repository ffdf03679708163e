use Rattle.std.proofs.Common.{◌≡◌, ℕ, ◌<◌, sym, arith, subst}
use Rattle.std.specs.Prelude.{None, Option}
use Rattle.mote_devices.specs.declared.line.Line.{Line}
use Rattle.program_steps.specs.declared.walk.Way.{Way}
use Rattle.program_steps.specs.declared.walk.Way.TheVariants.{Slow}
use Rattle.program_steps.specs.Machines.{Machine}
use Rattle.program_steps.specs.Loop.{HasPlain}
use Rattle.program_steps.specs.Wholes.{whole}
use Rattle.program_steps.specs.Walking.{with_core, end_of_way, HasWalked, IsAlong, Underway, Further, Stepped}
use Rattle.program_steps.proofs.Underway.{more_plain}
use Rattle.program_steps.proofs.Walking.{along_can, along_few, along_further}
use Rattle.program_steps.proofs.walk.fast_steps.Goals as goal

-- where the next move isn't one of the fast path
slow : {way : Way} (place : ℕ) {end : ℕ} {start now : Machine} → way ≡ Slow place → end_of_way way ≡ now.kernel.mote.cpu.pc → HasWalked way end start now
    → (place ≡ now.kernel.mote.cpu.pc) × (now.kernel.mote.cpu.pc < 0xF000) × IsAlong Underway end start now
slow place {end} {start} {now} is at gone =
    let here : place ≡ now.kernel.mote.cpu.pc = rw is at at in
    let walked : (place < 0xF000) × IsAlong Underway end start now = rw is at gone in
    (here, rw here at walked.0, walked.1)

-- a move behind moves that wrote no line
quiet_plain : {now new : Machine} {before after : Option Line} → before ≡ None → HasPlain now new before after → HasPlain now new None after
quiet_plain silent plain = rw silent at plain

pub fast_moves-requires : goal.fast_moves-requires
fast_moves-requires c =
    record {
      at = c.requires.at;
      low = c.requires.low;
      silent = c.requires.silent;
      few = c.requires.few;
      free = c.requires.free;
      can = (c.requires.along.0, c.args.k.now, record { ops = c.micro_ops-ops.ensures.all; cursor = c.requires.cursor; timely = c.keeps_timely.ensures.timely; along = c.requires.along.1 });
    }

pub plain-requires : goal.plain-requires
plain-requires c =
    let start = c.requires.along.0 in
    let now = whole (with_core c.args.k.now c.fast_moves.new.cpu c.fast_moves.new.sram) c.fast_moves.new.p in
    let gone = slow c.in-Slow.place c.in-Slow.is c.fast_moves.ensures.pc
    (c.fast_moves.ensures.gone start c.args.k.now (record { ops = c.micro_ops-ops.ensures.all; cursor = c.requires.cursor; timely = c.keeps_timely.ensures.timely; along = c.requires.along.1 })) in
    record { at = gone.0; can = along_can c.args.end start now gone.2 gone.1; small = along_few c.args.end start now gone.2 }

pub returns-in-Over-clause-along : goal.returns-in-Over-clause-along
returns-in-Over-clause-along c = λ start along.
    let now = whole (with_core c.args.k.now c.fast_moves.new.cpu c.fast_moves.new.sram) c.fast_moves.new.p in
    subst (λ (l : Option Line). IsAlong (Stepped l) c.args.end start now) (sym c.fast_moves.ensures.silent) (subst (λ (r : Way). HasWalked r c.args.end start now) c.in-Over.is
    (c.fast_moves.ensures.gone start c.args.k.now (record { ops = c.micro_ops-ops.ensures.all; cursor = c.requires.cursor; timely = c.keeps_timely.ensures.timely; along = along })))

pub returns-in-Unknown-clause-along : goal.returns-in-Unknown-clause-along
returns-in-Unknown-clause-along c = λ start along.
    let now = whole (with_core c.args.k.now c.fast_moves.new.cpu c.fast_moves.new.sram) c.fast_moves.new.p in
    subst (λ (l : Option Line). IsAlong (Further l) c.args.end start now) (sym c.fast_moves.ensures.silent) (subst (λ (r : Way). HasWalked r c.args.end start now) c.in-Unknown.is
    (c.fast_moves.ensures.gone start c.args.k.now (record { ops = c.micro_ops-ops.ensures.all; cursor = c.requires.cursor; timely = c.keeps_timely.ensures.timely; along = along })))

pub returns-in-Slow-clause-more : goal.returns-in-Slow-clause-more
returns-in-Slow-clause-more c =
    let start = c.requires.along.0 in
    let gone = slow c.in-Slow.place c.in-Slow.is c.fast_moves.ensures.pc
    (c.fast_moves.ensures.gone start c.args.k.now (record { ops = c.micro_ops-ops.ensures.all; cursor = c.requires.cursor; timely = c.keeps_timely.ensures.timely; along = c.requires.along.1 })) in
    let plain = quiet_plain c.fast_moves.ensures.silent c.plain.ensures.stepped in
    let farther = rw c.in-Slow.is at c.fast_moves.ensures.more in
    omega (arith, farther, more_plain gone.2.is plain gone.1)

pub returns-in-Slow-clause-along : goal.returns-in-Slow-clause-along
returns-in-Slow-clause-along c = λ start along.
    let now = whole (with_core c.args.k.now c.fast_moves.new.cpu c.fast_moves.new.sram) c.fast_moves.new.p in
    let gone = slow c.in-Slow.place c.in-Slow.is c.fast_moves.ensures.pc
    (c.fast_moves.ensures.gone start c.args.k.now (record { ops = c.micro_ops-ops.ensures.all; cursor = c.requires.cursor; timely = c.keeps_timely.ensures.timely; along = along })) in
    let new = whole c.plain.new.k c.plain.new.p in
    let plain = quiet_plain c.fast_moves.ensures.silent c.plain.ensures.stepped in
    along_further c.args.end start now new c.plain.new.p.line gone.2 plain gone.1 c.plain.ensures.keeps
