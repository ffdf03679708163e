use Rattle.std.proofs.Common.{◌≡◌, [], arith}
use Rattle.std.proofs.lemmas.Grind.{common_steps}
use Rattle.hex_image.proofs.TextLemmas.{behind, ended_at, read_numbered, read_all, read_end, read_fault, read_more, read_none, read_without_memory}
use Rattle.hex_image.proofs.text.read_lines.Goals as goal

pub lines-init : goal.lines-init
lines-init c = record { some = omega arith; read = read_none c.args.text.now _ c.new-reading.ensures.start }

pub returns-in-Ok-End : goal.returns-in-Ok-End
returns-in-Ok-End c =
    let read = c.lines.invariant.read in
    let step = rw c.in-Ok-End.field-0-is at (c.in-Ok-End.ensures.step (behind read.before) c.first_line.result.0.now c.judge.ensures.told read.kept) in
    record { answer = ended_at _ _ _ _ (read_end _ _ _ _ _ _ _ read c.first_line.ensures.cut step) (grind (arith, common_steps)) }

pub returns-in-Err-Fault : goal.returns-in-Err-Fault
returns-in-Err-Fault c =
    let read = c.lines.invariant.read in
    let step = rw c.in-Err-Fault.field-0-is at (c.in-Err-Fault.ensures.step (behind read.before) c.first_line.result.0.now c.judge.ensures.told read.kept) in
    record { answer = rw c.in-Err-Fault.fault-is (read_fault _ _ _ _ _ _ _ _ read c.first_line.ensures.cut (omega (arith, c.lines.invariant.some)) step) }

pub returns-in-Err-NoMemory : goal.returns-in-Err-NoMemory
returns-in-Err-NoMemory c =
    let read = c.lines.invariant.read in
    let step = rw c.in-Err-NoMemory.field-0-is at (c.in-Err-NoMemory.ensures.step (behind read.before) c.first_line.result.0.now c.judge.ensures.told read.kept) in
    record { answer = read_without_memory _ _ _ _ _ _ read c.first_line.ensures.cut step.0 step.1 }

pub lines-preserved : goal.lines-preserved
lines-preserved c =
    let read = c.lines.invariant.read in
    let step = rw c.in-Ok-Next.field-0-is at (c.in-Ok-Next.ensures.step (behind read.before) c.first_line.result.0.now c.judge.ensures.told read.kept) in
    record {
      some = grind (arith, common_steps);
      read = read_numbered _ _ _ _ _ (read_more _ _ _ _ _ _ _ read c.first_line.ensures.cut step) (grind (arith, common_steps, c.lines.invariant.some));
    }

pub returns : goal.returns
returns c =
    let empty : c.lines.rest.now ≡ [] = grind (arith, common_steps) in
    record { answer = read_all _ _ _ _ _ c.lines.invariant.read empty (omega (arith, c.lines.invariant.some)) }
