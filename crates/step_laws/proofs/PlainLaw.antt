-- A step of the program whose first moves do the instruction's work, from there on; and what is counted of moves in a row.
use Rattle.std.proofs.Common.{◌<◌, ◌≡◌, ℕ, zero, suc, ◌+◌, [], ◌∷◌, ◌++◌, Bool, true, false, List, ap, arith, refl, map, subst, ◌≤◌, ◌∙◌, length, sym}
use Rattle.step_laws.specs.Moves.{Inner, Plain, Serve, Within, count_plain, count_serve, count_stop, line_before, line_within, lines_of, plains}
use Rattle.step_laws.specs.Numbers.{moved}
use Rattle.step_laws.specs.States.{State, mote_of, with_mote}
use Rattle.step_laws.specs.StepLaws.{IsReset, Keeps, Reaches, StepLaw, Outcome as StepOutcome, crossings_over}
use Rattle.std.specs.Prelude.{max, ◌&&◌, ◌==◌, Option}
use Rattle.avr_isa.specs.Crossing.{is_crossing}
use Rattle.avr_exec.specs.declared.cpu.Cpu.{Cpu}
use Rattle.sram_layout.specs.Bytes.{byte_at}
use Rattle.sram_layout.specs.Cells.{count_cell, vsp_cell, kernel_stack_top}
use Rattle.sram_layout.specs.Regions.{place_cells, KeepsRegion}
use Rattle.heap_frames.specs.Paged.{IsPaged}
use Rattle.kernel_entry.specs.declared.kernel.Kernel.{Kernel}
use Rattle.mote_devices.specs.declared.line.Line.{Line}
use Rattle.mote_devices.specs.State.{State as Devices}
use Rattle.flat_machine.specs.FlatMachine.{Goes, tried}
use Rattle.step_laws.specs.Links.{Links}
use Rattle.step_laws.specs.Settings.{CanBegin}
use Rattle.step_laws.specs.Walks.{WalkFrom}
use Rattle.step_laws.proofs.Onward.{Onward}
use Rattle.step_laws.proofs.Ways.{Reached, from_on}
use Rattle.step_laws.proofs.SameProgram.{same_byte, flat_same, paged_after}
use Rattle.preempt_count.specs.Counting.{count_over}
use Rattle.kernel_entry.specs.Seen.{program, state_at}

pub plain_on : (front moves : List Inner) → count_plain (front ++ moves) ≡ count_plain front + count_plain moves
plain_on [] moves = omega arith
plain_on (Plain line ∷ front) moves = omega (arith, plain_on front moves)
plain_on (Serve line stops ∷ front) moves = plain_on front moves

pub serve_on : (front moves : List Inner) → count_serve (front ++ moves) ≡ count_serve front + count_serve moves
serve_on [] moves = omega arith
serve_on (Plain line ∷ front) moves = serve_on front moves
serve_on (Serve line stops ∷ front) moves = omega (arith, serve_on front moves)

pub stop_on : (front moves : List Inner) → count_stop (front ++ moves) ≡ count_stop front + count_stop moves
stop_on [] moves = omega arith
stop_on (Plain line ∷ front) moves = stop_on front moves
stop_on (Serve line true ∷ front) moves = omega (arith, stop_on front moves)
stop_on (Serve line false ∷ front) moves = stop_on front moves

pub lines_on : (front moves : List Inner) → lines_of (map Within moves) ≡ [] → lines_of (map Within (front ++ moves)) ≡ lines_of (map Within front)
unfolding lines_of
lines_on [] moves none = none
lines_on (move ∷ front) moves none = ap (line_before (line_within move)) (lines_on front moves none)

pub reset_on : (x : State) (crosses : Bool) (front moves : List Inner) → IsReset x crosses moves → IsReset x crosses (front ++ moves)
reset_on x crosses [] moves reset = reset
reset_on x crosses (move ∷ front) moves reset = λ over one n. reset_on x crosses front moves reset over one (moved (Within move) n)

-- of plain moves alone
pub plains_are : (n : ℕ) → (count_plain (plains n) ≡ n) × (count_serve (plains n) ≡ 0) × (count_stop (plains n) ≡ 0) × (lines_of (map Within (plains n)) ≡ [])
unfolding lines_of
plains_are zero = (refl, refl, refl, refl)
plains_are (suc n) = let rest = plains_are n in (ap suc rest.0, rest.1, rest.2, rest.3)

pub plains_lines : (n : ℕ) (moves : List Inner) → lines_of (map Within (plains n ++ moves)) ≡ lines_of (map Within moves)
unfolding lines_of
plains_lines zero moves = refl
plains_lines (suc n) moves = plains_lines n moves

-- what a step leaves, by what it leaves in the mote; where the core and the devices alone change; and where a way on follows
pub keeps_mote : (x z : State) → z.kernel ≡ record x.kernel { mote = mote_of z } → (mote_of z).flash ≡ (mote_of x).flash → length (mote_of z).swap ≡ length (mote_of x).swap
    → IsPaged (mote_of z).sram (mote_of z).swap
    → length (mote_of z).cpu.r ≡ length (mote_of x).cpu.r → (mote_of z).cpu.sp ≡ kernel_stack_top → (mote_of z).devices.polls ≤ max ((mote_of x).devices.polls + 1) 4294967295
    → KeepsRegion place_cells (mote_of x).sram (mote_of z).sram → byte_at (mote_of z).sram vsp_cell < 256 → Keeps x z
keeps_mote x z same flash slots paged registers top polls tables pointer = record {
  layout = ap (λ (k : Kernel). k.layout) same;
  part = ap (λ (k : Kernel). k.part) same;
  quantum = ap (λ (k : Kernel). k.quantum) same;
  flash = flash;
  slots = slots;
  paged = paged;
  registers = registers;
  top = top;
  polls = polls;
  tables = tables;
  pointer = pointer;
}

pub keeps_core : (x : State) (cpu : Cpu) (devices : Devices) → CanBegin x → length cpu.r ≡ length (mote_of x).cpu.r → cpu.sp ≡ kernel_stack_top → devices.polls ≤ (mote_of x).devices.polls + 1
    → Keeps x (with_mote x (record (mote_of x) { cpu = cpu; devices = devices }))
keeps_core x cpu devices ready registers top polls =
    keeps_mote x (with_mote x (record (mote_of x) { cpu = cpu; devices = devices })) refl refl refl ready.paged registers top (omega arith) (λ b low high. refl) ready.idle.pointer

pub keeps_on : (links : Links) (x y z : State) (t c : ℕ) (b : Bool) → Keeps x y → Reached links y t c b z → Keeps x z
keeps_on links x y z t c b first left = record {
  layout = left.layout ∙ first.layout;
  part = left.part ∙ first.part;
  quantum = left.quantum ∙ first.quantum;
  flash = left.same.flash ∙ first.flash;
  slots = ap length left.same.swap ∙ first.slots;
  paged = paged_after (mote_of y) (mote_of z) left.same first.paged;
  registers = ap length left.same.registers ∙ first.registers;
  top = left.same.top;
  polls = let polls = first.polls in omega (arith, ap (λ d. d.polls) left.same.devices);
  tables = λ b low high. same_byte left.same b (omega arith) ∙ first.tables b low high;
  pointer = let pointer = first.pointer in omega (arith, same_byte left.same vsp_cell (omega arith));
}

-- The first moves lead to y, and stop nothing: the original program has made its step to this address, with this line.
pub record Works (x : State) (a to : ℕ) (line first : Option Line) (front : List Inner) (y : State) : Type 0 where
  pub walk : WalkFrom x true first front y
  pub told : line_before first (lines_of (map Within front)) ≡ line_before line []
  pub stops : count_stop front ≡ 0
  pub serves : count_serve front ≤ 1
  pub keeps : Keeps x y
  pub polls : (mote_of y).devices.polls ≤ (mote_of x).devices.polls + 1
  pub count : byte_at (mote_of y).sram count_cell ≡ byte_at (mote_of x).sram count_cell
  pub goes : (s c : ℕ) → tried (program x.kernel) (state_at x.kernel a s c) ≡ Goes line (state_at y.kernel to (s + 1) (crossings_over a to c))

pub works_law : (links : Links) (x : State) (a to : ℕ) (line first : Option Line) (front : List Inner) (y : State) (more : ℕ) → count_plain front + more ≤ 28 → Works x a to line first front y
    → Onward more links y to (count_over x.kernel.quantum a to (byte_at (mote_of y).sram count_cell)) (is_crossing a to) → StepLaw links x a
works_law links x a to line first front y more low f on = record {
  end = on.end;
  first = first;
  rest = front ++ on.moves;
  line = line;
  walk = from_on x y on.end true first front on.moves f.walk on.walk;
  few = let few = on.few in omega (arith, plain_on front on.moves);
  serves = let before = f.serves in let serves = on.serves in omega (arith, serve_on front on.moves);
  lines = ap (line_before first) (lines_on front on.moves on.silent) ∙ f.told;
  keeps = keeps_on links x y on.end to _ _ f.keeps on.left;
  outcome = StepOutcome.Went to (record {
    wakes = false;
    silent = λ e. absurd (cc);
    fresh = λ e. absurd (cc);
    polls = λ e. let polls = f.polls in omega (arith, ap (λ d. d.polls) on.left.same.devices);
    going = on.left.going;
    original = λ s c. f.goes s c ∙ ap (Goes line) (sym (flat_same y.kernel on.end.kernel to (s + 1) (crossings_over a to c) on.left.same));
    reaches = subst (λ c. Reaches links to (is_crossing a to && (c == 1)) on.end) f.count on.left.reaches;
    count = on.left.count ∙ ap (λ c. count_over x.kernel.quantum a to c) f.count;
    unstopped = omega (arith, stop_on front on.moves, f.stops, on.goes);
    reset = reset_on x (is_crossing a to) front on.moves (λ crosses one. on.reset crosses (f.count ∙ one));
  });
}
