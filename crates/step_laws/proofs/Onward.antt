-- What follows behind a template: the next entry, or the closing.
use Rattle.std.proofs.Common.{[], ℕ, ◌≡◌, ◌+◌, ◌<◌, ◌≤◌, ◌∷◌, ◌∙◌, Bool, true, false, List, refl, sym, ap, arith, subst, map}
use Rattle.std.specs.Prelude.{if◌then◌else◌, None, ◌&&◌, ◌==◌}
use Rattle.avr_isa.specs.Crossing.{is_crossing}
use Rattle.sram_layout.specs.Bytes.{byte_at}
use Rattle.sram_layout.specs.Cells.{count_cell}
use Rattle.nat_template.specs.Stubs.{stub}
use Rattle.page_draft.specs.Standing.{size}
use Rattle.page_draft.specs.Runs.{template_at, closing_at, next_of, is_closed, shape_at}
use Rattle.preempt_count.specs.Counting.{count_after, count_over}
use Rattle.step_laws.proofs.Stretches.{stretch_behind, stretch_closed}
use Rattle.step_laws.specs.Links.{Links}
use Rattle.step_laws.specs.Settings.{IsIdle, IsRunning}
use Rattle.step_laws.specs.States.{State, mote_of, InPool}
use Rattle.step_laws.specs.StepLaws.{IsReset, Reaches}
use Rattle.step_laws.specs.Moves.{Inner, Plain, Within, count_plain, count_serve, count_stop, lines_of}
use Rattle.step_laws.proofs.Ways.{Reached, Way}
use Rattle.step_laws.specs.Walks.{WalkWithin}
use Rattle.step_laws.specs.Numbers.{moved}
use Rattle.step_laws.proofs.SameProgram.{same_program}
use Rattle.step_laws.proofs.StubLaw.{stub_law}
use Rattle.nat_page.specs.Entered.{IsPlace, Behind, Next, Closed, StandsIn}
use Rattle.flash_words.specs.Layouts.{IsRight}

-- a walk on to t, from any point of a template or from behind it; `more` allows for moves before it
pub record Onward (more : ℕ) (links : Links) (y : State) (t c : ℕ) (crosses : Bool) : Type 0 where
  pub end : State
  pub moves : List Inner
  pub walk : WalkWithin y moves end
  pub silent : lines_of (map Within moves) ≡ []
  pub few : count_plain moves ≤ 11 + more
  pub serves : count_serve moves ≤ 1
  pub goes : count_stop moves ≡ 0
  pub reset : IsReset y crosses moves
  pub left : Reached links y t c crosses end

pub by_way : (more : ℕ) (links : Links) (y : State) (t c : ℕ) (crosses : Bool) → Way links y false t c crosses → Onward more links y t c crosses
unfolding lines_of
by_way more links y t c crosses way = record {
  end = way.end;
  moves = Plain None ∷ way.rest;
  walk = way.walk;
  silent = way.silent;
  few = let few = way.few in omega arith;
  serves = way.serves;
  goes = way.goes;
  reset = λ crosses one n. way.reset crosses one (moved (Within (Plain None)) n);
  left = way.left;
}

onward_by : (links : Links) (y : State) (image : List ℕ) (a v : ℕ) → IsRunning y → IsIdle y.kernel → IsRight y.kernel.layout → InPool y.kernel.layout v
    → Behind links.enters links.marks y.kernel.layout image (mote_of y).flash.words a v
    → 0 < size (template_at image a) → 0 < size (stub a (next_of image a)) → is_closed (shape_at image a) ≡ true → (mote_of y).cpu.pc ≡ v + size (template_at image a)
    → Onward 0 links y (next_of image a) (count_over y.kernel.quantum a (next_of image a) (byte_at (mote_of y).sram count_cell)) (is_crossing a (next_of image a))
unfolding lines_of
onward_by links y image a v free fit right pool (Next next) some some' closed at = record {
  end = y;
  moves = [];
  walk = refl;
  silent = refl;
  few = omega arith;
  serves = omega arith;
  goes = refl;
  reset = λ crosses one n. absurd (let e = sym next.uncounted ∙ crosses in cc);
  left = record {
    going = free.going;
    layout = refl;
    part = refl;
    quantum = refl;
    same = same_program (mote_of y) fit.top;
    count = sym (ap (λ b. if b then count_after y.kernel.quantum (byte_at (mote_of y).sram count_cell) else byte_at (mote_of y).sram count_cell) next.uncounted);
    reaches = Reaches.Placed (ap (λ b. b && (byte_at (mote_of y).sram count_cell == 1)) next.uncounted) free.free (subst (links.enters (next_of image a)) (sym at) next.entry);
  };
}
onward_by links y image a v free fit right pool (Closed last) some some' closed at =
    let n = size (template_at image a) in
    let closing : closing_at image a ≡ stub a (next_of image a) = ap (λ b. if b then stub a (next_of image a) else []) closed in
    let words = (mote_of y).flash.words in
    let row' = rw closing at (stretch_closed links y.kernel.layout image words a v right pool last) in
    let begins : ¬ IsPlace y.kernel.layout words (v + n) = row'.inner n some (omega arith) in
    by_way 0 links y (next_of image a) _ _
    (stub_law links y a (next_of image a) (v + n) false free
    (stretch_behind y.kernel.layout words v n (size (stub a (next_of image a))) row' some some') (rw closing at last.closing) (rw closing at last.linked) fit at begins)

pub onward : (links : Links) (y : State) (image : List ℕ) (a v : ℕ) → IsRunning y → IsIdle y.kernel → IsRight y.kernel.layout
    → StandsIn links.enters links.marks y.kernel.layout image (mote_of y).flash.words a v
    → 0 < size (template_at image a) → 0 < size (stub a (next_of image a)) → is_closed (shape_at image a) ≡ true → (mote_of y).cpu.pc ≡ v + size (template_at image a)
    → Onward 0 links y (next_of image a) (count_over y.kernel.quantum a (next_of image a) (byte_at (mote_of y).sram count_cell)) (is_crossing a (next_of image a))
onward links y image a v free fit right code some some' closed at = onward_by links y image a v free fit right code.pool code.behind some some' closed at
