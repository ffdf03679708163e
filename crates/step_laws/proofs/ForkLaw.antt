-- A word that stands, RJMP over a stub, and the stub: what branches and skips share.
use Rattle.std.proofs.Common.{[], ℕ, ◌≡◌, ◌+◌, ◌<◌, ◌≤◌, ◌∷◌, ◌∙◌, Bool, true, false, cond, refl, ap, arith, subst}
use Rattle.std.specs.Prelude.{if◌then◌else◌, Some, None, pos}
use Rattle.avr_isa.specs.Crossing.{is_crossing}
use Rattle.avr_isa.specs.UndefinedPairs.{is_undefined}
use Rattle.avr_isa.specs.declared.form.Form.TheVariants as forms
use Rattle.avr_decode.specs.Decoding.{the_form, is_long, two_word_form, one_word_form, transfer_form, defined_form, if_defined}
use Rattle.flash_words.specs.Pages.{word_at}
use Rattle.sram_layout.specs.Bytes.{byte_at}
use Rattle.sram_layout.specs.Cells.{count_cell}
use Rattle.mote_devices.specs.State.{State as Devices}
use Rattle.mote_core.specs.declared.mote.Mote.{Mote}
use Rattle.mote_core.specs.declared.mote.Plain.TheVariants as shown
use Rattle.mote_core.specs.Conditions.{can_step}
use Rattle.mote_core.specs.Step.{form_at as form_at_mote, IsPlainStep}
use Rattle.nat_template.specs.declared.piece.Piece.TheVariants.{Fixed}
use Rattle.nat_template.specs.Stubs.{stub}
use Rattle.nat_template.specs.Templates.{passing}
use Rattle.nat_template.proofs.Sizes.{stub_size, stub_bound}
use Rattle.page_draft.specs.Standing.{size}
use Rattle.page_draft.specs.Runs.{shape_at, template_at, next_of, is_closed}
use Rattle.page_draft.proofs.PieceLaws.{size-cons}
use Rattle.flat_machine.specs.FlatMachine.{Goes, tried}
use Rattle.kernel_entry.specs.declared.kernel.Kernel.{Kernel}
use Rattle.step_laws.proofs.Stretches.{template_here, IsStretch, stretch_behind}
use Rattle.step_laws.specs.Links.{Links}
use Rattle.step_laws.specs.States.{State, mote_of, with_mote}
use Rattle.step_laws.specs.Settings.{IsIdle, IsRunning, IsSetting}
use Rattle.step_laws.specs.Walks.{MakesPlain}
use Rattle.step_laws.proofs.Onward.{Onward, by_way, onward}
use Rattle.step_laws.specs.Moves.{Plain, Within, lines_of}
use Rattle.step_laws.specs.StepLaws.{StepLaw, crossings_over}
use Rattle.step_laws.specs.Numbers.{moved}
use Rattle.step_laws.proofs.PlainLaw.{keeps_core, works_law}
use Rattle.step_laws.proofs.StubLaw.{stub_law}
use Rattle.nat_page.specs.Links.{EachLink}
use Rattle.nat_page.specs.Entered.{IsPlace}
use Rattle.kernel_entry.specs.Parts.{image_held}
use Rattle.preempt_count.specs.Counting.{count_over}
use Rattle.mote_core.specs.QuietSteps.{flash_form, IsQuiet}
use Rattle.mote_core.proofs.QuietCore.{quiet_rjmp}
use Rattle.mote_core.proofs.StepsByAnswer.{keeps_same}
use Rattle.step_laws.proofs.PlainMoves.{form_there, quiet_move}
use Rattle.kernel_entry.specs.Seen.{program, state_at}

-- the mote with this pc and these devices
abbrev at_place : Mote → (p : ℕ) → Devices → Mote
at_place m p d = record m { cpu = record m.cpu { pc = p }; devices = d }

-- what the first word does, and the instruction of the image
pub record Forks (k : Kernel) (a to p : ℕ) : Type 0 where
  pub devices : Devices
  pub can : can_step (form_at_mote k.mote) k.mote.cpu ≡ true
  pub step : IsPlainStep k.mote shown.Went (at_place k.mote p devices)
  pub polls : devices.polls ≤ k.mote.devices.polls + 1
  pub goes : (s c : ℕ) → tried (program k) (state_at k a s c) ≡ Goes None (record (state_at k to (s + 1) (crossings_over a to c)) { devices = devices })

fork_ends : (links : Links) (x : State) (a v to p : ℕ) → IsSetting links x a v → 0 < size (template_at (image_held x.kernel) a) → (f : Forks x.kernel a to p)
    → Onward 1 links (with_mote x (at_place (mote_of x) p f.devices)) to (count_over x.kernel.quantum a to (byte_at (mote_of x).sram count_cell)) (is_crossing a to) → StepLaw links x a
unfolding lines_of
fork_ends links x a v to p s some f on =
    let k = x.kernel in
    let m = k.mote in
    let y = with_mote x (at_place m p f.devices) in
    let first : MakesPlain x true None y = record {
      free = s.ready.running.free;
      going = s.ready.running.going;
      pool = rw s.at s.code.pool;
      starts = rw s.at s.code.place;
      can = f.can;
      room = s.ready.running.room;
      shown = shown.Went;
      next = at_place m p f.devices;
      step = f.step;
      written = refl;
      kept = keeps_same (mote_of x).sram;
      result = refl;
    } in
    works_law links x a to None None [] y 1 (omega arith) (record {
      walk = (y, first, refl);
      told = refl;
      stops = refl;
      serves = omega arith;
      keeps = keeps_core x (record m.cpu { pc = p }) f.devices s.ready refl s.ready.idle.top f.polls;
      polls = f.polls;
      count = refl;
      goes = f.goes;
    }) on

-- RJMP over the stub
rjmp_form : (c : Bool) (w : ℕ) → the_form (0xC000 + cond c 22 3) w ≡ Some (forms.Rjmp (pos (cond c 22 3)))
unfolding the_form is_long two_word_form one_word_form transfer_form defined_form if_defined is_undefined
rjmp_form true w = refl
rjmp_form false w = refl

rjmp : (m : Mote) (n p : ℕ) → flash_form m m.cpu.pc ≡ Some (forms.Rjmp (pos n)) → m.cpu.pc + 1 + n ≡ p → p < 65536 → IsQuiet m (record m { cpu = record m.cpu { pc = p } })
rjmp m n p is there low =
    rw there at (quiet_rjmp m m.cpu.r m.cpu.sreg m.cpu.pc m.sram n is (omega arith))

-- a move to another place, and on from there
step_on : (links : Links) (y : State) (p t c : ℕ) (crosses : Bool) → MakesPlain y false None (with_mote y (record (mote_of y) { cpu = record (mote_of y).cpu { pc = p } }))
    → Onward 0 links (with_mote y (record (mote_of y) { cpu = record (mote_of y).cpu { pc = p } })) t c crosses → Onward 1 links y t c crosses
unfolding lines_of
step_on links y p t c crosses first on =
    let same = on.left.same in
    record {
      end = on.end;
      moves = Plain None ∷ on.moves;
      walk = (with_mote y (record (mote_of y) { cpu = record (mote_of y).cpu { pc = p } }), first, on.walk);
      silent = on.silent;
      few = let few = on.few in omega arith;
      serves = on.serves;
      goes = on.goes;
      reset = λ crosses one n. on.reset crosses one (moved (Within (Plain None)) n);
      left = record {
        going = on.left.going;
        layout = on.left.layout;
        part = on.left.part;
        quantum = on.left.quantum;
        same = record { registers = same.registers; status = same.status; top = same.top; size = same.size; bytes = same.bytes; flash = same.flash; devices = same.devices; swap = same.swap };
        count = on.left.count;
        reaches = on.left.reaches;
      };
    }

-- both ways
pub fork_law : (links : Links) (x : State) (a v t : ℕ) (far : Bool) (first : ℕ) → IsSetting links x a v → is_closed (shape_at (image_held x.kernel) a) ≡ true
    → template_at (image_held x.kernel) a ≡ passing first (stub a t)
    → Forks x.kernel a (if far then t else next_of (image_held x.kernel) a) (if far then v + 2 else v + 1) → StepLaw links x a
fork_law links x a v t true first s closed template f =
    let k = x.kernel in
    let image = image_held k in
    let words = (mote_of x).flash.words in
    let way = stub a t in
    let y = with_mote x (at_place (mote_of x) (v + 2) f.devices) in
    let bound = stub_bound a t in
    let here = template_here links x a v _ s template in
    let two : size (passing first way) ≡ 2 + size way = omega (arith, size-cons (Fixed first) (Fixed (0xC000 + size way) ∷ way), size-cons (Fixed (0xC000 + size way)) way) in
    let whole : size (template_at image a) ≡ 2 + size way = ap size template ∙ two in
    let row : IsStretch k.layout words v (2 + size way) = rw two at here.row in
    let there : v + 1 + 1 ≡ v + 2 = omega arith in
    let polls = f.polls in
    let room = s.ready.bounded.polls in
    let fit = s.ready.idle in
    let free' : IsRunning y = record { free = s.ready.running.free; going = s.ready.running.going; room = omega arith } in
    let fit' : IsIdle y.kernel = record { registers = fit.registers; size = fit.size; pointer = fit.pointer; top = fit.top; some = fit.some; most = fit.most } in
    let begins : ¬ IsPlace k.layout words (v + 2) = row.inner 2 (omega arith) (omega arith) in
    fork_ends links x a v t (v + 2) s (omega arith) f (by_way 1 links y t _ _
    (stub_law links y a t (v + 2) false free' (stretch_behind k.layout words v 2 (size way) row (omega arith) (omega arith)) (rw there at here.stands.1.1)
    (subst (λ (w : ℕ). EachLink links.marks w way) there here.marks) fit' refl begins))
fork_law links x a v t false first s closed template f =
    let k = x.kernel in
    let image = image_held k in
    let words = (mote_of x).flash.words in
    let way = stub a t in
    let y = with_mote x (at_place (mote_of x) (v + 1) f.devices) in
    let bound = stub_bound a t in
    let here = template_here links x a v _ s template in
    let two : size (passing first way) ≡ 2 + size way = omega (arith, size-cons (Fixed first) (Fixed (0xC000 + size way) ∷ way), size-cons (Fixed (0xC000 + size way)) way) in
    let whole : size (template_at image a) ≡ 2 + size way = ap size template ∙ two in
    let row : IsStretch k.layout words v (2 + size way) = rw two at here.row in
    let low = row.low in
    let polls = f.polls in
    let room = s.ready.bounded.polls in
    let fit = s.ready.idle in
    let p = v + size (template_at image a) in
    let c = is_crossing a t in
    let n : size way ≡ cond c 22 3 = stub_size a t in
    let form = form_there y.kernel.mote (v + 1) (0xC000 + cond c 22 3) (word_at words (v + 1 + 1)) _ (here.stands.1.0 ∙ ap (λ n. 0xC000 + n) n, refl, omega arith)
    (rjmp_form c (word_at words (v + 1 + 1))) in
    let jumps : IsQuiet y.kernel.mote (record y.kernel.mote { cpu = record y.kernel.mote.cpu { pc = p } }) = rjmp y.kernel.mote (cond c 22 3) p form (omega arith) (omega arith) in
    let free' : IsRunning y = record { free = s.ready.running.free; going = s.ready.running.going; room = omega arith } in
    let y' = with_mote y (record (mote_of y) { cpu = record (mote_of y).cpu { pc = p } }) in
    let free'' : IsRunning y' = record { free = s.ready.running.free; going = s.ready.running.going; room = omega arith } in
    let fit' : IsIdle y'.kernel = record { registers = fit.registers; size = fit.size; pointer = fit.pointer; top = fit.top; some = fit.some; most = fit.most } in
    let move : MakesPlain y false None y' =
    quiet_move y (record (mote_of y) { cpu = record (mote_of y).cpu { pc = p } }) false free' (row.pool 1 (omega arith)) (row.inner 1 (omega arith) (omega arith)) jumps in
    let next = stub_bound a (next_of image a) in
    fork_ends links x a v (next_of image a) (v + 1) s (omega arith) f
    (step_on links y p (next_of image a) _ _ move (onward links y' image a v free'' fit' s.ready.bounded.right s.code (omega arith) (omega arith) closed refl))
