-- The way through a stub, from where it stands: through a link by the bridge or the resolved jump, and through a crossing
-- stub by its link, or by the end of the quantum.
use Rattle.std.proofs.Common.{[], ℕ, ◌≡◌, ◌+◌, ◌∷◌, ◌∙◌, Bool, false, refl, ap, arith, inl, inr, ◌-◌, ◌%◌, ◌<◌, ◌≤◌, ◌++◌, true, List, length, sym, subst, map}
use Rattle.std.specs.Prelude.{Some, None, ◌==◌, if◌then◌else◌, slice_set}
use Rattle.avr_isa.specs.declared.form.Form.TheVariants as forms
use Rattle.flash_words.specs.Pages.{word_at}
use Rattle.sram_layout.specs.Bytes.{byte_at, with_byte}
use Rattle.sram_layout.specs.Cells.{count_cell, r24_cell, sreg_cell, vsp_cell}
use Rattle.nat_template.specs.declared.piece.Piece.TheVariants.{Link, Fixed}
use Rattle.page_draft.specs.Standing.{Stands, jump_word, size}
use Rattle.mote_core.specs.declared.mote.Mote.{Mote}
use Rattle.step_laws.specs.States.{Begins, InPool, State, mote_of, with_mote}
use Rattle.step_laws.specs.Links.{Links}
use Rattle.step_laws.specs.Settings.{IsIdle, IsRunning}
use Rattle.step_laws.proofs.Stretches.{IsStretch, stretch_behind}
use Rattle.step_laws.specs.Walks.{MakesPlain, MakesServe, WalkFrom}
use Rattle.step_laws.specs.Moves.{Serve, count_plain, lines_of, Plain, plains}
use Rattle.step_laws.specs.StepLaws.{Reaches}
use Rattle.step_laws.proofs.SameProgram.{SameProgram, same_on, same_sram}
use Rattle.step_laws.proofs.Ways.{Way, from_on}
use Rattle.step_laws.proofs.KernelCalls.{bridge_move, call_move, owing, pushed, pushed_address, pushed_kept, pushed_size, quantum_move, quantum_state, running_at}
use Rattle.step_laws.proofs.PlainMoves.{jmp_form, form_there, quiet_move, passes_walk}
use Rattle.nat_page.specs.Links.{EachLink}
use Rattle.kernel_entry.specs.Parts.{rested}
use Rattle.mote_core.specs.QuietSteps.{flash_form, held}
use Rattle.mote_core.proofs.QuietCore.{quiet_jmp}
use Rattle.std.proofs.lemmas.List.{set-get_or, set-set}
use Rattle.std.proofs.lemmas.Bool.Decides.{nat_tests}
use Rattle.avr_exec.specs.Registers.{register}
use Rattle.flash_words.specs.declared.layout.Layout.{Layout}
use Rattle.sram_layout.proofs.Laws.{byte_same, length-with_byte}
use Rattle.nat_template.specs.Stubs.{call_word, count_down, stub, crossing_stub, service, quantum_entry}
use Rattle.preempt_count.specs.Counting.{count_after, count_over}
use Rattle.inline_laws.specs.InlineWays.{Passes}
use Rattle.inline_laws.specs.Rows.{Row}
use Rattle.inline_laws.proofs.Cells.{byte_apart}
use Rattle.step_laws.proofs.CountDown.{away_size, count_read, counted_down, down_kept, down_size, first_step, lowered_of, on_passes, over_passes, put_away, r24_away, r24_read, sreg_read, taken_is}
use Rattle.step_laws.proofs.BoundLaws.{not_one}
use Rattle.step_laws.specs.Numbers.{moved}
use Rattle.avr_isa.specs.Crossing.{is_crossing}
use Rattle.avr_isa.specs.Encoding.{second_word}
use Rattle.avr_isa.specs.Instruction.{is_valid, fields_in_range}
use Rattle.avr_isa.specs.UndefinedPairs.{is_undefined}
use Rattle.nat_template.specs.Words.{words_of_forms}
use Rattle.step_laws.proofs.InlineRows.{fixed_stand, row_stands}
use Rattle.nat_page.proofs.LinkLaws.{each_link_split}

-- one plain move, and behind it at most the service BRIDGE
pub link_law : (links : Links) (x : State) (w t : ℕ) (b : Bool) → IsRunning x → IsStretch x.kernel.layout (mote_of x).flash.words w 3 → Stands links.enters (mote_of x).flash.words w (Link t ∷ [])
    → EachLink links.marks w (Link t ∷ []) → IsIdle x.kernel → (mote_of x).cpu.pc ≡ w
    → Begins x.kernel.layout (mote_of x).flash.words w b → (way : Way links x b t (byte_at (mote_of x).sram count_cell) false) × (count_plain way.rest ≡ 0)
unfolding lines_of
link_law links x w t b free row stands marks fit is starts =
    let m = mote_of x in
    let here : w + 0 ≡ w = omega arith in
    let pool : InPool x.kernel.layout w = rw here at (row.pool 0 (omega arith)) in
    elim stands.0.0 [
      | inl bridge ↦ (
          let called : State = with_mote x (record m { cpu = record m.cpu { sp = 0x011D; pc = 0xF000 }; sram = pushed m.sram (w + 2) }) in
          let first : MakesPlain x b None called = call_move x w 0xF000 b free is pool (omega arith) starts bridge.0 bridge.1 fit.top in
          let served : MakesServe called None false (owing (rested called.kernel) t (Some w) false) =
          bridge_move called w t (running_at x _ _ free) refl (omega arith) (pushed_address m.sram (w + 2) fit.size) stands.0.1 in (
            record {
              end = owing (rested called.kernel) t (Some w) false;
              rest = Serve None false ∷ [];
              walk = (called, first, (owing (rested called.kernel) t (Some w) false, served, refl));
              silent = refl;
              few = omega arith;
              serves = omega arith;
              goes = refl;
              reset = λ crosses one n. absurd (cc);
              left = record {
                going = refl;
                layout = refl;
                part = refl;
                quantum = refl;
                same = same_sram m 0x011F 0xF000 (pushed m.sram (w + 2)) refl (pushed_size m.sram (w + 2)) (λ b apart. pushed_kept m.sram (w + 2) b (omega arith));
                count = pushed_kept m.sram (w + 2) count_cell (omega arith);
                reaches = Reaches.Owing (Some w) (λ e. absurd (cc)) refl (record { mark = marks.0; call = bridge.0; bridge = bridge.1 });
              };
            },
            refl,
          ))
      | inr jump ↦ (
          let place = word_at m.flash.words (w + 1) in
          let next : Mote = record m { cpu = record m.cpu { pc = place } } in
          let form : flash_form m m.cpu.pc ≡ Some (forms.Jmp place) = ap (flash_form m) is ∙ form_there m w jump_word place (Some (forms.Jmp place)) (jump.0, refl, omega arith) (jmp_form place) in
          let first : MakesPlain x b None (with_mote x next) = quiet_move x next b free (rw is pool) (rw is starts) (quiet_jmp m m.cpu.r m.cpu.sreg m.cpu.pc m.sram place form) in (
            record {
              end = with_mote x next;
              rest = [];
              walk = (with_mote x next, first, refl);
              silent = refl;
              few = omega arith;
              serves = omega arith;
              goes = refl;
              reset = λ crosses one n. absurd (cc);
              left = record {
                going = free.going;
                layout = refl;
                part = refl;
                quantum = refl;
                same = same_sram m m.cpu.sp place m.sram fit.top refl (λ b apart. refl);
                count = refl;
                reaches = Reaches.Placed refl free.free jump.1;
              };
            },
            refl,
          ))
    ]

-- a crossing stub to t, 22 words at w
pub record CrossingStub (links : Links) (layout : Layout) (words : List ℕ) (w t : ℕ) : Type 0 where
  pub row : IsStretch layout words w 22
  pub forms : Row words w count_down
  pub stands : Stands links.enters words (w + 16) (Link t ∷ [])
  pub marks : EachLink links.marks (w + 16) (Link t ∷ [])
  pub call : word_at words (w + 19) ≡ call_word
  pub entry : word_at words (w + 20) ≡ 0xF002
  pub last : word_at words (w + 21) ≡ t

lowered_by_one : (q c : ℕ) → 1 ≤ c → c < 256 → (c == 1) ≡ false → (c + 255) % 256 ≡ count_after q c
lowered_by_one q c some most more = let e : (c + 255) % 256 ≡ c - 1 = omega arith in e ∙ sym (ap (λ b. if b then q else c - 1) more)

not_zero : (c : ℕ) → 1 ≤ c → c < 256 → (c == 1) ≡ false → ((c + 255) % 256 == 0) ≡ false
not_zero c some most more = grind (arith, nat_tests)

is_zero : (c : ℕ) → (c == 1) ≡ true → ((c + 255) % 256 == 0) ≡ true
is_zero c one = grind (arith, nat_tests)

count_down_is : (m : Mote) (q : ℕ) → length m.sram ≡ 4096 → 1 ≤ byte_at m.sram count_cell → byte_at m.sram count_cell < 256 → (byte_at m.sram count_cell == 1) ≡ false
    → byte_at (counted_down m) count_cell ≡ count_after q (byte_at m.sram count_cell)
count_down_is m q size some most more =
    byte_same (put_away m) count_cell (lowered_of m).0 (omega arith) (omega (arith, away_size m)) ∙ ap (λ n. (n + 255) % 256) (count_read m)
    ∙ lowered_by_one q (byte_at m.sram count_cell) some most more

-- behind QUANTUM, which takes r24 and SREG from their cells
same_timed : (m : Mote) (d q : ℕ × ℕ) (ret quantum pc : ℕ) → length m.sram ≡ 4096 → m.cpu.sp ≡ 0x011F
    → (let ram = pushed (counted_down m) ret in
    SameProgram m (record m {
      cpu = record m.cpu { r = slice_set (slice_set m.cpu.r 24 d.0) 24 (byte_at ram r24_cell); sreg = byte_at ram sreg_cell; sp = 0x011F; pc = pc };
      sram = with_byte ram count_cell quantum;
    }))
same_timed m d q ret quantum pc size top =
    let ram = pushed (counted_down m) ret in
    let v : byte_at ram r24_cell ≡ register m.cpu 24 = pushed_kept (counted_down m) ret r24_cell (omega arith) ∙ r24_read m size in
    record {
      registers = set-set m.cpu.r 24 d.0 (byte_at ram r24_cell) ∙ ap (slice_set m.cpu.r 24) v ∙ set-get_or m.cpu.r 24 0;
      status = pushed_kept (counted_down m) ret sreg_cell (omega arith) ∙ sreg_read m size;
      top = refl;
      size = length-with_byte ram count_cell quantum ∙ pushed_size (counted_down m) ret ∙ down_size m;
      bytes = λ b low apart apart'. byte_apart ram count_cell b quantum (omega arith) ∙ pushed_kept (counted_down m) ret b (omega arith) ∙ down_kept m b low;
      flash = refl;
      devices = refl;
      swap = refl;
    }

module _ (links : Links) (x : State) (t : ℕ) (b : Bool) (free : IsRunning x) (stub : CrossingStub links x.kernel.layout (mote_of x).flash.words (mote_of x).cpu.pc t) (fit : IsIdle x.kernel)
    (starts : Begins x.kernel.layout (mote_of x).flash.words (mote_of x).cpu.pc b) where
  -- a plain move, and so many others
  down_walk : (n : ℕ) (next : Mote) → (let m = mote_of x in Passes (m.cpu.pc + 1) (m.cpu.pc + 22) n (held m m.cpu.r m.cpu.sreg (m.cpu.pc + 2) (r24_away m)) next)
      → WalkFrom x b None (plains n) (with_mote x next)
  down_walk n next passes =
      let m = mote_of x in
      let w = m.cpu.pc in
      let first = held m m.cpu.r m.cpu.sreg (w + 2) (r24_away m) in
      let here : w + 0 ≡ w = omega arith in (
        with_mote x first,
        quiet_move x first b free (rw here at (stub.row.pool 0 (omega arith))) starts (first_step m w stub.row.low (omega arith) stub.forms),
        passes_walk x w 22 n first next free stub.row refl refl passes,
      )

  -- after the ten instructions, the link
  link_way : (byte_at (mote_of x).sram count_cell == 1) ≡ false → Way links x b t (count_after x.kernel.quantum (byte_at (mote_of x).sram count_cell)) true
  unfolding lines_of
  link_way more =
      let m = mote_of x in
      let w = m.cpu.pc in
      let q = x.kernel.quantum in
      let c = byte_at m.sram count_cell in
      let low = stub.row.low in
      let registers = fit.registers in
      let pointer = fit.pointer in
      let y = with_mote x (held m m.cpu.r m.cpu.sreg (w + 16) (counted_down m)) in
      let way = down_walk 9 (mote_of y) (on_passes m w low (omega arith) stub.forms fit.size (taken_is m ∙ not_zero c fit.some fit.most more)) in
      let down = same_sram m m.cpu.sp (w + 16) (counted_down m) fit.top (down_size m) (λ b apart. down_kept m b apart.0) in
      let count = count_down_is m q fit.size fit.some fit.most more in
      let left : count_after q c ≡ c - 1 = ap (λ b. if b then q else c - 1) more in
      let apart = not_one c more in
      let behind = stretch_behind x.kernel.layout m.flash.words w 16 6 stub.row (omega arith) (omega arith) in
      let row : IsStretch x.kernel.layout m.flash.words (w + 16) 3 =
      record { pool = λ k below. behind.pool k (omega arith); inner = λ k some below. behind.inner k some (omega arith); low = omega arith } in
      let some = fit.some in
      let most = fit.most in
      let counts : (1 ≤ byte_at (counted_down m) count_cell) × (byte_at (counted_down m) count_cell < 256) = omega (arith, count, left) in
      let low' : byte_at (counted_down m) vsp_cell < 256 = omega (arith, down_kept m vsp_cell (omega arith)) in
      let fit' : IsIdle y.kernel = record { registers = registers; size = down.size ∙ fit.size; pointer = low'; top = fit.top; some = counts.0; most = counts.1 } in
      let on = link_law links y (w + 16) t false (running_at x _ _ free) row stub.stands stub.marks fit' refl (stub.row.inner 16 (omega arith) (omega arith)) in
      let end = on.0.end in
      record {
        end = end;
        rest = plains 9 ++ (Plain None ∷ on.0.rest);
        walk = from_on x y end b None (plains 9) (Plain None ∷ on.0.rest) way on.0.walk;
        silent = on.0.silent;
        few = omega (arith, on.1);
        serves = on.0.serves;
        goes = on.0.goes;
        reset = λ crosses one n. absurd (let e = sym more ∙ ap (λ c. c == 1) one in cc);
        left = record {
          going = on.0.left.going;
          layout = on.0.left.layout;
          part = on.0.left.part;
          quantum = on.0.left.quantum;
          same = same_on m (mote_of y) (mote_of end) down on.0.left.same;
          count = on.0.left.count ∙ count;
          reaches = subst (λ d. Reaches links t d end) (sym more) on.0.left.reaches;
        };
      }

  -- the quantum is over
  over_way : (byte_at (mote_of x).sram count_cell == 1) ≡ true → Way links x b t (count_after x.kernel.quantum (byte_at (mote_of x).sram count_cell)) true
  unfolding lines_of moved
  over_way one =
      let m = mote_of x in
      let w = m.cpu.pc in
      let low = stub.row.low in
      let ram = counted_down m in
      let d = lowered_of m in
      let y = with_mote x (held m (slice_set m.cpu.r 24 d.0) d.1 (w + 19) ram) in
      let way = down_walk 6 (mote_of y) (over_passes m w low (omega arith) stub.forms (taken_is m ∙ is_zero (byte_at m.sram count_cell) one)) in
      let there : w + 19 + 1 ≡ w + 20 = omega arith in
      let target : w + 19 + 2 ≡ w + 21 = omega arith in
      let free' : IsRunning y = running_at x _ _ free in
      let called : State = with_mote x (record (mote_of y) { cpu = record (mote_of y).cpu { sp = 0x011D; pc = 0xF002 }; sram = pushed ram (w + 19 + 2) }) in
      let first : MakesPlain y false None called = call_move y (w + 19) 0xF002 false free' refl (stub.row.pool 19 (omega arith)) (omega arith)
      (stub.row.inner 19 (omega arith) (omega arith)) stub.call (ap (word_at m.flash.words) there ∙ stub.entry) fit.top in
      let served : MakesServe called None false (quantum_state called t) = quantum_move called (w + 19) t (running_at x _ _ free) refl
      (pushed_address ram (w + 19 + 2) (down_size m ∙ fit.size)) (ap (word_at m.flash.words) target ∙ stub.last) in
      record {
        end = quantum_state called t;
        rest = plains 6 ++ (Plain None ∷ Serve None false ∷ []);
        walk = from_on x y (quantum_state called t) b None (plains 6) (Plain None ∷ Serve None false ∷ []) way (called, first, (quantum_state called t, served, refl));
        silent = refl;
        few = omega arith;
        serves = omega arith;
        goes = refl;
        reset = λ crosses one n. refl;
        left = record {
          going = refl;
          layout = refl;
          part = refl;
          quantum = refl;
          same = same_timed m d d (w + 19 + 2) x.kernel.quantum 0xF002 fit.size fit.top;
          count = byte_same (pushed ram (w + 19 + 2)) count_cell x.kernel.quantum (omega arith) (omega (arith, pushed_size ram (w + 19 + 2), down_size m, fit.size))
              ∙ sym (ap (λ c. if c then x.kernel.quantum else byte_at m.sram count_cell - 1) one);
          reaches = subst (λ d. Reaches links t d (quantum_state called t)) (sym one) (Reaches.Owing None (λ e. refl) refl tt);
        };
      }

  crossing_by : (c : Bool) → (byte_at (mote_of x).sram count_cell == 1) ≡ c → Way links x b t (count_after x.kernel.quantum (byte_at (mote_of x).sram count_cell)) true
  crossing_by true one = over_way one
  crossing_by false more = link_way more

-- the whole stub
pub crossing_law : (links : Links) (x : State) (w t : ℕ) (b : Bool) → IsRunning x → CrossingStub links x.kernel.layout (mote_of x).flash.words w t → IsIdle x.kernel → (mote_of x).cpu.pc ≡ w
    → Begins x.kernel.layout (mote_of x).flash.words w b → Way links x b t (count_after x.kernel.quantum (byte_at (mote_of x).sram count_cell)) true
crossing_law links x w t b free stub fit is starts = crossing_by links x t b free (rw (← is) at stub) fit (rw (← is) at starts) (byte_at (mote_of x).sram count_cell == 1) refl

-- the parts of a crossing stub
crossing_parts : (links : Links) (layout : Layout) (words : List ℕ) (w t : ℕ) → IsStretch layout words w 22 → Stands links.enters words w (crossing_stub t) → EachLink links.marks w (crossing_stub t)
    → CrossingStub links layout words w t
unfolding second_word is_valid fields_in_range is_undefined
crossing_parts links layout words w t row stands marks =
    let front = words_of_forms count_down in
    let two = fixed_stand links.enters words w front (Link t ∷ service quantum_entry t) stands in
    let at : (k j : ℕ) (v : ℕ) → j ≡ k → word_at words k ≡ v → word_at words j ≡ v = λ k j v same is. ap (word_at words) same ∙ is in
    record {
      row = row;
      forms = row_stands words w count_down (omega arith) (refl, (refl, (refl, (refl, (refl, (refl, (refl, (refl, (refl, (refl, tt)))))))))) two.0;
      stands = (two.1.0, tt);
      marks = ((each_link_split links.marks w (map (λ word. Fixed word) front) (Link t ∷ service quantum_entry t) marks).1.0, tt);
      call = at (w + 16 + 3) (w + 19) call_word (omega arith) two.1.1.0;
      entry = at (w + 16 + 3 + 1) (w + 20) quantum_entry (omega arith) two.1.1.1.0;
      last = at (w + 16 + 3 + 1 + 1) (w + 21) t (omega arith) two.1.1.1.1.0;
    }

stub_by : (links : Links) (x : State) (from t w : ℕ) (b c : Bool) → is_crossing from t ≡ c → IsRunning x
    → IsStretch x.kernel.layout (mote_of x).flash.words w (size (if c then crossing_stub t else Link t ∷ []))
    → Stands links.enters (mote_of x).flash.words w (if c then crossing_stub t else Link t ∷ [])
    → EachLink links.marks w (if c then crossing_stub t else Link t ∷ []) → IsIdle x.kernel → (mote_of x).cpu.pc ≡ w
    → Begins x.kernel.layout (mote_of x).flash.words w b → Way links x b t (if c then count_after x.kernel.quantum (byte_at (mote_of x).sram count_cell) else byte_at (mote_of x).sram count_cell) c
unfolding second_word
stub_by links x from t w b true crosses free row stands marks fit is starts =
    crossing_law links x w t b free (crossing_parts links x.kernel.layout (mote_of x).flash.words w t row stands marks) fit is starts
stub_by links x from t w b false crosses free row stands marks fit is starts = (link_law links x w t b free row stands marks fit is starts).0

pub stub_law : (links : Links) (x : State) (from t w : ℕ) (b : Bool) → IsRunning x
    → IsStretch x.kernel.layout (mote_of x).flash.words w (size (stub from t)) → Stands links.enters (mote_of x).flash.words w (stub from t)
    → EachLink links.marks w (stub from t) → IsIdle x.kernel → (mote_of x).cpu.pc ≡ w
    → Begins x.kernel.layout (mote_of x).flash.words w b → Way links x b t (count_over x.kernel.quantum from t (byte_at (mote_of x).sram count_cell)) (is_crossing from t)
unfolding stub
stub_law links x from t w b free row stands marks fit is starts = stub_by links x from t w b (is_crossing from t) refl free row stands marks fit is starts
