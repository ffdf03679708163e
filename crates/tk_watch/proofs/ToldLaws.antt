-- What a view tells of a run, and of one step more.
use Rattle.std.proofs.Common.{◌≡◌, ℕ, zero, suc, ◌+◌, ◌<◌, cond, List, [], ◌++◌, length, drop, refl, sym, ap, ap₂, ◌∙◌, arith}
use Rattle.std.proofs.lemmas.List.{append-nil}
use Rattle.mote_devices.specs.declared.line.Line.{Line}
use Rattle.flat_machine.specs.FlatMachine.{Moment, Program, Run}
use Rattle.tk_watch.specs.declared.view.View.{View}
use Rattle.tk_watch.specs.declared.view.View.TheVariants.{Profile, Trace, Visits, Changes, Accesses}
use Rattle.tk_watch.specs.Kept.{AreHeld, IsNext, IsUntold, step_told}
use Rattle.tk_watch.specs.StepTexts.{front_text, moment_text, told_text}
use Rattle.tk_watch.specs.TraceText.{row_told}
use Rattle.tk_watch.specs.ChangesText.{change_text}
use Rattle.tk_watch.specs.AccessesText.{accesses_text}
use Rattle.tk_watch.specs.declared.accesses.Access.{Access}
use Rattle.std.specs.Prelude.{slice_index}
use Rattle.tk_watch.proofs.NumberedLaws.{lines_of_step}
use Rattle.tk_watch.proofs.Rows.{rows_same}

nothing_told : (view : View) (program : Program) (step : ℕ) (before after : Moment) → IsUntold view step → moment_text view program step [] before after ≡ []
nothing_told (Trace first count) program step before after none = ap (λ b. cond b (row_told step after.now.cpu.pc after.now.cpu.sp after.now.cpu.sreg after.now.cpu.r) []) none
nothing_told (Visits places) program step before after none = absurd none
nothing_told (Changes at count) program step before after none = absurd none
nothing_told (Accesses at count) program step before after none = absurd none
nothing_told _ program step before after none = refl

-- behind one step more
pub told_on : (view : View) (program : Program) (runs : ℕ → Run) (k m : ℕ) (lines : List Line) (state : Moment) → m ≡ suc k → (runs m).lines ≡ (runs k).lines ++ lines → (runs m).state ≡ state
    → told_text view program runs m ≡ told_text view program runs k ++ moment_text view program m lines (runs k).state state
told_on view program runs k m lines state is grows to =
    rw is (ap₂ (λ (l : List Line) (s : Moment). told_text view program runs k ++ moment_text view program (suc k) l (runs k).state s) (lines_of_step runs k lines (rw is at grows)) (rw is at to))

-- .. of which nothing is told
pub told_silent : (view : View) (program : Program) (runs : ℕ → Run) (k m : ℕ) → m ≡ suc k → IsUntold view m → (runs m).lines ≡ (runs k).lines
    → told_text view program runs m ≡ told_text view program runs k
told_silent view program runs k m is none same =
    told_on view program runs k m [] (runs m).state is (same ∙ sym (append-nil (runs k).lines)) refl
    ∙ ap (λ t. told_text view program runs k ++ t) (nothing_told view program m (runs k).state (runs m).state none)
    ∙ append-nil (told_text view program runs k)

-- only changes and accesses look at the moment before, and they look at each
pub beside_same : (view : View) (program : Program) (step : ℕ) (lines : List Line) (s t after : Moment) (i at : ℕ) → ((k : ℕ) → i < k → k < i + 1 + at → IsUntold view k) → (at ≡ 0 → s ≡ t)
    → moment_text view program step lines s after ≡ moment_text view program step lines t after
beside_same (Changes a count) program step lines s t after i zero untold same = ap (λ (before : Moment). moment_text (Changes a count) program step lines before after) (same refl)
beside_same (Changes a count) program step lines s t after i (suc at) untold same = absurd (untold (i + 1) (omega arith) (omega arith))
beside_same (Accesses a count) program step lines s t after i zero untold same = ap (λ (before : Moment). moment_text (Accesses a count) program step lines before after) (same refl)
beside_same (Accesses a count) program step lines s t after i (suc at) untold same = absurd (untold (i + 1) (omega arith) (omega arith))
beside_same _ program step lines s t after i at untold same = refl

-- by the bytes that were held, and what was known of the step
pub step_same : (view : View) (program : Program) (step : ℕ) (lines : List Line) (before after : Moment) (bytes : List ℕ) (access : Access) → AreHeld view before.now.memory bytes
    → IsNext view program before access
    → step_told view step lines before.now.cpu.pc before.now.cpu.sreg bytes access after.now ≡ moment_text view program step lines before after
step_same (Changes at count) program step lines before after bytes access held next =
    let pc = before.now.cpu.pc in
    rows_same (λ i. change_text step pc (at + i) (slice_index bytes i) (slice_index after.now.memory (at + i)))
    (λ i. change_text step pc (at + i) (slice_index before.now.memory (at + i)) (slice_index after.now.memory (at + i))) count
    (λ i below. ap (λ v. change_text step pc (at + i) v (slice_index after.now.memory (at + i))) (held i below))
step_same (Accesses first count) program step lines before after bytes access held next =
    ap (λ x. accesses_text first count step before.now.cpu.pc before.now.cpu.sreg x after.now.cpu) next
step_same _ program step lines before after bytes access held next = refl

-- the same runs have the same steps
pub told_same : (view : View) (program : Program) (runs others : ℕ → Run) → ((k : ℕ) → runs k ≡ others k) → (n : ℕ) → told_text view program runs n ≡ told_text view program others n
told_same view program runs others same zero = ap (λ (r : Run). front_text view r.state.now) (same 0)
told_same view program runs others same (suc k) =
    let step = ap₂ (λ (a b : Run). moment_text view program (suc k) (drop (length a.lines) b.lines) a.state b.state) (same k) (same (suc k)) in
    ap₂ (λ told text. told ++ text) (told_same view program runs others same k) step

-- a profile tells nothing of a step
pub none_told : (program : Program) (runs : ℕ → Run) (n : ℕ) → told_text Profile program runs n ≡ []
none_told program runs zero = refl
none_told program runs (suc k) = ap (λ t. t ++ []) (none_told program runs k)
