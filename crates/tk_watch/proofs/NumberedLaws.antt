-- The numbered lines of a run are all its lines.
use Rattle.std.proofs.Common.{◌≡◌, ℕ, zero, suc, Bool, true, false, List, [], ◌∷◌, ◌++◌, length, drop, refl, sym, ap, ◌∙◌, subst, append_assoc}
use Rattle.std.specs.Prelude.{flat_map, Option, Some, None}
use Rattle.std.proofs.Math.Seq.{drop-append_seam}
use Rattle.std.proofs.lemmas.List.{append-nil}
use Rattle.input_script.specs.declared.input.Event.{Event}
use Rattle.mote_devices.specs.declared.line.Line.{Line}
use Rattle.flat_machine.specs.FlatMachine.{Ends, Moment, Next, On, Program, Run, at_front, is_inside, next_of, original, run, with_line}
use Rattle.flat_machine.proofs.MachineLaws.{run_goes, run_stops, run_wild}
use Rattle.tk_run.proofs.RunSoFar.{none_ran}
use Rattle.tk_watch.specs.NumberedLines.{TellsNumbered, lines_behind, numbered_line}
use Rattle.tk_watch.specs.StepTexts.{told_text}
use Rattle.tk_watch.specs.declared.view.View.TheVariants.{Lines}

pub lines_of_step : (runs : ℕ → Run) (k : ℕ) (more : List Line) → (runs (suc k)).lines ≡ (runs k).lines ++ more → lines_behind runs k ≡ more
lines_of_step runs k more grows = ap (drop (length (runs k).lines)) grows ∙ drop-append_seam (runs k).lines more

-- Lines are only added. ---------------------------------------------------------------------------------------

abbrev Grows : Run → Run → Type 0
Grows r longer = (more : List Line) × (longer.lines ≡ r.lines ++ more)

same_lines : (r longer : Run) → longer ≡ r → Grows r longer
same_lines r longer same = ([], ap (λ (s : Run). s.lines) same ∙ sym (append-nil r.lines))

behind_line : (line : Option Line) (r longer : Run) → Grows r longer → Grows (with_line line r) (with_line line longer)
behind_line None r longer grows = grows
behind_line (Some line) r longer grows = (grows.0, ap (λ lines. line ∷ lines) grows.1)

grows_by : (program : Program) (m : Moment) (n : ℕ) (inside : Bool) (next : Next) → is_inside program m.now.cpu.pc ≡ inside → next_of program m ≡ next
    → ((later : Moment) → Grows (run program later n) (run program later (suc n))) → Grows (run program m (suc n)) (run program m (suc (suc n)))
grows_by program m n false next outside is earlier = same_lines _ _ (run_wild program m (suc (suc n)) outside ∙ sym (run_wild program m (suc n) outside))
grows_by program m n true (Ends end) inside is earlier = same_lines _ _ (run_stops program m (suc n) end inside is ∙ sym (run_stops program m n end inside is))
grows_by program m n true (On line later) inside is earlier =
    let first = run_goes program m later n line inside is in
    let second = run_goes program m later (suc n) line inside is in
    let behind = behind_line line (run program later n) (run program later (suc n)) (earlier later) in
    (behind.0, ap (λ (r : Run). r.lines) second ∙ behind.1 ∙ ap (λ (r : Run). r.lines ++ behind.0) (sym first))

grows : (program : Program) (n : ℕ) (m : Moment) → Grows (run program m n) (run program m (suc n))
grows program zero m = ((run program m 1).lines, ap (λ lines. lines ++ (run program m 1).lines) (sym (none_ran program m).0))
grows program (suc n) m = grows_by program m n (is_inside program m.now.cpu.pc) (next_of program m) refl refl (grows program n)

-- All of them are told. ---------------------------------------------------------------------------------------

each_numbered : (step : ℕ) (lines : List Line) → TellsNumbered lines (flat_map (numbered_line step) lines)
each_numbered step [] = refl
each_numbered step (line ∷ lines) = (step, flat_map (numbered_line step) lines, refl, each_numbered step lines)

both_numbered : (a b : List Line) (first second : List ℕ) → TellsNumbered a first → TellsNumbered b second → TellsNumbered (a ++ b) (first ++ second)
both_numbered [] b first second none others = subst (TellsNumbered b) (ap (λ z. z ++ second) (sym none)) others
both_numbered (line ∷ a) b first second (step, rest, is, behind) others =
    (step, rest ++ second, ap (λ z. z ++ second) is ∙ append_assoc (numbered_line step line) rest second, both_numbered a b rest second behind others)

all_numbered : (program : Program) (runs : ℕ → Run) → (runs 0).lines ≡ [] → ((k : ℕ) → Grows (runs k) (runs (suc k))) → (n : ℕ) → TellsNumbered (runs n).lines (told_text Lines program runs n)
all_numbered program runs none more zero = rw none refl
all_numbered program runs none more (suc k) =
    let grown = more k in
    let both = both_numbered (runs k).lines grown.0 (told_text Lines program runs k) (flat_map (numbered_line (suc k)) grown.0) (all_numbered program runs none more k) (each_numbered (suc k) grown.0) in
    rw (lines_of_step runs k grown.0 grown.1, grown.1) both

-- of the original program
pub tells_all : (program : Program) (events : List Event) (n : ℕ) → TellsNumbered (original program events n).lines (told_text Lines program (original program events) n)
tells_all program events n =
    all_numbered program (original program events) (none_ran program (at_front program events)).0 (λ k. grows program k (at_front program events)) n
