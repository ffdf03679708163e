-- A run of more steps beside one of fewer.
use Rattle.std.proofs.Common.{◌≡◌, ◌≢◌, ℕ, zero, suc, ◌+◌, Bool, true, false, List, [], ◌∷◌, ◌++◌, refl, sym, ap, ◌∙◌, subst, arith}
use Rattle.std.specs.Prelude.{Option, Some, None}
use Rattle.std.proofs.lemmas.List.{append-nil}
use Rattle.mote_devices.specs.declared.line.Line.{Line}
use Rattle.flat_machine.specs.FlatMachine.{Program, Moment, Run, Next, Ends, On, Spent, is_inside, ended, with_line, next_of, run, whole_part, at_front}
use Rattle.flat_machine.proofs.MachineLaws.{run_wild, run_spent, run_stops, run_goes}
use Rattle.theorem_reader.specs.MoreSteps.{LinesStay, EndsStay}
use Rattle.theorem_reader.specs.Runs.{Asked}

pub record Longer (fewer more : Run) : Type 0 where
  pub lines : List Line
  pub behind : more.lines ≡ fewer.lines ++ lines
  pub ends : fewer.end ≢ Spent → more ≡ fewer

same_run : (fewer more : Run) → more ≡ fewer → Longer fewer more
same_run fewer more is = record { lines = []; behind = ap (λ (r : Run). r.lines) is ∙ sym (append-nil fewer.lines); ends = λ over. is }

longer_as : (a b fewer more : Run) → fewer ≡ a → more ≡ b → Longer a b → Longer fewer more
longer_as a b fewer more first second longer = subst (λ (r : Run). Longer r more) (sym first) (subst (λ (r : Run). Longer a r) (sym second) longer)

from_nothing : (m : Moment) (more : Run) → Longer (ended Spent m) more
from_nothing m more = record { lines = more.lines; behind = refl; ends = λ over. absurd (over refl) }

behind_line : (line : Option Line) (fewer more : Run) → Longer fewer more → Longer (with_line line fewer) (with_line line more)
behind_line None fewer more longer = longer
behind_line (Some line) fewer more longer = record {
  lines = longer.lines;
  behind = ap (λ lines. line ∷ lines) longer.behind;
  ends = λ over. ap (with_line (Some line)) (longer.ends over);
}

none_longer : (program : Program) (m : Moment) (k : ℕ) (inside : Bool) → is_inside program m.now.cpu.pc ≡ inside → Longer (run program m 0) (run program m k)
none_longer program m k false outside = same_run _ _ (run_wild program m k outside ∙ sym (run_wild program m 0 outside))
none_longer program m k true inside = longer_as _ _ _ _ (run_spent program m inside) refl (from_nothing m (run program m k))

one_longer : (program : Program) (m : Moment) (n k : ℕ) (inside : Bool) (next : Next) → is_inside program m.now.cpu.pc ≡ inside → next_of program m ≡ next
    → ((later : Moment) → Longer (run program later n) (run program later k)) → Longer (run program m (suc n)) (run program m (suc k))
one_longer program m n k false next outside is rest = same_run _ _ (run_wild program m (suc k) outside ∙ sym (run_wild program m (suc n) outside))
one_longer program m n k true (Ends end) inside is rest = same_run _ _ (run_stops program m k end inside is ∙ sym (run_stops program m n end inside is))
one_longer program m n k true (On line later) inside is rest =
    longer_as _ _ _ _ (run_goes program m later n line inside is) (run_goes program m later k line inside is) (behind_line line (run program later n) (run program later k) (rest later))

pub longer : (program : Program) (n k : ℕ) (m : Moment) → Longer (run program m n) (run program m (n + k))
longer program zero k m =
    let same : k ≡ zero + k = omega arith in
    subst (λ j. Longer (run program m zero) (run program m j)) same (none_longer program m k (is_inside program m.now.cpu.pc) refl)
longer program (suc n) k m =
    let same : suc (n + k) ≡ suc n + k = omega arith in
    subst (λ j. Longer (run program m (suc n)) (run program m j)) same (one_longer program m n (n + k) (is_inside program m.now.cpu.pc) (next_of program m) refl refl (longer program n k))

-- the program that is asked for
abbrev program_of : Asked → Program
program_of asked = record { image = asked.image; part = whole_part asked.image; page_limit = asked.slots; quantum = asked.quantum }

longer_of : (asked : Asked) (n k : ℕ) → Longer (run (program_of asked) (at_front (program_of asked) asked.events) n) (run (program_of asked) (at_front (program_of asked) asked.events) (n + k))
longer_of asked n k = longer (program_of asked) n k (at_front (program_of asked) asked.events)

pub lines_stay : LinesStay
lines_stay asked n k = ((longer_of asked n k).lines, (longer_of asked n k).behind)

pub ends_stay : EndsStay
ends_stay asked n k over = (longer_of asked n k).ends over
