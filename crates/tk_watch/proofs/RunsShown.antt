-- A watched run from boot is a run, and what was said of it is what a view shows.
use Rattle.std.proofs.Common.{◌≡◌, ℕ, ◌≤◌, List, [], ◌++◌, length, append_assoc, refl, sym, ap, ap₂, ◌∙◌, subst, arith, ◌⊎◌, inl, inr}
use Rattle.std.specs.Prelude.{◌^◌, codes, slice_index, IfOk, MatchResult, Option, Result, Some, None, Ok, Err}
use Rattle.byte_streams.specs.declared.failure.Failed.{Failed}
use Rattle.byte_streams.specs.Streams.{CutShort, IsSent}
use Rattle.byte_streams.proofs.KnownBytes.{nothing_sent}
use Rattle.hex_image.specs.Image.{IsImage}
use Rattle.flash_words.specs.Memory.{IsWhole, new_flash}
use Rattle.kernel_entry.specs.Seen.{program as program_of}
use Rattle.kernel_entry.specs.declared.kernel.End.{End}
use Rattle.program_steps.specs.Machines.{Machine, flat_of}
use Rattle.program_steps.specs.Ready.{IsKept}
use Rattle.program_steps.specs.Wholes.{whole}
use Rattle.tk_run.specs.Running.{HasAdvanced, original_from}
use Rattle.tk_run.specs.Booted.{booted}
use Rattle.tk_run.proofs.Advancing.{advanced_whole}
use Rattle.tk_run.proofs.Booting.{begun_boot, program_start, run_start}
use Rattle.cli_words.specs.declared.request.Request.{Request}
use Rattle.cli_words.specs.Commands.{AreOptions}
use Rattle.cli_words.specs.declared.status.Status.{Status}
use Rattle.cli_words.specs.declared.status.Status.TheVariants.{NoMemory}
use Rattle.cli_words.specs.Stream.{Stream}
use Rattle.tkernel_cli.specs.Runs.{Says, original_of, own_program, status_of_stop}
use Rattle.tkernel_cli.proofs.RunEnds.{ran_silently}
use Rattle.tk_watch.specs.declared.view.View.{View}
use Rattle.tk_watch.specs.declared.view.View.TheVariants.{Profile}
use Rattle.flat_machine.specs.FlatMachine.{FlatState, Program, Run}
use Rattle.tk_watch.specs.declared.showing.Start.{Start}
use Rattle.tk_watch.specs.ProfileText.{times_at}
use Rattle.tk_watch.specs.StepTexts.{told_text}
use Rattle.tk_watch.specs.Views.{Shows, left_text, shown}
use Rattle.tk_watch.specs.Watching.{AreCounted, HasCounted, HasRun, HasShown, HasWatched, IsStart, kept_end, stop_of}
use Rattle.tk_watch.proofs.ProfileLaws.{profile_same, times_same}
use Rattle.tk_watch.proofs.Stops.{SaysShown, answers_kept, shows_by}
use Rattle.tk_watch.proofs.ToldLaws.{none_told, told_same}

abbrev pub start_of : Request → Machine
start_of request = booted request.image request.script request.options.quantum request.options.swap

-- from boot the original program runs from reset
from_boot : (request : Request) → IsImage request.image → IsKept (start_of request) → (k : ℕ) → original_from (start_of request) k ≡ original_of request k
from_boot request image kept k =
    let whole : IsWhole (new_flash request.image request.script.failing) = kept.sound.order.whole in
    run_start request.image (new_flash request.image request.script.failing) request.script request.options.quantum request.options.swap 0 k (begun_boot request.image request.script image whole)

-- .. which is the program that is asked for
booted_program : (request : Request) → IsImage request.image → IsKept (start_of request) → program_of (start_of request).kernel ≡ own_program request
booted_program request image kept = program_start request.script request.options.quantum request.options.swap (begun_boot request.image request.script image kept.sound.order.whole)

-- the same program and the same runs
told_same_by : (view : View) (program other : Program) (runs others : ℕ → Run) → program ≡ other → ((k : ℕ) → runs k ≡ others k) → (n : ℕ) → told_text view program runs n ≡ told_text view other others n
told_same_by view program other runs others is same n = told_same view program runs others same n ∙ ap (λ (p : Program). told_text view p others n) is

-- a profile's steps were counted, and nothing was told of them
pub profile_run : (old new : Machine) (n : ℕ) (counts gathered : List ℕ) (known : Option (List ℕ)) (end : End) → gathered ≡ [] → HasCounted old new n counts end
    → HasRun Profile old new n counts gathered known known (Ok end)
profile_run old new n counts gathered known end empty counted =
    let sent = subst (λ z. IsSent z gathered known known) (empty ∙ sym (none_told (program_of old.kernel) (original_from old) new.steps)) (nothing_sent gathered known) in
    (record { text = counted.text; advanced = counted.advanced; sent = sent }, counted.counted)

-- .. and another view counts none
uncounted : (view : View) (times : ℕ → ℕ) (counts : List ℕ) → (view ≡ Profile → ⊥) → AreCounted view times counts
uncounted Profile times counts other = absurd (other refl)
uncounted _ times counts other = tt

pub watched_run : (view : View) (old new : Machine) (n : ℕ) (counts gathered : List ℕ) (before after : Option (List ℕ)) (result : Result End Failed) → (view ≡ Profile → ⊥)
    → HasWatched view old new n gathered before after result → HasRun view old new n counts gathered before after result
watched_run view old new n counts gathered before after (Ok end) other told = (told, uncounted view _ counts other)
watched_run view old new n counts gathered before after (Err e) other cut = cut

-- what a view tells at the end, by other counts that are equal
pub left_same : (view : View) (slots events : ℕ) (counts : List ℕ) (times : ℕ → ℕ) (operations : ℕ) (s : FlatState) → AreCounted view times counts
    → left_text view slots events (slice_index counts) operations s ≡ left_text view slots events times operations s
left_same Profile slots events counts times operations s counted = profile_same (slice_index counts) times counted
left_same _ slots events counts times operations s counted = refl

-- .. of another run that is the same
left_of_same : (view : View) (slots events : ℕ) (runs others : ℕ → Run) → ((k : ℕ) → runs k ≡ others k) → (n operations : ℕ) (s : FlatState)
    → left_text view slots events (λ a. times_at runs a n) operations s ≡ left_text view slots events (λ a. times_at others a n) operations s
left_of_same Profile slots events runs others same n operations s = profile_same (λ a. times_at runs a n) (λ a. times_at others a n) (λ a below. times_same runs others same a n)
left_of_same _ slots events runs others same n operations s = refl

module _ (view : View) (request : Request) (m : Machine) (before now : Stream) (told : Status) (image : IsImage request.image) (kept : IsKept (start_of request))
    (bound : request.options.steps ≤ 10 ^ 9) where
  -- what was said of a run from boot, as the text of a view
  shown_by : (text said_text : List ℕ) (end : End) → HasAdvanced (start_of request) m request.options.steps (Some []) (Some text) (Ok end)
      → said_text ≡ shown view request m.kernel.mote.flash.ops (flat_of m) → Says (status_of_stop end) (said_text ++ stop_of end m) before now told → Shows view request before now told
  shown_by text said_text end advanced is said =
      let old = start_of request in
      let runs = ran_silently request (Ok end) m image kept bound (advanced_whole old m request.options.steps end text None None advanced tt) (record { later = omega arith; failed = tt }) in
      let ran = advanced.ran refl in
      let ended : kept_end m.end ≡ end = answers_kept old m request.options.steps ran.done advanced.lines end ran.answers in
      shows_by view request m runs.0 told before now runs.1 (subst (λ e. SaysShown view request m e before now told) (sym ended) (rw is at said))

  pub view_shown : HasShown view request.options.swap (length request.script.events) (start_of request) m request.options.steps before now told → Shows view request before now told
  view_shown (HasShown.Whole text end advanced said) =
      let slots = request.options.swap in
      let events = length request.script.events in
      let runs = original_from (start_of request) in
      let own = original_of request in
      let ops = m.kernel.mote.flash.ops in
      let steps_text = told_text view (program_of (start_of request).kernel) runs m.steps in
      let left = left_text view slots events (λ a. times_at runs a m.steps) ops (flat_of m).now in
      let same = ap₂ (λ a b. a ++ b) (told_same_by view (program_of (start_of request).kernel) (own_program request) runs own (booted_program request image kept) (from_boot request image kept) m.steps)
      (left_of_same view slots events runs own (from_boot request image kept) m.steps ops (flat_of m).now) in
      shown_by text (steps_text ++ left) end advanced same (subst (λ t. Says (status_of_stop end) t before now told) (sym (append_assoc steps_text left (stop_of end m))) said)
  view_shown (HasShown.Cut is rose cut) =
      let same = told_same_by view (program_of (start_of request).kernel) (own_program request) (original_from (start_of request)) (original_of request) (booted_program request image kept) (from_boot request image kept) cut.done in
      Shows.Cut (record { status_is = is; rose = rose; done = cut.done; within = cut.within; put = subst (CutShort before.told now.told) same cut.put })

-- .. of a machine from boot, if memory served
pub request_shown : {E : Type 0} (view : View) (request : Request) (begun : Result Start E) (events : ℕ) (before now : Stream) (told : Status) → IsImage request.image → AreOptions request.options
    → events ≡ length request.script.events → IfOk begun (λ s. whole s.kernel s.progress ≡ start_of request) → IfOk begun (λ s. IsStart (whole s.kernel s.progress) s.counts.items)
    → MatchResult begun (λ s. (new : Machine) × HasShown view request.options.swap events (whole s.kernel s.progress) new request.options.steps before now told)
    (λ none. Says NoMemory (codes "no memory\n") before now told)
    → Shows view request before now told ⊎ Says NoMemory (codes "no memory\n") before now told
request_shown view request (Ok s) events before now told image options same booted start shown =
    inl (view_shown view request shown.0 before now told image (rw booted at start.kept) (omega (arith, options.2)) (rw (same, booted) at shown.1))
request_shown view request (Err e) events before now told image options same booted start shown = inr shown
