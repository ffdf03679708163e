-- Events that take effect one after another, and events in order of which none is due.
use Rattle.std.proofs.Common.{◌≡◌, ℕ, zero, suc, ◌+◌, ◌<◌, ◌≤◌, true, false, not, cond, List, [], ◌∷◌, length, get_or, drop, arith, refl, sym, ap, ap₂, ◌∙◌, inl, inr}
use Rattle.std.proofs.lemmas.Bool.{cases_lt}
use Rattle.std.proofs.lemmas.Bool.Decides.{nat_tests}
use Rattle.std.proofs.lemmas.List.{get_or-drop, length-drop}
use Rattle.std.specs.Prelude.{filter, fold, AllPairs}
use Rattle.input_script.specs.declared.input.Input.{Input}
use Rattle.input_script.specs.declared.input.Input.TheVariants.{Pin}
use Rattle.input_script.specs.declared.input.Event.{Event}
use Rattle.mote_devices.specs.Inputs.{Received, after_input, is_due, at_poll}
use Rattle.mote_devices.specs.Queue.{first_is_due, first_taken, with_first}

abbrev with_coming : Received → List Event → Received
with_coming r events = record r { coming = events }

pub coming_kept : (r : Received) (input : Input) → (after_input r input).coming ≡ r.coming
coming_kept r (Pin port value) = refl
coming_kept r _ = refl

coming_apart : (r : Received) (input : Input) (events : List Event) → with_coming (after_input r input) events ≡ after_input (with_coming r events) input
coming_apart r (Pin port value) events = refl
coming_apart r _ events = refl

abbrev pub all_after : Received → List Event → Received
all_after r events = fold (λ (now : Received) (event : Event). after_input now event.input) r events

abbrev pub due : ℕ → List Event → List Event
due n events = filter (is_due n) events

abbrev pub later : ℕ → List Event → List Event
later n events = filter (λ (event : Event). not (is_due n event)) events

-- a first event that is due takes effect first
first_of : (n : ℕ) (r : Received) (event : Event) (events : List Event) → is_due n event ≡ true
    → at_poll n (after_input (with_coming r events) event.input) ≡ at_poll n (with_coming r (event ∷ events))
unfolding at_poll
first_of n r event events is =
    ap (λ coming. all_after (with_coming (after_input (with_coming r events) event.input) (later n coming)) (due n coming)) (coming_kept (with_coming r events) event.input)
    ∙ ap (λ now. all_after now (due n events)) (coming_apart (with_coming r events) event.input (later n events))
    ∙ sym (ap (λ b. all_after (with_coming r (cond (not b) (event ∷ later n events) (later n events))) (cond b (event ∷ due n events) (due n events))) is)

first_by : (n : ℕ) (r : Received) (events : List Event) → first_is_due n events ≡ true → at_poll n (first_taken (with_coming r events) events) ≡ at_poll n (with_coming r events)
first_by n r [] is = absurd (cc)
first_by n r (event ∷ events) is = first_of n r event events is

pub at_poll-with_first : (n : ℕ) (r : Received) → first_is_due n r.coming ≡ true → at_poll n (with_first r) ≡ at_poll n r
at_poll-with_first n r is = first_by n r r.coming is

-- events of which none is due
abbrev pub NoneDue : ℕ → List Event → Type 0
NoneDue n events = (k : ℕ) (d : Event) → k < length events → n < (get_or events k d).at

pub not_due : (n : ℕ) (event : Event) → n < event.at → is_due n event ≡ false
not_due n event above = grind (arith, nat_tests)

tail_none : (n : ℕ) (event : Event) (events : List Event) → NoneDue n (event ∷ events) → NoneDue n events
tail_none n event events none k d below = none (suc k) d (omega arith)

due_none : (n : ℕ) (events : List Event) → NoneDue n events → due n events ≡ []
due_none n [] none = refl
due_none n (event ∷ events) none =
    ap (λ b. cond b (event ∷ due n events) (due n events)) (not_due n event (none zero event (omega arith))) ∙ due_none n events (tail_none n event events none)

later_all : (n : ℕ) (events : List Event) → NoneDue n events → later n events ≡ events
later_all n [] none = refl
later_all n (event ∷ events) none =
    ap (λ b. cond (not b) (event ∷ later n events) (later n events)) (not_due n event (none zero event (omega arith))) ∙ ap (λ rest. event ∷ rest) (later_all n events (tail_none n event events none))

pub at_poll-none : (n : ℕ) (r : Received) → NoneDue n r.coming → at_poll n r ≡ r
unfolding at_poll
at_poll-none n r none = ap₂ (λ coming taken. all_after (with_coming r coming) taken) (later_all n r.coming none) (due_none n r.coming none)

-- in a schedule no event is due where the next isn't
pub none_due : (n : ℕ) (script : List Event) (taken : ℕ) → AllPairs (λ (earlier : Event) (later : Event). earlier.at ≤ later.at) script
    → ((d : Event) → taken < length script → n < (get_or script taken d).at) → NoneDue n (drop taken script)
none_due n script taken ordered next k d below =
    let inside : taken + k < length script = omega (arith, length-drop taken script) in
    let first = next d (omega arith) in
    let here : (get_or (drop taken script) k d).at ≡ (get_or script (taken + k) d).at = ap (λ (e : Event). e.at) (get_or-drop taken script k d) in
    elim (cases_lt taken (taken + k)) [
      | inl above ↦ omega (arith, ordered taken (taken + k) d above inside, here, first)
      | inr same ↦ omega (arith, here, ap (λ j. (get_or script j d).at) (let zero_k : taken + k ≡ taken = omega arith in zero_k), first)
    ]
