-- What SLEEP waits for, as a recursion over states of the devices.
use Rattle.std.proofs.Common.{◌≡◌, ℕ, ◌≤◌, Bool, true, false, not, cond, List, [], ◌∷◌, arith, refl, sym, ap, ap₂, ◌∙◌}
use Rattle.std.proofs.lemmas.Bool.Decides.{nat_tests}
use Rattle.std.specs.Prelude.{max, Option, Some, None}
use Rattle.input_script.specs.declared.input.Event.{Event}
use Rattle.mote_devices.specs.Inputs.{Received, after_input, is_due, at_poll}
use Rattle.mote_devices.specs.State.{State}
use Rattle.mote_devices.specs.Waking.{is_enabled, brought_to, wake_by, wake, IsWake}
use Rattle.mote_devices.proofs.PollLaws.{coming_kept, all_after, due, later}
use Rattle.mote_devices.proofs.WakeLaws.{wake_now}

-- a poll leaves what isn't due at it, and the same poll again changes nothing
all_coming : (r : Received) (events : List Event) → (all_after r events).coming ≡ r.coming
all_coming r [] = refl
all_coming r (event ∷ events) = all_coming (after_input r event.input) events ∙ coming_kept r event.input

poll_coming : (n : ℕ) (r : Received) → (at_poll n r).coming ≡ later n r.coming
unfolding at_poll
poll_coming n r = all_coming (record r { coming = later n r.coming }) (due n r.coming)

later_by : (n : ℕ) (event : Event) (events : List Event) (b : Bool) → is_due n event ≡ b → later n (later n events) ≡ later n events
    → later n (cond (not b) (event ∷ later n events) (later n events)) ≡ cond (not b) (event ∷ later n events) (later n events)
later_by n event events true is rest = rest
later_by n event events false is rest = ap (λ b. cond (not b) (event ∷ later n (later n events)) (later n (later n events))) is ∙ ap (λ l. event ∷ l) rest

later_twice : (n : ℕ) (events : List Event) → later n (later n events) ≡ later n events
later_twice n [] = refl
later_twice n (event ∷ events) = later_by n event events (is_due n event) refl (later_twice n events)

none_by : (n : ℕ) (event : Event) (events : List Event) (b : Bool) → is_due n event ≡ b → due n (later n events) ≡ [] → due n (cond (not b) (event ∷ later n events) (later n events)) ≡ []
none_by n event events true is rest = rest
none_by n event events false is rest = ap (λ b. cond b (event ∷ due n (later n events)) (due n (later n events))) is ∙ rest

none_due : (n : ℕ) (events : List Event) → due n (later n events) ≡ []
none_due n [] = refl
none_due n (event ∷ events) = none_by n event events (is_due n event) refl (none_due n events)

poll_twice : (n : ℕ) (r : Received) → at_poll n (at_poll n r) ≡ at_poll n r
unfolding at_poll
poll_twice n r =
    let left = poll_coming n r in
    ap₂ (λ coming taken. all_after (record (at_poll n r) { coming = coming }) taken) (ap (later n) left ∙ later_twice n r.coming ∙ sym left) (ap (due n) left ∙ none_due n r.coming)

-- all that is due by now has come
abbrev IsSettled : State → Type 0
IsSettled s = at_poll s.polls s.received ≡ s.received

brought_settles : (n : ℕ) (s : State) → IsSettled (brought_to n s)
brought_settles n s = poll_twice (max s.polls n) s.received

stays : (n : ℕ) (s : State) → n ≤ s.polls → IsSettled s → brought_to n s ≡ s
stays n s past settled =
    ap (λ p. record s { polls = p; received = at_poll p s.received }) (omega arith) ∙ ap (λ r. record s { received = r }) settled

else_same : (b : Bool) (now some other : Option State) → (b ≡ false → some ≡ other) → cond b now some ≡ cond b now other
else_same true now some other same = refl
else_same false now some other same = same refl

-- events that have come already are passed over
passed_by : (m : ℕ) (event : Event) (events : List Event) (s : State) (b : Bool) → is_due m event ≡ b → m ≤ s.polls → IsSettled s → is_enabled s ≡ false
    → ((t : State) → m ≤ t.polls → IsSettled t → is_enabled t ≡ false → wake_by events t ≡ wake_by (later m events) t)
    → wake_by (event ∷ events) s ≡ wake_by (cond (not b) (event ∷ later m events) (later m events)) s
passed_by m event events s true is past settled off rest =
    let low : event.at ≤ s.polls = let below : event.at ≤ m = grind (arith, nat_tests) in omega (arith, below, past) in
    ap (λ t. cond (is_enabled t) (Some t) (wake_by events t)) (stays event.at s low settled)
    ∙ ap (λ b. cond b (Some s) (wake_by events s)) off ∙ rest s past settled off
passed_by m event events s false is past settled off rest =
    let next = brought_to event.at s in
    else_same (is_enabled next) (Some next) (wake_by events next) (wake_by (later m events) next) (λ still. rest next (omega (arith, past)) (brought_settles event.at s) still)

passed : (m : ℕ) (events : List Event) (s : State) → m ≤ s.polls → IsSettled s → is_enabled s ≡ false → wake_by events s ≡ wake_by (later m events) s
passed m [] s past settled off = refl
passed m (event ∷ events) s past settled off = passed_by m event events s (is_due m event) refl past settled off (passed m events)

due_now : (p : ℕ) (event : Event) → is_due (max p event.at) event ≡ true
due_now p event = grind (arith, nat_tests)

wake_never : (s : State) → is_enabled s ≡ false → s.received.coming ≡ [] → wake s ≡ None
unfolding wake
wake_never s off is = ap₂ (λ b events. cond b (Some s) (wake_by events s)) off is

wake_later : (s : State) (event : Event) (events : List Event) → is_enabled s ≡ false → s.received.coming ≡ event ∷ events → wake s ≡ wake (brought_to event.at s)
unfolding wake
wake_later s event events off is =
    let next = brought_to event.at s in
    let left : next.received.coming ≡ later next.polls events =
    poll_coming next.polls s.received ∙ ap (later next.polls) is ∙ ap (λ b. cond (not b) (event ∷ later next.polls events) (later next.polls events)) (due_now s.polls event) in
    ap₂ (λ b coming. cond b (Some s) (wake_by coming s)) off is
    ∙ else_same (is_enabled next) (Some next) (wake_by events next) (wake_by next.received.coming next)
    (λ still. passed next.polls events next (omega arith) (brought_settles event.at s) still ∙ ap (λ coming. wake_by coming next) (sym left))

pub is_wake : (s : State) → IsWake s
is_wake s = record { now = wake_now s; never = wake_never s; later = wake_later s }
