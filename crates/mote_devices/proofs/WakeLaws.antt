-- What SLEEP waits for: the first event that brings an enabled interrupt.
use Rattle.std.proofs.Common.{◌+◌, ◌≡◌, ℕ, zero, suc, ◌*◌, ◌^◌, ◌<◌, ◌≤◌, Bool, true, false, not, ◌&&◌, ◌||◌, ◌==◌, leb, cond, List, [], ◌∷◌, length, get_or, drop, arith, refl, sym, ap, ap₂, subst}
use Rattle.std.proofs.Common.{◌∙◌}
use Rattle.std.proofs.lemmas.Bool.{and_parts}
use Rattle.std.proofs.lemmas.Bool.Decides.{nat_tests}
use Rattle.std.proofs.lemmas.Nat.{and_or_apart, and_comm}
use Rattle.std.proofs.lemmas.Nat.Bits.{and_pow, bit_at_and, bit_at_or, bit_at-zero, bit_at-pow_same, bit_at-lt}
use Rattle.std.specs.Int.{bit_at}
use Rattle.std.specs.Prelude.{◌≢◌, bit_and, bit_or, nat_lt, max, Option, Some, None, AllPairs, if◌then◌else◌}
use Rattle.std.specs.Option.{option_map}
use Rattle.input_script.specs.declared.input.Input.{Input}
use Rattle.input_script.specs.declared.input.Input.TheVariants.{Pin, Uart, Adc, Int}
use Rattle.input_script.specs.declared.input.Event.{Event}
use Rattle.mote_devices.specs.Inputs.{Received, after_input, is_due, at_poll}
use Rattle.mote_devices.specs.State.{State, stored, mask_address}
use Rattle.mote_devices.specs.Waking.{is_enabled, brought_to, wake_by, wake, calls, first_call, Rising}
use Rattle.mote_devices.specs.Queue.{first_is_due, first_taken, with_first}
use Rattle.std.proofs.lemmas.List.Elements.{filter-append}
use Rattle.std.proofs.lemmas.List.{get_or-drop, length-drop}
use Rattle.std.specs.Prelude.{All}
use Rattle.input_script.specs.Script.{is_input_in_range}
use Rattle.mote_devices.specs.Waking.{Timely}
use Rattle.std.proofs.Common.{append_assoc, ◌++◌}
use Rattle.mote_devices.proofs.PollLaws.{coming_kept, not_due, at_poll-with_first, at_poll-none, NoneDue, all_after, due, later}

-- events in order
rising_by : (events : List Event) (n : ℕ) → ((k : ℕ) (d : Event) → k < length events → n ≤ (get_or events k d).at) → AllPairs (λ (earlier : Event) (later : Event). earlier.at ≤ later.at) events
    → Rising n events
rising_by [] n first ordered = tt
rising_by (event ∷ events) n first ordered = (
  first 0 event (omega arith),
  rising_by events event.at (λ k d below. ordered 0 (suc k) d (omega arith) (omega arith)) (λ i j d less below. ordered (suc i) (suc j) d (omega arith) (omega arith)),
)

rising_from : (m n : ℕ) (events : List Event) → m ≤ n → Rising n events → Rising m events
rising_from m n [] less rising = tt
rising_from m n (event ∷ events) less rising = (omega (arith, rising.0), rising.1)

rising_drop : (k n : ℕ) (events : List Event) → Rising n events → Rising n (drop k events)
rising_drop zero n events rising = rising
rising_drop (suc k) n [] rising = tt
rising_drop (suc k) n (event ∷ events) rising = rising_drop k n events (rising_from n event.at events rising.0 rising.1)

pub rising_behind : (k : ℕ) (events : List Event) → AllPairs (λ (earlier : Event) (later : Event). earlier.at ≤ later.at) events → Rising 0 (drop k events)
rising_behind k events ordered = rising_drop k 0 events (rising_by events 0 (λ k d below. omega arith) ordered)

-- one input
abbrev awake : ℕ → ℕ → Bool
awake mask pending = not (bit_and pending mask == 0)

or_false : (b : Bool) → b ≡ b || false
or_false true = refl
or_false false = refl

or_true : (b : Bool) → true ≡ b || true
or_true true = refl
or_true false = refl

not_zero : (n : ℕ) → n ≢ 0 → not (n == 0) ≡ true
not_zero n some = grind (arith, nat_tests)

bit_brought : (mask pending k : ℕ) (b : Bool) → (bit_at mask k == 1) ≡ b → awake mask (bit_or pending (2 ^ k)) ≡ awake mask pending || b
bit_brought mask pending k false is =
    let low = bit_at-lt mask k in
    let none : bit_at mask k ≡ 0 = grind (arith, nat_tests) in
    let apart : bit_and (2 ^ k) mask ≡ 0 = and_comm (2 ^ k) mask ∙ and_pow mask k ∙ ap (λ b. b * 2 ^ k) none ∙ omega arith in
    ap (λ n. not (n == 0)) (and_or_apart mask pending (2 ^ k) apart) ∙ or_false (awake mask pending)
bit_brought mask pending k true is =
    let one : bit_at mask k ≡ 1 = grind (arith, nat_tests) in
    let there = bit_at_and (bit_or pending (2 ^ k)) mask k in
    let set = bit_at_or pending (2 ^ k) k in
    let own = bit_at-pow_same k in
    let low = bit_at-lt pending k in
    let some : bit_and (bit_or pending (2 ^ k)) mask ≢ 0 = λ none. absurd (let zero = ap (λ n. bit_at n k) none ∙ bit_at-zero k in omega arith) in
    not_zero _ some ∙ or_true (awake mask pending)

int_brought : (mask pending k : ℕ) (b : Bool) → nat_lt k 8 ≡ b → awake mask (cond b (bit_or pending (2 ^ k)) pending) ≡ awake mask pending || (b && (bit_at mask k == 1))
int_brought mask pending k true small = bit_brought mask pending k (bit_at mask k == 1) refl
int_brought mask pending k false large = or_false (awake mask pending)

brought_awake : (mask : ℕ) (r : Received) (input : Input) → awake mask (after_input r input).pending ≡ awake mask r.pending || calls mask input
brought_awake mask r (Pin port value) = or_false (awake mask r.pending)
brought_awake mask r (Uart byte) = or_false (awake mask r.pending)
brought_awake mask r (Adc value) = or_false (awake mask r.pending)
brought_awake mask r (Int k) = int_brought mask r.pending k (nat_lt k 8) refl

-- all events that are due
abbrev any_calls : ℕ → List Event → Bool
any_calls mask [] = false
any_calls mask (event ∷ events) = calls mask event.input || any_calls mask events

or_assoc : (a b c : Bool) → a || (b || c) ≡ (a || b) || c
or_assoc true b c = refl
or_assoc false b c = refl

all_awake : (mask : ℕ) (r : Received) (events : List Event) → awake mask (all_after r events).pending ≡ awake mask r.pending || any_calls mask events
all_awake mask r [] = or_false (awake mask r.pending)
all_awake mask r (event ∷ events) =
    all_awake mask (after_input r event.input) events
    ∙ ap (λ b. b || any_calls mask events) (brought_awake mask r event.input)
    ∙ sym (or_assoc (awake mask r.pending) (calls mask event.input) (any_calls mask events))

poll_awake : (mask n : ℕ) (r : Received) → awake mask (at_poll n r).pending ≡ awake mask r.pending || any_calls mask (due n r.coming)
unfolding at_poll
poll_awake mask n r = all_awake mask (record r { coming = later n r.coming }) (due n r.coming)

-- whether an interrupt is enabled at a later number
enabled_at : (s : State) (n : ℕ) → is_enabled s ≡ false → is_enabled (brought_to n s) ≡ any_calls (stored s mask_address) (due (max s.polls n) s.received.coming)
enabled_at s n off = poll_awake (stored s mask_address) (max s.polls n) s.received ∙ ap (λ b. b || any_calls (stored s mask_address) (due (max s.polls n) s.received.coming)) off

any_append : (mask : ℕ) (a b : List Event) → any_calls mask (a ++ b) ≡ any_calls mask a || any_calls mask b
any_append mask [] b = refl
any_append mask (event ∷ a) b = ap (λ c. calls mask event.input || c) (any_append mask a b) ∙ or_assoc (calls mask event.input) (any_calls mask a) (any_calls mask b)

any_due_by : (mask m : ℕ) (event : Event) (events : List Event) (b c : Bool) → calls mask event.input ≡ b → is_due m event ≡ c → calls mask event.input || any_calls mask events ≡ false
    → (any_calls mask events ≡ false → any_calls mask (due m events) ≡ false) → any_calls mask (due m (event ∷ events)) ≡ false
any_due_by mask m event events true c is now none rest = absurd (let e : true ≡ false = sym (ap (λ b. b || any_calls mask events) is) ∙ none in cc)
any_due_by mask m event events false true is now none rest =
    ap (λ d. any_calls mask (cond d (event ∷ due m events) (due m events))) now ∙ ap (λ b. b || any_calls mask (due m events)) is
    ∙ rest (sym (ap (λ b. b || any_calls mask events) is) ∙ none)
any_due_by mask m event events false false is late none rest =
    ap (λ d. any_calls mask (cond d (event ∷ due m events) (due m events))) late ∙ rest (sym (ap (λ b. b || any_calls mask events) is) ∙ none)

any_due : (mask m : ℕ) (events : List Event) → any_calls mask events ≡ false → any_calls mask (due m events) ≡ false
any_due mask m [] none = refl
any_due mask m (event ∷ events) none = any_due_by mask m event events (calls mask event.input) (is_due m event) refl refl none (any_due mask m events)

-- late events
late_none : (m n : ℕ) (events : List Event) → m < n → Rising n events → due m events ≡ []
late_none m n [] late rising = refl
late_none m n (event ∷ events) late rising =
    ap (λ d. cond d (event ∷ due m events) (due m events)) (not_due m event (omega (arith, rising.0))) ∙ late_none m event.at events (omega (arith, rising.0)) rising.1

abbrev Found : (mask m low : ℕ) → List Event → Type 0
Found mask m low events = (n : ℕ) × (first_call mask events ≡ Some n) × (low ≤ n) × (n ≤ m)

found_by : (mask m low : ℕ) (event : Event) (events : List Event) (b c : Bool) → calls mask event.input ≡ b → is_due m event ≡ c → low ≤ event.at → Rising event.at events
    → any_calls mask (due m (event ∷ events)) ≡ true → (any_calls mask (due m events) ≡ true → Found mask m event.at events) → Found mask m low (event ∷ events)
found_by mask m low event events true true is now above rising some rest =
    (event.at, ap (λ d. cond d (Some event.at) (first_call mask events)) is, above, grind (arith, nat_tests))
found_by mask m low event events true false is late above rising some rest =
    let beyond : m < event.at = grind (arith, nat_tests) in
    let none : due m (event ∷ events) ≡ [] = ap (λ d. cond d (event ∷ due m events) (due m events)) late ∙ late_none m event.at events beyond rising in
    absurd (let e : true ≡ false = sym some ∙ ap (any_calls mask) none in cc)
found_by mask m low event events false true is now above rising some rest =
    let r = rest (sym (ap (λ d. any_calls mask (cond d (event ∷ due m events) (due m events))) now ∙ ap (λ b. b || any_calls mask (due m events)) is) ∙ some) in
    (r.0, ap (λ d. cond d (Some event.at) (first_call mask events)) is ∙ r.1, omega (arith, r.2, above), r.3)
found_by mask m low event events false false is late above rising some rest =
    let r = rest (sym (ap (λ d. any_calls mask (cond d (event ∷ due m events) (due m events))) late) ∙ some) in
    (r.0, ap (λ d. cond d (Some event.at) (first_call mask events)) is ∙ r.1, omega (arith, r.2, above), r.3)

found : (mask m low : ℕ) (events : List Event) → Rising low events → any_calls mask (due m events) ≡ true → Found mask m low events
found mask m low [] rising some = absurd (cc)
found mask m low (event ∷ events) rising some =
    found_by mask m low event events (calls mask event.input) (is_due m event) refl refl rising.0 rising.1 some (found mask m event.at events rising.1)

-- the first number at which one is enabled
abbrev find_by : List Event → State → Option State
find_by [] s = None
find_by (event ∷ events) s = if is_enabled (brought_to event.at s) then Some (brought_to event.at s) else find_by events s

due_max : (p n : ℕ) (event : Event) → event.at ≡ n → is_due (max p n) event ≡ true
due_max p n event is = grind (arith, nat_tests)

same_number : (s : State) (n m : ℕ) → m ≤ n → n ≤ max s.polls m → brought_to n s ≡ brought_to m s
same_number s n m low high =
    ap (λ p. record s { polls = p; received = at_poll p s.received }) (omega arith)

abbrev IsFirst : State → List Event → Type 0
IsFirst s events = find_by events s ≡ option_map (λ n. brought_to n s) (first_call (stored s mask_address) events)

enabled_behind : (s : State) (n : ℕ) (front events : List Event) → is_enabled s ≡ false → s.received.coming ≡ front ++ events → any_calls (stored s mask_address) front ≡ false
    → is_enabled (brought_to n s) ≡ any_calls (stored s mask_address) (due (max s.polls n) events)
enabled_behind s n front events off cut none =
    let mask = stored s mask_address in
    let m = max s.polls n in
    enabled_at s n off ∙ ap (λ l. any_calls mask (due m l)) cut ∙ ap (any_calls mask) (filter-append (is_due m) front events) ∙ any_append mask (due m front) (due m events)
    ∙ ap (λ b. b || any_calls mask (due m events)) (any_due mask m front none)

first_by : (s : State) (front : List Event) (event : Event) (events : List Event) (b c : Bool) → is_enabled s ≡ false → s.received.coming ≡ front ++ event ∷ events
    → any_calls (stored s mask_address) front ≡ false
    → Rising event.at events → calls (stored s mask_address) event.input ≡ b → is_enabled (brought_to event.at s) ≡ c
    → (any_calls (stored s mask_address) (front ++ event ∷ []) ≡ false → IsFirst s events) → IsFirst s (event ∷ events)
first_by s front event events true c off cut none rising is now rest =
    let mask = stored s mask_address in
    let m = max s.polls event.at in
    let there : any_calls mask (due m (event ∷ events)) ≡ true = ap (λ d. any_calls mask (cond d (event ∷ due m events) (due m events))) (due_max s.polls event.at event refl)
    ∙ ap (λ b. b || any_calls mask (due m events)) is in
    ap (λ d. cond d (Some (brought_to event.at s)) (find_by events s)) (enabled_behind s event.at front (event ∷ events) off cut none ∙ there)
    ∙ sym (ap (λ d. option_map (λ n. brought_to n s) (cond d (Some event.at) (first_call mask events))) is)
first_by s front event events false true off cut none rising is now rest =
    let mask = stored s mask_address in
    let m = max s.polls event.at in
    let there : any_calls mask (due m (event ∷ events)) ≡ true = sym (enabled_behind s event.at front (event ∷ events) off cut none) ∙ now in
    let on : any_calls mask (due m events) ≡ true =
    sym (ap (λ d. any_calls mask (cond d (event ∷ due m events) (due m events))) (due_max s.polls event.at event refl) ∙ ap (λ b. b || any_calls mask (due m events)) is) ∙ there in
    let f = found mask m event.at events rising on in
    ap (λ d. cond d (Some (brought_to event.at s)) (find_by events s)) now
    ∙ ap Some (sym (same_number s f.0 event.at f.2 f.3))
    ∙ sym (ap (λ d. option_map (λ n. brought_to n s) (cond d (Some event.at) (first_call mask events))) is ∙ ap (option_map (λ n. brought_to n s)) f.1)
first_by s front event events false false off cut none rising is now rest =
    let mask = stored s mask_address in
    ap (λ d. cond d (Some (brought_to event.at s)) (find_by events s)) now ∙ rest (any_append mask front (event ∷ []) ∙ ap₂ (λ a b. a || (b || false)) none is)
    ∙ sym (ap (λ d. option_map (λ n. brought_to n s) (cond d (Some event.at) (first_call mask events))) is)

first_of : (s : State) (front events : List Event) (low : ℕ) → is_enabled s ≡ false → s.received.coming ≡ front ++ events → any_calls (stored s mask_address) front ≡ false → Rising low events
    → IsFirst s events
first_of s front [] low off cut none rising = refl
first_of s front (event ∷ events) low off cut none rising =
    first_by s front event events (calls (stored s mask_address) event.input) (is_enabled (brought_to event.at s)) off cut none rising.1 refl refl
    (λ more. first_of s (front ++ event ∷ []) events event.at off (cut ∙ sym (append_assoc front (event ∷ []) events)) more rising.1)

-- one event after another leads to the same
none_of : (m n : ℕ) (events : List Event) → m < n → Rising n events → NoneDue m events
none_of m n [] late rising k d below = absurd (omega arith)
none_of m n (event ∷ events) late rising zero d below = omega (arith, rising.0)
none_of m n (event ∷ events) late rising (suc k) d below = none_of m event.at events (omega (arith, rising.0)) rising.1 k d (omega arith)

twice_by : (m n : ℕ) (event : Event) (events : List Event) (r : Received) (b : Bool) → m ≤ n → Rising event.at events → r.coming ≡ event ∷ events → is_due m event ≡ b
    → at_poll n (at_poll m (with_first r)) ≡ at_poll n (with_first r) → at_poll n (at_poll m r) ≡ at_poll n r
twice_by m n event events r true less rising coming now rest =
    ap (at_poll n) (sym (at_poll-with_first m r (ap (first_is_due m) coming ∙ now))) ∙ rest ∙ at_poll-with_first n r (ap (first_is_due n) coming ∙ grind (arith, nat_tests))
twice_by m n event events r false less rising coming late rest =
    let beyond : m < event.at = grind (arith, nat_tests) in
    ap (at_poll n) (at_poll-none m r (subst (NoneDue m) (sym coming) (none_of m event.at (event ∷ events) beyond (omega arith, rising))))

first_left : (r : Received) (event : Event) (events : List Event) → r.coming ≡ event ∷ events → (with_first r).coming ≡ events
first_left r event events coming = ap (λ l. (first_taken r l).coming) coming ∙ coming_kept (record r { coming = events }) event.input

twice : (m n low : ℕ) (events : List Event) (r : Received) → m ≤ n → Rising low events → r.coming ≡ events → at_poll n (at_poll m r) ≡ at_poll n r
twice m n low [] r less rising coming = ap (at_poll n) (at_poll-none m r (subst (NoneDue m) (sym coming) (λ k d below. absurd (omega arith))))
twice m n low (event ∷ events) r less rising coming =
    twice_by m n event events r (is_due m event) less rising.1 coming refl (twice m n event.at events (with_first r) less rising.1 (first_left r event events coming))

brought_twice : (s : State) (n m low : ℕ) → n ≤ m → Rising low s.received.coming → brought_to m (brought_to n s) ≡ brought_to m s
brought_twice s n m low less rising =
    ap (λ p. record s { polls = p; received = at_poll p (at_poll (max s.polls n) s.received) }) (omega arith)
    ∙ ap (λ r. record s { polls = max s.polls m; received = r }) (twice (max s.polls n) (max s.polls m) low s.received.coming s.received (omega arith) rising refl)

wake_on : (s : State) (n low : ℕ) (events : List Event) → Rising low s.received.coming → Rising n events → wake_by events (brought_to n s) ≡ find_by events s
wake_on s n low [] rising up = refl
wake_on s n low (event ∷ events) rising up =
    ap (λ t. cond (is_enabled t) (Some t) (wake_by events t)) (brought_twice s n event.at low up.0 rising)
    ∙ ap (cond (is_enabled (brought_to event.at s)) (Some (brought_to event.at s))) (wake_on s event.at low events rising up.1)

wake_find : (s : State) (low : ℕ) (events : List Event) → Rising low s.received.coming → Rising low events → wake_by events s ≡ find_by events s
wake_find s low [] rising up = refl
wake_find s low (event ∷ events) rising up = ap (cond (is_enabled (brought_to event.at s)) (Some (brought_to event.at s))) (wake_on s event.at low events rising up.1)

-- where no interrupt is enabled
pub wake_first : (s : State) → is_enabled s ≡ false → Rising 0 s.received.coming → wake s ≡ option_map (λ n. brought_to n s) (first_call (stored s mask_address) s.received.coming)
unfolding wake
wake_first s off rising =
    ap (λ b. cond b (Some s) (wake_by s.received.coming s)) off ∙ wake_find s 0 s.received.coming rising rising ∙ first_of s [] s.received.coming 0 off refl refl rising

pub wake_now : (s : State) → is_enabled s ≡ true → wake s ≡ Some s
unfolding wake
wake_now s on = ap (λ b. cond b (Some s) (wake_by s.received.coming s)) on

-- numbers of 32 bits
pub timely_behind : (k : ℕ) (events : List Event) → All (λ (event : Event). (leb event.at 4294967295 && is_input_in_range event.input) ≡ true) events
    → All (λ (event : Event). event.at ≤ 4294967295) (drop k events)
timely_behind k events range i d below =
    let event = get_or events (k + i) d in
    let low : leb event.at 4294967295 ≡ true = (and_parts (leb event.at 4294967295) (is_input_in_range event.input) (range (k + i) d (omega (arith, length-drop k events)))).0 in
    let there : event.at ≤ 4294967295 = grind (arith, nat_tests) in
    let same = ap (λ (event : Event). event.at) (get_or-drop k events i d) in
    omega (arith, there, same)

wake_late_by : (s t : State) (event : Event) (events : List Event) (b : Bool) → event.at ≤ 4294967295 → is_enabled (brought_to event.at s) ≡ b
    → cond (is_enabled (brought_to event.at s)) (Some (brought_to event.at s)) (wake_by events (brought_to event.at s)) ≡ Some t
    → (wake_by events (brought_to event.at s) ≡ Some t → t.polls ≤ max (max s.polls event.at) 4294967295) → t.polls ≤ max s.polls 4294967295
wake_late_by s t event events true low on is rest =
    let same : Some (brought_to event.at s) ≡ Some t = sym (ap (λ b. cond b (Some (brought_to event.at s)) (wake_by events (brought_to event.at s))) on) ∙ is in
    let e : brought_to event.at s ≡ t = cc in
    let polls = ap (λ (x : State). x.polls) e in
    omega arith
wake_late_by s t event events false low off is rest =
    let r = rest (sym (ap (λ b. cond b (Some (brought_to event.at s)) (wake_by events (brought_to event.at s))) off) ∙ is) in
    omega arith

wake_late : (s t : State) (events : List Event) → All (λ (event : Event). event.at ≤ 4294967295) events → wake_by events s ≡ Some t → t.polls ≤ max s.polls 4294967295
wake_late s t [] timely is = absurd (cc)
wake_late s t (event ∷ events) timely is =
    wake_late_by s t event events (is_enabled (brought_to event.at s)) (timely 0 event (omega arith)) refl is
    (λ next. wake_late (brought_to event.at s) t events (λ k d below. timely (suc k) d (omega arith)) next)

wake_polls_by : (s t : State) (b : Bool) → Timely s → is_enabled s ≡ b → cond (is_enabled s) (Some s) (wake_by s.received.coming s) ≡ Some t → t.polls ≤ max s.polls 4294967295
wake_polls_by s t true timely on is =
    let same : Some s ≡ Some t = sym (ap (λ b. cond b (Some s) (wake_by s.received.coming s)) on) ∙ is in
    let e : s ≡ t = cc in
    let polls = ap (λ (x : State). x.polls) e in
    omega arith
wake_polls_by s t false timely off is = wake_late s t s.received.coming timely (sym (ap (λ b. cond b (Some s) (wake_by s.received.coming s)) off) ∙ is)

-- however far a SLEEP goes, the count of polls fits 32 bits, or stays
pub wake_polls : (s t : State) → Timely s → wake s ≡ Some t → t.polls ≤ max s.polls 4294967295
unfolding wake
wake_polls s t timely is = wake_polls_by s t (is_enabled s) timely refl is
