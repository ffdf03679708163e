-- External interrupts: which are enabled, and what SLEEP waits for (ATmega128 datasheet, "External Interrupts").
use Rattle.std.specs.Prelude.{◌≡◌, ℕ, ◌-◌, ◌^◌, ◌≤◌, Bool, true, false, not, ◌&&◌, ◌==◌, nat_lt, max, if◌then◌else◌, List, [], ◌∷◌, Option, Some, None, All, bit_and}
use Rattle.std.specs.Int.{bit_at}
use Rattle.input_script.specs.declared.input.Input.{Input}
use Rattle.input_script.specs.declared.input.Input.TheVariants.{Int}
use Rattle.input_script.specs.declared.input.Event.{Event}
use Rattle.mote_devices.specs.Inputs.{at_poll}
use Rattle.mote_devices.specs.State.{State, stored, mask_address}

-- INTk is no longer pending
abbrev pub without : ℕ → ℕ → ℕ
without pending k = bit_and pending (255 - 2 ^ k)

abbrev pub with_taken : State → ℕ → State
with_taken s k = record s { received = record s.received { pending = without s.received.pending k } }

-- the interrupts that are pending and enabled, INTk in bit k
abbrev pub enabled : State → ℕ
enabled s = bit_and s.received.pending (stored s mask_address)

abbrev pub is_enabled : State → Bool
is_enabled s = not (enabled s == 0)

-- The count of polls is raised to the event's number, where it is below that, and all events that are due take effect.
abbrev pub brought_to : ℕ → State → State
brought_to n s = record s { polls = max s.polls n; received = at_poll (max s.polls n) s.received }

-- The devices once an interrupt is enabled: as they are; or else as the first event leaves them, or the next, and so on;
-- or never.
abbrev pub wake_by : List Event → State → Option State
wake_by [] s = None
wake_by (event ∷ events) s = let next = brought_to event.at s in if is_enabled next then Some next else wake_by events next

unfoldable pub wake : State → Option State
wake s = if is_enabled s then Some s else wake_by s.received.coming s

-- What `wake` does, said without its loop. Where an interrupt is enabled, the devices wake as they are. Otherwise never where no
-- event is left, and else as they do once all has come that is due at the first event's number.
pub record IsWake (s : State) : Type 0 where
  pub now : is_enabled s ≡ true → wake s ≡ Some s
  pub never : is_enabled s ≡ false → s.received.coming ≡ [] → wake s ≡ None
  pub later : (event : Event) (events : List Event) → is_enabled s ≡ false → s.received.coming ≡ event ∷ events → wake s ≡ wake (brought_to event.at s)

-- what SLEEP answers, and leaves
abbrev pub woken_by : State → Option State → Bool × State
woken_by s (Some next) = (true, next)
woken_by s None = (false, s)

abbrev pub woken : State → Bool × State
woken s = woken_by s (wake s)

-- no event to come has a number of more than 32 bits
abbrev pub Timely : State → Type 0
Timely s = All (λ (event : Event). event.at ≤ 4294967295) s.received.coming

-- Serves private functions: the input brings an interrupt of the mask, and the number of the first event that does.
abbrev pub calls : ℕ → Input → Bool
calls mask (Int k) = nat_lt k 8 && (bit_at mask k == 1)
calls mask _ = false

abbrev pub first_call : ℕ → List Event → Option ℕ
first_call mask [] = None
first_call mask (event ∷ events) = if calls mask event.input then Some event.at else first_call mask events

-- events in order, with no number below n
abbrev pub Rising : ℕ → List Event → Type 0
Rising n [] = Unit {0}
Rising n (event ∷ events) = (n ≤ event.at) × Rising event.at events
