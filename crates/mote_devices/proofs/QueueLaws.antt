-- The bytes between two indices of the script's events.
use Rattle.std.proofs.Common.{◌≡◌, ℕ, suc, ◌+◌, ◌-◌, ◌<◌, ◌≤◌, List, [], ◌∷◌, ◌++◌, length, get_or, take, drop, arith, refl, sym, ap, ap₂, ◌∙◌, add-one}
use Rattle.std.specs.List.{flat_map, slice_range}
use Rattle.std.proofs.Math.Seq.{take-suc, drop-cons}
use Rattle.std.proofs.lemmas.List.{get_or-drop, append-nil, length-drop, set_past}
use Rattle.std.proofs.lemmas.Grind.{flat_map-append}
use Rattle.std.specs.Prelude.{slice_set, nat_lt, bit_or, ◌^◌, if◌then◌else◌}
use Rattle.input_script.specs.declared.input.Input.{Input}
use Rattle.input_script.specs.declared.input.Input.TheVariants.{Pin, Uart, Adc, Int}
use Rattle.input_script.specs.declared.input.Event.{Event}
use Rattle.mote_devices.specs.declared.inputs.Inputs.TheInside.{Inside}
use Rattle.mote_devices.specs.Inputs.{Received, after_input}
use Rattle.mote_devices.specs.Queue.{serial_byte, bytes_between, with_first, first_taken}

abbrev brought : Event → List ℕ
brought event = serial_byte event.input

-- none
pub bytes_between-none : (events : List Event) (n : ℕ) → bytes_between events n n ≡ []
unfolding bytes_between
bytes_between-none events n =
    let zero : n - n ≡ 0 = omega arith in
    ap (λ k. flat_map brought (take k (drop n events))) zero

-- the first event's byte, then the others
pub bytes_between-first : (events : List Event) (from to : ℕ) (d : Event) → from < to → to ≤ length events
    → bytes_between events from to ≡ serial_byte (get_or events from d).input ++ bytes_between events (from + 1) to
unfolding bytes_between
bytes_between-first events from to d some within =
    let more : to - from ≡ suc (to - (from + 1)) = omega arith in
    let inside : from < length events = omega arith in
    let whole : slice_range events from to ≡ get_or events from d ∷ take (to - (from + 1)) (drop (suc from) events) = ap₂ take more (drop-cons events from d inside) in
    ap (flat_map brought) whole ∙ ap (λ j. brought (get_or events from d) ++ flat_map brought (take (to - (from + 1)) (drop j events))) (sym (add-one from))

-- the others' bytes, then the last event's
pub bytes_between-last : (events : List Event) (from to : ℕ) (d : Event) → from ≤ to → to < length events
    → bytes_between events from (to + 1) ≡ bytes_between events from to ++ serial_byte (get_or events to d).input
unfolding bytes_between
bytes_between-last events from to d order within =
    let more : to + 1 - from ≡ suc (to - from) = omega arith in
    let inside : to - from < length (drop from events) = omega (arith, length-drop from events) in
    let last : get_or (drop from events) (to - from) d ≡ get_or events to d = get_or-drop from events (to - from) d ∙ ap (λ k. get_or events k d) (omega arith) in
    let whole : slice_range events from (to + 1) ≡ slice_range events from to ++ get_or events to d ∷ [] =
    ap (λ k. take k (drop from events)) more ∙ take-suc (drop from events) (to - from) d inside ∙ ap (λ e. slice_range events from to ++ e ∷ []) last in
    ap (flat_map brought) whole ∙ flat_map-append brought (slice_range events from to) (get_or events to d ∷ [])
    ∙ ap (λ bytes. flat_map brought (slice_range events from to) ++ bytes) (append-nil (brought (get_or events to d)))

-- what is received, where the first `taken` events of a script have taken effect
abbrev pub received_at : List ℕ → ℕ → ℕ → List Event → ℕ → ℕ → Received
received_at pins converter pending script taken serial = record { pins = pins; converter = converter; queue = bytes_between script serial taken; pending = pending; coming = drop taken script }

abbrev pub received_of : Inside → Received
received_of i = received_at i.pins i.converter i.pending i.script.events i.taken i.serial

-- The next event of what is received now takes effect.
module _ (i : Inside) (now : Received) (d : Event) (is_now : received_of i ≡ now) (some : 0 < length now.coming) (order : i.serial ≤ i.taken) where
  within : i.taken < length i.script.events
  within =
      let coming : length (drop i.taken i.script.events) ≡ length now.coming = ap (λ (r : Received). length r.coming) is_now in
      omega (arith, length-drop i.taken i.script.events)

  next_is : (input : Input) → (get_or i.script.events i.taken d).input ≡ input → after_input (record (received_of i) { coming = drop (i.taken + 1) i.script.events }) input ≡ with_first now
  next_is input is =
      rw (← is_now) (sym (
      ap (λ events. first_taken (record (received_of i) { coming = events }) events) (drop-cons i.script.events i.taken d within)
      ∙ ap (λ j. after_input (record (received_of i) { coming = drop j i.script.events }) (get_or i.script.events i.taken d).input) (sym (add-one i.taken))
      ∙ ap (after_input (record (received_of i) { coming = drop (i.taken + 1) i.script.events })) is))

  queue_next : (input : Input) → (get_or i.script.events i.taken d).input ≡ input
      → bytes_between i.script.events i.serial (i.taken + 1) ≡ bytes_between i.script.events i.serial i.taken ++ serial_byte input
  queue_next input is = bytes_between-last i.script.events i.serial i.taken d order within ∙ ap (λ j. bytes_between i.script.events i.serial i.taken ++ serial_byte j) is

  queue_same : (input : Input) → (get_or i.script.events i.taken d).input ≡ input → serial_byte input ≡ []
      → bytes_between i.script.events i.serial (i.taken + 1) ≡ bytes_between i.script.events i.serial i.taken
  queue_same input is none = queue_next input is ∙ ap (λ bytes. bytes_between i.script.events i.serial i.taken ++ bytes) none ∙ append-nil (bytes_between i.script.events i.serial i.taken)

  -- one lemma a kind of input
  pub pin_taken : (port value : ℕ) → (get_or i.script.events i.taken d).input ≡ Pin port value → received_of (record i { pins = slice_set i.pins port value; taken = i.taken + 1 }) ≡ with_first now
  pin_taken port value is = rw (queue_same (Pin port value) is refl) (next_is (Pin port value) is)

  pub other_pin_taken : (port value : ℕ) → (get_or i.script.events i.taken d).input ≡ Pin port value → length i.pins ≤ port → received_of (record i { taken = i.taken + 1 }) ≡ with_first now
  other_pin_taken port value is past = ap (λ changed. received_of (record i { pins = changed; taken = i.taken + 1 })) (sym (set_past i.pins port value past)) ∙ pin_taken port value is

  pub uart_taken : (byte : ℕ) → (get_or i.script.events i.taken d).input ≡ Uart byte → received_of (record i { taken = i.taken + 1 }) ≡ with_first now
  uart_taken byte is = rw (queue_next (Uart byte) is) (next_is (Uart byte) is)

  pub adc_taken : (value : ℕ) → (get_or i.script.events i.taken d).input ≡ Adc value → received_of (record i { converter = value; taken = i.taken + 1 }) ≡ with_first now
  adc_taken value is = rw (queue_same (Adc value) is refl) (next_is (Adc value) is)

  pub int_taken : (k more : ℕ) → (get_or i.script.events i.taken d).input ≡ Int k → more ≡ (if nat_lt k 8 then bit_or i.pending (2 ^ k) else i.pending)
      → received_of (record i { pending = more; taken = i.taken + 1 }) ≡ with_first now
  int_taken k more is same = rw (queue_same (Int k) is refl, same) (next_is (Int k) is)

none_brought : (input : Input) → ((byte : ℕ) → input ≡ Uart byte → ⊥) → serial_byte input ≡ []
none_brought (Uart byte) other = absurd (other byte refl)
none_brought _ other = refl

-- an event that isn't the serial port's brings it nothing
pub passed : (events : List Event) (from to : ℕ) (d : Event) → from < to → to ≤ length events → ((byte : ℕ) → (get_or events from d).input ≡ Uart byte → ⊥)
    → bytes_between events from to ≡ bytes_between events (from + 1) to
passed events from to d some within other =
    bytes_between-first events from to d some within ∙ ap (λ bytes. bytes ++ bytes_between events (from + 1) to) (none_brought (get_or events from d).input other)

pub found : (events : List Event) (from to : ℕ) (d : Event) (byte : ℕ) → from < to → to ≤ length events → (get_or events from d).input ≡ Uart byte
    → bytes_between events from to ≡ byte ∷ bytes_between events (from + 1) to
found events from to d byte some within is =
    bytes_between-first events from to d some within ∙ ap (λ i. serial_byte i ++ bytes_between events (from + 1) to) is
