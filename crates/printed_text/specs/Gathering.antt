-- Serves private functions and the contracts of `add`, `send_in_turn` and `add_task`: lines that are gathered before they go out.
use Rattle.std.specs.Prelude.{ℕ, ◌++◌, List, Option, Result, Ok, Err}
use Rattle.byte_streams.specs.Streams.{CutShort, IsSent}
use Rattle.byte_streams.specs.declared.failure.Failed.{Failed}

-- Bytes were gathered behind others. Of all of these some went out, from the front, and the rest is gathered;
-- or the sink failed, and what went out is a shorter part of them.
abbrev pub Gathers : {T : Type 0} → (old new : List ℕ) → (before after : Option (List ℕ)) → Result T Failed → List ℕ → Type 0
Gathers old new before after (Ok x) bytes = IsSent (old ++ bytes) new before after
Gathers old new before after (Err e) bytes = CutShort before after (old ++ bytes)

-- what was gathered goes out at each step whose number is a multiple of this
abbrev pub turn_steps : ℕ
turn_steps = 65536
