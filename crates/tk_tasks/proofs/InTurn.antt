-- What goes out in turn.
use Rattle.std.proofs.Common.{◌≡◌, ℕ, ◌+◌, ◌-◌, ◌*◌, ◌%◌, ◌<◌, ◌≤◌, List, [], ◌++◌, length, take, sym, ap, ◌∙◌, arith, append-nil, length-append, inl, inr}
use Rattle.std.specs.Prelude.{Option, Result, Ok, Err}
use Rattle.std.proofs.lemmas.Bool.{cases_lt}
use Rattle.std.specs.Io.KnownBytes.{Appends}
use Rattle.byte_streams.specs.Streams.{IsSent, Puts}
use Rattle.byte_streams.proofs.KnownBytes.{appends-both, appends-nothing}
use Rattle.printed_text.specs.Gathering.{turn_steps}
use Rattle.printed_text.proofs.Gathered.{all_on, sent_on}
use Rattle.task_turns.specs.Turns.{Told, After, tries}
use Rattle.tk_tasks.specs.States.{Tasks, turns_of}
use Rattle.tk_tasks.specs.Plays.{Play, TaskPath, told_of, told_text}
use Rattle.tk_tasks.specs.InTurn.{HadAllTold, GoOutInTurn, WentOutInTurn}
use Rattle.tk_tasks.specs.Running.{IsUnderWay}
use Rattle.tk_tasks.specs.Trying.{HasPlayed}
use Rattle.tk_tasks.proofs.Paths.{path_tries, path_shortest}

-- behind the tries so far, with nothing gathered since
went_out : {K : Type 0} (taken : K → Option (List ℕ)) (n : ℕ) (old now : Tasks) (before after later : K) (gathered left : List ℕ) → (way : IsUnderWay n old now gathered (taken before) (taken after))
    → IsSent (gathered ++ []) left (taken after) (taken later) → left ≡ []
    → HadAllTold taken n old before later (length way.plays)
went_out taken n old now before after later gathered left way sent empty =
    let q = old.kernel.quantum in
    let text = told_text q (told_of way.plays) in
    let same : text ≡ told_text q (tries (length way.plays) (turns_of n old)).told = ap (λ (a : After). told_text q a.told) (sym (path_tries n old way.plays now way.path)) in
    let out : IsSent text left (taken before) (taken later) = rw (append-nil text) at (sent_on text gathered [] left (taken before) (taken after) (taken later) way.sent sent) in
    record {
      sink = later;
      put = rw same at (all_on text left (taken before) (taken later) (taken later) out (rw empty (appends-nothing (taken later))));
      later = ([], appends-nothing (taken later));
    }

-- what the sink took then is behind what it had taken before
pub turns_later : {K : Type 0} (taken : K → Option (List ℕ)) (n : ℕ) (old : Tasks) (before mid after : K) (count : ℕ) → GoOutInTurn taken n old before mid count
    → (bytes : List ℕ) × Appends (taken mid) (taken after) bytes → GoOutInTurn taken n old before after count
turns_later taken n old before mid after count turns more turn below =
    let had = turns turn below in
    record { sink = had.sink; put = had.put; later = (had.later.0 ++ more.0, appends-both (taken had.sink) (taken mid) (taken after) had.later.0 more.0 had.later.1 more.1) }

pub went_later : {K : Type 0} (taken : K → Option (List ℕ)) (n : ℕ) (old new : Tasks) (before mid after : K) → WentOutInTurn taken n old new before mid
    → (bytes : List ℕ) × Appends (taken mid) (taken after) bytes → WentOutInTurn taken n old new before after
went_later taken n old new before mid after went more = record { count = went.count; stand = went.stand; turns = turns_later taken n old before mid after went.count went.turns more }

pub puts_more : {T E : Type 0} (result : Result T E) (before after : Option (List ℕ)) (bytes : List ℕ) → Puts before after result bytes → (more : List ℕ) × Appends before after more
puts_more (Ok done) before after bytes put = (bytes, put)
puts_more (Err e) before after bytes cut = (take cut.0 bytes, cut.2)

-- up to the next turn
pub told_on_turns : {K : Type 0} (taken : K → Option (List ℕ)) (n : ℕ) (old now new : Tasks) (before after later : K) (done count : ℕ) (gathered left : List ℕ) (told : List Told)
    → (way : IsUnderWay n old now gathered (taken before) (taken after))
    → GoOutInTurn taken n old before after (length way.plays) → done ≡ length way.plays % turn_steps → IsSent (gathered ++ []) left (taken after) (taken later) → (done % turn_steps ≡ 0 → left ≡ [])
    → (played : HasPlayed n now new told count)
    → count ≤ turn_steps - done % turn_steps → GoOutInTurn taken n old before later (length (way.plays ++ played.plays))
told_on_turns taken n old now new before after later done count gathered left told way turns is sent empty played few turn below =
    let all : length (way.plays ++ played.plays) ≡ length way.plays + count = length-append way.plays played.plays ∙ ap (λ k. length way.plays + k) played.counted in
    elim (cases_lt (turn_steps * turn) (length way.plays)) [
      | inl earlier ↦ turns_later taken n old before after later (length way.plays) turns (sent.sent, sent.appended) turn earlier
      | inr later' ↦
          let at : done % 65536 ≡ 0 = omega (arith, below, all, few, is, later') in
          let here : length way.plays ≡ turn_steps * turn = omega (arith, below, all, few, is, later') in
          rw here at (went_out taken n old now before after later gathered left way sent (empty at))
    ]

pub counts_on : (done count : ℕ) (before played : List Play) → done ≡ length before % turn_steps → length played ≡ count → (done + count) % turn_steps ≡ length (before ++ played) % turn_steps
counts_on done count before played is counted = omega (arith, is, counted, length-append before played)

-- so what went out begins with what the tries up to each turn tell
pub begins_in_turn : {K : Type 0} (taken : K → Option (List ℕ)) (n : ℕ) (old new last : Tasks) (before after : K) (plays : List Play) → TaskPath n old plays last → turns_of n new ≡ turns_of n last
    → WentOutInTurn taken n old new before after
    → (turn : ℕ) → turn_steps * turn < length plays → (rest : List ℕ) × Appends (taken before) (taken after) (told_text old.kernel.quantum (tries (turn_steps * turn) (turns_of n old)).told ++ rest)
begins_in_turn taken n old new last before after plays path same went turn below =
    let had = went.turns turn (omega (arith, below, path_shortest n went.count old plays last path (went.stand ∙ same))) in
    (had.later.0, appends-both (taken before) (taken had.sink) (taken after) _ had.later.0 had.put had.later.1)

-- where the tasks stand, and what went out by then
pub went_out_by : {K : Type 0} (taken : K → Option (List ℕ)) (n : ℕ) (old now : Tasks) (before after : K) (plays : List Play) → TaskPath n old plays now
    → GoOutInTurn taken n old before after (length plays) → WentOutInTurn taken n old now before after
went_out_by taken n old now before after plays path turns = record {
  count = length plays;
  stand = ap (λ (a : After). a.turns) (path_tries n old plays now path);
  turns = turns;
}
