-- What steps leave, once all their lines are put.
use Rattle.std.proofs.Common.{ℕ, ◌-◌, ◌≤◌, List, [], sym, arith, append-nil, subst}
use Rattle.std.specs.Prelude.{is_err, Option, Result, Ok, Err}
use Rattle.std.specs.Io.KnownBytes.{Appends}
use Rattle.byte_streams.specs.Faults.{Rose}
use Rattle.byte_streams.specs.Streams.{CutShort}
use Rattle.byte_streams.specs.declared.failure.Failed.{Failed}
use Rattle.byte_streams.proofs.KnownBytes.{appends-nothing}
use Rattle.printed_text.proofs.Gathered.{all_on, rest_cut}
use Rattle.kernel_entry.specs.declared.kernel.End.{End}
use Rattle.program_steps.specs.Machines.{Machine}
use Rattle.tk_run.specs.Gathering.{MayRun, HasGathered, HasMade}
use Rattle.tk_run.specs.Running.{HasAdvanced}
use Rattle.tk_run.proofs.Advancing.{advanced_whole, advanced_unput}
use Rattle.tk_run.proofs.InTurn.{turns_later}

-- where the sink failed what is still gathered doesn't matter
pub made_failed : {K : Type 0} (taken : K → Option (List ℕ)) (faults : K → ℕ) (old new : Machine) (n : ℕ) (gathered : List ℕ) (before after : K) (e : Failed)
    → HasMade taken faults old new n gathered before after (Err e) → HasMade taken faults old new n [] before after (Err e)
made_failed taken faults old new n gathered before after e made = record { ran = made.ran; turns = made.turns; cause = made.cause }

-- what was gathered last went out, ..
pub made_put : {K : Type 0} (taken : K → Option (List ℕ)) (faults : K → ℕ) (old new : Machine) (n : ℕ) (gathered : List ℕ) (before mid after : K) (end : End)
    → HasMade taken faults old new n gathered before mid (Ok end)
    → Appends (taken mid) (taken after) gathered → faults mid ≤ faults after → HasMade taken faults old new n [] before after (Ok end)
made_put taken faults old new n gathered before mid after end made put later =
    let text = made.ran in
    record {
      ran = record {
        text = text.text;
        advanced = text.advanced;
        sent = record {
          sent = text.text;
          parts = sym (append-nil text.text);
          appended = all_on text.text gathered (taken before) (taken mid) (taken after) text.sent put;
        };
      };
      turns = turns_later taken old before mid after (new.steps - old.steps) made.turns (gathered, put);
      cause = record { later = omega (arith, made.cause.later, later); failed = tt };
    }

-- .. or the sink failed
pub made_unput : {K : Type 0} (taken : K → Option (List ℕ)) (faults : K → ℕ) (old new : Machine) (n : ℕ) (gathered : List ℕ) (before mid after : K) (end : End) (e : Failed) → MayRun old n
    → HasMade taken faults old new n gathered before mid (Ok end)
    → CutShort (taken mid) (taken after) gathered → faults mid ≤ faults after → Rose (faults mid) (faults after) → HasMade taken faults old new n [] before after (Err e)
made_unput taken faults old new n gathered before mid after end e may made cut later rose =
    let text = made.ran in
    record {
      ran = advanced_unput e may.going may.whole text.advanced (rest_cut text.text gathered (taken before) (taken mid) (taken after) text.sent cut);
      turns = turns_later taken old before mid after (new.steps - old.steps) made.turns (_, cut.2);
      cause = record { later = omega (arith, made.cause.later, later); failed = omega (arith, made.cause.later, rose) };
    }

-- with nothing gathered, and the machine marked as broken where the sink failed
pub advanced_made : (result : Result End Failed) (old new : Machine) (n : ℕ) (before after : Option (List ℕ)) → HasGathered old new n [] before after result
    → HasAdvanced old (record new { broken = is_err result }) n before after result
advanced_made (Ok end) old new n before after text =
    let advanced = advanced_whole old new n end text.text before after text.advanced (all_on text.text [] before after after text.sent (appends-nothing after)) in
    subst (λ broken. HasAdvanced old (record new { broken = broken }) n before after (Ok end)) advanced.broken advanced
advanced_made (Err e) old new n before after cut = cut
