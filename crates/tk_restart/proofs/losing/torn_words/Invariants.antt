use Rattle.std.proofs.Common.{◌≡◌, ℕ, ◌/◌, ◌<◌, slice_index, length}
use Rattle.std.specs.Prelude.{◌^◌}
use Rattle.base.specs.Sequences.{next_number}
use Rattle.tk_restart.proofs.TornWords.{number_at}
use Rattle.tk_restart.proofs.losing.torn_words.Given as goal

-- the numbers so far are in their places, and the next one follows
abbrev pub invariant-words : goal.invariant-words
invariant-words l = record {
  long : length l.words ≡ 128;
  number : next_number l.x ≡ number_at l.op l.k;
  done : (j : ℕ) → j < l.k → slice_index l.words j ≡ number_at l.op j / 2 ^ 16;
}
