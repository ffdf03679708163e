use Rattle.std.proofs.Common.{◌≡◌, ℕ, ◌<◌, ◌≤◌, true, false}
use Rattle.std.specs.Prelude.{slice_index_or}
use Rattle.kept_drafts.proofs.keeping.none_is_known.Given as goal

-- where no entry was seen, none of the addresses that were looked at has one
abbrev pub invariant-offsets : goal.invariant-offsets
invariant-offsets l = l.none ≡ true → (k : ℕ) → l.from ≤ k → k < l.k → slice_index_or l.known k false ≡ false
