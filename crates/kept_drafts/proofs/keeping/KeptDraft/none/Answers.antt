use Rattle.std.proofs.Common.{true≢false, sym, arith}
use Rattle.std.specs.Prelude.{replicate}
use Rattle.kept_drafts.proofs.KeepLaws.{undecoded_stand}
use Rattle.kept_drafts.proofs.keeping.KeptDraft.none.Goals as goal

pub invariant_of-result : goal.invariant_of-result
invariant_of-result c = record { drafted = λ made. absurd (true≢false (sym made)); few = omega arith; micro_ops = undecoded_stand (replicate 128 0) }
