use Rattle.std.proofs.Common.{◌≡◌, ap, replicate, ◌∙◌}
use Rattle.std.specs.Prelude.{slice_index}
use Rattle.std.proofs.lemmas.List.{get_or-replicate}
use Rattle.tk_watch.proofs.profile.no_counts.Goals as goal

pub returns-clause-zero : goal.returns-clause-zero
returns-clause-zero c =
    let all : c.in_ok-counts.counts.items ≡ replicate 65536 0 = c.in_ok-counts.ensures.items_if_clones_equal (λ y same. same) in
    λ a below. ap (λ l. slice_index l a) all ∙ get_or-replicate 65536 a 0 0 below
