-- How a machine stands behind its run, by what the run leaves.
use Rattle.std.proofs.Common.{◌≡◌, Bool, true, false, None, sym, ap, ◌∙◌, subst}
use Rattle.tkernel_cli.specs.Runs.{Runs, KeepsEnd, original_of}
use Rattle.tkernel_cli.specs.GoingOn.{CountsAreExact, SpentStandBetween}

pub spent_stand_between : SpentStandBetween
spent_stand_between request start m front before now told run spent =
    let going : m.end ≡ None = subst (λ e. KeepsEnd e m) spent run.end in
    record { ready = run.ready.going going; quiet = run.ready.quiet going; stands = run.follows.at.state ∙ ap (λ n. (original_of request n).state) (sym (run.all spent)) }

pub counts_are_exact : CountsAreExact
counts_are_exact request m before now told (Runs.Ended unlisted run) whole = run.ready.exact
counts_are_exact request m before now told (Runs.Failed run) whole = run.ready.exact
counts_are_exact request m before now told (Runs.Cut run) whole = absurd (let e : ◌≡◌ {A = Bool} true false = sym run.broken ∙ whole in cc)
