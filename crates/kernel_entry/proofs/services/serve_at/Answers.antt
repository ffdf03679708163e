use Rattle.std.proofs.Common.{sym, ◌∙◌}
use Rattle.kernel_entry.proofs.Running.{run_called}
use Rattle.kernel_entry.proofs.services.serve_at.Goals as goal

pub executes-requires : goal.executes-requires
executes-requires c = record { can = c.requires.can; at = c.requires.at }

pub run-requires : goal.run-requires
run-requires c =
    let run = sym c.executes.ensures.value ∙ c.if-executes.true in
    record { can = c.requires.can; at = c.requires.at; called = run_called c.args.k.now c.requires.can run; run = run }

pub serve_apart-requires : goal.serve_apart-requires
serve_apart-requires c = record { can = c.requires.can; at = c.requires.at; apart = sym c.executes.ensures.value ∙ c.if-executes.false }

pub returns-then-executes : goal.returns-then-executes
returns-then-executes c = record { served = c.run.ensures.served; due = c.run.ensures.due }

pub returns-else-executes : goal.returns-else-executes
returns-else-executes c = record { served = c.serve_apart.ensures.served; due = c.serve_apart.ensures.due }
