-- Serves private functions: the machine that runs, in parts: its kernel, and all else.
use Rattle.std.specs.Prelude.{◌+◌, max}
use Rattle.kernel_entry.specs.declared.kernel.Kernel.{Kernel}
use Rattle.program_steps.specs.declared.progress.Progress.{Progress}
use Rattle.program_steps.specs.Machines.{Machine}

-- Plain steps are counted up to the last service, and behind it. `longest` is raised at services alone, so it
-- may be behind `since`. The line isn't part of the machine.
abbrev pub whole : Kernel → Progress → Machine
whole k p = record {
  kernel = k;
  at = p.at;
  owed = p.owed;
  end = p.end;
  due = p.due;
  torn = p.torn;
  broken = p.broken;
  steps = p.steps;
  crossings = p.crossings;
  natural = p.before + p.since;
  entries = p.entries;
  pages = p.pages;
  since = p.since;
  longest = max p.longest p.since;
  began = p.began;
  others = p.others;
}

-- a service begins: the plain steps up to it are counted
abbrev pub entered : Progress → Progress
entered p = record p { before = p.before + p.since; entries = p.entries + 1; since = 0; longest = max p.longest p.since }
