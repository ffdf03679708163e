-- Which machine the fields of the type `Machine` hold (docs/MACHINE.md, "The fields"): one that no other program runs beside.
use Rattle.program_steps.specs.Machines.{Machine}
use Rattle.tk_run.specs.declared.machine.Machine.TheInside.{Inside}

abbrev pub value_of : Inside → Machine
value_of m = record {
  kernel = m.kernel;
  at = m.at;
  owed = m.owed;
  end = m.end;
  due = m.due;
  torn = m.torn;
  broken = m.broken;
  steps = m.steps;
  crossings = m.crossings;
  natural = m.natural;
  entries = m.entries;
  pages = m.pages;
  since = m.since;
  longest = m.longest;
  began = m.began;
  others = 0;
}
