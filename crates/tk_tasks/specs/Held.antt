-- Which tasks the fields of the type `Tasks` hold (docs/TASKS.md, "The tasks on a mote").
use Rattle.tk_tasks.specs.States.{Tasks}
use Rattle.tk_tasks.specs.declared.tasks.Tasks.TheInside.{Inside}

abbrev pub value_of : Inside → Tasks
value_of t = record {
  kernel = t.kernel;
  running = t.running;
  stub = t.stub;
  tasks = t.tasks.items;
  broken = t.broken;
  natural = t.natural;
  entries = t.entries;
  pages = t.pages;
  switches = t.switches;
}
