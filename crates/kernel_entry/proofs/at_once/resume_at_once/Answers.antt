use Rattle.std.specs.Prelude.{None}
use Rattle.kernel_entry.specs.declared.kernel.Served.TheVariants as answers
use Rattle.kernel_entry.specs.Left.{Leaves}
use Rattle.kernel_entry.specs.Services.{served}
use Rattle.kernel_entry.proofs.ServedLaws.{along, served_leaves}
use Rattle.kernel_entry.proofs.at_once.resume_at_once.Goals as goal

pub returns-then-entry-lt-RETURN : goal.returns-then-entry-lt-RETURN
returns-then-entry-lt-RETURN c =
    let k = c.args.k.now in
    record {
      served = c.resume.ensures.served;
      due = c.resume.ensures.due;
      leaves = λ yes. along (λ result new. Leaves k new) (answers.Resume None, c.resume.new.k) (served k) (c.resume.ensures.served yes) (served_leaves k c.requires.can);
      none = c.resume.ensures.none;
    }
