use Rattle.kernel_entry.specs.Left.{Leaves}
use Rattle.kernel_entry.specs.Services.{served}
use Rattle.kernel_entry.proofs.ServedLaws.{along, served_leaves}
use Rattle.kernel_entry.proofs.services.serve_told.Goals as goal

pub returns-clause-leaves : goal.returns-clause-leaves
returns-clause-leaves c =
    along (λ result new. Leaves c.args.k.now new) (c.serve_at.result.0, c.serve_at.new.k) (served c.args.k.now) c.serve_at.ensures.served (served_leaves c.args.k.now c.requires.can)
