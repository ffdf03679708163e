use Rattle.std.proofs.Common.{◌≡◌, Bool, ℕ}
use Rattle.std.specs.Prelude.{Option, Some, None, IfSome}
use Rattle.kernel_entry.specs.declared.kernel.Kernel.{Kernel}
use Rattle.kernel_entry.specs.declared.kernel.Served.TheVariants as answers
use Rattle.kernel_entry.specs.Conditions.{CanServe}
use Rattle.kernel_entry.specs.Left.{Leaves}
use Rattle.kernel_entry.specs.Services.{served}
use Rattle.kernel_entry.proofs.ServedLaws.{along, served_leaves}
use Rattle.kernel_entry.proofs.at_once.return_at_once.Goals as goal

leaves_by : (k next : Kernel) (result : Option (ℕ × Bool)) → CanServe k → IfSome result (λ told. (answers.Goto told.0 None, next) ≡ served k) → IfSome result (λ _. Leaves k next)
leaves_by k next (Some told) can is = along (λ answer new. Leaves k new) (answers.Goto told.0 None, next) (served k) is (served_leaves k can)
leaves_by k next None can is = is

pub returns-then-entry-clause-leaves : goal.returns-then-entry-clause-leaves
returns-then-entry-clause-leaves c = leaves_by c.args.k.now c.go_back.new.k c.go_back.result c.requires.can c.go_back.ensures.served
