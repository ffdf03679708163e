use Rattle.step_laws.proofs.ServiceMoves.{services_have_rows}
use Rattle.step_laws.proofs.laws.each_service_has_its_row.Goals as goal

pub returns : goal.returns
returns c = record { rows = services_have_rows }
