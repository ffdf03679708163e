use Rattle.step_laws.proofs.MoveLaws.{one_plain, one_service, one_arrival, one_interrupt, plain_or_service, arrival_or_interrupt, ended_stays}
use Rattle.step_laws.proofs.laws.each_move_has_one_outcome.Goals as goal

pub returns : goal.returns
returns c = record {
  plain = one_plain;
  service = one_service;
  arrival = one_arrival;
  interrupt = one_interrupt;
  apart = record { plain_or_service = plain_or_service; arrival_or_interrupt = arrival_or_interrupt };
  last = ended_stays;
}
