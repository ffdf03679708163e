use Rattle.std.proofs.Common.{refl, arith}
use Rattle.hex_image.proofs.ReadingLemmas.{data_faulty, data_step, data_without_memory}
use Rattle.hex_image.proofs.reading.Reading.take_data.Goals as goal

pub returns-in-Some : goal.returns-in-Some
returns-in-Some c = record {
  step = λ known bytes given is. data_faulty known bytes c.args.address c.args.content.now c.args.self.now _ _ given is c.as_slice.ensures.value c.place_fault.ensures.value _ c.in-Some.is;
}

pub returns-in-Ok : goal.returns-in-Ok
returns-in-Ok c = record {
  step = λ known bytes given is.
      data_step known bytes c.args.address c.args.content.now c.args.self.now _ _ given is c.as_slice.ensures.value c.place_fault.ensures.value _ _ c.in-None.is (omega arith) refl c.in-Ok.ensures.put;
}

pub returns-in-Err : goal.returns-in-Err
returns-in-Err c = record {
  step = λ known bytes given is.
      data_without_memory known bytes c.args.address c.args.content.now c.args.self.now _ _ given is c.as_slice.ensures.value c.place_fault.ensures.value c.in-None.is c.in-Err.ensures.some;
}
