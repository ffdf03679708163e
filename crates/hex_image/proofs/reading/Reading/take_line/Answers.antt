use Rattle.std.proofs.Common.{refl, ◌∙◌, arith}
use Rattle.std.proofs.lemmas.Grind.{common_steps}
use Rattle.hex_image.proofs.LineLemmas.{fault_of_own}
use Rattle.hex_image.proofs.ReadingLemmas.{base_step, blank_step, end_step, start_step}
use Rattle.hex_image.proofs.reading.Reading.take_line.Goals as goal

pub returns-in-Blank : goal.returns-in-Blank
returns-in-Blank c = record { step = λ known bytes told is. blank_step known bytes c.args.self.now (rw c.in-Blank.is at told) is }

pub returns-in-StartAddress : goal.returns-in-StartAddress
returns-in-StartAddress c = record { step = λ known bytes told is. let line = rw c.in-StartAddress.is at told in start_step known bytes c.args.self.now line.sound line.says is }

pub returns-in-Base : goal.returns-in-Base
returns-in-Base c = record {
  step = λ known bytes told is. let line = rw c.in-Base.is at told in base_step known bytes c.in-Base.base c.args.self.now _ line.sound line.says.0 line.says.1 (grind (arith, common_steps)) refl is;
}

pub returns-in-Data : goal.returns-in-Data
returns-in-Data c = record {
  step = λ known bytes told is.
      let line = rw c.in-Data.is at told in
      c.take_data.ensures.step known bytes (record { sound = line.sound; kind = line.says.0; address_is = line.says.1; content_is = c.as_slice.ensures.value ∙ line.says.2 }) is;
}

pub returns-in-EndOfFile : goal.returns-in-EndOfFile
returns-in-EndOfFile c = record { step = λ known bytes told is. let line = rw c.in-EndOfFile.is at told in end_step known bytes c.args.self.now line.sound line.says is }

pub returns-in-Faulty : goal.returns-in-Faulty
returns-in-Faulty c = record { step = λ known bytes told is. let line = rw c.in-Faulty.is at told in fault_of_own known bytes c.in-Faulty.fault line.0 line.1 }
