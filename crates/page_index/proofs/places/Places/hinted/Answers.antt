use Rattle.std.proofs.Common.{◌/◌, ◌%◌, ◌-◌, arith, refl}
use Rattle.std.specs.Prelude.{slice_index_or}
use Rattle.page_index.proofs.places.Places.hinted.Goals as goal

pub returns-in-Some : goal.returns-in-Some
returns-in-Some c =
    let listed = slice_index_or c.args.self.now.listed c.from-2.result 0 in
    record {
      found = record {
        entry = record { page = listed / 128; index = listed % 128 - 2; pool = c.if-not-is_in_pool.ensures.value.0 refl; lists = c.in-Some.ensures.found };
        word = omega (arith, c.if-listed-lt-FIRST_ENTRY.false);
      };
    }
