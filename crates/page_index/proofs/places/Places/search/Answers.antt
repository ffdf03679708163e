use Rattle.std.proofs.Common.{◌≡◌, ◌+◌, ◌*◌, ◌/◌, ◌%◌, Ok, arith, ap}
use Rattle.page_index.proofs.EntryLaws.{one_place}
use Rattle.page_index.proofs.places.Places.search.Goals as goal

-- the address has an entry only where its offset is known
pub returns-then-not-survey-t-clause-only : goal.returns-then-not-survey-t-clause-only
returns-then-not-survey-t-clause-only c = λ v entry.
    let t = c.args.t in
    let there : t ≡ 128 * (t / 128) + t % 128 = omega arith in
    let known = c.survey_of-survey.ensures.survey.known.only (t % 128) v (omega arith) (rw there at entry) in
    absurd (cc)

pub returns-in-Some-clause-only : goal.returns-in-Some-clause-only
returns-in-Some-clause-only c = λ v entry.
    ap Ok (one_place c.args.layout.now c.args.flash.now.words c.args.t c.in-Some.place v c.requires.mapped c.in-Some.ensures.found entry)
