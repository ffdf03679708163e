use Rattle.tk_watch.proofs.Exactly.{answer_is_exact, answer_line, answer_shown, answer_usage, no_other_job}
use Rattle.tk_watch.proofs.NumberedLaws.{tells_all}
use Rattle.tk_watch.proofs.top.tkwatch.Goals as goal

pub returns-in-Run : goal.returns-in-Run
returns-in-Run g c =
    let answer = answer_shown _ _ _ c.in-Some.ensures.cases.0 c.run_job.ensures.asks c.in-Run.request c.in-Run.is c.show_run.ensures.shows in
    record { answer = answer; exact = answer_is_exact _ _ _ _ _ _ answer; lines = λ request n. tells_all _ request.script.events n }

pub returns-in-Print : goal.returns-in-Print
returns-in-Print g c =
    let answer = answer_line _ _ _ c.in-Some.ensures.cases.0 c.run_job.ensures.asks c.in-Print.status c.in-Print.line c.deref.result.now c.in-Print.is c.deref.ensures.0 c.say.ensures.said in
    record { answer = answer; exact = answer_is_exact _ _ _ _ _ _ answer; lines = λ request n. tells_all _ request.script.events n }

pub returns-in-Some : goal.returns-in-Some
returns-in-Some g c = no_other_job c.in-Some.options _ _ c.run_job.result c.run_job.ensures.asks c.in_default.not-Run c.in_default.not-Print

pub returns : goal.returns
returns g c =
    let answer = answer_usage c.usage_status.result c.in-None.ensures.cases c.usage_status.ensures.status c.say-in-None.ensures.said in
    record { answer = answer; exact = answer_is_exact _ _ _ _ _ _ answer; lines = λ request n. tells_all _ request.script.events n }
