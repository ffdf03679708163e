use Rattle.std.proofs.Common.{◌≡◌, ◌+◌, None, arith, refl, ap}
use Rattle.branch_bridge.specs.Arrivals.{Store, went_on}
use Rattle.branch_bridge.specs.KnownPlaces.{IsKnownAt}
use Rattle.kernel_entry.specs.Parts.{image_held}
use Rattle.nat_page.proofs.FaithfulLaws.{faithful_mapped}
use Rattle.kernel_entry.specs.declared.kernel.Owed.{Owed}
use Rattle.program_steps.specs.declared.progress.Progress.{Progress}
use Rattle.program_steps.proofs.Arriving.{has_arrived}
use Rattle.program_steps.proofs.arrival.arrive_known.Goals as goal

pub go_to-requires-clause-mapped : goal.go_to-requires-clause-mapped
go_to-requires-clause-mapped c = faithful_mapped c.args.k.now.layout (image_held c.args.k.now) c.args.k.now.mote.flash.words c.requires.right c.requires.faithful

pub returns-in-Some-clause-arrived : goal.returns-in-Some-clause-arrived
returns-in-Some-clause-arrived c = λ made.
    let k = c.args.k.now in
    let p = c.args.p.now in
    let known : IsKnownAt k.layout k.mote.flash k.mote.sram c.args.target c.in-Some.place =
    record { right = c.requires.right; code = c.requires.faithful; tables = c.requires.tables; ring = c.requires.ring; entry = c.in-Some.ensures.found } in
    let store : Store = record { flash = c.args.k.now.mote.flash; sram = c.arrive_at_known_place.new.sram } in
    let place = c.in-Some.place in
    let none : p.pages ≡ p.pages + 0 = omega arith in
    let q : Progress = record p { owed = None } in
    let owed : Owed = record { target = c.args.target; stub = None } in
    has_arrived c.args.k.now p q owed store (went_on place) place c.requires.owed c.requires.going c.requires.untorn c.requires.untaken c.requires.admitted
    (record { right = c.requires.right; faithful = c.requires.faithful; came = tt; ring = c.requires.ring })
    (c.arrive_at_known_place.ensures.arrives k.layout k.mote.flash known) (c.arrive_at_known_place.ensures.kept k.layout k.mote.flash known) (λ part parted own. parted) refl
    (ap (λ n. record p { owed = None; pages = n }) none)
