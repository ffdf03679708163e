-- A machine that is going stands at an entry, so its step has its law.
use Rattle.program_steps.proofs.Awaiting.{awaits_none, some_same}
use Rattle.mote_devices.specs.Waking.{Timely}
use Rattle.std.proofs.Common.{◌≡◌, ◌<◌, sym, ap, ◌∙◌, arith}
use Rattle.std.specs.Prelude.{◌^◌, min, Some, None}
use Rattle.page_index.specs.Entries.{IsMapped}
use Rattle.nat_page.specs.Faithful.{IsFaithful}
use Rattle.nat_page.specs.Used.{used_pages}
use Rattle.nat_page.proofs.FaithfulLaws.{faithful_mapped}
use Rattle.addr_tables.specs.Tables.{IsTables}
use Rattle.kernel_entry.specs.Parts.{image_held}
use Rattle.step_laws.specs.StepLaws.{StepLaw, Reaches, links_at}
use Rattle.step_laws.proofs.EveryShape.{entry_laws}
use Rattle.step_laws.specs.Links.{part_number, OfStub}
use Rattle.step_laws.specs.States.{Awaited}
use Rattle.nat_page.specs.Parts.{IsParted}
use Rattle.program_steps.specs.Machines.{Machine, state_of, awaits}
use Rattle.program_steps.specs.Ready.{IsGoing}
use Rattle.program_steps.specs.Stepping.{links_in}

pub by_stands : (m : Machine) → m.owed ≡ None → Reaches (links_in m) m.at (awaits m) (state_of m) → (links_in m).enters m.at m.kernel.mote.cpu.pc
by_stands m placed (Reaches.Placed quiet free entry) = entry
by_stands m placed (Reaches.Owing stub alone owes of) = absurd (let e = sym owes ∙ awaits_none m placed in cc)

-- .. and owes an arrival at its address, of the stub that asked for it, where it owes one
owing_by : (m : Machine) (w : Awaited) → (state_of m).owed ≡ Some w → Reaches (links_in m) m.at (awaits m) (state_of m) → (w.target ≡ m.at) × OfStub (links_in m) m.kernel.mote.flash.words w.stub m.at
owing_by m w owes (Reaches.Placed quiet free entry) = absurd (let e = sym owes ∙ free in cc)
owing_by m w owes (Reaches.Owing stub alone owes' of) =
    let same = some_same (sym owes ∙ owes') in
    (ap (λ (v : Awaited). v.target) same, rw same of)

pub owing : {m : Machine} (w : Awaited) → IsGoing m → (state_of m).owed ≡ Some w → (w.target ≡ m.at) × OfStub (links_in m) m.kernel.mote.flash.words w.stub m.at
owing {m} w ready owes = owing_by m w owes ready.stands

-- flash holds faithful code as it is, since no page is torn
pub faithful_going : {m : Machine} → IsGoing m → IsFaithful m.kernel.layout (image_held m.kernel) m.kernel.mote.flash.words
faithful_going ready = rw ready.untorn at ready.order.faithful

-- .. whose links keep to the parts
pub parted_going : {m : Machine} → IsGoing m → IsParted m.kernel.layout (image_held m.kernel) m.kernel.mote.flash.words (part_number m.kernel.part.shut)
parted_going ready = rw ready.untorn at ready.order.parted

-- .. and so do the tables
pub tables_going : {m : Machine} → IsGoing m → IsTables m.kernel.layout m.kernel.mote.sram m.kernel.mote.flash.words
tables_going ready = rw ready.untorn at ready.order.tables

-- .. and as many pages are used
pub used_going : {m : Machine} → IsGoing m → used_pages m.kernel.layout m.kernel.mote.flash.words ≡ min m.pages m.kernel.layout.pool_pages
used_going ready = rw ready.untorn at ready.order.pages

pub mapped_going : {m : Machine} → IsGoing m → IsMapped m.kernel.layout m.kernel.mote.flash.words
mapped_going {m} ready = faithful_mapped m.kernel.layout (image_held m.kernel) m.kernel.mote.flash.words ready.order.right (faithful_going ready)

pub law_of : {m : Machine} → IsGoing m → Timely m.kernel.mote.devices → m.steps < 2 ^ 50 → m.owed ≡ None → StepLaw (links_at (state_of m)) (state_of m) m.at
law_of {m} ready timely few placed =
    let order = ready.order in
    let quantum = order.quantum in
    let most = ready.most in
    let polls = ready.polls in
    entry_laws (state_of m) m.at (record {
      ready = record {
        running = record { free = awaits_none m placed; going = ready.going; room = omega arith };
        idle = record { registers = order.registers; size = order.paged.sized.sram; pointer = order.pointer; top = ready.top; some = ready.some; most = omega arith };
        bounded = record { right = order.right; whole = order.whole; most = ready.most; polls = omega arith; timely = timely };
        paged = order.paged;
      };
      code = faithful_going ready;
      parted = parted_going ready;
      own = (by_stands m placed ready.stands).1;
      entry = (by_stands m placed ready.stands).0;
    })
