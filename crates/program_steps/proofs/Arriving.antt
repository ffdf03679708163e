-- What an arrival answers, and the move that it is.
use Rattle.program_steps.proofs.Awaiting.{awaits_some}
use Rattle.std.proofs.Common.{◌≡◌, ℕ, ◌+◌, ◌-◌, ◌<◌, ◌≤◌, Bool, true, false, refl, sym, ap, ◌∙◌, subst, arith}
use Rattle.std.specs.Prelude.{Option, Some, None, Ok, Err, unwrap_or}
use Rattle.std.specs.Option.{option_map}
use Rattle.flash_words.specs.declared.layout.Layout.{Layout}
use Rattle.branch_bridge.specs.declared.arrival.Moved.{Moved}
use Rattle.branch_bridge.specs.declared.arrival.Refused.{Refused}
use Rattle.branch_bridge.specs.declared.arrival.ArriveStop.TheVariants as refusals
use Rattle.branch_bridge.specs.declared.rewriting.ResolveStop.{ResolveStop}
use Rattle.branch_bridge.specs.declared.through.Arrival.{Arrival}
use Rattle.branch_bridge.specs.Arrivals.{Store, Arrives, ArrivesFrom, Makes, Recycles, CameThrough, KeptThrough, KeepsParts, IsOwnStub, refused_by, recycled_page}
use Rattle.kernel_entry.specs.declared.kernel.Kernel.{Kernel}
use Rattle.kernel_entry.specs.declared.kernel.Owed.{Owed}
use Rattle.step_laws.specs.Moves.{Arrive}
use Rattle.step_laws.specs.Numbers.{moved, one_if}
use Rattle.step_laws.specs.States.{Awaited, admits, State, mote_of, store_of, arrived}
use Rattle.step_laws.specs.Walks.{CanArrive}
use Rattle.step_laws.specs.Links.{OfStub, part_number, number_of}
use Rattle.step_laws.specs.StepLaws.{links_at}
use Rattle.program_steps.specs.declared.progress.Progress.{Progress}
use Rattle.program_steps.specs.Machines.{Machine, state_of, numbers_of}
use Rattle.program_steps.specs.Wholes.{whole}
use Rattle.program_steps.specs.Ready.{IsGoing}
use Rattle.program_steps.specs.Loop.{HasArrived, after_arrival}
use Rattle.program_steps.specs.Interrupts.{IsUntaken}
use Rattle.program_steps.proofs.Told.{same_state}
use Rattle.program_steps.proofs.Laws.{owing}

-- the stub that an arrival names is an unresolved link to its address
came_by : (x : State) (stub : Option ℕ) (t : ℕ) → OfStub (links_at x) (mote_of x).flash.words stub t → CameThrough x.kernel.layout (mote_of x).flash.words stub t
came_by x None t of = tt
came_by x (Some s) t of = record { link = of.mark.link; call = of.call; bridge = of.bridge }

pub owed_came : {m : Machine} (owed : Owed) → IsGoing m → m.owed ≡ Some owed → CameThrough m.kernel.layout m.kernel.mote.flash.words owed.stub owed.target
owed_came {m} owed ready owes =
    let at = owing _ ready (awaits_some m owed owes) in
    came_by (state_of m) owed.stub owed.target (subst (OfStub (links_at (state_of m)) m.kernel.mote.flash.words owed.stub) (sym at.0) at.1)

-- .. of a page of its part, where the address is of the program's
stub_by : (x : State) (stub : Option ℕ) (t : ℕ) → part_number x.kernel.part.shut t ≡ number_of x.kernel.part → OfStub (links_at x) (mote_of x).flash.words stub t
    → IsOwnStub x.kernel.layout (mote_of x).flash.words (part_number x.kernel.part.shut) stub t
stub_by x None t own of = tt
stub_by x (Some s) t own of = record { link = of.mark.link; own = of.mark.own ∙ sym own }

pub owed_own : {m : Machine} (w : Awaited) → IsGoing m → (state_of m).owed ≡ Some w → part_number m.kernel.part.shut m.at ≡ number_of m.kernel.part
    → IsOwnStub m.kernel.layout m.kernel.mote.flash.words (part_number m.kernel.part.shut) w.stub w.target
owed_own {m} w ready owes own =
    let at = owing w ready owes in
    subst (IsOwnStub m.kernel.layout m.kernel.mote.flash.words (part_number m.kernel.part.shut) w.stub) (sym at.0) (stub_by (state_of m) w.stub m.at own at.1)

-- how an arrival was answered: it was refused outside the image, or by flash, or control goes on at a place
pub data Answered (layout : Layout) (old new : Store) (t : ℕ) (arrival : Arrival) : Type 0 where
  Wild : arrival.refused ≡ Some (record { why = refusals.Wild t; torn = None }) → layout.image_words ≤ t → Answered layout old new t arrival
  Failed : (stop : ResolveStop) → arrival.refused ≡ Some (refused_by stop) → t < layout.image_words → Answered layout old new t arrival
  In : (place : ℕ) → arrival.place ≡ Some place → arrival.refused ≡ None → t < layout.image_words → Answered layout old new t arrival

-- inside the image only flash refuses
stopped_making : {layout : Layout} {old new : Store} {page t : ℕ} {again : Bool} {refused : Refused} → Makes layout old new page t again (Err refused)
    → (stop : ResolveStop) × (refused ≡ refused_by stop)
stopped_making (Makes.Made words place prepared done noted is) = absurd (cc)
stopped_making {layout} {old} {new} {page} {t} {again} {refused} (Makes.NotMade words place prepared stop done same is) = (stop, let e : refused ≡ refused_by stop = cc in e)

stopped_recycling : {layout : Layout} {old new : Store} {victim t : ℕ} {refused : Refused} → Recycles layout old new victim t (Err refused) → (stop : ResolveStop) × (refused ≡ refused_by stop)
stopped_recycling {layout} {old} {new} {victim} {t} {refused} (Recycles.NotUnlinked stop done same is) = (stop, let e : refused ≡ refused_by stop = cc in e)
stopped_recycling {layout} {old} {new} {victim} {t} {refused} (Recycles.NotErased unlinked done fails left forgotten is) =
    let stop : ResolveStop = record { op = unlinked.ops + 1; torn = None } in
    (stop, let e : refused ≡ refused_by stop = cc in e)
stopped_recycling (Recycles.Erased unlinked done fails makes) = stopped_making makes

answered_refused : {layout : Layout} {old new : Store} {t : ℕ} {refused : Refused} (arrival : Arrival) → arrival.refused ≡ Some refused → Arrives layout old new t (Err refused)
    → Answered layout old new t arrival
answered_refused {layout} {old} {new} {t} {refused} arrival is (Arrives.Beyond outside same answer) =
    let e : refused ≡ record { why = refusals.Wild t; torn = None } = cc in
    Answered.Wild (is ∙ ap Some e) outside
answered_refused arrival is (Arrives.Found place inside found same answer) = absurd (cc)
answered_refused arrival is (Arrives.Free page inside missed lowest makes) =
    let s = stopped_making makes in
    Answered.Failed s.0 (is ∙ ap Some s.1) inside
answered_refused arrival is (Arrives.Full inside missed full recycles) =
    let s = stopped_recycling recycles in
    Answered.Failed s.0 (is ∙ ap Some s.1) inside

inside_by : {layout : Layout} {old new : Store} {t : ℕ} {moved : Moved} → Arrives layout old new t (Ok moved) → t < layout.image_words
inside_by (Arrives.Beyond outside same answer) = absurd (cc)
inside_by (Arrives.Found place inside found same answer) = inside
inside_by (Arrives.Free page inside missed lowest makes) = inside
inside_by (Arrives.Full inside missed full recycles) = inside

answered_resolved : (layout : Layout) (old new : Store) (t place : ℕ) (arrival : Arrival) (stop : Option ResolveStop) → t < layout.image_words → arrival.place ≡ Some place
    → arrival.refused ≡ option_map refused_by stop → Answered layout old new t arrival
answered_resolved layout old new t place arrival None inside there none = Answered.In place there none inside
answered_resolved layout old new t place arrival (Some stop) inside there refused = Answered.Failed stop refused inside

pub answered : (layout : Layout) (old new : Store) (t : ℕ) (stub : Option ℕ) (arrival : Arrival) → ArrivesFrom layout old new t stub arrival → Answered layout old new t arrival
answered layout old new t stub arrival (ArrivesFrom.Stopped refused arrives is) = answered_refused arrival (ap (λ (a : Arrival). a.refused) is) arrives
answered layout old new t stub arrival (ArrivesFrom.Went moved arrives none is) =
    Answered.In moved.place (ap (λ (a : Arrival). a.place) is) (ap (λ (a : Arrival). a.refused) is) (inside_by arrives)
answered layout old new t stub arrival (ArrivesFrom.Resolved mid moved s arrives some stop done same is) =
    answered_resolved layout old new t moved.place arrival stop (inside_by arrives) (ap (λ (a : Arrival). a.place) is) (ap (λ (a : Arrival). a.refused) is)

-- a page that is made is told
pub is_made : {layout : Layout} {old new : Store} {page t : ℕ} {again : Bool} {moved : Moved} → Makes layout old new page t again (Ok moved) → moved.made ≡ true
is_made {layout} {old} {new} {page} {t} {again} {moved} (Makes.Made words place prepared done noted is) =
    (let e : moved ≡ record { place = place; made = true; recycled = recycled_page again page } = cc in ap (λ (m : Moved). m.made) e)
is_made (Makes.NotMade words place prepared stop done same is) = absurd (cc)

made_recycling : {layout : Layout} {old new : Store} {victim t : ℕ} {moved : Moved} → Recycles layout old new victim t (Ok moved) → moved.made ≡ true
made_recycling (Recycles.NotUnlinked stop done same is) = absurd (cc)
made_recycling (Recycles.NotErased unlinked done fails left forgotten is) = absurd (cc)
made_recycling (Recycles.Erased unlinked done fails makes) = is_made makes

-- an arrival that makes no page, resolves no stub and is not refused leaves flash
pub same_found : (layout : Layout) (old new : Store) (t : ℕ) (moved : Moved) → Arrives layout old new t (Ok moved) → moved.made ≡ false → new.flash ≡ old.flash
same_found layout old new t moved (Arrives.Beyond outside same answer) none = absurd (cc)
same_found layout old new t moved (Arrives.Found place inside found same answer) none = same
same_found layout old new t moved (Arrives.Free page inside missed lowest makes) none = absurd (let e : true ≡ false = sym (is_made makes) ∙ none in cc)
same_found layout old new t moved (Arrives.Full inside missed full recycles) none = absurd (let e : true ≡ false = sym (made_recycling recycles) ∙ none in cc)

-- the states behind it
placed_by : (k : Kernel) (p : Progress) (store : Store) (place : Option ℕ) (made : Bool) (refused : Option Refused) → p.end ≡ None → p.torn ≡ None
    → state_of (whole (record k { mote = record k.mote { cpu = record k.mote.cpu { pc = unwrap_or place k.mote.cpu.pc }; sram = store.sram; flash = store.flash } })
    (after_arrival (record { place = place; made = made; refused = refused }) p))
    ≡ arrived (state_of (whole k p)) store (record { place = place; made = made; refused = refused })
placed_by k p store None made None going untorn = same_state _ refl going untorn
placed_by k p store (Some place) made None going untorn = same_state _ refl going untorn
placed_by k p store None made (Some refused) going untorn = refl
placed_by k p store (Some place) made (Some refused) going untorn = refl

-- .. and the numbers
numbers_by : (k k' : Kernel) (p : Progress) (t ops : ℕ) (place : Option ℕ) (made : Bool) (refused : Option Refused) → k'.mote.flash.ops ≡ k.mote.flash.ops + ops
    → numbers_of (whole k' (after_arrival (record { place = place; made = made; refused = refused }) p)) ≡ moved (Arrive t made ops) (numbers_of (whole k p))
unfolding moved
numbers_by k k' p t ops place made None tried = ap (λ o. record (numbers_of (whole k p)) { pages = p.pages + one_if made; ops = o }) tried
numbers_by k k' p t ops place made (Some refused) tried = ap (λ o. record (numbers_of (whole k p)) { pages = p.pages + one_if made; ops = o }) tried

rest_by : (k k' : Kernel) (p : Progress) (place : Option ℕ) (made : Bool) (refused : Option Refused) → (q : Progress) → q ≡ after_arrival (record { place = place; made = made; refused = refused }) p
    → (q.at ≡ p.at) × (q.broken ≡ p.broken) × (q.crossings ≡ p.crossings) × (q.due ≡ p.due)
rest_by k k' p place made None q is = (ap (λ (x : Progress). x.at) is, ap (λ (x : Progress). x.broken) is, ap (λ (x : Progress). x.crossings) is, ap (λ (x : Progress). x.due) is)
rest_by k k' p place made (Some refused) q is = (ap (λ (x : Progress). x.at) is, ap (λ (x : Progress). x.broken) is, ap (λ (x : Progress). x.crossings) is, ap (λ (x : Progress). x.due) is)

pub has_arrived : (k : Kernel) (p q : Progress) (owed : Owed) (store : Store) (arrival : Arrival) (pc : ℕ) → p.owed ≡ Some owed → p.end ≡ None → p.torn ≡ None → IsUntaken (whole k p)
    → admits k.part owed.target ≡ true → CanArrive (state_of (whole k p)) owed.stub owed.target
    → ArrivesFrom k.layout (store_of (state_of (whole k p))) store owed.target owed.stub arrival → KeptThrough k.layout (store_of (state_of (whole k p))) store owed.target arrival
    → KeepsParts k.layout (store_of (state_of (whole k p))) store owed.target owed.stub arrival
    → pc ≡ unwrap_or arrival.place k.mote.cpu.pc → q ≡ after_arrival arrival p
    → HasArrived (whole k p) (whole (record k { mote = record k.mote { cpu = record k.mote.cpu { pc = pc }; sram = store.sram; flash = store.flash } }) q)
has_arrived k p q owed store arrival pc owes going untorn untaken admitted can arrives kept parts at noted =
    let x = state_of (whole k p) in
    let awaited = awaits_some (whole k p) owed owes in
    let k' : ℕ → Kernel = λ v. record k { mote = record k.mote { cpu = record k.mote.cpu { pc = v }; sram = store.sram; flash = store.flash } } in
    let ops = store.flash.ops - k.mote.flash.ops in
    let tried : store.flash.ops ≡ k.mote.flash.ops + ops = omega (arith, kept.tried.counted) in
    let rest = rest_by k (k' pc) p arrival.place arrival.made arrival.refused q noted in
    let state : state_of (whole (k' pc) q) ≡ arrived x store arrival =
    ap (λ v. state_of (whole (k' v) q)) at ∙ ap (λ r. state_of (whole (k' (unwrap_or arrival.place k.mote.cpu.pc)) r)) noted
    ∙ placed_by k p store arrival.place arrival.made arrival.refused going untorn in
    record {
      target = owed.target;
      made = arrival.made;
      ops = ops;
      makes = record {
        owed = record { target = owed.target; stub = owed.stub; due = p.due };
        owes = awaited;
        going = going;
        untaken = untaken _ awaited;
        at = refl;
        own = admitted;
        can = can;
        store = store;
        arrival = arrival;
        arrives = arrives;
        makes = refl;
        kept = kept;
        tried = tried;
        after = state;
      };
      kept = kept;
      parts = parts;
      numbers = ap (λ r. numbers_of (whole (k' pc) r)) noted ∙ numbers_by k (k' pc) p owed.target ops arrival.place arrival.made arrival.refused tried;
      at = rest.0;
      broken = rest.1;
      crossings = rest.2;
      due = rest.3;
    }
