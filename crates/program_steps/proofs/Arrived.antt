-- What an arrival leaves, whatever it answers.
use Rattle.std.proofs.Common.{◌≡◌, ℕ, ◌+◌, ◌≤◌, Bool, true, List, refl, sym, ap, ap₂, ◌∙◌, arith, subst, inl, inr}
use Rattle.std.specs.Prelude.{min, Option, Some, None, IfSome}
use Rattle.std.proofs.lemmas.Bool.{cases_lt}
use Rattle.flash_words.specs.Memory.{Memory, IsWhole}
use Rattle.flash_words.specs.Layouts.{image_of}
use Rattle.flash_words.specs.declared.layout.Layout.{Layout}
use Rattle.heap_frames.specs.Memory.{vmem}
use Rattle.nat_page.specs.Used.{used_pages}
use Rattle.nat_page.proofs.EnteredLaws.{entry_law}
use Rattle.branch_bridge.specs.declared.arrival.Refused.{Refused}
use Rattle.branch_bridge.specs.declared.rewriting.ResolveStop.{ResolveStop}
use Rattle.branch_bridge.specs.declared.rewriting.Torn.{Torn}
use Rattle.branch_bridge.specs.declared.through.Arrival.{Arrival}
use Rattle.branch_bridge.specs.Operating.{with_torn}
use Rattle.flash_words.specs.Operations.{is_listed}
use Rattle.branch_bridge.specs.Tried.{IsTorn, Tried}
use Rattle.branch_bridge.specs.Arrivals.{Store, IsOwnStub, KeptThrough, KeepsOtherBytes, refused_by, stopped_by, torn_by}
use Rattle.kernel_entry.specs.Parts.{image_held}
use Rattle.kernel_entry.specs.declared.kernel.Owed.{Owed}
use Rattle.kernel_entry.specs.declared.kernel.End.TheVariants as ends
use Rattle.step_laws.specs.Moves.{Arrive}
use Rattle.step_laws.specs.Numbers.{Numbers, moved, one_if}
use Rattle.step_laws.specs.Bounds.{AreBounded}
use Rattle.step_laws.specs.States.{Awaited, State, mote_of, store_of, with_store, placed, settled_by, arrived, end_by, admits}
use Rattle.step_laws.proofs.SameProgram.{flat_parts as flat_same_parts}
use Rattle.kernel_entry.specs.Seen.{state_at}
use Rattle.program_steps.specs.Machines.{Machine, awaited, state_of, numbers_of, flat_of}
use Rattle.program_steps.specs.Ready.{HasFault, AreTried, IsGoing, IsInOrder, most_arrivals}
use Rattle.program_steps.specs.Loop.{HasArrived}
use Rattle.page_cursor.specs.declared.cursor.Cursor.{Cursor}
use Rattle.page_cursor.specs.Cursors.{IsCursor}
use Rattle.program_steps.proofs.Arriving.{Answered, answered, owed_own}
use Rattle.program_steps.proofs.Owning.{number_own, admitted_number}
use Rattle.flat_machine.specs.FlatMachine.{is_own}
use Rattle.step_laws.specs.Links.{part_number}
use Rattle.nat_page.specs.Parts.{IsParted}
use Rattle.program_steps.proofs.ReadyLaws.{no_refusal}
use Rattle.program_steps.proofs.OutsideTables.{outside_paged, outside_memory, outside_pages, outside_pointer, outside_stack}
use Rattle.program_steps.proofs.Awaiting.{awaits_some, free_of}
use Rattle.program_steps.proofs.Laws.{by_stands, owing, faithful_going, parted_going, used_going}

-- where the machine stands
pub place_inside : {m : Machine} → IsGoing m → m.owed ≡ None → is_own m.kernel.part m.at ≡ true
place_inside {m} ready placed =
    let enters = by_stands m placed ready.stands in
    let entry = entry_law m.kernel.layout (image_held m.kernel) m.kernel.mote.flash.words m.at m.kernel.mote.cpu.pc ready.order.right (faithful_going ready) enters.0 in
    number_own m.at ready.order.part (omega (arith, entry.inside, ready.order.faithful.image_length)) enters.1

pub owed_at : {m : Machine} (owed : Owed) → IsGoing m → m.owed ≡ Some owed → owed.target ≡ m.at
owed_at {m} owed ready owes = (owing _ ready (awaits_some m owed owes)).0

-- and so is what is awaited, as the moves see the arrival
pub awaited_at : {m : Machine} (w : Awaited) → IsGoing m → (state_of m).owed ≡ Some w → w.target ≡ m.at
awaited_at w ready owes = (owing w ready owes).0

-- an arrival leaves all but the store and the pc
pub record After (x y : State) (store : Store) : Type 0 where
  pub layout : y.kernel.layout ≡ x.kernel.layout
  pub part : y.kernel.part ≡ x.kernel.part
  pub quantum : y.kernel.quantum ≡ x.kernel.quantum
  pub swap : (mote_of y).swap ≡ (mote_of x).swap
  pub devices : (mote_of y).devices ≡ (mote_of x).devices
  pub r : (mote_of y).cpu.r ≡ (mote_of x).cpu.r
  pub sreg : (mote_of y).cpu.sreg ≡ (mote_of x).cpu.sreg
  pub sp : (mote_of y).cpu.sp ≡ (mote_of x).cpu.sp
  pub store_is : store_of y ≡ store

after_same : {x : State} (y : State) {store : Store} {z : State} → y ≡ z → After x z store → After x y store
after_same y is after = rw is after

after_by : {x y : State} {store : Store} (place : Option ℕ) (refused : Option Refused) → y ≡ settled_by (placed (with_store x store) place) refused → After x y store
after_by {x} {y} None None is = after_same y is (record { layout = refl; part = refl; quantum = refl; swap = refl; devices = refl; r = refl; sreg = refl; sp = refl; store_is = refl })
after_by {x} {y} (Some place) None is = after_same y is (record { layout = refl; part = refl; quantum = refl; swap = refl; devices = refl; r = refl; sreg = refl; sp = refl; store_is = refl })
after_by {x} {y} None (Some refused) is = after_same y is (record { layout = refl; part = refl; quantum = refl; swap = refl; devices = refl; r = refl; sreg = refl; sp = refl; store_is = refl })
after_by {x} {y} (Some place) (Some refused) is =
    after_same y is (record { layout = refl; part = refl; quantum = refl; swap = refl; devices = refl; r = refl; sreg = refl; sp = refl; store_is = refl })

pub after_arrived : (x y : State) (store : Store) (arrival : Arrival) → y ≡ arrived x store arrival → After x y store
after_arrived x y store arrival is = after_by arrival.place arrival.refused is

-- the cursor, once what was made wrong is forgotten
pub cursor_kept : {old new : Machine} (after : Cursor) → HasArrived old new → IsCursor old.kernel.layout new.kernel.mote.flash.words after
    → IsCursor new.kernel.layout new.kernel.mote.flash.words after
cursor_kept {old} {new} after arrived cursor =
    let layout = (after_arrived (state_of old) (state_of new) arrived.makes.store arrived.makes.arrival arrived.makes.after).layout in
    rw layout cursor

-- what the program sees
pub flat_parts : (old new : Machine) (store : Store) → After (state_of old) (state_of new) store → KeepsOtherBytes old.kernel.mote.sram new.kernel.mote.sram → new.at ≡ old.at → new.steps ≡ old.steps
    → new.crossings ≡ old.crossings → (flat_of new).now ≡ (flat_of old).now
flat_parts old new store same rest at steps crossings =
    let n = new.kernel.mote in
    let o = old.kernel.mote in
    let heap : vmem n.sram n.swap ≡ vmem o.sram o.swap = ap (vmem n.sram) same.swap ∙ outside_memory o.swap rest in
    flat_same_parts _ _ _ _ _ _ new.at new.steps new.crossings _ _ _ _ _ _ same.r same.sreg (outside_stack rest) heap same.devices (outside_pages rest)
    ∙ ap₂ (λ a s. state_at old.kernel a s new.crossings) at steps ∙ ap (state_at old.kernel old.at old.steps) crossings

-- how it ended, and what is torn
torn_settled : (x : State) (refused : Option Refused) → x.torn ≡ None → (settled_by x refused).torn ≡ torn_by refused
torn_settled x None none = refl
torn_settled x (Some refused) none = refl

placed_torn : (x : State) (place : Option ℕ) → (placed x place).torn ≡ x.torn
placed_torn x None = refl
placed_torn x (Some place) = refl

end_refused : (x : State) (refused : Option Refused) (r : Refused) → refused ≡ Some r → (settled_by x refused).end ≡ Some (end_by r.why)
end_refused x None r is = absurd (cc)
end_refused x (Some refused) r is = (let e : refused ≡ r = cc in ap (λ (f : Refused). Some (end_by f.why)) e)

end_in : (x : State) (refused : Option Refused) → refused ≡ None → ((settled_by x refused).end ≡ None) × ((settled_by x refused).owed ≡ None)
end_in x None is = (refl, refl)
end_in x (Some refused) is = absurd (cc)

-- where the pc stands behind an arrival that has a place
pub pc_in : (x : State) (place : Option ℕ) (refused : Option Refused) (v : ℕ) → place ≡ Some v → (mote_of (settled_by (placed x place) refused)).cpu.pc ≡ v
pc_in x None refused v is = absurd (cc)
pc_in x (Some place) None v is = (let e : place ≡ v = cc in e)
pc_in x (Some place) (Some refused) v is = (let e : place ≡ v = cc in e)

-- what the numbers become
pub record IsMoved (n n' : Numbers) (made : Bool) : Type 0 where
  pub steps : n'.steps ≡ n.steps
  pub pages : n'.pages ≡ n.pages + one_if made
  pub began : n'.began ≡ n.began
  pub others : n'.others ≡ n.others
  pub bounded : (crossings quantum count at : ℕ) → AreBounded n crossings quantum count at → AreBounded n' crossings quantum count at

moved_numbers : {n : Numbers} (n' : Numbers) (t ops : ℕ) {made : Bool} (made' : Bool) → n' ≡ moved (Arrive t made ops) n → made' ≡ made → IsMoved n n' made'
unfolding moved
moved_numbers {n} n' t ops made' is same = record {
  steps = ap (λ (k : Numbers). k.steps) is;
  pages = ap (λ (k : Numbers). k.pages) is ∙ ap (λ b. n.pages + one_if b) (sym same);
  began = ap (λ (k : Numbers). k.began) is;
  others = ap (λ (k : Numbers). k.others) is;
  bounded = λ c q k a b. rw is (record { natural = b.natural; entries = b.entries; crossed = b.crossed; since = b.since; longest = b.longest; within = b.within; most = b.most });
}

-- what holds of the machine after an arrival, whatever its answer
pub record Arrived (old new : Machine) (arrival : Arrival) : Type 0 where
  pub after : After (state_of old) (state_of new) (store_of (state_of new))
  pub kept : KeptThrough old.kernel.layout (store_of (state_of old)) (store_of (state_of new)) old.at arrival
  pub parted : IsParted old.kernel.layout (image_held old.kernel) (with_torn new.kernel.mote.flash.words (torn_by arrival.refused)) (part_number old.kernel.part.shut)
  pub admitted : admits old.kernel.part old.at ≡ true
  pub rest : KeepsOtherBytes old.kernel.mote.sram new.kernel.mote.sram
  pub image : image_held new.kernel ≡ image_held old.kernel
  pub torn : new.torn ≡ torn_by arrival.refused
  pub whole : IsWhole new.kernel.mote.flash
  pub answer : Answered old.kernel.layout (store_of (state_of old)) (store_of (state_of new)) old.at arrival
  pub refused : (r : Refused) → arrival.refused ≡ Some r → new.end ≡ Some (end_by r.why)
  pub goes_on : arrival.refused ≡ None → (new.end ≡ None) × (new.owed ≡ None)
  pub pc : (v : ℕ) → arrival.place ≡ Some v → new.kernel.mote.cpu.pc ≡ v
  pub owed : most_arrivals old.owed old.steps ≡ old.steps
  pub numbers : IsMoved (numbers_of old) (numbers_of new) arrival.made
  pub at : new.at ≡ old.at
  pub crossings : new.crossings ≡ old.crossings
  pub due : new.due ≡ old.due

counted_owing : (owed : Option Owed) (due : Bool) (w : Awaited) (steps : ℕ) → awaited owed due ≡ Some w → most_arrivals owed steps ≡ steps
counted_owing (Some a) due w steps is = refl
counted_owing None due w steps is = absurd (cc)

pub arrived_by : {old : Machine} (new : Machine) → (arrived : HasArrived old new) → IsWhole new.kernel.mote.flash → IsGoing old → Arrived old new arrived.makes.arrival
arrived_by {old} new arrived whole ready =
    let makes = arrived.makes in
    let arrival = makes.arrival in
    let l = old.kernel.layout in
    let x = state_of old in
    let before = store_of x in
    let store = store_of (state_of new) in
    let at : arrived.target ≡ old.at = makes.at ∙ awaited_at makes.owed ready makes.owes in
    let admitted : admits old.kernel.part old.at ≡ true = rw at at makes.own in
    let after = after_arrived x (state_of new) makes.store arrival makes.after in
    let same : store ≡ makes.store = after.store_is in
    let kept : KeptThrough l before store old.at arrival = subst (λ t. KeptThrough l before store t arrival) at (subst (λ s. KeptThrough l before s arrived.target arrival) (sym same) arrived.kept) in
    let answer : Answered l before store old.at arrival =
    subst (λ t. Answered l before store t arrival) at (subst (λ s. Answered l before s arrived.target arrival) (sym same)
    (answered l before makes.store arrived.target makes.owed.stub arrival makes.arrives)) in
    let y = placed (with_store x makes.store) arrival.place in
    record {
      after = record { layout = after.layout; part = after.part; quantum = after.quantum; swap = after.swap; devices = after.devices; r = after.r; sreg = after.sreg; sp = after.sp; store_is = refl };
      kept = kept;
      parted = subst (λ (s : Store). IsParted l (image_held old.kernel) (with_torn s.flash.words (torn_by arrival.refused)) (part_number old.kernel.part.shut)) (sym same)
          (arrived.parts (part_number old.kernel.part.shut) (parted_going ready)
          (subst (IsOwnStub l old.kernel.mote.flash.words (part_number old.kernel.part.shut) makes.owed.stub) (sym makes.at)
          (owed_own makes.owed ready makes.owes (admitted_number old.at ready.order.part admitted))));
      admitted = admitted;
      rest = kept.rest;
      image = ap (λ (k : Layout). image_of k new.kernel.mote.flash.words) after.layout ∙ kept.image;
      torn = ap (λ (s : State). s.torn) makes.after ∙ torn_settled y arrival.refused (placed_torn (with_store x makes.store) arrival.place ∙ ready.untorn);
      whole = whole;
      answer = answer;
      refused = λ r is. ap (λ (s : State). s.end) makes.after ∙ end_refused y arrival.refused r is;
      goes_on = λ none. (let e = end_in y arrival.refused none in (ap (λ (s : State). s.end) makes.after ∙ e.0, free_of new (ap (λ (s : State). s.owed) makes.after ∙ e.1)));
      pc = λ v is. ap (λ (s : State). (mote_of s).cpu.pc) makes.after ∙ pc_in (with_store x makes.store) arrival.place arrival.refused v is;
      owed = counted_owing old.owed old.due makes.owed old.steps makes.owes;
      numbers = moved_numbers (numbers_of new) arrived.target arrived.ops arrival.made arrived.numbers makes.makes;
      at = arrived.at;
      crossings = arrived.crossings;
      due = arrived.due;
    }

-- the operations that were tried
listed_before : (m n : Memory) (op : ℕ) → n.failing ≡ m.failing → is_listed n.failing op ≡ true → is_listed m.failing op ≡ true
listed_before m n op same there = ap (λ failing. is_listed failing op) (sym same) ∙ there

never_before : {old : Machine} (op : ℕ) → IsGoing old → 1 ≤ op → op ≤ old.kernel.mote.flash.ops → is_listed old.kernel.mote.flash.failing op ≡ true → ⊥
never_before op ready from to there = let e : Some (ends.Flash op) ≡ None = sym (ready.order.tried.listed op from to there) ∙ ready.going in absurd (cc)

tried_quiet : {old : Machine} (new : Machine) → Tried old.kernel.layout old.kernel.mote.flash new.kernel.mote.flash None → new.torn ≡ None → IsGoing old
    → AreTried new.kernel.layout new.kernel.mote.flash new.end new.torn
tried_quiet {old} new tried torn ready = record {
  listed = λ op from to there.
      let listed = listed_before old.kernel.mote.flash new.kernel.mote.flash op tried.failing there in
      (elim (cases_lt old.kernel.mote.flash.ops op) [
        | inl above ↦ absurd (let e : None ≡ Some op = tried.only op above to listed in cc)
        | inr below ↦ absurd (never_before op ready from below listed)
      ]);
  refused = λ some.
      let fault = ready.order.tried.refused (λ none. some (tried.unrefused refl ∙ none)) in
      absurd (let e : Some (ends.Flash fault.0) ≡ None = sym fault.1 ∙ ready.going in cc);
  pool = no_refusal new.kernel.mote.flash.refused new.kernel.layout (λ some.
      let fault = ready.order.tried.refused (λ none. some (tried.unrefused refl ∙ none)) in
      let e : Some (ends.Flash fault.0) ≡ None = sym fault.1 ∙ ready.going in cc);
  torn = rw torn tt;
}

some_both : (torn : Option Torn) (layout : Layout) (words : List ℕ) (m : Machine) → IfSome torn (IsTorn layout words) → HasFault m → IfSome torn (λ t. IsTorn layout words t × HasFault m)
some_both None layout words m each fault = tt
some_both (Some torn) layout words m each fault = (each, fault)

tried_failed : {old : Machine} (new : Machine) {stop : ResolveStop} → new.kernel.layout ≡ old.kernel.layout → Tried old.kernel.layout old.kernel.mote.flash new.kernel.mote.flash (Some stop)
    → new.end ≡ Some (ends.Flash stop.op) → new.torn ≡ stop.torn → IsGoing old → AreTried new.kernel.layout new.kernel.mote.flash new.end new.torn
tried_failed {old} new {stop} layout tried end torn ready = record {
  listed = λ op from to there.
      let listed = listed_before old.kernel.mote.flash new.kernel.mote.flash op tried.failing there in
      (elim (cases_lt old.kernel.mote.flash.ops op) [
        | inl above ↦ (let e : Some stop.op ≡ Some op = tried.only op above to listed in let same : stop.op ≡ op = cc in end ∙ ap (λ n. Some (ends.Flash n)) same)
        | inr below ↦ absurd (never_before op ready from below listed)
      ]);
  refused = λ some. (stop.op, end);
  pool = rw (tried.refused.told, layout) tried.refused.pool;
  torn = subst (λ t. IfSome t (λ torn. IsTorn new.kernel.layout new.kernel.mote.flash.words torn × HasFault new)) (sym torn)
      (some_both stop.torn new.kernel.layout new.kernel.mote.flash.words new (rw layout tried.refused.torn) (stop.op, end));
}

tried_as : {old new : Machine} {arrival : Arrival} (refused : Option Refused) → arrival.refused ≡ refused → Arrived old new arrival
    → Tried old.kernel.layout old.kernel.mote.flash new.kernel.mote.flash (stopped_by refused)
tried_as refused is told = rw is at told.kept.tried

tried_arrived : {old new : Machine} {arrival : Arrival} → Arrived old new arrival → IsGoing old → Answered old.kernel.layout (store_of (state_of old)) (store_of (state_of new)) old.at arrival
    → AreTried new.kernel.layout new.kernel.mote.flash new.end new.torn
tried_arrived {old} {new} told ready (Answered.Wild is outside) = tried_quiet new (tried_as _ is told) (told.torn ∙ ap torn_by is) ready
tried_arrived {old} {new} told ready (Answered.In place there is inside) = tried_quiet new (tried_as _ is told) (told.torn ∙ ap torn_by is) ready
tried_arrived {old} {new} told ready (Answered.Failed stop is inside) =
    tried_failed new told.after.layout (tried_as _ is told) (told.refused (refused_by stop) is) (told.torn ∙ ap torn_by is) ready

-- what is in order stays so
pub order_arrived : {old new : Machine} {arrival : Arrival} → Arrived old new arrival → IsGoing old → IsInOrder new
order_arrived {old} {new} {arrival} told ready =
    let order = ready.order in
    let same = told.after in
    let l = old.kernel.layout in
    let used = used_going ready in
    let count = told.numbers.pages in
    let pages : min (used_pages l old.kernel.mote.flash.words + one_if arrival.made) l.pool_pages ≡ min new.pages l.pool_pages = omega (arith, used, count) in
    record {
      layout = rw same.layout order.layout;
      right = rw same.layout order.right;
      faithful = rw (told.image, same.layout, told.torn) told.kept.code;
      part = rw (same.layout, same.part) order.part;
      parted = rw (told.image, same.layout, told.torn, same.part) told.parted;
      tables = rw (same.layout, told.torn) told.kept.tables;
      paged = rw same.swap (outside_paged told.rest order.paged);
      whole = told.whole;
      registers = rw same.r order.registers;
      pointer = rw (outside_pointer told.rest) order.pointer;
      quantum = rw same.quantum order.quantum;
      pages = rw (same.layout, told.torn) (told.kept.used ∙ pages);
      ring = rw same.layout told.kept.ring;
      tried = tried_arrived told ready told.answer;
    }
