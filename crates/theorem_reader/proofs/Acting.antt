-- The acts of a walk, and what each of them is.
use Rattle.std.proofs.Common.{◌≡◌, ◌≢◌, ℕ, ◌/◌, ◌≤◌, Bool, true, false, nat_le, if◌then◌else◌, ◌%◌, ◌-◌, slice_index, cond, List, [], ◌∷◌, length, Option, Some, None, refl, sym, ap, ◌∙◌, subst}
use Rattle.std.proofs.Common.{arith, ◌⊎◌, ◌<◌, inl, inr}
use Rattle.sram_layout.specs.Bytes.{byte_at, with_byte}
use Rattle.flash_words.specs.declared.layout.Layout.{Layout}
use Rattle.flash_words.specs.Layouts.{layout_of, image_of, IsRight}
use Rattle.mote_devices.specs.declared.line.Line.{Line}
use Rattle.mote_core.specs.declared.mote.Mote.{Mote}
use Rattle.mote_core.specs.Step.{stepped}
use Rattle.mote_core.specs.Shown.{line_shown}
use Rattle.std.specs.Prelude.{IfSome, is_some, Result, Ok, Err}
use Rattle.avr_isa.specs.Addresses.{wrapping_difference}
use Rattle.std.proofs.lemmas.Bool.Decides.{nat_tests}
use Rattle.flash_words.specs.Memory.{Memory}
use Rattle.page_index.specs.Entries.{IsEntry}
use Rattle.nat_page.specs.Faithful.{IsFaithful}
use Rattle.branch_bridge.specs.declared.arrival.ArriveStop.TheVariants as refusals
use Rattle.branch_bridge.specs.declared.arrival.Refused.{Refused}
use Rattle.branch_bridge.specs.declared.arrival.Moved.{Moved}
use Rattle.flash_words.proofs.LayoutLaws.{layout_right}
use Rattle.nat_page.proofs.FaithfulLaws.{faithful_mapped}
use Rattle.branch_bridge.specs.declared.through.Arrival.{Arrival as BridgeArrival}
use Rattle.branch_bridge.specs.Operating.{with_torn}
use Rattle.branch_bridge.specs.Tried.{Tried, number_in, is_listed}
use Rattle.branch_bridge.specs.Arrivals.{Store, ArrivesFrom, CameThrough, KeptThrough, torn_by, stopped_by, ring_of}
use Rattle.branch_bridge.specs.Arrivals as bridge
use Rattle.program_steps.proofs.Arriving.{Answered, answered}
use Rattle.kernel_entry.specs.declared.kernel.Kernel.{Kernel}
use Rattle.kernel_entry.specs.declared.kernel.End.{End}
use Rattle.kernel_entry.specs.declared.kernel.End.TheVariants as ends
use Rattle.flash_words.specs.Operations.{Performed}
use Rattle.kernel_entry.specs.Parts.{virtual_sp}
use Rattle.kernel_entry.specs.Interrupts as interrupts
use Rattle.kernel_entry.specs.declared.kernel.Taken.{Taken}
use Rattle.kernel_entry.specs.declared.kernel.Taken.TheVariants as taken
use Rattle.kernel_entry.proofs.TakingRows.{taking_row}
use Rattle.flat_machine.specs.Addresses.{is_stack}
use Rattle.heap_frames.proofs.MemoryLaws.{stack_from}
use Rattle.sram_layout.specs.Cells.{vsp_cell}
use Rattle.sram_layout.proofs.Laws.{byte_other, byte_out_of_word}
use Rattle.kernel_entry.proofs.LeftLaws.{kept}
use Rattle.kernel_entry.proofs.ServedLaws.{served_leaves}
use Rattle.step_laws.proofs.ServiceMoves.{kernel_served}
use Rattle.step_laws.specs.Moves.{Plain, Serve, Move, Begin, Within, Arrive, Take}
use Rattle.step_laws.specs.Numbers.{one_if}
use Rattle.step_laws.specs.States.{State, end_by, mote_of, stops_taking, store_of, with_store, placed, settled_by, arrived}
use Rattle.step_laws.specs.Walks.{Walk, Makes, MakesPlain, MakesArrive, MakesTake}
use Rattle.program_steps.proofs.Arrived.{after_arrived, pc_in}
use Rattle.walk_laws.proofs.OneWalk.{kernel_taken}
use Rattle.theorem_reader.specs.Acts.{Act, Step, Service, Arrival, Interrupt, IsStep, Relinks, IsNext, IsMade, Arrives, In, Outside, Refused as RefusedThere, IsArrival, IsInterrupt, Follow}
use Rattle.theorem_reader.specs.Pools.{pool_from, AreFaithful, IsPlaceOf}
use Rattle.theorem_reader.proofs.Motes.{one_core, one_mote}
use Rattle.theorem_reader.proofs.Linking.{relinks_by}
use Rattle.theorem_reader.proofs.NextPage.{pool_pages_of, ring_stays, next_is, anew_from, erased_free, IsBegun, own_code, ready_of, Comes}
use Rattle.theorem_reader.proofs.KeptLinks.{OthersKeep, others_keep, lost_in}
use Rattle.theorem_reader.proofs.RefusedPages.{made_untorn, place_untorn}
use Rattle.theorem_reader.proofs.Pooling.{Begins, pool_begins, in_pool, faithful_is, but_is, place_is, entry_is, place_low}
use Rattle.theorem_reader.proofs.Working.{works_from, few_from, allowed_each}
use Rattle.theorem_reader.proofs.Serving.{service_is}
use Rattle.theorem_reader.proofs.PagesLeft.{leaves_from, erases_from}
use Rattle.theorem_reader.proofs.FarPages.{goes_far}

-- a move as an act between these states
abbrev pub act_of : Move → State → State → Act
act_of (Begin line) x y = Step line (mote_of x) (mote_of y)
act_of (Within (Plain line)) x y = Step line (mote_of x) (mote_of y)
act_of (Within (Serve line stops)) x y = Service line stops (mote_of x) (mote_of y)
act_of (Arrive target made ops) x y = Arrival (is_some y.end) target (one_if made) ops (mote_of x) (mote_of y)
act_of (Take stops) x y = Interrupt stops (mote_of x) (mote_of y)

abbrev pub acts_of : (x : State) (moves : List Move) (z : State) → Walk x moves z → List Act
acts_of x [] z walk = []
acts_of x (move ∷ moves) z walk = act_of move x walk.0 ∷ acts_of walk.0 moves z walk.2

pub step_is : (from : ℕ) (x y : State) (begins : Bool) (line : Option Line) → Begins from x.kernel.layout → MakesPlain x begins line y → IsStep from line (mote_of x) (mote_of y)
unfolding stepped byte_at
step_is from x y begins line pool makes =
    let next = makes.next in
    let is : IsStep from (line_shown makes.shown) (mote_of x) next = record {
      low = omega (arith, pool.first, makes.pool.from);
      high = omega (arith, pool.end, makes.pool.to);
      flash = makes.step.flash;
      swap = makes.step.swap;
      cells = (λ a low high. makes.kept.below a low (omega arith), λ a low high. makes.kept.above a low (omega arith));
      executed = makes.step.executed;
    } in
    subst (λ (s : State). IsStep from line (mote_of x) (mote_of s)) (sym makes.result) (subst (λ (l : Option Line). IsStep from l (mote_of x) next) makes.written is)

one_most : (b : Bool) → one_if b ≤ 1
one_most true = omega arith
one_most false = omega arith

-- the image stands in flash, the layout is that of its length, and the quantum is this
pub record Holds (image : List ℕ) (quantum : ℕ) (x : State) : Type 0 where
  pub laid : x.kernel.layout ≡ layout_of (length image)
  pub held : image_of (layout_of (length image)) (mote_of x).flash.words ≡ image
  pub counts : x.kernel.quantum ≡ quantum

pool_of : (image : List ℕ) (quantum : ℕ) (x : State) → Holds image quantum x → Begins (pool_from image) x.kernel.layout
pool_of image quantum x holds = subst (Begins (pool_from image)) (sym holds.laid) (pool_begins image)

-- outside the image nothing is done
beyond_by : (layout : Layout) (old new : Store) (t : ℕ) (result : Result Moved Refused) → layout.image_words ≤ t → bridge.Arrives layout old new t result
    → (new ≡ old) × ((moved : Moved) → result ≡ Ok moved → ⊥)
beyond_by layout old new t result outside (bridge.Beyond out same answer) = (same, λ moved is. (let e : Err (record { why = refusals.Wild t; torn = None }) ≡ Ok moved = sym answer ∙ is in cc))
beyond_by layout old new t result outside (bridge.Found place inside found same answer) = absurd (omega (arith, outside, inside))
beyond_by layout old new t result outside (bridge.Free page inside missed lowest makes) = absurd (omega (arith, outside, inside))
beyond_by layout old new t result outside (bridge.Full inside missed full recycles) = absurd (omega (arith, outside, inside))

pub beyond_is : (layout : Layout) (old new : Store) (t : ℕ) (stub : Option ℕ) (arrival : BridgeArrival) → layout.image_words ≤ t → ArrivesFrom layout old new t stub arrival
    → (new ≡ old) × (arrival.place ≡ None) × (arrival.made ≡ false)
beyond_is layout old new t stub arrival outside (bridge.Stopped refused arrives is) =
    ((beyond_by layout old new t _ outside arrives).0, ap (λ (a : BridgeArrival). a.place) is, ap (λ (a : BridgeArrival). a.made) is)
beyond_is layout old new t stub arrival outside (bridge.Went moved arrives none is) = absurd ((beyond_by layout old new t _ outside arrives).1 moved refl)
beyond_is layout old new t stub arrival outside (bridge.Resolved mid moved s arrives some stop done same is) = absurd ((beyond_by layout old mid t _ outside arrives).1 moved refl)

-- where the pc is behind an arrival
pc_unplaced : (x : State) (place : Option ℕ) (refused : Option Refused) → place ≡ None → (mote_of (settled_by (placed x place) refused)).cpu.pc ≡ (mote_of x).cpu.pc
pc_unplaced x (Some place) refused is = absurd (cc)
pc_unplaced x None None is = refl
pc_unplaced x None (Some refused) is = refl

pc_arrived : (x y : State) (store : Store) (arrival : BridgeArrival) (place : ℕ) → y ≡ arrived x store arrival → arrival.place ≡ Some place → (mote_of y).cpu.pc ≡ place
pc_arrived x y store arrival place after there = ap (λ (s : State). (mote_of s).cpu.pc) after ∙ pc_in (with_store x store) arrival.place arrival.refused place there

-- a refused arrival leaves the pc, or in the pool
place_by : (image words : List ℕ) (x y : State) (target : ℕ) (store : Store) (place : Option ℕ) (refused : Option Refused) → length image ≤ 24576
    → y ≡ settled_by (placed (with_store x store) place) refused → IsFaithful (layout_of (length image)) image words → IfSome place (IsEntry (layout_of (length image)) words target)
    → ((mote_of y).cpu.pc ≡ (mote_of x).cpu.pc) ⊎ ((pool_from image ≤ (mote_of y).cpu.pc) × ((mote_of y).cpu.pc < 0xF000))
place_by image words x y target store None refused few after code entered =
    inl (ap (λ (s : State). (mote_of s).cpu.pc) after ∙ pc_unplaced (with_store x store) None refused refl)
place_by image words x y target store (Some place) refused few after code entered =
    let l = layout_of (length image) in
    let pc : (mote_of y).cpu.pc ≡ place = ap (λ (s : State). (mote_of s).cpu.pc) after ∙ pc_in (with_store x store) (Some place) refused place refl in
    let low = place_low image words target place (place_is image words target place (faithful_mapped l image words (layout_right (length image) few) code) entered) in
    inr (omega (arith, pc, low.0), omega (arith, pc, low.1))

unmade_by : (made : Bool) → one_if made ≡ 0 → made ≡ false
unmade_by true zero = absurd (omega (arith, zero))
unmade_by false zero = refl

made_by : (made : Bool) → one_if made ≡ 1 → made ≡ true
made_by true one = refl
made_by false one = absurd (omega (arith, one))

-- where none was refused, none that was tried is listed
unlisted : (layout : Layout) (old new : Memory) (refused : Option Refused) (op : ℕ) → refused ≡ None → Tried layout old new (stopped_by refused) → old.ops < op → op ≤ new.ops → (listed : Bool)
    → is_listed old op ≡ listed → is_listed old op ≡ false
unlisted layout old new refused op none tried later most false is = is
unlisted layout old new refused op none tried later most true is =
    absurd (let e : None ≡ Some op = sym (ap (λ (r : Option Refused). number_in (stopped_by r)) none) ∙ tried.only op later most is in cc)

-- what stands in flash, and where control is, behind one that was not refused
in_place : (image : List ℕ) (x y : State) (target place : ℕ) (store : Store) (arrival : BridgeArrival) → IsBegun image (store_of x) → y ≡ arrived x store arrival
    → KeptThrough (layout_of (length image)) (store_of x) (store_of y) target arrival → arrival.place ≡ Some place → arrival.refused ≡ None
    → AreFaithful image (mote_of y).flash.words × IsPlaceOf image (mote_of y).flash.words target (mote_of y).cpu.pc
in_place image x y target place store arrival begun after kept there none =
    let l = layout_of (length image) in
    let words = (mote_of y).flash.words in
    let code : IsFaithful l image words = rw none at (rw begun.held at kept.code) in
    let entry : IsEntry l words target place = rw there at (rw none at kept.entered) in (
      faithful_is image words begun.right.image_fits code,
      subst (IsPlaceOf image words target) (sym (pc_arrived x y store arrival place after there)) (place_is image words target place (faithful_mapped l image words begun.right code) entry),
    )

-- it is refused just where the program ends there
settled_flag : (x : State) (refused : Option Refused) → is_some (settled_by x refused).end ≡ is_some refused
settled_flag x None = refl
settled_flag x (Some refused) = refl

pub refused_flag : (x y : State) (store : Store) (arrival : BridgeArrival) → y ≡ arrived x store arrival → is_some y.end ≡ is_some arrival.refused
refused_flag x y store arrival after = ap (λ (s : State). is_some s.end) after ∙ settled_flag (placed (with_store x store) arrival.place) arrival.refused

-- and so it ends
settled_end : (x : State) (refused : Refused) (found : Option Refused) → found ≡ Some refused → (settled_by x found).end ≡ Some (end_by refused.why)
settled_end x refused found is = ap (λ r. (settled_by x r).end) is

abbrev pub refusal_end : (image : List ℕ) (target ops : ℕ) → End
refusal_end image target ops = if nat_le (length image) target then ends.Wild target else ends.Flash ops

ended_by : (image : List ℕ) (x y : State) (target : ℕ) (store : Store) (arrival : BridgeArrival) → y ≡ arrived x store arrival
    → KeptThrough (layout_of (length image)) (store_of x) (store_of y) target arrival
    → Answered (layout_of (length image)) (store_of x) (store_of y) target arrival → is_some y.end ≡ true → y.end ≡ Some (refusal_end image target (mote_of y).flash.ops)
ended_by image x y target store arrival after kept (Answered.Wild is outside) over =
    let out : nat_le (length image) target ≡ true = grind (arith, nat_tests, outside) in
    ap (λ (s : State). s.end) after ∙ settled_end (placed (with_store x store) arrival.place) (record { why = refusals.Wild target; torn = None }) arrival.refused is
    ∙ ap (λ b. Some (if b then ends.Wild target else ends.Flash (mote_of y).flash.ops)) (sym out)
ended_by image x y target store arrival after kept (Answered.Failed stop is inside) over =
    let l = layout_of (length image) in
    let tried : Tried l (mote_of x).flash (mote_of y).flash (Some stop) = subst (λ r. Tried l (mote_of x).flash (mote_of y).flash (stopped_by r)) is kept.tried in
    let within : nat_le (length image) target ≡ false = grind (arith, nat_tests, inside) in
    ap (λ (s : State). s.end) after ∙ settled_end (placed (with_store x store) arrival.place) (bridge.refused_by stop) arrival.refused is ∙ ap (λ op. Some (ends.Flash op)) tried.refused.last
    ∙ ap (λ b. Some (if b then ends.Wild target else ends.Flash (mote_of y).flash.ops)) (sym within)
ended_by image x y target store arrival after kept (Answered.In place there none inside) over =
    absurd (let e : ◌≡◌ {A = Bool} true false = sym over ∙ refused_flag x y store arrival after ∙ ap is_some none in cc)

-- where a page was made, a place is known
place_made : (layout : Layout) (old new : Store) (t : ℕ) (stub : Option ℕ) (arrival : BridgeArrival) → ArrivesFrom layout old new t stub arrival → arrival.made ≡ true
    → (place : ℕ) × (arrival.place ≡ Some place)
place_made layout old new t stub arrival (bridge.Stopped refused arrives is) made = absurd (let e : ◌≡◌ {A = Bool} true false = sym made ∙ ap (λ (a : BridgeArrival). a.made) is in cc)
place_made layout old new t stub arrival (bridge.Went moved arrives none is) made = (moved.place, ap (λ (a : BridgeArrival). a.place) is)
place_made layout old new t stub arrival (bridge.Resolved mid moved s arrives some stop done same is) made = (moved.place, ap (λ (a : BridgeArrival). a.place) is)

-- what is told of a page that was made
made_there : (image : List ℕ) (x y : State) (target place : ℕ) (stub : Option ℕ) (store : Store) (arrival : BridgeArrival) → Comes image (mote_of x) (mote_of y) target stub arrival
    → y ≡ arrived x store arrival → arrival.made ≡ true → arrival.place ≡ Some place → IsPlaceOf image (mote_of y).flash.words target place → IsMade image target (mote_of x) (mote_of y)
made_there image x y target place stub store arrival comes after made there begins =
    let pc = pc_arrived x y store arrival place after there in
    let anew : (v : ℕ) → ¬ IsPlaceOf image (mote_of x).flash.words target v =
    λ v is. anew_from (layout_of (length image)) (store_of x) (store_of y) target stub arrival comes.from made v (entry_is image (mote_of x).flash.words target v is) in
    goes_far image (mote_of x) (mote_of y) target place stub arrival comes made there pc anew
    (subst (λ v. IsNext image target (mote_of x) (mote_of y) (v / 128)) (sym pc) (next_is image (mote_of x) (mote_of y) target stub arrival place comes anew made there))
    (subst (IsPlaceOf image (mote_of y).flash.words target) (sym pc) begins)

-- no page was made, or it is another one than this
unmade_or_other : (image : List ℕ) (x y : State) (target : ℕ) (stub : Option ℕ) (store : Store) (arrival : BridgeArrival) → y ≡ arrived x store arrival
    → ArrivesFrom (layout_of (length image)) (store_of x) (store_of y) target stub arrival → (made : Bool) → arrival.made ≡ made → (page : ℕ) → (one_if made ≡ 0) ⊎ (page ≢ (mote_of y).cpu.pc / 128)
    → (arrival.made ≡ false) ⊎ ((place : ℕ) × (arrival.place ≡ Some place) × (page ≢ place / 128))
unmade_or_other image x y target stub store arrival after from false is_made page which = inl is_made
unmade_or_other image x y target stub store arrival after from true is_made page (inl zero) = absurd (omega (arith, zero))
unmade_or_other image x y target stub store arrival after from true is_made page (inr away) =
    let there = place_made (layout_of (length image)) (store_of x) (store_of y) target stub arrival from is_made in
    inr (there.0, there.1, λ same. away (same ∙ ap (λ v. v / 128) (sym (pc_arrived x y store arrival there.0 after there.1))))

-- how it ended
arrives_by : (image : List ℕ) (x y : State) (target : ℕ) (stub : Option ℕ) (store : Store) (arrival : BridgeArrival) → Comes image (mote_of x) (mote_of y) target stub arrival
    → y ≡ arrived x store arrival → KeptThrough (layout_of (length image)) (store_of x) (store_of y) target arrival → Answered (layout_of (length image)) (store_of x) (store_of y) target arrival
    → (made : Bool) → arrival.made ≡ made → OthersKeep image target (mote_of x) (mote_of y) arrival → Arrives image (is_some y.end) target (one_if made) (mote_of x) (mote_of y)
arrives_by image x y target stub store arrival comes after kept (Answered.Wild is outside) made is_made others =
    let nothing = beyond_is (layout_of (length image)) (store_of x) (store_of y) target stub arrival outside comes.from in
    Outside (refused_flag x y store arrival after ∙ ap is_some is) outside (ap one_if (sym is_made ∙ nothing.2)) (ap (λ (s : Store). s.flash) nothing.0)
    (ap (λ (s : State). (mote_of s).cpu.pc) after ∙ pc_unplaced (with_store x store) arrival.place arrival.refused nothing.1)
arrives_by image x y target stub store arrival comes after kept (Answered.In place there none inside) made is_made others =
    let l = layout_of (length image) in
    let begun = comes.begun in
    let pc = pc_arrived x y store arrival place after there in
    let stands = in_place image x y target place store arrival begun after kept there none in
    In (refused_flag x y store arrival after ∙ ap is_some none) inside stands.0 stands.1 (λ page pool away. others.unrefused none place there page pool (λ is. away (is ∙ ap (λ v. v / 128) (sym pc))))
    (λ zero. (
      subst (Relinks (mote_of x).flash.words (mote_of y).flash.words) (sym pc)
          (relinks_by l (store_of x) (store_of y) target stub arrival place begun.right (own_code image (store_of x) begun) comes.came comes.from (is_made ∙ unmade_by made zero) none there),
      ring_stays l (store_of x) (mote_of y) target stub arrival (is_made ∙ unmade_by made zero) place there comes.from,
    )) (λ one. made_there image x y target place stub store arrival comes after (is_made ∙ made_by made one) there (subst (IsPlaceOf image (mote_of y).flash.words target) pc stands.1))
    (λ op later tried. unlisted l (mote_of x).flash (mote_of y).flash arrival.refused op none kept.tried later tried _ refl)
arrives_by image x y target stub store arrival comes after kept (Answered.Failed stop is inside) made is_made others =
    let l = layout_of (length image) in
    let words = (mote_of y).flash.words in
    let begun = comes.begun in
    let few = begun.right.image_fits in
    let tried : Tried l (mote_of x).flash (mote_of y).flash (Some stop) = subst (λ r. Tried l (mote_of x).flash (mote_of y).flash (stopped_by r)) is kept.tried in
    let refusal = tried.refused in
    let code : IsFaithful l image (with_torn words stop.torn) = rw is at (rw begun.held at kept.code) in
    let entered = subst (λ r. IfSome arrival.place (λ v. IsEntry l (with_torn words (torn_by r)) target v)) is kept.entered in
    RefusedThere (refused_flag x y store arrival after ∙ ap is_some is) inside (omega (arith, refusal.later, refusal.last)) (ap (is_listed (mote_of x).flash) (sym refusal.last) ∙ refusal.listed)
    (but_is image words stop.torn few code refusal.torn) (lost_in (torn_by arrival.refused))
    (λ page pool which. others.unmade page pool (unmade_or_other image x y target stub store arrival after comes.from made is_made page which))
    (place_by image (with_torn words stop.torn) x y target store arrival.place arrival.refused few after code entered) (λ one.
    let makes = is_made ∙ made_by made one in
    let there = place_made l (store_of x) (store_of y) target stub arrival comes.from makes in
    let untorn = subst (λ r. IfSome (torn_by r) (λ torn. torn.page ≢ there.0 / 128)) is
    (made_untorn l (store_of x) (store_of y) target stub arrival there.0 (ready_of image (store_of x) begun) comes.came comes.from makes there.1) in
    let entry = subst (λ p. IfSome p (λ v. IsEntry l (with_torn words stop.torn) target v)) there.1 entered in
    made_there image x y target there.0 stub store arrival comes after makes there.1
    (place_untorn image words stop.torn target there.0 begun.right (tried.size ∙ begun.code.whole) refusal.torn (faithful_mapped l image (with_torn words stop.torn) begun.right code) entry untorn))

-- an arrival that a walk makes, and what it keeps
pub comes_by : (image : List ℕ) (quantum : ℕ) (x y : State) (target : ℕ) (made : Bool) (ops : ℕ) → Holds image quantum x → (makes : MakesArrive x target made ops y)
    → Comes image (mote_of x) (mote_of y) target makes.owed.stub makes.arrival × KeptThrough (layout_of (length image)) (store_of x) (store_of y) target makes.arrival
comes_by image quantum x y target made ops holds makes =
    let l = layout_of (length image) in
    let words = (mote_of x).flash.words in
    let after = after_arrived x y makes.store makes.arrival makes.after in (
      record {
        begun = record {
          right = subst IsRight holds.laid makes.can.right;
          held = holds.held;
          code = subst (λ i. IsFaithful l i words) holds.held (subst (λ k. IsFaithful k (image_of k words) words) holds.laid makes.can.faithful);
          ring = subst (λ (k : Layout). ring_of (mote_of x).sram < k.pool_pages) holds.laid makes.can.ring;
        };
        came = subst (λ k. CameThrough k words makes.owed.stub target) holds.laid makes.can.came;
        from = rw after.store_is (rw holds.laid at makes.arrives);
      },
      rw after.store_is (rw holds.laid at makes.kept),
    )

pub record Arriving (image : List ℕ) (quantum target made ops : ℕ) (x y : State) : Type 0 where
  pub act : IsArrival image (is_some y.end) target made ops (mote_of x) (mote_of y)
  pub holds : Holds image quantum y
  pub over : is_some y.end ≡ true → y.end ≡ Some (refusal_end image target (mote_of y).flash.ops)

pub arrival_is : (image : List ℕ) (quantum : ℕ) (x y : State) (target : ℕ) (made : Bool) (ops : ℕ) → Holds image quantum x → MakesArrive x target made ops y
    → Arriving image quantum target (one_if made) ops x y
unfolding byte_at
arrival_is image quantum x y target made ops holds makes =
    let l = layout_of (length image) in
    let after = after_arrived x y makes.store makes.arrival makes.after in
    let begins = pool_begins image in
    let both = comes_by image quantum x y target made ops holds makes in
    let comes = both.0 in
    let kept = both.1 in
    let right = comes.begun.right in
    let sound = comes.begun.code in
    let ready = ready_of image (store_of x) comes.begun in
    let counted = ap (λ (s : Store). s.flash.ops) after.store_is ∙ makes.tried in
    let answer = answered l (store_of x) (store_of y) target makes.owed.stub makes.arrival comes.from in
    let worked = works_from l (store_of x) (store_of y) target makes.owed.stub makes.arrival ready comes.came comes.from in
    let leaves = λ (page : ℕ). leaves_from l (store_of x) (store_of y) page target makes.owed.stub makes.arrival ready comes.came comes.from in
    let erases = λ (page : ℕ). erases_from l (store_of x) target (mote_of y).flash makes.arrival page (leaves page) in
    let pc = λ (place : ℕ) (there : makes.arrival.place ≡ Some place). pc_arrived x y makes.store makes.arrival place makes.after there in
    record {
      act = record {
        sound = faithful_is image (mote_of x).flash.words right.image_fits sound;
        page = one_most made;
        worked = omega (arith, counted, worked.does.counted, worked.some, ap one_if makes.makes);
        operations = worked.does.operations;
        tried = omega (arith, counted, worked.does.counted);
        counted = counted;
        allowed = λ done behind operation split. allowed_each image (mote_of x).flash worked.does.operations done behind operation worked.does.suit
            (ap (λ (p : Performed). p.memory.ops) worked.does.is ∙ worked.does.counted) split;
        few = λ page inside erased. (
            let pool = in_pool image page inside in
            omega (
              arith,
              counted,
              few_from l (store_of x) (store_of y) target page makes.owed.stub makes.arrival pool (erased_free l image (mote_of x).flash.words page right sound pool erased) comes.from,
              ap one_if makes.makes,
            ));
        most = omega (arith, counted, kept.ops, pool_pages_of image);
        performed = ap (λ (p : Performed). p.memory) worked.does.is;
        erased = record { twice = λ page below. (erases page).0; never = λ page below. (erases page).1 };
        stays = one_mote (mote_of y) (record (mote_of x) { cpu = record (mote_of x).cpu { pc = (mote_of y).cpu.pc }; sram = (mote_of y).sram; flash = (mote_of y).flash })
            (one_core (mote_of y).cpu (mote_of x).cpu after.r after.sreg after.sp) refl refl after.devices after.swap;
        low = λ a low high. kept.rest.rest a low (inl (omega (arith, high)));
        high = λ a low. kept.rest.rest a (omega (arith, low)) (inr low);
        outside = λ a out. kept.tried.outside a (λ pool. elim out [
          | inl low ↦ omega (arith, pool.from, begins.first, low)
          | inr high ↦ omega (arith, pool.to, begins.end, high)
        ]);
        arrives = arrives_by image x y target makes.owed.stub makes.store makes.arrival comes makes.after kept answer made makes.makes
            (others_keep image target (mote_of x) (mote_of y) makes.arrival comes.begun pc leaves);
      };
      holds = record { laid = after.layout ∙ holds.laid; held = kept.image ∙ holds.held; counts = after.quantum ∙ holds.counts };
      over = ended_by image x y target makes.store makes.arrival makes.after kept answer;
    }

-- two bytes inside the stack window
inside_by : (sp : ℕ) (b c : Bool) → is_stack sp ≡ b → is_stack (wrapping_difference sp 1) ≡ c → cond b (cond c None (Some (wrapping_difference sp 1))) (Some sp) ≡ None
    → (is_stack sp ≡ true) × (is_stack (wrapping_difference sp 1) ≡ true)
inside_by sp true true first second none = (first, second)
inside_by sp true false first second none = absurd (cc)
inside_by sp false c first second none = absurd (cc)

-- what an interrupt that was taken leaves of the kernel's bytes
byte_stays : (k : Kernel) (n target a : ℕ) → interrupts.first_outside (virtual_sp k) ≡ None → 0x0100 ≤ a → a ≤ 0x0CFF → a ≢ 0x0103 → a ≢ 0x0104
    → byte_at (interrupts.after_taking k n target).mote.sram a ≡ byte_at k.mote.sram a
byte_stays k n target a inside low high first second =
    let sp = virtual_sp k in
    let both = inside_by sp (is_stack sp) (is_stack (wrapping_difference sp 1)) refl refl inside in
    let here = stack_from sp both.0 in
    let below = stack_from (wrapping_difference sp 1) both.1 in
    byte_out_of_word (interrupts.with_address k.mote.sram sp target) vsp_cell a (wrapping_difference sp 2) (omega arith) low first second
    ∙ byte_other (with_byte k.mote.sram sp (target % 256)) (wrapping_difference sp 1) a (target / 256) (omega (arith, below)) low (λ e. omega (arith, e, high, below))
    ∙ byte_other k.mote.sram sp a (target % 256) (omega (arith, here)) low (λ e. omega (arith, e, high, here))

pub record KeptBy (k new : Kernel) (stops : Bool) : Type 0 where
  pub layout : new.layout ≡ k.layout
  pub quantum : new.quantum ≡ k.quantum
  pub mote : IsInterrupt stops k.mote new.mote

kept_same : (k new : Kernel) (stops : Bool) → new ≡ k → KeptBy k new stops
kept_same k new stops same = record {
  layout = ap (λ (x : Kernel). x.layout) same;
  quantum = ap (λ (x : Kernel). x.quantum) same;
  mote = record {
    stopped = λ over. ap (λ (x : Kernel). x.mote) same;
    stays = subst (λ (x : Kernel). x.mote ≡ record k.mote { cpu = record k.mote.cpu { sreg = x.mote.cpu.sreg }; sram = x.mote.sram; devices = x.mote.devices }) (sym same) refl;
    cells = (
      λ a low high. ap (λ (x : Kernel). slice_index x.mote.sram (a - 0x0100)) same,
      λ a low high. ap (λ (x : Kernel). slice_index x.mote.sram (a - 0x0100)) same,
    );
  };
}

kept_taken : (k : Kernel) (n target : ℕ) → interrupts.first_outside (virtual_sp k) ≡ None → KeptBy k (interrupts.after_taking k n target) false
unfolding byte_at
kept_taken k n target inside = record {
  layout = refl;
  quantum = refl;
  mote = record {
    stopped = λ over. absurd (let e : ◌≡◌ {A = Bool} false true = over in cc);
    stays = refl;
    cells = (
      λ a low high. byte_stays k n target a inside low (omega (arith, high)) (λ e. omega (arith, e, high)) (λ e. omega (arith, e, high)),
      λ a low high. byte_stays k n target a inside (omega (arith, low)) high (λ e. omega (arith, e, low)) (λ e. omega (arith, e, low)),
    );
  };
}

kept_by : (k new : Kernel) (target : ℕ) (result : Taken) → interrupts.TakesLeast k target result new → KeptBy k new (stops_taking result)
kept_by k new target taken.Nothing row = kept_same k new false (row.stays (λ place e. absurd (cc)))
kept_by k new target (taken.Stopped stop) row = kept_same k new true (row.stays (λ place e. absurd (cc)))
kept_by k new target (taken.Vector place) row =
    subst (λ (n : Kernel). KeptBy k n false) (sym (row.taken place refl)) (kept_taken k _ target ((row.vector place).0 refl).1)

pub taken_keeps : (x y : State) (stops : Bool) → MakesTake x stops y → KeptBy x.kernel y.kernel stops
taken_keeps x y stops makes =
    let target = makes.owed.target in
    let p = interrupts.taken x.kernel target in
    subst (λ (n : Kernel). KeptBy x.kernel n stops) (sym (ap (λ (s : State). s.kernel) makes.result ∙ kernel_taken x p))
    (subst (KeptBy x.kernel p.1) makes.halts (kept_by x.kernel p.1 target p.0 (taking_row x.kernel target p.0 p.1 refl makes.paged)))

-- a move that is no arrival leaves flash, the layout and the quantum
abbrev pub IsNoArrival : Move → Type 0
IsNoArrival (Arrive target made ops) = ⊥
IsNoArrival _ = Unit {0}

pub record StaysBy (x y : State) : Type 0 where
  pub layout : y.kernel.layout ≡ x.kernel.layout
  pub quantum : y.kernel.quantum ≡ x.kernel.quantum
  pub flash : (mote_of y).flash ≡ (mote_of x).flash

pub stays_by : (x : State) (move : Move) (y : State) → Makes x move y → IsNoArrival move → StaysBy x y
stays_by x (Within (Serve line stops)) y makes none =
    let leaves = served_leaves x.kernel makes.can in
    let same = kernel_served x y line stops makes in
    record {
      layout = ap (λ (k : Kernel). k.layout) same ∙ leaves.layout;
      quantum = ap (λ (k : Kernel). k.quantum) same ∙ leaves.quantum;
      flash = ap (λ (k : Kernel). k.mote.flash) same ∙ leaves.flash;
    }
stays_by x (Arrive target made ops) y makes none = absurd none
stays_by x (Take stops) y makes none =
    let keeps = taken_keeps x y stops makes in
    record { layout = keeps.layout; quantum = keeps.quantum; flash = ap (λ (m : Mote). m.flash) keeps.mote.stays }
stays_by x _ y makes none = record {
  layout = ap (λ (s : State). s.kernel.layout) makes.result;
  quantum = ap (λ (s : State). s.kernel.quantum) makes.result;
  flash = ap (λ (s : State). (mote_of s).flash) makes.result ∙ makes.step.flash;
}

pub holds_still : (image : List ℕ) (quantum : ℕ) (x y : State) → Holds image quantum x → StaysBy x y → Holds image quantum y
holds_still image quantum x y holds stays = record {
  laid = stays.layout ∙ holds.laid;
  counts = stays.quantum ∙ holds.counts;
  held = ap (λ (f : Memory). image_of (layout_of (length image)) f.words) stays.flash ∙ holds.held;
}

-- each act of a walk is one, and the image stays
pub record Following (image : List ℕ) (quantum : ℕ) (x : State) (moves : List Move) (z : State) (walk : Walk x moves z) : Type 0 where
  pub follow : Follow image quantum (mote_of x) (acts_of x moves z walk) (mote_of z)
  pub holds : Holds image quantum z

pub follow : (image : List ℕ) (quantum : ℕ) (x : State) (moves : List Move) (z : State) (walk : Walk x moves z) → Holds image quantum x → Following image quantum x moves z walk
follow image quantum x [] z walk holds = record { follow = ap mote_of walk; holds = subst (Holds image quantum) walk holds }
follow image quantum x (Begin line ∷ moves) z walk holds =
    let rest = follow image quantum walk.0 moves z walk.2 (holds_still image quantum x walk.0 holds (stays_by x (Begin line) walk.0 walk.1 tt)) in
    record { follow = (refl, step_is (pool_from image) x walk.0 true line (pool_of image quantum x holds) walk.1, rest.follow); holds = rest.holds }
follow image quantum x (Within (Plain line) ∷ moves) z walk holds =
    let rest = follow image quantum walk.0 moves z walk.2 (holds_still image quantum x walk.0 holds (stays_by x (Within (Plain line)) walk.0 walk.1 tt)) in
    record { follow = (refl, step_is (pool_from image) x walk.0 false line (pool_of image quantum x holds) walk.1, rest.follow); holds = rest.holds }
follow image quantum x (Within (Serve line stops) ∷ moves) z walk holds =
    let rest = follow image quantum walk.0 moves z walk.2 (holds_still image quantum x walk.0 holds (stays_by x (Within (Serve line stops)) walk.0 walk.1 tt)) in
    let held = ap (λ (l : Layout). image_of l (mote_of x).flash.words) holds.laid ∙ holds.held in
    record { follow = (refl, service_is image quantum x walk.0 line stops held holds.counts walk.1, rest.follow); holds = rest.holds }
follow image quantum x (Arrive target made ops ∷ moves) z walk holds =
    let one = arrival_is image quantum x walk.0 target made ops holds walk.1 in
    let rest = follow image quantum walk.0 moves z walk.2 one.holds in
    record { follow = (refl, one.act, rest.follow); holds = rest.holds }
follow image quantum x (Take stops ∷ moves) z walk holds =
    let rest = follow image quantum walk.0 moves z walk.2 (holds_still image quantum x walk.0 holds (stays_by x (Take stops) walk.0 walk.1 tt)) in
    record { follow = (refl, (taken_keeps x walk.0 stops walk.1).mote, rest.follow); holds = rest.holds }
