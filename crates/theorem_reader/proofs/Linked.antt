-- What comes of each call of the kernel at 0xF000.
use Rattle.std.proofs.Common.{◌≡◌, ℕ, ◌+◌, ◌/◌, ◌%◌, ◌<◌, Bool, true, false, if◌then◌else◌, List, [], ◌∷◌, length, Option, Some, None, Ok, refl, sym, ap, ◌∙◌, subst, arith, ◌⊎◌, inl, inr}
use Rattle.std.specs.Prelude.{◌==◌, is_some}
use Rattle.std.proofs.lemmas.Bool.{and_parts}
use Rattle.std.proofs.lemmas.Bool.Decides.{nat_tests}
use Rattle.std.proofs.lemmas.Option.{same_Some}
use Rattle.flash_words.specs.Memory.{Memory}
use Rattle.flash_words.specs.Layouts.{IsRight, image_of}
use Rattle.flash_words.specs.declared.layout.Layout.{Layout}
use Rattle.flash_words.specs.Pages.{page_words, word_count}
use Rattle.nat_page.specs.Links.{IsLinkIn}
use Rattle.nat_page.proofs.RelinkLaws.{link_placed}
use Rattle.nat_page.proofs.TwoWords.{first_of_two, second_of_two}
use Rattle.page_draft.specs.Standing.{jump_word}
use Rattle.branch_bridge.specs.declared.arrival.Moved.{Moved}
use Rattle.branch_bridge.specs.declared.arrival.Refused.{Refused}
use Rattle.branch_bridge.specs.declared.through.Arrival.{Arrival as BridgeArrival}
use Rattle.branch_bridge.specs.Operating.{perform}
use Rattle.branch_bridge.specs.Resolving.{resolving}
use Rattle.branch_bridge.specs.Arrivals.{Store, ring_of, CameThrough, to_resolve, Arrives, Beyond, Found, Free, Full, ArrivesFrom, Stopped, Went, Resolved}
use Rattle.branch_bridge.proofs.ArrivalLaws.{tried_arriving}
use Rattle.branch_bridge.proofs.MakeLaws.{makes_told}
use Rattle.branch_bridge.proofs.ThroughLaws.{is_to_resolve}
use Rattle.kernel_entry.specs.declared.kernel.Kernel.{Kernel}
use Rattle.kernel_entry.specs.Parts.{return_address, descriptor}
use Rattle.kernel_entry.specs.Services.{is_due, due_by, bridged}
use Rattle.kernel_entry.proofs.ServedLaws.{at_entry, bridge_row}
use Rattle.nat_template.specs.Stubs.{bridge_entry}
use Rattle.sram_layout.specs.Bytes.{byte_at}
use Rattle.sram_layout.specs.Cells.{count_cell}
use Rattle.avr_isa.specs.Addresses.{wrapping_difference}
use Rattle.mote_devices.specs.declared.line.Line.{Line}
use Rattle.step_laws.specs.Moves.{Plain, Serve, Move, Within, Arrive, Take}
use Rattle.step_laws.specs.Numbers.{one_if}
use Rattle.step_laws.specs.States.{State, Awaited, mote_of, store_of, with_store, is_taken_at, after_service}
use Rattle.step_laws.specs.Walks.{Walk, Makes as MakesMove, MakesServe, MakesArrive}
use Rattle.program_steps.proofs.Arrived.{after_arrived, pc_in}
use Rattle.theorem_reader.specs.Acts.{Links, AreLinked, call_address, program_address}
use Rattle.theorem_reader.specs.Pools.{StandAt}
use Rattle.theorem_reader.proofs.Acting.{act_of, acts_of, refused_flag}
use Rattle.theorem_reader.proofs.Linking.{not_stopped, words_resolved}
use Rattle.theorem_reader.proofs.OtherPages.{IsReady, recycled_stays, still_linked}
use Rattle.theorem_reader.proofs.RefusedPages.{recycled_again}

-- Where a page was recycled, it is the one that was made.
recycled_here : (layout : Layout) (old new : Store) (t page : ℕ) (moved : Moved) → IsReady layout old → Arrives layout old new t (Ok moved)
    → moved.recycled ≡ Some page → (moved.made ≡ true) × (page ≡ moved.place / page_words)
recycled_here layout old new t page moved (right, code, ring) (Beyond out same is) some = absurd (cc)
recycled_here layout old new t page moved (right, code, ring) (Found place inside finds same is) some =
    let e : moved ≡ record { place = place; made = false; recycled = None } = cc in
    absurd (let never : None ≡ Some page = sym (ap (λ (m : Moved). m.recycled) e) ∙ some in cc)
recycled_here layout old new t page moved (right, code, ring) (Free lowest inside finds first makes) some =
    absurd (let never : None ≡ Some page = sym (makes_told layout old new lowest t false (Ok moved) makes) ∙ some in cc)
recycled_here layout old new t page moved (right, code, ring) (Full inside finds none recycles) some =
    let victim = layout.pool_first + ring_of old.sram in
    let again = recycled_again layout old new victim t moved recycles in
    let same = same_Some victim page (sym again.1 ∙ some) in
    (again.0, sym same ∙ (recycled_stays layout old new victim t (Ok moved) right code (record { from = omega arith; to = omega (arith, ring) }) recycles).here)

by_page : (page s : ℕ) (test : Bool) → (page == s / page_words) ≡ test → (if test then None else Some s) ≡ None → page ≡ s / page_words
by_page page s true same is = grind (arith, nat_tests)
by_page page s false same is = absurd (let never : Some s ≡ None = is in cc)

not_to_resolve : (recycled : Option ℕ) (s : ℕ) → to_resolve recycled (Some s) ≡ None → recycled ≡ Some (s / page_words)
not_to_resolve None s is = absurd (let never : Some s ≡ None = is in cc)
not_to_resolve (Some page) s is = ap Some (by_page page s (page == s / page_words) refl is)

-- A stub is resolved, or its page was made anew.
abbrev LeadsOn : (words : List ℕ) (s : ℕ) (made : Bool) (place : ℕ) → Type 0
LeadsOn words s made place = StandAt words s jump_word place ⊎ ((made ≡ true) × (s / page_words ≡ place / page_words))

jumps_there : (layout : Layout) (image : List ℕ) (old new : Memory) (s t place : ℕ) → IsRight layout → length old.words ≡ word_count → IsLinkIn layout image old.words s t
    → perform old (resolving old.words s place) ≡ record { memory = new; stop = None } → StandAt new.words s jump_word place
jumps_there layout image old new s t place right whole link done =
    let placed = link_placed layout image old.words s t jump_word place right whole link in
    let below : s + 1 < length old.words = omega (arith, whole, placed.low, placed.room) in
    subst (λ w. StandAt w s jump_word place) (sym (words_resolved layout image old new s t place right whole link done))
    (first_of_two old.words s jump_word place below, second_of_two old.words s jump_word place below)

linked_from : (layout : Layout) (old new : Store) (t s pc : ℕ) (arrival : BridgeArrival) → IsReady layout old → CameThrough layout old.flash.words (Some s) t
    → ArrivesFrom layout old new t (Some s) arrival → arrival.refused ≡ None → ((place : ℕ) → arrival.place ≡ Some place → pc ≡ place) → LeadsOn new.flash.words s arrival.made pc
linked_from layout old new t s pc arrival (right, code, ring) came (Stopped refused arrives is) none at =
    absurd (let e : Some refused ≡ None = sym (ap (λ (a : BridgeArrival). a.refused) is) ∙ none in cc)
linked_from layout old new t s pc arrival (right, code, ring) came (Went moved arrives nothing is) none at =
    let here = recycled_here layout old new t (s / page_words) moved (right, code, ring) arrives (not_to_resolve moved.recycled s nothing) in
    inr (ap (λ (a : BridgeArrival). a.made) is ∙ here.0, here.1 ∙ ap (λ v. v / page_words) (sym (at moved.place (ap (λ (a : BridgeArrival). a.place) is))))
linked_from layout old new t s pc arrival (right, code, ring) came (Resolved mid moved b arrives some stop done kept is) none at =
    let same = same_Some b s (sym (is_to_resolve moved.recycled (Some s) b some).same) in
    let no_stop : stop ≡ None = not_stopped stop (sym (ap (λ (a : BridgeArrival). a.refused) is) ∙ none) in
    let link = still_linked layout old mid t b (Some s) moved (right, code, ring) came arrives some in
    let whole : length mid.flash.words ≡ word_count = (tried_arriving layout old mid t (Ok moved) right code.whole ring arrives).size ∙ code.whole in
    let ran = subst (λ x. perform mid.flash (resolving mid.flash.words b moved.place) ≡ record { memory = new.flash; stop = x }) no_stop done in
    let two = jumps_there layout (image_of layout old.flash.words) mid.flash new.flash b t moved.place right whole link ran in
    let there = at moved.place (ap (λ (a : BridgeArrival). a.place) is) in
    inl (subst (λ v. StandAt new.flash.words s jump_word v) (sym there) (subst (λ x. StandAt new.flash.words x jump_word moved.place) same two))

-- A service at 0xF000 leaves an arrival owed, from the stub; and no interrupt is due.
abbrev owed_there : Kernel → Awaited
owed_there k = record { target = descriptor k; stub = Some (wrapping_difference (return_address k) 2); due = false }

undue : (k : Kernel) → k.mote.cpu.pc ≡ bridge_entry → is_due k ≡ false
unfolding is_due
undue k at = ap (due_by k.mote.cpu.pc (descriptor k) (byte_at k.mote.sram count_cell == 1)) (bridge_row k at).answer

owed_by : (x y : State) (line : Option Line) (stops : Bool) → MakesServe x line stops y → (mote_of x).cpu.pc ≡ bridge_entry → y.owed ≡ Some (owed_there x.kernel)
owed_by x y line stops makes at =
    ap (λ (s : State). s.owed) (makes.result ∙ ap (after_service (is_due x.kernel)) (at_entry x.kernel bridge_entry at) ∙ ap (λ due. after_service due (bridged x.kernel)) (undue x.kernel at))

not_free : (owed : Option Awaited) (w : Awaited) → owed ≡ Some w → owed ≡ None → ⊥
not_free owed w owes free = let never : Some w ≡ None = sym owes ∙ free in absurd (cc)

untaken : (y : State) (w : Awaited) → w.due ≡ false → is_taken_at y w ≡ true → ⊥
untaken y w not_due taken = let never : ◌≡◌ {A = Bool} true false = sym (and_parts _ _ taken).0 ∙ not_due in absurd (cc)

none_refused : (refused : Option Refused) → is_some refused ≡ false → refused ≡ None
none_refused None is = refl
none_refused (Some refused) is = absurd (let never : ◌≡◌ {A = Bool} true false = is in cc)

as_made : (words : List ℕ) (s place : ℕ) (made made' : Bool) → made' ≡ made → LeadsOn words s made' place → StandAt words s 0x940C place ⊎ ((one_if made ≡ 1) × (s / 128 ≡ place / 128))
as_made words s place made made' same (inl jump) = inl jump
as_made words s place made made' same (inr page) = inr (ap one_if (sym same ∙ page.0), page.1)

called_there : (k : Kernel) → (wrapping_difference (return_address k) 2 ≡ call_address k.mote) × (descriptor k ≡ program_address k.mote)
unfolding byte_at
called_there k = (ap (λ n. n % 65536) (omega arith), refl)

arrival_links : (x y z : State) (line : Option Line) (stops : Bool) (target : ℕ) (made : Bool) (ops : ℕ) → MakesServe x line stops y → (mote_of x).cpu.pc ≡ bridge_entry
    → MakesArrive y target made ops z → Links (mote_of x) (act_of (Arrive target made ops) y z)
arrival_links x y z line stops target made ops serves at makes =
    let s = call_address (mote_of x) in
    let l = y.kernel.layout in
    let words = (mote_of y).flash.words in
    let there = called_there x.kernel in
    let owes = same_Some makes.owed (owed_there x.kernel) (sym makes.owes ∙ owed_by x y line stops serves at) in
    let stub : makes.owed.stub ≡ Some s = ap (λ (w : Awaited). w.stub) owes ∙ ap Some there.0 in
    let came : CameThrough l words (Some s) target = subst (λ o. CameThrough l words o target) stub makes.can.came in
    let from : ArrivesFrom l (store_of y) (store_of z) target (Some s) makes.arrival = rw (after_arrived y z makes.store makes.arrival makes.after).store_is (rw stub at makes.arrives) in (
      makes.at ∙ ap (λ (w : Awaited). w.target) owes ∙ there.1,
      (came.call, came.bridge),
      λ going. as_made (mote_of z).flash.words s (mote_of z).cpu.pc made makes.arrival.made makes.makes
          (linked_from l (store_of y) (store_of z) target s (mote_of z).cpu.pc makes.arrival (makes.can.right, makes.can.faithful, makes.can.ring) came from
          (none_refused makes.arrival.refused (sym (refused_flag y z makes.store makes.arrival makes.after) ∙ going))
          (λ place is. ap (λ (n : State). (mote_of n).cpu.pc) makes.after ∙ pc_in (with_store y makes.store) makes.arrival.place makes.arrival.refused place is)),
    )

next_links : (x y z : State) (line : Option Line) (stops : Bool) (move : Move) → MakesServe x line stops y → (mote_of x).cpu.pc ≡ bridge_entry → MakesMove y move z
    → Links (mote_of x) (act_of move y z)
next_links x y z line stops (Arrive target made ops) serves at makes = arrival_links x y z line stops target made ops serves at makes
next_links x y z line stops (Take over) serves at makes =
    untaken y makes.owed (ap (λ (w : Awaited). w.due) (same_Some makes.owed (owed_there x.kernel) (sym makes.owes ∙ owed_by x y line stops serves at))) makes.taken_now
next_links x y z line stops (Within (Plain told)) serves at makes = not_free y.owed (owed_there x.kernel) (owed_by x y line stops serves at) makes.free
next_links x y z line stops _ serves at makes = not_free y.owed (owed_there x.kernel) (owed_by x y line stops serves at) makes.free

pub are_linked : (x : State) (moves : List Move) (z : State) (walk : Walk x moves z) → AreLinked (acts_of x moves z walk)
are_linked x [] z walk = tt
are_linked x (Within (Serve line stops) ∷ []) z walk = tt
are_linked x (Within (Serve line stops) ∷ move ∷ moves) z walk = (λ at. next_links x walk.0 walk.2.0 line stops move walk.1 at walk.2.1, are_linked walk.0 (move ∷ moves) z walk.2)
are_linked x (move ∷ moves) z walk = are_linked walk.0 moves z walk.2
