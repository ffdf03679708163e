-- What one call tells of a move.
use Rattle.program_steps.proofs.Awaiting.{owes_of}
use Rattle.std.proofs.Common.{◌≡◌, ℕ, ◌+◌, ◌-◌, ◌<◌, ◌≤◌, Bool, false, List, [], ◌∷◌, refl, sym, ap, ap₂, ◌∙◌, arith, subst, inl, inr}
use Rattle.std.specs.Prelude.{◌⊎◌, ◌≢◌, ◌^◌, max, IfNone, Option, Some, None}
use Rattle.std.specs.Option.{option_or}
use Rattle.flash_words.specs.Memory.{Memory}
use Rattle.mote_devices.specs.declared.line.Line.{Line}
use Rattle.mote_core.specs.declared.mote.Mote.{Mote}
use Rattle.mote_core.specs.declared.mote.Plain.{Plain}
use Rattle.mote_core.specs.Shown.{line_shown}
use Rattle.mote_core.specs.Step.{IsPlainStep}
use Rattle.mote_core.proofs.OneOutcome.{one_step}
use Rattle.kernel_entry.specs.declared.kernel.Kernel.{Kernel}
use Rattle.kernel_entry.specs.declared.kernel.Served.{Served}
use Rattle.kernel_entry.specs.Services.{served, is_due}
use Rattle.branch_bridge.specs.declared.rewriting.Torn.{Torn}
use Rattle.kernel_entry.specs.declared.kernel.End.{End}
use Rattle.kernel_entry.specs.declared.kernel.Owed.{Owed}
use Rattle.program_steps.specs.declared.progress.Progress.{Progress}
use Rattle.program_steps.specs.Wholes.{whole, entered}
use Rattle.step_laws.specs.Moves.{Inner, Plain as PlainMove, Serve, Within}
use Rattle.step_laws.specs.Numbers.{Numbers, moved, one_if}
use Rattle.page_index.specs.Entries.{IsEntry, IsMapped}
use Rattle.page_cursor.specs.Cursors.{IsCursor}
use Rattle.page_cursor.specs.declared.cursor.Cursor.{Cursor}
use Rattle.page_index.specs.Maps.{IsFree, IsMap}
use Rattle.page_index.proofs.MapLaws.{free_lists_nothing}
use Rattle.flash_words.specs.Layouts.{IsRight}
use Rattle.flash_words.specs.declared.layout.Layout.{Layout}
use Rattle.program_steps.specs.Machines.{Machine, state_of, numbers_of}
use Rattle.program_steps.specs.Loop.{IsHalted, KeepsFlash, AreSmall, IsOver, CanPlain, HasPlain, CanServeNow, HasServed, CanMove, HasMoved, moves_made}
use Rattle.step_laws.specs.States.{Awaited, State, mote_of, with_mote, after_service, line_served, is_stop}
use Rattle.step_laws.specs.Walks.{MakesPlain, MakesServe, MakesOf, WalkWithin}
use Rattle.step_laws.proofs.MoveLaws.{entry_high, pool_low}
use Rattle.nat_page.specs.Entered.{IsPlace}

pub plain_state : {x y : State} (next : Mote) (shown : Plain) {b : Bool} {line : Option Line} → IsPlainStep (mote_of x) shown next → MakesPlain x b line y
    → (with_mote x next ≡ y) × (line_shown shown ≡ line)
plain_state {x} next shown step makes =
    let same = one_step (mote_of x) next makes.next shown makes.shown step makes.step in
    (ap (with_mote x) same.0 ∙ sym makes.result, ap line_shown same.1 ∙ makes.written)

-- where `longest` lags behind `since`, a plain step raises what it stands for
pub plain_numbers : (n : Numbers) (line : Option Line) (before longest ops : ℕ) → n.natural ≡ before + n.since → n.longest ≡ max longest n.since → ops ≡ n.ops
    → ◌≡◌ {A = Numbers} (record n { natural = before + (n.since + 1); since = n.since + 1; longest = max longest (n.since + 1); ops = ops }) (moved (Within (PlainMove line)) n)
unfolding moved
plain_numbers n line before longest ops counted is stays =
    let one : before + (n.since + 1) ≡ n.natural + 1 = omega (arith, counted) in
    let reach : max longest (n.since + 1) ≡ max n.longest (n.since + 1) = omega (arith, is) in
    rw (stays, one, reach)

-- a service, from what it answered
pub serve_state : {x y : State} (answer : Served) (k : Kernel) (due : Bool) {line : Option Line} {stops : Bool} → (answer, k) ≡ served x.kernel → due ≡ is_due x.kernel → MakesServe x line stops y
    → (after_service due (answer, k) ≡ y) × (line_served answer ≡ line) × (is_stop answer ≡ stops)
serve_state answer k due is same makes =
    (ap₂ after_service same is ∙ sym makes.result, ap (λ (o : Served × Kernel). line_served o.0) is ∙ makes.written, ap (λ (o : Served × Kernel). is_stop o.0) is ∙ makes.halts)

pub serve_numbers : (n : Numbers) (line : Option Line) {stops : Bool} (b : Bool) (steps natural longest ops : ℕ) → b ≡ stops → steps ≡ n.steps - one_if b → natural ≡ n.natural → longest ≡ n.longest
    → ops ≡ n.ops
    → ◌≡◌ {A = Numbers} (record n { steps = steps; natural = natural; entries = n.entries + 1; since = 0; longest = longest; ops = ops }) (moved (Within (Serve line stops)) n)
unfolding moved
serve_numbers n line b steps natural longest ops same is counted raised stays = rw (stays, counted, is, same, raised)

-- states that differ in what they are made of
pub same_state : (k : Kernel) {o o' : Option Awaited} {e e' : Option End} {t t' : Option Torn} → o ≡ o' → e ≡ e' → t ≡ t'
    → ◌≡◌ {A = State} (record { kernel = k; owed = o; end = e; torn = t }) (record { kernel = k; owed = o'; end = e'; torn = t' })
same_state k eo ee et = rw (eo, ee, et)

none_behind : (n : ℕ) → n + 0 ≡ n
none_behind n = omega arith

pub none_off : (n : ℕ) → n ≡ n - 0
none_off n = omega arith

pub is_there : {A : Type 0} (a : A) → Some a ≢ None
is_there a is = cc

-- at a service `longest` is raised to what it stood for, and nothing is behind it
raised : (longest since reach : ℕ) → reach ≡ max longest since → max reach 0 ≡ max longest since
raised longest since reach is = omega (arith, is)

-- .. and what the loop has written down behind it
pub has_served : (k new : Kernel) (p : Progress) (answer : Served) (told due : Bool) (owed : Option Owed) (end : Option End) (steps longest : ℕ) (line : Option Line)
    → (answer, new) ≡ served k → told ≡ is_due k → longest ≡ max p.longest p.since → new.mote.flash ≡ k.mote.flash
    → state_of (whole new (record p { owed = owed; due = due; end = end })) ≡ after_service told (answer, new) → steps ≡ p.steps - one_if (is_stop answer)
    → line ≡ option_or (line_served answer) p.line → (owed ≡ None → due ≡ p.due)
    → HasServed (whole k p) (whole new (record p {
      owed = owed;
      due = due;
      end = end;
      steps = steps;
      before = p.before + p.since;
      entries = p.entries + 1;
      since = 0;
      longest = longest;
      line = line;
    })) p.line line
has_served k new p answer told due owed end steps longest line is same reach flash state counted written undue = λ shown stops y makes.
    let after = serve_state answer new told is same makes in
    record {
      state = state ∙ after.0;
      numbers = serve_numbers (numbers_of (whole k p)) shown (is_stop answer) steps _ _ _ after.2 counted (none_behind _) (raised p.longest p.since longest reach) (ap (λ (f : Memory). f.ops) flash);
      written = written ∙ ap (λ l. option_or l p.line) after.1;
      rest = record { at = refl; broken = refl; crossings = refl; due = undue };
    }

-- .. of what stands behind the entry
abbrev ServedBehind : (k new : Kernel) (q : Progress) (answer : Served) (told due : Bool) (owed : Option Owed) (end : Option End) (steps : ℕ) (line : Option Line) → Progress → Type 0
ServedBehind k new q answer told due owed end steps line p =
    (answer, new) ≡ served k → told ≡ is_due k → new.mote.flash ≡ k.mote.flash
    → state_of (whole new (record p { owed = owed; due = due; end = end })) ≡ after_service told (answer, new) → steps ≡ p.steps - one_if (is_stop answer)
    → line ≡ option_or (line_served answer) p.line → (owed ≡ None → due ≡ p.due)
    → HasServed (whole k q) (whole new (record p { owed = owed; due = due; end = end; steps = steps; line = line })) q.line line

pub served_behind : (k new : Kernel) (q p : Progress) (answer : Served) (told due : Bool) (owed : Option Owed) (end : Option End) (steps : ℕ) (line : Option Line) → p ≡ entered q
    → ServedBehind k new q answer told due owed end steps line p
served_behind k new q p answer told due owed end steps line is =
    subst (ServedBehind k new q answer told due owed end steps line) (sym is)
    (λ same due_is flash state counted written undue. has_served k new q answer told due owed end steps (max q.longest q.since) line same due_is refl flash state counted written undue)

pub not_over : (x : State) → x.owed ≡ None → x.end ≡ None → ((t : ℕ) → ¬ IsEntry x.kernel.layout (mote_of x).flash.words t (mote_of x).cpu.pc) → ¬ IsOver x
not_over x free going none (IsOver.Owes owes) = owes free
not_over x free going none (IsOver.Ended ended) = ended going
not_over x free going none (IsOver.Reached place) = none place.0 place.1

-- a move of a step is a plain one or a service, by the pc
plain_by : {x : State} (y : State) (b : Bool) (m : Inner) → MakesOf b x m y → (mote_of x).cpu.pc < 0xF000 → CanPlain x
plain_by y b (PlainMove line) makes low = record { begins = b; line = line; next = y; makes = makes }
plain_by {x} y b (Serve line stops) makes low = absurd (let e = entry_high x.kernel makes.can in omega arith)

pub can_plain : {x : State} → CanMove x → (mote_of x).cpu.pc < 0xF000 → CanPlain x
can_plain can low = plain_by can.next can.begins can.inner can.makes low

serve_by : {x : State} (y : State) (b : Bool) (m : Inner) → IsRight x.kernel.layout → MakesOf b x m y → 0xF000 ≤ (mote_of x).cpu.pc → CanServeNow x
serve_by {x} y b (PlainMove line) right makes high = absurd (let e = pool_low x.kernel.layout (mote_of x).cpu.pc right makes.pool in omega arith)
serve_by y b (Serve line stops) right makes high = record { line = line; stops = stops; next = y; makes = makes }

pub can_serve : {x : State} → IsRight x.kernel.layout → CanMove x → 0xF000 ≤ (mote_of x).cpu.pc → CanServeNow x
can_serve right can high = serve_by can.next can.begins can.inner right can.makes high

pub moved_serve : {old new : Machine} {before after : Option Line} → IsRight old.kernel.layout → HasServed old new before after → 0xF000 ≤ old.kernel.mote.cpu.pc → HasMoved old new before after
moved_serve right told high b (Serve line stops) next makes = told line stops next makes
moved_serve {old} right told high b (PlainMove line) next makes = absurd (let e = pool_low old.kernel.layout old.kernel.mote.cpu.pc right makes.pool in omega arith)

-- .. and a plain one below the kernel
pub moved_plain : {old new : Machine} {before after : Option Line} → HasPlain old new before after → old.kernel.mote.cpu.pc < 0xF000 → HasMoved old new before after
moved_plain told low b (PlainMove line) next makes = told b line next makes
moved_plain {old} told low b (Serve line stops) next makes = absurd (let e = entry_high old.kernel makes.can in omega arith)

-- an entry's place is in the pool
low_by : {layout : Layout} {words : List ℕ} (t a : ℕ) → IsRight layout → (entry : IsEntry layout words t a) → IsFree words entry.page ⊎ IsMap words entry.page → a < 0xF000
low_by {layout} {words} t a right entry (inl free) = absurd (free_lists_nothing words entry.page entry.index t a free entry.lists)
low_by t a right entry (inr map) = omega (arith, map.inside entry.index entry.lists.listed, entry.lists.place, entry.pool.to, right.pool_below_kernel)

pub place_low : {layout : Layout} {words : List ℕ} {a : ℕ} → IsRight layout → IsMapped layout words → IsPlace layout words a → a < 0xF000
place_low {layout} {words} {a} right mapped place = low_by place.0 a right place.1 (mapped.pages place.1.page place.1.pool)

-- where the step is over nothing is left
none_next : (x y : State) (m : Inner) → IsRight x.kernel.layout → IsMapped x.kernel.layout (mote_of x).flash.words → MakesOf false x m y → ¬ IsOver x
none_next x y (PlainMove line) right mapped makes (IsOver.Owes owes) = owes makes.free
none_next x y (PlainMove line) right mapped makes (IsOver.Ended ended) = ended makes.going
none_next x y (PlainMove line) right mapped makes (IsOver.Reached place) = makes.starts place
none_next x y (Serve line stops) right mapped makes (IsOver.Owes owes) = owes makes.free
none_next x y (Serve line stops) right mapped makes (IsOver.Ended ended) = ended makes.going
none_next x y (Serve line stops) right mapped makes (IsOver.Reached place) = let e = place_low right mapped place in let f = entry_high x.kernel makes.can in omega arith

pub none_left : {x : State} (z : State) (ms : List Inner) → IsRight x.kernel.layout → IsMapped x.kernel.layout (mote_of x).flash.words → WalkWithin x ms z → IsOver x → ms ≡ []
none_left z [] right mapped walk over = refl
none_left {x} z (m ∷ ms) right mapped walk over = absurd (none_next x walk.0 m right mapped walk.1 over)

-- each move is one more, and the numbers grow by one at most
made_by : (m : Inner) (n k : Numbers) → k ≡ moved (Within m) n → k.natural + k.entries ≡ n.natural + n.entries + 1
unfolding moved
made_by (PlainMove line) n k is = ap (λ (x : Numbers). x.natural + x.entries) is ∙ omega arith
made_by (Serve line stops) n k is = ap (λ (x : Numbers). x.natural + x.entries) is ∙ omega arith

pub moved_made : {now new : Machine} {before after : Option Line} → CanMove (state_of now) → HasMoved now new before after → moves_made new ≡ moves_made now + 1
moved_made {now} {new} can told = made_by can.inner (numbers_of now) (numbers_of new) (told can.begins can.inner can.next can.makes).numbers

small_moved : {n : Numbers} (m : Inner) {top : ℕ} → AreSmall n top → AreSmall (moved (Within m) n) (top + 1)
unfolding moved
small_moved (PlainMove line) small = record { natural = omega (arith, small.natural); entries = omega (arith, small.entries); since = omega (arith, small.since) }
small_moved (Serve line stops) small = record { natural = omega (arith, small.natural); entries = omega (arith, small.entries); since = omega arith }

pub small_moves : {now new : Machine} {before after : Option Line} → CanMove (state_of now) → HasMoved now new before after → AreSmall (numbers_of now) (2 ^ 60 + moves_made now)
    → AreSmall (numbers_of new) (2 ^ 60 + moves_made new)
small_moves {now} {new} can told small =
    let same : 2 ^ 60 + moves_made now + 1 ≡ 2 ^ 60 + moves_made new = omega (arith, moved_made can told) in
    subst (AreSmall (numbers_of new)) same (subst (λ n. AreSmall n ((2 ^ 60 + moves_made now) + 1)) (sym (told can.begins can.inner can.next can.makes).numbers) (small_moved can.inner small))

pub small_enough : (old now : Machine) → AreSmall (numbers_of old) (2 ^ 60) → moves_made now < moves_made old + 65 → AreSmall (numbers_of now) (2 ^ 60 + moves_made now)
    → AreSmall (numbers_of now) (2 ^ 62)
small_enough old now few made small =
    let most : moves_made now < 2 ^ 61 + 65 = omega (arith, few.natural, few.entries, made) in
    record { natural = omega (arith, most, small.natural); entries = omega (arith, most, small.entries); since = omega (arith, most, small.since) }

-- where flash, the layout and the page that is torn stay
pub keeps_on : {x y z : Machine} → KeepsFlash x y → KeepsFlash y z → KeepsFlash x z
keeps_on first then = record { flash = then.flash ∙ first.flash; layout = then.layout ∙ first.layout; torn = then.torn ∙ first.torn }

pub right_kept : {old now : Machine} → KeepsFlash old now → IsRight old.kernel.layout → IsRight now.kernel.layout
right_kept keeps right = rw keeps.layout right

pub mapped_kept : {old now : Machine} → KeepsFlash old now → IsMapped old.kernel.layout old.kernel.mote.flash.words → IsMapped now.kernel.layout now.kernel.mote.flash.words
mapped_kept keeps mapped = rw (keeps.layout, keeps.flash) mapped

-- the step is over
pub over_halted : {m : Machine} → IsHalted m → IsOver (state_of m)
over_halted {m} (IsHalted.Owes owes going) = IsOver.Owes (owes_of m owes)
over_halted (IsHalted.Ended free ended) = IsOver.Ended ended

pub none_there : {layout : Layout} {words : List ℕ} {v : ℕ} (found : Option ℕ) → ((t : ℕ) → IsEntry layout words t v → found ≡ Some t) → IfNone found ((t : ℕ) → ¬ IsEntry layout words t v)
none_there None only = λ t entry. absurd (let e : None ≡ Some t = only t entry in cc)
none_there (Some u) only = tt

-- a cursor is right where layout and flash stay
pub cursor_same : (old now : Machine) (c : Cursor) → now.kernel.layout ≡ old.kernel.layout → now.kernel.mote.flash ≡ old.kernel.mote.flash → IsCursor old.kernel.layout old.kernel.mote.flash.words c
    → IsCursor now.kernel.layout now.kernel.mote.flash.words c
cursor_same old now c layout flash cursor = rw (layout, flash) cursor
