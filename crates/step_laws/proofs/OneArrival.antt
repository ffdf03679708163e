-- An arrival has one outcome: the place that it finds, the page that it takes, the words that it makes, and the operation on
-- flash that is refused are settled by where it begins.
use Rattle.std.proofs.Common.{◌≡◌, ℕ, Bool, true, false, List, [], ◌∷◌, sym, ap, ap₂, ◌∙◌, subst, arith, inl, inr}
use Rattle.std.specs.Prelude.{Option, Some, None, Result, Ok, Err}
use Rattle.std.specs.Option.{option_map}
use Rattle.std.proofs.lemmas.Bool.{cases_order}
use Rattle.std.proofs.lemmas.Option.{same_Some}
use Rattle.flash_words.specs.Memory.{Memory}
use Rattle.flash_words.specs.Operations.{next_op, fails, left_by_refusal, erased_page}
use Rattle.flash_words.specs.Layouts.{image_of}
use Rattle.flash_words.specs.declared.layout.Layout.{Layout}
use Rattle.page_index.specs.Entries.{IsMapped}
use Rattle.page_index.proofs.EntryLaws.{one_place}
use Rattle.addr_tables.specs.Changes.{Finds, noted, forgotten}
use Rattle.nat_page.specs.Making.{IsLowestFree}
use Rattle.nat_page.proofs.OnePage.{one_page}
use Rattle.branch_bridge.specs.declared.rewriting.ResolveStop.{ResolveStop}
use Rattle.branch_bridge.specs.declared.arrival.ArriveStop.TheVariants.{Flash}
use Rattle.branch_bridge.specs.declared.arrival.Refused.{Refused}
use Rattle.branch_bridge.specs.declared.arrival.Moved.{Moved}
use Rattle.branch_bridge.specs.declared.through.Arrival.{Arrival}
use Rattle.branch_bridge.specs.Resolving.{resolving}
use Rattle.branch_bridge.specs.Operating.{Program, Performed, perform}
use Rattle.branch_bridge.specs.Arrivals.{Store, Makes, Recycles, Arrives, ArrivesFrom, turned, refused_by, recycled_page, to_resolve}

-- a search
module _ (layout : Layout) (words old new new' : List ℕ) (t : ℕ) (result result' : Option ℕ) (mapped : IsMapped layout words) where
  one_found : Finds layout words old new t result → Finds layout words old new' t result' → (new ≡ new') × (result ≡ result')
  one_found (Finds.Hit p is answer left) (Finds.Hit q is' answer' left') =
      let same = same_Some p q (sym is ∙ is') in
      (left ∙ ap (noted old t) same ∙ sym left', answer ∙ ap Some same ∙ sym answer')
  one_found (Finds.Hit p is answer left) (Finds.Entered q is' entry' answer' left') = absurd (let e : Some p ≡ None = sym is ∙ is' in cc)
  one_found (Finds.Hit p is answer left) (Finds.Missed is' none' answer' left') = absurd (let e : Some p ≡ None = sym is ∙ is' in cc)
  one_found (Finds.Entered p is entry answer left) (Finds.Hit q is' answer' left') = absurd (let e : Some q ≡ None = sym is' ∙ is in cc)
  one_found (Finds.Entered p is entry answer left) (Finds.Entered q is' entry' answer' left') =
      let same = one_place layout words t p q mapped entry entry' in
      (left ∙ ap (noted old t) same ∙ sym left', answer ∙ ap Some same ∙ sym answer')
  one_found (Finds.Entered p is entry answer left) (Finds.Missed is' none' answer' left') = absurd (none' p entry)
  one_found (Finds.Missed is none answer left) (Finds.Hit q is' answer' left') = absurd (let e : Some q ≡ None = sym is' ∙ is in cc)
  one_found (Finds.Missed is none answer left) (Finds.Entered q is' entry' answer' left') = absurd (none q entry')
  one_found (Finds.Missed is none answer left) (Finds.Missed is' none' answer' left') = (left ∙ sym left', answer ∙ sym answer')

some_or_none : {A : Type 0} → (layout : Layout) (words old new new' : List ℕ) (t p : ℕ) → IsMapped layout words → Finds layout words old new t (Some p) → Finds layout words old new' t None → A
some_or_none layout words old new new' t p mapped found none = absurd (let e : Some p ≡ None = (one_found layout words old new new' t (Some p) None mapped found none).1 in cc)

-- the free page that is taken
one_free : (layout : Layout) (words : List ℕ) (p q : ℕ) → IsLowestFree layout words p → IsLowestFree layout words q → p ≡ q
one_free layout words p q one other = elim (cases_order p q) [
  | inl same ↦ same
  | inr (inl less) ↦ absurd (other.lowest p one.pool less one.free)
  | inr (inr less) ↦ absurd (one.lowest q other.pool less other.free)
]

same_store : (a b : Store) → a.flash ≡ b.flash → a.sram ≡ b.sram → a ≡ b
same_store a b flash sram = ap₂ (λ (f : Memory) (s : List ℕ). let store : Store = record { flash = f; sram = s } in store) flash sram

-- the page that is made
module _ (layout : Layout) (old new new' : Store) (page t : ℕ) (again : Bool) (result result' : Result Moved Refused) where
  one_made : Makes layout old new page t again result → Makes layout old new' page t again result' → (new ≡ new') × (result ≡ result')
  one_made (Makes.Made words place is done sram answer) (Makes.Made words' place' is' done' sram' answer') =
      let same = one_page layout (image_of layout old.flash.words) old.flash.words page t words words' place place' is is' in
      let ends = sym done ∙ ap (λ w. perform old.flash (Program again page w ∷ [])) same.0 ∙ done' in (
        same_store new new' (ap (λ (p : Performed). p.memory) ends) (sram ∙ ap (noted old.sram t) same.1 ∙ sym sram'),
        answer ∙ ap (λ p. Ok (record { place = p; made = true; recycled = recycled_page again page })) same.1 ∙ sym answer',
      )
  one_made (Makes.Made words place is done sram answer) (Makes.NotMade words' place' is' stop' done' sram' answer') =
      let same = one_page layout (image_of layout old.flash.words) old.flash.words page t words words' place place' is is' in
      let e : None ≡ Some stop' = ap (λ (p : Performed). p.stop) (sym done ∙ ap (λ w. perform old.flash (Program again page w ∷ [])) same.0 ∙ done') in
      absurd (cc)
  one_made (Makes.NotMade words place is stop done sram answer) (Makes.Made words' place' is' done' sram' answer') =
      let same = one_page layout (image_of layout old.flash.words) old.flash.words page t words words' place place' is is' in
      let e : Some stop ≡ None = ap (λ (p : Performed). p.stop) (sym done ∙ ap (λ w. perform old.flash (Program again page w ∷ [])) same.0 ∙ done') in
      absurd (cc)
  one_made (Makes.NotMade words place is stop done sram answer) (Makes.NotMade words' place' is' stop' done' sram' answer') =
      let same = one_page layout (image_of layout old.flash.words) old.flash.words page t words words' place place' is is' in
      let ends = sym done ∙ ap (λ w. perform old.flash (Program again page w ∷ [])) same.0 ∙ done' in (
        same_store new new' (ap (λ (p : Performed). p.memory) ends) (sram ∙ sym sram'),
        answer ∙ ap (λ (s : ResolveStop). Err (refused_by s)) (same_Some stop stop' (ap (λ (p : Performed). p.stop) ends)) ∙ sym answer',
      )

-- the page that is recycled
module _ (layout : Layout) (old new new' : Store) (victim t : ℕ) (result result' : Result Moved Refused) where
  one_recycled : Recycles layout old new victim t result → Recycles layout old new' victim t result' → (new ≡ new') × (result ≡ result')
  one_recycled (Recycles.NotUnlinked stop un sram answer) (Recycles.NotUnlinked stop' un' sram' answer') =
      let ends = sym un ∙ un' in (
        same_store new new' (ap (λ (p : Performed). p.memory) ends) (sram ∙ sym sram'),
        answer ∙ ap (λ (s : ResolveStop). Err (refused_by s)) (same_Some stop stop' (ap (λ (p : Performed). p.stop) ends)) ∙ sym answer',
      )
  one_recycled (Recycles.NotUnlinked stop un sram answer) (Recycles.NotErased m' un' fails' flash' sram' answer') =
      absurd (let e : Some stop ≡ None = ap (λ (p : Performed). p.stop) (sym un ∙ un') in cc)
  one_recycled (Recycles.NotUnlinked stop un sram answer) (Recycles.Erased m' un' fails' makes') = absurd (let e : Some stop ≡ None = ap (λ (p : Performed). p.stop) (sym un ∙ un') in cc)
  one_recycled (Recycles.NotErased m un fails flash sram answer) (Recycles.NotUnlinked stop' un' sram' answer') =
      absurd (let e : Some stop' ≡ None = ap (λ (p : Performed). p.stop) (sym un' ∙ un) in cc)
  one_recycled (Recycles.NotErased m un is flash sram answer) (Recycles.NotErased m' un' is' flash' sram' answer') =
      let same : m ≡ m' = ap (λ (p : Performed). p.memory) (sym un ∙ un') in (
        same_store new new' (flash ∙ ap (λ (u : Memory). left_by_refusal u victim) same ∙ sym flash') (sram ∙ sym sram'),
        answer ∙ ap (λ (u : Memory). Err (record { why = Flash (next_op u); torn = None })) same ∙ sym answer',
      )
  one_recycled (Recycles.NotErased m un is flash sram answer) (Recycles.Erased m' un' is' makes') =
      let same : m ≡ m' = ap (λ (p : Performed). p.memory) (sym un ∙ un') in
      absurd (let e : true ≡ false = sym is ∙ ap fails same ∙ is' in cc)
  one_recycled (Recycles.Erased m un is makes) (Recycles.NotUnlinked stop' un' sram' answer') = absurd (let e : Some stop' ≡ None = ap (λ (p : Performed). p.stop) (sym un' ∙ un) in cc)
  one_recycled (Recycles.Erased m un is makes) (Recycles.NotErased m' un' is' flash' sram' answer') =
      let same : m ≡ m' = ap (λ (p : Performed). p.memory) (sym un ∙ un') in
      absurd (let e : false ≡ true = sym is ∙ ap fails same ∙ is' in cc)
  one_recycled (Recycles.Erased m un is makes) (Recycles.Erased m' un' is' makes') =
      let same : m ≡ m' = ap (λ (p : Performed). p.memory) (sym un ∙ un') in
      one_made layout (record { flash = erased_page m victim; sram = turned layout (forgotten old.sram victim) }) new new' victim t true result result' makes
      (subst (λ (u : Memory). Makes layout (record { flash = erased_page u victim; sram = turned layout (forgotten old.sram victim) }) new' victim t true result') (sym same) makes')

-- where control goes on, or why not
module _ (layout : Layout) (old new new' : Store) (t : ℕ) (result result' : Result Moved Refused) (mapped : IsMapped layout old.flash.words) where
  one_arrives : Arrives layout old new t result → Arrives layout old new' t result' → (new ≡ new') × (result ≡ result')
  one_arrives (Arrives.Beyond above is answer) (Arrives.Beyond above' is' answer') = (is ∙ sym is', answer ∙ sym answer')
  one_arrives (Arrives.Beyond above is answer) (Arrives.Found p' below' found' flash' answer') = absurd (omega (arith, above, below'))
  one_arrives (Arrives.Beyond above is answer) (Arrives.Free page' below' none' free' makes') = absurd (omega (arith, above, below'))
  one_arrives (Arrives.Beyond above is answer) (Arrives.Full below' none' full' recycles') = absurd (omega (arith, above, below'))
  one_arrives (Arrives.Found p below found flash answer) (Arrives.Beyond above' is' answer') = absurd (omega (arith, above', below))
  one_arrives (Arrives.Found p below found flash answer) (Arrives.Found p' below' found' flash' answer') =
      let same = one_found layout old.flash.words old.sram new.sram new'.sram t (Some p) (Some p') mapped found found' in
      (same_store new new' (flash ∙ sym flash') same.0, answer ∙ ap (λ q. Ok (record { place = q; made = false; recycled = None })) (same_Some p p' same.1) ∙ sym answer')
  one_arrives (Arrives.Found p below found flash answer) (Arrives.Free page' below' none' free' makes') = some_or_none layout old.flash.words old.sram new.sram old.sram t p mapped found none'
  one_arrives (Arrives.Found p below found flash answer) (Arrives.Full below' none' full' recycles') = some_or_none layout old.flash.words old.sram new.sram old.sram t p mapped found none'
  one_arrives (Arrives.Free page below none free makes) (Arrives.Beyond above' is' answer') = absurd (omega (arith, above', below))
  one_arrives (Arrives.Free page below none free makes) (Arrives.Found p' below' found' flash' answer') = some_or_none layout old.flash.words old.sram new'.sram old.sram t p' mapped found' none
  one_arrives (Arrives.Free page below none free makes) (Arrives.Free page' below' none' free' makes') =
      one_made layout old new new' page t false result result' makes (subst (λ p. Makes layout old new' p t false result') (sym (one_free layout old.flash.words page page' free free')) makes')
  one_arrives (Arrives.Free page below none free makes) (Arrives.Full below' none' full' recycles') = absurd (full' page free.pool free.free)
  one_arrives (Arrives.Full below none full recycles) (Arrives.Beyond above' is' answer') = absurd (omega (arith, above', below))
  one_arrives (Arrives.Full below none full recycles) (Arrives.Found p' below' found' flash' answer') = some_or_none layout old.flash.words old.sram new'.sram old.sram t p' mapped found' none
  one_arrives (Arrives.Full below none full recycles) (Arrives.Free page' below' none' free' makes') = absurd (full page' free'.pool free'.free)
  one_arrives (Arrives.Full below none full recycles) (Arrives.Full below' none' full' recycles') =
      one_recycled layout old new new' _ t result result' recycles recycles'

-- one that was refused, and one that went on
refused_or_went : {A : Type 0} → (refused : Refused) (moved : Moved) → ◌≡◌ {A = Result Moved Refused} (Err refused) (Ok moved) → A
refused_or_went refused moved e = absurd (cc)

same_moved : (a b : Moved) → ◌≡◌ {A = Result Moved Refused} (Ok a) (Ok b) → a ≡ b
same_moved a b e = cc

-- of an arrival through a stub, or through none
module _ (layout : Layout) (old new new' : Store) (t : ℕ) (stub : Option ℕ) (a a' : Arrival) (mapped : IsMapped layout old.flash.words) where
  pub one_outcome : ArrivesFrom layout old new t stub a → ArrivesFrom layout old new' t stub a' → (new ≡ new') × (a ≡ a')
  one_outcome (ArrivesFrom.Stopped refused is told) (ArrivesFrom.Stopped refused' is' told') =
      let same = one_arrives layout old new new' t (Err refused) (Err refused') mapped is is' in
      let e : ◌≡◌ {A = Result Moved Refused} (Err refused) (Err refused') = same.1 in
      let own : refused ≡ refused' = cc in
      (same.0, told ∙ ap (λ (r : Refused). record { place = None; made = false; refused = Some r }) own ∙ sym told')
  one_outcome (ArrivesFrom.Stopped refused is told) (ArrivesFrom.Went moved' is' none' told') =
      refused_or_went refused moved' (one_arrives layout old new new' t (Err refused) (Ok moved') mapped is is').1
  one_outcome (ArrivesFrom.Stopped refused is told) (ArrivesFrom.Resolved mid' moved' s' is' some' stop' done' sram' told') =
      refused_or_went refused moved' (one_arrives layout old new mid' t (Err refused) (Ok moved') mapped is is').1
  one_outcome (ArrivesFrom.Went moved is none told) (ArrivesFrom.Stopped refused' is' told') =
      refused_or_went refused' moved (one_arrives layout old new' new t (Err refused') (Ok moved) mapped is' is).1
  one_outcome (ArrivesFrom.Went moved is none told) (ArrivesFrom.Went moved' is' none' told') =
      let same = one_arrives layout old new new' t (Ok moved) (Ok moved') mapped is is' in
      (same.0, told ∙ ap (λ (m : Moved). record { place = Some m.place; made = m.made; refused = None }) (same_moved moved moved' same.1) ∙ sym told')
  one_outcome (ArrivesFrom.Went moved is none told) (ArrivesFrom.Resolved mid' moved' s' is' some' stop' done' sram' told') =
      let same = same_moved moved moved' (one_arrives layout old new mid' t (Ok moved) (Ok moved') mapped is is').1 in
      absurd (let e : None ≡ Some s' = sym none ∙ ap (λ (m : Moved). to_resolve m.recycled stub) same ∙ some' in cc)
  one_outcome (ArrivesFrom.Resolved mid moved s is some stop done sram told) (ArrivesFrom.Stopped refused' is' told') =
      refused_or_went refused' moved (one_arrives layout old new' mid t (Err refused') (Ok moved) mapped is' is).1
  one_outcome (ArrivesFrom.Resolved mid moved s is some stop done sram told) (ArrivesFrom.Went moved' is' none' told') =
      let same = same_moved moved moved' (one_arrives layout old mid new' t (Ok moved) (Ok moved') mapped is is').1 in
      absurd (let e : Some s ≡ None = sym some ∙ ap (λ (m : Moved). to_resolve m.recycled stub) same ∙ none' in cc)
  one_outcome (ArrivesFrom.Resolved mid moved s is some stop done sram told) (ArrivesFrom.Resolved mid' moved' s' is' some' stop' done' sram' told') =
      let both = one_arrives layout old mid mid' t (Ok moved) (Ok moved') mapped is is' in
      let same = same_moved moved moved' both.1 in
      let at : s ≡ s' = same_Some s s' (sym some ∙ ap (λ (m : Moved). to_resolve m.recycled stub) same ∙ some') in
      let Does : Store → ℕ → ℕ → Performed = λ store a p. perform store.flash (resolving store.flash.words a p) in
      let ends = sym done ∙ ap (λ store. Does store s moved.place) both.0 ∙ ap₂ (λ a (m : Moved). Does mid' a m.place) at same ∙ done' in
      let stops : stop ≡ stop' = ap (λ (p : Performed). p.stop) ends in (
        same_store new new' (ap (λ (p : Performed). p.memory) ends) (sram ∙ ap (λ (store : Store). store.sram) both.0 ∙ sym sram'),
        told ∙ ap₂ (λ (m : Moved) (r : Option ResolveStop). record { place = Some m.place; made = m.made; refused = option_map refused_by r }) same stops ∙ sym told',
      )
