-- What is noted of places, and what begins there.
use Rattle.std.proofs.Common.{◌≡◌, ℕ, ◌+◌, ◌-◌, ◌/◌, ◌%◌, ◌<◌, ◌≤◌, Bool, false, List, length, set, get_or-set_other, arith, refl, subst, sym, ap, ◌∙◌, inl, inr, ⊎_elim}
use Rattle.std.specs.Prelude.{◌≢◌, ◌↔◌, ◌⊎◌, Option, Some, None, IfSome, slice_index_or}
use Rattle.std.proofs.lemmas.Grind.{get_or-set_at}
use Rattle.std.proofs.lemmas.Bool.{cases_eq, true≢false}
use Rattle.flash_words.specs.declared.layout.Layout.{Layout}
use Rattle.page_index.specs.Maps.{IsPool, IsMap, entry_count, address_of, place_of}
use Rattle.page_index.specs.Entries.{Lists, IsEntry, IsMapped}
use Rattle.page_index.proofs.MapLaws.{lists_entry}
use Rattle.page_index.proofs.EntryLaws.{page_of_place}
use Rattle.page_cursor.specs.Marks.{Marking, mark_at, no_entry, with_address, IsQuietAt, IsUnknownAt, StaysAt, IsNoted, IsFresh, IsQuietIn, KeepsOthers, IsListed, IsCovered}
use Rattle.page_cursor.specs.Cursors.{AreMarks, AreNoted, HaveSameBeside}

module _ (layout : Layout) (words : List ℕ) where
  -- nothing is noted
  pub fresh_marks : (m : Marking) → IsFresh m → AreMarks layout words m
  fresh_marks m fresh = record {
    quiet = λ t place within is entry. true≢false (sym is ∙ (fresh place within).0);
    low = λ place within is. absurd (true≢false (sym is ∙ (fresh place within).0));
    noted = λ t place within noted. absurd (omega (arith, (fresh place within).1, noted.0, noted.1));
  }

  -- all stays, or all is forgotten
  pub kept_or_fresh : (old new : Marking) → (new ≡ old) ⊎ IsFresh new → AreMarks layout words old → AreMarks layout words new
  kept_or_fresh old new either marks = ⊎_elim (λ same. subst (AreMarks layout words) (sym same) marks) (fresh_marks new) either

  -- what is noted of one page is right, and of the others as it was
  marks_by_page : (old new : Marking) (page : ℕ) → page < 480 → KeepsOthers old new page → AreMarks layout words old
      → ((t place : ℕ) → place / 128 ≡ page → IsQuietAt new place → ¬ IsEntry layout words t place) → ((t place : ℕ) → place / 128 ≡ page → IsNoted new place t → IsEntry layout words t place)
      → AreMarks layout words new
  marks_by_page old new page below keeps marks quiet noted = record {
    quiet = λ t place within is entry. elim (cases_eq (place / 128) page) [
      | inl same ↦ quiet t place same is entry
      | inr apart ↦ marks.quiet t place within (sym (keeps place apart).0 ∙ is) entry
    ];
    low = λ place within is. ⊎_elim (λ same. omega (arith, same, below)) (λ apart. marks.low place within (sym (keeps place apart).0 ∙ is)) (cases_eq (place / 128) page);
    noted = λ t place within is. elim (cases_eq (place / 128) page) [
      | inl same ↦ noted t place same is
      | inr apart ↦ marks.noted t place within (sym (keeps place apart).1 ∙ is.0, is.1)
    ];
  }

  -- nothing is noted of a page whose entries may be others
  pub marks_beside : (now : List ℕ) (old new : Marking) (page : ℕ) → HaveSameBeside layout words now page → ((place : ℕ) → place / 128 ≡ page → IsUnknownAt new.quiet new.marks place)
      → KeepsOthers old new page → AreMarks layout words old → AreMarks layout now new
  marks_beside now old new page same forgotten keeps marks = record {
    quiet = λ t place within is entry. elim (cases_eq (place / 128) page) [
      | inl here ↦ true≢false (sym is ∙ (forgotten place here).0)
      | inr apart ↦ marks.quiet t place within (sym (keeps place apart).0 ∙ is) ((same t place apart).1 entry)
    ];
    low = λ place within is. elim (cases_eq (place / 128) page) [
      | inl here ↦ absurd (true≢false (sym is ∙ (forgotten place here).0))
      | inr apart ↦ marks.low place within (sym (keeps place apart).0 ∙ is)
    ];
    noted = λ t place within is. elim (cases_eq (place / 128) page) [
      | inl here ↦ absurd (omega (arith, is.0, is.1, (forgotten place here).1))
      | inr apart ↦ (same t place apart).0 (marks.noted t place within (sym (keeps place apart).1 ∙ is.0, is.1))
    ];
  }

  -- where the entries are the same, so is what is known of them
  pub marks_same : (now : List ℕ) (m : Marking) → ((t place : ℕ) → (IsEntry layout words t place ↔ IsEntry layout now t place)) → AreMarks layout words m → AreMarks layout now m
  marks_same now m same marks = record {
    quiet = λ t place within is entry. marks.quiet t place within is ((same t place).1 entry);
    low = marks.low;
    noted = λ t place within is. (same t place).0 (marks.noted t place within is);
  }

-- where no entry is known, none is noted
not_noted : (m : Marking) (t place : ℕ) → mark_at m place ≡ no_entry → IsNoted m place t → ⊥
not_noted m t place none noted = omega (arith, none, noted.0, noted.1)

-- a page without entries
pub marks_quiet : (layout : Layout) (words : List ℕ) (old new : Marking) (page : ℕ) → page < 480 → KeepsOthers old new page → IsQuietIn new page
    → ((t place : ℕ) → place / 128 ≡ page → ¬ IsEntry layout words t place) → AreMarks layout words old → AreMarks layout words new
marks_quiet layout words old new page below keeps quiet none marks =
    marks_by_page layout words old new page below keeps marks (λ t place same mark. none t place same) (λ t place same noted. absurd (not_noted new t place (quiet place same).1 noted))

-- an entry at a place is of the place's page
pub own_lists : (layout : Layout) (words : List ℕ) (page t place : ℕ) → IsMapped layout words → place / 128 ≡ page → (entry : IsEntry layout words t place) → Lists words page entry.index t place
own_lists layout words page t place mapped same entry = rw (page_of_place layout words t place mapped entry ∙ same) at entry.lists

module _ (layout : Layout) (words : List ℕ) (m : Marking) (page t place : ℕ) (mapped : IsMapped layout words) (read : AreNoted words m page (entry_count words page)) (same : place / 128 ≡ page)
    (entry : IsEntry layout words t place) where
  -- an entry of a page that was read is noted
  pub noted_there : IsNoted m place t
  noted_there =
      let lists = own_lists layout words page t place mapped same entry in
      rw lists.address (rw lists.place (read.there entry.index lists.listed))

  -- it isn't noted that none begins there
  begins_there : ¬ IsQuietAt m place
  begins_there quiet =
      let lists = own_lists layout words page t place mapped same entry in
      read.begins entry.index lists.listed (rw lists.place at quiet)

-- a page that was read
pub marks_read : (layout : Layout) (words : List ℕ) (old new : Marking) (page : ℕ) → page < 480 → IsMapped layout words → IsPool layout page → IsMap words page → KeepsOthers old new page
    → AreNoted words new page (entry_count words page) → AreMarks layout words old → AreMarks layout words new
marks_read layout words old new page below mapped pool map keeps read marks =
    marks_by_page layout words old new page below keeps marks
    (λ t place same quiet entry. begins_there layout words new page t place mapped read same entry quiet)
    (λ t place same noted.
    let at = read.noted t place same noted in
    let there = lists_entry words page at.index map at.below in
    let placed = subst (λ (v : ℕ). Lists words page at.index (address_of words page at.index) v) (sym at.begins) there in
    record { page = page; index = at.index; pool = pool; lists = subst (λ (a : ℕ). Lists words page at.index a place) (sym at.address) placed })

-- no entry of the page is noted yet
pub noted_none : (words : List ℕ) (m : Marking) (page : ℕ) → IsQuietIn m page → AreNoted words m page 0
noted_none words m page quiet = record {
  noted = λ t place same noted. absurd (not_noted m t place (quiet place same).1 noted);
  there = λ i below. absurd (omega (arith, below));
  begins = λ i below. absurd (omega (arith, below));
}

-- where a place lies, and what is told of its address
record IsNear (words : List ℕ) (page i : ℕ) : Type 0 where
  inside : place_of words page i / 128 ≡ page
  within : place_of words page i < 65536
  address : address_of words page i < 24576

module _ (words : List ℕ) (page i : ℕ) (below : page < 480) (map : IsMap words page) (listed : i < entry_count words page) where
  near : IsNear words page i
  near =
      let place = map.inside i listed in
      let offset = map.offset i listed in
      record { inside = omega arith; within = omega arith; address = omega arith }

  pub near_address : address_of words page i < 24576
  near_address = (near).address

  pub near_page : place_of words page i / 128 ≡ page
  near_page = (near).inside

-- the marking where one more entry is noted
abbrev pub with_entry : List ℕ → Marking → ℕ → ℕ → Marking
with_entry words m page i = with_address m (place_of words page i) (address_of words page i)

-- at another place all is noted that was
stays_apart : (m : Marking) (place t other : ℕ) → other ≢ place
    → StaysAt (with_address m place t).quiet (with_address m place t).marks m.quiet m.marks other
stays_apart m place t other apart = (get_or-set_other m.quiet place other false false apart, get_or-set_other m.marks place other t 0 apart)

-- both lists have all places
pub record HasPlaces (m : Marking) : Type 0 where
  pub quiet : length m.quiet ≡ 65536
  pub marks : length m.marks ≡ 65536

-- the next entry of the page is noted
pub noted_next : (words : List ℕ) (m new : Marking) (page i : ℕ) → page < 480 → IsMap words page → i < entry_count words page → HasPlaces m → new ≡ with_entry words m page i
    → AreNoted words m page i → AreNoted words new page (i + 1)
noted_next words m new page i below map listed size is read =
    let at = near words page i below map listed in
    let place = place_of words page i in
    let mark = address_of words page i in
    let here : (v : ℕ) → v ≡ place → mark_at (with_entry words m page i) v ≡ mark = λ v same. get_or-set_at m.marks place v mark 0 same (omega (arith, at.within, size.marks)) in
    let begun : slice_index_or (with_entry words m page i).quiet place false ≡ false = get_or-set_at m.quiet place place false false refl (omega (arith, at.within, size.quiet)) in
    let lower : (j : ℕ) → j < i + 1 → j ≢ i → j < i = λ j under other. omega (arith, under, other) in
    let apart : (j : ℕ) → j < i → place_of words page j ≢ place = λ j under equal. omega (arith, (map.ascending j i under listed).1, equal) in
    subst (λ n. AreNoted words n page (i + 1)) (sym is) (record {
      noted = λ t v same noted. elim (cases_eq v place) [
        | inl own ↦ record { index = i; below = omega arith; address = omega (arith, noted.0, here v own); begins = own }
        | inr other ↦ (
            let before = read.noted t v same (sym (stays_apart m place mark v other).1 ∙ noted.0, noted.1) in
            record { index = before.index; below = omega (arith, before.below); address = before.address; begins = before.begins })
      ];
      there = λ j under. elim (cases_eq j i) [
        | inl same ↦ (
            let P : ℕ → Type 0 = λ k. IsNoted (with_entry words m page i) (place_of words page k) (address_of words page k) in
            subst P (sym same) (here place refl, omega (arith, at.address)))
        | inr other ↦ (
            let before = read.there j (lower j under other) in
            ((stays_apart m place mark (place_of words page j) (apart j (lower j under other))).1 ∙ before.0, before.1))
      ];
      begins = λ j under quiet. elim (cases_eq j i) [
        | inl same ↦ true≢false (sym (rw same at quiet) ∙ begun)
        | inr other ↦ read.begins j (lower j under other) (sym (stays_apart m place mark (place_of words page j) (apart j (lower j under other))).0 ∙ quiet)
      ];
    })

pub others_next : (words : List ℕ) (old m new : Marking) (page i : ℕ) → page < 480 → IsMap words page → i < entry_count words page → new ≡ with_entry words m page i → KeepsOthers old m page
    → KeepsOthers old new page
others_next words old m new page i below map listed is keeps =
    let at = near words page i below map listed in
    subst (λ n. KeepsOthers old n page) (sym is) (λ place apart.
    let stays = stays_apart m (place_of words page i) (address_of words page i) place (λ same. apart (ap (λ v. v / 128) same ∙ at.inside)) in
    (stays.0 ∙ (keeps place apart).0, stays.1 ∙ (keeps place apart).1))

-- something is noted of each place of the page
abbrev pub IsKnownIn : Marking → ℕ → Type 0
IsKnownIn m page = (place : ℕ) → place / 128 ≡ page → ¬ IsUnknownAt m.quiet m.marks place

pub known_quiet : (m : Marking) (page : ℕ) → IsQuietIn m page → IsKnownIn m page
known_quiet m page quiet = λ place same unknown. true≢false (sym (quiet place same).0 ∙ unknown.0)

pub known_next : (words : List ℕ) (m new : Marking) (page i : ℕ) → page < 480 → IsMap words page → i < entry_count words page → HasPlaces m → new ≡ with_entry words m page i
    → IsKnownIn m page → IsKnownIn new page
known_next words m new page i below map listed size is known =
    let at = near words page i below map listed in
    let own = place_of words page i in
    let mark = address_of words page i in
    subst (λ n. IsKnownIn n page) (sym is) (λ place same unknown. elim (cases_eq place own) [
      | inl here ↦ omega (arith, unknown.1, at.address, get_or-set_at m.marks own place mark 0 here (omega (arith, at.within, size.marks)))
      | inr apart ↦ (
          let stays = stays_apart m own mark place apart in
          known place same (sym stays.0 ∙ unknown.0, sym stays.1 ∙ unknown.1))
    ])

-- what one change leaves of other pages, and the next
pub others_both : (old mid new : Marking) (page : ℕ) → KeepsOthers old mid page → KeepsOthers mid new page → KeepsOthers old new page
others_both old mid new page first second = λ place apart. ((second place apart).0 ∙ (first place apart).0, (second place apart).1 ∙ (first place apart).1)

-- what is noted at a place begins there
pub found_noted : (layout : Layout) (words : List ℕ) (m : Marking) (place : ℕ) (found : Option ℕ) → place < 65536 → AreMarks layout words m → IfSome found (IsNoted m place)
    → IfSome found (λ t. IsEntry layout words t place)
found_noted layout words m place None within marks noted = tt
found_noted layout words m place (Some t) within marks noted = marks.noted t place within noted

-- the marking, by the place and the address that were read
pub with_entry_is : (words : List ℕ) (m new : Marking) (page i place address : ℕ) → new ≡ with_address m place address → place ≡ place_of words page i → address ≡ address_of words page i
    → new ≡ with_entry words m page i
with_entry_is words m new page i place address is at of = is ∙ ap (λ v. with_address m v address) at ∙ ap (with_address m (place_of words page i)) of

-- where no page more can be listed
pub covered_full : (m : Marking) → m.room ≡ 0 → IsCovered m
covered_full m none = record { room = omega (arith, none); pages = λ more place within. absurd (omega (arith, none, more)) }

-- where nothing was noted and all stays, nothing is noted
unknown_still : (quiet : List Bool) (marks : List ℕ) (old_quiet : List Bool) (old_marks : List ℕ) (place : ℕ) → StaysAt quiet marks old_quiet old_marks place
    → IsUnknownAt old_quiet old_marks place → IsUnknownAt quiet marks place
unknown_still quiet marks old_quiet old_marks place stays unknown = (stays.0 ∙ unknown.0, stays.1 ∙ unknown.1)

-- something is noted of a page more
pub covered_page : (m : Marking) (quiet : List Bool) (marks : List ℕ) (page : ℕ) → 0 < m.room → length m.pages ≡ 512 → page < 512
    → ((place : ℕ) → place / 128 ≢ page → StaysAt quiet marks m.quiet m.marks place) → IsCovered m
    → IsCovered (record { quiet = quiet; marks = marks; pages = set m.pages (m.room - 1) page; room = m.room - 1 })
covered_page m quiet marks page more size below others covered =
    let at : ℕ = m.room - 1 in
    let room = covered.room in
    record {
      room = omega (arith, room);
      pages = λ left place within. elim (cases_eq (place / 128) page) [
        | inl same ↦ (
            let there = get_or-set_at m.pages at at page 0 refl (omega (arith, size, more, room)) in
            inl (record { index = at; behind = omega arith; below = omega (arith, more, room); is = omega (arith, there, same, below) }))
        | inr apart ↦ elim (covered.pages more place within) [
          | inl old ↦ (
              let other : old.index ≢ at = λ same. omega (arith, old.behind, more, same) in
              inl (record { index = old.index; behind = omega (arith, old.behind); below = old.below; is = ap (λ p. p % 512) (get_or-set_other m.pages at old.index page 0 other) ∙ old.is }))
          | inr unknown ↦ inr (unknown_still quiet marks m.quiet m.marks place (others place apart) unknown)
        ]
      ];
    }

-- nothing is noted of a page any more
pub covered_less : (m : Marking) (quiet : List Bool) (marks : List ℕ) (page : ℕ) → ((place : ℕ) → place / 128 ≡ page → IsUnknownAt quiet marks place)
    → ((place : ℕ) → place / 128 ≢ page → StaysAt quiet marks m.quiet m.marks place) → IsCovered m → IsCovered (record m { quiet = quiet; marks = marks })
covered_less m quiet marks page none others covered = record {
  room = covered.room;
  pages = λ more place within. elim (cases_eq (place / 128) page) [
    | inl here ↦ inr (none place here)
    | inr apart ↦ elim (covered.pages more place within) [
      | inl listed ↦ inl listed
      | inr unknown ↦ inr (unknown_still quiet marks m.quiet m.marks place (others place apart) unknown)
    ]
  ];
}

-- an entry is noted at a place of which something is known
pub covered_address : (m : Marking) (place t : ℕ) → ¬ IsUnknownAt m.quiet m.marks place → IsCovered m → IsCovered (with_address m place t)
covered_address m place t known covered =
    record {
      room = covered.room;
      pages = λ more other within. elim (covered.pages more other within) [
        | inl listed ↦ inl listed
        | inr unknown ↦ (
            let new = with_address m place t in
            let apart : other ≢ place = λ same. known (rw same at unknown) in
            inr (unknown_still new.quiet new.marks m.quiet m.marks other (stays_apart m place t other apart) unknown))
      ];
    }

-- each page of which something is noted still is one of those from one number on
pub record AreLeft (pages : List ℕ) (quiet : List Bool) (marks : List ℕ) (i : ℕ) : Type 0 where
  pub left : (place : ℕ) → place < 65536 → IsListed pages i (place / 128) ⊎ IsUnknownAt quiet marks place

pub left_next : (pages : List ℕ) (quiet : List Bool) (marks : List ℕ) (old_quiet : List Bool) (old_marks : List ℕ) (i : ℕ)
    → ((place : ℕ) → place / 128 ≡ slice_index_or pages i 0 % 512 → IsUnknownAt quiet marks place)
    → ((place : ℕ) → place / 128 ≢ slice_index_or pages i 0 % 512 → StaysAt quiet marks old_quiet old_marks place) → AreLeft pages old_quiet old_marks i → AreLeft pages quiet marks (i + 1)
left_next pages quiet marks old_quiet old_marks i cleared others left = record {
  left = λ place within. elim (cases_eq (place / 128) (slice_index_or pages i 0 % 512)) [
    | inl same ↦ inr (cleared place same)
    | inr apart ↦ elim (left.left place within) [
      | inl at ↦ (
          let further : at.index ≢ i = λ same. apart (sym at.is ∙ ap (λ k. slice_index_or pages k 0 % 512) same) in
          inl (record { index = at.index; behind = omega (arith, at.behind, further); below = at.below; is = at.is }))
      | inr unknown ↦ inr (unknown_still quiet marks old_quiet old_marks place (others place apart) unknown)
    ]
  ];
}

-- none is left
pub left_none : (pages : List ℕ) (quiet : List Bool) (marks : List ℕ) (i place : ℕ) → 512 ≤ i → AreLeft pages quiet marks i → place < 65536 → IsUnknownAt quiet marks place
left_none pages quiet marks i place all left within = ⊎_elim (λ at. absurd (omega (arith, all, at.behind, at.below))) (λ unknown. unknown) (left.left place within)
