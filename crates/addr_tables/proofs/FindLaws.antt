-- What follows from an answer of the tables, and from an answer of a search.
use Rattle.std.proofs.Common.{◌≡◌, ℕ, ◌%◌, ◌⊎◌, true, List, [], ◌∷◌, length, arith, refl, ap, ap₂, subst, ◌∙◌, inl, inr, eq-eqb}
use Rattle.std.specs.Prelude.{◌≢◌, ◌==◌, ◌↔◌, not, Option, Some, None, IfSome, Result, Ok, Err, IfOk}
use Rattle.std.specs.Result.{result_ok}
use Rattle.std.proofs.lemmas.Map.Views.{exact_unsigned_eq}
use Rattle.std.proofs.lemmas.Bool.{and_parts, both_ways, not-true}
use Rattle.flash_words.specs.declared.layout.Layout.{Layout}
use Rattle.sram_layout.specs.Bytes.{byte_count}
use Rattle.sram_layout.specs.Cells.{entry_at}
use Rattle.page_index.specs.Entries.{IsEntry, IsMapped}
use Rattle.page_index.proofs.EntryLaws.{one_place}
use Rattle.addr_tables.specs.Tables.{IsHeld, IsTables}
use Rattle.addr_tables.specs.Hits.{aside_of, way_of, is_of, first_place, hit}
use Rattle.addr_tables.specs.Changes.{noted, noted_if, Finds}
use Rattle.addr_tables.proofs.NoteLaws.{noted_tables}
use Rattle.base.proofs.Searches.{found_first}

-- what holds of an entry that is of t holds of t and the entry's place, which isn't 0
is_of_pair : (P : ℕ × ℕ → Type 0) (entry : ℕ × ℕ) (t place : ℕ) → is_of entry t ≡ true → entry.1 ≡ place → P entry → P (t, place) × (place ≢ 0)
is_of_pair P (a, v) t place test same holds =
    let tests = and_parts (a == t) (not (v == 0)) test in
    let here : (a, v) ≡ (t, place) = ap₂ (λ x y. let pair : ℕ × ℕ = (x, y) in pair) (exact_unsigned_eq a t tests.0) same in
    (subst P here holds, λ zero. absurd (both_ways (v == 0) (not-true (v == 0) tests.1) (eq-eqb v 0 (same ∙ zero))))

-- the place is that of the first of the entries, or of the first of the others
first_by : (P : ℕ × ℕ → Type 0) (entry : ℕ × ℕ) (entries : List (ℕ × ℕ)) (t place : ℕ) → first_place (entry ∷ entries) t ≡ Some place → P entry → (P (t, place) × (place ≢ 0))
    ⊎ (first_place entries t ≡ Some place)
first_by P entry entries t place is holds = elim (found_first (is_of entry t) entry.1 place (first_place entries t) is) [
  | inl here ↦ inl (is_of_pair P entry t place here.0 here.1 holds)
  | inr behind ↦ inr behind
]

-- What holds of the three entries that are looked at holds of t and the place that they have for it.
pub hit_by : (P : ℕ × ℕ → Type 0) (m : List ℕ) (t place : ℕ) → hit m t ≡ Some place → P (entry_at m (aside_of t)) → P (entry_at m (way_of t 0)) → P (entry_at m (way_of t 1))
    → P (t, place) × (place ≢ 0)
hit_by P m t place is aside first second =
    let two = entry_at m (way_of t 1) ∷ [] in
    elim (first_by P (entry_at m (aside_of t)) (entry_at m (way_of t 0) ∷ two) t place is aside) [
      | inl here ↦ here
      | inr is' ↦ elim (first_by P (entry_at m (way_of t 0)) two t place is' first) [
        | inl here ↦ here
        | inr is'' ↦ elim (first_by P (entry_at m (way_of t 1)) [] t place is'' second) [
          | inl here ↦ here
          | inr none ↦ absurd (cc)
        ]
      ]
    ]

-- under right tables that is t's entry
pub hit_entry : (layout : Layout) (m words : List ℕ) (t place : ℕ) → IsTables layout m words → hit m t ≡ Some place → IsEntry layout words t place
hit_entry layout m words t place tables is =
    let found = hit_by (IsHeld layout words) m t place is (tables.aside (t % 32) (omega arith)) (tables.way (t % 64) 0 (omega arith) (omega arith))
    (tables.way (t % 64) 1 (omega arith) (omega arith)) in
    found.0 found.1

-- the search of the pool, where the tables have no place
pub found_in_pool : (layout : Layout) (words sram : List ℕ) (t : ℕ) (found : Option ℕ) → hit sram t ≡ None → IfSome found (IsEntry layout words t)
    → ((v : ℕ) → IsEntry layout words t v → found ≡ Some v) → Finds layout words sram (noted_if sram t found) t found
found_in_pool layout words sram t None missed some only = Finds.Missed missed (λ place entry. let told : None ≡ Some place = only place entry in absurd (cc)) refl refl
found_in_pool layout words sram t (Some place) missed some only = Finds.Entered place missed some refl refl

-- A search that answered a place, where the tables were right: it is that of t's entry.
pub found_right : (layout : Layout) (words old new : List ℕ) (t place : ℕ) → Finds layout words old new t (Some place) → IsTables layout old words
    → IsEntry layout words t place × (new ≡ noted old t place)
found_right layout words old new t place (Finds.Hit p is answer left) tables =
    let same : p ≡ place = cc in
    (rw same at (hit_entry layout old words t p tables is), left ∙ ap (noted old t) same)
found_right layout words old new t place (Finds.Entered p is entry answer left) tables =
    let same : p ≡ place = cc in
    (rw same at entry, left ∙ ap (noted old t) same)
found_right layout words old new t place (Finds.Missed is none answer left) tables = absurd (cc)

-- Whatever the tables held, a place that is answered was theirs, or is that of t's entry.
pub found_noted : (layout : Layout) (words old new : List ℕ) (t place : ℕ) → Finds layout words old new t (Some place) → new ≡ noted old t place
found_noted layout words old new t place (Finds.Hit p is answer left) = let same : p ≡ place = cc in left ∙ ap (noted old t) same
found_noted layout words old new t place (Finds.Entered p is entry answer left) = let same : p ≡ place = cc in left ∙ ap (noted old t) same
found_noted layout words old new t place (Finds.Missed is none answer left) = absurd (cc)

-- a search that answered none
pub record HasNone (layout : Layout) (words old new : List ℕ) (t : ℕ) : Type 0 where
  pub missed : hit old t ≡ None
  pub unknown : (place : ℕ) → ¬ IsEntry layout words t place
  pub left : new ≡ old

module _ (layout : Layout) (words old new : List ℕ) (t : ℕ) where
  pub found_none : (result : Option ℕ) → result ≡ None → Finds layout words old new t result → HasNone layout words old new t
  found_none result none (Finds.Hit p is answer left) = absurd (cc)
  found_none result none (Finds.Entered p is entry answer left) = absurd (cc)
  found_none result none (Finds.Missed is unknown answer left) = record { missed = is; unknown = unknown; left = left }

  -- a search keeps right tables,
  pub finds_tables : (result : Option ℕ) → length old ≡ byte_count → Finds layout words old new t result → IsTables layout old words → IsTables layout new words
  finds_tables result long (Finds.Hit place is answer left) tables =
      rw left (noted_tables layout old words t place long (hit_entry layout old words t place tables is) tables)
  finds_tables result long (Finds.Entered place is entry answer left) tables = rw left (noted_tables layout old words t place long entry tables)
  finds_tables result long (Finds.Missed is none answer left) tables = rw left tables

  -- and answers with them just the place of t's entry in a mapped pool
  entry_found : (v : ℕ) (result : Option ℕ) → IsMapped layout words → Finds layout words old new t result → IsTables layout old words → IsEntry layout words t v → result ≡ Some v
  entry_found v result mapped (Finds.Hit place is answer left) tables entry =
      answer ∙ ap Some (one_place layout words t place v mapped (hit_entry layout old words t place tables is) entry)
  entry_found v result mapped (Finds.Entered place is there answer left) tables entry =
      answer ∙ ap Some (one_place layout words t place v mapped there entry)
  entry_found v result mapped (Finds.Missed is none answer left) tables entry = absurd (none v entry)

  pub finds_entry : (result : Option ℕ) → Finds layout words old new t result → IsTables layout old words → IsMapped layout words → (v : ℕ) → (result ≡ Some v) ↔ IsEntry layout words t v
  finds_entry result finds tables mapped v = (
    λ answer. (found_right layout words old new t v (rw answer at finds) tables).0,
    λ entry. entry_found v result mapped finds tables entry,
  )

-- a place that is told, told as an option
pub if_ok : {E : Type 0} (P : ℕ → Type 0) (found : Result ℕ E) → IfOk found P → IfSome (result_ok found) P
if_ok P (Ok place) holds = holds
if_ok P (Err other) holds = tt

-- where the tables are right, a search answers the place of t's entry, whether they have it or not
known_by : (layout : Layout) (words old : List ℕ) (t place : ℕ) (found : Option ℕ) → hit old t ≡ found → IsTables layout old words → IsMapped layout words → IsEntry layout words t place
    → Finds layout words old (noted old t place) t (Some place)
known_by layout words old t place None is tables mapped entry = Finds.Entered place is entry refl refl
known_by layout words old t place (Some v) is tables mapped entry =
    Finds.Hit place (is ∙ ap Some (one_place layout words t v place mapped (hit_entry layout old words t v tables is) entry)) refl refl

pub finds_known : (layout : Layout) (words old : List ℕ) (t place : ℕ) → IsTables layout old words → IsMapped layout words → IsEntry layout words t place
    → Finds layout words old (noted old t place) t (Some place)
finds_known layout words old t place tables mapped entry = known_by layout words old t place (hit old t) refl tables mapped entry
