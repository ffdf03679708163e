-- Into which pages the jumps of a page lead, and where one page gets other words.
use Rattle.std.proofs.Common.{◌≡◌, ℕ, ◌+◌, ◌-◌, ◌*◌, ◌/◌, ◌<◌, ◌≤◌, ◌⊎◌, List, length, true, false, arith, ◌∙◌, sym, ap, ap₂, subst, inl, inr}
use Rattle.std.specs.Prelude.{◌≢◌, ◌==◌, ◌&&◌, ◌%◌, Option, Some, None, IfSome, IfNone, slice_index, slice_set, slice_index_or}
use Rattle.std.specs.Int.{bit_at}
use Rattle.std.proofs.lemmas.List.{length-set, get_or-set_same, get_or-set_other}
use Rattle.std.proofs.lemmas.Bool.{and_parts, both_ways, cases_eq, cases_lt, eqb-true, false_from_ne_true}
use Rattle.flash_words.specs.declared.jumps.Jumps.{Jumps}
use Rattle.flash_words.specs.declared.page_set.PageSet.{PageSet}
use Rattle.flash_words.specs.Pages.{word_count, page_count, page_words, word_at, page_of, set_page}
use Rattle.flash_words.specs.PageSets.{has_page}
use Rattle.flash_words.specs.Jumps.{jump_word, HasNoJumpInto}
use Rattle.flash_words.specs.JumpSets.{HasJumps, HasJumpsBetween, HasSet, IsSource, IsSourceOfEach, AreJumps, AreJumpsBeside, AreJumpsOutside}
use Rattle.flash_words.specs.Rewriting.{ChangeBetween}
use Rattle.flash_words.proofs.PageLaws.{page_word, page_same, page_other}

not_both : (a b c : ℕ) → (a ≡ jump_word → b ≡ c → ⊥) → (a == jump_word && b == c) ≡ false
not_both a b c none = false_from_ne_true _ (λ both. let parts = and_parts _ _ both in none (eqb-true a jump_word parts.0) (eqb-true b c parts.1))

-- the other pages have the jumps that they had
pub jumps_beside : (words new : List ℕ) (jumps : Jumps) (page : ℕ) → AreJumps words jumps → length words ≡ word_count → page < page_count → length new ≡ page_words
    → AreJumpsBeside (set_page words page new) jumps page
jumps_beside words new jumps page are size few long =
    let inside : page_words * page + page_words ≤ length words = omega (arith, size) in
    record {
      sized = are.sized;
      sources = are.sources;
      each = λ other below differs s. rw (page_other words new page other long inside differs) (are.each other below s);
    }

-- a page's set that is made anew, and each other, which stays
pub set_here : (words : List ℕ) (old : List PageSet) (page : ℕ) (set : PageSet) → page < length old → HasJumps (page_of words page) set → HasSet words (slice_set old page set) page
set_here words old page set inside has s = rw (get_or-set_same old page set s inside) has

pub set_else : (words : List ℕ) (old : List PageSet) (page other : ℕ) (set : PageSet) → other ≢ page → HasSet words old other → HasSet words (slice_set old page set) other
set_else words old page other set apart has s = rw (get_or-set_other old page other set s apart) (has s)

-- a page is in a set by its number's remainder
same_place : (set : PageSet) (page : ℕ) → has_page set (page % page_count) ≡ has_page set page
same_place set page =
    let word : page % page_count / 64 % 8 ≡ page / 64 % 8 = omega arith in
    let bit : page % page_count % 64 ≡ page % 64 = omega arith in
    ap₂ (λ w b. bit_at (slice_index set.bits w) b == 1) word bit

-- a page is a source of each page of its new set, and each other of those of its own, which stays
pub source_of_each : (sets sources : List PageSet) (page other : ℕ) (set : PageSet) → page < length sets
    → ((target : ℕ) → target < page_count → has_page set target ≡ true → IsSource sources target page)
    → (other ≢ page → IsSourceOfEach sets sources other) → IsSourceOfEach (slice_set sets page set) sources other
source_of_each sets sources page other set inside here stays target s few has = elim (cases_eq other page) [
  | inl same ↦ rw same (here target few (rw (same, get_or-set_same sets page set s inside) at has))
  | inr apart ↦ stays apart target s few (rw (get_or-set_other sets page other set s apart) at has)
]

-- a page that isn't among the sources of another has no jump into it
no_source : (words : List ℕ) (jumps : Jumps) (page target : ℕ) (s : PageSet) → AreJumps words jumps → page < page_count
    → has_page (slice_index_or jumps.sources.items (target % page_count) s) page ≡ false → HasNoJumpInto words page target
no_source words jumps page target s are few none k below =
    let a = page_words * page + k in
    not_both (word_at words a) (word_at words (a + 1) / page_words) target (λ jump is.
    let set = slice_index_or jumps.sets.items page s in
    let first : slice_index (page_of words page) k ≡ jump_word = page_word words page k (omega arith) ∙ jump in
    let next : page_words * page + (k + 1) ≡ a + 1 = omega arith in
    let second : slice_index (page_of words page) (k + 1) / page_words ≡ target = ap (λ w. w / page_words) (page_word words page (k + 1) below ∙ ap (word_at words) next) ∙ is in
    let has : has_page set (target % page_count) ≡ true = same_place set target ∙ ap (has_page set) (sym second) ∙ are.each page few s k below first in
    both_ways _ none (are.sources.each page few (target % page_count) s (omega arith) has s))

-- what a search among the sources says of jumps
pub lowest_source : (words : List ℕ) (jumps : Jumps) (from to target : ℕ) (s : PageSet) (found : Option ℕ) → s ≡ slice_index_or jumps.sources.items (target % page_count) s → AreJumps words jumps
    → to ≤ page_count → IfSome found (λ page. (from ≤ page) × (page < to)) → IfSome found (λ page. (lower : ℕ) → from ≤ lower → lower < page → has_page s lower ≡ false)
    → IfSome found (λ page. (lower : ℕ) → from ≤ lower → lower < page → HasNoJumpInto words lower target)
lowest_source words jumps from to target s (Some page) is are end range lowest =
    λ lower above below. no_source words jumps lower target s are (omega (arith, range.1)) (rw is at (lowest lower above below))
lowest_source words jumps from to target s None is are end range lowest = tt

pub none_source : (words : List ℕ) (jumps : Jumps) (from to target : ℕ) (s : PageSet) (found : Option ℕ) → s ≡ slice_index_or jumps.sources.items (target % page_count) s → AreJumps words jumps
    → to ≤ page_count → IfNone found ((page : ℕ) → from ≤ page → page < to → has_page s page ≡ false)
    → IfNone found ((page : ℕ) → from ≤ page → page < to → HasNoJumpInto words page target)
none_source words jumps from to target s (Some page) is are end none = tt
none_source words jumps from to target s None is are end none = λ page above below. no_source words jumps page target s are (omega arith) (rw is at (none page above below))

-- the sets of the other pages, and all sources, once the set of one page was made anew
beside_renewed : (words : List ℕ) (old new : Jumps) (page : ℕ) (set : PageSet) → page < page_count → new.sets.items ≡ slice_set old.sets.items page set → length new.sources.items ≡ page_count
    → ((target : ℕ) → target < page_count → has_page set target ≡ true → IsSource new.sources.items target page)
    → ((target other : ℕ) → other % page_count ≢ page % page_count → IsSource old.sources.items target other → IsSource new.sources.items target other)
    → AreJumpsBeside words old page → AreJumpsBeside words new page
beside_renewed words old new page set few is size here others beside = record {
  sized = ap length is ∙ length-set old.sets.items page set ∙ beside.sized;
  sources = record {
    sized = size;
    each = λ other below. rw is (source_of_each old.sets.items new.sources.items page other set (omega (arith, beside.sized)) here
        (λ apart target s near led. others target other (λ same. apart (omega arith)) (beside.sources.each other below target s near led)));
  };
  each = λ other below apart. rw is (set_else words old.sets.items page other set apart (beside.each other below apart));
}

-- .. and that of the page
pub jumps_renewed : (words : List ℕ) (old new : Jumps) (page : ℕ) (set : PageSet) → page < page_count → new.sets.items ≡ slice_set old.sets.items page set → HasJumps (page_of words page) set
    → length new.sources.items ≡ page_count → ((target : ℕ) → target < page_count → has_page set target ≡ true → IsSource new.sources.items target page)
    → ((target other : ℕ) → other % page_count ≢ page % page_count → IsSource old.sources.items target other → IsSource new.sources.items target other)
    → AreJumpsBeside words old page → AreJumps words new
jumps_renewed words old new page set few is has size here others beside =
    let at = beside_renewed words old new page set few is size here others beside in
    record {
      sized = at.sized;
      sources = at.sources;
      each = λ other below. elim (cases_eq other page) [
        | inl same ↦ rw (same, is) (set_here words old.sets.items page set (omega (arith, beside.sized)) has)
        | inr apart ↦ at.each other below apart
      ];
    }

-- A page of which some words change. ---------------------------------------------------------------

-- what changes of it alone may lack its jumps
pub jumps_outside : (words new : List ℕ) (jumps : Jumps) (page from to : ℕ) → AreJumps words jumps → length words ≡ word_count → page < page_count → length new ≡ page_words
    → ChangeBetween from to (page_of words page) new → AreJumpsOutside (set_page words page new) jumps page from to
jumps_outside words new jumps page from to are size few long change =
    let own : page_of (set_page words page new) page ≡ new = page_same words new page long (omega (arith, size)) in
    let still : (k : ℕ) (s : PageSet) → k + 1 < page_words → (k + 1 < from) ⊎ (to ≤ k) → slice_index new k ≡ jump_word
    → has_page (slice_index_or jumps.sets.items page s) (slice_index new (k + 1) / page_words) ≡ true = λ k s within apart jump.
    let first = change k (omega arith) (elim apart [ inl below ↦ inl (omega arith) | inr above ↦ inr above ]) ∙ jump in
    let second = change (k + 1) within (elim apart [ inl below ↦ inl below | inr above ↦ inr (omega arith) ]) in
    rw second at (are.each page few s k within first) in
    record {
      beside = jumps_beside words new jumps page are size few long;
      before = λ s. rw own (λ k above below within jump. still k s within (inl (omega arith)) jump);
      behind = λ s. rw own (λ k above below within jump. still k s within (inr above) jump);
    }

-- a set that has more has the jumps still
more_jumps : (page : List ℕ) (from to : ℕ) (old new : PageSet) → ((other : ℕ) → has_page old other ≡ true → has_page new other ≡ true)
    → HasJumpsBetween from to page old → HasJumpsBetween from to page new
more_jumps page from to old new more has k above below within jump = more (slice_index page (k + 1) / page_words) (has k above below within jump)

-- a page gets one more page into its set, and becomes a source of that
pub jump_kept : (all : List ℕ) (old new : Jumps) (page target from to : ℕ) (set : PageSet) → page < page_count → target < page_count → new.sets.items ≡ slice_set old.sets.items page set
    → ((s : PageSet) (other : ℕ) → has_page (slice_index_or old.sets.items page s) other ≡ true → has_page set other ≡ true)
    → ((s : PageSet) (other : ℕ) → other % 512 ≢ target % 512 → has_page set other ≡ has_page (slice_index_or old.sets.items page s) other)
    → length new.sources.items ≡ page_count → IsSource new.sources.items target page → ((any other : ℕ) → IsSource old.sources.items any other → IsSource new.sources.items any other)
    → AreJumpsOutside all old page from to → AreJumpsOutside all new page from to
jump_kept all old new page target from to set few near is more only size here others at =
    let own : (s : PageSet) → slice_index_or new.sets.items page s ≡ set = λ s. rw is (get_or-set_same old.sets.items page set s (omega (arith, at.beside.sized))) in
    let each : (any : ℕ) → any < page_count → has_page set any ≡ true → IsSource new.sources.items any page = λ any within has. elim (cases_eq (any % 512) (target % 512)) [
      | inl same ↦ subst (λ (t : ℕ). IsSource new.sources.items t page) (omega arith) here
      | inr apart ↦ λ s. others any page (at.beside.sources.each page few any s within (sym (only s any apart) ∙ has)) s
    ] in
    record {
      beside = beside_renewed all old new page set few is size each (λ any other apart. others any other) at.beside;
      before = λ s. rw (own s) (more_jumps (page_of all page) 0 (from - 1) _ set (more s) (at.before s));
      behind = λ s. rw (own s) (more_jumps (page_of all page) to page_words _ set (more s) (at.behind s));
    }

-- no jump's second word is a page's first
pub first_behind : (all : List ℕ) (jumps : Jumps) (page from to k : ℕ) → k - 1 ≡ from - 1 → AreJumpsOutside all jumps page from to → AreJumpsOutside all jumps page k to
first_behind all jumps page from to k same at = record {
  beside = at.beside;
  before = λ s. rw same (at.before s);
  behind = at.behind;
}

-- one more word is looked at
pub jump_passed : (all words : List ℕ) (jumps : Jumps) (page k to : ℕ) → 1 ≤ k → page_of all page ≡ words
    → (slice_index words (k - 1) ≡ jump_word → (s : PageSet) → has_page (slice_index_or jumps.sets.items page s) (slice_index words k / page_words) ≡ true)
    → AreJumpsOutside all jumps page k to → AreJumpsOutside all jumps page (k + 1) to
jump_passed all words jumps page k to some is noted at = record {
  beside = at.beside;
  before = λ s j above below within jump. elim (cases_lt j (k - 1)) [
    | inl earlier ↦ at.before s j above earlier within jump
    | inr later ↦
        let here : j ≡ k - 1 = omega arith in
        let next : j + 1 ≡ k = omega arith in
        rw (is, next) (noted (rw (is, here) at jump) s)
  ];
  behind = at.behind;
}

-- all were
pub jumps_extended : (all : List ℕ) (jumps : Jumps) (page k to : ℕ) → (k < page_words → to < k) → AreJumpsOutside all jumps page k to → AreJumps all jumps
jumps_extended all jumps page k to ends at = record {
  sized = at.beside.sized;
  sources = at.beside.sources;
  each = λ other below s. elim (cases_eq other page) [
    | inl same ↦ rw same (λ j within jump. elim (cases_lt j (k - 1)) [
      | inl earlier ↦ at.before s j (omega arith) earlier within jump
      | inr later ↦ at.behind s j (let here = ends (omega arith) in omega arith) (omega arith) within jump
    ])
    | inr apart ↦ at.beside.each other below apart s
  ];
}
