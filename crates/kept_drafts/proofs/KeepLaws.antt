-- A draft that is kept is the page that would be drafted anew, where nothing that it goes by is another.
use Rattle.std.proofs.Common.{◌≡◌, true≢false, ℕ, zero, suc, ◌+◌, ◌-◌, ◌*◌, ◌/◌, ◌%◌, ◌<◌, ◌≤◌, Bool, true, false, List, length, arith, refl, sym, ap, ◌∙◌, subst, inl, inr}
use Rattle.std.proofs.lemmas.Bool.{cases_lt, cases_eq}
use Rattle.std.specs.Prelude.{slice_index_or, slice_set, replicate}
use Rattle.std.proofs.lemmas.List.{get_or_past, get_or-replicate, get_or-set_same, get_or-set_other}
use Rattle.avr_isa.specs.Image.{word}
use Rattle.flash_words.specs.Pages.{word_count, page_words, word_at, page_of}
use Rattle.flash_words.specs.Layouts.{most_image_words, image_of}
use Rattle.flash_words.specs.declared.layout.Layout.{Layout}
use Rattle.nat_template.specs.Stubs.{words_of}
use Rattle.page_index.specs.Maps.{IsFree}
use Rattle.page_index.specs.Entries.{AreKnown}
use Rattle.page_draft.specs.Standing.{size}
use Rattle.page_draft.specs.Runs.{address, templates}
use Rattle.page_draft.specs.CodePages.{filled}
use Rattle.flash_model.specs.declared.micro_ops.MicroOp.{MicroOp}
use Rattle.flash_model.specs.declared.micro_ops.MicroOp.TheVariants.{Undecoded}
use Rattle.flash_model.specs.MicroOps.{CanStandFor}
use Rattle.flash_model.proofs.UndecodedLaws.{stands_for_any}
use Rattle.flash_model.specs.Code.{decoded_of}
use Rattle.flash_model.specs.DecodeCache.{StandForPage}
use Rattle.nat_page.specs.Making.{HasNoEntry, PageStops}
use Rattle.nat_page.specs.Drafted.{StopsBehind}
use Rattle.kept_drafts.specs.Keeping.{Kept, HasWords, IsDraftOf, Serves}
use Rattle.page_draft.proofs.RunLaws.{address-rises, size-templates, page_size-is}
use Rattle.flash_words.proofs.PageLaws.{page_word}
use Rattle.nat_page.proofs.DecodedLaws.{same_word}
use Rattle.nat_page.proofs.DraftedLaws.{stops_of}
use Rattle.kept_drafts.proofs.AlikeLaws.{AreAlike, ArePaged, address-alike, pieces-alike, run-alike, stops-alike}

-- a word of the original page, or the one behind it
word-same : (image other words : List ℕ) (behind page a : ℕ) → HasWords image page words behind → HasWords other page words behind → length image ≡ length other → page_words * page ≤ a
    → a ≤ page_words * page + page_words → word image a ≡ word other a
word-same image other words behind page a one two size from to = elim (cases_lt a (page_words * page + page_words)) [
  | inl within ↦ elim (cases_lt a (length image)) [
    | inl inside ↦ (
        let k = a - page_words * page in
        let place : page_words * page + k ≡ a = omega arith in
        ap (word image) (sym place) ∙ one.own k (omega arith) (omega arith) ∙ sym (two.own k (omega arith) (omega arith)) ∙ ap (word other) place)
    | inr outside ↦ get_or_past image a 0xFFFF outside ∙ sym (get_or_past other a 0xFFFF (omega arith))
  ]
  | inr end ↦ (
      let place : page_words * (page + 1) ≡ a = omega arith in
      ap (word image) (sym place) ∙ one.next ∙ sym two.next ∙ ap (word other) place)
]

-- images that have the same words there
pub alike_by : (image other words : List ℕ) (behind t : ℕ) → HasWords image (t / page_words) words behind → HasWords other (t / page_words) words behind → length image ≡ length other
    → AreAlike image other t
alike_by image other words behind t one two size = record {
  size = size;
  words = λ a paged. word-same image other words behind (t / page_words) a one two size (omega arith) (omega arith);
  seconds = λ a paged. word-same image other words behind (t / page_words) (a + 1) one two size (omega arith) (omega arith);
}

-- the image that flash holds has the words of its page
pub flash_has : (layout : Layout) (words original : List ℕ) (page behind : ℕ) → length words ≡ word_count → length (image_of layout words) ≡ layout.image_words → layout.image_words ≤ most_image_words
    → ((k : ℕ) → k < page_words → word_at (page_of words page) k ≡ word_at original k) → behind ≡ word (image_of layout words) (page_words * (page + 1))
    → HasWords (image_of layout words) page original behind
flash_has layout words original page behind whole size short same next = record {
  own = λ k near inside.
      same_word layout.image_words (page_words * page + k) words (omega (arith, inside, size)) (omega (arith, inside, size, short, whole)) ∙ sym (page_word words page k near) ∙ same k near;
  next = sym next;
}

-- where nothing is decoded, that may stand for any words
pub undecoded_stand : (words : List ℕ) → StandForPage words (replicate page_words Undecoded)
undecoded_stand words i op near =
    subst (λ (o : MicroOp). CanStandFor o (decoded_of (word_at words i) (word_at words (i + 1))).instr (decoded_of (word_at words i) (word_at words (i + 1))).next_size)
    (sym (get_or-replicate page_words i Undecoded op (omega arith))) (stands_for_any _ _)

-- one that may stand for its word, in the place of another
pub stand_set : (words : List ℕ) (micro_ops : List MicroOp) (i : ℕ) (op : MicroOp) → i < length micro_ops
    → CanStandFor op (decoded_of (word_at words i) (word_at words (i + 1))).instr (decoded_of (word_at words i) (word_at words (i + 1))).next_size
    → StandForPage words micro_ops → StandForPage words (slice_set micro_ops i op)
stand_set words micro_ops i op inside stands all k other near =
    elim (cases_eq k i) [
      | inl same ↦ (
          let there : slice_index_or (slice_set micro_ops i op) k other ≡ op = ap (λ j. slice_index_or (slice_set micro_ops i op) j other) same ∙ get_or-set_same micro_ops i op other inside in
          rw there (rw same stands))
      | inr apart ↦ rw (get_or-set_other micro_ops i k op other apart) (all k other near)
    ]

-- Why a run stops. --------------------------------------------------------------------------------

-- where no entry stops it, it stops whatever pages there are
pub stops_alone : (layout : Layout) (image words : List ℕ) (t last : ℕ) (known : List Bool) → AreKnown layout words (t / page_words) known → length image ≡ layout.image_words
    → address image t last / page_words ≡ t / page_words
    → StopsBehind layout image words (address image t last) (last + 3 + size (templates image t (suc last)))
    → (address image t (suc last) / page_words ≡ t / page_words → address image t (suc last) < layout.image_words → slice_index_or known (address image t (suc last) % page_words) false ≡ false)
    → (layout' : Layout) (words' : List ℕ) (page : ℕ) → PageStops layout' image words' page t last
stops_alone layout image words t last known are size paged (StopsBehind.Ends ends) none layout' words' page = PageStops.Ends ends
stops_alone layout image words t last known are size paged (StopsBehind.Leaves leaves) none layout' words' page = PageStops.Leaves (λ same. leaves (same ∙ sym paged))
stops_alone layout image words t last known are size paged (StopsBehind.Outside outside) none layout' words' page = PageStops.Outside outside
stops_alone layout image words t last known are size paged (StopsBehind.Full full) none layout' words' page =
    PageStops.Full (omega (arith, size-templates image t (suc last), page_size-is image t (suc last)))
stops_alone layout image words t last known are size paged (StopsBehind.Known v entry) none layout' words' page =
    let next = address image t (suc last) in
    elim (cases_eq (next / page_words) (t / page_words)) [
      | inl same ↦ elim (cases_lt next layout.image_words) [
        | inl inside ↦ (
            let there : page_words * (t / page_words) + next % page_words ≡ next = omega arith in
            let found = are.only (next % page_words) v (omega arith) (rw there entry) in
            absurd (true≢false (sym found ∙ none same inside)))
        | inr outside ↦ PageStops.Outside (omega arith)
      ]
      | inr leaves ↦ PageStops.Leaves leaves
    ]

-- no address of a run is below its first
rises-from : (image : List ℕ) (t i : ℕ) → t ≤ address image t i
rises-from image t zero = omega arith
rises-from image t (suc i) = let more = address-rises image t 0 (suc i) (omega arith) in omega arith

-- the addresses of a run have no entries where none of those up to its last one has
unknown_run : (layout : Layout) (image words : List ℕ) (t last : ℕ) (known : List Bool) → AreKnown layout words (t / page_words) known → ArePaged image t last
    → ((k : ℕ) → t % page_words ≤ k → k < address image t last % page_words + 1 → slice_index_or known k false ≡ false)
    → (i : ℕ) → i ≤ last → HasNoEntry layout words (address image t i)
unknown_run layout image words t last known are paged none i near v entry =
    let a = address image t i in
    let end = address image t last in
    let from : t ≤ a = rises-from image t i in
    let to : a ≤ end = elim (cases_lt i last) [
      | inl before ↦ (let below = address-rises image t i last before in omega arith)
      | inr same ↦ (let here : address image t i ≡ address image t last = ap (address image t) (omega arith) in omega arith)
    ] in
    let here = paged i near in
    let there = paged last (omega arith) in
    let place : page_words * (t / page_words) + a % page_words ≡ a = omega arith in
    let found = are.only (a % page_words) v (omega arith) (rw place entry) in
    true≢false (sym found ∙ none (a % page_words) (omega arith) (omega arith))

-- What is kept serves. ----------------------------------------------------------------------------

-- at the entry that stopped it, or whatever pages there are
stops_kept : (layout : Layout) (from image old : List ℕ) (known : List Bool) (page t last next : ℕ) (flag : Bool) → t < most_image_words → AreAlike from image t → ArePaged image t last
    → ArePaged from t last
    → AreKnown layout old (t / page_words) known → IsFree old page → next ≡ address image t (suc last)
    → (flag ≡ true → next / page_words ≡ t / page_words)
    → (flag ≡ false → (layout' : Layout) (words : List ℕ) (page' : ℕ) → PageStops layout' from words page' t last)
    → (flag ≡ true → slice_index_or known (next % page_words) false ≡ true)
    → PageStops layout image old page t last
stops_kept layout from image old known page t last next true short alike paged before are free is at_entry alone still =
    let found = are.found (next % page_words) (omega arith) (still refl) in
    let paged' = at_entry refl in
    let there : page_words * (t / page_words) + next % page_words ≡ address image t (suc last) = omega arith in
    stops_of layout image old page t last free (paged last (omega arith)) (StopsBehind.Known found.0 (rw there at found.1))
stops_kept layout from image old known page t last next false short alike paged before are free is at_entry alone still =
    stops-alike layout from image old page t last short alike before (alone refl layout old page)

-- A draft that is kept is the page of t, where its run begins with t in an image of as many words that has the words that are kept; where
-- no address of its run has an entry; and where the entry that stopped its run, if one did, is still there.
pub serves_still : (layout : Layout) (image old : List ℕ) (kept : Kept) (known : List Bool) (from : List ℕ) → IsDraftOf from kept
    → AreKnown layout old (kept.first / page_words) known
    → length image ≡ kept.image_words → HasWords image (kept.first / page_words) kept.original kept.behind
    → ((k : ℕ) → kept.first % page_words ≤ k → k < kept.last % page_words + 1 → slice_index_or known k false ≡ false)
    → (kept.stops_at_entry ≡ true → slice_index_or known (kept.next % page_words) false ≡ true)
    → Serves layout image old kept.first kept
serves_still layout image old kept known from draft are sized read none still page free =
    let t = kept.first in
    let last = draft.index in
    let alike = alike_by from image kept.original kept.behind t draft.read read (sym draft.sized ∙ sym sized) in
    let short : t < most_image_words = (let first = draft.run.inside 0 (omega arith) in omega (arith, draft.short)) in
    let run = run-alike from image t last short alike draft.run in
    let pieces = pieces-alike from image t last short alike draft.run.paged in
    let end : kept.last ≡ address image t last = draft.last ∙ address-alike from image t last last alike draft.run.paged (omega arith) in
    let next : kept.next ≡ address image t (suc last) = draft.next ∙ address-alike from image t last (suc last) alike draft.run.paged (omega arith) in
    let stops = stops_kept layout from image old known page t last kept.next kept.stops_at_entry short alike run.paged draft.run.paged are free next draft.at_entry draft.alone still in
    record {
      last = last;
      run = run;
      unknown = unknown_run layout image old t last known are run.paged (λ k above below. none k above (omega arith));
      fits = rw (ap size pieces) at draft.fits;
      stops = stops;
      is = draft.words ∙ ap (λ ps. filled (words_of ps)) pieces;
      placed = omega (arith, draft.front);
    }

-- .. for an address and a draft that are told otherwise
pub serves_now : (layout : Layout) (image old : List ℕ) (kept now : Kept) (known : List Bool) (from : List ℕ) (t : ℕ) → IsDraftOf from kept → kept ≡ now → kept.first ≡ t
    → AreKnown layout old (t / page_words) known
    → length image ≡ kept.image_words → HasWords image (t / page_words) kept.original kept.behind
    → ((k : ℕ) → t % page_words ≤ k → k < kept.last % page_words + 1 → slice_index_or known k false ≡ false)
    → (now.stops_at_entry ≡ true → slice_index_or known (now.next % page_words) false ≡ true)
    → Serves layout image old t now
serves_now layout image old kept now known from t draft view first are sized read none still =
    let At : ℕ → Type 0 = λ a. AreKnown layout old (a / page_words) known → HasWords image (a / page_words) kept.original kept.behind
    → ((k : ℕ) → a % page_words ≤ k → k < kept.last % page_words + 1 → slice_index_or known k false ≡ false) → Serves layout image old a kept in
    let still' = rw (← view) at still in
    rw view at (subst At first (λ are' read' none'. serves_still layout image old kept known from draft are' sized read' none' still') are read none)
