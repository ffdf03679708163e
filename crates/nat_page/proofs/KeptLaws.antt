-- Where one page of the pool changes and holds the same run, and every other page stays: what the pages
-- list stays, and so does all that makes the pool faithful.
use Rattle.std.proofs.Common.{◌≡◌, ℕ, ◌+◌, ◌*◌, ◌/◌, ◌%◌, ◌<◌, ◌≤◌, List, length, take, length-take, arith, sym, ap, ◌∙◌, inl, inr}
use Rattle.std.specs.Prelude.{◌≢◌}
use Rattle.std.proofs.lemmas.Bool.{cases_eq}
use Rattle.std.proofs.lemmas.Grind.{same_number_lists}
use Rattle.std.proofs.lemmas.List.{get_or-take}
use Rattle.flash_words.specs.Pages.{word_count, page_words, word_at}
use Rattle.flash_words.specs.Layouts.{IsRight, image_of, most_image_words}
use Rattle.flash_words.specs.declared.layout.Layout.{Layout}
use Rattle.page_index.specs.Maps.{IsPool, IsFree}
use Rattle.page_index.specs.Entries.{Lists, IsEntry}
use Rattle.page_index.proofs.ChangeLaws as change
use Rattle.page_draft.specs.CodePages.{HoldsRun}
use Rattle.nat_page.specs.Faithful.{IsFaithful}
use Rattle.nat_page.proofs.HeldLaws.{lists_held, held_listed}
use Rattle.nat_page.proofs.StayLaws.{held_used, same_run, holds_alike, holds_more}

-- The page holds the same run in both, and each other page has the same words. Links of the new one may lead
-- where they did.
pub record KeepsRun (layout : Layout) (image words words' : List ℕ) (page t last : ℕ) : Type 0 where
  pub short : length image ≤ most_image_words
  pub whole : length words ≡ word_count
  pub whole' : length words' ≡ word_count
  pub others : (other : ℕ) → other ≢ page → change.SamePage words words' other
  pub old : HoldsRun (IsEntry layout words) image words page t last
  pub new : HoldsRun (IsEntry layout words) image words' page t last

-- a page lists the same where it holds the same run
pub lists_again : (leads leads' : ℕ → ℕ → Type 0) (image words words' : List ℕ) (page t last i a v : ℕ) → length image ≤ most_image_words → HoldsRun leads image words page t last
    → HoldsRun leads' image words' page t last → Lists words page i a v → Lists words' page i a v
lists_again leads leads' image words words' page t last i a v short holds holds' lists =
    let held = held_listed leads image words page t last i a v holds lists in
    let there = lists_held leads' image words' page t last i short holds' held.near in
    rw held.place (rw held.address there)

module _ (layout : Layout) (image words words' : List ℕ) (page t last : ℕ) where
  -- what the pages list, there and back
  pub kept_lists : (other i a v : ℕ) → KeepsRun layout image words words' page t last → Lists words other i a v → Lists words' other i a v
  kept_lists other i a v keeps lists = elim (cases_eq other page) [
    | inl same ↦ rw same (lists_again (IsEntry layout words) (IsEntry layout words) image words words' page t last i a v keeps.short keeps.old keeps.new (rw same at lists))
    | inr apart ↦ change.lists_alike words words' other i a v (keeps.others other apart) lists
  ]

  pub kept_lists_back : (other i a v : ℕ) → KeepsRun layout image words words' page t last → Lists words' other i a v → Lists words other i a v
  kept_lists_back other i a v keeps lists = elim (cases_eq other page) [
    | inl same ↦ rw same (lists_again (IsEntry layout words) (IsEntry layout words) image words' words page t last i a v keeps.short keeps.new keeps.old (rw same at lists))
    | inr apart ↦ change.lists_alike words' words other i a v (change.same_back words words' other (keeps.others other apart)) lists
  ]

  pub kept_entries : (a v : ℕ) → KeepsRun layout image words words' page t last → IsEntry layout words a v → IsEntry layout words' a v
  kept_entries a v keeps entry = record { page = entry.page; index = entry.index; pool = entry.pool; lists = kept_lists entry.page entry.index a v keeps entry.lists }

  pub kept_entries_back : (a v : ℕ) → KeepsRun layout image words words' page t last → IsEntry layout words' a v → IsEntry layout words a v
  kept_entries_back a v keeps entry = record { page = entry.page; index = entry.index; pool = entry.pool; lists = kept_lists_back entry.page entry.index a v keeps entry.lists }

  -- each page holds the run that it held
  pub kept_holds : (other b n : ℕ) → KeepsRun layout image words words' page t last → HoldsRun (IsEntry layout words) image words other b n → HoldsRun (IsEntry layout words') image words' other b n
  kept_holds other b n keeps holds =
      let leads : ℕ → ℕ → Type 0 = λ a v. IsEntry layout words a v in
      let leads' : ℕ → ℕ → Type 0 = λ a v. IsEntry layout words' a v in
      let more : (a v : ℕ) → leads a v → leads' a v = λ a v entry. kept_entries a v keeps entry in
      elim (cases_eq other page) [
        | inl same ↦ (
            let run = same_run leads leads image words page t last b n keeps.old (rw same at holds) in
            rw same (rw run.1 at (rw run.0 at (holds_more leads leads' image words' page t last more keeps.new))))
        | inr apart ↦ holds_alike leads leads' image words words' other b n more (keeps.others other apart) holds
      ]

  -- the pages that are free, there and back
  pub kept_free : (other : ℕ) → KeepsRun layout image words words' page t last → other < 480 → IsFree words other → IsFree words' other
  kept_free other keeps low free = elim (cases_eq other page) [
    | inl same ↦ absurd (held_used (IsEntry layout words) image words page t last keeps.short keeps.old (rw same at free))
    | inr apart ↦ change.free_alike words words' other (keeps.others other apart) (omega (arith, keeps.whole)) (omega (arith, keeps.whole')) free
  ]

  -- words outside the page stay
  pub kept_word : (a : ℕ) → KeepsRun layout image words words' page t last → a / page_words ≢ page → word_at words' a ≡ word_at words a
  kept_word a keeps apart =
      let here : page_words * (a / page_words) + a % page_words ≡ a = omega arith in
      sym (ap (word_at words') here) ∙ sym ((keeps.others (a / page_words) apart).word (a % page_words) (omega arith)) ∙ ap (word_at words) here

  -- the image stays
  pub kept_image : IsRight layout → IsPool layout page → KeepsRun layout image words words' page t last → image_of layout words' ≡ image_of layout words
  kept_image right pool keeps =
      let n = layout.image_words in
      let long : n ≤ 65536 = omega (arith, right.image_fits) in
      let cut : length (take n words) ≡ n = omega (arith, length-take n words, keeps.whole) in
      let cut' : length (take n words') ≡ n = omega (arith, length-take n words', keeps.whole') in
      same_number_lists (take n words') (take n words) (cut' ∙ sym cut) (λ k within.
      let below : k < n = omega arith in
      get_or-take n words' k 0 below ∙ kept_word k keeps (λ same. omega (arith, right.image_below_pool, pool.from)) ∙ sym (get_or-take n words k 0 below))

  -- the pool stays faithful
  pub kept_faithful : IsRight layout → IsFaithful layout image words → IsPool layout page → KeepsRun layout image words words' page t last → IsFaithful layout image words'
  kept_faithful right code pool keeps = record {
    whole = keeps.whole';
    image_length = code.image_length;
    held = kept_image right pool keeps ∙ code.held;
    erased = λ a after before. kept_word a keeps (λ same. omega (arith, pool.from)) ∙ code.erased a after before;
    kernel = λ a after before. kept_word a keeps (λ same. omega (arith, pool.to, right.pool_below_kernel)) ∙ code.kernel a after before;
    pages = λ other pool'. elim (code.pages other pool') [
      | inl free ↦ inl (kept_free other keeps (omega (arith, pool'.to, right.pool_below_kernel)) free)
      | inr run ↦ inr (record { first = run.first; last = run.last; holds = kept_holds other run.first run.last keeps run.holds })
    ];
    once = λ p p' i i' b v v' q q' lists lists'. code.once p p' i i' b v v' q q' (kept_lists_back p i b v keeps lists) (kept_lists_back p' i' b v' keeps lists');
  }
