-- One page after another loses its stubs into the victim: what stays, and that none is left.
use Rattle.std.proofs.Common.{◌≡◌, ℕ, ◌+◌, ◌-◌, ◌*◌, ◌/◌, ◌<◌, ◌≤◌, ◌⊎◌, Bool, true, false, List, [], ◌∷◌, ◌++◌, length, None, arith, refl, sym, ap, ◌∙◌, inl, inr, subst, ⊎_elim}
use Rattle.std.specs.Prelude.{◌≢◌, ◌==◌, ◌||◌, not, if◌then◌else◌}
use Rattle.std.proofs.lemmas.Bool.{cases_eq}
use Rattle.std.proofs.lemmas.Bool.Decides.{nat_tests}
use Rattle.flash_words.specs.Pages.{page_words, word_at, page_of, set_page}
use Rattle.flash_words.specs.Layouts.{IsRight, image_of, most_image_words}
use Rattle.flash_words.specs.declared.layout.Layout.{Layout}
use Rattle.flash_words.specs.Memory.{Memory}
use Rattle.nat_template.specs.declared.piece.Piece.{Piece}
use Rattle.nat_template.specs.declared.piece.Piece.TheVariants.{Link}
use Rattle.nat_template.specs.Stubs.{call_word, bridge_entry}
use Rattle.page_index.specs.Maps.{IsPool, IsFree, address_of, entry_count}
use Rattle.page_index.specs.Entries.{IsEntry}
use Rattle.page_index.proofs.ChangeLaws.{SamePage}
use Rattle.page_draft.specs.Standing.{IsLink, Stands, size, jump_word}
use Rattle.page_draft.specs.CodePages.{page_pieces, HoldsRun, IsCodePage}
use Rattle.nat_page.specs.Faithful.{IsFaithful, IsRewritten}
use Rattle.nat_page.specs.Links.{IsUnresolved, with_two_words}
use Rattle.nat_page.specs.Used.{is_used}
use Rattle.nat_page.specs.Unlinking.{leads_into, with_calls, stubs_into, are_some, Outside}
use Rattle.page_draft.proofs.PieceLaws.{stands_split}
use Rattle.nat_page.proofs.TwoWords.{length-with_two_words, word_beside_two, first_of_two, second_of_two}
use Rattle.nat_page.proofs.UsedLaws.{free_unused, holds_run_used, same_used}
use Rattle.nat_page.proofs.KeptLaws.{kept_entries, kept_entries_back, kept_holds, kept_image, kept_faithful}
use Rattle.nat_page.proofs.UnlinkLaws.{Each, links_among, among_inside, holds_unlinked, unlinked_page, unlinks, no_stubs}
use Rattle.nat_page.proofs.WalkLaws.{own_run, code_page}
use Rattle.branch_bridge.specs.Operating.{Operation, Performed, perform, rewriting, mended}
use Rattle.branch_bridge.specs.Unresolving.{unlinking, IsApart}
use Rattle.branch_bridge.proofs.PerformLaws.{mended_by, rewriting_done, rewriting_ops}

same_number : (a b : ℕ) → (a == b) ≡ true → a ≡ b
same_number a b is = grind (arith, nat_tests)

-- a place that isn't picked is outside the victim
elsewhere : (victim t v : ℕ) → leads_into victim t v ≡ false → v / page_words ≢ victim
elsewhere victim t v test same = grind (arith, nat_tests)

-- what stays where one page loses its stubs into the victim, and what the page then is
pub record PageDone (layout : Layout) (image words words' : List ℕ) (victim page : ℕ) : Type 0 where
  pub code : IsFaithful layout image words'
  pub same_image : image_of layout words' ≡ image_of layout words
  pub others : (other : ℕ) → other ≢ page → SamePage words words' other
  pub apart : page ≢ victim → IsFree words' page ⊎ IsApart layout image words' victim page
  pub entries : (a v : ℕ) → IsEntry layout words a v → IsEntry layout words' a v
  pub entries_back : (a v : ℕ) → IsEntry layout words' a v → IsEntry layout words a v
  pub stubs : (s t : ℕ) → IsUnresolved layout image words s t → IsUnresolved layout image words' s t
  pub uses : (other : ℕ) → is_used words' other ≡ is_used words other

-- the page stays
pub page_left : (layout : Layout) (image words : List ℕ) (victim page : ℕ) → IsFaithful layout image words → (page ≢ victim → IsFree words page ⊎ IsApart layout image words victim page)
    → PageDone layout image words words victim page
page_left layout image words victim page code apart = record {
  code = code;
  same_image = refl;
  others = λ other away. record { word = λ k below. refl };
  apart = apart;
  entries = λ a v entry. entry;
  entries_back = λ a v entry. entry;
  stubs = λ s t stub. stub;
  uses = λ other. refl;
}

-- a word that is no jump is none with calls among the words
one_call : (words : List ℕ) (s x : ℕ) → s + 1 < length words → word_at words x ≢ jump_word → word_at (with_two_words words s call_word bridge_entry) x ≢ jump_word
one_call words s x inside none = elim (cases_eq x s) [
  | inl is ↦ λ jump. (let here : jump_word ≡ call_word = sym jump ∙ ap (word_at (with_two_words words s call_word bridge_entry)) is ∙ first_of_two _ _ _ _ inside in omega (arith, here))
  | inr apart ↦ elim (cases_eq x (s + 1)) [
    | inl is ↦ λ jump. (let here : jump_word ≡ bridge_entry = sym jump ∙ ap (word_at (with_two_words words s call_word bridge_entry)) is ∙ second_of_two _ _ _ _ inside in omega (arith, here))
    | inr apart' ↦ λ jump. none (sym (word_beside_two words s x call_word bridge_entry apart apart') ∙ jump)
  ]
]

pub no_jump : (words stubs : List ℕ) (x : ℕ) → Each (λ s. s + 1 < length words) stubs → word_at words x ≢ jump_word → word_at (with_calls words stubs) x ≢ jump_word
no_jump words [] x inside none = none
no_jump words (s ∷ stubs) x inside none =
    no_jump (with_two_words words s call_word bridge_entry) stubs x (rw (length-with_two_words words s call_word bridge_entry) inside.1) (one_call words s x inside.0 none)

-- of a link in a page that holds its run, the first two words
link_words : (leads : ℕ → ℕ → Type 0) (words : List ℕ) (pieces before behind : List Piece) (base s t : ℕ) → pieces ≡ before ++ Link t ∷ behind → s ≡ base + size before
    → Stands leads words base pieces → IsLink leads (word_at words s) (word_at words (s + 1)) t
link_words leads words pieces before behind base s t split at stands =
    rw at (stands_split leads words base before (Link t ∷ behind) (rw split at stands)).1.0.0

module _ (layout : Layout) (image words : List ℕ) (victim page : ℕ) (right : IsRight layout) (code : IsFaithful layout image words) (pool : IsPool layout page)
    (run : IsRewritten layout image words page) where
  -- the page loses them
  pub page_unlinked : PageDone layout image words (with_calls words (stubs_into image words victim page)) victim page
  page_unlinked =
      let leads : ℕ → ℕ → Type 0 = λ a v. IsEntry layout words a v in
      let own = own_run (IsEntry layout words) image words page run.first run.last run.holds in
      let first = address_of words page 0 in
      let last = entry_count words page - 1 in
      let stubs = stubs_into image words victim page in
      let words' = with_calls words stubs in
      let leads' : ℕ → ℕ → Type 0 = λ a v. IsEntry layout words' a v in
      let short : length image ≤ most_image_words = omega (arith, code.image_length, right.image_fits) in
      let keeps = unlinks layout image words (leads_into victim) page first last short code.whole (omega (arith, pool.to, right.pool_below_kernel)) own.holds in
      let on : (a v : ℕ) → IsEntry layout words a v → IsEntry layout words' a v = λ a v entry. kept_entries layout image words words' page first last a v keeps entry in
      let among = among_inside _ _ (length words) stubs (omega arith) (links_among words (leads_into victim) (page_words * page) (page_pieces image first last)) in
      let kept : (other b n : ℕ) → HoldsRun leads image words other b n → HoldsRun leads' image words' other b n =
      λ other b n holds. kept_holds layout image words words' page first last other b n keeps holds in
      record {
        code = kept_faithful layout image words words' page first last right code pool keeps;
        same_image = kept_image layout image words words' page first last right pool keeps;
        others = keeps.others;
        apart = λ away. inr (record {
          first = first;
          last = last;
          holds = holds_unlinked leads (Outside leads' victim) image words (leads_into victim) page first last (λ b v entry other. (on b v entry, elsewhere victim b v other)) (omega arith) own.holds;
        });
        entries = on;
        uses = λ other. elim (cases_eq other page) [
          | inl is ↦ rw is (holds_run_used leads image words' page first last short keeps.new ∙ sym (holds_run_used leads image words page first last short own.holds))
          | inr away ↦ same_used words words' other (keeps.others other away)
        ];
        entries_back = λ a v entry. kept_entries_back layout image words words' page first last a v keeps entry;
        stubs = λ s t stub.
            let link = stub.link in
            let held = kept link.page link.first link.last link.holds in
            let words_are = link_words leads' words' (page_pieces image link.first link.last) link.link.before link.link.behind (page_words * link.page) s t link.link.split link.link.at held.stands in
            let none : word_at words' s ≢ jump_word = no_jump words stubs s among (λ jump. omega (arith, sym stub.call ∙ jump)) in
            let two : (word_at words' s ≡ call_word) × (word_at words' (s + 1) ≡ bridge_entry) = ⊎_elim (λ bridge. bridge) (λ jump. absurd (none jump.0)) words_are in
            record { link = record { page = link.page; pool = link.pool; first = link.first; last = link.last; holds = held; link = link.link }; call = two.0; bridge = two.1 };
      }

  -- a page without stubs into the victim is apart from it
  pub page_without : are_some (stubs_into image words victim page) ≡ false → PageDone layout image words words victim page
  page_without none = rw (no_stubs words (stubs_into image words victim page) none) at (page_unlinked)

-- where the pool is used its page holds a run
pub used_rewritten : (layout : Layout) (image words : List ℕ) (page : ℕ) → IsFaithful layout image words → IsPool layout page → is_used words page ≡ true → IsRewritten layout image words page
used_rewritten layout image words page code pool used = ⊎_elim (λ free. absurd (let unused = free_unused words page free in cc)) (λ run. run) (code.pages page pool)

pub unused_free : (layout : Layout) (image words : List ℕ) (page : ℕ) → IsRight layout → IsFaithful layout image words → IsPool layout page → is_used words page ≡ false → IsFree words page
unused_free layout image words page right code pool unused = elim (code.pages page pool) [
  | inl free ↦ free
  | inr run ↦ absurd (let used = holds_run_used (IsEntry layout words) image words page run.first run.last (omega (arith, code.image_length, right.image_fits)) run.holds in cc)
]

-- what one page leaves, and what is true of the words with a torn page put in
pub record OneTold (layout : Layout) (image : List ℕ) (now : Memory) (victim page : ℕ) (told : Performed) : Type 0 where
  pub done : told.stop ≡ None → PageDone layout image now.words told.memory.words victim page
  pub code : IsFaithful layout image (mended told.memory.words told.stop)
  pub same_image : image_of layout (mended told.memory.words told.stop) ≡ image_of layout now.words
  pub entries : (a v : ℕ) → IsEntry layout now.words a v → IsEntry layout (mended told.memory.words told.stop) a v
  pub ops : told.memory.ops ≤ now.ops + 2
  pub uses : (other : ℕ) → is_used (mended told.memory.words told.stop) other ≡ is_used now.words other

told_nothing : (layout : Layout) (image : List ℕ) (now : Memory) (victim page : ℕ) → IsFaithful layout image now.words
    → (page ≢ victim → IsFree now.words page ⊎ IsApart layout image now.words victim page) → OneTold layout image now victim page (record { memory = now; stop = None })
told_nothing layout image now victim page code apart = record {
  done = λ none. page_left layout image now.words victim page code apart;
  code = code;
  same_image = refl;
  entries = λ a v entry. entry;
  ops = omega arith;
  uses = λ other. refl;
}

module _ (layout : Layout) (image : List ℕ) (now : Memory) (victim page : ℕ) (right : IsRight layout) (code : IsFaithful layout image now.words) (pool : IsPool layout page) where
  told_rewriting : IsRewritten layout image now.words page
      → OneTold layout image now victim page (perform now (rewriting page (page_of (with_calls now.words (stubs_into image now.words victim page)) page)))
  told_rewriting run =
      let words = now.words in
      let own = own_run (IsEntry layout words) image words page run.first run.last run.holds in
      let words' = with_calls words (stubs_into image words victim page) in
      let new = page_of words' page in
      let inside : page_words * page + page_words ≤ length words = omega (arith, code.whole, pool.to, right.pool_below_kernel) in
      let is : set_page words page new ≡ words' = unlinked_page (IsEntry layout words) image words (leads_into victim) page (address_of words page 0) (entry_count words page - 1) inside own.holds in
      let done = page_unlinked layout image words victim page right code pool run in
      let told = perform now (rewriting page new) in
      record {
        done = λ none.
            let same : told ≡ record { memory = told.memory; stop = None } = ap (λ stop. record { memory = told.memory; stop = stop }) none in
            rw (rewriting_done now told.memory page new inside same ∙ is) done;
        code = mended_by (IsFaithful layout image) now page new inside code (subst (IsFaithful layout image) (sym is) done.code);
        same_image = mended_by (λ w. image_of layout w ≡ image_of layout words) now page new inside refl (ap (image_of layout) is ∙ done.same_image);
        entries = mended_by (λ w. (a v : ℕ) → IsEntry layout words a v → IsEntry layout w a v) now page new inside (λ a v entry. entry) (λ a v entry. rw is (done.entries a v entry));
        ops = rewriting_ops now page new;
        uses = mended_by (λ w. (other : ℕ) → is_used w other ≡ is_used words other) now page new inside (λ other. refl) (λ other. ap (λ w. is_used w other) is ∙ done.uses other);
      }

  -- whichever it is
  pub one_told : OneTold layout image now victim page (perform now (unlinking image now.words victim page))
  one_told =
      let words = now.words in
      let stubs = stubs_into image words victim page in
      let Told : Bool → Type 0 = λ b. OneTold layout image now victim page (perform now (if b then (rewriting page (page_of (with_calls words stubs) page)) else [])) in
      let Some_ : Bool → Type 0 = λ b. are_some stubs ≡ b → IsRewritten layout image words page → Told b in
      let nothing : (page ≢ victim → IsFree words page ⊎ IsApart layout image words victim page) → Told false = λ apart. told_nothing layout image now victim page code apart in
      let Used : Bool → Type 0 = λ b. is_used words page ≡ b → (page == victim) ≡ false → Told (if false || not b then false else are_some stubs) in
      let by_used : Used (is_used words page) = elim (is_used words page) as Used [
        | true ↦ λ used away. (elim (are_some stubs) as Some_ [
          | true ↦ λ some run. told_rewriting run
          | false ↦ λ none run. nothing (page_without layout image words victim page right code pool run none).apart
        ]) refl (used_rewritten layout image words page code pool used)
        | false ↦ λ unused away. nothing (λ other. inl (unused_free layout image words page right code pool unused))
      ] in
      let Is : Bool → Type 0 = λ b. (page == victim) ≡ b → Told (if b || not (is_used words page) then false else are_some stubs) in
      (elim (page == victim) as Is [
        | true ↦ λ is. nothing (λ other. absurd (other (same_number page victim is)))
        | false ↦ λ away. by_used refl away
      ]) refl

or_false : (other used : Bool) → (other || not used) ≡ false → used ≡ true
or_false true used is = absurd (let never : true ≡ false = is in cc)
or_false false true is = refl
or_false false false is = absurd (let never : true ≡ false = is in cc)

none_by : (away some : Bool) (operations : List Operation) → (away ≡ false → some ≡ false) → (if (if away then false else some) then operations else []) ≡ []
none_by true some operations none = refl
none_by false some operations none = ap (λ b. if b then operations else []) (none refl)

-- nothing is done to a page that has no stub into the victim if it is used
pub nothing_to_unlink : (layout : Layout) (image words : List ℕ) (victim page : ℕ) → IsFaithful layout image words → IsPool layout page
    → (IsCodePage image words page → are_some (stubs_into image words victim page) ≡ false) → unlinking image words victim page ≡ []
nothing_to_unlink layout image words victim page code pool none =
    none_by (page == victim || not (is_used words page)) (are_some (stubs_into image words victim page)) (rewriting page (page_of (with_calls words (stubs_into image words victim page)) page))
    (λ stays.
    none (code_page layout image words page (used_rewritten layout image words page code pool (or_false (page == victim) (is_used words page) stays))))
