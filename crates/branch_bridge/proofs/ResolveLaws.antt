-- A stub that is resolved: what stays.
use Rattle.std.proofs.Common.{◌≡◌, ◌≢◌, ℕ, ◌+◌, ◌*◌, ◌/◌, ◌≤◌, List, length, arith, refl, sym, ap, ◌∙◌, inr, subst}
use Rattle.std.specs.Prelude.{◌↔◌}
use Rattle.flash_words.specs.Pages.{page_words, word_at, page_of, set_page}
use Rattle.flash_words.specs.Layouts.{IsRight, image_of}
use Rattle.flash_words.specs.declared.layout.Layout.{Layout}
use Rattle.nat_template.specs.Stubs.{call_word, bridge_entry}
use Rattle.page_index.specs.Entries.{IsEntry}
use Rattle.page_draft.specs.Standing.{IsLink, jump_word}
use Rattle.nat_page.specs.Links.{IsLinkIn, IsUnresolved, with_two_words}
use Rattle.nat_page.specs.Faithful.{IsFaithful}
use Rattle.nat_page.specs.Used.{used_pages}
use Rattle.flash_words.specs.Memory.{Memory}
use Rattle.nat_page.proofs.TwoWords.{word_beside_two}
use Rattle.nat_page.proofs.UnlinkLaws.{page_of_two}
use Rattle.branch_bridge.specs.Operating.{Performed, perform, mended}
use Rattle.branch_bridge.specs.Resolving.{resolving}
use Rattle.branch_bridge.proofs.PerformLaws.{mended_by, rewriting_ops}
use Rattle.nat_page.proofs.RelinkLaws.{link_placed, relinked_faithful, relinked_entries, relinked_entries_back, relinked_links, relinked_image}
use Rattle.nat_page.proofs.UsedLaws.{used_relinked}

-- the jump is one that a stub to t may have
pub jump_links : (layout : Layout) (words : List ℕ) (t place : ℕ) → IsEntry layout words t place → IsLink (IsEntry layout words) jump_word place t
jump_links layout words t place entry = inr (refl, entry)

-- two stubs that aren't resolved don't overlap: neither begins at the other's second word
pub stubs_apart : (words : List ℕ) (s b : ℕ) → word_at words (s + 1) ≡ bridge_entry → word_at words b ≡ call_word → b ≢ s + 1
stubs_apart words s b bridge call is = omega (arith, sym call ∙ ap (word_at words) is ∙ bridge)

-- each other stub stays as it is
pub unresolved_beside : (layout : Layout) (image words : List ℕ) (s t place b to : ℕ) → IsRight layout → IsFaithful layout image words
    → IsUnresolved layout image words s t → IsEntry layout words t place → b ≢ s → IsUnresolved layout image words b to
    → IsUnresolved layout image (with_two_words words s jump_word place) b to
unresolved_beside layout image words s t place b to right code stub entry apart other =
    record {
      link = relinked_links layout image words s t jump_word place b to right code stub.link (jump_links layout words t place entry) other.link;
      call = word_beside_two words s b jump_word place apart (stubs_apart words s b stub.bridge other.call) ∙ other.call;
      bridge = word_beside_two words s (b + 1) jump_word place (λ is. (stubs_apart words b s other.bridge stub.call) (sym is)) (λ is. apart (omega arith)) ∙ other.bridge;
    }

-- what stays where the stub at s is resolved
pub record Relinked (layout : Layout) (image words words' : List ℕ) (s : ℕ) : Type 0 where
  pub code : IsFaithful layout image words'
  pub same_image : image_of layout words' ≡ image_of layout words
  pub entries : (a v : ℕ) → IsEntry layout words a v ↔ IsEntry layout words' a v
  pub links : (b to : ℕ) → IsLinkIn layout image words b to → IsLinkIn layout image words' b to
  pub stubs : (b to : ℕ) → b ≢ s → IsUnresolved layout image words b to → IsUnresolved layout image words' b to
  pub used : used_pages layout words' ≡ used_pages layout words

pub relinked : (layout : Layout) (image words : List ℕ) (s t place : ℕ) → IsRight layout → IsFaithful layout image words → IsUnresolved layout image words s t → IsEntry layout words t place
    → Relinked layout image words (with_two_words words s jump_word place) s
relinked layout image words s t place right code stub entry =
    let jump = jump_links layout words t place entry in
    record {
      code = relinked_faithful layout image words s t jump_word place right code stub.link jump;
      same_image = relinked_image layout image words s t jump_word place right code stub.link jump;
      entries = λ a v. (relinked_entries _ _ _ _ _ _ _ _ _ right code stub.link jump, relinked_entries_back _ _ _ _ _ _ _ _ _ right code stub.link jump);
      links = λ b to. relinked_links layout image words s t jump_word place b to right code stub.link jump;
      stubs = λ b to. unresolved_beside layout image words s t place b to right code stub entry;
      used = used_relinked layout image words s t jump_word place right code stub.link jump;
    }

-- .. of flash's page that gets the words with the jump, whether or not all is done
pub record ResolveTold (layout : Layout) (image : List ℕ) (old : Memory) (told : Performed) : Type 0 where
  pub code : IsFaithful layout image (mended told.memory.words told.stop)
  pub same_image : image_of layout (mended told.memory.words told.stop) ≡ image_of layout old.words
  pub entries : (a v : ℕ) → IsEntry layout old.words a v → IsEntry layout (mended told.memory.words told.stop) a v
  pub entries_back : (a v : ℕ) → IsEntry layout (mended told.memory.words told.stop) a v → IsEntry layout old.words a v
  pub used : used_pages layout (mended told.memory.words told.stop) ≡ used_pages layout old.words
  pub ops : told.memory.ops ≤ old.ops + 2

-- the page with the jump in it
pub is_resolved : (layout : Layout) (image words : List ℕ) (s t place : ℕ) → IsRight layout → IsFaithful layout image words → IsUnresolved layout image words s t
    → set_page words (s / page_words) (page_of (with_two_words words s jump_word place) (s / page_words)) ≡ with_two_words words s jump_word place
is_resolved layout image words s t place right code stub =
    let placed = link_placed layout image words s t jump_word place right code.whole stub.link in
    ap (set_page words (s / page_words)) (page_of_two words (s / page_words) s jump_word place (omega (arith, code.whole, placed.low)) refl placed.room) ∙ placed.is

pub told_resolving : (layout : Layout) (image : List ℕ) (old : Memory) (s t place : ℕ) → IsRight layout → IsFaithful layout image old.words → IsUnresolved layout image old.words s t
    → IsEntry layout old.words t place
    → ResolveTold layout image old (perform old (resolving old.words s place))
told_resolving layout image old s t place right code stub entry =
    let words = old.words in
    let page = s / page_words in
    let new = page_of (with_two_words words s jump_word place) page in
    let inside : page_words * page + page_words ≤ length words = omega (arith, code.whole, (link_placed layout image words s t jump_word place right code.whole stub.link).low) in
    let is = is_resolved layout image words s t place right code stub in
    let stays = relinked layout image words s t place right code stub entry in
    record {
      code = mended_by (IsFaithful layout image) old page new inside code (subst (IsFaithful layout image) (sym is) stays.code);
      same_image = mended_by (λ w. image_of layout w ≡ image_of layout words) old page new inside refl (ap (image_of layout) is ∙ stays.same_image);
      entries = mended_by (λ w. (a v : ℕ) → IsEntry layout words a v → IsEntry layout w a v) old page new inside (λ a v e. e) (λ a v e. rw is ((stays.entries a v).0 e));
      entries_back = mended_by (λ w. (a v : ℕ) → IsEntry layout w a v → IsEntry layout words a v) old page new inside (λ a v e. e) (λ a v e. (stays.entries a v).1 (rw is at e));
      used = mended_by (λ w. used_pages layout w ≡ used_pages layout words) old page new inside refl (ap (used_pages layout) is ∙ stays.used);
      ops = rewriting_ops old page new;
    }
