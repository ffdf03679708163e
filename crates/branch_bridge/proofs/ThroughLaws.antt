-- The stub that is resolved behind an arrival.
use Rattle.std.proofs.Common.{arith, ◌≡◌, ℕ, ◌/◌, Bool, true, false, List, Option, Some, None, refl, sym, ap, ◌∙◌}
use Rattle.std.specs.Prelude.{◌≢◌, ◌==◌, if◌then◌else◌}
use Rattle.std.proofs.lemmas.Bool.Decides.{nat_tests}
use Rattle.flash_words.specs.Pages.{page_words}
use Rattle.std.specs.Option.{option_map}
use Rattle.branch_bridge.specs.declared.rewriting.ResolveStop.{ResolveStop}
use Rattle.branch_bridge.specs.Operating.{with_torn, mended}
use Rattle.branch_bridge.specs.Arrivals.{to_resolve, torn_by, refused_by}

-- it is the one through which control came, and its page wasn't recycled
pub record IsToResolve (recycled stub : Option ℕ) (s : ℕ) : Type 0 where
  pub same : stub ≡ Some s
  pub apart : recycled ≢ Some (s / page_words)

unequal : (a b : ℕ) → (a == b) ≡ false → a ≢ b
unequal a b test same = grind (arith, nat_tests)

by_page : (page b s : ℕ) (test : Bool) → (page == b / page_words) ≡ test → (if test then None else Some b) ≡ Some s → IsToResolve (Some page) (Some b) s
by_page page b s true test is = absurd (let never : None ≡ Some s = is in cc)
by_page page b s false test is =
    let same : b ≡ s = cc in
    record { same = is; apart = λ own. (let here : page ≡ s / page_words = cc in unequal page (b / page_words) test (here ∙ ap (λ x. x / page_words) (sym same))) }

pub is_to_resolve : (recycled stub : Option ℕ) (s : ℕ) → to_resolve recycled stub ≡ Some s → IsToResolve recycled stub s
is_to_resolve recycled None s is = absurd (cc)
is_to_resolve None (Some b) s is = record { same = is; apart = λ own. absurd (cc) }
is_to_resolve (Some page) (Some b) s is = by_page page b s (page == b / page_words) refl is

-- a refusal to resolve tells the torn page
pub mended_is : (words : List ℕ) (stop : Option ResolveStop) → with_torn words (torn_by (option_map refused_by stop)) ≡ mended words stop
mended_is words None = refl
mended_is words (Some stop) = refl
