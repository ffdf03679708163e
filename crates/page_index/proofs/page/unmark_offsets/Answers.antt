use Rattle.std.proofs.Common.{◌≡◌, ◌+◌, ◌/◌, ◌<◌, false, length, arith, sym, ◌∙◌, inl, inr, below_more}
use Rattle.std.proofs.lemmas.List.{length-set, get_or-set_same}
use Rattle.page_index.specs.Maps.{page_word}
use Rattle.page_index.proofs.KnownLaws.{unset_only, unset_kept, unset_stays, lists_offset, own_map, offset_listed}
use Rattle.page_index.proofs.page.unmark_offsets.Goals as goal

-- a page of another original page has no entry of these addresses
pub returns-then-word-original-clause-unmarked : goal.returns-then-word-original-clause-unmarked
returns-then-word-original-clause-unmarked c = λ k i v below lists.
    absurd (c.if-word-original.true (c.word.ensures.value ∙ (lists_offset _ _ c.args.original c.requires.mapped k i v below lists).0))

pub entries-i-end-requires-clause-map : goal.entries-i-end-requires-clause-map
entries-i-end-requires-clause-map c = own_map _ _ _ c.requires.mapped (sym c.word.ensures.value ∙ c.if-word-original.false) c.requires.original

pub bounds-known-map_entry : goal.bounds-known-map_entry
bounds-known-map_entry c =
    let map = own_map _ _ _ c.requires.mapped (sym c.word.ensures.value ∙ c.if-word-original.false) c.requires.original in
    omega (arith, c.map_entry.ensures.offset, map.offset c.entries.i (omega (arith, c.entries-test.true, c.entries-i-end.ensures.value)))

pub entries-preserved : goal.entries-preserved
entries-preserved c =
    let before = c.entries.invariant in
    let known = c.entries.known in
    let n = c.map_entry.result.offset in
    let inside : n < length known = omega (arith, bounds-known-map_entry c, before.size, c.told-known) in
    let here : page_word c.args.flash.now.words c.args.page (2 + c.entries.i) / 256 ≡ n = sym c.map_entry.ensures.offset in
    record {
      size = length-set known n false ∙ before.size;
      only = λ k is. before.only k (unset_only known n k inside is);
      unmarked = below_more _ _ (λ j earlier. unset_stays known n _ inside (before.unmarked j earlier)) (rw here (get_or-set_same known n false false inside));
      kept = λ k is. elim (before.kept k is) [
        | inl still ↦ elim (unset_kept known n k still) [
          | inl kept ↦ inl kept
          | inr same ↦ inr (c.entries.i, omega arith, here ∙ sym same)
        ]
        | inr found ↦ inr (found.0, omega (arith, found.1), found.2)
      ];
    }

pub returns-clause-unmarked : goal.returns-clause-unmarked
returns-clause-unmarked c = λ k i v below lists.
    rw (← (lists_offset _ _ c.args.original c.requires.mapped k i v below lists).1)
    (c.entries.invariant.unmarked i (omega (arith, lists.listed, c.entries-test.false, c.entries-i-end.ensures.value)))

pub returns-clause-kept : goal.returns-clause-kept
returns-clause-kept c = λ k below is. elim (c.entries.invariant.kept k is) [
  | inl own ↦ inl own
  | inr found ↦ inr (offset_listed _ _ c.args.original c.requires.mapped k found.0 (sym c.word.ensures.value ∙ c.if-word-original.false) c.requires.original
      (omega (arith, found.1, c.entries.auto.i-end, c.entries-i-end.ensures.value)) found.2)
]
