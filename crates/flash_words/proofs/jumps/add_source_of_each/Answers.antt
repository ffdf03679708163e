use Rattle.std.proofs.Common.{ℕ, arith, subst, inl, inr}
use Rattle.std.proofs.lemmas.Bool.{both_ways, cases_lt}
use Rattle.flash_words.specs.JumpSets.{IsSource}
use Rattle.flash_words.proofs.jumps.add_source_of_each.Goals as goal

pub targets-init : goal.targets-init
targets-init c = record { size = c.requires.sized; here = λ target below. absurd (omega arith); others = λ target other has. has }

pub targets-preserved : goal.targets-preserved
targets-preserved c = record {
  size = c.add_source.ensures.size;
  here = λ target below has. elim (cases_lt target c.targets.from) [
    | inl earlier ↦ c.add_source.ensures.others target c.args.page (c.targets.invariant.here target earlier has)
    | inr later ↦ elim (cases_lt target c.in-Some.target) [
      | inl between ↦ absurd (both_ways _ (c.in-Some.ensures.lowest target later between) has)
      | inr same ↦ subst (λ (t : ℕ). IsSource c.add_source.new.sources.items t c.args.page) (omega arith) c.add_source.ensures.here
    ]
  ];
  others = λ target other has. c.add_source.ensures.others target other (c.targets.invariant.others target other has);
}

pub returns-clause-here : goal.returns-clause-here
returns-clause-here c = λ target few has. elim (cases_lt target c.targets.from) [
  | inl earlier ↦ c.targets.invariant.here target earlier has
  | inr later ↦ absurd (both_ways _ (c.in_default.ensures.none target later few) has)
]
