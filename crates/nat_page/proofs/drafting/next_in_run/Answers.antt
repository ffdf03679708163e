use Rattle.std.proofs.Common.{◌≡◌, ◌+◌, ◌*◌, ◌/◌, ◌%◌, ℕ, subst, sym, ap, arith, ◌∙◌}
use Rattle.page_index.specs.Entries.{IsEntry}
use Rattle.nat_page.specs.Making.{HasNoEntry}
use Rattle.nat_page.specs.Drafted.{StopsBehind}
use Rattle.nat_page.proofs.drafting.next_in_run.Goals as goal

-- the address behind has an entry
offset_back : (pc here : ℕ) → pc / 128 ≡ here / 128 → 128 * (here / 128) + pc % 128 ≡ pc
offset_back pc here same = omega arith

pub returns-then-known-here : goal.returns-then-known-here
returns-then-known-here c =
    let pc = c.args.here.now.next in
    let found = c.requires.known.found (pc % 128) (omega arith) (cc) in
    let P : ℕ → Type 0 = λ a. IsEntry c.args.layout.now c.args.flash.now.words a found.0 in
    record { next = StopsBehind.Known found.0 (subst P c.requires.read.next (subst P (offset_back pc c.args.here.now.pc (omega arith)) found.1)) }

-- nothing stops the run
pub returns : goal.returns
returns c =
    let words = c.args.flash.now.words in
    let layout = c.args.layout.now in
    let pc = c.args.here.now.next in
    let there : 128 * (c.args.here.now.pc / 128) + pc % 128 ≡ pc = offset_back pc c.args.here.now.pc (omega arith) in
    let unknown : HasNoEntry layout words pc = λ v entry. (let known = c.requires.known.only (pc % 128) v (omega arith) (rw there entry) in absurd (cc)) in
    let here : c.args.here.now.next ≡ c.read-next.result.pc = sym c.read-next.ensures.pc in
    record {
      next = record {
        read = c.read-next.ensures.read;
        follows = c.read-next.ensures.pc ∙ c.requires.read.next;
        returns = sym c.requires.read.ends ∙ c.if-here.false;
        paged = ap (λ pc. pc / 128) (sym here) ∙ c.if-here-2.false;
        inside = omega arith;
        unknown = rw here at unknown;
        fits = omega (arith, c.read-next.ensures.read.code_size, c.read-next.ensures.read.closing_size);
      };
    }
