use Rattle.std.proofs.Common.{refl, sym, subst}
use Rattle.flash_words.specs.JumpSets.{HasJumps}
use Rattle.flash_words.proofs.JumpLaws.{jumps_renewed}
use Rattle.flash_words.proofs.jumps.Jumps.renew.Goals as goal

pub returns : goal.returns
returns c = record {
  jumps = λ all beside same.
      let set = c.jumps_of-set.result in
      jumps_renewed all c.args.self.now _ c.args.page set c.requires.page refl
      (subst (λ page. HasJumps page set) (sym same) c.jumps_of-set.ensures.jumps) c.add_source_of_each.ensures.size c.add_source_of_each.ensures.here
      (λ target other apart has. c.add_source_of_each.ensures.others target other (c.remove_source_of_each.ensures.others target other apart has)) beside;
}
