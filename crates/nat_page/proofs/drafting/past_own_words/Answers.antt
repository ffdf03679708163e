use Rattle.std.proofs.Common.{refl}
use Rattle.nat_page.proofs.OwnLaws.{own_read, drafting_again}
use Rattle.nat_page.proofs.drafting.past_own_words.Goals as goal

pub take_own_words-pc-requires-clause-drafting : goal.take_own_words-pc-requires-clause-drafting
take_own_words-pc-requires-clause-drafting c = drafting_again _ _ _ _ _ _ _ c.requires.drafting refl (own_read _ _ _ c.in-Some.ensures.own)
