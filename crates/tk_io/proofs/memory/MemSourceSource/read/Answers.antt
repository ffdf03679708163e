use Rattle.std.proofs.Common.{◌≡◌, take, ap, ◌∙◌}
use Rattle.std.proofs.lemmas.Grind.{common_steps}
use Rattle.std.proofs.Common.{arith, length, min}
use Rattle.byte_streams.proofs.KnownBytes.{read_goes_on, read_at_end}
use Rattle.tk_io.proofs.memory.MemSourceSource.read.Goals as goal

pub returns-clause-bytes : goal.returns-clause-bytes
returns-clause-bytes c =
    let count = c.copy_front-count.result in
    let got : take count c.copy_front-count.new.into ≡ take count c.args.self.now = c.copy_front-count.ensures.copied ∙ ap (λ z. take count z) c.left.ensures.left in
    let counted : count ≡ min (length c.copy_front-count.new.into) (length c.args.self.now) = grind (arith, common_steps, c.copy_front-count.auto.into) in (
      read_goes_on _ _ _ _ _ c.self.view_is got,
      λ none some. read_at_end _ _ _ _ _ c.self.view_is counted none some,
    )
