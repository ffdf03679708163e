use Rattle.std.proofs.Common.{subst, sym, ◌∙◌, ap, ◌++◌, ◌∷◌, []}
use Rattle.avr_asm.specs.Passes.{IsAddedInstruction}
use Rattle.avr_asm.proofs.WordLaws.{on_ok, one_added, two_added}
use Rattle.avr_asm.proofs.second_pass.add_instruction.Goals as goal

pub returns-in-Some : goal.returns-in-Some
returns-in-Some c =
    let code = c.encode-code.result in
    let form = c.args.instr.now in
    let old = c.args.words.now.items in
    record {
      added = on_ok c.add_word-in-Some.result
          (λ joined. subst (IsAddedInstruction form old)
          (sym (joined ∙ ap (λ words. words ++ c.in-Some.second ∷ []) c.in_ok-add_word.ensures.added))
          (two_added form code c.in-Some.second old c.encode-code.ensures.second c.encode-code.ensures.decodes c.in-Some.is))
          c.add_word-in-Some.ensures.added;
      memory = c.add_word-in-Some.ensures.memory;
    }

pub returns-in-None : goal.returns-in-None
returns-in-None c =
    let code = c.encode-code.result in
    let form = c.args.instr.now in
    let old = c.args.words.now.items in
    record {
      added = subst (IsAddedInstruction form old) (sym c.in_ok-add_word.ensures.added)
          (one_added form code old c.encode-code.ensures.second c.encode-code.ensures.decodes c.in-None.is);
      memory = tt;
    }
