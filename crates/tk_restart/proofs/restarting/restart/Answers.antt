use Rattle.std.proofs.Common.{◌≤◌, length, arith, ap, ◌∙◌}
use Rattle.tk_restart.specs.Restarting.{Restarts}
use Rattle.tk_restart.proofs.KeepingLaws.{kept_faithful, one_answer}
use Rattle.tk_restart.proofs.RestartLaws.{mid_image, restarted, swept_codes, used_after}
use Rattle.tk_restart.proofs.restarting.restart.Goals as goal
use Rattle.flash_words.specs.Layouts.{most_image_words}

pub unlink-requires-clause-image : goal.unlink-requires-clause-image
unlink-requires-clause-image c =
    let mid = mid_image _ _ _ _ _ c.requires.right c.sweep-told.ensures.whole c.requires.length c.requires.around c.sweep-told.ensures.sweeps in
    ap length mid ∙ c.requires.length

pub unlink-requires-clause-codes : goal.unlink-requires-clause-codes
unlink-requires-clause-codes c =
    let mid = mid_image _ _ _ _ _ c.requires.right c.sweep-told.ensures.whole c.requires.length c.requires.around c.sweep-told.ensures.sweeps in
    rw mid (swept_codes c.args.layout.now c.args.image.now c.args.flash.now c.sweep-told.new.flash c.sweep-told.result c.sweep-told.ensures.sweeps)

pub returns : goal.returns
returns c =
    let layout = c.args.layout.now in
    let image = c.args.image.now in
    let old = c.args.flash.now in
    let between = c.sweep-told.new.flash in
    let new = c.unlink.new.flash in
    let told = c.sweep-told.result in
    let whole = c.sweep-told.ensures.whole in
    let short : length image ≤ most_image_words = omega (arith, c.requires.length, c.requires.right.image_fits) in
    let mid = mid_image layout image old between told c.requires.right whole c.requires.length c.requires.around c.sweep-told.ensures.sweeps in
    let is : Restarts layout image old new told = restarted layout image old between new told c.requires.right whole short c.sweep-told.ensures.sweeps (rw mid at c.unlink.ensures.unlinks) in
    record {
      restarts = is;
      only = λ other told' restarts. one_answer layout image old new other told told' is restarts;
      faithful = kept_faithful layout image old.words new.words is.kept is.stray c.requires.right whole c.requires.length c.requires.around is.keeps;
      used = used_after layout image old new told c.requires.right whole short is;
      sound = is.failing ∙ c.requires.sound;
    }
