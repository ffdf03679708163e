use Rattle.std.proofs.Common.{length, ap, subst}
use Rattle.hex_image.specs.Image.{IsImage}
use Rattle.tk_watch.proofs.RunsShown.{request_shown}
use Rattle.tk_watch.proofs.top.show_run.Goals as goal

pub returns : goal.returns
returns g c =
    let request = c.args.request in
    let image : IsImage request.image = subst IsImage (c.image.view_is) c.image.invariant in
    record {
      shows = request_shown c.args.view.now request c.started-begun.result _ _ _ c.show.result image c.requires.options
          (ap length c.events.ensures.value) c.started-begun.ensures.booted c.started-begun.ensures.start c.show.ensures.shown;
    }
