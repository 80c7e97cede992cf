-- One law for each way out.
use Rattle.control.specs.Layout.{seen}
use Rattle.stepped.specs.Leaving.{begin_leave}
use Rattle.stepped.proofs.Doing.{does}
use Rattle.begins.proofs.Refusals.{goes, stops, refused-by}
use Rattle.begins.proofs.leave.begin.Goals as goal

pub returns-in_err-idle : goal.returns-in_err-idle
returns-in_err-idle c =
    refused-by _ (stops _ _ (c.idle.ensures (begin_leave (seen c.args.control.now) c.args.task)) c.in_err-idle.was)
    c.from_residual.ensures.1

pub returns : goal.returns
returns c =
    does (goes _ _ (c.idle.ensures (begin_leave (seen c.args.control.now) c.args.task)) c.in_ok-idle.was)
    c.begin.ensures
