use Rattle.capture.specs.Form.{mode_of}
use Rattle.capture.proofs.form.mode_of.Goals as goal

pub returns : goal.returns
unfolding mode_of
returns c = c.octet_at.ensures
