use Rattle.frame.specs.Headers.{header_in}
use Rattle.frame.proofs.Reading.{among-ones}
use Rattle.frame.proofs.headers.Headers.invalid_count.Goals as goal

pub returns : goal.returns
returns c = among-ones c.invalid.result (header_in c.args.self.first c.args.self.second) c.invalid.ensures
