use native.Mathlib.Omega.{arith}
use Rattle.commands.proofs.Commands.{together-within}
use Rattle.commands.proofs.writing.Given.together.Goals as goal

pub overflow_mul-v : goal.overflow_mul-v
overflow_mul-v c =
    let m = c.args.self.now in
    omega (arith, together-within m.code m.payload.now m.small m.fits 2 c.args.at c.loop-j.j (omega arith))

pub overflow_add-v : goal.overflow_add-v
overflow_add-v c =
    let m = c.args.self.now in
    omega (arith, together-within m.code m.payload.now m.small m.fits 2 c.args.at c.loop-j.j (omega arith))

pub returns-clause-small : goal.returns-clause-small
returns-clause-small c =
    let m = c.args.self.now in
    omega (arith, together-within m.code m.payload.now m.small m.fits 3 c.args.at c.loop-j.j (omega arith))
