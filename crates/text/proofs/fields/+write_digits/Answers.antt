use mathlib.Core.Path.{◌∙◌}
use Prim.Native.Nat.{◌+◌, ◌-◌, ◌%◌}
use native.Mathlib.Omega.{arith}
use Rattle.std.proofs.lemmas.List.{length-set}
use Rattle.text.proofs.Decimal.{some-digits, digit-more, laid-digit, laid-digits}
use Rattle.text.proofs.fields.+write_digits.Goals as goal

pub overflow_sub-last : goal.overflow_sub-last
overflow_sub-last t c = omega (arith, some-digits c.args.n, c.requires)

pub bounds-text-last : goal.bounds-text-last
bounds-text-last t c = omega (arith, some-digits c.args.n, c.requires)

pub returns-then-n-lt10 : goal.returns-then-n-lt10
returns-then-n-lt10 t c = laid-digit c.args.n c.args.end c.args.text.now c.if-n-lt10.true c.requires.0 c.requires.1

pub bounds-text-last-2 : goal.bounds-text-last-2
bounds-text-last-2 t c = omega (arith, some-digits c.args.n, c.requires)

pub write_digits-requires : goal.write_digits-requires
write_digits-requires t c =
    let more = digit-more c.args.n c.if-n-lt10.false (omega arith) in
    (omega arith, (omega (arith, c.requires), omega (arith, c.requires, length-set c.args.text.now (c.args.end - 1) (48 + c.args.n % 10))))

pub returns : goal.returns
returns t c = c.write_digits.ensures ∙ laid-digits c.args.n c.args.end c.args.text.now c.if-n-lt10.false (omega arith) c.requires.0 c.requires.1
