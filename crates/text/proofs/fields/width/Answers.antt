use native.Mathlib.Omega.{arith}
use Rattle.text.proofs.Decimal.{count-one, count}
use Rattle.text.proofs.fields.width.Goals as goal

pub returns-then-n-lt10 : goal.returns-then-n-lt10
returns-then-n-lt10 c = (count-one c.args.n c.if-n-lt10.true, omega arith)

pub returns-then-n-lt100 : goal.returns-then-n-lt100
returns-then-n-lt100 c = (count 1 c.args.n (omega arith) c.if-n-lt100.true (omega arith), omega arith)

pub returns-then-n-lt1000 : goal.returns-then-n-lt1000
returns-then-n-lt1000 c = (count 2 c.args.n (omega arith) c.if-n-lt1000.true (omega arith), omega arith)

pub returns-then-n-lt10000 : goal.returns-then-n-lt10000
returns-then-n-lt10000 c = (count 3 c.args.n (omega arith) c.if-n-lt10000.true (omega arith), omega arith)

pub returns-then-n-lt100000 : goal.returns-then-n-lt100000
returns-then-n-lt100000 c = (count 4 c.args.n (omega arith) c.if-n-lt100000.true (omega arith), omega arith)

pub returns-then-n-lt1000000 : goal.returns-then-n-lt1000000
returns-then-n-lt1000000 c = (count 5 c.args.n (omega arith) c.if-n-lt1000000.true (omega arith), omega arith)

pub returns-then-n-lt10000000 : goal.returns-then-n-lt10000000
returns-then-n-lt10000000 c = (count 6 c.args.n (omega arith) c.if-n-lt10000000.true (omega arith), omega arith)

pub returns-then-n-lt100000000 : goal.returns-then-n-lt100000000
returns-then-n-lt100000000 c = (count 7 c.args.n (omega arith) c.if-n-lt100000000.true (omega arith), omega arith)

pub returns-then-n-lt1000000000 : goal.returns-then-n-lt1000000000
returns-then-n-lt1000000000 c = (count 8 c.args.n (omega arith) c.if-n-lt1000000000.true (omega arith), omega arith)

pub returns : goal.returns
returns c = (count 9 c.args.n (omega arith) (omega arith) (omega arith), omega arith)
