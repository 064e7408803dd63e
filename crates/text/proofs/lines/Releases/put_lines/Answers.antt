use Prim.Native.Nat.{ℕ}
use native.Mathlib.Omega.{arith}
use mathlib.Core.Path.{ap}
use Rattle.std.proofs.lemmas.Iterator.{YieldsList-from_slice, YieldsList-from_zip}
use Rattle.std.proofs.lemmas.Iterator.Consumers.{YieldsList-from_enumerate, YieldsList-turn}
use Rattle.std.proofs.lemmas.List.{length_push}
use Rattle.frame.proofs.Rows.{most-is}
use Rattle.text.proofs.Releases.{wrote-no-lines, release-item, wrote-release}
use Rattle.text.proofs.lines.Releases.put_lines.Goals as goal

pub loop-k-init : goal.loop-k-init
loop-k-init c =
    let a = c.args in
    wrote-no-lines a.self.now.statuses.now a.self.now.places.now a.self.now.patterns.now a.start a.text.now (omega arith) (omega arith)

pub overflow_cast-k : goal.overflow_cast-k
overflow_cast-k c =
    let a = c.args in
    let lines = YieldsList-from_enumerate {s = c.into_iter-k-iterator.result} (YieldsList-from_zip (YieldsList-from_zip (YieldsList-from_slice a.self.now.statuses.now cc) (YieldsList-from_slice a.self.now.places.now cc)) (YieldsList-from_slice a.self.now.patterns.now cc)) cc in
    let t = YieldsList-turn lines c.loop-k.yielded _ c.loop-k.yielded_by c.next.result c.next.new.self _ c.in-Some.is c.next.ensures.steps in
    let item = release-item a.self.now.statuses.now a.self.now.places.now a.self.now.patterns.now _ _ t in
    omega (arith, item.0, ap (λ (x : ℕ × ((ℕ × ℕ) × ℕ)). x.0) item.1, most-is)

pub loop-k-preserved : goal.loop-k-preserved
loop-k-preserved c =
    let a = c.args in
    let lines = YieldsList-from_enumerate {s = c.into_iter-k-iterator.result} (YieldsList-from_zip (YieldsList-from_zip (YieldsList-from_slice a.self.now.statuses.now cc) (YieldsList-from_slice a.self.now.places.now cc)) (YieldsList-from_slice a.self.now.patterns.now cc)) cc in
    let t = YieldsList-turn lines c.loop-k.yielded _ c.loop-k.yielded_by c.next.result c.next.new.self _ c.in-Some.is c.next.ensures.steps in
    let item = release-item a.self.now.statuses.now a.self.now.places.now a.self.now.patterns.now _ _ t in
    wrote-release _ a.self.now.statuses.now a.self.now.places.now a.self.now.patterns.now _ (length_push c.loop-k.yielded _) item.1 c.loop-k.invariant c.put_line-at.ensures
