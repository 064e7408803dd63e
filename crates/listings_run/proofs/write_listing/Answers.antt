-- A listing is no longer than the text that it is in.
use Rattle.std.proofs.Common.{sym, length-take-le}
use Rattle.capture.proofs.Short.{count-within}
use Rattle.listings_run.proofs.write_listing.Goals as goal

pub slice_bounds-text-end : goal.slice_bounds-text-end
slice_bounds-text-end g c = count-within _ _ _ c.in-Ok.count c.in-Ok.ensures

pub slice_bounds-write_all-end : goal.slice_bounds-write_all-end
slice_bounds-write_all-end g c = sym (length-take-le _ _ (count-within _ _ _ c.in-Ok.count c.in-Ok.ensures))
