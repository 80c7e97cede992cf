-- A count past n is refused; else the cache is walked.
use Rattle.std.proofs.lemmas.Result.{err_from_is_err_and}
use Rattle.report_caches.proofs.Walking.{cache-long, cache-walked}
use Rattle.report_caches.proofs.cache.Goals as goal

pub returns-in_err-in_range : goal.returns-in_err-in_range
returns-in_err-in_range c =
    let p = err_from_is_err_and c.from_residual.result c.from_residual.ensures.1 in
    rw p.1
    (cache-long _ _ _ _ c.args.class _ c.per_region.ensures c.get_of-count.ensures c.in_err-in_range.ensures.failed)

pub returns : goal.returns
returns c =
    cache-walked _ _ _ _ c.args.class c.args.from c.per_region.ensures c.get_of-count.ensures c.get_of-top.ensures
    c.in_ok-in_range.ensures.passed c.walk.ensures
