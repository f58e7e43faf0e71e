use Prim.Native.Nat.{◌+◌}
use mathlib.Core.Path.{refl}
use native.Mathlib.Omega.{arith}
use borrow.Author.Rules.{rules}
use Rattle.std.proofs.lemmas.Result.{err_from_is_err_and}
use Rattle.fewest_search.proofs.SearchLaws.{sizes_start, sizes_more, sizes_whole, sizes_fail}
use Rattle.fewest_search.proofs.search.search_sizes.Goals as goal

pub judge_next-requires : goal.judge_next-requires
judge_next-requires c = c.requires

pub returns-in_err-best : goal.returns-in_err-best
returns-in_err-best c =
    let v = c.args in
    let e = err_from_is_err_and c.from_residual.result c.from_residual.ensures.1 in
    rw (e.1, e.2) (sizes_fail v.question.now v.pairs.now v.flags v.capacity v.work.now _ _ c.in_err-best.ensures 0 _ _ (omega arith)
    (sizes_start v.question.now v.pairs.now v.flags v.capacity v.work.now _ _ c.in_err-best.ensures))

pub loop-size-init : goal.loop-size-init
loop-size-init c =
    let v = c.args in (
      refl,
      sizes_start v.question.now v.pairs.now v.flags v.capacity v.work.now _ _ c.in_ok-best.ensures,
    )

pub search-requires : goal.search-requires
search-requires c = (
  c.requires.0,
  record {
    some = c.requires.1.some;
    most = c.requires.1.most;
    fits = omega (arith, c.requires.1.fits, c.loop-size.invariant.0, c.judge_next.auto.work);
  },
)

pub returns-in_err-best-2 : goal.returns-in_err-best-2
returns-in_err-best-2 c =
    let v = c.args in
    let e = err_from_is_err_and c.from_residual-in_err-best-2.result c.from_residual-in_err-best-2.ensures.1 in
    rw (e.1, e.2) (sizes_fail v.question.now v.pairs.now v.flags v.capacity v.work.now _ _ c.in_ok-best.ensures (c.loop-size.size + 1) _ _ (omega arith)
    (sizes_more v.question.now v.pairs.now v.flags v.capacity _ c.loop-size.size c.loop-size.best _ c.loop-size.work _ c.loop-size.invariant.1
    c.in_err-best-2.ensures))

pub loop-size-preserved : goal.loop-size-preserved
loop-size-preserved c =
    let v = c.args in (
      search rules,
      sizes_more v.question.now v.pairs.now v.flags v.capacity _ c.loop-size.size c.loop-size.best _ c.loop-size.work _ c.loop-size.invariant.1
          c.in_ok-best-2.ensures,
    )

pub returns : goal.returns
returns c =
    let v = c.args in
    sizes_whole v.question.now v.pairs.now v.flags v.capacity v.work.now _ _ c.in_ok-best.ensures c.loop-size.size _ c.loop-size.work (omega arith)
    c.loop-size.invariant.1
