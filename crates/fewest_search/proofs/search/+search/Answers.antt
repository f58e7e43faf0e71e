use native.Mathlib.Omega.{arith}
use Prim.Native.Nat.{◌-◌}
use Rattle.std.proofs.lemmas.Result.{err_from_is_err_and}
use Rattle.fewest_search.proofs.SearchLaws.{search_leaf, search_ends, search_more, search_fails}
use Rattle.fewest_search.proofs.search.+search.Goals as goal

pub judge_next-requires : goal.judge_next-requires
judge_next-requires t c = c.requires

pub returns-then-size-eq0 : goal.returns-then-size-eq0
returns-then-size-eq0 t c =
    let v = c.args in
    search_leaf v.question.now v.pairs.now v.at v.size v.flags v.best v.capacity v.work.now c.if-size-eq0.true _ _ c.judge_next.ensures

pub returns-then-pairs-at : goal.returns-then-pairs-at
returns-then-pairs-at t c =
    let v = c.args in
    search_ends v.question.now v.pairs.now v.at v.size v.flags v.best v.capacity v.work.now c.if-size-eq0.false (omega
    arith)

pub with_pair-more-requires : goal.with_pair-more-requires
with_pair-more-requires t c = omega arith

pub overflow_sub-size : goal.overflow_sub-size
overflow_sub-size t c = omega arith

pub search-requires : goal.search-requires
search-requires t c =
    (omega (arith, c.decreases), c.requires)

pub search-requires-2 : goal.search-requires-2
search-requires-2 t c = (
  omega (arith, c.decreases),
  (
    c.requires.0,
    record {
      some = c.requires.1.some;
      most = c.requires.1.most;
      fits = omega (
        arith,
        c.requires.1.fits,
        c.search.auto.work,
      );
    },
  ),
)

pub returns-in_err-next : goal.returns-in_err-next
returns-in_err-next t c =
    let v = c.args in
    let e = err_from_is_err_and c.from_residual.result c.from_residual.ensures.1 in
    rw (e.1, e.2) (search_fails v.question.now v.pairs.now v.at v.size v.flags v.best v.capacity v.work.now _ _ _ c.if-size-eq0.false
    (omega arith) c.with_pair-more.ensures c.in_err-next.ensures)

pub returns : goal.returns
returns t c =
    let v = c.args in
    search_more v.question.now v.pairs.now v.at v.size v.flags v.best v.capacity v.work.now _ _ _ _ _ c.if-size-eq0.false
    (omega arith) c.with_pair-more.ensures c.in_ok-next.ensures c.search-2.ensures
