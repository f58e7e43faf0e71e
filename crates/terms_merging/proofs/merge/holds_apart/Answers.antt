use mathlib.Core.Path.{◌∙◌}
use native.Mathlib.Omega.{arith}
use borrow.Author.Rules.{rules}
use Rattle.terms_merging.proofs.MergeChecks.{search_starts, search_ends, search_found, search_on, search_odd}
use Rattle.terms_merging.proofs.merge.holds_apart.Goals as goal

pub loop-i-init : goal.loop-i-init
loop-i-init c = (search rules, search_starts _ _ _)

pub returns-then-same_pair : goal.returns-then-same_pair
returns-then-same_pair c =
    let v = c.args in
    search_found v.list.now v.a v.b c.loop-i.i c.same_pair.result
    (c.same_pair.ensures ∙ rw (c.get.ensures, c.get-in-loop-i.ensures)) (search rules) c.if-same_pair.true
    c.loop-i.invariant.1

pub returns-then-list-i-lt2 : goal.returns-then-list-i-lt2
returns-then-list-i-lt2 c =
    let v = c.args in
    search_odd v.list.now v.a v.b c.loop-i.i c.same_pair.result
    (c.same_pair.ensures ∙ rw (c.get.ensures, c.get-in-loop-i.ensures)) (search
    rules) (omega arith) c.loop-i.invariant.1

pub loop-i-preserved : goal.loop-i-preserved
loop-i-preserved c =
    let v = c.args in (
      search rules,
      search_on v.list.now v.a v.b c.loop-i.i
          c.same_pair.result (c.same_pair.ensures ∙ rw (
            c.get.ensures,
            c.get-in-loop-i.ensures,
          )) (search rules) c.if-same_pair.false
          c.loop-i.invariant.1,
    )

pub returns : goal.returns
returns c =
    let v = c.args in
    search_ends v.list.now v.a v.b c.loop-i.i (search rules) c.loop-i.invariant.1
