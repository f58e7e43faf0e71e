use borrow.Author.Rules.{rules}
use mathlib.Core.Path.{◌≡◌, refl, subst}
use native.Mathlib.Omega.{arith}
use Prim.Native.Nat.{ℕ}
use Rattle.steps_rows.specs.Rows.{PutRepeatedIs}
use Rattle.steps_rows.proofs.RowWalks.{repeated_start, repeated_more}
use Rattle.steps_rows.proofs.rows.put_repeated.Goals as goal

pub loop-i-init : goal.loop-i-init
loop-i-init c = (search rules, refl, repeated_start c.args.n c.args.rows.now c.requires.0)

pub put_row-m-requires : goal.put_row-m-requires
put_row-m-requires c = (c.loop-i.invariant.2.inside, search rules)

pub loop-i-preserved : goal.loop-i-preserved
loop-i-preserved c = (
  search rules,
  search rules,
  repeated_more c.args.n
      c.args.rows.now c.requires.0
      c.loop-i.i c.loop-i.m
      c.loop-i.rows c.loop-i.invariant.2 _ _
      c.put_row-m.ensures,
)

pub returns : goal.returns
returns c =
    let v = c.args in
    let e : c.loop-i.i ≡ v.count = omega (arith, c.loop-i.invariant.0, c.loop-i-test.false) in
    subst (λ (k : ℕ). PutRepeatedIs k v.n v.rows.now c.loop-i.m c.loop-i.rows) e c.loop-i.invariant.2
