use mathlib.Core.Path.{◌≡◌}
use mathlib.Core.Bool.{true, false}
use mathlib.Core.List.{[], ◌∷◌}
use native.Mathlib.Omega.{arith}
use borrow.Author.Rules.{rules}
use Rattle.steps_plans.proofs.ResultLaws.{stored_then, stored_stop}
use Rattle.steps_plans.proofs.pieces.open_pair.Goals as goal

pub returns-then-not-closed : goal.returns-then-not-closed
returns-then-not-closed c =
    let e : c.args.closed ≡ false = c.if-not-closed.true in
    rw e c.store.ensures

pub returns-then-out-e : goal.returns-then-out-e
returns-then-out-e c =
    let v = c.args in
    let e : v.closed ≡ true = c.if-not-closed.false in rw e (record {
      on =
          c.store-e.ensures.on;
      is = stored_stop v.out.now v.put (8 ∷ []) c.store-e.result _
          c.store-e.ensures.is (7 ∷ []) (search rules);
    })

pub returns : goal.returns
returns c =
    let v = c.args in
    let e : v.closed ≡ true = c.if-not-closed.false in rw e (record {
      on
          = omega (arith, c.store-e.ensures.on, c.store-2.ensures.on);
      is =
          stored_then v.out.now v.put (8 ∷ []) c.store-e.result _
          c.store-e.ensures.is (7 ∷ []) c.store-2.result _ (search rules)
          (search rules) c.store-2.ensures.is;
    })
