use borrow.Author.Rules.{rules}
use mathlib.Core.Path.{refl}
use native.Mathlib.Omega.{arith}
use Rattle.steps_entries.proofs.EntryOrder.{alike_next}
use Rattle.steps_entries.proofs.listed.alike.Goals as goal

pub loop-k-init : goal.loop-k-init
loop-k-init c = (search rules, (λ e l h. absurd (omega arith), λ s. refl))

pub loop-k-preserved : goal.loop-k-preserved
loop-k-preserved c =
    let v = c.args in (
      search rules,
      alike_next v.a.now v.i v.b.now v.j c.loop-k.k c.loop-k.same
          c.loop-k.invariant.1,
    )

pub returns : goal.returns
returns c = (λ e l h. c.loop-k.invariant.1.0 e l (omega arith), λ t. c.loop-k.invariant.1.1 (λ l h. t l (omega arith)))
