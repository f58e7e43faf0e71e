use mathlib.Core.Path.{◌≡◌}
use native.Mathlib.Omega.{arith}
use Prim.Native.Nat.{ℕ}
use Rattle.steps_equal_branches.specs.Same.{HoldsIs}
use Rattle.steps_equal_branches.proofs.same.same_condition.Goals as goal

pub returns-then-not-chain_holds : goal.returns-then-not-chain_holds
returns-then-not-chain_holds c = λ e. let z : ◌≡◌ {A = ℕ} 0 1 = cc in absurd (omega arith)

pub returns : goal.returns
unfolding HoldsIs
returns c =
    λ e. (
      c.chain_holds.ensures (c.if-not-chain_holds.false) _ c.chain_condition-first.ensures,
      c.chain_holds-2.ensures e _
          c.chain_condition-second.ensures,
    )
