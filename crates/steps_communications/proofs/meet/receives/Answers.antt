use mathlib.Core.Bool.{Bool, true, false, cond}
use mathlib.Core.Logic.{◌⊎◌, inl, inr, ⊎_elim}
use mathlib.Core.Path.{◌≡◌, refl}
use native.Mathlib.Omega.{arith}
use Prim.Native.Nat.{ℕ, ◌-◌}
use lib.Dec.{ltb}
use borrow.Author.Tests.{ltb-true, ne_eqb}
use Rattle.steps_rows.specs.Rows.{action_kind}
use Rattle.steps_communications.proofs.meet.receives.Goals as goal

input-kinds : (k : ℕ) → action_kind k ≡ 1 → (k ≡ 1) ⊎ (k ≡ 5)
unfolding action_kind
input-kinds k = go (ltb 4 k) refl
  where
    go : (b : Bool) → ltb 4 k ≡ b → cond b (k - 4) k ≡ 1 → (k ≡ 1) ⊎ (k ≡ 5)
    go true b e = let l = ltb-true 4 k b in inr (omega arith)
    go false b e = inl e

pub returns-then-kind-eq-INPUT : goal.returns-then-kind-eq-INPUT
unfolding action_kind
returns-then-kind-eq-INPUT c = rw c.if-kind-eq-INPUT.true refl

pub returns-then-kind-eq-MATCHED_INPUT : goal.returns-then-kind-eq-MATCHED_INPUT
unfolding action_kind
returns-then-kind-eq-MATCHED_INPUT c = rw c.if-kind-eq-MATCHED_INPUT.true refl

pub returns : goal.returns
returns c =
    let k = c.args.kind in
    simp (ne_eqb (action_kind k) 1 (λ e. ⊎_elim c.if-kind-eq-INPUT.false c.if-kind-eq-MATCHED_INPUT.false (input-kinds k e)))
