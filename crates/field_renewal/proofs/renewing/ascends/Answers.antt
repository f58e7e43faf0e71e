use mathlib.Core.Path.{◌≡◌, sym, ◌∙◌}
use native.Mathlib.Omega.{arith}
use Prim.Native.Nat.{ℕ}
use Rattle.field_renewal.proofs.RenewingLaws.{ascends_start, ascends_next, ascends_fewer}
use borrow.Author.Rules.{rules}
use Rattle.field_renewal.proofs.renewing.ascends.Goals as goal

pub loop-i-init : goal.loop-i-init
loop-i-init c = (search rules, ascends_start _)

pub returns-then-not-precedes : goal.returns-then-not-precedes
returns-then-not-precedes c = λ e. let z : ◌≡◌ {A = ℕ} 0 1 = cc in absurd (omega arith)

pub loop-i-preserved : goal.loop-i-preserved
loop-i-preserved c = (
  search rules,
  ascends_next _ _ c.loop-i.invariant.0 c.loop-i.invariant.1 (sym (c.if-not-precedes.false) ∙ c.precedes.ensures),
)

pub returns : goal.returns
returns c = λ e. ascends_fewer _ _ _ (search rules) c.loop-i.invariant.1
