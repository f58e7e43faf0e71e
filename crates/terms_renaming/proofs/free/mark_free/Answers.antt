use mathlib.Core.Path.{◌≡◌, refl, sym, ap, ◌∙◌}
use Prim.Native.Nat.{ℕ, ◌+◌, ◌-◌}
use native.Mathlib.Omega.{arith}
use lib.ListN.{length, take, drop}
use borrow.Author.Rules.{rules}
use borrow.Author.Tests.{leb-true, leb-false}
use Rattle.terms_renaming.specs.FreeFlags.{marks}
use Rattle.terms_renaming.proofs.FreeMarks.{going_starts, going_on, going_stuck, going_ends}
use Rattle.terms_renaming.proofs.free.mark_free.Goals as goal

pub loop-at-init : goal.loop-at-init
loop-at-init c = (search rules, refl, going_starts _ _ _)

pub returns-then-not-room : goal.returns-then-not-room
returns-then-not-room c =
    let a = c.args in
    let l = c.loop-at in
    let h = c.shape_at-h.result in
    going_stuck a.part.now a.arities.now l.at h c.shape_at-h.ensures (search rules) _ _ (leb-false _ _ (sym
    c.room.ensures ∙ c.if-not-room.true)) l.invariant.2

pub overflow_add-at : goal.overflow_add-at
overflow_add-at c =
    let a = c.args in
    let l = c.loop-at in
    let h = c.shape_at-h.result in
    let o = leb-true (l.at + (h.fixed + h.names)) (length a.part.now) (sym c.room.ensures ∙ c.if-not-room.false) in
    omega (arith, o)

pub overflow_add-at-in-loop-at : goal.overflow_add-at-in-loop-at
overflow_add-at-in-loop-at c =
    let a = c.args in
    let l = c.loop-at in
    let h = c.shape_at-h.result in
    let o = leb-true (l.at + (h.fixed + h.names)) (length a.part.now) (sym c.room.ensures ∙ c.if-not-room.false) in
    omega (arith, o)

pub loop-at-smaller : goal.loop-at-smaller
loop-at-smaller c =
    let a = c.args in
    let l = c.loop-at in
    let h = c.shape_at-h.result in
    let o = leb-true (l.at + (h.fixed + h.names)) (length a.part.now) (sym c.room.ensures ∙ c.if-not-room.false) in
    omega (arith, o, c.shape_at-h.ensures.some)

pub loop-at-preserved : goal.loop-at-preserved
loop-at-preserved c =
    let a = c.args in
    let l = c.loop-at in
    let h = c.shape_at-h.result in
    let o = leb-true (l.at + (h.fixed + h.names)) (length a.part.now) (sym c.room.ensures ∙
    c.if-not-room.false) in
    let n : l.at + (h.fixed + h.names) - (l.at + h.fixed) ≡ h.names = omega arith in (
      omega (arith, o),
      c.mark_names.auto.flags ∙ l.invariant.1,
      going_on a.part.now a.arities.now l.at h
          c.shape_at-h.ensures (search rules) _ _ _ (c.mark_names.ensures ∙ ap (λ (k : ℕ). marks l.flags (take k (drop (l.at + h.fixed) a.part.now))) n)
          l.invariant.2,
    )

pub returns : goal.returns
returns c =
    going_ends c.args.part.now c.args.arities.now
    c.loop-at.at _ _ (search rules) c.loop-at.invariant.2
