use lib.ListN.{replicate}
use mathlib.Core.Bool.{◌||◌}
use mathlib.Core.Path.{refl, sym, ◌∙◌}
use native.Mathlib.Omega.{arith}
use Rattle.terms.specs.Limits.{longest_term}
use Rattle.steps_splicing.specs.Collecting.{counted}
use Rattle.steps.specs.Limits.{most_steps}
use Prim.Native.Nat.{◌+◌}
use Rattle.steps_placing.proofs.PutLaws.{opposed, neither, met-put, written_long}
use Rattle.steps_placing.proofs.WrittenLaws.{silent_long}
use borrow.Author.Rules.{rules}
use Rattle.steps_placing.proofs.put.put_met.Goals as goal

pub put_silent-requires : goal.put_silent-requires
put_silent-requires c = (
  search rules,
  search rules,
  search rules,
  λ _. c.in-Some.ensures.room,
)

pub returns-in_default-clause-is : goal.returns-in_default-clause-is
returns-in_default-clause-is c =
    let a = c.args in
    let closes = a.met.closes in
    let restricted = c.is_restricted.result in
    met-put a.question.now a.part.now a.met a.class.now a.area.now a.count (most_steps + 1) _ (closes || restricted) (λ
    f. let (g, h) = neither closes restricted f in (g, c.requires.0.1.3.plain (c.is_restricted.ensures h))) (replicate longest_term 0) refl _
    (longest_term + 1) c.in_default.ensures.is (λ t. opposed (sym t ∙ (neither closes restricted c.if-restricted.false).0))
    (silent_long _ _ _ _ _ _ _ _ _ _ (omega arith) (written_long _ _ _ _ _ _ _ _ (omega arith) c.if-restricted.false _))

pub returns-clause-is : goal.returns-clause-is
returns-clause-is c =
    let a = c.args in
    let closes = a.met.closes in
    let restricted = c.is_restricted.result in
    met-put a.question.now a.part.now a.met a.class.now a.area.now a.count (counted c.put_silent.result) _ (closes || restricted) (λ
    f. let (g, h) = neither closes restricted f in (g, c.requires.0.1.3.plain (c.is_restricted.ensures h))) (replicate longest_term 0) refl _
    c.in-Some.n c.in-Some.ensures.is (elim c.else-closes.branch [
      | goal.else-closes-via-then-closes+else-occurs w ↦ λ t. (c.in-Some.ensures.room, sym w.occurs.ensures ∙ w.if-occurs.false)
      | goal.else-closes-via-else-closes w ↦ λ t. opposed (sym t ∙ w.if-closes.false)
    ]) c.put_silent.ensures.is
