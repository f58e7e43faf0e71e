use Prim.Native.Nat.{◌+◌}
use Rattle.steps.specs.Limits.{most_steps}
use native.Mathlib.Omega.{arith}
use Rattle.steps_walk.proofs.WalkLaws.{walk_passed, walk_component, walk_stopped}
use borrow.Author.Rules.{rules}
use Rattle.steps_walk.proofs.walk.component.Goals as goal

pub scan_component-last-requires : goal.scan_component-last-requires
scan_component-last-requires c =
    let g = c.requires in let s = g.0.1.0 in let i = g.1.0 in let j = g.1.1 in (
      g.1.1,
      record { short = g.0.1.0; once = search rules; outer = search rules; room = omega arith },
      g.0.1.1,
      g.0.1.2,
      (g.3, g.4),
    )

pub returns-in_err-visible-clause-is : goal.returns-in_err-visible-clause-is
returns-in_err-visible-clause-is c =
    let v = c.args in
    rw c.from_residual.ensures (walk_stopped v.question.now v.part.now v.node.at v.node.depth v.node.number v.node.x v.rows.now v.walked.rows _ v.area.now v.walked.count _ _ c.requires.3 (omega arith)
    (walk_passed v.question.now v.part.now v.node.at v.node.depth v.node.number v.node.x v.rows.now v.walked.rows
    v.area.now v.walked.count c.requires.5 c.requires.6 _ c.scan_component-last.result _ c.scan_component-last.ensures (most_steps + 1) _
    c.in_err-visible.ensures.is (omega arith)))

pub take_silent-requires : goal.take_silent-requires
take_silent-requires c =
    let g = c.requires in (((c.in_ok-visible.ensures.few, omega (arith, c.area-1.given, g.0.0.1)), g.0.1), g.1, g.2)

pub returns-in_err-all-clause-is : goal.returns-in_err-all-clause-is
returns-in_err-all-clause-is c =
    let v = c.args in
    rw c.from_residual-in_err-all.ensures (walk_stopped v.question.now v.part.now v.node.at v.node.depth v.node.number v.node.x v.rows.now v.walked.rows _ v.area.now v.walked.count _ _ c.requires.3 (omega arith)
    (walk_component v.question.now v.part.now v.node.at v.node.depth v.node.number v.node.x v.rows.now v.walked.rows
    v.area.now v.walked.count c.requires.5 c.requires.6 _ c.scan_component-last.result _ c.scan_component-last.ensures c.in_ok-visible.visible _
    c.in_ok-visible.ensures.is c.in_ok-visible.ensures.few (most_steps + 1) _ c.in_err-all.ensures.is))

pub returns-clause-is : goal.returns-clause-is
returns-clause-is c =
    let v = c.args in
    walk_component v.question.now v.part.now v.node.at v.node.depth v.node.number v.node.x v.rows.now v.walked.rows
    v.area.now v.walked.count c.requires.5 c.requires.6 _ c.scan_component-last.result _ c.scan_component-last.ensures c.in_ok-visible.visible _
    c.in_ok-visible.ensures.is c.in_ok-visible.ensures.few c.in_ok-all.all _ c.in_ok-all.ensures.is
