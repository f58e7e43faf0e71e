use mathlib.Core.Path.{refl, sym, subst}
use Rattle.steps_conditions.proofs.LabelRules.{Avoids, On, outside-merged, outside_keeps, outside_blocks, outside_opens}
use Rattle.steps_conditions.proofs.rules.outside.Goals as goal

pub returns-then-not-is_alone : goal.returns-then-not-is_alone
returns-then-not-is_alone c =
    outside-merged c.args.label c.args.level _ c.is_alone.ensures (c.if-not-is_alone.true)

pub returns-then-a-name-3 : goal.returns-then-a-name-3
returns-then-a-name-3 c =
    outside_blocks c.args.label c.args.level _ c.is_alone.ensures (c.if-not-is_alone.false) (subst (On _) (sym c.in-Output.is) c.if-a-name-3.true)

pub returns-then-b-name : goal.returns-then-b-name
returns-then-b-name c =
    outside_opens c.args.label c.args.level _ c.is_alone.ensures _ (c.if-not-is_alone.false) refl
    c.in-Output.a c.in-Output.b c.in-Output.is refl c.if-a-name-3.false c.if-b-name.true

pub returns-in-Silent : goal.returns-in-Silent
returns-in-Silent c =
    outside_keeps c.args.label c.args.level _ c.is_alone.ensures (c.if-not-is_alone.false) (subst
    (Avoids _) (sym c.in-Silent.is) tt)

pub returns-then-a-name : goal.returns-then-a-name
returns-then-a-name c =
    outside_blocks c.args.label c.args.level _ c.is_alone.ensures (c.if-not-is_alone.false) (subst (On _) (sym c.in-Input.is) c.if-a-name.true)

pub returns-else-a-name : goal.returns-else-a-name
returns-else-a-name c =
    outside_keeps c.args.label c.args.level _ c.is_alone.ensures (c.if-not-is_alone.false) (subst (Avoids _) (sym
    c.in-Input.is) c.if-a-name.false)

pub returns-then-a-name-2 : goal.returns-then-a-name-2
returns-then-a-name-2 c =
    outside_blocks c.args.label c.args.level _ c.is_alone.ensures (c.if-not-is_alone.false) (subst (On _) (sym c.in-NewOutput.is) c.if-a-name-2.true)

pub returns-else-a-name-2 : goal.returns-else-a-name-2
returns-else-a-name-2 c =
    outside_keeps c.args.label c.args.level _ c.is_alone.ensures (c.if-not-is_alone.false) (subst (Avoids _) (sym
    c.in-NewOutput.is) c.if-a-name-2.false)

pub returns-else-b-name : goal.returns-else-b-name
returns-else-b-name c =
    outside_keeps c.args.label c.args.level _ c.is_alone.ensures (c.if-not-is_alone.false) (subst (Avoids _) (sym
    c.in-Output.is) (c.if-a-name-3.false, c.if-b-name.false))
