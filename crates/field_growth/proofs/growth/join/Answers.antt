use borrow.Author.Tests.{eq-eqb, ne_eqb}
use Rattle.field_growth.specs.Growing.{joined}
use Rattle.field_growth.proofs.growth.join.Goals as goal

pub returns-in-Nowhere-default : goal.returns-in-Nowhere-default
unfolding joined
returns-in-Nowhere-default c = rw c.in-Nowhere-default.is-0

pub returns-then-i-j : goal.returns-then-i-j
unfolding joined
returns-then-i-j c = rw (c.in-To-To.is-0, c.in-To-To.is-1, eq-eqb _ _ c.if-i-j.true)

pub returns-else-i-j : goal.returns-else-i-j
unfolding joined
returns-else-i-j c = rw (c.in-To-To.is-0, c.in-To-To.is-1, ne_eqb _ _ c.if-i-j.false)

pub returns-in_default : goal.returns-in_default
unfolding joined
returns-in_default c = rw (c.in_default.is-0, c.in_default.is-1)

pub returns-in_default-2 : goal.returns-in_default-2
unfolding joined
returns-in_default-2 c = rw c.in_default.is-0

pub returns-in_default-Nowhere : goal.returns-in_default-Nowhere
unfolding joined
returns-in_default-Nowhere c = rw (c.in_default-Nowhere.is-0, c.in_default-Nowhere.is-1)

pub returns-in_default-Nowhere-2 : goal.returns-in_default-Nowhere-2
unfolding joined
returns-in_default-Nowhere-2 c = rw c.in_default-Nowhere.is-0
