use mathlib.Core.Logic.{inl, inr}
use mathlib.Core.Path.{refl}
use native.Mathlib.Omega.{arith}
use Rattle.steps_partitions.proofs.partition.merged_into.Goals as goal

pub returns-then-c-hi : goal.returns-then-c-hi
returns-then-c-hi c = inl (omega arith, omega arith)

pub returns-then-hi-c : goal.returns-then-hi-c
returns-then-hi-c c = inr (inl (omega arith, refl))

pub returns : goal.returns
returns c = inr (inr (omega (arith, c.if-c-hi.false), refl))
