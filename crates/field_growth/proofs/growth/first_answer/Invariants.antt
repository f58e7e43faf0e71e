use Prim.Native.Nat.{◌≤◌}
use Rattle.field_growth.proofs.GrowingLaws.{NoAnswer}
use Rattle.field_growth.proofs.growth.first_answer.Given as goal

abbrev pub invariant-loop-j : goal.invariant-loop-j
invariant-loop-j l = (l.j ≤ l.count) × NoAnswer l.area l.at l.others l.count l.j
