use mathlib.Core.Path.{sym}
use native.Mathlib.Omega.{arith}
use Rattle.verdict.proofs.CapacityLaws.{too_small, too_large, no_room, both-passed}
use Rattle.terms_bytes.specs.Refusals.{number_of}
use Rattle.verdict_capacity.specs.Capacities.{capacity_answer}
use Rattle.verdict_capacity.proofs.capacity.capacity_check.Goals as goal

pub returns-then-capacity-lt1 : goal.returns-then-capacity-lt1
unfolding capacity_answer number_of
returns-then-capacity-lt1 c = sym (too_small _ _ _ (omega arith))

pub returns-then-capacity-gt-GREATEST_CAPACITY : goal.returns-then-capacity-gt-GREATEST_CAPACITY
unfolding capacity_answer number_of
returns-then-capacity-gt-GREATEST_CAPACITY c = sym (too_large _ _ _ (omega arith))

pub returns-then-room-slots : goal.returns-then-room-slots
unfolding capacity_answer number_of
returns-then-room-slots c = sym (no_room _ _ _ (omega arith) (omega arith) (omega arith))

pub returns : goal.returns
unfolding capacity_answer number_of
returns c = sym (both-passed _ _ _ (record { some = omega arith; most = omega arith; fits = omega arith }))
