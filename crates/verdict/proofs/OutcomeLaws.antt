-- No number says two outcomes: "equal numbers are never confused" (document 01). Assumes nothing.
use mathlib.Core.Path.{◌≡◌, refl, sym, ◌∙◌, ap}
use Prim.Native.Nat.{ℕ}
use native.Mathlib.Omega.{arith}
use Rattle.verdict.specs.Outcome.{Outcome, gave, turned_back, unsettled_outcome, same_of, different_of, none_outcome, coded, code_of, Small, Says}

same_code : (o p : Outcome) → code_of o ≡ code_of p → Small o → Small p → o ≡ p
unfolding code_of coded Small
same_code (gave n) (gave m) e h k = let z : n ≡ m = omega arith in ap gave z
same_code (gave n) (turned_back m) e h k = absurd (omega arith)
same_code (gave n) unsettled_outcome e h k = absurd (omega arith)
same_code (gave n) (same_of m) e h k = absurd (omega arith)
same_code (gave n) (different_of m) e h k = absurd (omega arith)
same_code (gave n) none_outcome e h k = absurd (omega arith)
same_code (turned_back n) (gave m) e h k = absurd (omega arith)
same_code (turned_back n) (turned_back m) e h k = let z : n ≡ m = omega arith in ap turned_back z
same_code (turned_back n) unsettled_outcome e h k = absurd (omega arith)
same_code (turned_back n) (same_of m) e h k = absurd (omega arith)
same_code (turned_back n) (different_of m) e h k = absurd (omega arith)
same_code (turned_back n) none_outcome e h k = absurd (omega arith)
same_code unsettled_outcome (gave m) e h k = absurd (omega arith)
same_code unsettled_outcome (turned_back m) e h k = absurd (omega arith)
same_code unsettled_outcome unsettled_outcome e h k = refl
same_code unsettled_outcome (same_of m) e h k = absurd (omega arith)
same_code unsettled_outcome (different_of m) e h k = absurd (omega arith)
same_code unsettled_outcome none_outcome e h k = absurd (omega arith)
same_code (same_of n) (gave m) e h k = absurd (omega arith)
same_code (same_of n) (turned_back m) e h k = absurd (omega arith)
same_code (same_of n) unsettled_outcome e h k = absurd (omega arith)
same_code (same_of n) (same_of m) e h k = let z : n ≡ m = omega arith in ap same_of z
same_code (same_of n) (different_of m) e h k = absurd (omega arith)
same_code (same_of n) none_outcome e h k = absurd (omega arith)
same_code (different_of n) (gave m) e h k = absurd (omega arith)
same_code (different_of n) (turned_back m) e h k = absurd (omega arith)
same_code (different_of n) unsettled_outcome e h k = absurd (omega arith)
same_code (different_of n) (same_of m) e h k = absurd (omega arith)
same_code (different_of n) (different_of m) e h k = let z : n ≡ m = omega arith in ap different_of z
same_code (different_of n) none_outcome e h k = absurd (omega arith)
same_code none_outcome (gave m) e h k = absurd (omega arith)
same_code none_outcome (turned_back m) e h k = absurd (omega arith)
same_code none_outcome unsettled_outcome e h k = absurd (omega arith)
same_code none_outcome (same_of m) e h k = absurd (omega arith)
same_code none_outcome (different_of m) e h k = absurd (omega arith)
same_code none_outcome none_outcome e h k = refl

pub says_once : {r : ℕ} (o p : Outcome) → Says r o → Says r p → o ≡ p
says_once o p s t = same_code o p (sym s.number ∙ t.number) s.small t.small
