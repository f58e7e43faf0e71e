-- What is demanded of a situation where all names differ: document 02, request 2026-02. Definitions 7 and 9 differ in clause (i) alone: an input is
-- answered once for all names that are received, or once for each.
use Rattle.std.specs.Prelude.{true, List, [], ◌∷◌, ◌++◌, map, ℕ}
use Rattle.calculus.specs.Cond.{Pairs}
use Rattle.late_early.specs.LateEarly.{Kind, late, early}
use Rattle.calculus.specs.Term.{Term}
use Rattle.steps.specs.Listed.{ListedStep}
use Rattle.steps.specs.Listing.{Listing, unsettled, listed}
use Rattle.field.specs.Setting.{Setting, steps_in}
use Rattle.field.specs.Situation.{Situation, free_in, situation, new_name}
use Rattle.field.specs.Successors.{select, answers, allowed, received, led, join_all}

-- the names that one answer must do for
unfoldable pub lots : Kind → List ℕ → List (List ℕ)
lots late ys = ys ∷ []
lots early ys = map (λ y. y ∷ []) ys

-- For each allowed step s of one side and each lot of names, the answers of the other side: each leads to a situation for every name of the lot.
module _ (names : ℕ) (make : Term → Term → Pairs → Situation) (F : List ℕ) (D : Pairs) where
  unfoldable pub demand_of : List ListedStep → ListedStep → List ℕ → List (List Situation)
  demand_of ts s ys = map (λ t. map (led true make F D s t) ys) (select (answers names s) ts)

  unfoldable pub named_moves : Kind → List ListedStep → List ListedStep → List (List (List Situation))
  named_moves k ss ts = join_all (map (λ s. map (demand_of ts s) (lots k (received true names F s))) (select (allowed true names D) ss))

-- those of both sides
unfoldable pub sides_demand : Kind → Setting → Situation → Listing → Listing → List (List (List Situation))
sides_demand k S s (listed ps) (listed qs) =
    let n = S.names in
    let F = free_in n s.first s.second in
    named_moves n (situation n) F s.apart k ps qs ++ named_moves n (λ Q P E. situation n P Q E) F s.apart k qs ps
sides_demand k S s (listed ps) unsettled = []
sides_demand k S s unsettled l = []

unfoldable pub named_demands : Kind → Setting → Situation → List (List (List Situation))
named_demands k S s =
    let x = new_name S.names s.first s.second in
    sides_demand k S s (steps_in S x s.first) (steps_in S x s.second)
