-- The successors of a situation: document 01, "The field and the verdict".
use Rattle.std.specs.Prelude.{Bool, true, false, cond, ◌&&◌, ◌||◌, not, List, [], ◌∷◌, ◌++◌, map, ℕ, eqb}
use Rattle.calculus.specs.Cond.{Pairs, map_p}
use Rattle.calculus.specs.OpenBisimulation.{times}
use Rattle.calculus.specs.Term.{Term, ren, put}
use Rattle.steps.specs.Listed.{ListedStep, names_from, class_in, implies, own_classes}
use Rattle.steps.specs.Listing.{Listing, unsettled, listed}
use Rattle.field.specs.Setting.{Setting, steps_in}
use Rattle.field.specs.Situation.{Situation, free_from, free_in, situation, new_name}

module _ {A : Type 0} where
  unfoldable pub select : (A → Bool) → List A → List A
  select f [] = []
  select f (x ∷ xs) = cond (f x) (x ∷ select f xs) (select f xs)

-- A step is permitted if its condition respects the apart pairs.
unfoldable pub permitted : Pairs → ListedStep → Bool
permitted [] s = true
permitted (p ∷ D) s = not (eqb (class_in s.classes p.0) (class_in s.classes p.1)) && permitted D s

-- t answers s: its condition is implied by that of s, and its action is equal under it
unfoldable pub answers : ℕ → ListedStep → ListedStep → Bool
answers names s t =
    let c = s.classes in
    eqb s.kind t.kind && eqb s.channel (class_in c t.channel) && eqb s.object (class_in c t.object)
    && implies c t.classes (names_from 0 names)

-- Definition 15: the extruded name is apart from the names F, free in the two parts before the step; then all is rewritten by the condition.
unfoldable pub extruded_by : ListedStep → List ℕ
extruded_by s = cond (eqb s.kind 3) (s.object ∷ []) []

unfoldable pub updated_by : List ℕ → Pairs → ListedStep → Pairs
updated_by F D s = map_p (class_in s.classes) (times (extruded_by s) F ++ D)

-- Where all names differ (request 2026-02) the condition must be trivial.
unfoldable pub unconditional : ℕ → ListedStep → Bool
unconditional names s = own_classes s.classes (names_from 0 names)

-- the steps that must be answered
unfoldable pub allowed : Bool → ℕ → Pairs → ListedStep → Bool
allowed false names D s = permitted D s
allowed true names D s = unconditional names s

-- What is put for the object of a step: for the name that an input receives, where all names differ, each of the names F, free in the two parts, and
-- the new one, which is its object. Else the object stays.
unfoldable pub received : Bool → ℕ → List ℕ → ListedStep → List ℕ
received false names F s = s.object ∷ []
received true names F s = cond (eqb s.kind 1) (free_from (s.object ∷ F) 0 names) (s.object ∷ [])

-- Where the answer t to the step s leads: both results rewritten by the condition of s; or both with the received name y. `make` puts the two results
-- on their sides.
unfoldable pub led : Bool → (Term → Term → Pairs → Situation) → List ℕ → Pairs → ListedStep → ListedStep → ℕ → Situation
led false make F D s t y = make s.result (ren (class_in s.classes) t.result) (updated_by F D s)
led true make F D s t y = make (ren (put s.object y) s.result) (ren (put s.object y) t.result) []

module _ {A : Type 0} where
  unfoldable pub join_all : List (List A) → List A
  join_all [] = []
  join_all (xs ∷ xss) = xs ++ join_all xss

-- For each allowed step s of one side, and each name received, the situations that the other side's answers lead to.
module _ (differ : Bool) (names : ℕ) (make : Term → Term → Pairs → Situation) (F : List ℕ) (D : Pairs) where
  unfoldable pub answers_to : List ListedStep → ListedStep → ℕ → List Situation
  answers_to ts s y = map (λ t. led differ make F D s t y) (select (answers names s) ts)

  unfoldable pub moves_of : List ListedStep → ListedStep → List (List Situation)
  moves_of ts s = map (answers_to ts s) (received differ names F s)

  unfoldable pub moves : List ListedStep → List ListedStep → List (List Situation)
  moves ss ts = join_all (map (moves_of ts) (select (allowed differ names D) ss))

-- an input or a new-name output
unfoldable pub binds_name : ListedStep → Bool
binds_name s = eqb s.kind 1 || eqb s.kind 3

unfoldable pub some_binds : List ListedStep → Bool
some_binds [] = false
some_binds (s ∷ ss) = binds_name s || some_binds ss

-- A situation past a limit has no successors; else there is a list of them for each allowed step of either side and each name received.
pub data Outcome : Type 0 where
  past_limit : Outcome
  leads : List (List Situation) → Outcome

-- the limit of names: a step binds a name while all names are free
unfoldable pub led_to : Setting → Situation → List ListedStep → List ListedStep → Outcome
led_to S s ps qs =
    let n = S.names in
    let F = free_in n s.first s.second in
    let D = s.apart in
    cond (eqb (new_name n s.first s.second) n && (some_binds ps || some_binds qs)) past_limit
    (leads (moves S.differ n (situation n) F D ps qs ++ moves S.differ n (λ Q P E. situation n P Q E) F D qs ps))

-- the limits of steps and of results are the list's own
unfoldable pub with_steps : Setting → Situation → Listing → Listing → Outcome
with_steps S s (listed ps) (listed qs) = led_to S s ps qs
with_steps S s (listed ps) unsettled = past_limit
with_steps S s unsettled l = past_limit

unfoldable pub successors : Setting → Situation → Outcome
successors S s =
    let x = new_name S.names s.first s.second in
    with_steps S s (steps_in S x s.first) (steps_in S x s.second)
