-- What links `successors`, which computes, with the published transitions: the statement. That it holds of every proper situation is
-- proofs/SuccessorsLinked. Assumes nothing.
use mathlib.Core.Bool.{false}
use mathlib.Core.List.{List, ◌++◌}
use mathlib.Core.Logic.{◌⊎◌, ◌↔◌}
use mathlib.Core.Path.{◌≡◌}
use Prim.Native.Nat.{ℕ, ◌<◌}
use Rattle.calculus.specs.Term.{Term, ren}
use Rattle.calculus.specs.Cond.{Pairs, cls}
use Rattle.calculus.specs.Distinction.{Resp}
use Rattle.calculus.specs.Definitions.{Defs}
use Rattle.calculus.specs.OpenBisimulation.{update}
use Rattle.calculus.specs.Lists.{◌∈◌}
use Rattle.steps.proofs.Calls.{Opens}
use Rattle.steps.proofs.FormLaws.{Form}
use Rattle.steps.proofs.Scope.{CallsInScope}
use Rattle.steps.specs.Derived.{Derived}
use Rattle.steps.specs.Listed.{ListedStep}
use Rattle.steps.specs.Listing.{listed}
use Rattle.field.specs.Setting.{Setting, steps_in}
use Rattle.field.specs.Situation.{Situation, free_in, situation}
use Rattle.field.specs.Successors.{past_limit, leads, moves, successors}
use Rattle.field.specs.Exploration.{together}
use Rattle.field.specs.Field.{fresh, Move, Matches, Successor, Past}
use Rattle.field.specs.Situation.{Proper}

-- A setting of the definitions Δ: every call is in scope, and the calls that a step opens are as many as the setting allows.
pub record SettingFor (Δ : Defs) (S : Setting) (arities : List ℕ) : Type 0 where
  pub bodies : Δ.body ≡ S.body
  pub calls : (k : ℕ) → CallsInScope arities (Δ.body k)
  pub opens : (P : Term) → CallsInScope arities P → Opens Δ S.calls P
  -- each name, and the one behind them, has a byte
  pub few : S.names < 128
  pub formed : Form S.form

module _ (Δ : Defs) (S : Setting) where
  -- The two results on their sides: the first side moves, or the second does.
  abbrev pub first_moves : Term → Term → Pairs → Situation
  first_moves P Q D = situation S.names P Q D

  abbrev pub second_moves : Term → Term → Pairs → Situation
  second_moves Q P D = situation S.names P Q D

  -- t is the resulting situation for the move m of P and some answer of Q.
  pub record ResultOf (make : Term → Term → Pairs → Situation) (D : Pairs) {x : ℕ} {P : Term} (Q : Term) (m : Move Δ S x P) (t : Situation) : Type 0 where
    pub answer : Move Δ S x Q
    pub matches : Matches Δ S m answer
    pub result : t ≡ make (S.form m.result) (S.form (ren (cls m.condition) answer.result)) (update D P Q m.action m.condition)

  -- m is permitted, and w is its list.
  pub record ListOf (make : Term → Term → Pairs → Situation) (D : Pairs) {x : ℕ} {P : Term} (Q : Term) (m : Move Δ S x P) (w : List Situation)
      : Type 0 where
    pub permitted : Resp m.condition D
    pub members : (t : Situation) → (t ∈ w) ↔ ResultOf make D Q m t

  pub data ListOfSome (s : Situation) (w : List Situation) : Type 0 where
    from_first : (m : Move Δ S (fresh Δ S s) s.first) → ListOf first_moves s.apart s.second m w → ListOfSome s w
    from_second : (m : Move Δ S (fresh Δ S s) s.second) → ListOf second_moves s.apart s.first m w → ListOfSome s w

  module _ (arities : List ℕ) where
    -- What the lists ms that `successors` gives for s are: together they hold the successors.
    pub record LeadsWithin (s : Situation) (ms : List (List Situation)) : Type 0 where
      pub members : (t : Situation) → (t ∈ together ms) ↔ Successor Δ S s t
      pub proper : (t : Situation) → t ∈ together ms → Proper S.names arities t

    -- Where names may merge
    pub record LeadsExactly (s : Situation) (ms : List (List Situation)) : Type 0 where
      -- each is the list of a permitted move of one side
      pub each : (w : List Situation) → w ∈ ms → ListOfSome s w
      -- and each permitted move of either side has its list
      pub first : (m : Move Δ S (fresh Δ S s) s.first) → Resp m.condition s.apart
          → (w : List Situation) × (w ∈ ms) × ListOf first_moves s.apart s.second m w
      pub second : (m : Move Δ S (fresh Δ S s) s.second) → Resp m.condition s.apart
          → (w : List Situation) × (w ∈ ms) × ListOf second_moves s.apart s.first m w

    -- the lists of steps that they come from
    pub record ListedFor (s : Situation) (ms : List (List Situation)) : Type 0 where
      pub firsts : List ListedStep
      pub seconds : List ListedStep
      pub first_list : steps_in S (fresh Δ S s) s.first ≡ listed firsts
      pub second_list : steps_in S (fresh Δ S s) s.second ≡ listed seconds
      pub first_steps : (r : ListedStep) → (r ∈ firsts) ↔ Derived S.form Δ S.names (fresh Δ S s) s.first r
      pub second_steps : (r : ListedStep) → (r ∈ seconds) ↔ Derived S.form Δ S.names (fresh Δ S s) s.second r
      -- an input is listed only if the new name is one of the names
      pub receives : (r : ListedStep) → (r ∈ firsts) ⊎ (r ∈ seconds) → r.kind ≡ 1 → fresh Δ S s < S.names
      pub is : ms ≡ moves S.differ S.names first_moves (free_in S.names s.first s.second) s.apart firsts seconds
          ++ moves S.differ S.names second_moves (free_in S.names s.first s.second) s.apart seconds firsts

    pub record Linked (s : Situation) : Type 0 where
      pub past : (successors S s ≡ past_limit) ↔ Past Δ S s
      pub given : (ms : List (List Situation)) → successors S s ≡ leads ms → LeadsWithin s ms
      pub open_given : S.differ ≡ false → (ms : List (List Situation)) → successors S s ≡ leads ms → LeadsExactly s ms
      pub lists : (ms : List (List Situation)) → successors S s ≡ leads ms → ListedFor s ms
