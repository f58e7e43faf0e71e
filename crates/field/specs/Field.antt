-- The field and its limits in the terms of the published transitions: document 01, "The field and the verdict".
use Rattle.std.specs.Prelude.{true, false, List, [], ◌≢◌, ◌⊎◌, ◌↔◌, ◌≡◌, ℕ, ◌<◌, length}
use Rattle.calculus.specs.Term.{Term, ren, put}
use Rattle.calculus.specs.Free.{In, Free}
use Rattle.calculus.specs.Cond.{Cond, cls, ◌▷◌}
use Rattle.calculus.specs.Distinction.{Resp}
use Rattle.calculus.specs.Definitions.{Defs}
use Rattle.calculus.specs.Published.{Action, input, bound_names, ren_action, Transition}
use Rattle.calculus.specs.OpenBisimulation.{update}
use Rattle.calculus.specs.Lists.{◌∈◌, All, Distinct}
use Rattle.calls.specs.ReachLimit.{PastCalls}
use Rattle.steps.specs.Derived.{TooMany, TooLong}
use Rattle.steps.specs.Limits.{most_reached}
use Rattle.field.specs.Setting.{Setting}
use Rattle.field.specs.Situation.{Situation, situation, new_name}

module _ (Δ : Defs) (S : Setting) where
  -- the new name of a situation
  abbrev pub fresh : Situation → ℕ
  fresh s = new_name S.names s.first s.second

  -- a transition of P, whose received or extruded name is x
  pub record Move (x : ℕ) (P : Term) : Type 0 where
    pub condition : Cond
    pub action : Action
    pub result : Term
    pub transition : Transition Δ P condition action result
    pub binds : (y : ℕ) → In y (bound_names action) → y ≡ x

  -- n answers m: a condition implied by that of m, and an action equal under it
  pub record Matches {x : ℕ} {P Q : Term} (m : Move x P) (n : Move x Q) : Type 0 where
    pub implied : m.condition ▷ n.condition
    pub equal : m.action ≡ ren_action (cls m.condition) n.action

  -- The resulting situation: both results rewritten by the condition and in their form, the apart pairs updated as in Definition 15.
  pub data Successor (s t : Situation) : Type 0 where
    first_moving : S.differ ≡ false → (m : Move (fresh s) s.first) (n : Move (fresh s) s.second) → Resp m.condition s.apart → Matches m n
        → t ≡ situation S.names (S.form m.result) (S.form (ren (cls m.condition) n.result))
        (update s.apart s.first s.second m.action m.condition)
        → Successor s t
    second_moving : S.differ ≡ false → (m : Move (fresh s) s.second) (n : Move (fresh s) s.first) → Resp m.condition s.apart → Matches m n
        → t ≡ situation S.names (S.form (ren (cls m.condition) n.result)) (S.form m.result)
        (update s.apart s.second s.first m.action m.condition)
        → Successor s t
    -- Where all names differ: matched steps whose conditions are trivial, an input with a name that is free in one of the parts, or the new one.
    both_do : S.differ ≡ true → (α : Action) → ((y : ℕ) → In y (bound_names α) → y ≡ fresh s) → ((a y : ℕ) → α ≢ input a y) → (P Q : Term)
        → Transition Δ s.first [] α P → Transition Δ s.second [] α Q → t ≡ situation S.names (S.form P) (S.form Q) [] → Successor s t
    both_receive : S.differ ≡ true → (a y : ℕ) → (y ≡ fresh s) ⊎ Free y s.first ⊎ Free y s.second → (P Q : Term)
        → Transition Δ s.first [] (input a (fresh s)) P → Transition Δ s.second [] (input a (fresh s)) Q
        → t ≡ situation S.names (S.form (ren (put (fresh s) y) P)) (S.form (ren (put (fresh s) y) Q)) [] → Successor s t

  -- The limits of one part of a situation whose new name is x: steps, a result, the calls that one call reaches (request 2026-01), and names, where all of
  -- them are free and a step binds one.
  pub data PartPast (x : ℕ) (P : Term) : Type 0 where
    too_many : TooMany S.form Δ S.names S.most x P → PartPast x P
    too_long : TooLong S.form Δ S.names S.longest x P → PartPast x P
    too_many_calls : PastCalls Δ most_reached P → PartPast x P
    no_name : x ≡ S.names → (m : Move x P) (y : ℕ) → In y (bound_names m.action) → PartPast x P

  abbrev pub Past : Situation → Type 0
  Past s = PartPast (fresh s) s.first ⊎ PartPast (fresh s) s.second

  -- "Field" is document 01's word: the smallest set that holds the start and the successors of its members. A situation past a limit has none.
  pub data InField (start : Situation) : Situation → Type 0 where
    at_start : InField start start
    successor : {s t : Situation} → InField start s → ¬ Past s → Successor s t → InField start t

  -- Past a limit: the field has more situations than the capacity,
  pub record TooLarge (start : Situation) (capacity : ℕ) : Type 0 where
    pub situations : List Situation
    pub distinct : Distinct situations
    pub members : All (InField start) situations
    pub many : capacity < length situations

  -- or one of them has a part past one of the other limits.
  pub record SomePast (start : Situation) : Type 0 where
    pub there : Situation
    pub member : InField start there
    pub past : Past there

  abbrev pub PastLimit : Situation → ℕ → Type 0
  PastLimit start capacity = TooLarge start capacity ⊎ SomePast start

  -- The field has n situations: a list of them holds the field, each once.
  pub record FieldSize (start : Situation) (n : ℕ) : Type 0 where
    pub situations : List Situation
    pub distinct : Distinct situations
    pub members : (s : Situation) → (s ∈ situations) ↔ InField start s
    pub size : length situations ≡ n
