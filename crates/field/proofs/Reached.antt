-- The situations that exploration may reach, in the terms of `successors`: the smallest set that holds the start and, with a situation that is
-- within the limits, all that it leads to. Assumes nothing.
--
-- What the theory of exploration asks of its user is one record, `Invariant S Good`: `Good` is kept by `LeadsTo`, and on good situations the
-- test of equality is exact. The start must be good.
use mathlib.Core.Bool.{true}
use mathlib.Core.List.{List}
use mathlib.Core.Logic.{◌⊎◌}
use mathlib.Core.Path.{◌≡◌}
use Prim.Native.Nat.{ℕ, ◌<◌}
use lib.ListN.{length}
use Rattle.calculus.specs.Lists.{◌∈◌, All, Distinct}
use Rattle.field.specs.Setting.{Setting}
use Rattle.field.specs.Situation.{Situation, same_situation}
use Rattle.field.specs.Successors.{past_limit, leads, successors}
use Rattle.field.specs.Exploration.{together}
use Rattle.field.proofs.Unseen.{∈-together, together-∈}

module _ (S : Setting) where
  pub record LeadsTo (s t : Situation) : Type 0 where
    pub wants : List (List Situation)
    pub within : successors S s ≡ leads wants
    pub want : List Situation
    pub wanted : want ∈ wants
    pub there : t ∈ want

  pub together-leads : (s : Situation) (ms : List (List Situation)) → successors S s ≡ leads ms → (t : Situation) → t ∈ together ms → LeadsTo s t
  together-leads s ms e t i = let (m, j, k) = together-∈ ms t i in record { wants = ms; within = e; want = m; wanted = j; there = k }

  pub leads-together : {s t : Situation} (l : LeadsTo s t) → t ∈ together l.wants
  leads-together {t = t} l = ∈-together l.wants l.want t l.wanted l.there

  pub data Reached (start : Situation) : Situation → Type 0 where
    at_start : Reached start start
    onward : {s t : Situation} → Reached start s → LeadsTo s t → Reached start t

  -- There are more of them than the capacity,
  pub record ReachesMore (start : Situation) (capacity : ℕ) : Type 0 where
    pub situations : List Situation
    pub distinct : Distinct situations
    pub members : All (Reached start) situations
    pub many : capacity < length situations

  -- or one of them is past a limit.
  pub record ReachesLimit (start : Situation) : Type 0 where
    pub there : Situation
    pub reached : Reached start there
    pub past : successors S there ≡ past_limit

  abbrev pub ReachesPast : Situation → ℕ → Type 0
  ReachesPast start capacity = ReachesMore start capacity ⊎ ReachesLimit start

  pub record Invariant (Good : Situation → Type 0) : Type 0 where
    pub exact : (s t : Situation) → Good s → Good t → same_situation s t ≡ true → s ≡ t
    pub kept : (s t : Situation) → Good s → LeadsTo s t → Good t

  pub reached_good : (Good : Situation → Type 0) → Invariant Good → (start : Situation) → Good start → {s : Situation} → Reached start s → Good s
  reached_good Good h start g at_start = g
  reached_good Good h start g (onward {s = s} {t = t} r l) = h.kept s t (reached_good Good h start g r) l
