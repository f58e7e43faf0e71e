-- Late and early bisimulation: document 000, Definitions 7 to 10, over the transitions of Table 3.1. Names are unlimited.
use Rattle.std.specs.Prelude.{◌≢◌, ℕ}
use Rattle.calculus.specs.Term.{Term, ren, put}
use Rattle.calculus.specs.Definitions.{Defs}
use Rattle.calculus.specs.Published.{Action, input, Avoids}
use Rattle.late_early.specs.Concrete.{Concrete}

-- Definitions 7 and 9 differ in clause (i) alone.
pub data Kind : Type 0 where
  late early : Kind

abbrev pub Binary : Type 1
Binary = Term → Term → Type 0

module _ (Δ : Defs) where
  -- ∃Q'. Q ⟶ Q' by a(x), and for all y, P'{y/x} R Q'{y/x}
  pub record ReceivedAny (R : Binary) (a x : ℕ) (P' Q : Term) : Type 0 where
    pub result : Term
    pub transition : Concrete Δ Q (input a x) result
    pub related : (y : ℕ) → R (ren (put x y) P') (ren (put x y) result)

  -- ∃Q'. Q ⟶ Q' by a(x), and P'{y/x} R Q'{y/x}
  pub record ReceivedAs (R : Binary) (a x y : ℕ) (P' Q : Term) : Type 0 where
    pub result : Term
    pub transition : Concrete Δ Q (input a x) result
    pub related : R (ren (put x y) P') (ren (put x y) result)

  -- Clause (i): one answer for all names, or one for each
  abbrev pub Received : Kind → Binary → ℕ → ℕ → Term → Term → Type 0
  Received late R a x P' Q = ReceivedAny R a x P' Q
  Received early R a x P' Q = (y : ℕ) → ReceivedAs R a x y P' Q

  -- Clause (ii): ∃Q'. Q ⟶ Q' by α, and P' R Q'
  pub record AnsweredAs (R : Binary) (α : Action) (P' Q : Term) : Type 0 where
    pub result : Term
    pub transition : Concrete Δ Q α result
    pub related : R P' result

  -- Definitions 7 and 9: a symmetric relation; P R Q, P ⟶ P' by α, bn(α) ∩ (fn(P) ∪ fn(Q)) = ∅
  pub record Bisimulation (k : Kind) (R : Binary) : Type 0 where
    pub symmetric : {P Q : Term} → R P Q → R Q P
    -- (i) if α = a(x)
    pub received : {P Q : Term} → R P Q → {a x : ℕ} {P' : Term} → Concrete Δ P (input a x) P'
        → Avoids (input a x) P → Avoids (input a x) Q → Received k R a x P' Q
    -- (ii) if α ≠ a(x)
    pub answered : {P Q : Term} → R P Q → {α : Action} {P' : Term} → Concrete Δ P α P'
        → Avoids α P → Avoids α Q → ((a x : ℕ) → α ≢ input a x) → AnsweredAs R α P' Q

  -- Definitions 8 and 10: some late, or early, bisimulation relates P and Q
  pub record Bisimilar (k : Kind) (P Q : Term) : Type 1 where
    pub by : Binary
    pub bisimulation : Bisimulation k by
    pub relates : by P Q
