-- The theorems about late and early bisimilarity (Definitions 8 and 10) that other crates cite, each under the name by which it is known. Assumes
-- nothing.
use mathlib.Core.Logic.{◌≢◌}
use Prim.Native.Nat.{ℕ}
use Rattle.calculus.specs.Term.{Term, ren, put}
use Rattle.calculus.specs.Cond.{Pairs}
use Rattle.calculus.specs.Definitions.{Defs}
use Rattle.calculus.specs.Published.{Action, input, Avoids}
use Rattle.calculus.specs.OpenBisimulation.{Related}
use Rattle.late_early.specs.Concrete.{Concrete}
use Rattle.late_early.specs.LateEarly.{Kind, late, early, Bisimilar}
use Rattle.late_early.proofs.LateEarlyLaws.{late_early, open_late}

module _ (Δ : Defs) where
  -- Parts that some open bisimulation relates, under any distinction, are late bisimilar; late bisimilar parts are early bisimilar.
  pub related_late : {D : Pairs} {P Q : Term} → Related Δ D P Q → Bisimilar Δ late P Q
  related_late = open_late Δ

  pub late_is_early : {P Q : Term} → Bisimilar Δ late P Q → Bisimilar Δ early P Q
  late_is_early = late_early Δ

  pub bisimilar_sym : {k : Kind} {P Q : Term} → Bisimilar Δ k P Q → Bisimilar Δ k Q P
  bisimilar_sym b = record { by = b.by; bisimulation = b.bisimulation; relates = b.bisimulation.symmetric b.relates }

  -- What bisimilar parts answer, for the side of a search that strikes out.
  pub record BisimilarAnswer (k : Kind) (α : Action) (P' Q : Term) : Type 1 where
    pub result : Term
    pub transition : Concrete Δ Q α result
    pub bisimilar : Bisimilar Δ k P' result

  pub bisimilar_answered : {k : Kind} {P Q : Term} → Bisimilar Δ k P Q → {α : Action} {P' : Term} → Concrete Δ P α P'
      → Avoids α P → Avoids α Q → ((a x : ℕ) → α ≢ input a x) → BisimilarAnswer k α P' Q
  bisimilar_answered b t h g other =
      let r = b.bisimulation.answered b.relates t h g other in
      record { result = r.result; transition = r.transition; bisimilar = record { by = b.by; bisimulation = b.bisimulation; relates = r.related } }

  pub record LateAnswer (a x : ℕ) (P' Q : Term) : Type 1 where
    pub result : Term
    pub transition : Concrete Δ Q (input a x) result
    pub bisimilar : (y : ℕ) → Bisimilar Δ late (ren (put x y) P') (ren (put x y) result)

  pub late_received : {P Q : Term} → Bisimilar Δ late P Q → {a x : ℕ} {P' : Term} → Concrete Δ P (input a x) P'
      → Avoids (input a x) P → Avoids (input a x) Q → LateAnswer a x P' Q
  late_received b t h g =
      let r = b.bisimulation.received b.relates t h g in
      record {
        result = r.result;
        transition = r.transition;
        bisimilar = λ y. record { by = b.by; bisimulation = b.bisimulation; relates = r.related y };
      }

  pub record EarlyAnswer (a x y : ℕ) (P' Q : Term) : Type 1 where
    pub result : Term
    pub transition : Concrete Δ Q (input a x) result
    pub bisimilar : Bisimilar Δ early (ren (put x y) P') (ren (put x y) result)

  pub early_received : {P Q : Term} → Bisimilar Δ early P Q → {a x : ℕ} {P' : Term} → Concrete Δ P (input a x) P'
      → Avoids (input a x) P → Avoids (input a x) Q → (y : ℕ) → EarlyAnswer a x y P' Q
  early_received b t h g y =
      let r = b.bisimulation.received b.relates t h g y in
      record { result = r.result; transition = r.transition; bisimilar = record { by = b.by; bisimulation = b.bisimulation; relates = r.related } }
