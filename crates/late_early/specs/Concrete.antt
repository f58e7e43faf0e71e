-- Table 3.1 of document 000, rule by rule under the table's names, with 3 behind each. [Alpha] needs no rule: terms that differ in bound names only
-- are equal. The symmetric versions of Sum, Par, Com and Close, which the table omits, end in R. These are the transitions of Table 4.1 with rule
-- Canon whose condition is empty (proofs/ConcreteSteps, concrete-iff-unconditional).
use Rattle.std.specs.Prelude.{◌≡◌, ◌≢◌, List, ◌++◌, ℕ, length}
use Rattle.calculus.specs.Term.{Term, mat, sum, par, call, ren, put, restrict}
use Rattle.calculus.specs.Free.{In}
use Rattle.calculus.specs.Definitions.{Defs, opened}
use Rattle.calculus.specs.Published.{Action, silent, input, output, new_output, free_names, bound_names, prefix, Avoids}

module _ (Δ : Defs) where
  -- Table 3.1: P ⟶ P' by α
  pub data Concrete : Term → Action → Term → Type 0 where
    -- α.P ⟶ P by α
    Pre3 : (α : Action) (P : Term) → Concrete (prefix α P) α P
    -- if P{ã/b̃} ⟶ P' by α then K⟨ã⟩ ⟶ P' by α, for the definition K = (b̃)P
    Con3 : {k : ℕ} {xs : List ℕ} {α : Action} {P' : Term}
        → length xs ≡ Δ.arity k → Concrete (opened xs (Δ.body k)) α P' → Concrete (call k xs) α P'
    -- if P ⟶ P' by α then P + Q ⟶ P' by α
    Sum3 : {P Q : Term} {α : Action} {P' : Term} → Concrete P α P' → Concrete (sum P Q) α P'
    Sum3R : {P Q : Term} {α : Action} {Q' : Term} → Concrete Q α Q' → Concrete (sum P Q) α Q'
    -- if P ⟶ P' by α and bn(α) ∩ fn(Q) = ∅ then P | Q ⟶ P' | Q by α
    Par3 : {P Q : Term} {α : Action} {P' : Term} → Concrete P α P' → Avoids α Q → Concrete (par P Q) α (par P' Q)
    Par3R : {P Q : Term} {α : Action} {Q' : Term} → Concrete Q α Q' → Avoids α P → Concrete (par P Q) α (par P Q')
    -- if P ⟶ P' by āy and Q ⟶ Q' by a(x) then P | Q ⟶ P' | Q'{y/x} by τ
    Com3 : {P Q : Term} {a x y : ℕ} {P' Q' : Term} → Concrete P (output a y) P' → Concrete Q (input a x) Q'
        → Concrete (par P Q) silent (par P' (ren (put x y) Q'))
    Com3R : {P Q : Term} {a x y : ℕ} {P' Q' : Term} → Concrete P (input a x) P' → Concrete Q (output a y) Q'
        → Concrete (par P Q) silent (par (ren (put x y) P') Q')
    -- if P ⟶ P' by ā(x) and Q ⟶ Q' by a(x) then P | Q ⟶ (νx)(P' | Q') by τ
    Close3 : {P Q : Term} {a x : ℕ} {P' Q' : Term} → Concrete P (new_output a x) P' → Concrete Q (input a x) Q'
        → Concrete (par P Q) silent (restrict x (par P' Q'))
    Close3R : {P Q : Term} {a x : ℕ} {P' Q' : Term} → Concrete P (input a x) P' → Concrete Q (new_output a x) Q'
        → Concrete (par P Q) silent (restrict x (par P' Q'))
    -- if P ⟶ P' by α then [a = a]P ⟶ P' by α
    Match3 : {P : Term} {α : Action} {P' : Term} {a : ℕ} → Concrete P α P' → Concrete (mat a a P) α P'
    -- if P ⟶ P' by α and b ∉ n(α) then (νb)P ⟶ (νb)P' by α
    Res3 : {P : Term} {α : Action} {P' : Term} (b : ℕ)
        → Concrete P α P' → ¬ In b (free_names α ++ bound_names α) → Concrete (restrict b P) α (restrict b P')
    -- if P ⟶ P' by āb and b ≠ a then (νb)P ⟶ P' by ā(b)
    Open3 : {P : Term} {a : ℕ} {P' : Term} (b : ℕ) → Concrete P (output a b) P' → a ≢ b → Concrete (restrict b P) (new_output a b) P'
