-- Parts in their form have the same free names, so the same new name, and Definition 15 gives pairs that agree. Assumes nothing.
use mathlib.Core.Bool.{Bool, true, false, cond}
use mathlib.Core.List.{List, ◌∷◌, ◌++◌}
use mathlib.Core.Logic.{inl, inr}
use mathlib.Core.Path.{◌≡◌, refl, sym, ap, ap₂}
use Prim.Native.Nat.{ℕ, zero, suc}
use Rattle.calculus.specs.Cond.{Cond, Pairs, cls}
use Rattle.calculus.specs.Distinction.{Apart, among, keep}
use Rattle.calculus.specs.Free.{In, fn}
use Rattle.calculus.specs.OpenBisimulation.{update}
use Rattle.calculus.specs.Published.{Action, extruded}
use Rattle.calculus.specs.Term.{Term}
use Rattle.calculus.proofs.Selection.{in_among, among_in}
use Rattle.calculus.proofs.UpToRenaming.{Either, either→fn, fn→either}
use Rattle.terms.specs.Operations.{holds_apart}
use Rattle.steps.proofs.FormLaws.{Form, form_free, free_form}
use Rattle.field.specs.Situation.{Situation, free_from, free_in, pairs_of, situation, missing, new_name}
use Rattle.field.proofs.OneSide.{update-more}

same_bool : (a b : Bool) → (a ≡ true → b ≡ true) → (b ≡ true → a ≡ true) → a ≡ b
same_bool true true f g = refl
same_bool true false f g = sym (f refl)
same_bool false true f g = g refl
same_bool false false f g = refl

missing-same : (F G : List ℕ) → ((n : ℕ) → among F n ≡ among G n) → (n k : ℕ) → missing F n k ≡ missing G n k
unfolding missing
missing-same F G h n zero = refl
missing-same F G h n (suc k) = ap₂ (λ b m. cond b m n) (h n) (missing-same F G h (suc n) k)

free_same : (F G : List ℕ) → ((n : ℕ) → among F n ≡ among G n) → (n k : ℕ) → free_from F n k ≡ free_from G n k
unfolding free_from
free_same F G h n zero = refl
free_same F G h n (suc k) = ap₂ (λ b m. cond b (n ∷ m) m) (h n) (free_same F G h (suc n) k)

module _ {form : Term → Term} (formed : Form form) where
  pub either_formed : (P Q : Term) (n : ℕ) → Either n P Q → Either n (form P) (form Q)
  either_formed P Q n (inl f) = inl (form_free formed n P f)
  either_formed P Q n (inr f) = inr (form_free formed n Q f)

  pub formed_either : (P Q : Term) (n : ℕ) → Either n (form P) (form Q) → Either n P Q
  formed_either P Q n (inl f) = inl (free_form formed n P f)
  formed_either P Q n (inr f) = inr (free_form formed n Q f)

  in_formed : (P Q : Term) (n : ℕ) → In n (fn P ++ fn Q) → In n (fn (form P) ++ fn (form Q))
  in_formed P Q n i = either→fn n (form P) (form Q) (either_formed P Q n (fn→either n P Q i))

  formed_in : (P Q : Term) (n : ℕ) → In n (fn (form P) ++ fn (form Q)) → In n (fn P ++ fn Q)
  formed_in P Q n i = either→fn n P Q (formed_either P Q n (fn→either n (form P) (form Q) i))

  same-among : (P Q : Term) (n : ℕ) → among (fn (form P) ++ fn (form Q)) n ≡ among (fn P ++ fn Q) n
  same-among P Q n =
      same_bool (among (fn (form P) ++ fn (form Q)) n) (among (fn P ++ fn Q) n)
      (λ e. in_among (fn P ++ fn Q) n (formed_in P Q n (among_in (fn (form P) ++ fn (form Q)) n e)))
      (λ e. in_among (fn (form P) ++ fn (form Q)) n (in_formed P Q n (among_in (fn P ++ fn Q) n e)))

  pub new_formed : (names : ℕ) (P Q : Term) → new_name names (form P) (form Q) ≡ new_name names P Q
  unfolding new_name
  new_formed names P Q = missing-same (fn (form P) ++ fn (form Q)) (fn P ++ fn Q) (same-among P Q) 0 names

  -- a situation with its parts in their form
  abbrev pub form_situation : Situation → Situation
  form_situation s = record { first = form s.first; second = form s.second; apart = s.apart }

  pub situation_formed : (names : ℕ) (P Q : Term) (D : Pairs) → situation names (form P) (form Q) D ≡ form_situation (situation names P Q D)
  unfolding situation free_in
  situation_formed names P Q D =
      ap (λ F. record { first = form P; second = form Q; apart = keep (holds_apart D) (pairs_of F) })
      (free_same (fn (form P) ++ fn (form Q)) (fn P ++ fn Q) (same-among P Q) 0 names)

  pub update_formed : (D : Pairs) (P Q : Term) (α : Action) (M : Cond) (a b : ℕ) → Apart (update D (form P) (form Q) α M) a b → Apart (update D P Q α M) a b
  unfolding update
  update_formed D P Q α M a b = update-more (cls M) (extruded α) (fn (form P) ++ fn (form Q)) (fn P ++ fn Q) D (formed_in P Q) a b

  pub formed_update : (D : Pairs) (P Q : Term) (α : Action) (M : Cond) (a b : ℕ) → Apart (update D P Q α M) a b → Apart (update D (form P) (form Q) α M) a b
  unfolding update
  formed_update D P Q α M a b = update-more (cls M) (extruded α) (fn P ++ fn Q) (fn (form P) ++ fn (form Q)) D (in_formed P Q) a b
