-- An answer that is a result: what the answers before it were.
use mathlib.Core.Path.{◌≡◌, refl}
use mathlib.Core.Bool.{Bool, true, false, ◌&&◌}
use mathlib.Core.List.{List, [], ◌∷◌}
use Prim.Native.Nat.{ℕ}
use native.Mathlib.Omega.{arith}
use Rattle.terms.specs.Answer.{Answer, refused, result, ◌>>=◌, ◌>>◌, need}
use Rattle.terms.specs.Question.{every}
unfoldable pub use Rattle.terms.specs.WellFormed.{Every}

module _ {A : Type 0} where
  pub result_injective : {a b : A} → ◌≡◌ {A = Answer A} (result a) (result b) → a ≡ b
  result_injective e = cc

  pub refused_not_result : {k : ℕ} {b : A} {C : Type 0} → ◌≡◌ {A = Answer A} (refused k) (result b) → C
  refused_not_result e = let z : ◌≡◌ {A = ℕ} 0 1 = cc in absurd (omega arith)

module _ {A B : Type 0} where
  pub bind-result : (m : Answer A) (f : A → Answer B) (b : B) → (m >>= f) ≡ result b → (a : A) × (m ≡ result a) × (f a ≡ result b)
  unfolding ◌>>=◌
  bind-result (refused k) f b e = refused_not_result e
  bind-result (result a) f b e = (a, refl, e)

  pub then_result : (m : Answer A) (r : Answer B) (b : B) → (m >> r) ≡ result b → (a : A) × (m ≡ result a) × (r ≡ result b)
  unfolding ◌>>◌
  then_result (refused k) r b e = refused_not_result e
  then_result (result a) r b e = (a, refl, e)

module _ {B : Type 0} where
  pub need-result : (k : ℕ) (t : Bool) (r : Answer B) (b : B) → (need k t >> r) ≡ result b → (t ≡ true) × (r ≡ result b)
  unfolding need ◌>>◌
  need-result k true r b e = (refl, e)
  need-result k false r b e = refused_not_result e

  pub need-passed : (k : ℕ) (t : Bool) (r : Answer B) → t ≡ true → (need k t >> r) ≡ r
  unfolding need ◌>>◌
  need-passed k t r e = rw e

  pub need_failed : (k : ℕ) (t : Bool) (r : Answer B) → t ≡ false → (need k t >> r) ≡ refused k
  unfolding need ◌>>◌
  need_failed k t r e = rw e

module _ {A B : Type 0} where
  pub bind_to : {m : Answer A} {a : A} (f : A → Answer B) → m ≡ result a → (m >>= f) ≡ f a
  unfolding ◌>>=◌
  bind_to f e = rw e

  pub bind-refused : {m : Answer A} {k : ℕ} (f : A → Answer B) → m ≡ refused k → (m >>= f) ≡ refused k
  unfolding ◌>>=◌
  bind-refused f e = rw e

module _ {A : Type 0} where
  pub bind_id : (m : Answer A) → (m >>= λ a. result a) ≡ m
  unfolding ◌>>=◌
  bind_id (refused k) = refl
  bind_id (result a) = refl

module _ {A B : Type 0} where
  -- Two tests of the same check are one.
  pub need-both : (k : ℕ) (t u : Bool) (a : A) (f : A → B) →
      ((need k t >> (need k u >> result a)) >>= λ x. result (f x)) ≡ (need k (t && u) >> result (f a))
  unfolding need ◌>>◌ ◌>>=◌
  need-both k true true a f = refl
  need-both k true false a f = refl
  need-both k false u a f = refl

module _ {A B C : Type 0} where
  pub bind_assoc : (m : Answer A) (f : A → Answer B) (g : B → Answer C) → ((m >>= f) >>= g) ≡ (m >>= λ a. (f a >>= g))
  unfolding ◌>>=◌
  bind_assoc (refused k) f g = refl
  bind_assoc (result a) f g = refl

-- Tests that hold together.
pub both_true : (x y : Bool) → (x && y) ≡ true → (x ≡ true) × (y ≡ true)
both_true true y e = (refl, e)
both_true false y e = let z : ◌≡◌ {A = ℕ} 0 1 = cc in absurd (omega arith)

pub true_both : (x y : Bool) → x ≡ true → y ≡ true → (x && y) ≡ true
true_both x y p q = rw (p, q)

-- A test that holds of every element of a list, as a type.
module _ {A : Type 0} where
  pub all-every : (p : A → Bool) (T : A → Type 0) → ((x : A) → p x ≡ true → T x) → (xs : List A) → every p xs ≡ true → Every T xs
  unfolding every Every
  all-every p T h [] e = tt
  all-every p T h (x ∷ xs) e =
      let b = both_true (p x) (every p xs) e in
      (h x b.0, all-every p T h xs b.1)

  pub every-all : (p : A → Bool) (T : A → Type 0) → ((x : A) → T x → p x ≡ true) → (xs : List A) → Every T xs → every p xs ≡ true
  unfolding every Every
  every-all p T h [] e = refl
  every-all p T h (x ∷ xs) e = true_both (p x) (every p xs) (h x e.0) (every-all p T h xs e.1)
