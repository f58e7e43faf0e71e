-- The bodies of a question looked at one after the other: whether they are tidied as they are. Assumes nothing.
use mathlib.Core.Bool.{true}
use mathlib.Core.List.{List, [], ◌∷◌, map}
use mathlib.Core.Logic.{⊎_elim}
use mathlib.Core.Path.{◌≡◌, refl, sym, ap₂, subst, ◌∙◌}
use Prim.Native.Nat.{ℕ, suc, ◌+◌, ◌<◌, ◌≤◌}
use native.Mathlib.Nat.{eq-or-lt_of_le}
use native.Mathlib.Omega.{arith}
use lib.ListN.{length}
use Rattle.calculus.specs.Term.{Term}
use Rattle.calculus.specs.Tidy.{tidy}
use Rattle.terms.specs.Answer.{result}
use Rattle.terms.specs.Encoding.{InScope}
use Rattle.terms.specs.Question.{Question, check_of, body_of}
use Rattle.terms_bytes.specs.FieldPlaces.{definitions_of, arities_of, field_at, field_place}
use Rattle.terms_bytes.proofs.QuestionPlaces.{accepted_arities}
use Rattle.terms_tidying.specs.TidiedTerms.{IsTidiedIs}
use Rattle.terms_tidied.specs.TidiedBodies.{HasTidied}
use Rattle.terms_tidied.proofs.QuestionBodies.{count_bodies, well, count_is, body, body-field}

-- Those of the definitions below n are.
unfoldable pub TidiedBelow : List ℕ → ℕ → Type 0
TidiedBelow question n = (q : Question) → check_of question ≡ result q → (j : ℕ) → j < n → tidy (body_of q.bodies j) ≡ body_of q.bodies j

pub none_below : (question : List ℕ) → TidiedBelow question 0
unfolding TidiedBelow
none_below question q a j h = absurd (omega arith)

all-tidied : (Ps : List Term) → ((j : ℕ) → j < length Ps → tidy (body_of Ps j) ≡ body_of Ps j) → map tidy Ps ≡ Ps
unfolding body_of
all-tidied [] f = refl
all-tidied (P ∷ Ps) f = ap₂ ◌∷◌ (f 0 (omega arith)) (all-tidied Ps (λ j h. f (suc j) (omega arith)))

module _ (question : List ℕ) (k : ℕ) (T : TidiedBelow question k) where
  pub one_more : (at : ℕ) → at ≡ field_place question k → (src : List ℕ) → src ≡ field_at question at → (list : List ℕ) → list ≡ arities_of question
      → k < definitions_of question → IsTidiedIs src list true → TidiedBelow question (k + 1)
  unfolding TidiedBelow IsTidiedIs
  one_more at place src h list arities below tidied q a j l = ⊎_elim
      (λ (e : j ≡ k). subst (λ (j : ℕ). tidy (body_of q.bodies j) ≡ body_of q.bodies j) (sym e) new) (T q a j) (eq-or-lt_of_le {n = j} {m = k} (omega arith))
    where
      new : tidy (body_of q.bodies k) ≡ body_of q.bodies k
      new =
          let i : k < length q.arities = omega (arith, count_is question q a) in
          let B = body question q a k i in
          let F = body-field question q a k i at place in
          subst (λ (P : Term). tidy P ≡ P) (sym B.nth)
          (tidied refl 0 B.depth B.term (omega arith)
          (subst (λ (l : List ℕ). InScope 0 l B.depth B.term) (sym (arities ∙ accepted_arities question q a)) B.scope) (h ∙ F.bytes))

  pub all_looked_at : definitions_of question ≤ k → HasTidied question
  unfolding TidiedBelow
  all_looked_at past q a =
      all-tidied q.bodies
      (λ j h. T q a j (omega (arith, count_is question q a, (count_bodies q.arities q.arities q.bodies (well question q a).bodies).0)))
