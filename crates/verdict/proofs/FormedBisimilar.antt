-- Terms of one form are late and early bisimilar to the same terms, and what is found for their forms is found for them. Assumes nothing.
use mathlib.Core.Path.{◌≡◌, sym, ◌∙◌, ap, subst, subst₂}
use mathlib.Core.Logic.{inl, inr}
use Prim.Native.Nat.{ℕ}
use Rattle.calculus.specs.Abstraction.{Act}
use Rattle.calculus.specs.Term.{Term, ren, put}
use Rattle.calculus.specs.Free.{Free}
use Rattle.calculus.specs.Definitions.{Defs}
use Rattle.calculus.specs.Published.{Action, input, Avoids}
use Rattle.calculus.specs.Tidy.{tidy}
use Rattle.calculus.proofs.PublishedSteps.{named, avoids_named}
use Rattle.calculus.proofs.TidyTransitions.{alike_free}
use Rattle.late_early.specs.Concrete.{Concrete}
use Rattle.late_early.specs.LateEarly.{Kind, late, early, Binary, Received, AnsweredAs, Bisimulation, Bisimilar}
use Rattle.late_early.proofs.ConcreteSteps.{concrete_transition, transition_concrete}
use Rattle.late_early.proofs.ReceivedNames.{Offered, Found}
use Rattle.steps.proofs.FormLaws.{Form}
use Rattle.field.proofs.FormedParts.{either_formed}

module _ (Δ : Defs) {form : Term → Term} (formed : Form form) where
  -- terms of one form have the same free names
  free_alike : (P Q : Term) → form P ≡ form Q → (n : ℕ) → Free n P → Free n Q
  free_alike P Q e n = alike_free P Q (sym (formed.tidied P) ∙ ap tidy e ∙ formed.tidied Q) n

  alike-ren : (ρ : ℕ → ℕ) (P Q : Term) → form P ≡ form Q → form (ren ρ P) ≡ form (ren ρ Q)
  alike-ren ρ P Q e = formed.renamed ρ P ∙ ap (ren ρ) e ∙ sym (formed.renamed ρ Q)

  -- a transition of Table 3.1, made by a term of the same form
  record Likewise (Q : Term) (α : Action) (P' : Term) : Type 0 where
    result : Term
    transition : Concrete Δ Q α result
    alike : form result ≡ form P'

  likewise : (P Q : Term) → form P ≡ form Q → {α : Action} {P' : Term} → Concrete Δ P α P' → Avoids α P → Likewise Q α P'
  likewise P Q e t h =
      let u = formed.moves Δ P Q e (concrete_transition Δ t h) in
      record { result = u.result; transition = (transition_concrete Δ u.transition tt).0; alike = u.formed }

  avoids_alike : (P Q : Term) → form P ≡ form Q → (α : Action) → Avoids α P → Avoids α Q
  avoids_alike P Q e α h y i f = h y i (free_alike Q P (sym e) y f)

  -- R relates terms of these forms
  record Formed (R : Binary) (P Q : Term) : Type 0 where
    left : Term
    right : Term
    rel : R left right
    lefts : form left ≡ form P
    rights : form right ≡ form Q

  -- P does α: so does the left one, and what the right one answers Q answers
  module _ {R : Binary} {P Q : Term} (r : Formed R P Q) where
    to_left : {α : Action} {P' : Term} → Concrete Δ P α P' → Avoids α P → Likewise r.left α P'
    to_left t h = likewise P r.left (sym r.lefts) t h

    left_avoids : (α : Action) → Avoids α P → Avoids α r.left
    left_avoids α h = avoids_alike P r.left (sym r.lefts) α h

    right_avoids : (α : Action) → Avoids α Q → Avoids α r.right
    right_avoids α h = avoids_alike Q r.right (sym r.rights) α h

    from_right : {α : Action} {T : Term} → Concrete Δ r.right α T → Avoids α Q → Likewise Q α T
    from_right {α} t h = likewise r.right Q r.rights t (right_avoids α h)

  -- the results, with the name y received
  received_formed : {R : Binary} (ρ : ℕ → ℕ) (A B P' Q' : Term) → R (ren ρ A) (ren ρ B) → form A ≡ form P' → form Q' ≡ form B → Formed R (ren ρ P') (ren ρ Q')
  received_formed ρ A B P' Q' h e f =
      record { left = ren ρ A; right = ren ρ B; rel = h; lefts = alike-ren ρ A P' e; rights = sym (alike-ren ρ Q' B f) }

  formed_received : (k : Kind) {R : Binary} → Bisimulation Δ k R → {P Q : Term} → Formed R P Q → {a x : ℕ} {P' : Term} → Concrete Δ P (input a x) P'
      → Avoids (input a x) P → Avoids (input a x) Q → Received Δ k (Formed R) a x P' Q
  formed_received late b r {a} {x} {P'} t h g =
      let u = to_left r t h in
      let o = b.received r.rel u.transition (left_avoids r (input a x) h) (right_avoids r (input a x) g) in
      let v = from_right r o.transition g in
      record {
        result = v.result;
        transition = v.transition;
        related = λ y. received_formed (put x y) u.result o.result P' v.result (o.related y) u.alike v.alike;
      }
  formed_received early b r {a} {x} {P'} t h g =
      λ y.
      let u = to_left r t h in
      let o = b.received r.rel u.transition (left_avoids r (input a x) h) (right_avoids r (input a x) g) y in
      let v = from_right r o.transition g in
      record {
        result = v.result;
        transition = v.transition;
        related = received_formed (put x y) u.result o.result P' v.result o.related u.alike v.alike;
      }

  formed_bisimulation : (k : Kind) {R : Binary} → Bisimulation Δ k R → Bisimulation Δ k (Formed R)
  formed_bisimulation k b = record {
    symmetric = λ r. record { left = r.right; right = r.left; rel = b.symmetric r.rel; lefts = r.rights; rights = r.lefts };
    received = λ {P} {Q} r t h g. formed_received k b r t h g;
    answered = λ {P} {Q} r {α} {P'} t h g other.
        let u = to_left r t h in
        let o = b.answered r.rel u.transition (left_avoids r α h) (right_avoids r α g) other in
        let v = from_right r o.transition g in
        record {
          result = v.result;
          transition = v.transition;
          related = record { left = u.result; right = o.result; rel = o.related; lefts = u.alike; rights = sym v.alike };
        };
  }

  pub bisimilar_formed : {k : Kind} {A B : Term} → Bisimilar Δ k A B → (P Q : Term) → form A ≡ form P → form B ≡ form Q → Bisimilar Δ k P Q
  bisimilar_formed {k} {A} {B} b P Q e f = record {
    by = Formed b.by;
    bisimulation = formed_bisimulation k b.bisimulation;
    relates = record { left = A; right = B; rel = b.relates; lefts = e; rights = f };
  }

  -- What is found for the forms of P and Q within a relation of forms, is found for P and Q.
  module _ (R : Binary) (P Q : Term) (x : ℕ) (new : ¬ Free x P) (new' : ¬ Free x Q) where
    abbrev OfForms : Binary
    OfForms A B = R (form A) (form B)

    binds_new_lem : (a : ℕ) (T : Term) → ¬ Free x T → Avoids (input a x) T
    binds_new_lem a T h y (inr x3) f = elim x3 [ ]
    binds_new_lem a T h y (inl e) f = h (subst (λ n. Free n T) e f)

    same_forms : (A B A₁ B₁ : Term) → form A ≡ form A₁ → form B ≡ form B₁ → R (form A) (form B) → R (form A₁) (form B₁)
    same_forms A B A₁ B₁ e f h = subst₂ R e f h

    offered_formed : (y : ℕ) → Offered Δ P Q x y → Offered Δ (form P) (form Q) x y
    offered_formed y (inl h) = inl (either_formed formed P Q y h)
    offered_formed y (inr e) = inr e

    forth : {α : Action} {P' : Term} → Concrete Δ P α P' → Avoids α P → Likewise (form P) α P'
    forth t h = likewise P (form P) (sym (formed.again P)) t h

    back : {α : Action} {Q' : Term} → Concrete Δ (form Q) α Q' → Avoids α Q → Likewise Q α Q'
    back {α} t h = likewise (form Q) Q (formed.again Q) t (avoids_alike Q (form Q) (sym (formed.again Q)) α h)

    pub found_formed : (k : Kind) (a : ℕ) (P' : Term) → Concrete Δ P (input a x) P'
        → ((A : Term) → Concrete Δ (form P) (input a x) A → Found Δ k OfForms a x (form P) A (form Q)) → Found Δ k OfForms a x P P' Q
    found_formed late a P' t found =
        let u = forth t (binds_new_lem a P new) in
        let o = found u.result u.transition in
        let v = back o.transition (binds_new_lem a Q new') in
        record {
          result = v.result;
          transition = v.transition;
          related = λ y h.
              same_forms (ren (put x y) u.result) (ren (put x y) o.result) (ren (put x y) P') (ren (put x y) v.result)
              (alike-ren (put x y) u.result P' u.alike) (alike-ren (put x y) o.result v.result (sym v.alike)) (o.related y (offered_formed y h));
        }
    found_formed early a P' t found =
        λ y h.
        let u = forth t (binds_new_lem a P new) in
        let o = found u.result u.transition y (offered_formed y h) in
        let v = back o.transition (binds_new_lem a Q new') in
        record {
          result = v.result;
          transition = v.transition;
          related = same_forms (ren (put x y) u.result) (ren (put x y) o.result) (ren (put x y) P') (ren (put x y) v.result)
              (alike-ren (put x y) u.result P' u.alike) (alike-ren (put x y) o.result v.result (sym v.alike)) o.related;
        }

    pub answered_formed : (α : Act) (P' : Term) → Concrete Δ P (named x α) P'
        → ((A : Term) → Concrete Δ (form P) (named x α) A → AnsweredAs Δ OfForms (named x α) A (form Q)) → AnsweredAs Δ OfForms (named x α) P' Q
    answered_formed α P' t found =
        let u = forth t (avoids_named x α P new) in
        let o = found u.result u.transition in
        let v = back o.transition (avoids_named x α Q new') in
        record {
          result = v.result;
          transition = v.transition;
          related = same_forms u.result o.result P' v.result u.alike (sym v.alike) o.related;
        }
