-- Theorem `tidied_list`: the list of a part's steps, their results tidied, is that of the tidied part under tidied definitions. So a lister may tidy
-- both first. Assumes nothing.
use mathlib.Core.Bool.{Bool, true, false, cond, ◌&&◌}
use mathlib.Core.List.{List, [], ◌∷◌, map}
use mathlib.Core.Logic.{◌⊎◌, inl, inr, ◌↔◌}
use mathlib.Core.Path.{◌≡◌, refl, sym, ◌∙◌, ap, ap₂}
use native.Mathlib.Omega.{arith}
use Prim.Native.Nat.{ℕ, zero, suc, ◌≤◌}
use Rattle.calculus.specs.Definitions.{Defs}
use Rattle.calculus.specs.Distinction.{among}
use Rattle.calculus.specs.Free.{Free, fn}
use Rattle.calculus.specs.Term.{Term, nil, tau, inp, out, bout, mat, sum, par, res, call, lift, ren}
use Rattle.calculus.specs.Tidy.{outside, restrict_used, tidy}
use Rattle.calculus.proofs.Tidying.{of_free_tidy, tidy-tidy}
use Rattle.calculus.proofs.TidyTransitions.{alike_free, also_under}
use Rattle.terms.specs.Encoding.{InScope}
use Rattle.terms.specs.Grammar.{sequential, parallel_outermost, guarded}
use Rattle.terms.specs.Limits.{name_count, longest_term}
use Rattle.terms.specs.Question.{body_of}
use Rattle.terms.specs.WellFormed.{BodiesAllowed, PartAllowed}
use Rattle.terms.proofs.TidyShorter.{tidy_shorter}
use Rattle.steps.specs.Derived.{Derived, TooMany, TooLong, ListsExactly}
use Rattle.calls.specs.ReachLimit.{PastCalls}
use Rattle.steps.specs.Limits.{most_steps, most_reached}
use Rattle.steps.specs.Listed.{ListedStep, listed_as}
use Rattle.steps.specs.Listing.{Listing, unsettled, listed, listing}
use Rattle.steps.proofs.CallLimitLaws.{within_calls, opens_guarded}
use Rattle.steps.proofs.Calls.{Opens}
use Rattle.steps.proofs.FormLaws.{tidied_form, form_scope}
use Rattle.steps.proofs.ListingLaws.{listing_exact}
use Rattle.calculus.proofs.Membership.{all_imp}
use Rattle.steps.proofs.QuestionDefinitions.{definitions, bodies_in_scope, opens_one}
use Rattle.steps.proofs.Scope.{scope_calls}
use Rattle.steps.proofs.Sorted.{ascending_sorted, sorted_same}

-- Tidied bodies are allowed as the bodies are.
sequential-ren : (ρ : ℕ → ℕ) (P : Term) → sequential (ren ρ P) ≡ sequential P
unfolding sequential
sequential-ren ρ nil = refl
sequential-ren ρ (tau P) = sequential-ren ρ P
sequential-ren ρ (inp a P) = sequential-ren (lift ρ) P
sequential-ren ρ (out a b P) = sequential-ren ρ P
sequential-ren ρ (bout a P) = sequential-ren (lift ρ) P
sequential-ren ρ (mat a b P) = sequential-ren ρ P
sequential-ren ρ (sum P Q) = ap₂ ◌&&◌ (sequential-ren ρ P) (sequential-ren ρ Q)
sequential-ren ρ (par P Q) = refl
sequential-ren ρ (res P) = sequential-ren (lift ρ) P
sequential-ren ρ (call k xs) = refl

guarded-ren : (ρ : ℕ → ℕ) (P : Term) → guarded (ren ρ P) ≡ guarded P
unfolding guarded
guarded-ren ρ nil = refl
guarded-ren ρ (tau P) = refl
guarded-ren ρ (inp a P) = refl
guarded-ren ρ (out a b P) = refl
guarded-ren ρ (bout a P) = refl
guarded-ren ρ (mat a b P) = guarded-ren ρ P
guarded-ren ρ (sum P Q) = ap₂ ◌&&◌ (guarded-ren ρ P) (guarded-ren ρ Q)
guarded-ren ρ (par P Q) = ap₂ ◌&&◌ (guarded-ren ρ P) (guarded-ren ρ Q)
guarded-ren ρ (res P) = guarded-ren (lift ρ) P
guarded-ren ρ (call k xs) = refl

sequential-used : (P : Term) → sequential (restrict_used P) ≡ sequential P
unfolding restrict_used sequential
sequential-used P = go (among (fn P) 0)
  where
    go : (b : Bool) → sequential (cond b (res P) (ren outside P)) ≡ sequential P
    go true = refl
    go false = sequential-ren outside P

guarded-used : (P : Term) → guarded (restrict_used P) ≡ guarded P
unfolding restrict_used guarded
guarded-used P = go (among (fn P) 0)
  where
    go : (b : Bool) → guarded (cond b (res P) (ren outside P)) ≡ guarded P
    go true = refl
    go false = guarded-ren outside P

pub sequential-tidy : (P : Term) → sequential (tidy P) ≡ sequential P
unfolding tidy sequential
sequential-tidy nil = refl
sequential-tidy (tau P) = sequential-tidy P
sequential-tidy (inp a P) = sequential-tidy P
sequential-tidy (out a b P) = sequential-tidy P
sequential-tidy (bout a P) = sequential-tidy P
sequential-tidy (mat a b P) = sequential-tidy P
sequential-tidy (sum P Q) = ap₂ ◌&&◌ (sequential-tidy P) (sequential-tidy Q)
sequential-tidy (par P Q) = refl
sequential-tidy (res P) = sequential-used (tidy P) ∙ sequential-tidy P
sequential-tidy (call k xs) = refl

outermost_ren : (ρ : ℕ → ℕ) (P : Term) → parallel_outermost (ren ρ P) ≡ parallel_outermost P
unfolding parallel_outermost
outermost_ren ρ nil = refl
outermost_ren ρ (tau P) = sequential-ren ρ P
outermost_ren ρ (inp a P) = sequential-ren (lift ρ) P
outermost_ren ρ (out a b P) = sequential-ren ρ P
outermost_ren ρ (bout a P) = sequential-ren (lift ρ) P
outermost_ren ρ (mat a b P) = sequential-ren ρ P
outermost_ren ρ (sum P Q) = ap₂ ◌&&◌ (sequential-ren ρ P) (sequential-ren ρ Q)
outermost_ren ρ (par P Q) = ap₂ ◌&&◌ (outermost_ren ρ P) (outermost_ren ρ Q)
outermost_ren ρ (res P) = outermost_ren (lift ρ) P
outermost_ren ρ (call k xs) = refl

outermost_used : (P : Term) → parallel_outermost (restrict_used P) ≡ parallel_outermost P
unfolding restrict_used parallel_outermost
outermost_used P = go (among (fn P) 0)
  where
    go : (b : Bool) → parallel_outermost (cond b (res P) (ren outside P)) ≡ parallel_outermost P
    go true = refl
    go false = outermost_ren outside P

pub outermost_tidy : (P : Term) → parallel_outermost (tidy P) ≡ parallel_outermost P
unfolding tidy parallel_outermost
outermost_tidy nil = refl
outermost_tidy (tau P) = sequential-tidy P
outermost_tidy (inp a P) = sequential-tidy P
outermost_tidy (out a b P) = sequential-tidy P
outermost_tidy (bout a P) = sequential-tidy P
outermost_tidy (mat a b P) = sequential-tidy P
outermost_tidy (sum P Q) = ap₂ ◌&&◌ (sequential-tidy P) (sequential-tidy Q)
outermost_tidy (par P Q) = ap₂ ◌&&◌ (outermost_tidy P) (outermost_tidy Q)
outermost_tidy (res P) = outermost_used (tidy P) ∙ outermost_tidy P
outermost_tidy (call k xs) = refl

pub guarded-tidy : (P : Term) → guarded (tidy P) ≡ guarded P
unfolding tidy guarded
guarded-tidy nil = refl
guarded-tidy (tau P) = refl
guarded-tidy (inp a P) = refl
guarded-tidy (out a b P) = refl
guarded-tidy (bout a P) = refl
guarded-tidy (mat a b P) = guarded-tidy P
guarded-tidy (sum P Q) = ap₂ ◌&&◌ (guarded-tidy P) (guarded-tidy Q)
guarded-tidy (par P Q) = ap₂ ◌&&◌ (guarded-tidy P) (guarded-tidy Q)
guarded-tidy (res P) = guarded-used (tidy P) ∙ guarded-tidy P
guarded-tidy (call k xs) = refl

pub bodies_tidied_lem : (arities sizes : List ℕ) (bodies : List Term) → BodiesAllowed arities sizes bodies → BodiesAllowed arities sizes (map tidy bodies)
unfolding BodiesAllowed
bodies_tidied_lem arities [] (P ∷ Ps) w = elim w [ ]
bodies_tidied_lem arities (a ∷ sizes) [] w = elim w [ ]
bodies_tidied_lem arities [] [] w = tt
bodies_tidied_lem arities (a ∷ sizes) (P ∷ Ps) (b, w) = (
  record {
    scope = form_scope tidied_form 0 arities a P b.scope;
    size = (let h = b.size in omega (arith, tidy_shorter a P));
    no_parallel = sequential-tidy P ∙ b.no_parallel;
    calls_guarded = guarded-tidy P ∙ b.calls_guarded;
  },
  bodies_tidied_lem arities sizes Ps w,
)

pub part_tidied : (arities : List ℕ) (P : Term) → PartAllowed arities P → PartAllowed arities (tidy P)
part_tidied arities P a = record {
  scope = form_scope tidied_form name_count arities 0 P a.scope;
  size = (let h = a.size in omega (arith, tidy_shorter 0 P));
  parallels_outermost = outermost_tidy P ∙ a.parallels_outermost;
}

pub body-tidied : (bodies : List Term) (k : ℕ) → body_of (map tidy bodies) k ≡ tidy (body_of bodies k)
unfolding body_of tidy
body-tidied [] k = refl
body-tidied (P ∷ Ps) zero = refl
body-tidied (P ∷ Ps) (suc k) = body-tidied Ps k

-- Lists that are exact for the same steps are the same.
module _ (names longest most x : ℕ) (Δ Δ₁ : Defs) (P Q : Term) (same : (s : ListedStep) → Derived tidy Δ names x P s ↔ Derived tidy Δ₁ names x Q s)
    (reach : PastCalls Δ most_reached P → PastCalls Δ₁ most_reached Q) where
  limits_same : TooMany tidy Δ names most x P ⊎ TooLong tidy Δ names longest x P ⊎ PastCalls Δ most_reached P
      → TooMany tidy Δ₁ names most x Q ⊎ TooLong tidy Δ₁ names longest x Q ⊎ PastCalls Δ₁ most_reached Q
  limits_same (inl h) = inl (record {
    steps = h.steps;
    distinct = h.distinct;
    derived = all_imp (Derived tidy Δ names x P) (Derived tidy Δ₁ names x Q) h.steps (λ s d. (same s).0 d) h.derived;
    many = h.many;
  })
  limits_same (inr (inl h)) = inr (inl (record { step = h.step; derived = (same h.step).0 h.derived; long = h.long }))
  limits_same (inr (inr h)) = inr (inr (reach h))

module _ (names longest most x : ℕ) (Δ Δ₁ : Defs) (P Q : Term) (same : (s : ListedStep) → Derived tidy Δ names x P s ↔ Derived tidy Δ₁ names x Q s)
    (reach : PastCalls Δ most_reached P ↔ PastCalls Δ₁ most_reached Q) where
  exact_same : (l k : Listing) → ListsExactly tidy Δ names longest most x P l → ListsExactly tidy Δ₁ names longest most x Q k → l ≡ k
  exact_same unsettled unsettled e f = refl
  exact_same unsettled (listed ts) e f = sym (f.limits.1 (limits_same names longest most x Δ Δ₁ P Q same reach.0 (e.limits.0 refl)))
  exact_same (listed ss) unsettled e f =
      e.limits.1 (limits_same names longest most x Δ₁ Δ Q P (λ s. ((same s).1, (same s).0)) reach.1 (f.limits.0 refl))
  exact_same (listed ss) (listed ts) e f =
      ap listed
      (sorted_same longest ss ts (ascending_sorted longest ss (e.ascending ss refl)) (ascending_sorted longest ts (f.ascending ts refl))
      (λ u m. (f.members ts refl u).1 ((same u).0 ((e.members ss refl u).0 m)))
      (λ u m. (e.members ss refl u).1 ((same u).1 ((f.members ts refl u).0 m))))

-- A step of a term under definitions is one of a term of the same tidied form under definitions of the same tidied bodies.
module _ (Δ Δ₁ : Defs) (arities : (k : ℕ) → Δ.arity k ≡ Δ₁.arity k) (bodies : (k : ℕ) → tidy (Δ.body k) ≡ tidy (Δ₁.body k)) (names x : ℕ) where
  derived_alike : (P Q : Term) → tidy P ≡ tidy Q → (s : ListedStep) → Derived tidy Δ names x P s → Derived tidy Δ₁ names x Q s
  derived_alike P Q e s d =
      let u = also_under Δ Δ₁ arities bodies P Q e d.transition in
      record {
        condition = d.condition;
        action = d.action;
        result = u.result;
        transition = u.transition;
        binds = d.binds;
        listed = d.listed ∙ ap (listed_as names d.condition d.action) (sym u.tidied);
      }

module _ (arities : List ℕ) (bodies : List Term) (allowed : BodiesAllowed arities arities bodies) (x : ℕ) (within : x ≤ name_count) (P : Term)
    (scope : InScope name_count arities 0 P) (fresh : ¬ Free x P) where
  Δ : Defs
  Δ = definitions arities bodies allowed

  Δ₁ : Defs
  Δ₁ = definitions arities (map tidy bodies) (bodies_tidied_lem arities arities bodies allowed)

  alike : (k : ℕ) → tidy (Δ.body k) ≡ tidy (Δ₁.body k)
  unfolding Δ Δ₁ definitions
  alike k = sym (ap tidy (body-tidied bodies k) ∙ tidy-tidy (body_of bodies k))

  one_arity : (k : ℕ) → Δ.arity k ≡ Δ₁.arity k
  unfolding Δ Δ₁ definitions
  one_arity k = refl

  same : (s : ListedStep) → Derived tidy Δ name_count x P s ↔ Derived tidy Δ₁ name_count x (tidy P) s
  same s = (
    derived_alike Δ Δ₁ one_arity alike name_count x P (tidy P) (sym (tidy-tidy P)) s,
    derived_alike Δ₁ Δ (λ k. sym (one_arity k)) (λ k. sym (alike k)) name_count x (tidy P) P (tidy-tidy P) s,
  )

  opens : Opens Δ 1 P
  unfolding Δ definitions
  opens = opens_one arities bodies allowed Δ (λ k. refl) refl P (scope_calls name_count arities 0 P scope)

  scope₁ : InScope name_count arities 0 (tidy P)
  scope₁ = form_scope tidied_form name_count arities 0 P scope

  opens₁ : Opens Δ₁ 1 (tidy P)
  unfolding Δ₁ definitions
  opens₁ =
      opens_one arities (map tidy bodies) (bodies_tidied_lem arities arities bodies allowed) Δ₁ (λ k. refl) refl (tidy P)
      (scope_calls name_count arities 0 (tidy P) scope₁)

  -- neither is past the limit on calls
  reach : PastCalls Δ most_reached P ↔ PastCalls Δ₁ most_reached (tidy P)
  reach = (
    λ h. absurd (within_calls Δ P (opens_guarded Δ 1 P opens) h),
    λ h. absurd (within_calls Δ₁ (tidy P) (opens_guarded Δ₁ 1 (tidy P) opens₁) h),
  )

  exact : ListsExactly tidy Δ name_count longest_term most_steps x P (listing tidy name_count longest_term most_steps (body_of bodies) 1 x P)
  unfolding Δ definitions
  exact =
      listing_exact tidied_form Δ name_count (suc name_count) (omega arith) arities (bodies_in_scope arities bodies allowed Δ (λ k. refl) refl) x (omega arith) P scope longest_term 1
      opens fresh (omega arith) most_steps

  exact₁ : ListsExactly tidy Δ₁ name_count longest_term most_steps x (tidy P) (listing tidy name_count longest_term most_steps (body_of (map tidy bodies)) 1 x (tidy P))
  unfolding Δ₁ definitions
  exact₁ =
      let allowed₁ = bodies_tidied_lem arities arities bodies allowed in
      listing_exact tidied_form Δ₁ name_count (suc name_count) (omega arith) arities (bodies_in_scope arities (map tidy bodies) allowed₁ Δ₁ (λ k. refl) refl) x (omega arith) (tidy P) scope₁ longest_term 1
      opens₁ (λ f. fresh (of_free_tidy x P f)) (omega arith) most_steps

  pub tidied_list : listing tidy name_count longest_term most_steps (body_of bodies) 1 x P
      ≡ listing tidy name_count longest_term most_steps (body_of (map tidy bodies)) 1 x (tidy P)
  tidied_list = exact_same name_count longest_term most_steps x Δ Δ₁ P (tidy P) same reach _ _ exact exact₁

-- Parts of one tidied form have one list under definitions whose bodies have one tidied form each.
module _ (arities : List ℕ) (bodies bodies₁ : List Term) (allowed : BodiesAllowed arities arities bodies) (allowed₁ : BodiesAllowed arities arities bodies₁)
    (alike : map tidy bodies ≡ map tidy bodies₁) (x : ℕ) (within : x ≤ name_count) where
  pub alike_list : (P Q : Term) → InScope name_count arities 0 P → InScope name_count arities 0 Q → tidy P ≡ tidy Q → ¬ Free x P
      → listing tidy name_count longest_term most_steps (body_of bodies) 1 x P ≡ listing tidy name_count longest_term most_steps (body_of bodies₁) 1 x Q
  alike_list P Q scope scope₁ e fresh =
      tidied_list arities bodies allowed x within P scope fresh
      ∙ ap₂ (λ (Ps : List Term) (R : Term). listing tidy name_count longest_term most_steps (body_of Ps) 1 x R) alike e
      ∙ sym (tidied_list arities bodies₁ allowed₁ x within Q scope₁ (λ f. fresh (alike_free Q P (sym e) x f)))
