-- The raw steps, brought into canonical form, are the published transitions for the new name. Assumes nothing.
use mathlib.Core.Bool.{Bool, true, false}
use mathlib.Core.List.{◌++◌}
use mathlib.Core.Logic.{inl}
use mathlib.Core.Path.{◌≡◌, refl, sym, ◌∙◌, ap, subst}
use Prim.Native.Nat.{ℕ, zero, suc}
use Rattle.calculus.specs.Abstraction.{Act, tau_a, inp_a, out_a, bout_a}
use Rattle.calculus.specs.Term.{Term, ren, inst, ◌•◌}
use Rattle.calculus.specs.Free.{In, Free}
use Rattle.calculus.specs.Cond.{Cond, cls, canonical}
use Rattle.calculus.specs.Definitions.{Defs}
use Rattle.calculus.specs.Published.{Action, silent, input, output, new_output, bound_names, ren_action, Transition, Canon}
use Rattle.calculus.proofs.Renaming.{ren_triangle}
use Rattle.calculus.proofs.Conditions.{◌~◌, cls-~, ~_sym}
use Rattle.calculus.proofs.Canonical.{canonical-cls}
use Rattle.calculus.proofs.Working.{Trans}
use Rattle.calculus.proofs.WorkingNames.{cond_free}
use Rattle.calculus.proofs.PublishedBisimulation.{bound_ren}
use Rattle.calculus.proofs.PublishedSteps.{act, fill, named, avoids_named, unname, name_it}
use Rattle.steps.specs.Raw.{Candidate, step, visible, silent as silentSteps}
use Rattle.calculus.specs.Lists.{◌∈◌}
use Rattle.calculus.proofs.Membership.{∈-left, ∈_right}
use Rattle.steps.proofs.Calls.{Opens}
use Rattle.steps.specs.Listed.{ListedStep, listed_as, canon_step, classes_of}
use Rattle.steps.specs.Derived.{Derived}
use Rattle.steps.proofs.ClassLists.{unmatched}
use Rattle.steps.proofs.RawComplete.{is_silent, candidates, raw_complete}

-- An abstraction filled with a name of its own class, and then rewritten.
filled : (f : ℕ → ℕ) (x : ℕ) (A : Term) → f x ≡ x → ren (x • f) A ≡ ren f (ren (inst x) A)
filled f x A e = sym (ren_triangle f (inst x) (x • f) A go)
  where
    go : (n : ℕ) → f (inst x n) ≡ (x • f) n
    go zero = e
    go (suc n) = refl

module _ (form : Term → Term) where
  canon_of : (names x : ℕ) (M : Cond) (α : Act) (A : Term) → cls M x ≡ x
      → canon_step form names x M α A ≡ listed_as names M (ren_action (cls M) (named x α)) (form (ren (cls M) (fill (named x α) A)))
  unfolding canon_step
  canon_of names x M tau_a A e = refl
  canon_of names x M (inp_a a) A e = ap (λ R. listed_as names M (input (cls M a) x) (form R)) (filled (cls M) x A e)
  canon_of names x M (out_a a b) A e = refl
  canon_of names x M (bout_a a) A e = ap (λ R. listed_as names M (new_output (cls M a) x) (form R)) (filled (cls M) x A e)

  -- the same by the canonical form of an equivalent condition
  pub canon_listed : (names x : ℕ) (M N : Cond) (α : Act) (A : Term) → M ~ N → cls M x ≡ x
      → canon_step form names x M α A
      ≡ listed_as names (canonical N) (ren_action (cls (canonical N)) (named x α)) (form (ren (cls (canonical N)) (fill (named x α) A)))
  unfolding listed_as classes_of
  canon_listed names x M N α A s e =
      let f : cls (canonical N) ≡ cls M = canonical-cls N ∙ sym (cls-~ M N s) in
      rw f (canon_of names x M α A e)

-- an action that binds no name but x
renamed : (x : ℕ) (α : Action) → ((y : ℕ) → In y (bound_names α) → y ≡ x) → α ≡ named x (act α)
renamed x silent h = refl
renamed x (input a y) h = ap (input a) (h y (inl refl))
renamed x (output a b) h = refl
renamed x (new_output a y) h = ap (new_output a) (h y (inl refl))

named_binds : (x : ℕ) (α : Act) (f : ℕ → ℕ) (y : ℕ) → In y (bound_names (ren_action f (named x α))) → y ≡ x
named_binds x tau_a f y x'' = elim x'' [ ]
named_binds x (inp_a a) f y (mathlib.Core.Logic.inr x4) = elim x4 [ ]
named_binds x (out_a _ _) f y x6 = elim x6 [ ]
named_binds x (bout_a a) f y (mathlib.Core.Logic.inr x6) = elim x6 [ ]
named_binds x (inp_a a) f y (inl e) = e
named_binds x (bout_a a) f y (inl e) = e

module _ (form : Term → Term) (Δ : Defs) (names x : ℕ) (P : Term) (fresh : ¬ Free x P) where
  own_class : {M : Cond} {α : Act} {A : Term} → Trans Δ P M α A → cls M x ≡ x
  own_class {M} t = unmatched M x (λ o. fresh (cond_free Δ t x o))

  -- a transition of the working presentation, in canonical form
  pub derived : (M : Cond) (α : Act) (A : Term) → Trans Δ P M α A → Derived form Δ names x P (canon_step form names x M α A)
  derived M α A t =
      let record { cond = N; step = s; same = e } = name_it Δ t x fresh in
      record {
        condition = canonical N;
        action = ren_action (cls (canonical N)) (named x α);
        result = ren (cls (canonical N)) (fill (named x α) A);
        transition = Canon s (avoids_named x α P fresh);
        binds = named_binds x α (cls (canonical N));
        listed = canon_listed form names x M N α A (~_sym N M e) (own_class t);
      }

  -- a raw step whose canonical form is s
  pub record Raw (n : ℕ) (s : ListedStep) : Type 0 where
    pub condition : Cond
    pub action : Act
    pub residual : Term
    pub there : step condition action residual ∈ (visible Δ.body n P ++ silentSteps Δ.body n P)
    pub canon : s ≡ canon_step form names x condition action residual

  of_candidates : (n : ℕ) (silent? : Bool) (c : Candidate) → c ∈ candidates Δ silent? n P → c ∈ (visible Δ.body n P ++ silentSteps Δ.body n P)
  of_candidates n true c m = ∈_right c (visible Δ.body n P) (silentSteps Δ.body n P) m
  of_candidates n false c m = ∈-left c (visible Δ.body n P) (silentSteps Δ.body n P) m

  of_transition : (n : ℕ) → Opens Δ n P → {M : Cond} {α : Action} {P' : Term} → Transition Δ P M α P'
      → ((y : ℕ) → In y (bound_names α) → y ≡ x) → Raw n (listed_as names M α (form P'))
  of_transition n o (Canon {N = N} {α = α} {P' = P'} s av) b =
      let record { abs = A; step = t; filled = e; away = _ } = unname Δ s in
      let record { condition = K; same = k; there = m } = raw_complete Δ n o t in
      let f : ℕ → ℕ = cls (canonical N) in
      let α-named : α ≡ named x (act α) = renamed x α (λ y i. b y (subst (λ ys. In y ys) (sym (bound_ren f α)) i)) in
      let own : cls K x ≡ x = ap (λ g. g x) (sym (cls-~ N K k)) ∙ own_class t in
      record {
        condition = K;
        action = act α;
        residual = A;
        there = of_candidates n (is_silent (act α)) (step K (act α) A) m;
        canon =
            ap (λ X. listed_as names (canonical N) (ren_action f α) (form (ren f X))) e
            ∙ ap (λ β. listed_as names (canonical N) (ren_action f β) (form (ren f (fill β A)))) α-named
            ∙ sym (canon_listed form names x K N (act α) A (~_sym N K k) own);
      }

  -- a published transition for the new name comes from a raw step
  pub derived_raw : (n : ℕ) → Opens Δ n P → (s : ListedStep) → Derived form Δ names x P s → Raw n s
  derived_raw n o s d =
      subst (λ r. Raw n r) (sym d.listed) (of_transition n o d.transition d.binds)
