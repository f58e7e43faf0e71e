-- The list of the steps of a term in scope holds exactly what Table 4.1 with rule Canon derives, for any number of names and any limits.
-- Assumes nothing.
use mathlib.Core.Bool.{cond}
use mathlib.Core.List.{List, [], ◌∷◌, ◌++◌}
use mathlib.Core.Logic.{◌⊎◌, inl, inr, ◌↔◌}
use mathlib.Core.Path.{◌≡◌, sym, ◌∙◌, ap, subst}
use native.Mathlib.Omega.{arith}
use Prim.Native.Nat.{ℕ, zero, suc, ◌+◌, ◌<◌, ◌≤◌}
use lib.ListN.{length}
use Rattle.calculus.specs.Abstraction.{Act, tau_a, inp_a, out_a, bout_a}
use Rattle.calculus.specs.Term.{Term, ren, ◌•◌}
use Rattle.calculus.specs.Free.{Free}
use Rattle.calculus.specs.Cond.{Cond, cls}
use Rattle.calculus.specs.Definitions.{Defs}
use Rattle.calculus.specs.Published.{Action}
use Rattle.calls.specs.ReachLimit.{PastCalls}
use Rattle.calculus.proofs.Conditions.{cls_le}
use Rattle.calculus.proofs.FreeNames.{From, of_free_ren}
use Rattle.calculus.proofs.Working.{Trans}
use Rattle.calculus.proofs.WorkingNames.{resid_free}
use Rattle.terms.specs.Encoding.{InScope}
use Rattle.terms.proofs.ScopeLaws.{free_below}
use Rattle.steps.specs.Raw.{Candidate, step, blocked, visible, silent}
use Rattle.calculus.specs.Lists.{◌∈◌, All, Distinct}
use Rattle.calculus.proofs.Membership.{all-++, all_imp, all-∈, distinct_length}
use Rattle.steps.proofs.CallLimitLaws.{never_past, within_calls, opens_guarded}
use Rattle.steps.proofs.Calls.{Opens}
use Rattle.steps.proofs.FormLaws.{Form, form_scope}
use Rattle.steps.proofs.Scope.{CallsInScope, scope_calls, in_scope, calls_ren, calls_residual}
use Rattle.steps.specs.Limits.{most_reached}
use Rattle.steps.specs.Listed.{ListedStep, listed_as, canon_step, result_bytes, bytes}
use Rattle.steps.specs.Listing.{collect, unsettled, listed, limited, listing}
use Rattle.steps.specs.Derived.{Ascending, Derived, TooMany, TooLong, ListsExactly}
use Rattle.steps.proofs.ByteOrder.{before_irreflexive}
use Rattle.steps.proofs.RawSound.{Sound, visible_sound, silent_sound}
use Rattle.steps.proofs.ClassLists.{length_classes}
use Rattle.steps.proofs.ListedBytes.{WellListed, bytes_determine, step-size}
use Rattle.steps.proofs.Sorted.{Precedes, Sorted, sorted_ascending, OfCandidate, collect_sorted, collect-all, collect-new}
use Rattle.steps.proofs.CanonSteps.{derived, derived_raw}
use Rattle.steps.proofs.Limited.{Long, limited-given, limited-fits, limited-passed, limited-many, limited_long}

-- Rewriting by classes keeps names below a number.
class_below : (b : ℕ) (M : Cond) (n : ℕ) → n < b → cls M n < b
class_below b M n h = omega (arith, cls_le M n)

sorted_distinct : (longest : ℕ) (ss : List ListedStep) → Sorted longest ss → Distinct ss
sorted_distinct longest [] a = tt
sorted_distinct longest (s ∷ ss) a =
    (λ m. before_irreflexive (bytes longest s) (all-∈ (Precedes longest s) ss a.0 s m), sorted_distinct longest ss a.1)

-- The new name is below `wide`; it may be the one behind the names, where those are all in use.
module _ {form : Term → Term} (formed : Form form) (Δ : Defs) (names wide : ℕ) (within : names ≤ wide) (arities : List ℕ) (bodies : (k : ℕ) → CallsInScope arities (Δ.body k))
    (x : ℕ) (x_below : x < wide) (P : Term) (scope : InScope names arities 0 P) where
  below : (n : ℕ) → Free n P → n < wide
  below n f = let h = free_below names arities 0 P scope n f in omega arith

  -- the result of a step, free and under the binder of a bound action
  free_result : (M : Cond) (A : Term) → ((n : ℕ) → Free n A → Free n P) → (n : ℕ) → Free n (ren (cls M) A) → n < 0 + wide
  free_result M A h n f =
      let (m, g, e) = of_free_ren (cls M) A n f in
      let k = class_below wide M m (below m (h m g)) in
      omega arith

  bound_result : (M : Cond) (A : Term) → ((n : ℕ) → Free (suc n) A → Free n P) → (n : ℕ) → Free n (ren (x • cls M) A) → n < 0 + wide
  bound_result M A h n f = go (of_free_ren (x • cls M) A n f)
    where
      go : From (x • cls M) A n → n < 0 + wide
      go (zero, g, e) = omega arith
      go (suc m, g, e) = let k = class_below wide M m (below m (h m g)) in omega arith

  well : (M : Cond) (α : Action) (ρ : ℕ → ℕ) (A : Term) → CallsInScope arities A → ((n : ℕ) → Free n (ren ρ A) → n < 0 + wide)
      → WellListed names wide arities (listed_as names M α (form (ren ρ A)))
  unfolding listed_as
  well M α ρ A c h = record { count = length_classes names M; scope = form_scope formed wide arities 0 (ren ρ A) (in_scope wide arities 0 (ren ρ A) h (calls_ren arities A ρ c)) }

  calls_after : {M : Cond} {α : Act} {A : Term} → Trans Δ P M α A → CallsInScope arities A
  calls_after t = calls_residual arities Δ bodies t (scope_calls names arities 0 P scope)

  pub well_listed : (M : Cond) (α : Act) (A : Term) → Trans Δ P M α A → WellListed names wide arities (canon_step form names x M α A)
  unfolding canon_step
  well_listed M tau_a A t = well M _ (cls M) A (calls_after t) (free_result M A (resid_free Δ t))
  well_listed M (inp_a a) A t = well M _ (x • cls M) A (calls_after t) (bound_result M A (resid_free Δ t))
  well_listed M (out_a a b) A t = well M _ (cls M) A (calls_after t) (free_result M A (resid_free Δ t))
  well_listed M (bout_a a) A t = well M _ (x • cls M) A (calls_after t) (bound_result M A (resid_free Δ t))

  module _ (longest n : ℕ) (opens : Opens Δ n P) where
    abbrev pub raw : List Candidate
    raw = visible Δ.body n P ++ silent Δ.body n P

    abbrev pub found : List ListedStep
    found = collect form names longest x raw []

    pub raw_sound : All (Sound Δ P) raw
    raw_sound = all-++ (Sound Δ P) (visible Δ.body n P) (silent Δ.body n P) (visible_sound Δ n P opens) (silent_sound Δ n P opens)

    -- what holds of every transition's listed step holds of every step in the list
    pub found_all : (S : ListedStep → Type 0) → ((M : Cond) (α : Act) (A : Term) → Trans Δ P M α A → S (canon_step form names x M α A)) → All S found
    found_all S h = collect-all form names longest x S raw [] (all_imp (Sound Δ P) (OfCandidate form names longest x S) raw go raw_sound) tt
      where
        go : (c : Candidate) → Sound Δ P c → OfCandidate form names longest x S c
        go (step M α A) t = h M α A t
        go blocked t = tt

    pub found_sorted : Sorted longest found
    found_sorted = collect_sorted form names longest x raw [] tt

    -- no call reaches too many
    pub listing_unlimited : (most : ℕ) → listing form names longest most Δ.body n x P ≡ limited longest most found
    unfolding listing
    listing_unlimited most = ap (λ b. cond b unsettled (limited longest most found)) (never_past Δ.body P (opens_guarded Δ n P opens))

    -- every listed step takes the same number of bytes
    pub listing_sizes : (most : ℕ) (ss : List ListedStep) → listing form names longest most Δ.body n x P ≡ listed ss
        → All (λ s. length (bytes longest s) ≡ names + (4 + longest)) ss
    listing_sizes most ss d =
        let e = sym (listing_unlimited most) ∙ d in
        subst (All (λ s. length (bytes longest s) ≡ names + (4 + longest))) (limited-given longest most found ss e)
        (all_both found (found_all (WellListed names wide arities) well_listed) (limited-fits longest most found ss e))
      where
        all_both : (ts : List ListedStep) → All (WellListed names wide arities) ts → All (λ s. length (result_bytes s) ≤ longest) ts
            → All (λ s. length (bytes longest s) ≡ names + (4 + longest)) ts
        all_both [] a b = tt
        all_both (t ∷ ts) a b = (step-size names longest t a.0.count b.0, all_both ts a.1 b.1)

    module _ (fresh : ¬ Free x P) (few : wide ≤ 128) where
      found_derived : All (Derived form Δ names x P) found
      found_derived = found_all (Derived form Δ names x P) (derived form Δ names x P fresh)

      -- a derived step has a result in scope
      pub derived_well : (s : ListedStep) → Derived form Δ names x P s → WellListed names wide arities s
      derived_well s d =
          let record { condition = M; action = α; residual = A; there = m; canon = e } = derived_raw form Δ names x P fresh n opens s d in
          subst (WellListed names wide arities) (sym e) (well_listed M α A (all-∈ (Sound Δ P) raw raw_sound (step M α A) m))

      derived_found : (s : ListedStep) → Derived form Δ names x P s → s ∈ found
      derived_found s d =
          let record { condition = M; action = α; residual = A; there = m; canon = e } = derived_raw form Δ names x P fresh n opens s d in
          let (u, l, b) = collect-new form names longest x raw [] M α A m in
          let g : WellListed names wide arities u = all-∈ (WellListed names wide arities) found (found_all (WellListed names wide arities) well_listed) u l in
          let c : s ≡ u = bytes_determine names wide few arities longest s u (derived_well s d) g (ap (bytes longest) e ∙ b) in
          subst (λ r. r ∈ found) (sym c) l

      found_iff : (s : ListedStep) → (s ∈ found) ↔ Derived form Δ names x P s
      found_iff s = (all-∈ (Derived form Δ names x P) found found_derived s, derived_found s)

      module _ (most : ℕ) where
        passed : (most < length found) ⊎ Long longest found → TooMany form Δ names most x P ⊎ TooLong form Δ names longest x P ⊎ PastCalls Δ most_reached P
        passed (inl h) =
            inl (record { steps = found; distinct = sorted_distinct longest found found_sorted; derived = found_derived; many = h })
        passed (inr (s, m, l)) = inr (inl (record { step = s; derived = (found_iff s).0 m; long = l }))

        not_within : TooMany form Δ names most x P ⊎ TooLong form Δ names longest x P ⊎ PastCalls Δ most_reached P → limited longest most found ≡ unsettled
        not_within (inl h) =
            let l : length h.steps ≤ length found =
            distinct_length h.steps found h.distinct (λ s m. derived_found s (all-∈ (Derived form Δ names x P) h.steps h.derived s m)) in
            limited-many longest most found (omega (arith, h.many))
        not_within (inr (inl h)) = limited_long longest most found (h.step, derived_found h.step h.derived, h.long)
        not_within (inr (inr h)) = absurd (within_calls Δ P (opens_guarded Δ n P opens) h)

        limited_exact : ListsExactly form Δ names longest most x P (limited longest most found)
        limited_exact = record {
          members = λ ss e s. subst (λ l. (s ∈ l) ↔ Derived form Δ names x P s) (limited-given longest most found ss e) (found_iff s);
          ascending = λ ss e. subst (λ l. Ascending longest l) (limited-given longest most found ss e) (sorted_ascending longest found found_sorted);
          limits = (λ e. passed (limited-passed longest most found e), not_within);
        }

        pub listing_exact : ListsExactly form Δ names longest most x P (listing form names longest most Δ.body n x P)
        listing_exact = subst (ListsExactly form Δ names longest most x P) (sym (listing_unlimited most)) limited_exact
