-- Exploration without its capacity: `Run known waiting rs final`, the rows that it makes and the situations that it knows at its end. With a
-- capacity it makes the same rows if they are no more than that, and is incomplete otherwise. Assumes nothing.
use mathlib.Core.List.{List, [], ◌∷◌, ◌++◌, append_assoc}
use mathlib.Core.Path.{◌≡◌, refl, sym, ◌∙◌, ap, subst}
use native.Mathlib.Omega.{arith}
use Prim.Native.Nat.{ℕ, zero, suc, ◌<◌, ◌≤◌}
use lib.ListN.{length}
use Rattle.calculus.specs.Lists.{◌∈◌, All, Distinct}
use Rattle.calculus.proofs.Membership.{∈-left, all-++, all-∈, ∈-all}
use Rattle.field.specs.Setting.{Setting}
use Rattle.field.specs.Situation.{Situation}
use Rattle.field.specs.Successors.{Outcome, past_limit, leads, successors}
use Rattle.field.specs.Exploration.{unseen, together, Row, Exploration, incomplete, explored, with_row, explore}
pub use Rattle.field.specs.Exploration.{selves}
use Rattle.field.proofs.Unseen.{unseen-∈, unseen_distinct, unseen-all}
use Rattle.field.proofs.Reached.{LeadsTo, together-leads, Invariant}

-- what a row leads to that is not known yet
abbrev pub fresh_in : List Situation → List (List Situation) → List Situation
fresh_in known ms = unseen known (together ms)

rows_of : (r : Row) (x : Exploration) (rs : List Row) → with_row r x ≡ explored rs → (ts : List Row) × (x ≡ explored ts) × (rs ≡ r ∷ ts)
unfolding with_row
rows_of r incomplete rs e = let z : ◌≡◌ {A = ℕ} 0 1 = cc in absurd (omega arith)
rows_of r (explored ts) rs e = (ts, refl, (cc))

module _ (S : Setting) where
  pub data Run : List Situation → List Situation → List Row → List Situation → Type 0 where
    finished : {known : List Situation} → Run known [] [] known
    taken : {known waiting final : List Situation} {s : Situation} {ms : List (List Situation)} {rs : List Row} → successors S s ≡ leads ms
        → Run (known ++ fresh_in known ms) (waiting ++ fresh_in known ms) rs final
        → Run known (s ∷ waiting) (record { self = s; wants = ms } ∷ rs) final

  module _ (n : ℕ) (known : List Situation) (s : Situation) (waiting : List Situation) where
    pub explore-past : successors S s ≡ past_limit → explore S (suc n) known (s ∷ waiting) ≡ incomplete
    unfolding explore
    explore-past e = rw (explore, e) refl

    pub explore-leads : (ms : List (List Situation)) → successors S s ≡ leads ms
        → explore S (suc n) known (s ∷ waiting)
        ≡ with_row (record { self = s; wants = ms }) (explore S n (known ++ fresh_in known ms) (waiting ++ fresh_in known ms))
    unfolding explore
    explore-leads ms e = rw (explore, e) refl

  pub record Ran (n : ℕ) (known waiting : List Situation) (rs : List Row) : Type 0 where
    pub final : List Situation
    pub run : Run known waiting rs final
    pub within : length rs ≤ n

  ran_none : (n : ℕ) (known : List Situation) (rs : List Row) → explored [] ≡ explored rs → Ran n known [] rs
  ran_none n known rs e = let d : [] ≡ rs = cc in subst (Ran n known []) d (record { final = known; run = finished; within = omega arith })

  pub ran : (n : ℕ) (known waiting : List Situation) (rs : List Row) → explore S n known waiting ≡ explored rs → Ran n known waiting rs
  unfolding explore
  ran zero known [] rs e = ran_none zero known rs e
  ran zero known (s ∷ waiting) rs e = let z : ◌≡◌ {A = ℕ} 0 1 = cc in absurd (omega arith)
  ran (suc n) known [] rs e = ran_none (suc n) known rs e
  ran (suc n) known (s ∷ waiting) rs e = go (successors S s) refl (λ ms. ran n (known ++ fresh_in known ms) (waiting ++ fresh_in known ms))
    where
      go : (o : Outcome) → successors S s ≡ o
          → ((ms : List (List Situation)) (ts : List Row)
          → explore S n (known ++ fresh_in known ms) (waiting ++ fresh_in known ms) ≡ explored ts
          → Ran n (known ++ fresh_in known ms) (waiting ++ fresh_in known ms) ts)
          → Ran (suc n) known (s ∷ waiting) rs
      go past_limit d r = let p = explore-past n known s waiting d in let z : ◌≡◌ {A = ℕ} 0 1 = cc in absurd (omega arith)
      go (leads ms) d r =
          let (ts, x, k) = rows_of (record { self = s; wants = ms })
          (explore S n (known ++ fresh_in known ms) (waiting ++ fresh_in known ms)) rs (sym (explore-leads n known s waiting ms d) ∙ e) in
          let record { final = final; run = run; within = within } = r ms ts x in
          subst (Ran (suc n) known (s ∷ waiting)) (sym k) (record { final = final; run = taken d run; within = omega arith })

  pub run_explored : {known waiting final : List Situation} {rs : List Row} → Run known waiting rs final → (n : ℕ) → length rs ≤ n
      → explore S n known waiting ≡ explored rs
  unfolding explore with_row
  run_explored finished zero l = refl
  run_explored finished (suc n) l = refl
  run_explored (taken e r) zero l = absurd (omega arith)
  run_explored (taken {known = known} {waiting = waiting} {s = s} {ms = ms} e r) (suc n) l =
      explore-leads n known s waiting ms e ∙ ap (with_row (record { self = s; wants = ms })) (run_explored r n (omega arith))

  pub run_incomplete : {known waiting final : List Situation} {rs : List Row} → Run known waiting rs final → (n : ℕ) → n < length rs
      → explore S n known waiting ≡ incomplete
  unfolding explore with_row
  run_incomplete finished n l = absurd (omega arith)
  run_incomplete (taken e r) zero l = refl
  run_incomplete (taken {known = known} {waiting = waiting} {s = s} {ms = ms} e r) (suc n) l =
      explore-leads n known s waiting ms e ∙ ap (with_row (record { self = s; wants = ms })) (run_incomplete r n (omega arith))

  -- The situations known at the end are those of the rows, in the order in which they were found.
  pub run_final : {known waiting final : List Situation} {rs : List Row} → Run known waiting rs final
      → (done : List Situation) → known ≡ done ++ waiting → final ≡ done ++ selves rs
  run_final finished done e = e
  run_final (taken {known = known} {waiting = waiting} {s = s} {ms = ms} e r) done k =
      run_final r (done ++ (s ∷ [])) (ap (λ l. l ++ fresh_in known ms) k ∙ simp append_assoc) ∙ simp append_assoc

  -- What is known stays known, and what is distinct stays so.
  pub run_known : {known waiting final : List Situation} {rs : List Row} → Run known waiting rs final → (t : Situation) → t ∈ known → t ∈ final
  run_known finished t m = m
  run_known (taken {known = known} {ms = ms} e r) t m = run_known r t (∈-left t known (fresh_in known ms) m)

  pub run_distinct : {known waiting final : List Situation} {rs : List Row} → Run known waiting rs final → Distinct known → Distinct final
  run_distinct finished d = d
  run_distinct (taken {known = known} {ms = ms} e r) d = run_distinct r (unseen_distinct known (together ms) d)

  pub run_within : {known waiting final : List Situation} {rs : List Row} → Run known waiting rs final
      → All (λ r. successors S r.self ≡ leads r.wants) rs
  run_within finished = tt
  run_within (taken e r) = (e, run_within r)

  -- A set that is closed under what situations lead to holds all that is known if it held it before.
  module _ (R : Situation → Type 0) (closed : (s t : Situation) → R s → LeadsTo S s t → R t) where
    pub all-together : (s : Situation) (ms : List (List Situation)) → R s → successors S s ≡ leads ms → All R (together ms)
    all-together s ms h e = ∈-all R (together ms) (λ t i. closed s t h (together-leads S s ms e t i))

    pub all-fresh : (known : List Situation) (s : Situation) (ms : List (List Situation)) → R s → successors S s ≡ leads ms → All R (fresh_in known ms)
    all-fresh known s ms h e =
        ∈-all R (fresh_in known ms) (λ t i. all-∈ R (together ms) (all-together s ms h e) t (unseen-∈ known (together ms) t i))

    pub run_all : {known waiting final : List Situation} {rs : List Row} → Run known waiting rs final → All R known → All R waiting → All R final
    run_all finished k w = k
    run_all (taken {known = known} {waiting = waiting} {s = s} {ms = ms} e r) k w =
        let f = all-fresh known s ms w.0 e in
        run_all r (all-++ R known (fresh_in known ms) k f) (all-++ R waiting (fresh_in known ms) w.1 f)

  -- Where the test of equality is exact, all that a row leads to is known at the end.
  module _ (Good : Situation → Type 0) (h : Invariant S Good) where
    pub run_closed : {known waiting final : List Situation} {rs : List Row} → Run known waiting rs final → All Good known → All Good waiting
        → All (λ r. (t : Situation) → t ∈ together r.wants → t ∈ final) rs
    run_closed finished k w = tt
    run_closed (taken {known = known} {waiting = waiting} {s = s} {ms = ms} e r) k w =
        let f = all-fresh Good h.kept known s ms w.0 e in (
          λ t i. run_known r t (unseen-all Good h.exact known (together ms) k (all-together Good h.kept s ms w.0 e) t i),
          run_closed r (all-++ Good known (fresh_in known ms) k f) (all-++ Good waiting (fresh_in known ms) w.1 f),
        )
