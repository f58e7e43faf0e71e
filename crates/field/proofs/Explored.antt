-- What `field_of` answers, in the terms of `successors`: the situations reached, each once, in the order of their finding, if they are within
-- the capacity and none is past a limit; else it is incomplete. Assumes nothing.
--
-- Over an `Invariant S Good` (Reached) and a good start. For its users: `explored-all` and `explored-none` (two answers, each exactly when),
-- `explored_within` and `explored-past` (the same question under other capacities).
use mathlib.Core.List.{List, [], ◌∷◌, ◌++◌}
use mathlib.Core.Logic.{inl, inr, ◌↔◌}
use mathlib.Core.Path.{◌≡◌, refl, sym, ◌∙◌, ap, subst}
use native.Mathlib.Omega.{arith}
use Prim.Native.Nat.{ℕ, zero, suc, ◌+◌, ◌<◌, ◌≤◌}
use lib.ListN.{length, length-append, length-map}
use Rattle.calculus.specs.Lists.{◌∈◌, All, Distinct}
use Rattle.calculus.proofs.Membership.{all-++, all-∈, distinct_length}
use Rattle.field.specs.Setting.{Setting}
use Rattle.field.specs.Situation.{Situation}
use Rattle.field.specs.Successors.{Outcome, past_limit, leads, successors}
use Rattle.field.specs.Exploration.{together, Row, Exploration, incomplete, explored, with_row, explore, field_of}
use Rattle.field.proofs.Members.{map-∈}
use Rattle.field.proofs.Unseen.{unseen_distinct}
use Rattle.field.proofs.Reached.{leads-together, Reached, at_start, onward, ReachesPast, Invariant}
use Rattle.field.proofs.Run.{selves, fresh_in, Run, taken, explore-leads, Ran, ran, run_explored, run_incomplete, run_final, run_known, run_distinct, run_within, run_all, all-fresh, run_closed}

incomplete-rest : (r : Row) (x : Exploration) → with_row r x ≡ incomplete → x ≡ incomplete
unfolding with_row
incomplete-rest r incomplete e = refl
incomplete-rest r (explored rs) e = let z : ◌≡◌ {A = ℕ} 0 1 = cc in absurd (omega arith)

module _ (S : Setting) (start : Situation) where
  -- the rows of all situations reached
  pub record Rows (rs : List Row) : Type 0 where
    pub first : (ts : List Situation) × (selves rs ≡ start ∷ ts)
    pub distinct : Distinct (selves rs)
    pub reached : (s : Situation) → (s ∈ selves rs) ↔ Reached S start s
    pub within : All (λ r. successors S r.self ≡ leads r.wants) rs

  run_start : (capacity : ℕ) (rs : List Row) → field_of S capacity start ≡ explored rs → Ran S capacity (start ∷ []) (start ∷ []) rs
  unfolding field_of
  run_start capacity rs e = ran S capacity (start ∷ []) (start ∷ []) rs e

  -- Under another capacity the same rows are made if they fit it.
  module _ (capacity : ℕ) (rs : List Row) (e : field_of S capacity start ≡ explored rs) where
    pub explored-length : length rs ≤ capacity
    explored-length = (run_start capacity rs e).within

    pub explored-leads : All (λ r. successors S r.self ≡ leads r.wants) rs
    explored-leads = run_within S (run_start capacity rs e).run

    pub explored_within : (other : ℕ) → length rs ≤ other → field_of S other start ≡ explored rs
    unfolding field_of
    explored_within other l = run_explored S (run_start capacity rs e).run other l

    pub explored-past : (other : ℕ) → other < length rs → field_of S other start ≡ incomplete
    unfolding field_of
    explored-past other l = run_incomplete S (run_start capacity rs e).run other l

  module _ (capacity : ℕ) where
    -- n situations may still be taken up: the capacity less those taken up, which are known and not waiting.
    record Underway (n : ℕ) (known waiting : List Situation) : Type 0 where
      distinct : Distinct known
      found : All (Reached S start) known
      left : All (Reached S start) waiting
      counted : length known + n ≡ capacity + length waiting

    take_up : (n : ℕ) (known : List Situation) (s : Situation) (waiting : List Situation) (ms : List (List Situation))
        → successors S s ≡ leads ms → Underway (suc n) known (s ∷ waiting) → Underway n (known ++ fresh_in known ms) (waiting ++ fresh_in known ms)
    take_up n known s waiting ms e u =
        let fresh = fresh_in known ms in
        let f = all-fresh S (Reached S start) (λ u t. onward) known s ms u.left.0 e in
        record {
          distinct = unseen_distinct known (together ms) u.distinct;
          found = all-++ (Reached S start) known fresh u.found f;
          left = all-++ (Reached S start) waiting fresh u.left.1 f;
          counted = omega (arith, length-append known fresh, length-append waiting fresh);
        }

    passed : (n : ℕ) (known waiting : List Situation) → Underway n known waiting → explore S n known waiting ≡ incomplete
        → ReachesPast S start capacity
    unfolding explore
    passed zero known [] u e = let z : ◌≡◌ {A = ℕ} 0 1 = cc in absurd (omega arith)
    passed zero known (s ∷ waiting) u e =
        inl (record { situations = known; distinct = u.distinct; members = u.found; many = omega arith })
    passed (suc n) known [] u e = let z : ◌≡◌ {A = ℕ} 0 1 = cc in absurd (omega arith)
    passed (suc n) known (s ∷ waiting) u e =
        go (successors S s) refl (λ ms. passed n (known ++ fresh_in known ms) (waiting ++ fresh_in known ms))
      where
        go : (o : Outcome) → successors S s ≡ o
            → ((ms : List (List Situation)) → Underway n (known ++ fresh_in known ms) (waiting ++ fresh_in known ms)
            → explore S n (known ++ fresh_in known ms) (waiting ++ fresh_in known ms) ≡ incomplete → ReachesPast S start capacity)
            → ReachesPast S start capacity
        go past_limit p r = inr (record { there = s; reached = u.left.0; past = p })
        go (leads ms) p r =
            r ms (take_up n known s waiting ms p u)
            (incomplete-rest (record { self = s; wants = ms }) (explore S n (known ++ fresh_in known ms) (waiting ++ fresh_in known ms))
            (sym (explore-leads S n known s waiting ms p) ∙ e))

    incomplete-passed : field_of S capacity start ≡ incomplete → ReachesPast S start capacity
    unfolding field_of
    incomplete-passed e = passed capacity (start ∷ []) (start ∷ []) (record { distinct = ((λ m. m), tt); found = (at_start, tt); left = (at_start, tt); counted = omega arith }) e

  -- the row of a situation
  pub row_of : (rs : List Row) → All (λ r. successors S r.self ≡ leads r.wants) rs → (s : Situation) → s ∈ selves rs
      → (r : Row) × (r ∈ rs) × (successors S s ≡ leads r.wants)
  row_of rs w s m =
      let (r, i, e) = map-∈ (λ (r : Row). r.self) s rs m in
      (r, i, ap (successors S) e ∙ all-∈ (λ r. successors S r.self ≡ leads r.wants) rs w r i)

  run_first : {known waiting final : List Situation} {rs : List Row} → Run S known (start ∷ waiting) rs final
      → (ts : List Situation) × (selves rs ≡ start ∷ ts)
  run_first (taken {rs = rs} e r) = (selves rs, refl)

  -- `Rows` holds all situations reached, so none of them is past a limit and they are no more than the rows.
  rows_within : (rs : List Row) → Rows rs → (capacity : ℕ) → length rs ≤ capacity → ¬ (ReachesPast S start capacity)
  rows_within rs a capacity l (inr p) =
      let (r, i, e) = row_of rs a.within p.there ((a.reached p.there).1 p.reached) in
      let d = p.past in
      let z : ◌≡◌ {A = ℕ} 0 1 = cc in omega arith
  rows_within rs a capacity l (inl p) =
      omega (
        arith,
        length-map rs (λ (r : Row). r.self),
        distinct_length p.situations (selves rs) p.distinct
            (λ s m. (a.reached s).1 (all-∈ (Reached S start) p.situations p.members s m)),
      )

  module _ (Good : Situation → Type 0) (h : Invariant S Good) (g : Good start) where
    run_reached : {rs : List Row} {final : List Situation} → Run S (start ∷ []) (start ∷ []) rs final → final ≡ selves rs
        → {s : Situation} → Reached S start s → s ∈ final
    run_reached run e at_start = run_known S run start (inl refl)
    run_reached {rs} {final} run e (onward {s = s} {t = t} p l) =
        let (r, i, d) = row_of rs (run_within S run) s (subst (λ u. s ∈ u) e (run_reached run e p)) in
        let w : l.wants ≡ r.wants = (cc l.within) in
        all-∈ (λ r. (t : Situation) → t ∈ together r.wants → t ∈ final) rs (run_closed S Good h run (g, tt) (g, tt)) r i t
        (subst (λ ms. t ∈ together ms) w (leads-together S l))

    run_rows : {rs : List Row} {final : List Situation} → Run S (start ∷ []) (start ∷ []) rs final → final ≡ selves rs → Rows rs
    run_rows {rs} {final} run e =
        record {
          first = run_first run;
          distinct = subst Distinct e (run_distinct S run ((λ m. m), tt));
          reached = λ s. (
            λ m. all-∈ (Reached S start) final (run_all S (Reached S start) (λ u t. onward) run (at_start, tt) (at_start, tt)) s
                (subst (λ u. s ∈ u) (sym e) m),
            λ p. subst (λ u. s ∈ u) e (run_reached run e p),
          );
          within = run_within S run;
        }

    pub explored-all : (capacity : ℕ) (rs : List Row) → field_of S capacity start ≡ explored rs → Rows rs
    explored-all capacity rs e = let r = run_start capacity rs e in run_rows r.run (run_final S r.run [] refl)

    passed-incomplete : (capacity : ℕ) → ReachesPast S start capacity → field_of S capacity start ≡ incomplete
    passed-incomplete capacity p = go (field_of S capacity start) refl
      where
        go : (x : Exploration) → field_of S capacity start ≡ x → field_of S capacity start ≡ incomplete
        go incomplete e = e
        go (explored rs) e = absurd (rows_within rs (explored-all capacity rs e) capacity (explored-length capacity rs e) p)

    pub explored-none : (capacity : ℕ) → (field_of S capacity start ≡ incomplete) ↔ ReachesPast S start capacity
    explored-none capacity = (incomplete-passed capacity, passed-incomplete capacity)
