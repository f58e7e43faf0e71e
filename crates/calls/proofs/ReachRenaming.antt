-- The limit of calls and renaming: names that are renamed one to one reach as many calls, so that a term and its tidied form pass the limit alike;
-- and a call whose body is guarded reaches itself alone. Assumes nothing.
use borrow.Author.Tests.{leb-false}
use mathlib.Core.Bool.{Bool, true, false, cond}
use mathlib.Core.List.{List, [], ◌∷◌, ◌++◌, map}
use mathlib.Core.Logic.{inl, inr}
use mathlib.Core.Path.{◌≡◌, refl, sym, ◌∙◌, ap, ap₂, fun_ext, subst}
use native.Mathlib.Omega.{arith}
use Prim.Native.Nat.{ℕ, zero, suc, ◌≤◌}
use lib.Dec.{leb}
use lib.ListN.{length-map}
use Rattle.calculus.specs.Cond.{Cond, map_p}
use Rattle.calculus.specs.Definitions.{Defs, opened}
use Rattle.calculus.specs.Free.{In}
use Rattle.calculus.specs.Lists.{◌∈◌, Distinct}
use Rattle.calculus.specs.Term.{Term, nil, tau, inp, out, bout, mat, sum, par, res, call, lift, ren}
use Rattle.calculus.specs.Tidy.{outside, restrict_used, tidy}
use Rattle.calls.specs.Reach.{Guarded, Bare, b_call, b_mat, b_sum_l, b_sum_r, Reached, here, through}
use Rattle.calls.specs.ReachLimit.{Call, ManyCalls, PastCalls}
use Rattle.calls.specs.ReachSearch.{Place, place_of, is_known, is_called, differing, Search, many, spent, found, reach_term, reach_from}
use Rattle.calculus.proofs.FreeNames.{of_in_map}
use Rattle.calls.proofs.ReachEnds.{bare_free}
use Rattle.calculus.proofs.Membership.{∈-mapped}
use Rattle.calculus.proofs.Renaming.{map_id, map-∘, map-++}
use Rattle.calculus.proofs.Tidying.{Used, used, unused, used?, restrict-used, restrict_lifted}
use Rattle.calculus.proofs.Working.{ren-opened}
use Rattle.calculus.proofs.WorkingNames.{opened_free}

bare_ren : (σ : ℕ → ℕ) {P : Term} {C : Cond} {l : ℕ} {ys : List ℕ} → Bare P C l ys → Bare (ren σ P) (map_p σ C) l (map σ ys)
bare_ren σ b_call = b_call
bare_ren σ (b_mat h) = b_mat (bare_ren σ h)
bare_ren σ (b_sum_l h) = b_sum_l (bare_ren σ h)
bare_ren σ (b_sum_r h) = b_sum_r (bare_ren σ h)

module _ (Δ : Defs) where
  reached-ren : (σ : ℕ → ℕ) {k l : ℕ} {xs ys : List ℕ} {C : Cond} → Reached Δ k xs C l ys → Reached Δ k (map σ xs) (map_p σ C) l (map σ ys)
  reached-ren σ here = here
  reached-ren σ (through {k = k} {l = l} {m = m} {xs = xs} {ys = ys} {zs = zs} {C = C} {D = D} n h r) =
      subst (λ E. Reached Δ k (map σ xs) E m (map σ zs)) (sym (map-++ (λ p. (σ p.0, σ p.1)) C D))
      (through (length-map xs σ ∙ n) (subst (λ B. Bare B (map_p σ C) l (map σ ys)) (ren-opened Δ σ k xs n) (bare_ren σ h)) (reached-ren σ r))

  -- the names reached are names of the call
  reached-names : {k l : ℕ} {xs ys : List ℕ} {C : Cond} → Reached Δ k xs C l ys → (n : ℕ) → In n ys → In n xs
  reached-names here n m = m
  reached-names (through {k = k} {xs = xs} e h r) n m = opened_free Δ k xs e n (bare_free h n (inr (reached-names r n m)))

  module _ (limit : ℕ) (σ τ : ℕ → ℕ) (back : (n : ℕ) → τ (σ n) ≡ n) where
    abbrev renamed : (ℕ → ℕ) → Call → Call
    renamed ρ c = (c.0, map ρ c.1)

    map_back : (xs : List ℕ) → map τ (map σ xs) ≡ xs
    map_back xs = map-∘ τ σ xs ∙ ap (λ f. map f xs) (fun_ext back) ∙ map_id xs

    -- calls that differ still differ, where one name is not renamed as another is
    distinct_renamed : (ρ : ℕ → ℕ) (cs : List Call) → ((c d : Call) → c ∈ cs → d ∈ cs → renamed ρ c ≡ renamed ρ d → c ≡ d) → Distinct cs → Distinct (map (renamed ρ) cs)
    distinct_renamed ρ [] h d = tt
    distinct_renamed ρ (c ∷ cs) h (n, d) = (
      λ m. let (b, i, e) = ∈-mapped (renamed ρ) (renamed ρ c) cs m in n (subst (λ x. x ∈ cs) (sym (h c b (inl refl) (inr i) e)) i),
      distinct_renamed ρ cs (λ a b i j. h a b (inr i) (inr j)) d,
    )

    many-renamed : (k : ℕ) (xs : List ℕ) → ManyCalls Δ limit k xs → ManyCalls Δ limit k (map σ xs)
    many-renamed k xs h = record {
      calls = map (renamed σ) h.calls;
      distinct = distinct_renamed σ h.calls (λ c d i j. same c d) h.distinct;
      reached = reached';
      many = (let q = h.many in omega (arith, length-map h.calls (renamed σ)));
    }
      where
        same : (c d : Call) → renamed σ c ≡ renamed σ d → c ≡ d
        same c d e =
            let a : c.0 ≡ d.0 = ap (λ x. x.0) e in
            let b : c.1 ≡ d.1 = sym (map_back c.1) ∙ ap (λ x. map τ x.1) e ∙ map_back d.1 in
            λ i. (a i, b i)

        reached' : (c : Call) → c ∈ map (renamed σ) h.calls → (C : Cond) × Reached Δ k (map σ xs) C c.0 c.1
        reached' c m =
            let (d, i, e) = ∈-mapped (renamed σ) c h.calls m in
            let (C, r) = h.reached d i in
            (map_p σ C, subst (λ x. Reached Δ k (map σ xs) (map_p σ C) x.0 x.1) (sym e) (reached-ren σ r))

    -- names that are images are got back
    image_back : (xs ys : List ℕ) → ((n : ℕ) → In n ys → In n (map σ xs)) → map σ (map τ ys) ≡ ys
    image_back xs [] h = refl
    image_back xs (y ∷ ys) h = ap₂ ◌∷◌ (one (of_in_map σ y xs (h y (inl refl)))) (image_back xs ys (λ n m. h n (inr m)))
      where
        one : (m : ℕ) × In m xs × (y ≡ σ m) → σ (τ y) ≡ y
        one (m, i, e) = ap (λ z. σ (τ z)) e ∙ ap σ (back m) ∙ sym e

    many_back : (k : ℕ) (xs : List ℕ) → ManyCalls Δ limit k (map σ xs) → ManyCalls Δ limit k xs
    many_back k xs h = record {
      calls = map (renamed τ) h.calls;
      distinct = distinct_renamed τ h.calls same h.distinct;
      reached = reached';
      many = (let q = h.many in omega (arith, length-map h.calls (renamed τ)));
    }
      where
        names : (c : Call) → c ∈ h.calls → map σ (map τ c.1) ≡ c.1
        names c i = image_back xs c.1 (λ n m. reached-names (h.reached c i).1 n m)

        same : (c d : Call) → c ∈ h.calls → d ∈ h.calls → renamed τ c ≡ renamed τ d → c ≡ d
        same c d i j e =
            let a : c.0 ≡ d.0 = ap (λ x. x.0) e in
            let b : c.1 ≡ d.1 = sym (names c i) ∙ ap (λ x. map σ x.1) e ∙ names d j in
            λ q. (a q, b q)

        reached' : (c : Call) → c ∈ map (renamed τ) h.calls → (C : Cond) × Reached Δ k xs C c.0 c.1
        reached' c m =
            let (d, i, e) = ∈-mapped (renamed τ) c h.calls m in
            let (C, r) = h.reached d i in (
              map_p τ C,
              subst (λ x. Reached Δ k xs (map_p τ C) x.0 x.1) (sym e)
                  (subst (λ zs. Reached Δ k zs (map_p τ C) d.0 (map τ d.1)) (map_back xs) (reached-ren τ r)),
            )

  lift_back : (σ τ : ℕ → ℕ) → ((n : ℕ) → τ (σ n) ≡ n) → (n : ℕ) → lift τ (lift σ n) ≡ n
  lift_back σ τ h zero = refl
  lift_back σ τ h (suc n) = ap suc (h n)

  module _ (limit : ℕ) where
    pub past-renamed : (P : Term) (σ τ : ℕ → ℕ) → ((n : ℕ) → τ (σ n) ≡ n) → PastCalls Δ limit P → PastCalls Δ limit (ren σ P)
    past-renamed nil σ τ h p = elim p [ ]
    past-renamed (tau _) σ τ h p = elim p [ ]
    past-renamed (inp _ _) σ τ h p = elim p [ ]
    past-renamed (out _ _ _) σ τ h p = elim p [ ]
    past-renamed (bout _ _) σ τ h p = elim p [ ]
    past-renamed (mat a b P) σ τ h p = past-renamed P σ τ h p
    past-renamed (sum P Q) σ τ h (inl p) = inl (past-renamed P σ τ h p)
    past-renamed (sum P Q) σ τ h (inr p) = inr (past-renamed Q σ τ h p)
    past-renamed (par P Q) σ τ h (inl p) = inl (past-renamed P σ τ h p)
    past-renamed (par P Q) σ τ h (inr p) = inr (past-renamed Q σ τ h p)
    past-renamed (res P) σ τ h p = past-renamed P (lift σ) (lift τ) (lift_back σ τ h) p
    past-renamed (call k xs) σ τ h p = many-renamed limit σ τ h k xs p

    pub past_back : (P : Term) (σ τ : ℕ → ℕ) → ((n : ℕ) → τ (σ n) ≡ n) → PastCalls Δ limit (ren σ P) → PastCalls Δ limit P
    past_back nil σ τ h p = elim p [ ]
    past_back (tau _) σ τ h p = elim p [ ]
    past_back (inp _ _) σ τ h p = elim p [ ]
    past_back (out _ _ _) σ τ h p = elim p [ ]
    past_back (bout _ _) σ τ h p = elim p [ ]
    past_back (mat a b P) σ τ h p = past_back P σ τ h p
    past_back (sum P Q) σ τ h (inl p) = inl (past_back P σ τ h p)
    past_back (sum P Q) σ τ h (inr p) = inr (past_back Q σ τ h p)
    past_back (par P Q) σ τ h (inl p) = inl (past_back P σ τ h p)
    past_back (par P Q) σ τ h (inr p) = inr (past_back Q σ τ h p)
    past_back (res P) σ τ h p = past_back P (lift σ) (lift τ) (lift_back σ τ h) p
    past_back (call k xs) σ τ h p = many_back limit σ τ h k xs p

    suc_back : (n : ℕ) → outside (suc n) ≡ n
    unfolding outside
    suc_back n = refl

    restrict-past : (P : Term) → PastCalls Δ limit P → PastCalls Δ limit (restrict_used P)
    restrict-past P p = go (used? P)
      where
        go : Used P → PastCalls Δ limit (restrict_used P)
        go (used u) = subst (PastCalls Δ limit) (sym (restrict-used P u)) p
        go (unused Q e) =
            subst (PastCalls Δ limit) (sym (ap restrict_used e ∙ restrict_lifted Q)) (past_back Q suc outside suc_back (subst (PastCalls Δ limit) e p))

    past-restrict : (P : Term) → PastCalls Δ limit (restrict_used P) → PastCalls Δ limit P
    past-restrict P p = go (used? P)
      where
        go : Used P → PastCalls Δ limit P
        go (used u) = subst (PastCalls Δ limit) (restrict-used P u) p
        go (unused Q e) =
            subst (PastCalls Δ limit) (sym e) (past-renamed Q suc outside suc_back (subst (PastCalls Δ limit) (ap restrict_used e ∙ restrict_lifted Q) p))

    -- A term and its tidied form pass the limit alike.
    pub past-tidy : (P : Term) → PastCalls Δ limit P → PastCalls Δ limit (tidy P)
    unfolding tidy
    past-tidy nil p = elim p [ ]
    past-tidy (tau _) p = elim p [ ]
    past-tidy (inp _ _) p = elim p [ ]
    past-tidy (out _ _ _) p = elim p [ ]
    past-tidy (bout _ _) p = elim p [ ]
    past-tidy (mat a b P) p = past-tidy P p
    past-tidy (sum P Q) (inl p) = inl (past-tidy P p)
    past-tidy (sum P Q) (inr p) = inr (past-tidy Q p)
    past-tidy (par P Q) (inl p) = inl (past-tidy P p)
    past-tidy (par P Q) (inr p) = inr (past-tidy Q p)
    past-tidy (res P) p = restrict-past (tidy P) (past-tidy P p)
    past-tidy (call k xs) p = p

    pub tidy-past : (P : Term) → PastCalls Δ limit (tidy P) → PastCalls Δ limit P
    unfolding tidy
    tidy-past nil p = elim p [ ]
    tidy-past (tau _) p = elim p [ ]
    tidy-past (inp _ _) p = elim p [ ]
    tidy-past (out _ _ _) p = elim p [ ]
    tidy-past (bout _ _) p = elim p [ ]
    tidy-past (mat a b P) p = tidy-past P p
    tidy-past (sum P Q) (inl p) = inl (tidy-past P p)
    tidy-past (sum P Q) (inr p) = inr (tidy-past Q p)
    tidy-past (par P Q) (inl p) = inl (tidy-past P p)
    tidy-past (par P Q) (inr p) = inr (tidy-past Q p)
    tidy-past (res P) p = tidy-past P (past-restrict (tidy P) p)
    tidy-past (call k xs) p = p

-- Where nothing stands unprefixed the search adds nothing.
guarded_quiet : (opening : ℕ → List ℕ → Cond → List Place → Search) (P : Term) (C : Cond) (K : List Place) → Guarded P → reach_term opening P C K ≡ found K
unfolding reach_term
guarded_quiet opening (call _ _) C K g = elim g [ ]
guarded_quiet opening nil C K g = refl
guarded_quiet opening (tau P) C K g = refl
guarded_quiet opening (inp a P) C K g = refl
guarded_quiet opening (out a b P) C K g = refl
guarded_quiet opening (bout a P) C K g = refl
guarded_quiet opening (mat a b P) C K g = guarded_quiet opening P (C ++ ((a, b) ∷ [])) K g
guarded_quiet opening (sum P Q) C K g =
    ap (λ r. elim r [ many ↦ many | spent ↦ spent | found K' ↦ reach_term opening Q C K' ]) (guarded_quiet opening P C K g.0) ∙ guarded_quiet opening Q C K g.1
guarded_quiet opening (par P Q) C K g = refl
guarded_quiet opening (res P) C K g = refl

pub guarded-ren : (P : Term) (σ : ℕ → ℕ) → Guarded P → Guarded (ren σ P)
guarded-ren (call _ _) σ g = elim g [ ]
guarded-ren nil σ g = tt
guarded-ren (tau P) σ g = tt
guarded-ren (inp a P) σ g = tt
guarded-ren (out a b P) σ g = tt
guarded-ren (bout a P) σ g = tt
guarded-ren (mat a b P) σ g = guarded-ren P σ g
guarded-ren (sum P Q) σ g = (guarded-ren P σ g.0, guarded-ren Q σ g.1)
guarded-ren (par P Q) σ g = (guarded-ren P σ g.0, guarded-ren Q σ g.1)
guarded-ren (res P) σ g = guarded-ren P (lift σ) g

-- So a call whose body is guarded, as check 11 had it, has itself for its only place.
pub guarded_from : (opens : ℕ → List ℕ → Bool) (body : ℕ → Term) (limit n k : ℕ) (xs : List ℕ) → 1 ≤ limit → Guarded (body k)
    → reach_from opens body limit (suc n) k xs [] [] ≡ found (place_of [] k xs ∷ [])
unfolding reach_from is_known differing is_called
guarded_from opens body limit n k xs l g = go (leb 1 limit) refl (opens k xs)
  where
    go : (b : Bool) → leb 1 limit ≡ b → (c : Bool)
        → cond b (cond c (reach_term (reach_from opens body limit n) (opened xs (body k)) [] (place_of [] k xs ∷ [])) (found (place_of [] k xs ∷ []))) many ≡ found (place_of [] k xs ∷ [])
    go true h true = guarded_quiet (reach_from opens body limit n) (opened xs (body k)) [] (place_of [] k xs ∷ []) (guarded-ren (body k) _ g)
    go true h false = refl
    go false h c = absurd (omega (arith, leb-false 1 limit h))
