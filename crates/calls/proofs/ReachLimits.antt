-- The search answers "many" only if the limit is passed, and a list of places only if it is not. Assumes nothing.
use borrow.Author.Tests.{eqb-true, eq-eqb, leb-true, leb-false}
use mathlib.Core.Bool.{Bool, true, false, cond, ◌&&◌, ◌||◌}
use mathlib.Core.List.{List, [], ◌∷◌, ◌++◌, map}
use mathlib.Core.Logic.{◌⊎◌, inl, inr}
use mathlib.Core.Path.{◌≡◌, refl, sym, ◌∙◌, ap, ap₂, subst}
use native.Mathlib.Omega.{arith}
use Prim.Native.Nat.{ℕ, zero, suc, ◌<◌, ◌≤◌}
use lib.Dec.{eqb, leb}
use lib.ListN.{length, length-map}
use Rattle.calculus.specs.Cond.{Cond}
use Rattle.calculus.specs.Definitions.{Defs, opened}
use Rattle.calculus.specs.Lists.{◌∈◌, Distinct}
use Rattle.calculus.specs.Term.{Term, nil, tau, inp, out, bout, mat, sum, par, res, call}
use Rattle.calls.specs.Reach.{Bare, b_call, Reached}
use Rattle.calls.specs.ReachSearch.{Place, place_of, same_names, same_call, is_known, is_called, differing, Search, many, spent, found, reach_term, reach_from, reach_call, places_of, call_of}
use Rattle.calls.specs.ReachLimit.{Call, ManyCalls}
use Rattle.calls.proofs.Reaching.{held}
use Rattle.calls.proofs.ReachSearching.{Member, names_same, From, from_mat, from_left, from_right, from_call, Went, call_went, term_went, places_closed, self_from, found_inj, no_found, no_found'}
use Rattle.calculus.proofs.Membership.{∈-map, ∈-mapped, distinct_length}
use Rattle.calculus.proofs.Selection.{and_cases}

-- One place of each call.
pub same_names_lem : (xs : List ℕ) → same_names xs xs ≡ true
unfolding same_names
same_names_lem [] = refl
same_names_lem (x ∷ xs) = ap₂ ◌&&◌ (eq-eqb x x refl) (same_names_lem xs)

pub same-call : (p q : Place) → call_of p ≡ call_of q → same_call p q ≡ true
unfolding same_call
same-call p q e =
    let a : p.definition ≡ q.definition = ap (λ c. c.0) e in
    let b : p.names ≡ q.names = ap (λ c. c.1) e in
    ap₂ ◌&&◌ (eq-eqb p.definition q.definition a) (ap (same_names p.names) (sym b) ∙ same_names_lem p.names)

call_same : (p q : Place) → same_call p q ≡ true → call_of p ≡ call_of q
unfolding same_call
call_same p q e =
    let (h, k) = and_cases (eqb p.definition q.definition) (same_names p.names q.names) e in
    let a : p.definition ≡ q.definition = eqb-true p.definition q.definition h in
    let b : p.names ≡ q.names = names_same p.names q.names k in
    λ i. (a i, b i)

member-called : (p : Place) (K : List Place) → call_of p ∈ map call_of K → is_called p K ≡ true
unfolding is_called
member-called p [] x' = elim x' [ ]
member-called p (q ∷ K) (inl e) = ap (λ b. b || is_called p K) (same-call p q e)
member-called p (q ∷ K) (inr m) = go (same_call p q) (member-called p K m)
  where
    go : (b : Bool) → is_called p K ≡ true → (b || is_called p K) ≡ true
    go true e = refl
    go false e = e

called-member : (p : Place) (K : List Place) → is_called p K ≡ true → call_of p ∈ map call_of K
unfolding is_called
called-member p (q ∷ K) e = go (same_call p q) refl e (called-member p K)
  where
    go : (b : Bool) → same_call p q ≡ b → (b || is_called p K) ≡ true → (is_called p K ≡ true → call_of p ∈ map call_of K) → call_of p ∈ map call_of (q ∷ K)
    go true h e r = inl (call_same p q h)
    go false h e r = inr (r e)
called-member p [] e = let z : ◌≡◌ {A = ℕ} 0 1 = cc in absurd (omega arith)

differing_sub : (c : Call) (K : List Place) → c ∈ map call_of (differing K) → c ∈ map call_of K
unfolding differing
differing_sub c [] m = elim m [ ]
differing_sub c (p ∷ K) m = go (is_called p K) m (differing_sub c K)
  where
    go : (b : Bool) → c ∈ map call_of (cond b (differing K) (p ∷ differing K)) → (c ∈ map call_of (differing K) → c ∈ map call_of K) → c ∈ map call_of (p ∷ K)
    go true m r = inr (r m)
    go false (inl e) r = inl e
    go false (inr m) r = inr (r m)

pub differing-all : (c : Call) (K : List Place) → c ∈ map call_of K → c ∈ map call_of (differing K)
unfolding differing
differing-all c [] m = elim m [ ]
differing-all c (p ∷ K) m = go (is_called p K) refl m (differing-all c K)
  where
    go : (b : Bool) → is_called p K ≡ b → c ∈ map call_of (p ∷ K) → (c ∈ map call_of K → c ∈ map call_of (differing K))
        → c ∈ map call_of (cond b (differing K) (p ∷ differing K))
    go true h (inl e) r = r (subst (λ d. d ∈ map call_of K) (sym e) (called-member p K h))
    go true h (inr m) r = r m
    go false h (inl e) r = inl e
    go false h (inr m) r = inr (r m)

differing_distinct : (K : List Place) → Distinct (map call_of (differing K))
unfolding differing
differing_distinct [] = tt
differing_distinct (p ∷ K) = go (is_called p K) refl (differing_distinct K)
  where
    go : (b : Bool) → is_called p K ≡ b → Distinct (map call_of (differing K)) → Distinct (map call_of (cond b (differing K) (p ∷ differing K)))
    go true h d = d
    go false h d = (
      λ m. let z : true ≡ false = sym (member-called p K (differing_sub (call_of p) K m)) ∙ h in
          let o : ◌≡◌ {A = ℕ} 0 1 = cc in omega arith,
      d,
    )

pub member-call : (p : Place) (K : List Place) → Member p K → call_of p ∈ map call_of K
member-call p K m = ∈-map call_of p K m

call-member : (c : Call) (K : List Place) → c ∈ map call_of K → (p : Place) × Member p K × (c ≡ call_of p)
call-member c K m = ∈-mapped call_of c K m

module _ (Δ : Defs) (limit : ℕ) where
  -- The places found keep within the limit.
  abbrev Few : List Place → Type 0
  Few K = length (differing K) ≤ limit

  module _ (opening : ℕ → List ℕ → Cond → List Place → Search)
      (opens : (k : ℕ) (xs : List ℕ) (C : Cond) (K K' : List Place) → opening k xs C K ≡ found K' → Few K → Few K') where
    pub term_few : (P : Term) (C : Cond) (K K' : List Place) → reach_term opening P C K ≡ found K' → Few K → Few K'
    unfolding reach_term
    term_few nil C K K' e f = subst Few (found_inj e) f
    term_few (tau P) C K K' e f = subst Few (found_inj e) f
    term_few (inp a P) C K K' e f = subst Few (found_inj e) f
    term_few (out a b P) C K K' e f = subst Few (found_inj e) f
    term_few (bout a P) C K K' e f = subst Few (found_inj e) f
    term_few (mat a b P) C K K' e f = term_few P (C ++ ((a, b) ∷ [])) K K' e f
    term_few (sum P Q) C K K' e f = go (reach_term opening P C K) refl e (λ K₁ h. term_few P C K K₁ h f) (λ K₁. term_few Q C K₁ K')
      where
        go : (r : Search) → reach_term opening P C K ≡ r
            → elim r [ many ↦ many | spent ↦ spent | found K₁ ↦ reach_term opening Q C K₁ ] ≡ found K'
            → ((K₁ : List Place) → reach_term opening P C K ≡ found K₁ → Few K₁)
            → ((K₁ : List Place) → reach_term opening Q C K₁ ≡ found K' → Few K₁ → Few K') → Few K'
        go many h e g l = no_found e
        go spent h e g l = no_found' e
        go (found K₁) h e g l = l K₁ e (g K₁ h)
    term_few (par P Q) C K K' e f = subst Few (found_inj e) f
    term_few (res P) C K K' e f = subst Few (found_inj e) f
    term_few (call k xs) C K K' e f = opens k xs C K K' e f

  pub call_few : (n k : ℕ) (xs : List ℕ) (C : Cond) (K K' : List Place) → reach_call Δ limit n k xs C K ≡ found K' → Few K → Few K'
  unfolding reach_from
  call_few zero k xs C K K' e f = go (is_known (place_of C k xs) K) e
    where
      go : (b : Bool) → cond b (found K) spent ≡ found K' → Few K'
      go true e = subst Few (found_inj e) f
      go false e = no_found' e
  call_few (suc n) k xs C K K' e f =
      go (is_known (place_of C k xs) K) (leb (length (differing (place_of C k xs ∷ K))) limit) refl (eqb (length xs) (Δ.arity k)) e
      (λ e g. term_few (reach_call Δ limit n) (call_few n) (opened xs (Δ.body k)) C (place_of C k xs ∷ K) K' e g)
    where
      go : (b c : Bool) → leb (length (differing (place_of C k xs ∷ K))) limit ≡ c → (d : Bool)
          → cond b (found K) (cond c (cond d (reach_term (reach_call Δ limit n) (opened xs (Δ.body k)) C (place_of C k xs ∷ K)) (found (place_of C k xs ∷ K))) many) ≡ found K'
          → (reach_term (reach_call Δ limit n) (opened xs (Δ.body k)) C (place_of C k xs ∷ K) ≡ found K' → Few (place_of C k xs ∷ K) → Few K')
          → Few K'
      go true c h d e r = subst Few (found_inj e) f
      go false false h d e r = no_found e
      go false true h true e r = r e (leb-true (length (differing (place_of C k xs ∷ K))) limit h)
      go false true h false e r = subst Few (found_inj e) (leb-true (length (differing (place_of C k xs ∷ K))) limit h)

  -- Where places are found, the limit is not passed.
  pub found_within : (n k : ℕ) (xs : List ℕ) (K : List Place) → places_of Δ limit n k xs ≡ found K → ¬ ManyCalls Δ limit k xs
  unfolding places_of differing
  found_within n k xs K e h =
      let l : length h.calls ≤ length (map call_of (differing K)) = distinct_length h.calls (map call_of (differing K)) h.distinct
      (λ c m. let (C, r) = h.reached c m in
      let (D, w, _) = held Δ (λ p. Member p K) k xs (places_closed Δ limit n k xs K e) r in
      differing-all c K (member-call (record { condition = D; definition = c.0; names = c.1 }) K w)) in
      let f : length (differing K) ≤ limit = call_few n k xs [] [] K e (omega arith) in
      let q = h.many in
      omega (arith, length-map (differing K) call_of)

  -- Where the search answers "many", it is passed.
  record Over (P : Term) (C : Cond) (K : List Place) : Type 0 where
    list : List Place
    members : (p : Place) → Member p list → Member p K ⊎ From Δ P C p
    over : limit < length (differing list)

  found-many : {K : List Place} {A : Type 0} → found K ≡ many → A
  found-many e = let z : ◌≡◌ {A = ℕ} 0 1 = cc in absurd (omega arith)

  spent-many : {A : Type 0} → spent ≡ many → A
  spent-many e = let z : ◌≡◌ {A = ℕ} 0 1 = cc in absurd (omega arith)

  widen : {P Q : Term} {C D : Cond} {K L : List Place} → ((p : Place) → Member p K ⊎ From Δ P C p → Member p L ⊎ From Δ Q D p) → Over P C K → Over Q D L
  widen f o = record { list = o.list; members = λ p m. f p (o.members p m); over = o.over }

  module _ (opening : ℕ → List ℕ → Cond → List Place → Search)
      (went : (k : ℕ) (xs : List ℕ) (C : Cond) (K K' : List Place) → opening k xs C K ≡ found K' → Went Δ (call k xs) C K K')
      (opens : (k : ℕ) (xs : List ℕ) (C : Cond) (K : List Place) → opening k xs C K ≡ many → Over (call k xs) C K) where
    term_over : (P : Term) (C : Cond) (K : List Place) → reach_term opening P C K ≡ many → Over P C K
    unfolding reach_term
    term_over nil C K e = found-many e
    term_over (tau P) C K e = found-many e
    term_over (inp a P) C K e = found-many e
    term_over (out a b P) C K e = found-many e
    term_over (bout a P) C K e = found-many e
    term_over (mat a b P) C K e = widen (from_mat Δ a b P C K) (term_over P (C ++ ((a, b) ∷ [])) K e)
    term_over (sum P Q) C K e = go (reach_term opening P C K) refl e (term_over P C K) (λ K₁. term_over Q C K₁)
      where
        go : (r : Search) → reach_term opening P C K ≡ r
            → elim r [ many ↦ many | spent ↦ spent | found K₁ ↦ reach_term opening Q C K₁ ] ≡ many
            → (reach_term opening P C K ≡ many → Over P C K)
            → ((K₁ : List Place) → reach_term opening Q C K₁ ≡ many → Over Q C K₁) → Over (sum P Q) C K
        go many h e f g = widen (from_left Δ P Q C K) (f h)
        go spent h e f g = spent-many e
        go (found K₁) h e f g = widen (from_right Δ P Q C K K₁ (term_went Δ opening went P C K K₁ h).sound) (g K₁ e)
    term_over (par P Q) C K e = found-many e
    term_over (res P) C K e = found-many e
    term_over (call k xs) C K e = opens k xs C K e

  call_over : (n k : ℕ) (xs : List ℕ) (C : Cond) (K : List Place) → reach_call Δ limit n k xs C K ≡ many → Over (call k xs) C K
  unfolding reach_from
  call_over zero k xs C K e = go (is_known (place_of C k xs) K) e
    where
      go : (b : Bool) → cond b (found K) spent ≡ many → Over (call k xs) C K
      go true e = found-many e
      go false e = spent-many e
  call_over (suc n) k xs C K e =
      go (is_known (place_of C k xs) K) (leb (length (differing (place_of C k xs ∷ K))) limit) refl (eqb (length xs) (Δ.arity k)) refl e
      (λ e. term_over (reach_call Δ limit n) (call_went Δ limit n) (call_over n) (opened xs (Δ.body k)) C (place_of C k xs ∷ K) e)
    where
      first : (p : Place) → Member p (place_of C k xs ∷ K) → Member p K ⊎ From Δ (call k xs) C p
      first p (inl e) = inr (subst (From Δ (call k xs) C) (sym e) (self_from Δ k xs C))
      first p (inr m) = inl m

      go : (b c : Bool) → leb (length (differing (place_of C k xs ∷ K))) limit ≡ c → (d : Bool) → eqb (length xs) (Δ.arity k) ≡ d
          → cond b (found K) (cond c (cond d (reach_term (reach_call Δ limit n) (opened xs (Δ.body k)) C (place_of C k xs ∷ K)) (found (place_of C k xs ∷ K))) many) ≡ many
          → (reach_term (reach_call Δ limit n) (opened xs (Δ.body k)) C (place_of C k xs ∷ K) ≡ many → Over (opened xs (Δ.body k)) C (place_of C k xs ∷ K))
          → Over (call k xs) C K
      go true c h d f e r = found-many e
      go false false h d f e r = record { list = place_of C k xs ∷ K; members = first; over = leb-false (length (differing (place_of C k xs ∷ K))) limit h }
      go false true h true f e r = widen (from_call Δ k xs C K (eqb-true (length xs) (Δ.arity k) f)) (r e)
      go false true h false f e r = found-many e

  pub many-past : (n k : ℕ) (xs : List ℕ) → places_of Δ limit n k xs ≡ many → ManyCalls Δ limit k xs
  unfolding places_of
  many-past n k xs e =
      let o = call_over n k xs [] [] e in
      record {
        calls = map call_of (differing o.list);
        distinct = differing_distinct o.list;
        reached = λ c m. let (p, i, d) = call-member c o.list (differing_sub c o.list m) in reach c p d (o.members p i);
        many = (let q = o.over in omega (arith, length-map (differing o.list) call_of));
      }
    where
      of_bare : (c : Call) (p : Place) → c ≡ call_of p → {A B : Cond} {l : ℕ} {ys : List ℕ} → Bare (call k xs) A l ys → Reached Δ l ys B p.definition p.names
          → (C : Cond) × Reached Δ k xs C c.0 c.1
      of_bare c p e {B = B} b_call r = (B, subst (λ d. Reached Δ k xs B d.0 d.1) (sym e) r)

      reach : (c : Call) (p : Place) → c ≡ call_of p → Member p [] ⊎ From Δ (call k xs) [] p → (C : Cond) × Reached Δ k xs C c.0 c.1
      reach c p e (inl m) = absurd m
      reach c p e (inr f) = of_bare c p e f.bare f.reached
