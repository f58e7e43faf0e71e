-- What the search for reached calls finds is closed under going on, and holds nothing that is not reached: so the steps of a call are those
-- that its places give (Reaching). Assumes nothing.
use borrow.Author.Tests.{eqb-true, eqb-false}
use mathlib.Core.Bool.{Bool, true, false, cond, ◌&&◌, ◌||◌}
use mathlib.Core.List.{List, [], ◌∷◌, ◌++◌, append_assoc, append-nil}
use mathlib.Core.Logic.{◌⊎◌, inl, inr}
use mathlib.Core.Path.{◌≡◌, refl, sym, ap₂, subst}
use native.Mathlib.Omega.{arith}
use Prim.Native.Nat.{ℕ, zero, suc}
use lib.Dec.{eqb, leb}
use lib.ListN.{length}
use Rattle.calculus.specs.Abstraction.{Act}
use Rattle.calculus.specs.Cond.{Cond, Pairs, canonical}
use Rattle.calculus.specs.Definitions.{Defs, opened}
use Rattle.calculus.specs.Lists.{◌∈◌}
use Rattle.calculus.specs.Term.{Term, nil, tau, inp, out, bout, mat, sum, par, res, call}
use Rattle.calls.specs.Reach.{Bare, b_call, b_mat, b_sum_l, b_sum_r, Reached, here, through}
use Rattle.calls.specs.ReachSearch.{Place, place_of, same_names, same_pairs, same_call, same_place, is_known, differing, Search, many, spent, found, reach_term, reach_from, reach_call, places_of}
use Rattle.calculus.proofs.Canonical.{canonical-~}
use Rattle.calculus.proofs.Conditions.{◌~◌, ~_refl, ~_sym, ~_trans}
use Rattle.calculus.proofs.PublishedSteps.{++-~}
use Rattle.calls.proofs.Reaching.{Closed, Sound, Given, given, of_given}
use Rattle.calculus.proofs.Selection.{and_cases}
use Rattle.calculus.proofs.Working.{Trans}

-- Members of a list of places.
abbrev pub Member : Place → List Place → Type 0
Member p K = p ∈ K

pub names_same : (xs ys : List ℕ) → same_names xs ys ≡ true → xs ≡ ys
unfolding same_names
names_same [] [] e = refl
names_same [] (y ∷ ys) e = let z : ◌≡◌ {A = ℕ} 0 1 = cc in absurd (omega arith)
names_same (x ∷ xs) [] e = let z : ◌≡◌ {A = ℕ} 0 1 = cc in absurd (omega arith)
names_same (x ∷ xs) (y ∷ ys) e = let (h, k) = and_cases (eqb x y) (same_names xs ys) e in ap₂ ◌∷◌ (eqb-true x y h) (names_same xs ys k)

pairs-same : (D E : Pairs) → same_pairs D E ≡ true → D ≡ E
unfolding same_pairs
pairs-same [] [] e = refl
pairs-same [] (q ∷ E) e = let z : ◌≡◌ {A = ℕ} 0 1 = cc in absurd (omega arith)
pairs-same (p ∷ D) [] e = let z : ◌≡◌ {A = ℕ} 0 1 = cc in absurd (omega arith)
pairs-same (p ∷ D) (q ∷ E) e =
    let (h, k) = and_cases (eqb p.0 q.0 && eqb p.1 q.1) (same_pairs D E) e in
    let (a, b) = and_cases (eqb p.0 q.0) (eqb p.1 q.1) h in
    let a' : p.0 ≡ q.0 = eqb-true p.0 q.0 a in
    let b' : p.1 ≡ q.1 = eqb-true p.1 q.1 b in
    λ i. (a' i, b' i) ∷ pairs-same D E k i

place_same : (p q : Place) → same_place p q ≡ true → p ≡ q
unfolding same_place same_call
place_same p q e =
    let (h, k) = and_cases (eqb p.definition q.definition && same_names p.names q.names) (same_pairs p.condition q.condition) e in
    let (a, b) = and_cases (eqb p.definition q.definition) (same_names p.names q.names) h in
    let a' : p.definition ≡ q.definition = eqb-true p.definition q.definition a in
    let b' : p.names ≡ q.names = names_same p.names q.names b in
    let c' : p.condition ≡ q.condition = pairs-same p.condition q.condition k in
    λ i. record { condition = c' i; definition = a' i; names = b' i }

known_member : (p : Place) (K : List Place) → is_known p K ≡ true → Member p K
unfolding is_known
known_member p (q ∷ K) e = go (same_place p q) refl e (known_member p K)
  where
    go : (b : Bool) → same_place p q ≡ b → (b || is_known p K) ≡ true → (is_known p K ≡ true → Member p K) → Member p (q ∷ K)
    go true h e r = inl (place_same p q h)
    go false h e r = inr (r e)
known_member p [] e = let z : ◌≡◌ {A = ℕ} 0 1 = cc in absurd (omega arith)

pub found_inj : {K K' : List Place} → found K ≡ found K' → K ≡ K'
found_inj e = cc

pub no_found : {K : List Place} {A : Type 0} → many ≡ found K → A
no_found e = let z : ◌≡◌ {A = ℕ} 0 1 = cc in absurd (omega arith)

pub no_found' : {K : List Place} {A : Type 0} → spent ≡ found K → A
no_found' e = let z : ◌≡◌ {A = ℕ} 0 1 = cc in absurd (omega arith)

module _ (Δ : Defs) where
  abbrev body : Place → Term
  body p = opened p.names (Δ.body p.definition)

  -- every call that p reaches in one step is in K, up to the form of the condition
  abbrev pub Onward : List Place → Place → Type 0
  Onward K p = (C : Cond) (l : ℕ) (ys : List ℕ) → length p.names ≡ Δ.arity p.definition → Bare (body p) C l ys
      → (D : Cond) × Member (record { condition = D; definition = l; names = ys }) K × (D ~ (p.condition ++ C))

  -- p is reached by an unprefixed call of P, beneath C
  pub record From (P : Term) (C : Cond) (p : Place) : Type 0 where
    pub upto : Cond
    pub beyond : Cond
    pub definition : ℕ
    pub names : List ℕ
    pub bare : Bare P upto definition names
    pub reached : Reached Δ definition names beyond p.definition p.names
    pub same : p.condition ~ (C ++ (upto ++ beyond))

  pub record Went (P : Term) (C : Cond) (K K' : List Place) : Type 0 where
    pub kept : (p : Place) → Member p K → Member p K'
    pub calls : (C' : Cond) (l : ℕ) (ys : List ℕ) → Bare P C' l ys → (D : Cond) × Member (record { condition = D; definition = l; names = ys }) K' × (D ~ (C ++ C'))
    pub done : (p : Place) → Member p K' → Member p K ⊎ Onward K' p
    pub sound : (p : Place) → Member p K' → Member p K ⊎ From P C p

  -- nothing unprefixed stands in P
  quiet : (P : Term) (C : Cond) (K : List Place) → ((C' : Cond) (l : ℕ) (ys : List ℕ) → Bare P C' l ys → ⊥) → Went P C K K
  quiet P C K h = record { kept = λ p m. m; calls = λ C' l ys b. absurd (h C' l ys b); done = λ p m. inl m; sound = λ p m. inl m }

  onward-more : (K K' : List Place) → ((p : Place) → Member p K → Member p K') → (p : Place) → Onward K p → Onward K' p
  onward-more K K' h p o C l ys n b = let (D, m, e) = o C l ys n b in (D, h (record { condition = D; definition = l; names = ys }) m, e)

  -- what is reached from a part of a term is reached from the term
  pub from_mat : (a b : ℕ) (P : Term) (C : Cond) (K : List Place) (p : Place) → Member p K ⊎ From P (C ++ ((a, b) ∷ [])) p → Member p K ⊎ From (mat a b P) C p
  from_mat a b P C K p (inl m) = inl m
  from_mat a b P C K p (inr f) = inr (record {
    upto = (a, b) ∷ f.upto;
    beyond = f.beyond;
    definition = f.definition;
    names = f.names;
    bare = b_mat f.bare;
    reached = f.reached;
    same = subst (λ X. p.condition ~ X) (append_assoc C ((a, b) ∷ []) (f.upto ++ f.beyond)) f.same;
  })

  pub from_left : (P Q : Term) (C : Cond) (K : List Place) (p : Place) → Member p K ⊎ From P C p → Member p K ⊎ From (sum P Q) C p
  from_left P Q C K p (inl m) = inl m
  from_left P Q C K p (inr f) = inr (record {
    upto = f.upto;
    beyond = f.beyond;
    definition = f.definition;
    names = f.names;
    bare = b_sum_l f.bare;
    reached = f.reached;
    same = f.same;
  })

  pub from_right : (P Q : Term) (C : Cond) (K K₁ : List Place) → ((p : Place) → Member p K₁ → Member p K ⊎ From P C p)
      → (p : Place) → Member p K₁ ⊎ From Q C p → Member p K ⊎ From (sum P Q) C p
  from_right P Q C K K₁ h p (inl m) = from_left P Q C K p (h p m)
  from_right P Q C K K₁ h p (inr f) = inr (record {
    upto = f.upto;
    beyond = f.beyond;
    definition = f.definition;
    names = f.names;
    bare = b_sum_r f.bare;
    reached = f.reached;
    same = f.same;
  })

  pub went_mat : {a b : ℕ} {P : Term} {C : Cond} {K K' : List Place} → Went P (C ++ ((a, b) ∷ [])) K K' → Went (mat a b P) C K K'
  went_mat {a} {b} {P} {C} {K} {K'} w = record {
    kept = w.kept;
    calls = calls';
    done = w.done;
    sound = λ p m. from_mat a b P C K p (w.sound p m);
  }
    where
      calls' : (C' : Cond) (l : ℕ) (ys : List ℕ) → Bare (mat a b P) C' l ys → (D : Cond) × Member (record { condition = D; definition = l; names = ys }) K' × (D ~ (C ++ C'))
      calls' C' l ys (b_mat {C = C₀} h) =
          let (D, m, e) = w.calls C₀ l ys h in (D, m, subst (λ X. D ~ X) (append_assoc C ((a, b) ∷ []) C₀) e)

  pub went_sum : {P Q : Term} {C : Cond} {K K₁ K₂ : List Place} → Went P C K K₁ → Went Q C K₁ K₂ → Went (sum P Q) C K K₂
  went_sum {P} {Q} {C} {K} {K₁} {K₂} v w = record {
    kept = λ p m. w.kept p (v.kept p m);
    calls = calls';
    done = λ p m. done' p (w.done p m);
    sound = λ p m. from_right P Q C K K₁ v.sound p (w.sound p m);
  }
    where
      calls' : (C' : Cond) (l : ℕ) (ys : List ℕ) → Bare (sum P Q) C' l ys → (D : Cond) × Member (record { condition = D; definition = l; names = ys }) K₂ × (D ~ (C ++ C'))
      calls' C' l ys (b_sum_l h) = let (D, m, e) = v.calls C' l ys h in (D, w.kept (record { condition = D; definition = l; names = ys }) m, e)
      calls' C' l ys (b_sum_r h) = w.calls C' l ys h

      done_left : (p : Place) → Member p K ⊎ Onward K₁ p → Member p K ⊎ Onward K₂ p
      done_left p (inl m) = inl m
      done_left p (inr o) = inr (onward-more K₁ K₂ w.kept p o)

      done' : (p : Place) → Member p K₁ ⊎ Onward K₂ p → Member p K ⊎ Onward K₂ p
      done' p (inl m) = done_left p (v.done p m)
      done' p (inr o) = inr o

  at_form : (C : Cond) → canonical C ~ (C ++ [])
  at_form C = subst (λ X. canonical C ~ X) (sym (append-nil C)) (canonical-~ C)

  -- a call that is known
  went_known : (k : ℕ) (xs : List ℕ) (C : Cond) (K : List Place) → Member (place_of C k xs) K → Went (call k xs) C K K
  went_known k xs C K m = record { kept = λ p m. m; calls = calls'; done = λ p m. inl m; sound = λ p m. inl m }
    where
      calls' : (C' : Cond) (l : ℕ) (ys : List ℕ) → Bare (call k xs) C' l ys → (D : Cond) × Member (record { condition = D; definition = l; names = ys }) K × (D ~ (C ++ C'))
      calls' C' l ys b_call = (canonical C, m, at_form C)

  pub self_from : (k : ℕ) (xs : List ℕ) (C : Cond) → From (call k xs) C (place_of C k xs)
  self_from k xs C = record { upto = []; beyond = []; definition = k; names = xs; bare = b_call; reached = here; same = at_form C }

  pub from_call : (k : ℕ) (xs : List ℕ) (C : Cond) (K : List Place) → length xs ≡ Δ.arity k → (p : Place)
      → Member p (place_of C k xs ∷ K) ⊎ From (opened xs (Δ.body k)) C p → Member p K ⊎ From (call k xs) C p
  from_call k xs C K n p (inl (inl e)) = inr (subst (From (call k xs) C) (sym e) (self_from k xs C))
  from_call k xs C K n p (inl (inr m)) = inl m
  from_call k xs C K n p (inr f) = inr (record {
    upto = [];
    beyond = f.upto ++ f.beyond;
    definition = k;
    names = xs;
    bare = b_call;
    reached = through n f.bare f.reached;
    same = f.same;
  })

  -- a call that is opened
  pub went_opened : (k : ℕ) (xs : List ℕ) (C : Cond) (K K' : List Place) → length xs ≡ Δ.arity k
      → Went (opened xs (Δ.body k)) C (place_of C k xs ∷ K) K' → Went (call k xs) C K K'
  went_opened k xs C K K' n w = record {
    kept = λ p m. w.kept p (inr m);
    calls = calls';
    done = λ p m. done' p (w.done p m);
    sound = λ p m. from_call k xs C K n p (w.sound p m);
  }
    where
      calls' : (C' : Cond) (l : ℕ) (ys : List ℕ) → Bare (call k xs) C' l ys → (D : Cond) × Member (record { condition = D; definition = l; names = ys }) K' × (D ~ (C ++ C'))
      calls' C' l ys b_call = (canonical C, w.kept (place_of C k xs) (inl refl), at_form C)

      onward : Onward K' (place_of C k xs)
      onward C' l ys n b =
          let (D, m, e) = w.calls C' l ys b in
          (D, m, ~_trans D (C ++ C') (canonical C ++ C') e (++-~ C (canonical C) C' C' (~_sym (canonical C) C (canonical-~ C)) (~_refl C')))

      done' : (p : Place) → Member p (place_of C k xs ∷ K) ⊎ Onward K' p → Member p K ⊎ Onward K' p
      done' p (inl (inl e)) = inr (subst (Onward K') (sym e) onward)
      done' p (inl (inr m)) = inl m
      done' p (inr o) = inr o

  -- a call with another number of names than its definition has reaches nothing
  went_wrong : (k : ℕ) (xs : List ℕ) (C : Cond) (K : List Place) → (length xs ≡ Δ.arity k → ⊥) → Went (call k xs) C K (place_of C k xs ∷ K)
  went_wrong k xs C K h = record { kept = λ p m. inr m; calls = calls'; done = done'; sound = sound' }
    where
      calls' : (C' : Cond) (l : ℕ) (ys : List ℕ) → Bare (call k xs) C' l ys → (D : Cond) × Member (record { condition = D; definition = l; names = ys }) (place_of C k xs ∷ K) × (D ~ (C ++ C'))
      calls' C' l ys b_call = (canonical C, inl refl, at_form C)

      stuck : Onward (place_of C k xs ∷ K) (place_of C k xs)
      stuck C' l ys n b = absurd (h n)

      done' : (p : Place) → Member p (place_of C k xs ∷ K) → Member p K ⊎ Onward (place_of C k xs ∷ K) p
      done' p (inl e) = inr (subst (Onward (place_of C k xs ∷ K)) (sym e) stuck)
      done' p (inr m) = inl m

      sound' : (p : Place) → Member p (place_of C k xs ∷ K) → Member p K ⊎ From (call k xs) C p
      sound' p (inl e) = inr (subst (From (call k xs) C) (sym e) (self_from k xs C))
      sound' p (inr m) = inl m

  module _ (opening : ℕ → List ℕ → Cond → List Place → Search)
      (opens : (k : ℕ) (xs : List ℕ) (C : Cond) (K K' : List Place) → opening k xs C K ≡ found K' → Went (call k xs) C K K') where
    same : {P : Term} {C : Cond} {K K' : List Place} → Went P C K K → found K ≡ found K' → Went P C K K'
    same {P} {C} {K} w e = subst (Went P C K) (found_inj e) w

    pub term_went : (P : Term) (C : Cond) (K K' : List Place) → reach_term opening P C K ≡ found K' → Went P C K K'
    unfolding reach_term
    term_went nil C K K' e = same (quiet nil C K (λ C' l ys b. elim b [ ])) e
    term_went (tau P) C K K' e = same (quiet (tau P) C K (λ C' l ys b. elim b [ ])) e
    term_went (inp a P) C K K' e = same (quiet (inp a P) C K (λ C' l ys b. elim b [ ])) e
    term_went (out a b P) C K K' e = same (quiet (out a b P) C K (λ C' l ys b. elim b [ ])) e
    term_went (bout a P) C K K' e = same (quiet (bout a P) C K (λ C' l ys b. elim b [ ])) e
    term_went (mat a b P) C K K' e = went_mat (term_went P (C ++ ((a, b) ∷ [])) K K' e)
    term_went (sum P Q) C K K' e = go (reach_term opening P C K) refl e (term_went P C K) (λ K₁. term_went Q C K₁ K')
      where
        go : (r : Search) → reach_term opening P C K ≡ r
            → elim r [ many ↦ many | spent ↦ spent | found K₁ ↦ reach_term opening Q C K₁ ] ≡ found K'
            → ((K₁ : List Place) → reach_term opening P C K ≡ found K₁ → Went P C K K₁)
            → ((K₁ : List Place) → reach_term opening Q C K₁ ≡ found K' → Went Q C K₁ K') → Went (sum P Q) C K K'
        go many h e f g = no_found e
        go spent h e f g = no_found' e
        go (found K₁) h e f g = went_sum (f K₁ h) (g K₁ e)
    term_went (par P Q) C K K' e = same (quiet (par P Q) C K (λ C' l ys b. elim b [ ])) e
    term_went (res P) C K K' e = same (quiet (res P) C K (λ C' l ys b. elim b [ ])) e
    term_went (call k xs) C K K' e = opens k xs C K K' e

  module _ (limit : ℕ) where
    pub call_went : (n k : ℕ) (xs : List ℕ) (C : Cond) (K K' : List Place) → reach_call Δ limit n k xs C K ≡ found K' → Went (call k xs) C K K'
    unfolding reach_from
    call_went zero k xs C K K' e = go (is_known (place_of C k xs) K) refl e
      where
        go : (b : Bool) → is_known (place_of C k xs) K ≡ b → cond b (found K) spent ≡ found K' → Went (call k xs) C K K'
        go true h e = subst (Went (call k xs) C K) (found_inj e) (went_known k xs C K (known_member (place_of C k xs) K h))
        go false h e = no_found' e
    call_went (suc n) k xs C K K' e =
        go (is_known (place_of C k xs) K) refl (leb (length (differing (place_of C k xs ∷ K))) limit) (eqb (length xs) (Δ.arity k)) refl e
        (λ e. term_went (reach_call Δ limit n) (call_went n) (opened xs (Δ.body k)) C (place_of C k xs ∷ K) K' e)
      where
        go : (b : Bool) → is_known (place_of C k xs) K ≡ b → (c d : Bool) → eqb (length xs) (Δ.arity k) ≡ d
            → cond b (found K) (cond c (cond d (reach_term (reach_call Δ limit n) (opened xs (Δ.body k)) C (place_of C k xs ∷ K)) (found (place_of C k xs ∷ K))) many) ≡ found K'
            → (reach_term (reach_call Δ limit n) (opened xs (Δ.body k)) C (place_of C k xs ∷ K) ≡ found K' → Went (opened xs (Δ.body k)) C (place_of C k xs ∷ K) K')
            → Went (call k xs) C K K'
        go true h c d f e r = subst (Went (call k xs) C K) (found_inj e) (went_known k xs C K (known_member (place_of C k xs) K h))
        go false h false d f e r = no_found e
        go false h true true f e r = went_opened k xs C K K' (eqb-true (length xs) (Δ.arity k) f) (r e)
        go false h true false f e r = subst (Went (call k xs) C K) (found_inj e) (went_wrong k xs C K (eqb-false (length xs) (Δ.arity k) f))

    -- The places found are closed and sound.
    module _ (n k : ℕ) (xs : List ℕ) (K : List Place) (e : places_of Δ limit n k xs ≡ found K) where
      went : Went (call k xs) [] [] K
      unfolding places_of
      went = call_went n k xs [] [] K e

      pub places_closed : Closed Δ (λ p. Member p K) k xs
      places_closed = record {
        start = went.calls [] k xs b_call;
        onward = λ p w {C} {l} {ys} n b. onward p (went.done p w) C l ys n b;
      }
        where
          onward : (p : Place) → Member p [] ⊎ Onward K p → Onward K p
          onward p (inl m) = absurd m
          onward p (inr o) = o

      reach_call_lem : (D : Cond) (p : Place) {C : Cond} {l : ℕ} {ys : List ℕ} → Bare (call k xs) C l ys → Reached Δ l ys D p.definition p.names
          → p.condition ~ (C ++ D) → (E : Cond) × Reached Δ k xs E p.definition p.names × (p.condition ~ E)
      reach_call_lem D p b_call r s = (D, r, s)

      pub places_sound : Sound Δ (λ p. Member p K) k xs
      unfolding Sound
      places_sound p m = go (went.sound p m)
        where
          go : Member p [] ⊎ From (call k xs) [] p → (C : Cond) × Reached Δ k xs C p.definition p.names × (p.condition ~ C)
          go (inl m) = absurd m
          go (inr f) = reach_call_lem f.beyond p f.bare f.reached f.same

      -- So the steps of the call are those that the places give, up to the form of the condition.
      pub call-given : {M : Cond} {α : Act} {R : Term} → Trans Δ (call k xs) M α R → Given Δ (λ p. Member p K) k xs places_closed M α R
      call-given t = given Δ (λ p. Member p K) k xs places_closed t

      pub given-call : {M : Cond} {α : Act} {R : Term} → Given Δ (λ p. Member p K) k xs places_closed M α R → (N : Cond) × Trans Δ (call k xs) N α R × (N ~ M)
      given-call g = of_given Δ (λ p. Member p K) k xs places_closed places_sound g
