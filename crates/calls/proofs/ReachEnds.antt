-- The search is never spent: calls opened one within the other beneath growing conditions are at most as many as the calls that differ, for each
-- rank of the condition, and a condition on so many names has a rank of at most their number. Assumes nothing.
use borrow.Author.Tests.{eqb-true, eq-eqb, leb-true}
use mathlib.Core.Bool.{Bool, true, false, cond, ◌&&◌, ◌||◌}
use mathlib.Core.List.{List, [], ◌∷◌, ◌++◌, map}
use mathlib.Core.Logic.{◌≢◌, ◌⊎◌, inl, inr}
use mathlib.Core.Path.{◌≡◌, refl, sym, ◌∙◌, ap, ap₂, subst}
use native.Mathlib.Decide.{ℕ_discrete}
use native.Mathlib.Nat.{suc-mul, add_comm, mul-le-mul_right}
use native.Mathlib.Omega.{arith}
use Prim.Native.Nat.{ℕ, zero, suc, ◌+◌, ◌*◌, ◌<◌, ◌≤◌}
use lib.Dec.{eqb, leb}
use lib.ListN.{length, length-map, length-append}
use Rattle.calculus.specs.Cond.{Cond, Name, Unif, cls, canonical, ◌▷◌}
use Rattle.calculus.specs.Definitions.{Defs, opened}
use Rattle.calculus.specs.Free.{In, Free}
use Rattle.calculus.specs.Lists.{◌∈◌, Distinct}
use Rattle.calculus.specs.Term.{Term, nil, tau, inp, out, bout, mat, sum, par, res, call}
use Rattle.calls.specs.Reach.{Bare, b_call, b_mat, b_sum_l, b_sum_r}
use Rattle.calls.specs.ReachSearch.{Place, place_of, same_pairs, same_place, is_known, differing, Search, many, spent, found, reach_term, reach_from, reach_call, places_of, call_of}
use Rattle.calls.specs.ReachLimit.{Call}
use Rattle.calculus.proofs.Canonical.{canonical-same}
use Rattle.calculus.proofs.Conditions.{E1, E2, E4-names, cls_le, ▷-cls, ▷_trans, Unif-left}
use Rattle.calculus.proofs.Membership.{∈-left, ∈_right, ∈-mapped, distinct_length}
use Rattle.calls.proofs.ReachLimits.{same-call, differing-all, member-call, term_few, call_few}
use Rattle.calls.proofs.ReachSearching.{Member, Went, term_went, call_went}
use Rattle.calculus.proofs.WorkingNames.{opened_free}

-- How many of the names a condition moves to a smaller one.
moved : ℕ → ℕ → ℕ
moved x y = cond (eqb x y) 0 1

rank : List ℕ → Cond → ℕ
rank [] C = 0
rank (x ∷ xs) C = moved (cls C x) x + rank xs C

moved_few : (x y : ℕ) → moved x y ≤ 1
unfolding moved
moved_few x y = go (eqb x y)
  where
    go : (b : Bool) → cond b 0 1 ≤ 1
    go true = omega arith
    go false = omega arith

rank_few : (xs : List ℕ) (C : Cond) → rank xs C ≤ length xs
unfolding rank
rank_few [] C = omega arith
rank_few (x ∷ xs) C = omega (arith, moved_few (cls C x) x, rank_few xs C)

-- a stronger condition moves what a weaker one does
moved_more : (C D : Cond) → C ▷ D → (x : ℕ) → moved (cls D x) x ≤ moved (cls C x) x
unfolding moved
moved_more C D i x = go (eqb (cls D x) x) refl (eqb (cls C x) x) refl
  where
    go : (b : Bool) → eqb (cls D x) x ≡ b → (c : Bool) → eqb (cls C x) x ≡ c → cond b 0 1 ≤ cond c 0 1
    go true h true k = omega arith
    go true h false k = omega arith
    go false h false k = omega arith
    go false h true k =
        let e : cls C x ≡ x = eqb-true (cls C x) x k in
        let f : cls C (cls D x) ≡ cls C x = ▷-cls C D i x in
        let l = cls_le C (cls D x) in
        let m = cls_le D x in
        let s : cls D x ≡ x = omega arith in
        let z : true ≡ false = sym (eq-eqb (cls D x) x s) ∙ h in
        let o : ◌≡◌ {A = ℕ} 0 1 = cc in absurd (omega arith)

moved_one : (x y : ℕ) → eqb x y ≡ false → moved x y ≡ 1
unfolding moved
moved_one x y h = ap (λ b. cond b 0 1) h

moved_none : (x y : ℕ) → eqb x y ≡ true → moved x y ≡ 0
unfolding moved
moved_none x y h = ap (λ b. cond b 0 1) h

rank-more : (C D : Cond) → C ▷ D → (ys : List ℕ) → rank ys D ≤ rank ys C
unfolding rank
rank-more C D i [] = omega arith
rank-more C D i (z ∷ ys) = omega (arith, moved_more C D i z, rank-more C D i ys)

-- and where the ranks are equal, no more
still : (C D : Cond) (x : ℕ) → cls D x ≡ x → moved (cls C x) x ≤ moved (cls D x) x → cls C x ≡ x
still C D x e k = go (eqb (cls C x) x) refl
  where
    go : (b : Bool) → eqb (cls C x) x ≡ b → cls C x ≡ x
    go true h = eqb-true (cls C x) x h
    go false h =
        let a : moved (cls C x) x ≡ 1 = moved_one (cls C x) x h in
        let b : moved (cls D x) x ≡ 0 = moved_none (cls D x) x (eq-eqb (cls D x) x e) in
        absurd (omega arith)

rank_same : (xs : List ℕ) (C D : Cond) → C ▷ D → rank xs C ≤ rank xs D → (x : ℕ) → In x xs → cls D x ≡ x → cls C x ≡ x
unfolding rank
rank_same [] C D i l x x6 e = elim x6 [ ]
rank_same (y ∷ xs) C D i l x (inl f) e =
    still C D x e (subst (λ z. moved (cls C z) z ≤ moved (cls D z) z) (sym f) (omega (arith, moved_more C D i y, rank-more C D i xs)))
rank_same (y ∷ xs) C D i l x (inr m) e = rank_same xs C D i (omega (arith, moved_more C D i y, rank-more C D i xs)) x m e

-- A condition on the names xs.
abbrev On : List ℕ → Cond → Type 0
On xs C = (n : ℕ) → Name n C → In n xs

-- its class of a name of xs is one of xs
class_on : (xs : List ℕ) (D : Cond) → On xs D → (x : ℕ) → In x xs → In (cls D x) xs
class_on xs D h x m = go (ℕ_discrete (cls D x) x)
  where
    go : Dec (cls D x ≡ x) → In (cls D x) xs
    go (yes e) = subst (λ n. In n xs) (sym e) m
    go (no k) = h (cls D x) (E4-names D x k).1

same_class : (xs : List ℕ) (C D : Cond) → On xs D → C ▷ D → rank xs C ≤ rank xs D → (x : ℕ) → In x xs → cls C x ≡ cls D x
same_class xs C D h i l x m = sym (▷-cls C D i x) ∙ rank_same xs C D i l (cls D x) (class_on xs D h x m) (E1 D x)

rank-implies : (xs : List ℕ) (C D : Cond) → On xs C → On xs D → C ▷ D → rank xs C ≤ rank xs D → D ▷ C
rank-implies xs C D g h i l = all C g (E2 C)
  where
    all : (M : Cond) → ((n : ℕ) → Name n M → In n xs) → Unif (cls C) M → Unif (cls D) M
    all [] k u = tt
    all (p ∷ M) k (e, u) = (
      sym (same_class xs C D h i l p.0 (k p.0 (inl refl))) ∙ e ∙ same_class xs C D h i l p.1 (k p.1 (inr (inl refl))),
      all M (λ n m. k n (inr (inr m))) u,
    )

-- Names of an unprefixed call and of the matches above it.
pub bare_free : {P : Term} {C : Cond} {l : ℕ} {ys : List ℕ} → Bare P C l ys → (n : ℕ) → Name n C ⊎ In n ys → Free n P
bare_free (b_call {k = k} {xs = xs}) n (inl x7) = elim x7 [ ]
bare_free b_call n (inr m) = m
bare_free (b_mat h) n (inl (inl e)) = inl e
bare_free (b_mat h) n (inl (inr (inl e))) = inr (inl e)
bare_free (b_mat h) n (inl (inr (inr m))) = inr (inr (bare_free h n (inl m)))
bare_free (b_mat h) n (inr m) = inr (inr (bare_free h n (inr m)))
bare_free (b_sum_l h) n m = inl (bare_free h n m)
bare_free (b_sum_r h) n m = inr (bare_free h n m)

-- Every call with every rank up to a number.
levels : Call → ℕ → List (Call × ℕ)
levels c zero = []
levels c (suc n) = (c, n) ∷ levels c n

grid : List Call → ℕ → List (Call × ℕ)
grid [] n = []
grid (c ∷ cs) n = levels c n ++ grid cs n

length_levels : (c : Call) (n : ℕ) → length (levels c n) ≡ n
unfolding levels
length_levels c zero = refl
length_levels c (suc n) = ap suc (length_levels c n)

length_grid : (cs : List Call) (n : ℕ) → length (grid cs n) ≡ length cs * n
unfolding grid
length_grid [] n = omega arith
length_grid (c ∷ cs) n =
    let a : length (levels c n ++ grid cs n) ≡ n + length cs * n = length-append (levels c n) (grid cs n) ∙ ap₂ ◌+◌ (length_levels c n) (length_grid cs n) in
    let b : suc (length cs) * n ≡ length cs * n + n = suc-mul (length cs) n in
    a ∙ add_comm n (length cs * n) ∙ sym b

in_levels : (c : Call) (n r : ℕ) → r < n → ◌∈◌ {A = Call × ℕ} (c, r) (levels c n)
unfolding levels
in_levels c zero r l = absurd (omega arith)
in_levels c (suc n) r l = go (ℕ_discrete r n) (in_levels c n r)
  where
    go : Dec (r ≡ n) → (r < n → ◌∈◌ {A = Call × ℕ} (c, r) (levels c n)) → ◌∈◌ {A = Call × ℕ} (c, r) ((c, n) ∷ levels c n)
    go (yes e) f = inl (ap (λ m. (c, m)) e)
    go (no k) f = inr (f (omega arith))

in_grid : (c : Call) (cs : List Call) (n r : ℕ) → c ∈ cs → r < n → ◌∈◌ {A = Call × ℕ} (c, r) (grid cs n)
unfolding grid
in_grid c [] n r x'' l = elim x'' [ ]
in_grid c (d ∷ cs) n r (inl e) l =
    ∈-left (c, r) (levels d n) (grid cs n) (subst (λ b. ◌∈◌ {A = Call × ℕ} (c, r) (levels b n)) e (in_levels c n r l))
in_grid c (d ∷ cs) n r (inr m) l = ∈_right (c, r) (levels d n) (grid cs n) (in_grid c cs n r m l)

times_le : (a b n : ℕ) → a ≤ b → a * n ≤ b * n
times_le a b n h = mul-le-mul_right n h

zero_add : (n : ℕ) → 0 + n ≡ n
zero_add n = omega arith

steps_on : (n m : ℕ) → n + suc m ≡ suc n + m
steps_on n m = omega arith

-- Known places are found.
same-pairs : (D : Cond) → same_pairs D D ≡ true
unfolding same_pairs
same-pairs [] = refl
same-pairs (p ∷ D) = ap₂ ◌&&◌ (ap₂ ◌&&◌ (eq-eqb p.0 p.0 refl) (eq-eqb p.1 p.1 refl)) (same-pairs D)

same_place_lem : (p : Place) → same_place p p ≡ true
unfolding same_place
same_place_lem p = ap₂ ◌&&◌ (same-call p p refl) (same-pairs p.condition)

member-known : (p : Place) (K : List Place) → Member p K → is_known p K ≡ true
unfolding is_known
member-known p [] x' = elim x' [ ]
member-known p (q ∷ K) (inl e) = ap (λ b. b || is_known p K) (subst (λ r. same_place p r ≡ true) e (same_place_lem p))
member-known p (q ∷ K) (inr m) = go (same_place p q) (member-known p K m)
  where
    go : (b : Bool) → is_known p K ≡ true → (b || is_known p K) ≡ true
    go true e = refl
    go false e = e

clash : {A : Type 0} → ◌≡◌ {A = Bool} true false → A
clash e = let z : ◌≡◌ {A = ℕ} 0 1 = cc in absurd (omega arith)

-- Calls opened one within the other, the last first, each with the matches above it.
formed : Place → Place
formed p = place_of p.condition p.definition p.names

abbrev Chain : List Place → Type 0
Chain [] = Unit
Chain (p ∷ ps) = ((q : Place) → Member q ps → p.condition ▷ q.condition) × Chain ps

abbrev Fresh : List Place → Type 0
Fresh [] = Unit
Fresh (p ∷ ps) = ((q : Place) → Member q ps → formed p ≢ formed q) × Fresh ps

module _ (root : List ℕ) where
  pair : Place → Call × ℕ
  pair p = (call_of p, rank root p.condition)

  same_formed : (p q : Place) → On root p.condition → On root q.condition → p.condition ▷ q.condition → pair p ≡ pair q → formed p ≡ formed q
  unfolding pair formed
  same_formed p q g h i e =
      let r : rank root p.condition ≡ rank root q.condition = ap (λ x. x.1) e in
      let a : p.definition ≡ q.definition = ap (λ x. x.0.0) e in
      let b : p.names ≡ q.names = ap (λ x. x.0.1) e in
      let c : canonical p.condition ≡ canonical q.condition = canonical-same p.condition q.condition (i, rank-implies root p.condition q.condition g h i (omega arith)) in
      λ j. record { condition = c j; definition = a j; names = b j }

  pairs_distinct : (ps : List Place) → Chain ps → Fresh ps → ((q : Place) → Member q ps → On root q.condition) → Distinct (map pair ps)
  pairs_distinct [] c f h = tt
  pairs_distinct (p ∷ ps) (c, cs) (f, fs) h = (
    λ m. let (q, i, e) = ∈-mapped pair (pair p) ps m in f q i (same_formed p q (h p (inl refl)) (h q (inr i)) (c q i) e),
    pairs_distinct ps cs fs (λ q i. h q (inr i)),
  )

  module _ (Δ : Defs) (limit : ℕ) where
    abbrev Few : List Place → Type 0
    Few K = length (differing K) ≤ limit

    -- calls opened one within the other, all known, beneath C
    record Path (C : Cond) (K ps : List Place) : Type 0 where
      chain : Chain ps
      fresh : Fresh ps
      on : (q : Place) → Member q ps → On root q.condition
      inside : (q : Place) → Member q ps → Member (formed q) K
      above : (q : Place) → Member q ps → C ▷ q.condition
      few : Few K

    -- so many of them
    record Long (m : ℕ) : Type 0 where
      cond : Cond
      known : List Place
      places : List Place
      path : Path cond known places
      many : length places ≡ m

    long_bound : (m : ℕ) → Long m → m ≤ limit * (1 + length root)
    unfolding pair formed
    long_bound m l =
        let ps = l.places in
        let cs = map call_of (differing l.known) in
        let a : length (map pair ps) ≤ length (grid cs (1 + length root)) =
        distinct_length (map pair ps) (grid cs (1 + length root)) (pairs_distinct ps l.path.chain l.path.fresh l.path.on)
        (λ x i. let (q, j, e) = ∈-mapped pair x ps i in
        subst (λ y. ◌∈◌ {A = Call × ℕ} y (grid cs (1 + length root))) (sym e) (in_it q j)) in
        let b : length (grid cs (1 + length root)) ≡ length cs * (1 + length root) = length_grid cs (1 + length root) in
        let c : length cs ≤ limit = subst (λ k. k ≤ limit) (sym (length-map (differing l.known) call_of)) l.path.few in
        let d : length cs * (1 + length root) ≤ limit * (1 + length root) = times_le (length cs) limit (1 + length root) c in
        let e : length ps ≡ m = l.many in
        omega (arith, length-map ps pair)
      where
        in_it : (q : Place) → Member q l.places → ◌∈◌ {A = Call × ℕ} (pair q) (grid (map call_of (differing l.known)) (1 + length root))
        in_it q j = in_grid (call_of q) (map call_of (differing l.known)) (1 + length root) (rank root q.condition)
            (differing-all (call_of q) l.known (member-call (formed q) l.known (l.path.inside q j)))
            (omega (arith, rank_few root q.condition))

    found-spent : {K : List Place} {A : Type 0} → found K ≡ spent → A
    found-spent e = let z : ◌≡◌ {A = ℕ} 0 1 = cc in absurd (omega arith)

    many-spent : {A : Type 0} → many ≡ spent → A
    many-spent e = let z : ◌≡◌ {A = ℕ} 0 1 = cc in absurd (omega arith)

    name-append : (C D : Cond) (n : ℕ) → Name n (C ++ D) → Name n C ⊎ Name n D
    name-append [] D n m = inr m
    name-append (p ∷ C) D n (inl e) = inl (inl e)
    name-append (p ∷ C) D n (inr (inl e)) = inl (inr (inl e))
    name-append (p ∷ C) D n (inr (inr m)) = go (name-append C D n m)
      where
        go : Name n C ⊎ Name n D → Name n (p ∷ C) ⊎ Name n D
        go (inl h) = inl (inr (inr h))
        go (inr h) = inr h

    -- beneath one match more
    on_match : (a b : ℕ) (C : Cond) → On root C → In a root → In b root → On root (C ++ ((a, b) ∷ []))
    on_match a b C h i j n m = go (name-append C ((a, b) ∷ []) n m)
      where
        go : Name n C ⊎ Name n ((a, b) ∷ []) → In n root
        go (inl k) = h n k
        go (inr (inl e)) = subst (λ x. In x root) (sym e) i
        go (inr (inr (inr x3))) = elim x3 [ ]
        go (inr (inr (inl e))) = subst (λ x. In x root) (sym e) j

    path_match : (a b : ℕ) (C : Cond) (K ps : List Place) → Path C K ps → Path (C ++ ((a, b) ∷ [])) K ps
    path_match a b C K ps p = record {
      chain = p.chain;
      fresh = p.fresh;
      on = p.on;
      inside = p.inside;
      above = λ q m. ▷_trans (C ++ ((a, b) ∷ [])) C q.condition (Unif-left (cls (C ++ ((a, b) ∷ []))) C ((a, b) ∷ []) (E2 (C ++ ((a, b) ∷ [])))) (p.above q m);
      few = p.few;
    }

    abbrev In_root : Term → Type 0
    In_root P = (m : ℕ) → Free m P → In m root

    module _ (n : ℕ) (opening : ℕ → List ℕ → Cond → List Place → Search)
        (went : (k : ℕ) (xs : List ℕ) (C : Cond) (K K' : List Place) → opening k xs C K ≡ found K' → Went Δ (call k xs) C K K')
        (few : (k : ℕ) (xs : List ℕ) (C : Cond) (K K' : List Place) → opening k xs C K ≡ found K' → Few K → Few K')
        (opens : (k : ℕ) (xs : List ℕ) (C : Cond) (K ps : List Place) → ((m : ℕ) → In m xs → In m root) → On root C → Path C K ps
        → opening k xs C K ≡ spent → Long (n + length ps)) where
      term_spent : (P : Term) (C : Cond) (K ps : List Place) → In_root P → On root C → Path C K ps → reach_term opening P C K ≡ spent → Long (n + length ps)
      unfolding reach_term
      term_spent nil C K ps h o p e = found-spent e
      term_spent (tau P) C K ps h o p e = found-spent e
      term_spent (inp a P) C K ps h o p e = found-spent e
      term_spent (out a b P) C K ps h o p e = found-spent e
      term_spent (bout a P) C K ps h o p e = found-spent e
      term_spent (mat a b P) C K ps h o p e =
          term_spent P (C ++ ((a, b) ∷ [])) K ps (λ m f. h m (inr (inr f))) (on_match a b C o (h a (inl refl)) (h b (inr (inl refl)))) (path_match a b C K ps p) e
      term_spent (sum P Q) C K ps h o p e =
          go (reach_term opening P C K) refl e (term_spent P C K ps (λ m f. h m (inl f)) o p) (λ K₁. term_spent Q C K₁ ps (λ m f. h m (inr f)) o)
        where
          go : (r : Search) → reach_term opening P C K ≡ r
              → elim r [ many ↦ many | spent ↦ spent | found K₁ ↦ reach_term opening Q C K₁ ] ≡ spent
              → (reach_term opening P C K ≡ spent → Long (n + length ps))
              → ((K₁ : List Place) → Path C K₁ ps → reach_term opening Q C K₁ ≡ spent → Long (n + length ps)) → Long (n + length ps)
          go many g e f l = many-spent e
          go spent g e f l = f g
          go (found K₁) g e f l =
              let w = term_went Δ opening went P C K K₁ g in
              l K₁ (record {
                chain = p.chain;
                fresh = p.fresh;
                on = p.on;
                inside = λ q m. w.kept (formed q) (p.inside q m);
                above = p.above;
                few = term_few Δ limit opening few P C K K₁ g p.few;
              }) e
      term_spent (par P Q) C K ps h o p e = found-spent e
      term_spent (res P) C K ps h o p e = found-spent e
      term_spent (call k xs) C K ps h o p e = opens k xs C K ps h o p e

    -- one call more on the way
    path_on : (k : ℕ) (xs : List ℕ) (C : Cond) (K ps : List Place) → On root C → is_known (place_of C k xs) K ≡ false → Few (place_of C k xs ∷ K) → Path C K ps
        → Path C (place_of C k xs ∷ K) (record { condition = C; definition = k; names = xs } ∷ ps)
    unfolding formed
    path_on k xs C K ps o h f p = record {
      chain = (λ q m. p.above q m, p.chain);
      fresh = (λ q m e. clash (sym (member-known (place_of C k xs) K (subst (λ r. Member r K) (sym e) (p.inside q m))) ∙ h), p.fresh);
      on = on';
      inside = inside';
      above = above';
      few = f;
    }
      where
        self : Place
        self = record { condition = C; definition = k; names = xs }

        on' : (q : Place) → Member q (record { condition = C; definition = k; names = xs } ∷ ps) → On root q.condition
        on' q (inl e) = subst (λ r. On root r.condition) (sym e) o
        on' q (inr m) = p.on q m

        inside' : (q : Place) → Member q (record { condition = C; definition = k; names = xs } ∷ ps) → Member (formed q) (place_of C k xs ∷ K)
        inside' q (inl e) = inl (ap formed e)
        inside' q (inr m) = inr (p.inside q m)

        above' : (q : Place) → Member q (record { condition = C; definition = k; names = xs } ∷ ps) → C ▷ q.condition
        above' q (inl e) = subst (λ r. C ▷ r.condition) (sym e) (E2 C)
        above' q (inr m) = p.above q m

    call-spent : (n k : ℕ) (xs : List ℕ) (C : Cond) (K ps : List Place) → ((m : ℕ) → In m xs → In m root) → On root C → Path C K ps
        → reach_call Δ limit n k xs C K ≡ spent → Long (n + length ps)
    unfolding reach_from
    call-spent zero k xs C K ps h o p e = record { cond = C; known = K; places = ps; path = p; many = sym (zero_add (length ps)) }
    call-spent (suc n) k xs C K ps h o p e =
        go (is_known (place_of C k xs) K) refl (leb (length (differing (place_of C k xs ∷ K))) limit) refl (eqb (length xs) (Δ.arity k)) refl e
        (λ l q e. term_spent n (reach_call Δ limit n) (call_went Δ limit n) (call_few Δ limit n) (call-spent n) (opened xs (Δ.body k)) C (place_of C k xs ∷ K)
        (record { condition = C; definition = k; names = xs } ∷ ps) (λ m f. h m (opened_free Δ k xs l m f)) o q e)
      where
        go : (b : Bool) → is_known (place_of C k xs) K ≡ b → (c : Bool) → leb (length (differing (place_of C k xs ∷ K))) limit ≡ c → (d : Bool) → eqb (length xs) (Δ.arity k) ≡ d
            → cond b (found K) (cond c (cond d (reach_term (reach_call Δ limit n) (opened xs (Δ.body k)) C (place_of C k xs ∷ K)) (found (place_of C k xs ∷ K))) many) ≡ spent
            → (length xs ≡ Δ.arity k → Path C (place_of C k xs ∷ K) (record { condition = C; definition = k; names = xs } ∷ ps)
            → reach_term (reach_call Δ limit n) (opened xs (Δ.body k)) C (place_of C k xs ∷ K) ≡ spent → Long (n + suc (length ps)))
            → Long (suc n + length ps)
        go true g c f d i e r = found-spent e
        go false g false f d i e r = many-spent e
        go false g true f false i e r = found-spent e
        go false g true f true i e r =
            subst Long (steps_on n (length ps))
            (r (eqb-true (length xs) (Δ.arity k) i) (path_on k xs C K ps o g (leb-true (length (differing (place_of C k xs ∷ K))) limit f) p) e)

-- With so many calls to open one within the other, the search is never spent.
pub never_spent : (Δ : Defs) (limit n k : ℕ) (xs : List ℕ) → limit * (1 + length xs) < n → places_of Δ limit n k xs ≡ spent → ⊥
unfolding places_of differing
never_spent Δ limit n k xs h e =
    let l = call-spent xs Δ limit n k xs [] [] [] (λ m i. i) (λ m i. absurd i)
    (record { chain = tt; fresh = tt; on = λ q m. absurd m; inside = λ q m. absurd m; above = λ q m. absurd m; few = omega arith }) e in
    let b = long_bound xs Δ limit (n + 0) l in
    omega arith
