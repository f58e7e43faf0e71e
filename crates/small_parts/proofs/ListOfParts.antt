-- A list that has every part of the census as a term, and how many there are: the room that the words of the census need.
use mathlib.Core.Path.{◌≡◌, refl, sym, subst}
use mathlib.Core.Bool.{Bool, true, false, cond}
use mathlib.Core.List.{List, [], ◌∷◌, map}
use mathlib.Core.Logic.{inl, inr}
use Prim.Native.Nat.{ℕ, zero, suc, ◌+◌, ◌-◌, ◌≤◌, ◌<◌}
use native.Mathlib.Omega.{arith}
use native.Mathlib.Decide.{ℕ_discrete}
use lib.ListN.{length}
use lib.Dec.{eqb}
use Rattle.calculus.specs.Term.{Term, nil, tau, inp, out, bout, mat, sum, par, res, call}
use Rattle.terms.specs.Encoding.{InScope}
use Rattle.terms.specs.Grammar.{sequential, parallel_outermost}
use Rattle.terms.proofs.Answers.{both_true}
use Rattle.calculus.specs.Lists.{◌∈◌}
use Rattle.steps.specs.Listed.{names_from}
use Rattle.calculus.proofs.Membership.{∈-map}
use Rattle.small_parts.proofs.Counting.{join_all, ∈-join, crossed, ∈-crossed}
use Rattle.small_parts.proofs.Size.{size, some}

-- The terms of n bytes with the names 0 and 1 free, without calls, d binders above; parallels outermost if `top`, and else none. `fuel` is at least n.
unfoldable pub parts : ℕ → ℕ → ℕ → Bool → List Term
parts zero n d top = []
parts (suc fuel) zero d top = []
parts (suc fuel) (suc n) d top =
    let names = names_from 0 (d + 2) in
    join_all (cond (eqb n 0) (nil ∷ []) []
    ∷ map tau (parts fuel n d false)
    ∷ map res (parts fuel n (suc d) top)
    ∷ join_all (map (λ a. map (inp a) (parts fuel (n - 1) (suc d) false)) names)
    ∷ join_all (map (λ a. map (bout a) (parts fuel (n - 1) (suc d) false)) names)
    ∷ join_all (map (λ a. join_all (map (λ b. map (out a b) (parts fuel (n - 2) d false)) names)) names)
    ∷ join_all (map (λ a. join_all (map (λ b. map (mat a b) (parts fuel (n - 2) d false)) names)) names)
    ∷ join_all (map (λ i. crossed sum (parts fuel i d false) (parts fuel (n - i) d false)) (names_from 0 (suc n)))
    ∷ cond top (join_all (map (λ i. crossed par (parts fuel i d true) (parts fuel (n - i) d true)) (names_from 0 (suc n)))) []
    ∷ [])

-- how many parts of each length there are, from 0 bytes on
pub number_of_parts_lem : (length (parts 0 0 0 true) ≡ 0) × (length (parts 1 1 0 true) ≡ 1) × (length (parts 2 2 0 true) ≡ 2)
    × (length (parts 3 3 0 true) ≡ 10) × (length (parts 4 4 0 true) ≡ 45) × (length (parts 5 5 0 true) ≡ 209)
unfolding parts crossed join_all names_from
number_of_parts_lem = (refl, refl, refl, refl, refl, refl)

pub at_most_parts : (n : ℕ) → n ≤ 5 → length (parts n n 0 true) ≤ 209
at_most_parts zero h = omega (arith, number_of_parts_lem.0)
at_most_parts (suc zero) h = omega (arith, number_of_parts_lem.1)
at_most_parts (suc (suc zero)) h = omega (arith, number_of_parts_lem.2)
at_most_parts (suc (suc (suc zero))) h = omega (arith, number_of_parts_lem.3)
at_most_parts (suc (suc (suc (suc zero)))) h = omega (arith, number_of_parts_lem.4)
at_most_parts (suc (suc (suc (suc (suc zero))))) h = omega (arith, number_of_parts_lem.5)
at_most_parts (suc (suc (suc (suc (suc (suc n)))))) h = absurd (omega arith)

in_names : (k n j : ℕ) → k ≤ j → j < k + n → j ∈ names_from k n
unfolding names_from
in_names k zero j h l = absurd (omega arith)
in_names k (suc n) j h l = go (λ h'. in_names (suc k) n j h' (omega arith)) (ℕ_discrete j k)
  where
    go : (suc k ≤ j → j ∈ names_from (suc k) n) → Dec (j ≡ k) → j ∈ names_from k (suc n)
    go r (yes e) = inl e
    go r (no e) = inr (r (omega arith))

-- what check 10 asks
abbrev Control : Bool → Term → Type 0
Control true P = parallel_outermost P ≡ true
Control false P = sequential P ≡ true

under-tau : (top : Bool) (P : Term) → Control top (tau P) → Control false P
unfolding sequential parallel_outermost
under-tau true P h = h
under-tau false P h = h

under-inp : (top : Bool) (a : ℕ) (P : Term) → Control top (inp a P) → Control false P
unfolding sequential parallel_outermost
under-inp true a P h = h
under-inp false a P h = h

under-out : (top : Bool) (a b : ℕ) (P : Term) → Control top (out a b P) → Control false P
unfolding sequential parallel_outermost
under-out true a b P h = h
under-out false a b P h = h

under-bout : (top : Bool) (a : ℕ) (P : Term) → Control top (bout a P) → Control false P
unfolding sequential parallel_outermost
under-bout true a P h = h
under-bout false a P h = h

under-mat : (top : Bool) (a b : ℕ) (P : Term) → Control top (mat a b P) → Control false P
unfolding sequential parallel_outermost
under-mat true a b P h = h
under-mat false a b P h = h

under-sum : (top : Bool) (P Q : Term) → Control top (sum P Q) → Control false P × Control false Q
unfolding sequential parallel_outermost
under-sum true P Q h = both_true (sequential P) (sequential Q) h
under-sum false P Q h = both_true (sequential P) (sequential Q) h

under-par : (P Q : Term) → Control true (par P Q) → Control true P × Control true Q
unfolding parallel_outermost
under-par P Q h = both_true (parallel_outermost P) (parallel_outermost Q) h

no_par : (P Q : Term) → Control false (par P Q) → ⊥
unfolding sequential
no_par P Q h = let z : ◌≡◌ {A = ℕ} 0 1 = cc in omega arith

under_res : (top : Bool) (P : Term) → Control top (res P) → Control top P
unfolding sequential parallel_outermost
under_res true P h = h
under_res false P h = h

at_size : (d : ℕ) (top : Bool) (P : Term) (f n : ℕ) → n ≡ size P → P ∈ parts f (size P) d top → P ∈ parts f n d top
at_size d top P f n e i = subst (λ m. P ∈ parts f m d top) (sym e) i

one_more : (d : ℕ) (P : Term) → InScope 2 [] (1 + d) P → InScope 2 [] (suc d) P
one_more d P h = let e : 1 + d ≡ suc d = omega arith in subst (λ n. InScope 2 [] n P) e h

-- every part of the census is there
pub listed : (P : Term) (fuel d : ℕ) (top : Bool) → size P ≤ fuel → InScope 2 [] d P → Control top P → P ∈ parts fuel (size P) d top
unfolding parts InScope
listed P zero d top h s c = absurd (omega (arith, some P))
listed nil (suc f) d top h s c = ∈-join nil (nil ∷ []) _ (inl refl) (inl refl)
listed (tau P) (suc f) d top h s c =
    ∈-join (tau P) (map tau (parts f (size P) d false)) _ (∈-map tau P (parts f (size P) d false) (listed P f d false (omega arith) s (under-tau top P c))) (inr (inl refl))
listed (res P) (suc f) d top h s c =
    ∈-join (res P) (map res (parts f (size P) (suc d) top)) _ (∈-map res P (parts f (size P) (suc d) top) (listed P f (suc d) top (omega arith) (one_more d P s) (under_res top P c))) (inr (inr (inl refl)))
listed (inp a P) (suc f) d top h s c =
    let ps : List Term = parts f (suc (size P) - 1) (suc d) false in
    ∈-join (inp a P) (join_all (map (λ a. map (inp a) ps) (names_from 0 (d + 2)))) _
    (∈-join (inp a P) (map (inp a) ps) (map (λ a. map (inp a) ps) (names_from 0 (d + 2)))
    (∈-map (inp a) P ps (at_size (suc d) false P f (suc (size P) - 1) (omega arith) (listed P f (suc d) false (omega arith) (one_more d P s.1) (under-inp top a P c))))
    (∈-map (λ a. map (inp a) ps) a (names_from 0 (d + 2)) (in_names 0 (d + 2) a (omega arith) (omega (arith, s.0)))))
    (inr (inr (inr (inl refl))))
listed (bout a P) (suc f) d top h s c =
    let ps : List Term = parts f (suc (size P) - 1) (suc d) false in
    ∈-join (bout a P) (join_all (map (λ a. map (bout a) ps) (names_from 0 (d + 2)))) _
    (∈-join (bout a P) (map (bout a) ps) (map (λ a. map (bout a) ps) (names_from 0 (d + 2)))
    (∈-map (bout a) P ps (at_size (suc d) false P f (suc (size P) - 1) (omega arith) (listed P f (suc d) false (omega arith) (one_more d P s.1) (under-bout top a P c))))
    (∈-map (λ a. map (bout a) ps) a (names_from 0 (d + 2)) (in_names 0 (d + 2) a (omega arith) (omega (arith, s.0)))))
    (inr (inr (inr (inr (inl refl)))))
listed (out a b P) (suc f) d top h s c =
    let ps : List Term = parts f (suc (suc (size P)) - 2) d false in
    let names : List ℕ = names_from 0 (d + 2) in
    ∈-join (out a b P) (join_all (map (λ a. join_all (map (λ b. map (out a b) ps) names)) names)) _
    (∈-join (out a b P) (join_all (map (λ b. map (out a b) ps) names)) (map (λ a. join_all (map (λ b. map (out a b) ps) names)) names)
    (∈-join (out a b P) (map (out a b) ps) (map (λ b. map (out a b) ps) names)
    (∈-map (out a b) P ps (at_size d false P f (suc (suc (size P)) - 2) (omega arith) (listed P f d false (omega arith) s.2 (under-out top a b P c))))
    (∈-map (λ b. map (out a b) ps) b names (in_names 0 (d + 2) b (omega arith) (omega (arith, s.1)))))
    (∈-map (λ a. join_all (map (λ b. map (out a b) ps) names)) a names (in_names 0 (d + 2) a (omega arith) (omega (arith, s.0)))))
    (inr (inr (inr (inr (inr (inl refl))))))
listed (mat a b P) (suc f) d top h s c =
    let ps : List Term = parts f (suc (suc (size P)) - 2) d false in
    let names : List ℕ = names_from 0 (d + 2) in
    ∈-join (mat a b P) (join_all (map (λ a. join_all (map (λ b. map (mat a b) ps) names)) names)) _
    (∈-join (mat a b P) (join_all (map (λ b. map (mat a b) ps) names)) (map (λ a. join_all (map (λ b. map (mat a b) ps) names)) names)
    (∈-join (mat a b P) (map (mat a b) ps) (map (λ b. map (mat a b) ps) names)
    (∈-map (mat a b) P ps (at_size d false P f (suc (suc (size P)) - 2) (omega arith) (listed P f d false (omega arith) s.2 (under-mat top a b P c))))
    (∈-map (λ b. map (mat a b) ps) b names (in_names 0 (d + 2) b (omega arith) (omega (arith, s.1)))))
    (∈-map (λ a. join_all (map (λ b. map (mat a b) ps) names)) a names (in_names 0 (d + 2) a (omega arith) (omega (arith, s.0)))))
    (inr (inr (inr (inr (inr (inr (inl refl)))))))
listed (sum P Q) (suc f) d top h s c =
    let n : ℕ = size P + size Q in
    let (cP, cQ) = under-sum top P Q c in
    ∈-join (sum P Q) (join_all (map (λ i. crossed sum (parts f i d false) (parts f (n - i) d false)) (names_from 0 (suc n)))) _
    (∈-join (sum P Q) (crossed sum (parts f (size P) d false) (parts f (n - size P) d false)) (map (λ i. crossed sum (parts f i d false) (parts f (n - i) d false)) (names_from 0 (suc n)))
    (∈-crossed sum (parts f (size P) d false) (parts f (n - size P) d false) P Q (listed P f d false (omega arith) s.0 cP)
    (at_size d false Q f (n - size P) (omega arith) (listed Q f d false (omega arith) s.1 cQ)))
    (∈-map (λ i. crossed sum (parts f i d false) (parts f (n - i) d false)) (size P) (names_from 0 (suc n)) (in_names 0 (suc n) (size P) (omega arith) (omega arith))))
    (inr (inr (inr (inr (inr (inr (inr (inl refl))))))))
listed (par P Q) (suc f) d false h s c = absurd (no_par P Q c)
listed (par P Q) (suc f) d true h s c =
    let n : ℕ = size P + size Q in
    let (cP, cQ) = under-par P Q c in
    ∈-join (par P Q) (join_all (map (λ i. crossed par (parts f i d true) (parts f (n - i) d true)) (names_from 0 (suc n)))) _
    (∈-join (par P Q) (crossed par (parts f (size P) d true) (parts f (n - size P) d true)) (map (λ i. crossed par (parts f i d true) (parts f (n - i) d true)) (names_from 0 (suc n)))
    (∈-crossed par (parts f (size P) d true) (parts f (n - size P) d true) P Q (listed P f d true (omega arith) s.0 cP)
    (at_size d true Q f (n - size P) (omega arith) (listed Q f d true (omega arith) s.1 cQ)))
    (∈-map (λ i. crossed par (parts f i d true) (parts f (n - i) d true)) (size P) (names_from 0 (suc n)) (in_names 0 (suc n) (size P) (omega arith) (omega arith))))
    (inr (inr (inr (inr (inr (inr (inr (inr (inl refl)))))))))
listed (call k xs) (suc f) d top h s c = absurd (omega (arith, s.0))
