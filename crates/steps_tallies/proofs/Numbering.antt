-- Which candidate stands at which number, for code that yields them one by one. Numbers past the end are blocked. Assumes nothing.
use borrow.Author.Tests.{leb-true, leb-false}
use mathlib.Core.Bool.{Bool, true, false}
use mathlib.Core.List.{List, [], ◌∷◌, map}
use mathlib.Core.Path.{◌≡◌, refl, sym, ◌∙◌, ap, subst}
use native.Mathlib.Nat.{zero-mul, suc-mul, mul-zero, mul-le-mul_right}
use native.Mathlib.Omega.{arith}
use Prim.Native.Nat.{ℕ, zero, suc, ◌+◌, ◌*◌, ◌<◌}
use lib.Dec.{leb}
use lib.ListN.{length, get_or, length-append, length-map, get_or-append, get_or-map, get_or-eq_default}
use lib.Seq.{get_or-append-add}
use Rattle.calculus.specs.Abstraction.{Act}
use Rattle.calculus.specs.Cond.{Cond}
use Rattle.calculus.specs.Term.{Term}
use Rattle.steps.specs.Raw.{Candidate, step, blocked, matching, left_steps, right_steps, restricted, communication, communications}
use Rattle.steps_tallies.proofs.Premises.{never, Meeting, meeting_of_lem}

-- A rule with one premise keeps the number.
pub nth_by : (f : Candidate → Candidate) → f blocked ≡ blocked → (cs : List Candidate) (i : ℕ) → get_or (map f cs) i blocked ≡ f (get_or cs i blocked)
nth_by f e cs i = ap (get_or (map f cs) i) (sym e) ∙ get_or-map f cs i blocked

pub nth_matching : (a b : ℕ) (cs : List Candidate) (i : ℕ) → get_or (map (matching a b) cs) i blocked ≡ matching a b (get_or cs i blocked)
unfolding matching
nth_matching a b = nth_by (matching a b) refl

pub nth_left_steps : (Q : Term) (cs : List Candidate) (i : ℕ) → get_or (map (left_steps Q) cs) i blocked ≡ left_steps Q (get_or cs i blocked)
unfolding left_steps
nth_left_steps Q = nth_by (left_steps Q) refl

pub nth_right_steps : (P : Term) (cs : List Candidate) (i : ℕ) → get_or (map (right_steps P) cs) i blocked ≡ right_steps P (get_or cs i blocked)
unfolding right_steps
nth_right_steps P = nth_by (right_steps P) refl

pub nth_restricted : (cs : List Candidate) (i : ℕ) → get_or (map restricted cs) i blocked ≡ restricted (get_or cs i blocked)
unfolding restricted
nth_restricted = nth_by restricted refl

-- The number of a communication is made of the two sides' numbers.
pub length-communications : (ss ts : List Candidate) → length (communications ss ts) ≡ length ss * length ts
unfolding communications
length-communications [] ts = sym (zero-mul (length ts))
length-communications (s ∷ ss) ts =
    let r = length-communications ss ts in
    omega (arith, length-append (map (communication s) ts) (communications ss ts), length-map ts (communication s), suc-mul (length ss) (length ts))

pub not_met : (s : Candidate) → communication s blocked ≡ blocked
unfolding communication
not_met (step M α P) = refl
not_met blocked = refl

pub nth_communication : (ss ts : List Candidate) (i j : ℕ) → i < length ss → j < length ts
    → get_or (communications ss ts) (i * length ts + j) blocked ≡ communication (get_or ss i blocked) (get_or ts j blocked)
unfolding communications
nth_communication [] ts i j h k = absurd (omega arith)
nth_communication (s ∷ ss) ts zero j h k =
    let e : 0 * length ts + j ≡ j = omega (arith, zero-mul (length ts)) in
    let l : j < length (map (communication s) ts) = omega (arith, length-map ts (communication s)) in
    ap (λ m. get_or (communications (s ∷ ss) ts) m blocked) e
    ∙ get_or-append (map (communication s) ts) (communications ss ts) blocked j l
    ∙ nth_by (communication s) (not_met s) ts j
nth_communication (s ∷ ss) ts (suc i) j h k =
    let e : suc i * length ts + j ≡ length (map (communication s) ts) + (i * length ts + j) =
    omega (arith, suc-mul i (length ts), length-map ts (communication s)) in
    ap (λ m. get_or (communications (s ∷ ss) ts) m blocked) e
    ∙ get_or-append-add (map (communication s) ts) (communications ss ts) (i * length ts + j) blocked
    ∙ nth_communication ss ts i j (omega arith) k

-- What is not blocked has a number that is there.
pub some_candidate : (cs : List Candidate) (n : ℕ) (M : Cond) (α : Act) (A : Term) → get_or cs n blocked ≡ step M α A → n < length cs
some_candidate cs n M α A e = go (leb (length cs) n) refl
  where
    go : (t : Bool) → leb (length cs) n ≡ t → n < length cs
    go true t = never M α A (sym (get_or-eq_default cs blocked {n = n} (leb-true (length cs) n t)) ∙ e)
    go false t = leb-false (length cs) n t

-- A communication that is not blocked is one of two candidates, whose numbers are those that its own number is made of.
pub meeting_at : (ss ts : List Candidate) (k i j : ℕ) → (0 < length ts → (k ≡ i * length ts + j) × (j < length ts)) → (M : Cond) (α : Act) (A : Term)
    → get_or (communications ss ts) k blocked ≡ step M α A → Meeting (get_or ss i blocked) (get_or ts j blocked) α A
meeting_at ss ts k i j split M α A e = go (length ts) refl
  where
    many : k < length ss * length ts
    many = subst (λ (n : ℕ). k < n) (length-communications ss ts) (some_candidate (communications ss ts) k M α A e)

    left : k ≡ i * length ts + j → (t : Bool) → leb (length ss) i ≡ t → i < length ss
    left h true t = let m = many in absurd (omega (arith, mul-le-mul_right (length ts) (leb-true (length ss) i t)))
    left h false t = leb-false (length ss) i t

    go : (n : ℕ) → length ts ≡ n → Meeting (get_or ss i blocked) (get_or ts j blocked) α A
    go zero z =
        let o : length ss * length ts ≡ 0 = ap (λ (k : ℕ). length ss * k) z ∙ mul-zero (length ss) in
        let m = many in
        absurd (omega arith)
    go (suc n) z =
        let (h, l) = split (omega arith) in
        meeting_of_lem (get_or ss i blocked) (get_or ts j blocked) M α A
        (sym (nth_communication ss ts i j (left h (leb (length ss) i) refl) l) ∙ ap (λ (m : ℕ). get_or (communications ss ts) m blocked) (sym h) ∙ e)
