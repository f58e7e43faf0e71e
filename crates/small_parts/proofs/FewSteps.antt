-- A part of n bytes, six at most and without definitions, has at most (n + 1) / 3 steps, and each result is shorter.
use mathlib.Core.Path.{◌≡◌, refl, sym, subst}
use mathlib.Core.Bool.{Bool, true, false, cond}
use mathlib.Core.List.{List, [], ◌∷◌, ◌++◌, map}
use mathlib.Core.Logic.{◌⊎◌, inl, inr}
use Prim.Native.Nat.{ℕ, zero, suc, ◌+◌, ◌*◌, ◌≤◌, ◌<◌, Ordering}
use native.Mathlib.Omega.{arith}
use native.Mathlib.Decide.{dec_le}
use lib.ListN.{length, get_or, length-append, length-map}
use borrow.Author.Tests.{le-leb}
use Rattle.calculus.specs.Abstraction.{Act, tau_a, inp_a, out_a, bout_a, swap}
use Rattle.calculus.specs.Term.{Term, nil, tau, inp, out, bout, mat, sum, par, res, call, ren, inst, ◌•◌}
use Rattle.calculus.specs.Cond.{Cond, map_p, cls}
use Rattle.terms.specs.Limits.{name_count, longest_term}
use Rattle.terms.specs.Encoding.{encode}
use Rattle.terms.specs.Grammar.{guarded}
use Rattle.terms.specs.Question.{body_of}
use Rattle.steps.specs.Forms.{result_form}
use Rattle.calculus.specs.Lists.{All}
use Rattle.steps.specs.Raw.{Candidate, step, blocked, matching, left_steps, right_steps, meet, communication, communications, restricted_alone, outside, restricted_action, restricted, visible_of, silent_of, visible_calls, silent_calls, visible, silent}
use Rattle.steps.specs.Limits.{most_steps}
use Rattle.steps.specs.Listed.{ListedStep, listed_as, canon_step, result_bytes, bytes}
use Rattle.steps.specs.Listing.{listed, order, insert, all_fit, collect, limited, listing}
use Rattle.steps.proofs.CallCandidates.{visible-opened, silent-opened}
use Rattle.terms.specs.WellFormed.{BodiesAllowed}
use Rattle.steps.specs.CallLimit.{past_calls}
use Rattle.steps.proofs.CallLimitLaws.{never_past_calls}
use Rattle.steps.proofs.FormLaws.{result_form_lem}
use Rattle.calculus.proofs.Membership.{all-++, all_imp, all_map}
use Rattle.field.specs.Setting.{setting_of, steps_in}
use Rattle.field.specs.Exploration.{found}
use Rattle.small_parts.proofs.Size.{size, size-encode, some, size-ren, size-weak}

-- The result of a candidate is shorter than n.
abbrev Shorter : ℕ → Candidate → Type 0
Shorter n (step M α P) = size P < n
Shorter n blocked = Unit

none_communicate : (ss ts : List Candidate) → (length ss ≡ 0) ⊎ (length ts ≡ 0) → length (communications ss ts) ≡ 0
unfolding communications
none_communicate [] ts h = refl
none_communicate (s ∷ ss) ts (inl e) = absurd (omega arith)
none_communicate (s ∷ ss) [] (inr e) = none_communicate ss [] (inr refl)
none_communicate (s ∷ ss) (t ∷ ts) (inr e) = absurd (omega arith)

shorter_match : (a b n : ℕ) (c : Candidate) → Shorter n c → Shorter (suc (suc (suc n))) (matching a b c)
unfolding matching
shorter_match a b n (step M α P) h = omega arith
shorter_match a b n blocked h = tt

shorter_left : (n : ℕ) (Q : Term) (c : Candidate) → Shorter n c → Shorter (suc (n + size Q)) (left_steps Q c)
unfolding left_steps
shorter_left n Q (step M α P) h = omega (arith, size-weak α Q)
shorter_left n Q blocked h = tt

shorter_right : (n : ℕ) (P : Term) (c : Candidate) → Shorter n c → Shorter (suc (size P + n)) (right_steps P c)
unfolding right_steps
shorter_right n P (step M α Q) h = omega (arith, size-weak α P)
shorter_right n P blocked h = tt

shorter_more : (n m : ℕ) → n ≤ m → (c : Candidate) → Shorter n c → Shorter m c
shorter_more n m l (step M α P) h = omega arith
shorter_more n m l blocked h = tt

shorter_action : (n : ℕ) (M : Cond) (α : Act) (P : Term) → size P < n → Shorter (suc n) (restricted_action M α P)
unfolding restricted_action
shorter_action n M tau_a P h = omega arith
shorter_action n M (inp_a zero) P h = tt
shorter_action n M (inp_a (suc a)) P h = omega (arith, size-ren swap P)
shorter_action n M (out_a zero b) P h = tt
shorter_action n M (out_a (suc a) zero) P h = omega arith
shorter_action n M (out_a (suc a) (suc b)) P h = omega arith
shorter_action n M (bout_a zero) P h = tt
shorter_action n M (bout_a (suc a)) P h = omega (arith, size-ren swap P)

shorter_restricted : (n : ℕ) (c : Candidate) → Shorter n c → Shorter (suc n) (restricted c)
unfolding restricted
shorter_restricted n (step M α P) h = go (restricted_alone M)
  where
    go : (b : Bool) → Shorter (suc n) (cond b (restricted_action (map_p outside M) α P) blocked)
    go true = shorter_action n (map_p outside M) α P h
    go false = tt
shorter_restricted n blocked h = tt

shorter_meet : (n m : ℕ) (M : Cond) (α : Act) (P : Term) (N : Cond) (β : Act) (Q : Term) → size P < n → size Q < m → Shorter (suc (n + m)) (meet M α P N β Q)
unfolding meet
shorter_meet n m M tau_a P N β Q h k = tt
shorter_meet n m M (inp_a a) P N tau_a Q h k = tt
shorter_meet n m M (inp_a a) P N (inp_a b) Q h k = tt
shorter_meet n m M (inp_a a) P N (out_a b y) Q h k = omega (arith, size-ren (inst y) P)
shorter_meet n m M (inp_a a) P N (bout_a b) Q h k = omega arith
shorter_meet n m M (out_a a y) P N tau_a Q h k = tt
shorter_meet n m M (out_a a y) P N (inp_a b) Q h k = omega (arith, size-ren (inst y) Q)
shorter_meet n m M (out_a a y) P N (out_a b z) Q h k = tt
shorter_meet n m M (out_a a y) P N (bout_a b) Q h k = tt
shorter_meet n m M (bout_a a) P N tau_a Q h k = tt
shorter_meet n m M (bout_a a) P N (inp_a b) Q h k = omega arith
shorter_meet n m M (bout_a a) P N (out_a b z) Q h k = tt
shorter_meet n m M (bout_a a) P N (bout_a b) Q h k = tt

shorter_communication : (n m : ℕ) (c d : Candidate) → Shorter n c → Shorter m d → Shorter (suc (n + m)) (communication c d)
unfolding communication
shorter_communication n m (step M α P) (step N β Q) h k = shorter_meet n m M α P N β Q h k
shorter_communication n m (step M α P) blocked h k = tt
shorter_communication n m blocked d h k = tt

shorter_communications : (n m : ℕ) (ss ts : List Candidate) → All (Shorter n) ss → All (Shorter m) ts → All (Shorter (suc (n + m))) (communications ss ts)
unfolding communications
shorter_communications n m [] ts h k = tt
shorter_communications n m (s ∷ ss) ts h k =
    all-++ (Shorter (suc (n + m))) (map (communication s) ts) (communications ss ts)
    (all_map (communication s) (Shorter m) (Shorter (suc (n + m))) ts (λ t j. shorter_communication n m s t h.0 j) k)
    (shorter_communications n m ss ts h.1 k)

-- Calls have no candidates.
module _ (vc sc : ℕ → List ℕ → List Candidate) (nv : (k : ℕ) (xs : List ℕ) → vc k xs ≡ []) (ns : (k : ℕ) (xs : List ℕ) → sc k xs ≡ []) where
  few_visible : (P : Term) → 3 * length (visible_of vc P) ≤ size P
  unfolding visible_of
  few_visible nil = omega arith
  few_visible (tau P) = omega arith
  few_visible (inp a P) = omega (arith, some P)
  few_visible (out a b P) = omega (arith, some P)
  few_visible (bout a P) = omega (arith, some P)
  few_visible (mat a b P) = omega (arith, few_visible P, length-map (visible_of vc P) (matching a b))
  few_visible (sum P Q) = omega (arith, few_visible P, few_visible Q, length-append (visible_of vc P) (visible_of vc Q))
  few_visible (par P Q) =
      omega (
        arith,
        few_visible P,
        few_visible Q,
        length-append (map (left_steps Q) (visible_of vc P)) (map (right_steps P) (visible_of vc Q)),
        length-map (visible_of vc P) (left_steps Q),
        length-map (visible_of vc Q) (right_steps P),
      )
  few_visible (res P) = omega (arith, few_visible P, length-map (visible_of vc P) restricted)
  few_visible (call k xs) = rw (nv k xs) (omega arith)

  few_steps : (P : Term) → size P ≤ 6 → 3 * (length (visible_of vc P) + length (silent_of vc sc P)) ≤ size P + 1
  unfolding visible_of silent_of
  few_steps nil h = omega arith
  few_steps (tau P) h = omega (arith, some P)
  few_steps (inp a P) h = omega (arith, some P)
  few_steps (out a b P) h = omega (arith, some P)
  few_steps (bout a P) h = omega (arith, some P)
  few_steps (mat a b P) h =
      omega (arith, few_steps P (omega arith), length-map (visible_of vc P) (matching a b), length-map (silent_of vc sc P) (matching a b))
  few_steps (sum P Q) h =
      omega (arith, few_steps P (omega arith), few_steps Q (omega arith), length-append (visible_of vc P) (visible_of vc Q), length-append (silent_of vc sc P) (silent_of vc sc Q))
  few_steps (par P Q) h =
      let vP : List Candidate = visible_of vc P in
      let vQ : List Candidate = visible_of vc Q in
      let sP : List Candidate = silent_of vc sc P in
      let sQ : List Candidate = silent_of vc sc Q in
      omega (
        arith,
        few_steps P (omega (arith, some Q)),
        few_steps Q (omega (arith, some P)),
        length-append (map (left_steps Q) vP) (map (right_steps P) vQ),
        length-map vP (left_steps Q),
        length-map vQ (right_steps P),
        length-append (map (left_steps Q) sP) (map (right_steps P) sQ ++ communications vP vQ),
        length-append (map (right_steps P) sQ) (communications vP vQ),
        length-map sP (left_steps Q),
        length-map sQ (right_steps P),
        none_communicate vP vQ (apart (dec_le (length vP) 0)),
      )
    where
      apart : Dec (length (visible_of vc P) ≤ 0) → (length (visible_of vc P) ≡ 0) ⊎ (length (visible_of vc Q) ≡ 0)
      apart (yes k) = inl (omega arith)
      apart (no k) = inr (omega (arith, few_visible P, few_visible Q))
  few_steps (res P) h =
      omega (arith, few_steps P (omega arith), length-map (visible_of vc P) restricted, length-map (silent_of vc sc P) restricted)
  few_steps (call k xs) h = rw (nv k xs, ns k xs) (omega arith)

  shorter_visible : (P : Term) → All (Shorter (size P)) (visible_of vc P)
  unfolding visible_of
  shorter_visible nil = tt
  shorter_visible (tau P) = tt
  shorter_visible (inp a P) = (omega arith, tt)
  shorter_visible (out a b P) = (omega arith, tt)
  shorter_visible (bout a P) = (omega arith, tt)
  shorter_visible (mat a b P) = all_map (matching a b) (Shorter (size P)) (Shorter (size (mat a b P))) (visible_of vc P) (shorter_match a b (size P)) (shorter_visible P)
  shorter_visible (sum P Q) =
      all-++ (Shorter (size (sum P Q))) (visible_of vc P) (visible_of vc Q)
      (all_imp (Shorter (size P)) (Shorter (size (sum P Q))) (visible_of vc P) (shorter_more (size P) (size (sum P Q)) (omega arith)) (shorter_visible P))
      (all_imp (Shorter (size Q)) (Shorter (size (sum P Q))) (visible_of vc Q) (shorter_more (size Q) (size (sum P Q)) (omega arith)) (shorter_visible Q))
  shorter_visible (par P Q) =
      all-++ (Shorter (size (par P Q))) (map (left_steps Q) (visible_of vc P)) (map (right_steps P) (visible_of vc Q))
      (all_map (left_steps Q) (Shorter (size P)) (Shorter (size (par P Q))) (visible_of vc P) (shorter_left (size P) Q) (shorter_visible P))
      (all_map (right_steps P) (Shorter (size Q)) (Shorter (size (par P Q))) (visible_of vc Q) (shorter_right (size Q) P) (shorter_visible Q))
  shorter_visible (res P) = all_map restricted (Shorter (size P)) (Shorter (size (res P))) (visible_of vc P) (shorter_restricted (size P)) (shorter_visible P)
  shorter_visible (call k xs) = subst (All (Shorter (size (call k xs)))) (sym (nv k xs)) tt

  shorter_silent : (P : Term) → All (Shorter (size P)) (silent_of vc sc P)
  unfolding silent_of
  shorter_silent nil = tt
  shorter_silent (tau P) = (omega arith, tt)
  shorter_silent (inp a P) = tt
  shorter_silent (out a b P) = tt
  shorter_silent (bout a P) = tt
  shorter_silent (mat a b P) = all_map (matching a b) (Shorter (size P)) (Shorter (size (mat a b P))) (silent_of vc sc P) (shorter_match a b (size P)) (shorter_silent P)
  shorter_silent (sum P Q) =
      all-++ (Shorter (size (sum P Q))) (silent_of vc sc P) (silent_of vc sc Q)
      (all_imp (Shorter (size P)) (Shorter (size (sum P Q))) (silent_of vc sc P) (shorter_more (size P) (size (sum P Q)) (omega arith)) (shorter_silent P))
      (all_imp (Shorter (size Q)) (Shorter (size (sum P Q))) (silent_of vc sc Q) (shorter_more (size Q) (size (sum P Q)) (omega arith)) (shorter_silent Q))
  shorter_silent (par P Q) =
      all-++ (Shorter (size (par P Q))) (map (left_steps Q) (silent_of vc sc P)) _
      (all_map (left_steps Q) (Shorter (size P)) (Shorter (size (par P Q))) (silent_of vc sc P) (shorter_left (size P) Q) (shorter_silent P))
      (all-++ (Shorter (size (par P Q))) (map (right_steps P) (silent_of vc sc Q)) (communications (visible_of vc P) (visible_of vc Q))
      (all_map (right_steps P) (Shorter (size Q)) (Shorter (size (par P Q))) (silent_of vc sc Q) (shorter_right (size Q) P) (shorter_silent Q))
      (shorter_communications (size P) (size Q) (visible_of vc P) (visible_of vc Q) (shorter_visible P) (shorter_visible Q)))
  shorter_silent (res P) = all_map restricted (Shorter (size P)) (Shorter (size (res P))) (silent_of vc sc P) (shorter_restricted (size P)) (shorter_silent P)
  shorter_silent (call k xs) = subst (All (Shorter (size (call k xs)))) (sym (ns k xs)) tt

-- The list of the steps.
abbrev pub Short : ℕ → ListedStep → Type 0
Short n s = size s.result < n

insert-length : (longest : ℕ) (s : ListedStep) (ss : List ListedStep) → length (insert longest s ss) ≤ suc (length ss)
unfolding insert
insert-length longest s [] = omega arith
insert-length longest s (t ∷ ts) = go (insert-length longest s ts) (order (bytes longest s) (bytes longest t))
  where
    go : length (insert longest s ts) ≤ suc (length ts) → (o : Ordering) → length {A = ListedStep} (elim o [ Ordering.lt ↦ s ∷ t ∷ ts | Ordering.eq ↦ t ∷ ts | Ordering.gt ↦ t ∷ insert longest s ts ]) ≤ suc (suc (length ts))
    go l Ordering.lt = omega arith
    go l Ordering.eq = omega arith
    go l Ordering.gt = omega arith

insert_all : (S : ListedStep → Type 0) (longest : ℕ) (s : ListedStep) (ss : List ListedStep) → S s → All S ss → All S (insert longest s ss)
unfolding insert
insert_all S longest s [] h k = (h, tt)
insert_all S longest s (t ∷ ts) h k = go (insert_all S longest s ts h k.1) (order (bytes longest s) (bytes longest t))
  where
    go : All S (insert longest s ts) → (o : Ordering) → All S (elim o [ Ordering.lt ↦ s ∷ t ∷ ts | Ordering.eq ↦ t ∷ ts | Ordering.gt ↦ t ∷ insert longest s ts ])
    go r Ordering.lt = (h, k)
    go r Ordering.eq = k
    go r Ordering.gt = (k.0, r)

-- a result in its form is no longer
pub size_form : (P : Term) → size (result_form P) ≤ size P
size_form P = omega (arith, result_form_lem.shorter 0 P, size-encode 0 (result_form P), size-encode 0 P)

formed_short : (ρ : ℕ → ℕ) (n : ℕ) (P : Term) → size P < n → size (result_form (ren ρ P)) < n
formed_short ρ n P h = omega (arith, size_form (ren ρ P), size-ren ρ P)

short_canon : (names x n : ℕ) (M : Cond) (α : Act) (P : Term) → size P < n → Short n (canon_step result_form names x M α P)
unfolding canon_step listed_as
short_canon names x n M tau_a P h = formed_short (cls M) n P h
short_canon names x n M (inp_a a) P h = formed_short (x • cls M) n P h
short_canon names x n M (out_a a b) P h = formed_short (cls M) n P h
short_canon names x n M (bout_a a) P h = formed_short (x • cls M) n P h

collect-length : (names longest x : ℕ) (cs : List Candidate) (found : List ListedStep) → length (collect result_form names longest x cs found) ≤ length cs + length found
unfolding collect
collect-length names longest x [] found = omega arith
collect-length names longest x (step M α P ∷ cs) found =
    omega (arith, collect-length names longest x cs (insert longest (canon_step result_form names x M α P) found), insert-length longest (canon_step result_form names x M α P) found)
collect-length names longest x (blocked ∷ cs) found = omega (arith, collect-length names longest x cs found)

collect-all : (names longest x n : ℕ) (cs : List Candidate) (found : List ListedStep) → All (Shorter n) cs → All (Short n) found
    → All (Short n) (collect result_form names longest x cs found)
unfolding collect
collect-all names longest x n [] found h k = k
collect-all names longest x n (step M α P ∷ cs) found h k =
    collect-all names longest x n cs (insert longest (canon_step result_form names x M α P) found) h.1
    (insert_all (Short n) longest (canon_step result_form names x M α P) found (short_canon names x n M α P h.0) k)
collect-all names longest x n (blocked ∷ cs) found h k = collect-all names longest x n cs found h.1 k

fit : (n longest : ℕ) (ss : List ListedStep) → n ≤ longest → All (Short n) ss → all_fit longest ss ≡ true
unfolding all_fit result_bytes
fit n longest [] l h = refl
fit n longest (s ∷ ss) l h =
    rw (le-leb (length (encode 0 s.result)) longest (omega (arith, size-encode 0 s.result, h.0)), fit n longest ss l h.1) refl

no_visible : (k : ℕ) (xs : List ℕ) → visible_calls (λ k. get_or [] k nil) 1 k xs ≡ []
unfolding visible visible_of guarded
no_visible k xs = visible-opened (λ k. get_or [] k nil) k xs refl

no_silent : (k : ℕ) (xs : List ℕ) → silent_calls (λ k. get_or [] k nil) 1 k xs ≡ []
unfolding silent silent_of guarded
no_silent k xs = silent-opened (λ k. get_or [] k nil) k xs refl

no_call_past : (P : Term) → past_calls (λ k. get_or [] k nil) P ≡ false
unfolding BodiesAllowed body_of
no_call_past P = never_past_calls [] [] tt P

-- A short part's list.
pub record FewSteps (x : ℕ) (P : Term) : Type 0 where
  pub steps : List ListedStep
  pub is : steps_in (setting_of false []) x P ≡ listed steps
  pub few : 3 * length steps ≤ size P + 1
  pub short : All (Short (size P)) steps

pub few_listed : (x : ℕ) (P : Term) → size P ≤ 6 → FewSteps x P
unfolding steps_in setting_of listing limited visible silent body_of
few_listed x P h = record {
  steps = ss;
  is = rw (no_call_past P, le-leb (length ss) most_steps (omega (arith, few)), fit (size P) longest_term ss (omega arith) short) refl;
  few = few;
  short = short;
}
  where
    body : ℕ → Term
    body k = get_or [] k nil

    vc : ℕ → List ℕ → List Candidate
    vc = visible_calls body 1

    sc : ℕ → List ℕ → List Candidate
    sc = silent_calls body 1

    nv : (k : ℕ) (xs : List ℕ) → vc k xs ≡ []
    nv k xs = no_visible k xs

    ns : (k : ℕ) (xs : List ℕ) → sc k xs ≡ []
    ns k xs = no_silent k xs

    cs : List Candidate
    cs = visible_of vc P ++ silent_of vc sc P

    ss : List ListedStep
    ss = collect result_form name_count longest_term x cs []

    few : 3 * length ss ≤ size P + 1
    few = omega (arith, collect-length name_count longest_term x cs [], length-append (visible_of vc P) (silent_of vc sc P), few_steps vc sc nv ns P h)

    short : All (Short (size P)) ss
    short =
        collect-all name_count longest_term x (size P) cs []
        (all-++ (Shorter (size P)) (visible_of vc P) (silent_of vc sc P) (shorter_visible vc sc nv ns P) (shorter_silent vc sc nv ns P)) tt
