-- How long and how deep the result of a candidate is before it is tidied: where the part and the bodies are tidied it fits the raw buffer, and each
-- index of a binder has a byte. Assumes nothing.
use mathlib.Core.List.{List, [], ◌∷◌, map, reverse}
use mathlib.Core.Bool.{Bool, true, false, cond}
use mathlib.Core.Path.{◌≡◌, refl, sym, ◌∙◌, ap}
use native.Mathlib.Omega.{arith}
use Prim.Native.Nat.{ℕ, zero, suc, ◌+◌, ◌≤◌, max}
use lib.ListN.{length, length-append}
use Rattle.calculus.specs.Abstraction.{swap, Act, tau_a, inp_a, out_a, bout_a, weak}
use Rattle.calculus.specs.Cond.{Cond, map_p}
use Rattle.calculus.specs.Definitions.{at, opened}
use Rattle.calculus.specs.Term.{Term, nil, tau, inp, out, bout, mat, sum, par, res, call, ren, inst}
use Rattle.calculus.proofs.Renaming.{ren_id}
use Rattle.terms.specs.Encoding.{encode}
use Rattle.terms.proofs.RenamingKeeps.{length-ren}
use Rattle.terms_bytes.specs.Shape.{height}
use Rattle.terms_bytes.proofs.Heights.{height-ren}
use Rattle.terms_tidying.proofs.TidyCounts.{restrictions, restrictions-ren}
use Rattle.calculus.specs.Lists.{All}
use Rattle.steps.specs.Raw.{Candidate, step, blocked, matching, left_steps, right_steps, meet, communication, communications, restricted_alone, outside, restricted_action, restricted, visible_of, silent_of, visible_calls, silent_calls, visible, silent}
use Rattle.steps.proofs.CallCandidates.{visible-each, silent-each}
use Rattle.calculus.proofs.Membership.{all-++, all_imp, all_map}

-- The bytes of a term, whatever stands around it.
abbrev pub size : Term → ℕ
size P = length (encode 0 P)

pub size-at : (d : ℕ) (P : Term) → length (encode d P) ≡ size P
size-at d P = sym (ap (λ Q. length (encode d Q)) (ren_id P)) ∙ length-ren 0 d (λ n. n) P

size-ren : (ρ : ℕ → ℕ) (P : Term) → size (ren ρ P) ≡ size P
size-ren ρ P = length-ren 0 0 ρ P

size-weak : (α : Act) (P : Term) → size (weak α P) ≡ size P
size-weak tau_a P = refl
size-weak (inp_a a) P = size-ren suc P
size-weak (out_a a b) P = refl
size-weak (bout_a a) P = size-ren suc P

height-weak : (α : Act) (P : Term) → height (weak α P) ≡ height P
height-weak tau_a P = refl
height-weak (inp_a a) P = height-ren suc P
height-weak (out_a a b) P = refl
height-weak (bout_a a) P = height-ren suc P

size-par : (P Q : Term) → size (par P Q) ≡ 1 + size P + size Q
unfolding encode
size-par P Q = omega (arith, length-append (encode 0 P) (encode 0 Q))

size-sum : (P Q : Term) → size (sum P Q) ≡ 1 + size P + size Q
unfolding encode
size-sum P Q = omega (arith, length-append (encode 0 P) (encode 0 Q))

size-res : (P : Term) → size (res P) ≡ 1 + size P
unfolding encode
size-res P = omega (arith, size-at 1 P)

-- The result of a step has at most s bytes and at most h binders one within the other.
abbrev pub Within : ℕ → ℕ → Candidate → Type 0
Within s h (step M α A) = (size A ≤ s) × (height A ≤ h)
Within s h blocked = Unit {0}

pub within_more : (s t h k : ℕ) → s ≤ t → h ≤ k → (c : Candidate) → Within s h c → Within t k c
within_more s t h k l m (step M α A) (a, b) = (omega arith, omega arith)
within_more s t h k l m blocked w = tt

within_match : (a b s h : ℕ) (c : Candidate) → Within s h c → Within s h (matching a b c)
unfolding matching
within_match a b s h (step M α A) w = w
within_match a b s h blocked w = tt

within_left : (s h : ℕ) (Q : Term) (c : Candidate) → Within s h c → Within (1 + s + size Q) (max h (height Q)) (left_steps Q c)
unfolding left_steps height
within_left s h Q (step M α A) (a, b) = (omega (arith, size-par A (weak α Q), size-weak α Q), omega (arith, height-weak α Q))
within_left s h Q blocked w = tt

within_right : (s h : ℕ) (P : Term) (c : Candidate) → Within s h c → Within (1 + s + size P) (max h (height P)) (right_steps P c)
unfolding right_steps height
within_right s h P (step M α A) (a, b) = (omega (arith, size-par (weak α P) A, size-weak α P), omega (arith, height-weak α P))
within_right s h P blocked w = tt

-- beneath a restriction
within_action : (s h : ℕ) (M : Cond) (α : Act) (A : Term) → size A ≤ s → height A ≤ h → Within (1 + s) (1 + h) (restricted_action M α A)
unfolding restricted_action height
within_action s h M tau_a A a b = (omega (arith, size-res A), omega arith)
within_action s h M (inp_a zero) A a b = tt
within_action s h M (inp_a (suc c)) A a b = (omega (arith, size-res (ren swap A), size-ren swap A), omega (arith, height-ren swap A))
within_action s h M (out_a zero c) A a b = tt
within_action s h M (out_a (suc c) zero) A a b = (omega arith, omega arith)
within_action s h M (out_a (suc c) (suc d)) A a b = (omega (arith, size-res A), omega arith)
within_action s h M (bout_a zero) A a b = tt
within_action s h M (bout_a (suc c)) A a b = (omega (arith, size-res (ren swap A), size-ren swap A), omega (arith, height-ren swap A))

within_restricted : (s h : ℕ) (c : Candidate) → Within s h c → Within (1 + s) (1 + h) (restricted c)
unfolding restricted
within_restricted s h (step M α A) (a, b) = go (restricted_alone M)
  where
    go : (t : Bool) → Within (1 + s) (1 + h) (cond t (restricted_action (map_p outside M) α A) blocked)
    go true = within_action s h (map_p outside M) α A a b
    go false = tt
within_restricted s h blocked w = tt

-- [Com] and [Close]
within_meet : (s h t k : ℕ) (M : Cond) (α : Act) (A : Term) (N : Cond) (β : Act) (B : Term) → size A ≤ s → height A ≤ h → size B ≤ t → height B ≤ k
    → Within (2 + s + t) (1 + max h k) (meet M α A N β B)
unfolding meet height
within_meet s h t k M tau_a A N β B a b c d = tt
within_meet s h t k M (inp_a x) A N tau_a B a b c d = tt
within_meet s h t k M (inp_a x) A N (inp_a y) B a b c d = tt
within_meet s h t k M (inp_a x) A N (out_a y z) B a b c d = (omega (arith, size-par (ren (inst z) A) B, size-ren (inst z) A), omega (arith, height-ren (inst z) A))
within_meet s h t k M (inp_a x) A N (bout_a y) B a b c d = (omega (arith, size-res (par A B), size-par A B), omega arith)
within_meet s h t k M (out_a x y) A N tau_a B a b c d = tt
within_meet s h t k M (out_a x y) A N (inp_a z) B a b c d = (omega (arith, size-par A (ren (inst y) B), size-ren (inst y) B), omega (arith, height-ren (inst y) B))
within_meet s h t k M (out_a x y) A N (out_a z w) B a b c d = tt
within_meet s h t k M (out_a x y) A N (bout_a z) B a b c d = tt
within_meet s h t k M (bout_a x) A N tau_a B a b c d = tt
within_meet s h t k M (bout_a x) A N (inp_a z) B a b c d = (omega (arith, size-res (par A B), size-par A B), omega arith)
within_meet s h t k M (bout_a x) A N (out_a z w) B a b c d = tt
within_meet s h t k M (bout_a x) A N (bout_a z) B a b c d = tt

within_communication : (s h t k : ℕ) (c d : Candidate) → Within s h c → Within t k d → Within (2 + s + t) (1 + max h k) (communication c d)
unfolding communication
within_communication s h t k (step M α A) (step N β B) (a, b) (c, d) = within_meet s h t k M α A N β B a b c d
within_communication s h t k (step M α A) blocked w v = tt
within_communication s h t k blocked d w v = tt

within_communications : (s h t k : ℕ) (cs ds : List Candidate) → All (Within s h) cs → All (Within t k) ds
    → All (Within (2 + s + t) (1 + max h k)) (communications cs ds)
unfolding communications
within_communications s h t k [] ds a b = tt
within_communications s h t k (c ∷ cs) ds a b =
    all-++ (Within (2 + s + t) (1 + max h k)) (map (communication c) ds) (communications cs ds)
    (all_map (communication c) (Within t k) (Within (2 + s + t) (1 + max h k)) ds (λ d w. within_communication s h t k c d a.0 w) b)
    (within_communications s h t k cs ds a.1 b)

some : (P : Term) → 1 ≤ size P
unfolding encode
some nil = omega arith
some (tau P) = omega arith
some (inp a P) = omega arith
some (out a b P) = omega arith
some (bout a P) = omega arith
some (mat a b P) = omega arith
some (sum P Q) = omega arith
some (par P Q) = omega arith
some (res P) = omega arith
some (call k xs) = omega arith

-- All candidates of a term whose calls have candidates of at most v bytes more than the call, and h binders one within the other.
module _ (v h : ℕ) where
  -- visible and silent ones
  abbrev pub Visibly : Term → Candidate → Type 0
  Visibly P = Within (size P + v) (max (height P) (restrictions P + h))

  abbrev pub Silently : Term → Candidate → Type 0
  Silently P = Within (size P + (1 + v + v)) (1 + max (height P) (restrictions P + h))

  module _ (visible_call silent_call : ℕ → List ℕ → List Candidate) (calls : (k : ℕ) (xs : List ℕ) → All (Visibly (call k xs)) (visible_call k xs))
      (calls' : (k : ℕ) (xs : List ℕ) → All (Silently (call k xs)) (silent_call k xs)) where
    pub visibly : (P : Term) → All (Visibly P) (visible_of visible_call P)
    unfolding visible_of height restrictions encode
    visibly nil = tt
    visibly (tau P) = tt
    visibly (inp a P) = ((omega (arith, size-at 1 P), omega arith), tt)
    visibly (out a b P) = ((omega arith, omega arith), tt)
    visibly (bout a P) = ((omega (arith, size-at 1 P), omega arith), tt)
    visibly (mat a b P) =
        all_map (matching a b) (Visibly P) (Visibly (mat a b P)) (visible_of visible_call P)
        (λ c w. within_match a b (size (mat a b P) + v) (max (height P) (restrictions P + h)) c
        (within_more (size P + v) (size (mat a b P) + v) (max (height P) (restrictions P + h)) (max (height P) (restrictions P + h)) (omega arith) (omega arith) c w)) (visibly P)
    visibly (sum P Q) =
        all-++ (Visibly (sum P Q)) (visible_of visible_call P) (visible_of visible_call Q)
        (all_imp (Visibly P) (Visibly (sum P Q)) (visible_of visible_call P)
        (within_more (size P + v) (size (sum P Q) + v) (max (height P) (restrictions P + h)) (max (height (sum P Q)) (restrictions (sum P Q) + h))
        (omega (arith, size-sum P Q)) (omega arith)) (visibly P))
        (all_imp (Visibly Q) (Visibly (sum P Q)) (visible_of visible_call Q)
        (within_more (size Q + v) (size (sum P Q) + v) (max (height Q) (restrictions Q + h)) (max (height (sum P Q)) (restrictions (sum P Q) + h))
        (omega (arith, size-sum P Q)) (omega arith)) (visibly Q))
    visibly (par P Q) =
        all-++ (Visibly (par P Q)) (map (left_steps Q) (visible_of visible_call P)) (map (right_steps P) (visible_of visible_call Q))
        (all_map (left_steps Q) (Visibly P) (Visibly (par P Q)) (visible_of visible_call P)
        (λ c w. within_more (1 + (size P + v) + size Q) (size (par P Q) + v) (max (max (height P) (restrictions P + h)) (height Q)) (max (height (par P Q)) (restrictions (par P Q) + h))
        (omega (arith, size-par P Q)) (omega arith) (left_steps Q c) (within_left (size P + v) (max (height P) (restrictions P + h)) Q c w)) (visibly P))
        (all_map (right_steps P) (Visibly Q) (Visibly (par P Q)) (visible_of visible_call Q)
        (λ c w. within_more (1 + (size Q + v) + size P) (size (par P Q) + v) (max (max (height Q) (restrictions Q + h)) (height P)) (max (height (par P Q)) (restrictions (par P Q) + h))
        (omega (arith, size-par P Q)) (omega arith) (right_steps P c) (within_right (size Q + v) (max (height Q) (restrictions Q + h)) P c w)) (visibly Q))
    visibly (res P) =
        all_map restricted (Visibly P) (Visibly (res P)) (visible_of visible_call P)
        (λ c w. within_more (1 + (size P + v)) (size (res P) + v) (1 + max (height P) (restrictions P + h)) (max (height (res P)) (restrictions (res P) + h))
        (omega (arith, size-res P)) (omega arith) (restricted c) (within_restricted (size P + v) (max (height P) (restrictions P + h)) c w)) (visibly P)
    visibly (call k xs) = calls k xs

    pub silently : (P : Term) → All (Silently P) (silent_of visible_call silent_call P)
    unfolding silent_of height restrictions encode
    silently nil = tt
    silently (tau P) = ((omega arith, omega arith), tt)
    silently (inp a P) = tt
    silently (out a b P) = tt
    silently (bout a P) = tt
    silently (mat a b P) =
        all_map (matching a b) (Silently P) (Silently (mat a b P)) (silent_of visible_call silent_call P)
        (λ c w. within_match a b (size (mat a b P) + (1 + v + v)) (1 + max (height P) (restrictions P + h)) c
        (within_more (size P + (1 + v + v)) (size (mat a b P) + (1 + v + v)) (1 + max (height P) (restrictions P + h)) (1 + max (height P) (restrictions P + h))
        (omega arith) (omega arith) c w)) (silently P)
    silently (sum P Q) =
        all-++ (Silently (sum P Q)) (silent_of visible_call silent_call P) (silent_of visible_call silent_call Q)
        (all_imp (Silently P) (Silently (sum P Q)) (silent_of visible_call silent_call P)
        (within_more (size P + (1 + v + v)) (size (sum P Q) + (1 + v + v)) (1 + max (height P) (restrictions P + h)) (1 + max (height (sum P Q)) (restrictions (sum P Q) + h))
        (omega (arith, size-sum P Q)) (omega arith)) (silently P))
        (all_imp (Silently Q) (Silently (sum P Q)) (silent_of visible_call silent_call Q)
        (within_more (size Q + (1 + v + v)) (size (sum P Q) + (1 + v + v)) (1 + max (height Q) (restrictions Q + h)) (1 + max (height (sum P Q)) (restrictions (sum P Q) + h))
        (omega (arith, size-sum P Q)) (omega arith)) (silently Q))
    silently (par P Q) =
        all-++ (Silently (par P Q)) (map (left_steps Q) (silent_of visible_call silent_call P)) _
        (all_map (left_steps Q) (Silently P) (Silently (par P Q)) (silent_of visible_call silent_call P)
        (λ c w. within_more (1 + (size P + (1 + v + v)) + size Q) (size (par P Q) + (1 + v + v)) (max (1 + max (height P) (restrictions P + h)) (height Q))
        (1 + max (height (par P Q)) (restrictions (par P Q) + h))
        (omega (arith, size-par P Q)) (omega arith) (left_steps Q c) (within_left (size P + (1 + v + v)) (1 + max (height P) (restrictions P + h)) Q c w)) (silently P))
        (all-++ (Silently (par P Q)) (map (right_steps P) (silent_of visible_call silent_call Q)) (communications (visible_of visible_call P) (visible_of visible_call Q))
        (all_map (right_steps P) (Silently Q) (Silently (par P Q)) (silent_of visible_call silent_call Q)
        (λ c w. within_more (1 + (size Q + (1 + v + v)) + size P) (size (par P Q) + (1 + v + v)) (max (1 + max (height Q) (restrictions Q + h)) (height P))
        (1 + max (height (par P Q)) (restrictions (par P Q) + h))
        (omega (arith, size-par P Q)) (omega arith) (right_steps P c) (within_right (size Q + (1 + v + v)) (1 + max (height Q) (restrictions Q + h)) P c w)) (silently Q))
        (all_imp (Within (2 + (size P + v) + (size Q + v)) (1 + max (max (height P) (restrictions P + h)) (max (height Q) (restrictions Q + h)))) (Silently (par P Q))
        (communications (visible_of visible_call P) (visible_of visible_call Q))
        (within_more (2 + (size P + v) + (size Q + v)) (size (par P Q) + (1 + v + v)) (1 + max (max (height P) (restrictions P + h)) (max (height Q) (restrictions Q + h)))
        (1 + max (height (par P Q)) (restrictions (par P Q) + h)) (omega (arith, size-par P Q)) (omega arith))
        (within_communications (size P + v) (max (height P) (restrictions P + h)) (size Q + v) (max (height Q) (restrictions Q + h))
        (visible_of visible_call P) (visible_of visible_call Q) (visibly P) (visibly Q))))
    silently (res P) =
        all_map restricted (Silently P) (Silently (res P)) (silent_of visible_call silent_call P)
        (λ c w. within_more (1 + (size P + (1 + v + v))) (size (res P) + (1 + v + v)) (1 + (1 + max (height P) (restrictions P + h))) (1 + max (height (res P)) (restrictions (res P) + h))
        (omega (arith, size-res P)) (omega arith) (restricted c) (within_restricted (size P + (1 + v + v)) (1 + max (height P) (restrictions P + h)) c w)) (silently P)
    silently (call k xs) = calls' k xs

-- One call is opened, of bodies of at most 112 bytes and h binders one within the other.
module _ (body : ℕ → Term) (h : ℕ) (short : (k : ℕ) → size (body k) ≤ 112) (low : (k : ℕ) → height (body k) ≤ h) (few : (k : ℕ) → restrictions (body k) ≤ h) where
  call-size : (k : ℕ) (xs : List ℕ) → 2 ≤ size (call k xs)
  unfolding encode
  call-size k xs = omega arith

  visible-call : (k : ℕ) (xs : List ℕ) → All (Visibly 110 h (call k xs)) (visible_calls body 1 k xs)
  unfolding visible visible_calls silent_calls height restrictions
  visible-call k xs = visible-each body (Visibly 110 h (call k xs)) (λ a b. within_match a b (size (call k xs) + 110) (max 0 (0 + h)))
      (λ l ys.
      let B : Term = opened ys (body l) in
      let σ : ℕ → ℕ = at (reverse ys) in
      all_imp (Visibly 0 0 B) (Visibly 110 h (call k xs)) (visible_of (visible_calls body 0) B)
      (within_more (size B + 0) (size (call k xs) + 110) (max (height B) (restrictions B + 0)) (max 0 (0 + h))
      (omega (arith, size-ren σ (body l), short l, call-size k xs)) (omega (arith, height-ren σ (body l), restrictions-ren σ (body l), low l, few l)))
      (visibly 0 0 (visible_calls body 0) (silent_calls body 0) (λ k xs. tt) (λ k xs. tt) B))
      1 k xs (omega arith)

  silent-call : (k : ℕ) (xs : List ℕ) → All (Silently 110 h (call k xs)) (silent_calls body 1 k xs)
  unfolding silent visible_calls silent_calls height restrictions
  silent-call k xs = silent-each body (Silently 110 h (call k xs)) (λ a b. within_match a b (size (call k xs) + 221) (1 + max 0 (0 + h)))
      (λ l ys.
      let B : Term = opened ys (body l) in
      let σ : ℕ → ℕ = at (reverse ys) in
      all_imp (Silently 0 0 B) (Silently 110 h (call k xs)) (silent_of (visible_calls body 0) (silent_calls body 0) B)
      (within_more (size B + 1) (size (call k xs) + 221) (1 + max (height B) (restrictions B + 0)) (1 + max 0 (0 + h))
      (omega (arith, size-ren σ (body l), short l, call-size k xs)) (omega (arith, height-ren σ (body l), restrictions-ren σ (body l), low l, few l)))
      (silently 0 0 (visible_calls body 0) (silent_calls body 0) (λ k xs. tt) (λ k xs. tt) B))
      1 k xs (omega arith)

  pub visible_within : (P : Term) → All (Visibly 110 h P) (visible body 1 P)
  unfolding visible
  visible_within P = visibly 110 h (visible_calls body 1) (silent_calls body 1) visible-call silent-call P

  pub silent_within : (P : Term) → All (Silently 110 h P) (silent body 1 P)
  unfolding silent
  silent_within P = silently 110 h (visible_calls body 1) (silent_calls body 1) visible-call silent-call P
