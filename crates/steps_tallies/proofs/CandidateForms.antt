-- The candidates of each form of term, silent and visible ones in one, and the form of a term by its first byte. Assumes nothing.
use mathlib.Core.Path.{◌≡◌, refl, sym, ap, ◌∙◌}
use mathlib.Core.Bool.{Bool, true, false}
use mathlib.Core.List.{List, [], ◌++◌, map, append-nil}
use Prim.Native.Nat.{ℕ, ◌<◌}
use native.Mathlib.Nat.{add-zero}
use native.Mathlib.Omega.{arith}
use lib.ListN.{get_or, drop}
use Rattle.calculus.specs.Definitions.{opened}
use Rattle.calculus.specs.Term.{Term, nil, tau, inp, out, bout, mat, sum, par, res, call}
use Rattle.terms.specs.Encoding.{encode}
use Rattle.terms.specs.Grammar.{guarded}
use Rattle.terms.proofs.ReadEncoded.{encode-some}
use Rattle.terms_bytes.proofs.Stores.{get_d_front}
use Rattle.steps_tallies.specs.Candidates.{candidates}
use Rattle.steps.specs.Raw.{Candidate, matching, left_steps, right_steps, communications, restricted, visible, silent, visible_of, silent_of, visible_calls, silent_calls}
use Rattle.steps.proofs.CallCandidates.{visible-opened, silent-opened}

module _ (body : ℕ → Term) where
  pub candidates-mat : (t : Bool) (n a b : ℕ) (P : Term) → candidates t body n (mat a b P) ≡ map (matching a b) (candidates t body n P)
  unfolding candidates visible silent visible_of silent_of
  candidates-mat true n a b P = refl
  candidates-mat false n a b P = refl

  pub candidates-sum : (t : Bool) (n : ℕ) (P Q : Term) → candidates t body n (sum P Q) ≡ candidates t body n P ++ candidates t body n Q
  unfolding candidates visible silent visible_of silent_of
  candidates-sum true n P Q = refl
  candidates-sum false n P Q = refl

  pub candidates-res : (t : Bool) (n : ℕ) (P : Term) → candidates t body n (res P) ≡ map restricted (candidates t body n P)
  unfolding candidates visible silent visible_of silent_of
  candidates-res true n P = refl
  candidates-res false n P = refl

  -- The communications of two terms are silent.
  abbrev pub meetings : Bool → ℕ → Term → Term → List Candidate
  meetings true n P Q = communications (candidates false body n P) (candidates false body n Q)
  meetings false n P Q = []

  pub candidates-par : (t : Bool) (n : ℕ) (P Q : Term)
      → candidates t body n (par P Q) ≡ map (left_steps Q) (candidates t body n P) ++ (map (right_steps P) (candidates t body n Q) ++ meetings t n P Q)
  unfolding candidates visible silent visible_of silent_of
  candidates-par true n P Q = refl
  candidates-par false n P Q = ap (λ (l : List Candidate). map (left_steps Q) (visible body n P) ++ l) (sym (append-nil (map (right_steps P) (visible body n Q))))

  -- one call is opened, whose body is guarded
  pub candidates-call : (t : Bool) (k : ℕ) (xs : List ℕ) → guarded (body k) ≡ true → candidates t body 1 (call k xs) ≡ candidates t body 0 (opened xs (body k))
  unfolding candidates visible silent visible_of silent_of
  candidates-call true k xs g = silent-opened body k xs g
  candidates-call false k xs g = visible-opened body k xs g

  pub candidates_no_call : (t : Bool) (k : ℕ) (xs : List ℕ) → candidates t body 0 (call k xs) ≡ []
  unfolding candidates visible silent visible_of silent_of visible_calls silent_calls
  candidates_no_call true k xs = refl
  candidates_no_call false k xs = refl

-- The first byte.
abbrev pub tag : Term → ℕ
tag nil = 0
tag (tau P) = 1
tag (inp a P) = 2
tag (out a b P) = 3
tag (bout a P) = 4
tag (mat a b P) = 5
tag (sum P Q) = 6
tag (par P Q) = 7
tag (res P) = 8
tag (call k xs) = 9

tag-first : (d : ℕ) (P : Term) → get_or (encode d P) 0 0 ≡ tag P
unfolding encode
tag-first d nil = refl
tag-first d (tau P) = refl
tag-first d (inp a P) = refl
tag-first d (out a b P) = refl
tag-first d (bout a P) = refl
tag-first d (mat a b P) = refl
tag-first d (sum P Q) = refl
tag-first d (par P Q) = refl
tag-first d (res P) = refl
tag-first d (call k xs) = refl

pub tag_at : (s : List ℕ) (at d : ℕ) (P : Term) (rest : List ℕ) → drop at s ≡ encode d P ++ rest → get_or s at 0 ≡ tag P
tag_at s at d P rest e = rw add-zero at (get_d_front s at (encode d P) rest 0 e (encode-some d P)) ∙ tag-first d P

-- To show something of the terms that begin with a byte, show it of their form.
module _ {ℓ} (C : Term → Type ℓ) where
  pub only_mat : ((a : ℕ) (b : ℕ) (P : Term) → C (mat a b P)) → (P : Term) → tag P ≡ 5 → C P
  only_mat f nil e = absurd (omega arith)
  only_mat f (tau P) e = absurd (omega arith)
  only_mat f (inp a P) e = absurd (omega arith)
  only_mat f (out a b P) e = absurd (omega arith)
  only_mat f (bout a P) e = absurd (omega arith)
  only_mat f (mat a b P) e = f a b P
  only_mat f (sum P Q) e = absurd (omega arith)
  only_mat f (par P Q) e = absurd (omega arith)
  only_mat f (res P) e = absurd (omega arith)
  only_mat f (call k xs) e = absurd (omega arith)

  pub only_sum : ((P : Term) (Q : Term) → C (sum P Q)) → (P : Term) → tag P ≡ 6 → C P
  only_sum f nil e = absurd (omega arith)
  only_sum f (tau P) e = absurd (omega arith)
  only_sum f (inp a P) e = absurd (omega arith)
  only_sum f (out a b P) e = absurd (omega arith)
  only_sum f (bout a P) e = absurd (omega arith)
  only_sum f (mat a b P) e = absurd (omega arith)
  only_sum f (sum P Q) e = f P Q
  only_sum f (par P Q) e = absurd (omega arith)
  only_sum f (res P) e = absurd (omega arith)
  only_sum f (call k xs) e = absurd (omega arith)

  pub only_par : ((P : Term) (Q : Term) → C (par P Q)) → (P : Term) → tag P ≡ 7 → C P
  only_par f nil e = absurd (omega arith)
  only_par f (tau P) e = absurd (omega arith)
  only_par f (inp a P) e = absurd (omega arith)
  only_par f (out a b P) e = absurd (omega arith)
  only_par f (bout a P) e = absurd (omega arith)
  only_par f (mat a b P) e = absurd (omega arith)
  only_par f (sum P Q) e = absurd (omega arith)
  only_par f (par P Q) e = f P Q
  only_par f (res P) e = absurd (omega arith)
  only_par f (call k xs) e = absurd (omega arith)

  pub only_res : ((P : Term) → C (res P)) → (P : Term) → tag P ≡ 8 → C P
  only_res f nil e = absurd (omega arith)
  only_res f (tau P) e = absurd (omega arith)
  only_res f (inp a P) e = absurd (omega arith)
  only_res f (out a b P) e = absurd (omega arith)
  only_res f (bout a P) e = absurd (omega arith)
  only_res f (mat a b P) e = absurd (omega arith)
  only_res f (sum P Q) e = absurd (omega arith)
  only_res f (par P Q) e = absurd (omega arith)
  only_res f (res P) e = f P
  only_res f (call k xs) e = absurd (omega arith)

  pub only_call : ((k : ℕ) (xs : List ℕ) → C (call k xs)) → (P : Term) → 8 < tag P → C P
  only_call f nil e = absurd (omega arith)
  only_call f (tau P) e = absurd (omega arith)
  only_call f (inp a P) e = absurd (omega arith)
  only_call f (out a b P) e = absurd (omega arith)
  only_call f (bout a P) e = absurd (omega arith)
  only_call f (mat a b P) e = absurd (omega arith)
  only_call f (sum P Q) e = absurd (omega arith)
  only_call f (par P Q) e = absurd (omega arith)
  only_call f (res P) e = absurd (omega arith)
  only_call f (call k xs) e = f k xs

  pub only_prefix : C nil → ((P : Term) → C (tau P)) → ((a : ℕ) (P : Term) → C (inp a P)) → ((a b : ℕ) (P : Term) → C (out a b P)) → ((a : ℕ) (P : Term) → C (bout a P))
      → (P : Term) → tag P < 5 → C P
  only_prefix f0 f1 f2 f3 f4 nil e = f0
  only_prefix f0 f1 f2 f3 f4 (tau P) e = f1 P
  only_prefix f0 f1 f2 f3 f4 (inp a P) e = f2 a P
  only_prefix f0 f1 f2 f3 f4 (out a b P) e = f3 a b P
  only_prefix f0 f1 f2 f3 f4 (bout a P) e = f4 a P
  only_prefix f0 f1 f2 f3 f4 (mat a b P) e = absurd (omega arith)
  only_prefix f0 f1 f2 f3 f4 (sum P Q) e = absurd (omega arith)
  only_prefix f0 f1 f2 f3 f4 (par P Q) e = absurd (omega arith)
  only_prefix f0 f1 f2 f3 f4 (res P) e = absurd (omega arith)
  only_prefix f0 f1 f2 f3 f4 (call k xs) e = absurd (omega arith)

  pub only_two : ((P Q : Term) → C (sum P Q)) → ((P Q : Term) → C (par P Q)) → (P : Term) → 5 < tag P → tag P < 8 → C P
  only_two f g nil l h = absurd (omega arith)
  only_two f g (tau P) l h = absurd (omega arith)
  only_two f g (inp a P) l h = absurd (omega arith)
  only_two f g (out a b P) l h = absurd (omega arith)
  only_two f g (bout a P) l h = absurd (omega arith)
  only_two f g (mat a b P) l h = absurd (omega arith)
  only_two f g (sum P Q) l h = f P Q
  only_two f g (par P Q) l h = g P Q
  only_two f g (res P) l h = absurd (omega arith)
  only_two f g (call k xs) l h = absurd (omega arith)
