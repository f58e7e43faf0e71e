-- How many visible candidates a part may have, so that each has a row. Assumes nothing.
use mathlib.Core.Path.{◌≡◌, refl, ap, subst}
use mathlib.Core.Bool.{false}
use mathlib.Core.List.{List, map, reverse}
use Prim.Native.Nat.{ℕ, ◌+◌, ◌*◌, ◌≤◌}
use native.Mathlib.Omega.{arith}
use lib.ListN.{length, get_or, length-append, length-map}
use Rattle.calculus.specs.Definitions.{at, opened}
use Rattle.calculus.specs.Term.{Term, nil, tau, inp, out, bout, mat, sum, par, res, call, lift, ren}
use Rattle.terms.specs.Encoding.{encode}
use Rattle.terms.specs.Question.{Question}
use Rattle.terms.proofs.ReadEncoded.{encode-some}
use Rattle.calculus.proofs.Renaming.{ren_id}
use Rattle.terms.specs.Question.{body_of}
use Rattle.steps.specs.Raw.{matching, left_steps, right_steps, restricted, visible, visible_of, visible_calls}
use Rattle.steps_tallies.specs.Candidates.{candidates}
use Rattle.steps_tallies.proofs.CallLaws.{body-size, opened-candidates}
use Rattle.steps_splicing.specs.ListedParts.{Lists}
use Rattle.steps_rows.specs.Rows.{most_rows}

-- A term of b bytes has v visible candidates at most as R says, if R says so of prefixes and calls, and of two terms behind one byte.
module _ (body : ℕ → Term) (n : ℕ) (R : ℕ → ℕ → Type 0) (none : (b : ℕ) → R 0 b) (one : (b : ℕ) → 3 ≤ b → R 1 b)
    (both : (v w p q b : ℕ) → R v p → R w q → 1 + p + q ≤ b → R (v + w) b) (calls : (k : ℕ) (xs : List ℕ) (b : ℕ) → 2 ≤ b → R (length (visible body n (call k xs))) b) where
  more : (v w p b : ℕ) → R v p → w ≡ v → 1 + p ≤ b → R w b
  more v w p b r e h = subst (λ (v : ℕ). R v b) (omega arith) (both v 0 p 0 b r (none 0) (omega arith))

  pub few_visible : (D : ℕ) (σ : ℕ → ℕ) (P : Term) → R (length (visible body n (ren σ P))) (length (encode D P))
  unfolding visible visible_of encode
  few_visible D σ nil = none _
  few_visible D σ (tau P) = none _
  few_visible D σ (inp a P) = one _ (omega (arith, encode-some (1 + D) P))
  few_visible D σ (out a b P) = one _ (omega arith)
  few_visible D σ (bout a P) = one _ (omega (arith, encode-some (1 + D) P))
  few_visible D σ (mat a b P) = more (length (visible body n (ren σ P))) _ (length (encode D P)) _ (few_visible D σ P) (length-map (visible body n (ren σ P)) (matching (σ a) (σ b))) (omega arith)
  few_visible D σ (res P) = more (length (visible body n (ren (lift σ) P))) _ (length (encode (1 + D) P)) _ (few_visible (1 + D) (lift σ) P) (length-map (visible body n (ren (lift σ) P)) restricted) (omega arith)
  few_visible D σ (sum P Q) =
      let ps = visible body n (ren σ P) in
      let qs = visible body n (ren σ Q) in
      let e : length (visible body n (ren σ (sum P Q))) ≡ length ps + length qs = length-append ps qs in
      rw e (both (length ps) (length qs) (length (encode D P)) (length (encode D Q)) _ (few_visible D σ P) (few_visible D σ Q) (omega (arith, length-append (encode D P) (encode D Q))))
  few_visible D σ (par P Q) =
      let ps = visible body n (ren σ P) in
      let qs = visible body n (ren σ Q) in
      let f = left_steps (ren σ Q) in
      let g = right_steps (ren σ P) in
      let e : length (visible body n (ren σ (par P Q))) ≡ length ps + length qs = omega (arith, length-append (map f ps) (map g qs), length-map ps f, length-map qs g) in
      rw e (both (length ps) (length qs) (length (encode D P)) (length (encode D Q)) _ (few_visible D σ P) (few_visible D σ Q) (omega (arith, length-append (encode D P) (encode D Q))))
  few_visible D σ (call k xs) = calls k (map σ xs) _ (omega arith)

-- A body, where no call is opened: four bytes for each but the last.
module _ (body : ℕ → Term) where
  closed : (k : ℕ) (xs : List ℕ) (b : ℕ) → 2 ≤ b → 4 * length (visible body 0 (call k xs)) ≤ b + 1
  unfolding visible visible_of visible_calls
  closed k xs b h = omega arith

  body-visible : (D : ℕ) (σ : ℕ → ℕ) (P : Term) → 4 * length (visible body 0 (ren σ P)) ≤ length (encode D P) + 1
  body-visible = few_visible body 0 (λ v b. 4 * v ≤ b + 1) (λ b. omega arith) (λ b h. omega arith) (λ v w p q b h k l. omega arith) closed

-- A part: 28 for each call of two bytes.
module _ (question part : List ℕ) (x : ℕ) (q : Question) (P : Term) (L : Lists question part x q P) where
  abbrev body : ℕ → Term
  body = body_of q.bodies

  opens : (k : ℕ) (xs : List ℕ) (b : ℕ) → 2 ≤ b → 3 * length (visible body 1 (call k xs)) ≤ 28 * (b + 1)
  unfolding candidates
  opens k xs b h =
      let own : length (visible body 1 (call k xs)) ≡ length (visible body 0 (opened xs (body k))) = ap length (opened-candidates question q L.accepted k 1 0 (omega arith) refl false xs) in
      omega (arith, body-size question q L.accepted k, body-visible body (get_or q.arities k 0) (at (reverse xs)) (body k))

  pub visible-rows : length (visible body 1 P) ≤ most_rows
  visible-rows =
      let s = L.size in
      let b : 3 * length (visible body 1 (ren (λ n. n) P)) ≤ 28 * (length (encode 0 P) + 1) =
      few_visible body 1 (λ v b. 3 * v ≤ 28 * (b + 1)) (λ b. omega arith) (λ b h. omega arith) (λ v w p q b h k l. omega arith) opens 0 (λ n. n) P in
      let e : length (visible body 1 (ren (λ n. n) P)) ≡ length (visible body 1 P) = ap (λ (P : Term). length (visible body 1 P)) (ren_id P) in
      omega arith
