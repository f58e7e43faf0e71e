-- The bytes that say which situations are left: one store strikes one out, and changes no key. Assumes nothing.
use mathlib.Core.List.{List}
use mathlib.Core.Path.{◌≡◌, refl, sym, ap, ◌∙◌}
use native.Mathlib.Decide.{ℕ_discrete}
use native.Mathlib.Omega.{arith}
use Prim.Native.Nat.{ℕ, zero, suc, ◌+◌, ◌*◌, ◌<◌, ◌≤◌}
use lib.ListN.{length, get_or, set, length-set}
use lib.Seq.{get_or-set_same, get_or-set_other, ext_get_or}
use Rattle.field_pairs.specs.Slot.{slot_bytes, struck_at}
use Rattle.verdict_answers.specs.Striking.{marks_from, marks, zeros}
use Rattle.verdict_answers.proofs.Living.{struck_fewer}

length-marks_from : (work : List ℕ) (i n : ℕ) → length (marks_from work i n) ≡ n
unfolding marks_from
length-marks_from work i zero = refl
length-marks_from work i (suc n) = ap suc (length-marks_from work (suc i) n)

pub length-marks : (work : List ℕ) (n : ℕ) → length (marks work n) ≡ n
length-marks work n = length-marks_from work 0 n

marks_from_at : (work : List ℕ) (i n k d : ℕ) → k < n → get_or (marks_from work i n) k d ≡ get_or work (struck_at (i + k)) 0
unfolding marks_from
marks_from_at work i zero k d h = absurd (omega arith)
marks_from_at work i (suc n) zero d h = let e : i ≡ i + 0 = omega arith in ap (λ j. get_or work (struck_at j) 0) e
marks_from_at work i (suc n) (suc k) d h =
    let e : suc i + k ≡ i + suc k = omega arith in
    marks_from_at work (suc i) n k d (omega arith) ∙ ap (λ j. get_or work (struck_at j) 0) e

pub marks-at : (work : List ℕ) (n k d : ℕ) → k < n → get_or (marks work n) k d ≡ get_or work (struck_at k) 0
marks-at work n k d h = let e : 0 + k ≡ k = omega arith in marks_from_at work 0 n k d h ∙ ap (λ j. get_or work (struck_at j) 0) e

pub marks-kept : (work work' : List ℕ) (n : ℕ) → ((i : ℕ) → get_or work' (struck_at i) 0 ≡ get_or work (struck_at i) 0) → marks work' n ≡ marks work n
marks-kept work work' n so =
    ext_get_or 0 (marks work' n) (marks work n) (length-marks work' n ∙ sym (length-marks work n))
    (λ k h.
    let l : k < n = omega (arith, length-marks work' n) in
    marks-at work' n k 0 l ∙ so k ∙ sym (marks-at work n k 0 l))

-- slot i struck out
module _ (work : List ℕ) (n i : ℕ) (below : i < n) (room : slot_bytes * n ≤ length work) where
  inside : struck_at i < length work
  inside = omega arith

  pub marks-set : marks (set work (struck_at i) 1) n ≡ set (marks work n) i 1
  marks-set =
      ext_get_or 0 (marks (set work (struck_at i) 1) n) (set (marks work n) i 1)
      (length-marks (set work (struck_at i) 1) n ∙ sym (length-marks work n) ∙ sym (length-set (marks work n) i 1))
      (λ k h. at k (omega (arith, length-marks (set work (struck_at i) 1) n)) (ℕ_discrete k i))
    where
      at : (k : ℕ) → k < n → Dec (k ≡ i) → get_or (marks (set work (struck_at i) 1) n) k 0 ≡ get_or (set (marks work n) i 1) k 0
      at k h (yes e) =
          marks-at (set work (struck_at i) 1) n k 0 h ∙ ap (λ j. get_or (set work (struck_at i) 1) (struck_at j) 0) e
          ∙ get_or-set_same work (struck_at i) 1 0 inside
          ∙ sym (ap (λ j. get_or (set (marks work n) i 1) j 0) e ∙ get_or-set_same (marks work n) i 1 0 (omega (arith, length-marks work n)))
      at k h (no e) =
          marks-at (set work (struck_at i) 1) n k 0 h
          ∙ get_or-set_other work (struck_at i) (struck_at k) 1 0 (λ q. e (omega arith))
          ∙ sym (get_or-set_other (marks work n) i k 1 0 e ∙ marks-at work n k 0 h)

  pub zeros_fewer : get_or work (struck_at i) 0 ≡ 0 → zeros (marks (set work (struck_at i) 1) n) < zeros (marks work n)
  zeros_fewer e =
      let f = struck_fewer (marks work n) i (omega (arith, length-marks work n)) (marks-at work n i 1 below ∙ e) in
      rw marks-set f
