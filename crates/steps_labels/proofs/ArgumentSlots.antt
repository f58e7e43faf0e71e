-- The slots of the names of the bytes at hand: of a part, beneath a restriction, and of a called body. Assumes nothing.
use mathlib.Core.Path.{◌≡◌, refl, sym, ap, ◌∙◌}
use mathlib.Core.Bool.{Bool, true, false}
use mathlib.Core.List.{List, ◌++◌, map}
use Prim.Native.Nat.{ℕ, zero, suc, ◌+◌, ◌-◌, ◌<◌, ◌≤◌}
use native.Mathlib.Omega.{arith}
use lib.ListN.{length, get_or, drop, length-map}
use lib.Dec.{ltb}
use borrow.Author.Tests.{ltb-true, ltb-false, lt-ltb, le-ltb}
use Rattle.calculus.specs.Term.{lift}
use Rattle.terms.specs.Encoding.{name_byte, NamesInScope}
use Rattle.terms.specs.Limits.{name_count}
use Rattle.terms_bytes.proofs.NameTables.{byte_bound, byte_free}
use Rattle.terms_bytes.proofs.Stores.{get_d_front, get_d_map}
use Rattle.steps_labels.specs.LabelWalk.{slot_at, HasSlots, ArgumentsIs}
use Rattle.steps_conditions.specs.Slots.{slot_of}
use Rattle.steps_passing.proofs.CalledPasses.{params, parameter_is, name_within}
use Rattle.steps_conditions.proofs.NameSlots.{slot_bound, slot_free, slot_inner}
use Rattle.steps_conditions.proofs.SlotLaws.{slot-restricted}

module _ (args : List ℕ) (inner depth : ℕ) where
  pub at_free : (b : ℕ) → b < 128 → slot_at args inner depth b ≡ b
  unfolding slot_at
  at_free b h = simp (lt-ltb b 128 h)

  pub at_inner : (b : ℕ) → 128 ≤ b → b - 128 < inner → slot_at args inner depth b ≡ name_count + (depth - 1 - (b - 128))
  unfolding slot_at
  at_inner b h k = simp (le-ltb b 128 h, lt-ltb (b - 128) inner k)

  pub at_parameter : (b : ℕ) → 128 ≤ b → inner ≤ b - 128 → slot_at args inner depth b ≡ get_or args (b - 128 - inner) 0
  unfolding slot_at
  at_parameter b h k = simp (le-ltb b 128 h, le-ltb (b - 128) inner k)

-- A part has no parameters.
pub slots_part : (d : ℕ) (args : List ℕ) → HasSlots name_count d args d d (λ n. n)
unfolding HasSlots
slots_part d args m h = (go (ltb m d) refl, h)
  where
    go : (t : Bool) → ltb m d ≡ t → slot_at args d d (name_byte d m) ≡ slot_of name_count d m
    go true e =
        let l = ltb-true m d e in
        let z : 128 + m - 128 ≡ m = omega arith in
        ap (slot_at args d d) (byte_bound d m l) ∙ at_inner args d d (128 + m) (omega arith) (omega arith) ∙ ap (λ (k : ℕ). name_count + (d - 1 - k)) z ∙ sym (slot_bound name_count d m l)
    go false e =
        let l = ltb-false m d e in
        ap (slot_at args d d) (byte_free d m l) ∙ at_free args d d (m - d) (omega arith) ∙ sym (slot_free name_count d m l)

module _ (free D : ℕ) (args : List ℕ) (inner depth : ℕ) (σ : ℕ → ℕ) (few : free ≤ name_count) (has : HasSlots free D args inner depth σ) where
  -- Beneath one restriction more.
  pub slots_lift : HasSlots free (1 + D) args (inner + 1) (depth + 1) (lift σ)
  unfolding HasSlots
  slots_lift zero h =
      let e : depth + 1 ≡ 1 + depth = omega arith in
      let z : name_count + (depth + 1 - 1 - (128 - 128)) ≡ name_count + depth = omega arith in (
        ap (slot_at args (inner + 1) (depth + 1)) (byte_bound (1 + D) 0 (omega arith)) ∙ at_inner args (inner + 1) (depth + 1) 128 (omega arith) (omega arith) ∙ z
            ∙ sym (ap (λ (k : ℕ). slot_of name_count k 0) e ∙ slot-restricted name_count depth),
        omega arith,
      )
  slots_lift (suc n) h =
      let (e, b) = has n (omega arith) in
      let z : depth + 1 ≡ 1 + depth = omega arith in
      (go e (ltb n D) refl (ltb n inner) refl ∙ sym (ap (λ (k : ℕ). slot_of name_count k (suc (σ n))) z ∙ slot_inner name_count depth (σ n)), omega arith)
    where
      go : slot_at args inner depth (name_byte D n) ≡ slot_of name_count depth (σ n) → (t : Bool) → ltb n D ≡ t → (u : Bool) → ltb n inner ≡ u
          → slot_at args (inner + 1) (depth + 1) (name_byte (1 + D) (suc n)) ≡ slot_of name_count depth (σ n)
      go e true t true u =
          let l = ltb-true n D t in
          let k = ltb-true n inner u in
          let x : name_count + (depth + 1 - 1 - (128 + suc n - 128)) ≡ name_count + (depth - 1 - (128 + n - 128)) = omega arith in
          ap (slot_at args (inner + 1) (depth + 1)) (byte_bound (1 + D) (suc n) (omega arith)) ∙ at_inner args (inner + 1) (depth + 1) (128 + suc n) (omega arith) (omega arith) ∙ x
          ∙ sym (ap (slot_at args inner depth) (byte_bound D n l) ∙ at_inner args inner depth (128 + n) (omega arith) (omega arith)) ∙ e
      go e true t false u =
          let l = ltb-true n D t in
          let k = ltb-false n inner u in
          let x : 128 + suc n - 128 - (inner + 1) ≡ 128 + n - 128 - inner = omega arith in
          ap (slot_at args (inner + 1) (depth + 1)) (byte_bound (1 + D) (suc n) (omega arith)) ∙ at_parameter args (inner + 1) (depth + 1) (128 + suc n) (omega arith) (omega arith)
          ∙ ap (λ (k : ℕ). get_or args k 0) x
          ∙ sym (ap (slot_at args inner depth) (byte_bound D n l) ∙ at_parameter args inner depth (128 + n) (omega arith) (omega arith)) ∙ e
      go e false t u v =
          let l = ltb-false n D t in
          let x : suc n - (1 + D) ≡ n - D = omega arith in
          ap (slot_at args (inner + 1) (depth + 1)) (byte_free (1 + D) (suc n) (omega arith) ∙ x) ∙ at_free args (inner + 1) (depth + 1) (n - D) (omega arith)
          ∙ sym (ap (slot_at args inner depth) (byte_free D n l) ∙ at_free args inner depth (n - D) (omega arith)) ∙ e

  -- A name that stands in the bytes.
  pub slot_read : (s : List ℕ) (at j m : ℕ) → m < D + free → get_or s (at + j) 0 ≡ name_byte D m → (v : ℕ) → v ≡ slot_at args inner depth (get_or s (at + j) 0)
      → (v ≡ slot_of name_count depth (σ m)) × (σ m < depth + name_count)
  unfolding HasSlots
  slot_read s at j m h e v q = let (x, y) = has m h in (q ∙ ap (slot_at args inner depth) e ∙ x, y)

  -- The body of a call: its parameters stand for the slots of the call's names.
  pub slots_call : (s : List ℕ) (at : ℕ) (xs rest : List ℕ) (n : ℕ) (r : List ℕ) → NamesInScope free D xs → drop at s ≡ map (name_byte D) xs ++ rest → n ≡ length xs
      → ArgumentsIs s at n args inner depth r → HasSlots 0 n r 0 depth (params σ xs)
  unfolding HasSlots ArgumentsIs
  slots_call s at xs rest n r scope st same A m h =
      let j = n - 1 - m in
      let l : j < length xs = omega arith in
      let q : params σ xs m ≡ σ (get_or xs j 0) = parameter_is σ xs m (omega arith) ∙ ap (λ (k : ℕ). σ (get_or xs (k - 1 - m) 0)) (sym same) in
      let (e, b) = has (get_or xs j 0) (name_within free D xs scope j l) in
      let byte : get_or s (at + j) 0 ≡ name_byte D (get_or xs j 0) = get_d_front s at (map (name_byte D) xs) rest j st (omega (arith, length-map xs (name_byte D))) ∙ get_d_map (name_byte D) xs j l in
      let z : 128 + m - 128 - 0 ≡ m = omega arith in (
        ap (slot_at r 0 depth) (byte_bound n m (omega arith)) ∙ at_parameter r 0 depth (128 + m) (omega arith) (omega arith) ∙ ap (λ (k : ℕ). get_or r k 0) z ∙ A m (omega arith)
            ∙ ap (slot_at args inner depth) byte ∙ e ∙ ap (slot_of name_count depth) (sym q),
        rw q b,
      )
