-- Where fields stand: the places that the code computes are those of the fields that were joined. Assumes nothing.
use mathlib.Core.Path.{◌≡◌, refl, sym, ap, ◌∙◌}
use mathlib.Core.Bool.{Bool, true, false}
use mathlib.Core.List.{List, [], ◌∷◌, ◌++◌, append_assoc, append-nil}
use Prim.Native.Nat.{ℕ, zero, suc, ◌+◌, ◌-◌, ◌/◌, ◌%◌, ◌<◌, ◌≤◌}
use native.Mathlib.Nat.{add-zero, not-suc-le-zero, le_of_suc-le-suc}
use native.Mathlib.Omega.{arith}
use lib.ListN.{length, get_or, take, drop, length-append, length-drop}
use lib.Seq.{drop-drop, drop-append_seam, take-append_seam, drop-cons}
use lib.Dec.{leb}
use borrow.Author.Tests.{leb-true, leb-false, le-leb, lt-leb}
use Rattle.terms_bytes.specs.FieldPlaces.{definitions_of, arities_of, size_at, after_field, field_at, field_place}
use Rattle.terms.specs.Edition.{Edition, version_byte}
use Rattle.terms.specs.Framing.{Fields, sized, all_sized, joined}
use Rattle.terms.proofs.Answers.{Every}
use Rattle.terms.proofs.FramingLaws.{Framable}
use Rattle.terms_bytes.proofs.Stores.{get_d_front}

module _ (s : List ℕ) (at : ℕ) where
  pub after_held : at + (size_at s at + 2) ≤ length s → after_field s at ≡ at + (size_at s at + 2)
  unfolding after_field
  after_held h = simp (le-leb (at + (size_at s at + 2)) (length s) h)

  pub after-past : length s < at + (size_at s at + 2) → after_field s at ≡ length s + 1
  unfolding after_field
  after-past h = simp (lt-leb (at + (size_at s at + 2)) (length s) h)

  pub field_held : at + (size_at s at + 2) ≤ length s → field_at s at ≡ take (size_at s at) (drop (at + 2) s)
  unfolding field_at
  field_held h = simp (le-leb (at + (size_at s at + 2)) (length s) h)

  pub field_past : length s < at + (size_at s at + 2) → field_at s at ≡ []
  unfolding field_at
  field_past h = simp (lt-leb (at + (size_at s at + 2)) (length s) h)

  -- The field is there whole exactly if it ends within the question.
  pub held_of_after : after_field s at ≤ length s → at + (size_at s at + 2) ≤ length s
  held_of_after h = go (leb (at + (size_at s at + 2)) (length s)) refl
    where
      go : (t : Bool) → leb (at + (size_at s at + 2)) (length s) ≡ t → at + (size_at s at + 2) ≤ length s
      go true e = leb-true (at + (size_at s at + 2)) (length s) e
      go false e = absurd (omega (arith, after-past (leb-false (at + (size_at s at + 2)) (length s) e)))

  pub past_of-after : length s < after_field s at → length s < at + (size_at s at + 2)
  past_of-after h = go (leb (at + (size_at s at + 2)) (length s)) refl
    where
      go : (t : Bool) → leb (at + (size_at s at + 2)) (length s) ≡ t → length s < at + (size_at s at + 2)
      go true e =
          let l = leb-true (at + (size_at s at + 2)) (length s) e in
          absurd (omega (arith, after_held l))
      go false e = leb-false (at + (size_at s at + 2)) (length s) e

  -- The piece from behind the length to where the field ends.
  pub field_piece : (e : ℕ) → e ≡ after_field s at → e ≤ length s → (at + 2 ≤ e) × (take (e - (at + 2)) (drop (at + 2) s) ≡ field_at s at)
  field_piece e q h =
      let l = held_of_after (rw q at h) in
      let n : e - (at + 2) ≡ size_at s at = omega (arith, q, after_held l) in
      (omega (arith, q, after_held l), rw n (sym (field_held l)))

  pub field-none : (e : ℕ) → e ≡ after_field s at → length s < e → [] ≡ field_at s at
  field-none e q h = sym (field_past (past_of-after (rw q at h)))

-- A field that stands at `at`.
module _ (s : List ℕ) (at : ℕ) (xs rest : List ℕ) (small : length xs < 65536) (e : drop at s ≡ sized xs ++ rest) where
  pub size_of : size_at s at ≡ length xs
  unfolding size_at sized
  size_of =
      let high : get_or s at 0 ≡ length xs / 256 = rw add-zero at (get_d_front s at (sized xs) rest 0 e (omega arith)) in
      let low : get_or s (at + 1) 0 ≡ length xs % 256 = get_d_front s at (sized xs) rest 1 e (omega arith) in
      rw (high, low) (omega arith)

  pub whole : at + (size_at s at + 2) ≤ length s
  unfolding sized
  whole = omega (arith, size_of, simp (length-append, length-drop) at (ap length e))

  pub after_of : after_field s at ≡ at + (length xs + 2)
  after_of = after_held s at whole ∙ ap (λ (n : ℕ). at + (n + 2)) size_of

  pub bytes-behind-size : drop (at + 2) s ≡ xs ++ rest
  unfolding sized
  bytes-behind-size = sym (drop-drop 2 at s) ∙ ap (drop 2) e

  pub field_of_lem : field_at s at ≡ xs
  field_of_lem = field_held s at whole ∙ rw (size_of, bytes-behind-size, take-append_seam)

  pub behind_of : drop (after_field s at) s ≡ rest
  behind_of =
      let n : at + (length xs + 2) ≡ at + 2 + length xs = omega arith in
      rw (after_of, n, ← drop-drop, bytes-behind-size, drop-append_seam)

-- The fields of a question in their order.
unfoldable pub all_fields : Fields → List (List ℕ)
all_fields f = f.bodies ++ (f.first ∷ f.second ∷ f.apart ∷ [])

pub all-sized-append : (xs ys : List (List ℕ)) → all_sized (xs ++ ys) ≡ all_sized xs ++ all_sized ys
unfolding all_sized
all-sized-append [] ys = refl
all-sized-append (x ∷ xs) ys = rw (all-sized-append xs ys) (sym (append_assoc (sized x) (all_sized xs) (all_sized ys)))

pub joined-fields : (e : Edition) (f : Fields) → joined e f ≡ version_byte e ∷ length f.arities ∷ (f.arities ++ all_sized (all_fields f))
unfolding joined all_fields all_sized
joined-fields e f = rw (all-sized-append, append-nil)

every_append : {A : Type 0} (T : A → Type 0) (xs ys : List A) → Every T xs → Every T ys → Every T (xs ++ ys)
unfolding Every
every_append T [] ys h k = k
every_append T (x ∷ xs) ys h k = (h.0, every_append T xs ys h.1 k)

every-at : {A : Type 0} (T : A → Type 0) (a : A) (xs : List A) → Every T xs → (k : ℕ) → k < length xs → T (get_or xs k a)
unfolding Every
every-at T a [] h k lt = absurd (not-suc-le-zero lt)
every-at T a (x ∷ xs) h zero lt = h.0
every-at T a (x ∷ xs) h (suc k) lt = every-at T a xs h.1 k (le_of_suc-le-suc lt)

module _ (e : Edition) (f : Fields) (framable : Framable f) where
  pub definitions_of_lem : definitions_of (joined e f) ≡ length f.arities
  unfolding definitions_of
  definitions_of_lem = rw (joined-fields e f)

  pub arities_of_lem : arities_of (joined e f) ≡ f.arities
  unfolding arities_of
  arities_of_lem =
      let n : length (joined e f) ≡ 2 + length (f.arities ++ all_sized (all_fields f)) = ap length (joined-fields e f) ∙ omega arith in
      rw (
        definitions_of_lem,
        le-leb (2 + length f.arities) (length (joined e f)) (omega (arith, n, length-append f.arities (all_sized (all_fields f)))),
        joined-fields e f,
        take-append_seam,
      )

  behind_arities : drop (2 + definitions_of (joined e f)) (joined e f) ≡ all_sized (all_fields f)
  behind_arities = rw (definitions_of_lem, ← drop-drop, joined-fields e f) (drop-append_seam f.arities (all_sized (all_fields f)))

  small : (k : ℕ) → k < length (all_fields f) → length (get_or (all_fields f) k []) < 65536
  unfolding all_fields Every
  small = every-at (λ (b : List ℕ). length b < 65536) [] (all_fields f)
      (every_append (λ (b : List ℕ). length b < 65536) f.bodies (f.first ∷ f.second ∷ f.apart ∷ []) framable.bodies
      (framable.first, (framable.second, (framable.apart, tt))))

  -- Field k stands at its place, with those that follow it behind.
  pub at_place : (k : ℕ) → k ≤ length (all_fields f) → drop (field_place (joined e f) k) (joined e f) ≡ all_sized (drop k (all_fields f))
  unfolding field_place all_sized
  at_place zero h = behind_arities
  at_place (suc k) h =
      behind_of (joined e f) (field_place (joined e f) k) (get_or (all_fields f) k []) (all_sized (drop (suc k) (all_fields f))) (small k h)
      (at_place k (omega arith) ∙ ap all_sized (drop-cons (all_fields f) k [] h))

  pub field_at_place : (k : ℕ) → k < length (all_fields f)
      → drop (field_place (joined e f) k) (joined e f) ≡ sized (get_or (all_fields f) k []) ++ all_sized (drop (suc k) (all_fields f))
  unfolding all_sized
  field_at_place k h = at_place k (omega arith) ∙ ap all_sized (drop-cons (all_fields f) k [] h)

  pub field_is : (k : ℕ) → k < length (all_fields f) → field_at (joined e f) (field_place (joined e f) k) ≡ get_or (all_fields f) k []
  field_is k h =
      field_of_lem (joined e f) (field_place (joined e f) k) (get_or (all_fields f) k []) (all_sized (drop (suc k) (all_fields f))) (small k h) (field_at_place k h)
