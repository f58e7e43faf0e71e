-- The bytes of a question, split where its parts and its apart list stand. Assumes nothing.
use mathlib.Core.Path.{◌≡◌, sym, ap, subst, ◌∙◌}
use mathlib.Core.List.{List, [], ◌∷◌, ◌++◌, append_assoc, append-nil}
use Prim.Native.Nat.{ℕ, ◌+◌, ◌/◌, ◌%◌}
use native.Mathlib.Omega.{arith}
use lib.ListN.{length, drop, length-append, length-drop}
use lib.Seq.{drop-append_seam}
use Rattle.terms_bytes.specs.FieldPlaces.{definitions_of, size_at, after_field, field_place, field_at, arities_of}
use Rattle.terms.specs.Edition.{Edition, one, version_byte, encode_in}
use Rattle.terms.specs.Framing.{Fields, sized, all_sized, joined}
use Rattle.terms.specs.Answer.{result}
use Rattle.terms.specs.Encoding.{encode}
use Rattle.terms.specs.Question.{Question, check_in, check_of, pair_bytes, fields_in, write_in, fields_of, write}
use Rattle.terms_bytes.specs.Writing.{Plain}
use Rattle.terms.proofs.FramingLaws.{Framable}
use Rattle.terms.proofs.EditionOne.{encode-first}
use Rattle.terms.proofs.WellFormed.{accepted_in, written_in, framable_in, accepted_written}
use Rattle.terms_bytes.proofs.Places.{all_fields, at_place, definitions_of_lem, after_of, behind_of, size_of, whole, bytes-behind-size, field_of_lem, arities_of_lem}

-- The two bytes of a length.
unfoldable pub halves : ℕ → List ℕ
halves n = (n / 256) ∷ (n % 256) ∷ []

-- What stands before the first part.
unfoldable pub before_parts : Edition → Fields → List ℕ
before_parts e f = version_byte e ∷ length f.arities ∷ (f.arities ++ all_sized f.bodies)

pub joined_split : (e : Edition) (f : Fields)
    → joined e f ≡ before_parts e f ++ (halves (length f.first) ++ (f.first ++ (halves (length f.second) ++ (f.second ++ (halves (length f.apart) ++ f.apart)))))
unfolding joined before_parts halves sized
joined_split e f = rw append_assoc

-- The places that the code computes.
module _ (e : Edition) (f : Fields) (framable : Framable f) where
  abbrev pub first_place : ℕ
  first_place = field_place (joined e f) (definitions_of (joined e f))

  abbrev pub second_place : ℕ
  second_place = after_field (joined e f) first_place

  abbrev pub apart_place : ℕ
  apart_place = after_field (joined e f) second_place

  at_first : drop first_place (joined e f) ≡ sized f.first ++ (sized f.second ++ sized f.apart)
  unfolding all_fields all_sized
  at_first =
      let n = definitions_of_lem e f framable ∙ sym framable.counts in
      let l = length-append f.bodies (f.first ∷ f.second ∷ f.apart ∷ []) in
      ap (λ (k : ℕ). drop (field_place (joined e f) k) (joined e f)) n
      ∙ at_place e f framable (length f.bodies) (omega arith)
      ∙ rw (drop-append_seam, append-nil)

  at_second : drop second_place (joined e f) ≡ sized f.second ++ sized f.apart
  at_second = behind_of (joined e f) first_place f.first (sized f.second ++ sized f.apart) framable.first at_first

  pub at_apart : drop apart_place (joined e f) ≡ sized f.apart ++ []
  at_apart =
      behind_of (joined e f) second_place f.second (sized f.apart) framable.second at_second ∙ sym (append-nil (sized f.apart))

  pub first_field : field_at (joined e f) first_place ≡ f.first
  first_field = field_of_lem (joined e f) first_place f.first _ framable.first at_first

  pub second-field : field_at (joined e f) second_place ≡ f.second
  second-field = field_of_lem (joined e f) second_place f.second _ framable.second at_second

  pub apart_field : field_at (joined e f) apart_place ≡ f.apart
  apart_field = field_of_lem (joined e f) apart_place f.apart [] framable.apart at_apart

  pub first-bytes : drop (first_place + 2) (joined e f) ≡ f.first ++ (sized f.second ++ sized f.apart)
  first-bytes = bytes-behind-size (joined e f) first_place f.first (sized f.second ++ sized f.apart) framable.first at_first

  pub second-bytes : drop (second_place + 2) (joined e f) ≡ f.second ++ sized f.apart
  second-bytes = bytes-behind-size (joined e f) second_place f.second (sized f.apart) framable.second at_second

  pub apart_bytes : drop (apart_place + 2) (joined e f) ≡ f.apart ++ []
  apart_bytes = bytes-behind-size (joined e f) apart_place f.apart [] framable.apart at_apart

  pub apart_size_lem : size_at (joined e f) apart_place ≡ length f.apart
  apart_size_lem = size_of (joined e f) apart_place f.apart [] framable.apart at_apart

  pub second_is : second_place ≡ first_place + (length f.first + 2)
  second_is = after_of (joined e f) first_place f.first (sized f.second ++ sized f.apart) framable.first at_first

  pub apart_is : apart_place ≡ second_place + (length f.second + 2)
  apart_is = after_of (joined e f) second_place f.second (sized f.apart) framable.second at_second

  pub joined_length : length (joined e f) ≡ apart_place + (length f.apart + 2)
  unfolding sized
  joined_length = omega (arith, whole (joined e f) apart_place f.apart [] framable.apart at_apart, simp (length-append, length-drop) at (ap length at_apart))

  pub first_is : first_place ≡ length (before_parts e f)
  unfolding halves
  first_is =
      let l = simp length-append at (ap length (joined_split e f)) in
      omega (arith, l, joined_length, apart_is, second_is)

-- The places of an accepted question: its last three fields follow one another, and nothing follows them.
pub record Places (s : List ℕ) (first second apart : ℕ) : Type 0 where
  pub first_ends : first + (size_at s first + 2) ≡ second
  pub second_ends : second + (size_at s second + 2) ≡ apart
  pub apart_ends : apart + (size_at s apart + 2) ≡ length s

pub joined_places : (e : Edition) (f : Fields) → Framable f → Places (joined e f) (field_place (joined e f) (definitions_of (joined e f)))
    (after_field (joined e f) (field_place (joined e f) (definitions_of (joined e f))))
    (after_field (joined e f) (after_field (joined e f) (field_place (joined e f) (definitions_of (joined e f)))))
joined_places e f framable = record {
  first_ends = rw (size_of (joined e f) (first_place e f framable) f.first _ framable.first (at_first e f framable)) (sym (second_is e f framable));
  second_ends = rw (size_of (joined e f) (second_place e f framable) f.second _ framable.second (at_second e f framable)) (sym (apart_is e f framable));
  apart_ends = rw (apart_size_lem e f framable) (sym (joined_length e f framable));
}

-- A question that is accepted in an edition.
module _ (e : Edition) (s : List ℕ) (q : Question) (h : check_in e s ≡ result q) where
  pub joined_in : joined e (fields_in e q) ≡ s
  unfolding write_in
  joined_in = written_in e s q h

  pub framable_of : Framable (fields_in e q)
  framable_of = let (w, fit) = accepted_in e s q h in framable_in e q w fit

  pub places_in_lem : (first second apart : ℕ) → first ≡ field_place s (definitions_of s) → second ≡ after_field s first → apart ≡ after_field s second
      → Places s first second apart
  places_in_lem first second apart x y z =
      let y' : second ≡ after_field s (field_place s (definitions_of s)) = y ∙ ap (after_field s) x in
      let z' : apart ≡ after_field s (after_field s (field_place s (definitions_of s))) = z ∙ ap (after_field s) y' in
      rw (x, y', z')
      (subst
      (λ (s : List ℕ). Places s (field_place s (definitions_of s)) (after_field s (field_place s (definitions_of s)))
      (after_field s (after_field s (field_place s (definitions_of s)))))
      joined_in (joined_places e (fields_in e q) framable_of))

  pub sizes_in : (first second : ℕ) → first ≡ field_place s (definitions_of s) → second ≡ after_field s first
      → (size_at s first ≡ length (encode_in e 0 q.first)) × (size_at s second ≡ length (encode_in e 0 q.second))
  unfolding fields_in
  sizes_in first second x y =
      let fr = framable_of in
      let f = fields_in e q in
      let y' : second ≡ after_field s (field_place s (definitions_of s)) = y ∙ ap (after_field s) x in
      rw (x, y')
      (subst
      (λ (s : List ℕ). (size_at s (field_place s (definitions_of s)) ≡ length (encode_in e 0 q.first))
      × (size_at s (after_field s (field_place s (definitions_of s))) ≡ length (encode_in e 0 q.second)))
      joined_in (
        size_of (joined e f) (first_place e f fr) f.first _ fr.first (at_first e f fr),
        size_of (joined e f) (second_place e f fr) f.second _ fr.second (at_second e f fr),
      ))

  pub apart_in : (first second apart : ℕ) → first ≡ field_place s (definitions_of s) → second ≡ after_field s first → apart ≡ after_field s second
      → field_at s apart ≡ pair_bytes q.apart
  unfolding fields_in
  apart_in first second apart x y z =
      let y' : second ≡ after_field s (field_place s (definitions_of s)) = y ∙ ap (after_field s) x in
      let z' : apart ≡ after_field s (after_field s (field_place s (definitions_of s))) = z ∙ ap (after_field s) y' in
      rw z'
      (subst (λ (s : List ℕ). field_at s (after_field s (after_field s (field_place s (definitions_of s)))) ≡ pair_bytes q.apart) joined_in
      (apart_field e (fields_in e q) framable_of))

  pub arities_in : arities_of s ≡ q.arities
  unfolding fields_in
  arities_in = subst (λ (s : List ℕ). arities_of s ≡ q.arities) joined_in (arities_of_lem e (fields_in e q) framable_of)

-- The same of edition one, by `encode`.
pub accepted_joined : (s : List ℕ) (q : Question) → check_of s ≡ result q → joined one (fields_of q) ≡ s
unfolding write
accepted_joined s q h = accepted_written s q h

pub accepted_places : (s : List ℕ) → Plain s → (first second apart : ℕ)
    → first ≡ field_place s (definitions_of s) → second ≡ after_field s first → apart ≡ after_field s second → Places s first second apart
unfolding Plain check_of
accepted_places s (q, h) = places_in_lem one s q h

pub accepted_sizes : (s : List ℕ) (q : Question) → check_of s ≡ result q → (first second : ℕ)
    → first ≡ field_place s (definitions_of s) → second ≡ after_field s first
    → (size_at s first ≡ length (encode 0 q.first)) × (size_at s second ≡ length (encode 0 q.second))
unfolding check_of
accepted_sizes s q h first second x y =
    let (l, m) = sizes_in one s q h first second x y in
    (l ∙ ap length (encode-first 0 q.first), m ∙ ap length (encode-first 0 q.second))

pub accepted_apart : (s : List ℕ) (q : Question) → check_of s ≡ result q → (first second apart : ℕ)
    → first ≡ field_place s (definitions_of s) → second ≡ after_field s first → apart ≡ after_field s second → field_at s apart ≡ pair_bytes q.apart
unfolding check_of
accepted_apart s q h = apart_in one s q h

pub accepted_arities : (s : List ℕ) (q : Question) → check_of s ≡ result q → arities_of s ≡ q.arities
unfolding check_of
accepted_arities s q h = arities_in one s q h
