-- Checks 17 and 15 of a converted question, and operations that are turned back or write.
use mathlib.Core.Path.{◌≡◌, refl, sym, ap, ap₂, subst, ◌∙◌}
use mathlib.Core.Bool.{Bool, true, false}
use mathlib.Core.List.{List, [], ◌∷◌, ◌++◌, append_assoc}
use Prim.Native.Nat.{ℕ, ◌*◌, ◌<◌, ◌≤◌}
use native.Mathlib.Omega.{arith}
use lib.ListN.{length, take, drop, length-append}
use lib.Seq.{sets, take_all, take-append_seam}
use lib.Dec.{leb}
use borrow.Author.Tests.{le-leb, lt-leb}
use Rattle.calculus.specs.Term.{Term}
use Rattle.terms.specs.Answer.{Answer, refused, result, ◌>>=◌, ◌>>◌, need}
use Rattle.terms.specs.Edition.{Edition, one, two, other, encode_in}
use Rattle.terms.specs.Framing.{Fields, sized, all_sized, joined}
use Rattle.terms.specs.Limits.{longest_question}
use Rattle.terms.specs.Operations.{written_within, convert_of, length_written, area_after}
use Rattle.terms.specs.Question.{Question, every, fits, check_in, body_fields_in, pair_bytes, fields_in, write_in, fits_in}
use Rattle.terms.proofs.Answers.{bind-result, bind_to, bind-refused, need-passed, need_failed, Every, both_true}
use Rattle.terms.proofs.FramingLaws.{Framable}
use Rattle.terms.proofs.WellFormed.{WellFormed, fits-size, terms_fit, accepted_in}
use Rattle.terms_bytes.specs.Counted.{edition_from}
use Rattle.terms_bytes.specs.FieldPlaces.{arities_of, after_field, field_place}
use Rattle.terms_bytes.specs.Writing.{written_answer, Does, Writes}
use Rattle.std.specs.Prelude.{Result, Ok, Err}
use Rattle.terms_bytes.specs.Refusals.{number_of}
use Rattle.terms_bytes.specs.declared.answer.Refusal.{Refusal}
use Rattle.terms_bytes.specs.declared.answer.Refusal.TheVariants.{ResultArea, ConvertedLength}
use Rattle.terms_bytes.proofs.Places.{field_of_lem, behind_of, all_fields, all-sized-append, arities_of_lem, at_place}
use Rattle.terms_bytes.proofs.QuestionPlaces.{first_field, second-field, apart_field}
use Rattle.terms_bytes.proofs.Stores.{span, sets-start}
use Rattle.terms_checks.specs.Checking.{zero_for, fields_from, first_place, second_place, fields_at, all_fit}
use Rattle.terms_checks.specs.Checking.{apart_place as apartPlaceAt}
use Rattle.terms_converting.specs.Questions.{AcceptedFrom, MayConvert, WritesFitting}
use Rattle.terms_converting.proofs.QuestionLaws.{other_length, count_fields}

-- An operation that is turned back, and one that writes.
pub does_refused : (m : Answer (List ℕ)) (area : List ℕ) (k : Refusal) → m ≡ refused (number_of k) → Does m area (Err k) area
unfolding written_answer length_written area_after ◌>>=◌
does_refused m area k e = record { answer = rw e; left = rw e }

pub does_write : (e : Edition) (m : Answer (List ℕ)) (area area' : List ℕ) (q : Question) (n : ℕ) → m ≡ result (write_in e q) → Writes e q area n area'
    → Does m area (Ok n) area'
unfolding Writes written_answer length_written ◌>>=◌
does_write e m area area' q n h w = record { answer = rw h (ap result w.0); left = rw h w.1 }

from_other : (e : Edition) (d : ℕ) (P : Term) → 2 * length (encode_in e d P) ≤ 3 * length (encode_in (other e) d P)
from_other one d P = other_length two d P
from_other two d P = other_length one d P

-- A question that is accepted in the other edition is not long in this one, though it may not fit it.
module _ (e : Edition) (q : Question) (w : WellFormed q) (fit : fits_in (other e) q ≡ true) where
  part_short : (d : ℕ) (P : Term) → fits (encode_in (other e) d P) ≡ true → length (encode_in e d P) ≤ 168
  part_short d P h = let s = fits-size (encode_in (other e) d P) h in omega (arith, from_other e d P, s)

  bodies_short : (sizes : List ℕ) (Ps : List Term) → every fits (body_fields_in (other e) sizes Ps) ≡ true
      → Every (λ b. length b < 65536) (body_fields_in e sizes Ps) × (length (all_sized (body_fields_in e sizes Ps)) ≤ 170 * length sizes)
      × (length (body_fields_in e sizes Ps) ≤ length sizes)
  unfolding every body_fields_in Every all_sized sized
  bodies_short (a ∷ sizes) (P ∷ Ps) h =
      let b = both_true (fits (encode_in (other e) a P)) (every fits (body_fields_in (other e) sizes Ps)) h in
      let s = part_short a P b.0 in
      let r = bodies_short sizes Ps b.1 in
      let r₁ = r.1 in
      let r₂ = r.2 in
      ((omega arith, r.0), omega (arith, length-append (encode_in e a P) (all_sized (body_fields_in e sizes Ps))), omega arith)
  bodies_short (a ∷ sizes) [] h = (tt, omega arith, omega arith)
  bodies_short [] Ps h = (tt, omega arith, omega arith)

  pub framable_other : Framable (fields_in e q)
  unfolding fields_in
  framable_other =
      let t = terms_fit (other e) q fit in
      let p = part_short 0 q.first t.first in
      let r = part_short 0 q.second t.second in
      let n = w.apart_size in
      record {
        counts = count_fields e q.arities q.arities q.bodies w.bodies;
        bodies = (bodies_short q.arities q.bodies t.bodies).0;
        first = omega arith;
        second = omega arith;
        apart = omega arith;
      }

  pub other_room : length (write_in e q) ≤ longest_question
  unfolding write_in joined fields_in sized
  other_room =
      let t = terms_fit (other e) q fit in
      let p = part_short 0 q.first t.first in
      let r = part_short 0 q.second t.second in
      let n = w.definitions in
      let m = w.apart_size in
      let b = (bodies_short q.arities q.bodies t.bodies).1 in
      let xs = pair_bytes q.apart in
      let fs = sized (encode_in e 0 q.first) ++ (sized (encode_in e 0 q.second) ++ sized xs) in
      omega (
        arith,
        length-append q.arities (all_sized (body_fields_in e q.arities q.bodies) ++ fs),
        length-append (all_sized (body_fields_in e q.arities q.bodies)) fs,
        length-append (encode_in e 0 q.first) (sized (encode_in e 0 q.second) ++ sized xs),
        length-append (encode_in e 0 q.second) (sized xs),
      )

-- The fields that the code finds in a question's bytes are its fields.
bodies_found : (s : List ℕ) (fs : List (List ℕ)) (at : ℕ) (rest : List ℕ) → Every (λ b. length b < 65536) fs → drop at s ≡ all_sized fs ++ rest
    → fields_from s at (length fs) ≡ fs
unfolding fields_from all_sized Every
bodies_found s [] at rest h e = refl
bodies_found s (f ∷ fs) at rest h e =
    let here : drop at s ≡ sized f ++ (all_sized fs ++ rest) = e ∙ append_assoc (sized f) (all_sized fs) rest in
    let behind = behind_of s at f (all_sized fs ++ rest) h.0 here in
    ap₂ (λ x xs. x ∷ xs) (field_of_lem s at f (all_sized fs ++ rest) h.0 here) (bodies_found s fs (after_field s at) rest h.1 behind)

pub fields-found : (e : Edition) (f : Fields) → Framable f → fields_at (joined e f) ≡ f
unfolding fields_at all_fields apartPlaceAt second_place first_place
fields-found e f fr =
    let s = joined e f in
    let last : List (List ℕ) = f.first ∷ f.second ∷ f.apart ∷ [] in
    let bodies = bodies_found s f.bodies (field_place s 0) (all_sized last) fr.bodies (at_place e f fr 0 (omega arith) ∙ all-sized-append f.bodies last) in
    let n : length (arities_of s) ≡ length f.bodies = ap length (arities_of_lem e f fr) ∙ sym fr.counts in
    rw (n, bodies, arities_of_lem e f fr, first_field e f fr, second-field e f fr, apart_field e f fr)

same_fit : (e : Edition) (q : Question) → all_fit (fields_in e q) ≡ fits_in e q
unfolding all_fit fits_in fields_in
same_fit e q = refl

fit_found : (e : Edition) (q : Question) → Framable (fields_in e q) → all_fit (fields_at (write_in e q)) ≡ fits_in e q
unfolding write_in
fit_found e q fr = ap all_fit (fields-found e (fields_in e q) fr) ∙ same_fit e q

-- The ways out of checks 17 and 15.
module _ (converted area : List ℕ) where
  tested : (t : Bool) → t ≡ all_fit (fields_at converted) → (e : Edition) (question : List ℕ) (q : Question) → check_in (other e) question ≡ result q
      → converted ≡ write_in e q → fits_in e q ≡ t
  tested t h e question q a c =
      let (w, fit) = accepted_in (other e) question q a in
      sym (fit_found e q (framable_other e q w fit)) ∙ ap (λ (s : List ℕ). all_fit (fields_at s)) (sym c) ∙ sym h

  pub too_long : false ≡ all_fit (fields_at converted) → WritesFitting converted area (Err ConvertedLength) area
  unfolding WritesFitting number_of
  too_long h e question q a c = does_refused _ area ConvertedLength (need_failed 17 (fits_in e q) _ (tested false h e question q a c))

  module _ (h : true ≡ all_fit (fields_at converted)) where
    pub no_room : length area < length converted → WritesFitting converted area (Err ResultArea) area
    unfolding WritesFitting written_within number_of
    no_room l e question q a c =
        does_refused _ area ResultArea (
        need-passed 17 (fits_in e q) _ (tested true h e question q a c)
        ∙ need_failed 15 (leb (length (write_in e q)) (length area)) _ (lt-leb _ _ (rw c at l)))

    pub fitting_written : (area' : List ℕ) → length converted ≤ length area → area' ≡ sets area 0 (span converted 0 (length converted))
        → WritesFitting converted area (Ok (length converted)) area'
    unfolding WritesFitting written_within Writes area_after
    fitting_written area' l w e question q a c =
        does_write e _ area area' q (length converted)
        (need-passed 17 (fits_in e q) _ (tested true h e question q a c)
        ∙ need-passed 15 (leb (length (write_in e q)) (length area)) _ (le-leb _ _ (rw c at l))) (
          ap length c,
          w ∙ ap (sets area 0) (take_all (length converted) converted (omega arith) ∙ c) ∙ sets-start area (write_in e q) (rw c at l),
        )

other-other : (e : Edition) → other (other e) ≡ e
other-other one = refl
other-other two = refl

-- An accepted question, made aside.
module _ (question : List ℕ) (counted : Bool) (q : Question) (a : check_in (edition_from counted) question ≡ result q) where
  abbrev e' : Edition
  e' = other (edition_from counted)

  pub accepted_other : check_in (other (other (edition_from counted))) question ≡ result q
  accepted_other = subst (λ (x : Edition). check_in x question ≡ result q) (sym (other-other (edition_from counted))) a

  pub aside_room : length (write_in (other (edition_from counted)) q) ≤ longest_question
  aside_room = let (w, fit) = accepted_in (other e') question q accepted_other in other_room e' q w fit

  pub may_convert : (out : List ℕ) → length out ≡ longest_question → MayConvert question counted out
  may_convert out l = record { old = q; accepted = a; room = omega (arith, aside_room) }

  pub aside_bytes : (out out' : List ℕ) (n : ℕ) → Writes (other (edition_from counted)) q out n out' → take n out' ≡ write_in (other (edition_from counted)) q
  unfolding Writes area_after
  aside_bytes out out' n w =
      rw (w.0, w.1) (take-append_seam (write_in e' q) (drop (length (write_in e' q)) out))

  pub converted_does : (area area' : List ℕ) (r : Result ℕ Refusal) → Does (need 17 (fits_in (other (edition_from counted)) q)
      >> written_within (other (edition_from counted)) (length area) q) area r area' → Does (convert_of (other (edition_from counted)) question (length area)) area r area'
  unfolding convert_of
  converted_does area area' r h =
      subst (λ (m : Answer (List ℕ)). Does m area r area')
      (sym (bind_to (λ (x : Question). need 17 (fits_in e' x) >> written_within e' (length area) x) accepted_other)) h

-- What checks 3 to 12 answer decides the converters.
pub made-refused : {A B : Type 0} (m : Answer A) (f : A → B) (k : ℕ) → (m >>= λ a. result (f a)) ≡ refused k → m ≡ refused k
unfolding ◌>>=◌
made-refused (refused j) f k e = let h : j ≡ k = cc in ap refused h
made-refused (result a) f k e = let z : ◌≡◌ {A = ℕ} 0 1 = cc in absurd (omega arith)

pub convert_refused : (question : List ℕ) (counted : Bool) (room k : ℕ) → zero_for (check_in (edition_from counted) question) ≡ refused k
    → convert_of (other (edition_from counted)) question room ≡ refused k
unfolding convert_of zero_for
convert_refused question counted room k h =
    bind-refused _ (subst (λ (x : Edition). check_in x question ≡ refused k) (sym (other-other (edition_from counted))) (made-refused (check_in (edition_from counted) question) (λ q. 0) k h))

pub convert_accepted : (question : List ℕ) (counted : Bool) → zero_for (check_in (edition_from counted) question) ≡ result 0 → AcceptedFrom question counted
unfolding AcceptedFrom zero_for
convert_accepted question counted h = let t = bind-result (check_in (edition_from counted) question) _ 0 h in (t.0, t.1)
