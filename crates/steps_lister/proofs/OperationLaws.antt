-- The listing operation answers and writes what its definition says. Assumes nothing.
use borrow.Author.Tests.{le-ltb, lt-ltb, le-leb, lt-leb, eq-eqb, ne_eqb}
use mathlib.Core.Bool.{Bool, true, false, ◌&&◌, ◌||◌, not, false≢true}
use mathlib.Core.List.{List, [], ◌∷◌, ◌++◌}
use mathlib.Core.Path.{◌≡◌, refl, sym, ◌∙◌, ap, subst}
use native.Mathlib.Nat.{mul-le-mul_right, zero-add}
use native.Mathlib.Omega.{arith}
use Prim.Native.Nat.{ℕ, suc, ◌+◌, ◌*◌, ◌<◌, ◌≤◌}
use lib.Dec.{ltb, leb, eqb}
use lib.ListN.{length, get_or, take, drop, length-append}
use lib.Seq.{sets, sets-eq, get_or-append_seam, get_or-append-add}
use Rattle.calculus.specs.Distinction.{among}
use Rattle.calculus.specs.Free.{fn}
use Rattle.calculus.proofs.FreeNames.{free→fn}
use Rattle.calculus.proofs.Selection.{in_among}
use Rattle.calculus.specs.Term.{Term}
use Rattle.terms.specs.Answer.{Answer, refused, result, ◌>>=◌, ◌>>◌, need}
use Rattle.terms.specs.Edition.{one}
use Rattle.terms.specs.Encoding.{encode, InScope}
use Rattle.terms_bytes.specs.FieldPlaces.{definitions_of, after_field, field_at, field_place}
use Rattle.terms.specs.Framing.{Fields, joined}
use Rattle.terms_renaming.specs.FreeFlags.{IsFreeOf}
use Rattle.terms.specs.Limits.{name_count, longest_term}
use Rattle.terms.specs.Operations.{check_answer}
use Rattle.terms.specs.Question.{Question, check_of, question_of, fields_of}
use Rattle.terms_bytes.specs.Writing.{IsAccepted, Plain}
use Rattle.terms.proofs.Answers.{bind-result, bind_to, bind-refused, need-passed, need_failed}
use Rattle.terms.proofs.FramingLaws.{Framable}
use Rattle.terms_bytes.proofs.Places.{all_fields, definitions_of_lem, field_is}
use Rattle.terms_bytes.proofs.QuestionPlaces.{accepted_joined}
use Rattle.terms.proofs.OwnEdition.{in_own}
use Rattle.terms_converting.proofs.FittingLaws.{made-refused}
use Rattle.terms.proofs.WellFormed.{PartAllowed, accepted_well_formed, framable}
use Rattle.steps_tallies.specs.Bodies.{AritiesIs}
use Rattle.steps.proofs.QuestionDefinitions.{definitions}
use Rattle.steps_lister.specs.Answering.{steps_answer, count_told, DoesList, side_term, SideIs, ListsInto}
use Rattle.steps.specs.Limits.{most_steps, step_bytes}
use Rattle.steps.specs.Listing.{Listing, unsettled, listed, steps_of}
use Rattle.steps.specs.Operations.{side_of, is_new, list_of, list_bytes, area_after}
use Rattle.steps_lister.specs.PartLister.{AnswersListing, ListPartIs}
use Rattle.std.specs.Prelude.{Option, Some, None}
use Rattle.std.specs.Prelude.{Result, Ok, Err}
use Rattle.terms_bytes.specs.Refusals.{number_of}
use Rattle.terms_bytes.specs.declared.answer.Refusal.{Refusal}
use Rattle.terms_bytes.specs.declared.answer.Refusal.TheVariants.{ListedSide, ResultArea}
use Rattle.steps.proofs.ListedIffDerived.{steps-length, side_allowed}

-- The list of a part, made in an area of its own, and copied.
module _ (question bytes : List ℕ) (x : ℕ) (own' area : List ℕ) (space : most_steps * step_bytes ≤ length area) where
  pub into_unsettled : (a : Option ℕ) → a ≡ None → ListPartIs question bytes x a own' → ListsInto question bytes x area None area
  unfolding ListsInto AnswersListing steps_answer count_told area_after
  into_unsettled a e p q P l new = go (steps_of q.bodies x P) (subst (λ c. AnswersListing (steps_of q.bodies x P) c own') e (p.is q P l new))
    where
      go : (r : Listing) → AnswersListing r None own' → DoesList (result r) area (Ok None) area
      go unsettled a = record { answer = refl; left = refl }
      go (listed ss) a = let e = a.0 in let z : ◌≡◌ {A = ℕ} 0 1 = cc in absurd (omega arith)

  pub into_count : (n : ℕ) (a : Option ℕ) → a ≡ Some n → ListPartIs question bytes x a own' → (area' : List ℕ)
      → area' ≡ sets area 0 (take (n * step_bytes) own') → ListsInto question bytes x area (Some n) area'
  unfolding ListsInto AnswersListing steps_answer count_told area_after definitions
  into_count n a c p area' e q P l new =
      go (steps_of q.bodies x P) refl (subst (λ c. AnswersListing (steps_of q.bodies x P) c own') c (p.is q P l new))
    where
      go : (r : Listing) → steps_of q.bodies x P ≡ r → AnswersListing r (Some n) own' → DoesList (result r) area (Ok (Some n)) area'
      go unsettled s a = let z : ◌≡◌ {A = ℕ} 0 1 = cc in absurd (omega arith)
      go (listed ss) s (m, w) =
          let d : n ≡ length ss = cc in
          let allowed = (accepted_well_formed question q l.accepted).bodies in
          let size : length (list_bytes ss) ≡ length ss * step_bytes =
          steps-length q.arities q.bodies allowed (definitions q.arities q.bodies allowed) (λ k. refl) refl P l.scope x l.new ss s in
          let few : n * step_bytes ≤ most_steps * step_bytes = mul-le-mul_right step_bytes (p.few n c) in
          let number : n * step_bytes ≡ length ss * step_bytes = ap (λ k. k * step_bytes) d in
          let copied : take (n * step_bytes) own' ≡ list_bytes ss = ap (λ k. take k own') number ∙ w in
          record {
            answer = ap (λ k. result (Some k)) d;
            left =
                e
                ∙ ap (sets area 0) copied
                ∙ sets-eq (list_bytes ss) area 0 (omega arith)
                ∙ ap (λ k. list_bytes ss ++ drop k area) (zero-add (length (list_bytes ss)));
          }

-- The parts of an accepted question stand where the code finds them.
module _ (s : List ℕ) (q : Question) (accepted : check_of s ≡ result q) where
  count_bodies : (f : Fields) → Framable f → definitions_of (joined one f) ≡ length f.bodies
  count_bodies f framed = definitions_of_lem one f framed ∙ sym framed.counts

  pub first_stands : field_at s (field_place s (definitions_of s)) ≡ encode 0 q.first
  unfolding all_fields fields_of
  first_stands =
      let f : Fields = fields_of q in
      let framed = framable q (accepted_well_formed s q accepted) in
      ap (λ (t : List ℕ). field_at t (field_place t (definitions_of t))) (sym (accepted_joined s q accepted))
      ∙ ap (λ k. field_at (joined one f) (field_place (joined one f) k)) (count_bodies f framed)
      ∙ field_is one f framed (length f.bodies) (omega (arith, length-append f.bodies (f.first ∷ f.second ∷ f.apart ∷ [])))
      ∙ get_or-append_seam f.bodies f.first (f.second ∷ f.apart ∷ []) []

  pub second_stands : field_at s (after_field s (field_place s (definitions_of s))) ≡ encode 0 q.second
  unfolding all_fields fields_of field_place
  second_stands =
      let f : Fields = fields_of q in
      let framed = framable q (accepted_well_formed s q accepted) in
      let n : ℕ = length f.bodies in
      let k : n + 1 ≡ suc n = omega arith in
      ap (λ (t : List ℕ). field_at t (after_field t (field_place t (definitions_of t)))) (sym (accepted_joined s q accepted))
      ∙ ap (λ k. field_at (joined one f) (after_field (joined one f) (field_place (joined one f) k))) (count_bodies f framed)
      ∙ field_is one f framed (suc n) (omega (arith, length-append f.bodies (f.first ∷ f.second ∷ f.apart ∷ [])))
      ∙ ap (λ j. get_or (f.bodies ++ (f.first ∷ f.second ∷ f.apart ∷ [])) j []) (sym k)
      ∙ get_or-append-add f.bodies (f.first ∷ f.second ∷ f.apart ∷ []) 1 []

pub side_is : (s : List ℕ) (side : ℕ) → (side ≡ 1 → SideIs s side (field_at s (field_place s (definitions_of s))))
    × ((side ≡ 1 → ⊥) → SideIs s side (field_at s (after_field s (field_place s (definitions_of s)))))
unfolding SideIs side_term
side_is s side = (
  λ h q e. rw (eq-eqb side 1 h) (first_stands s q e),
  λ h q e. rw (ne_eqb side 1 h) (second_stands s q e),
)

-- The answers of checks 3 to 12.
pub question_accepted : (s : List ℕ) → check_answer s ≡ result 0 → IsAccepted s
unfolding check_answer IsAccepted
question_accepted s e = let (q, a, _) = bind-result (question_of s) _ 0 e in (q, a)

question_refused : (s : List ℕ) (k : ℕ) → check_answer s ≡ refused k → question_of s ≡ refused k
unfolding check_answer
question_refused s k e = made-refused (question_of s) (λ q. 0) k e

does_refused : (m : Answer Listing) (area : List ℕ) (k : Refusal) → m ≡ refused (number_of k) → DoesList m area (Err k) area
unfolding steps_answer count_told area_after
does_refused m area k e = rw e (record { answer = refl; left = refl })

pub list_turned_back : (s : List ℕ) (side x : ℕ) (area : List ℕ) (k : Refusal) → check_answer s ≡ refused (number_of k)
    → DoesList (list_of s side x (length area)) area (Err k) area
unfolding list_of
list_turned_back s side x area k e = does_refused _ area k (bind-refused _ (question_refused s (number_of k) e))

-- Checks 13 and 15 of an accepted question.
module _ (s : List ℕ) (side x : ℕ) (area : List ℕ) where
  module _ (q : Question) (accepted : check_of s ≡ result q) where
    abbrev chosen : Term
    chosen = side_term q side

    abbrev behind : Term → Answer Listing
    behind P = is_new x P >> (need 15 (leb (step_bytes * most_steps) (length area)) >> result (steps_of q.bodies x P))

    from_side : list_of s side x (length area) ≡ (side_of q side >>= behind)
    unfolding list_of check_of
    from_side = bind_to _ (in_own one s q accepted)

    no_side : (eqb side 1 || eqb side 2) ≡ false → list_of s side x (length area) ≡ refused 13
    unfolding side_of
    no_side h = from_side ∙ bind-refused behind (need_failed 13 (eqb side 1 || eqb side 2) _ h)

    module _ (h : (eqb side 1 || eqb side 2) ≡ true) where
      the_side : side_of q side ≡ result (side_term q side)
      unfolding side_of side_term
      the_side = need-passed 13 (eqb side 1 || eqb side 2) _ h

      from_new : list_of s side x (length area) ≡ behind (side_term q side)
      from_new = from_side ∙ bind_to behind the_side

      not_new : (ltb x name_count && not (among (fn (side_term q side)) x)) ≡ false → list_of s side x (length area) ≡ refused 13
      unfolding is_new
      not_new n = from_new ∙ need_failed 13 (ltb x name_count && not (among (fn (side_term q side)) x)) _ n

      module _ (n : (ltb x name_count && not (among (fn (side_term q side)) x)) ≡ true) where
        from_room : list_of s side x (length area) ≡ (need 15 (leb (step_bytes * most_steps) (length area)) >> result (steps_of q.bodies x (side_term q side)))
        unfolding is_new
        from_room = from_new ∙ need-passed 13 (ltb x name_count && not (among (fn (side_term q side)) x)) _ n

        short : length area < step_bytes * most_steps → list_of s side x (length area) ≡ refused 15
        short l = from_room ∙ need_failed 15 (leb (step_bytes * most_steps) (length area)) _ (lt-leb (step_bytes * most_steps) (length area) l)

        lists : step_bytes * most_steps ≤ length area → list_of s side x (length area) ≡ result (steps_of q.bodies x (side_term q side))
        lists l = from_room ∙ need-passed 15 (leb (step_bytes * most_steps) (length area)) _ (le-leb (step_bytes * most_steps) (length area) l)

  module _ (accepted : Plain s) (t : Bool) (side-test : t ≡ (eqb side 1 || eqb side 2)) where
    pub does_no_side : t ≡ false → DoesList (list_of s side x (length area)) area (Err ListedSide) area
    unfolding Plain number_of
    does_no_side e = let (q, a) = accepted in does_refused _ area ListedSide (no_side q a (sym side-test ∙ e))

    module _ (is-side : t ≡ true) where
      pub does_no_name : name_count ≤ x → DoesList (list_of s side x (length area)) area (Err ListedSide) area
      unfolding Plain number_of
      does_no_name h =
          let (q, a) = accepted in
          does_refused _ area ListedSide (not_new q a (sym side-test ∙ is-side) (rw (le-ltb x name_count h) refl))

      module _ (named : x < name_count) (bytes arities : List ℕ) (stands : SideIs s side bytes) (have : AritiesIs s arities) where
        scope_of : (q : Question) → check_of s ≡ result q → PartAllowed q.arities (side_term q side)
        scope_of q a =
            side_allowed q (accepted_well_formed s q a) side (side_term q side) (the_side q a (sym side-test ∙ is-side))

        pub part_fits : length bytes ≤ longest_term
        unfolding Plain SideIs
        part_fits = let (q, a) = accepted in omega (arith, ap length (stands q a), (scope_of q a).size)

        module _ (f : Bool) (free_test : IsFreeOf bytes arities x f) where
          is_free : (q : Question) → check_of s ≡ result q → f ≡ among (fn (side_term q side)) x
          unfolding IsFreeOf AritiesIs SideIs
          is_free q a = free_test (side_term q side) (subst (λ r. InScope name_count r 0 (side_term q side)) (sym (have q a)) (scope_of q a).scope) (stands q a)

          new-test : (q : Question) → check_of s ≡ result q → (ltb x name_count && not (among (fn (side_term q side)) x)) ≡ not f
          new-test q a = rw (lt-ltb x name_count named, is_free q a) refl

          pub does_free : f ≡ true → DoesList (list_of s side x (length area)) area (Err ListedSide) area
          unfolding Plain number_of
          does_free e = let (q, a) = accepted in does_refused _ area ListedSide (not_new q a (sym side-test ∙ is-side) (new-test q a ∙ ap not e))

          module _ (new : f ≡ false) where
            pub does_short : length area < step_bytes * most_steps → DoesList (list_of s side x (length area)) area (Err ResultArea) area
            unfolding Plain number_of
            does_short l =
                let (q, a) = accepted in
                does_refused _ area ResultArea (short q a (sym side-test ∙ is-side) (new-test q a ∙ ap not new) l)

            pub does_list : step_bytes * most_steps ≤ length area → (r : Option ℕ) (area' : List ℕ) → ListsInto s bytes x area r area'
                → DoesList (list_of s side x (length area)) area (Ok r) area'
            unfolding Plain ListsInto SideIs
            does_list l r area' i =
                let (q, a) = accepted in
                subst (λ m. DoesList m area (Ok r) area') (sym (lists q a (sym side-test ∙ is-side) (new-test q a ∙ ap not new) l))
                (i q (side_term q side) (record {
                  accepted = a;
                  scope = (scope_of q a).scope;
                  bytes = stands q a;
                  size = (scope_of q a).size;
                  new = omega arith;
                })
                (λ i. false≢true (sym new ∙ is_free q a ∙ in_among (fn (side_term q side)) x (free→fn x (side_term q side) i))))

-- Twins list alike: the list of a question of edition two is that of its edition-one form.
pub does_alike : (s plain : List ℕ) (q : Question) → question_of s ≡ result q → check_of plain ≡ result q → (side x : ℕ) (area : List ℕ) (r : Result (Option ℕ) Refusal)
    (area' : List ℕ) → DoesList (list_of plain side x (length area)) area r area' → DoesList (list_of s side x (length area)) area r area'
unfolding list_of check_of
does_alike s plain q a e side x area r area' d =
    subst (λ (m : Answer Listing). DoesList m area r area') (bind_to _ (in_own one plain q e) ∙ sym (bind_to _ a)) d
