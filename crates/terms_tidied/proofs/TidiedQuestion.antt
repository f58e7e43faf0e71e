-- A question written with its bodies tidied, field by field. Assumes nothing.
use mathlib.Core.Path.{◌≡◌, refl, sym, ap, ap₂, subst, ◌∙◌}
use mathlib.Core.List.{List, [], ◌∷◌, ◌++◌, map, append_assoc, append-nil}
use Prim.Native.Nat.{ℕ, suc, ◌+◌, ◌-◌, ◌<◌, ◌≤◌}
use native.Mathlib.Omega.{arith}
use lib.ListN.{length, take, drop, length-append, length-drop, drop_of_length-le}
use lib.Seq.{sets, take_all, take-append_seam, drop-append_seam, drop-cons}
use Rattle.calculus.specs.Term.{Term}
use Rattle.calculus.specs.Tidy.{tidy}
use Rattle.terms.specs.Answer.{result}
use Rattle.terms.specs.Edition.{one, version_byte}
use Rattle.terms.specs.Encoding.{encode, InScope}
use Rattle.terms.specs.Framing.{sized, all_sized, joined}
use Rattle.terms.specs.Limits.{longest_term}
use Rattle.terms.specs.Operations.{area_after}
use Rattle.terms.specs.Question.{Question, check_of, body_fields, pair_bytes, fields_of, write_in, write}
use Rattle.terms.proofs.EditionOne.{write-first}
use Rattle.terms.proofs.TidyShorter.{tidy_shorter}
use Rattle.terms.proofs.WellFormed.{framable}
use Rattle.terms_bytes.specs.FieldPlaces.{definitions_of, arities_of, after_field, field_at, field_place}
use Rattle.terms_bytes.specs.Writing.{Plain, Writes}
use Rattle.terms_bytes.proofs.QuestionPlaces.{before_parts, first_is, accepted_joined, accepted_arities}
use Rattle.terms_bytes.proofs.Stores.{span, sets-join, sets-start}
use Rattle.terms_bytes.proofs.Heights.{height-bytes}
use Rattle.terms_tidying.specs.Tidying.{Tidied, TidiedIs}
use Rattle.terms_tidying.specs.declared.tidy.Ends.{Ends}
use Rattle.terms_tidied.specs.TidiedBodies.{tidied_bodies, BodyAt, HasBody, TidiesBody, MayTidyBodies, tidied_fields, TidiesBodies}
use Rattle.terms_tidied.proofs.QuestionBodies.{NthBody, count_bodies, FieldHas, well, count_is, behind, body, body-field}

-- A body that is tidied two bytes behind `put`.
module _ (question : List ℕ) (at : ℕ) (arities out : List ℕ) (put d : ℕ) (P : Term) (b : BodyAt question at arities out put d P) where
  pub body-tidied : (src : List ℕ) → src ≡ field_at question at → (r : Ends) (out' : List ℕ) → TidiedIs src 0 arities out (put + 2) r out'
      → (r.written ≡ put + 2 + length (encode d (tidy P))) × (out' ≡ sets out (put + 2) (encode d (tidy P)))
  unfolding Tidied
  body-tidied src h r out' t =
      let l = b.size in
      let n = b.room in
      let m = b.parameters in
      let y = t.is 0 d P [] (omega arith) b.scope (h ∙ b.bytes ∙ sym (append-nil (encode d P))) (omega (arith, height-bytes d P)) (omega arith) (omega arith) in
      (y.1, y.2)

  pub body_shorter : length (encode d (tidy P)) ≤ longest_term
  body_shorter = let l = b.size in omega (arith, tidy_shorter d P)

module _ (question out₀ : List ℕ) where
  -- The bodies before k are written.
  pub record WrittenTo (q : Question) (k at put : ℕ) (area : List ℕ) : Type 0 where
    pub wrote : List ℕ
    pub place : at ≡ field_place question k
    pub target : put ≡ field_place question 0 + length wrote
    pub behind : put ≤ at
    pub stored : area ≡ sets out₀ (field_place question 0) wrote
    pub left : tidied_fields q ≡ wrote ++ all_sized (drop k (body_fields q.arities (map tidy q.bodies)))

  unfoldable pub Writing : ℕ → ℕ → ℕ → List ℕ → Type 0
  Writing k at put area = (q : Question) → check_of question ≡ result q → WrittenTo q k at put area

  pub writing_start : (at : ℕ) → at ≡ field_place question 0 → Writing 0 at at out₀
  unfolding Writing tidied_fields
  writing_start at h q a = record { wrote = []; place = h; target = omega arith; behind = omega arith; stored = refl; left = refl }

  module _ (q : Question) (a : check_of question ≡ result q) (room : length question ≤ length out₀) (k at put : ℕ) (area : List ℕ)
      (below : k < length q.arities) (same : length area ≡ length out₀) (W : WrittenTo q k at put area) where
    abbrev ys : List (List ℕ)
    ys = body_fields q.arities (map tidy q.bodies)

    B : NthBody q.arities q.arities q.bodies k (behind question q a)
    B = body question q a k below

    F : FieldHas question at (encode B.depth B.term)
    unfolding B
    F = body-field question q a k below at W.place

    body_at : (list : List ℕ) → list ≡ arities_of question → BodyAt question at list area put B.depth B.term
    body_at list h = record {
      parameters = B.parameters;
      scope = subst (λ (l : List ℕ). InScope 0 l B.depth B.term) (sym (h ∙ accepted_arities question q a)) B.scope;
      bytes = F.bytes;
      size = B.size;
      room = omega (arith, W.behind, F.ends);
    }

    written_next : (list : List ℕ) → list ≡ arities_of question → (at' r : ℕ) (area' : List ℕ) → TidiesBody question at list area put r area'
        → at' ≡ after_field question at → WrittenTo q (k + 1) at' r area'
    unfolding TidiesBody field_place all_sized sized
    written_next list h at' r area' T w =
        let y = T B.depth B.term (body_at list h) in
        let X : List ℕ = encode B.depth (tidy B.term) in
        let s : k + 1 ≡ suc k = omega arith in
        let n : length ys ≡ length q.arities = (count_bodies q.arities q.arities q.bodies (well question q a).bodies).2 in
        rw s (record {
          wrote = W.wrote ++ sized X;
          place = w ∙ ap (after_field question) W.place;
          target = omega (arith, y.0, W.target, length-append W.wrote (sized X));
          behind = omega (arith, y.0, W.behind, tidy_shorter B.depth B.term, w, F.after);
          stored =
              y.1 ∙ ap₂ (λ (l : List ℕ) (m : ℕ). sets l m (sized X)) W.stored W.target
              ∙ sets-join out₀ (field_place question 0) (field_place question 0 + length W.wrote) W.wrote (sized X) refl;
          left =
              W.left ∙ ap (λ (l : List (List ℕ)). W.wrote ++ all_sized l) (drop-cons ys k [] (omega arith))
              ∙ ap (λ (l : List ℕ). W.wrote ++ (sized l ++ all_sized (drop (suc k) ys))) B.tidied
              ∙ sym (append_assoc W.wrote (sized X) (all_sized (drop (suc k) ys)));
        })

  -- The same for the code, which is told that some question is accepted.
  module _ (may : MayTidyBodies question out₀) (k at put : ℕ) (area : List ℕ) (below : k < definitions_of question) (same : length area ≡ length out₀)
      (W : Writing k at put area) (list : List ℕ) (parameters : list ≡ arities_of question) where
    pub writing_body : HasBody question at list area put
    unfolding Writing Plain
    writing_body =
        let (q, a) = may.accepted in
        record { depth = _; term = _; body = body_at q a may.room k at put area (omega (arith, count_is question q a)) same (W q a) list parameters }

    pub writing_again : (at' r : ℕ) (area' : List ℕ) → TidiesBody question at list area put r area' → at' ≡ after_field question at → Writing (k + 1) at' r area'
    unfolding Writing
    writing_again at' r area' T w q a =
        written_next q a may.room k at put area (omega (arith, count_is question q a)) same (W q a) list parameters at' r area' T w

  pub writing_done : (k at put : ℕ) (area : List ℕ) → k ≡ definitions_of question → Writing k at put area
      → TidiesBodies question out₀ (record { read = at; written = put }) area
  unfolding Writing TidiesBodies all_sized
  writing_done k at put area h W q a =
      let w = W q a in
      let n = (count_bodies q.arities q.arities q.bodies (well question q a).bodies).2 in
      let e : drop k (body_fields q.arities (map tidy q.bodies)) ≡ [] =
      drop_of_length-le (body_fields q.arities (map tidy q.bodies)) {i = k} (omega (arith, count_is question q a)) in
      let t : tidied_fields q ≡ w.wrote = w.left ∙ ap (λ (l : List (List ℕ)). w.wrote ++ all_sized l) e ∙ append-nil w.wrote in (
        w.place ∙ ap (field_place question) h,
        w.target ∙ ap (λ (l : List ℕ). field_place question 0 + length l) (sym t),
        w.behind,
        w.stored ∙ ap (sets out₀ (field_place question 0)) (sym t),
      )

-- The whole question: what stands before the bodies, the bodies, and what stands behind them.
module _ (question : List ℕ) (q : Question) (a : check_of question ≡ result q) where
  head : List ℕ
  head = 1 ∷ length q.arities ∷ q.arities

  tail : List ℕ
  tail = sized (encode 0 q.first) ++ (sized (encode 0 q.second) ++ sized (pair_bytes q.apart))

  fields : List ℕ
  fields = all_sized (body_fields q.arities q.bodies)

  question_is : question ≡ head ++ (fields ++ tail)
  unfolding joined fields_of version_byte head tail fields
  question_is = sym (accepted_joined question q a)

  written_is : write_in one (tidied_bodies q) ≡ (head ++ tidied_fields q) ++ tail
  unfolding write joined fields_of version_byte head tail tidied_bodies tidied_fields
  written_is = write-first (tidied_bodies q) ∙ sym (append_assoc head (tidied_fields q) tail)

  starts : field_place question 0 ≡ length head
  unfolding field_place head
  starts = omega (arith, count_is question q a)

  parts_at : field_place question (definitions_of question) ≡ length (head ++ fields)
  unfolding fields_of before_parts version_byte head fields
  parts_at =
      subst (λ (s : List ℕ). field_place s (definitions_of s) ≡ length (head ++ fields)) (accepted_joined question q a)
      (first_is one (fields_of q) (framable q (well question q a)))

  head_within : field_place question 0 ≤ length question
  head_within = omega (arith, starts, ap length question_is, length-append head (fields ++ tail))

  bodies_within : field_place question (definitions_of question) ≤ length question
  bodies_within =
      omega (
        arith,
        parts_at,
        ap length question_is,
        length-append head (fields ++ tail),
        length-append fields tail,
        length-append head fields,
      )

  head_bytes : span question 0 (field_place question 0) ≡ head
  head_bytes =
      ap (λ (n : ℕ). take n question) starts ∙ ap (take (length head)) question_is ∙ take-append_seam head (fields ++ tail)

  tail_bytes : (read : ℕ) → read ≡ field_place question (definitions_of question) → span question read (length question - read) ≡ tail
  tail_bytes read h =
      take_all (length question - read) (drop read question) (omega (arith, length-drop read question))
      ∙ ap (λ (n : ℕ). drop n question) (h ∙ parts_at)
      ∙ ap (drop (length (head ++ fields))) (question_is ∙ sym (append_assoc head fields tail))
      ∙ drop-append_seam (head ++ fields) tail

  pub question_stored : (out₀ l₁ l₂ l₃ : List ℕ) (bodies r : ℕ) (e : Ends) → length question ≤ length out₀ → bodies ≡ field_place question 0
      → l₁ ≡ sets out₀ 0 (span question 0 bodies) → TidiesBodies question l₁ e l₂
      → l₃ ≡ sets l₂ e.written (span question e.read (length question - e.read)) → r ≡ e.written + (length question - e.read)
      → Writes one (tidied_bodies q) out₀ r l₃
  unfolding Writes area_after TidiesBodies
  question_stored out₀ l₁ l₂ l₃ bodies r e room is_b s₁ T s₃ isR =
      let (isRead, is_written, behind, s₂) = T q a in
      let X : List ℕ = tidied_fields q in
      let b = tail_bytes e.read isRead in
      let n : length tail ≡ length question - e.read =
      omega (
        arith,
        isRead,
        parts_at,
        ap length question_is,
        length-append head (fields ++ tail),
        length-append fields tail,
        length-append head fields,
      ) in
      let t₁ : l₁ ≡ sets out₀ 0 head = s₁ ∙ ap (λ (k : ℕ). sets out₀ 0 (span question 0 k)) is_b ∙ ap (sets out₀ 0) head_bytes in
      let t₂ : l₂ ≡ sets out₀ 0 (head ++ X) =
      s₂ ∙ ap (λ (l : List ℕ). sets l (field_place question 0) X) t₁ ∙ sets-join out₀ 0 (field_place question 0) head X (omega (arith, starts)) in
      let t₃ : l₃ ≡ sets out₀ 0 ((head ++ X) ++ tail) =
      s₃ ∙ ap₂ (λ (l x : List ℕ). sets l e.written x) t₂ b
      ∙ sets-join out₀ 0 e.written (head ++ X) tail (omega (arith, is_written, starts, length-append head X)) in
      let w : length (write_in one (tidied_bodies q)) ≡ e.written + length tail =
      omega (arith, ap length written_is, length-append (head ++ X) tail, length-append head X, is_written, starts) in (
        omega (arith, isR, w, n),
        t₃ ∙ ap (sets out₀ 0) (sym written_is)
            ∙ sets-start out₀ (write_in one (tidied_bodies q)) (omega (arith, w, n, behind, isRead, bodies_within)),
      )

-- What the code needs to know of the places.
module _ (question out : List ℕ) (may : MayTidyBodies question out) where
  pub starts_within : field_place question 0 ≤ length question
  unfolding Plain
  starts_within = let (q, a) = may.accepted in head_within question q a

  pub rest_within : (area area' : List ℕ) (e : Ends) → TidiesBodies question area e area' → (e.read ≤ length question) × (e.written ≤ e.read)
  unfolding Plain TidiesBodies
  rest_within area area' e T =
      let (q, a) = may.accepted in
      let t = T q a in
      (omega (arith, t.0, bodies_within question q a), t.2)
