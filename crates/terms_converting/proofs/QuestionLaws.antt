-- A question written in the other edition, field by field.
use mathlib.Core.Path.{◌≡◌, refl, sym, ap, ap₂, subst, ◌∙◌}
use mathlib.Core.Bool.{Bool, true}
use mathlib.Core.List.{List, [], ◌∷◌, ◌++◌, append_assoc, append-nil}
use Prim.Native.Nat.{ℕ, zero, suc, ◌+◌, ◌-◌, ◌*◌, ◌/◌, ◌%◌, ◌<◌, ◌≤◌}
use native.Mathlib.Nat.{not-suc-le-zero, le_of_suc-le-suc}
use native.Mathlib.Omega.{arith}
use lib.ListN.{length, get_or, take, drop, set, length-append, length-map, length-drop, take-append-drop}
use lib.Seq.{sets, set_comm, take_all, take-append_seam, drop_at}
use Rattle.calculus.specs.Term.{Term, nil, tau, inp, out, bout, mat, sum, par, res, call}
use Rattle.terms.specs.Answer.{result}
use Rattle.terms.specs.Edition.{Edition, one, two, other, count_bytes, encode_in, version_byte}
use Rattle.terms.specs.Encoding.{name_byte, InScope}
use Rattle.terms.specs.Framing.{sized, all_sized}
use Rattle.terms.specs.Limits.{name_count, longest_term}
use Rattle.terms.specs.Question.{Question, every, fits, check_in, body_fields_in, pair_bytes, fields_in, write_in}
use Rattle.terms.proofs.Answers.{result_injective, both_true}
use Rattle.terms.specs.Operations.{area_after}
use Rattle.terms.proofs.EditionOne.{encode-first, encode_shorter}
use Rattle.terms.proofs.WellFormed.{BodiesAllowed, WellFormed, fits-size, terms_fit, accepted_in}
use Rattle.terms_bytes.specs.Counted.{edition_from}
use Rattle.terms_bytes.specs.FieldPlaces.{definitions_of, arities_of, after_field, field_at, field_place}
use Rattle.terms_bytes.proofs.Places.{all_fields, all-sized-append, joined-fields, definitions_of_lem, at_place, field_is}
use Rattle.terms_bytes.proofs.QuestionPlaces.{joined_in, framable_of, arities_in}
use Rattle.terms_bytes.proofs.Stores.{span, sets-join, sets-start}
use Rattle.terms_converting.specs.Questions.{MayConvertField, ConvertsField, term_fields, MayConvert, ConvertsTerms}
use Rattle.terms_bytes.specs.Writing.{Writes}

-- In the other edition a term is at most half as long again: each call has two bytes at least.
half_more : (d : ℕ) (P : Term) → 2 * length (encode_in two d P) ≤ 3 * length (encode_in one d P)
unfolding encode_in count_bytes
half_more d nil = omega arith
half_more d (tau P) = omega (arith, half_more d P)
half_more d (inp a P) = omega (arith, half_more (1 + d) P)
half_more d (out a b P) = omega (arith, half_more d P)
half_more d (bout a P) = omega (arith, half_more (1 + d) P)
half_more d (mat a b P) = omega (arith, half_more d P)
half_more d (sum P Q) =
    omega (arith, half_more d P, half_more d Q, length-append (encode_in two d P) (encode_in two d Q), length-append (encode_in one d P) (encode_in one d Q))
half_more d (par P Q) =
    omega (arith, half_more d P, half_more d Q, length-append (encode_in two d P) (encode_in two d Q), length-append (encode_in one d P) (encode_in one d Q))
half_more d (res P) = omega (arith, half_more (1 + d) P)
half_more d (call k ns) = omega (arith, length-map ns (name_byte d))

pub other_length : (e : Edition) (d : ℕ) (P : Term) → 2 * length (encode_in (other e) d P) ≤ 3 * length (encode_in e d P)
other_length one d P = half_more d P
other_length two d P = omega (arith, encode_shorter two d P, ap length (encode-first d P))

-- The bytes of fields, as far as they are written.
taken_next : (xs : List (List ℕ)) (k : ℕ) → k < length xs → all_sized (take (suc k) xs) ≡ all_sized (take k xs) ++ sized (get_or xs k [])
unfolding all_sized
taken_next [] k h = absurd (not-suc-le-zero h)
taken_next (x ∷ xs) zero h = append-nil (sized x)
taken_next (x ∷ xs) (suc k) h =
    ap (λ (l : List ℕ). sized x ++ l) (taken_next xs k (le_of_suc-le-suc h)) ∙ sym (append_assoc (sized x) (all_sized (take k xs)) (sized (get_or xs k [])))

taken_within : (xs : List (List ℕ)) (k : ℕ) → length (all_sized (take k xs)) ≤ length (all_sized xs)
taken_within xs k =
    let a = all-sized-append (take k xs) (drop k xs) in
    let t = ap (λ (l : List (List ℕ)). length (all_sized l)) (take-append-drop k xs) in
    omega (arith, ap length a, t, length-append (all_sized (take k xs)) (all_sized (drop k xs)))

-- Term k in both editions.
pub record TermAt (e : Edition) (arities : List ℕ) (k : ℕ) (xs ys : List (List ℕ)) : Type 0 where
  pub free : ℕ
  pub depth : ℕ
  pub term : Term
  pub scope : InScope free arities depth term
  pub from : get_or xs k [] ≡ encode_in e depth term
  pub to : get_or ys k [] ≡ encode_in (other e) depth term
  pub size : length (encode_in e depth term) ≤ longest_term

term_at : (e : Edition) (arities sizes : List ℕ) (Ps : List Term) (P Q : Term) → BodiesAllowed arities sizes Ps → every fits (body_fields_in e sizes Ps) ≡ true
    → InScope name_count arities 0 P → length (encode_in e 0 P) ≤ longest_term → InScope name_count arities 0 Q → length (encode_in e 0 Q) ≤ longest_term
    → (rest rest' : List (List ℕ)) (k : ℕ) → k < length sizes + 2
    → TermAt e arities k (body_fields_in e sizes Ps ++ (encode_in e 0 P ∷ encode_in e 0 Q ∷ rest))
    (body_fields_in (other e) sizes Ps ++ (encode_in (other e) 0 P ∷ encode_in (other e) 0 Q ∷ rest'))
unfolding BodiesAllowed body_fields_in every
term_at e arities (a ∷ sizes) (B ∷ Ps) P Q w f p l r m rest rest' zero h =
    let b = both_true (fits (encode_in e a B)) (every fits (body_fields_in e sizes Ps)) f in
    record { free = 0; depth = a; term = B; scope = w.0.scope; from = refl; to = refl; size = (fits-size (encode_in e a B) b.0).1 }
term_at e arities (a ∷ sizes) (B ∷ Ps) P Q w f p l r m rest rest' (suc k) h =
    let b = both_true (fits (encode_in e a B)) (every fits (body_fields_in e sizes Ps)) f in
    let t = term_at e arities sizes Ps P Q w.1 b.1 p l r m rest rest' k (omega arith) in
    record { free = t.free; depth = t.depth; term = t.term; scope = t.scope; from = t.from; to = t.to; size = t.size }
term_at e arities [] (B ∷ Ps) P Q w f p l r m rest rest' k h = elim w [ ]
term_at e arities (a ∷ sizes) [] P Q w f p l r m rest rest' k h = elim w [ ]
term_at e arities [] [] P Q w f p l r m rest rest' zero h =
    record { free = name_count; depth = 0; term = P; scope = p; from = refl; to = refl; size = l }
term_at e arities [] [] P Q w f p l r m rest rest' (suc zero) h =
    record { free = name_count; depth = 0; term = Q; scope = r; from = refl; to = refl; size = m }
term_at e arities [] [] P Q w f p l r m rest rest' (suc (suc k)) h = absurd (omega arith)

pub count_fields : (e : Edition) (arities sizes : List ℕ) (Ps : List Term) → BodiesAllowed arities sizes Ps → length (body_fields_in e sizes Ps) ≡ length sizes
unfolding BodiesAllowed body_fields_in
count_fields e arities (a ∷ sizes) (P ∷ Ps) h = ap suc (count_fields e arities sizes Ps h.1)
count_fields e arities [] (P ∷ Ps) h = elim h [ ]
count_fields e arities (a ∷ sizes) [] h = elim h [ ]
count_fields e arities [] [] h = refl

pub count_terms : (e : Edition) (q : Question) → WellFormed q → length (term_fields e q) ≡ length q.arities + 2
unfolding term_fields
count_terms e q w =
    omega (
      arith,
      length-append (body_fields_in e q.arities q.bodies) (encode_in e 0 q.first ∷ encode_in e 0 q.second ∷ []),
      count_fields e q.arities q.arities q.bodies w.bodies,
    )

-- The whole question: before its terms, these, and its apart list.
pub fields_split : (e : Edition) (q : Question) → all_fields (fields_in e q) ≡ term_fields e q ++ (pair_bytes q.apart ∷ [])
unfolding all_fields fields_in term_fields
fields_split e q =
    sym (append_assoc (body_fields_in e q.arities q.bodies) (encode_in e 0 q.first ∷ encode_in e 0 q.second ∷ []) (pair_bytes q.apart ∷ []))

pub written_split : (e : Edition) (q : Question)
    → write_in e q ≡ version_byte e ∷ length q.arities ∷ (q.arities ++ (all_sized (term_fields e q) ++ sized (pair_bytes q.apart)))
unfolding write_in fields_in all_sized
written_split e q =
    joined-fields e (fields_in e q)
    ∙ ap (λ (l : List ℕ). version_byte e ∷ length q.arities ∷ (q.arities ++ l))
    (ap all_sized (fields_split e q) ∙ all-sized-append (term_fields e q) (pair_bytes q.apart ∷ [])
    ∙ ap (λ (l : List ℕ). all_sized (term_fields e q) ++ l) (append-nil (sized (pair_bytes q.apart))))

pub written-size : (e : Edition) (q : Question)
    → length (write_in e q) ≡ 2 + length q.arities + (length (all_sized (term_fields e q)) + (2 + length (pair_bytes q.apart)))
unfolding sized
written-size e q =
    omega (
      arith,
      ap length (written_split e q),
      length-append q.arities (all_sized (term_fields e q) ++ sized (pair_bytes q.apart)),
      length-append (all_sized (term_fields e q)) (sized (pair_bytes q.apart)),
    )

-- A store before a run.
sets-set : (l : List ℕ) (p : ℕ) (xs : List ℕ) (i y : ℕ) → i < p → set (sets l p xs) i y ≡ sets (set l i y) p xs
sets-set l p [] i y h = refl
sets-set l p (x ∷ xs) i y h =
    sets-set (set l p x) (suc p) xs i y (omega arith)
    ∙ ap (λ (m : List ℕ). sets m (suc p) xs) (set_comm l p i x y (λ e. absurd (omega arith)))

-- A field: the term is written first, then its length before it.
pub field_stored : (l bs : List ℕ) (put n : ℕ) (l₁ l₂ l₃ : List ℕ) → l₁ ≡ sets l (put + 2) bs → n ≡ length bs → l₂ ≡ set l₁ put (n / 256)
    → l₃ ≡ set l₂ (put + 1) (n % 256) → l₃ ≡ sets l put (sized bs)
unfolding sized
field_stored l bs put n l₁ l₂ l₃ e₁ m e₂ e₃ =
    let p : put + 1 ≡ suc put = omega arith in
    let t : put + 2 ≡ suc (suc put) = omega arith in
    let x : l₂ ≡ sets (set l put (n / 256)) (put + 2) bs =
    e₂ ∙ ap (λ (r : List ℕ). set r put (n / 256)) e₁ ∙ sets-set l (put + 2) bs put (n / 256) (omega arith) in
    e₃ ∙ ap (λ (r : List ℕ). set r (put + 1) (n % 256)) x
    ∙ sets-set (set l put (n / 256)) (put + 2) bs (put + 1) (n % 256) (omega arith)
    ∙ ap₂ (λ (i j : ℕ). sets (set (set l put (n / 256)) i (n % 256)) j bs) p t
    ∙ ap (λ (k : ℕ). sets (set (set l put (k / 256)) (suc put) (k % 256)) (suc (suc put)) bs) m

-- The loop over the fields.
module _ (question : List ℕ) (counted : Bool) (out₀ : List ℕ) where
  abbrev e : Edition
  e = edition_from counted

  abbrev e' : Edition
  e' = other (edition_from counted)

  pub record CopiedTo (q : Question) (k at put : ℕ) (area : List ℕ) : Type 0 where
    pub place : at ≡ field_place question k
    pub target : put ≡ field_place question 0 + length (all_sized (take k (term_fields (other (edition_from counted)) q)))
    pub stored : area ≡ sets out₀ (field_place question 0) (all_sized (take k (term_fields (other (edition_from counted)) q)))

  unfoldable pub Copying : ℕ → ℕ → ℕ → List ℕ → Type 0
  Copying k at put area = (q : Question) → check_in (edition_from counted) question ≡ result q → CopiedTo q k at put area

  pub copying_start : (at : ℕ) → at ≡ field_place question 0 → Copying 0 at at out₀
  unfolding Copying all_sized
  copying_start at h q a = record { place = h; target = omega arith; stored = refl }

  module _ (q : Question) (a : check_in (edition_from counted) question ≡ result q) where
    well : WellFormed q
    well = (accepted_in e question q a).0

    -- the first body begins behind the arities
    pub start_is : field_place question 0 ≡ 2 + length q.arities
    unfolding field_place fields_in
    start_is =
        subst (λ (s : List ℕ). 2 + definitions_of s ≡ 2 + length q.arities) (joined_in e question q a)
        (ap (λ (n : ℕ). 2 + n) (definitions_of_lem e (fields_in e q) (framable_of e question q a)))

    pub count_is : definitions_of question ≡ length q.arities
    unfolding fields_in
    count_is =
        subst (λ (s : List ℕ). definitions_of s ≡ length q.arities) (joined_in e question q a)
        (definitions_of_lem e (fields_in e q) (framable_of e question q a))

    at_field : (k : ℕ) → k < length q.arities + 2 → TermAt e q.arities k (all_fields (fields_in e q)) (term_fields e' q)
    unfolding all_fields fields_in term_fields
    at_field k h =
        let t = terms_fit e q (accepted_in e question q a).1 in
        term_at e q.arities q.arities q.bodies q.first q.second well.bodies t.bodies
        well.first.scope (fits-size (encode_in e 0 q.first) t.first).1 well.second.scope (fits-size (encode_in e 0 q.second) t.second).1
        (pair_bytes q.apart ∷ []) [] k h

    field-bytes : (k : ℕ) → k < length q.arities + 2 → field_at question (field_place question k) ≡ get_or (all_fields (fields_in e q)) k []
    field-bytes k h =
        let n = ap length (fields_split e q) in
        let m = length-append (term_fields e q) (pair_bytes q.apart ∷ []) in
        let c = count_terms e q well in
        subst (λ (s : List ℕ). field_at s (field_place s k) ≡ get_or (all_fields (fields_in e q)) k []) (joined_in e question q a)
        (field_is e (fields_in e q) (framable_of e question q a) k (omega arith))

    module _ (room : length (write_in (other (edition_from counted)) q) ≤ length out₀) (k at put : ℕ) (area : List ℕ) (below : k < length q.arities + 2)
        (same : length area ≡ length out₀) (C : CopiedTo q k at put area) where
      T : TermAt e q.arities k (all_fields (fields_in e q)) (term_fields e' q)
      T = at_field k below

      next_is : all_sized (take (suc k) (term_fields e' q)) ≡ all_sized (take k (term_fields e' q)) ++ sized (encode_in e' T.depth T.term)
      next_is =
          let c = count_terms e' q well in
          taken_next (term_fields e' q) k (omega arith) ∙ ap (λ (l : List ℕ). all_sized (take k (term_fields e' q)) ++ sized l) T.to

      next_length : length (all_sized (take (suc k) (term_fields e' q)))
          ≡ length (all_sized (take k (term_fields e' q))) + (2 + length (encode_in e' T.depth T.term))
      unfolding sized
      next_length =
          omega (
            arith,
            ap length next_is,
            length-append (all_sized (take k (term_fields e' q))) (sized (encode_in e' T.depth T.term)),
          )

      bytes-at : field_at question at ≡ encode_in e T.depth T.term
      bytes-at = ap (field_at question) C.place ∙ field-bytes k below ∙ T.from

      fits-behind : put + (2 + length (encode_in e' T.depth T.term)) ≤ length area
      fits-behind =
          omega (
            arith,
            C.target,
            start_is,
            next_length,
            taken_within (term_fields e' q) (suc k),
            written-size e' q,
          )

      pub may_convert_field : (list : List ℕ) → list ≡ arities_of question → MayConvertField question at list counted area put
      may_convert_field list h = record {
        free = T.free;
        depth = T.depth;
        term = T.term;
        scope = subst (λ (l : List ℕ). InScope T.free l T.depth T.term) (sym (h ∙ arities_in e question q a)) T.scope;
        bytes = bytes-at;
        short = omega (arith, other_length e T.depth T.term, T.size);
        room = fits-behind;
      }

      pub copied_next : (list : List ℕ) → list ≡ arities_of question → (at' r : ℕ) (area' : List ℕ) → ConvertsField question at list counted area put r area'
          → at' ≡ after_field question at → CopiedTo q (k + 1) at' r area'
      unfolding ConvertsField field_place T may_convert_field
      copied_next list h at' r area' F w =
          let M = may_convert_field list h in
          let y = F T.free T.depth T.term M.scope bytes-at fits-behind in
          let s : k + 1 ≡ suc k = omega arith in
          rw s (record {
            place = w ∙ ap (after_field question) C.place;
            target = omega (arith, y.0, C.target, next_length);
            stored =
                y.1
                ∙ ap₂ (λ (l : List ℕ) (n : ℕ). sets l n (sized (encode_in e' T.depth T.term))) C.stored C.target
                ∙ sets-join out₀ (field_place question 0) (field_place question 0 + length (all_sized (take k (term_fields e' q))))
                (all_sized (take k (term_fields e' q))) (sized (encode_in e' T.depth T.term)) refl
                ∙ ap (sets out₀ (field_place question 0)) (sym next_is);
          })

  -- The same for the code, which is told that some question is accepted and has room.
  module _ (may : MayConvert question counted out₀) (k at put : ℕ) (area : List ℕ) (below : k < definitions_of question + 2)
      (same : length area ≡ length out₀) (C : Copying k at put area) (list : List ℕ) (parameters : list ≡ arities_of question) where
    pub copying_field : MayConvertField question at list counted area put
    unfolding Copying
    copying_field =
        let q = may.old in
        let a = may.accepted in
        may_convert_field q a may.room k at put area (omega (arith, count_is q a)) same (C q a) list parameters

    pub copying_again : (at' r : ℕ) (area' : List ℕ) → ConvertsField question at list counted area put r area' → at' ≡ after_field question at
        → Copying (k + 1) at' r area'
    unfolding Copying
    copying_again at' r area' F w q a =
        let o : may.old ≡ q = result_injective (sym may.accepted ∙ a) in
        let room = subst (λ (x : Question). length (write_in (other (edition_from counted)) x) ≤ length out₀) o may.room in
        copied_next q a room k at put area (omega (arith, count_is q a)) same (C q a) list parameters at' r area' F w

  pub copying_done : (k at put : ℕ) (area : List ℕ) → k ≡ definitions_of question + 2 → Copying k at put area → ConvertsTerms question counted out₀ put area
  unfolding Copying ConvertsTerms
  copying_done k at put area h C q a =
      let c = C q a in
      let w = count_terms e' q (well q a) in
      let t : take k (term_fields e' q) ≡ term_fields e' q = take_all k (term_fields e' q) (omega (arith, count_is q a)) in (
        c.target ∙ ap (λ (l : List (List ℕ)). field_place question 0 + length (all_sized l)) t,
        c.stored ∙ ap (λ (l : List (List ℕ)). sets out₀ (field_place question 0) (all_sized l)) t,
      )

length-sized : (bs : List ℕ) → length (sized bs) ≡ 2 + length bs
unfolding sized
length-sized bs = omega arith

-- The whole question around its terms.
module _ (question : List ℕ) (counted : Bool) (out₀ : List ℕ) (q : Question) (a : check_in (edition_from counted) question ≡ result q) where
  abbrev f : Edition
  f = edition_from counted

  abbrev f' : Edition
  f' = other (edition_from counted)

  bytes_split : question ≡ version_byte f ∷ length q.arities ∷ (q.arities ++ (all_sized (term_fields f q) ++ sized (pair_bytes q.apart)))
  unfolding write_in
  bytes_split = sym (joined_in f question q a) ∙ written_split f q

  head_bytes : (bodies : ℕ) → bodies ≡ field_place question 0 → span question 1 (bodies - 1) ≡ length q.arities ∷ q.arities
  head_bytes bodies h =
      let n : bodies - 1 ≡ suc (length q.arities) = omega (arith, start_is question counted out₀ q a) in
      ap (λ (k : ℕ). span question 1 k) n
      ∙ ap (λ (l : List ℕ). take (suc (length q.arities)) (drop 1 l)) bytes_split
      ∙ ap (λ (l : List ℕ). length q.arities ∷ l) (take-append_seam q.arities (all_sized (term_fields f q) ++ sized (pair_bytes q.apart)))

  apart_bytes : (apart : ℕ) → apart ≡ field_place question (definitions_of question + 2) → drop apart question ≡ sized (pair_bytes q.apart)
  unfolding all_sized
  apart_bytes apart h =
      let w = (accepted_in f question q a).0 in
      let c = count_terms f q w in
      let n = ap length (fields_split f q) in
      let m = length-append (term_fields f q) (pair_bytes q.apart ∷ []) in
      let k : definitions_of question + 2 ≡ length q.arities + 2 = ap (λ (i : ℕ). i + 2) (count_is question counted out₀ q a) in
      ap (λ (i : ℕ). drop i question) (h ∙ ap (field_place question) k)
      ∙ subst (λ (s : List ℕ). drop (field_place s (length q.arities + 2)) s ≡ all_sized (drop (length q.arities + 2) (all_fields (fields_in f q))))
      (joined_in f question q a) (at_place f (fields_in f q) (framable_of f question q a) (length q.arities + 2) (omega arith))
      ∙ ap (λ (l : List (List ℕ)). all_sized (drop (length q.arities + 2) l)) (fields_split f q)
      ∙ ap all_sized (drop_at (term_fields f q) (pair_bytes q.apart ∷ []) (length q.arities + 2) c)
      ∙ append-nil (sized (pair_bytes q.apart))

  -- The sizes that the code needs.
  pub record Sizes (apart : ℕ) : Type 0 where
    pub start : field_place question 0 ≡ 2 + length q.arities
    pub head : 2 + length q.arities ≤ length question
    pub tail : apart + (2 + length (pair_bytes q.apart)) ≡ length question
    pub whole : length (write_in (other (edition_from counted)) q)
        ≡ 2 + length q.arities + (length (all_sized (term_fields (other (edition_from counted)) q)) + (2 + length (pair_bytes q.apart)))

  pub sizes : (apart : ℕ) → apart ≡ field_place question (definitions_of question + 2) → Sizes apart
  unfolding sized
  sizes apart h = record {
    start = start_is question counted out₀ q a;
    head =
        omega (
          arith,
          ap length bytes_split,
          length-append q.arities (all_sized (term_fields f q) ++ sized (pair_bytes q.apart)),
        );
    tail = omega (arith, ap length (apart_bytes apart h), length-drop apart question);
    whole = written-size f' q;
  }

  module _ (v bodies apart put r : ℕ) (l₁ l₂ l₃ : List ℕ) where
    -- What is stored is the question in the other edition.
    pub question_stored : length (write_in (other (edition_from counted)) q) ≤ length out₀ → v ≡ version_byte (other (edition_from counted))
        → bodies ≡ field_place question 0 → l₁ ≡ sets (set out₀ 0 v) 1 (span question 1 (bodies - 1))
        → put ≡ field_place question 0 + length (all_sized (term_fields (other (edition_from counted)) q))
        → l₂ ≡ sets l₁ (field_place question 0) (all_sized (term_fields (other (edition_from counted)) q))
        → apart ≡ field_place question (definitions_of question + 2) → l₃ ≡ sets l₂ put (span question apart (length question - apart))
        → r ≡ put + (length question - apart) → Writes (other (edition_from counted)) q out₀ r l₃
    unfolding Writes area_after
    question_stored room isV is_b s₁ isPut s₂ is_a s₃ isR =
        let z = sizes apart is_a in
        let H : List ℕ = v ∷ length q.arities ∷ q.arities in
        let X : List ℕ = all_sized (term_fields f' q) in
        let D : List ℕ = sized (pair_bytes q.apart) in
        let n : length question - apart ≡ length D = omega (arith, ap length (apart_bytes apart is_a), length-drop apart question) in
        let d : span question apart (length question - apart) ≡ D = take_all (length question - apart) (drop apart question)
        (omega (arith, length-drop apart question)) ∙ apart_bytes apart is_a in
        let t₁ : l₁ ≡ sets out₀ 0 H = s₁ ∙ ap (sets (set out₀ 0 v) 1) (head_bytes bodies is_b) in
        let t₂ : l₂ ≡ sets out₀ 0 (H ++ X) =
        s₂ ∙ ap (λ (l : List ℕ). sets l (field_place question 0) X) t₁ ∙ sets-join out₀ 0 (field_place question 0) H X (omega (arith, z.start)) in
        let t₃ : l₃ ≡ sets out₀ 0 ((H ++ X) ++ D) =
        s₃ ∙ ap₂ (λ (l x : List ℕ). sets l put x) t₂ d
        ∙ sets-join out₀ 0 put (H ++ X) D (omega (arith, isPut, z.start, length-append H X)) in
        let w : (H ++ X) ++ D ≡ write_in f' q =
        append_assoc H X D ∙ ap (λ (k : ℕ). k ∷ length q.arities ∷ (q.arities ++ (X ++ D))) isV ∙ sym (written_split f' q) in (
          omega (arith, isR, isPut, n, z.start, z.whole, length-sized (pair_bytes q.apart)),
          t₃ ∙ ap (sets out₀ 0) w ∙ sets-start out₀ (write_in f' q) room,
        )
