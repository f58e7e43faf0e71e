-- The questions that checks 3 to 12 accept, said of their terms: in an edition exactly the bytes of the well-formed questions that fit it.
use mathlib.Core.Path.{◌≡◌, refl, sym, ap, ap₂, subst, ◌∙◌}
use mathlib.Core.List.{List, [], ◌∷◌, ◌++◌, append-nil}
use mathlib.Core.Bool.{true, ◌&&◌, not}
use Prim.Native.Nat.{ℕ, suc, ◌+◌, ◌*◌, ◌≤◌, ◌<◌}
use native.Mathlib.Omega.{arith}
use lib.ListN.{length, length-append}
use lib.Dec.{ltb, leb, eqb}
use borrow.Author.Tests.{leb-true, le-leb, ltb-true, lt-ltb, eqb-true, eqb-false, eq-eqb, ne_eqb, not-true}
use Rattle.calculus.specs.Cond.{Pairs}
use Rattle.calculus.specs.Term.{Term}
use Rattle.terms.specs.Limits.{name_count, longest_question, most_definitions, greatest_arity, longest_term, longest_apart_of, longest_apart}
use Rattle.terms.specs.Answer.{Answer, result, ◌>>=◌}
use Rattle.terms.specs.Encoding.{encode}
use Rattle.terms.specs.Edition.{Edition, one, version_byte, encode_in}
use Rattle.terms.specs.Reading.{numbered, read_whole}
use Rattle.terms.specs.Grammar.{sequential, parallel_outermost, guarded}
use Rattle.terms.specs.Framing.{Fields, framed, sized, all_sized, joined}
use Rattle.terms.specs.Question.{Question, every, version, fits, read_bodies, read_part, read_part_with, different_names, different_names_with}
use Rattle.terms.specs.Question.{read_pairs, read_pairs_with, read_apart, read_apart_with, check_terms_with, check_fields, check_fields_with, check_in, check_with}
use Rattle.terms.specs.Question.{check_of, body_fields_in, pair_bytes, fields_in, write_in, fits_in, fields_of, write}
use Rattle.terms.proofs.Answers.{result_injective, refused_not_result, bind-result, bind_to, bind_id, bind_assoc, need-result, need-passed, both_true, true_both, all-every, every-all}
use Rattle.terms.proofs.EditionOne.{encode-first, encode_shorter, fields-first, write-first}
use Rattle.terms.proofs.ReadEncoded.{encode_some_in, read_whole_lem}
use Rattle.terms.proofs.ScopeLaws.{scope_to, scope_from}
use Rattle.terms.specs.WellFormed.{Every}
pub use Rattle.terms.specs.WellFormed.{BodyAllowed, PartAllowedWith, PartAllowed, PairAllowedWith, PairAllowed, WellFormedWith, WellFormed}
unfoldable pub use Rattle.terms.specs.WellFormed.{BodiesAllowed}
use Rattle.terms.proofs.EncodeRead.{whole_read}
use Rattle.terms.proofs.FramingLaws.{behind_version, framed-out, framed_in, framed_counts, Framable}

-- An accepted body or part.
pub fits-size : (bs : List ℕ) → fits bs ≡ true → (1 ≤ length bs) × (length bs ≤ longest_term)
unfolding fits
fits-size bs e =
    let b = both_true (leb 1 (length bs)) (leb (length bs) longest_term) e in
    (leb-true 1 (length bs) b.0, leb-true (length bs) longest_term b.1)

module _ (e : Edition) where
  pub part_allowed_with : (names : ℕ) (arities bs : List ℕ) (P : Term) → fits bs ≡ true → read_part_with names e (numbered arities) bs ≡ result P
      → parallel_outermost P ≡ true → (bs ≡ encode_in e 0 P) × PartAllowedWith names arities P
  unfolding read_part_with
  part_allowed_with names arities bs P f h g =
      let r = whole_read names e (numbered arities) 0 bs P h in
      let s : length (encode_in e 0 P) ≤ longest_term = rw (← r.0) (fits-size bs f).1 in
      (r.0, record { scope = scope_from arities names 0 P r.1; size = omega (arith, encode_shorter e 0 P); parallels_outermost = g })

  pub part_allowed : (arities bs : List ℕ) (P : Term) → fits bs ≡ true → read_part e (numbered arities) bs ≡ result P → parallel_outermost P ≡ true →
      (bs ≡ encode_in e 0 P) × PartAllowed arities P
  part_allowed = part_allowed_with name_count

  -- The bodies, given that checks 6, 10 and 11 pass over all of them.
  body-allowed : (arities bs : List ℕ) (a : ℕ) (P : Term) → fits bs ≡ true → read_whole e (numbered arities) 0 a bs ≡ result P → sequential P ≡ true →
      guarded P ≡ true → (bs ≡ encode_in e a P) × BodyAllowed arities a P
  body-allowed arities bs a P f h g k =
      let r = whole_read 0 e (numbered arities) a bs P h in
      let s : length (encode_in e a P) ≤ longest_term = rw (← r.0) (fits-size bs f).1 in
      (r.0, record { scope = scope_from arities 0 a P r.1; size = omega (arith, encode_shorter e a P); no_parallel = g; calls_guarded = k })

  bodies_allowed : (arities sizes : List ℕ) (bs : List (List ℕ)) (Ps : List Term) → length bs ≡ length sizes → every fits bs ≡ true →
      read_bodies e (numbered arities) sizes bs ≡ result Ps → every sequential Ps ≡ true → every guarded Ps ≡ true →
      (bs ≡ body_fields_in e sizes Ps) × BodiesAllowed arities sizes Ps
  unfolding read_bodies every body_fields_in BodiesAllowed
  bodies_allowed arities (a ∷ sizes) (b ∷ bs) Ps l f =
      λ h.
      let t = bind-result (read_whole e (numbered arities) 0 a b) _ Ps h in
      let u = bind-result (read_bodies e (numbered arities) sizes bs) _ Ps t.2 in
      let q : ◌≡◌ {A = List Term} (t.0 ∷ u.0) Ps = result_injective u.2 in
      let f' = both_true (fits b) (every fits bs) f in
      subst
      (λ (Qs : List Term). every sequential Qs ≡ true → every guarded Qs ≡ true → (b ∷ bs ≡ body_fields_in e (a ∷ sizes) Qs) × BodiesAllowed arities (a ∷ sizes) Qs)
      q
      (λ g k.
      let g' = both_true (sequential t.0) (every sequential u.0) g in
      let k' = both_true (guarded t.0) (every guarded u.0) k in
      let P = body-allowed arities b a t.0 f'.0 t.1 g'.0 k'.0 in
      let Qs = bodies_allowed arities sizes bs u.0 (omega arith) f'.1 u.1 g'.1 k'.1 in
      (ap₂ (λ x y. x ∷ y) P.0 Qs.0, (P.1, Qs.1)))
  bodies_allowed arities (a ∷ sizes) [] Ps l f = absurd (omega arith)
  bodies_allowed arities [] [] Ps l f =
      λ h g k.
      let q : ◌≡◌ {A = List Term} [] Ps = result_injective h in
      rw (← q) (refl, tt)
  bodies_allowed arities [] (b ∷ bs) Ps l f = absurd (omega arith)

-- An accepted apart list.
pairs-allowed : (names : ℕ) (bs : List ℕ) (D : Pairs) → read_pairs_with names bs ≡ result D → (bs ≡ pair_bytes D) × Every (PairAllowedWith names) D
unfolding read_pairs_with different_names_with pair_bytes Every
pairs-allowed names [] D e = let q : ◌≡◌ {A = Pairs} [] D = result_injective e in rw (← q) (refl, tt)
pairs-allowed names (a ∷ []) D e = refused_not_result e
pairs-allowed names (a ∷ b ∷ bs) D e =
    let t = need-result 12 (ltb a names && ltb b names && not (eqb a b)) (read_pairs_with names bs >>= λ ps. result ((a, b) ∷ ps)) D e in
    let u = bind-result (read_pairs_with names bs) _ D t.1 in
    let q : ◌≡◌ {A = Pairs} ((a, b) ∷ u.0) D = result_injective u.2 in
    let r = pairs-allowed names bs u.0 u.1 in
    let x = both_true (ltb a names && ltb b names) (not (eqb a b)) t.0 in
    let y = both_true (ltb a names) (ltb b names) x.0 in
    let ok : PairAllowedWith names (a, b) =
    record { left = ltb-true a names y.0; right = ltb-true b names y.1; differ = eqb-false a b (not-true (eqb a b) x.1) } in
    rw (← q) (ap (λ l. a ∷ b ∷ l) r.0, (ok, r.1))

names-differ : (p : ℕ × ℕ) → PairAllowed p → different_names p.0 p.1 ≡ true
unfolding different_names_with
names-differ p a = rw (lt-ltb p.0 name_count a.left, lt-ltb p.1 name_count a.right, ne_eqb p.0 p.1 a.differ)

-- Pairs that are allowed are read, whatever follows them.
pub pairs_read_before : (D : Pairs) (bs : List ℕ) → Every PairAllowed D → read_pairs (pair_bytes D ++ bs) ≡ (read_pairs bs >>= λ E. result (D ++ E))
unfolding read_pairs_with pair_bytes Every ◌>>=◌
pairs_read_before [] bs h = sym (bind_id (read_pairs bs))
pairs_read_before (p ∷ D) bs h =
    need-passed 12 (different_names p.0 p.1) _ (names-differ p h.0)
    ∙ rw (pairs_read_before D bs h.1) (bind_assoc (read_pairs bs) (λ E. result (D ++ E)) (λ E. result (p ∷ E)))

pub pairs_read : (D : Pairs) → Every PairAllowed D → read_pairs (pair_bytes D) ≡ result D
unfolding read_pairs_with ◌>>=◌
pairs_read D h = rw (append-nil (pair_bytes D), append-nil D) at (pairs_read_before D [] h)

-- What was accepted: the question is well-formed, it fits the edition, and its fields are those written.
module _ (names : ℕ) (e : Edition) where
  module _ (f : Fields) (bodies : List Term) (first second : Term) (apart : Pairs) where
    abbrev made_of : Question
    made_of = record { arities = f.arities; bodies = bodies; first = first; second = second; apart = apart }

    made-allowed : length f.bodies ≡ length f.arities →
        (leb (length f.arities) most_definitions && every (λ a. leb a greatest_arity) f.arities) ≡ true →
        (every fits f.bodies && fits f.first && fits f.second) ≡ true →
        read_bodies e (numbered f.arities) f.arities f.bodies ≡ result bodies →
        read_part_with names e (numbered f.arities) f.first ≡ result first →
        read_part_with names e (numbered f.arities) f.second ≡ result second →
        (every sequential bodies && parallel_outermost first && parallel_outermost second) ≡ true →
        every guarded bodies ≡ true →
        read_apart_with names f.apart ≡ result apart →
        WellFormedWith names made_of × (f ≡ fields_in e made_of)
    unfolding fields_in read_apart_with
    made-allowed l c₅ c₆ c₇ c₈ c₉ c₁₀ c₁₁ c₁₂ =
        let s = both_true (leb (length f.arities) most_definitions) (every (λ a. leb a greatest_arity) f.arities) c₅ in
        let x = both_true (every fits f.bodies && fits f.first) (fits f.second) c₆ in
        let y = both_true (every fits f.bodies) (fits f.first) x.0 in
        let u = both_true (every sequential bodies && parallel_outermost first) (parallel_outermost second) c₁₀ in
        let v = both_true (every sequential bodies) (parallel_outermost first) u.0 in
        let B = bodies_allowed e f.arities f.arities f.bodies bodies l y.0 c₇ v.0 c₁₁ in
        let P = part_allowed_with e names f.arities f.first first y.1 c₈ v.1 in
        let Q = part_allowed_with e names f.arities f.second second x.1 c₉ u.1 in
        let a = need-result 12 (leb (length f.apart) (longest_apart_of names)) (read_pairs_with names f.apart) apart c₁₂ in
        let D = pairs-allowed names f.apart apart a.1 in (
          record {
            definitions = leb-true (length f.arities) most_definitions s.0;
            parameters = all-every (λ a. leb a greatest_arity) (λ a. a ≤ greatest_arity) (λ a. leb-true a greatest_arity) f.arities s.1;
            bodies = B.1;
            first = P.1;
            second = Q.1;
            apart = D.1;
            apart_size = rw (← D.0) (leb-true (length f.apart) (longest_apart_of names) a.0);
          },
          λ i. record { arities = f.arities; bodies = B.0 i; first = P.0 i; second = Q.0 i; apart = D.0 i },
        )

  fields-allowed : (f : Fields) (q : Question) → length f.bodies ≡ length f.arities → check_fields_with names e f ≡ result q →
      WellFormedWith names q × (f ≡ fields_in e q) × (fits_in e q ≡ true)
  unfolding check_fields_with check_terms_with fits_in fields_in
  fields-allowed f q l h =
      let c₅ = need-result 5 (leb (length f.arities) most_definitions && every (λ a. leb a greatest_arity) f.arities) _ q h in
      let c₆ = need-result 6 (every fits f.bodies && fits f.first && fits f.second) _ q c₅.1 in
      let B = bind-result (read_bodies e (numbered f.arities) f.arities f.bodies) _ q c₆.1 in
      let P = bind-result (read_part_with names e (numbered f.arities) f.first) _ q B.2 in
      let Q = bind-result (read_part_with names e (numbered f.arities) f.second) _ q P.2 in
      let c₁₀ = need-result 10 (every sequential B.0 && parallel_outermost P.0 && parallel_outermost Q.0) _ q Q.2 in
      let c₁₁ = need-result 11 (every guarded B.0) _ q c₁₀.1 in
      let D = bind-result (read_apart_with names f.apart) _ q c₁₁.1 in
      let r = result_injective {a = made_of f B.0 P.0 Q.0 D.0} D.2 in
      let m = subst
      (λ (x : Question). WellFormedWith names x × (f ≡ fields_in e x))
      r
      (made-allowed f B.0 P.0 Q.0 D.0 l c₅.0 c₆.0 B.1 P.1 Q.1 c₁₀.0 c₁₁.0 D.1) in
      (m.0, m.1, subst (λ (g : Fields). (every fits g.bodies && fits g.first && fits g.second) ≡ true) m.1 c₆.0)

  version-byte : (bs rest : List ℕ) → version e bs ≡ result rest → bs ≡ version_byte e ∷ rest
  unfolding version
  version-byte [] rest h = refused_not_result h
  version-byte (b ∷ bs) rest h =
      let t = need-result 3 (eqb b (version_byte e)) (result bs) rest h in
      ap₂ (λ x y. x ∷ y) (eqb-true b (version_byte e) t.0) (result_injective t.1)

  -- The stages of an acceptance.
  record Accepted (bs : List ℕ) (q : Question) : Type 0 where
    behind : List ℕ
    first_byte : bs ≡ version_byte e ∷ behind
    fields : Fields
    framing : framed behind ≡ result fields
    checks : check_fields_with names e fields ≡ result q

  accepted_stages : (bs : List ℕ) (q : Question) → check_with names e bs ≡ result q → Accepted bs q
  unfolding check_with
  accepted_stages bs q h =
      let v = bind-result (version e bs) _ q h in
      let l = need-result 4 (leb (length bs) longest_question) _ q v.2 in
      let f = bind-result (framed v.0) (check_fields_with names e) q l.1 in
      record { behind = v.0; first_byte = version-byte bs v.0 v.1; fields = f.0; framing = f.1; checks = f.2 }

  accepted_fields : (bs : List ℕ) (q : Question) (s : Accepted bs q) → WellFormedWith names q × (s.fields ≡ fields_in e q) × (fits_in e q ≡ true)
  accepted_fields bs q s = fields-allowed s.fields q (framed_counts s.behind s.fields s.framing) s.checks

  pub accepted_with : (bs : List ℕ) (q : Question) → check_with names e bs ≡ result q → WellFormedWith names q × (fits_in e q ≡ true)
  accepted_with bs q h = let r = accepted_fields bs q (accepted_stages bs q h) in (r.0, r.2)

pub accepted_in : (e : Edition) (bs : List ℕ) (q : Question) → check_in e bs ≡ result q → WellFormed q × (fits_in e q ≡ true)
accepted_in = accepted_with name_count

-- What fits has room for its length.
all_fit_lengths : (fs : List (List ℕ)) → every fits fs ≡ true → Every (λ b. length b < 65536) fs
unfolding every Every
all_fit_lengths [] h = tt
all_fit_lengths (f ∷ fs) h =
    let b = both_true (fits f) (every fits fs) h in
    let s = fits-size f b.0 in
    (omega arith, all_fit_lengths fs b.1)

all_fit_size : (fs : List (List ℕ)) → every fits fs ≡ true → length (all_sized fs) ≤ (longest_term + 2) * length fs
unfolding every all_sized sized
all_fit_size [] h = omega arith
all_fit_size (f ∷ fs) h =
    let b = both_true (fits f) (every fits fs) h in
    let s = fits-size f b.0 in
    omega (arith, all_fit_size fs b.1, length-append f (all_sized fs))

allowed_count : (e : Edition) (arities sizes : List ℕ) (Ps : List Term) → BodiesAllowed arities sizes Ps → length (body_fields_in e sizes Ps) ≡ length sizes
unfolding BodiesAllowed body_fields_in
allowed_count e arities (a ∷ sizes) (P ∷ Ps) h = ap suc (allowed_count e arities sizes Ps h.1)
allowed_count e arities [] (P ∷ Ps) h = elim h [ ]
allowed_count e arities (a ∷ sizes) [] h = elim h [ ]
allowed_count e arities [] [] h = refl

-- Each term of a question that fits the edition does.
pub record TermsFit (e : Edition) (q : Question) : Type 0 where
  pub bodies : every fits (body_fields_in e q.arities q.bodies) ≡ true
  pub first : fits (encode_in e 0 q.first) ≡ true
  pub second : fits (encode_in e 0 q.second) ≡ true

pub terms_fit : (e : Edition) (q : Question) → fits_in e q ≡ true → TermsFit e q
unfolding fits_in
terms_fit e q h =
    let x = both_true (every fits (body_fields_in e q.arities q.bodies) && fits (encode_in e 0 q.first)) (fits (encode_in e 0 q.second)) h in
    let y = both_true (every fits (body_fields_in e q.arities q.bodies)) (fits (encode_in e 0 q.first)) x.0 in
    record { bodies = y.0; first = y.1; second = x.1 }

-- What is accepted is what is written of its question: the bytes determine the question, and the question the bytes.
pub written_in : (e : Edition) (bs : List ℕ) (q : Question) → check_in e bs ≡ result q → write_in e q ≡ bs
unfolding write_in joined behind_version fields_in
written_in e bs q h =
    let s = accepted_stages name_count e bs q h in
    let f = (accepted_fields name_count e bs q s).1 in
    let o = framed-out s.behind s.fields s.framing in
    ap (λ f. version_byte e ∷ behind_version f) (sym f) ∙ sym (s.first_byte ∙ ap (λ m. version_byte e ∷ m) o)

-- Every well-formed question that fits the edition is accepted in it.

-- The same question with other bytes for its apart list.
unfoldable pub with_apart : Edition → List ℕ → Question → Fields
with_apart e xs q =
    record {
      arities = q.arities;
      bodies = body_fields_in e q.arities q.bodies;
      first = encode_in e 0 q.first;
      second = encode_in e 0 q.second;
      apart = xs;
    }

module _ (arities : List ℕ) where
  bodies_sequential : (sizes : List ℕ) (Ps : List Term) → BodiesAllowed arities sizes Ps → every sequential Ps ≡ true
  unfolding BodiesAllowed every
  bodies_sequential (a ∷ sizes) (P ∷ Ps) h = true_both (sequential P) (every sequential Ps) h.0.no_parallel (bodies_sequential sizes Ps h.1)
  bodies_sequential [] (P ∷ Ps) h = elim h [ ]
  bodies_sequential (a ∷ sizes) [] h = elim h [ ]
  bodies_sequential [] [] h = refl

  bodies_guarded : (sizes : List ℕ) (Ps : List Term) → BodiesAllowed arities sizes Ps → every guarded Ps ≡ true
  unfolding BodiesAllowed every
  bodies_guarded (a ∷ sizes) (P ∷ Ps) h = true_both (guarded P) (every guarded Ps) h.0.calls_guarded (bodies_guarded sizes Ps h.1)
  bodies_guarded [] (P ∷ Ps) h = elim h [ ]
  bodies_guarded (a ∷ sizes) [] h = elim h [ ]
  bodies_guarded [] [] h = refl

module _ (e : Edition) (arities : List ℕ) where
  bodies_read : (sizes : List ℕ) (Ps : List Term) → BodiesAllowed arities sizes Ps → read_bodies e (numbered arities) sizes (body_fields_in e sizes Ps) ≡ result Ps
  unfolding BodiesAllowed body_fields_in read_bodies
  bodies_read (a ∷ sizes) (P ∷ Ps) h =
      bind_to _ (read_whole_lem 0 (omega arith) e (numbered arities) a P (scope_to arities 0 a P h.0.scope)) ∙ bind_to _ (bodies_read sizes Ps h.1)
  bodies_read [] (P ∷ Ps) h = elim h [ ]
  bodies_read (a ∷ sizes) [] h = elim h [ ]
  bodies_read [] [] h = refl

  part_read : (P : Term) → PartAllowed arities P → read_part e (numbered arities) (encode_in e 0 P) ≡ result P
  unfolding read_part_with
  part_read P h = read_whole_lem name_count (omega arith) e (numbered arities) 0 P (scope_to arities name_count 0 P h.scope)

module _ (e : Edition) (q : Question) (w : WellFormed q) (fit : fits_in e q ≡ true) (xs : List ℕ) where
  module _ (few : length xs ≤ longest_apart + 2) where
    pub fields_framable : Framable (with_apart e xs q)
    unfolding with_apart
    fields_framable =
        let t = terms_fit e q fit in
        let p = fits-size (encode_in e 0 q.first) t.first in
        let r = fits-size (encode_in e 0 q.second) t.second in
        record {
          counts = allowed_count e q.arities q.arities q.bodies w.bodies;
          bodies = all_fit_lengths (body_fields_in e q.arities q.bodies) t.bodies;
          first = omega arith;
          second = omega arith;
          apart = omega arith;
        }

    -- The other limits keep a question below the limit of check 4, in either edition.
    joined_length : length (joined e (with_apart e xs q)) ≤ longest_question
    unfolding joined with_apart sized
    joined_length =
        let t = terms_fit e q fit in
        let p = fits-size (encode_in e 0 q.first) t.first in
        let r = fits-size (encode_in e 0 q.second) t.second in
        let n = w.definitions in
        let c = allowed_count e q.arities q.arities q.bodies w.bodies in
        let b = all_fit_size (body_fields_in e q.arities q.bodies) t.bodies in
        let fs = sized (encode_in e 0 q.first) ++ (sized (encode_in e 0 q.second) ++ sized xs) in
        omega (
          arith,
          length-append q.arities (all_sized (body_fields_in e q.arities q.bodies) ++ fs),
          length-append (all_sized (body_fields_in e q.arities q.bodies)) fs,
          length-append (encode_in e 0 q.first) (sized (encode_in e 0 q.second) ++ sized xs),
          length-append (encode_in e 0 q.second) (sized xs),
        )

  -- Of a question whose parts are well-formed, only check 12 is left to decide.
  abbrev by_apart : Answer Question
  by_apart =
      read_apart xs
      >>= λ D. result (record { arities = q.arities; bodies = q.bodies; first = q.first; second = q.second; apart = D })

  allowed_checks : check_fields e (with_apart e xs q) ≡ by_apart
  unfolding check_fields_with check_terms_with with_apart
  allowed_checks =
      let t = terms_fit e q fit in
      let P = w.first in
      let Q = w.second in
      let seq = bodies_sequential q.arities q.arities q.bodies w.bodies in
      need-passed 5 _ _
      (true_both (leb (length q.arities) most_definitions) (every (λ a. leb a greatest_arity) q.arities) (le-leb _ _ w.definitions)
      (every-all (λ a. leb a greatest_arity) (λ a. a ≤ greatest_arity) (λ a. le-leb a greatest_arity) q.arities w.parameters))
      ∙ need-passed 6 _ _ (rw (t.bodies, t.first, t.second))
      ∙ bind_to _ (bodies_read e q.arities q.arities q.bodies w.bodies)
      ∙ bind_to _ (part_read e q.arities q.first P)
      ∙ bind_to _ (part_read e q.arities q.second Q)
      ∙ need-passed 10 _ _ (rw (seq, P.parallels_outermost, Q.parallels_outermost))
      ∙ need-passed 11 _ _ (bodies_guarded q.arities q.arities q.bodies w.bodies)

  pub decided_by_apart : length xs ≤ longest_apart + 2 → check_in e (joined e (with_apart e xs q)) ≡ by_apart
  unfolding check_with joined behind_version version
  decided_by_apart few =
      bind_to _ (need-passed 3 (eqb (version_byte e) (version_byte e)) (result (behind_version (with_apart e xs q))) (eq-eqb (version_byte e) (version_byte e) refl))
      ∙ need-passed 4 (leb (length (joined e (with_apart e xs q))) longest_question) _
      (le-leb (length (joined e (with_apart e xs q))) longest_question (joined_length few))
      ∙ bind_to (check_fields e) (framed_in (with_apart e xs q) (fields_framable few))
      ∙ allowed_checks

module _ (e : Edition) (q : Question) (w : WellFormed q) (fit : fits_in e q ≡ true) where
  pub in_accepted : check_in e (write_in e q) ≡ result q
  unfolding write_in fields_in with_apart read_apart_with
  in_accepted =
      let few = w.apart_size in
      decided_by_apart e q w fit (pair_bytes q.apart) (omega arith)
      ∙ bind_to _
      (need-passed 12 (leb (length (pair_bytes q.apart)) longest_apart) _ (le-leb (length (pair_bytes q.apart)) longest_apart few)
      ∙ pairs_read q.apart w.apart)

  pub framable_in : Framable (fields_in e q)
  unfolding fields_in with_apart
  framable_in = let few = w.apart_size in fields_framable e q w fit (pair_bytes q.apart) (omega arith)

  pub written-length : length (write_in e q) ≤ longest_question
  unfolding write_in fields_in with_apart
  written-length = let few = w.apart_size in joined_length e q w fit (pair_bytes q.apart) (omega arith)

-- Edition one, which every well-formed question fits.
size_fits : (d : ℕ) (P : Term) → length (encode d P) ≤ longest_term → fits (encode_in one d P) ≡ true
unfolding fits
size_fits d P h =
    true_both (leb 1 (length (encode_in one d P))) (leb (length (encode_in one d P)) longest_term)
    (le-leb 1 (length (encode_in one d P)) (encode_some_in one d P)) (le-leb (length (encode_in one d P)) longest_term (rw encode-first h))

bodies_fit : (arities sizes : List ℕ) (Ps : List Term) → BodiesAllowed arities sizes Ps → every fits (body_fields_in one sizes Ps) ≡ true
unfolding BodiesAllowed body_fields_in every
bodies_fit arities (a ∷ sizes) (P ∷ Ps) h =
    true_both (fits (encode_in one a P)) (every fits (body_fields_in one sizes Ps)) (size_fits a P h.0.size) (bodies_fit arities sizes Ps h.1)
bodies_fit arities [] (P ∷ Ps) h = elim h [ ]
bodies_fit arities (a ∷ sizes) [] h = elim h [ ]
bodies_fit arities [] [] h = refl

pub fits-first : (q : Question) → WellFormed q → fits_in one q ≡ true
unfolding fits_in
fits-first q w =
    rw (bodies_fit q.arities q.arities q.bodies w.bodies, size_fits 0 q.first w.first.size, size_fits 0 q.second w.second.size)

pub accepted_well_formed : (bs : List ℕ) (q : Question) → check_of bs ≡ result q → WellFormed q
unfolding check_of
accepted_well_formed bs q h = (accepted_in one bs q h).0

pub accepted_written : (bs : List ℕ) (q : Question) → check_of bs ≡ result q → write q ≡ bs
unfolding check_of
accepted_written bs q h = sym (write-first q) ∙ written_in one bs q h

pub well_formed_accepted : (q : Question) → WellFormed q → check_of (write q) ≡ result q
unfolding check_of
well_formed_accepted q w = subst (λ (bs : List ℕ). check_in one bs ≡ result q) (write-first q) (in_accepted one q w (fits-first q w))

pub framable : (q : Question) → WellFormed q → Framable (fields_of q)
framable q w = subst Framable (fields-first q) (framable_in one q w (fits-first q w))
