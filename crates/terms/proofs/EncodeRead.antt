-- What reading takes is what `encode_in` writes of the term read, in either edition and whatever may be called, and that term is in scope.
use mathlib.Core.Path.{◌≡◌, refl, sym, ap, ◌∙◌}
use mathlib.Core.List.{List, [], ◌∷◌, ◌++◌, map, append_assoc, append-nil}
use mathlib.Core.Bool.{Bool, true, false, ◌&&◌}
use Prim.Native.Nat.{ℕ, zero, suc, ◌+◌, ◌-◌, ◌<◌}
use native.Mathlib.Omega.{arith}
use lib.ListN.{length}
use lib.Dec.{ltb, leb, eqb}
use borrow.Author.Tests.{ltb-true, leb-true, eqb-true, le-ltb}
use Rattle.calculus.specs.Term.{Term, nil, tau, inp, out, bout, mat, sum, par, res, call}
use Rattle.terms.specs.Answer.{result, ◌>>=◌}
use Rattle.terms.specs.Edition.{Edition, one, two, count_bytes, encode_in}
use Rattle.terms.specs.Encoding.{name_byte, NamesInScope}
use Rattle.terms.specs.Reading.{byte, read_name, read_names, tag_of, Callees, read_count, read_term, read_whole}
use Rattle.terms.proofs.ScopeLaws.{InScopeBy}
use Rattle.terms.proofs.Answers.{result_injective, refused_not_result, bind-result, need-result, both_true}

empty : (bs : List ℕ) → length bs ≡ 0 → bs ≡ []
empty [] e = refl
empty (b ∷ bs) e = absurd (omega arith)

-- The bytes of a call behind its definition.
call-bytes : (e : Edition) (d m : ℕ) (bs cs ns rest : List ℕ) → bs ≡ count_bytes e m ++ cs → cs ≡ map (name_byte d) ns ++ rest → length ns ≡ m →
    bs ≡ (count_bytes e (length ns) ++ map (name_byte d) ns) ++ rest
call-bytes e d m bs cs ns rest p q l = rw (p, q, ← l, append_assoc)

count_out : (e : Edition) (n : ℕ) (bs rest : List ℕ) → read_count e n bs ≡ result rest → bs ≡ count_bytes e n ++ rest
unfolding read_count count_bytes byte ◌>>=◌
count_out one n bs rest h = result_injective h
count_out two n [] rest h = refused_not_result h
count_out two n (b ∷ bs) rest h =
    let t = need-result 16 (eqb b n) (result bs) rest h in
    rw (eqb-true b n t.0, result_injective t.1)

module _ (free : ℕ) where
  -- The name read is in scope, and its byte stood first.
  pub name_read : (d : ℕ) (bs : List ℕ) (r : ℕ × List ℕ) → read_name free d bs ≡ result r → (bs ≡ name_byte d r.0 ∷ r.1) × (r.0 < d + free)
  unfolding read_name name_byte byte ◌>>=◌
  name_read d [] r e = refused_not_result e
  name_read d (b ∷ bs) r e = go (ltb b free) (leb 128 b && ltb (b - 128) d) refl refl
    where
      go : (t u : Bool) → ltb b free ≡ t → (leb 128 b && ltb (b - 128) d) ≡ u → ◌≡◌ {A = List ℕ} (b ∷ bs) (name_byte d r.0 ∷ r.1) × (r.0 < d + free)
      go true u p q =
          let c : d + b - d ≡ b = omega arith in
          let l : b < free = ltb-true b free p in
          rw (← result_injective (rw p at e)) (rw (le-ltb (d + b) d (omega arith), c), omega arith)
      go false true p q =
          let l = both_true (leb 128 b) (ltb (b - 128) d) q in
          let m = leb-true 128 b l.0 in
          let o = ltb-true (b - 128) d l.1 in
          let c : 128 + (b - 128) ≡ b = omega arith in
          rw (← result_injective (rw (p, q) at e)) (rw (l.1, c), omega arith)
      go false false p q = refused_not_result (rw (p, q) at e)

  pub names_read : (d k : ℕ) (bs : List ℕ) (r : List ℕ × List ℕ) → read_names free d k bs ≡ result r →
      (bs ≡ map (name_byte d) r.0 ++ r.1) × NamesInScope free d r.0 × (length r.0 ≡ k)
  unfolding read_names NamesInScope
  names_read d zero bs r e = rw (← result_injective e) (refl, tt, refl)
  names_read d (suc k) bs r e =
      let t = bind-result (read_name free d bs) _ r e in
      let n = name_read d bs t.0 t.1 in
      let u = bind-result (read_names free d k t.0.1) _ r t.2 in
      let ns = names_read d k t.0.1 u.0 u.1 in
      rw
      (← result_injective u.2)
      (n.0 ∙ ap (λ l. name_byte d t.0.0 ∷ l) ns.0, (n.1, ns.1), ap suc ns.2)

  module _ (e : Edition) (callees : Callees) where
    -- The term read stood first, and is in scope.
    pub record Read (d : ℕ) (bs : List ℕ) (r : Term × List ℕ) : Type 0 where
      pub bytes : bs ≡ encode_in e d r.0 ++ r.1
      pub scope : InScopeBy callees free d r.0

    module _ (n : ℕ) (inner : (d : ℕ) (bs : List ℕ) (r : Term × List ℕ) → read_term e callees free n d bs ≡ result r → Read d bs r) (d t : ℕ) where
      one_term : (d' : ℕ) (c : Term → Term) → ((P : Term) → encode_in e d (c P) ≡ t ∷ encode_in e d' P) →
          ((P : Term) → InScopeBy callees free d' P → InScopeBy callees free d (c P)) → (bs : List ℕ) (r : Term × List ℕ) →
          (read_term e callees free n d' bs >>= λ x. result (c x.0, x.1)) ≡ result r → Read d (t ∷ bs) r
      one_term d' c written scoped bs r h =
          let u = bind-result (read_term e callees free n d' bs) _ r h in
          let P = inner d' bs u.0 u.1 in
          rw
          (← result_injective {a = (c u.0.0, u.0.1)} u.2)
          (record { bytes = rw written (ap (λ l. t ∷ l) P.bytes); scope = scoped u.0.0 P.scope })

      name_term : (d' : ℕ) (c : ℕ → Term → Term) → ((a : ℕ) (P : Term) → encode_in e d (c a P) ≡ t ∷ name_byte d a ∷ encode_in e d' P) →
          ((a : ℕ) (P : Term) → a < d + free → InScopeBy callees free d' P → InScopeBy callees free d (c a P)) → (bs : List ℕ) (r : Term × List ℕ) →
          (read_name free d bs >>= λ a. (read_term e callees free n d' a.1 >>= λ x. result (c a.0 x.0, x.1))) ≡ result r → Read d (t ∷ bs) r
      name_term d' c written scoped bs r h =
          let a = bind-result (read_name free d bs) _ r h in
          let A = name_read d bs a.0 a.1 in
          let u = bind-result (read_term e callees free n d' a.0.1) _ r a.2 in
          let P = inner d' a.0.1 u.0 u.1 in
          rw
          (← result_injective {a = (c a.0.0 u.0.0, u.0.1)} u.2)
          (record {
            bytes = rw written (ap (λ l. t ∷ l) (A.0 ∙ ap (λ l. name_byte d a.0.0 ∷ l) P.bytes));
            scope = scoped a.0.0 u.0.0 A.1 P.scope;
          })

      two_names_term : (c : ℕ → ℕ → Term → Term) → ((a b : ℕ) (P : Term) → encode_in e d (c a b P) ≡ t ∷ name_byte d a ∷ name_byte d b ∷ encode_in e d P) →
          ((a b : ℕ) (P : Term) → a < d + free → b < d + free → InScopeBy callees free d P → InScopeBy callees free d (c a b P)) →
          (bs : List ℕ) (r : Term × List ℕ) →
          (read_name free d bs >>= λ a. (read_name free d a.1 >>= λ b. (read_term e callees free n d b.1 >>= λ x. result (c a.0 b.0 x.0, x.1))))
          ≡ result r → Read d (t ∷ bs) r
      two_names_term c written scoped bs r h =
          let a = bind-result (read_name free d bs) _ r h in
          let A = name_read d bs a.0 a.1 in
          let b = bind-result (read_name free d a.0.1) _ r a.2 in
          let B = name_read d a.0.1 b.0 b.1 in
          let u = bind-result (read_term e callees free n d b.0.1) _ r b.2 in
          let P = inner d b.0.1 u.0 u.1 in
          rw
          (← result_injective {a = (c a.0.0 b.0.0 u.0.0, u.0.1)} u.2)
          (record {
            bytes =
                rw written (ap (λ l. t ∷ l) (A.0 ∙ ap (λ l. name_byte d a.0.0 ∷ l) (B.0 ∙ ap (λ l. name_byte d b.0.0 ∷ l) P.bytes)));
            scope = scoped a.0.0 b.0.0 u.0.0 A.1 B.1 P.scope;
          })

      two_terms : (c : Term → Term → Term) → ((P Q : Term) → encode_in e d (c P Q) ≡ t ∷ (encode_in e d P ++ encode_in e d Q)) →
          ((P Q : Term) → InScopeBy callees free d P → InScopeBy callees free d Q → InScopeBy callees free d (c P Q)) → (bs : List ℕ) (r : Term × List ℕ) →
          (read_term e callees free n d bs >>= λ x. (read_term e callees free n d x.1 >>= λ y. result (c x.0 y.0, y.1))) ≡ result r →
          Read d (t ∷ bs) r
      two_terms c written scoped bs r h =
          let u = bind-result (read_term e callees free n d bs) _ r h in
          let P = inner d bs u.0 u.1 in
          let v = bind-result (read_term e callees free n d u.0.1) _ r u.2 in
          let Q = inner d u.0.1 v.0 v.1 in
          rw
          (← result_injective {a = (c u.0.0 v.0.0, v.0.1)} v.2)
          (record {
            bytes =
                rw
                written
                (ap
                (λ l. t ∷ l)
                (P.bytes ∙ ap (λ l. encode_in e d u.0.0 ++ l) Q.bytes ∙ sym (append_assoc (encode_in e d u.0.0) (encode_in e d v.0.0) v.0.1)));
            scope = scoped u.0.0 v.0.0 P.scope Q.scope;
          })

      call_term : (k : ℕ) (bs : List ℕ) (r : Term × List ℕ) →
          (callees k >>= λ m. (read_count e m bs >>= λ cs. (read_names free d m cs >>= λ x. result (call k x.0, x.1)))) ≡ result r →
          Read d (9 ∷ k ∷ bs) r
      unfolding encode_in InScopeBy
      call_term k bs r h =
          let m = bind-result (callees k) _ r h in
          let c = bind-result (read_count e m.0 bs) _ r m.2 in
          let u = bind-result (read_names free d m.0 c.0) _ r c.2 in
          let ns = names_read d m.0 c.0 u.0 u.1 in
          let same : m.0 ≡ length u.0.0 = sym ns.2 in
          let stood : bs ≡ (count_bytes e (length u.0.0) ++ map (name_byte d) u.0.0) ++ u.0.1 =
          call-bytes e d m.0 bs c.0 u.0.0 u.0.1 (count_out e m.0 bs c.0 c.1) ns.0 ns.2 in
          rw
          (← result_injective {a = (call k u.0.0, u.0.1)} u.2)
          (record { bytes = ap (λ l. 9 ∷ k ∷ l) stood; scope = (m.1 ∙ ap result same, ns.1) })

    pub term_read : (n d : ℕ) (bs : List ℕ) (r : Term × List ℕ) → read_term e callees free n d bs ≡ result r → Read d bs r
    unfolding read_term encode_in InScopeBy byte tag_of ◌>>=◌
    term_read zero d bs r h = refused_not_result h
    term_read (suc n) d [] r h = refused_not_result h
    term_read (suc n) d (zero ∷ bs) r h = rw (← result_injective {a = (nil, bs)} h) (record { bytes = refl; scope = tt })
    term_read (suc n) d (suc zero ∷ bs) r h = one_term n (term_read n) d 1 d tau (λ P. refl) (λ P s. s) bs r h
    term_read (suc n) d (suc (suc zero) ∷ bs) r h = name_term n (term_read n) d 2 (1 + d) inp (λ a P. refl) (λ a P l s. (l, s)) bs r h
    term_read (suc n) d (suc (suc (suc zero)) ∷ bs) r h = two_names_term n (term_read n) d 3 out (λ a b P. refl) (λ a b P l m s. (l, m, s)) bs r h
    term_read (suc n) d (suc (suc (suc (suc zero))) ∷ bs) r h = name_term n (term_read n) d 4 (1 + d) bout (λ a P. refl) (λ a P l s. (l, s)) bs r h
    term_read (suc n) d (suc (suc (suc (suc (suc zero)))) ∷ bs) r h = two_names_term n (term_read n) d 5 mat (λ a b P. refl) (λ a b P l m s. (l, m, s)) bs r h
    term_read (suc n) d (suc (suc (suc (suc (suc (suc zero))))) ∷ bs) r h = two_terms n (term_read n) d 6 sum (λ P Q. refl) (λ P Q s u. (s, u)) bs r h
    term_read (suc n) d (suc (suc (suc (suc (suc (suc (suc zero)))))) ∷ bs) r h = two_terms n (term_read n) d 7 par (λ P Q. refl) (λ P Q s u. (s, u)) bs r h
    term_read (suc n) d (suc (suc (suc (suc (suc (suc (suc (suc zero))))))) ∷ bs) r h = one_term n (term_read n) d 8 (1 + d) res (λ P. refl) (λ P s. s) bs r h
    term_read (suc n) d (suc (suc (suc (suc (suc (suc (suc (suc (suc zero)))))))) ∷ []) r h = refused_not_result h
    term_read (suc n) d (suc (suc (suc (suc (suc (suc (suc (suc (suc zero)))))))) ∷ k ∷ bs) r h = call_term n (term_read n) d 9 k bs r h
    term_read (suc n) d (suc (suc (suc (suc (suc (suc (suc (suc (suc (suc t))))))))) ∷ bs) r h = refused_not_result h

    pub whole_read : (d : ℕ) (bs : List ℕ) (P : Term) → read_whole e callees free d bs ≡ result P →
        (bs ≡ encode_in e d P) × InScopeBy callees free d P
    unfolding read_whole
    whole_read d bs P h =
        let u = bind-result (read_term e callees free (length bs) d bs) _ P h in
        let z = need-result 7 (eqb (length u.0.1) 0) (result u.0.0) P u.2 in
        let r = term_read (length bs) d bs u.0 u.1 in
        let rest : u.0.1 ≡ [] = empty u.0.1 (eqb-true _ _ z.0) in
        rw
        (← result_injective {a = u.0.0} z.1)
        (r.bytes ∙ ap (λ l. encode_in e d u.0.0 ++ l) rest ∙ append-nil _, r.scope)
