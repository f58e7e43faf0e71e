-- What `encode_in` writes, reading gives back, in either edition and whatever may be called: the terms in scope are exactly determined by their
-- bytes.
use mathlib.Core.Path.{◌≡◌, refl}
use mathlib.Core.List.{List, [], ◌∷◌, ◌++◌, map, append_assoc, append-nil}
use mathlib.Core.Bool.{Bool, true, false}
use Prim.Native.Nat.{ℕ, zero, suc, ◌+◌, ◌-◌, ◌≤◌, ◌<◌}
use native.Mathlib.Omega.{arith}
use lib.ListN.{length, length-append}
use lib.Dec.{ltb, eqb}
use borrow.Author.Tests.{ltb-true, ltb-false, lt-ltb, le-ltb, le-leb, eq-eqb}
use Rattle.calculus.specs.Term.{Term, nil, tau, inp, out, bout, mat, sum, par, res, call}
use Rattle.terms.specs.Answer.{result, ◌>>=◌, ◌>>◌, need}
use Rattle.terms.specs.Edition.{Edition, one, two, count_bytes, encode_in}
use Rattle.terms.specs.Encoding.{name_byte, encode, NamesInScope}
use Rattle.terms.specs.Reading.{byte, read_name, read_names, tag_of, Callees, read_count, read_term, read_whole}
use Rattle.terms.proofs.Answers.{need-passed}
use Rattle.terms.proofs.ScopeLaws.{InScopeBy}

pub encode-some : (d : ℕ) (P : Term) → 1 ≤ length (encode d P)
unfolding encode
encode-some d nil = omega arith
encode-some d (tau P) = omega arith
encode-some d (inp a P) = omega arith
encode-some d (out a b P) = omega arith
encode-some d (bout a P) = omega arith
encode-some d (mat a b P) = omega arith
encode-some d (sum P Q) = omega arith
encode-some d (par P Q) = omega arith
encode-some d (res P) = omega arith
encode-some d (call k ns) = omega arith

pub encode_some_in : (e : Edition) (d : ℕ) (P : Term) → 1 ≤ length (encode_in e d P)
unfolding encode_in
encode_some_in e d nil = omega arith
encode_some_in e d (tau P) = omega arith
encode_some_in e d (inp a P) = omega arith
encode_some_in e d (out a b P) = omega arith
encode_some_in e d (bout a P) = omega arith
encode_some_in e d (mat a b P) = omega arith
encode_some_in e d (sum P Q) = omega arith
encode_some_in e d (par P Q) = omega arith
encode_some_in e d (res P) = omega arith
encode_some_in e d (call k ns) = omega arith

-- Check 16.
count_in_lem : (e : Edition) (n : ℕ) (bs : List ℕ) → read_count e n (count_bytes e n ++ bs) ≡ result bs
unfolding read_count count_bytes byte ◌>>=◌
count_in_lem one n bs = refl
count_in_lem two n bs = need-passed 16 (eqb n n) (result bs) (eq-eqb n n refl)

module _ (free : ℕ) (few : free ≤ 128) where
  pub read_name_lem : (d n : ℕ) (bs : List ℕ) → n < d + free → read_name free d (name_byte d n ∷ bs) ≡ result (n, bs)
  unfolding read_name name_byte byte ◌>>=◌
  read_name_lem d n bs h = go (ltb n d) refl
    where
      go : (t : Bool) → ltb n d ≡ t → read_name free d (name_byte d n ∷ bs) ≡ result (n, bs)
      go true e =
          let l : n < d = ltb-true n d e in
          let c : 128 + n - 128 ≡ n = omega arith in
          rw (e, le-ltb (128 + n) free (omega arith), le-leb 128 (128 + n) (omega arith), c, lt-ltb n d l)
      go false e =
          let l : d ≤ n = ltb-false n d e in
          let c : d + (n - d) ≡ n = omega arith in
          rw (e, lt-ltb (n - d) free (omega arith), c)

  pub read_names_lem : (d : ℕ) (ns bs : List ℕ) → NamesInScope free d ns → read_names free d (length ns) (map (name_byte d) ns ++ bs) ≡ result (ns, bs)
  unfolding read_names NamesInScope ◌>>=◌
  read_names_lem d [] bs g = refl
  read_names_lem d (n ∷ ns) bs g = rw (read_name_lem d n (map (name_byte d) ns ++ bs) g.0, read_names_lem d ns bs g.1)

  module _ (e : Edition) (callees : Callees) where
    pub read_encoded : (d : ℕ) (P : Term) → InScopeBy callees free d P → (n : ℕ) → length (encode_in e d P) ≤ n → (bs : List ℕ) →
        read_term e callees free n d (encode_in e d P ++ bs) ≡ result (P, bs)
    unfolding read_term encode_in InScopeBy byte tag_of ◌>>=◌ ◌>>◌ need
    read_encoded d P g zero h bs = absurd (omega (arith, encode_some_in e d P))
    read_encoded d nil g (suc n) h bs = refl
    read_encoded d (tau P) g (suc n) h bs = rw (read_encoded d P g n (omega arith) bs)
    read_encoded d (inp a P) g (suc n) h bs =
        rw (read_name_lem d a (encode_in e (1 + d) P ++ bs) g.0, read_encoded (1 + d) P g.1 n (omega arith) bs)
    read_encoded d (out a b P) g (suc n) h bs =
        rw (read_name_lem d a (name_byte d b ∷ (encode_in e d P ++ bs)) g.0, read_name_lem d b (encode_in e d P ++ bs) g.1, read_encoded d P g.2 n (omega arith) bs)
    read_encoded d (bout a P) g (suc n) h bs =
        rw (read_name_lem d a (encode_in e (1 + d) P ++ bs) g.0, read_encoded (1 + d) P g.1 n (omega arith) bs)
    read_encoded d (mat a b P) g (suc n) h bs =
        rw (read_name_lem d a (name_byte d b ∷ (encode_in e d P ++ bs)) g.0, read_name_lem d b (encode_in e d P ++ bs) g.1, read_encoded d P g.2 n (omega arith) bs)
    read_encoded d (sum P Q) g (suc n) h bs =
        let l = length-append (encode_in e d P) (encode_in e d Q) in
        rw (
          append_assoc (encode_in e d P) (encode_in e d Q) bs,
          read_encoded d P g.0 n (omega (arith, l)) (encode_in e d Q ++ bs),
          read_encoded d Q g.1 n (omega (arith, l)) bs,
        )
    read_encoded d (par P Q) g (suc n) h bs =
        let l = length-append (encode_in e d P) (encode_in e d Q) in
        rw (
          append_assoc (encode_in e d P) (encode_in e d Q) bs,
          read_encoded d P g.0 n (omega (arith, l)) (encode_in e d Q ++ bs),
          read_encoded d Q g.1 n (omega (arith, l)) bs,
        )
    read_encoded d (res P) g (suc n) h bs = rw (read_encoded (1 + d) P g n (omega arith) bs)
    read_encoded d (call k ns) g (suc n) h bs =
        rw (
          g.0,
          append_assoc (count_bytes e (length ns)) (map (name_byte d) ns) bs,
          count_in_lem e (length ns) (map (name_byte d) ns ++ bs),
          read_names_lem d ns bs g.1,
        )

    pub read_whole_lem : (d : ℕ) (P : Term) → InScopeBy callees free d P → read_whole e callees free d (encode_in e d P) ≡ result P
    unfolding read_whole ◌>>=◌ ◌>>◌ need
    read_whole_lem d P g =
        let q : read_term e callees free (length (encode_in e d P)) d (encode_in e d P) ≡ result (P, []) =
        rw append-nil at (read_encoded d P g (length (encode_in e d P)) (omega arith) []) in
        rw q
