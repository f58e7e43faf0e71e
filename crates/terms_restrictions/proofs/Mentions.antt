-- A byte that stands nowhere in a term is no free name's. Assumes nothing.
use mathlib.Core.Path.{◌≡◌, refl, sym, ap, ◌∙◌}
use mathlib.Core.Bool.{Bool, true, false, ◌||◌}
use mathlib.Core.List.{List, [], ◌∷◌, ◌++◌, map}
use Prim.Native.Nat.{ℕ, suc, ◌+◌, ◌<◌}
use native.Mathlib.Numerals.{add-one}
use native.Mathlib.Omega.{arith}
use lib.ListN.{length, get_or, take}
use lib.Seq.{take-suc}
use lib.Dec.{eqb}
use borrow.Author.Tests.{eqb-true, eqb-false, eq-eqb, ne_eqb}
use Rattle.calculus.specs.Distinction.{among}
use Rattle.calculus.specs.Free.{lower_l, fn}
use Rattle.calculus.specs.Term.{Term, nil, tau, inp, out, bout, mat, sum, par, res, call}
use Rattle.terms.specs.Encoding.{name_byte, encode, NamesInScope, InScope}
use Rattle.terms_bytes.proofs.NameTables.{byte_free}
use Rattle.terms_restrictions.proofs.UnusedWalk.{or_false, or_neither, among_lower, among-append, eqb_sym}

-- One byte more is looked at.
pub occurs_more : (s : List ℕ) (i b : ℕ) → i < length s → among (take i s) b || eqb (get_or s i 0) b ≡ among (take (i + 1) s) b
unfolding among
occurs_more s i b l =
    rw (add-one, take-suc s i 0 l, among-append (take i s) (get_or s i 0 ∷ []) b, or_false (eqb b (get_or s i 0)), eqb_sym b (get_or s i 0))

-- The byte of the free name b under d binders is b.
unnamed : (d b n : ℕ) → eqb b (name_byte d n) ≡ false → eqb (d + b) n ≡ false
unnamed d b n e = ne_eqb (d + b) n (λ q. eqb-false b (name_byte d n) e (sym (byte_free d n (omega arith) ∙ omega arith)))

unnamed_all : (d b : ℕ) (ns : List ℕ) → among (map (name_byte d) ns) b ≡ false → among ns (d + b) ≡ false
unfolding among
unnamed_all d b [] e = refl
unnamed_all d b (n ∷ ns) e =
    let (h, t) = or_neither (eqb b (name_byte d n)) (among (map (name_byte d) ns) b) e in rw (unnamed d b n h, unnamed_all d b ns t)

lowered : (d b : ℕ) (P : Term) → among (fn P) (1 + d + b) ≡ false → among (lower_l (fn P)) (d + b) ≡ false
lowered d b P e = among_lower (fn P) (d + b) ∙ ap (among (fn P)) (omega arith) ∙ e

pub unmentioned : (d b : ℕ) (P : Term) → among (encode d P) b ≡ false → among (fn P) (d + b) ≡ false
unfolding among encode fn
unmentioned d b nil e = refl
unmentioned d b (tau P) e = unmentioned d b P (or_neither (eqb b 1) (among (encode d P) b) e).1
unmentioned d b (inp a P) e =
    let (_, f) = or_neither (eqb b 2) (eqb b (name_byte d a) || among (encode (1 + d) P) b) e in
    let (g, h) = or_neither (eqb b (name_byte d a)) (among (encode (1 + d) P) b) f in
    rw (unnamed d b a g, lowered d b P (unmentioned (1 + d) b P h))
unmentioned d b (out a c P) e =
    let (_, f) = or_neither (eqb b 3) (eqb b (name_byte d a) || (eqb b (name_byte d c) || among (encode d P) b)) e in
    let (g, h) = or_neither (eqb b (name_byte d a)) (eqb b (name_byte d c) || among (encode d P) b) f in
    let (i, j) = or_neither (eqb b (name_byte d c)) (among (encode d P) b) h in
    rw (unnamed d b a g, unnamed d b c i, unmentioned d b P j)
unmentioned d b (bout a P) e =
    let (_, f) = or_neither (eqb b 4) (eqb b (name_byte d a) || among (encode (1 + d) P) b) e in
    let (g, h) = or_neither (eqb b (name_byte d a)) (among (encode (1 + d) P) b) f in
    rw (unnamed d b a g, lowered d b P (unmentioned (1 + d) b P h))
unmentioned d b (mat a c P) e =
    let (_, f) = or_neither (eqb b 5) (eqb b (name_byte d a) || (eqb b (name_byte d c) || among (encode d P) b)) e in
    let (g, h) = or_neither (eqb b (name_byte d a)) (eqb b (name_byte d c) || among (encode d P) b) f in
    let (i, j) = or_neither (eqb b (name_byte d c)) (among (encode d P) b) h in
    rw (unnamed d b a g, unnamed d b c i, unmentioned d b P j)
unmentioned d b (sum P Q) e =
    let (_, f) = or_neither (eqb b 6) (among (encode d P ++ encode d Q) b) e in
    let (g, h) = or_neither (among (encode d P) b) (among (encode d Q) b) (sym (among-append (encode d P) (encode d Q) b) ∙ f) in
    rw (among-append (fn P) (fn Q) (d + b), unmentioned d b P g, unmentioned d b Q h)
unmentioned d b (par P Q) e =
    let (_, f) = or_neither (eqb b 7) (among (encode d P ++ encode d Q) b) e in
    let (g, h) = or_neither (among (encode d P) b) (among (encode d Q) b) (sym (among-append (encode d P) (encode d Q) b) ∙ f) in
    rw (among-append (fn P) (fn Q) (d + b), unmentioned d b P g, unmentioned d b Q h)
unmentioned d b (res P) e =
    let (_, f) = or_neither (eqb b 8) (among (encode (1 + d) P) b) e in
    lowered d b P (unmentioned (1 + d) b P f)
unmentioned d b (call k ns) e =
    let (_, f) = or_neither (eqb b 9) (eqb b k || among (map (name_byte d) ns) b) e in
    unnamed_all d b ns (or_neither (eqb b k) (among (map (name_byte d) ns) b) f).1

-- Where the last name is not free, one less may stand free.
fewer : (d n a : ℕ) → a < d + suc n → eqb (d + n) a ≡ false → a < d + n
fewer d n a l e = let z = eqb-false (d + n) a e in omega arith

fewer_all : (d n : ℕ) (ns : List ℕ) → NamesInScope (suc n) d ns → among ns (d + n) ≡ false → NamesInScope n d ns
unfolding NamesInScope among
fewer_all d n [] s e = tt
fewer_all d n (a ∷ ns) s e =
    let (h, t) = or_neither (eqb (d + n) a) (among ns (d + n)) e in (fewer d n a s.0 h, fewer_all d n ns s.1 t)

raised : (d n : ℕ) (P : Term) → among (lower_l (fn P)) (d + n) ≡ false → among (fn P) (1 + d + n) ≡ false
raised d n P e = ap (among (fn P)) (omega arith) ∙ sym (among_lower (fn P) (d + n)) ∙ e

pub narrowed : (n : ℕ) (arities : List ℕ) (d : ℕ) (P : Term) → InScope (suc n) arities d P → among (fn P) (d + n) ≡ false → InScope n arities d P
unfolding InScope among fn
narrowed n ar d nil s e = tt
narrowed n ar d (tau P) s e = narrowed n ar d P s e
narrowed n ar d (inp a P) s e =
    let (g, h) = or_neither (eqb (d + n) a) (among (lower_l (fn P)) (d + n)) e in
    (fewer d n a s.0 g, narrowed n ar (1 + d) P s.1 (raised d n P h))
narrowed n ar d (out a c P) s e =
    let (g, h) = or_neither (eqb (d + n) a) (eqb (d + n) c || among (fn P) (d + n)) e in
    let (i, j) = or_neither (eqb (d + n) c) (among (fn P) (d + n)) h in
    (fewer d n a s.0 g, fewer d n c s.1 i, narrowed n ar d P s.2 j)
narrowed n ar d (bout a P) s e =
    let (g, h) = or_neither (eqb (d + n) a) (among (lower_l (fn P)) (d + n)) e in
    (fewer d n a s.0 g, narrowed n ar (1 + d) P s.1 (raised d n P h))
narrowed n ar d (mat a c P) s e =
    let (g, h) = or_neither (eqb (d + n) a) (eqb (d + n) c || among (fn P) (d + n)) e in
    let (i, j) = or_neither (eqb (d + n) c) (among (fn P) (d + n)) h in
    (fewer d n a s.0 g, fewer d n c s.1 i, narrowed n ar d P s.2 j)
narrowed n ar d (sum P Q) s e =
    let (g, h) = or_neither (among (fn P) (d + n)) (among (fn Q) (d + n)) (sym (among-append (fn P) (fn Q) (d + n)) ∙ e) in
    (narrowed n ar d P s.0 g, narrowed n ar d Q s.1 h)
narrowed n ar d (par P Q) s e =
    let (g, h) = or_neither (among (fn P) (d + n)) (among (fn Q) (d + n)) (sym (among-append (fn P) (fn Q) (d + n)) ∙ e) in
    (narrowed n ar d P s.0 g, narrowed n ar d Q s.1 h)
narrowed n ar d (res P) s e = narrowed n ar (1 + d) P s (raised d n P e)
narrowed n ar d (call k ns) s e = (s.0, s.1, fewer_all d n ns s.2 e)
