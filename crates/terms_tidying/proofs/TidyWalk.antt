-- What the walk writes that tidies a term's bytes. Assumes nothing.
use mathlib.Core.Path.{◌≡◌, refl, sym, ap, subst, ◌∙◌}
use mathlib.Core.Bool.{Bool, true, false, cond, not, ◌&&◌}
use mathlib.Core.List.{List, [], ◌∷◌, ◌++◌, map, append_assoc, append-nil}
use Prim.Native.Nat.{ℕ, zero, suc, ◌+◌, ◌-◌, ◌*◌, ◌<◌, ◌≤◌, min, max}
use native.Mathlib.Omega.{arith}
use lib.ListN.{length, get_or, take, drop, length-append, length-drop}
use lib.Seq.{sets, length-sets, drop-drop, drop-append_seam, take_at}
use lib.Dec.{eqb, ltb}
use borrow.Author.Tests.{ltb-true, ltb-false, eqb-true, lt-ltb, le-ltb, ne_eqb}
use Rattle.calculus.specs.Distinction.{among}
use Rattle.calculus.specs.Free.{Free, fn}
use Rattle.calculus.specs.Term.{Term, nil, tau, inp, out, bout, mat, sum, par, res, call, ren}
use Rattle.calculus.specs.Tidy.{outside, restrict_used, tidy}
use Rattle.calculus.proofs.FreeNames.{free→fn, fn→free, ren_ext}
use Rattle.calculus.proofs.Selection.{in_among, among_in}
use Rattle.calculus.proofs.Tidying.{free_tidy, of_free_tidy, restrict-used, tidy-ren}
use Rattle.terms.specs.Encoding.{name_byte, encode, InScope}
use Rattle.terms.proofs.RenamingKeeps.{Keeps, length-ren, scope_ren}
use Rattle.terms.proofs.TidyShorter.{tidy_shorter}
use Rattle.terms_bytes.specs.NameTable.{table_names, slot, Represents}
use Rattle.terms_bytes.specs.Shape.{fixed_bytes, own_names, binders, subterms, height, front_bytes, ShapeIs}
use Rattle.terms_bytes.specs.declared.shape.Shape.{Shape}
use Rattle.terms_bytes.proofs.Heights.{height_one, height_two, height-ren}
use Rattle.terms_bytes.proofs.NameTables.{byte_bound, byte_free}
use Rattle.terms_bytes.proofs.Shapes.{encode_all, encode-parts, AllInScope, subterms_scope, front_of, shape_parts, length_front, at_most_two}
use Rattle.terms_bytes.proofs.Stores.{span, sets-join, sets-start}
use Rattle.terms_renaming.specs.Renaming.{RenameIs}
use Rattle.terms_tidying.specs.Tidying.{longest_raw, CopiedFront, Tidied, TidiedBeneath}
use Rattle.terms_restrictions.specs.Unused.{binds_nothing, BindsNothing}
use Rattle.terms_bytes.specs.declared.shape.Front.{Front}
use Rattle.terms_renaming.specs.Renaming.{NoTerm}
use Rattle.terms_tidying.specs.declared.tidy.Ends.{Ends}
use Rattle.terms_restrictions.proofs.UnusedWalk.{behind, size-behind}

-- The name of a restriction that binds nothing becomes the first free name; the others are as they are outside of it.
outside_of : ℕ → ℕ → ℕ
outside_of d zero = d
outside_of d (suc n) = n

unused_free : (P : Term) → among (fn P) 0 ≡ false → ¬ Free 0 P
unused_free P e f = let z : ◌≡◌ {A = ℕ} 0 1 = cc (in_among (fn P) 0 (free→fn 0 P f)) in omega arith

used_free : (P : Term) → among (fn P) 0 ≡ true → Free 0 P
used_free P e = fn→free 0 P (among_in (fn P) 0 e)

-- A restriction that binds nothing goes.
unrestricted : (d : ℕ) (P : Term) → among (fn P) 0 ≡ false → tidy (res P) ≡ tidy (ren (outside_of d) P)
unfolding tidy restrict_used outside outside_of
unrestricted d P e = go (among (fn (tidy P)) 0) refl ∙ ren_ext outside (outside_of d) (tidy P) away ∙ sym (tidy-ren (outside_of d) P)
  where
    none : ¬ Free 0 (tidy P)
    none f = unused_free P e (of_free_tidy 0 P f)

    go : (t : Bool) → among (fn (tidy P)) 0 ≡ t → cond (among (fn (tidy P)) 0) (res (tidy P)) (ren outside (tidy P)) ≡ ren outside (tidy P)
    go true t = absurd (none (used_free (tidy P) t))
    go false t = rw t

    away : (n : ℕ) → Free n (tidy P) → outside n ≡ outside_of d n
    away zero f = absurd (none f)
    away (suc n) f = refl

-- The table of the code.
unfoldable pub outside_byte : ℕ → ℕ
outside_byte i = cond (ltb i table_names) i (cond (eqb i table_names) 0 (128 + (i - (table_names + 1))))

unfoldable pub agrees : ℕ → List ℕ → Bool
agrees i [] = true
agrees i (b ∷ bs) = eqb b (outside_byte i) && agrees (suc i) bs

and_both : (a b : Bool) → a && b ≡ true → (a ≡ true) × (b ≡ true)
and_both true true e = (refl, refl)
and_both true false e = let z : ◌≡◌ {A = ℕ} 0 1 = cc in absurd (omega arith)
and_both false b e = let z : ◌≡◌ {A = ℕ} 0 1 = cc in absurd (omega arith)

agreed : (i : ℕ) (table : List ℕ) → agrees i table ≡ true → (k : ℕ) → k < length table → get_or table k 0 ≡ outside_byte (i + k)
unfolding agrees
agreed i [] e k l = absurd (omega arith)
agreed i (b ∷ bs) e zero l =
    eqb-true b (outside_byte i) (and_both (eqb b (outside_byte i)) (agrees (suc i) bs) e).0 ∙ ap outside_byte (omega arith)
agreed i (b ∷ bs) e (suc k) l =
    agreed (suc i) bs (and_both (eqb b (outside_byte i)) (agrees (suc i) bs) e).1 k (omega arith) ∙ ap outside_byte (omega arith)

outside_represents : (table : List ℕ) → agrees 0 table ≡ true → length table ≡ table_names + 129 → (free d : ℕ) → free ≤ table_names → d ≤ 128
    → Represents free (1 + d) d table (outside_of d)
unfolding Represents slot outside_of outside_byte
outside_represents table e size free d few low = go
  where
    entry : (k : ℕ) → k < table_names + 129 → get_or table k 0 ≡ outside_byte k
    entry k l = let z : 0 + k ≡ k = omega arith in agreed 0 table e k (omega arith) ∙ ap outside_byte z

    own : get_or table (slot (1 + d) 0) 0 ≡ name_byte d d
    own = rw (lt-ltb 0 (1 + d) (omega arith)) (entry table_names (omega arith) ∙ sym (byte_free d d (omega arith) ∙ omega arith))

    other : (m : ℕ) → suc m < 1 + d + free → (t : Bool) → ltb (suc m) (1 + d) ≡ t → get_or table (slot (1 + d) (suc m)) 0 ≡ name_byte d m
    other m l true t =
        let k = ltb-true (suc m) (1 + d) t in
        rw (t, byte_bound d m (omega arith)) (entry (table_names + suc m) (omega arith)
        ∙ rw (le-ltb (table_names + suc m) table_names (omega arith), ne_eqb (table_names + suc m) table_names (λ q. omega arith)) (omega arith))
    other m l false t =
        let k = ltb-false (suc m) (1 + d) t in
        rw (t, byte_free d m (omega arith)) (entry (suc m - (1 + d)) (omega arith)
        ∙ rw (lt-ltb (suc m - (1 + d)) table_names (omega arith)) (omega arith))

    go : (m : ℕ) → m < 1 + d + free → (get_or table (slot (1 + d) m) 0 ≡ name_byte d (outside_of d m)) × (outside_of d m < d + table_names)
    go zero l = (own, omega arith)
    go (suc m) l = (other m l (ltb (suc m) (1 + d)) refl, omega arith)

-- The outermost restriction of the term at `at` stays, if it is one,
abbrev pub StaysOn : List ℕ → ℕ → List ℕ → Type 0
StaysOn s at arities = (free d : ℕ) (P : Term) (rest : List ℕ) → free ≤ table_names → InScope free arities d P → drop at s ≡ encode d P ++ rest
    → (Q : Term) → P ≡ res Q → Free 0 Q

pub stays : (s : List ℕ) (at : ℕ) (arities : List ℕ) → BindsNothing s at arities false → StaysOn s at arities
unfolding BindsNothing binds_nothing
stays s at arities B free d P rest few scope st Q q = go (among (fn Q) 0) refl
  where
    is : false ≡ not (among (fn Q) 0)
    is = B free d P rest few scope st ∙ ap binds_nothing q

    go : (t : Bool) → among (fn Q) 0 ≡ t → Free 0 Q
    go true t = used_free Q t
    go false t = let z : ◌≡◌ {A = Bool} false true = is ∙ ap not t in let o : ◌≡◌ {A = ℕ} 0 1 = cc in absurd (omega arith)

-- or it goes.
module _ (s : List ℕ) (at : ℕ) (arities area : List ℕ) (put : ℕ) where
  abbrev Done : (free d : ℕ) (rest : List ℕ) (r : Ends) (area' : List ℕ) → Term → Type 0
  Done free d rest r area' P =
      true ≡ binds_nothing P → InScope free arities d P → drop at s ≡ encode d P ++ rest → d + height P ≤ 128 → length (encode d P) ≤ longest_raw
      → put + length (encode d P) ≤ length area
      → (r.read ≡ at + length (encode d P)) × (r.written ≡ put + length (encode d (tidy P))) × (area' ≡ sets area put (encode d (tidy P)))

  pub goes : BindsNothing s at arities true → (r : Ends) (area' : List ℕ) → TidiedBeneath s (at + 1) arities area put r area' → Tidied s at arities area put r area'
  unfolding BindsNothing binds_nothing Tidied TidiedBeneath encode InScope height
  goes B r area' R free d P rest few scope st deep long room = go P (B free d P rest few scope st) scope st deep long room
    where
      none : {A : Type 0} → true ≡ false → A
      none e = let z : ◌≡◌ {A = ℕ} 0 1 = cc in absurd (omega arith)

      off : (t : Bool) → true ≡ not t → t ≡ false
      off true e = none e
      off false e = refl

      restriction : (Q : Term) → Done free d rest r area' (res Q)
      restriction Q b scope st deep long room =
          let y = R free d Q rest few scope (sym (drop-drop 1 at s) ∙ ap (drop 1) st) (off (among (fn Q) 0) b) (omega arith) (omega arith) (omega arith) in
          (omega (arith, y.0), y.1, y.2)

      go : (P : Term) → Done free d rest r area' P
      go nil b = none b
      go (tau P) b = none b
      go (inp a P) b = none b
      go (out a c P) b = none b
      go (bout a P) b = none b
      go (mat a c P) b = none b
      go (sum P Q) b = none b
      go (par P Q) b = none b
      go (res Q) b = restriction Q b
      go (call k ns) b = none b

-- The bytes of a tidied term whose outermost restriction stays.
kept-parts : (d : ℕ) (P : Term) → ((Q : Term) → P ≡ res Q → Free 0 Q)
    → encode d (tidy P) ≡ front_bytes d P ++ encode_all (binders P + d) (map tidy (subterms P))
unfolding tidy front_bytes fixed_bytes own_names binders subterms
kept-parts d nil k = encode-parts d nil
kept-parts d (tau P) k = encode-parts d (tau (tidy P))
kept-parts d (inp a P) k = encode-parts d (inp a (tidy P))
kept-parts d (out a b P) k = encode-parts d (out a b (tidy P))
kept-parts d (bout a P) k = encode-parts d (bout a (tidy P))
kept-parts d (mat a b P) k = encode-parts d (mat a b (tidy P))
kept-parts d (sum P Q) k = encode-parts d (sum (tidy P) (tidy Q))
kept-parts d (par P Q) k = encode-parts d (par (tidy P) (tidy Q))
kept-parts d (res P) k = ap (encode d) (restrict-used (tidy P) (free_tidy 0 P (k P refl))) ∙ encode-parts d (res (tidy P))
kept-parts d (call c ns) k = encode-parts d (call c ns)

-- The front.
pub none_full : (s : List ℕ) (at : ℕ) (arities area : List ℕ) (put : ℕ) (h : Shape) → ShapeIs s at arities h → length area < put + (h.fixed + h.names)
    → (free d : ℕ) (P : Term) (rest : List ℕ) → InScope free arities d P → drop at s ≡ encode d P ++ rest → put + length (encode d P) ≤ length area → ⊥
none_full s at arities area put h is short free d P rest scope e room =
    omega (
      arith,
      length_front s at arities h is d P (front_of free arities d P scope) rest e,
      ap length (encode-parts d P) ∙ length-append (front_bytes d P) (encode_all (binders P + d) (subterms P)),
    )

pub front-copied : (s : List ℕ) (at : ℕ) (arities area : List ℕ) (put : ℕ) (h : Shape) (out₁ : List ℕ) → ShapeIs s at arities h
    → at + (h.fixed + h.names) ≤ length s → put + (h.fixed + h.names) ≤ length area → out₁ ≡ sets area put (span s at (h.fixed + h.names))
    → CopiedFront s at arities area put (record { len = h.fixed + h.names; binds = h.binds; subterms = h.subterms }) out₁
front-copied s at arities area put h out₁ is fs fo w = record {
  inside = omega arith;
  room = omega arith;
  step = omega (arith, is.some);
  is = λ free d P rest scope e room.
      let f = front_of free arities d P scope in
      let n = length_front s at arities h is d P f rest e in (
        n,
        shape_parts s at arities h is d P f rest e,
        w ∙ ap (sets area put) (ap (take (h.fixed + h.names)) (e ∙ ap (λ (l : List ℕ). l ++ rest) (encode-parts d P)
            ∙ append_assoc (front_bytes d P) (encode_all (binders P + d) (subterms P)) rest) ∙ take_at (front_bytes d P) _ (h.fixed + h.names) (sym n)),
      );
}

-- No front, and so no term.
pub tidied_nowhere : (s : List ℕ) (at : ℕ) (arities area : List ℕ) (put : ℕ) (r : Ends) (area' : List ℕ) → NoTerm s at arities area put
    → Tidied s at arities area put r area'
unfolding Tidied
tidied_nowhere s at arities area put r area' never free d P rest few scope st deep long room = absurd (never free d P rest scope st room)

-- The walk of a term whose front is copied.
module _ (s : List ℕ) (at : ℕ) (arities area : List ℕ) (put : ℕ) (h : Front) (out₁ : List ℕ) (F : CopiedFront s at arities area put h out₁)
    (keeps : StaysOn s at arities) where
  module _ (free d : ℕ) (P : Term) (rest : List ℕ) (few : free ≤ table_names) (scope : InScope free arities d P) (st : drop at s ≡ encode d P ++ rest)
      (room : put + length (encode d P) ≤ length area) where
    x : (h.len ≡ length (front_bytes d P)) × (h.subterms ≡ length (subterms P)) × (out₁ ≡ sets area put (front_bytes d P))
    x = F.is free d P rest scope st room

    part : (Ps : List Term) → subterms P ≡ Ps → drop (at + h.len) s ≡ encode_all (binders P + d) Ps ++ rest
    part Ps q = behind s at h.len d P rest Ps x.0 st q

    size : (Ps : List Term) → subterms P ≡ Ps → length (encode d P) ≡ h.len + length (encode_all (binders P + d) Ps)
    size Ps q = size-behind h.len d P Ps x.0 q

    bytes : (Ps : List Term) → subterms P ≡ Ps → encode d (tidy P) ≡ front_bytes d P ++ encode_all (binders P + d) (map tidy Ps)
    bytes Ps q = kept-parts d P (keeps free d P rest few scope st) ∙ rw q

  pub tidied-none : h.subterms ≡ 0 → Tidied s at arities area put (record { read = at + h.len; written = put + h.len }) out₁
  unfolding Tidied encode_all
  tidied-none z free d P rest few scope st deep long room = go (subterms P) refl
    where
      go : (Ps : List Term) → subterms P ≡ Ps
          → (at + h.len ≡ at + length (encode d P)) × (put + h.len ≡ put + length (encode d (tidy P))) × (out₁ ≡ sets area put (encode d (tidy P)))
      go [] q =
          let y = F.is free d P rest scope st room in
          let b : encode d (tidy P) ≡ front_bytes d P = bytes free d P rest few scope st room [] q ∙ append-nil (front_bytes d P) in (
            omega (arith, size free d P rest few scope st room [] q),
            omega (arith, y.0, ap length b),
            y.2 ∙ ap (sets area put) (sym b),
          )
      go (Q ∷ Qs) q =
          let n : length (subterms P) ≡ suc (length Qs) = ap length q in
          absurd (omega (arith, (F.is free d P rest scope st room).1))

  -- The first subterm.
  module _ (e : Ends) (out₂ : List ℕ) (R : Tidied s (at + h.len) arities out₁ (put + h.len) e out₂) where
    first_is : (free d : ℕ) (P : Term) (rest : List ℕ) → free ≤ table_names → InScope free arities d P → drop at s ≡ encode d P ++ rest
        → length (encode d P) ≤ longest_raw → put + length (encode d P) ≤ length area
        → (Q : Term) (Qs : List Term) → subterms P ≡ Q ∷ Qs → binders P + d + height Q ≤ 128
        → (e.read ≡ at + h.len + length (encode (binders P + d) Q)) × (e.written ≡ put + h.len + length (encode (binders P + d) (tidy Q)))
        × (out₂ ≡ sets area put (front_bytes d P ++ encode (binders P + d) (tidy Q)))
    unfolding Tidied encode_all
    first_is free d P rest few scope st long room Q Qs q deep =
        let y = F.is free d P rest scope st room in
        let n = size free d P rest few scope st room (Q ∷ Qs) q in
        let m = length-append (encode (binders P + d) Q) (encode_all (binders P + d) Qs) in
        let l : length out₁ ≡ length area = ap length y.2 ∙ length-sets area put (front_bytes d P) in
        let w = R free (binders P + d) Q (encode_all (binders P + d) Qs ++ rest) few
        (subst (AllInScope free arities (binders P + d)) q (subterms_scope free arities d P scope)).0
        (part free d P rest few scope st room (Q ∷ Qs) q ∙ append_assoc (encode (binders P + d) Q) (encode_all (binders P + d) Qs) rest)
        deep (omega arith) (omega arith) in (
          w.0,
          w.1,
          w.2 ∙ ap (λ (o : List ℕ). sets o (put + h.len) (encode (binders P + d) (tidy Q))) y.2
              ∙ sets-join area put (put + h.len) (front_bytes d P) (encode (binders P + d) (tidy Q)) (ap (λ (k : ℕ). put + k) y.0),
        )

    pub tidied_one : h.subterms ≡ 1 → Tidied s at arities area put e out₂
    unfolding Tidied encode_all
    tidied_one z free d P rest few scope st deep long room = go (subterms P) refl
      where
        go : (Ps : List Term) → subterms P ≡ Ps
            → (e.read ≡ at + length (encode d P)) × (e.written ≡ put + length (encode d (tidy P))) × (out₂ ≡ sets area put (encode d (tidy P)))
        go [] q = let n : length (subterms P) ≡ 0 = ap length q in absurd (omega (arith, (F.is free d P rest scope st room).1))
        go (Q ∷ []) q =
            let w = first_is free d P rest few scope st long room Q [] q (omega (arith, height_one P Q q)) in
            let E = encode (binders P + d) (tidy Q) in
            let b : encode d (tidy P) ≡ front_bytes d P ++ E =
            bytes free d P rest few scope st room (Q ∷ []) q ∙ ap (λ (l : List ℕ). front_bytes d P ++ l) (append-nil E) in
            let n = size free d P rest few scope st room (Q ∷ []) q in
            let y = F.is free d P rest scope st room in (
              omega (arith, w.0, length-append (encode (binders P + d) Q) []),
              omega (arith, w.1, y.0, ap length b, length-append (front_bytes d P) E),
              w.2 ∙ ap (sets area put) (sym b),
            )
        go (Q ∷ Q₂ ∷ Qs) q =
            let n : length (subterms P) ≡ suc (suc (length Qs)) = ap length q in
            absurd (omega (arith, (F.is free d P rest scope st room).1))

    pub tidied_two : (h.subterms ≡ 0 → ⊥) → (h.subterms ≡ 1 → ⊥) → (r : Ends) (out₃ : List ℕ)
        → Tidied s e.read arities out₂ e.written r out₃ → Tidied s at arities area put r out₃
    unfolding Tidied encode_all
    tidied_two z o r out₃ S free d P rest few scope st deep long room = go (subterms P) refl
      where
        go : (Ps : List Term) → subterms P ≡ Ps
            → (r.read ≡ at + length (encode d P)) × (r.written ≡ put + length (encode d (tidy P))) × (out₃ ≡ sets area put (encode d (tidy P)))
        go [] q = absurd (z ((F.is free d P rest scope st room).1 ∙ ap length q))
        go (Q ∷ []) q = absurd (o ((F.is free d P rest scope st room).1 ∙ ap length q))
        go (Q₁ ∷ Q₂ ∷ []) q =
            let t = height_two P Q₁ Q₂ q in
            let w = first_is free d P rest few scope st long room Q₁ (Q₂ ∷ []) q (omega (arith, t)) in
            let D = binders P + d in
            let E₁ = encode D Q₁ in
            let E₂ = encode D Q₂ in
            let T₁ = encode D (tidy Q₁) in
            let T₂ = encode D (tidy Q₂) in
            let G = front_bytes d P in
            let y = F.is free d P rest scope st room in
            let b : encode d (tidy P) ≡ (G ++ T₁) ++ T₂ =
            bytes free d P rest few scope st room (Q₁ ∷ Q₂ ∷ []) q ∙ ap (λ (l : List ℕ). G ++ (T₁ ++ l)) (append-nil T₂) ∙ sym (append_assoc G T₁ T₂) in
            let n = size free d P rest few scope st room (Q₁ ∷ Q₂ ∷ []) q in
            let n₁ = length-append E₁ (E₂ ++ []) in
            let n₂ = length-append E₂ [] in
            let p : drop (at + h.len) s ≡ E₁ ++ (E₂ ++ rest) =
            part free d P rest few scope st room (Q₁ ∷ Q₂ ∷ []) q ∙ rw (append-nil) (append_assoc E₁ E₂ rest) in
            let st₂ : drop e.read s ≡ E₂ ++ rest = rw (w.0, ← drop-drop (length E₁) (at + h.len) s, p, drop-append_seam) in
            let g = length-append G T₁ in
            let l : length out₂ ≡ length area = ap length w.2 ∙ length-sets area put (G ++ T₁) in
            let v = S free D Q₂ rest few (subst (AllInScope free arities D) q (subterms_scope free arities d P scope)).1.0 st₂
            (omega (arith, t)) (omega arith) (omega (arith, w.1, tidy_shorter D Q₁)) in (
              omega (arith, v.0, w.0),
              omega (arith, v.1, w.1, y.0, ap length b, length-append (G ++ T₁) T₂),
              v.2 ∙ ap (λ (o : List ℕ). sets o e.written T₂) w.2
                  ∙ sets-join area put e.written (G ++ T₁) T₂ (omega (arith, w.1, y.0)) ∙ ap (sets area put) (sym b),
            )
        go (Q₁ ∷ Q₂ ∷ Q₃ ∷ Qs) q = absurd (omega (arith, at_most_two P, ap length q))

-- What stands beneath a restriction that binds nothing: renamed to what it is outside, and tidied.
module _ (s : List ℕ) (at : ℕ) (arities area : List ℕ) (put : ℕ) (table lowered : List ℕ) (n : ℕ) (lowered₁ : List ℕ) (agree : agrees 0 table ≡ true)
    (size : length table ≡ table_names + 129) (big : length lowered ≡ longest_raw) (R : RenameIs s at arities table lowered 0 n lowered₁) where
  module _ (free d : ℕ) (P : Term) (rest : List ℕ) (few : free ≤ table_names) (scope : InScope free arities (1 + d) P)
      (st : drop at s ≡ encode (1 + d) P ++ rest) (deep : d + height P ≤ 128) (long : length (encode (1 + d) P) ≤ longest_raw) where
    renamed : (n ≡ length (encode (1 + d) P)) × (lowered₁ ≡ sets lowered 0 (encode d (ren (outside_of d) P)))
    unfolding RenameIs
    renamed =
        R free (1 + d) d (outside_of d) P rest few (outside_represents table agree size free d few (omega arith)) scope st deep (omega (arith, big))

    lowered_bytes : take n lowered₁ ≡ encode d (ren (outside_of d) P)
    lowered_bytes =
        let E = encode d (ren (outside_of d) P) in
        let l = length-ren (1 + d) d (outside_of d) P in
        ap (take n) (renamed.1 ∙ sets-start lowered E (omega (arith, big, l))) ∙ take_at E _ n (l ∙ sym renamed.0)

    inside : drop at s ≡ encode (1 + d) P ++ rest → at ≤ length s → at + n ≤ length s
    inside st le = let k = ap length st in omega (arith, renamed.0, length-drop at s, length-append (encode (1 + d) P) rest)

  -- it fits
  pub beneath-inside : at ≤ length s → length s < at + n → (r : Ends) (area' : List ℕ) → TidiedBeneath s at arities area put r area'
  unfolding TidiedBeneath
  beneath-inside le short r area' free d P rest few scope st e deep long room =
      absurd (omega (arith, inside free d P rest few scope st deep long st le))

  pub beneath-fits : longest_raw < n → (r : Ends) (area' : List ℕ) → TidiedBeneath s at arities area put r area'
  unfolding TidiedBeneath
  beneath-fits over r area' free d P rest few scope st e deep long room =
      absurd (omega (arith, (renamed free d P rest few scope st deep long).0))

  pub beneath-tidied : (e : Ends) (area' : List ℕ) → Tidied (take n lowered₁) 0 arities area put e area'
      → TidiedBeneath s at arities area put (record { read = at + n; written = e.written }) area'
  unfolding TidiedBeneath Tidied outside_of
  beneath-tidied e area' T free d P rest few scope st unused deep long room =
      let Q = ren (outside_of d) P in
      let l = length-ren (1 + d) d (outside_of d) P in
      let b = ap (encode d) (unrestricted d P unused) in
      let y = T table_names d Q [] (omega arith) (scope_ren free table_names arities (1 + d) d (outside_of d) (keeps free d few) P scope)
      (lowered_bytes free d P rest few scope st deep long ∙ sym (append-nil (encode d Q)))
      (omega (arith, height-ren (outside_of d) P)) (omega arith) (omega arith) in (
        omega (arith, (renamed free d P rest few scope st deep long).0),
        y.1 ∙ ap (λ (bs : List ℕ). put + length bs) (sym b),
        y.2 ∙ ap (sets area put) (sym b),
      )
    where
      keeps : (free d : ℕ) → free ≤ table_names → Keeps free table_names (1 + d) d (outside_of d)
      keeps free d few zero l = omega arith
      keeps free d few (suc m) l = omega arith

-- Numbers of the walk: a restriction that goes, the first subterm and the second.
pub beneath_place : (at L t : ℕ) → at < L → 2 * (L - at) ≡ t → 2 * (L - (at + 1)) + 1 < t
beneath_place at L t l m = omega arith

pub first_place_lem : (at n L put M subterms t : ℕ) → at ≤ L → put ≤ M → at + n ≤ max at L → put + n ≤ max put M → min 1 subterms ≤ n → (subterms ≡ 0 → ⊥)
    → 2 * (L - at) ≡ t → (2 * (L - (at + n)) < t) × (at + n ≤ L) × (put + n ≤ M)
first_place_lem at n L put M subterms t i p front room step some m =
    let a : at + n ≤ L = omega arith in
    let b : put + n ≤ M = omega arith in
    let c : 1 ≤ n = omega arith in
    (omega arith, a, b)

behind-first : (p e w L q M t : ℕ) → 2 * (L - p) < t → p ≤ L → q ≤ M → p ≤ e → e ≤ max p L → w ≤ max q M → (2 * (L - e) < t) × (e ≤ L) × (w ≤ M)
behind-first p e w L q M t f a b on within written = (omega arith, omega arith, omega arith)

pub second_place_lem : (at n e L put w M subterms t : ℕ) → at ≤ L → put ≤ M → at + n ≤ max at L → put + n ≤ max put M → min 1 subterms ≤ n → (subterms ≡ 0 → ⊥)
    → at + n ≤ e → e ≤ max (at + n) L → w ≤ max (put + n) M → 2 * (L - at) ≡ t → (2 * (L - e) < t) × (e ≤ L) × (w ≤ M)
second_place_lem at n e L put w M subterms t i p front room step some on within written m =
    let r = first_place_lem at n L put M subterms t i p front room step some m in
    behind-first (at + n) e w L (put + n) M t r.0 r.1 r.2 on within written

pub taken : (n : ℕ) (l : List ℕ) → n ≤ length l → n ≡ length (take n l)
taken zero l h = refl
taken (suc n) [] h = absurd (omega arith)
taken (suc n) (x ∷ l) h = ap suc (taken n l (omega arith))

-- What is renamed is no longer than what it came from.
pub lowered_place : (at n m L t : ℕ) → n ≡ m → at + n ≤ L → 2 * (L - at) + 1 ≡ t → 2 * (m - 0) < t
lowered_place at n m L t e fit k = omega arith
