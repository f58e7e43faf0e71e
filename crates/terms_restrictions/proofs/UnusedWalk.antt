-- What the walk finds that looks for a binder's name in a term. Assumes nothing.
use mathlib.Core.Path.{◌≡◌, refl, sym, ap, subst, ◌∙◌}
use mathlib.Core.Bool.{Bool, true, false, cond, not, ◌||◌}
use mathlib.Core.List.{List, [], ◌∷◌, ◌++◌, map, append_assoc, append-nil}
use Prim.Native.Nat.{ℕ, zero, suc, ◌+◌, ◌-◌, ◌<◌, ◌≤◌, min, max}
use native.Mathlib.Nat.{zero-add}
use native.Mathlib.Numerals.{add-one}
use native.Mathlib.Omega.{arith}
use lib.ListN.{length, get_or, take, drop, length-append, length-drop}
use lib.Seq.{take_all, take-suc, drop-drop, drop-append_seam}
use lib.Dec.{eqb, ltb}
use borrow.Author.Tests.{ltb-true, ltb-false, eqb-true, eqb-false, eq-eqb, ne_eqb}
use Rattle.calculus.specs.Distinction.{among}
use Rattle.calculus.specs.Free.{lower_l, fn}
use Rattle.calculus.specs.Term.{Term, nil, tau, inp, out, bout, mat, sum, par, res, call}
use Rattle.terms.specs.Encoding.{name_byte, encode, NamesInScope, InScope}
use Rattle.terms_bytes.specs.NameTable.{table_names}
use Rattle.terms_bytes.specs.Shape.{own_names, binders, subterms, front_bytes, ShapeIs}
use Rattle.terms_bytes.specs.declared.shape.Shape.{Shape}
use Rattle.terms.proofs.ReadEncoded.{encode-some}
use Rattle.terms_bytes.proofs.NameTables.{byte_bound, byte_free}
use Rattle.terms_bytes.proofs.Shapes.{encode_all, encode-parts, AllInScope, names_scope, subterms_scope, front_of, shape_binds, shape_parts, span-names, length_front, front-inside, front-some, at_most_two}
use Rattle.terms_bytes.proofs.Stores.{span, length-span, get_d_span, get_d_front}
use Rattle.std.specs.List.{list_any}
use Rattle.std.specs.Prelude.{Option, Some, None, is_some}
use Rattle.terms_restrictions.specs.Unused.{UnusedFront, UnusedFrontIs, UnusedTo, binds_nothing, BindsNothing}
use Rattle.terms_bytes.specs.declared.shape.Front.{Front}

eqb_suc : (i n : ℕ) → eqb (1 + i) (suc n) ≡ eqb i n
eqb_suc i n = go (eqb i n) refl
  where
    go : (t : Bool) → eqb i n ≡ t → eqb (1 + i) (suc n) ≡ t
    go true e = let q = eqb-true i n e in eq-eqb (1 + i) (suc n) (omega arith)
    go false e = ne_eqb (1 + i) (suc n) (λ q. eqb-false i n e (omega arith))

pub among_lower : (xs : List ℕ) (i : ℕ) → among (lower_l xs) i ≡ among xs (1 + i)
unfolding lower_l among
among_lower [] i = refl
among_lower (zero ∷ xs) i = rw (ne_eqb (1 + i) zero (λ q. omega arith)) (among_lower xs i)
among_lower (suc n ∷ xs) i = rw (eqb_suc i n, among_lower xs i)

pub or_false : (a : Bool) → a || false ≡ a
or_false true = refl
or_false false = refl

pub or_assoc : (a b c : Bool) → (a || b) || c ≡ a || (b || c)
or_assoc true b c = refl
or_assoc false b c = refl

pub or_neither : (a b : Bool) → a || b ≡ false → (a ≡ false) × (b ≡ false)
or_neither false b e = (refl, e)
or_neither true b e = let z : ◌≡◌ {A = ℕ} 0 1 = cc in absurd (omega arith)

pub among-append : (xs ys : List ℕ) (i : ℕ) → among (xs ++ ys) i ≡ among xs i || among ys i
unfolding among
among-append [] ys i = refl
among-append (x ∷ xs) ys i = ap (λ (b : Bool). eqb i x || b) (among-append xs ys i) ∙ sym (or_assoc (eqb i x) (among xs i) (among ys i))

-- whether a name is free in one of the terms
unfoldable pub used_by : List Term → ℕ → Bool
used_by [] i = false
used_by (P ∷ Ps) i = among (fn P) i || used_by Ps i

-- A name is free in a term if it is one of the names at its front, or free in a subterm.
pub among-parts : (P : Term) (i : ℕ) → among (fn P) i ≡ among (own_names P) i || used_by (subterms P) (binders P + i)
unfolding fn among own_names used_by subterms binders
among-parts nil i = refl
among-parts (tau P) i = rw (or_false, zero-add)
among-parts (inp a P) i = rw (or_false, or_false, among_lower)
among-parts (out a b P) i = rw (or_false, or_false, zero-add) (sym (or_assoc (eqb i a) (eqb i b) (among (fn P) i)))
among-parts (bout a P) i = rw (or_false, or_false, among_lower)
among-parts (mat a b P) i = rw (or_false, or_false, zero-add) (sym (or_assoc (eqb i a) (eqb i b) (among (fn P) i)))
among-parts (sum P Q) i = rw (or_false, zero-add) (among-append (fn P) (fn Q) i)
among-parts (par P Q) i = rw (or_false, zero-add) (among-append (fn P) (fn Q) i)
among-parts (res P) i = rw (or_false, among_lower)
among-parts (call k xs) i = rw (or_false)

-- The byte of a binder is no other name's.
byte_is : (free d n inner : ℕ) → free ≤ table_names → n < d + free → inner < d → eqb (128 + inner) (name_byte d n) ≡ eqb inner n
byte_is free d n inner few l h = go (ltb n d) refl
  where
    same : (t : Bool) → eqb inner n ≡ t → eqb (128 + inner) (128 + n) ≡ t
    same true e = let q = eqb-true inner n e in eq-eqb (128 + inner) (128 + n) (omega arith)
    same false e = ne_eqb (128 + inner) (128 + n) (λ q. eqb-false inner n e (omega arith))

    go : (t : Bool) → ltb n d ≡ t → eqb (128 + inner) (name_byte d n) ≡ eqb inner n
    go true e = let k = ltb-true n d e in rw (byte_bound d n k) (same (eqb inner n) refl)
    go false e =
        let k = ltb-false n d e in
        rw (byte_free d n k, ne_eqb (128 + inner) (n - d) (λ q. omega arith), ne_eqb inner n (λ q. omega arith))

pub among-bytes : (free d inner : ℕ) → free ≤ table_names → inner < d → (ns : List ℕ) → NamesInScope free d ns
    → among (map (name_byte d) ns) (128 + inner) ≡ among ns inner
unfolding among NamesInScope
among-bytes free d inner few h [] s = refl
among-bytes free d inner few h (n ∷ ns) s = rw (byte_is free d n inner few s.0 h, among-bytes free d inner few h ns s.1)

-- Whether a byte is looked for and found.
pub eqb_sym : (a b : ℕ) → eqb a b ≡ eqb b a
eqb_sym a b = go (eqb b a) refl
  where
    go : (t : Bool) → eqb b a ≡ t → eqb a b ≡ t
    go true e = eq-eqb a b (sym (eqb-true b a e))
    go false e = ne_eqb a b (λ q. eqb-false b a e (sym q))

pub any_among : (xs : List ℕ) (b : ℕ) → list_any (λ x. eqb x b) xs ≡ among xs b
unfolding among
any_among [] b = refl
any_among (x ∷ xs) b = rw (eqb_sym x b, any_among xs b)

-- An end is none, or another.
pub none_not_some : {A : Type 0} {e : ℕ} → Some e ≡ None → A
none_not_some q = let z : ◌≡◌ {A = ℕ} 1 0 = ap (λ (o : Option ℕ). elim o [ Some x ↦ 1 | None ↦ 0 ]) q in absurd (omega arith)

some_is : {e n : ℕ} → Some e ≡ Some n → e ≡ n
some_is q = ap (λ (o : Option ℕ). elim o [ Some x ↦ x | None ↦ 0 ]) q

-- The front.
pub front_nowhere : (s : List ℕ) (at : ℕ) (arities : List ℕ) (inner : ℕ)
    → ((free d : ℕ) (P : Term) (rest : List ℕ) → InScope free arities d P → drop at s ≡ encode d P ++ rest → ⊥)
    → UnusedFrontIs s at arities inner None
front_nowhere s at arities inner never = λ free d P rest few scope e h. absurd (never free d P rest scope e)

-- The names of a front that is all there.
module _ (s : List ℕ) (at : ℕ) (arities : List ℕ) (inner : ℕ) (h : Shape) (is : ShapeIs s at arities h) (fit : at + (h.fixed + h.names) ≤ length s) where
  names_tested : (t : Bool) → t ≡ among (span s (at + h.fixed) h.names) (128 + inner) → (free d : ℕ) (P : Term) (rest : List ℕ) → free ≤ table_names
      → InScope free arities d P → drop at s ≡ encode d P ++ rest → inner < d → among (own_names P) inner ≡ t
  names_tested t found free d P rest few scope e l =
      let f = front_of free arities d P scope in
      sym (found ∙ rw (span-names s at arities h is d P f rest e) (among-bytes free d inner few l (own_names P) (names_scope free arities d P scope)))

  pub front_used : true ≡ among (span s (at + h.fixed) h.names) (128 + inner) → UnusedFrontIs s at arities inner None
  front_used found = names_tested true found

  pub front_unused : false ≡ among (span s (at + h.fixed) h.names) (128 + inner)
      → UnusedFront s at arities inner (record { len = h.fixed + h.names; binds = h.binds; subterms = h.subterms })
  front_unused found = record {
    inside = fit;
    some = omega (arith, is.some);
    binds = is.one;
    is = λ free d P rest few scope e l.
        let f = front_of free arities d P scope in (
          length_front s at arities h is d P f rest e,
          shape_binds s at arities h is d P f rest e,
          shape_parts s at arities h is d P f rest e,
          names_tested false found free d P rest few scope e l,
        );
  }

length-parts : (d : ℕ) (P : Term) → length (encode d P) ≡ length (front_bytes d P) + length (encode_all (binders P + d) (subterms P))
length-parts d P = ap length (encode-parts d P) ∙ length-append (front_bytes d P) (encode_all (binders P + d) (subterms P))

-- What stands behind the front of a term.
pub behind : (s : List ℕ) (at n d : ℕ) (P : Term) (rest : List ℕ) (Ps : List Term) → n ≡ length (front_bytes d P) → drop at s ≡ encode d P ++ rest
    → subterms P ≡ Ps → drop (at + n) s ≡ encode_all (binders P + d) Ps ++ rest
behind s at n d P rest Ps len st q =
    rw (len, ← drop-drop, st, encode-parts d P, append_assoc (front_bytes d P) (encode_all (binders P + d) (subterms P)) rest, drop-append_seam, q)

pub size-behind : (n d : ℕ) (P : Term) (Ps : List Term) → n ≡ length (front_bytes d P) → subterms P ≡ Ps
    → length (encode d P) ≡ n + length (encode_all (binders P + d) Ps)
size-behind n d P Ps len q = length-parts d P ∙ rw (len, q)

-- No term stands past the end, or where its front does not fit.
pub none-past : (s : List ℕ) (at : ℕ) (arities : List ℕ) → length s ≤ at → (free d : ℕ) (P : Term) (rest : List ℕ) → InScope free arities d P → drop at s ≡ encode d P ++ rest → ⊥
none-past s at arities past free d P rest scope e =
    omega (arith, front-some arities d P (front_of free arities d P scope), length-parts d P, simp (length-append, length-drop) at (ap length e))

pub none_short : (s : List ℕ) (at : ℕ) (arities : List ℕ) (h : Shape) → ShapeIs s at arities h → at < length s → length s < at + (h.fixed + h.names)
    → (free d : ℕ) (P : Term) (rest : List ℕ) → InScope free arities d P → drop at s ≡ encode d P ++ rest → ⊥
none_short s at arities h is lt short free d P rest scope e =
    omega (arith, front-inside s at arities h is d P (front_of free arities d P scope) rest e lt)

-- The walk of a term whose front was looked at.
module _ (s : List ℕ) (at : ℕ) (arities : List ℕ) (inner : ℕ) (h : Front) (F : UnusedFront s at arities inner h) where
  module _ (free d : ℕ) (P : Term) (rest : List ℕ) (few : free ≤ table_names) (scope : InScope free arities d P) (st : drop at s ≡ encode d P ++ rest)
      (l : inner < d) where
    x : (h.len ≡ length (front_bytes d P)) × (h.binds ≡ binders P) × (h.subterms ≡ length (subterms P)) × (among (own_names P) inner ≡ false)
    x = F.is free d P rest few scope st l

    -- whether the name is free goes by the subterms alone
    beneath : (Ps : List Term) → subterms P ≡ Ps → among (fn P) inner ≡ used_by Ps (binders P + inner)
    beneath Ps q = rw (among-parts P inner, x.3, q)

    part : (Ps : List Term) → subterms P ≡ Ps → drop (at + h.len) s ≡ encode_all (binders P + d) Ps ++ rest
    part Ps q = behind s at h.len d P rest Ps x.0 st q

    size : (Ps : List Term) → subterms P ≡ Ps → length (encode d P) ≡ h.len + length (encode_all (binders P + d) Ps)
    size Ps q = size-behind h.len d P Ps x.0 q

  pub unused-none : h.subterms ≡ 0 → UnusedTo s at arities inner (Some (at + h.len))
  unfolding UnusedTo used_by encode_all
  unused-none z free d P rest few scope e l = go (subterms P) refl
    where
      go : (Ps : List Term) → subterms P ≡ Ps → Some (at + h.len) ≡ cond (among (fn P) inner) None (Some (at + length (encode d P)))
      go [] q = rw (beneath free d P rest few scope e l [] q) (ap Some (omega (arith, size free d P rest few scope e l [] q)))
      go (Q ∷ Qs) q =
          let n : length (subterms P) ≡ suc (length Qs) = ap length q in
          absurd (omega (arith, (F.is free d P rest few scope e l).2))

  -- The first subterm, and whether the name is free in it.
  module _ (e : ℕ) (R : UnusedTo s (at + h.len) arities (inner + h.binds) (Some e)) where
    first_is : (free d : ℕ) (P : Term) (rest : List ℕ) → free ≤ table_names → InScope free arities d P → drop at s ≡ encode d P ++ rest → inner < d
        → (Q : Term) (Qs : List Term) → subterms P ≡ Q ∷ Qs
        → Some e ≡ cond (among (fn Q) (binders P + inner)) None (Some (at + h.len + length (encode (binders P + d) Q)))
    unfolding UnusedTo encode_all
    first_is free d P rest few scope st l Q Qs q =
        let b = (F.is free d P rest few scope st l).1 in
        let c : inner + h.binds ≡ binders P + inner = omega (arith, b) in
        let R' : UnusedTo s (at + h.len) arities (binders P + inner) (Some e) = subst (λ (k : ℕ). UnusedTo s (at + h.len) arities k (Some e)) c R in
        R' free (binders P + d) Q (encode_all (binders P + d) Qs ++ rest) few
        (subst (AllInScope free arities (binders P + d)) q (subterms_scope free arities d P scope)).0
        (part free d P rest few scope st l (Q ∷ Qs) q ∙ append_assoc (encode (binders P + d) Q) (encode_all (binders P + d) Qs) rest)
        (omega arith)

    pub unused_one : h.subterms ≡ 1 → UnusedTo s at arities inner (Some e)
    unfolding UnusedTo used_by encode_all
    unused_one z free d P rest few scope st l = go (subterms P) refl
      where
        go : (Ps : List Term) → subterms P ≡ Ps → Some e ≡ cond (among (fn P) inner) None (Some (at + length (encode d P)))
        go [] q = let n : length (subterms P) ≡ 0 = ap length q in absurd (omega (arith, (F.is free d P rest few scope st l).2))
        go (Q ∷ []) q =
            let m : at + h.len + length (encode (binders P + d) Q) ≡ at + length (encode d P) =
            (let k = size free d P rest few scope st l (Q ∷ []) q in omega (arith, length-append (encode (binders P + d) Q) [])) in
            first_is free d P rest few scope st l Q [] q
            ∙ rw (beneath free d P rest few scope st l (Q ∷ []) q, or_false, m)
        go (Q ∷ Q₂ ∷ Qs) q =
            let n : length (subterms P) ≡ suc (suc (length Qs)) = ap length q in
            absurd (omega (arith, (F.is free d P rest few scope st l).2))

    pub unused_two : (h.subterms ≡ 0 → ⊥) → (h.subterms ≡ 1 → ⊥) → (r : Option ℕ) → UnusedTo s e arities (inner + h.binds) r → UnusedTo s at arities inner r
    unfolding UnusedTo used_by encode_all
    unused_two z o r S free d P rest few scope st l = go (subterms P) refl
      where
        go : (Ps : List Term) → subterms P ≡ Ps → r ≡ cond (among (fn P) inner) None (Some (at + length (encode d P)))
        go [] q = absurd (z ((F.is free d P rest few scope st l).2 ∙ ap length q))
        go (Q ∷ []) q = absurd (o ((F.is free d P rest few scope st l).2 ∙ ap length q))
        go (Q₁ ∷ Q₂ ∷ []) q = rw (beneath free d P rest few scope st l (Q₁ ∷ Q₂ ∷ []) q, or_false) (at_first (among (fn Q₁) (binders P + inner)) refl)
          where
            E₁ : List ℕ
            E₁ = encode (binders P + d) Q₁

            E₂ : List ℕ
            E₂ = encode (binders P + d) Q₂

            at_first : (t : Bool) → among (fn Q₁) (binders P + inner) ≡ t
                → r ≡ cond (t || among (fn Q₂) (binders P + inner)) None (Some (at + length (encode d P)))
            at_first true t = none_not_some (first_is free d P rest few scope st l Q₁ (Q₂ ∷ []) q ∙ rw t)
            at_first false t =
                let k : e ≡ at + h.len + length E₁ = some_is (first_is free d P rest few scope st l Q₁ (Q₂ ∷ []) q ∙ rw t) in
                let b = (F.is free d P rest few scope st l).1 in
                let c : inner + h.binds ≡ binders P + inner = omega (arith, b) in
                let S' : UnusedTo s e arities (binders P + inner) r = subst (λ (k : ℕ). UnusedTo s e arities k r) c S in
                let p : drop (at + h.len) s ≡ E₁ ++ (E₂ ++ rest) =
                part free d P rest few scope st l (Q₁ ∷ Q₂ ∷ []) q ∙ rw (append-nil) (append_assoc E₁ E₂ rest) in
                let st₂ : drop e s ≡ E₂ ++ rest = rw (k, ← drop-drop (length E₁) (at + h.len) s, p, drop-append_seam) in
                let m : e + length E₂ ≡ at + length (encode d P) =
                (let y = size free d P rest few scope st l (Q₁ ∷ Q₂ ∷ []) q in
                omega (arith, length-append E₁ (E₂ ++ []), length-append E₂ [])) in
                S' free (binders P + d) Q₂ rest few
                (subst (AllInScope free arities (binders P + d)) q (subterms_scope free arities d P scope)).1.0 st₂ (omega arith)
                ∙ ap (λ (k : ℕ). cond (among (fn Q₂) (binders P + inner)) None (Some k)) m
        go (Q₁ ∷ Q₂ ∷ Q₃ ∷ Qs) q = absurd (omega (arith, at_most_two P, ap length q))

  -- The name is free in the first subterm.
  pub unused-first : (h.subterms ≡ 0 → ⊥) → UnusedTo s (at + h.len) arities (inner + h.binds) None → UnusedTo s at arities inner None
  unfolding UnusedTo used_by encode_all
  unused-first z R free d P rest few scope st l = go (subterms P) refl
    where
      go : (Ps : List Term) → subterms P ≡ Ps → None ≡ cond (among (fn P) inner) None (Some (at + length (encode d P)))
      go [] q = absurd (z ((F.is free d P rest few scope st l).2 ∙ ap length q))
      go (Q ∷ Qs) q = rw (beneath free d P rest few scope st l (Q ∷ Qs) q) (at_first (among (fn Q) (binders P + inner)) refl)
        where
          at_first : (t : Bool) → among (fn Q) (binders P + inner) ≡ t
              → None ≡ cond (t || used_by Qs (binders P + inner)) None (Some (at + length (encode d P)))
          at_first true t = refl
          at_first false t =
              let b = (F.is free d P rest few scope st l).1 in
              let c : inner + h.binds ≡ binders P + inner = omega (arith, b) in
              let R' : UnusedTo s (at + h.len) arities (binders P + inner) None = subst (λ (k : ℕ). UnusedTo s (at + h.len) arities k None) c R in
              none_not_some {e = at + h.len + length (encode (binders P + d) Q)} (sym (R' free (binders P + d) Q (encode_all (binders P + d) Qs ++ rest) few
              (subst (AllInScope free arities (binders P + d)) q (subterms_scope free arities d P scope)).0
              (part free d P rest few scope st l (Q ∷ Qs) q ∙ append_assoc (encode (binders P + d) Q) (encode_all (binders P + d) Qs) rest)
              (omega arith) ∙ rw t))

-- The name is one of those at the front, or no term stands there.
pub unused_not : (s : List ℕ) (at : ℕ) (arities : List ℕ) (inner : ℕ) → UnusedFrontIs s at arities inner None → UnusedTo s at arities inner None
unfolding UnusedTo
unused_not s at arities inner F free d P rest few scope e l = rw (among-parts P inner, F free d P rest few scope e l)

-- A restriction that binds nothing, by its first byte and where the search for its name ends.
module _ (s : List ℕ) (at : ℕ) (arities : List ℕ) where
  abbrev Says : (free d : ℕ) (rest : List ℕ) (r : Bool) → Term → Type 0
  Says free d rest r P = InScope free arities d P → drop at s ≡ encode d P ++ rest → r ≡ binds_nothing P

  pub first_byte_lem : (d : ℕ) (P : Term) (rest : List ℕ) → drop at s ≡ encode d P ++ rest → get_or s at 0 ≡ get_or (encode d P) 0 0
  first_byte_lem d P rest st = ap (λ (k : ℕ). get_or s k 0) (omega arith) ∙ get_d_front s at (encode d P) rest 0 st (encode-some d P)

  -- by the ten forms
  forms : (free d : ℕ) (rest : List ℕ) (r : Bool) → ((P : Term) → ¬ (get_or s at 0 ≡ 8) → r ≡ false) → ((Q : Term) → get_or s at 0 ≡ 8 → Says free d rest r (res Q))
      → (P : Term) → Says free d rest r P
  unfolding binds_nothing encode
  forms free d rest r other restricted P scope st = go P (first_byte_lem d P rest st) scope st
    where
      go : (P : Term) → get_or s at 0 ≡ get_or (encode d P) 0 0 → Says free d rest r P
      go nil t scope st = other nil (λ q. omega arith)
      go (tau P) t scope st = other (tau P) (λ q. omega arith)
      go (inp a P) t scope st = other (inp a P) (λ q. omega arith)
      go (out a b P) t scope st = other (out a b P) (λ q. omega arith)
      go (bout a P) t scope st = other (bout a P) (λ q. omega arith)
      go (mat a b P) t scope st = other (mat a b P) (λ q. omega arith)
      go (sum P Q) t scope st = other (sum P Q) (λ q. omega arith)
      go (par P Q) t scope st = other (par P Q) (λ q. omega arith)
      go (res Q) t scope st = restricted Q t scope st
      go (call k ns) t scope st = other (call k ns) (λ q. omega arith)

  pub binds_past : length s ≤ at → BindsNothing s at arities false
  unfolding BindsNothing
  binds_past past free d P rest few scope st = absurd (none-past s at arities past free d P rest scope st)

  pub binds_other : ¬ (get_or s at 0 ≡ 8) → BindsNothing s at arities false
  unfolding BindsNothing
  binds_other not8 free d P rest few scope st = forms free d rest false (λ X q. refl) (λ Q t. absurd (not8 t)) P scope st

  module _ (tag : get_or s at 0 ≡ 8) (e : Option ℕ) (U : UnusedTo s (at + 1) arities 0 e) where
    search : (free d : ℕ) (Q : Term) (rest : List ℕ) → free ≤ table_names → InScope free arities d (res Q) → drop at s ≡ encode d (res Q) ++ rest
        → e ≡ cond (among (fn Q) 0) None (Some (at + 1 + length (encode (1 + d) Q)))
    unfolding UnusedTo encode InScope
    search free d Q rest few scope st = U free (1 + d) Q rest few scope (sym (drop-drop 1 at s) ∙ ap (drop 1) st) (omega arith)

    -- the answer is whether there is an end
    pub binds_found : BindsNothing s at arities (is_some e)
    unfolding BindsNothing binds_nothing
    binds_found free d P rest few scope st = forms free d rest (is_some e) (λ X q. absurd (q tag)) found P scope st
      where
        found : (Q : Term) → get_or s at 0 ≡ 8 → Says free d rest (is_some e) (res Q)
        found Q t scope st = go (among (fn Q) 0) refl
          where
            go : (b : Bool) → among (fn Q) 0 ≡ b → is_some e ≡ not b
            go true b = let k : e ≡ None = search free d Q rest few scope st ∙ rw b in rw k
            go false b = let k : e ≡ Some (at + 1 + length (encode (1 + d) Q)) = search free d Q rest few scope st ∙ rw b in rw k
