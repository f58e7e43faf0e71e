-- Two terms whose fronts and subterms are the same by the slots of their names are one term once these are read. Assumes nothing.
use mathlib.Core.Bool.{Bool, true, false, cond}
use mathlib.Core.List.{List, [], ◌∷◌, ◌++◌, map, append_assoc, append-nil}
use mathlib.Core.Logic.{⊎_elim}
use mathlib.Core.Path.{◌≡◌, refl, sym, ◌∙◌, ap, ap₂, subst}
use native.Mathlib.Nat.{add-zero, zero-add, eq-or-lt_of_le}
use native.Mathlib.Omega.{arith}
use Prim.Native.Nat.{ℕ, zero, suc, ◌+◌, ◌*◌, ◌^◌, ◌<◌, ◌≤◌, max}
use lib.Dec.{eqb}
use lib.ListN.{length, get_or, drop, length-append, length-map}
use lib.Seq.{ext_get_or}
use Rattle.calculus.specs.Term.{Term, nil, tau, inp, out, bout, mat, sum, par, res, call, ren}
use Rattle.terms.specs.Encoding.{name_byte, encode, InScope}
use Rattle.terms.specs.Limits.{name_count}
use Rattle.terms_bytes.specs.Shape.{fixed_bytes, own_names, binders, subterms, front_bytes, fixed_at, names_at, binders_at, subterms_at, ShapeIs}
use Rattle.terms_bytes.specs.declared.shape.Shape.{Shape}
use Rattle.terms_bytes.proofs.NameTables.{lift_by}
use Rattle.terms_bytes.proofs.Shapes.{encode_all, encode-parts, at_most_two, fixed_ren, names-ren, subterms-ren, front_of, AllInScope, names_scope, subterms_scope, shape_names, shape_binds, shape_parts, span_fixed, span-names, length_front}
use Rattle.terms.proofs.RenamingKeeps.{length-ren}
use Rattle.terms_bytes.proofs.Stores.{span, length-span, get_d_span, get_d_map}
use Rattle.steps_labels.specs.LabelWalk.{slot_at, HasSlots}
use Rattle.steps_labels.proofs.ArgumentSlots.{slots_lift}
use Rattle.steps_passing.proofs.CalledPasses.{name_within}
use Rattle.steps_tallies.proofs.FrontLaws.{behind}
use Rattle.steps_entries.specs.Entries.{Alike}
use Rattle.steps_equal_branches.specs.Same.{SameNames, SameFront, Both, SameIs}
use Rattle.steps_equal_branches.proofs.RaisedMeetings.{slot_one}

-- A term by its fixed bytes, its names and its subterms.
build : List ℕ → List ℕ → List Term → Term
build f ns Ps =
    let t = get_or f 0 0 in
    let a = get_or ns 0 0 in
    let b = get_or ns 1 0 in
    let P = get_or Ps 0 nil in
    let Q = get_or Ps 1 nil in
    cond (eqb t 0) nil (cond (eqb t 1) (tau P) (cond (eqb t 2) (inp a P) (cond (eqb t 3) (out a b P) (cond (eqb t 4) (bout a P)
    (cond (eqb t 5) (mat a b P) (cond (eqb t 6) (sum P Q) (cond (eqb t 7) (par P Q) (cond (eqb t 8) (res P) (call (get_or f 1 0) ns)))))))))

built : (P : Term) → build (fixed_bytes P) (own_names P) (subterms P) ≡ P
unfolding build fixed_bytes own_names subterms
built nil = refl
built (tau P) = refl
built (inp a P) = refl
built (out a b P) = refl
built (bout a P) = refl
built (mat a b P) = refl
built (sum P Q) = refl
built (par P Q) = refl
built (res P) = refl
built (call k ns) = refl

same_shape : (σ : ℕ → ℕ) (P B : Term) → fixed_bytes P ≡ fixed_bytes B → map σ (own_names P) ≡ map σ (own_names B)
    → map (ren (lift_by (binders P) σ)) (subterms P) ≡ map (ren (lift_by (binders B) σ)) (subterms B) → ren σ P ≡ ren σ B
same_shape σ P B f n s =
    let f' = fixed_ren σ P ∙ f ∙ sym (fixed_ren σ B) in
    let n' = names-ren σ P ∙ n ∙ sym (names-ren σ B) in
    let s' = subterms-ren σ P ∙ s ∙ sym (subterms-ren σ B) in
    sym (built (ren σ P)) ∙ (λ i. build (f' i) (n' i) (s' i)) ∙ built (ren σ B)

-- Beneath b binders more.
slots_under : (b free D : ℕ) (args : List ℕ) (inner depth : ℕ) (σ : ℕ → ℕ) → free ≤ name_count → HasSlots free D args inner depth σ
    → HasSlots free (b + D) args (inner + b) (depth + b) (lift_by b σ)
slots_under zero free D args inner depth σ few has = rw (zero-add, add-zero, add-zero) has
slots_under (suc b) free D args inner depth σ few has =
    let x : suc b + D ≡ 1 + (b + D) = omega arith in
    let y : inner + suc b ≡ inner + b + 1 = omega arith in
    let z : depth + suc b ≡ depth + b + 1 = omega arith in
    rw (x, y, z) (slots_lift free (b + D) args (inner + b) (depth + b) (lift_by b σ) few (slots_under b free D args inner depth σ few has))

-- The first subterm stands behind the front, and each other one behind the one before it.
module _ (s : List ℕ) (at free : ℕ) (arities : List ℕ) (D : ℕ) (P : Term) (rest : List ℕ) (scope : InScope free arities D P) (st : drop at s ≡ encode D P ++ rest)
    (b : ℕ) (eb : b ≡ binders P) (Q : Term) (Qs : List Term) (q : subterms P ≡ Q ∷ Qs) where
  scopes : AllInScope free arities (b + D) (Q ∷ Qs)
  scopes = subst (λ (b : ℕ). AllInScope free arities (b + D) (Q ∷ Qs)) (sym eb) (subst (AllInScope free arities (binders P + D)) q (subterms_scope free arities D P scope))

  first_stands : (n : ℕ) → n ≡ length (front_bytes D P) → drop (at + n) s ≡ encode (b + D) Q ++ (encode_all (b + D) Qs ++ rest)
  unfolding encode_all
  first_stands n l =
      behind s at n (front_bytes D P) (encode (b + D) Q ++ (encode_all (b + D) Qs ++ rest))
      (st ∙ ap (λ (l : List ℕ). l ++ rest) (encode-parts D P) ∙ append_assoc (front_bytes D P) (encode_all (binders P + D) (subterms P)) rest
      ∙ (λ i. front_bytes D P ++ (encode_all (sym eb i + D) (q i) ++ rest)) ∙ ap (λ (l : List ℕ). front_bytes D P ++ l) (append_assoc (encode (b + D) Q) (encode_all (b + D) Qs) rest)) l

module _ (s : List ℕ) (at free : ℕ) (arities : List ℕ) (D : ℕ) (P : Term) (rest : List ℕ) (scope : InScope free arities D P) (st : drop at s ≡ encode D P ++ rest)
    (b : ℕ) (eb : b ≡ binders P) (Q R : Term) (q : subterms P ≡ Q ∷ R ∷ []) where
  second_stands : (n e : ℕ) → n ≡ length (front_bytes D P) → e ≡ length (encode (b + D) Q) → drop (at + (n + e)) s ≡ encode (b + D) R ++ ([] ++ rest)
  unfolding encode_all
  second_stands n e l k =
      let x : at + (n + e) ≡ at + n + e = omega arith in
      ap (λ (m : ℕ). drop m s) x
      ∙ behind s (at + n) e (encode (b + D) Q) (encode_all (b + D) (R ∷ []) ++ rest) (first_stands s at free arities D P rest scope st b eb Q (R ∷ []) q n l) k
      ∙ append_assoc (encode (b + D) R) [] rest

length-parts : (d : ℕ) (P : Term) → length (encode d P) ≡ length (front_bytes d P) + length (encode_all (binders P + d) (subterms P))
length-parts d P = ap length (encode-parts d P) ∙ length-append (front_bytes d P) (encode_all (binders P + d) (subterms P))

-- What is alike is one list.
alike_spans : (s : List ℕ) (p at n : ℕ) → p ≤ at → at + n ≤ length s → Alike s p s at n → span s p n ≡ span s at n
alike_spans s p at n h l same =
    ext_get_or 0 (span s p n) (span s at n) (length-span s p n (omega arith) ∙ sym (length-span s at n l))
    (λ i k. let j : i < n = omega (arith, length-span s p n (omega arith)) in get_d_span s p n i j ∙ same i j ∙ sym (get_d_span s at n i j))

-- The lengths of two subterms and the front before them are together a number.
pub lengths_fit : (at n e f L : ℕ) → at + n ≤ L → at + n + e ≤ max (at + n) L → at + (n + e) + f ≤ max (at + (n + e)) L → L * 1 < 2 ^ 63 → n + e + f < 2 ^ 64
lengths_fit at n e f L h i j k = omega arith

-- One name more.
pub names_more : (s args : List ℕ) (inner depth p at j : ℕ) → SameNames s args inner depth p at j
    → slot_at args inner depth (get_or s (p + j) 0) ≡ slot_at args inner depth (get_or s (at + j) 0) → SameNames s args inner depth p at (j + 1)
names_more s args inner depth p at j same e k h = ⊎_elim
    (λ q. ap (λ (k : ℕ). slot_at args inner depth (get_or s (p + k) 0)) q ∙ e ∙ ap (λ (k : ℕ). slot_at args inner depth (get_or s (at + k) 0)) (sym q))
    (λ q. same k q) (eq-or-lt_of_le {n = k} {m = j} (omega arith))

module _ (s : List ℕ) (p at : ℕ) (arities args : List ℕ) (inner depth : ℕ) where
  abbrev pub Same : ℕ → Type 0
  Same r = SameIs s p at arities args inner depth r

  pub same_not : Same 0
  same_not = record { inside = omega arith; first = λ h. absurd (omega arith); is = λ h. absurd (omega arith) }

  -- Equal fronts: h is the shape of both.
  module _ (before : p < at) (h : Shape) (is : ShapeIs s at arities h) (F : SameFront s args inner depth p at h.fixed h.names) where
    first_byte_lem : get_or s p 0 ≡ get_or s at 0
    first_byte_lem = rw (add-zero, add-zero) at (F.bytes 0 is.some)

    too : ShapeIs s p arities h
    unfolding fixed_at names_at
    too = record {
      fixed = is.fixed ∙ ap fixed_at (sym first_byte_lem);
      names = is.names ∙ go (eqb (get_or s at 0) 9) refl ∙ ap (λ (t : ℕ). names_at arities t (get_or s (p + 1) 0)) (sym first_byte_lem);
      binds = is.binds ∙ ap binders_at (sym first_byte_lem);
      subterms = is.subterms ∙ ap subterms_at (sym first_byte_lem);
      some = is.some;
      few = is.few;
      one = is.one;
    }
      where
        go : (t : Bool) → eqb (get_or s at 0) 9 ≡ t → names_at arities (get_or s at 0) (get_or s (at + 1) 0) ≡ names_at arities (get_or s at 0) (get_or s (p + 1) 0)
        go true t =
            let two : 1 < h.fixed = omega (arith, is.fixed ∙ ap (λ (t : Bool). cond t 2 1) t) in
            ap (names_at arities (get_or s at 0)) (sym (F.bytes 1 two))
        go false t = rw t

    -- of the two terms
    module _ (free D : ℕ) (σ : ℕ → ℕ) (P B : Term) (x : Both s p at arities args inner depth free D σ P B) where
      fixed_same : fixed_bytes P ≡ fixed_bytes B
      fixed_same =
          sym (span_fixed s at arities h is D P (front_of free arities D P x.scope) x.rest x.stands)
          ∙ sym (alike_spans s p at h.fixed (omega arith) (let i = F.inside in omega arith) F.bytes)
          ∙ span_fixed s p arities h too D B (front_of free arities D B x.scope_too) x.more x.stands_too

      names_long : h.names ≡ length (own_names P)
      names_long = shape_names s at arities h is D P (front_of free arities D P x.scope) x.rest x.stands

      names_long_too : h.names ≡ length (own_names B)
      names_long_too = shape_names s p arities h too D B (front_of free arities D B x.scope_too) x.more x.stands_too

      -- the j-th name stands behind the fixed bytes
      name_read : (at : ℕ) (P : Term) → span s (at + h.fixed) h.names ≡ map (name_byte D) (own_names P) → (j : ℕ) → j < h.names → j < length (own_names P)
          → get_or s (at + h.fixed + j) 0 ≡ name_byte D (get_or (own_names P) j 0)
      name_read at P e j l k =
          sym (get_d_span s (at + h.fixed) h.names j l) ∙ ap (λ (l : List ℕ). get_or l j 0) e ∙ get_d_map (name_byte D) (own_names P) j k

      names_same : map σ (own_names P) ≡ map σ (own_names B)
      unfolding HasSlots
      names_same =
          let Ns = own_names P in
          let Ms = own_names B in
          let ln : length (map σ Ns) ≡ length Ns = length-map Ns σ in
          let lm : length (map σ Ms) ≡ length Ms = length-map Ms σ in
          ext_get_or 0 (map σ Ns) (map σ Ms) (ln ∙ sym names_long ∙ names_long_too ∙ sym lm) (λ j k.
          let l : j < h.names = omega (arith, names_long) in
          let ln' : j < length Ns = omega (arith, names_long) in
          let lm' : j < length Ms = omega (arith, names_long_too) in
          let (e, b) = x.has (get_or Ns j 0) (name_within free D Ns (names_scope free arities D P x.scope) j ln') in
          let (e', b') = x.has (get_or Ms j 0) (name_within free D Ms (names_scope free arities D B x.scope_too) j lm') in
          let r = name_read at P (span-names s at arities h is D P (front_of free arities D P x.scope) x.rest x.stands) j l ln' in
          let r' = name_read p B (span-names s p arities h too D B (front_of free arities D B x.scope_too) x.more x.stands_too) j l lm' in
          get_d_map σ Ns j ln'
          ∙ slot_one name_count depth (σ (get_or Ns j 0)) (σ (get_or Ms j 0)) b b'
          (sym e ∙ ap (slot_at args inner depth) (sym r) ∙ sym (F.names_are j l) ∙ ap (slot_at args inner depth) r' ∙ e')
          ∙ sym (get_d_map σ Ms j lm'))

      front_long : h.fixed + h.names ≡ length (front_bytes D P)
      front_long = length_front s at arities h is D P (front_of free arities D P x.scope) x.rest x.stands

      front_long_too : h.fixed + h.names ≡ length (front_bytes D B)
      front_long_too = length_front s p arities h too D B (front_of free arities D B x.scope_too) x.more x.stands_too

      binds_are : h.binds ≡ binders P
      binds_are = shape_binds s at arities h is D P (front_of free arities D P x.scope) x.rest x.stands

      binds_are_too : h.binds ≡ binders B
      binds_are_too = shape_binds s p arities h too D B (front_of free arities D B x.scope_too) x.more x.stands_too

      parts_are : h.subterms ≡ length (subterms P)
      parts_are = shape_parts s at arities h is D P (front_of free arities D P x.scope) x.rest x.stands

      parts_are_too : h.subterms ≡ length (subterms B)
      parts_are_too = shape_parts s p arities h too D B (front_of free arities D B x.scope_too) x.more x.stands_too

      -- the whole terms, by their subterms
      whole : (Ps Bs : List Term) → subterms P ≡ Ps → subterms B ≡ Bs → (k : ℕ) → k ≡ length (encode_all (h.binds + D) Ps)
          → map (ren (lift_by h.binds σ)) Ps ≡ map (ren (lift_by h.binds σ)) Bs → (h.fixed + h.names + k ≡ length (encode D P)) × (ren σ P ≡ ren σ B)
      whole Ps Bs q q' k l e = (
        omega (arith, front_long, length-parts D P, ap length (λ i. encode_all (binds_are i + D) (sym q i))),
        same_shape σ P B fixed_same names_same ((λ i. map (ren (lift_by (sym binds_are i) σ)) (q i)) ∙ e ∙ (λ i. map (ren (lift_by (binds_are_too i) σ)) (sym q' i))),
      )

      beneath : (Q C : Term) (Qs Cs : List Term) → subterms P ≡ Q ∷ Qs → subterms B ≡ C ∷ Cs
          → Both s (p + (h.fixed + h.names)) (at + (h.fixed + h.names)) arities args (inner + h.binds) (depth + h.binds) free (h.binds + D) (lift_by h.binds σ) Q C
      beneath Q C Qs Cs q q' = record {
        few = x.few;
        has = slots_under h.binds free D args inner depth σ x.few x.has;
        scope = (scopes s at free arities D P x.rest x.scope x.stands h.binds binds_are Q Qs q).0;
        scope_too = (scopes s p free arities D B x.more x.scope_too x.stands_too h.binds binds_are_too C Cs q').0;
        rest = _;
        stands = first_stands s at free arities D P x.rest x.scope x.stands h.binds binds_are Q Qs q (h.fixed + h.names) front_long;
        more = _;
        stands_too = first_stands s p free arities D B x.more x.scope_too x.stands_too h.binds binds_are_too C Cs q' (h.fixed + h.names) front_long_too;
      }

      behind-first : (Q C R E : Term) → subterms P ≡ Q ∷ R ∷ [] → subterms B ≡ C ∷ E ∷ [] → (e : ℕ) → e ≡ length (encode (h.binds + D) Q)
          → ren (lift_by h.binds σ) Q ≡ ren (lift_by h.binds σ) C
          → Both s (p + (h.fixed + h.names + e)) (at + (h.fixed + h.names + e)) arities args (inner + h.binds) (depth + h.binds) free (h.binds + D) (lift_by h.binds σ) R E
      behind-first Q C R E q q' e l y =
          let τ = lift_by h.binds σ in
          let l' : e ≡ length (encode (h.binds + D) C) =
          l ∙ sym (length-ren (h.binds + D) 0 τ Q) ∙ ap (λ (T : Term). length (encode 0 T)) y ∙ length-ren (h.binds + D) 0 τ C in
          record {
            few = x.few;
            has = slots_under h.binds free D args inner depth σ x.few x.has;
            scope = (scopes s at free arities D P x.rest x.scope x.stands h.binds binds_are Q (R ∷ []) q).1.0;
            scope_too = (scopes s p free arities D B x.more x.scope_too x.stands_too h.binds binds_are_too C (E ∷ []) q').1.0;
            rest = _;
            stands = second_stands s at free arities D P x.rest x.scope x.stands h.binds binds_are Q R q (h.fixed + h.names) e front_long l;
            more = _;
            stands_too = second_stands s p free arities D B x.more x.scope_too x.stands_too h.binds binds_are_too C E q' (h.fixed + h.names) e front_long_too l';
          }

      abbrev Says : ℕ → Type 0
      Says r = (r ≡ length (encode D P)) × (ren σ P ≡ ren σ B)

      none-beneath : h.subterms ≡ 0 → Says (h.fixed + h.names)
      unfolding encode_all
      none-beneath z = go (subterms P) refl (subterms B) refl
        where
          go : (Ps : List Term) → subterms P ≡ Ps → (Bs : List Term) → subterms B ≡ Bs → Says (h.fixed + h.names)
          go [] q [] q' = let (l, y) = whole [] [] q q' 0 refl refl in (omega (arith, l), y)
          go [] q (C ∷ Cs) q' = absurd (omega (arith, parts_are_too, ap length q'))
          go (Q ∷ Qs) q Bs q' = absurd (omega (arith, parts_are, ap length q))

      module _ (e : ℕ) (some : 0 < e)
          (S : SameIs s (p + (h.fixed + h.names)) (at + (h.fixed + h.names)) arities args (inner + h.binds) (depth + h.binds) e) where
        one_beneath : h.subterms ≡ 1 → Says (h.fixed + h.names + e)
        unfolding encode_all
        one_beneath z = go (subterms P) refl (subterms B) refl
          where
            go : (Ps : List Term) → subterms P ≡ Ps → (Bs : List Term) → subterms B ≡ Bs → Says (h.fixed + h.names + e)
            go (Q ∷ []) q (C ∷ []) q' =
                let (l, y) = S.is some free (h.binds + D) (lift_by h.binds σ) Q C (beneath Q C [] [] q q') in
                whole (Q ∷ []) (C ∷ []) q q' e (l ∙ ap length (sym (append-nil (encode (h.binds + D) Q)))) (ap (λ (T : Term). T ∷ []) y)
            go [] q Bs q' = absurd (omega (arith, parts_are, ap length q))
            go (Q ∷ Q₂ ∷ Qs) q Bs q' = absurd (omega (arith, parts_are, ap length q))
            go (Q ∷ []) q [] q' = absurd (omega (arith, parts_are_too, ap length q'))
            go (Q ∷ []) q (C ∷ C₂ ∷ Cs) q' = absurd (omega (arith, parts_are_too, ap length q'))

        two_beneath : (h.subterms ≡ 0 → ⊥) → (h.subterms ≡ 1 → ⊥) → (f : ℕ) → 0 < f
            → SameIs s (p + (h.fixed + h.names + e)) (at + (h.fixed + h.names + e)) arities args (inner + h.binds) (depth + h.binds) f
            → Says (h.fixed + h.names + e + f)
        unfolding encode_all
        two_beneath z o f more' T = go (subterms P) refl (subterms B) refl
          where
            go : (Ps : List Term) → subterms P ≡ Ps → (Bs : List Term) → subterms B ≡ Bs → Says (h.fixed + h.names + e + f)
            go (Q ∷ R ∷ []) q (C ∷ E ∷ []) q' =
                let b = h.binds in
                let τ = lift_by b σ in
                let (l, y) = S.is some free (b + D) τ Q C (beneath Q C (R ∷ []) (E ∷ []) q q') in
                let (k, w) = T.is more' free (b + D) τ R E (behind-first Q C R E q q' e l y) in
                let (u, v) = whole (Q ∷ R ∷ []) (C ∷ E ∷ []) q q' (e + f)
                (omega (arith, l, k, length-append (encode (b + D) Q) (encode (b + D) R ++ []), ap length (append-nil (encode (b + D) R))))
                (ap₂ (λ (T U : Term). T ∷ U ∷ []) y w) in
                (omega (arith, u), v)
            go [] q Bs q' = absurd (z (parts_are ∙ ap length q))
            go (Q ∷ []) q Bs q' = absurd (o (parts_are ∙ ap length q))
            go (Q ∷ R ∷ R₂ ∷ Rs) q Bs q' = absurd (omega (arith, at_most_two P, ap length q))
            go (Q ∷ R ∷ []) q [] q' = absurd (z (parts_are_too ∙ ap length q'))
            go (Q ∷ R ∷ []) q (C ∷ []) q' = absurd (o (parts_are_too ∙ ap length q'))
            go (Q ∷ R ∷ []) q (C ∷ E ∷ E₂ ∷ Es) q' = absurd (omega (arith, at_most_two B, ap length q'))

    -- What the walk answers, by the number of the subterms.
    pub same_none : h.subterms ≡ 0 → Same (h.fixed + h.names)
    same_none z = record {
      inside = let i = F.inside in omega arith;
      first = λ _. first_byte_lem;
      is = λ _ free D σ P B x. none-beneath free D σ P B x z;
    }

    module _ (e : ℕ) (some : 0 < e)
        (S : SameIs s (p + (h.fixed + h.names)) (at + (h.fixed + h.names)) arities args (inner + h.binds) (depth + h.binds) e) where
      pub same_one : h.subterms ≡ 1 → Same (h.fixed + h.names + e)
      same_one z = record {
        inside = let i = F.inside in let j = S.inside in omega arith;
        first = λ _. first_byte_lem;
        is = λ _ free D σ P B x. one_beneath free D σ P B x e some S z;
      }

      pub same_two : (h.subterms ≡ 0 → ⊥) → (h.subterms ≡ 1 → ⊥) → (f : ℕ) → 0 < f
          → SameIs s (p + (h.fixed + h.names + e)) (at + (h.fixed + h.names + e)) arities args (inner + h.binds) (depth + h.binds) f
          → Same (h.fixed + h.names + e + f)
      same_two z o f more T = record {
        inside = let i = F.inside in let j = S.inside in let k = T.inside in omega arith;
        first = λ _. first_byte_lem;
        is = λ _ free D σ P B x. two_beneath free D σ P B x e some S z o f more T;
      }
