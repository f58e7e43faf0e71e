-- One front copied.
use mathlib.Core.Path.{◌≡◌, refl, sym, ap, ap₂, subst, ◌∙◌}
use mathlib.Core.Bool.{Bool, true, false, cond}
use borrow.Author.Tests.{ne_eqb}
use mathlib.Core.List.{List, [], ◌∷◌, ◌++◌, map, append_assoc}
use Prim.Native.Nat.{ℕ, suc, ◌+◌, ◌<◌, ◌≤◌}
use native.Mathlib.Omega.{arith}
use lib.ListN.{length, get_or, take, drop, set, length-append, length-drop, length-map}
use lib.Seq.{sets, drop-drop, take_at, get_or-drop}
use Rattle.calculus.specs.Term.{Term, nil, tau, inp, out, bout, mat, sum, par, res, call}
use Rattle.terms.specs.Encoding.{name_byte, InScope}
use Rattle.terms_bytes.specs.Shape.{fixed_bytes, own_names, binders, subterms, names_behind, names_at, ShapeIs}
use Rattle.terms_bytes.specs.declared.shape.Shape.{Shape}
use Rattle.terms_bytes.proofs.Stores.{sets-join, span, length-span}
use Rattle.terms.specs.Edition.{Edition, one, two, other, count_bytes, encode_in}
use Rattle.terms_bytes.specs.Counted.{edition_from}
use Rattle.terms_converting.specs.Converting.{count_of, front_in, RunIs, ConvertsFront}
use Rattle.terms_converting.specs.declared.term.Copied.{Copied}
use Rattle.terms_converting.proofs.ConvertLaws.{encode_all_in, parts_in}

module _ (src : List ℕ) (at : ℕ) (area : List ℕ) (to : ℕ) (begins : at < length src) where
  abbrev none : Copied
  none = record { at = length src; to = to }

  pub run_short : (len : ℕ) (bytes : List ℕ) → length src < at + len → RunIs src at len bytes area to (record { at = length src; to = to }) area
  run_short len bytes h = record { on = λ p q. begins; inside = omega arith; is = λ p q. absurd (omega arith) }

  pub run_full : (len : ℕ) (bytes : List ℕ) → length area < to + length bytes → RunIs src at len bytes area to (record { at = length src; to = to }) area
  run_full len bytes h = record { on = λ p q. begins; inside = omega arith; is = λ p q. absurd (omega arith) }

module _ (src : List ℕ) (at : ℕ) (area : List ℕ) (to : ℕ) where
  pub plain_run : (n : ℕ) (area' : List ℕ) → at + n ≤ length src → area' ≡ sets area to (span src at n) →
      RunIs src at n (span src at n) area to (record { at = at + n; to = to + n }) area'
  plain_run n area' h w =
      let l = length-span src at n h in
      record { on = λ p q. omega arith; inside = h; is = λ p q. (refl, omega arith, w) }

  pub down_run : (count : ℕ) (area₁ area₂ : List ℕ) → at + (3 + count) ≤ length src → area₁ ≡ sets area to (span src at 2) →
      area₂ ≡ sets area₁ (to + 2) (span src (at + 3) count) →
      RunIs src at (3 + count) (span src at 2 ++ span src (at + 3) count) area to (record { at = at + (3 + count); to = to + (2 + count) }) area₂
  down_run count area₁ area₂ h w₁ w₂ =
      let l = length-span src at 2 (omega arith) in
      let m = length-span src (at + 3) count (omega arith) in
      let a = length-append (span src at 2) (span src (at + 3) count) in
      record {
        on = λ p q. omega arith;
        inside = h;
        is = λ p q. (
          refl,
          omega arith,
          w₂ ∙ ap (λ (x : List ℕ). sets x (to + 2) (span src (at + 3) count)) w₁
              ∙ sets-join area to (to + 2) (span src at 2) (span src (at + 3) count) (ap (λ (k : ℕ). to + k) (sym l)),
        );
      }

  pub up_run : (count : ℕ) (area₁ area₂ area₃ : List ℕ) → at + (2 + count) ≤ length src → area₁ ≡ sets area to (span src at 2) →
      area₂ ≡ set area₁ (to + 2) count → area₃ ≡ sets area₂ (to + 3) (span src (at + 2) count) →
      RunIs src at (2 + count) (span src at 2 ++ (count ∷ span src (at + 2) count)) area to (record { at = at + (2 + count); to = to + (3 + count) }) area₃
  up_run count area₁ area₂ area₃ h w₁ w₂ w₃ =
      let l = length-span src at 2 (omega arith) in
      let m = length-span src (at + 2) count (omega arith) in
      let a = length-append (span src at 2) (count ∷ span src (at + 2) count) in
      let t : to + 3 ≡ suc (to + 2) = omega arith in
      record {
        on = λ p q. omega arith;
        inside = h;
        is = λ p q. (
          refl,
          omega arith,
          w₃ ∙ ap₂ (λ (x : List ℕ) (k : ℕ). sets x k (span src (at + 2) count)) (w₂ ∙ ap (λ (x : List ℕ). set x (to + 2) count) w₁) t
              ∙ sets-join area to (to + 2) (span src at 2) (count ∷ span src (at + 2) count) (ap (λ (k : ℕ). to + k) (sym l)),
        );
      }

module _ (src : List ℕ) (at : ℕ) (area : List ℕ) (to : ℕ) (begins : at < length src) where
  pub plain_full : (n : ℕ) → at + n ≤ length src → length area < to + n → RunIs src at n (span src at n) area to (record { at = length src; to = to }) area
  plain_full n h o = let l = length-span src at n h in run_full src at area to begins n (span src at n) (omega arith)

  pub down_full : (count : ℕ) → at + (3 + count) ≤ length src → length area < to + (2 + count) →
      RunIs src at (3 + count) (span src at 2 ++ span src (at + 3) count) area to (record { at = length src; to = to }) area
  down_full count h o =
      let l = length-span src at 2 (omega arith) in
      let m = length-span src (at + 3) count (omega arith) in
      let a = length-append (span src at 2) (span src (at + 3) count) in
      run_full src at area to begins (3 + count) (span src at 2 ++ span src (at + 3) count) (omega arith)

  pub up_full : (count : ℕ) → at + (2 + count) ≤ length src → length area < to + (3 + count) →
      RunIs src at (2 + count) (span src at 2 ++ (count ∷ span src (at + 2) count)) area to (record { at = length src; to = to }) area
  up_full count h o =
      let l = length-span src at 2 (omega arith) in
      let m = length-span src (at + 2) count (omega arith) in
      let a = length-append (span src at 2) (count ∷ span src (at + 2) count) in
      run_full src at area to begins (2 + count) (span src at 2 ++ (count ∷ span src (at + 2) count)) (omega arith)

-- What stands at the front of a term.
first_byte_lem : (src : List ℕ) (at t : ℕ) (more : List ℕ) → drop at src ≡ t ∷ more → get_or src at 0 ≡ t
first_byte_lem src at t more h =
    let z : at + 0 ≡ at = omega arith in
    ap (λ (k : ℕ). get_or src k 0) (sym z) ∙ sym (get_or-drop at src 0 0) ∙ ap (λ (l : List ℕ). get_or l 0 0) h

second-byte : (src : List ℕ) (at t k : ℕ) (more : List ℕ) → drop at src ≡ t ∷ k ∷ more → get_or src (at + 1) 0 ≡ k
second-byte src at t k more h = sym (get_or-drop at src 1 0) ∙ ap (λ (l : List ℕ). get_or l 1 0) h

-- A front that is no call is the same in both editions, and as long as its first byte says.
module _ (src : List ℕ) (at : ℕ) (rest : List ℕ) where
  record Plain (e e' : Edition) (d : ℕ) (P : Term) : Type 0 where
    same : front_in e d P ≡ front_in e' d P
    size : length (front_in e d P) ≡ 1 + names_behind (get_or src at 0)

  -- t is its first byte, and its names follow
  plain_is : (e e' : Edition) (d : ℕ) (P : Term) (t : ℕ) (ns : List ℕ) → (b : Edition → List ℕ) → ((f : Edition) → front_in f d P ≡ t ∷ map (name_byte d) ns) →
      names_behind t ≡ length ns → drop at src ≡ (t ∷ map (name_byte d) ns) ++ (b e ++ rest) → Plain e e' d P
  plain_is e e' d P t ns b f n h =
      let z = first_byte_lem src at t (map (name_byte d) ns ++ (b e ++ rest)) h in
      let l = length-map ns (name_byte d) in
      record {
        same = f e ∙ sym (f e');
        size = ap length (f e) ∙ ap suc (l ∙ sym n ∙ ap names_behind (sym z)) ∙ one_more (names_behind (get_or src at 0));
      }
    where
      one_more : (n : ℕ) → suc n ≡ 1 + n
      one_more n = omega arith

  plain : (e e' : Edition) (d : ℕ) (P : Term) → drop at src ≡ encode_in e d P ++ rest → (get_or src at 0 ≡ 9 → ⊥) → Plain e e' d P
  unfolding encode_in front_in count_of fixed_bytes own_names
  plain e e' d nil h n = plain_is e e' d nil 0 [] (λ f. []) (λ f. refl) refl h
  plain e e' d (tau P) h n = plain_is e e' d (tau P) 1 [] (λ f. encode_in f d P) (λ f. refl) refl h
  plain e e' d (inp a P) h n = plain_is e e' d (inp a P) 2 (a ∷ []) (λ f. encode_in f (1 + d) P) (λ f. refl) refl h
  plain e e' d (out a b P) h n = plain_is e e' d (out a b P) 3 (a ∷ b ∷ []) (λ f. encode_in f d P) (λ f. refl) refl h
  plain e e' d (bout a P) h n = plain_is e e' d (bout a P) 4 (a ∷ []) (λ f. encode_in f (1 + d) P) (λ f. refl) refl h
  plain e e' d (mat a b P) h n = plain_is e e' d (mat a b P) 5 (a ∷ b ∷ []) (λ f. encode_in f d P) (λ f. refl) refl h
  plain e e' d (sum P Q) h n = plain_is e e' d (sum P Q) 6 [] (λ f. encode_in f d P ++ encode_in f d Q) (λ f. refl) refl h
  plain e e' d (par P Q) h n = plain_is e e' d (par P Q) 7 [] (λ f. encode_in f d P ++ encode_in f d Q) (λ f. refl) refl h
  plain e e' d (res P) h n = plain_is e e' d (res P) 8 [] (λ f. encode_in f (1 + d) P) (λ f. refl) refl h
  plain e e' d (call k ns) h n = absurd (n (first_byte_lem src at 9 _ h))

-- The span of a front.
span-front : (src : List ℕ) (at : ℕ) (F more : List ℕ) → drop at src ≡ F ++ more → span src at (length F) ≡ F
span-front src at F more h = ap (take (length F)) h ∙ take_at F more (length F) refl

front-before : (src : List ℕ) (at : ℕ) (e : Edition) (d : ℕ) (P : Term) (rest : List ℕ) → drop at src ≡ encode_in e d P ++ rest →
    drop at src ≡ front_in e d P ++ (encode_all_in e (binders P + d) (subterms P) ++ rest)
front-before src at e d P rest h =
    h ∙ ap (λ (l : List ℕ). l ++ rest) (parts_in e d P) ∙ append_assoc (front_in e d P) (encode_all_in e (binders P + d) (subterms P)) rest

front-inside : (src : List ℕ) (at : ℕ) (F more : List ℕ) → at < length src → drop at src ≡ F ++ more → at + length F ≤ length src
front-inside src at F more l h = omega (arith, ap length h, length-append F more, length-drop at src)

front_room : (e : Edition) (d : ℕ) (P : Term) → length (front_in e d P) ≤ length (encode_in e d P)
front_room e d P =
    omega (arith, ap length (parts_in e d P), length-append (front_in e d P) (encode_all_in e (binders P + d) (subterms P)))

nine : {x : ℕ} (t : ℕ) → x ≡ t → x ≡ 9 → (t ≡ 9 → ⊥) → ⊥
nine t p q f = f (sym p ∙ q)

module _ (src : List ℕ) (at : ℕ) (begins : at < length src) (arities : List ℕ) (counted : Bool) (area : List ℕ) (to : ℕ) (r : Copied) (area' : List ℕ) where
  pub plain_front_is : (h : Shape) → ShapeIs src at arities h → (get_or src at 0 ≡ 9 → ⊥) →
      RunIs src at (1 + h.names) (span src at (1 + h.names)) area to r area' → ConvertsFront src at arities counted area to r area'
  unfolding names_at
  plain_front_is h shape n run =
      let e = edition_from counted in
      let e' = other (edition_from counted) in
      let m : h.names ≡ names_behind (get_or src at 0) = shape.names ∙ ap (λ (b : Bool). cond b (get_or arities (get_or src (at + 1) 0) 0) (names_behind (get_or src at 0))) (ne_eqb (get_or src at 0) 9 n) in
      record {
        on = run.on (omega arith) begins;
        inside = run.inside;
        is = λ free d P rest scope st room.
            let p = plain src at rest e e' d P st n in
            let F = front_in e d P in
            let F' = front_in e' d P in
            let q : F ≡ F' = p.same in
            let l : length F ≡ 1 + h.names = p.size ∙ ap (λ (k : ℕ). 1 + k) (sym m) in
            let st₂ = front-before src at e d P rest st in
            let sp : span src at (1 + h.names) ≡ F = subst (λ (k : ℕ). span src at k ≡ F) l (span-front src at F _ st₂) in
            let i = front-inside src at F _ begins st₂ in
            let b = ap length sp in
            let c = ap length q in
            let y = run.is (omega arith) (omega (arith, front_room e' d P)) in
            (omega (arith, y.0), omega (arith, y.1), y.2 ∙ ap (sets area to) (sp ∙ q));
      }

  -- No term but a call begins with 9.
  call_only : (C : Type 0) (e : Edition) (d : ℕ) (P : Term) (rest : List ℕ) → get_or src at 0 ≡ 9 → drop at src ≡ encode_in e d P ++ rest →
      ((k : ℕ) (ns : List ℕ) → P ≡ call k ns → C) → C
  unfolding encode_in
  call_only C e d nil rest n h f = absurd (nine 0 (first_byte_lem src at 0 _ h) n (λ x. omega arith))
  call_only C e d (tau P) rest n h f = absurd (nine 1 (first_byte_lem src at 1 _ h) n (λ x. omega arith))
  call_only C e d (inp a P) rest n h f = absurd (nine 2 (first_byte_lem src at 2 _ h) n (λ x. omega arith))
  call_only C e d (out a b P) rest n h f = absurd (nine 3 (first_byte_lem src at 3 _ h) n (λ x. omega arith))
  call_only C e d (bout a P) rest n h f = absurd (nine 4 (first_byte_lem src at 4 _ h) n (λ x. omega arith))
  call_only C e d (mat a b P) rest n h f = absurd (nine 5 (first_byte_lem src at 5 _ h) n (λ x. omega arith))
  call_only C e d (sum P Q) rest n h f = absurd (nine 6 (first_byte_lem src at 6 _ h) n (λ x. omega arith))
  call_only C e d (par P Q) rest n h f = absurd (nine 7 (first_byte_lem src at 7 _ h) n (λ x. omega arith))
  call_only C e d (res P) rest n h f = absurd (nine 8 (first_byte_lem src at 8 _ h) n (λ x. omega arith))
  call_only C e d (call k ns) rest n h f = f k ns refl

module _ (src : List ℕ) (at : ℕ) (begins : at < length src) (arities : List ℕ) (area : List ℕ) (to : ℕ) (r : Copied) (area' : List ℕ) (count : ℕ)
    (counts : count ≡ get_or arities (get_or src (at + 1) 0) 0) where
  module _ (run : RunIs src at (3 + count) (span src at 2 ++ span src (at + 3) count) area to r area') where
    down_call : (free d k : ℕ) (ns rest : List ℕ) → InScope free arities d (call k ns) → drop at src ≡ encode_in two d (call k ns) ++ rest →
        to + length (encode_in one d (call k ns)) ≤ length area →
        (r.at ≡ at + length (front_in two d (call k ns))) × (r.to ≡ to + length (front_in one d (call k ns))) × (area' ≡ sets area to (front_in one d (call k ns)))
    unfolding encode_in front_in count_of count_bytes fixed_bytes own_names InScope
    down_call free d k ns rest scope st room =
        let M : List ℕ = map (name_byte d) ns in
        let lM : length M ≡ length ns = length-map ns (name_byte d) in
        let kk : get_or src (at + 1) 0 ≡ k = second-byte src at 9 k (length ns ∷ (M ++ rest)) st in
        let cnt : count ≡ length ns = counts ∙ ap (λ (j : ℕ). get_or arities j 0) kk ∙ sym scope.1 in
        let s₂ : span src at 2 ≡ 9 ∷ k ∷ [] = ap (take 2) st in
        let s₃ : span src (at + 3) count ≡ M = ap (take count) (sym (drop-drop 3 at src) ∙ ap (drop 3) st) ∙ take_at M rest count (lM ∙ sym cnt) in
        let bytes : span src at 2 ++ span src (at + 3) count ≡ 9 ∷ k ∷ M = ap₂ (λ (x y : List ℕ). x ++ y) s₂ s₃ in
        let b = ap length bytes in
        let i = front-inside src at (9 ∷ k ∷ length ns ∷ M) rest begins st in
        let y = run.is (omega arith) (omega arith) in
        (omega (arith, y.0), omega (arith, y.1), y.2 ∙ ap (sets area to) bytes)

    pub down_front_is : get_or src at 0 ≡ 9 → ConvertsFront src at arities true area to r area'
    unfolding edition_from
    down_front_is n =
        record {
          on = run.on (omega arith) begins;
          inside = run.inside;
          is = λ free d P rest scope st room.
              call_only src at begins arities true area to r area'
              ((r.at ≡ at + length (front_in two d P)) × (r.to ≡ to + length (front_in one d P)) × (area' ≡ sets area to (front_in one d P)))
              two d P rest n st
              (λ k ns q.
              subst (λ (Q : Term). (r.at ≡ at + length (front_in two d Q)) × (r.to ≡ to + length (front_in one d Q)) × (area' ≡ sets area to (front_in one d Q))) (sym q)
              (down_call free d k ns rest (subst (InScope free arities d) q scope)
              (st ∙ ap (λ (Q : Term). encode_in two d Q ++ rest) q) (subst (λ (Q : Term). to + length (encode_in one d Q) ≤ length area) q room)));
        }

  module _ (run : RunIs src at (2 + count) (span src at 2 ++ (count ∷ span src (at + 2) count)) area to r area') where
    up_call : (free d k : ℕ) (ns rest : List ℕ) → InScope free arities d (call k ns) → drop at src ≡ encode_in one d (call k ns) ++ rest →
        to + length (encode_in two d (call k ns)) ≤ length area →
        (r.at ≡ at + length (front_in one d (call k ns))) × (r.to ≡ to + length (front_in two d (call k ns))) × (area' ≡ sets area to (front_in two d (call k ns)))
    unfolding encode_in front_in count_of count_bytes fixed_bytes own_names InScope
    up_call free d k ns rest scope st room =
        let M : List ℕ = map (name_byte d) ns in
        let lM : length M ≡ length ns = length-map ns (name_byte d) in
        let kk : get_or src (at + 1) 0 ≡ k = second-byte src at 9 k (M ++ rest) st in
        let cnt : count ≡ length ns = counts ∙ ap (λ (j : ℕ). get_or arities j 0) kk ∙ sym scope.1 in
        let s₂ : span src at 2 ≡ 9 ∷ k ∷ [] = ap (take 2) st in
        let s₃ : span src (at + 2) count ≡ M = ap (take count) (sym (drop-drop 2 at src) ∙ ap (drop 2) st) ∙ take_at M rest count (lM ∙ sym cnt) in
        let bytes : span src at 2 ++ (count ∷ span src (at + 2) count) ≡ 9 ∷ k ∷ length ns ∷ M =
        ap₂ (λ (x y : List ℕ). x ++ y) s₂ (ap₂ (λ (x : ℕ) (y : List ℕ). x ∷ y) cnt s₃) in
        let b = ap length bytes in
        let i = front-inside src at (9 ∷ k ∷ M) rest begins st in
        let y = run.is (omega arith) (omega arith) in
        (omega (arith, y.0), omega (arith, y.1), y.2 ∙ ap (sets area to) bytes)

    pub up_front_is : get_or src at 0 ≡ 9 → ConvertsFront src at arities false area to r area'
    unfolding edition_from
    up_front_is n =
        record {
          on = run.on (omega arith) begins;
          inside = run.inside;
          is = λ free d P rest scope st room.
              call_only src at begins arities false area to r area'
              ((r.at ≡ at + length (front_in one d P)) × (r.to ≡ to + length (front_in two d P)) × (area' ≡ sets area to (front_in two d P)))
              one d P rest n st
              (λ k ns q.
              subst (λ (Q : Term). (r.at ≡ at + length (front_in one d Q)) × (r.to ≡ to + length (front_in two d Q)) × (area' ≡ sets area to (front_in two d Q))) (sym q)
              (up_call free d k ns rest (subst (InScope free arities d) q scope)
              (st ∙ ap (λ (Q : Term). encode_in one d Q ++ rest) q) (subst (λ (Q : Term). to + length (encode_in two d Q) ≤ length area) q room)));
        }

pub counted_is : (c d : Bool) → c ≡ d → (src : List ℕ) (at : ℕ) (arities area : List ℕ) (to : ℕ) (r : Copied) (area' : List ℕ) →
    ConvertsFront src at arities d area to r area' → ConvertsFront src at arities c area to r area'
counted_is c d q src at arities area to r area' h = subst (λ (b : Bool). ConvertsFront src at arities b area to r area') (sym q) h
