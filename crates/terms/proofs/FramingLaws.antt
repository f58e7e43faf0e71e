-- Cutting a question into its fields and joining them again are inverse, on lists of bytes.
use mathlib.Core.Path.{◌≡◌, refl, sym, ap, ap₂, ◌∙◌}
use mathlib.Core.List.{List, [], ◌∷◌, ◌++◌, append_assoc, append-nil}
use mathlib.Core.Bool.{Bool, true, false}
use Prim.Native.Nat.{ℕ, zero, suc, ◌+◌, ◌*◌, ◌/◌, ◌%◌, ◌<◌}
use native.Mathlib.Omega.{arith}
use lib.ListN.{length, get_or, take, drop, take-append-drop, length-take, length-append}
use lib.Seq.{take-append_seam, drop-append_seam}
use lib.Dec.{ltb, leb, eqb}
use borrow.Author.Tests.{ltb-true, lt-ltb, leb-true, le-leb, eqb-true}
use Rattle.terms.specs.Answer.{Answer, result, ◌>>=◌, ◌>>◌, need}
use Rattle.terms.specs.Framing.{cut, field, fields, Fields, framed, sized, all_sized}
use Rattle.terms.proofs.Answers.{result_injective, refused_not_result, bind-result, bind_to, need-result, need-passed, Every}

pub empty : (bs : List ℕ) → length bs ≡ 0 → bs ≡ []
empty [] e = refl
empty (b ∷ bs) e = absurd (omega arith)

pub one_byte : (bs : List ℕ) → length bs ≡ 1 → (a : ℕ) × (bs ≡ a ∷ [])
one_byte [] e = absurd (omega arith)
one_byte (a ∷ []) e = (a, refl)
one_byte (a ∷ b ∷ bs) e = absurd (omega arith)

pub two_bytes : (bs : List ℕ) → length bs ≡ 2 → (a : ℕ) × (b : ℕ) × (bs ≡ a ∷ b ∷ [])
two_bytes [] e = absurd (omega arith)
two_bytes (a ∷ []) e = absurd (omega arith)
two_bytes (a ∷ b ∷ []) e = (a, b, refl)
two_bytes (a ∷ b ∷ c ∷ bs) e = absurd (omega arith)

-- What was cut stood there.
pub cut_out : (n : ℕ) (bs : List ℕ) (r : List ℕ × List ℕ) → cut n bs ≡ result r → (bs ≡ r.0 ++ r.1) × (length r.0 ≡ n)
unfolding cut
cut_out n bs r e = go (leb n (length bs)) refl
  where
    go : (t : Bool) → leb n (length bs) ≡ t → (bs ≡ r.0 ++ r.1) × (length r.0 ≡ n)
    go true p =
        let q = result_injective {a = (take n bs, drop n bs)} (rw p at e) in
        let l = leb-true n (length bs) p in
        (rw (← q) (sym (take-append-drop n bs)), rw (← q) (rw length-take (omega arith)))
    go false p = refused_not_result (rw p at e)

pub field_out : (bs : List ℕ) (r : List ℕ × List ℕ) → field bs ≡ result r → bs ≡ sized r.0 ++ r.1
unfolding field sized
field_out bs r e =
    let t = bind-result (cut 2 bs) _ r e in
    let c = cut_out 2 bs t.0 t.1 in
    let w = two_bytes t.0.0 c.1 in
    let l = need-result 4 (ltb (get_or t.0.0 1 0) 256) _ r t.2 in
    let low : w.1 < 256 = ltb-true w.1 256 (sym (ap (λ m. ltb (get_or m 1 0) 256) w.2) ∙ l.0) in
    let v = cut_out _ t.0.1 r l.1 in
    let len : length r.0 ≡ 256 * w.0 + w.1 = rw w.2 at v.1 in
    let p : bs ≡ w.0 ∷ w.1 ∷ (r.0 ++ r.1) = c.0 ∙ ap₂ (λ l m. l ++ m) w.2 v.0 in
    let x : length r.0 / 256 ≡ w.0 = omega arith in
    let y : length r.0 % 256 ≡ w.1 = omega arith in
    rw (x, y) p

pub fields_out : (n : ℕ) (bs : List ℕ) (r : List (List ℕ) × List ℕ) → fields n bs ≡ result r → bs ≡ all_sized r.0 ++ r.1
unfolding fields all_sized
fields_out zero bs r e = rw (← result_injective e) refl
fields_out (suc n) bs r e =
    let t = bind-result (field bs) _ r e in
    let u = bind-result (fields n t.0.1) _ r t.2 in
    let i = result_injective {a = (t.0.0 ∷ u.0.0, u.0.1)} u.2 in
    let f = field_out bs t.0 t.1 in
    let g = fields_out n t.0.1 u.0 u.1 in
    rw (← i) (f ∙ ap (λ l. sized t.0.0 ++ l) g ∙ sym (append_assoc (sized t.0.0) (all_sized u.0.0) u.0.1))

-- There are as many fields as were asked for, whatever the bytes.
pub fields_count : (n : ℕ) (bs : List ℕ) (r : List (List ℕ) × List ℕ) → fields n bs ≡ result r → length r.0 ≡ n
unfolding fields
fields_count zero bs r e = rw (← result_injective e)
fields_count (suc n) bs r e =
    let t = bind-result (field bs) _ r e in
    let u = bind-result (fields n t.0.1) _ r t.2 in
    rw (← result_injective {a = (t.0.0 ∷ u.0.0, u.0.1)} u.2) (ap suc (fields_count n t.0.1 u.0 u.1))

-- What stands there is cut out.
pub cut_in : (xs ys : List ℕ) → cut (length xs) (xs ++ ys) ≡ result (xs, ys)
unfolding cut
cut_in xs ys = rw (le-leb (length xs) (length (xs ++ ys)) (omega (arith, length-append xs ys)), take-append_seam, drop-append_seam)

pub field_in : (xs ys : List ℕ) → length xs < 65536 → field (sized xs ++ ys) ≡ result (xs, ys)
unfolding field sized
field_in xs ys h =
    let e : 256 * (length xs / 256) + length xs % 256 ≡ length xs = omega arith in
    bind_to _ (cut_in (length xs / 256 ∷ length xs % 256 ∷ []) (xs ++ ys))
    ∙ need-passed 4 (ltb (length xs % 256) 256) _ (lt-ltb (length xs % 256) 256 (omega arith)) ∙ rw e (cut_in xs ys)

pub fields_in_lem : (fs : List (List ℕ)) (ys : List ℕ) → Every (λ f. length f < 65536) fs → fields (length fs) (all_sized fs ++ ys) ≡ result (fs, ys)
unfolding fields all_sized Every
fields_in_lem [] ys h = refl
fields_in_lem (f ∷ fs) ys h =
    rw append_assoc (bind_to _ (field_in f (all_sized fs ++ ys) h.0) ∙ bind_to _ (fields_in_lem fs ys h.1))

-- A whole question behind its version byte, in two stages: the arities and bodies, then the last three fields.
last_fields : List ℕ → List (List ℕ) → List ℕ → Answer Fields
last_fields arities bodies bs = do
  (first, bs) ← field bs
  (second, bs) ← field bs
  (apart, bs) ← field bs
  need 4 (eqb (length bs) 0)
  result (record { arities = arities; bodies = bodies; first = first; second = second; apart = apart })

last-kept : (arities : List ℕ) (bodies : List (List ℕ)) (bs : List ℕ) (f : Fields) → last_fields arities bodies bs ≡ result f →
    (f.arities ≡ arities) × (f.bodies ≡ bodies)
unfolding last_fields
last-kept arities bodies bs f e =
    let t = bind-result (field bs) _ f e in
    let u = bind-result (field t.0.1) _ f t.2 in
    let v = bind-result (field u.0.1) _ f u.2 in
    let z = need-result 4 (eqb (length v.0.1) 0) _ f v.2 in
    let r = result_injective {a = record { arities = arities; bodies = bodies; first = t.0.0; second = u.0.0; apart = v.0.0 }} z.1 in
    rw (← r) (refl, refl)

last_out : (arities : List ℕ) (bodies : List (List ℕ)) (bs : List ℕ) (f : Fields) → last_fields arities bodies bs ≡ result f →
    bs ≡ sized f.first ++ (sized f.second ++ sized f.apart)
unfolding last_fields
last_out arities bodies bs f e =
    let t = bind-result (field bs) _ f e in
    let u = bind-result (field t.0.1) _ f t.2 in
    let v = bind-result (field u.0.1) _ f u.2 in
    let z = need-result 4 (eqb (length v.0.1) 0) _ f v.2 in
    let r = result_injective {a = record { arities = arities; bodies = bodies; first = t.0.0; second = u.0.0; apart = v.0.0 }} z.1 in
    let p = field_out bs t.0 t.1 in
    let q = field_out t.0.1 u.0 u.1 in
    let d = field_out u.0.1 v.0 v.1 in
    let e₃ : u.0.1 ≡ sized v.0.0 = d ∙ ap (λ m. sized v.0.0 ++ m) (empty v.0.1 (eqb-true _ _ z.0)) ∙ append-nil _ in
    rw (← r) (p ∙ ap (λ m. sized t.0.0 ++ m) (q ∙ ap (λ m. sized u.0.0 ++ m) e₃))

-- The bytes of a question behind its version byte.
unfoldable pub behind_version : Fields → List ℕ
behind_version f = length f.arities ∷ (f.arities ++ (all_sized f.bodies ++ (sized f.first ++ (sized f.second ++ sized f.apart))))

module _ (bs size rest arities rest₁ : List ℕ) (bodies : List (List ℕ)) (rest₂ : List ℕ) (n : ℕ) (f : Fields) where
  reassembled : bs ≡ size ++ rest → size ≡ n ∷ [] → rest ≡ arities ++ rest₁ → n ≡ length arities → rest₁ ≡ all_sized bodies ++ rest₂ →
      rest₂ ≡ sized f.first ++ (sized f.second ++ sized f.apart) → f.arities ≡ arities → f.bodies ≡ bodies → bs ≡ behind_version f
  unfolding behind_version
  reassembled p q r l s u a b = rw (a, b, p, q, r, l, s, u)

pub framed-out : (bs : List ℕ) (f : Fields) → framed bs ≡ result f → bs ≡ behind_version f
unfolding framed last_fields
framed-out bs f e =
    let t = bind-result (cut 1 bs) _ f e in
    let c = cut_out 1 bs t.0 t.1 in
    let n = one_byte t.0.0 c.1 in
    let k : get_or t.0.0 0 0 ≡ n.0 = ap (λ m. get_or m 0 0) n.1 in
    let u = bind-result (cut (get_or t.0.0 0 0) t.0.1) _ f t.2 in
    let b = cut_out (get_or t.0.0 0 0) t.0.1 u.0 u.1 in
    let v = bind-result (fields (get_or t.0.0 0 0) u.0.1) (λ x. last_fields u.0.0 x.0 x.1) f u.2 in
    let l = last-kept u.0.0 v.0.0 v.0.1 f v.2 in
    let g = fields_out (get_or t.0.0 0 0) u.0.1 v.0 v.1 in
    reassembled bs t.0.0 t.0.1 u.0.0 u.0.1 v.0.0 v.0.1 n.0 f
    c.0 n.1 b.0 (sym (b.1 ∙ k)) g (last_out u.0.0 v.0.0 v.0.1 f v.2) l.0 l.1

-- As many bodies as arities.
pub framed_counts : (bs : List ℕ) (f : Fields) → framed bs ≡ result f → length f.bodies ≡ length f.arities
unfolding framed last_fields
framed_counts bs f e =
    let t = bind-result (cut 1 bs) _ f e in
    let u = bind-result (cut (get_or t.0.0 0 0) t.0.1) _ f t.2 in
    let b = cut_out (get_or t.0.0 0 0) t.0.1 u.0 u.1 in
    let v = bind-result (fields (get_or t.0.0 0 0) u.0.1) (λ x. last_fields u.0.0 x.0 x.1) f u.2 in
    let g = fields_count (get_or t.0.0 0 0) u.0.1 v.0 v.1 in
    let l = last-kept u.0.0 v.0.0 v.0.1 f v.2 in
    ap length l.1 ∙ g ∙ sym b.1 ∙ sym (ap length l.0)

-- Fields whose lengths have room in two bytes are found again.
pub record Framable (f : Fields) : Type 0 where
  pub counts : length f.bodies ≡ length f.arities
  pub bodies : Every (λ b. length b < 65536) f.bodies
  pub first : length f.first < 65536
  pub second : length f.second < 65536
  pub apart : length f.apart < 65536

last_in_lem : (f : Fields) → Framable f → last_fields f.arities f.bodies (sized f.first ++ (sized f.second ++ sized f.apart)) ≡ result f
unfolding last_fields need ◌>>◌
last_in_lem f w =
    bind_to _ (field_in f.first (sized f.second ++ sized f.apart) w.first)
    ∙ bind_to _ (field_in f.second (sized f.apart) w.second)
    ∙ bind_to _ (rw append-nil at (field_in f.apart [] w.apart))

pub framed_in : (f : Fields) → Framable f → framed (behind_version f) ≡ result f
unfolding framed behind_version last_fields
framed_in f w =
    let last = sized f.first ++ (sized f.second ++ sized f.apart) in
    bind_to _ (cut_in (length f.arities ∷ []) (f.arities ++ (all_sized f.bodies ++ last)))
    ∙ bind_to _ (cut_in f.arities (all_sized f.bodies ++ last))
    ∙ rw (← w.counts) (bind_to _ (fields_in_lem f.bodies last w.bodies))
    ∙ last_in_lem f w
