-- What the walk finds that looks from front to front for restrictions which bind nothing. Assumes nothing.
use mathlib.Core.Path.{◌≡◌, refl, sym, ap, ap₂, subst, ◌∙◌, subst}
use mathlib.Core.Bool.{Bool, true, false, cond, not, ◌||◌}
use mathlib.Core.List.{List, [], ◌∷◌, ◌++◌, append_assoc, append-nil}
use Prim.Native.Nat.{ℕ, zero, suc, ◌+◌, ◌-◌, ◌<◌, ◌≤◌}
use native.Mathlib.Nat.{zero-add}
use native.Mathlib.Numerals.{add-one}
use native.Mathlib.Omega.{arith}
use lib.ListN.{length, get_or, take, drop, set, length-append, length-drop}
use lib.Seq.{take-suc, get_or-drop, get_or-set_same, get_or-set_other}
use lib.Dec.{eqb}
use borrow.Author.Tests.{eqb-true, eqb-false, eq-eqb, ne_eqb, not-true}
use Rattle.calculus.specs.Distinction.{among}
use Rattle.calculus.specs.Free.{fn}
use Rattle.calculus.specs.Term.{Term, nil, tau, inp, out, bout, mat, sum, par, res, call}
use Rattle.calculus.specs.Tidy.{restrict_used, tidy}
use Rattle.terms.specs.Encoding.{name_byte, encode, InScope}
use Rattle.terms.proofs.ReadEncoded.{encode-some}
use Rattle.terms_bytes.specs.NameTable.{table_names}
use Rattle.terms_bytes.specs.Shape.{own_names, binders, subterms, fixed_at, names_behind, names_at, binders_at, subterms_at, ShapeIs}
use Rattle.terms_bytes.specs.declared.shape.Shape.{Shape}
use Rattle.terms_bytes.proofs.Shapes.{all-at, encode_all, AllInScope, names_scope, subterms_scope, front_of, shape_binds, shape_parts, span-names, length_front, front-inside, at_most_two}
use Rattle.terms_bytes.proofs.Stores.{span, length-span, get_d_span}
use Rattle.terms_tidying.specs.TidiedTerms.{Keeps, KeepsBytes, FrontOf, NextFront, FollowIs, IsTidiedIs}
use Rattle.terms_bytes.specs.declared.shape.Front.{Front}
use Rattle.terms_tidying.specs.declared.tidied.Place.{Place}
use Rattle.terms_restrictions.proofs.UnusedWalk.{or_false, or_neither, among-append, among-bytes, among-parts, used_by, none_short, first_byte_lem, behind}

-- The names of a front.
pub keeps_none : (depth : ℕ) (test : ℕ → Bool) (waits : List ℕ) → Keeps depth test waits waits
unfolding Keeps
keeps_none depth test waits l w t = w

keeps_then : (depth : ℕ) (f g h : ℕ → Bool) (u v w : List ℕ) → Keeps depth f u v → Keeps depth g v w
    → ((i : ℕ) → h i ≡ false → (f i ≡ false) × (g i ≡ false)) → Keeps depth h u w
unfolding Keeps
keeps_then depth f g h u v w a b c l x t = b l (a l x (λ i e. (c i (t i e)).0)) (λ i e. (c i (t i e)).1)

pub keeps_one : (depth b : ℕ) (waits : List ℕ) → 128 ≤ b → b - 128 < depth → KeepsBytes depth (b ∷ []) waits (set waits (depth - 1 - (b - 128)) 0)
unfolding Keeps among
keeps_one depth b waits named inner l x t = get_or-set_other waits (depth - 1 - (b - 128)) l 0 0 other ∙ x
  where
    other : ¬ (l ≡ depth - 1 - (b - 128))
    other q =
        let o : eqb (128 + (b - 128)) b ≡ true = eq-eqb (128 + (b - 128)) b (omega arith) in
        let n : true ≡ false = sym o ∙ (or_neither (eqb (128 + (b - 128)) b) false (t (b - 128) (omega arith))).0 in
        let z : ◌≡◌ {A = ℕ} 0 1 = cc in omega arith

pub keeps_more : (xs : List ℕ) (depth i : ℕ) (u v w : List ℕ) → i < length xs → KeepsBytes depth (take i xs) u v
    → KeepsBytes depth (get_or xs i 0 ∷ []) v w → KeepsBytes depth (take (i + 1) xs) u w
keeps_more xs depth i u v w l a b =
    keeps_then depth (λ k. among (take i xs) (128 + k)) (λ k. among (get_or xs i 0 ∷ []) (128 + k))
    (λ k. among (take (i + 1) xs) (128 + k)) u v w a b
    (λ k t. or_neither (among (take i xs) (128 + k)) (among (get_or xs i 0 ∷ []) (128 + k))
    (sym (among-append (take i xs) (get_or xs i 0 ∷ []) (128 + k)) ∙ sym (ap (λ (ys : List ℕ). among ys (128 + k)) more) ∙ t))
  where
    more : take (i + 1) xs ≡ take i xs ++ (get_or xs i 0 ∷ [])
    more = rw (add-one, take-suc xs i 0 l)

-- The front by its first byte, and what was used of the names that the bytes have room for.
front-used : (s : List ℕ) (at : ℕ) (arities : List ℕ) (depth : ℕ) (waits : List ℕ) (sh : Shape) (waits' : List ℕ) (h : Front) → at < length s
    → ShapeIs s at arities sh → FrontOf (sh.fixed + sh.names) sh.binds sh.subterms h
    → (at + (sh.fixed + sh.names) ≤ length s → KeepsBytes depth (span s (at + sh.fixed) sh.names) waits waits')
    → NextFront s at arities depth waits h waits'
unfolding Keeps
front-used s at arities depth waits sh waits' h inside is of used = record {
  some = omega (arith, of.len, is.some);
  few = omega (arith, of.len, is.few);
  one = omega (arith, of.binds, is.one);
  is = λ free d P rest few scope e low.
      let f = front_of free arities d P scope in (
        of.len ∙ length_front s at arities sh is d P f rest e,
        of.binds ∙ shape_binds s at arities sh is d P f rest e,
        of.subterms ∙ shape_parts s at arities sh is d P f rest e,
        λ l x t. used (front-inside s at arities sh is d P f rest e inside) l x
            (λ i q. ap (λ (xs : List ℕ). among xs (128 + i)) (span-names s at arities sh is d P f rest e)
            ∙ among-bytes free d i few (omega arith) (own_names P) (names_scope free arities d P scope) ∙ t i q),
      );
}

span_one : (s : List ℕ) (at : ℕ) → at < length s → span s at 1 ≡ get_or s at 0 ∷ []
span_one s at l = take-suc (drop at s) 0 0 (omega (arith, length-drop at s)) ∙ ap (λ (x : ℕ). x ∷ []) (get_or-drop at s 0 0 ∙ ap (λ (i : ℕ). get_or s i 0) (omega arith))

span_two : (s : List ℕ) (at : ℕ) → at + 3 ≤ length s → span s (at + 1) 2 ≡ get_or s (at + 1) 0 ∷ get_or s (at + 2) 0 ∷ []
span_two s at l =
    take-suc (drop (at + 1) s) 1 0 (omega (arith, length-drop (at + 1) s))
    ∙ ap₂ (λ (xs : List ℕ) (x : ℕ). xs ++ (x ∷ [])) (span_one s (at + 1) (omega arith))
    (get_or-drop (at + 1) s 1 0 ∙ ap (λ (i : ℕ). get_or s i 0) (omega arith))

-- A call.
module _ (s : List ℕ) (at : ℕ) (arities : List ℕ) (inside : at < length s) (t : get_or s at 0 ≡ 9) (n : ℕ) (e : n ≡ get_or arities (get_or s (at + 1) 0) 0)
    (small : n < 256) where
  call_shape : ShapeIs s at arities (record { fixed = 2; names = n; binds = 0; subterms = 0 })
  unfolding fixed_at names_at binders_at subterms_at
  call_shape = record {
    fixed = rw t;
    names = rw t e;
    binds = rw t;
    subterms = rw t;
    some = omega arith;
    few = omega arith;
    one = omega arith;
  }

  pub call_none : length s < at + (2 + n) → (free d : ℕ) (P : Term) (rest : List ℕ) → InScope free arities d P → drop at s ≡ encode d P ++ rest → ⊥
  call_none short = none_short s at arities (record { fixed = 2; names = n; binds = 0; subterms = 0 }) call_shape inside short

  pub call-used : (depth : ℕ) (waits waits' : List ℕ) (h : Front) → FrontOf (2 + n) 0 0 h → KeepsBytes depth (span s (at + 2) n) waits waits'
      → NextFront s at arities depth waits h waits'
  call-used depth waits waits' h of used =
      front-used s at arities depth waits (record { fixed = 2; names = n; binds = 0; subterms = 0 }) waits' h inside call_shape of (λ fit. used)

above : (t : ℕ) → ¬ (t ≡ 0) → ¬ (t ≡ 1) → ¬ (t ≡ 2) → 3 ≤ t
above t a b c = omega arith

below : (t : ℕ) → ¬ (t ≡ 6) → ¬ (t ≡ 7) → ¬ (t ≡ 8) → ¬ (t ≡ 9) → t ≤ 9 → t ≤ 5
below t a b c d l = omega arith

only_match : (t : ℕ) → 3 ≤ t → t ≤ 5 → ¬ (t ≡ 3) → ¬ (t ≡ 4) → t ≡ 5
only_match t l h a b = omega arith

-- A prefix, or what has no names.
module _ (s : List ℕ) (at : ℕ) (arities : List ℕ) (depth : ℕ) (waits waits' : List ℕ) (h : Front) (inside : at < length s) where
  front_at : (t : ℕ) → get_or s at 0 ≡ t → ¬ (t ≡ 9) → FrontOf (1 + names_behind t) (binders_at t) (subterms_at t) h
      → (at + (1 + names_behind t) ≤ length s → KeepsBytes depth (span s (at + 1) (names_behind t)) waits waits') → NextFront s at arities depth waits h waits'
  unfolding fixed_at names_at binders_at
  front_at t e n of used =
      front-used s at arities depth waits (record { fixed = 1; names = names_behind t; binds = binders_at t; subterms = subterms_at t }) waits' h inside
      (record {
        fixed = rw (e, ne_eqb t 9 n);
        names = rw (e, ne_eqb t 9 n);
        binds = rw e;
        subterms = rw e;
        some = omega arith;
        few = omega (arith, all-at 2 (0 ∷ 0 ∷ 1 ∷ 2 ∷ 1 ∷ 2 ∷ 0 ∷ 0 ∷ 0 ∷ []) t refl);
        one = all-at 1 (0 ∷ 0 ∷ 1 ∷ 0 ∷ 1 ∷ 0 ∷ 0 ∷ 0 ∷ 1 ∷ []) t refl;
      }) of used

  pub front_one : (t : ℕ) → get_or s at 0 ≡ t → ¬ (t ≡ 9) → names_behind t ≡ 1 → FrontOf 2 (binders_at t) (subterms_at t) h → (x : ℕ) → x ≡ get_or s (at + 1) 0
      → KeepsBytes depth (x ∷ []) waits waits' → NextFront s at arities depth waits h waits'
  front_one t e n z of x q used = front_at t e n (rw z of) (λ fit. rw (z, span_one s (at + 1) (omega (arith, z)), ← q) used)

  module _ (x y : ℕ) (first : x ≡ get_or s (at + 1) 0) (second : y ≡ get_or s (at + 2) 0) (u : List ℕ) (a : KeepsBytes depth (x ∷ []) waits u)
      (b : KeepsBytes depth (y ∷ []) u waits') where
    both : KeepsBytes depth (x ∷ y ∷ []) waits waits'
    unfolding among
    both =
        keeps_then depth (λ k. among (x ∷ []) (128 + k)) (λ k. among (y ∷ []) (128 + k)) (λ k. among (x ∷ y ∷ []) (128 + k)) waits u waits' a b
        (λ k q. let (g, r) = or_neither (eqb (128 + k) x) (eqb (128 + k) y || false) q in (or_false (eqb (128 + k) x) ∙ g, r))

    front_two : (t : ℕ) → get_or s at 0 ≡ t → ¬ (t ≡ 9) → names_behind t ≡ 2 → FrontOf 3 (binders_at t) (subterms_at t) h → NextFront s at arities depth waits h waits'
    front_two t e n z of = front_at t e n (rw z of) (λ fit. rw (z, span_two s at (omega (arith, z)), ← first, ← second) both)

    -- an output or a match: no other byte is left
    pub front-last : (t : ℕ) → get_or s at 0 ≡ t → ¬ (t ≡ 0) → ¬ (t ≡ 1) → ¬ (t ≡ 2) → ¬ (t ≡ 4) → ¬ (t ≡ 6) → ¬ (t ≡ 7) → ¬ (t ≡ 8) → ¬ (t ≡ 9) → t ≤ 9
        → FrontOf 3 0 1 h → NextFront s at arities depth waits h waits'
    unfolding binders_at subterms_at
    front-last t e n0 n1 n2 n4 n6 n7 n8 n9 l of = go (eqb t 3) refl
      where
        go : (q : Bool) → eqb t 3 ≡ q → NextFront s at arities depth waits h waits'
        go true q = front_two 3 (e ∙ eqb-true t 3 q) (λ z. omega arith) refl of
        go false q = front_two 5 (e ∙ only_match t (above t n0 n1 n2) (below t n6 n7 n8 n9 l) (eqb-false t 3 q) n4) (λ z. omega arith) refl of

pub front_plain : (s : List ℕ) (at : ℕ) (arities : List ℕ) (depth : ℕ) (waits : List ℕ) (h : Front) → at < length s → (t : ℕ) → get_or s at 0 ≡ t → ¬ (t ≡ 9)
    → names_behind t ≡ 0 → FrontOf 1 (binders_at t) (subterms_at t) h → NextFront s at arities depth waits h waits
front_plain s at arities depth waits h inside t e n z of =
    front_at s at arities depth waits waits h inside t e n (rw z of) (λ fit. keeps_none depth (λ i. among (span s (at + 1) (names_behind t)) (128 + i)) waits)

-- A term is tidied if its subterms are and, where it is a restriction, its name is free beneath it.
abbrev AllTidied : List Term → Type 0
AllTidied [] = Unit {0}
AllTidied (P ∷ Ps) = (tidy P ≡ P) × AllTidied Ps

tidied-parts : (P : Term) → AllTidied (subterms P) → ((Q : Term) → P ≡ res Q → among (fn Q) 0 ≡ true) → tidy P ≡ P
unfolding tidy restrict_used subterms
tidied-parts nil a b = refl
tidied-parts (tau P) a b = ap tau a.0
tidied-parts (inp x P) a b = ap (inp x) a.0
tidied-parts (out x y P) a b = ap (out x y) a.0
tidied-parts (bout x P) a b = ap (bout x) a.0
tidied-parts (mat x y P) a b = ap (mat x y) a.0
tidied-parts (sum P Q) a b = ap₂ sum a.0 a.1.0
tidied-parts (par P Q) a b = ap₂ par a.0 a.1.0
tidied-parts (res P) a b = ap restrict_used a.0 ∙ rw (b P refl)
tidied-parts (call k xs) a b = refl

pub no_term : (s : List ℕ) (at : ℕ) (arities : List ℕ) → 9 < get_or s at 0 → (free d : ℕ) (P : Term) (rest : List ℕ) → InScope free arities d P
    → drop at s ≡ encode d P ++ rest → ⊥
unfolding encode
no_term s at arities l free d P rest scope e = go P (first_byte_lem s at arities d P rest e)
  where
    go : (P : Term) → get_or s at 0 ≡ get_or (encode d P) 0 0 → ⊥
    go nil q = omega arith
    go (tau P) q = omega arith
    go (inp a P) q = omega arith
    go (out a b P) q = omega arith
    go (bout a P) q = omega arith
    go (mat a b P) q = omega arith
    go (sum P Q) q = omega arith
    go (par P Q) q = omega arith
    go (res P) q = omega arith
    go (call k xs) q = omega arith

-- Where no byte is a restriction's there is none.
none-restricted : (d : ℕ) (P : Term) → among (encode d P) 8 ≡ false → tidy P ≡ P
unfolding among encode tidy
none-restricted d nil e = refl
none-restricted d (tau P) e = ap tau (none-restricted d P e)
none-restricted d (inp a P) e = ap (inp a) (none-restricted (1 + d) P (or_neither (eqb 8 (name_byte d a)) (among (encode (1 + d) P) 8) e).1)
none-restricted d (out a b P) e =
    let t = (or_neither (eqb 8 (name_byte d a)) (eqb 8 (name_byte d b) || among (encode d P) 8) e).1 in
    ap (out a b) (none-restricted d P (or_neither (eqb 8 (name_byte d b)) (among (encode d P) 8) t).1)
none-restricted d (bout a P) e = ap (bout a) (none-restricted (1 + d) P (or_neither (eqb 8 (name_byte d a)) (among (encode (1 + d) P) 8) e).1)
none-restricted d (mat a b P) e =
    let t = (or_neither (eqb 8 (name_byte d a)) (eqb 8 (name_byte d b) || among (encode d P) 8) e).1 in
    ap (mat a b) (none-restricted d P (or_neither (eqb 8 (name_byte d b)) (among (encode d P) 8) t).1)
none-restricted d (sum P Q) e =
    let (g, h) = or_neither (among (encode d P) 8) (among (encode d Q) 8) (sym (among-append (encode d P) (encode d Q) 8) ∙ e) in
    ap₂ sum (none-restricted d P g) (none-restricted d Q h)
none-restricted d (par P Q) e =
    let (g, h) = or_neither (among (encode d P) 8) (among (encode d Q) 8) (sym (among-append (encode d P) (encode d Q) 8) ∙ e) in
    ap₂ par (none-restricted d P g) (none-restricted d Q h)
none-restricted d (res P) e = let z : ◌≡◌ {A = ℕ} 0 1 = cc in absurd (omega arith)
none-restricted d (call k xs) e = refl

-- A term beneath k binders was walked through, and a restriction outside of it waits on unless its name is free in the term; the term is tidied
-- if none of its own waits.
abbrev Done : ℕ → Term → List ℕ → List ℕ → Type 0
Done k P u v = Keeps k (among (fn P)) u v × (((l : ℕ) → k ≤ l → ¬ (get_or v l 0 ≡ 1)) → tidy P ≡ P)

-- Terms that are still to be walked through, each beneath so many binders.
record Ahead : Type 0 where
  level : ℕ
  term : Term

abbrev Outcome : List Ahead → List ℕ → List ℕ → Type 0
Outcome [] u v = u ≡ v
Outcome (p ∷ ps) u v = (w : List ℕ) × Done p.level p.term u w × Outcome ps w v

abbrev first : ℕ → List Term → List Ahead → List Ahead
first k [] ps = ps
first k (P ∷ Ps) ps = record { level = k; term = P } ∷ first k Ps ps

-- The subterms of a term are walked through.
DoneAll : ℕ → List Term → List ℕ → List ℕ → Type 0
DoneAll k Ps u v = Keeps k (used_by Ps) u v × (((l : ℕ) → k ≤ l → ¬ (get_or v l 0 ≡ 1)) → AllTidied Ps)

done_first : (k : ℕ) (Ps : List Term) (ps : List Ahead) (u v : List ℕ) → Outcome (first k Ps ps) u v → (w : List ℕ) × DoneAll k Ps u w × Outcome ps w v
unfolding DoneAll Keeps used_by
done_first k [] ps u v o = (u, ((λ l x t. x), (λ c. tt)), o)
done_first k (P ∷ Ps) ps u v (w, (keeps, tidied), o) =
    let (x, (keeps₂, tidied₂), o₂) = done_first k Ps ps w v o in (
      x,
      (
        λ l a t. keeps₂ l (keeps l a (λ i e. (or_neither (among (fn P) i) (used_by Ps i) (t i e)).0)) (λ i e. (or_neither (among (fn P) i) (used_by Ps i) (t i e)).1),
        λ c. (tidied (λ l h a. c l h (keeps₂ l a (λ i e. absurd (omega arith)))), tidied₂ c),
      ),
      o₂,
    )

-- So is the term, if nothing waits at its depth before, and a restriction does then.
module _ (k : ℕ) (P : Term) (u v w : List ℕ) (t : ℕ) (tag : (Q : Term) → P ≡ res Q → t ≡ 8) (few : binders P ≤ 1) (room : k < length v)
    (front : Keeps k (among (own_names P)) u v) (idle : ¬ (get_or v k 0 ≡ 1))
    (all : DoneAll (binders P + k) (subterms P) (set v k (cond (eqb t 8) 1 0)) w) where
  neither : (i : ℕ) → among (fn P) i ≡ false → (among (own_names P) i ≡ false) × (used_by (subterms P) (binders P + i) ≡ false)
  neither i n = or_neither (among (own_names P) i) (used_by (subterms P) (binders P + i)) (sym (among-parts P i) ∙ n)

  done_keeps : Keeps k (among (fn P)) u w
  unfolding DoneAll Keeps
  done_keeps l x n =
      let a : get_or v l 0 ≡ 1 = front l x (λ i e. (neither i (n i e)).0) in
      let ne : ¬ (l ≡ k) = λ q. idle (ap (λ (j : ℕ). get_or v j 0) (sym q) ∙ a) in
      all.0 l (get_or-set_other v k l (cond (eqb t 8) 1 0) 0 ne ∙ a)
      (λ i e. ap (used_by (subterms P)) (omega (arith, few, ne)) ∙ (neither (i - binders P) (n (i - binders P) (omega (arith, few, ne)))).1)

  done_tidied : ((l : ℕ) → k ≤ l → ¬ (get_or w l 0 ≡ 1)) → tidy P ≡ P
  unfolding DoneAll Keeps used_by subterms binders
  done_tidied c = tidied-parts P (all.1 (λ l h. c l (omega arith))) bound
    where
      bound : (Q : Term) → P ≡ res Q → among (fn Q) 0 ≡ true
      bound Q r = go (among (fn Q) 0) refl
        where
          waits : get_or (set v k (cond (eqb t 8) 1 0)) k 0 ≡ 1
          waits = get_or-set_same v k (cond (eqb t 8) 1 0) 0 room ∙ ap (λ (j : ℕ). cond (eqb j 8) 1 0) (tag Q r)

          go : (b : Bool) → among (fn Q) 0 ≡ b → b ≡ true
          go true b = refl
          go false b =
              let o : binders P ≡ 1 = ap binders r in
              absurd (c k (omega arith) (all.0 k waits
              (λ i e. ap₂ used_by (ap subterms r) (omega (arith, o)) ∙ or_false (among (fn Q) 0) ∙ b)))

restriction_byte : (d : ℕ) (P Q : Term) → P ≡ res Q → get_or (encode d P) 0 0 ≡ 8
unfolding encode
restriction_byte d P Q e = ap (λ (X : Term). get_or (encode d X) 0 0) e

-- The stack of the second subterms.
abbrev Stacked : List ℕ → ℕ → List Ahead → Type 0
Stacked depths n [] = n ≡ 0
Stacked depths n (p ∷ ps) = (n ≡ suc (length ps)) × (get_or depths (length ps) 0 ≡ p.level) × Stacked depths (length ps) ps

abbrev Placed : ℕ → ℕ → List ℕ → List Ahead → Type 0
Placed depth n depths [] = Unit {0}
Placed depth n depths (p ∷ ps) = (p.level ≡ depth) × Stacked depths n ps

stacked_length : (depths : List ℕ) (n : ℕ) (ps : List Ahead) → Stacked depths n ps → n ≡ length ps
stacked_length depths n [] s = s
stacked_length depths n (p ∷ ps) s = s.0

stacked_under : (depths : List ℕ) (n i x : ℕ) (ps : List Ahead) → length ps ≤ i → Stacked depths n ps → Stacked (set depths i x) n ps
stacked_under depths n i x [] h s = s
stacked_under depths n i x (p ∷ ps) h s =
    (s.0, get_or-set_other depths i (length ps) x 0 (λ q. omega arith) ∙ s.1, stacked_under depths (length ps) i x ps (omega arith) s.2)

placed_next : (m n : ℕ) (depths : List ℕ) (Qs : List Term) (ps : List Ahead) (r : Place) (depths' : List ℕ) → length Qs ≤ 2
    → FollowIs (length Qs) m n depths r depths' → n < length depths → Stacked depths n ps → Placed r.depth r.pending depths' (first m Qs ps)
placed_next m n depths [] [] r depths' two N l st = tt
placed_next m n depths [] (p ∷ ps) r depths' two N l st =
    let f = N.none refl (length ps) st.0 in (sym (f.1 ∙ st.1), rw (f.0, f.2) st.2)
placed_next m n depths (Q ∷ []) ps r depths' two N l st = let f = N.one refl in (sym f.1, rw (f.0, f.2) st)
placed_next m n depths (Q₁ ∷ Q₂ ∷ []) ps r depths' two N l st =
    let f = N.two refl in
    let e = stacked_length depths n ps st in
    (sym f.1, rw f.0 (omega (arith, e), rw (f.2, ← e) (get_or-set_same depths n m 0 l), subst (λ u. Stacked u (length ps) ps) (sym f.2) (subst (λ k. Stacked (set depths n m) k ps) e (stacked_under depths n n m ps (omega (arith, e)) st))))
placed_next m n depths (Q₁ ∷ Q₂ ∷ Q₃ ∷ Qs) ps r depths' two N l st = absurd (omega arith)

-- What `follow` says, by the number of subterms.
module _ (subterms depth pending : ℕ) (depths : List ℕ) where
  pub followed_one : subterms ≡ 1 → FollowIs subterms depth pending depths (record { depth = depth; pending = pending }) depths
  followed_one e = record {
    few = omega arith;
    none = λ z. absurd (omega arith);
    one = λ o. (refl, refl, refl);
    two = λ z. absurd (omega arith);
  }

  pub followed_two : subterms ≡ 2 → FollowIs subterms depth pending depths (record { depth = depth; pending = pending + 1 }) (set depths pending depth)
  followed_two e = record {
    few = omega arith;
    none = λ z. absurd (omega arith);
    one = λ z. absurd (omega arith);
    two = λ t. (refl, refl, refl);
  }

  pub followed_end : ¬ (subterms ≡ 1) → ¬ (subterms ≡ 2) → pending ≡ 0
      → FollowIs subterms depth pending depths (record { depth = depth; pending = pending }) depths
  followed_end o t e = record {
    few = omega arith;
    none = λ z k q. absurd (omega arith);
    one = λ z. absurd (o z);
    two = λ z. absurd (t z);
  }

  pub followed_none : ¬ (subterms ≡ 1) → ¬ (subterms ≡ 2) → ¬ (pending ≡ 0) → (x : ℕ) → x ≡ get_or depths (pending - 1) 0
      → FollowIs subterms depth pending depths (record { depth = x; pending = pending - 1 }) depths
  followed_none o t n x e = record {
    few = omega arith;
    none = λ z k q. (omega arith, e ∙ ap (λ (j : ℕ). get_or depths j 0) (omega arith), refl);
    one = λ z. absurd (o z);
    two = λ z. absurd (t z);
  }

-- Nothing waits in a list without 1.
no_one : (xs : List ℕ) → among xs 1 ≡ false → (l : ℕ) → ¬ (get_or xs l 0 ≡ 1)
unfolding among
no_one [] n l x = omega arith
no_one (y ∷ ys) n zero x = eqb-false 1 y (or_neither (eqb 1 y) (among ys 1) n).0 (sym x)
no_one (y ∷ ys) n (suc l) x = no_one ys (or_neither (eqb 1 y) (among ys 1) n).1 l x

-- The loop.
abbrev codes : ℕ → List Ahead → List ℕ
codes d [] = []
codes d (p ∷ ps) = encode (p.level + d) p.term ++ codes d ps

codes-first : (d k : ℕ) (Ps : List Term) (ps : List Ahead) → codes d (first k Ps ps) ≡ encode_all (k + d) Ps ++ codes d ps
unfolding encode_all
codes-first d k [] ps = refl
codes-first d k (P ∷ Ps) ps =
    ap (λ (l : List ℕ). encode (k + d) P ++ l) (codes-first d k Ps ps) ∙ sym (append_assoc (encode (k + d) P) (encode_all (k + d) Ps) (codes d ps))

abbrev InScopes : ℕ → List ℕ → ℕ → List Ahead → Type 0
InScopes free arities d [] = Unit {0}
InScopes free arities d (p ∷ ps) = InScope free arities (p.level + d) p.term × InScopes free arities d ps

scopes_first : (free : ℕ) (arities : List ℕ) (d k : ℕ) (Ps : List Term) (ps : List Ahead) → AllInScope free arities (k + d) Ps → InScopes free arities d ps
    → InScopes free arities d (first k Ps ps)
scopes_first free arities d k [] ps a s = s
scopes_first free arities d k (P ∷ Ps) ps a s = (a.0, scopes_first free arities d k Ps ps a.1 s)

module _ (s arities : List ℕ) where
  record WalksOn (free d : ℕ) (P : Term) (at depth pending : ℕ) (depths waits : List ℕ) : Type 0 where
    ahead : List Ahead
    reads : drop at s ≡ codes d ahead
    scope : InScopes free arities d ahead
    placed : Placed depth pending depths ahead
    good : (u : List ℕ) → Outcome ahead waits u → ((l : ℕ) → ¬ (get_or u l 0 ≡ 1)) → tidy P ≡ P

  pub Walking : ℕ → ℕ → ℕ → List ℕ → List ℕ → Type 0
  Walking at depth pending depths waits =
      (free d : ℕ) (P : Term) → free ≤ table_names → InScope free arities d P → s ≡ encode d P → WalksOn free d P at depth pending depths waits

  pub walking_start : (depths waits : List ℕ) → Walking 0 0 0 depths waits
  unfolding Walking
  walking_start depths waits free d P few i e = record {
    ahead = record { level = 0; term = P } ∷ [];
    reads = rw (zero-add) (e ∙ sym (append-nil (encode d P)));
    scope = (rw (zero-add) i, tt);
    placed = (refl, refl);
    good = λ u o c. o.1.1 (λ l h a. c l (subst (λ (v : List ℕ). get_or v l 0 ≡ 1) o.2 a));
  }

  pub walking_done : (at depth pending : ℕ) (depths waits : List ℕ) (b : Bool) → length s ≤ at → Walking at depth pending depths waits → b ≡ among waits 1
      → IsTidiedIs s arities (not b)
  unfolding Walking IsTidiedIs
  walking_done at depth pending depths waits b past W is t free d P few i e = let w = W free d P few i e in go w w.ahead refl
    where
      go : (w : WalksOn free d P at depth pending depths waits) (ps : List Ahead) → w.ahead ≡ ps → tidy P ≡ P
      go w [] q = w.good waits (subst (λ (ps : List Ahead). Outcome ps waits waits) (sym q) refl) (no_one waits (sym is ∙ not-true b t))
      go w (p ∷ ps) q =
          absurd (omega (
            arith,
            length-drop at s,
            ap length (w.reads ∙ ap (codes d) q),
            length-append (encode (p.level + d) p.term) (codes d ps),
            encode-some (p.level + d) p.term,
          ))

  module _ (at depth pending : ℕ) (depths waits : List ℕ) (inside : at < length s) (W : Walking at depth pending depths waits)
      (h : Front) (waits₁ : List ℕ) (F : NextFront s at arities depth waits h waits₁) (room : depth < length waits₁) (idle : ¬ (get_or waits₁ depth 0 ≡ 1))
      (r : Place) (depths₁ : List ℕ) (N : FollowIs h.subterms (depth + h.binds) pending depths r depths₁) (fits : pending < length depths) where
    next : (free d : ℕ) (P : Term) → free ≤ table_names → (w : WalksOn free d P at depth pending depths waits) (p : Ahead) (ps : List Ahead) → w.ahead ≡ p ∷ ps
        → WalksOn free d P (at + h.len) r.depth r.pending depths₁ (set waits₁ depth (cond (eqb (get_or s at 0) 8) 1 0))
    next free d P few w p ps q =
        let Q : Term = p.term in
        let e : p.level ≡ depth = (subst (Placed depth pending depths) q w.placed).0 in
        let sc : InScope free arities (depth + d) Q = subst (λ (k : ℕ). InScope free arities (k + d) Q) e (subst (InScopes free arities d) q w.scope).0 in
        let st : drop at s ≡ encode (depth + d) Q ++ codes d ps =
        w.reads ∙ ap (codes d) q ∙ ap (λ (k : ℕ). encode (k + d) Q ++ codes d ps) e in
        let x = F.is free (depth + d) Q (codes d ps) few sc st (omega arith) in
        let m : depth + h.binds ≡ binders Q + depth = omega (arith, x.1) in
        let a : binders Q + (depth + d) ≡ binders Q + depth + d = omega arith in
        record {
          ahead = first (binders Q + depth) (subterms Q) ps;
          reads = behind s at h.len (depth + d) Q (codes d ps) (subterms Q) x.0 st refl
              ∙ ap (λ (k : ℕ). encode_all k (subterms Q) ++ codes d ps) a ∙ sym (codes-first d (binders Q + depth) (subterms Q) ps);
          scope = scopes_first free arities d (binders Q + depth) (subterms Q) ps
              (subst (λ (k : ℕ). AllInScope free arities k (subterms Q)) a (subterms_scope free arities (depth + d) Q sc))
              (subst (InScopes free arities d) q w.scope).1;
          placed = placed_next (binders Q + depth) pending depths (subterms Q) ps r depths₁ (at_most_two Q)
              (subst (λ (k : ℕ). FollowIs k (binders Q + depth) pending depths r depths₁) x.2
              (subst (λ (k : ℕ). FollowIs h.subterms k pending depths r depths₁) m N))
              fits (subst (Placed depth pending depths) q w.placed).1;
          good = λ u o c.
              let (v, all, o₂) = done_first (binders Q + depth) (subterms Q) ps (set waits₁ depth (cond (eqb (get_or s at 0) 8) 1 0)) u o in
              let t : (R : Term) → Q ≡ res R → get_or s at 0 ≡ 8 = λ R y. first_byte_lem s at arities (depth + d) Q (codes d ps) st ∙ restriction_byte (depth + d) Q R y in
              let b : binders Q ≤ 1 = omega (arith, F.one, x.1) in
              let done : Done depth Q waits v = (
                done_keeps depth Q waits waits₁ v (get_or s at 0) t b room x.3 idle all,
                done_tidied depth Q waits waits₁ v (get_or s at 0) t b room x.3 idle all,
              ) in
              w.good u (subst (λ (qs : List Ahead). Outcome qs waits u) (sym q) (v, subst (λ (k : ℕ). Done k Q waits v) (sym e) done, o₂)) c;
        }

    pub walking_again : (x : ℕ) → x ≡ cond (eqb (get_or s at 0) 8) 1 0 → Walking (at + h.len) r.depth r.pending depths₁ (set waits₁ depth x)
    unfolding Walking
    walking_again x is free d P few i e = let w = W free d P few i e in rw is (go w w.ahead refl)
      where
        go : (w : WalksOn free d P at depth pending depths waits) (ps : List Ahead) → w.ahead ≡ ps
            → WalksOn free d P (at + h.len) r.depth r.pending depths₁ (set waits₁ depth (cond (eqb (get_or s at 0) 8) 1 0))
        go w [] q = absurd (omega (arith, length-drop at s, ap length (w.reads ∙ ap (codes d) q)))
        go w (p ∷ ps) q = next free d P few w p ps q

-- The answer.
pub no_byte : (s arities : List ℕ) → among s 8 ≡ false → IsTidiedIs s arities true
unfolding IsTidiedIs
no_byte s arities e t free d P few scope st = none-restricted d P (ap (λ (xs : List ℕ). among xs 8) (sym st) ∙ e)

pub untold : (s arities : List ℕ) → IsTidiedIs s arities false
unfolding IsTidiedIs
untold s arities t = let z : ◌≡◌ {A = ℕ} 0 1 = cc in absurd (omega arith)
