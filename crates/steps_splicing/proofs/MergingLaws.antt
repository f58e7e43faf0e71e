-- The names of a term merged where its bytes stand, from front to front. Assumes nothing.
use mathlib.Core.Path.{◌≡◌, refl, sym, ap, ap₂, subst, ◌∙◌}
use mathlib.Core.Bool.{Bool, true, false}
use mathlib.Core.List.{List, [], ◌∷◌, ◌++◌, map, append_assoc, append-nil}
use Prim.Native.Nat.{ℕ, zero, suc, ◌+◌, ◌-◌, ◌<◌, ◌≤◌}
use native.Mathlib.Nat.{zero-add}
use native.Mathlib.Omega.{arith}
use lib.Dec.{ltb}
use lib.ListN.{length, get_or, set, drop, length-append, length-map}
use lib.Seq.{drop-append_seam}
use borrow.Author.Tests.{ltb-true, ltb-false, lt-ltb, le-ltb}
use Rattle.calculus.specs.Term.{Term, ren, lift}
use Rattle.terms.specs.Encoding.{name_byte, encode, NamesInScope, InScope}
use Rattle.terms.specs.Limits.{name_count}
use Rattle.terms_bytes.specs.Shape.{fixed_bytes, own_names, binders, subterms, front_bytes, ShapeIs}
use Rattle.terms_bytes.specs.declared.shape.Shape.{Shape}
use Rattle.terms_bytes.proofs.NameTables.{byte_bound, byte_free, lift_by}
use Rattle.terms.proofs.ReadEncoded.{encode-some}
use Rattle.terms_bytes.proofs.Shapes.{encode_all, encode-parts, front-ren, encode-ren, front_of, AllInScope, names_scope, subterms_scope, shape_fixed, shape_names}
use Rattle.terms_bytes.proofs.Stores.{get_d_front, sets_middle}
use Rattle.steps_splicing.specs.Merging.{merged_byte, MergedIs}

-- A renaming beneath d binders.
lift_bound : (d : ℕ) (ρ : ℕ → ℕ) (m : ℕ) → m < d → lift_by d ρ m ≡ m
lift_bound zero ρ m h = absurd (omega arith)
lift_bound (suc d) ρ zero h = refl
lift_bound (suc d) ρ (suc m) h = ap suc (lift_bound d ρ m (omega arith))

lift_free : (d : ℕ) (ρ : ℕ → ℕ) (k : ℕ) → lift_by d ρ (d + k) ≡ d + ρ k
lift_free zero ρ k = rw zero-add (sym (zero-add (ρ k)))
lift_free (suc d) ρ k =
    let e : suc d + k ≡ suc (d + k) = omega arith in
    let f : suc d + ρ k ≡ suc (d + ρ k) = omega arith in
    rw (e, f) (ap suc (lift_free d ρ k))

lift-more : (b d : ℕ) (ρ : ℕ → ℕ) → lift_by b (lift_by d ρ) ≡ lift_by (b + d) ρ
lift-more zero d ρ = ap (λ (k : ℕ). lift_by k ρ) (sym (zero-add d))
lift-more (suc b) d ρ =
    let e : suc (b + d) ≡ suc b + d = omega arith in
    ap lift (lift-more b d ρ) ∙ ap (λ (k : ℕ). lift_by k ρ) e

module _ (class : List ℕ) (ρ : ℕ → ℕ) (classes : (k : ℕ) → k < name_count → (get_or class k 0 ≡ ρ k) × (ρ k < name_count)) where
  merged-name : (d m : ℕ) → m < d + name_count → merged_byte class (name_byte d m) ≡ name_byte d (lift_by d ρ m)
  unfolding merged_byte
  merged-name d m h = go (ltb m d) refl
    where
      go : (t : Bool) → ltb m d ≡ t → merged_byte class (name_byte d m) ≡ name_byte d (lift_by d ρ m)
      go true t =
          let l = ltb-true m d t in
          rw (lift_bound d ρ m l, byte_bound d m l, le-ltb (128 + m) 128 (omega arith)) refl
      go false t =
          let l = ltb-false m d t in
          let k : ℕ = m - d in
          let e : d + k ≡ m = omega arith in
          let f : lift_by d ρ m ≡ d + ρ k = ap (lift_by d ρ) (sym e) ∙ lift_free d ρ k in
          let g : name_byte d (d + ρ k) ≡ ρ k = byte_free d (d + ρ k) (omega arith) ∙ omega arith in
          rw (f, g, byte_free d m l, lt-ltb (m - d) 128 (omega arith)) (classes k (omega arith)).0

-- A term that is still to be passed, beneath so many binders.
pub record Pending : Type 0 where
  pub depth : ℕ
  pub term : Term

abbrev pub codes : List Pending → List ℕ
codes [] = []
codes (p ∷ ps) = encode p.depth p.term ++ codes ps

abbrev pub renamed : (ℕ → ℕ) → List Pending → List ℕ
renamed ρ [] = []
renamed ρ (p ∷ ps) = encode p.depth (ren (lift_by p.depth ρ) p.term) ++ renamed ρ ps

abbrev pub InScopes : List ℕ → List Pending → Type 0
InScopes arities [] = Unit {0}
InScopes arities (p ∷ ps) = InScope name_count arities p.depth p.term × InScopes arities ps

-- The subterms of a term come before the others.
abbrev pub first : ℕ → List Term → List Pending → List Pending
first d [] ps = ps
first d (P ∷ Ps) ps = record { depth = d; term = P } ∷ first d Ps ps

codes-first : (d : ℕ) (Ps : List Term) (ps : List Pending) → codes (first d Ps ps) ≡ encode_all d Ps ++ codes ps
unfolding encode_all
codes-first d [] ps = refl
codes-first d (P ∷ Ps) ps = ap (λ (l : List ℕ). encode d P ++ l) (codes-first d Ps ps) ∙ sym (append_assoc (encode d P) (encode_all d Ps) (codes ps))

renamed-first : (ρ : ℕ → ℕ) (d : ℕ) (Ps : List Term) (ps : List Pending) → renamed ρ (first d Ps ps) ≡ encode_all d (map (ren (lift_by d ρ)) Ps) ++ renamed ρ ps
unfolding encode_all
renamed-first ρ d [] ps = refl
renamed-first ρ d (P ∷ Ps) ps =
    ap (λ (l : List ℕ). encode d (ren (lift_by d ρ) P) ++ l) (renamed-first ρ d Ps ps)
    ∙ sym (append_assoc (encode d (ren (lift_by d ρ) P)) (encode_all d (map (ren (lift_by d ρ)) Ps)) (renamed ρ ps))

scopes_first : (arities : List ℕ) (d : ℕ) (Ps : List Term) (ps : List Pending) → AllInScope name_count arities d Ps → InScopes arities ps → InScopes arities (first d Ps ps)
scopes_first arities d [] ps a s = s
scopes_first arities d (P ∷ Ps) ps a s = (a.0, scopes_first arities d Ps ps a.1 s)

-- Passed up to `at`: names of a front, and then terms, are still to be passed.
pub record Passed (arities : List ℕ) (ρ : ℕ → ℕ) (A : Term) (rest : List ℕ) (n : ℕ) (bytes : List ℕ) (at names : ℕ) : Type 0 where
  pub done : List ℕ
  pub depth : ℕ
  pub left : List ℕ
  pub todo : List Pending
  pub bytes_are : bytes ≡ done ++ (map (name_byte depth) left ++ (codes todo ++ rest))
  pub place : length done ≡ at
  pub count : length left ≡ names
  pub size : at + (length left + length (codes todo)) ≡ n
  pub left_scope : NamesInScope name_count depth left
  pub todo_scope : InScopes arities todo
  pub whole : encode 0 (ren ρ A) ≡ done ++ (map (name_byte depth) (map (lift_by depth ρ) left) ++ renamed ρ todo)

head_scope : (d m : ℕ) (ms : List ℕ) → NamesInScope name_count d (m ∷ ms) → (m < d + name_count) × NamesInScope name_count d ms
unfolding NamesInScope
head_scope d m ms s = s

module _ (arities : List ℕ) (ρ : ℕ → ℕ) (A : Term) (rest : List ℕ) (n : ℕ) (bytes : List ℕ) (at names : ℕ) (S : Passed arities ρ A rest n bytes at names) where
  -- One name of the front.
  passed-name : (class : List ℕ) → ((k : ℕ) → k < name_count → (get_or class k 0 ≡ ρ k) × (ρ k < name_count)) → (m : ℕ) (ms : List ℕ) → S.left ≡ m ∷ ms
      → (v k : ℕ) → v ≡ merged_byte class (get_or bytes at 0) → k ≡ names - 1 → Passed arities ρ A rest n (set bytes at v) (at + 1) k
  passed-name class classes m ms a v k E K =
      let d : ℕ = S.depth in
      let more : List ℕ = map (name_byte d) ms ++ (codes S.todo ++ rest) in
      let b : bytes ≡ S.done ++ ((name_byte d m ∷ []) ++ more) =
      S.bytes_are ∙ ap (λ (l : List ℕ). S.done ++ (map (name_byte d) l ++ (codes S.todo ++ rest))) a in
      let (h, hs) = head_scope d m ms (subst (NamesInScope name_count d) a S.left_scope) in
      let st : drop at bytes ≡ (name_byte d m ∷ []) ++ more =
      ap₂ (λ (j : ℕ) (l : List ℕ). drop j l) (sym S.place) b ∙ drop-append_seam S.done ((name_byte d m ∷ []) ++ more) in
      let z : at + 0 ≡ at = omega arith in
      let g : get_or bytes at 0 ≡ name_byte d m = rw z at (get_d_front bytes at (name_byte d m ∷ []) more 0 st (omega arith)) in
      let w : v ≡ name_byte d (lift_by d ρ m) = E ∙ ap (merged_byte class) g ∙ merged-name class ρ classes d m h in
      record {
        done = S.done ++ (v ∷ []);
        depth = d;
        left = ms;
        todo = S.todo;
        bytes_are =
            ap (λ (l : List ℕ). set l at v) b ∙ sets_middle S.done (name_byte d m ∷ []) more (v ∷ []) at (sym S.place) refl
            ∙ sym (append_assoc S.done (v ∷ []) more);
        place = omega (arith, length-append S.done (v ∷ []), S.place);
        count = omega (arith, K, S.count, ap length a);
        size = omega (arith, S.size, ap length a);
        left_scope = hs;
        todo_scope = S.todo_scope;
        whole =
            S.whole ∙ ap (λ (l : List ℕ). S.done ++ (map (name_byte d) (map (lift_by d ρ) l) ++ renamed ρ S.todo)) a
            ∙ ap (λ (u : ℕ). S.done ++ (u ∷ (map (name_byte d) (map (lift_by d ρ) ms) ++ renamed ρ S.todo))) (sym w)
            ∙ sym (append_assoc S.done (v ∷ []) (map (name_byte d) (map (lift_by d ρ) ms) ++ renamed ρ S.todo));
      }

  -- The front of the next term, but for its names.
  passed-front : S.left ≡ [] → (p : Pending) (ps : List Pending) → S.todo ≡ p ∷ ps → (h : Shape) → ShapeIs bytes at arities h
      → Passed arities ρ A rest n bytes (at + h.fixed) h.names
  unfolding front_bytes
  passed-front a p ps b h shape =
      let d : ℕ = p.depth in
      let P : Term = p.term in
      let sc : InScopes arities (p ∷ ps) = subst (InScopes arities) b S.todo_scope in
      let own : List ℕ = map (name_byte d) (own_names P) in
      let beneath : List ℕ = encode_all (binders P + d) (subterms P) in
      let is : bytes ≡ S.done ++ ((encode d P ++ codes ps) ++ rest) =
      S.bytes_are ∙ ap₂ (λ (ms : List ℕ) (qs : List Pending). S.done ++ (map (name_byte S.depth) ms ++ (codes qs ++ rest))) a b in
      let st : drop at bytes ≡ encode d P ++ (codes ps ++ rest) =
      ap₂ (λ (j : ℕ) (l : List ℕ). drop j l) (sym S.place) is ∙ drop-append_seam S.done ((encode d P ++ codes ps) ++ rest)
      ∙ append_assoc (encode d P) (codes ps) rest in
      let front = front_of name_count arities d P sc.0 in
      let fixed = shape_fixed bytes at arities h shape d P front (codes ps ++ rest) st in
      let named = shape_names bytes at arities h shape d P front (codes ps ++ rest) st in
      let parts : encode d P ≡ (fixed_bytes P ++ own) ++ beneath = encode-parts d P in
      let τ : ℕ → ℕ = lift_by d ρ in
      let below : List ℕ = encode_all (binders P + d) (map (ren (lift_by (binders P + d) ρ)) (subterms P)) in
      let after : encode d (ren τ P) ≡ (fixed_bytes P ++ map (name_byte d) (map τ (own_names P))) ++ below =
      encode-ren d τ P ∙ ap₂ (λ (x : List ℕ) (f : ℕ → ℕ). x ++ encode_all (binders P + d) (map (ren f) (subterms P))) (front-ren d τ P) (lift-more (binders P) d ρ) in
      let named₂ : List ℕ = map (name_byte d) (map τ (own_names P)) in
      let joined : S.done ++ ((((fixed_bytes P ++ own) ++ beneath) ++ codes ps) ++ rest) ≡ (S.done ++ fixed_bytes P) ++ (own ++ ((beneath ++ codes ps) ++ rest)) =
      simp append_assoc in
      let joined₂ : S.done ++ (((fixed_bytes P ++ named₂) ++ below) ++ renamed ρ ps) ≡ (S.done ++ fixed_bytes P) ++ (named₂ ++ (below ++ renamed ρ ps)) =
      simp append_assoc in
      record {
        done = S.done ++ fixed_bytes P;
        depth = d;
        left = own_names P;
        todo = first (binders P + d) (subterms P) ps;
        bytes_are =
            is ∙ ap (λ (x : List ℕ). S.done ++ ((x ++ codes ps) ++ rest)) parts ∙ joined
            ∙ ap (λ (x : List ℕ). (S.done ++ fixed_bytes P) ++ (own ++ (x ++ rest))) (sym (codes-first (binders P + d) (subterms P) ps));
        place = omega (arith, length-append S.done (fixed_bytes P), S.place, fixed);
        count = sym named;
        size = omega (
          arith,
          S.size,
          ap length a,
          ap (λ (l : List Pending). length (codes l)) b,
          length-append (encode d P) (codes ps),
          ap length parts,
          length-append (fixed_bytes P ++ own) beneath,
          length-append (fixed_bytes P) own,
          length-map (own_names P) (name_byte d),
          fixed,
          ap length (codes-first (binders P + d) (subterms P) ps),
          length-append beneath (codes ps),
        );
        left_scope = names_scope name_count arities d P sc.0;
        todo_scope = scopes_first arities (binders P + d) (subterms P) ps (subterms_scope name_count arities d P sc.0) sc.1;
        whole =
            S.whole ∙ ap₂ (λ (ms : List ℕ) (qs : List Pending). S.done ++ (map (name_byte S.depth) (map (lift_by S.depth ρ) ms) ++ renamed ρ qs)) a b
            ∙ ap (λ (x : List ℕ). S.done ++ (x ++ renamed ρ ps)) after ∙ joined₂
            ∙ ap (λ (x : List ℕ). (S.done ++ fixed_bytes P) ++ (named₂ ++ x)) (sym (renamed-first ρ (binders P + d) (subterms P) ps));
      }

  -- Nothing is left to be passed.
  passed-all : S.left ≡ [] → S.todo ≡ [] → bytes ≡ encode 0 (ren ρ A) ++ rest
  passed-all a b =
      S.bytes_are ∙ ap₂ (λ (ms : List ℕ) (ps : List Pending). S.done ++ (map (name_byte S.depth) ms ++ (codes ps ++ rest))) a b
      ∙ ap (λ (l : List ℕ). l ++ rest)
      (sym (S.whole ∙ ap₂ (λ (ms : List ℕ) (ps : List Pending). S.done ++ (map (name_byte S.depth) (map (lift_by S.depth ρ) ms) ++ renamed ρ ps)) a b ∙ append-nil S.done))

  -- A term has bytes.
  none_todo : n ≤ at + length S.left → S.todo ≡ []
  none_todo h = go S.todo refl
    where
      go : (ps : List Pending) → S.todo ≡ ps → S.todo ≡ []
      go [] b = b
      go (p ∷ ps) b =
          absurd (omega (arith, S.size, encode-some p.depth p.term, ap (λ (l : List Pending). length (codes l)) b, length-append (encode p.depth p.term) (codes ps)))

unfoldable pub Merging : List ℕ → ℕ → List ℕ → List ℕ → List ℕ → ℕ → ℕ → Type 0
Merging bytes₀ n arities class bytes at names =
    (ρ : ℕ → ℕ) (A : Term) (rest : List ℕ) → ((k : ℕ) → k < name_count → (get_or class k 0 ≡ ρ k) × (ρ k < name_count)) → InScope name_count arities 0 A
    → bytes₀ ≡ encode 0 A ++ rest → n ≡ length (encode 0 A) → Passed arities ρ A rest n bytes at names

module _ (bytes₀ : List ℕ) (n : ℕ) (arities class : List ℕ) where
  pub merging-none : length bytes₀ < n → MergedIs bytes₀ n arities class bytes₀
  merging-none h = record { is = λ ρ A rest classes scope e size. absurd (omega (arith, ap length e, length-append (encode 0 A) rest)) }

  pub merging_start : Merging bytes₀ n arities class bytes₀ 0 0
  unfolding Merging NamesInScope
  merging_start ρ A rest classes scope e size = record {
    done = [];
    depth = 0;
    left = [];
    todo = record { depth = 0; term = A } ∷ [];
    bytes_are = e ∙ ap (λ (l : List ℕ). l ++ rest) (sym (append-nil (encode 0 A)));
    place = refl;
    count = refl;
    size = omega (arith, size, length-append (encode 0 A) []);
    left_scope = tt;
    todo_scope = (scope, tt);
    whole = sym (append-nil (encode 0 (ren ρ A)));
  }

  module _ (bytes : List ℕ) (at names : ℕ) (F : Merging bytes₀ n arities class bytes at names) where
    pub merging_done : n ≤ at → MergedIs bytes₀ n arities class bytes
    unfolding Merging
    merging_done h = record { is = λ ρ A rest classes scope e size. let S = F ρ A rest classes scope e size in go ρ A rest S S.left refl }
      where
        go : (ρ : ℕ → ℕ) (A : Term) (rest : List ℕ) (S : Passed arities ρ A rest n bytes at names) (ms : List ℕ) → S.left ≡ ms → bytes ≡ encode 0 (ren ρ A) ++ rest
        go ρ A rest S [] a = passed-all arities ρ A rest n bytes at names S a (none_todo arities ρ A rest n bytes at names S (omega arith))
        go ρ A rest S (m ∷ ms) a = absurd (omega (arith, S.size, ap length a))

    pub merging-name : (names ≡ 0 → ⊥) → (v k : ℕ) → v ≡ merged_byte class (get_or bytes at 0) → k ≡ names - 1
        → Merging bytes₀ n arities class (set bytes at v) (at + 1) k
    unfolding Merging
    merging-name some v k E K ρ A rest classes scope e size = let S = F ρ A rest classes scope e size in go S S.left refl
      where
        go : (S : Passed arities ρ A rest n bytes at names) (ms : List ℕ) → S.left ≡ ms → Passed arities ρ A rest n (set bytes at v) (at + 1) k
        go S [] a = absurd (some (sym S.count ∙ ap length a))
        go S (m ∷ ms) a = passed-name arities ρ A rest n bytes at names S class classes m ms a v k E K

    pub merging-front : at < n → names ≡ 0 → (h : Shape) → ShapeIs bytes at arities h → Merging bytes₀ n arities class bytes (at + h.fixed) h.names
    unfolding Merging
    merging-front inside none h shape ρ A rest classes scope e size = let S = F ρ A rest classes scope e size in go S S.left refl S.todo refl
      where
        go : (S : Passed arities ρ A rest n bytes at names) (ms : List ℕ) → S.left ≡ ms → (ps : List Pending) → S.todo ≡ ps
            → Passed arities ρ A rest n bytes (at + h.fixed) h.names
        go S (m ∷ ms) a ps b = absurd (omega (arith, S.count, ap length a, none))
        go S [] a [] b = absurd (omega (arith, S.size, ap length a, ap (λ (l : List Pending). length (codes l)) b))
        go S [] a (p ∷ ps) b = passed-front arities ρ A rest n bytes at names S a p ps b h shape
