-- The loops that update the apart pairs: what each pair adds, and what all of them make. Assumes nothing.
use mathlib.Core.Path.{◌≡◌, refl, sym, ap, ap₂, ◌∙◌}
use mathlib.Core.Bool.{Bool, true, false, cond, false≢true, ◌&&◌}
use mathlib.Core.List.{List, [], ◌∷◌, ◌++◌, map, append-nil}
use Prim.Native.Nat.{ℕ, suc, ◌+◌, ◌-◌, ◌<◌, ◌≤◌}
use native.Mathlib.Omega.{arith}
use lib.ListN.{length, get_or, take, drop, replicate, length-replicate, drop_of_length-le}
use lib.Seq.{sets, sets-eq, take_all, drop-length}
use lib.Dec.{eqb}
use borrow.Author.Tests.{eq-eqb, ne_eqb}
use Rattle.calculus.specs.Cond.{Pairs, map_p}
use Rattle.calculus.specs.Distinction.{among, keep}
use Rattle.calculus.specs.Free.{fn}
use Rattle.calculus.specs.OpenBisimulation.{times}
use Rattle.terms.specs.Limits.{name_count}
use Rattle.terms.specs.Operations.{holds_apart}
use Rattle.steps.specs.Listed.{ListedStep, names_from, class_in}
use Rattle.steps_conditions.specs.Conditions.{ClassOfIs, TrivialIs}
use Rattle.steps_conditions.proofs.ClassBytes.{trivial_own}
use Rattle.field_pairs.specs.Entry.{EntryAt, kind_byte, object_byte}
use Rattle.field_pairs.specs.NameFlags.{HasNames}
use Rattle.field_pairs.specs.PairNumbers.{pair_at}
use Rattle.field_pairs.specs.PairFlags.{pair_count, AddsPair, NoneApartIs}
use Rattle.field.specs.Situation.{free_from, pairs_of, all_pairs}
use Rattle.field_pairs.specs.Slot.{flag, flags_of}
use Rattle.field.specs.Successors.{extruded_by, updated_by}
use Rattle.field_slots.specs.Update.{AddsIfFree, AddsRow, AddsExtruded, AddsRewritten, RewritesPairs, UpdatedIs, KeepsPairs, if_free, kept_flag, kept_flags, KeptIs}
use Rattle.field_pairs.proofs.EntryLaws.{entry_kind, entry_object, entry_classes}
use Rattle.field_slots.proofs.KeptPairs.{keep-drop, situation-kept, kept_holds, flags_rewritten, none-rewritten}
use Rattle.field_pairs.proofs.PairLaws.{length_flags, flag_at, flags_are}
use Rattle.field_pairs.proofs.NamePairs.{pair_ordered, pair_below, length_pairs}
use Rattle.field_slots.proofs.Runs.{length-mapped, mapped_at}

-- no flag is set at first
pub no_pairs : replicate pair_count 0 ≡ flags_of []
unfolding flags_of all_pairs pairs_of names_from holds_apart flag
no_pairs = refl

-- What a flag that was read says of the test.
name-test : (free : List ℕ) (n : ℕ) (G : List ℕ) → n < name_count → HasNames free G → (t : Bool) → among G n ≡ t → get_or free n 0 ≡ flag t
unfolding HasNames
name-test free n G l h t e = h n l ∙ ap flag e

pair_test : (flags : List ℕ) (k : ℕ) (E : Pairs) → k < pair_count → flags ≡ flags_of E → (t : Bool) → holds_apart E (pair_at name_count k).0 (pair_at name_count k).1 ≡ t
    → get_or flags k 0 ≡ flag t
pair_test flags k E l h t e = ap (λ f. get_or f k 0) h ∙ flag_at E k l ∙ ap flag e

flag_off : (t : Bool) (v : ℕ) → v ≡ flag t → v ≡ 0 → t ≡ false
unfolding flag
flag_off true v e z = absurd (omega arith)
flag_off false v e z = refl

flag_on : (t : Bool) (v : ℕ) → v ≡ flag t → (v ≡ 0 → ⊥) → t ≡ true
unfolding flag
flag_on true v e z = refl
flag_on false v e z = absurd (z e)

module _ (free : List ℕ) (n : ℕ) (l : n < name_count) (G : List ℕ) (h : HasNames free G) where
  name_off : get_or free n 0 ≡ 0 → among G n ≡ false
  name_off z = flag_off (among G n) (get_or free n 0) (name-test free n G l h (among G n) refl) z

  name_on : (get_or free n 0 ≡ 0 → ⊥) → among G n ≡ true
  name_on z = flag_on (among G n) (get_or free n 0) (name-test free n G l h (among G n) refl) z

module _ (flags : List ℕ) (k : ℕ) (l : k < pair_count) (E : Pairs) (h : flags ≡ flags_of E) where
  pub pair_off : get_or flags k 0 ≡ 0 → holds_apart E (pair_at name_count k).0 (pair_at name_count k).1 ≡ false
  pair_off z = flag_off (holds_apart E (pair_at name_count k).0 (pair_at name_count k).1) (get_or flags k 0) (pair_test flags k E l h (holds_apart E (pair_at name_count k).0 (pair_at name_count k).1) refl) z

  pair_on : (get_or flags k 0 ≡ 0 → ⊥) → holds_apart E (pair_at name_count k).0 (pair_at name_count k).1 ≡ true
  pair_on z = flag_on (holds_apart E (pair_at name_count k).0 (pair_at name_count k).1) (get_or flags k 0) (pair_test flags k E l h (holds_apart E (pair_at name_count k).0 (pair_at name_count k).1) refl) z

-- The extruded name and one other.
module _ (flags free : List ℕ) (x n : ℕ) (l : n < name_count) where
  pub if_free_not : get_or free n 0 ≡ 0 → AddsIfFree flags free x n flags
  unfolding AddsIfFree
  if_free_not z G D h e = rw (name_off free n l G h z) e

  pub if_free_lem : (get_or free n 0 ≡ 0 → ⊥) → (flags' : List ℕ) → AddsPair flags x n flags' → AddsIfFree flags free x n flags'
  unfolding AddsIfFree AddsPair
  if_free_lem z flags' a G D h e = rw (name_on free n l G h z) (a D e)

-- The extruded name and those from n on.
abbrev pub Row : List ℕ → List ℕ → ℕ → List ℕ → ℕ → Type 0
Row flags₀ free x flags n =
    (G : List ℕ) (D : Pairs) → HasNames free G → flags₀ ≡ flags_of D → flags ≡ flags_of (map (λ m. (x, m)) (free_from G n (name_count - n)) ++ D)

pub row-start : (flags free : List ℕ) (x : ℕ) → Row flags free x flags name_count
unfolding free_from
row-start flags free x G D h e = e

pub row_next : (flags₀ free : List ℕ) (x : ℕ) (flags : List ℕ) (n : ℕ) (flags' : List ℕ) → 0 < n → n ≤ name_count → Row flags₀ free x flags n
    → AddsIfFree flags free x (n - 1) flags' → Row flags₀ free x flags' (n - 1)
unfolding AddsIfFree free_from
row_next flags₀ free x flags n flags' l h so a G D has e =
    let k : name_count - (n - 1) ≡ suc (name_count - n) = omega arith in
    let m : suc (n - 1) ≡ n = omega arith in
    rw (k, m) (a G (map (λ m. (x, m)) (free_from G n (name_count - n)) ++ D) has (so G D has e) ∙ ap flags_of (go (among G (n - 1)) (free_from G n (name_count - n)) D))
  where
    go : (t : Bool) (F : List ℕ) (D : Pairs)
        → cond t ((x, n - 1) ∷ (map (λ m. (x, m)) F ++ D)) (map (λ m. (x, m)) F ++ D) ≡ map (λ m. (x, m)) (cond t ((n - 1) ∷ F) F) ++ D
    go true F D = refl
    go false F D = refl

pub row-whole : (flags free : List ℕ) (x : ℕ) (flags' : List ℕ) (n : ℕ) → n ≡ 0 → Row flags free x flags' n → AddsRow flags free x flags'
unfolding AddsRow
row-whole flags free x flags' n e so G D h f = so G D h f ∙ ap (λ k. flags_of (map (λ m. (x, m)) (free_from G k (name_count - k)) ++ D)) e

-- Only a new-name output extrudes.
module _ (flags free area : List ℕ) (at : ℕ) where
  pub extruded-none : (get_or area (at + kind_byte) 0 ≡ 3 → ⊥) → AddsExtruded flags free area at flags
  unfolding AddsExtruded extruded_by
  extruded-none z G D s h e f = rw (ne_eqb s.kind 3 (λ q. z (entry_kind area at s f ∙ q))) e

  pub extruded-row : get_or area (at + kind_byte) 0 ≡ 3 → (x : ℕ) → x ≡ get_or area (at + object_byte) 0 → (flags' : List ℕ) → AddsRow flags free x flags'
      → AddsExtruded flags free area at flags'
  unfolding AddsExtruded AddsRow extruded_by
  extruded-row z x o flags' a G D s h e f =
      let k : eqb s.kind 3 ≡ true = eq-eqb s.kind 3 (sym (entry_kind area at s f) ∙ z) in
      let y : x ≡ s.object = o ∙ entry_object area at s f in
      rw (k, ← y, append-nil) (a G D h e)

-- One pair rewritten.
module _ (flags : List ℕ) (k : ℕ) (l : k < pair_count) (area : List ℕ) (at : ℕ) (new : List ℕ) where
  pub rewritten_not : get_or flags k 0 ≡ 0 → AddsRewritten flags k area at new new
  unfolding AddsRewritten
  rewritten_not z E D s h e f = rw (pair_off flags k l E h z) e

  pub rewritten_pair : (get_or flags k 0 ≡ 0 → ⊥) → (a b : ℕ) → ClassOfIs area at (pair_at name_count k).0 a → ClassOfIs area at (pair_at name_count k).1 b
      → (new' : List ℕ) → AddsPair new a b new' → AddsRewritten flags k area at new new'
  unfolding AddsRewritten AddsPair ClassOfIs
  rewritten_pair z a b p q new' add E D s h e f =
      let c = entry_classes area at s f in
      rw (pair_on flags k l E h z, ← p s.classes c, ← q s.classes c) (add D e)

-- Those from k on.
abbrev pub Rewritten : List ℕ → List ℕ → ℕ → List ℕ → List ℕ → ℕ → Type 0
Rewritten flags area at new₀ new k =
    (E : Pairs) (s : ListedStep) → flags ≡ flags_of E → new₀ ≡ flags_of [] → EntryAt area at s
    → new ≡ flags_of (map_p (class_in s.classes) (keep (holds_apart E) (drop k (all_pairs name_count))))

none_left : drop pair_count (all_pairs name_count) ≡ []
none_left = rw (← length_pairs) (drop-length (all_pairs name_count))

pub rewritten-start : (flags area : List ℕ) (at : ℕ) (new : List ℕ) → Rewritten flags area at new new pair_count
unfolding keep
rewritten-start flags area at new E s h e f = rw none_left e

pub rewritten_next : (flags area : List ℕ) (at : ℕ) (new₀ new : List ℕ) (k : ℕ) (new' : List ℕ) → 0 < k → k ≤ pair_count
    → Rewritten flags area at new₀ new k → AddsRewritten flags (k - 1) area at new new' → Rewritten flags area at new₀ new' (k - 1)
unfolding AddsRewritten
rewritten_next flags area at new₀ new k new' l m so a E s h e f =
    let j : k - 1 + 1 ≡ k = omega arith in
    let K : Pairs = keep (holds_apart E) (drop k (all_pairs name_count)) in
    let t : Bool = holds_apart E (pair_at name_count (k - 1)).0 (pair_at name_count (k - 1)).1 in
    let c : ℕ → ℕ = class_in s.classes in
    a E (map_p c K) s h (so E s h e f) f
    ∙ ap flags_of (go c (pair_at name_count (k - 1)) t K ∙ ap (map_p c) (ap (λ i. cond t (pair_at name_count (k - 1) ∷ keep (holds_apart E) (drop i (all_pairs name_count))) (keep (holds_apart E) (drop i (all_pairs name_count)))) (sym j) ∙ sym (keep-drop (holds_apart E) (k - 1) (omega arith))))
  where
    go : (c : ℕ → ℕ) (p : ℕ × ℕ) (t : Bool) (K : Pairs) → cond t ((c p.0, c p.1) ∷ map_p c K) (map_p c K) ≡ map_p c (cond t (p ∷ K) K)
    go c p true K = refl
    go c p false K = refl

pub rewritten-whole : (flags area : List ℕ) (at : ℕ) (new new' : List ℕ) (k : ℕ) → k ≡ 0 → Rewritten flags area at new new' k
    → RewritesPairs flags area at new new'
unfolding RewritesPairs
rewritten-whole flags area at new new' k q so E s h e f =
    so E s h e f ∙ ap (λ i. flags_of (map_p (class_in s.classes) (keep (holds_apart E) (drop i (all_pairs name_count))))) q ∙ flags_rewritten area at s f E

-- Definition 15.
pub updated_is : (flags free area : List ℕ) (at : ℕ) (more new : List ℕ) → AddsExtruded flags free area at more
    → RewritesPairs more area at (replicate pair_count 0) new → UpdatedIs flags free area at new
unfolding AddsExtruded RewritesPairs UpdatedIs updated_by
updated_is flags free area at more new a r G D s h e f = r (times (extruded_by s) (free_from G 0 name_count) ++ D) s (a G D s h e f) no_pairs f

-- What merges no names rewrites nothing.
own-pairs : (c : ℕ → ℕ) → ((n : ℕ) → c n ≡ n) → (E : Pairs) → map_p c E ≡ E
own-pairs c own [] = refl
own-pairs c own (p ∷ E) = ap₂ ◌∷◌ (λ i. (own p.0 i, own p.1 i)) (own-pairs c own E)

pub updated_trivial : (flags free area : List ℕ) (at : ℕ) (more : List ℕ) → AddsExtruded flags free area at more
    → (r : Bool) → TrivialIs area at r → r ≡ true → UpdatedIs flags free area at more
unfolding AddsExtruded UpdatedIs updated_by
updated_trivial flags free area at more a r t q G D s h e f =
    a G D s h e f ∙ ap flags_of (sym (own-pairs (class_in s.classes) (trivial_own area at r t q s.classes (entry_classes area at s f)) (times (extruded_by s) (free_from G 0 name_count) ++ D)))

-- Where no pair is apart, there is nothing to rewrite.
pub updated_none : (flags free area : List ℕ) (at : ℕ) (more : List ℕ) → AddsExtruded flags free area at more
    → (r : Bool) → NoneApartIs more r → r ≡ true → UpdatedIs flags free area at more
unfolding AddsExtruded NoneApartIs UpdatedIs updated_by holds_apart flag
updated_none flags free area at more a r n q G D s h e f =
    let E : Pairs = times (extruded_by s) (free_from G 0 name_count) ++ D in
    let m : more ≡ flags_of E = a G D s h e f in
    flags_are [] more (ap length m ∙ length_flags E) (n q) ∙ none-rewritten area at s f E (λ k l. pair_off more k l E m (n q k l))

-- A step that extrudes no name and merges none.
pub keeps_pairs_is : (area : List ℕ) (at : ℕ) → (get_or area (at + kind_byte) 0 ≡ 3 → ⊥) → (r : Bool) → TrivialIs area at r → KeepsPairs area at r
unfolding KeepsPairs
keeps_pairs_is area at z r t q flags free = updated_trivial flags free area at flags (extruded-none flags free area at z) r t q

pub keeps_pairs_not : (area : List ℕ) (at : ℕ) → KeepsPairs area at false
unfolding KeepsPairs
keeps_pairs_not area at q = absurd (false≢true q)

-- The pairs, copied into a list of as many flags.
flags_copied : (flags : List ℕ) (D : Pairs) → flags ≡ flags_of D → sets (replicate pair_count 0) 0 (take pair_count (drop 0 flags)) ≡ flags
flags_copied flags D e =
    let n : length flags ≡ pair_count = ap length e ∙ length_flags D in
    let zeros : List ℕ = replicate pair_count 0 in
    let l : length zeros ≡ pair_count = length-replicate {A = ℕ} pair_count 0 in
    ap (sets zeros 0) (take_all pair_count flags (omega (arith, n)))
    ∙ sets-eq flags zeros 0 (omega (arith, n, l))
    ∙ ap (λ r. flags ++ r) (drop_of_length-le zeros {i = 0 + length flags} (omega (arith, n, l)))
    ∙ append-nil flags

pub extruded-copied : (flags free area : List ℕ) (at : ℕ) (copied more : List ℕ) → copied ≡ sets (replicate pair_count 0) 0 (take pair_count (drop 0 flags))
    → AddsExtruded copied free area at more → AddsExtruded flags free area at more
unfolding AddsExtruded
extruded-copied flags free area at copied more m a G D s h e f = a G D s h (m ∙ flags_copied flags D e ∙ e) f

-- The flags of the pairs of which both names are free.
pub kept_at : (flags free : List ℕ) (i : ℕ) → i < pair_count → get_or (kept_flags flags free) i 0 ≡ kept_flag flags free i
unfolding kept_flags
kept_at flags free i h = mapped_at (kept_flag flags free) pair_count i h

pub kept_is : (flags free : List ℕ) → KeptIs flags free (kept_flags flags free)
unfolding KeptIs kept_flags kept_flag if_free HasNames flag
kept_is flags free P Q E h f =
    flags_are (keep test (all_pairs name_count)) (kept_flags flags free) (length-mapped (kept_flag flags free) pair_count) (λ i l. kept_at flags free i l ∙ at i l)
    ∙ ap flags_of (situation-kept P Q E)
  where
    G : List ℕ
    G = fn P ++ fn Q

    test : ℕ → ℕ → Bool
    test a b = holds_apart E a b && (among G a && among G b)

    both : (s t u : Bool) → if_free (flag s) (if_free (flag t) (flag u)) ≡ flag (u && (s && t))
    both true true true = refl
    both true true false = refl
    both true false true = refl
    both true false false = refl
    both false t true = refl
    both false t false = refl

    at : (i : ℕ) → i < pair_count → kept_flag flags free i ≡ flag (holds_apart (keep test (all_pairs name_count)) (pair_at name_count i).0 (pair_at name_count i).1)
    at i l =
        rw (f, flag_at E i l, h (pair_at name_count i).0 (omega (arith, pair_ordered i l, pair_below i l)), h (pair_at name_count i).1 (pair_below i l), kept_holds test i l)
        (both (among G (pair_at name_count i).0) (among G (pair_at name_count i).1) (holds_apart E (pair_at name_count i).0 (pair_at name_count i).1))
