-- The key of the situation that a step and its answer lead to: its two parts, then its pairs. Assumes nothing.
use mathlib.Core.Path.{◌≡◌, refl, sym, ap, ◌∙◌}
use mathlib.Core.Bool.{Bool, true, false}
use mathlib.Core.List.{List, [], ◌++◌, append_assoc, append-nil}
use Prim.Native.Nat.{ℕ, ◌+◌, ◌<◌, ◌≤◌}
use native.Mathlib.Omega.{arith}
use lib.Dec.{ltb}
use lib.ListN.{length, get_or, drop, replicate, length-append, length-drop}
use lib.Seq.{sets, drop_at}
use borrow.Author.Tests.{lt-ltb, le-ltb}
use Rattle.calculus.specs.Cond.{Pairs}
use Rattle.calculus.specs.Term.{Term, ren, put}
use Rattle.terms.specs.Encoding.{encode, InScope}
use Rattle.terms.specs.Limits.{name_count, longest_term}
use Rattle.terms.specs.Operations.{holds_apart}
use Rattle.terms.proofs.RenamingKeeps.{scope_ren}
use Rattle.terms.proofs.RenamingKeeps.{length-ren}
use Rattle.terms_bytes.proofs.Stores.{sets-join, sets_middle, sets-start}
use Rattle.steps.specs.Listed.{ListedStep, names_from, class_in, result_bytes}
use Rattle.field_pairs.specs.Entry.{EntryAt, object_byte}
use Rattle.field_slots.specs.Key.{PartIs, Packs}
use Rattle.field_successors.specs.Leading.{placed, leading, PartsStand, PlacesResults, PlacesReceived, FreeOfParts, CompletesKey, SuccessorIs}
use Rattle.field_pairs.specs.NameFlags.{FreeInEitherIs}
use Rattle.field_pairs.specs.PairFlags.{pair_count, NoneApartIs}
use Rattle.field_successors.specs.Resulting.{CopiesResult, RewritesResult, ReceivesResult}
use Rattle.field.specs.Situation.{free_from, pairs_of, all_pairs, situation}
use Rattle.field_pairs.specs.Slot.{part_bytes, flag, flags_of, octet, octets, packed, key_of, key_bytes, part_room}
use Rattle.field.specs.Successors.{updated_by, led}
use Rattle.field_slots.specs.Update.{KeptIs, UpdatedIs}
use Rattle.field_pairs.proofs.EntryLaws.{entry_object}
use Rattle.field_slots.proofs.KeptPairs.{none_kept}
use Rattle.field_slots.proofs.KeyLaws.{length_part, length-packed}
use Rattle.field_successors.specs.Fits.{Fits}
use Rattle.field_successors.proofs.ResultLaws.{put-below}
use Rattle.field_slots.proofs.UpdateLaws.{pair_off, no_pairs}

-- The parts that stand at the front of a key.
pub free_of_parts : (key arities first second free : List ℕ) → PartIs key 0 first → PartIs key 113 second → FreeInEitherIs first second arities free
    → FreeOfParts key arities free
unfolding PartIs FreeInEitherIs FreeOfParts
free_of_parts key arities first second free p q f P Q h =
    f P Q h.scope h.scope₂ (p P (part_bytes Q ++ h.rest) h.there)
    (q Q h.rest (ap (drop 113) h.there ∙ drop_at (part_bytes P) (part_bytes Q ++ h.rest) 113 (length_part P h.fits)))

-- The flags of the pairs that are kept take their place behind them.
completed : (arities key apart flags key' : List ℕ)
    → ((P Q : Term) (E : Pairs) → PartsStand arities key P Q → apart ≡ flags_of E → flags ≡ flags_of (situation name_count P Q E).apart)
    → Packs flags key (part_room + part_room) key' → CompletesKey arities apart key key'
unfolding Packs CompletesKey key_of situation
completed arities key apart flags key' k p P Q E h e =
    let E' : Pairs = (situation name_count P Q E).apart in
    let bits : List ℕ = packed (flags_of E') in
    let parts : List ℕ = part_bytes P ++ part_bytes Q in
    let t : key ≡ parts ++ (h.rest ++ []) = h.there ∙ simp (append_assoc, append-nil) in
    let n : (part_room + part_room) ≡ length parts = omega (arith, length-append (part_bytes P) (part_bytes Q), length_part P h.fits, length_part Q h.fits₂) in
    p E' (k P Q E h e) ∙ ap (λ l. sets l (part_room + part_room) bits) t
    ∙ sets_middle parts h.rest [] bits (part_room + part_room) n (length-packed (flags_of E') ∙ sym h.bits)
    ∙ simp (append_assoc, append-nil)

pub completes : (arities key free apart flags key' : List ℕ) → FreeOfParts key arities free → KeptIs apart free flags → Packs flags key (part_room + part_room) key'
    → CompletesKey arities apart key key'
unfolding FreeOfParts KeptIs
completes arities key free apart flags key' f k p = completed arities key apart flags key' (λ P Q E h e. k P Q E (f P Q h) e) p

-- Where no flag is set, none is kept.
no_bits : replicate octets 0 ≡ packed (flags_of [])
unfolding packed octet flags_of all_pairs pairs_of names_from holds_apart flag
no_bits = refl

pub completes_none : (arities key apart : List ℕ) (r : Bool) (key' : List ℕ) → NoneApartIs apart r → r ≡ true
    → key' ≡ sets key (part_room + part_room) (replicate octets 0) → CompletesKey arities apart key key'
unfolding NoneApartIs Packs
completes_none arities key apart r key' n q w =
    completed arities key apart (flags_of []) key'
    (λ P Q E h e. ap flags_of (sym (none_kept P Q E (λ k l. pair_off apart k l E e (n q k l)))))
    (λ D e. w ∙ ap (sets key (part_room + part_room)) (no_bits ∙ ap packed e))

-- A result fits, renamed or not.
result_fits : (area : List ℕ) (at : ℕ) (c : ℕ → ℕ) (s : ListedStep) → EntryAt area at s → length (encode 0 (ren c s.result)) ≤ longest_term
unfolding result_bytes
result_fits area at c s e = omega (arith, e.fits, length-ren 0 0 c s.result)

own-fits : (area : List ℕ) (at : ℕ) (s : ListedStep) → EntryAt area at s → length (encode 0 s.result) ≤ longest_term
unfolding result_bytes
own-fits area at s e = e.fits

-- A result renamed stays in scope.
renamed_scope : (arities : List ℕ) (c : ℕ → ℕ) → ((n : ℕ) → n < name_count → c n < name_count) → (P : Term) → InScope name_count arities 0 P
    → InScope name_count arities 0 (ren c P)
renamed_scope arities c h P g = scope_ren name_count name_count arities 0 0 c (λ m l. let w = h m (omega arith) in omega arith) P g

module _ (arities : List ℕ) (second : Bool) (area : List ℕ) (at : ℕ) (others : List ℕ) (place : ℕ) where
  pub leading-fits : (F : List ℕ) (D : Pairs) (s t : ListedStep) (name : ℕ) → EntryAt area at s → EntryAt others place t → Fits (leading second F D s t name)
  unfolding leading led placed situation
  leading-fits F D s t name e f = go (ltb name name_count) second
    where
      go : (b c : Bool) → Fits (led b (placed c) F D s t name)
      go false false = record { first = own-fits area at s e; second = result_fits others place (class_in s.classes) t f }
      go false true = record { first = result_fits others place (class_in s.classes) t f; second = own-fits area at s e }
      go true false = record { first = result_fits area at (put s.object name) s e; second = result_fits others place (put s.object name) t f }
      go true true = record { first = result_fits others place (put s.object name) t f; second = result_fits area at (put s.object name) s e }

  module _ (key : List ℕ) where
    pub places_first : second ≡ false → (key₁ key₂ : List ℕ) → CopiesResult area at key 0 key₁ → RewritesResult area at others place arities key₁ 113 key₂
        → PlacesResults arities second area at others place key key₂
    unfolding CopiesResult RewritesResult PlacesResults led placed situation
    places_first q key₁ key₂ c r s t e f g own =
        let R : Term = ren (class_in s.classes) t.result in
        rw q (r s t e f g own ∙ rw (c s e) (sets-join key 0 113 (part_bytes s.result) (part_bytes R) (omega (arith, length_part s.result (own-fits area at s e)))))

    pub places_second : second ≡ true → (key₁ key₂ : List ℕ) → RewritesResult area at others place arities key 0 key₁ → CopiesResult area at key₁ 113 key₂
        → PlacesResults arities second area at others place key key₂
    unfolding CopiesResult RewritesResult PlacesResults led placed situation
    places_second q key₁ key₂ r c s t e f g own =
        let R : Term = ren (class_in s.classes) t.result in
        rw q (c s e ∙ rw (r s t e f g own)
        (sets-join key 0 113 (part_bytes R) (part_bytes s.result) (omega (arith, length_part R (result_fits others place (class_in s.classes) t f)))))

    -- with a received name
    module _ (name x : ℕ) (l : name < name_count) (o : x ≡ get_or area (at + object_byte) 0) where
      object : (s : ListedStep) → EntryAt area at s → x ≡ s.object
      object s e = o ∙ entry_object area at s e

      pub received-first : second ≡ false → (key₁ key₂ : List ℕ) → ReceivesResult area at arities x name key 0 key₁
          → ReceivesResult others place arities x name key₁ 113 key₂ → PlacesReceived arities second area at others place name key key₂
      unfolding ReceivesResult PlacesReceived led placed situation
      received-first q key₁ key₂ a b s t e f g h =
          let P : Term = ren (put x name) s.result in
          let Q : Term = ren (put x name) t.result in
          rw (q, ← object s e) (b t f h l ∙ rw (a s e g l)
          (sets-join key 0 113 (part_bytes P) (part_bytes Q) (omega (arith, length_part P (result_fits area at (put x name) s e)))))

      pub received-second : second ≡ true → (key₁ key₂ : List ℕ) → ReceivesResult others place arities x name key 0 key₁
          → ReceivesResult area at arities x name key₁ 113 key₂ → PlacesReceived arities second area at others place name key key₂
      unfolding ReceivesResult PlacesReceived led placed situation
      received-second q key₁ key₂ b a s t e f g h =
          let P : Term = ren (put x name) s.result in
          let Q : Term = ren (put x name) t.result in
          rw (q, ← object s e) (a s e g l ∙ rw (b t f h l)
          (sets-join key 0 113 (part_bytes Q) (part_bytes P) (omega (arith, length_part Q (result_fits others place (put x name) t f)))))

  -- The two parts stand in a key that had room for them.
  parts_stand : (key : List ℕ) (P Q : Term) → InScope name_count arities 0 P → InScope name_count arities 0 Q → length (encode 0 P) ≤ longest_term
      → length (encode 0 Q) ≤ longest_term → (key₀ : List ℕ) → length key₀ ≡ key_bytes → key ≡ sets key₀ 0 (part_bytes P ++ part_bytes Q)
      → PartsStand arities key P Q
  parts_stand key P Q g h k l key₀ n w =
      let parts : List ℕ = part_bytes P ++ part_bytes Q in
      let m : length parts ≡ (part_room + part_room) = omega (arith, length-append (part_bytes P) (part_bytes Q), length_part P k, length_part Q l) in
      record {
        rest = drop (length parts) key₀;
        there = w ∙ sets-start key₀ parts (omega arith) ∙ append_assoc (part_bytes P) (part_bytes Q) (drop (length parts) key₀);
        bits = omega (arith, length-drop (length parts) key₀);
        scope = g;
        scope₂ = h;
        fits = k;
        fits₂ = l;
      }

  pub successor_is : (free apart : List ℕ) (name : ℕ) (new key₀ key key' : List ℕ) → name_count ≤ name → length key₀ ≡ key_bytes
      → PlacesResults arities second area at others place key₀ key → UpdatedIs apart free area at new → CompletesKey arities new key key'
      → SuccessorIs arities free apart second area at others place name key'
  unfolding PlacesResults UpdatedIs CompletesKey SuccessorIs leading led placed situation
  successor_is free apart name new key₀ key key' past n p u k G D s t hn ha e f g h own = rw (le-ltb name name_count past) (go second refl)
    where
      R : Term
      R = ren (class_in s.classes) t.result

      scope : InScope name_count arities 0 R
      scope = renamed_scope arities (class_in s.classes) e.within t.result h

      E : Pairs
      E = updated_by (free_from G 0 name_count) D s

      fits : length (encode 0 R) ≤ longest_term
      fits = result_fits others place (class_in s.classes) t f

      go : (b : Bool) → second ≡ b → key' ≡ key_of (placed second s.result R E)
      go false q = rw q (k s.result R E
          (parts_stand key s.result R g scope (own-fits area at s e) fits key₀ n (rw q at (p s t e f h own)))
          (u G D s hn ha e))
      go true q = rw q (k R s.result E
          (parts_stand key R s.result scope g fits (own-fits area at s e) key₀ n (rw q at (p s t e f h own)))
          (u G D s hn ha e))

  -- where all names differ: no pairs
  pub successor-received : (free apart : List ℕ) (name : ℕ) (key₀ key key' : List ℕ) → name < name_count → length key₀ ≡ key_bytes
      → PlacesReceived arities second area at others place name key₀ key → CompletesKey arities (replicate pair_count 0) key key'
      → SuccessorIs arities free apart second area at others place name key'
  unfolding PlacesReceived CompletesKey SuccessorIs leading led placed situation
  successor-received free apart name key₀ key key' l n p k G D s t hn ha e f g h own = rw (lt-ltb name name_count l) (go second refl)
    where
      c : ℕ → ℕ
      c = put s.object name

      P : Term
      P = ren c s.result

      Q : Term
      Q = ren c t.result

      first : InScope name_count arities 0 P
      first = renamed_scope arities c (λ m h. put-below s.object name m l h) s.result g

      other : InScope name_count arities 0 Q
      other = renamed_scope arities c (λ m h. put-below s.object name m l h) t.result h

      go : (b : Bool) → second ≡ b → key' ≡ key_of (placed second P Q [])
      go false q = rw q (k P Q []
          (parts_stand key P Q first other (result_fits area at c s e) (result_fits others place c t f) key₀ n (rw q at (p s t e f g h))) no_pairs)
      go true q = rw q (k Q P []
          (parts_stand key Q P other first (result_fits others place c t f) (result_fits area at c s e) key₀ n (rw q at (p s t e f g h))) no_pairs)
