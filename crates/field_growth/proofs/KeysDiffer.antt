-- The key says which situation it is: proper situations with the same key are the same, so the slot with a situation's key holds it.
-- Assumes nothing.
use mathlib.Core.Path.{◌≡◌, refl, sym, ap, subst, ◌∙◌}
use mathlib.Core.Bool.{Bool, true, false}
use mathlib.Core.List.{List, ◌++◌}
use Prim.Native.Nat.{ℕ, ◌-◌, ◌*◌, ◌/◌, ◌%◌, ◌<◌}
use native.Mathlib.Decide.{dec_lt}
use native.Mathlib.Omega.{arith}
use lib.ListN.{length, get_or, take, drop, replicate, length-append}
use lib.Seq.{take_at, drop_at, take_all, ext_get_or}
use Rattle.std.specs.Prelude.{Some, None}
use Rattle.calculus.specs.Cond.{Pairs}
use Rattle.calculus.specs.Distinction.{Apart, Irr}
use Rattle.calculus.specs.Term.{Term}
use Rattle.calculus.proofs.Distinctions.{apart_sym}
use Rattle.calculus.proofs.Theorems.{Agree}
use Rattle.terms.specs.Encoding.{encode, InScope}
use Rattle.terms.specs.Limits.{name_count, longest_term}
use Rattle.terms.specs.Operations.{holds_apart}
use Rattle.terms.proofs.ApartLaws.{holds_apart_lem, apart_holds}
use Rattle.calculus.specs.Lists.{◌∈◌, All}
use Rattle.calculus.proofs.Membership.{all-∈}
use Rattle.field.specs.Exploration.{found}
pub use Rattle.field_successors.specs.Fits.{Fits}
use Rattle.field_growth.specs.Holding.{SlotsHold}
use Rattle.field_slots.specs.Key.{SituationAt, bit_at, key_at, FoundIs}
use Rattle.field_pairs.specs.PairNumbers.{number_of}
use Rattle.field_pairs.specs.PairFlags.{pair_count}
use Rattle.field.specs.Situation.{Situation, situation}
use Rattle.field_pairs.specs.Slot.{part_bytes, flag, flags_of, packed, key_of, key_bytes, slot_bytes}
use Rattle.field_slots.proofs.KeyLaws.{length_part, length-packed, packed-bit}
use Rattle.field.proofs.Members.{get_d_∈, ∈-number}
use Rattle.field_pairs.proofs.PairLaws.{length_flags, flag_at}
use Rattle.field_pairs.proofs.NamePairs.{number_right}
use Rattle.field.specs.Situation.{Proper}
use Rattle.field.proofs.Proper.{situation_agreed, either_below, encode_same, same_equal}
use Rattle.field.proofs.Unseen.{∈-found, found-∈}

pub length_key : (s : Situation) → Fits s → length (key_of s) ≡ key_bytes
unfolding key_of
length_key s f =
    let P : List ℕ = part_bytes s.first in
    let Q : List ℕ = part_bytes s.second in
    let bits : List ℕ = packed (flags_of s.apart) in
    omega (
      arith,
      length-append P (Q ++ bits),
      length-append Q bits,
      length_part s.first f.first,
      length_part s.second f.second,
      length-packed (flags_of s.apart),
    )

-- Pieces of the same length.
same_pieces : (xs ys zs ws : List ℕ) (n : ℕ) → length xs ≡ n → length ys ≡ n → xs ++ zs ≡ ys ++ ws → (xs ≡ ys) × (zs ≡ ws)
same_pieces xs ys zs ws n h k e = (
  sym (take_at xs zs n h) ∙ ap (take n) e ∙ take_at ys ws n k,
  sym (drop_at xs zs n h) ∙ ap (drop n) e ∙ drop_at ys ws n k,
)

-- A part by its length and its bytes.
part_same : (P Q : Term) → part_bytes P ≡ part_bytes Q → encode 0 P ≡ encode 0 Q
unfolding part_bytes
part_same P Q e =
    let n : length (encode 0 Q) ≡ length (encode 0 P) = sym (ap (λ l. get_or l 0 0) e) in
    (same_pieces (encode 0 P) (encode 0 Q) (replicate (longest_term - length (encode 0 P)) 0) (replicate (longest_term - length (encode 0 Q)) 0)
    (length (encode 0 P)) refl n (ap (drop 1) e)).0

-- The flags by their bits, and what they say of two names.
flags_same : (D E : Pairs) → packed (flags_of D) ≡ packed (flags_of E) → flags_of D ≡ flags_of E
flags_same D E e =
    ext_get_or 0 (flags_of D) (flags_of E) (length_flags D ∙ sym (length_flags E))
    (λ k l.
    let h : k < pair_count = omega (arith, length_flags D) in
    sym (packed-bit D k h) ∙ ap (λ bs. bit_at (get_or bs (k / 8) 0) (k % 8)) e ∙ packed-bit E k h)

flags_apart : (D E : Pairs) → Irr D → flags_of D ≡ flags_of E → (a b : ℕ) → a < name_count → b < name_count → Apart D a b → Apart E a b
unfolding flag
flags_apart D E irr e a b l m d = either (dec_lt a b)
  where
    ordered : (a b : ℕ) → a < b → b < name_count → Apart D a b → Apart E a b
    ordered a b l h d = holds_apart_lem E a b (go (holds_apart E a b) refl)
      where
        k : ℕ
        k = number_of name_count a b

        test : (F : Pairs) → get_or (flags_of F) k 0 ≡ flag (holds_apart F a b)
        test F =
            let n = number_right a b l h in
            flag_at F k n.below ∙ (λ i. flag (holds_apart F (n.first i) (n.second i)))

        go : (t : Bool) → holds_apart E a b ≡ t → holds_apart E a b ≡ true
        go true q = q
        go false q = absurd (omega (arith, test D, test E, ap (λ fs. get_or fs k 0) e, ap flag (apart_holds D a b d), ap flag q))

    either : Dec (a < b) → Apart E a b
    either (yes h) = ordered a b h m d
    either (no h) =
        let n = irr a b d in
        apart_sym E b a (ordered b a (omega arith) l (apart_sym D a b d))

-- Proper situations with the same key are the same.
module _ (arities : List ℕ) where
  pub key_equal : (s t : Situation) → Proper name_count arities s → Proper name_count arities t → Fits s → Fits t → key_of s ≡ key_of t → s ≡ t
  unfolding key_of
  key_equal s t p q f g e =
      let (a, r) = same_pieces (part_bytes s.first) (part_bytes t.first) _ _ 113 (length_part s.first f.first) (length_part t.first g.first) e in
      let (b, c) = same_pieces (part_bytes s.second) (part_bytes t.second) _ _ 113 (length_part s.second f.second) (length_part t.second g.second) r in
      let same : (P Q : Term) → InScope name_count arities 0 P → InScope name_count arities 0 Q → part_bytes P ≡ part_bytes Q → P ≡ Q =
      λ P Q i j h. encode_same name_count (omega arith) arities P Q i j (part_same P Q h) in
      let x : s.first ≡ t.first = same s.first t.first p.first q.first a in
      let y : s.second ≡ t.second = same s.second t.second p.second q.second b in
      let h : flags_of s.apart ≡ flags_of t.apart = flags_same s.apart t.apart c in
      let below = either_below name_count arities s.first s.second p.first p.second in
      let agree : Agree s.apart t.apart s.first s.second =
      λ n m i j. (
        flags_apart s.apart t.apart p.distinction h n m (below n i) (below m j),
        flags_apart t.apart s.apart q.distinction (sym h) n m (below n i) (below m j),
      ) in
      p.canonical ∙ situation_agreed name_count s.first s.second s.apart t.apart agree
      ∙ (λ i. situation name_count (x i) (y i) t.apart) ∙ sym q.canonical

-- The slot of a situation's key.
pub slot_key : (work : List ℕ) (i : ℕ) (s : Situation) → SituationAt work (slot_bytes * i) s → key_at work i ≡ key_of s
unfolding key_at
slot_key work i s h =
    ap (take key_bytes) h.there ∙ take_at (key_of s) h.rest key_bytes (length_key s (record { first = h.first; second = h.second }))

-- Situations that stand in the slots, and one that `find` looks for by its key.
module _ (arities work : List ℕ) (count : ℕ) (known : List Situation) (number : length known ≡ count) (held : SlotsHold work known)
    (proper : All (Proper name_count arities) known) (s : Situation) (p : Proper name_count arities s) (fits : Fits s) (key : List ℕ)
    (is : key ≡ key_of s) where
  whole : take key_bytes key ≡ key_of s
  whole =
      ap (take key_bytes) is ∙ take_all key_bytes (key_of s) (omega (arith, length_key s fits))

  -- A slot with the key holds the situation; without such a slot it is not among the known ones.
  pub slot_holds : (i : ℕ) → FoundIs work count key (Some i) → (d : Situation) → get_or known i d ≡ s
  unfolding FoundIs
  slot_holds i h d =
      let l : i < length known = omega (arith, h.0) in
      let at = held.held i d l in
      key_equal arities (get_or known i d) s (all-∈ (Proper name_count arities) known proper (get_or known i d) (get_d_∈ known i d l)) p
      (record { first = at.first; second = at.second }) fits (sym (slot_key work i (get_or known i d) at) ∙ h.1 ∙ whole)

  pub found-slot : (i : ℕ) → FoundIs work count key (Some i) → found known s ≡ true
  unfolding FoundIs
  found-slot i h = ∈-found known s (subst (λ t. t ∈ known) (slot_holds i h s) (get_d_∈ known i s (omega (arith, h.0))))

  pub found_no_slot : FoundIs work count key None → found known s ≡ false
  unfolding FoundIs
  found_no_slot h = go (found known s) refl
    where
      go : (b : Bool) → found known s ≡ b → found known s ≡ false
      go false e = e
      go true e =
          let (i, l, q) = ∈-number s known (found-∈ (Proper name_count arities) (same_equal name_count (omega arith) arities) known s proper p e) in
          absurd (h i (omega arith) (slot_key work i (get_or known i s) (held.held i s l) ∙ ap key_of (sym (q s)) ∙ sym whole))
