-- The bytes of a situation: its parts, its flags in octets, and which slot has them. Assumes nothing.
use mathlib.Core.Path.{◌≡◌, refl, sym, ap, ◌∙◌}
use mathlib.Core.Bool.{Bool, true, false}
use mathlib.Core.List.{List, [], ◌∷◌, ◌++◌, append_assoc}
use Prim.Native.Nat.{ℕ, zero, suc, ◌+◌, ◌-◌, ◌*◌, ◌/◌, ◌%◌, ◌^◌, ◌<◌, ◌≤◌}
use native.Mathlib.Decide.{dec_lt}
use native.Mathlib.Nat.{zero-div}
use native.Mathlib.Omega.{arith}
use lib.ListN.{length, get_or, take, drop, set, replicate, length-append, length-drop, length-replicate, get_or-replicate, get_or-eq_default}
use lib.Seq.{sets, drop-drop, drop_at, take_at, get_or-drop, length-take-le, ext_get_or}
use Rattle.std.specs.Prelude.{Some}
use Rattle.calculus.specs.Cond.{Pairs}
use Rattle.calculus.specs.Term.{Term}
use Rattle.terms.specs.Encoding.{encode}
use Rattle.terms.specs.Limits.{name_count, longest_term}
use Rattle.terms.specs.Operations.{holds_apart}
use Rattle.terms_renaming.proofs.Filling.{Filling}
use Rattle.terms_bytes.proofs.Stores.{get_d_front, sets-join, sets_more, run_whole}
use Rattle.steps.specs.Listed.{names_from}
use Rattle.field_slots.specs.Chains.{word_at}
use Rattle.field_slots.specs.Key.{SituationAt, PartIs, FirstPartIs, SecondPartIs, ApartFlagsIs, bit_at, bits_of, BitIs, OctetIs, Packs, Unpacks, slot_with, key_at, SameKeyIs, FoundIs}
use Rattle.field_pairs.specs.PairNumbers.{pair_at}
use Rattle.field_pairs.specs.PairFlags.{pair_count}
use Rattle.field.specs.Situation.{Situation}
use Rattle.field_pairs.specs.Slot.{part_bytes, flag, flags_of, octet, octets, packed, key_of, key_bytes, slot_bytes, part_room}
use Rattle.field_pairs.proofs.PairLaws.{length_flags, flag_at}
use Rattle.field_slots.proofs.Runs.{length-mapped, mapped_at, fill_run, fill-past}

-- A part.
pub length_part : (P : Term) → length (encode 0 P) ≤ longest_term → length (part_bytes P) ≡ 1 + longest_term
unfolding part_bytes
length_part P h =
    let bs : List ℕ = encode 0 P in
    omega (arith, length-append bs (replicate (longest_term - length bs) 0), length-replicate {A = ℕ} (longest_term - length bs) 0)

module _ (area : List ℕ) (at : ℕ) (P : Term) (rest : List ℕ) (e : drop at area ≡ part_bytes P ++ rest) where
  -- behind its length
  pub behind : drop (at + 1) area ≡ encode 0 P ++ (replicate (longest_term - length (encode 0 P)) 0 ++ rest)
  unfolding part_bytes
  behind = sym (drop-drop 1 at area) ∙ ap (drop 1) e ∙ append_assoc (encode 0 P) (replicate (longest_term - length (encode 0 P)) 0) rest

  part_length : get_or area at 0 ≡ length (encode 0 P)
  unfolding part_bytes
  part_length =
      let z : at + 0 ≡ at = omega arith in
      ap (λ k. get_or area k 0) (sym z) ∙ sym (get_or-drop at area 0 0) ∙ ap (λ l. get_or l 0 0) e

  part_inside : at + 1 + length (encode 0 P) ≤ length area
  unfolding part_bytes
  part_inside =
      let bs : List ℕ = encode 0 P in
      let fill : List ℕ = replicate (longest_term - length bs) 0 in
      omega (arith, length-drop at area, ap length e, length-append (bs ++ fill) rest, length-append bs fill)

pub part_piece : (area : List ℕ) (at n : ℕ) → n ≡ get_or area at 0 → PartIs area at (take (at + 1 + n - (at + 1)) (drop (at + 1) area))
unfolding PartIs
part_piece area at n q P rest e =
    let l : at + 1 + n - (at + 1) ≡ length (encode 0 P) = omega (arith, q, part_length area at P rest e) in
    rw (l, behind area at P rest e) (take_at (encode 0 P) (replicate (longest_term - length (encode 0 P)) 0 ++ rest) (length (encode 0 P)) refl)

pub part_none : (area : List ℕ) (at n : ℕ) → n ≡ get_or area at 0 → length area < at + 1 + n → PartIs area at []
unfolding PartIs
part_none area at n q short P rest e = absurd (omega (arith, q, part_length area at P rest e, part_inside area at P rest e))

-- Flags are bits.
pub flag_small : (D : Pairs) (i : ℕ) → get_or (flags_of D) i 0 ≤ 1
unfolding flag
flag_small D i = go (dec_lt i pair_count)
  where
    bit : (t : Bool) → flag t ≤ 1
    bit true = omega arith
    bit false = omega arith

    go : Dec (i < pair_count) → get_or (flags_of D) i 0 ≤ 1
    go (yes h) = rw (flag_at D i h) (bit (holds_apart D (pair_at name_count i).0 (pair_at name_count i).1))
    go (no h) = omega (arith, get_or-eq_default (flags_of D) 0 {n = i} (omega (arith, length_flags D)))

-- Eight bits and their byte.
module _ (a b c d e f g h : ℕ) (la : a ≤ 1) (lb : b ≤ 1) (lc : c ≤ 1) (ld : d ≤ 1) (le : e ≤ 1) (lf : f ≤ 1) (lg : g ≤ 1) (lh : h ≤ 1) where
  abbrev byte : ℕ
  byte = a + 2 * b + 4 * c + 8 * d + 16 * e + 32 * f + 64 * g + 128 * h

  bit_of_byte : (j : ℕ) → j < 8 → byte / 2 ^ j % 2 ≡ get_or (a ∷ b ∷ c ∷ d ∷ e ∷ f ∷ g ∷ h ∷ []) j 0
  bit_of_byte zero l = omega arith
  bit_of_byte (suc zero) l = omega arith
  bit_of_byte (suc (suc zero)) l = omega arith
  bit_of_byte (suc (suc (suc zero))) l = omega arith
  bit_of_byte (suc (suc (suc (suc zero)))) l = omega arith
  bit_of_byte (suc (suc (suc (suc (suc zero))))) l = omega arith
  bit_of_byte (suc (suc (suc (suc (suc (suc zero)))))) l = omega arith
  bit_of_byte (suc (suc (suc (suc (suc (suc (suc zero))))))) l = omega arith
  bit_of_byte (suc (suc (suc (suc (suc (suc (suc (suc j)))))))) l = absurd (omega arith)

-- eight elements from a place on
eight : (fs : List ℕ) (i j : ℕ) → j < 8
    → get_or (get_or fs (i + 0) 0 ∷ get_or fs (i + 1) 0 ∷ get_or fs (i + 2) 0 ∷ get_or fs (i + 3) 0 ∷ get_or fs (i + 4) 0 ∷ get_or fs (i + 5) 0 ∷ get_or fs (i + 6) 0 ∷ get_or fs (i + 7) 0 ∷ []) j 0
    ≡ get_or fs (i + j) 0
eight fs i zero l = refl
eight fs i (suc zero) l = refl
eight fs i (suc (suc zero)) l = refl
eight fs i (suc (suc (suc zero))) l = refl
eight fs i (suc (suc (suc (suc zero)))) l = refl
eight fs i (suc (suc (suc (suc (suc zero))))) l = refl
eight fs i (suc (suc (suc (suc (suc (suc zero)))))) l = refl
eight fs i (suc (suc (suc (suc (suc (suc (suc zero))))))) l = refl
eight fs i (suc (suc (suc (suc (suc (suc (suc (suc j)))))))) l = absurd (omega arith)

bit-octet : (D : Pairs) (k j : ℕ) → j < 8 → bit_at (octet (flags_of D) k) j ≡ get_or (flags_of D) (8 * k + j) 0
unfolding bit_at octet
bit-octet D k j l =
    let fs : List ℕ = flags_of D in
    let v : ℕ → ℕ = λ i. get_or fs (8 * k + i) 0 in
    let w : (i : ℕ) → v i ≤ 1 = λ i. flag_small D (8 * k + i) in
    bit_of_byte (v 0) (v 1) (v 2) (v 3) (v 4) (v 5) (v 6) (v 7) (w 0) (w 1) (w 2) (w 3) (w 4) (w 5) (w 6) (w 7) j l ∙ eight fs (8 * k) j l

-- The byte that the code makes of eight bits.
pub octet_is : (fs : List ℕ) (k a b c d e f g h : ℕ) → BitIs fs (8 * k) a → BitIs fs (8 * k + 1) b → BitIs fs (8 * k + 2) c → BitIs fs (8 * k + 3) d
    → BitIs fs (8 * k + 4) e → BitIs fs (8 * k + 5) f → BitIs fs (8 * k + 6) g → BitIs fs (8 * k + 7) h
    → OctetIs fs k (a + 2 * b + 4 * c + 8 * d + 16 * (e + 2 * f + 4 * g + 8 * h))
unfolding OctetIs octet
octet_is fs k a b c d e f g h ia ib ic id ie jf ig ih D q =
    let small : (i : ℕ) → get_or fs i 0 ≤ 1 = λ i. rw q (flag_small D i) in
    let z : 8 * k + 0 ≡ 8 * k = omega arith in
    rw z
    (omega (
      arith,
      ia.is (small (8 * k)),
      ib.is (small (8 * k + 1)),
      ic.is (small (8 * k + 2)),
      id.is (small (8 * k + 3)),
      ie.is (small (8 * k + 4)),
      jf.is (small (8 * k + 5)),
      ig.is (small (8 * k + 6)),
      ih.is (small (8 * k + 7)),
    ))

-- four flags that are not set
pub word_none : (fs : List ℕ) (at w : ℕ) → w ≡ word_at fs at → w ≡ 0
    → (get_or fs at 0 ≡ 0) × (get_or fs (at + 1) 0 ≡ 0) × (get_or fs (at + 2) 0 ≡ 0) × (get_or fs (at + 3) 0 ≡ 0)
unfolding word_at
word_none fs at w e z = (omega arith, omega arith, omega arith, omega arith)

-- Fifteen octets.
pub length-packed : (fs : List ℕ) → length (packed fs) ≡ octets
unfolding packed
length-packed fs = length-mapped (octet fs) octets

pub packed-at : (fs : List ℕ) (k : ℕ) → k < octets → get_or (packed fs) k 0 ≡ octet fs k
unfolding packed
packed-at fs k h = mapped_at (octet fs) octets k h

-- a flag, read back from the octets
pub packed-bit : (D : Pairs) (k : ℕ) → k < pair_count → bit_at (get_or (packed (flags_of D)) (k / 8) 0) (k % 8) ≡ get_or (flags_of D) k 0
packed-bit D k l =
    let m : 8 * (k / 8) + k % 8 ≡ k = omega arith in
    ap (λ c. bit_at c (k % 8)) (packed-at (flags_of D) (k / 8) (omega arith)) ∙ bit-octet D (k / 8) (k % 8) (omega arith) ∙ ap (λ j. get_or (flags_of D) j 0) m

abbrev pub Packing : List ℕ → List ℕ → ℕ → List ℕ → ℕ → Type 0
Packing flags out₀ put out k = (D : Pairs) → flags ≡ flags_of D → out ≡ sets out₀ put (take k (packed (flags_of D)))

pub packing_next : (flags out₀ : List ℕ) (put : ℕ) (out : List ℕ) (k b : ℕ) → k < octets → Packing flags out₀ put out k → OctetIs flags k b
    → Packing flags out₀ put (set out (put + k) b) (k + 1)
unfolding OctetIs
packing_next flags out₀ put out k b h so o D e =
    let v : b ≡ get_or (packed (flags_of D)) k 0 = o D e ∙ ap (λ fs. octet fs k) e ∙ sym (packed-at (flags_of D) k h) in
    rw (so D e, v) (sets_more out₀ (packed (flags_of D)) put k (omega (arith, length-packed (flags_of D))))

pub packing_whole : (flags out : List ℕ) (put : ℕ) (out' : List ℕ) (k : ℕ) → octets ≤ k → Packing flags out put out' k → Packs flags out put out'
unfolding Packs
packing_whole flags out put out' k h so D e = run_whole out (packed (flags_of D)) put k out' (omega (arith, length-packed (flags_of D))) (so D e)

-- The bits of a byte, stored one by one.
pub bits_stored : (l : List ℕ) (at b : ℕ)
    → set (set (set (set (set (set (set (set l at (b % 2)) (at + 1) (b / 2 % 2)) (at + 2) (b / 4 % 2)) (at + 3) (b / 8 % 2)) (at + 4) (b / 16 % 2)) (at + 5) (b / 32 % 2)) (at + 6) (b / 64 % 2)) (at + 7) (b / 128 % 2)
    ≡ sets l at (bits_of b)
unfolding bits_of bit_at names_from
bits_stored l at b =
    let z : bit_at b 0 ≡ b % 2 = omega arith in
    let e1 : suc at ≡ at + 1 = omega arith in
    let e2 : suc (suc at) ≡ at + 2 = omega arith in
    let e3 : suc (suc (suc at)) ≡ at + 3 = omega arith in
    let e4 : suc (suc (suc (suc at))) ≡ at + 4 = omega arith in
    let e5 : suc (suc (suc (suc (suc at)))) ≡ at + 5 = omega arith in
    let e6 : suc (suc (suc (suc (suc (suc at))))) ≡ at + 6 = omega arith in
    let e7 : suc (suc (suc (suc (suc (suc (suc at)))))) ≡ at + 7 = omega arith in
    rw (z, e7, e6, e5, e4, e3, e2, e1)

-- Read back, octet by octet.
abbrev pub bit_from : List ℕ → ℕ → ℕ → ℕ
bit_from area at i = bit_at (get_or area (at + i / 8) 0) (i % 8)

module _ (area : List ℕ) (at : ℕ) (flags₀ flags : List ℕ) (k : ℕ) (n : flags₀ ≡ replicate pair_count 0) (l : k < octets) (F : Filling (bit_from area at) flags₀ flags (8 * k)) where
  next : 8 * k + 8 ≡ 8 * (k + 1)
  next = omega arith

  -- the bits of octet k
  own-octet : (j : ℕ) → j < 8 → bit_from area at (8 * k + j) ≡ bit_at (get_or area (at + k) 0) j
  own-octet j h =
      let q : (8 * k + j) / 8 ≡ k = omega arith in
      let r : (8 * k + j) % 8 ≡ j = omega arith in
      rw (q, r)

  pub unpack_zero : get_or area (at + k) 0 ≡ 0 → Filling (bit_from area at) flags₀ flags (8 * (k + 1))
  unfolding bit_at
  unpack_zero z = rw (← next) (fill-past (bit_from area at) flags₀ flags (8 * k) 8 none F)
    where
      none : (j : ℕ) → j < 8 → get_or flags₀ (8 * k + j) 0 ≡ bit_from area at (8 * k + j)
      none j h =
          rw n (get_or-replicate pair_count (8 * k + j) 0 0 (omega arith))
          ∙ sym (own-octet j h ∙ ap (λ b. bit_at b j) z ∙ ap (λ b. b % 2) (zero-div (2 ^ j)))

  pub unpack_next : (b : ℕ) → b ≡ get_or area (at + k) 0 → Filling (bit_from area at) flags₀ (sets flags (8 * k) (bits_of b)) (8 * (k + 1))
  unfolding bits_of
  unpack_next b q =
      let m = length-mapped (bit_at b) 8 in
      let e : 8 * k + length (bits_of b) ≡ 8 * (k + 1) = omega (arith, m) in
      rw (← e)
      (fill_run (bit_from area at) flags₀ flags (8 * k) (bits_of b) (omega (arith, ap length n, length-replicate {A = ℕ} pair_count 0, m))
      (λ j h. mapped_at (bit_at b) 8 j (omega (arith, m)) ∙ ap (λ c. bit_at c j) q ∙ sym (own-octet j (omega (arith, m)))) F)

pub unpacked : (area : List ℕ) (at : ℕ) (flags flags' : List ℕ) (i : ℕ) → length flags ≡ pair_count → pair_count ≤ i → Filling (bit_from area at) flags flags' i
    → Unpacks area at flags'
unfolding Unpacks
unpacked area at flags flags' i n h F D rest e =
    ext_get_or 0 flags' (flags_of D) (F.len ∙ n ∙ sym (length_flags D)) (λ k l. F.done k (omega (arith, F.len)) ∙ bit k (omega (arith, F.len)))
  where
    bit : (k : ℕ) → k < pair_count → bit_from area at k ≡ get_or (flags_of D) k 0
    bit k l =
        ap (λ c. bit_at c (k % 8)) (get_d_front area at (packed (flags_of D)) rest (k / 8) e (omega (arith, length-packed (flags_of D)))) ∙ packed-bit D k l

-- The three pieces of a key.
module _ (area : List ℕ) (at : ℕ) (s : Situation) (h : SituationAt area at s) where
  key_first : drop at area ≡ part_bytes s.first ++ (part_bytes s.second ++ (packed (flags_of s.apart) ++ h.rest))
  unfolding key_of
  key_first = h.there ∙ simp append_assoc

  key_second : drop (at + part_room) area ≡ part_bytes s.second ++ (packed (flags_of s.apart) ++ h.rest)
  key_second = sym (drop-drop part_room at area) ∙ ap (drop part_room) key_first ∙ drop_at (part_bytes s.first) _ part_room (length_part s.first h.first)

  key_bits : drop (at + (part_room + part_room)) area ≡ packed (flags_of s.apart) ++ h.rest
  key_bits =
      let n : at + (part_room + part_room) ≡ at + part_room + part_room = omega arith in
      rw (n, ← drop-drop, key_second) (drop_at (part_bytes s.second) (packed (flags_of s.apart) ++ h.rest) part_room (length_part s.second h.second))

pub first_is : (area : List ℕ) (at : ℕ) (r : List ℕ) → PartIs area at r → FirstPartIs area at r
unfolding PartIs FirstPartIs
first_is area at r p s h = p s.first (part_bytes s.second ++ (packed (flags_of s.apart) ++ h.rest)) (key_first area at s h)

pub second_is : (area : List ℕ) (at : ℕ) (r : List ℕ) → PartIs area (at + part_room) r → SecondPartIs area at r
unfolding PartIs SecondPartIs
second_is area at r p s h = p s.second (packed (flags_of s.apart) ++ h.rest) (key_second area at s h)

pub apart_is : (area : List ℕ) (at : ℕ) (r : List ℕ) → Unpacks area (at + (part_room + part_room)) r → ApartFlagsIs area at r
unfolding Unpacks ApartFlagsIs
apart_is area at r u s h = u s.apart h.rest (key_bits area at s h)

-- Which slot has the key.
pub found_at : (area : List ℕ) (count : ℕ) (key : List ℕ) (i : ℕ) (r : Bool) → i < count → r ≡ true → SameKeyIs area (slot_bytes * i) key r
    → FoundIs area count key (Some i)
unfolding FoundIs key_at
found_at area count key i r l q h = (l, h.same q)

pub other-slot : (area key : List ℕ) (i : ℕ) (r : Bool) → r ≡ false → SameKeyIs area (slot_bytes * i) key r → key_at area i ≡ take key_bytes key → ⊥
unfolding key_at
other-slot area key i r q h = h.other q

-- The key copied into its slot, and the byte behind it.
pub key_held : (work key : List ℕ) (i : ℕ) → key_bytes ≤ length key → (work' : List ℕ) → work' ≡ sets work (slot_bytes * i) (take key_bytes (drop 0 key))
    → set work' (slot_bytes * i + key_bytes) 0 ≡ slot_with work i key
unfolding slot_with
key_held work key i long work' w =
    ap (λ l. set l (slot_bytes * i + key_bytes) 0) w
    ∙ sets-join work (slot_bytes * i) (slot_bytes * i + key_bytes) (take key_bytes key) (0 ∷ []) (omega (arith, length-take-le key_bytes key long))
