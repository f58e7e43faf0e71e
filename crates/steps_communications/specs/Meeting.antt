-- The communications of a parallel from the rows of its two sides: what the functions that put them into the list promise.
use Rattle.std.specs.Prelude.{◌≡◌, Bool, true, false, cond, ◌&&◌, List, map, ℕ, ◌+◌, ◌<◌, ◌≤◌, eqb, ltb, leb, length, get_or, Option, Some, None}
use Rattle.calculus.specs.Term.{Term, par}
use Rattle.terms.specs.Limits.{name_count}
use Rattle.terms.specs.Question.{Question}
use Rattle.terms.specs.Question.{body_of}
use Rattle.terms_bytes.specs.NameTable.{last_name}
use Rattle.steps.specs.Raw.{Candidate, blocked, communication, visible, silent}
use Rattle.steps_splicing.specs.Collecting.{PutIs, CollectIs}
use Rattle.steps_splicing.specs.Contexts.{Frame, raised, Placed}
use Rattle.steps_placing.specs.Deciding.{decided}
use Rattle.steps_splicing.specs.ListedParts.{Lists}
use Rattle.steps_rows.specs.Rows.{kind_at, channel_at, action_kind, Outlined, Row, Rows}
use Rattle.steps_communications.specs.declared.meet.Partner.{Partner}

-- No number of a candidate comes near it: 2 to the power of 40.
abbrev pub most_numbers : ℕ
most_numbers = 1099511627776

-- The channels that may be merged with c, from the first to the last: with a free name every free name, with another slot itself alone.
unfoldable pub first_merged : ℕ → ℕ
first_merged c = cond (leb c last_name) 0 c

unfoldable pub last_merged : ℕ → ℕ
last_merged c = cond (leb c last_name) last_name c

unfoldable pub is_between : (c low high : ℕ) → Bool
is_between c low high = cond (ltb c low) false (leb c high)

-- Two rows, the second by kind and channel, the first by kind and those channels: one receives, the other sends, and the channels may be merged.
-- A row whose candidate adds no step meets no other.
unfoldable pub meets_between : (k₁ low high k₂ c₂ : ℕ) → Bool
meets_between k₁ low high k₂ c₂ =
    cond (eqb k₂ 4) false
    (cond (eqb (action_kind k₁) 1) (cond (eqb (action_kind k₂) 1) false (is_between c₂ low high)) (cond (eqb (action_kind k₂) 1) (is_between c₂ low high) false))

unfoldable pub may_meet : (k₁ c₁ k₂ c₂ : ℕ) → Bool
may_meet k₁ c₁ k₂ c₂ = meets_between k₁ (first_merged c₁) (last_merged c₁) k₂ c₂

-- The row that an answer says, or `last` where it says none.
abbrev pub met_or : ℕ → Option ℕ → ℕ
met_or last (Some w) = w
met_or last None = last

-- A row that an answer says comes before `last`.
abbrev pub MetInside : ℕ → Option ℕ → Type 0
MetInside last (Some w) = w < last
MetInside last None = Unit {0}

-- The first of the rows from `from` up to `last` that may meet one of this kind and channel; `last` where there is none.
pub record NextMetIs (rows : List ℕ) (kind channel from last r : ℕ) : Type 0 where
  pub on : from ≤ r
  pub inside : r ≤ last
  pub apart : (w : ℕ) → from ≤ w → w < r → may_meet kind channel (kind_at rows w) (channel_at rows w) ≡ false
  pub meets : r < last → may_meet kind channel (kind_at rows r) (channel_at rows r) ≡ true

-- A row whose candidate is not known to be blocked.
unfoldable pub Unblocked : (d : ℕ) (c : Candidate) (kind channel object : ℕ) → Type 0
Unblocked d c kind channel object = Outlined d c kind channel object × (channel < name_count + d)

-- The row without the match.
abbrev pub unmatched_row : Partner → Partner
unmatched_row a = record { kind = action_kind a.kind; channel = a.channel; object = a.object; number = a.number }

-- The row that sends: the right one, where the left one receives.
unfoldable pub sender_of : Partner → Partner → Partner
sender_of a b = cond (eqb a.kind 1) b a

-- It sends a name that is free under so many restrictions.
unfoldable pub sends_free : ℕ → Partner → Bool
sends_free depth a = eqb a.kind 2 && ltb a.object (name_count + depth)

-- One communication, that of s and t, by the rows a and b; j is its number among the silent candidates of the parallel at `at`.
pub record PairIs (question part : List ℕ) (at depth number : ℕ) (a b : Partner) (j x : ℕ) (area : List ℕ) (count r : ℕ) (area' : List ℕ) : Type 0 where
  pub is : (q : Question) (P : Term) → Lists question part x q P
      → (K : List Frame) (L R : Term) (first : ℕ)
      → Placed q.arities (body_of q.bodies) P K (par L R) at depth first number
      → (s t : Candidate)
      → a.number < length (visible (body_of q.bodies) 1 L) → s ≡ get_or (visible (body_of q.bodies) 1 L) a.number blocked
      → b.number < length (visible (body_of q.bodies) 1 R) → t ≡ get_or (visible (body_of q.bodies) 1 R) b.number blocked
      → Unblocked depth (decided depth s) a.kind a.channel a.object
      → Outlined depth (decided depth t) b.kind b.channel b.object
      → may_meet a.kind a.channel b.kind b.channel ≡ true
      → j < length (silent (body_of q.bodies) 1 (par L R))
      → get_or (silent (body_of q.bodies) 1 (par L R)) j blocked ≡ communication s t
      → PutIs (raised K (communication s t)) x area count r area'

-- The communications of s, the left side's visible candidate number `left`, whose row has this number, with the right side's visible candidates,
-- whose rows are those from `middle` up to `last`; j is the number of the first. An s that adds no step is passed over.
pub record MeetRowIs (question part : List ℕ) (at depth number x : ℕ) (rows : List ℕ) (row left middle last j : ℕ) (area : List ℕ) (count r : ℕ) (area' : List ℕ) : Type 0 where
  pub is : (q : Question) (P : Term) → Lists question part x q P
      → (K : List Frame) (L R : Term) (first : ℕ)
      → Placed q.arities (body_of q.bodies) P K (par L R) at depth first number
      → (s : Candidate)
      → left < length (visible (body_of q.bodies) 1 L) → s ≡ get_or (visible (body_of q.bodies) 1 L) left blocked
      → (kind_at rows row ≡ 4 → ⊥)
      → Row depth s rows row
      → Rows depth (visible (body_of q.bodies) 1 R) rows middle
      → last ≡ middle + length (visible (body_of q.bodies) 1 R)
      → j + length (visible (body_of q.bodies) 1 R) ≤ length (silent (body_of q.bodies) 1 (par L R))
      → ((w : ℕ) → w < length (visible (body_of q.bodies) 1 R)
      → get_or (silent (body_of q.bodies) 1 (par L R)) (j + w) blocked ≡ communication s (get_or (visible (body_of q.bodies) 1 R) w blocked))
      → CollectIs (map (raised K) (map (communication s) (visible (body_of q.bodies) 1 R))) x area count r area'
  pub over : kind_at rows row ≡ 4 → (r ≡ count) × (area' ≡ area)
