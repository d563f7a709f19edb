-- Links, one after another.
use Rattle.std.proofs.Common.{◌≡◌, ◌≢◌, inl, inr, ◌≤◌, ℕ, ◌+◌, Bool, true, false, if◌then◌else◌, List, [], ◌∷◌, ◌++◌, refl, ap, subst, ◌∙◌, arith}
use Rattle.std.specs.Prelude.{Option, Some, None}
use Rattle.fv_live.specs.Live.{count_more}
use Rattle.live_session.specs.Links.{RoseBy}
use Rattle.desk_words.specs.declared.dest.Dest.TheVariants.{Slice}
use Rattle.desk_words.specs.declared.taken.Taken.{Taken}
use Rattle.desk_words.specs.declared.taken.Taken.TheVariants.{NotOpen}
use Rattle.live_desk.specs.declared.object.DeskOp.TheVariants.{Take}
use Rattle.live_desk.specs.declared.object.DeskReply.TheVariants.{Took}
use Rattle.live_session.specs.declared.ends.ReaderEnd.{ReaderEnd}
use Rattle.live_session.specs.declared.ends.SliceEnd.{SliceEnd}
use Rattle.live_session.specs.declared.ends.SliceEnd.TheVariants as slice
use Rattle.live_session.specs.Stretches.{DeskCall}
use Rattle.live_session.specs.Takings.{View, Taking, TookOne}
use Rattle.live_session.specs.Links.{AreEarly, AreLinks, Opening, Way, OfLink, Without, end_of, links_in, withouts_in, LinksEnd, OverFor}
use Rattle.live_session.proofs.Wanting.{taking_more}

early_more : (calls : List DeskCall) (c : DeskCall) → AreEarly calls → c.reply ≡ Took NotOpen → AreEarly (calls ++ c ∷ [])
early_more [] c h e = (e, tt)
early_more (d ∷ calls) c h e = (h.0, early_more calls c h.1 e)

abbrev pub Early : ℕ → View → ℕ → View → ℕ → Type 0
Early slot v left w m = (calls : List DeskCall) × Taking (Slice slot) v left calls w m × AreEarly calls

pub opens : (slot : ℕ) (v w u : View) (left m n : ℕ) (answer : Taken) → Early slot v left w m → TookOne (Slice slot) w m answer u n → answer ≢ NotOpen → Opening slot v left u n
opens slot v w u left m n answer h k other = record {
  early = h.0;
  op = Take (Slice slot);
  answer = answer;
  took = taking_more (Slice slot) v w u left m n h.0 (record { op = Take (Slice slot); reply = Took answer } ∷ []) h.1 k;
  are_early = h.2;
  other = other;
}

pub still_early : (slot : ℕ) (v w u : View) (left m n : ℕ) (answer : Taken) → Early slot v left w m → TookOne (Slice slot) w m answer u n → answer ≡ NotOpen → Early slot v left u n
still_early slot v w u left m n answer h k is = (
  h.0 ++ record { op = Take (Slice slot); reply = Took answer } ∷ [],
  taking_more (Slice slot) v w u left m n h.0 (record { op = Take (Slice slot); reply = Took answer } ∷ []) h.1 k,
  early_more h.0 (record { op = Take (Slice slot); reply = Took answer }) h.2 (ap Took is),
)

pub counted_more : (told : Option ℕ) (n : ℕ) → count_more (count_more told n) 1 ≡ count_more told (n + 1)
counted_more None n = refl
counted_more (Some k) n = let e : (k + n) + 1 ≡ k + (n + 1) = omega arith in ap Some e

pub counted_none : (told : Option ℕ) → told ≡ count_more told 0
counted_none None = refl
counted_none (Some k) = let e : k ≡ k + 0 = omega arith in ap Some e

-- the stretches so far are those of links, and one without a link where the desk was asked
abbrev extra : Bool → ℕ
extra asked = if asked then 1 else 0

abbrev pub SoFar : Option ℕ → Bool → List Way → Option ℕ → Type 0
SoFar before asked ways now = (now ≡ count_more before (links_in ways)) × (withouts_in ways ≡ extra asked)

pub none_yet : (told : Option ℕ) → SoFar told false [] told
none_yet told = (counted_none told, refl)

pub link_more : (before mid after : Option ℕ) (asked : Bool) (end : ReaderEnd) (ways : List Way) → SoFar before asked ways mid → after ≡ count_more mid 1 → SoFar before asked (OfLink end ∷ ways) after
link_more before mid after asked end ways h k = (k ∙ (ap (λ t. count_more t 1) h.0 ∙ counted_more before (links_in ways)), h.1)

pub ask_more : (before mid : Option ℕ) (asked : Bool) (end : ReaderEnd) (ways : List Way) → asked ≡ false → SoFar before asked ways mid → SoFar before true (Without end ∷ ways) mid
ask_more before mid asked end ways is h =
    let was : withouts_in ways ≡ extra false = subst (λ (b : Bool). withouts_in ways ≡ extra b) is h.1 in
    let more : withouts_in (Without end ∷ ways) ≡ extra true = omega (arith, was) in
    (h.0, more)

pub are_links : (before now : Option ℕ) (asked : Bool) (ways : List Way) → SoFar before asked ways now → AreLinks before ways now
are_links before now true ways h = let few : withouts_in ways ≤ 1 = omega (arith, h.1) in (h.0, few)
are_links before now false ways h = let few : withouts_in ways ≤ 1 = omega (arith, h.1) in (h.0, few)

pub rose_none : (k old mid new : ℕ) → RoseBy k old mid → mid ≤ new → RoseBy 0 old new
rose_none k old mid new (inl h) le = inl (omega (arith, h, le))
rose_none k old mid new (inr h) le = inr (omega (arith, h, le))

pub ends_by : (over : SliceEnd) (way : Way) (ways : List Way) → OverFor (Some over) (end_of way) → LinksEnd over (way ∷ ways)
ends_by slice.GaveUp way ways h = absurd h
ends_by slice.DeskEnded way ways h = h
ends_by slice.Spent way ways h = h

pub not_given_up : (over : SliceEnd) (end : ReaderEnd) → OverFor (Some over) end → over ≡ slice.GaveUp → ⊥
not_given_up over end h e = subst (λ o. OverFor (Some o) end) e h
