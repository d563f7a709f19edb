-- What a slice's reader asks of a desk: takes until the desk is opened, and then a stretch for each link. This proxy's own rules.
use Rattle.std.specs.Prelude.{◌≡◌, ◌≢◌, ◌+◌, ◌≤◌, ◌⊎◌, ◌^◌, ◌-◌, ℕ, List, [], ◌∷◌, ◌++◌, Option, Some, None}
use Rattle.fv_live.specs.Live.{count_more}
use Rattle.desk_words.specs.declared.dest.Dest.TheVariants.{Slice}
use Rattle.desk_words.specs.declared.taken.Taken.{Taken}
use Rattle.desk_words.specs.declared.taken.Taken.TheVariants as taken
use Rattle.live_desk.specs.declared.object.DeskOp.{DeskOp}
use Rattle.live_desk.specs.declared.object.DeskReply.TheVariants.{Took}
use Rattle.live_session.specs.declared.ends.ReaderEnd.{ReaderEnd}
use Rattle.live_session.specs.declared.ends.ReaderEnd.TheVariants as reader
use Rattle.live_session.specs.declared.ends.SliceEnd.{SliceEnd}
use Rattle.live_session.specs.declared.ends.SliceEnd.TheVariants.{GaveUp, DeskEnded, Spent}
use Rattle.live_session.specs.declared.side.Side.{Side}
use Rattle.live_session.specs.declared.side.Side.TheVariants as sides
use Rattle.live_session.specs.Stretches.{DeskCall, Spot, Stretch}
use Rattle.live_session.specs.Takings.{View, Taking}

-- a count rose by so many; at the last value of a u64 it stays, and is taken as risen by any number
abbrev pub RoseBy : ℕ → ℕ → ℕ → Type 0
RoseBy n old new = (old + n ≤ new) ⊎ (2 ^ 64 - 1 ≤ new)

-- each take was answered that the desk isn't open
abbrev pub AreEarly : List DeskCall → Type 0
AreEarly [] = Unit {0}
AreEarly (c ∷ cs) = (c.reply ≡ Took taken.NotOpen) × AreEarly cs

-- takes for a slice, each but the last answered that the desk isn't open, and the last one otherwise
pub record Opening (slot : ℕ) (v : View) (left : ℕ) (w : View) (left' : ℕ) : Type 0 where
  pub early : List DeskCall
  pub op : DeskOp
  pub answer : Taken
  pub took : Taking (Slice slot) v left (early ++ record { op = op; reply = Took answer } ∷ []) w left'
  pub are_early : AreEarly early
  pub other : answer ≢ taken.NotOpen

-- takes for a slice, each answered that the desk isn't open, and then no calls are left
pub record OpeningSpent (slot : ℕ) (v : View) (left : ℕ) (w : View) (left' : ℕ) : Type 0 where
  pub early : List DeskCall
  pub took : Taking (Slice slot) v left early w left'
  pub are_early : AreEarly early
  pub none : left' ≡ 0

-- how a stretch came, and how it ended: by a link, or without one
pub data Way : Type 0 where
  OfLink : ReaderEnd → Way
  Without : ReaderEnd → Way

-- how it ended
abbrev pub end_of : Way → ReaderEnd
end_of (OfLink end) = end
end_of (Without end) = end

-- how many came by links
abbrev pub links_in : List Way → ℕ
links_in [] = 0
links_in (OfLink end ∷ ways) = links_in ways + 1
links_in (Without end ∷ ways) = links_in ways

-- how many came without one
abbrev pub withouts_in : List Way → ℕ
withouts_in [] = 0
withouts_in (OfLink end ∷ ways) = withouts_in ways
withouts_in (Without end ∷ ways) = withouts_in ways + 1

-- the stretch of one link, whatever its source
abbrev pub LinkStretch : Side → Spot → ReaderEnd → Spot → Type 0
LinkStretch side a end b = (before after : Option (List ℕ)) × Stretch side a before end after b

-- a stretch without a link: that of a source that gives nothing, so that there are no messages in it
abbrev pub Unlinked : Side → Spot → ReaderEnd → Spot → Type 0
Unlinked side a end b = Stretch side a (Some []) end (Some []) b

-- the stretch that came and ended so
abbrev pub Came : Side → Way → Spot → Spot → Type 0
Came side (OfLink end) a b = LinkStretch side a end b
Came side (Without end) a b = Unlinked side a end b

-- the stretches that came and ended so, one after another; the last one is the first of the list
abbrev pub Linked : Side → List Way → Spot → Spot → Type 0
Linked side [] a b = b ≡ a
Linked side (way ∷ ways) a b = (mid : Spot) × Linked side ways a mid × Came side way mid b

-- the stretches by links are those of the links that the dialler gave, and at most one came without a link
abbrev pub AreLinks : Option ℕ → List Way → Option ℕ → Type 0
AreLinks before ways after = (after ≡ count_more before (links_in ways)) × (withouts_in ways ≤ 1)

-- how the stretches ended, by the answer
abbrev pub LinksEnd : SliceEnd → List Way → Type 0
LinksEnd GaveUp ways = Unit {0}
LinksEnd DeskEnded [] = ⊥
LinksEnd DeskEnded (way ∷ ways) = end_of way ≡ reader.DeskEnded
LinksEnd Spent [] = ⊥
LinksEnd Spent (way ∷ ways) = end_of way ≡ reader.Spent

-- how a slice's reader ends by the end of a link
abbrev pub OverFor : Option SliceEnd → ReaderEnd → Type 0
OverFor None end = Unit {0}
OverFor (Some GaveUp) end = ⊥
OverFor (Some DeskEnded) end = end ≡ reader.DeskEnded
OverFor (Some Spent) end = end ≡ reader.Spent

-- a slice's reader: the seat's own new calls are takes until the desk is open, and then a stretch for each link that the dialler gave, beside at most one without a link
pub record SlicedOpen (slot : ℕ) (a : Spot) (before : Option ℕ) (end : SliceEnd) (after : Option ℕ) (b : Spot) : Type 0 where
  pub mid : Spot
  pub opening : Opening slot a.view a.left mid.view mid.left
  pub clock : mid.coming ≡ a.coming
  pub ways : List Way
  pub linked : Linked (sides.Slice slot) ways mid b
  pub ended : LinksEnd end ways
  pub told : AreLinks before ways after

-- the same, or no calls were left before the desk was open
abbrev pub Sliced : ℕ → Spot → Option ℕ → SliceEnd → Option ℕ → Spot → Type 0
Sliced slot a before end after b = SlicedOpen slot a before end after b ⊎ ((end ≡ Spent) × OpeningSpent slot a.view a.left b.view b.left × (b.coming ≡ a.coming) × (after ≡ before))
