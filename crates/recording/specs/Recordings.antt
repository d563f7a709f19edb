-- Recordings and traces: the records of a file, of which each must fit those before it (all this proxy's own rule).
use Rattle.std.specs.Prelude.{◌≡◌, ℕ, zero, suc, ◌+◌, ◌-◌, ◌<◌, ◌≤◌, ◌^◌, ◌==◌, ◌||◌, ◌&&◌, not, leb, ltb, Bool, true, false, if◌then◌else◌, List, [], ◌∷◌, ◌++◌, length, take, bytes_eq, Result, Ok, Err}
use Rattle.std.specs.List.{flat_map}
use Rattle.byteorder.specs.Endian.{big_bytes}
use Rattle.of10_model.specs.Normal.{number_at}
use Rattle.of10_model.specs.Results.{◌>>=◌, Answers}
use Rattle.recording.specs.declared.item.Item.{Item}
use Rattle.recording.specs.declared.item.TheConstants.{BYTE_LIMIT}
use Rattle.recording.specs.declared.layout.Layout.{Layout}
use Rattle.recording.specs.declared.layout.Layout.TheVariants.{Recording, Trace}
use Rattle.recording.specs.declared.fault.RecordingFault.{RecordingFault}
use Rattle.recording.specs.declared.fault.RecordingFault.TheVariants.{Torn, Bad, NotOpen, Memory}

-- a call fails as a reading does, or for lack of memory
abbrev pub FailsAsRecording : {X : Type 0} → RecordingFault → Result X RecordingFault → Type 0
FailsAsRecording Memory read = Unit {0}
FailsAsRecording (Torn at) read = read ≡ Err (Torn at)
FailsAsRecording (Bad at) read = read ≡ Err (Bad at)
FailsAsRecording (NotOpen at) read = read ≡ Err (NotOpen at)

-- a call answers what a reading gives, its value seen by view, unless memory ran out
abbrev pub GivesAsRecording : {X Y : Type 0} → (X → Y) → Result X RecordingFault → Result Y RecordingFault → Type 0
GivesAsRecording view called read = Answers FailsAsRecording view called read

-- ---- the kinds of records

abbrev pub switch_up : ℕ
switch_up = 0

abbrev pub switch_bytes : ℕ
switch_bytes = 1

abbrev pub switch_down : ℕ
switch_down = 2

abbrev pub slice_up : ℕ
slice_up = 3

abbrev pub slice_bytes : ℕ
slice_bytes = 4

abbrev pub slice_down : ℕ
slice_down = 5

-- a frame that was sent to a switch for a slice
abbrev pub sent_bytes : ℕ
sent_bytes = 6

-- ---- the form of a record

-- the eight bytes that begin a recording
abbrev pub magic : List ℕ
magic = 0x46 ∷ 0x56 ∷ 0x52 ∷ 0x45 ∷ 0x43 ∷ 0 ∷ 0 ∷ 1 ∷ []

-- the eight bytes that begin a trace
abbrev pub trace_magic : List ℕ
trace_magic = 0x46 ∷ 0x56 ∷ 0x54 ∷ 0x52 ∷ 0x43 ∷ 0 ∷ 0 ∷ 1 ∷ []

-- the bytes that begin a file
abbrev pub magic_of : Layout → List ℕ
magic_of Recording = magic
magic_of Trace = trace_magic

-- the head of a record: kind, switch, slot, a zero byte, the number of its bytes, and its timestamp
unfoldable pub head_spelling : ℕ → ℕ → ℕ → ℕ → ℕ → List ℕ
head_spelling kind switch slot size moment = (kind ∷ switch ∷ slot ∷ 0 ∷ []) ++ big_bytes 4 size ++ big_bytes 8 moment

-- a record: its head and its bytes
abbrev pub record_spelling : ℕ → ℕ → ℕ → ℕ → List ℕ → List ℕ
record_spelling kind switch slot moment bytes = head_spelling kind switch slot (length bytes) moment ++ bytes

-- what the head of 16 bytes at a place says, and the place behind it
unfoldable pub item_at : List ℕ → ℕ → Item
item_at bytes at = record {
  kind = number_at bytes at 1;
  switch = number_at bytes (at + 1) 1;
  slot = number_at bytes (at + 2) 1;
  moment = number_at bytes (at + 8) 8;
  from = at + 16;
  size = number_at bytes (at + 4) 4;
}

-- ---- the two layouts of files of records

-- a recording has the kinds up to slice_down, and a trace those of a switch and the frames that were sent
abbrev pub has_kind : Layout → ℕ → Bool
has_kind Recording kind = leb kind slice_down
has_kind Trace kind = leb kind switch_down || kind == sent_bytes

-- the kinds whose records carry bytes
abbrev pub carries_bytes : ℕ → Bool
carries_bytes kind = kind == switch_bytes || kind == slice_bytes || kind == sent_bytes

-- at most 16 MiB
abbrev pub byte_limit : ℕ → ℕ
byte_limit kind = if carries_bytes kind then BYTE_LIMIT else 0

-- a head of the form: a kind of the layout, one of 16 switches, slot 0 for a switch and a slot of the policy for a slice, a zero byte, and no more bytes than the kind may carry
abbrev pub has_form : Layout → ℕ → ℕ → Item → Bool
has_form layout slices reserved r =
    has_kind layout r.kind && ltb r.switch 16
    && (if ltb r.kind slice_up then r.slot == 0 else ltb r.slot slices)
    && reserved == 0
    && leb r.size (byte_limit r.kind)

-- ---- who is up, by the records so far, newest first

-- a switch is up where its last SWITCH_UP or SWITCH_DOWN is an up
abbrev pub is_switch_open : ℕ → List Item → Bool
is_switch_open switch [] = false
is_switch_open switch (r ∷ before) =
    if r.switch == switch && (r.kind == switch_up || r.kind == switch_down) then r.kind == switch_up
    else is_switch_open switch before

-- a slice is up where the last of its SLICE_UP, its SLICE_DOWN and its switch's SWITCH_DOWN is an up
abbrev pub is_slice_open : ℕ → ℕ → List Item → Bool
is_slice_open switch slot [] = false
is_slice_open switch slot (r ∷ before) =
    if r.switch == switch && (r.kind == switch_down || (r.slot == slot && (r.kind == slice_up || r.kind == slice_down))) then r.kind == slice_up
    else is_slice_open switch slot before

-- a switch connects where it isn't up, and all else of it comes while it is. A slice connects where it isn't up and its switch is, and all else of the slice comes while it is
abbrev pub fits : List Item → Item → Bool
fits before r =
    if r.kind == switch_up then not (is_switch_open r.switch before)
    else if r.kind == switch_bytes || r.kind == switch_down then is_switch_open r.switch before
    else if r.kind == slice_up then is_switch_open r.switch before && not (is_slice_open r.switch r.slot before)
    else is_slice_open r.switch r.slot before

-- in a trace a switch connects where it isn't up, and all else comes while it is
abbrev pub fits_trace : List Item → Item → Bool
fits_trace before r = if r.kind == switch_up then not (is_switch_open r.switch before) else is_switch_open r.switch before

-- a record may come behind others
abbrev pub may_follow : Layout → List Item → Item → Bool
may_follow Recording before r = fits before r
may_follow Trace before r = fits_trace before r

-- ---- what a record carries

-- the bytes of a record are one whole frame: at least a header, whose length counts them all (OpenFlow 1.0.0, section 5.1)
abbrev pub is_frame_at : List ℕ → Item → Bool
is_frame_at bytes r = leb 8 r.size && number_at bytes (r.from + 2) 2 == r.size

-- the bytes of a record are such as its kind carries
abbrev pub is_whole : Layout → List ℕ → Item → Bool
is_whole Recording bytes r = true
is_whole Trace bytes r = not (carries_bytes r.kind) || is_frame_at bytes r

-- ---- reading

-- the record at a place behind others, or what is wrong with it, in the order of the tests
unfoldable pub record_in : Layout → ℕ → List ℕ → List Item → ℕ → Result Item RecordingFault
record_in layout slices bytes before at =
    let left = length bytes - at in
    let r = item_at bytes at in
    if ltb left 16 then Err (Torn at)
    else if not (has_form layout slices (number_at bytes (at + 3) 1) r) then Err (Bad at)
    else if ltb (left - 16) r.size then Err (Torn at)
    else if not (is_whole layout bytes r) then Err (Bad at)
    else if not (may_follow layout before r) then Err (NotOpen at)
    else Ok r

-- the records from a place up to the end, at most as many as the count, behind others
unfoldable pub items_in : Layout → ℕ → ℕ → List ℕ → List Item → ℕ → Result (List Item) RecordingFault
items_in layout zero slices bytes before at = Ok []
items_in layout (suc n) slices bytes before at =
    if leb (length bytes) at then Ok [] else do
      r ← record_in layout slices bytes before at
      others ← items_in layout n slices bytes (r ∷ before) (r.from + r.size)
      Ok (r ∷ others)

-- all records of a file behind the bytes that begin it: there are no more than bytes
unfoldable pub read_in : Layout → ℕ → List ℕ → Result (List Item) RecordingFault
read_in layout slices bytes =
    if ltb (length bytes) 8 then Err (Torn 0)
    else if bytes_eq (take 8 bytes) (magic_of layout) then items_in layout (length bytes) slices bytes [] 8
    else Err (Bad 0)

-- the record behind the bytes that begin the file is read
abbrev pub HasFirstIn : Layout → ℕ → List ℕ → Type 0
HasFirstIn layout slices bytes = (first : Item) × (record_in layout slices bytes [] 8 ≡ Ok first)

-- a file begins as one of the layout does, and its first record is read
abbrev pub IsBegunIn : Layout → ℕ → List ℕ → Type 0
IsBegunIn layout slices bytes = (take 8 bytes ≡ magic_of layout) × HasFirstIn layout slices bytes

-- what every record has that is read: it is of the form, its bytes are such as its kind carries, and they lie in the file
pub record IsRead (layout : Layout) (slices : ℕ) (bytes : List ℕ) (r : Item) : Type 0 where
  pub form : has_form layout slices 0 r ≡ true
  pub whole : is_whole layout bytes r ≡ true
  pub within : r.from + r.size ≤ length bytes

-- ---- of a recording

abbrev pub record_at : ℕ → List ℕ → List Item → ℕ → Result Item RecordingFault
record_at = record_in Recording

abbrev pub items_from : ℕ → ℕ → List ℕ → List Item → ℕ → Result (List Item) RecordingFault
items_from = items_in Recording

-- all records of a recording
abbrev pub read_items : ℕ → List ℕ → Result (List Item) RecordingFault
read_items = read_in Recording

-- a file begins as a recording does, and its first record is read
abbrev pub IsBegun : ℕ → List ℕ → Type 0
IsBegun = IsBegunIn Recording

-- ---- of a trace

-- all records of a trace
abbrev pub read_trace : ℕ → List ℕ → Result (List Item) RecordingFault
read_trace = read_in Trace

-- ---- what every record that is read has

-- its numbers are within their ranges, its slot is 0 or a slot of the policy, and its bytes lie in the file
pub record IsItem (slices : ℕ) (bytes : List ℕ) (r : Item) : Type 0 where
  pub known : r.kind ≤ 5
  pub switch : r.switch < 16
  pub of_switch : r.kind < slice_up → r.slot ≡ 0
  pub of_slice : slice_up ≤ r.kind → r.slot < slices
  pub size : r.size ≤ byte_limit r.kind
  pub within : r.from + r.size ≤ length bytes

-- ---- what a recording says

-- what one record says
pub record Told : Type 0 where
  pub kind : ℕ
  pub switch : ℕ
  pub slot : ℕ
  pub moment : ℕ
  pub bytes : List ℕ

-- the record at a place that says it
abbrev pub placed_record : ℕ → Told → Item
placed_record at t = record { kind = t.kind; switch = t.switch; slot = t.slot; moment = t.moment; from = at + 16; size = length t.bytes }

-- records one behind the other, from a place on
unfoldable pub all_told : ℕ → List Told → List Item
all_told at [] = []
all_told at (t ∷ others) = placed_record at t ∷ all_told (at + 16 + length t.bytes) others

-- each has the form and fits those before it
unfoldable pub may_be_told : ℕ → List Item → List Item → Bool
may_be_told slices before [] = true
may_be_told slices before (r ∷ others) = has_form Recording slices 0 r && fits before r && may_be_told slices (r ∷ before) others

-- a record's bytes
abbrev pub record_bytes : Told → List ℕ
record_bytes t = record_spelling t.kind t.switch t.slot t.moment t.bytes

-- a timestamp takes eight bytes
abbrev pub HasMoment : Told → Type 0
HasMoment t = t.moment < 2 ^ 64

-- the file that spells the records
abbrev pub recording : List Told → List ℕ
recording told = magic ++ flat_map record_bytes told
