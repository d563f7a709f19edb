-- The statistics that are collected for a slice's requests, whose replies come in parts (OpenFlow 1.0.0, section 5.3.5). What is collected, and how much, is this proxy's own rule.
-- Lists have the newest first.
use Rattle.std.specs.Prelude.{ℕ, ◌≡◌, ◌-◌, ◌%◌, ◌^◌, ◌≤◌, ◌==◌, ◌<◌, ◌&&◌, nat_le, not, Bool, false, if◌then◌else◌, List, [], ◌∷◌, ◌++◌, length, take, drop, filter, map, find, sum_by, IfSome, Option, Some, None, option_map}
use Rattle.std.specs.List.{list_any}
use Rattle.std.specs.Option.{option_map_or}

-- what can be done to the collections: each but the last is of the request of one number
pub data CollectionCall : Type 0 where
  Start : ℕ → CollectionCall
  Add : ℕ → List ℕ → CollectionCall
  Sum : ℕ → ℕ → ℕ → CollectionCall
  Finish : ℕ → CollectionCall
  EndAll : CollectionCall

-- a number is one of these
abbrev pub is_among : ℕ → List ℕ → Bool
is_among number numbers = list_any (λ other. other == number) numbers

-- the requests that collect. One that does is not started again; where eight do, the oldest is given up for another
unfoldable pub collecting : List CollectionCall → List ℕ
collecting [] = []
collecting (Start number ∷ earlier) = if is_among number (collecting earlier) then collecting earlier else take 8 (number ∷ collecting earlier)
collecting (Add number entry ∷ earlier) = collecting earlier
collecting (Sum number packets bytes ∷ earlier) = collecting earlier
collecting (Finish number ∷ earlier) = filter (λ other. not (other == number)) (collecting earlier)
collecting (EndAll ∷ earlier) = []

-- with this call after these the request begins to collect
abbrev pub begins : ℕ → CollectionCall → List CollectionCall → Bool
begins number (Start other) earlier = other == number && not (is_among number (collecting earlier))
begins number (Add other entry) earlier = false
begins number (Sum other packets bytes) earlier = false
begins number (Finish other) earlier = false
begins number EndAll earlier = false

-- the calls since the request began to collect
unfoldable pub since : ℕ → List CollectionCall → List CollectionCall
since number [] = []
since number (call ∷ earlier) = if begins number call earlier then [] else call ∷ since number earlier

-- the entries that these calls add to the request
unfoldable pub added : ℕ → List CollectionCall → List (List ℕ)
added number [] = []
added number (Start other ∷ earlier) = added number earlier
added number (Add other entry ∷ earlier) = if other == number then entry ∷ added number earlier else added number earlier
added number (Sum other packets bytes ∷ earlier) = added number earlier
added number (Finish other ∷ earlier) = added number earlier
added number (EndAll ∷ earlier) = added number earlier

-- the packets and bytes that these calls sum for the request
unfoldable pub summed : ℕ → List CollectionCall → List (ℕ × ℕ)
summed number [] = []
summed number (Start other ∷ earlier) = summed number earlier
summed number (Add other entry ∷ earlier) = summed number earlier
summed number (Sum other packets bytes ∷ earlier) = if other == number then (packets, bytes) ∷ summed number earlier else summed number earlier
summed number (Finish other ∷ earlier) = summed number earlier
summed number (EndAll ∷ earlier) = summed number earlier

-- entries one after another, the oldest in front
unfoldable pub joined_entries : List (List ℕ) → List ℕ
joined_entries [] = []
joined_entries (entry ∷ earlier) = joined_entries earlier ++ entry

-- of these entries the longest run from the oldest on that is within 524,288 bytes
unfoldable pub kept_run : List (List ℕ) → List ℕ
kept_run [] = []
kept_run (entry ∷ earlier) = if nat_le (length (joined_entries (entry ∷ earlier))) 524288 then joined_entries (entry ∷ earlier) else kept_run earlier

-- the bytes are those of all the entries but some of the newest: of such runs within 524,288 bytes the longest
pub record IsLongestRun (entries : List (List ℕ)) (bytes : List ℕ) : Type 0 where
  pub left_out : ℕ
  pub run : bytes ≡ joined_entries (drop left_out entries)
  pub within : length bytes ≤ 524288
  pub longest : (fewer : ℕ) → fewer < left_out → 524288 < length (joined_entries (drop fewer entries))

-- what is collected for one request: entries, how many more bytes of them are kept, and the sums of packets, bytes and flows
pub record Gathered : Type 0 where
  pub number : ℕ
  pub entries : List ℕ
  pub room : ℕ
  pub packets : ℕ
  pub bytes : ℕ
  pub flows : ℕ

-- what a request has collected that does
unfoldable pub gathered : ℕ → List CollectionCall → Gathered
gathered number calls =
    let own = since number calls in
    let counts = summed number own in
    record {
      number = number;
      entries = kept_run (added number own);
      room = 524288 - length (joined_entries (added number own));
      packets = sum_by (λ count. count.0) counts % 2 ^ 64;
      bytes = sum_by (λ count. count.1) counts % 2 ^ 64;
      flows = length counts % 2 ^ 32;
    }

-- what a request has collected, none where it doesn't
unfoldable pub collection_of : ℕ → List CollectionCall → Option Gathered
collection_of number calls = if is_among number (collecting calls) then Some (gathered number calls) else None

-- its entries
unfoldable pub entries_of : ℕ → List CollectionCall → Option (List ℕ)
entries_of number calls = option_map (λ g. g.entries) (collection_of number calls)

-- its sums of packets, bytes and flows
unfoldable pub sums_of : ℕ → List CollectionCall → Option (ℕ × ℕ × ℕ)
sums_of number calls = option_map (λ g. (g.packets, g.bytes, g.flows)) (collection_of number calls)

-- how many more bytes of entries it keeps, 0 where it doesn't collect
unfoldable pub room_of : ℕ → List CollectionCall → ℕ
room_of number calls = option_map_or (λ g. g.room) (collection_of number calls) 0

-- a collection, and for how many more bytes of entries memory was taken
pub record Collected : Type 0 where
  pub gathered : Gathered
  pub spare : ℕ

-- memory was taken for so many more bytes of the request's entries; a request that doesn't collect needs none
abbrev pub HasRoomToCollect : ℕ → ℕ → List Collected → Type 0
HasRoomToCollect number bytes collections = IfSome (find (λ c. c.gathered.number == number) collections) (λ c. bytes ≤ c.spare)

-- the collections after these calls
pub record CollectionsStand (calls : List CollectionCall) (collections : List Collected) : Type 0 where
  pub same : map (λ c. c.gathered) collections ≡ map (λ number. gathered number calls) (collecting calls)
