-- Which items book a pair and which release it, and so whether it is booked.
use Rattle.std.proofs.Common.{◌≡◌, ◌⊎◌, ℕ, Bool, true, false, IsTrue, if◌then◌else◌, List, [], ◌∷◌, ◌++◌, refl, sym, ap, subst, ◌∙◌, true≢false, inl, inr, Option, Some, None, Ok, Err}
use Rattle.std.proofs.lemmas.Bool.{cases_Bool, both_ways}
use Rattle.std.proofs.lemmas.List.Folds.{list_any_at, Any-from_list_any}
use Rattle.of10_model.specs.declared.pattern.Pattern.{Pattern}
use Rattle.of10_model.specs.Normal.{IsNormal}
use Rattle.of10_model.specs.Inclusion.{includes_of}
use Rattle.of10_flow.specs.declared.protocol.TheConstants.{SEND_FLOW_REM}
use Rattle.of10_flow.specs.declared.flow_mod.FlowMod.{FlowMod}
use Rattle.of10_flow.specs.Tables.{has_flag}
use Rattle.of10_message.specs.declared.controller.FromController.TheVariants as said
use Rattle.flowmod_expand.specs.Pieces.{pieces_within}
use Rattle.xid_map.specs.declared.asked.Issued.{Issued}
use Rattle.xid_map.specs.Laws.{NoneOf}
use Rattle.xid_map.specs.Requests.{issued}
use Rattle.flow_book.specs.declared.booked.Booked.{Booked as BookedPair}
use Rattle.flow_book.specs.Books.{BookCall, is_pair, is_booked, includes_booked, book}
use Rattle.flow_book.specs.Books as books
use Rattle.flow_book.specs.Pairs as calls
use Rattle.flow_book.proofs.Counts.{found}
use Rattle.flow_book.proofs.SamePairs.{pair_parts, pair_itself}
use Rattle.flow_book.proofs.Histories.{history, last_is_booked}
use Rattle.slice_words.specs.Messages.{Reading}
use Rattle.slice_words.specs.Items.{Settings, message_read, Item, Opened, Up, Down, Msg, Lost, Handed, Removed, Status, Fault, Barrier, Queues, Entry, Last, End}
use Rattle.slice_words.specs.Pasts.{is_any}
use Rattle.slice_words.specs.Calls.{request_for, bookings, failure, booked_by, book_calls}
use Rattle.slice_words.specs.Alone.{answer_to}
use Rattle.slice_words.specs.Standing.{past_of}
use Rattle.view_laws.specs.Requests.{is_request, next_number}
use Rattle.view_laws.specs.Bookings.{booking_after, IsBooked, CommandBooks, IsBookedBy, ItemBooks, ItemReleases, IsLastBookedIn, IsFirstBookedIn}
use Rattle.view_laws.proofs.Making.{Making, made_over, all-append, all-one, made_by, none_acts, none_does}
use Rattle.view_laws.proofs.Requesting.{requests_after, issued-requests}
use Rattle.view_laws.proofs.Remembering.{remembered-found, found-remembered}

-- what the items of a view make of the book
abbrev pub book_after : Settings → List Item → List BookCall
book_after s view = book_calls s (past_of s view)

-- what one more item makes of it
abbrev pub book_given : Settings → List Item → Item → List BookCall
book_given s view item = booked_by s (requests_after s view) item (answer_to s view item)

-- ---- each item makes one call at most

abbrev AtMostOne : List BookCall → Type 0
AtMostOne these = (these ≡ []) ⊎ ((c : BookCall) × (these ≡ c ∷ []))

read_one : (s : Settings) (number : ℕ) (read : Reading) → AtMostOne (bookings s number read)
read_one s number (Err fault) = inl refl
read_one s number (Ok said.Hello) = inl refl
read_one s number (Ok said.Error) = inl refl
read_one s number (Ok (said.EchoRequest body)) = inl refl
read_one s number (Ok said.EchoReply) = inl refl
read_one s number (Ok said.Vendor) = inl refl
read_one s number (Ok said.FeaturesRequest) = inl refl
read_one s number (Ok said.GetConfigRequest) = inl refl
read_one s number (Ok (said.SetConfig config)) = inl refl
read_one s number (Ok (said.PacketOut m)) = inl refl
read_one s number (Ok (said.FlowMod m)) = inr (books.Added m.command (pieces_within s.patterns m.pattern) m.priority (has_flag SEND_FLOW_REM m) number, refl)
read_one s number (Ok said.PortMod) = inl refl
read_one s number (Ok (said.StatsRequest request)) = inl refl
read_one s number (Ok said.BarrierRequest) = inl refl
read_one s number (Ok (said.QueueGetConfigRequest queues)) = inl refl

message_one : (puts : Bool) (these : List BookCall) → AtMostOne these → AtMostOne (if puts then these else [])
message_one true these one = one
message_one false these one = inl refl

failure_one : (found : Option Issued) (pair : Option (Pattern × ℕ)) → AtMostOne (failure found pair)
failure_one None pair = inl refl
failure_one (Some request) None = inl refl
failure_one (Some request) (Some pair) = inr (books.Failed request.number pair.0 pair.1, refl)

book_one : (s : Settings) (view : List Item) (item : Item) → AtMostOne (book_given s view item)
book_one s view (Msg message moment) =
    message_one (is_any (answer_to s view (Msg message moment)).to_switch) _ (read_one s (issued (requests_after s view)) (message_read s message))
book_one s view (Removed entry) = inr (books.Removed entry.pattern entry.priority, refl)
book_one s view (Fault x class code pair) = failure_one (request_for s x (requests_after s view)) pair
book_one s view Up = inl refl
book_one s view Down = inl refl
book_one s view (Opened features) = inl refl
book_one s view (Lost k) = inl refl
book_one s view (Handed packet) = inl refl
book_one s view (Status status) = inl refl
book_one s view (Barrier x) = inl refl
book_one s view (Queues x body) = inl refl
book_one s view (Entry x kind bytes) = inl refl
book_one s view (Last x kind) = inl refl
book_one s view End = inl refl

pub book_made : (s : Settings) → Making BookCall (book_given s) (book_after s)
book_made s = record { none = refl; more = λ item view. refl; single = book_one s }

-- ---- what a piece has to do with what is booked

booked_false : (s : Settings) (piece : Pattern) (priority : ℕ) (view : List Item) → (IsBooked s piece priority view → ⊥) → is_booked piece priority (book (book_after s view)) ≡ false
booked_false s piece priority view out = elim (cases_Bool (is_booked piece priority (book (book_after s view)))) [
  | inl within ↦ absurd (out within)
  | inr other ↦ other
]

included_false : (piece : Pattern) (booked : List BookedPair) → ((pattern : Pattern) (priority : ℕ) → IsTrue (is_booked pattern priority booked) → includes_of piece pattern ≡ false) → includes_booked piece booked ≡ false
included_false piece booked none = elim (cases_Bool (includes_booked piece booked)) [
  | inr other ↦ other
  | inl within ↦
      let any = Any-from_list_any (λ b. includes_of piece b.pattern) booked within in
      absurd (both_ways (includes_of piece any.1.pattern)
      (none any.1.pattern any.1.priority (list_any_at (is_pair any.1.pattern any.1.priority) booked any.0 any.1 any.2 (rw any.3 (pair_itself any.1)))) any.4)
]

includes_none : (piece : Pattern) (booked : List BookedPair) → includes_booked piece booked ≡ false → (pattern : Pattern) (priority : ℕ) → IsTrue (is_booked pattern priority booked) → includes_of piece pattern ≡ false
includes_none piece booked none pattern priority within = elim (cases_Bool (includes_of piece pattern)) [
  | inr other ↦ other
  | inl includes ↦
      let any = Any-from_list_any (is_pair pattern priority) booked within in
      let same = (pair_parts pattern priority any.1 any.4).of_match in
      absurd (both_ways (includes_booked piece booked) none
      (list_any_at (λ b. includes_of piece b.pattern) booked any.0 any.1 any.2
      (rw any.3 (subst (λ (m : Pattern). includes_of piece m ≡ true) (sym same) includes))))
]

piece_called : (s : Settings) (command : ℕ) (piece : Pattern) (priority : ℕ) (view : List Item) → CommandBooks s command piece priority view → calls.BooksPiece command piece priority (book_after s view)
piece_called s command piece priority view (inl add) = inl add
piece_called s command piece priority view (inr (inl modify)) = inr (inl (modify.0, included_false piece (book (book_after s view)) modify.1))
piece_called s command piece priority view (inr (inr strict)) = inr (inr (strict.0, booked_false s piece priority view strict.1))

called_piece : (s : Settings) (command : ℕ) (piece : Pattern) (priority : ℕ) (view : List Item) → calls.BooksPiece command piece priority (book_after s view) → CommandBooks s command piece priority view
called_piece s command piece priority view (inl add) = inl add
called_piece s command piece priority view (inr (inl modify)) = inr (inl (modify.0, includes_none piece (book (book_after s view)) modify.1))
called_piece s command piece priority view (inr (inr strict)) = inr (inr (strict.0, λ within. both_ways (is_booked piece priority (book (book_after s view))) strict.1 within))

-- ---- flow-mods that are sent on

-- what a flow-mod makes that is sent on as the request of a number
abbrev adding_of : Settings → FlowMod → ℕ → BookCall
adding_of s m number = books.Added m.command (pieces_within s.patterns m.pattern) m.priority (has_flag SEND_FLOW_REM m) number

-- only a flow-mod that was read makes a call
record IsReadAs (s : Settings) (number : ℕ) (read : Reading) (c : BookCall) : Type 0 where
  m : FlowMod
  is_read : read ≡ Ok (said.FlowMod m)
  is_call : c ≡ adding_of s m number

read_as : (s : Settings) (number : ℕ) (read : Reading) (c : BookCall) → bookings s number read ≡ c ∷ [] → IsReadAs s number read c
read_as s number (Err fault) c is = cc
read_as s number (Ok said.Hello) c is = cc
read_as s number (Ok said.Error) c is = cc
read_as s number (Ok (said.EchoRequest body)) c is = cc
read_as s number (Ok said.EchoReply) c is = cc
read_as s number (Ok said.Vendor) c is = cc
read_as s number (Ok said.FeaturesRequest) c is = cc
read_as s number (Ok said.GetConfigRequest) c is = cc
read_as s number (Ok (said.SetConfig config)) c is = cc
read_as s number (Ok (said.PacketOut m)) c is = cc
read_as s number (Ok (said.FlowMod m)) c is = (let same : adding_of s m number ≡ c = cc in record { m = m; is_read = refl; is_call = sym same })
read_as s number (Ok said.PortMod) c is = cc
read_as s number (Ok (said.StatsRequest request)) c is = cc
read_as s number (Ok said.BarrierRequest) c is = cc
read_as s number (Ok (said.QueueGetConfigRequest queues)) c is = cc

-- what is made where something is put is made, and something is put
put_parts : (puts : Bool) (these : List BookCall) (c : BookCall) → (if puts then these else []) ≡ c ∷ [] → (puts ≡ true) × (these ≡ c ∷ [])
put_parts true these c is = (refl, is)
put_parts false these c is = cc

-- an item that makes the call is a message that is such a flow-mod and puts something for the switch
record IsAdding (s : Settings) (view : List Item) (item : Item) (c : BookCall) : Type 0 where
  message : List ℕ
  moment : ℕ
  m : FlowMod
  is_message : item ≡ Msg message moment
  read : message_read s message ≡ Ok (said.FlowMod m)
  asks : is_request s view (Msg message moment) ≡ true
  is_call : c ≡ adding_of s m (next_number s view)

message_adds : (s : Settings) (view : List Item) (message : List ℕ) (moment : ℕ) (c : BookCall) → book_given s view (Msg message moment) ≡ c ∷ [] → IsAdding s view (Msg message moment) c
message_adds s view message moment c is =
    let put = put_parts (is_any (answer_to s view (Msg message moment)).to_switch) (bookings s (issued (requests_after s view)) (message_read s message)) c is in
    let h = read_as s (issued (requests_after s view)) (message_read s message) c put.1 in
    record {
      message = message;
      moment = moment;
      m = h.m;
      is_message = refl;
      read = h.is_read;
      asks = put.0;
      is_call = h.is_call ∙ ap (λ (number : ℕ). adding_of s h.m number) (issued-requests s view);
    }

failure_adds_nothing : (found_one : Option Issued) (pair : Option (Pattern × ℕ)) (command : ℕ) (pieces : List Pattern) (priority : ℕ) (wish : Bool) (number : ℕ)
    → failure found_one pair ≡ books.Added command pieces priority wish number ∷ [] → ⊥
failure_adds_nothing None pair command pieces priority wish number is = cc
failure_adds_nothing (Some request) None command pieces priority wish number is = cc
failure_adds_nothing (Some request) (Some pair) command pieces priority wish number is = cc

adding_from : (s : Settings) (view : List Item) (item : Item) (command : ℕ) (pieces : List Pattern) (priority : ℕ) (wish : Bool) (number : ℕ)
    → book_given s view item ≡ books.Added command pieces priority wish number ∷ [] → IsAdding s view item (books.Added command pieces priority wish number)
adding_from s view (Msg message moment) command pieces priority wish number is = message_adds s view message moment (books.Added command pieces priority wish number) is
adding_from s view (Fault x class code pair) command pieces priority wish number is = absurd (failure_adds_nothing (request_for s x (requests_after s view)) pair command pieces priority wish number is)
adding_from s view (Removed entry) command pieces priority wish number is = cc
adding_from s view Up command pieces priority wish number is = cc
adding_from s view Down command pieces priority wish number is = cc
adding_from s view (Opened features) command pieces priority wish number is = cc
adding_from s view (Lost k) command pieces priority wish number is = cc
adding_from s view (Handed packet) command pieces priority wish number is = cc
adding_from s view (Status status) command pieces priority wish number is = cc
adding_from s view (Barrier x) command pieces priority wish number is = cc
adding_from s view (Queues x body) command pieces priority wish number is = cc
adding_from s view (Entry x kind bytes) command pieces priority wish number is = cc
adding_from s view (Last x kind) command pieces priority wish number is = cc
adding_from s view End command pieces priority wish number is = cc

put_on : (puts : Bool) (these : List BookCall) → puts ≡ true → (if puts then these else []) ≡ these
put_on true these is = refl
put_on false these is = absurd (true≢false (sym is))

-- a flow-mod that is sent on makes its call
sent_adds : (s : Settings) (view : List Item) (message : List ℕ) (moment : ℕ) (m : FlowMod) → message_read s message ≡ Ok (said.FlowMod m) → is_request s view (Msg message moment) ≡ true
    → book_given s view (Msg message moment) ≡ adding_of s m (next_number s view) ∷ []
sent_adds s view message moment m read asks =
    put_on (is_any (answer_to s view (Msg message moment)).to_switch) (bookings s (issued (requests_after s view)) (message_read s message)) asks
    ∙ ap (λ (found_read : Reading). bookings s (issued (requests_after s view)) found_read) read
    ∙ ap (λ (number : ℕ). adding_of s m number ∷ []) (issued-requests s view)

module _ (s : Settings) (pattern : Pattern) (priority : ℕ) where
  -- ---- what books the pair

  called_by : (view : List Item) (message : List ℕ) (moment : ℕ) (m : FlowMod) (number : ℕ) → message_read s message ≡ Ok (said.FlowMod m) → is_request s view (Msg message moment) ≡ true
      → calls.Books pattern priority (adding_of s m number) (book_after s view) → IsBookedBy s pattern priority m message moment view
  called_by view message moment m number read asks b =
      record { read = read; asks = asks; at_priority = b.0; among = b.1; piece = called_piece s m.command pattern priority view b.2 }

  by_called : (view : List Item) (message : List ℕ) (moment : ℕ) (m : FlowMod) (number : ℕ) → IsBookedBy s pattern priority m message moment view → calls.Books pattern priority (adding_of s m number) (book_after s view)
  by_called view message moment m number h = (h.at_priority, h.among, piece_called s m.command pattern priority view h.piece)

  -- the message that makes a call which books the pair
  adding_books : (view : List Item) (item : Item) (c : BookCall) (h : IsAdding s view item c) → calls.Books pattern priority c (book_after s view) → IsBookedBy s pattern priority h.m h.message h.moment view
  adding_books view item c h b =
      called_by view h.message h.moment h.m (next_number s view) h.read h.asks (subst (λ (d : BookCall). calls.Books pattern priority d (book_after s view)) h.is_call b)

  books_called : (item : Item) (view : List Item) → ItemBooks s pattern priority item view → (c : BookCall) × (book_given s view item ≡ c ∷ []) × calls.Books pattern priority c (book_after s view)
  books_called (Msg message moment) view h =
      (adding_of s h.0 (next_number s view), sent_adds s view message moment h.0 h.1.read h.1.asks, by_called view message moment h.0 (next_number s view) h.1)
  books_called (Removed entry) view h = absurd h
  books_called (Fault x class code pair) view h = absurd h
  books_called Up view h = absurd h
  books_called Down view h = absurd h
  books_called (Opened features) view h = absurd h
  books_called (Lost k) view h = absurd h
  books_called (Handed packet) view h = absurd h
  books_called (Status status) view h = absurd h
  books_called (Barrier x) view h = absurd h
  books_called (Queues x body) view h = absurd h
  books_called (Entry x kind bytes) view h = absurd h
  books_called (Last x kind) view h = absurd h
  books_called End view h = absurd h

  called_books : (item : Item) (view : List Item) (c : BookCall) → book_given s view item ≡ c ∷ [] → calls.Books pattern priority c (book_after s view) → ItemBooks s pattern priority item view
  called_books item view (books.Added command pieces at_priority wish number) is b =
      let h = adding_from s view item command pieces at_priority wish number is in
      subst (λ (i : Item). ItemBooks s pattern priority i view) (sym h.is_message) (h.m, adding_books view item (books.Added command pieces at_priority wish number) h b)
  called_books item view (books.Removed other at_priority) is b = absurd b
  called_books item view (books.Failed number other at_priority) is b = absurd b

  -- ---- what releases it

  failure_of : (found_one : Option Issued) (request : Issued) (pair : Pattern × ℕ) → found_one ≡ Some request → failure found_one (Some pair) ≡ books.Failed request.number pair.0 pair.1 ∷ []
  failure_of None request pair is = cc
  failure_of (Some other) request pair is = (let same : other ≡ request = cc in ap (λ (r : Issued). books.Failed r.number pair.0 pair.1 ∷ []) same)

  releases_called : (item : Item) (view : List Item) → ItemReleases s pattern priority item view → (c : BookCall) × (book_given s view item ≡ c ∷ []) × calls.Releases pattern priority c (book_after s view)
  releases_called (Removed entry) view h = (books.Removed entry.pattern entry.priority, refl, h)
  releases_called (Fault x class code (Some pair)) view h =
      let request = h.2.0 in (
        books.Failed request.number pair.0 pair.1,
        failure_of (request_for s x (requests_after s view)) request pair (remembered-found s view x request h.2.1),
        (h.0, h.1, h.2.2),
      )
  releases_called (Fault x class code None) view h = absurd h
  releases_called (Msg message moment) view h = absurd h
  releases_called Up view h = absurd h
  releases_called Down view h = absurd h
  releases_called (Opened features) view h = absurd h
  releases_called (Lost k) view h = absurd h
  releases_called (Handed packet) view h = absurd h
  releases_called (Status status) view h = absurd h
  releases_called (Barrier x) view h = absurd h
  releases_called (Queues x body) view h = absurd h
  releases_called (Entry x kind bytes) view h = absurd h
  releases_called (Last x kind) view h = absurd h
  releases_called End view h = absurd h

  -- an error that makes a call which releases the pair
  failure_releases : (x class code : ℕ) (view : List Item) (found_one : Option Issued) (pair : Option (Pattern × ℕ)) (c : BookCall) → request_for s x (requests_after s view) ≡ found_one
      → failure found_one pair ≡ c ∷ [] → calls.Releases pattern priority c (book_after s view) → ItemReleases s pattern priority (Fault x class code pair) view
  failure_releases x class code view None pair c at is r = cc
  failure_releases x class code view (Some request) None c at is r = cc
  failure_releases x class code view (Some request) (Some pair) c at is r =
      let same : c ≡ books.Failed request.number pair.0 pair.1 = cc in
      let h : calls.Releases pattern priority (books.Failed request.number pair.0 pair.1) (book_after s view) = subst (λ (d : BookCall). calls.Releases pattern priority d (book_after s view)) same r in
      (h.0, h.1, (request, found-remembered s view x request at, h.2))

  called_releases : (item : Item) (view : List Item) (c : BookCall) → book_given s view item ≡ c ∷ [] → calls.Releases pattern priority c (book_after s view) → ItemReleases s pattern priority item view
  called_releases (Msg message moment) view c is r =
      let h = message_adds s view message moment c is in
      absurd (subst (λ (d : BookCall). calls.Releases pattern priority d (book_after s view)) h.is_call r)
  called_releases (Removed entry) view c is r =
      let same : c ≡ books.Removed entry.pattern entry.priority = cc in
      subst (λ (d : BookCall). calls.Releases pattern priority d (book_after s view)) same r
  called_releases (Fault x class code pair) view c is r = failure_releases x class code view (request_for s x (requests_after s view)) pair c refl is r
  called_releases Up view c is r = cc
  called_releases Down view c is r = cc
  called_releases (Opened features) view c is r = cc
  called_releases (Lost k) view c is r = cc
  called_releases (Handed packet) view c is r = cc
  called_releases (Status status) view c is r = cc
  called_releases (Barrier x) view c is r = cc
  called_releases (Queues x body) view c is r = cc
  called_releases (Entry x kind bytes) view c is r = cc
  called_releases (Last x kind) view c is r = cc
  called_releases End view c is r = cc

  -- ---- from the calls to the items

  -- a call of the view that books the pair, with later and earlier ones, as an item of the view that books it
  record IsBooking (view : List Item) (late : List BookCall) (c : BookCall) (early : List BookCall) : Type 0 where
    later : List Item
    message : List ℕ
    moment : ℕ
    earlier : List Item
    m : FlowMod
    split : view ≡ later ++ (Msg message moment ∷ earlier)
    is_booked_by : IsBookedBy s pattern priority m message moment earlier
    is_call : c ≡ adding_of s m (next_number s earlier)
    before : early ≡ book_after s earlier
    after : late ≡ made_over BookCall (book_given s) (book_after s) (book_made s) later (Msg message moment ∷ earlier)

  booking_from : (view : List Item) (late : List BookCall) (command : ℕ) (pieces : List Pattern) (at_priority : ℕ) (wish : Bool) (number : ℕ) (early : List BookCall)
      → book_after s view ≡ late ++ (books.Added command pieces at_priority wish number ∷ early) → calls.Books pattern priority (books.Added command pieces at_priority wish number) early
      → IsBooking view late (books.Added command pieces at_priority wish number) early
  booking_from view late command pieces at_priority wish number early split b =
      let c = books.Added command pieces at_priority wish number in
      let made = made_by BookCall (book_given s) (book_after s) (book_made s) view late c early split in
      let h = adding_from s made.earlier made.item command pieces at_priority wish number made.makes in
      record {
        later = made.later;
        message = h.message;
        moment = h.moment;
        earlier = made.earlier;
        m = h.m;
        split = made.split ∙ ap (λ (item : Item). made.later ++ (item ∷ made.earlier)) h.is_message;
        is_booked_by = adding_books made.earlier made.item c h (subst (λ (l : List BookCall). calls.Books pattern priority c l) made.before b);
        is_call = h.is_call;
        before = made.before;
        after = made.after ∙ ap (λ (item : Item). made_over BookCall (book_given s) (book_after s) (book_made s) made.later (item ∷ made.earlier)) h.is_message;
      }

  -- the call that such an item makes, and those before it
  booking_call : (message : List ℕ) (moment : ℕ) (earlier : List Item) (m : FlowMod) → IsBookedBy s pattern priority m message moment earlier
      → book_after s (Msg message moment ∷ earlier) ≡ adding_of s m (next_number s earlier) ∷ book_after s earlier
  booking_call message moment earlier m h =
      all-one BookCall (book_given s) (book_after s) (book_made s) (Msg message moment) earlier (adding_of s m (next_number s earlier)) (sent_adds s earlier message moment m h.read h.asks)

  -- what no later call does, no later item does
  none_later : (Does : BookCall → List BookCall → Type 0) (Acts : Item → List Item → Type 0)
      → ((item : Item) (view : List Item) → Acts item view → (c : BookCall) × (book_given s view item ≡ c ∷ []) × Does c (book_after s view))
      → (view : List Item) (late : List BookCall) (c : BookCall) (early : List BookCall) (h : IsBooking view late c early) → NoneOf Does late (c ∷ early)
      → NoneOf Acts h.later (Msg h.message h.moment ∷ h.earlier)
  none_later Does Acts acts view late c early h none =
      let base = Msg h.message h.moment ∷ h.earlier in
      let over = made_over BookCall (book_given s) (book_after s) (book_made s) h.later base in
      let same : c ∷ early ≡ book_after s base = (λ i. h.is_call i ∷ h.before i) ∙ sym (booking_call h.message h.moment h.earlier h.m h.is_booked_by) in
      none_acts BookCall (book_given s) (book_after s) (book_made s) Does Acts acts h.later base
      (subst (λ (l : List BookCall). NoneOf Does over l) same (subst (λ (l : List BookCall). NoneOf Does l (c ∷ early)) h.after none))

  wish_of : (m : FlowMod) (n command : ℕ) (pieces : List Pattern) (wish : Bool) (number : ℕ) → books.Added command pieces priority wish number ≡ adding_of s m n → has_flag SEND_FLOW_REM m ≡ wish
  wish_of m n command pieces wish number e = cc

  number_of : (m : FlowMod) (n command : ℕ) (pieces : List Pattern) (wish : Bool) (number : ℕ) → books.Added command pieces priority wish number ≡ adding_of s m n → n ≡ number
  number_of m n command pieces wish number e = cc

  last_from : (wish : Bool) (view : List Item) → calls.IsLastBooked pattern priority wish (book_after s view) → IsLastBookedIn s pattern priority wish view
  last_from wish view h =
      let c = books.Added h.command h.pieces priority wish h.number in
      let b = booking_from view h.later h.command h.pieces priority wish h.number h.earlier h.split h.books in
      record {
        later = b.later;
        message = b.message;
        moment = b.moment;
        earlier = b.earlier;
        m = b.m;
        split = b.split;
        books = b.is_booked_by;
        wishes = wish_of b.m (next_number s b.earlier) h.command h.pieces wish h.number b.is_call;
        not_booked = none_later (calls.Books pattern priority) (ItemBooks s pattern priority) books_called view h.later c h.earlier b h.not_booked;
        not_released = none_later (calls.Releases pattern priority) (ItemReleases s pattern priority) releases_called view h.later c h.earlier b h.not_released;
      }

  first_from : (number : ℕ) (view : List Item) → calls.IsFirstBooked pattern priority number (book_after s view) → IsFirstBookedIn s pattern priority number view
  first_from number view h =
      let c = books.Added h.command h.pieces priority h.wish number in
      let b = booking_from view h.later h.command h.pieces priority h.wish number h.earlier h.split h.books in
      record {
        later = b.later;
        message = b.message;
        moment = b.moment;
        earlier = b.earlier;
        m = b.m;
        split = b.split;
        books = b.is_booked_by;
        numbered = number_of b.m (next_number s b.earlier) h.command h.pieces h.wish number b.is_call;
        unbooked = both_ways (is_booked pattern priority (book (book_after s b.earlier))) (subst (λ (l : List BookCall). is_booked pattern priority (book l) ≡ false) b.before h.unbooked);
        not_released = none_later (calls.Releases pattern priority) (ItemReleases s pattern priority) releases_called view h.later c h.earlier b h.not_released;
      }

  -- ---- from the items to the calls

  last_called : (wish : Bool) (view : List Item) → IsLastBookedIn s pattern priority wish view → calls.IsLastBooked pattern priority wish (book_after s view)
  last_called wish view h =
      let base = Msg h.message h.moment ∷ h.earlier in
      let over = made_over BookCall (book_given s) (book_after s) (book_made s) h.later base in
      let command = h.m.command in
      let pieces = pieces_within s.patterns h.m.pattern in
      let number = next_number s h.earlier in
      let call : adding_of s h.m number ≡ books.Added command pieces priority wish number = (λ i. books.Added command pieces (h.books.at_priority i) (h.wishes i) number) in
      let based : book_after s base ≡ books.Added command pieces priority wish number ∷ book_after s h.earlier =
      booking_call h.message h.moment h.earlier h.m h.books ∙ ap (λ (c : BookCall). c ∷ book_after s h.earlier) call in
      record {
        later = over;
        command = command;
        pieces = pieces;
        number = number;
        earlier = book_after s h.earlier;
        split = ap (book_after s) h.split ∙ all-append BookCall (book_given s) (book_after s) (book_made s) h.later base ∙ ap (λ (l : List BookCall). over ++ l) based;
        books = subst (λ (c : BookCall). calls.Books pattern priority c (book_after s h.earlier)) call (by_called h.earlier h.message h.moment h.m number h.books);
        not_booked = subst (λ (l : List BookCall). NoneOf (calls.Books pattern priority) over l) based
            (none_does BookCall (book_given s) (book_after s) (book_made s) (calls.Books pattern priority) (ItemBooks s pattern priority) called_books h.later base h.not_booked);
        not_released = subst (λ (l : List BookCall). NoneOf (calls.Releases pattern priority) over l) based
            (none_does BookCall (book_given s) (book_after s) (book_made s) (calls.Releases pattern priority) (ItemReleases s pattern priority) called_releases h.later base h.not_released);
      }

  -- ---- the laws

  pub booked-last : IsNormal pattern → (view : List Item) → IsBooked s pattern priority view → (wish : Bool) × IsLastBookedIn s pattern priority wish view
  booked-last n view within =
      let f = found (is_pair pattern priority) (book (book_after s view)) within in
      (f.value.asked, last_from f.value.asked view (history pattern priority n (book_after s view) f.value f.is).0)

  pub last-booked : (wish : Bool) (view : List Item) → IsLastBookedIn s pattern priority wish view → IsBooked s pattern priority view
  last-booked wish view h = last_is_booked pattern priority wish (book_after s view) (last_called wish view h)

  pub booking-last : IsNormal pattern → (view : List Item) (b : BookedPair) → booking_after s pattern priority view ≡ Some b → IsLastBookedIn s pattern priority b.asked view
  booking-last n view b is = last_from b.asked view (history pattern priority n (book_after s view) b is).0

  pub booking-first : IsNormal pattern → (view : List Item) (b : BookedPair) → booking_after s pattern priority view ≡ Some b → IsFirstBookedIn s pattern priority b.number view
  booking-first n view b is = first_from b.number view (history pattern priority n (book_after s view) b is).1
