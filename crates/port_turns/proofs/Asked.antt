-- A request for statistics, and a question for queues, whose bytes are turned are read as the request and the question, turned.
use Rattle.std.proofs.Common.{◌≡◌, ℕ, zero, suc, ◌+◌, ◌≤◌, ◌<◌, ◌^◌, ◌==◌, nat_lt, true, List, length, take, drop, slice_index, refl, sym, ap, subst, ◌∙◌, Ok, arith}
use Rattle.std.proofs.lemmas.Bool.{le-ltb, ltb-false, eq-eqb, eqb-true, ne_eqb}
use Rattle.std.proofs.lemmas.List.{get_or-drop, drop-drop, take-take}
use Rattle.of10_model.specs.Normal.{number_at, match_at, Norm}
use Rattle.of10_model.specs.Padding.{AlikeBut}
use Rattle.of10_model.proofs.Padding.{piece_before, rest_behind, byte_before, number_behind}
use Rattle.of10_model.proofs.Results.{ok_is, passed, met}
use Rattle.of10_action.specs.declared.fault.WireFault.TheVariants.{Length, StatKind, StatVendor}
use Rattle.of10_message.specs.declared.queues.QueuesQuestion.{QueuesQuestion}
use Rattle.of10_message.specs.Queues.{question_in, read_queues_request}
use Rattle.of10_stats.specs.declared.request.StatsRequest.{StatsRequest}
use Rattle.of10_stats.specs.declared.request.StatsRequest.TheVariants.{Port}
use Rattle.of10_stats.specs.Requests.{body_size, request_of, read_request}
use Rattle.flowspace.specs.Swaps.{Pairs}
use Rattle.port_turns.specs.Turned.{turned_pattern}
use Rattle.port_turns.specs.Turns.{written, turn_port, turn_match}
use Rattle.of10_ctl.proofs.Patched.{with_alike, with_read}
use Rattle.port_turns.proofs.Patched.{written_small, number_take}
use Rattle.port_turns.proofs.Matches.{turn_match_alike, turn_match_read}
use Rattle.port_turns.specs.declared.receiving.Layout.TheVariants as laid
use Rattle.port_turns.specs.Received.{layout_of_request, AreLaid}
use Rattle.port_turns.specs.Readings.{turn_entries, turn_request, turned_request, turned_queues}

-- ---- what is read

-- what is read of a request is the request of its type, in so many bytes
record IsAsked (bytes : List ℕ) (kind : ℕ) : Type 0 where
  known : kind ≤ 5
  long : length bytes ≡ 12 + body_size kind

asked_of : (bytes : List ℕ) (r : StatsRequest) → read_request bytes ≡ Ok r → IsAsked bytes (number_at bytes 8 2) × (request_of (number_at bytes 8 2) bytes ≡ r)
unfolding read_request
asked_of bytes r e =
    let kind = number_at bytes 8 2 in
    let one = passed (nat_lt (length bytes) 12) (Length (length bytes)) _ r e in
    let two = passed (kind == 0xffff) StatVendor _ r one.1 in
    let three = passed (nat_lt 5 kind) (StatKind kind) _ r two.1 in
    let four = met (length bytes == 12 + body_size kind) (Length (length bytes)) (Ok (request_of kind bytes)) r three.1 in
    (record { known = ltb-false 5 kind three.0; long = eqb-true (length bytes) (12 + body_size kind) four.0 }, ok_is (request_of kind bytes) r four.1)

read_from : (bytes : List ℕ) (kind : ℕ) → number_at bytes 8 2 ≡ kind → IsAsked bytes kind → read_request bytes ≡ Ok (request_of kind bytes)
unfolding read_request
read_from bytes kind is asked =
    let known = asked.known in
    let long = asked.long in
    rw (is, le-ltb (length bytes) 12 (omega (arith, long)), ne_eqb kind 65535 (λ e. omega (arith, e, known)), le-ltb 5 kind known, eq-eqb (length bytes) (12 + body_size kind) long) refl

-- ---- turned

module _ (pairs : Pairs) (bytes : List ℕ) where
  -- a port at a place behind the first twelve bytes
  port_alike : (at : ℕ) → 12 ≤ at → at + 2 ≤ length bytes → (length (turn_port pairs at bytes) ≡ length bytes) × (take 12 (turn_port pairs at bytes) ≡ take 12 bytes)
  port_alike at le fits =
      let two = with_alike at (written pairs (number_at bytes at 2)) bytes fits in
      (sym two.size, sym (piece_before at (at + 2) bytes (turn_port pairs at bytes) two 0 12 (omega (arith, le))))

  port_read : (at : ℕ) → at + 2 ≤ length bytes → number_at (turn_port pairs at bytes) at 2 ≡ written pairs (number_at bytes at 2)
  port_read at fits = with_read at (written pairs (number_at bytes at 2)) bytes fits (written_small pairs (number_at bytes at 2))

  -- a request for flow entries: its match at 12, its out_port at 54, and between them the number of a table
  module _ (long : 56 ≤ length bytes) where
    abbrev matched : List ℕ
    matched = turn_match pairs 12 bytes

    one : AlikeBut 16 18 bytes matched
    one = turn_match_alike pairs 12 bytes (omega (arith, long))

    fits : 54 + 2 ≤ length matched
    fits = rw (sym one.size) (omega (arith, long))

    two : AlikeBut 54 56 matched (turn_entries pairs bytes)
    two = with_alike 54 (written pairs (number_at matched 54 2)) matched fits

    entries_size : length (turn_entries pairs bytes) ≡ length bytes
    entries_size = sym two.size ∙ sym one.size

    entries_head : take 12 (turn_entries pairs bytes) ≡ take 12 bytes
    entries_head = sym (piece_before 54 56 matched (turn_entries pairs bytes) two 0 12 (omega arith)) ∙ sym (piece_before 16 18 bytes matched one 0 12 (omega arith))

    entries_table : slice_index (turn_entries pairs bytes) 52 ≡ slice_index bytes 52
    entries_table =
        sym (byte_before 54 56 matched (turn_entries pairs bytes) two 52 (omega arith))
        ∙ sym (get_or-drop 52 matched 0 0)
        ∙ ap (λ (l : List ℕ). slice_index l 0) (sym (rest_behind 16 18 bytes matched one 34))
        ∙ get_or-drop 52 bytes 0 0

    entries_match : match_at (turn_entries pairs bytes) 12 ≡ turned_pattern (written pairs) (match_at bytes 12)
    entries_match = ap Norm (sym (piece_before 54 56 matched (turn_entries pairs bytes) two 12 40 (omega arith))) ∙ turn_match_read pairs 12 bytes (omega (arith, long))

    entries_port : number_at (turn_entries pairs bytes) 54 2 ≡ written pairs (number_at bytes 54 2)
    entries_port =
        let same : number_at matched 54 2 ≡ number_at bytes 54 2 = sym (number_behind 16 18 bytes matched one 36 2) in
        let lt : written pairs (number_at matched 54 2) < 2 ^ 16 = rw same (written_small pairs (number_at bytes 54 2)) in
        with_read 54 (written pairs (number_at matched 54 2)) matched fits lt ∙ ap (written pairs) same

-- so many bytes, and the first twelve: of each type
record IsKept (pairs : Pairs) (kind : ℕ) (bytes : List ℕ) : Type 0 where
  size : length (turn_request pairs (request_of kind bytes) bytes) ≡ length bytes
  head : take 12 (turn_request pairs (request_of kind bytes) bytes) ≡ take 12 bytes

kept_of : (pairs : Pairs) (kind : ℕ) (bytes : List ℕ) → IsAsked bytes kind → IsKept pairs kind bytes
unfolding request_of
kept_of pairs zero bytes asked = record { size = refl; head = refl }
kept_of pairs (suc zero) bytes asked = (let long = asked.long in let le : 56 ≤ length bytes = omega (arith, long) in record { size = entries_size pairs bytes le; head = entries_head pairs bytes le })
kept_of pairs (suc (suc zero)) bytes asked = (let long = asked.long in let le : 56 ≤ length bytes = omega (arith, long) in record { size = entries_size pairs bytes le; head = entries_head pairs bytes le })
kept_of pairs (suc (suc (suc zero))) bytes asked = record { size = refl; head = refl }
kept_of pairs (suc (suc (suc (suc zero)))) bytes asked = (let long = asked.long in let port = port_alike pairs bytes 12 (omega arith) (omega (arith, long)) in record { size = port.0; head = port.1 })
kept_of pairs (suc (suc (suc (suc (suc zero))))) bytes asked = (let long = asked.long in let port = port_alike pairs bytes 12 (omega arith) (omega (arith, long)) in record { size = port.0; head = port.1 })
kept_of pairs (suc (suc (suc (suc (suc (suc n)))))) bytes asked = (let known = asked.known in absurd (omega (arith, known)))

value_of : (pairs : Pairs) (kind : ℕ) (bytes : List ℕ) → IsAsked bytes kind
    → request_of kind (turn_request pairs (request_of kind bytes) bytes) ≡ turned_request (written pairs) (request_of kind bytes)
unfolding request_of
value_of pairs zero bytes asked = refl
value_of pairs (suc zero) bytes asked =
    let long = asked.long in
    let le : 56 ≤ length bytes = omega (arith, long) in
    rw (entries_match pairs bytes le, entries_table pairs bytes le, entries_port pairs bytes le) refl
value_of pairs (suc (suc zero)) bytes asked =
    let long = asked.long in
    let le : 56 ≤ length bytes = omega (arith, long) in
    rw (entries_match pairs bytes le, entries_table pairs bytes le, entries_port pairs bytes le) refl
value_of pairs (suc (suc (suc zero))) bytes asked = refl
value_of pairs (suc (suc (suc (suc zero)))) bytes asked = (let long = asked.long in ap (λ n. Port n) (port_read pairs bytes 12 (omega (arith, long))))
value_of pairs (suc (suc (suc (suc (suc zero))))) bytes asked =
    let long = asked.long in
    let two = with_alike 12 (written pairs (number_at bytes 12 2)) bytes (omega (arith, long)) in
    rw (port_read pairs bytes 12 (omega (arith, long)), sym (number_behind 12 14 bytes (turn_port pairs 12 bytes) two 2 4)) refl
value_of pairs (suc (suc (suc (suc (suc (suc n)))))) bytes asked = (let known = asked.known in absurd (omega (arith, known)))

-- ---- a request

module _ (pairs : Pairs) (bytes : List ℕ) (r : StatsRequest) (e : read_request bytes ≡ Ok r) where
  kept : IsKept pairs (number_at bytes 8 2) bytes
  kept = kept_of pairs (number_at bytes 8 2) bytes (asked_of bytes r e).0

  pub request_size : length (turn_request pairs r bytes) ≡ length bytes
  request_size = subst (λ (q : StatsRequest). length (turn_request pairs q bytes) ≡ length bytes) (asked_of bytes r e).1 kept.size

  request_front : take 12 (turn_request pairs r bytes) ≡ take 12 bytes
  request_front = subst (λ (q : StatsRequest). take 12 (turn_request pairs q bytes) ≡ take 12 bytes) (asked_of bytes r e).1 kept.head

  pub request_head : take 8 (turn_request pairs r bytes) ≡ take 8 bytes
  request_head = sym (take-take 8 12 (turn_request pairs r bytes) (omega arith)) ∙ ap (take 8) request_front ∙ take-take 8 12 bytes (omega arith)

  pub request_turned : read_request (turn_request pairs r bytes) ≡ Ok (turned_request (written pairs) r)
  request_turned =
      let kind = number_at bytes 8 2 in
      let asked = asked_of bytes r e in
      let turned = turn_request pairs r bytes in
      let known = asked.0.known in
      let long = asked.0.long in
      let same_kind : number_at turned 8 2 ≡ kind = sym (number_take 12 turned 8 2 (omega arith)) ∙ ap (λ (l : List ℕ). number_at l 8 2) request_front ∙ number_take 12 bytes 8 2 (omega arith) in
      read_from turned kind same_kind (record { known = known; long = request_size ∙ long })
      ∙ ap (λ (q : StatsRequest). Ok q) (subst (λ (q : StatsRequest). request_of kind (turn_request pairs q bytes) ≡ turned_request (written pairs) q) asked.1 (value_of pairs kind bytes asked.0))

-- the numbers of a request stand within it
laid_of : (kind : ℕ) (bytes : List ℕ) → IsAsked bytes kind → AreLaid bytes (layout_of_request (request_of kind bytes))
unfolding request_of
laid_of zero bytes asked = tt
laid_of (suc zero) bytes asked = (let long = asked.long in omega (arith, long))
laid_of (suc (suc zero)) bytes asked = (let long = asked.long in omega (arith, long))
laid_of (suc (suc (suc zero))) bytes asked = tt
laid_of (suc (suc (suc (suc zero)))) bytes asked = (let long = asked.long in (omega arith, omega (arith, long)))
laid_of (suc (suc (suc (suc (suc zero))))) bytes asked = (let long = asked.long in (omega arith, omega (arith, long)))
laid_of (suc (suc (suc (suc (suc (suc n)))))) bytes asked = (let known = asked.known in absurd (omega (arith, known)))

pub request_laid : (bytes : List ℕ) (r : StatsRequest) → read_request bytes ≡ Ok r → AreLaid bytes (layout_of_request r)
request_laid bytes r e = (let asked = asked_of bytes r e in subst (λ (q : StatsRequest). AreLaid bytes (layout_of_request q)) asked.1 (laid_of (number_at bytes 8 2) bytes asked.0))

-- ---- a question for queues

module _ (pairs : Pairs) (bytes : List ℕ) (q : QueuesQuestion) (e : read_queues_request bytes ≡ Ok q) where
  asks : ((length bytes == 12) ≡ true) × (question_in (drop 8 bytes) ≡ q)
  asks = (let found = met (length bytes == 12) (Length (length bytes)) (Ok (question_in (drop 8 bytes))) q e in (found.0, ok_is (question_in (drop 8 bytes)) q found.1))

  long : length bytes ≡ 12
  long = eqb-true (length bytes) 12 asks.0

  alike : AlikeBut 8 10 bytes (turn_port pairs 8 bytes)
  alike = with_alike 8 (written pairs (number_at bytes 8 2)) bytes (let n = long in omega (arith, n))

  pub queues_laid : AreLaid bytes (laid.Port 8)
  queues_laid = (let n = long in (omega arith, omega (arith, n)))

  pub queues_size : length (turn_port pairs 8 bytes) ≡ length bytes
  queues_size = sym alike.size

  pub queues_head : take 8 (turn_port pairs 8 bytes) ≡ take 8 bytes
  queues_head = sym alike.front

  pub queues_turned : read_queues_request (turn_port pairs 8 bytes) ≡ Ok (turned_queues (written pairs) q)
  queues_turned =
      let n = long in
      let port : number_at (turn_port pairs 8 bytes) 8 2 ≡ written pairs (number_at bytes 8 2) = port_read pairs bytes 8 (omega (arith, n)) in
      let padding : drop 2 (drop 8 (turn_port pairs 8 bytes)) ≡ drop 2 (drop 8 bytes) = drop-drop 2 8 (turn_port pairs 8 bytes) ∙ sym alike.rest ∙ sym (drop-drop 2 8 bytes) in
      rw (eq-eqb (length (turn_port pairs 8 bytes)) 12 (queues_size ∙ long))
      (ap (λ (x : QueuesQuestion). Ok x) (same_question (turn_port pairs 8 bytes) port padding ∙ ap (turned_queues (written pairs)) asks.1))
    where
      same_question : (turned : List ℕ) → number_at turned 8 2 ≡ written pairs (number_at bytes 8 2) → drop 2 (drop 8 turned) ≡ drop 2 (drop 8 bytes) → question_in (drop 8 turned) ≡ turned_queues (written pairs) (question_in (drop 8 bytes))
      same_question turned port padding = rw (port, padding) refl
