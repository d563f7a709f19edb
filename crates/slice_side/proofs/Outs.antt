-- The lines that refuse a packet-out, one after another, and what is sent on for one that none refuses.
use Rattle.std.proofs.Common.{◌≡◌, ℕ, zero, suc, ◌-◌, ◌%◌, ◌^◌, ◌==◌, ◌&&◌, ◌||◌, not, nat_lt, max, Bool, true, false, List, [], ◌∷◌, ◌++◌, map, length, take, replicate, refl, sym, ap, ap₂, ◌∙◌, Option, Some, None, option_map, is_none, Result, Ok, Err, ◌<◌, ◌≤◌, le-leb, inl, inr, arith}
use Rattle.std.proofs.Math.Nat.{zero-div}
use Rattle.std.proofs.lemmas.Bool.{eq-eqb}
use Rattle.std.proofs.lemmas.Bool.Decides.{leb_tells}
use Rattle.std.proofs.lemmas.List.{take_all}
use Rattle.std.specs.Int.{byte_at}
use Rattle.std.specs.List.{list_any}
use Rattle.of10_model.specs.declared.pattern.Pattern.{Pattern}
use Rattle.of10_model.specs.Pattern.{has}
use Rattle.of10_model.specs.Inclusion.{any_in_port}
use Rattle.of10_action.specs.declared.action.Action.{Action}
use Rattle.of10_action.specs.Actions.{padding}
use Rattle.of10_action.specs.Reading.{list_given}
use Rattle.of10_flow.specs.declared.packet_out.PacketOut.{PacketOut}
use Rattle.of10_flow.specs.PacketOuts.{spell_packet_out}
use Rattle.of10_port.specs.declared.protocol.TheConstants.{NONE, CONTROLLER}
use Rattle.flowspace.specs.declared.rules.Rule.{Rule}
use Rattle.flowspace.specs.Owners.{has_port}
use Rattle.flowspace.specs.Rules.{is_written_by}
use Rattle.flowmod_expand.specs.Pieces.{writes_of}
use Rattle.buffer_map.specs.declared.held.Held.{Held}
use Rattle.flow_book.specs.declared.state.SliceState.{SliceState}
use Rattle.slice_words.specs.Items.{lone_rules}
use Rattle.slice_words.specs.Pasts.{SendsOut}
use Rattle.slice_words.specs.Buffers.{HeldPacket}
use Rattle.flowspace.specs.Options.{first_some, when}
use Rattle.slice_words.specs.FlowMods.{Ground, packet_at, unknown_buffer, bad_action, too_many_actions, is_too_long, not_permitted, code_given}
use Rattle.flow_facts.specs.PacketOuts.{carried_header, is_probe}
use Rattle.slice_words.specs.PacketOuts.{is_buffered_out, may_come_by, lies_aside, permitted_out, sent_out_with, packet_out_on, sent_out, names_no_packet, comes_by_another, carries_another, packet_out_size, packet_out_fault}
use Rattle.slice_words.specs.Alone.{rendered}
use Rattle.slice_words.specs.Standing.{held_as}
use Rattle.slice_words.proofs.LoneRules.{same_port, any_alone}
use Rattle.slice_side.specs.Reactions.{without_physical, ground_at}
use Rattle.slice_side.specs.Checking.{number_in, packet_out_from, early, MayBeSent, packet_kept}
use Rattle.slice_side.proofs.Lines.{before, behind}
use Rattle.slice_side.proofs.Packets.{HaveCome, kept_packet, come_packet}

fits : (size : ℕ) → size ≤ 65535 → nat_lt 65535 size ≡ false
fits size small = elim (leb_tells 65536 size) [
  | inl holds ↦ (let more = holds.1 in absurd (omega (arith, small, more)))
  | inr fails ↦ fails.0
]

module _ (g : Ground) (m : PacketOut) where
  -- the lines before its actions, by their tests
  early_is : (a b c : Bool) → a ≡ (is_buffered_out m && is_none (packet_at g m.buffer)) → b ≡ (not (is_buffered_out m) && not (may_come_by g m.in_port))
      → c ≡ (not (is_buffered_out m) && not (is_probe m) && not (lies_aside g (carried_header m)))
      → first_some (when a unknown_buffer ∷ when b not_permitted ∷ when c not_permitted ∷ []) ≡ first_some (early g m)
  early_is a b c names comes carries = λ i. first_some (when (names i) unknown_buffer ∷ when (comes i) not_permitted ∷ when (carries i) not_permitted ∷ [])

  -- the lines from its actions on, by what is permitted
  abbrev late : Result (List Action) ℕ → List (Option (ℕ × ℕ))
  late permitted =
      option_map bad_action (code_given permitted)
      ∷ when (is_too_long (list_given permitted) || nat_lt 65535 (packet_out_size (sent_out_with (packet_at g m.buffer) g m (list_given permitted)))) too_many_actions ∷ []

  pub out_refused_early : (fault : ℕ × ℕ) → first_some (early g m) ≡ Some fault → packet_out_fault g m ≡ Some fault
  unfolding packet_out_fault
  out_refused_early fault e = before (names_no_packet g m) (comes_by_another g m) (carries_another g m) (late (permitted_out g m)) fault e

  out_passed : (permitted : Result (List Action) ℕ) → first_some (early g m) ≡ None → permitted_out g m ≡ permitted → packet_out_fault g m ≡ first_some (late permitted)
  unfolding packet_out_fault
  out_passed permitted none is =
      behind (names_no_packet g m) (comes_by_another g m) (carries_another g m) (late (permitted_out g m)) none ∙ ap (λ (p : Result (List Action) ℕ). first_some (late p)) is

  pub out_refused_action : (code : ℕ) → first_some (early g m) ≡ None → permitted_out g m ≡ Err code → packet_out_fault g m ≡ Some (bad_action code)
  out_refused_action code none is = out_passed (Err code) none is

  pub out_refused_long : (list : List Action) → first_some (early g m) ≡ None → permitted_out g m ≡ Ok list → is_too_long list ≡ true → packet_out_fault g m ≡ Some too_many_actions
  out_refused_long list none is long = out_passed (Ok list) none is ∙ rw long refl

  one : (large : Bool) → first_some (when large too_many_actions ∷ []) ≡ when large too_many_actions
  one true = refl
  one false = refl

  -- the packet-out as it is sent has so many bytes, so that it is refused, or isn't
  out_by_size : (actions : List Action) (size : ℕ) (large : Bool) → MayBeSent g m actions → size ≡ packet_out_size (sent_out_with (packet_at g m.buffer) g m actions) → nat_lt 65535 size ≡ large
      → packet_out_fault g m ≡ when large too_many_actions
  out_by_size actions size large may is told =
      out_passed (Ok actions) may.0 may.1
      ∙ ap (λ (applies : Bool). first_some (when applies too_many_actions ∷ [])) (ap (λ (long : Bool). long || nat_lt 65535 (packet_out_size (sent_out_with (packet_at g m.buffer) g m actions))) may.2 ∙ sym (ap (nat_lt 65535) is) ∙ told)
      ∙ one large

  pub out_refused_large : (actions : List Action) (size : ℕ) → MayBeSent g m actions → size ≡ packet_out_size (sent_out_with (packet_at g m.buffer) g m actions) → 65535 < size → packet_out_fault g m ≡ Some too_many_actions
  out_refused_large actions size may is large = out_by_size actions size true may is (le-leb 65536 size (omega (arith, large)))

  pub out_not_refused : (actions : List Action) (size : ℕ) → MayBeSent g m actions → size ≡ packet_out_size (sent_out_with (packet_at g m.buffer) g m actions) → size ≤ 65535 → packet_out_fault g m ≡ None
  out_not_refused actions size may is small = out_by_size actions size false may is (fits size small)

  rendered_out : (came : List ℕ) (packet : Option HeldPacket) (actions : List Action)
      → spell_packet_out (record (sent_out_with packet g m actions) { buffer = number_in (option_map (held_as came) packet) }) ∷ []
      ≡ map (rendered came) (SendsOut (sent_out_with packet g m actions) (option_map (λ (held : HeldPacket). held.ordinal) packet) ∷ [])
  rendered_out came None actions = refl
  rendered_out came (Some packet) actions = refl

  -- as it is sent, with the switch's number of the packet that it names
  pub out_sent : (state : SliceState) (actions : List Action) (out : PacketOut) → g.held ≡ map without_physical state.buffers.held → permitted_out g m ≡ Ok actions
      → out ≡ record (sent_out_with (option_map without_physical (packet_kept state m.buffer)) g m actions) { buffer = number_in (packet_kept state m.buffer) } → out ≡ packet_out_from state g m
  out_sent state actions out same is built =
      built
      ∙ ap (λ (packet : Option HeldPacket). record (sent_out_with packet g m actions) { buffer = number_in (packet_kept state m.buffer) }) (kept_packet state g m.buffer same)
      ∙ ap (λ (permitted : Result (List Action) ℕ). record (sent_out_with (packet_at g m.buffer) g m (list_given permitted)) { buffer = number_in (packet_kept state m.buffer) }) (sym is)

  -- under the numbers with which packets came it is the one that the slice has sent on
  pub out_rendered : (came : List ℕ) (state : SliceState) → HaveCome came state.buffers.held → g.held ≡ map without_physical state.buffers.held → spell_packet_out (packet_out_from state g m) ∷ [] ≡ map (rendered came) (sent_out g m)
  out_rendered came state come same =
      ap (λ (held : Option Held). spell_packet_out (record (packet_out_on g m) { buffer = number_in held }) ∷ []) (come_packet came state g m.buffer come same)
      ∙ rendered_out came (packet_at g m.buffer) (list_given (permitted_out g m))

  number_of_kept : (packet : Option Held) → option_map (λ (held : Held). m.buffer) packet ≡ option_map (λ (held : HeldPacket). m.buffer) (option_map without_physical packet)
  number_of_kept None = refl
  number_of_kept (Some held) = refl

  -- it is used up by the number that the packet-out names it by
  pub out_used : (state : SliceState) → g.held ≡ map without_physical state.buffers.held → option_map (λ (held : Held). m.buffer) (packet_kept state m.buffer) ≡ option_map (λ (packet : HeldPacket). m.buffer) (packet_at g m.buffer)
  out_used state same = number_of_kept (packet_kept state m.buffer) ∙ ap (option_map (λ (packet : HeldPacket). m.buffer)) (kept_packet state g m.buffer same)

-- ---- the tests by the rules of the switch

none_kept : (packet : Option Held) → is_none packet ≡ is_none (option_map without_physical packet)
none_kept None = refl
none_kept (Some held) = refl

lone_any : (slot : ℕ) (test : Pattern → Bool) (patterns : List Pattern) → list_any (λ rule. is_written_by slot rule && test rule.pattern) (lone_rules slot patterns) ≡ list_any test patterns
lone_any slot test [] = refl
lone_any slot test (m ∷ patterns) = rw (eq-eqb slot slot refl) (ap (λ (others : Bool). test m || others) (lone_any slot test patterns))

pub early_same : (rules : List Rule) (slot quota xid : ℕ) (known : List (List ℕ)) (state : SliceState) (m : PacketOut) (packet : Option Held) (a b c : Bool) → packet ≡ packet_kept state m.buffer
    → a ≡ (is_buffered_out m && is_none packet) → b ≡ (not (is_buffered_out m) && not (has_port rules slot m.in_port || m.in_port == NONE || m.in_port == CONTROLLER))
    → c ≡ (not (is_buffered_out m) && not (is_probe m) && not (list_any (λ rule. is_written_by slot rule && has (any_in_port rule.pattern) (carried_header m)) rules))
    → first_some (when a unknown_buffer ∷ when b not_permitted ∷ when c not_permitted ∷ []) ≡ first_some (early (ground_at rules slot known quota xid state) m)
early_same rules slot quota xid known state m packet a b c is names comes carries =
    let g = ground_at rules slot known quota xid state in
    early_is g m a b c
    (names ∙ ap (λ (none : Bool). is_buffered_out m && none) (none_kept packet ∙ ap (λ (p : Option Held). is_none (option_map without_physical p)) is ∙ ap is_none (kept_packet state g m.buffer refl)))
    (comes ∙ ap (λ (own : Bool). not (is_buffered_out m) && not (own || m.in_port == NONE || m.in_port == CONTROLLER)) (sym (same_port slot rules m.in_port)))
    (carries ∙ ap (λ (own : Bool). not (is_buffered_out m) && not (is_probe m) && not own)
    (sym (any_alone slot (λ pattern. has (any_in_port pattern) (carried_header m)) rules) ∙ lone_any slot (λ pattern. has (any_in_port pattern) (carried_header m)) (writes_of rules slot)))

-- ---- probes

byte_zero : (k : ℕ) → byte_at k 0 ≡ 0
byte_zero zero = refl
byte_zero (suc k) = ap (λ (n : ℕ). n % 256) (zero-div (256 ^ suc k))

zeros : (n : ℕ) → replicate n 0 ≡ padding n
zeros zero = refl
zeros (suc n) = ap₂ (λ (first : ℕ) (others : List ℕ). first ∷ others) (sym (byte_zero n)) (zeros n)

pub filled : (items packet : List ℕ) (n size : ℕ) → items ≡ packet → size ≡ length items → n ≡ max (length packet) 52 → take n items ++ replicate (n - size) 0 ≡ packet ++ padding (52 - length packet)
filled items packet n size same long is =
    let own : size ≡ length packet = long ∙ ap length same in
    let rest : n - size ≡ 52 - length packet = omega (arith, own, is) in
    ap₂ (λ (front behind_ : List ℕ). front ++ behind_) (ap (take n) same ∙ take_all n packet (omega (arith, is))) (ap (λ (k : ℕ). replicate k 0) rest ∙ zeros (52 - length packet))
