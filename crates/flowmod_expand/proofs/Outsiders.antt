-- The messages of a flow-mod, and headers that no match has which its slice may write.
use Rattle.std.proofs.Common.{◌≡◌, ℕ, ◌+◌, List, [], ◌∷◌, Option, Any, filter_map, refl, get_or}
use Rattle.std.specs.Prelude.{All}
use Rattle.std.proofs.lemmas.List.{get_or_default}
use Rattle.std.proofs.lemmas.List.Elements.{All-nil, All-cons, All-head, All-tail, All-weaker}
use Rattle.of10_model.specs.declared.pattern.Pattern.{Pattern}
use Rattle.of10_model.specs.Header.{Header, IsHeader}
use Rattle.of10_model.specs.Pattern.{Has}
use Rattle.of10_model.specs.Meet.{meet_of}
use Rattle.of10_model.proofs.Meeting.{some_meet}
use Rattle.of10_action.specs.declared.action.Action.{Action}
use Rattle.of10_flow.specs.declared.flow_entry.FlowEntry.{FlowEntry}
use Rattle.of10_flow.specs.declared.flow_mod.FlowMod.{FlowMod}
use Rattle.of10_flow.specs.Tables.{ApplyAll, Treatment}
use Rattle.of10_flow.specs.TableLaws.{LeavesTreatment}
use Rattle.of10_flow.proofs.Keeping.{Treatment-Apply}
use Rattle.of10_flow.proofs.Sequences.{Treatment-ApplyAll}
use Rattle.flowspace.specs.declared.slices.Slice.{Slice}
use Rattle.flowspace.specs.declared.rules.Rule.{Rule}
use Rattle.flowspace.specs.Policies.{IsSwitchPolicy}
use Rattle.flowspace.specs.Owners.{Writes, HasWriteRule}
use Rattle.flowspace.proofs.Owning.{Writes-iff}
use Rattle.flowmod_expand.specs.Pieces.{pieces_within, writes_of}
use Rattle.flowmod_expand.specs.Messages.{piece_message, piece_messages, buffer_at}
use Rattle.flowmod_expand.proofs.Repeats.{All-without_repeats}
use Rattle.flowmod_expand.proofs.Somewhere.{All-filter_map}
use Rattle.flowmod_expand.proofs.Space.{Any-writes_of}

-- the match of a message is its piece
pub piece_is : (m : FlowMod) (xid : ℕ) (piece : Pattern) (actions : List Action) (buffer : ℕ) → (piece_message m xid piece actions buffer).pattern ≡ piece
unfolding piece_message
piece_is m xid piece actions buffer = refl

-- what holds of the pieces holds of the matches of the messages
sent_matches : (P : Pattern → Type 0) (place : ℕ) (m : FlowMod) (xid : ℕ) (pieces : List Pattern) (lists : List (List Action)) (buffer : Option (ℕ × ℕ)) → All P pieces → All (λ s. P s.pattern) (piece_messages place m xid pieces lists buffer)
sent_matches P place m xid [] lists buffer all = All-nil (λ (s : FlowMod). P s.pattern)
sent_matches P place m xid (piece ∷ pieces) [] buffer all = All-nil (λ (s : FlowMod). P s.pattern)
sent_matches P place m xid (piece ∷ pieces) (actions ∷ lists) buffer all =
    All-cons (λ (s : FlowMod). P s.pattern) (piece_message m xid piece actions (buffer_at buffer place)) (piece_messages (place + 1) m xid pieces lists buffer)
    (rw (piece_is m xid piece actions (buffer_at buffer place)) (All-head P piece pieces all))
    (sent_matches P (place + 1) m xid pieces lists buffer (All-tail P piece pieces all))

module _ (given : List Pattern) (h : Header) (outside : Any (λ w. Has w h) given → ⊥) where
  -- no piece has a header that no given match has
  not_in_pieces : (m : Pattern) → All (λ piece. Has piece h → ⊥) (pieces_within given m)
  not_in_pieces m =
      All-without_repeats (λ piece. Has piece h → ⊥) (filter_map (meet_of m) given)
      (All-filter_map (λ piece. Has piece h → ⊥) (meet_of m) given (λ k d lt p e in_p.
      (let w = get_or given k d in outside (k, w, lt, get_or_default given k w d lt, ((some_meet m w p e h).0 in_p).1))))

  -- nor has a message's match
  not_in_messages : (m : FlowMod) (xid : ℕ) (lists : List (List Action)) (buffer : Option (ℕ × ℕ)) → All (λ sent. Has sent.pattern h → ⊥) (piece_messages 0 m xid (pieces_within given m.pattern) lists buffer)
  not_in_messages m xid lists buffer = sent_matches (λ p. Has p h → ⊥) 0 m xid (pieces_within given m.pattern) lists buffer (not_in_pieces m.pattern)

  pub each_message : (m : FlowMod) (xid : ℕ) (lists : List (List Action)) (buffer : Option (ℕ × ℕ)) → All (λ sent. LeavesTreatment sent h) (piece_messages 0 m xid (pieces_within given m.pattern) lists buffer)
  each_message m xid lists buffer =
      All-weaker (λ sent. Has sent.pattern h → ⊥) (λ sent. LeavesTreatment sent h) (λ sent not_in table. Treatment-Apply table sent h not_in)
      (piece_messages 0 m xid (pieces_within given m.pattern) lists buffer) (not_in_messages m xid lists buffer)

  pub all_messages : (m : FlowMod) (xid : ℕ) (lists : List (List Action)) (buffer : Option (ℕ × ℕ)) (table : List FlowEntry) → Treatment (ApplyAll table (piece_messages 0 m xid (pieces_within given m.pattern) lists buffer)) h ≡ Treatment table h
  all_messages m xid lists buffer table = Treatment-ApplyAll (piece_messages 0 m xid (pieces_within given m.pattern) lists buffer) table h (not_in_messages m xid lists buffer)

-- what no write rule has no match of theirs has
pub no_match : (rules : List Rule) (slot : ℕ) (h : Header) → (HasWriteRule rules slot h → ⊥) → Any (λ w. Has w h) (writes_of rules slot) → ⊥
no_match rules slot h outside some = outside ((Any-writes_of rules slot (λ w. Has w h)).0 some)

-- what the slice doesn't write no write rule has
pub no_rule : (slices : List Slice) (rules : List Rule) → IsSwitchPolicy slices rules → (slot : ℕ) (h : Header) → IsHeader h → (Writes rules slot h → ⊥) → HasWriteRule rules slot h → ⊥
no_rule slices rules policy slot h range outside has_rule = outside ((Writes-iff slices rules policy slot h range).1 has_rule)
