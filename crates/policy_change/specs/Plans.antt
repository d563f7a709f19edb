-- A plan: for each of some booked pairs a flow-mod that takes its entry away. A pair is a match and a priority, by which a table knows an entry (OpenFlow 1.0.0, section 4.6). Which pairs a plan has, and its transaction ids, are this proxy's own rule.
use Rattle.std.specs.Prelude.{ℕ, ◌≡◌, ◌+◌, ◌%◌, ◌^◌, List, [], ◌∷◌, All}
use Rattle.of10_model.specs.Header.{Header}
use Rattle.of10_model.specs.Pattern.{Has}
use Rattle.of10_port.specs.declared.protocol.TheConstants.{NONE}
use Rattle.of10_flow.specs.declared.flow_entry.FlowEntry.{FlowEntry}
use Rattle.of10_flow.specs.declared.flow_mod.FlowMod.{FlowMod}
use Rattle.of10_flow.specs.declared.protocol.TheConstants.{DELETE_STRICT, NO_BUFFER}
use Rattle.of10_flow.specs.Tables.{ApplyAll, Treatment}
use Rattle.flow_book.specs.declared.booked.Booked.{Booked}

-- the message for a pair under a transaction id: a strict delete of its match and priority, whatever the entry outputs to (OpenFlow 1.0.0, section 5.3.3)
abbrev pub deletion : ℕ → Booked → FlowMod
deletion xid b = record {
  xid = xid;
  pattern = b.pattern;
  cookie = 0;
  command = DELETE_STRICT;
  idle = 0;
  hard = 0;
  priority = b.priority;
  buffer = NO_BUFFER;
  out_port = NONE;
  flags = 0;
  actions = [];
}

-- those for pairs in their order; the transaction ids count on from a number, modulo 2^32
abbrev pub plan_from : ℕ → List Booked → List FlowMod
plan_from number [] = []
plan_from number (b ∷ rest) = deletion (number % 2 ^ 32) b ∷ plan_from (number + 1) rest

-- ---- what a plan does to a table

-- an entry has the match and the priority of a pair
abbrev pub IsOfPair : Booked → FlowEntry → Type 0
IsOfPair b e = (e.pattern ≡ b.pattern) × (e.priority ≡ b.priority)

-- a table has no entry of these pairs
abbrev pub HasNoneOf : List Booked → List FlowEntry → Type 0
HasNoneOf pairs table = All (λ b. All (λ e. IsOfPair b e → ⊥) table) pairs

-- messages leave every table without an entry of these pairs
abbrev pub LeaveNoneOf : List Booked → List FlowMod → Type 0
LeaveNoneOf pairs ms = (table : List FlowEntry) → HasNoneOf pairs (ApplyAll table ms)

-- messages leave every table treating each header as before that is in the match of none of these pairs
abbrev pub LeaveOthers : List Booked → List FlowMod → Type 0
LeaveOthers pairs ms = (table : List FlowEntry) (h : Header) → All (λ b. Has b.pattern h → ⊥) pairs → Treatment (ApplyAll table ms) h ≡ Treatment table h
