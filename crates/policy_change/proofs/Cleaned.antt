-- What the messages of a plan do to a table.
use Rattle.std.proofs.Common.{◌≡◌, ℕ, ◌+◌, ◌%◌, ◌^◌, List, [], ◌∷◌, refl}
use Rattle.std.specs.Prelude.{All}
use Rattle.std.proofs.lemmas.List.Elements.{All-nil, All-cons, All-head, All-tail, All-weaker}
use Rattle.of10_model.specs.declared.pattern.Pattern.{Pattern}
use Rattle.of10_model.specs.Pattern.{Has}
use Rattle.of10_flow.specs.declared.flow_mod.FlowMod.{FlowMod}
use Rattle.of10_flow.specs.Tables.{ApplyAll}
use Rattle.of10_flow.specs.TableLaws.{Cleans}
use Rattle.of10_flow.proofs.Sequences.{Treatment-ApplyAll, IsOther, none_left}
use Rattle.flow_book.specs.declared.booked.Booked.{Booked}
use Rattle.policy_change.specs.Plans.{deletion, plan_from, LeaveNoneOf, LeaveOthers}

-- each message takes the entry of its match and priority away
clean : (number : ℕ) (pairs : List Booked) → All Cleans (plan_from number pairs)
clean number [] = All-nil Cleans
clean number (b ∷ rest) = All-cons Cleans (deletion (number % 2 ^ 32) b) (plan_from (number + 1) rest) (record { command = refl; out_port = refl }) (clean (number + 1) rest)

-- what holds of the messages by their pairs holds of the pairs
of_pairs : (P : Pattern → ℕ → Type 0) (number : ℕ) (pairs : List Booked) → All (λ m. P m.pattern m.priority) (plan_from number pairs) → All (λ b. P b.pattern b.priority) pairs
of_pairs P number [] all = All-nil (λ (b : Booked). P b.pattern b.priority)
of_pairs P number (b ∷ rest) all =
    let Q = λ (m : FlowMod). P m.pattern m.priority in
    let first = deletion (number % 2 ^ 32) b in
    All-cons (λ (x : Booked). P x.pattern x.priority) b rest
    (All-head Q first (plan_from (number + 1) rest) all)
    (of_pairs P (number + 1) rest (All-tail Q first (plan_from (number + 1) rest) all))

-- and the other way round
of_messages : (P : Pattern → Type 0) (number : ℕ) (pairs : List Booked) → All (λ b. P b.pattern) pairs → All (λ m. P m.pattern) (plan_from number pairs)
of_messages P number [] all = All-nil (λ (m : FlowMod). P m.pattern)
of_messages P number (b ∷ rest) all =
    All-cons (λ (m : FlowMod). P m.pattern) (deletion (number % 2 ^ 32) b) (plan_from (number + 1) rest)
    (All-head (λ (x : Booked). P x.pattern) b rest all)
    (of_messages P (number + 1) rest (All-tail (λ (x : Booked). P x.pattern) b rest all))

pub no_pair_left : (number : ℕ) (pairs : List Booked) → LeaveNoneOf pairs (plan_from number pairs)
no_pair_left number pairs table =
    let after = ApplyAll table (plan_from number pairs) in
    of_pairs (λ pattern priority. All (λ e. (e.pattern ≡ pattern) × (e.priority ≡ priority) → ⊥) after) number pairs
    (All-weaker (λ m. All (IsOther m) after) (λ m. All (λ e. (e.pattern ≡ m.pattern) × (e.priority ≡ m.priority) → ⊥) after)
    (λ m others. All-weaker (IsOther m) (λ e. (e.pattern ≡ m.pattern) × (e.priority ≡ m.priority) → ⊥) (λ e other is. other is.0 is.1) after others)
    (plan_from number pairs) (none_left (plan_from number pairs) (clean number pairs) table))

pub treated_as_before : (number : ℕ) (pairs : List Booked) → LeaveOthers pairs (plan_from number pairs)
treated_as_before number pairs table h outside = Treatment-ApplyAll (plan_from number pairs) table h (of_messages (λ p. Has p h → ⊥) number pairs outside)

-- the messages have no actions
pub have_no_actions : (number : ℕ) (pairs : List Booked) → All (λ m. m.actions ≡ []) (plan_from number pairs)
have_no_actions number [] = All-nil (λ (m : FlowMod). m.actions ≡ [])
have_no_actions number (b ∷ rest) = All-cons (λ (m : FlowMod). m.actions ≡ []) (deletion (number % 2 ^ 32) b) (plan_from (number + 1) rest) refl (have_no_actions (number + 1) rest)
