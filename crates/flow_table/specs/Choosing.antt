-- How the entries for a header are chosen.
use Rattle.std.specs.Prelude.{ℕ, ◌&&◌, leb, Bool, if◌then◌else◌}
use Rattle.of10_model.specs.Header.{Header}
use Rattle.of10_model.specs.Pattern.{has}
use Rattle.of10_flow.specs.declared.flow_entry.FlowEntry.{FlowEntry}
use Rattle.of10_flow.specs.Tables.{is_exact_entry}

-- an entry has the header and is all-exact, where only those are chosen, or else has the highest priority
abbrev pub is_chosen : Header → Bool → ℕ → FlowEntry → Bool
is_chosen h exact highest e = has e.pattern h && (if exact then is_exact_entry e else leb highest e.priority)
