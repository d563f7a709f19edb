-- What is known of a switch and what slices see fit together after every history.
use Rattle.std.proofs.Common.{◌≡◌, ℕ, true, List, [], slice_get, refl, ap, sym, ◌∙◌, true≢false, Option, Some, None}
use Rattle.of10_port.specs.declared.features.Features.{Features}
use Rattle.flowspace.specs.declared.slices.Slice.{Slice}
use Rattle.flowspace.specs.Policies.{PolicyView}
use Rattle.port_view.specs.SlicePorts.{ports_of_slice}
use Rattle.slice_words.specs.Items.{Settings, settings_of}
use Rattle.desk_words.specs.declared.event.Timed.{Timed}
use Rattle.desk_words.specs.Openings.{rules_of, swaps_of, opening_of, switch_of}
use Rattle.desk_words.specs.Histories.{is_slot, settings_at, own_ports, side_of, is_open}
use Rattle.desk_words.proofs.Alone.{has_told, opened_told, blind}
use Rattle.desk_words.proofs.Silence.{untold, sees_nothing}
use Rattle.desk_words.proofs.Seen.{seen}
use Rattle.desk_words.proofs.Numbering.{numbered}
use Rattle.slice_words.proofs.LoneRules.{same_ports}
use Rattle.proxy_core.specs.Desks.{Coherent}
use Rattle.proxy_core.proofs.Lists.{there}

told_some : (told : Option Features) → has_told told ≡ true → (features : Features) × (told ≡ Some features)
told_some None is = absurd (true≢false (sym is))
told_some (Some features) is = (features, refl)

-- ---- the settings of a slot of the policy

pub settings_known : (policy : PolicyView) (slot : ℕ) (told : Option Features) (slice : Slice) → slice_get policy.slices slot ≡ Some slice
    → settings_at policy slot told ≡ settings_of slice slot (rules_of policy told) (swaps_of policy told)
settings_known policy slot told slice is =
    ap (λ (o : Option Slice). elim o [ None ↦ record { slot = slot; rate = 0; burst = 0; quota = 0; patterns = []; swaps = [] } | Some one ↦ settings_of one slot (rules_of policy told) (swaps_of policy told) ]) is

pub ports_same : (policy : PolicyView) (slot : ℕ) (told : Option Features) (known : List (List ℕ)) → is_slot policy slot ≡ true
    → own_ports (settings_at policy slot told) known ≡ ports_of_slice (rules_of policy told) slot known
ports_same policy slot told known here =
    let slice = there policy.slices slot here in
    ap (λ (s : Settings). own_ports s known) (settings_known policy slot told slice.0 slice.1) ∙ same_ports slot (rules_of policy told) known

pub coherent : (policy : PolicyView) (h : List Timed) → Coherent policy (switch_of h) (λ slot. side_of policy slot h)
coherent policy h = record {
  open_told = λ opened. told_some (opening_of h) (opened_told h (ap is_open opened));
  before_untold = λ before. untold h before;
  blind = λ none slot. blind policy slot h none;
  beyond = λ slot out. sees_nothing policy slot h out;
  seen = λ features told slot here. seen policy slot h features told here;
  numbered = λ slot here. numbered policy slot (settings_at policy slot (opening_of h)) h here;
}
