-- By the rules of a proxy that serves a slice alone it has the ports, and may have the actions, that it has by the rules of a whole policy.
use Rattle.std.proofs.Common.{◌≡◌, ℕ, ◌&&◌, ◌||◌, Bool, true, false, List, [], ◌∷◌, refl, ap, Option, Some, None, Result, Ok, Err}
use Rattle.std.proofs.lemmas.Bool.{eq-eqb}
use Rattle.std.proofs.lemmas.List.Elements.{filter_agree}
use Rattle.std.specs.List.{list_any}
use Rattle.of10_model.specs.declared.pattern.Pattern.{Pattern}
use Rattle.of10_model.specs.Pattern.{has, meets}
use Rattle.of10_model.specs.Inclusion.{includes_of}
use Rattle.of10_port.specs.Ports.{port_number}
use Rattle.of10_action.specs.declared.action.Action.{Action}
use Rattle.of10_action.specs.declared.action.Action.TheVariants.{Output, Enqueue}
use Rattle.action_check.specs.declared.origin.Origin.{Origin}
use Rattle.action_check.specs.declared.origin.Origin.TheVariants.{Piece, Packet, Probe}
use Rattle.action_check.specs.ActionRules.{port_sent_to, has_way_back, is_own_way, is_other_way, has_way, counted_at, may_go, code_of}
use Rattle.action_check.specs.Origins.{image_after}
use Rattle.action_check.specs.Permitted.{first_code, permitted, expanded}
use Rattle.flowspace.specs.declared.rules.Rule.{Rule}
use Rattle.flowspace.specs.Rules.{is_written_by}
use Rattle.flowspace.specs.Owners.{has_port}
use Rattle.of10_stats.specs.Replies.{entry_port, flow_of}
use Rattle.stats_filter.specs.Keeping.{lies_within, is_own_entry}
use Rattle.flowmod_expand.specs.Pieces.{writes_of}
use Rattle.port_view.specs.SlicePorts.{ports_of_slice}
use Rattle.slice_words.specs.Items.{lone_rule, lone_rules}

module _ (slot : ℕ) where
  abbrev alone : List Rule → List Rule
  alone rules = lone_rules slot (writes_of rules slot)

  -- a test of the matches of the rules that the slice writes
  abbrev written : (Pattern → Bool) → Rule → Bool
  written test rule = is_written_by slot rule && test rule.pattern

  own : (test : Pattern → Bool) (m : Pattern) → written test (lone_rule slot m) ≡ test m
  own test m = rw (eq-eqb slot slot refl) refl

  any_by : (test : Pattern → Bool) (rule : Rule) (others : List Rule) (mine : Bool) → is_written_by slot rule ≡ mine
      → list_any (written test) (alone others) ≡ list_any (written test) others → list_any (written test) (alone (rule ∷ others)) ≡ list_any (written test) (rule ∷ others)
  any_by test rule others true is rest = rw (is, own test rule.pattern, rest) refl
  any_by test rule others false is rest = rw is rest

  pub any_alone : (test : Pattern → Bool) (rules : List Rule) → list_any (written test) (alone rules) ≡ list_any (written test) rules
  any_alone test [] = refl
  any_alone test (rule ∷ others) = any_by test rule others (is_written_by slot rule) refl (any_alone test others)

  pub same_port : (rules : List Rule) (port : ℕ) → has_port (alone rules) slot port ≡ has_port rules slot port
  same_port rules port = rw (any_alone (λ m. meets m.in_port port) rules) refl

  pub same_ports : (rules : List Rule) (known : List (List ℕ)) → ports_of_slice (alone rules) slot known ≡ ports_of_slice rules slot known
  same_ports rules known = filter_agree (λ port. has_port (alone rules) slot (port_number port)) (λ port. has_port rules slot (port_number port)) (λ port. same_port rules (port_number port)) known

  same_flow : (rules : List Rule) (m : Pattern) → lies_within (alone rules) slot m ≡ lies_within rules slot m
  same_flow rules m = any_alone (λ own_. includes_of own_ m) rules

  -- an entry of statistics is the slice's by both
  pub same_entry : (rules : List Rule) (kind : ℕ) (entry : List ℕ) → is_own_entry (alone rules) slot kind entry ≡ is_own_entry rules slot kind entry
  unfolding is_own_entry
  same_entry rules kind entry = rw (same_flow rules ((flow_of entry).0), same_port rules (entry_port entry)) refl

  same_back : (rules : List Rule) (image : Origin) → has_way_back (alone rules) slot image ≡ has_way_back rules slot image
  same_back rules (Piece m) = refl
  same_back rules (Packet h) = same_port rules h.in_port
  same_back rules (Probe in_port) = same_port rules in_port

  same_own_way : (rules : List Rule) (image : Origin) (port : ℕ) → is_own_way (alone rules) slot image port ≡ is_own_way rules slot image port
  same_own_way rules image port = rw (same_port rules port, same_back rules image) refl

  same_way : (rules : List Rule) (image : Origin) (action : Action) → has_way (alone rules) slot image action ≡ has_way rules slot image action
  same_way rules image (Output port max_len) = ap (λ (own_ : Bool). own_ || is_other_way image port) (same_own_way rules image port)
  same_way rules image (Enqueue port queue) = same_own_way rules image port
  same_way rules image _ = refl

  same_go : (rules : List Rule) (image : Origin) (port : ℕ) → may_go (alone rules) slot image port ≡ may_go rules slot image port
  same_go rules (Piece cover) port = any_alone (λ m. includes_of (counted_at port m) cover) rules
  same_go rules (Packet h) port = any_alone (λ m. has (counted_at port m) h) rules
  same_go rules (Probe in_port) port = refl

  abbrev cover_at : List Rule → Origin → Option ℕ → Bool
  cover_at rules image port = elim port [ None ↦ true | Some p ↦ may_go rules slot image p ]

  same_cover : (rules : List Rule) (image : Origin) (port : Option ℕ) → cover_at (alone rules) image port ≡ cover_at rules image port
  same_cover rules image None = refl
  same_cover rules image (Some port) = same_go rules image port

  same_code : (rules : List Rule) (image : Origin) (action : Action) → code_of (alone rules) slot image action ≡ code_of rules slot image action
  unfolding code_of
  same_code rules image action = rw (same_way rules image action, same_cover rules image (port_sent_to action)) refl

  same_first : (rules : List Rule) (image : Origin) (actions : List Action) → first_code (alone rules) slot image actions ≡ first_code rules slot image actions
  same_first rules image [] = refl
  same_first rules image (action ∷ others) = rw (same_code rules image action, same_first rules (image_after image action) others) refl

  abbrev permitted_by : List Action → Option ℕ → Result (List Action) ℕ
  permitted_by list code = elim code [ None ↦ Ok list | Some found ↦ Err found ]

  pub same_permitted : (rules : List Rule) (origin : Origin) (actions : List Action) (flood all : List ℕ) → permitted (alone rules) slot origin actions flood all ≡ permitted rules slot origin actions flood all
  same_permitted rules origin actions flood all = ap (permitted_by (expanded flood all actions)) (same_first rules origin actions)
