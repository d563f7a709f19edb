-- The lines that refuse a flow-mod, one after another.
use Rattle.std.proofs.Common.{◌≡◌, ℕ, ◌&&◌, not, Bool, true, false, if◌then◌else◌, List, [], ◌∷◌, map, refl, sym, ap, ap₂, ◌∙◌, Option, Some, None, true≢false, is_some, length, ◌==◌, ◌≤◌, Result, Err, subst, inl, inr, arith}
use Rattle.std.specs.Option.{option_or}
use Rattle.std.proofs.lemmas.Bool.Decides.{leb_tells}
use Rattle.std.proofs.lemmas.List.{length-map}
use Rattle.std.specs.List.{list_any}
use Rattle.of10_flow.specs.declared.flow_mod.FlowMod.{FlowMod}
use Rattle.of10_flow.specs.FlowMods.{spell_flow_mod}
use Rattle.of10_flow.specs.Tables.{is_delete}
use Rattle.of10_flow.specs.declared.protocol.TheConstants.{NO_BUFFER}
use Rattle.of10_model.specs.declared.pattern.Pattern.{Pattern}
use Rattle.of10_action.specs.declared.action.Action.{Action}
use Rattle.of10_action.specs.Reading.{list_given}
use Rattle.flowmod_expand.specs.Messages.{are_too_large, flow_messages, GivesMessages}
use Rattle.flowmod_expand.specs.declared.fault.BuildFault.{BuildFault}
use Rattle.flowmod_expand.specs.declared.fault.BuildFault.TheVariants.{TooLarge}
use Rattle.flowspace.specs.Options.{first_some, when}
use Rattle.slice_words.specs.FlowMods.{Ground, first_refusal, permitted_on, entry_not_permitted, bad_command, wrong_command, emergency, buffer_not_held, outside_flowspace, forbidden_action, first_forbidden, too_large, is_too_long, pieces_on, lists_on, sent_on, flow_mods_on, is_packet_in, unknown_buffer, overlapping, over_quota, flow_mod_fault, too_many_actions, bad_action}
use Rattle.slice_words.specs.Alone.{rendered}
use Rattle.slice_words.proofs.Forwarding.{rendered_sent, same_large}
use Rattle.flow_book.specs.declared.state.SliceState.{SliceState}
use Rattle.slice_words.specs.Buffers.{HeldPacket}
use Rattle.slice_side.specs.Reactions.{without_physical}
use Rattle.slice_side.proofs.Packets.{HaveCome, kept_for, carrier_come}
use Rattle.slice_side.specs.Checking.{not_held_in, flow_mods_from, PassesEarly, HasLists, IsListing, IsListed}
use Rattle.slice_side.specs.declared.checked_actions.Listing.{Listing}
use Rattle.slice_side.specs.declared.checked_actions.Listing.TheVariants.{Given, TooMany, Forbidden}

-- ---- three lines before others

pub before : {A : Type 0} (a b c : Option A) (rest : List (Option A)) (x : A) → first_some (a ∷ b ∷ c ∷ []) ≡ Some x → first_some (a ∷ b ∷ c ∷ rest) ≡ Some x
before (Some a) b c rest x e = e
before None (Some b) c rest x e = e
before None None (Some c) rest x e = e
before None None None rest x e = absurd (true≢false (sym (ap is_some e)))

pub behind : {A : Type 0} (a b c : Option A) (rest : List (Option A)) → first_some (a ∷ b ∷ c ∷ []) ≡ None → first_some (a ∷ b ∷ c ∷ rest) ≡ first_some rest
behind (Some a) b c rest e = absurd (true≢false (ap is_some e))
behind None (Some b) c rest e = absurd (true≢false (ap is_some e))
behind None None (Some c) rest e = absurd (true≢false (ap is_some e))
behind None None None rest e = refl

-- ---- the lines of a flow-mod

module _ (g : Ground) (m : FlowMod) where
  abbrev from_space : List (Option (ℕ × ℕ))
  from_space = outside_flowspace g m ∷ forbidden_action g m ∷ too_large g m ∷ overlapping g m ∷ over_quota g m ∷ []

  -- the packets of the state are those that the slice holds
  pub early_here : (state : SliceState) → g.held ≡ map without_physical state.buffers.held
      → first_some (wrong_command m ∷ emergency m ∷ when (not_held_in state m) unknown_buffer ∷ []) ≡ first_some (wrong_command m ∷ emergency m ∷ buffer_not_held g m ∷ [])
  early_here state same =
      ap (λ (packet : Option HeldPacket). first_some (wrong_command m ∷ emergency m ∷ when (not (is_delete m) && not (m.buffer == NO_BUFFER) && not (is_packet_in m.pattern packet)) unknown_buffer ∷ []))
      (kept_for state g m same)

  pub refused_early : (fault : ℕ × ℕ) → first_some (wrong_command m ∷ emergency m ∷ buffer_not_held g m ∷ []) ≡ Some fault → flow_mod_fault g m ≡ Some fault
  unfolding flow_mod_fault
  refused_early fault e = before (wrong_command m) (emergency m) (buffer_not_held g m) from_space fault e

  pub refused_space : (fault : ℕ × ℕ) → first_some (wrong_command m ∷ emergency m ∷ buffer_not_held g m ∷ []) ≡ None → outside_flowspace g m ≡ Some fault → flow_mod_fault g m ≡ Some fault
  unfolding flow_mod_fault
  refused_space fault none e = behind (wrong_command m) (emergency m) (buffer_not_held g m) from_space none ∙ rw e refl

  passed : PassesEarly g m → flow_mod_fault g m ≡ first_some (forbidden_action g m ∷ too_large g m ∷ overlapping g m ∷ over_quota g m ∷ [])
  unfolding flow_mod_fault
  passed passes = behind (wrong_command m) (emergency m) (buffer_not_held g m) from_space passes.0 ∙ rw passes.1 refl

  pub refused_action : (code : ℕ) → PassesEarly g m → first_forbidden g m ≡ Some code → flow_mod_fault g m ≡ Some (bad_action code)
  refused_action code passes e = passed passes ∙ rw e refl

  pub refused_long : PassesEarly g m → first_forbidden g m ≡ None → list_any is_too_long (lists_on g m) ≡ true → flow_mod_fault g m ≡ Some too_many_actions
  refused_long passes none e = passed passes ∙ rw (none, e) refl

  pub refused_large : PassesEarly g m → first_forbidden g m ≡ None → list_any is_too_long (lists_on g m) ≡ false → are_too_large (map spell_flow_mod (flow_mods_on g m)) ≡ true → flow_mod_fault g m ≡ Some too_many_actions
  refused_large passes none short e = passed passes ∙ rw (none, short, e) refl

  pub refused_late : PassesEarly g m → first_forbidden g m ≡ None → list_any is_too_long (lists_on g m) ≡ false → are_too_large (map spell_flow_mod (flow_mods_on g m)) ≡ false → flow_mod_fault g m ≡ first_some (overlapping g m ∷ over_quota g m ∷ [])
  refused_late passes none short fits = passed passes ∙ rw (none, short, fits) refl

  -- the messages have one size with the number of a packet and without
  sizes_same : (pieces : List Pattern) (lists : List (List Action)) (buffer : Option (ℕ × ℕ)) → HasLists g m lists → pieces ≡ pieces_on g m
      → are_too_large (map spell_flow_mod (flow_mods_on g m)) ≡ are_too_large (flow_messages m g.xid pieces lists buffer)
  sizes_same pieces lists buffer has same =
      sym (ap₂ (λ (ps : List Pattern) (ls : List (List Action)). are_too_large (flow_messages m g.xid ps ls None)) same has.1) ∙ same_large m g.xid pieces lists None buffer

  -- the messages for the pieces with their lists are too large
  pub built_large : (pieces : List Pattern) (lists : List (List Action)) (buffer : Option (ℕ × ℕ)) → PassesEarly g m → HasLists g m lists → pieces ≡ pieces_on g m → are_too_large (flow_messages m g.xid pieces lists buffer) ≡ true
      → flow_mod_fault g m ≡ Some too_many_actions
  built_large pieces lists buffer passes has same large = refused_large passes has.0 has.2 (sizes_same pieces lists buffer has same ∙ large)

  -- they aren't, so that the book is asked
  pub built_late : (pieces : List Pattern) (lists : List (List Action)) (buffer : Option (ℕ × ℕ)) (fault : Option (ℕ × ℕ)) → PassesEarly g m → HasLists g m lists → pieces ≡ pieces_on g m
      → are_too_large (flow_messages m g.xid pieces lists buffer) ≡ false → fault ≡ first_some (overlapping g m ∷ over_quota g m ∷ []) → flow_mod_fault g m ≡ fault
  built_late pieces lists buffer fault passes has same small is = refused_late passes has.0 has.2 (sizes_same pieces lists buffer has same ∙ small) ∙ sym is

  -- they are the messages for the switch, with the number of the packet that one carries
  pub built_messages : (pieces : List Pattern) (lists : List (List Action)) (carrier buffer : Option (ℕ × ℕ)) (frames : List (List ℕ)) → HasLists g m lists → pieces ≡ pieces_on g m → frames ≡ flow_messages m g.xid pieces lists carrier
      → carrier ≡ buffer → frames ≡ flow_messages m g.xid (pieces_on g m) (lists_on g m) buffer
  built_messages pieces lists carrier buffer frames has same is carried =
      is
      ∙ ap (flow_messages m g.xid pieces lists) carried
      ∙ ap₂ (λ (ps : List Pattern) (ls : List (List Action)). flow_messages m g.xid ps ls buffer) same has.1

  -- under the numbers with which packets came they are those that the slice has sent on
  pub rendered_from : (came : List ℕ) (state : SliceState) → HaveCome came state.buffers.held → g.held ≡ map without_physical state.buffers.held → map spell_flow_mod (flow_mods_from state g m) ≡ map (rendered came) (sent_on g m)
  rendered_from came state come same =
      ap (flow_messages m g.xid (pieces_on g m) (lists_on g m)) (carrier_come came state g m (pieces_on g m) come same) ∙ sym (rendered_sent came g m)

  pub outside_refused : (pieces : List Pattern) → first_some (wrong_command m ∷ emergency m ∷ buffer_not_held g m ∷ []) ≡ None → pieces ≡ pieces_on g m → (not (is_delete m) && length pieces == 0) ≡ true
      → flow_mod_fault g m ≡ Some entry_not_permitted
  outside_refused pieces none same is =
      refused_space entry_not_permitted none (ap (λ (outside : Bool). when outside entry_not_permitted) (ap (λ (ps : List Pattern). not (is_delete m) && length ps == 0) (sym same) ∙ is))

  pub passes_early : (pieces : List Pattern) → first_some (wrong_command m ∷ emergency m ∷ buffer_not_held g m ∷ []) ≡ None → pieces ≡ pieces_on g m → (not (is_delete m) && length pieces == 0) ≡ false → PassesEarly g m
  passes_early pieces none same isnt =
      (none, ap (λ (outside : Bool). when outside entry_not_permitted) (ap (λ (ps : List Pattern). not (is_delete m) && length ps == 0) (sym same) ∙ isnt))

  -- the lists of a delete
  none_long : (pieces : List Pattern) → list_any is_too_long (map (λ piece. []) pieces) ≡ false
  none_long [] = refl
  none_long (piece ∷ pieces) = none_long pieces

  pub delete_lists : (pieces : List Pattern) (lists : List (List Action)) → is_delete m ≡ true → pieces ≡ pieces_on g m → lists ≡ map (λ piece. []) pieces → HasLists g m lists
  delete_lists pieces lists is same given =
      let all : lists_on g m ≡ map (λ piece. []) (pieces_on g m) = ap (λ (b : Bool). map (λ piece. if b then [] else list_given (permitted_on g m piece)) (pieces_on g m)) is in
      (ap (λ (b : Bool). if b then None else first_refusal (map (permitted_on g m) (pieces_on g m))) is, given ∙ ap (map (λ piece. [])) same ∙ sym all, ap (list_any is_too_long) all ∙ none_long (pieces_on g m))

  -- the lists of another flow-mod
  abbrev plain_lists : (Pattern → Result (List Action) ℕ) → List Pattern → List (List Action)
  plain_lists permitted pieces = map (λ piece. list_given (permitted piece)) pieces

  lists_plain : (permitted : Pattern → Result (List Action) ℕ) (pieces : List Pattern) → is_delete m ≡ false → permitted ≡ permitted_on g m → pieces ≡ pieces_on g m → plain_lists permitted pieces ≡ lists_on g m
  lists_plain permitted pieces isnt way same =
      ap₂ plain_lists way same ∙ sym (ap (λ (b : Bool). map (λ piece. if b then [] else list_given (permitted_on g m piece)) (pieces_on g m)) isnt)

  forbidden_plain : (permitted : Pattern → Result (List Action) ℕ) (pieces : List Pattern) → is_delete m ≡ false → permitted ≡ permitted_on g m → pieces ≡ pieces_on g m → first_refusal (map permitted pieces) ≡ first_forbidden g m
  forbidden_plain permitted pieces isnt way same =
      ap₂ (λ (p : Pattern → Result (List Action) ℕ) (ps : List Pattern). first_refusal (map p ps)) way same ∙ sym (ap (λ (b : Bool). if b then None else first_refusal (map (permitted_on g m) (pieces_on g m))) isnt)

  pub listed : (permitted : Pattern → Result (List Action) ℕ) (pieces : List Pattern) (l : Listing) → is_delete m ≡ false → permitted ≡ permitted_on g m → pieces ≡ pieces_on g m → IsListing permitted pieces l → IsListed g m l
  listed permitted pieces (Given lists) isnt way same is = (
    sym (forbidden_plain permitted pieces isnt way same) ∙ is.allowed,
    is.given refl ∙ lists_plain permitted pieces isnt way same,
    ap (list_any is_too_long) (sym (lists_plain permitted pieces isnt way same)) ∙ is.some_long,
  )
  listed permitted pieces TooMany isnt way same is =
      (sym (forbidden_plain permitted pieces isnt way same) ∙ is.1.allowed, ap (list_any is_too_long) (sym (lists_plain permitted pieces isnt way same)) ∙ is.1.some_long)
  listed permitted pieces (Forbidden code) isnt way same is = sym (forbidden_plain permitted pieces isnt way same) ∙ is

  pub one_list_each : (pieces : List Pattern) (lists : List (List Action)) → HasLists g m lists → pieces ≡ pieces_on g m → length lists ≡ length pieces
  one_list_each pieces lists has same = ap length has.1 ∙ length-map (pieces_on g m) _ ∙ ap length (sym same)

-- the command of a flow-mod that passes the first line
pub command_known : (g : Ground) (m : FlowMod) → first_some (wrong_command m ∷ emergency m ∷ buffer_not_held g m ∷ []) ≡ None → m.command ≤ 4
command_known g m none = elim (leb_tells 5 m.command) [
  | inl many ↦ absurd (true≢false (ap (λ (o : Option (ℕ × ℕ)). is_some o) (sym (ap (λ (b : Bool). option_or (when b bad_command) (first_some (emergency m ∷ buffer_not_held g m ∷ []))) many.0) ∙ none)))
  | inr few ↦ (let less = few.1 in omega arith)
]

-- messages that are said to be too large are
pub large_told : {A : Type 0} (view : A → List (List ℕ)) (fault : BuildFault) (messages : List (List ℕ)) → fault ≡ TooLarge → GivesMessages view (Err fault) messages → are_too_large messages ≡ true
large_told view fault messages is told = subst (λ (f : BuildFault). GivesMessages view (Err f) messages) is told
