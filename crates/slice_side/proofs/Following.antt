-- Reactions that follow from a message.
use Rattle.std.proofs.Common.{◌≡◌, ℕ, Bool, true, false, suc, leb, ◌==◌, List, [], ◌∷◌, map, length, refl, sym, ap, ◌∙◌, subst, true≢false, Option, Some, None, Result, Ok, Err, IfOk, le-leb, arith}
use Rattle.std.proofs.Math.Dec.{eqb-suc-zero}
use Rattle.std.specs.declared.alloc.AllocError.{AllocError}
use Rattle.std.proofs.lemmas.List.{length-map}
use Rattle.of10_flow.specs.declared.flow_mod.FlowMod.{FlowMod}
use Rattle.of10_flow.specs.declared.packet_out.PacketOut.{PacketOut}
use Rattle.of10_flow.specs.declared.protocol.TheConstants.{SEND_FLOW_REM}
use Rattle.of10_flow.specs.Tables.{has_flag}
use Rattle.of10_message.specs.declared.controller.FromController.TheVariants as said
use Rattle.flowmod_expand.specs.Pieces.{pieces_within}
use Rattle.xid_map.specs.declared.asked.Asked.{Asked}
use Rattle.slice_words.specs.Messages.{Reading, asks_switch, asked_of}
use Rattle.slice_words.specs.Items.{Settings, Sight}
use Rattle.slice_words.specs.Buffers.{held_packets}
use Rattle.slice_words.specs.FlowMods.{Ground, sent_on, flow_mod_fault}
use Rattle.slice_words.specs.PacketOuts.{sent_out, packet_out_fault}
use Rattle.slice_words.specs.Answers.{error_for, refused, flow_mod_answer, packet_out_answer}
use Rattle.slice_words.specs.Pasts.{Outgoing, Answer, is_any, forwarded}
use Rattle.slice_words.specs.Alone.{rendered}
use Rattle.slice_words.specs.Standing.{past_of}
use Rattle.slice_side.specs.declared.reaction.Reaction.{Reaction}
use Rattle.slice_side.specs.declared.change.Change.{Change}
use Rattle.slice_side.specs.declared.change.Change.TheVariants.{Rated, Modified, SentOut}
use Rattle.slice_side.specs.declared.change.Modification.{Modification}
use Rattle.slice_side.specs.Reactions.{Uses, Follows, IsChangeFor}

-- a reaction that sends messages on
pub follows_sent : (s : Settings) (sight : Sight) (message : List ℕ) (read : Reading) (a : Answer) (moment : ℕ) (r : Reaction) (change : Change) (sent : List (List ℕ))
    → r.to_slice.items ≡ a.to_slice → r.to_switch.items ≡ sent → sent ≡ map (rendered sight.came) a.to_switch → r.close ≡ a.dismissed → r.change ≡ change
    → IsChangeFor s.patterns (held_packets (past_of s sight.view)) message read a moment change → Follows s sight message read a moment r
follows_sent s sight message read a moment r change sent said same shown close is asked = record {
  to_slice = said;
  to_switch = same ∙ shown;
  close = close;
  change = subst (λ (k : Change). IsChangeFor s.patterns (held_packets (past_of s sight.view)) message read a moment k) (sym is) asked;
}

-- a reaction that sends nothing on
pub follows : (s : Settings) (sight : Sight) (message : List ℕ) (read : Reading) (a : Answer) (moment : ℕ) (r : Reaction) (change : Change)
    → r.to_slice.items ≡ a.to_slice → r.to_switch.items ≡ [] → a.to_switch ≡ [] → r.close ≡ a.dismissed → r.change ≡ change
    → IsChangeFor s.patterns (held_packets (past_of s sight.view)) message read a moment change → Follows s sight message read a moment r
follows s sight message read a moment r change said none nothing close is asked =
    follows_sent s sight message read a moment r change [] said none (sym (ap (map (rendered sight.came)) nothing)) close is asked

-- whether messages are sent shows whether any follow
any_rendered : (came : List ℕ) (messages : List Outgoing) → is_any (map (rendered came) messages) ≡ is_any messages
any_rendered came [] = refl
any_rendered came (message ∷ messages) = ap (λ n. leb 1 (suc n)) (length-map messages (rendered came))

pub any_sent : (came : List ℕ) (messages : List Outgoing) (frames : List (List ℕ)) → frames ≡ map (rendered came) messages → is_any messages ≡ is_any frames
any_sent came messages frames is = sym (ap is_any is ∙ any_rendered came messages)

-- ---- what becomes of a flow-mod

answer_refused : (g : Ground) (m : FlowMod) (message : List ℕ) (fault : ℕ × ℕ) → flow_mod_fault g m ≡ Some fault → flow_mod_answer g m message ≡ refused fault message
answer_refused g m message fault is = ap (λ (o : Option (ℕ × ℕ)). elim o as (λ x. Answer) [ Some found ↦ refused found message | None ↦ forwarded (sent_on g m) ]) is

answer_sent : (g : Ground) (m : FlowMod) (message : List ℕ) → flow_mod_fault g m ≡ None → flow_mod_answer g m message ≡ forwarded (sent_on g m)
answer_sent g m message is = ap (λ (o : Option (ℕ × ℕ)). elim o as (λ x. Answer) [ Some found ↦ refused found message | None ↦ forwarded (sent_on g m) ]) is

refusal_follows : (s : Settings) (sight : Sight) (message : List ℕ) (read : Reading) (moment : ℕ) (a : Answer) (fault : ℕ × ℕ) (r : Reaction) → a ≡ refused fault message → asks_switch read ≡ true
    → r.to_slice.items ≡ error_for fault message ∷ [] → r.to_switch.items ≡ [] → r.close ≡ false → r.change ≡ Rated moment → Follows s sight message read a moment r
refusal_follows s sight message read moment a fault r is asks said_so none close change =
    subst (λ (answer : Answer). Follows s sight message read answer moment r) (sym is) (follows s sight message read (refused fault message) moment r (Rated moment) said_so none refl close change (asks, refl, refl))

-- the same of what a call answers
pub refusal_result : (result : Result Reaction AllocError) (s : Settings) (sight : Sight) (message : List ℕ) (read : Reading) (moment : ℕ) (a : Answer) (fault : ℕ × ℕ) → a ≡ refused fault message → asks_switch read ≡ true
    → IfOk result (λ r. r.to_slice.items ≡ error_for fault message ∷ []) → IfOk result (λ r. r.to_switch.items ≡ []) → IfOk result (λ r. r.close ≡ false) → IfOk result (λ r. r.change ≡ Rated moment)
    → IfOk result (Follows s sight message read a moment)
refusal_result (Ok r) s sight message read moment a fault is asks said_so none close change = refusal_follows s sight message read moment a fault r is asks said_so none close change
refusal_result (Err e) s sight message read moment a fault is asks said_so none close change = tt

pub flow_mod_refused : (result : Result Reaction AllocError) (s : Settings) (sight : Sight) (message : List ℕ) (moment : ℕ) (g : Ground) (m : FlowMod) (fault : ℕ × ℕ) → flow_mod_fault g m ≡ Some fault
    → IfOk result (λ r. r.to_slice.items ≡ error_for fault message ∷ []) → IfOk result (λ r. r.to_switch.items ≡ []) → IfOk result (λ r. r.close ≡ false) → IfOk result (λ r. r.change ≡ Rated moment)
    → IfOk result (Follows s sight message (Ok (said.FlowMod m)) (flow_mod_answer g m message) moment)
flow_mod_refused result s sight message moment g m fault is said_so none close change =
    refusal_result result s sight message (Ok (said.FlowMod m)) moment (flow_mod_answer g m message) fault (answer_refused g m message fault is) refl said_so none close change

-- nothing is sent on for it
pub nothing_follows : (s : Settings) (sight : Sight) (message : List ℕ) (moment : ℕ) (g : Ground) (m : FlowMod) (frames : List (List ℕ)) (r : Reaction) → flow_mod_fault g m ≡ None → frames ≡ map (rendered sight.came) (sent_on g m) → frames ≡ []
    → r.to_slice.items ≡ [] → r.to_switch.items ≡ [] → r.close ≡ false → r.change ≡ Rated moment
    → Follows s sight message (Ok (said.FlowMod m)) (flow_mod_answer g m message) moment r
nothing_follows s sight message moment g m frames r is built empty said_so none close change =
    subst (λ (a : Answer). Follows s sight message (Ok (said.FlowMod m)) a moment r) (sym (answer_sent g m message is))
    (follows_sent s sight message (Ok (said.FlowMod m)) (forwarded (sent_on g m)) moment r (Rated moment) frames said_so (none ∙ sym empty) built close change
    (refl, any_sent sight.came (sent_on g m) frames built ∙ ap is_any empty, refl))

-- messages are sent on for it
pub sending_follows : (s : Settings) (sight : Sight) (message : List ℕ) (moment : ℕ) (g : Ground) (m : FlowMod) (frames : List (List ℕ)) (made : Modification) (r : Reaction) → flow_mod_fault g m ≡ None
    → frames ≡ map (rendered sight.came) (sent_on g m) → is_any frames ≡ true → made.asked ≡ asked_of (Ok (said.FlowMod m)) message → made.command ≡ m.command → made.pieces.items ≡ pieces_within s.patterns m.pattern
    → made.priority ≡ m.priority → made.asks ≡ has_flag SEND_FLOW_REM m → made.moment ≡ moment → Uses made.used (held_packets (past_of s sight.view)) (sent_on g m)
    → r.to_slice.items ≡ [] → r.to_switch.items ≡ frames → r.close ≡ false → r.change ≡ Modified made
    → Follows s sight message (Ok (said.FlowMod m)) (flow_mod_answer g m message) moment r
sending_follows s sight message moment g m frames made r is built some asked command pieces priority asks at uses said_so sent close change =
    subst (λ (a : Answer). Follows s sight message (Ok (said.FlowMod m)) a moment r) (sym (answer_sent g m message is))
    (follows_sent s sight message (Ok (said.FlowMod m)) (forwarded (sent_on g m)) moment r (Modified made) frames said_so sent built close change
    (record { flow_mod = m; is_read = refl; sent = any_sent sight.came (sent_on g m) frames built ∙ some; asked = asked; command = command; pieces = pieces; priority = priority; asks = asks; moment_too = at; uses = uses }))

-- ---- what becomes of a packet-out

out_answer_refused : (g : Ground) (m : PacketOut) (message : List ℕ) (fault : ℕ × ℕ) → packet_out_fault g m ≡ Some fault → packet_out_answer g m message ≡ refused fault message
out_answer_refused g m message fault is = ap (λ (o : Option (ℕ × ℕ)). elim o as (λ x. Answer) [ Some found ↦ refused found message | None ↦ forwarded (sent_out g m) ]) is

out_answer_sent : (g : Ground) (m : PacketOut) (message : List ℕ) → packet_out_fault g m ≡ None → packet_out_answer g m message ≡ forwarded (sent_out g m)
out_answer_sent g m message is = ap (λ (o : Option (ℕ × ℕ)). elim o as (λ x. Answer) [ Some found ↦ refused found message | None ↦ forwarded (sent_out g m) ]) is

pub packet_out_refused : (result : Result Reaction AllocError) (s : Settings) (sight : Sight) (message : List ℕ) (moment : ℕ) (g : Ground) (m : PacketOut) (fault : ℕ × ℕ) → packet_out_fault g m ≡ Some fault
    → IfOk result (λ r. r.to_slice.items ≡ error_for fault message ∷ []) → IfOk result (λ r. r.to_switch.items ≡ []) → IfOk result (λ r. r.close ≡ false) → IfOk result (λ r. r.change ≡ Rated moment)
    → IfOk result (Follows s sight message (Ok (said.PacketOut m)) (packet_out_answer g m message) moment)
packet_out_refused result s sight message moment g m fault is said_so none close change =
    refusal_result result s sight message (Ok (said.PacketOut m)) moment (packet_out_answer g m message) fault (out_answer_refused g m message fault is) refl said_so none close change

out_follows : (s : Settings) (sight : Sight) (message : List ℕ) (moment : ℕ) (g : Ground) (m : PacketOut) (frame : List ℕ) (asked : Asked) (used : Option ℕ) (r : Reaction) → packet_out_fault g m ≡ None
    → frame ∷ [] ≡ map (rendered sight.came) (sent_out g m) → asked ≡ asked_of (Ok (said.PacketOut m)) message → Uses used (held_packets (past_of s sight.view)) (sent_out g m)
    → r.to_slice.items ≡ [] → r.to_switch.items ≡ frame ∷ [] → r.close ≡ false → r.change ≡ SentOut moment asked used
    → Follows s sight message (Ok (said.PacketOut m)) (packet_out_answer g m message) moment r
out_follows s sight message moment g m frame asked used r is built same uses said_so sent close change =
    subst (λ (a : Answer). Follows s sight message (Ok (said.PacketOut m)) a moment r) (sym (out_answer_sent g m message is))
    (follows_sent s sight message (Ok (said.PacketOut m)) (forwarded (sent_out g m)) moment r (SentOut moment asked used) (frame ∷ []) said_so sent built close change
    (record { packet_out = m; is_read = refl; sent = refl; same_asked = same; same_moment = refl; uses = uses }))

pub packet_out_sent : (result : Result Reaction AllocError) (s : Settings) (sight : Sight) (message : List ℕ) (moment : ℕ) (g : Ground) (m : PacketOut) (frame : List ℕ) (asked : Asked) (used : Option ℕ) → packet_out_fault g m ≡ None
    → frame ∷ [] ≡ map (rendered sight.came) (sent_out g m) → asked ≡ asked_of (Ok (said.PacketOut m)) message → Uses used (held_packets (past_of s sight.view)) (sent_out g m)
    → IfOk result (λ r. r.to_slice.items ≡ []) → IfOk result (λ r. r.to_switch.items ≡ frame ∷ []) → IfOk result (λ r. r.close ≡ false) → IfOk result (λ r. r.change ≡ SentOut moment asked used)
    → IfOk result (Follows s sight message (Ok (said.PacketOut m)) (packet_out_answer g m message) moment)
packet_out_sent (Ok r) s sight message moment g m frame asked used is built same uses said_so sent close change = out_follows s sight message moment g m frame asked used r is built same uses said_so sent close change
packet_out_sent (Err e) s sight message moment g m frame asked used is built same uses said_so sent close change = tt

-- ---- whether there are messages

some_length : (frame : List ℕ) (others : List (List ℕ)) → (length (frame ∷ others) == 0) ≡ false
some_length frame others = eqb-suc-zero (length others)

some_any : (frame : List ℕ) (others : List (List ℕ)) → is_any (frame ∷ others) ≡ true
some_any frame others = le-leb 1 (length (frame ∷ others)) (omega arith)

pub none_there : (frames : List (List ℕ)) (test : Bool) → test ≡ (length frames == 0) → test ≡ true → frames ≡ []
none_there [] test is empty = refl
none_there (frame ∷ others) test is empty = absurd (true≢false (sym empty ∙ is ∙ some_length frame others))

pub some_there : (frames : List (List ℕ)) (test : Bool) → test ≡ (length frames == 0) → test ≡ false → is_any frames ≡ true
some_there [] test is more = absurd (true≢false (sym is ∙ more))
some_there (frame ∷ others) test is more = some_any frame others
