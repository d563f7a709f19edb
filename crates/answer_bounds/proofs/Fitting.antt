-- What follows from one event is little, and so fits the limits of the queues.
use Rattle.std.proofs.Common.{◌≡◌, ℕ, ◌==◌, ◌&&◌, Bool, true, false, if◌then◌else◌, List, [], ◌∷◌, map, refl, arith}
use Rattle.flowspace.specs.Policies.{PolicyView}
use Rattle.slice_words.specs.Items.{Settings, Item, Msg, is_up}
use Rattle.slice_words.specs.Alone.{rendered, put_for}
use Rattle.desk_words.specs.declared.event.Event.{Event}
use Rattle.desk_words.specs.declared.event.Event.TheVariants.{SwitchUp, SwitchMsg, SwitchDown, SliceUp, SliceMsg, SliceDown}
use Rattle.desk_words.specs.declared.event.Timed.{Timed}
use Rattle.desk_words.specs.declared.phase.Phase.{Phase}
use Rattle.desk_words.specs.declared.phase.Phase.TheVariants.{Fresh, Begun, Opened, Gone}
use Rattle.desk_words.specs.Openings.{phase_of, opening_of}
use Rattle.desk_words.specs.Histories.{is_slot, settings_at, side_of, view_of}
use Rattle.desk_words.specs.Sent.{slice_lane}
use Rattle.answer_bounds.specs.Bounds.{IsFramed, AreFramed, FitsQueues, AreSmall, SendsLittle}
use Rattle.answer_bounds.proofs.Messages.{small-none}
use Rattle.answer_bounds.proofs.AnswerSizes.{IsBounded, put_size}
use Rattle.answer_bounds.proofs.Items.{items_answered}
use Rattle.answer_bounds.proofs.Lane.{IsSmallOfSlice, lane_small}
use Rattle.answer_bounds.proofs.Ports.{few_ports}

-- ---- to the switch

-- a message is one item at most
put_small : (s : Settings) (view : List Item) (came message : List ℕ) (moment : ℕ) (here up : Bool) → (here ≡ true → IsBounded view (Msg message moment))
    → AreSmall 262144 (map (rendered came) (put_for s view (if here then (if up then Msg message moment ∷ [] else []) else [])))
put_small s view came message moment true true bounded = put_size s view (Msg message moment) came (bounded refl)
put_small s view came message moment true false bounded = small-none 262144
put_small s view came message moment false up bounded = small-none 262144

-- so what a slice has sent is small
of_slice_small : (policy : PolicyView) (h : List Timed) (timed : Timed) (phase : Phase) (event : Event) → phase_of h ≡ phase → timed.event ≡ event → AreFramed h → IsFramed event
    → IsSmallOfSlice (λ slot. slice_lane policy slot h timed) phase event
of_slice_small policy h timed Fresh event at is framed one = tt
of_slice_small policy h timed Begun event at is framed one = tt
of_slice_small policy h timed Gone event at is framed one = tt
of_slice_small policy h timed Opened SwitchUp at is framed one = tt
of_slice_small policy h timed Opened (SwitchMsg message) at is framed one = tt
of_slice_small policy h timed Opened SwitchDown at is framed one = tt
of_slice_small policy h timed Opened (SliceUp slot) at is framed one = tt
of_slice_small policy h timed Opened (SliceDown slot) at is framed one = tt
of_slice_small policy h timed Opened (SliceMsg slot message) at is framed one =
    rw (at, is)
    (put_small (settings_at policy slot (opening_of h)) (view_of policy slot h) (side_of policy slot h).sight.came message timed.moment (is_slot policy slot) (slot == slot && is_up (view_of policy slot h))
    (λ here. (one.small, few_ports policy slot h framed here)))

-- ---- both

pub answers_little : (policy : PolicyView) (h : List Timed) (timed : Timed) → AreFramed h → IsFramed timed.event → SendsLittle policy h timed
answers_little policy h timed framed one = record {
  lane = lane_small (λ slot. slice_lane policy slot h timed) (phase_of h) timed.event (of_slice_small policy h timed (phase_of h) timed.event refl refl framed one) one;
  slices = λ slot. (items_answered policy slot h timed framed one).small;
  few = λ plain slot. (items_answered policy slot h timed framed one).few plain;
}

pub answers_fit : (policy : PolicyView) (h : List Timed) (timed : Timed) → AreFramed h → IsFramed timed.event → FitsQueues policy h timed
answers_fit policy h timed framed one =
    let little = answers_little policy h timed framed one in
    let lane = little.lane.small in
    record {
      lane = omega arith;
      slices = λ slot. let slice = (little.slices slot).small in omega arith;
    }
