-- Records that are read one after the other, each as it is played.
use Rattle.std.proofs.Common.{◌≡◌, ◌+◌, ◌<◌, ◌≤◌, ℕ, List, [], ◌∷◌, length, reverse, Option, Result, Ok, Err, sym, ap, ◌∙◌, subst}
use Rattle.recording.specs.declared.item.Item.{Item}
use Rattle.recording.specs.declared.layout.Layout.TheVariants.{Recording}
use Rattle.recording.specs.Recordings.{IsItem, item_at, read_items}
use Rattle.recording.proofs.Forms.{read_item}
use Rattle.recording.proofs.Left.{AreLeft, left_first, next_of, none_left}
use Rattle.flowspace.specs.Policies.{PolicyView}
use Rattle.desk_words.specs.Recorded.{told_by, bytes_carried, told_in}
use Rattle.event_player.specs.declared.switch.Switch.{Switch}
use Rattle.std.specs.Result.{IsErrAnd}
use Rattle.event_player.specs.declared.fault.ReportFault.{ReportFault}
use Rattle.event_player.specs.declared.player.Player.{Player}
use Rattle.event_player.specs.Telling.{Cue, Outcome}
use Rattle.event_player.specs.Players.{TellsAll}
use Rattle.event_player.specs.Switches.{AreUnknown, PlaysAmong, SwitchesStand}
use Rattle.event_player.proofs.Running.{Running, running_first, running_more, running_part, running_last, running_stand}

-- a record that is what the head says
pub from_is : (file : List ℕ) (at : ℕ) (item : Item) → item ≡ item_at file at → item.from ≡ at + 16
unfolding item_at
from_is file at item is = ap (λ (r : Item). r.from) is

-- ---- all records

-- the records that are left from a place on, and what a player reported and counted so far
pub record Walking {T : Type 0} (Tells : T → Cue → Outcome → T → Type 0) (p : PolicyView) (file : List ℕ) (all : List Item) (at : ℕ) (before now : Player T) (switches : List (Option Switch)) : Type 0 where
  pub left : List Item
  pub rest : AreLeft Recording (length p.slices) file at left
  pub running : Running Tells p file all left before now switches

pub walking_first : {T : Type 0} (Tells : T → Cue → Outcome → T → Type 0) (file : List ℕ) (all : List Item) (player : Player T) (switches : List (Option Switch)) → player.place.number ≡ 0 → AreUnknown switches → read_items (length player.policy.now.slices) file ≡ Ok all
    → Walking Tells player.policy.now file all 8 player player switches
walking_first Tells file all player switches none unknown read = record {
  left = all;
  rest = left_first Recording (length player.policy.now.slices) file all read;
  running = running_first Tells file all player switches none unknown;
}

-- the record that comes next
pub walking_next : {T : Type 0} (Tells : T → Cue → Outcome → T → Type 0) (p : PolicyView) (file : List ℕ) (all : List Item) (at : ℕ) (before now : Player T) (switches : List (Option Switch)) → at < length file → Walking Tells p file all at before now switches
    → (at + 16 ≤ length file) × ((item : Item) → item ≡ item_at file at → IsItem (length now.policy.now.slices) file item)
walking_next Tells p file all at before now switches more s =
    let next = next_of Recording (length p.slices) file at s.left more s.rest in
    (next.long, λ item is. subst (λ (q : PolicyView). IsItem (length q.slices) file item) (sym s.running.policy) (subst (IsItem (length p.slices) file) (sym is) (read_item (length p.slices) file (item_at file at) next.item)))

-- one record more was played
pub walking_more : {T : Type 0} (Tells : T → Cue → Outcome → T → Type 0) (p : PolicyView) (file : List ℕ) (all : List Item) (at : ℕ) (item : Item) (value : Unit {0}) (before now after : Player T) (old new : List (Option Switch)) → at < length file → item ≡ item_at file at
    → Walking Tells p file all at before now old → PlaysAmong Tells (told_by item (bytes_carried file item)) (Ok value) now after old new → Walking Tells p file all (item.from + item.size) before after new
walking_more Tells p file all at item value before now after old new more is s plays =
    let next = next_of Recording (length p.slices) file at s.left more s.rest in
    let own : s.left ≡ item ∷ next.others = next.is ∙ ap (λ (r : Item). r ∷ next.others) (sym is) in
    record {
      left = next.others;
      rest = subst (λ (r : Item). AreLeft Recording (length p.slices) file (r.from + r.size) next.others) (sym is) next.later;
      running = running_more Tells p file all s.left next.others item value before now after old new own s.running plays;
    }

-- a fault came in the lines of the next record
pub walking_part : {A T : Type 0} (Tells : T → Cue → Outcome → T → Type 0) (p : PolicyView) (file : List ℕ) (all : List Item) (at : ℕ) (item : Item) (fault : ReportFault) (result : Result A ReportFault) (before now after : Player T) (old new : List (Option Switch)) → at < length file → item ≡ item_at file at
    → Walking Tells p file all at before now old → IsErrAnd result (λ e. e ≡ fault) → PlaysAmong Tells (told_by item (bytes_carried file item)) (Err fault) now after old new → TellsAll Tells p (told_in file all) result before after
walking_part Tells p file all at item fault result before now after old new more is s same plays =
    let next = next_of Recording (length p.slices) file at s.left more s.rest in
    let own : s.left ≡ item ∷ next.others = next.is ∙ ap (λ (r : Item). r ∷ next.others) (sym is) in
    running_part Tells p file all s.left next.others item fault result before now after old new own s.running same plays

-- all records were played
pub walking_last : {A T : Type 0} (Tells : T → Cue → Outcome → T → Type 0) (p : PolicyView) (file : List ℕ) (all : List Item) (at : ℕ) (value : A) (before now : Player T) (switches : List (Option Switch)) → length file ≤ at → Walking Tells p file all at before now switches
    → TellsAll Tells p (told_in file all) (Ok value) before now
walking_last Tells p file all at value before now switches end s =
    running_last Tells p file all value before now switches (subst (λ (left : List Item). Running Tells p file all left before now switches) (none_left Recording (length p.slices) file at s.left end s.rest) s.running)

pub walking_stand : {T : Type 0} (Tells : T → Cue → Outcome → T → Type 0) (p : PolicyView) (file : List ℕ) (all : List Item) (at : ℕ) (before now : Player T) (switches : List (Option Switch)) → length file ≤ at → Walking Tells p file all at before now switches
    → SwitchesStand p (reverse (told_in file all)) switches
walking_stand Tells p file all at before now switches end s =
    running_stand Tells p file all before now switches (subst (λ (left : List Item). Running Tells p file all left before now switches) (none_left Recording (length p.slices) file at s.left end s.rest) s.running)
