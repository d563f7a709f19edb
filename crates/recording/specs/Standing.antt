-- A table of who is up, beside the records that it stands for.
use Rattle.std.specs.Prelude.{◌≡◌, ℕ, ◌<◌, Bool, false, List, [], get_or, length}
use Rattle.recording.specs.declared.item.Item.{Item}
use Rattle.recording.specs.Recordings.{is_switch_open, is_slice_open}

-- the table has 16 switches of 256 slots each, and says of every one whether it is up after the records, newest first
pub record TableStands (switches : List Bool) (slices : List (List Bool)) (before : List Item) : Type 0 where
  pub switches_are : length switches ≡ 16
  pub slices_are : length slices ≡ 16
  pub slots_are : (switch : ℕ) → switch < 16 → length (get_or slices switch []) ≡ 256
  pub of_switch : (switch : ℕ) → switch < 16 → get_or switches switch false ≡ is_switch_open switch before
  pub of_slice : (switch slot : ℕ) → switch < 16 → slot < 256 → get_or (get_or slices switch []) slot false ≡ is_slice_open switch slot before
