-- The ends of connections show a slice nothing that is answered.
use Rattle.std.proofs.Common.{◌≡◌, Bool, true, false, List, [], ◌∷◌, refl}
use Rattle.slice_words.specs.Items.{Settings, Item, Down, End, is_up}
use Rattle.slice_words.specs.Alone.{sent_for}

pub end_sent : (s : Settings) (view : List Item) (up : Bool) → is_up view ≡ up → sent_for s view (End ∷ []) ≡ []
end_sent s view true is = rw is refl
end_sent s view false is = rw is refl

pub down_sent : (s : Settings) (view : List Item) (up : Bool) → is_up view ≡ up → sent_for s view (Down ∷ []) ≡ []
down_sent s view true is = rw is refl
down_sent s view false is = rw is refl
