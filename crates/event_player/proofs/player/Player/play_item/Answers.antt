use Rattle.std.proofs.Common.{◌≡◌, [], ◌∷◌, ℕ, List, length, Some, set, slice_get, subst, sym, arith}
use Rattle.std.proofs.lemmas.Option.{slice_get_read}
use Rattle.flowspace.specs.Policies.{PolicyView}
use Rattle.desk_words.specs.Recorded.{told_by, bytes_carried}
use Rattle.event_player.specs.Players.{scene_of, IsPlaying}
use Rattle.event_player.specs.Switches.{IsRecord, SwitchesStand, RecordPlayed, PlaysAt}
use Rattle.event_player.proofs.Running.{is_record, played_among}
use Rattle.event_player.proofs.player.Player.play_item.Goals as goal

pub play_at-requires : goal.play_at-requires
play_at-requires g c =
    let item = c.args.item.now in
    let at = (c.begin.ensures.scene []).policy in
    subst (λ (b : List ℕ). IsRecord (length c.begin.new.self.policy.now.slices) item b) (sym c.carried-bytes.ensures)
    (subst (λ (p : PolicyView). IsRecord (length p.slices) item (bytes_carried c.args.file.now item)) (sym at) (is_record (length c.args.self.now.policy.now.slices) c.args.file.now item c.requires.item))

pub returns-clause-plays : goal.returns-clause-plays
returns-clause-plays g c = λ p number before played stands.
    let item = c.args.item.now in
    let bytes = bytes_carried c.args.file.now item in
    let r = told_by item bytes in
    let begun = c.begin.new.self in
    let xs = c.args.switches.now in
    let ok = xs.ok.0 in
    let switch = c.requires.item.switch in
    let count = c.requires.count in
    let same = c.from.ensures in
    let known = c.index_mut-known.result.now in
    let there : slice_get xs.items r.switch ≡ Some known = subst (λ (n : ℕ). slice_get xs.items n ≡ Some known) same (slice_get_read xs.items _ c.from.result known ok (omega arith) c.index_mut-known.ensures.value) in
    let at = subst (λ (n : ℕ). IsPlaying (scene_of p n r) begun) played.events (subst (λ (q : PolicyView). IsPlaying (scene_of q c.args.self.now.place.number r) begun) played.policy (c.begin.ensures.scene bytes)) in
    let plays = subst (λ (b : List ℕ). PlaysAt g.T.Teller.Tells (told_by item b) c.play_at.result begun c.play_at.new.self known c.play_at.new.known) c.carried-bytes.ensures c.play_at.ensures in
    subst (λ (n : ℕ). RecordPlayed g.T.Teller.Tells p number r before (SwitchesStand p (r ∷ before) (set xs.items n c.play_at.new.known)) c.play_at.result c.args.self.now c.play_at.new.self) (sym same)
    (played_among g.T.Teller.Tells p number r before c.play_at.result c.args.self.now begun c.play_at.new.self xs.items known c.play_at.new.known c.begin.ensures.teller at there stands plays)
