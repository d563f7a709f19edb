-- A record of a trace that carries a frame carries a whole one.
use Rattle.std.proofs.Common.{◌≡◌, ℕ, ◌+◌, ◌*◌, ◌<◌, ◌≤◌, ◌==◌, ◌||◌, not, leb, Bool, true, List, length, drop, slice_index, ap, subst, ◌∙◌, eqb-true, arith}
use Rattle.std.proofs.lemmas.Bool.{and_parts, le-ltb, leb-true}
use Rattle.std.proofs.lemmas.List.{length-take-le, length-drop, drop-drop}
use Rattle.byteorder.specs.Endian.{big_number}
use Rattle.of10_model.specs.Normal.{number_at}
use Rattle.of10_model.proofs.Ranges.{number_at-lt}
use Rattle.of10_ctl.specs.Heads.{length_field}
use Rattle.of10_ctl.specs.Frames.{IsFrame}
use Rattle.of10_ctl.proofs.Cutting.{length_field-take}
use Rattle.recording.specs.declared.item.Item.{Item}
use Rattle.recording.specs.declared.layout.Layout.TheVariants.{Trace}
use Rattle.recording.specs.Recordings.{IsRead, carries_bytes, is_frame_at}
use Rattle.desk_words.specs.Recorded.{bytes_carried}

pub carried_frame : (slices : ℕ) (file : List ℕ) (r : Item) → ((k : ℕ) → slice_index file k < 256) → IsRead Trace slices file r → carries_bytes r.kind ≡ true → IsFrame (bytes_carried file r)
carried_frame slices file r bytes read has =
    let whole : is_frame_at file r ≡ true = subst (λ (b : Bool). (not b || is_frame_at file r) ≡ true) has read.whole in
    let parts = and_parts (leb 8 r.size) (number_at file (r.from + 2) 2 == r.size) whole in
    let long : 8 ≤ r.size = leb-true 8 r.size parts.0 in
    let is : number_at file (r.from + 2) 2 ≡ r.size = eqb-true (number_at file (r.from + 2) 2) r.size parts.1 in
    let small : number_at file (r.from + 2) 2 < 256 * 256 = number_at-lt file (r.from + 2) 2 bytes in
    let within : r.from + r.size ≤ length file = read.within in
    let behind = length-drop r.from file in
    let size : length (bytes_carried file r) ≡ r.size = length-take-le r.size (drop r.from file) (omega (arith, behind, within)) in
    let field : length_field (bytes_carried file r) ≡ r.size = length_field-take r.size (drop r.from file) long ∙ ap (big_number 2) (drop-drop 2 r.from file) ∙ is in
    record {
      header = omega (arith, size, long);
      small = omega (arith, size, small, is);
      sized = rw (field, le-ltb r.size 8 long) size;
    }
